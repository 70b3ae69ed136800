use Rattle.std.proofs.Common.{◌∙◌, ap, remove, arith}
use Rattle.match_direct.specs.Contents.{place_of_tag}
use Rattle.match_direct.proofs.ContentLemmas.{removed_element, kept_elements}
use Rattle.match_direct.proofs.contents.remove_element.Goals as goal

pub returns-then-place-len : goal.returns-then-place-len
returns-then-place-len c =
    let place = c.place_of_tag-place.ensures ∙ ap (place_of_tag c.args.tag) c.as_slice.ensures.value in
    c.remove.ensures.items ∙ ap (remove c.args.elements.now.items) place ∙ removed_element c.args.elements.now.items c.args.tag

pub returns-else-place-len : goal.returns-else-place-len
returns-else-place-len c =
    let place = c.place_of_tag-place.ensures ∙ ap (place_of_tag c.args.tag) c.as_slice.ensures.value in
    kept_elements c.args.elements.now.items c.args.tag (omega (arith, place, c.len.ensures, c.if-place-len.false))
