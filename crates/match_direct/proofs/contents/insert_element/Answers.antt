use Rattle.std.proofs.Common.{◌∙◌, ap, insert}
use Rattle.match_direct.specs.Contents.{place_for_tag}
use Rattle.match_direct.proofs.ContentLemmas.{inserted_element}
use Rattle.match_direct.proofs.contents.insert_element.Goals as goal

pub returns : goal.returns
returns c =
    let place = c.place_for_tag-place.ensures.place ∙ ap (place_for_tag c.args.element.tag) c.as_slice.ensures.value in
    c.in_ok-insert.ensures.items ∙ ap (λ n. insert c.args.elements.now.items n c.args.element) place ∙ inserted_element c.args.elements.now.items c.args.element
