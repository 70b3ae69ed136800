use Rattle.std.proofs.Common.{◌∙◌, ap, ap₂, insert, map}
use Rattle.defs_match.specs.Rules.{rule_seen}
use Rattle.match_direct.specs.Contents.{place_for_number}
use Rattle.match_direct.proofs.ContentLemmas.{inserted_rule}
use Rattle.match_direct.proofs.contents.insert_copy.Goals as goal

pub returns : goal.returns
returns c =
    let place = c.place_for_number-place.ensures.place ∙ ap (place_for_number c.args.rule.now.number) c.as_slice.ensures.value in
    ap (map rule_seen) (c.in_ok-insert.ensures.items ∙ ap₂ (insert c.args.rules.now.items) place c.in_ok-copy.ensures) ∙ inserted_rule c.args.rules.now.items c.args.rule.now
