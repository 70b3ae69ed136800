use Rattle.std.proofs.Common.{◌≡◌, map}
use Rattle.defs_match.specs.Rules.{rule_seen}
use Rattle.soar_rule.specs.Productions.{production_seen}
use Rattle.rule_shelf.specs.Shelf.{alike_numbers}
use Rattle.chunk_learn.specs.Alike.{like_numbered}
use Rattle.chunk_learn.proofs.forms.first_like.Given as goal

abbrev pub invariant-places : goal.invariant-places
invariant-places l =
    like_numbered (production_seen l.form) (map rule_seen l.rules) (map (λ place. place.1) l.place-iterator)
    ≡ like_numbered (production_seen l.form) (map rule_seen l.rules) (alike_numbers l.fingerprint (map rule_seen l.rules))
