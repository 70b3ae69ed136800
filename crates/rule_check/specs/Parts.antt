-- The fields of a pattern, in the order in which they are tested.
use Rattle.std.specs.Prelude.{ℕ, List, ◌++◌, Option}
use Rattle.soar_rule.specs.declared.cond.Field.{Field}
use Rattle.soar_rule.specs.declared.cond.Pattern.{Pattern}
use Rattle.soar_rule.specs.MatchOrder.{first_unknown}
use Rattle.soar_rule.specs.Variables.{plain_in, related_in}
use Rattle.rule_check.specs.declared.lacking.Part.{Part}
use Rattle.rule_check.specs.declared.lacking.Part.TheVariants.{Id, Attr, Value}

abbrev pub field_at : Part → Pattern → Field
field_at Id p = p.id
field_at Attr p = p.attr
field_at Value p = p.value

-- the variables that are bound, or plain in the same field or an earlier one
abbrev pub known_at : Part → List ℕ → Pattern → List ℕ
known_at Id bound p = bound ++ plain_in p.id
known_at Attr bound p = (bound ++ plain_in p.id) ++ plain_in p.attr
known_at Value bound p = ((bound ++ plain_in p.id) ++ plain_in p.attr) ++ plain_in p.value

-- the first variable of a field's relations that is not known there
abbrev pub missing_at : Part → List ℕ → Pattern → Option ℕ
missing_at part bound p = first_unknown (known_at part bound p) (related_in (field_at part p))
