-- The outcome as a candidate tells it: what hangs on a form is asked of the form that it has.
use Rattle.std.specs.Prelude.{ℕ, nat_lt, List, [], ◌∷◌, length, Option, Some, None, option_map, if◌then◌else◌}
use Rattle.soar_sym.specs.declared.symbol.Sym.{Sym}
use Rattle.soar_rule.specs.Canonical.{canonical}
use Rattle.soar_rule.specs.Equality.{same_body}
use Rattle.soar_rule.specs.Productions.{ProductionOf}
use Rattle.soar_rule.specs.Sizes.{size_of_all}
use Rattle.soar_wm.specs.declared.element.Element.{Element}
use Rattle.defs_match.specs.Rules.{RuleOf}
use Rattle.defs_soar.specs.declared.learning.Cause.{Cause}
use Rattle.defs_soar.specs.declared.learning.Cause.TheVariants as cause
use Rattle.defs_soar.specs.declared.learning.Learning.{Learning}
use Rattle.defs_soar.specs.CandidateOf.{CandidateOf, LearnedOf, as_chunk, as_reused, as_justified, as_lost, as_blocked}
use Rattle.defs_soar.specs.ChainIdentifiers.{firings_of}
use Rattle.defs_soar.specs.History.{ChainOf}
use Rattle.defs_soar.specs.Negations.{has_local_negation, negations_taken_over}
use Rattle.defs_soar.specs.Outcome.{Outcome, lost, blocked, groundless, justified, reused, chunked, has_grounds, first_firing, uses_quiescence, rule_like, whether_off, as_cause, unless_reused}
use Rattle.defs_soar.specs.Stale.{tag_lost, Blocking, blocked_from}
use Rattle.defs_soar.specs.Ungrounded.{or_else}

-- ---- causes

-- how many conditions there are, or else variables, where these are too many
abbrev pub too_large_in : ProductionOf → Option ℕ
too_large_in p =
    if nat_lt 1000 (size_of_all p.conditions) then Some (size_of_all p.conditions)
    else if nat_lt 2000 (length p.vars) then Some (length p.vars) else None

abbrev pub cause_of_size : Option ProductionOf → Option Cause
cause_of_size None = None
cause_of_size (Some p) = as_cause cause.TooLarge (too_large_in p)

abbrev pub cause_of_form : CandidateOf → Option Cause
cause_of_form k = or_else (as_cause cause.Ungrounded k.ungrounded) (cause_of_size k.general)

abbrev pub cause_of_use : ChainOf → Option Cause
cause_of_use c = as_cause cause.Quiescence (first_firing uses_quiescence (firings_of c))

abbrev pub local_cause : ChainOf → ℕ → Learning → Option Cause
local_cause c depth s = if s.local_negations then None else as_cause cause.LocalNegation (first_firing (has_local_negation c depth) (firings_of c))

abbrev pub cause_told : CandidateOf → ChainOf → ℕ → Learning → Option Cause
cause_told k c depth s = or_else (whether_off s) (or_else (local_cause c depth s) (or_else (cause_of_use c) (cause_of_form k)))

-- ---- rules

-- the name of the first rule whose canonical form has the body of this one
abbrev pub like_form : ProductionOf → List RuleOf → Option Sym
like_form form [] = None
like_form form (rule ∷ rules) = if same_body form (canonical rule.production) then Some rule.production.name else like_form form rules

abbrev pub reused_by : Option ProductionOf → List RuleOf → Option Sym
reused_by None rules = None
reused_by (Some p) rules = rule_like p rules

-- ---- the cases

abbrev pub unless_justified_told : CandidateOf → List RuleOf → Learning → Option Cause → Outcome
unless_justified_told k rules s (Some why) = justified why
unless_justified_told k rules s None = unless_reused s (reused_by k.general rules)

abbrev pub unless_groundless_told : CandidateOf → ChainOf → ℕ → List RuleOf → Learning → Outcome
unless_groundless_told k c depth rules s = if has_grounds c then unless_justified_told k rules s (cause_told k c depth s) else groundless

abbrev pub unless_blocked_told : CandidateOf → ChainOf → ℕ → List RuleOf → Learning → Option Blocking → Outcome
unless_blocked_told k c depth rules s (Some b) = blocked b
unless_blocked_told k c depth rules s None = unless_groundless_told k c depth rules s

abbrev pub unless_lost_told : CandidateOf → ChainOf → ℕ → List RuleOf → List Element → Learning → Option ℕ → Outcome
unless_lost_told k c depth rules elements s (Some tag) = lost tag
unless_lost_told k c depth rules elements s None = unless_blocked_told k c depth rules s (blocked_from 1 elements (negations_taken_over c depth))

abbrev pub outcome_told : CandidateOf → ChainOf → ℕ → List RuleOf → List Element → Learning → Outcome
outcome_told k c depth rules elements s = unless_lost_told k c depth rules elements s (tag_lost elements c.grounds)

-- ---- what is learned

-- by the outcome, as far as the candidate has the form
abbrev pub learned_from : CandidateOf → Outcome → Option LearnedOf
learned_from k chunked = option_map as_chunk k.general
learned_from k (reused name) = Some (as_reused name)
learned_from k (justified why) = option_map (λ p. as_justified (Some p) why) k.literal
learned_from k groundless = Some (as_justified None cause.NoGrounds)
learned_from k (lost tag) = Some (as_lost tag)
learned_from k (blocked b) = Some (as_blocked b.negation b.tag)
