-- What learning from an explanation comes to, apart from names and numbers (the cases and their order are this engine's).
--
-- The first that holds: a ground is lost, a negation is blocked, no state is among the grounds, a cause for a justification,
-- a rule with the same body is there, 50 chunks were learned in this cycle (a justification, too). Else a chunk is learned.
use Rattle.std.specs.Prelude.{ℕ, Bool, nat_lt, List, [], ◌∷◌, length, Option, Some, None, if◌then◌else◌}
use Rattle.std.specs.List.{list_any}
use Rattle.soar_sym.specs.Equality.{symbol_eq}
use Rattle.soar_sym.specs.Words.{Texts}
use Rattle.soar_sym.specs.declared.symbol.Sym.{Sym}
use Rattle.soar_rule.specs.Canonical.{canonical}
use Rattle.soar_rule.specs.Equality.{same_body}
use Rattle.soar_rule.specs.Productions.{ProductionOf}
use Rattle.soar_rule.specs.Sizes.{size_of_all}
use Rattle.defs_match.specs.Element.{Element}
use Rattle.defs_match.specs.Rules.{RuleOf}
use Rattle.defs_soar.specs.declared.learning.Cause.{Cause}
use Rattle.defs_soar.specs.declared.learning.Cause.TheVariants as cause
use Rattle.defs_soar.specs.declared.learning.Learning.{Learning}
use Rattle.defs_soar.specs.Architecture.{quiescence_word}
use Rattle.defs_soar.specs.Candidate.{Form, general_form}
use Rattle.defs_soar.specs.ChainIdentifiers.{firings_of}
use Rattle.defs_soar.specs.History.{FiringOf, ChainOf}
use Rattle.defs_soar.specs.Negations.{has_local_negation, negations_taken_over}
use Rattle.defs_soar.specs.Stale.{tag_lost, Blocking, blocked_from}
use Rattle.defs_soar.specs.Ungrounded.{or_else, ungrounded}

-- ---- why there is no chunk

abbrev pub has_grounds : ChainOf → Bool
has_grounds c = list_any (λ e. e.of_state) c.grounds

abbrev pub first_firing : (FiringOf → Bool) → List FiringOf → Option ℕ
first_firing p [] = None
first_firing p (f ∷ firings) = if p f then Some f.number else first_firing p firings

-- an element of that attribute is in the record of the firing, however it was used
abbrev pub uses_quiescence : FiringOf → Bool
uses_quiescence f = list_any (λ u. symbol_eq u.element.attr quiescence_word) f.used

-- ---- sizes

-- how many conditions there are, or else variables, where these are too many
abbrev pub too_large : Form → Option ℕ
too_large form =
    if nat_lt 1000 (size_of_all form.production.conditions) then Some (size_of_all form.production.conditions)
    else if nat_lt 2000 (length form.names) then Some (length form.names) else None

-- ---- the cases

-- the name of the least-numbered rule with the same body; rules are in order of number
abbrev pub rule_like : ProductionOf → List RuleOf → Option Sym
rule_like p [] = None
rule_like p (rule ∷ rules) = if same_body (canonical p) (canonical rule.production) then Some rule.production.name else rule_like p rules

-- a rule that is made, without its name, or why none is
pub data Outcome : Type 0 where
  lost : ℕ → Outcome
  blocked : Blocking → Outcome
  groundless : Outcome
  justified : Cause → Outcome
  reused : Sym → Outcome
  chunked : Outcome

abbrev pub whether_off : Learning → Option Cause
whether_off s = if s.on then None else Some cause.Off

abbrev pub as_cause : {A : Type 0} → (A → Cause) → Option A → Option Cause
as_cause f None = None
as_cause f (Some a) = Some (f a)

-- the first cause of a justification, as far as the chain and the settings tell
abbrev pub cause_against : Texts → ChainOf → ℕ → Learning → Option Cause
cause_against words c depth s =
    or_else (whether_off s)
    (or_else (if s.local_negations then None else as_cause cause.LocalNegation (first_firing (has_local_negation c depth) (firings_of c)))
    (or_else (as_cause cause.Quiescence (first_firing uses_quiescence (firings_of c)))
    (or_else (as_cause cause.Ungrounded (ungrounded words c depth)) (as_cause cause.TooLarge (too_large (general_form words c depth))))))

-- at most 50 chunks in a cycle
abbrev pub unless_reused : Learning → Option Sym → Outcome
unless_reused s (Some name) = reused name
unless_reused s None = if nat_lt s.learned 50 then chunked else justified (cause.TooMany 50)

abbrev pub unless_justified : Texts → ChainOf → ℕ → List RuleOf → Learning → Option Cause → Outcome
unless_justified words c depth rules s (Some why) = justified why
unless_justified words c depth rules s None = unless_reused s (rule_like (general_form words c depth).production rules)

abbrev pub unless_groundless : Texts → ChainOf → ℕ → List RuleOf → Learning → Outcome
unless_groundless words c depth rules s = if has_grounds c then unless_justified words c depth rules s (cause_against words c depth s) else groundless

abbrev pub unless_blocked : Texts → ChainOf → ℕ → List RuleOf → Learning → Option Blocking → Outcome
unless_blocked words c depth rules s (Some b) = blocked b
unless_blocked words c depth rules s None = unless_groundless words c depth rules s

abbrev pub unless_lost : Texts → ChainOf → ℕ → List RuleOf → List Element → Learning → Option ℕ → Outcome
unless_lost words c depth rules elements s (Some tag) = lost tag
unless_lost words c depth rules elements s None = unless_blocked words c depth rules s (blocked_from 1 elements (negations_taken_over c depth))

-- the first case that applies; elements are those before the wave, rules hold those learned earlier in it
unfoldable pub outcome_of : Texts → ChainOf → ℕ → List RuleOf → List Element → Learning → Outcome
outcome_of words c depth rules elements s = unless_lost words c depth rules elements s (tag_lost elements c.grounds)
