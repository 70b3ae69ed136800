-- The first cause, from what firings and forms tell.
use Rattle.std.proofs.Common.{◌≡◌, ◌∙◌, ◌<◌, ◌+◌, ◌++◌, ℕ, Bool, true, false, cond, List, [], ◌∷◌, map, flat_map, length, get_or, drop, Option, Some, None, refl, ap, sym, add-one, drop-cons}
use Rattle.soar_sym.specs.Words.{Texts}
use Rattle.soar_sym.specs.declared.symbol.Sym.{Sym}
use Rattle.chunk_make.specs.Drafts.{FormsOf, cause_of_forms, forms_by, forms_of}
use Rattle.defs_soar.specs.declared.chain.Step.{Step}
use Rattle.defs_soar.specs.declared.learning.Cause.{Cause}
use Rattle.defs_soar.specs.declared.learning.Cause.TheVariants as cause
use Rattle.defs_soar.specs.Candidate.{Form, general_form, literal_form}
use Rattle.defs_soar.specs.CandidateOf.{first_cause}
use Rattle.defs_soar.specs.ChainIdentifiers.{firing_in, firings_of}
use Rattle.defs_soar.specs.History.{ChainOf, FiringOf, step_seen}
use Rattle.defs_soar.specs.Negations.{has_local_negation}
use Rattle.defs_soar.specs.Outcome.{as_cause, first_firing, has_grounds, too_large, uses_quiescence}
use Rattle.defs_soar.specs.Ungrounded.{or_else, ungrounded}

-- ---- the first firing of lists that are joined

either_first : (b : Bool) (n : ℕ) (later more : Option ℕ) → cond b (Some n) (or_else later more) ≡ or_else (cond b (Some n) later) more
either_first true n later more = refl
either_first false n later more = refl

first_in_both : (p : FiringOf → Bool) (xs ys : List FiringOf) → first_firing p (xs ++ ys) ≡ or_else (first_firing p xs) (first_firing p ys)
first_in_both p [] ys = refl
first_in_both p (f ∷ xs) ys = ap (λ o. cond (p f) (Some f.number) o) (first_in_both p xs ys) ∙ either_first (p f) f.number (first_firing p xs) (first_firing p ys)

-- one step more
pub first_next : (steps : List Step) (i : ℕ) (step : Step) (here : Option ℕ) → i < length steps → step ≡ get_or steps i step → here ≡ first_firing uses_quiescence (firing_in (step_seen step))
    → or_else here (first_firing uses_quiescence (flat_map firing_in (map step_seen (drop (i + 1) steps)))) ≡ first_firing uses_quiescence (flat_map firing_in (map step_seen (drop i steps)))
first_next steps i step here within at is =
    let split : drop i steps ≡ step ∷ drop (i + 1) steps = drop-cons steps i step within ∙ rw (← at, add-one i) refl in
    ap (λ o. or_else o (first_firing uses_quiescence (flat_map firing_in (map step_seen (drop (i + 1) steps))))) is
    ∙ sym (first_in_both uses_quiescence (firing_in (step_seen step)) (flat_map firing_in (map step_seen (drop (i + 1) steps))))
    ∙ ap (λ (l : List Step). first_firing uses_quiescence (flat_map firing_in (map step_seen l))) (sym split)

-- ---- causes

or_assoc : (a b c : Option Cause) → or_else (or_else a b) c ≡ or_else a (or_else b c)
or_assoc None b c = refl
or_assoc (Some x) b c = refl

by_forms : (grounded : Bool) (missing : Option Sym) (general literal : Form)
    → cause_of_forms (forms_by grounded missing general literal) missing
    ≡ or_else (cond grounded None (Some cause.NoGrounds)) (or_else (as_cause cause.Ungrounded missing) (as_cause cause.TooLarge (too_large general)))
by_forms false missing general literal = refl
by_forms true None general literal = refl
by_forms true (Some s) general literal = refl

-- a local negation, or a use of `^quiescence`
abbrev pub cause_of_firings : ChainOf → ℕ → Option Cause
cause_of_firings c depth =
    or_else (as_cause cause.LocalNegation (first_firing (has_local_negation c depth) (firings_of c))) (as_cause cause.Quiescence (first_firing uses_quiescence (firings_of c)))

pub first_cause_is : (words : Texts) (c : ChainOf) (depth : ℕ) (early : Option Cause) (forms : FormsOf) (missing : Option Sym)
    → early ≡ cause_of_firings c depth → forms ≡ forms_of words c depth → missing ≡ ungrounded words c depth → or_else early (cause_of_forms forms missing) ≡ first_cause words c depth
first_cause_is words c depth early forms missing p q r =
    let same : or_else early (cause_of_forms forms missing) ≡ or_else (cause_of_firings c depth) (cause_of_forms (forms_of words c depth) (ungrounded words c depth)) =
    λ i. or_else (p i) (cause_of_forms (q i) (r i)) in
    same
    ∙ ap (or_else (cause_of_firings c depth)) (by_forms (has_grounds c) (ungrounded words c depth) (general_form words c depth) (literal_form words c depth))
    ∙ or_assoc (as_cause cause.LocalNegation (first_firing (has_local_negation c depth) (firings_of c))) (as_cause cause.Quiescence (first_firing uses_quiescence (firings_of c)))
    (or_else (cond (has_grounds c) None (Some cause.NoGrounds)) (or_else (as_cause cause.Ungrounded (ungrounded words c depth)) (as_cause cause.TooLarge (too_large (general_form words c depth)))))
