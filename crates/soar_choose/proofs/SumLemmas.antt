-- What a choice leaves is something, and its sums stay within what a draw takes.
use Rattle.std.proofs.Common.{◌≡◌, Bool, true, false, cond, not, List, [], ◌∷◌, ◌++◌, filter, sym, ◌∙◌, ap, arith}
use Rattle.soar_sym.specs.Words.{Texts}
use Rattle.defs_soar.specs.declared.choice.Choice.{Choice}
use Rattle.defs_soar.specs.declared.choice.Choice.TheVariants as choice
use Rattle.defs_soar.specs.declared.choice.Scored.{Scored}
use Rattle.defs_soar.specs.declared.preference.Preference.{Preference}
use Rattle.defs_soar.specs.Choice.{choice_of, all_scored, among, among_unbeaten, among_candidates, with_required, values_of, candidates, unbeaten, best_of, without_worst, if_some, has_kind}
use Rattle.defs_soar.specs.declared.preference.PrefKind.TheVariants as kind
use Rattle.soar_sym.specs.declared.symbol.Sym.{Sym}
use Rattle.soar_choose.specs.Laws.{values_left, LeftIsSome}
use Rattle.soar_choose.specs.Rows.{IsWithin, AreSumsWithin, IsSomeLeft}
use Rattle.soar_choose.proofs.LawLemmas.{left_among, values_scored}

pub sums_with : (all : List Scored) (s : Scored) → AreSumsWithin all → IsWithin 1000000000000000 s.sum → AreSumsWithin (all ++ s ∷ [])
sums_with [] s h k = (k, tt)
sums_with (t ∷ all) s h k = (h.0, sums_with all s h.1 k)

some_if : (xs ys : List Sym) → (ys ≡ [] → ⊥) → if_some xs ys ≡ [] → ⊥
some_if [] ys h e = h e
some_if (x ∷ xs) ys h e = cc

none_among : (rows : List Preference) (values : List Sym) → among rows values ≡ choice.Left [] → values ≡ []
none_among rows values e = sym (values_scored rows values) ∙ ap values_left (left_among rows values [] e)

some_unbeaten : (rows : List Preference) (others values : List Sym) → among_unbeaten rows others values ≡ choice.Left [] → ⊥
some_unbeaten rows others [] e = cc
some_unbeaten rows others (a ∷ values) e =
    let best : List Sym = best_of rows (a ∷ values) in
    some_if (filter (λ w. not (has_kind rows kind.Worst w)) best) best (some_if (filter (has_kind rows kind.Best) (a ∷ values)) (a ∷ values) (λ q. cc)) (none_among rows (without_worst rows best) e)

some_candidate : (rows : List Preference) (values : List Sym) → among_candidates rows values ≡ choice.Left [] → ⊥
some_candidate rows [] e = cc
some_candidate rows (a ∷ values) e = some_unbeaten rows (a ∷ values) (unbeaten rows (a ∷ values)) e

some_required : (words : Texts) (rows : List Preference) (required : List Sym) → with_required words rows required ≡ choice.Left [] → ⊥
some_required words rows [] e = some_candidate rows (candidates words rows) e
some_required words rows (a ∷ []) e = by (has_kind rows kind.Prohibit a) e
  where
    by : (t : Bool) → cond t (choice.Constraint (all_scored rows (a ∷ []))) (choice.Left (all_scored rows (a ∷ []))) ≡ choice.Left [] → ⊥
    by true k = cc
    by false k = cc
some_required words rows (a ∷ b ∷ required) e = cc

pub left_is_some : LeftIsSome
left_is_some words rows e = some_required words rows (values_of words kind.Require rows) e

pub some_left : (words : Texts) (rows : List Preference) (c : Choice) → c ≡ choice_of words rows → IsSomeLeft c
some_left words rows (choice.Left []) q = absurd (left_is_some words rows (sym q))
some_left words rows (choice.Left (s ∷ left)) q = omega arith
some_left words rows (choice.Tie scored) q = tt
some_left words rows (choice.Conflict scored) q = tt
some_left words rows (choice.Constraint scored) q = tt
some_left words rows choice.NoCandidate q = tt
