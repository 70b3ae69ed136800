-- Rows that answer alike all that a choice asks of them give the same choice.
use Rattle.std.proofs.Common.{◌≡◌, ◌∙◌, ap, refl, cond, not, ◌&&◌, ◌||◌, List, [], ◌∷◌, map, filter}
use Rattle.std.specs.List.{list_any, list_all}
use Rattle.soar_sym.specs.Words.{Texts}
use Rattle.soar_sym.specs.declared.symbol.Sym.{Sym}
use Rattle.defs_soar.specs.declared.preference.PrefKind.TheVariants as kind
use Rattle.defs_soar.specs.declared.preference.Preference.{Preference}
use Rattle.defs_soar.specs.declared.choice.Choice.TheVariants as choice
use Rattle.defs_soar.specs.Choice.{all_scored, among, among_unbeaten, among_candidates, are_indifferent, all_indifferent, best_of, without_worst, if_some, has_kind, says_of, sum_of, unbeaten, is_beaten, beats, candidates, with_required, choice_of, values_of}

pub record Agree (words : Texts) (rows others : List Preference) : Type 0 where
  pub required : values_of words kind.Require rows ≡ values_of words kind.Require others
  pub accepted : values_of words kind.Accept rows ≡ values_of words kind.Accept others
  pub prohibited : (v : Sym) → has_kind rows kind.Prohibit v ≡ has_kind others kind.Prohibit v
  pub rejected : (v : Sym) → has_kind rows kind.Reject v ≡ has_kind others kind.Reject v
  pub best : (v : Sym) → has_kind rows kind.Best v ≡ has_kind others kind.Best v
  pub worst : (v : Sym) → has_kind rows kind.Worst v ≡ has_kind others kind.Worst v
  pub indifferent : (v : Sym) → has_kind rows kind.Indifferent v ≡ has_kind others kind.Indifferent v
  pub numeric : (v : Sym) → has_kind rows kind.Numeric v ≡ has_kind others kind.Numeric v
  pub paired : (a b : Sym) → says_of rows kind.IndifferentTo a b ≡ says_of others kind.IndifferentTo a b
  pub better : (a b : Sym) → beats rows a b ≡ beats others a b
  pub sums : (v : Sym) → sum_of rows v ≡ sum_of others v

module _ {words : Texts} {rows others : List Preference} (h : Agree words rows others) where
  same_scores : (values : List Sym) → all_scored rows values ≡ all_scored others values
  same_scores values = λ i. map (λ v. record { value = v; numeric = h.numeric v i; sum = h.sums v i }) values

  same_beaten : (all : List Sym) (b : Sym) → is_beaten rows all b ≡ is_beaten others all b
  same_beaten all b = λ i. list_any (λ a. h.better a b i) all

  same_unbeaten : (all : List Sym) → unbeaten rows all ≡ unbeaten others all
  same_unbeaten all = λ i. filter (λ b. not (same_beaten all b i)) all

  same_best : (values : List Sym) → best_of rows values ≡ best_of others values
  same_best values = λ i. if_some (filter (λ v. h.best v i) values) values

  same_worst : (values : List Sym) → without_worst rows values ≡ without_worst others values
  same_worst values = λ i. if_some (filter (λ v. not (h.worst v i)) values) values

  same_pairs : (a b : Sym) → are_indifferent rows a b ≡ are_indifferent others a b
  same_pairs a b = λ i.
      ((h.indifferent a i || h.numeric a i) && (h.indifferent b i || h.numeric b i)) || (h.paired a b i || h.paired b a i)

  same_indifferent : (values : List Sym) → all_indifferent rows values ≡ all_indifferent others values
  same_indifferent [] = refl
  same_indifferent (a ∷ values) = λ i. list_all (λ b. same_pairs a b i) values && same_indifferent values i

  same_among : (values : List Sym) → among rows values ≡ among others values
  same_among [] = refl
  same_among (a ∷ []) = λ i. choice.Left (same_scores (a ∷ []) i)
  same_among (a ∷ b ∷ values) = λ i.
      cond (same_indifferent (a ∷ b ∷ values) i) (choice.Left (same_scores (a ∷ b ∷ values) i)) (choice.Tie (same_scores (a ∷ b ∷ values) i))

  same_among_unbeaten : (all values : List Sym) → among_unbeaten rows all values ≡ among_unbeaten others all values
  same_among_unbeaten all [] = λ i. choice.Conflict (same_scores all i)
  same_among_unbeaten all (a ∷ values) =
      same_among (without_worst rows (best_of rows (a ∷ values)))
      ∙ ap (among others) (same_worst (best_of rows (a ∷ values)) ∙ ap (without_worst others) (same_best (a ∷ values)))

  same_among_candidates : (all : List Sym) → among_candidates rows all ≡ among_candidates others all
  same_among_candidates [] = refl
  same_among_candidates (a ∷ all) = same_among_unbeaten (a ∷ all) (unbeaten rows (a ∷ all)) ∙ ap (among_unbeaten others (a ∷ all)) (same_unbeaten (a ∷ all))

  same_candidates : candidates words rows ≡ candidates words others
  same_candidates = λ i. filter (λ v. not (h.prohibited v i || h.rejected v i)) (h.accepted i)

  same_with_required : (required : List Sym) → with_required words rows required ≡ with_required words others required
  same_with_required [] = same_among_candidates (candidates words rows) ∙ ap (among_candidates others) same_candidates
  same_with_required (a ∷ []) = λ i. cond (h.prohibited a i) (choice.Constraint (same_scores (a ∷ []) i)) (choice.Left (same_scores (a ∷ []) i))
  same_with_required (a ∷ b ∷ required) = λ i. choice.Constraint (same_scores (a ∷ b ∷ required) i)

  pub same_choice : choice_of words rows ≡ choice_of words others
  same_choice = same_with_required (values_of words kind.Require rows) ∙ ap (with_required words others) h.required
