-- A row that calls a value better or worse than itself changes no answer.
use Rattle.std.proofs.Common.{◌≡◌, ◌∙◌, ap, sym, refl, Bool, true, false, true≢false, not, ◌&&◌, ◌||◌, List, ◌∷◌}
use Rattle.std.proofs.Math.IntN.{+ℤ_idl}
use Rattle.soar_sym.specs.Equality.{symbol_eq}
use Rattle.soar_sym.specs.Words.{Texts}
use Rattle.soar_sym.specs.declared.symbol.Sym.{Sym}
use Rattle.defs_soar.specs.declared.preference.PrefKind.TheVariants as kind
use Rattle.defs_soar.specs.declared.preference.Preference.{Preference}
use Rattle.defs_soar.specs.Choice.{says_of, sum_of}
use Rattle.soar_choose.specs.Laws.{own_name, OwnNamesCountForNothing}
use Rattle.soar_choose.proofs.LawLemmas.{symbol_same}
use Rattle.soar_choose.proofs.SameChoiceLemmas.{Agree, same_choice}

-- one symbol is not two
one_of_both : (value a b : Sym) → symbol_eq value a ≡ true → symbol_eq value b ≡ true → symbol_eq a b ≡ true
one_of_both value a b h k = ap (λ s. symbol_eq s b) (sym (symbol_same value a h)) ∙ k

unheard_first : (p q same x y : Bool) → (p ≡ true → q ≡ true → same ≡ true) → (not same && (((p && q) || x) || y)) ≡ (not same && (x || y))
unheard_first p q true x y one = refl
unheard_first true true false x y one = absurd (true≢false (sym (one refl refl)))
unheard_first true false false x y one = refl
unheard_first false q false x y one = refl

unheard_second : (p q same x y : Bool) → (p ≡ true → q ≡ true → same ≡ true) → (not same && (x || ((p && q) || y))) ≡ (not same && (x || y))
unheard_second p q true x y one = refl
unheard_second true true false x y one = absurd (true≢false (sym (one refl refl)))
unheard_second true false false x y one = refl
unheard_second false q false x y one = refl

own_better : (words : Texts) (rows : List Preference) (row : Preference) (value : Sym) → Agree words (own_name row value kind.Better ∷ rows) rows
own_better words rows row value = record {
  required = refl;
  accepted = refl;
  prohibited = λ v. refl;
  rejected = λ v. refl;
  best = λ v. refl;
  worst = λ v. refl;
  indifferent = λ v. refl;
  numeric = λ v. refl;
  paired = λ a b. refl;
  better = λ a b. unheard_first (symbol_eq value a) (symbol_eq value b) (symbol_eq a b) (says_of rows kind.Better a b) (says_of rows kind.Worse b a) (one_of_both value a b);
  sums = λ v. +ℤ_idl (sum_of rows v);
}

own_worse : (words : Texts) (rows : List Preference) (row : Preference) (value : Sym) → Agree words (own_name row value kind.Worse ∷ rows) rows
own_worse words rows row value = record {
  required = refl;
  accepted = refl;
  prohibited = λ v. refl;
  rejected = λ v. refl;
  best = λ v. refl;
  worst = λ v. refl;
  indifferent = λ v. refl;
  numeric = λ v. refl;
  paired = λ a b. refl;
  better = λ a b. unheard_second (symbol_eq value b) (symbol_eq value a) (symbol_eq a b) (says_of rows kind.Better a b) (says_of rows kind.Worse b a) (λ h k. one_of_both value a b k h);
  sums = λ v. +ℤ_idl (sum_of rows v);
}

pub own_names_count_for_nothing : OwnNamesCountForNothing
own_names_count_for_nothing words rows row value = (same_choice (own_better words rows row value), same_choice (own_worse words rows row value))
