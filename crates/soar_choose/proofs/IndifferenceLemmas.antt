-- Values that are indifferent alone need no pair.
use Rattle.std.proofs.Common.{◌≡◌, ◌∙◌, refl, sym, ap, ap₂, Bool, true, false, cond, not, ◌&&◌, ◌||◌, List, [], ◌∷◌}
use Rattle.std.specs.List.{list_all}
use Rattle.soar_sym.specs.declared.symbol.Sym.{Sym}
use Rattle.defs_soar.specs.declared.preference.PrefKind.TheVariants as kind
use Rattle.defs_soar.specs.declared.preference.Preference.{Preference}
use Rattle.defs_soar.specs.Choice.{all_indifferent, are_indifferent, is_indifferent_alone, says_of}
use Rattle.defs_soar.specs.Sorted.{has_symbol}
use Rattle.soar_choose.specs.Told.{all_told, has_pair, is_paired, not_alone}

module _ (rows : List Preference) (alone : List Sym) (pairs : List (Sym × Sym)) (same : (v : Sym) → has_symbol alone v ≡ is_indifferent_alone rows v)
    (paired : (a b : Sym) → has_pair pairs a b ≡ says_of rows kind.IndifferentTo a b) where
  -- two values, where it is known which are indifferent alone
  two_told : (a v : Sym) (x y : Bool) → has_symbol alone a ≡ x → has_symbol alone v ≡ y → are_indifferent rows a v ≡ ((x && y) || is_paired pairs a v)
  two_told a v x y e f =
      ap₂ (λ p q. p || q) (ap₂ (λ p q. p && q) (sym (same a) ∙ e) (sym (same v) ∙ f)) (ap₂ (λ p q. p || q) (sym (paired a v)) (sym (paired v a)))

  -- one that is so alone is asked only with those that are not
  with_alone : (a : Sym) (values : List Sym) → has_symbol alone a ≡ true → list_all (is_paired pairs a) (not_alone alone values) ≡ list_all (are_indifferent rows a) values
  with_alone a [] e = refl
  with_alone a (v ∷ values) e = by (has_symbol alone v) refl (with_alone a values e)
    where
      by : (b : Bool) → has_symbol alone v ≡ b → list_all (is_paired pairs a) (not_alone alone values) ≡ list_all (are_indifferent rows a) values
          → list_all (is_paired pairs a) (cond (not b) (v ∷ not_alone alone values) (not_alone alone values)) ≡ (are_indifferent rows a v && list_all (are_indifferent rows a) values)
      by true f rest = rest ∙ ap (λ b. b && list_all (are_indifferent rows a) values) (sym (two_told a v true true e f))
      by false f rest = ap₂ (λ p q. p && q) (sym (two_told a v true false e f)) rest

  with_all : (a : Sym) (values : List Sym) → has_symbol alone a ≡ false → list_all (is_paired pairs a) values ≡ list_all (are_indifferent rows a) values
  with_all a [] e = refl
  with_all a (v ∷ values) e = ap₂ (λ p q. p && q) (sym (two_told a v false (has_symbol alone v) e refl)) (with_all a values e)

  pub all_same : (values : List Sym) → all_told alone pairs values ≡ all_indifferent rows values
  all_same [] = refl
  all_same (a ∷ values) = ap₂ (λ p q. p && q) (by (has_symbol alone a) refl) (all_same values)
    where
      by : (b : Bool) → has_symbol alone a ≡ b → list_all (is_paired pairs a) (cond b (not_alone alone values) values) ≡ list_all (are_indifferent rows a) values
      by true e = with_alone a values e
      by false e = with_all a values e
