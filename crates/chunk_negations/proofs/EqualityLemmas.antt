-- Lists that are compared item by item.
use Rattle.std.proofs.Common.{◌≡◌, ◌≢◌, ◌↔◌, refl, sym, ap, ap₂, ◌∙◌, subst, suc, Bool, true, false, ◌&&◌, List, [], ◌∷◌, length}
use Rattle.std.specs.Bool.{IsTrue}
use Rattle.soar_sym.specs.Equality.{symbol_eq}
use Rattle.soar_sym.specs.declared.symbol.Sym.{Sym}
use Rattle.soar_sym.proofs.KeyLemmas.{symbol_same, symbol_self}
use Rattle.soar_rule.specs.declared.cond.Cond.{Cond}
use Rattle.soar_rule.specs.Conditions.{condition, conditions}
use Rattle.soar_rule.specs.Equality.{condition_eq, conditions_eq, list_eq}
use Rattle.chunk_negations.proofs.Lists.{and_false}

pub lengths_differ : {A : Type 0} (same : A → A → Bool) (xs ys : List A) → length xs ≢ length ys → list_eq same xs ys ≡ false
lengths_differ same [] [] differ = absurd (differ refl)
lengths_differ same [] (y ∷ ys) differ = refl
lengths_differ same (x ∷ xs) [] differ = refl
lengths_differ same (x ∷ xs) (y ∷ ys) differ = ap (λ b. same x y && b) (lengths_differ same xs ys (λ e. differ (ap suc e))) ∙ and_false (same x y)

-- ---- conditions

abbrev pub same_seen : Cond → Cond → Bool
same_seen c d = condition_eq (condition c) (condition d)

pub conditions_as_list : (cs ds : List Cond) → conditions_eq (conditions cs) (conditions ds) ≡ list_eq same_seen cs ds
conditions_as_list [] [] = refl
conditions_as_list [] (d ∷ ds) = refl
conditions_as_list (c ∷ cs) [] = refl
conditions_as_list (c ∷ cs) (d ∷ ds) = ap (λ b. same_seen c d && b) (conditions_as_list cs ds)

-- ---- symbols

symbols_self : (xs : List Sym) → list_eq symbol_eq xs xs ≡ true
symbols_self [] = refl
symbols_self (x ∷ xs) = ap₂ (λ a b. a && b) (symbol_self x) (symbols_self xs)

both : (a b : Bool) → a && b ≡ true → (a ≡ true) × (b ≡ true)
both true b h = (refl, h)
both false b h = cc

symbols_same : (xs ys : List Sym) → list_eq symbol_eq xs ys ≡ true → xs ≡ ys
symbols_same [] [] h = refl
symbols_same [] (y ∷ ys) h = absurd (cc)
symbols_same (x ∷ xs) [] h = absurd (cc)
symbols_same (x ∷ xs) (y ∷ ys) h =
    let k = both (symbol_eq x y) (list_eq symbol_eq xs ys) h in ap₂ (λ z zs. z ∷ zs) (symbol_same x y k.0) (symbols_same xs ys k.1)

pub same_as_listed : (xs ys : List Sym) (b : Bool) → (IsTrue b ↔ (xs ≡ ys)) → b ≡ list_eq symbol_eq xs ys
same_as_listed xs ys true same = sym (subst (λ zs. list_eq symbol_eq xs zs ≡ true) (same.0 refl) (symbols_self xs))
same_as_listed xs ys false same = by (list_eq symbol_eq xs ys) refl
  where
    by : (b : Bool) → list_eq symbol_eq xs ys ≡ b → false ≡ b
    by true e = same.1 (symbols_same xs ys e)
    by false e = refl
