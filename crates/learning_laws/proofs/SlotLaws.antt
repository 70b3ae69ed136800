-- What has a variable, each once, and the places of these variables.
use Rattle.std.proofs.Common.{◌≡◌, refl, sym, ◌∙◌, ap, subst, ℕ, suc, ◌≤◌, Bool, true, false, cond, inl, inr, ◌⊎◌, arith, List, [], ◌∷◌, ◌++◌}
use Rattle.std.specs.List.{list_any}
use Rattle.soar_sym.specs.declared.symbol.Sym.{Sym}
use Rattle.soar_sym.specs.declared.symbol.Sym.TheVariants.{Ident, Word, Int}
use Rattle.soar_rule.specs.declared.cond.Atom.TheVariants.{Const, Var}
use Rattle.defs_soar.specs.Candidate.{variablized_place, with_variables}
use Rattle.defs_soar.specs.Laws.{IsIn}
use Rattle.defs_soar.specs.Variablized.{Variablized, of_identifier, of_own, variablized_eq, each_variablized_once}
use Rattle.defs_soar.specs.Values.{is_identifier}
use Rattle.learning_laws.proofs.Lists.{in_left, in_right, any_some, same_number, symbol_same, same_itself}

pub slot_same : (a b : Variablized) → variablized_eq a b ≡ true → a ≡ b
slot_same (of_identifier s) (of_identifier t) h = ap of_identifier (symbol_same s t h)
slot_same (of_own n) (of_own m) h = ap of_own (same_number n m h)
slot_same (of_identifier s) (of_own m) h = absurd (cc)
slot_same (of_own n) (of_identifier t) h = absurd (cc)

pub slot_itself : (a : Variablized) → variablized_eq a a ≡ true
slot_itself (of_identifier s) = same_itself s
slot_itself (of_own n) = grind arith

-- ---- each once

kept_seen : (s : Variablized) (seen variablized : List Variablized) → IsIn s seen → IsIn s (each_variablized_once seen variablized)
kept_seen s seen [] i = i
kept_seen s seen (t ∷ variablized) i = kept_seen s (cond (list_any (variablized_eq t) seen) seen (seen ++ t ∷ [])) variablized (go (list_any (variablized_eq t) seen))
  where
    go : (b : Bool) → IsIn s (cond b seen (seen ++ t ∷ []))
    go true = i
    go false = in_left s seen (t ∷ []) i

pub slot_kept : (s : Variablized) (seen variablized : List Variablized) → IsIn s variablized → IsIn s (each_variablized_once seen variablized)
slot_kept s seen [] i = absurd i
slot_kept s seen (t ∷ variablized) (inr i) = slot_kept s (cond (list_any (variablized_eq t) seen) seen (seen ++ t ∷ [])) variablized i
slot_kept s seen (t ∷ variablized) (inl q) = subst (λ x. IsIn x (each_variablized_once seen (t ∷ variablized))) q (go (list_any (variablized_eq t) seen) refl)
  where
    go : (b : Bool) → list_any (variablized_eq t) seen ≡ b → IsIn t (each_variablized_once (cond b seen (seen ++ t ∷ [])) variablized)
    go true h = let found = any_some (variablized_eq t) seen h in kept_seen t seen variablized (subst (λ x. IsIn x seen) (sym (slot_same t found.0 found.2)) found.1)
    go false h = kept_seen t (seen ++ t ∷ []) variablized (in_right t seen (t ∷ []) (inl refl))

-- ---- places

place_from : (n : ℕ) (variablized : List Variablized) (s : Variablized) → n ≤ variablized_place n variablized s
place_from n [] s = omega arith
place_from n (t ∷ variablized) s = go (variablized_eq s t) (place_from (suc n) variablized s)
  where
    go : (b : Bool) → suc n ≤ variablized_place (suc n) variablized s → n ≤ cond b n (variablized_place (suc n) variablized s)
    go true k = omega arith
    go false k = omega arith

-- two variablized have two places
pub slot_apart : (n : ℕ) (variablized : List Variablized) (a b : Variablized) → IsIn a variablized → IsIn b variablized → variablized_place n variablized a ≡ variablized_place n variablized b → a ≡ b
slot_apart n [] a b i j h = absurd i
slot_apart n (t ∷ variablized) a b i j h = go (variablized_eq a t) (variablized_eq b t) refl refl h i j (slot_apart (suc n) variablized a b) (place_from (suc n) variablized a) (place_from (suc n) variablized b)
  where
    other : (x : Variablized) → variablized_eq x t ≡ false → (t ≡ x) ⊎ IsIn x variablized → IsIn x variablized
    other x q (inl e) = let k = ap (λ y. variablized_eq x y) e ∙ slot_itself x in absurd (cc)
    other x q (inr k) = k

    go : (x y : Bool) → variablized_eq a t ≡ x → variablized_eq b t ≡ y → cond x n (variablized_place (suc n) variablized a) ≡ cond y n (variablized_place (suc n) variablized b)
        → (t ≡ a) ⊎ IsIn a variablized → (t ≡ b) ⊎ IsIn b variablized → (IsIn a variablized → IsIn b variablized → variablized_place (suc n) variablized a ≡ variablized_place (suc n) variablized b → a ≡ b)
        → suc n ≤ variablized_place (suc n) variablized a → suc n ≤ variablized_place (suc n) variablized b → a ≡ b
    go true true p q k i j later l m = slot_same a t p ∙ sym (slot_same b t q)
    go true false p q k i j later l m = absurd (omega arith)
    go false true p q k i j later l m = absurd (omega arith)
    go false false p q k i j later l m = later (other a p i) (other b q j) k

-- ---- atoms

abbrev pub number_of : List Variablized → Sym → ℕ
number_of variablized s = variablized_place 0 variablized (of_identifier s)

pub as_identifier : (variablized : List Variablized) (s : Sym) → is_identifier s ≡ true → with_variables true variablized (Const s) ≡ Var (number_of variablized s)
as_identifier variablized (Ident l n) h = refl
as_identifier variablized (Word n) h = absurd (cc)
as_identifier variablized (Int z) h = absurd (cc)

pub as_constant : (variablized : List Variablized) (s : Sym) → is_identifier s ≡ false → with_variables true variablized (Const s) ≡ Const s
as_constant variablized (Ident l n) h = absurd (cc)
as_constant variablized (Word n) h = refl
as_constant variablized (Int z) h = refl

-- identifiers with a variable have different numbers
pub number_apart : (variablized : List Variablized) (s t : Sym) → IsIn (of_identifier s) variablized → IsIn (of_identifier t) variablized → number_of variablized s ≡ number_of variablized t → s ≡ t
number_apart variablized s t i j h = inside (slot_apart 0 variablized (of_identifier s) (of_identifier t) i j h)
  where
    inside : of_identifier s ≡ of_identifier t → s ≡ t
    inside q = cc

-- and no identifier has that of a negation's own variable
pub own_apart : (variablized : List Variablized) (s : Sym) (n : ℕ) → IsIn (of_identifier s) variablized → IsIn (of_own n) variablized → number_of variablized s ≡ variablized_place 0 variablized (of_own n) → ⊥
own_apart variablized s n i j h = differ (slot_apart 0 variablized (of_identifier s) (of_own n) i j h)
  where
    differ : of_identifier s ≡ of_own n → ⊥
    differ q = absurd (cc)

pub own_same : (variablized : List Variablized) (n m : ℕ) → IsIn (of_own n) variablized → IsIn (of_own m) variablized → variablized_place 0 variablized (of_own n) ≡ variablized_place 0 variablized (of_own m) → n ≡ m
own_same variablized n m i j h = inside (slot_apart 0 variablized (of_own n) (of_own m) i j h)
  where
    inside : of_own n ≡ of_own m → n ≡ m
    inside q = cc
