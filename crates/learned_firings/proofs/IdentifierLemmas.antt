-- Symbols that join others, each once, part by part.
use Rattle.std.proofs.Common.{◌≡◌, ◌∙◌, ap, sym, refl, Bool, true, false, cond, List, [], ◌∷◌, ◌++◌, filter}
use Rattle.soar_sym.specs.declared.symbol.Sym.{Sym}
use Rattle.defs_soar.specs.Results.{with_each_symbol}
use Rattle.defs_soar.specs.Sorted.{has_symbol}
use Rattle.defs_soar.specs.Values.{is_identifier}

each_then : (seen xs ys : List Sym) → with_each_symbol (with_each_symbol seen xs) ys ≡ with_each_symbol seen (xs ++ ys)
each_then seen [] ys = refl
each_then seen (x ∷ xs) ys = each_then (cond (has_symbol seen x) seen (seen ++ x ∷ [])) xs ys

pub ids_then : (seen xs ys : List Sym) → with_each_symbol (with_each_symbol seen (filter is_identifier xs)) (filter is_identifier ys) ≡ with_each_symbol seen (filter is_identifier (xs ++ ys))
ids_then seen xs ys = each_then seen (filter is_identifier xs) (filter is_identifier ys) ∙ ap (with_each_symbol seen) (back xs ys)
  where
    back : (xs ys : List Sym) → filter is_identifier xs ++ filter is_identifier ys ≡ filter is_identifier (xs ++ ys)
    back [] ys = refl
    back (x ∷ xs) ys = go (is_identifier x) (back xs ys)
      where
        go : (b : Bool) → filter is_identifier xs ++ filter is_identifier ys ≡ filter is_identifier (xs ++ ys)
            → cond b (x ∷ filter is_identifier xs) (filter is_identifier xs) ++ filter is_identifier ys ≡ cond b (x ∷ filter is_identifier (xs ++ ys)) (filter is_identifier (xs ++ ys))
        go true q = ap (λ l. x ∷ l) q
        go false q = q

-- an identifier that is new joins, and nothing else does
pub joins : (seen : List Sym) (s : Sym) → is_identifier s ≡ true → has_symbol seen s ≡ false → seen ++ s ∷ [] ≡ with_each_symbol seen (filter is_identifier (s ∷ []))
joins seen s is new = sym (ap (λ b. with_each_symbol seen (cond b (s ∷ []) [])) is ∙ ap (λ b. cond b seen (seen ++ s ∷ [])) new)

pub known : (seen : List Sym) (s : Sym) → has_symbol seen s ≡ true → seen ≡ with_each_symbol seen (filter is_identifier (s ∷ []))
known seen s there = go (is_identifier s)
  where
    go : (b : Bool) → seen ≡ with_each_symbol seen (cond b (s ∷ []) [])
    go true = sym (ap (λ b. cond b seen (seen ++ s ∷ [])) there)
    go false = refl

pub other : (seen : List Sym) (s : Sym) → is_identifier s ≡ false → seen ≡ with_each_symbol seen (filter is_identifier (s ∷ []))
other seen s not_one = sym (ap (λ b. with_each_symbol seen (cond b (s ∷ []) [])) not_one)
