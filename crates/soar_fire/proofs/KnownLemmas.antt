-- Symbols that are in the table stay there, also in longer lists and longer tables.
use Rattle.std.proofs.Common.{◌≡◌, ℕ, suc, zero, ◌≤◌, ◌==◌, Bool, true, false, cond, List, [], ◌∷◌, ◌++◌, length, get_or, Some, refl, arith, subst}
use Rattle.soar_sym.specs.Words.{Texts, IsKnown}
use Rattle.soar_sym.specs.declared.symbol.Sym.{Sym}
use Rattle.soar_sym.specs.declared.symbol.Sym.TheVariants.{Ident, Word, Int}
use Rattle.soar_rule.specs.Symbols.{AreKnown}
use Rattle.defs_match.specs.Testing.{Bindings, symbol_of}
use Rattle.defs_soar.specs.Naming.{name_at}
use Rattle.soar_fire.specs.Growth.{OnlyGrows}
use Rattle.soar_fire.specs.Known.{Knows, bound_symbols}
use Rattle.soar_fire.proofs.GrowthLemmas.{no_shorter}

pub name_at_is : (vars : List Sym) (n : ℕ) → name_at vars n ≡ get_or vars n (Word 0)
name_at_is [] n = refl
name_at_is (x ∷ xs) zero = refl
name_at_is (x ∷ xs) (suc n) = name_at_is xs n

known_longer : (old new : Texts) (s : Sym) → length old ≤ length new → IsKnown old s → IsKnown new s
known_longer old new (Ident letter number) grown h = h
known_longer old new (Word n) grown h = omega arith
known_longer old new (Int z) grown h = tt

pub known_grown : (old new : Texts) (s : Sym) → OnlyGrows old new → IsKnown old s → IsKnown new s
known_grown old new s grown h = known_longer old new s (no_shorter old new grown) h

are_known_grown : (old new : Texts) (xs : List Sym) → length old ≤ length new → AreKnown old xs → AreKnown new xs
are_known_grown old new [] grown h = tt
are_known_grown old new (x ∷ xs) grown h = (known_longer old new x grown h.0, are_known_grown old new xs grown h.1)

pub knows_grown : (old new : Texts) (xs : List Sym) → Knows old xs → OnlyGrows old new → Knows new xs
knows_grown old new xs h grown = record { are_known = are_known_grown old new xs (no_shorter old new grown) h.are_known }

pub knows_none : (words : Texts) → Knows words []
knows_none words = record { are_known = tt }

pub knows_one : (words : Texts) (s : Sym) → IsKnown words s → Knows words (s ∷ [])
knows_one words s h = record { are_known = (h, tt) }

pub knows_head : (words : Texts) (x : Sym) (xs : List Sym) → Knows words (x ∷ xs) → IsKnown words x
knows_head words x xs h = h.are_known.0

are_known_append : (words : Texts) (xs ys : List Sym) → AreKnown words xs → AreKnown words ys → AreKnown words (xs ++ ys)
are_known_append words [] ys h k = k
are_known_append words (x ∷ xs) ys h k = (h.0, are_known_append words xs ys h.1 k)

pub knows_append : (words : Texts) (xs ys : List Sym) → Knows words xs → Knows words ys → Knows words (xs ++ ys)
knows_append words xs ys h k = record { are_known = are_known_append words xs ys h.are_known k.are_known }

pub knows_push : (words : Texts) (xs : List Sym) (x : Sym) → Knows words xs → IsKnown words x → Knows words (xs ++ x ∷ [])
knows_push words xs x h k = knows_append words xs (x ∷ []) h (knows_one words x k)

front_known : (words : Texts) (xs ys : List Sym) → AreKnown words (xs ++ ys) → AreKnown words xs
front_known words [] ys h = tt
front_known words (x ∷ xs) ys h = (h.0, front_known words xs ys h.1)

back_known : (words : Texts) (xs ys : List Sym) → AreKnown words (xs ++ ys) → AreKnown words ys
back_known words [] ys h = h
back_known words (x ∷ xs) ys h = back_known words xs ys h.1

pub knows_front : (words : Texts) (xs ys : List Sym) → Knows words (xs ++ ys) → Knows words xs
knows_front words xs ys h = record { are_known = front_known words xs ys h.are_known }

pub knows_back : (words : Texts) (xs ys : List Sym) → Knows words (xs ++ ys) → Knows words ys
knows_back words xs ys h = record { are_known = back_known words xs ys h.are_known }

bound_push : (words : Texts) (bindings : Bindings) (v : ℕ) (s : Sym) → AreKnown words (bound_symbols bindings) → IsKnown words s → AreKnown words (bound_symbols (bindings ++ (v, s) ∷ []))
bound_push words [] v s h k = (k, tt)
bound_push words (b ∷ bindings) v s h k = (h.0, bound_push words bindings v s h.1 k)

pub knows_bound_push : (words : Texts) (bindings : Bindings) (v : ℕ) (s : Sym) → Knows words (bound_symbols bindings) → IsKnown words s → Knows words (bound_symbols (bindings ++ (v, s) ∷ []))
knows_bound_push words bindings v s h k = record { are_known = bound_push words bindings v s h.are_known k }

bound_known : (words : Texts) (bindings : Bindings) (v : ℕ) (s : Sym) → AreKnown words (bound_symbols bindings) → symbol_of v bindings ≡ Some s → IsKnown words s
bound_known words [] v s h e = absurd (cc)
bound_known words (b ∷ bindings) v s h e = by (b.0 == v) e (bound_known words bindings v s h.1)
  where
    by : (t : Bool) → (cond t (Some b.1) (symbol_of v bindings)) ≡ Some s → (symbol_of v bindings ≡ Some s → IsKnown words s) → IsKnown words s
    by true same others = subst (IsKnown words) (grind arith) h.0
    by false rest others = others rest

pub knows_bound : (words : Texts) (bindings : Bindings) (v : ℕ) (s : Sym) → Knows words (bound_symbols bindings) → symbol_of v bindings ≡ Some s → IsKnown words s
knows_bound words bindings v s h e = bound_known words bindings v s h.are_known e
