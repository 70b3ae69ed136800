-- Steps of a map of marks.
use Rattle.std.proofs.Common.{◌≡◌, ℕ, ◌+◌, ◌||◌, true, false, cond, Option, Some, None, is_some, sym, ap, ◌∙◌}
use Rattle.std.specs.Ordering.{is_eq}
use Rattle.std.specs.Map.{lookup, set_value}
use Rattle.soar_sym.specs.Equality.{symbol_eq}
use Rattle.soar_sym.specs.declared.symbol.Sym.{Sym}
use Rattle.level_graph.specs.Marks.{MarkList, mark_at, has_mark, weight, weight_of}
use Rattle.level_graph.proofs.KeyLemmas.{sym_cmp, cmp_same}
use Rattle.level_graph.proofs.MarkLemmas.{flat_lookup, some_lookup, added_marks, added_places, set_marks, set_places, set_weight}

abbrev pub found : MarkList → Sym → Option (Option ℕ)
found es s = lookup (λ k. is_eq (sym_cmp s k)) es

abbrev pub IsAdded : MarkList → MarkList → Sym → Type 0
IsAdded old new id = (s : Sym) → found new s ≡ cond (is_eq (sym_cmp id s)) (Some None) (found old s)

at_symbol : (old new : MarkList) (id : Sym) → IsAdded old new id → (s : Sym) → found new s ≡ cond (symbol_eq id s) (Some None) (found old s)
at_symbol old new id up s = up s ∙ ap (λ b. cond b (Some None) (found old s)) (cmp_same id s)

pub add_marks : (old new : MarkList) (id : Sym) → IsAdded old new id → has_mark old id ≡ false → (s : Sym) → mark_at new s ≡ mark_at old s
add_marks old new id up none s = added_marks old new id none s (found new s) (found old s) (flat_lookup _ s (cmp_same s) new) (flat_lookup _ s (cmp_same s) old) (at_symbol old new id up s)

pub add_places : (old new : MarkList) (id : Sym) → IsAdded old new id → (s : Sym) → has_mark new s ≡ (symbol_eq id s || has_mark old s)
add_places old new id up s =
    sym (some_lookup _ s (cmp_same s) new) ∙ added_places id s (found new s) (found old s) (at_symbol old new id up s) ∙ ap (λ b. symbol_eq id s || b) (some_lookup _ s (cmp_same s) old)

abbrev pub IsWritten : MarkList → MarkList → Sym → Option ℕ → Type 0
IsWritten old new id w = new ≡ set_value (λ k. is_eq (sym_cmp id k)) old w

pub write_marks : (old new : MarkList) (id : Sym) (w : Option ℕ) → IsWritten old new id w → has_mark old id ≡ true → (s : Sym) → mark_at new s ≡ cond (symbol_eq id s) w (mark_at old s)
write_marks old new id w e h s = ap (λ l. mark_at l s) e ∙ set_marks _ id (cmp_same id) old w h s

pub write_places : (old new : MarkList) (id : Sym) (w : Option ℕ) → IsWritten old new id w → (s : Sym) → has_mark new s ≡ has_mark old s
write_places old new id w e s = ap (λ l. has_mark l s) e ∙ set_places _ old w s

pub write_weight : (old new : MarkList) (id : Sym) (w : Option ℕ) → IsWritten old new id w → has_mark old id ≡ true → weight new + weight_of (mark_at old id) ≡ weight old + weight_of w
write_weight old new id w e h = ap (λ l. weight l + weight_of (mark_at old id)) e ∙ set_weight _ id (cmp_same id) old w h

pub is_found : (old : MarkList) (id : Sym) → has_mark old id ≡ true → found old id ≡ None → true ≡ false
is_found old id h e = sym h ∙ sym (some_lookup _ id (cmp_same id) old) ∙ ap is_some e
