-- Walks along links: how they begin, go on and end.
use Rattle.std.proofs.Common.{◌≡◌, ◌∙◌, sym, ap, ℕ, zero, suc, ◌+◌, ◌<◌, ◌≤◌, arith, Bool, true, inl, inr, List, [], ◌∷◌, ◌++◌, length, take, get_or, filter, length-append}
use Rattle.std.proofs.lemmas.List.{take-append-le, take_more}
use Rattle.std.proofs.Math.Seq.{take-length}
use Rattle.soar_sym.specs.Equality.{symbol_eq}
use Rattle.soar_sym.specs.declared.symbol.Sym.{Sym}
use Rattle.defs_soar.specs.declared.preference.Preference.{Preference}
use Rattle.defs_soar.specs.Results.{with_each_symbol}
use Rattle.defs_soar.specs.Sorted.{has_symbol}
use Rattle.defs_soar.specs.Values.{is_identifier}
use Rattle.level_laws.proofs.SymbolLemmas.{symbol_self}
use Rattle.level_laws.proofs.ReachedLemmas.{and_both, and_parts, last_of, or_first, or_second, or_split}
use Rattle.chunk_results.specs.Held.{AreClosedTo, AreLed, AreSame, Grows, held_from, leads, Links, Walk}
use Rattle.chunk_results.proofs.EachLemmas.{each_adds, each_has, filter_has, same_truth}
use Rattle.chunk_results.proofs.HeldLemmas.{held_closed, held_first, held_least}

has_at : (xs : List Sym) (n : ℕ) (d : Sym) → n < length xs → has_symbol xs (get_or xs n d) ≡ true
has_at [] n d l = absurd (omega (arith, l))
has_at (x ∷ xs) zero d l = or_first (symbol_eq x x) (has_symbol xs x) (symbol_self x)
has_at (x ∷ xs) (suc n) d l = or_second (symbol_eq (get_or xs n d) x) (has_symbol xs (get_or xs n d)) (has_at xs n d (omega (arith, l)))

module _ (hangs : Sym → Bool) (links : Links) (first : List Sym) where
  -- one identifier more was gone on from
  pub goes_on : (order values : List Sym) (at : ℕ) (d : Sym) → Walk hangs links first order at → at < length order → ((y : Sym) → links (get_or order at d) y ≡ has_symbol values y)
      → Walk hangs links first (with_each_symbol order (filter hangs values)) (at + 1)
  goes_on order values at d w less is = record {
    within = let (more, e) = each_adds (filter hangs values) order in omega (arith, ap length e, length-append order more, less);
    grows = λ s h. kept s (w.grows s h);
    led = led;
    closed = closed;
  }
    where
      id : Sym
      id = get_or order at d

      new : List Sym
      new = with_each_symbol order (filter hangs values)

      kept : Grows order new
      kept s h = each_has (filter hangs values) order s ∙ or_first (has_symbol order s) (has_symbol (filter hangs values) s) h

      added : (y : Sym) → links id y ≡ true → hangs y ≡ true → has_symbol new y ≡ true
      added y e k =
          each_has (filter hangs values) order y
          ∙ or_second (has_symbol order y) (has_symbol (filter hangs values) y) (filter_has hangs values y ∙ and_both (hangs y) (has_symbol values y) k (sym (is y) ∙ e))

      front : take (at + 1) new ≡ take at order ++ id ∷ []
      front =
          let (more, e) = each_adds (filter hangs values) order in
          let fits : at + 1 ≤ length order = omega (arith, less) in
          ap (take (at + 1)) e ∙ take-append-le (at + 1) order more fits ∙ take_more order at d less

      there : has_symbol order id ≡ true
      there = has_at order at d less

      led : AreLed hangs links first new
      led p starts goes s h =
          elim (or_split (has_symbol order s) (has_symbol (filter hangs values) s) (sym (each_has (filter hangs values) order s) ∙ h)) [
            | inl k ↦ w.led p starts goes s k
            | inr k ↦
                let q = and_parts (hangs s) (has_symbol values s) (sym (filter_has hangs values s) ∙ k) in
                goes id s (w.led p starts goes id there) (is s ∙ q.1) q.0
          ]

      closed : AreClosedTo hangs links (at + 1) new
      closed x y h e k =
          elim (last_of (take at order) id x (ap (λ l. has_symbol l x) (sym front) ∙ h)) [
            | inl m ↦ kept y (w.closed x y m e k)
            | inr m ↦ added y (ap (λ z. links z y) (sym m) ∙ e) k
          ]

-- other names for the same links
pub same_walk : (hangs : Sym → Bool) (links other : Links) → ((x y : Sym) → links x y ≡ other x y) → (first order : List Sym) (at : ℕ) → Walk hangs links first order at → Walk hangs other first order at
same_walk hangs links other same first order at w = record {
  within = w.within;
  grows = w.grows;
  led = λ p starts goes s h. w.led p starts (λ x y a e k. goes x y a (sym (same x y) ∙ e) k) s h;
  closed = λ x y h e k. w.closed x y h (same x y ∙ e) k;
}

-- where all was gone on from, just what is held was found
pub ends : (hangs : Sym → Bool) (rows : List Preference) (first order : List Sym) → ((s : Sym) → hangs s ≡ true → is_identifier s ≡ true) → Walk hangs (leads rows) first order (length order)
    → AreSame order (held_from hangs rows first)
ends hangs rows first order identifiers w = λ s.
    same_truth (has_symbol order s) (has_symbol (held_from hangs rows first) s)
    (w.led (has_symbol (held_from hangs rows first)) (held_first hangs rows first) (λ x y a e k. held_closed hangs rows first x y a e k) s)
    (held_least hangs rows first (has_symbol order) identifiers w.grows (λ x y a e k. w.closed x y (ap (λ l. has_symbol l x) (take-length order) ∙ a) e k) s)
