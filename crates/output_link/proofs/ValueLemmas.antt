-- What the values of elements add to what is reached.
use Rattle.std.proofs.Common.{◌≡◌, ℕ, ◌≤◌, Bool, true, false, cond, ◌⊎◌, List, [], ◌∷◌, ◌++◌, length, map, take, refl, sym, ap, subst, ◌∙◌, inl, inr, arith, length-append}
use Rattle.std.proofs.lemmas.List.{take-append-le}
use Rattle.soar_sym.specs.Equality.{symbol_eq}
use Rattle.soar_sym.specs.declared.symbol.Sym.{Sym}
use Rattle.soar_wm.specs.declared.element.Element.{Element}
use Rattle.soar_wm.specs.WorkingMemory.{elements_of, triple_of}
use Rattle.defs_soar.specs.Levels.{with_reached}
use Rattle.defs_soar.specs.Sorted.{has_symbol}
use Rattle.defs_soar.specs.Values.{is_identifier}
use Rattle.level_laws.specs.Labels.{has_edge, leads}
use Rattle.level_laws.proofs.ReachedLemmas.{has_last, keeps, last_of, leads_parts, leads_self, or_first, or_second, or_split}
use Rattle.level_laws.proofs.SymbolLemmas.{symbol_same, symbol_self}
use Rattle.output_link.specs.Walking.{with_value, with_values}

-- ---- one identifier more

grows_once : (r : List Sym) (v s : Sym) → has_symbol r s ≡ true → has_symbol (with_reached r v) s ≡ true
grows_once r v s h = by (has_symbol r v)
  where
    by : (b : Bool) → has_symbol (cond b r (r ++ v ∷ [])) s ≡ true
    by true = h
    by false = keeps r v s h

has_once : (r : List Sym) (v : Sym) → has_symbol (with_reached r v) v ≡ true
has_once r v = by (has_symbol r v) refl
  where
    by : (b : Bool) → has_symbol r v ≡ b → has_symbol (cond b r (r ++ v ∷ [])) v ≡ true
    by true e = e
    by false e = has_last r v

old_or_new : (r : List Sym) (v s : Sym) → has_symbol (with_reached r v) s ≡ true → (has_symbol r s ≡ true) ⊎ (s ≡ v)
old_or_new r v s h = by (has_symbol r v) h
  where
    by : (b : Bool) → has_symbol (cond b r (r ++ v ∷ [])) s ≡ true → (has_symbol r s ≡ true) ⊎ (s ≡ v)
    by true k = inl k
    by false k = last_of r v s k

longer_once : (r : List Sym) (v : Sym) → length r ≤ length (with_reached r v)
longer_once r v = by (has_symbol r v)
  where
    by : (b : Bool) → length r ≤ length (cond b r (r ++ v ∷ []))
    by true = omega arith
    by false = omega (arith, length-append r (v ∷ []))

front_once : (n : ℕ) (r : List Sym) (v : Sym) → n ≤ length r → take n (with_reached r v) ≡ take n r
front_once n r v h = by (has_symbol r v)
  where
    by : (b : Bool) → take n (cond b r (r ++ v ∷ [])) ≡ take n r
    by true = refl
    by false = take-append-le n r (v ∷ []) h

-- ---- the values of elements

grows_value : (r : List Sym) (v s : Sym) → has_symbol r s ≡ true → has_symbol (with_value r v) s ≡ true
grows_value r v s h = by (is_identifier v)
  where
    by : (b : Bool) → has_symbol (cond b (with_reached r v) r) s ≡ true
    by true = grows_once r v s h
    by false = h

longer_value : (r : List Sym) (v : Sym) → length r ≤ length (with_value r v)
longer_value r v = by (is_identifier v)
  where
    by : (b : Bool) → length r ≤ length (cond b (with_reached r v) r)
    by true = longer_once r v
    by false = omega arith

front_value : (n : ℕ) (r : List Sym) (v : Sym) → n ≤ length r → take n (with_value r v) ≡ take n r
front_value n r v h = by (is_identifier v)
  where
    by : (b : Bool) → take n (cond b (with_reached r v) r) ≡ take n r
    by true = front_once n r v h
    by false = refl

pub grows : (es : List Element) (r : List Sym) (s : Sym) → has_symbol r s ≡ true → has_symbol (with_values r es) s ≡ true
grows [] r s h = h
grows (e ∷ es) r s h = grows es (with_value r e.value) s (grows_value r e.value s h)

-- what was reached stays in front
pub front : (es : List Element) (n : ℕ) (r : List Sym) → n ≤ length r → take n (with_values r es) ≡ take n r
front [] n r h = refl
front (e ∷ es) n r h = let l = longer_value r e.value in front es n (with_value r e.value) (omega (arith, h, l)) ∙ front_value n r e.value h

-- all to which they lead is reached
pub has_values : (es : List Element) (r : List Sym) (x y : Sym) → has_edge (map triple_of es) x y ≡ true → has_symbol (with_values r es) y ≡ true
has_values [] r x y h = cc
has_values (e ∷ es) r x y h =
    elim (or_split (leads x y (triple_of e)) (has_edge (map triple_of es) x y) h) [
      | inl f ↦
          let p = leads_parts x y (triple_of e) f in
          grows es (with_value r e.value) y (ap (has_symbol (with_value r e.value)) p.1 ∙ ap (λ b. has_symbol (cond b (with_reached r e.value) r) e.value) p.2 ∙ has_once r e.value)
      | inr f ↦ has_values es (with_value r e.value) x y f
    ]

-- and nothing else is reached that was not
pub only_values : (P : Sym → Type 0) (es : List Element) (r : List Sym) → ((s : Sym) → has_symbol r s ≡ true → P s) → ((x y : Sym) → has_edge (map triple_of es) x y ≡ true → P y)
    → (s : Sym) → has_symbol (with_values r es) s ≡ true → P s
only_values P [] r old new = old
only_values P (e ∷ es) r old new =
    only_values P es (with_value r e.value) (λ s h. by (is_identifier e.value) refl s h) (λ x y k. new x y (or_second (leads x y (triple_of e)) (has_edge (map triple_of es) x y) k))
  where
    by : (b : Bool) → is_identifier e.value ≡ b → (s : Sym) → has_symbol (cond b (with_reached r e.value) r) s ≡ true → P s
    by false i s h = old s h
    by true i s h =
        elim (old_or_new r e.value s h) [
          | inl k ↦ old s k
          | inr k ↦ subst P (sym k) (new e.id e.value (or_first (leads e.id e.value (triple_of e)) (has_edge (map triple_of es) e.id e.value) (leads_self (triple_of e) i)))
        ]

-- ---- the elements of an identifier

pub edge_of : (id : Sym) (es : List Element) (x y : Sym) → has_edge (map triple_of (elements_of id es)) x y ≡ true → (x ≡ id) × (has_edge (map triple_of es) x y ≡ true)
edge_of id [] x y h = cc
edge_of id (e ∷ es) x y h = by (symbol_eq e.id id) refl h (edge_of id es x y)
  where
    later : (x ≡ id) × (has_edge (map triple_of es) x y ≡ true) → (x ≡ id) × (has_edge (map triple_of (e ∷ es)) x y ≡ true)
    later (i, k) = (i, or_second (leads x y (triple_of e)) (has_edge (map triple_of es) x y) k)

    by : (b : Bool) → symbol_eq e.id id ≡ b → has_edge (map triple_of (cond b (e ∷ elements_of id es) (elements_of id es))) x y ≡ true
        → (has_edge (map triple_of (elements_of id es)) x y ≡ true → (x ≡ id) × (has_edge (map triple_of es) x y ≡ true)) → (x ≡ id) × (has_edge (map triple_of (e ∷ es)) x y ≡ true)
    by true i k rest = elim (or_split (leads x y (triple_of e)) (has_edge (map triple_of (elements_of id es)) x y) k) [
      | inl f ↦ ((leads_parts x y (triple_of e) f).0 ∙ symbol_same e.id id i, or_first (leads x y (triple_of e)) (has_edge (map triple_of es) x y) f)
      | inr f ↦ later (rest f)
    ]
    by false i k rest = later (rest k)

pub edge_at : (id : Sym) (es : List Element) (y : Sym) → has_edge (map triple_of es) id y ≡ true → has_edge (map triple_of (elements_of id es)) id y ≡ true
edge_at id [] y h = cc
edge_at id (e ∷ es) y h = by (symbol_eq e.id id) refl (or_split (leads id y (triple_of e)) (has_edge (map triple_of es) id y) h) (edge_at id es y)
  where
    by : (b : Bool) → symbol_eq e.id id ≡ b → (leads id y (triple_of e) ≡ true) ⊎ (has_edge (map triple_of es) id y ≡ true)
        → (has_edge (map triple_of es) id y ≡ true → has_edge (map triple_of (elements_of id es)) id y ≡ true)
        → has_edge (map triple_of (cond b (e ∷ elements_of id es) (elements_of id es))) id y ≡ true
    by true i (inl f) rest = or_first (leads id y (triple_of e)) (has_edge (map triple_of (elements_of id es)) id y) f
    by true i (inr f) rest = or_second (leads id y (triple_of e)) (has_edge (map triple_of (elements_of id es)) id y) (rest f)
    by false i (inl f) rest = absurd (let g : symbol_eq e.id id ≡ true = ap (symbol_eq e.id) (leads_parts id y (triple_of e) f).0 ∙ symbol_self e.id in cc)
    by false i (inr f) rest = rest f
