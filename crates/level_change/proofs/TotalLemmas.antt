-- What is told over the ends of links, after one symbol is told another level.
use Rattle.std.proofs.Common.{◌≡◌, ℕ, suc, ◌+◌, ◌*◌, ◌<◌, ◌≤◌, nat_lt, Bool, true, false, cond, List, [], ◌∷◌, ◌++◌, length, Option, Some, None, is_some, refl, sym, ap, ◌∙◌, ◌⊎◌, inl, inr, arith, length-append}
use Rattle.std.specs.Map.{lookup}
use Rattle.std.specs.Ordering.{is_eq}
use Rattle.soar_sym.specs.Equality.{symbol_eq}
use Rattle.soar_sym.specs.declared.symbol.Sym.{Sym}
use Rattle.soar_sym.specs.declared.symbol.Sym.TheVariants.{Ident, Word, Int}
use Rattle.defs_soar.specs.Sorted.{has_symbol}
use Rattle.level_laws.specs.Labels.{Labels}
use Rattle.level_laws.proofs.SymbolLemmas.{symbol_same}
use Rattle.level_laws.proofs.ReachedLemmas.{keeps, has_last, and_parts}
use Rattle.level_graph.specs.Marks.{weight_of}
use Rattle.level_graph.specs.Spreading.{is_above}
use Rattle.level_change.specs.declared.store.Store.{Store}
use Rattle.level_change.specs.Links.{Id, symbol_of, Place, Facts, Late, place_cmp, value_in, is_linked}
use Rattle.level_change.specs.Passing.{KeptBut, total, totals, one_if_told}
use Rattle.level_change.proofs.LinkLemmas.{link_same}

-- one symbol is told this now
abbrev pub IsTold : Labels → Labels → Sym → Option ℕ → Type 0
IsTold told next v w = (s : Sym) → next s ≡ cond (symbol_eq v s) w (told s)

at_it : (told next : Labels) (v : Sym) (w : Option ℕ) → IsTold told next v w → (s : Sym) (b : Bool) → symbol_eq v s ≡ b → next s ≡ cond b w (told s)
at_it told next v w set s b e = set s ∙ ap (λ c. cond c w (told s)) e

end_le : (f : Option ℕ → ℕ) (told next : Labels) (v : Sym) (w : Option ℕ) → IsTold told next v w → suc (f w) ≤ f (told v) → (s : Sym) → f (next s) ≤ f (told s)
end_le f told next v w set less s = by (symbol_eq v s) refl
  where
    by : (b : Bool) → symbol_eq v s ≡ b → f (next s) ≤ f (told s)
    by true e =
        let a : f (next s) ≡ f w = ap f (at_it told next v w set s true e) in
        let b : f (told v) ≡ f (told s) = ap (λ z. f (told z)) (symbol_same v s e) in
        omega (arith, a, b, less)
    by false e = let a : f (next s) ≡ f (told s) = ap f (at_it told next v w set s false e) in omega (arith, a)

end_less : (f : Option ℕ → ℕ) (told next : Labels) (v : Sym) (w : Option ℕ) → IsTold told next v w → suc (f w) ≤ f (told v) → (s : Sym) → symbol_eq v s ≡ true → suc (f (next s)) ≤ f (told s)
end_less f told next v w set less s e =
    let a : f (next s) ≡ f w = ap f (at_it told next v w set s true e) in
    let b : f (told v) ≡ f (told s) = ap (λ z. f (told z)) (symbol_same v s e) in
    omega (arith, a, b, less)

total_le : {X : Type 0} (f : Option ℕ → ℕ) (told next : Labels) (v : Sym) (w : Option ℕ) → IsTold told next v w → suc (f w) ≤ f (told v) → (links : List (Place × X)) → total f next links ≤ total f told links
total_le f told next v w set less [] = omega arith
total_le f told next v w set less (l ∷ links) = omega (arith, end_le f told next v w set less (symbol_of l.0.1), total_le f told next v w set less links)

abbrev Has : {X : Type 0} → Place → List (Place × X) → Type 0
Has q places = is_some (lookup (λ k. is_eq (place_cmp q k)) places) ≡ true

-- it is lower by one at least, where some place ends at the identifier
total_less : {X : Type 0} (f : Option ℕ → ℕ) (told next : Labels) (v : Id) (w : Option ℕ) → IsTold told next (symbol_of v) w → suc (f w) ≤ f (told (symbol_of v)) → (links : List (Place × X)) (x : Id) → Has (x, v) links
    → suc (total f next links) ≤ total f told links
total_less f told next v w set less [] x h = cc
total_less {X} f told next v w set less (((a, e), n) ∷ links) x h = by (is_eq (place_cmp (x, v) (a, e))) refl h (total_less f told next v w set less links x)
  where
    here : is_eq (place_cmp (x, v) (a, e)) ≡ true → suc (f (next (symbol_of e))) ≤ f (told (symbol_of e))
    here g = end_less f told next (symbol_of v) w set less (symbol_of e) (and_parts (symbol_eq (symbol_of x) (symbol_of a)) (symbol_eq (symbol_of v) (symbol_of e)) (sym (link_same x v a e) ∙ g)).1

    by : (b : Bool) → is_eq (place_cmp (x, v) (a, e)) ≡ b → is_some (cond b (Some n) (lookup (λ k. is_eq (place_cmp (x, v) k)) links)) ≡ true → (Has (x, v) links → suc (total f next links) ≤ total f told links)
        → suc (f (next (symbol_of e)) + total f next links) ≤ f (told (symbol_of e)) + total f told links
    by true g k rest = omega (arith, here g, total_le f told next (symbol_of v) w set less links)
    by false g k rest = omega (arith, end_le f told next (symbol_of v) w set less (symbol_of e), rest k)

-- what stands at a place came later, or was kept
stands_in : (base : Facts) (late : Late) (q : Place) → is_some (value_in base late q) ≡ true → Has q late ⊎ Has q base
stands_in base [] q h = inr h
stands_in base (e ∷ late) q h = by (is_eq (place_cmp q e.0)) h (stands_in base late q)
  where
    by : (b : Bool) → is_some (cond b e.1 (value_in base late q)) ≡ true → (is_some (value_in base late q) ≡ true → Has q late ⊎ Has q base)
        → (is_some (cond b (Some e.1) (lookup (λ k. is_eq (place_cmp q k)) late)) ≡ true) ⊎ Has q base
    by true k rest = inl refl
    by false k rest = rest k

totals_less : (f : Option ℕ → ℕ) (told next : Labels) (v : Sym) (w : Option ℕ) → IsTold told next v w → suc (f w) ≤ f (told v) → (links : Store) (x : Sym) → is_linked links x v ≡ true
    → suc (totals f next links) ≤ totals f told links
totals_less f told next (Ident k m) w set less links (Ident l n) h =
    elim (stands_in links.base.entries links.late.entries ((l, n), (k, m)) h) [
      | inl late ↦ omega (arith, total_less f told next (k, m) w set less links.late.entries (l, n) late, total_le f told next (Ident k m) w set less links.base.entries)
      | inr base ↦ omega (arith, total_less f told next (k, m) w set less links.base.entries (l, n) base, total_le f told next (Ident k m) w set less links.late.entries)
    ]
totals_less f told next (Word k) w set less links (Ident l n) h = cc
totals_less f told next (Int k) w set less links (Ident l n) h = cc
totals_less f told next v w set less links (Word l) h = cc
totals_less f told next v w set less links (Int l) h = cc

above_less : (x : Option ℕ) (n : ℕ) → n < 4294967296 → is_above x n ≡ true → suc n ≤ weight_of x
above_less None n lim h = omega (arith, lim)
above_less (Some m) n lim h = below n m h
  where
    below : (n m : ℕ) → nat_lt n m ≡ true → suc n ≤ m
    below n m h = grind arith

twice_less : (t u a b c : ℕ) → suc t ≤ u → b ≡ a + 1 → 2 * u + a ≤ c → 2 * t + b ≤ c
twice_less t u a b c less more le = omega (arith, less, more, le)

-- a level that falls is worth more than one symbol that waits
pub lighter : (told next : Labels) (v : Sym) (n : ℕ) → IsTold told next v (Some n) → n < 4294967296 → is_above (told v) n ≡ true → (links : Store) (x : Sym) → is_linked links x v ≡ true
    → (waiting : List Sym) (c : ℕ) → 2 * totals weight_of told links + length waiting ≤ c → 2 * totals weight_of next links + length (waiting ++ v ∷ []) ≤ c
lighter told next v n set lim up links x link waiting c le =
    twice_less (totals weight_of next links) (totals weight_of told links) (length waiting) (length (waiting ++ v ∷ [])) c (totals_less weight_of told next v (Some n) set (above_less (told v) n lim up) links x link) (length-append waiting (v ∷ [])) le

told_one : (x : Option ℕ) (n : ℕ) → x ≡ Some n → suc (one_if_told None) ≤ one_if_told x
told_one x n e = let a : one_if_told x ≡ 1 = ap one_if_told e in omega (arith, a)

-- and so is one that is forgotten
pub fewer : {A : Type 0} (told next : Labels) (v : Sym) (n : ℕ) → IsTold told next v None → told v ≡ Some n → (links : Store) (x : Sym) → is_linked links x v ≡ true
    → (waiting : List A) (h : A) (c : ℕ) → 2 * totals one_if_told told links + length waiting ≤ c → 2 * totals one_if_told next links + length (waiting ++ h ∷ []) ≤ c
fewer told next v n set at links x link waiting h c le =
    twice_less (totals one_if_told next links) (totals one_if_told told links) (length waiting) (length (waiting ++ h ∷ [])) c (totals_less one_if_told told next v None set (told_one (told v) n at) links x link) (length-append waiting (h ∷ [])) le

-- what is told anew is in the list
pub kept_more : (old told next : Labels) (moved : List Sym) (v : Sym) (w : Option ℕ) → IsTold told next v w → KeptBut old told moved → KeptBut old next (moved ++ v ∷ [])
kept_more old told next moved v w set kept s out = by (symbol_eq v s) refl
  where
    was_out : (b : Bool) → has_symbol moved s ≡ b → has_symbol moved s ≡ false
    was_out true e = absurd (let c : true ≡ false = sym (keeps moved v s e) ∙ out in cc)
    was_out false e = e

    by : (b : Bool) → symbol_eq v s ≡ b → next s ≡ old s
    by true e = absurd (let c : true ≡ false = sym (has_last moved v) ∙ ap (has_symbol (moved ++ v ∷ [])) (symbol_same v s e) ∙ out in cc)
    by false e = at_it told next v w set s false e ∙ kept s (was_out (has_symbol moved s) refl)

-- one symbol less waits
pub popped : {A : Type 0} (a b : ℕ) (all rest : List A) (x : A) → all ≡ rest ++ x ∷ [] → a ≤ b + length rest → a < b + length all
popped a b all rest x e le = let n : length all ≡ length rest + 1 = ap length e ∙ length-append rest (x ∷ []) in omega (arith, n, le)
