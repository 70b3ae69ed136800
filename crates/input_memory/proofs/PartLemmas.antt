-- The triples of an identifier, as the places of its part tell.
use Rattle.std.proofs.Common.{◌≡◌, ℕ, Bool, true, false, ◌&&◌, ◌||◌, T, not, cond, [], ◌∷◌, filter, Option, Some, None, is_some, refl, sym, ap, ap₂, subst, ◌∙◌}
use Rattle.std.specs.BTreeMap.Range.{range_contains}
use Rattle.std.specs.Cmp.{both_ways}
use Rattle.std.specs.FinMap.Entries.{below_all, is_sorted}
use Rattle.std.specs.List.{list_any}
use Rattle.std.specs.List.Sorted.{IsStrictlySortedBy}
use Rattle.std.specs.Map.{keys_of, lookup, values_of}
use Rattle.std.specs.Ordering.{is_eq, is_gt, is_le, is_lt, int_cmp, nat_cmp, ordering_then}
use Rattle.std.specs.declared.cmp.Ordering.{Ordering}
use Rattle.std.specs.declared.cmp.Ordering.TheVariants.{Less, Equal, Greater}
use Rattle.std.specs.declared.ops.Bound.TheVariants.{Included, Excluded}
use Rattle.std.proofs.lemmas.Bool.{and_parts}
use Rattle.std.proofs.lemmas.Cmp.{int_cmp_total, nat_cmp_total, tied_itself}
use Rattle.std.proofs.lemmas.Map.Lookups.{exact_signed, exact_unsigned}
use Rattle.soar_sym.specs.Equality.{symbol_eq}
use Rattle.soar_sym.specs.declared.symbol.Sym.{Sym}
use Rattle.soar_sym.specs.declared.symbol.Triple.{Triple}
use Rattle.soar_sym.proofs.KeyLemmas.{symbol_same, symbol_self}
use Rattle.packed_triples.specs.Packed.{kind_of, number_of, symbol_at}
use Rattle.input_memory.specs.Numbered.{numbered_cmp, stands}
use Rattle.input_memory.specs.Order.{place_cmp, place_total}
use Rattle.input_memory.specs.Place.{edge, kind_at, kind_number, place_of, triple_of, IsTold, IsToldSymbol}
use Rattle.input_memory.specs.Store.{Places, Triples, triple_at, is_noted, last_over, part_of, IsToldAt, IsBefore, IsNumbered, IsStore}
use Rattle.input_memory.specs.declared.index.Index.{Index}
use Rattle.input_memory.specs.declared.place.Place.{Place}
use Rattle.input_memory.proofs.OrderLemmas.{nat_same, nat_is, nat_self, nat_less, equal, numbered_exact, place_exact}
use Rattle.input_memory.proofs.PlaceLemmas.{symbol_told, id_told, before_edge, behind_edge}
use Rattle.input_memory.proofs.SortedLemmas.{both, rising, same_entries}
use Rattle.input_memory.proofs.StoreLemmas.{absent_before, own_place}

-- ---- the part of an identifier

pub forward : (id : Sym) → is_gt (numbered_cmp place_cmp (edge id 0, 0) (edge id 4, 0)) ≡ false
unfolding edge
forward id =
    ap₂ (λ x y. is_gt (ordering_then (ordering_then (ordering_then x y) Less) Equal)) (tied_itself int_cmp_total (number_of id)) (tied_itself nat_cmp_total (kind_number (kind_of id)))

in_part : Sym → Place × ℕ → Bool
in_part id q = range_contains (numbered_cmp place_cmp) (Included (edge id 0, 0)) (Excluded (edge id 4, 0)) q

-- its places are those of the identifier's triples
part_same : (id : Sym) (t : Triple) (n : ℕ) → IsToldSymbol id → IsTold t → in_part id (place_of t, n) ≡ symbol_eq t.id id
unfolding in_part
part_same id t n told t_told =
    ap₂ (λ x y. is_le (ordering_then x (nat_cmp 0 n)) && not (is_le (ordering_then y (nat_cmp 0 n)))) (before_edge id t) (behind_edge id t)
    ∙ by (int_cmp (number_of id) (number_of t.id)) (nat_cmp (kind_number (kind_of id)) (kind_number (kind_of t.id))) (nat_cmp 0 n)
    ∙ both_ways (is_eq (int_cmp (number_of id) (number_of t.id)) && is_eq (nat_cmp (kind_number (kind_of id)) (kind_number (kind_of t.id)))) (symbol_eq t.id id) there back
  where
    by : (x y c : Ordering) → (is_le (ordering_then (ordering_then (ordering_then x y) Less) c) && not (is_le (ordering_then (ordering_then (ordering_then x y) Greater) c))) ≡ (is_eq x && is_eq y)
    by Less y c = refl
    by Equal Less c = refl
    by Equal Equal c = refl
    by Equal Greater c = refl
    by Greater y c = refl

    there : (is_eq (int_cmp (number_of id) (number_of t.id)) && is_eq (nat_cmp (kind_number (kind_of id)) (kind_number (kind_of t.id)))) ≡ true → symbol_eq t.id id ≡ true
    there h =
        let parts = and_parts (is_eq (int_cmp (number_of id) (number_of t.id))) (is_eq (nat_cmp (kind_number (kind_of id)) (kind_number (kind_of t.id)))) h in
        let number : number_of id ≡ number_of t.id = exact_signed (number_of id) (number_of t.id) (equal (int_cmp (number_of id) (number_of t.id)) parts.0) in
        let kind : kind_number (kind_of id) ≡ kind_number (kind_of t.id) = exact_unsigned (kind_number (kind_of id)) (kind_number (kind_of t.id)) (equal (nat_cmp (kind_number (kind_of id)) (kind_number (kind_of t.id))) parts.1) in
        let is : id ≡ t.id = sym (symbol_told id told) ∙ ap₂ (λ k m. symbol_at (kind_at k) m) kind number ∙ id_told t t_told in
        ap (λ s. symbol_eq s id) (sym is) ∙ symbol_self id

    back : symbol_eq t.id id ≡ true → (is_eq (int_cmp (number_of id) (number_of t.id)) && is_eq (nat_cmp (kind_number (kind_of id)) (kind_number (kind_of t.id)))) ≡ true
    back h =
        ap (λ s. is_eq (int_cmp (number_of id) (number_of s)) && is_eq (nat_cmp (kind_number (kind_of id)) (kind_number (kind_of s)))) (symbol_same t.id id h)
        ∙ ap₂ (λ x y. is_eq x && is_eq y) (tied_itself int_cmp_total (number_of id)) (tied_itself nat_cmp_total (kind_number (kind_of id)))

-- ---- places that stand

right : (b : Bool) → (b || true) ≡ true
right true = refl
right false = refl

AllStand : Places → Places → Type 0
AllStand all [] = Unit {0}
AllStand all (e ∷ es) = (stands place_cmp all e.0 ≡ true) × AllStand all es

stand_later : (e : (Place × ℕ) × Unit {0}) (all es : Places) → AllStand all es → AllStand (e ∷ all) es
unfolding AllStand
stand_later e all [] stand = tt
stand_later e all (x ∷ es) stand = (by (is_eq (numbered_cmp place_cmp x.0 e.0)) stand.0, stand_later e all es stand.1)
  where
    by : (b : Bool) → stands place_cmp all x.0 ≡ true → is_some (cond b (Some e.1) (lookup (λ k. is_eq (numbered_cmp place_cmp x.0 k)) all)) ≡ true
    by true h = refl
    by false h = h

all_stand : (es : Places) → AllStand es es
unfolding AllStand
all_stand [] = tt
all_stand (e ∷ es) = (ap (λ b. is_some (cond b (Some e.1) (lookup (λ k. is_eq (numbered_cmp place_cmp e.0 k)) es))) (self e.0), stand_later e es es (all_stand es))
  where
    self : (q : Place × ℕ) → is_eq (numbered_cmp place_cmp q q) ≡ true
    self q = ap (λ o. is_eq (ordering_then o (nat_cmp q.1 q.1))) (tied_itself place_total q.0) ∙ nat_self q.1

-- a place that stands in the part is found there by its number
any_there : (p : Place × ℕ → Bool) (q : Place × ℕ) (es : Places) → stands place_cmp es q ≡ true → p q ≡ true → list_any (λ e. is_eq (nat_cmp e.0.1 q.1)) (filter (λ e. p e.0) es) ≡ true
any_there p q [] here own = here
any_there p q (e ∷ es) here own = by (is_eq (numbered_cmp place_cmp q e.0)) refl here (p e.0) refl (any_there p q es)
  where
    rest : Bool
    rest = list_any (λ e. is_eq (nat_cmp e.0.1 q.1)) (filter (λ e. p e.0) es)

    by : (s : Bool) → is_eq (numbered_cmp place_cmp q e.0) ≡ s → is_some (cond s (Some e.1) (lookup (λ k. is_eq (numbered_cmp place_cmp q k)) es)) ≡ true → (b : Bool) → p e.0 ≡ b → (stands place_cmp es q ≡ true → p q ≡ true → rest ≡ true)
        → list_any (λ e. is_eq (nat_cmp e.0.1 q.1)) (cond b (e ∷ filter (λ e. p e.0) es) (filter (λ e. p e.0) es)) ≡ true
    by true same h true is later = ap (λ b. b || rest) (ap (λ k. is_eq (nat_cmp k.1 q.1)) (sym (numbered_exact place_exact q e.0 (equal (numbered_cmp place_cmp q e.0) same))) ∙ nat_self q.1)
    by true same h false is later =
        (let bad : true ≡ false = sym own ∙ ap p (numbered_exact place_exact q e.0 (equal (numbered_cmp place_cmp q e.0) same)) ∙ is in absurd (cc))
    by false same h true is later = ap (λ b. is_eq (nat_cmp e.0.1 q.1) || b) (later h own) ∙ right (is_eq (nat_cmp e.0.1 q.1))
    by false same h false is later = later h own

-- ---- the last place of a number

AreAs : ℕ → Option Triple → Places → Type 0
AreAs n want [] = Unit {0}
AreAs n want (e ∷ es) = (is_eq (nat_cmp e.0.1 n) ≡ true → Some (triple_of e.0.0) ≡ want) × AreAs n want es

last_is : (n : ℕ) (want o : Option Triple) (es : Places) → AreAs n want es → (list_any (λ e. is_eq (nat_cmp e.0.1 n)) es ≡ false → o ≡ want) → last_over n o es ≡ want
unfolding AreAs
last_is n want o [] are none = none refl
last_is n want o (e ∷ es) are none = by (is_eq (nat_cmp e.0.1 n)) are.0 none (λ o none. last_is n want o es are.1 none)
  where
    rest : Bool
    rest = list_any (λ e. is_eq (nat_cmp e.0.1 n)) es

    by : (b : Bool) → (b ≡ true → Some (triple_of e.0.0) ≡ want) → ((b || rest) ≡ false → o ≡ want) → ((o : Option Triple) → (rest ≡ false → o ≡ want) → last_over n o es ≡ want) → last_over n (cond b (Some (triple_of e.0.0)) o) es ≡ want
    by true is none later = later (Some (triple_of e.0.0)) (λ h. is refl)
    by false is none later = later o none

-- ---- the triples of the identifier, by number

-- a triple, where it is one of the identifier
kept : Sym → Option Triple → Option Triple
kept id None = None
kept id (Some t) = cond (symbol_eq t.id id) (Some t) None

module _ (triples : Triples) (numbers : Index) (next : ℕ) (id : Sym) (store : IsStore triples numbers next) (told : IsToldSymbol id) where
  -- a place of the part, whose number is n, is that of the triple of n
  entry_is : (e : (Place × ℕ) × Unit {0}) (n : ℕ) → stands place_cmp numbers.places.entries e.0 ≡ true → in_part id e.0 ≡ true → is_eq (nat_cmp e.0.1 n) ≡ true → Some (triple_of e.0.0) ≡ kept id (triple_at triples n)
  unfolding kept
  entry_is e n here inside at =
      let same : e.0.1 ≡ n = nat_is e.0.1 n (sym (nat_same e.0.1 n) ∙ at) in
      by (triple_at triples n) (store.told n) (ap (λ m. is_noted e.0.0 (triple_at triples m)) (sym same) ∙ sym (store.found e.0) ∙ here)
    where
      by : (o : Option Triple) → IsToldAt o → is_noted e.0.0 o ≡ true → Some (triple_of e.0.0) ≡ kept id o
      by None t_told noted = cc
      by (Some t) t_told noted =
          let is : place_of t ≡ e.0.0 = place_exact (place_of t) e.0.0 (equal (place_cmp (place_of t) e.0.0) noted) in
          let own : symbol_eq t.id id ≡ true = sym (part_same id t e.0.1 told t_told) ∙ ap (λ p. in_part id (p, e.0.1)) is ∙ inside in
          ap Some (sym (ap triple_of is) ∙ t_told) ∙ sym (ap (λ b. cond b (Some t) None) own)

  entries_are : (n : ℕ) (es : Places) → AllStand numbers.places.entries es → AreAs n (kept id (triple_at triples n)) (filter (λ e. in_part id e.0) es)
  unfolding AllStand AreAs
  entries_are n [] stand = tt
  entries_are n (e ∷ es) stand = by (in_part id e.0) refl (entries_are n es stand.1)
    where
      part : Places
      part = filter (λ e. in_part id e.0) es

      by : (b : Bool) → in_part id e.0 ≡ b → AreAs n (kept id (triple_at triples n)) part → AreAs n (kept id (triple_at triples n)) (cond b (e ∷ part) part)
      by true inside rest = (entry_is e n stand.0 inside, rest)
      by false inside rest = rest

  -- where no place of the part has the number n, the triple of n is not of the identifier
  none_kept : (n : ℕ) → list_any (λ e. is_eq (nat_cmp e.0.1 n)) (filter (λ e. in_part id e.0) numbers.places.entries) ≡ false → None ≡ kept id (triple_at triples n)
  unfolding kept
  none_kept n none = at (triple_at triples n) refl (store.told n)
    where
      at : (o : Option Triple) → triple_at triples n ≡ o → IsToldAt o → None ≡ kept id o
      at None is t_told = refl
      at (Some t) is t_told = by (symbol_eq t.id id) refl
        where
          here : stands place_cmp numbers.places.entries (place_of t, n) ≡ true
          here = store.found (place_of t, n) ∙ ap (is_noted (place_of t)) is ∙ own_place t

          by : (b : Bool) → symbol_eq t.id id ≡ b → None ≡ cond b (Some t) None
          by true own =
              (let bad : true ≡ false = sym (any_there (in_part id) (place_of t, n) numbers.places.entries here (part_same id t n told t_told ∙ own)) ∙ none in absurd (cc))
          by false own = refl

  part_last : (n : ℕ) → last_over n None (part_of id numbers.places.entries) ≡ kept id (triple_at triples n)
  unfolding in_part
  part_last n = last_is n (kept id (triple_at triples n)) None (part_of id numbers.places.entries) (entries_are n numbers.places.entries (all_stand numbers.places.entries)) (none_kept n)

-- ---- in order of number

chosen : Sym → Triples → Triples
chosen id triples = filter (λ e. symbol_eq e.1.id id) triples

chosen_at : (id : Sym) (next : ℕ) (triples : Triples) (n : ℕ) → IsNumbered next triples → triple_at (chosen id triples) n ≡ kept id (triple_at triples n)
unfolding chosen kept
chosen_at id next [] n numbered = refl
chosen_at id next (e ∷ triples) n numbered = by (symbol_eq e.1.id id) refl (is_eq (nat_cmp n e.0)) refl (chosen_at id next triples n numbered.2)
  where
    by : (b : Bool) → symbol_eq e.1.id id ≡ b → (m : Bool) → is_eq (nat_cmp n e.0) ≡ m → triple_at (chosen id triples) n ≡ kept id (triple_at triples n)
        → triple_at (cond b (e ∷ chosen id triples) (chosen id triples)) n ≡ kept id (cond m (Some e.1) (triple_at triples n))
    by true own true same h = ap (λ m. cond m (Some e.1) (triple_at (chosen id triples) n)) same ∙ sym (ap (λ b. cond b (Some e.1) None) own)
    by true own false same h = ap (λ m. cond m (Some e.1) (triple_at (chosen id triples) n)) same ∙ h
    by false own true same h =
        let none : triple_at triples n ≡ None = ap (triple_at triples) (nat_is n e.0 (sym (nat_same n e.0) ∙ same)) ∙ absent_before e.0 triples numbered.1 in
        h ∙ ap (kept id) none ∙ sym (ap (λ b. cond b (Some e.1) None) own)
    by false own false same h = h

chosen_above : (id : Sym) (n : ℕ) (triples : Triples) → IsBefore n triples → T (below_all nat_cmp n (chosen id triples))
unfolding chosen
chosen_above id n [] before = tt
chosen_above id n (e ∷ triples) before = by (symbol_eq e.1.id id) (chosen_above id n triples before.1)
  where
    by : (b : Bool) → T (below_all nat_cmp n (chosen id triples)) → T (below_all nat_cmp n (cond b (e ∷ chosen id triples) (chosen id triples)))
    by true h = both _ _ (subst (λ o. T (is_lt o)) (sym (nat_less n e.0 before.0)) tt) h
    by false h = h

chosen_sorted : (id : Sym) (next : ℕ) (triples : Triples) → IsNumbered next triples → T (is_sorted nat_cmp (chosen id triples))
unfolding chosen
chosen_sorted id next [] numbered = tt
chosen_sorted id next (e ∷ triples) numbered = by (symbol_eq e.1.id id) (chosen_sorted id next triples numbered.2)
  where
    by : (b : Bool) → T (is_sorted nat_cmp (chosen id triples)) → T (is_sorted nat_cmp (cond b (e ∷ chosen id triples) (chosen id triples)))
    by true h = both _ _ (chosen_above id e.0 triples numbered.1) h
    by false h = h

chosen_values : (id : Sym) (triples : Triples) → values_of (chosen id triples) ≡ filter (λ t. symbol_eq t.id id) (values_of triples)
unfolding chosen
chosen_values id [] = refl
chosen_values id (e ∷ triples) = by (symbol_eq e.1.id id) (chosen_values id triples)
  where
    by : (b : Bool) → values_of (chosen id triples) ≡ filter (λ t. symbol_eq t.id id) (values_of triples)
        → values_of (cond b (e ∷ chosen id triples) (chosen id triples)) ≡ cond b (e.1 ∷ filter (λ t. symbol_eq t.id id) (values_of triples)) (filter (λ t. symbol_eq t.id id) (values_of triples))
    by true h = ap (λ ts. e.1 ∷ ts) h
    by false h = h

-- the triples that were gathered are those of the identifier, in order of adding
pub gathered : (triples : Triples) (numbers : Index) (next : ℕ) (id : Sym) (found : Triples) → IsStore triples numbers next → IsToldSymbol id → IsStrictlySortedBy nat_cmp (keys_of found)
    → ((n : ℕ) → triple_at found n ≡ last_over n None (part_of id numbers.places.entries)) → values_of found ≡ filter (λ t. symbol_eq t.id id) (values_of triples)
gathered triples numbers next id found store told ordered at =
    let same : found ≡ chosen id triples
    = same_entries nat_cmp nat_cmp_total exact_unsigned found (chosen id triples) (rising nat_cmp found ordered) (chosen_sorted id next triples store.numbered)
    (λ n. at n ∙ part_last triples numbers next id store told n ∙ sym (chosen_at id next triples n store.numbered)) in
    ap values_of same ∙ chosen_values id triples
