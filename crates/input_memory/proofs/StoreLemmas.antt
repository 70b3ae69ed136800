-- Triples by number come and go.
use Rattle.std.proofs.Common.{◌≡◌, ℕ, ◌+◌, ◌<◌, Bool, true, false, ◌&&◌, ◌==◌, ◌||◌, not, cond, List, [], ◌∷◌, ◌++◌, filter, length, Option, Some, None, refl, sym, ap, subst, ◌∙◌, arith}
use Rattle.std.specs.BTreeMap.{insert_entry, is_at}
use Rattle.std.specs.List.{list_any}
use Rattle.std.specs.Map.{values_of, remove_entry}
use Rattle.std.specs.Ordering.{is_eq, nat_cmp, match_ordering}
use Rattle.std.specs.declared.cmp.Ordering.TheVariants.{Greater}
use Rattle.std.proofs.lemmas.Cmp.{tied_itself}
use Rattle.std.proofs.lemmas.List.{map-append}
use Rattle.soar_sym.specs.declared.symbol.Triple.{Triple}
use Rattle.soar_sym.proofs.KeyLemmas.{triple_turned}
use Rattle.defs_soar.specs.Values.{triple_eq}
use Rattle.input_memory.specs.Key.{is_of}
use Rattle.input_memory.specs.Numbered.{stands}
use Rattle.input_memory.specs.Order.{place_cmp, place_total}
use Rattle.input_memory.specs.Place.{place_of, triple_of, IsTold}
use Rattle.input_memory.specs.Store.{Triples, triple_at, has, is_own, is_placed, Writes, IsFound, is_held, is_noted, IsToldAt, IsBefore, IsNumbered, IsStore}
use Rattle.input_memory.specs.declared.index.Index.{Index}
use Rattle.input_memory.specs.declared.key.Key.{Key}
use Rattle.input_memory.specs.declared.place.Place.{Place}
use Rattle.input_memory.proofs.OrderLemmas.{nat_same, nat_is, nat_self, equal, place_exact}

apart : (m n : ℕ) → n < m → is_eq (nat_cmp m n) ≡ false
apart m n h = grind arith

apart_below : (m n : ℕ) → m < n → is_eq (nat_cmp m n) ≡ false
apart_below m n h = grind arith

greater : (m n : ℕ) → n < m → nat_cmp m n ≡ Greater
greater m n h = grind arith

-- no triple has the next number
fresh : (next : ℕ) (triples : Triples) → IsNumbered next triples → triple_at triples next ≡ None
fresh next [] numbered = refl
fresh next (e ∷ triples) numbered = ap (λ b. cond b (Some e.1) (triple_at triples next)) (apart next e.0 numbered.0) ∙ fresh next triples numbered.2

-- one triple more

at_end : (next : ℕ) (triples : Triples) (triple : Triple) → IsNumbered next triples → insert_entry nat_cmp triples next triple ≡ triples ++ (next, triple) ∷ []
at_end next [] triple numbered = refl
at_end next (e ∷ triples) triple numbered =
    ap (λ o. match_ordering o ((next, triple) ∷ e ∷ triples) ((e.0, triple) ∷ triples) (e ∷ insert_entry nat_cmp triples next triple)) (greater next e.0 numbered.0) ∙ ap (λ es. e ∷ es) (at_end next triples triple numbered.2)

before_push : (n m : ℕ) (triples : Triples) (triple : Triple) → IsBefore n triples → n < m → IsBefore n (triples ++ (m, triple) ∷ [])
before_push n m [] triple before less = (less, tt)
before_push n m (e ∷ triples) triple before less = (before.0, before_push n m triples triple before.1 less)

numbered_push : (next : ℕ) (triples : Triples) (triple : Triple) → IsNumbered next triples → IsNumbered (next + 1) (triples ++ (next, triple) ∷ [])
numbered_push next [] triple numbered = (omega arith, tt, tt)
numbered_push next (e ∷ triples) triple numbered = (omega (arith, numbered.0), before_push e.0 next triples triple numbered.1 numbered.0, numbered_push next triples triple numbered.2)

pub values_push : (next : ℕ) (triples new_triples : Triples) (triple : Triple) → IsNumbered next triples → new_triples ≡ insert_entry nat_cmp triples next triple → values_of new_triples ≡ values_of triples ++ triple ∷ []
values_push next triples new_triples triple numbered is = ap values_of (is ∙ at_end next triples triple numbered) ∙ map-append (λ e. e.1) triples ((next, triple) ∷ [])

pub stored : (triples new_triples : Triples) (numbers new_numbers : Index) (next later : ℕ) (triple : Triple) → IsStore triples numbers next → IsTold triple → later ≡ next + 1 → new_triples ≡ insert_entry nat_cmp triples next triple
    → ((n : ℕ) → triple_at new_triples n ≡ cond (is_eq (nat_cmp next n)) (Some triple) (triple_at triples n)) → Writes triple next true numbers new_numbers → IsStore new_triples new_numbers later
stored triples new_triples numbers new_numbers next later triple store told next_is is up writes = record {
  numbered = subst (λ n. IsNumbered n new_triples) (sym next_is) (subst (IsNumbered (next + 1)) (sym (is ∙ at_end next triples triple store.numbered)) (numbered_push next triples triple store.numbered));
  told = λ n. subst IsToldAt (sym (up n)) (both (is_eq (nat_cmp next n)) (triple_at triples n) (store.told n));
  found = λ q.
      writes q ∙ ap (λ b. cond (is_own triple next q) true b) (store.found q) ∙ by q (next == q.1) refl
      ∙ sym (ap (is_noted q.0) (up q.1 ∙ ap (λ b. cond b (Some triple) (triple_at triples q.1)) (nat_same next q.1)));
}
  where
    both : (b : Bool) (o : Option Triple) → IsToldAt o → IsToldAt (cond b (Some triple) o)
    both true o h = told
    both false o h = h

    here : (b : Bool) → cond (b && true) true false ≡ b
    here true = refl
    here false = refl

    there : (b c : Bool) → cond (b && false) true c ≡ c
    there true c = refl
    there false c = refl

    by : (q : Place × ℕ) (b : Bool) → (next == q.1) ≡ b → cond (is_placed q.0 triple && b) true (is_noted q.0 (triple_at triples q.1)) ≡ is_noted q.0 (cond b (Some triple) (triple_at triples q.1))
    by q true h = ap (λ o. cond (is_placed q.0 triple && true) true (is_noted q.0 o)) (sym (ap (triple_at triples) (nat_is next q.1 h)) ∙ fresh next triples store.numbered) ∙ here (is_placed q.0 triple)
    by q false h = there (is_placed q.0 triple) (is_noted q.0 (triple_at triples q.1))

-- no triple more, and no place
pub unchanged : (triples : Triples) (numbers new_numbers : Index) (next : ℕ) → IsStore triples numbers next → new_numbers.places.entries ≡ numbers.places.entries → IsStore triples new_numbers next
unchanged triples numbers new_numbers next store same = record {
  numbered = store.numbered;
  told = store.told;
  found = λ q. ap (λ es. stands place_cmp es q) same ∙ store.found q;
}

-- no triple more
pub kept : (triples new_triples : Triples) (numbers new_numbers : Index) (next : ℕ) (triple : Triple) → IsStore triples numbers next → new_triples ≡ triples → Writes triple next false numbers new_numbers → IsStore new_triples new_numbers next
kept triples new_triples numbers new_numbers next triple store same writes =
    subst (λ es. IsStore es new_numbers next) (sym same)
    (record {
      numbered = store.numbered;
      told = store.told;
      found = λ q. writes q ∙ ap (λ b. cond (is_own triple next q) false b) (store.found q) ∙ by q (next == q.1) refl;
    })
  where
    here : (b : Bool) → cond (b && true) false false ≡ false
    here true = refl
    here false = refl

    there : (b c : Bool) → cond (b && false) false c ≡ c
    there true c = refl
    there false c = refl

    by : (q : Place × ℕ) (b : Bool) → (next == q.1) ≡ b → cond (is_placed q.0 triple && b) false (is_noted q.0 (triple_at triples q.1)) ≡ is_noted q.0 (triple_at triples q.1)
    by q true h =
        let none : triple_at triples q.1 ≡ None = sym (ap (triple_at triples) (nat_is next q.1 h)) ∙ fresh next triples store.numbered in
        ap (λ o. cond (is_placed q.0 triple && true) false (is_noted q.0 o)) none ∙ here (is_placed q.0 triple) ∙ sym (ap (is_noted q.0) none)
    by q false h = there (is_placed q.0 triple) (is_noted q.0 (triple_at triples q.1))

pub put_back : (triple : Triple) (n : ℕ) (h0 h1 h2 : Index) → Writes triple n true h0 h1 → Writes triple n false h1 h2 → Writes triple n false h0 h2
put_back triple n h0 h1 h2 up down q = down q ∙ ap (λ b. cond (is_own triple n q) false b) (up q) ∙ by (is_own triple n q)
  where
    by : (b : Bool) → cond b false (cond b true (has h0 q)) ≡ cond b false (has h0 q)
    by true = refl
    by false = refl

-- one triple less

before_gone : (n m : ℕ) (triples : Triples) → IsBefore n triples → IsBefore n (remove_entry (is_at (nat_cmp m)) triples)
before_gone n m [] before = tt
before_gone n m (e ∷ triples) before = by (is_eq (nat_cmp m e.0)) (before_gone n m triples before.1)
  where
    by : (b : Bool) → IsBefore n (remove_entry (is_at (nat_cmp m)) triples) → IsBefore n (cond b triples (e ∷ remove_entry (is_at (nat_cmp m)) triples))
    by true h = before.1
    by false h = (before.0, h)

numbered_gone : (next m : ℕ) (triples : Triples) → IsNumbered next triples → IsNumbered next (remove_entry (is_at (nat_cmp m)) triples)
numbered_gone next m [] numbered = tt
numbered_gone next m (e ∷ triples) numbered = by (is_eq (nat_cmp m e.0)) (numbered_gone next m triples numbered.2)
  where
    by : (b : Bool) → IsNumbered next (remove_entry (is_at (nat_cmp m)) triples) → IsNumbered next (cond b triples (e ∷ remove_entry (is_at (nat_cmp m)) triples))
    by true h = numbered.2
    by false h = (numbered.0, before_gone e.0 m triples numbered.1, h)

pub gone : (triples new_triples : Triples) (numbers new_numbers : Index) (next n : ℕ) (triple : Triple) → IsStore triples numbers next → Some triple ≡ triple_at triples n → new_triples ≡ remove_entry (is_at (nat_cmp n)) triples
    → ((m : ℕ) → triple_at new_triples m ≡ cond (is_eq (nat_cmp n m)) None (triple_at triples m)) → Writes triple n false numbers new_numbers → IsStore new_triples new_numbers next
gone triples new_triples numbers new_numbers next n triple store was is up writes = record {
  numbered = subst (IsNumbered next) (sym is) (numbered_gone next n triples store.numbered);
  told = λ m. subst IsToldAt (sym (up m)) (both (is_eq (nat_cmp n m)) (triple_at triples m) (store.told m));
  found = λ q.
      writes q ∙ ap (λ b. cond (is_own triple n q) false b) (store.found q) ∙ by q (n == q.1) refl
      ∙ sym (ap (is_noted q.0) (up q.1 ∙ ap (λ b. cond b None (triple_at triples q.1)) (nat_same n q.1)));
}
  where
    both : (b : Bool) (o : Option Triple) → IsToldAt o → IsToldAt (cond b None o)
    both true o h = tt
    both false o h = h

    here : (b : Bool) → cond (b && true) false b ≡ false
    here true = refl
    here false = refl

    there : (b c : Bool) → cond (b && false) false c ≡ c
    there true c = refl
    there false c = refl

    by : (q : Place × ℕ) (b : Bool) → (n == q.1) ≡ b → cond (is_placed q.0 triple && b) false (is_noted q.0 (triple_at triples q.1)) ≡ is_noted q.0 (cond b None (triple_at triples q.1))
    by q true h = ap (λ o. cond (is_placed q.0 triple && true) false (is_noted q.0 o)) (sym (ap (triple_at triples) (nat_is n q.1 h)) ∙ sym was) ∙ here (is_placed q.0 triple)
    by q false h = there (is_placed q.0 triple) (is_noted q.0 (triple_at triples q.1))

-- ---- the triples of a key

abbrev pub without : Key → Triples → List Triple
without key triples = filter (λ triple. not (is_of key triple)) (values_of triples)

without_one : (key : Key) (triples : Triples) (n : ℕ) → is_held key (triple_at triples n) ≡ true → without key (remove_entry (is_at (nat_cmp n)) triples) ≡ without key triples
without_one key [] n held = refl
without_one key (e ∷ triples) n held = by (is_eq (nat_cmp n e.0)) held (without_one key triples n)
  where
    by : (b : Bool) → is_held key (cond b (Some e.1) (triple_at triples n)) ≡ true → (is_held key (triple_at triples n) ≡ true → without key (remove_entry (is_at (nat_cmp n)) triples) ≡ without key triples)
        → without key (cond b triples (e ∷ remove_entry (is_at (nat_cmp n)) triples)) ≡ without key (e ∷ triples)
    by true h later = sym (ap (λ b. cond (not b) (e.1 ∷ without key triples) (without key triples)) h)
    by false h later = ap (λ es. cond (not (is_of key e.1)) (e.1 ∷ es) es) (later h)

fewer : (key : Key) (triples : Triples) (n : ℕ) → is_held key (triple_at triples n) ≡ true → length (remove_entry (is_at (nat_cmp n)) triples) < length triples
fewer key [] n held = cc
fewer key (e ∷ triples) n held = by (is_eq (nat_cmp n e.0)) held (fewer key triples n)
  where
    by : (b : Bool) → is_held key (cond b (Some e.1) (triple_at triples n)) ≡ true → (is_held key (triple_at triples n) ≡ true → length (remove_entry (is_at (nat_cmp n)) triples) < length triples)
        → length (cond b triples (e ∷ remove_entry (is_at (nat_cmp n)) triples)) < length (e ∷ triples)
    by true h later = omega arith
    by false h later = omega (arith, later h)

-- the triple of the number is one of the key
pub held : (triples : Triples) (numbers : Index) (next : ℕ) (key : Key) (n : ℕ) → IsStore triples numbers next → IsFound key numbers n → is_held key (triple_at triples n) ≡ true
held triples numbers next key n store found = by (triple_at triples n) (store.told n) (sym (store.found (found.place, n)) ∙ found.here)
  where
    by : (o : Option Triple) → IsToldAt o → is_noted found.place o ≡ true → is_held key o ≡ true
    by None told noted = noted
    by (Some t) told noted =
        let is : place_of t ≡ found.place = place_exact (place_of t) found.place (equal (place_cmp (place_of t) found.place) noted) in
        ap (is_of key) (sym told ∙ ap triple_of is) ∙ found.own

pub dropped : (triples new_triples : Triples) (numbers : Index) (next : ℕ) (key : Key) (n : ℕ) → IsStore triples numbers next → IsFound key numbers n → new_triples ≡ remove_entry (is_at (nat_cmp n)) triples → without key new_triples ≡ without key triples
dropped triples new_triples numbers next key n store found is = ap (without key) is ∙ without_one key triples n (held triples numbers next key n store found)

pub dropped_fewer : (triples new_triples : Triples) (numbers : Index) (next : ℕ) (key : Key) (n : ℕ) → IsStore triples numbers next → IsFound key numbers n → new_triples ≡ remove_entry (is_at (nat_cmp n)) triples → length new_triples < length triples
dropped_fewer triples new_triples numbers next key n store found is = subst (λ es. length es < length triples) (sym is) (fewer key triples n (held triples numbers next key n store found))

-- ---- where no triple is of the key

pub absent_before : (n : ℕ) (triples : Triples) → IsBefore n triples → triple_at triples n ≡ None
absent_before n [] before = refl
absent_before n (e ∷ triples) before = ap (λ b. cond b (Some e.1) (triple_at triples n)) (apart_below n e.0 before.0) ∙ absent_before n triples before.1

none_of : (key : Key) (next : ℕ) (triples : Triples) → IsNumbered next triples → ((n : ℕ) → is_held key (triple_at triples n) ≡ false) → list_any (is_of key) (values_of triples) ≡ false
none_of key next [] numbered none = refl
none_of key next (e ∷ triples) numbered none =
    let head : is_of key e.1 ≡ false = sym (ap (λ b. is_held key (cond b (Some e.1) (triple_at triples e.0))) (nat_self e.0)) ∙ none e.0 in
    ap (λ b. b || list_any (is_of key) (values_of triples)) head ∙ none_of key next triples numbered.2 (λ n. by n (is_eq (nat_cmp n e.0)) refl)
  where
    by : (n : ℕ) (b : Bool) → is_eq (nat_cmp n e.0) ≡ b → is_held key (triple_at triples n) ≡ false
    by n true same = ap (is_held key) (ap (triple_at triples) (nat_is n e.0 (sym (nat_same n e.0) ∙ same)) ∙ absent_before e.0 triples numbered.1)
    by n false same = sym (ap (λ b. is_held key (cond b (Some e.1) (triple_at triples n))) same) ∙ none n

-- a place that is that of itself
pub own_place : (t : Triple) → is_placed (place_of t) t ≡ true
own_place t = ap is_eq (tied_itself place_total (place_of t))

-- where no place of a triple of the key has a number, no triple is of the key
pub none_there : (triples : Triples) (numbers : Index) (next : ℕ) (key : Key) → IsStore triples numbers next → ((t : Triple) (n : ℕ) → is_of key t ≡ true → has numbers (place_of t, n) ≡ false) → list_any (is_of key) (values_of triples) ≡ false
none_there triples numbers next key store none = none_of key next triples store.numbered (λ n. at n (triple_at triples n) refl)
  where
    at : (n : ℕ) (o : Option Triple) → triple_at triples n ≡ o → is_held key (triple_at triples n) ≡ false
    at n None is = ap (is_held key) is
    at n (Some t) is = ap (is_held key) is ∙ by (is_of key t) refl
      where
        here : has numbers (place_of t, n) ≡ true
        here = store.found (place_of t, n) ∙ ap (is_noted (place_of t)) is ∙ own_place t

        by : (b : Bool) → is_of key t ≡ b → is_of key t ≡ false
        by true own = (let bad : true ≡ false = sym here ∙ none t n own in absurd (cc))
        by false own = own

-- what no element passes leaves out none
all_kept : (p : Triple → Bool) (ts : List Triple) → list_any p ts ≡ false → filter (λ t. not (p t)) ts ≡ ts
all_kept p [] none = refl
all_kept p (t ∷ ts) none = by (p t) none (all_kept p ts)
  where
    by : (b : Bool) → (b || list_any p ts) ≡ false → (list_any p ts ≡ false → filter (λ u. not (p u)) ts ≡ ts) → cond (not b) (t ∷ filter (λ u. not (p u)) ts) (filter (λ u. not (p u)) ts) ≡ t ∷ ts
    by true h later = cc
    by false h later = ap (λ us. t ∷ us) (later h)

pub all_dropped : (triples : Triples) (numbers : Index) (next : ℕ) (key : Key) → IsStore triples numbers next → ((t : Triple) (n : ℕ) → is_of key t ≡ true → has numbers (place_of t, n) ≡ false) → without key triples ≡ values_of triples
all_dropped triples numbers next key store none = all_kept (is_of key) (values_of triples) (none_there triples numbers next key store none)

-- where a number stands at a place of the key, some triple is of it

some_of : (key : Key) (triples : Triples) (n : ℕ) → is_held key (triple_at triples n) ≡ true → list_any (is_of key) (values_of triples) ≡ true
some_of key [] n held = cc
some_of key (e ∷ triples) n held = by (is_eq (nat_cmp n e.0)) held (some_of key triples n)
  where
    right : (b : Bool) → (b || true) ≡ true
    right true = refl
    right false = refl

    by : (b : Bool) → is_held key (cond b (Some e.1) (triple_at triples n)) ≡ true → (is_held key (triple_at triples n) ≡ true → list_any (is_of key) (values_of triples) ≡ true) → (is_of key e.1 || list_any (is_of key) (values_of triples)) ≡ true
    by true h later = ap (λ b. b || list_any (is_of key) (values_of triples)) h
    by false h later = ap (λ b. is_of key e.1 || b) (later h) ∙ right (is_of key e.1)

pub some_there : (triples : Triples) (numbers : Index) (next : ℕ) (key : Key) (n : ℕ) → IsStore triples numbers next → IsFound key numbers n → list_any (is_of key) (values_of triples) ≡ true
some_there triples numbers next key n store found = some_of key triples n (held triples numbers next key n store found)

-- equality of triples is the same from both sides
pub any_turned : (t : Triple) (ts : List Triple) → list_any (λ u. triple_eq u t) ts ≡ list_any (triple_eq t) ts
any_turned t ts = λ i. list_any (λ u. triple_turned u t i) ts
