-- What is kept, read as lists.
use Rattle.std.proofs.Common.{◌≡◌, inl, inr, refl, sym, ap, ap₂, ◌∙◌, subst, Bool, true, false, cond, not, ◌||◌, ◌&&◌, ◌==◌, eqb-true, eq-eqb, nat_lt, ℕ, ◌+◌, List, [], ◌∷◌, map, filter, Option, Some, None, arith}
use Rattle.std.specs.BTreeMap as map_of
use Rattle.std.specs.BTreeSet as set
use Rattle.std.specs.List.{AllByRecursion, list_any}
use Rattle.std.specs.List.Sorted.{IsStrictlySortedBy}
use Rattle.std.specs.Map.{keys_of as keys_of_entries, lookup, values_of}
use Rattle.std.specs.Ordering.{is_eq}
use Rattle.std.specs.declared.cmp.Ordering.TheVariants.{Less}
use Rattle.std.proofs.lemmas.Bool.{and_parts}
use Rattle.std.proofs.lemmas.Option.{same_Some}
use Rattle.std.proofs.lemmas.Map.Keys.{sorted_head, sorted_tail}
use Rattle.defs_match.specs.Laws.{IsIn}
use Rattle.defs_match.specs.declared.instance.Instance.{Instance}
use Rattle.defs_soar.specs.Pending.{instance_eq, is_listed, tags_eq}
use Rattle.live_firings.specs.declared.live.Live.{Live}
use Rattle.live_firings.specs.Living.{keys_of, live_seen}
use Rattle.match_changes.specs.Told.{IsTheOne, key_of}
use Rattle.match_changes.specs.declared.key.MatchKey.{MatchKey}
use Rattle.conflict_order.specs.Order.{InstanceLess, Ordered}
use Rattle.conflict_order.proofs.ListOrder.{filter_order, in_filter, in_filter_back, in_map, same_in_order}
use Rattle.conflict_order.proofs.InstanceOrder.{never_both, one_each}
use Rattle.open_instances.specs.Keeping.{AreLooked, Counts, IsLookedIn, gone_of, open_of}
use Rattle.open_instances.specs.Keys.{alike, count_in, key_cmp, times}
use Rattle.open_instances.specs.declared.kept.Kept.{Kept}
use Rattle.open_instances.proofs.KeyLemmas.{alike_back, alike_by, alike_itself, alike_same}
use Rattle.outstanding.specs.Outstanding.{unfired, unmatched}

abbrev Entries : Type 0
Entries = List (MatchKey × Instance)

in_map_back : {A B : Type 0} (f : A → B) (x : A) (xs : List A) → IsIn x xs → IsIn (f x) (map f xs)
in_map_back f x [] h = absurd h
in_map_back f x (y ∷ xs) (inl e) = inl (ap f e)
in_map_back f x (y ∷ xs) (inr h) = inr (in_map_back f x xs h)

filter_same_on : {A : Type 0} (p q : A → Bool) (xs : List A) → ((x : A) → IsIn x xs → p x ≡ q x) → filter p xs ≡ filter q xs
filter_same_on p q [] same = refl
filter_same_on p q (x ∷ xs) same =
    ap (λ b. cond b (x ∷ filter p xs) (filter p xs)) (same x (inl refl))
    ∙ ap (λ l. cond (q x) (x ∷ l) l) (filter_same_on p q xs (λ y h. same y (inr h)))

-- ---- entries

differ : (a b : MatchKey) → key_cmp a b ≡ Less → alike b a ≡ false
differ a b h = alike_back b a ∙ ap is_eq h

above : (k q : MatchKey) (i : Instance) (es : Entries) → AllByRecursion (λ y. key_cmp k y ≡ Less) (keys_of_entries es) → IsIn (q, i) es → key_cmp k q ≡ Less
above k q i [] all h = absurd h
above k q i (e ∷ es) all (inl same) = ap (λ (p : MatchKey × Instance). key_cmp k p.0) (sym same) ∙ all.0
above k q i (e ∷ es) all (inr h) = above k q i es all.1 h

-- an entry is found
entry_found : (q : MatchKey) (i : Instance) (es : Entries) → IsStrictlySortedBy key_cmp (keys_of_entries es) → IsIn (q, i) es → lookup (λ k. alike q k) es ≡ Some i
entry_found q i [] s h = absurd h
entry_found q i (e ∷ es) s (inl same) =
    ap (λ (p : MatchKey × Instance). cond (alike q p.0) (Some p.1) (lookup (λ k. alike q k) es)) same
    ∙ ap (λ b. cond b (Some i) (lookup (λ k. alike q k) es)) (alike_itself q)
entry_found q i (e ∷ es) s (inr h) =
    ap (λ b. cond b (Some e.1) (lookup (λ k. alike q k) es)) (differ e.0 q (above e.0 q i es (sorted_head key_cmp e.0 (keys_of_entries es) s) h))
    ∙ entry_found q i es (sorted_tail key_cmp e.0 (keys_of_entries es) s) h

-- what is found is a value
found_value : (q : MatchKey) (i : Instance) (es : Entries) → lookup (λ k. alike q k) es ≡ Some i → IsIn i (values_of es)
found_value q i [] h = absurd (cc)
found_value q i (e ∷ es) h = by (alike q e.0) h (found_value q i es)
  where
    by : (b : Bool) → cond b (Some e.1) (lookup (λ k. alike q k) es) ≡ Some i → (lookup (λ k. alike q k) es ≡ Some i → IsIn i (values_of es)) → IsIn i (values_of (e ∷ es))
    by true h deep = inl (same_Some e.1 i h)
    by false h deep = inr (deep h)

-- entries under their own keys have their values in order
values_order : (es : Entries) → IsStrictlySortedBy key_cmp (keys_of_entries es) → ((q : MatchKey) (i : Instance) → IsIn (q, i) es → key_of i ≡ q) → Ordered InstanceLess (values_of es)
values_order [] s own = tt
values_order (e ∷ es) s own = (first, values_order es (sorted_tail key_cmp e.0 (keys_of_entries es) s) (λ q i h. own q i (inr h)))
  where
    first : (y : Instance) → IsIn y (values_of es) → InstanceLess e.1 y
    first y h =
        let from = in_map (λ (p : MatchKey × Instance). p.1) y es h in
        let less : key_cmp e.0 from.0.0 ≡ Less = above e.0 from.0.0 from.0.1 es (sorted_head key_cmp e.0 (keys_of_entries es) s) from.1 in
        let seen : key_cmp (key_of e.1) (key_of from.0.1) ≡ Less = ap₂ key_cmp (own e.0 e.1 (inl refl)) (own from.0.0 from.0.1 (inr from.1)) ∙ less in
        subst (InstanceLess e.1) from.2 seen

-- ---- live firings by key

tags_itself : (xs : List ℕ) → tags_eq xs xs ≡ true
tags_itself [] = refl
tags_itself (x ∷ xs) = ap₂ (λ a b. a && b) (eq-eqb x x refl) (tags_itself xs)

tags_same : (xs ys : List ℕ) → tags_eq xs ys ≡ true → xs ≡ ys
tags_same [] [] h = refl
tags_same [] (y ∷ ys) h = absurd (cc)
tags_same (x ∷ xs) [] h = absurd (cc)
tags_same (x ∷ xs) (y ∷ ys) h =
    let parts = and_parts (x == y) (tags_eq xs ys) h in
    ap₂ (λ a l. a ∷ l) (eqb-true x y parts.0) (tags_same xs ys parts.1)

instance_same : (i j : Instance) → instance_eq i j ≡ true → key_of i ≡ key_of j
instance_same i j h =
    let parts = and_parts (i.rule == j.rule) (tags_eq i.tags j.tags) h in
    let rule = eqb-true i.rule j.rule parts.0 in
    let tags = tags_same i.tags j.tags parts.1 in
    λ k. record { rule = rule k; tags = tags k }

instance_by : (i j : Instance) → key_of i ≡ key_of j → instance_eq i j ≡ true
instance_by i j e =
    ap₂ (λ a b. a && b)
    (eq-eqb i.rule j.rule (ap (λ (k : MatchKey). k.rule) e))
    (subst (λ ts. tags_eq i.tags ts ≡ true) (ap (λ (k : MatchKey). k.tags) e) (tags_itself i.tags))

same_test : (i j : Instance) → instance_eq i j ≡ alike (key_of j) (key_of i)
same_test i j = by (instance_eq i j) (alike (key_of j) (key_of i)) refl refl
  where
    by : (a b : Bool) → instance_eq i j ≡ a → alike (key_of j) (key_of i) ≡ b → a ≡ b
    by true true h k = refl
    by false false h k = refl
    by true false h k = (let bad : true ≡ false = sym (alike_by (key_of j) (key_of i) (sym (instance_same i j h))) ∙ k in cc)
    by false true h k = (let bad : true ≡ false = sym (instance_by i j (sym (alike_same (key_of j) (key_of i) k))) ∙ h in cc)

one_more : (a : Bool) (n : ℕ) → (a || nat_lt 0 n) ≡ nat_lt 0 ((let m : ℕ = cond a 1 0 in m) + n)
one_more true n = grind arith
one_more false n = ap (nat_lt 0) (more n)
  where
    more : (n : ℕ) → n ≡ 0 + n
    more n = omega arith

-- a firing has the instance where its key is counted
listed_live : (live : List Live) (i : Instance) → is_listed (map (λ l. l.instance) (map live_seen live)) i ≡ nat_lt 0 (times (key_of i) (keys_of live))
listed_live [] i = refl
listed_live (l ∷ live) i = ap₂ (λ a b. a || b) (same_test i l.instance) (listed_live live i) ∙ one_more (alike (key_of l.instance) (key_of i)) (times (key_of i) (keys_of live))

live_counted : (live : List Live) (l : Live) → IsIn l live → nat_lt 0 (times (key_of l.instance) (keys_of live)) ≡ true
live_counted [] l h = absurd h
live_counted (x ∷ live) l h = sym (one_more (alike (key_of x.instance) (key_of l.instance)) (times (key_of l.instance) (keys_of live))) ∙ by h (live_counted live l)
  where
    with_rest : (a b : Bool) → b ≡ true → (a || b) ≡ true
    with_rest true b h = refl
    with_rest false b h = h

    by : IsIn l (x ∷ live) → (IsIn l live → nat_lt 0 (times (key_of l.instance) (keys_of live)) ≡ true) → (alike (key_of x.instance) (key_of l.instance) || nat_lt 0 (times (key_of l.instance) (keys_of live))) ≡ true
    by (inl e) deep = ap (λ b. b || nat_lt 0 (times (key_of l.instance) (keys_of live))) (alike_by (key_of x.instance) (key_of l.instance) (ap (λ (y : Live). key_of y.instance) e))
    by (inr k) deep = with_rest (alike (key_of x.instance) (key_of l.instance)) (nat_lt 0 (times (key_of l.instance) (keys_of live))) (deep k)

-- an instance is listed by its key
in_listed : (is : List Instance) (i j : Instance) → IsIn j is → key_of j ≡ key_of i → is_listed is i ≡ true
in_listed [] i j h e = absurd h
in_listed (x ∷ is) i j (inl same) e = ap (λ b. b || is_listed is i) (instance_by i x (sym e ∙ ap key_of (sym same)))
in_listed (x ∷ is) i j (inr h) e = by (instance_eq i x) (is_listed is i) (in_listed is i j h e)
  where
    by : (a b : Bool) → b ≡ true → (a || b) ≡ true
    by true b h = refl
    by false b h = h

listed_in : (is : List Instance) (i : Instance) → is_listed is i ≡ true → (j : Instance) × IsIn j is × (key_of j ≡ key_of i)
listed_in [] i h = absurd (cc)
listed_in (x ∷ is) i h = by (instance_eq i x) refl h (listed_in is i)
  where
    by : (b : Bool) → instance_eq i x ≡ b → (b || is_listed is i) ≡ true → (is_listed is i ≡ true → (j : Instance) × IsIn j is × (key_of j ≡ key_of i))
        → (j : Instance) × IsIn j (x ∷ is) × (key_of j ≡ key_of i)
    by true e h deep = (x, inl refl, sym (instance_same i x e))
    by false e h deep = (let d = deep h in (d.0, inr d.1, d.2))

-- ---- both lists

module _ (instances : List Instance) (live : List Live) (kept : Kept) (was : AreLooked instances kept) (nothing : kept.touched.keys ≡ []) (tally : Counts kept.counts (keys_of live)) where
  abbrev untaken : Instance → Bool
  untaken i = not (is_listed (map (λ l. l.instance) (map live_seen live)) i)

  looked : (q : MatchKey) → IsLookedIn instances kept q
  looked q = was q (ap (λ ks. list_any (λ k. alike q k) ks) nothing)

  counted : (q : MatchKey) → nat_lt 0 (count_in kept.counts q) ≡ nat_lt 0 (times q (keys_of live))
  counted q = ap (nat_lt 0) (tally q)

  is_free : (i : Instance) → nat_lt 0 (count_in kept.counts (key_of i)) ≡ false → untaken i ≡ true
  is_free i h = ap not (listed_live live i ∙ sym (counted (key_of i)) ∙ h)

  not_live : (i : Instance) → untaken i ≡ true → nat_lt 0 (count_in kept.counts (key_of i)) ≡ false
  not_live i h = counted (key_of i) ∙ sym (listed_live live i) ∙ turned (is_listed (map (λ l. l.instance) (map live_seen live)) i) h
    where
      turned : (b : Bool) → not b ≡ true → b ≡ false
      turned true h = cc
      turned false h = refl

  -- what is open of a key
  open_one : (q : MatchKey) (i : Instance) → map_of.get key_cmp kept.free q ≡ Some i → (nat_lt 0 (count_in kept.counts q) ≡ false) × IsIn i instances × (key_of i ≡ q)
  open_one q i h = (let w = looked q in by (nat_lt 0 (count_in kept.counts q)) refl w.found w.is (sym w.open_is ∙ h))
    where
      by : (b : Bool) → nat_lt 0 (count_in kept.counts q) ≡ b → (found : Option Instance) → IsTheOne instances q found → open_of b found ≡ Some i
          → (nat_lt 0 (count_in kept.counts q) ≡ false) × IsIn i instances × (key_of i ≡ q)
      by true e found one h = absurd (cc)
      by false e None one h = absurd (cc)
      by false e (Some j) one h = (let same = same_Some j i h in (e, subst (λ x. IsIn x instances) same one.0, ap key_of (sym same) ∙ one.1))

  module _ (ordered : Ordered InstanceLess instances) (sorted : map_of.IsOrdered key_cmp kept.free) where
    own : (q : MatchKey) (i : Instance) → IsIn (q, i) kept.free.entries → key_of i ≡ q
    own q i h = (open_one q i (entry_found q i kept.free.entries sorted h)).2

    to : (i : Instance) → IsIn i (map_of.values kept.free) → IsIn i (filter untaken instances)
    to i h =
        let from = in_map (λ (p : MatchKey × Instance). p.1) i kept.free.entries h in
        let one = open_one from.0.0 from.0.1 (entry_found from.0.0 from.0.1 kept.free.entries sorted from.1) in
        let unlive : nat_lt 0 (count_in kept.counts (key_of from.0.1)) ≡ false = ap (λ k. nat_lt 0 (count_in kept.counts k)) one.2 ∙ one.0 in
        subst (λ x. IsIn x (filter untaken instances)) from.2 (in_filter_back untaken from.0.1 instances one.1 (is_free from.0.1 unlive))

    back : (i : Instance) → IsIn i (filter untaken instances) → IsIn i (map_of.values kept.free)
    back i h = (let f = in_filter untaken i instances h in let w = looked (key_of i) in by f.0 (not_live i f.1) w.found w.is w.open_is)
      where
        by : IsIn i instances → nat_lt 0 (count_in kept.counts (key_of i)) ≡ false → (found : Option Instance) → IsTheOne instances (key_of i) found
            → map_of.get key_cmp kept.free (key_of i) ≡ open_of (nat_lt 0 (count_in kept.counts (key_of i))) found → IsIn i (map_of.values kept.free)
        by k unlive None one e = absurd (one i k refl)
        by k unlive (Some j) one e =
            let same : j ≡ i = one_each instances ordered j i one.0 k (ap (λ (q : MatchKey). q.rule) one.1) (ap (λ (q : MatchKey). q.tags) one.1) in
            found_value (key_of i) i kept.free.entries (e ∙ ap (λ b. open_of b (Some j)) unlive ∙ ap (λ (x : Instance). let o : Option Instance = Some x in o) same)

    pub unfired_are : map_of.values kept.free ≡ unfired instances live
    unfired_are =
        same_in_order InstanceLess never_both (map_of.values kept.free) (filter untaken instances)
        (values_order kept.free.entries sorted own) (filter_order InstanceLess untaken instances ordered) (λ i. (to i, back i))

  gone_test : (l : Live) → IsIn l live → set.contains key_cmp kept.gone (key_of l.instance) ≡ not (is_listed instances l.instance)
  gone_test l h = (let w = looked (key_of l.instance) in w.gone_is ∙ ap (λ b. gone_of b w.found) (counted (key_of l.instance) ∙ live_counted live l h) ∙ by w.found w.is (is_listed instances l.instance) refl)
    where
      by : (found : Option Instance) → IsTheOne instances (key_of l.instance) found → (b : Bool) → is_listed instances l.instance ≡ b → gone_of true found ≡ not b
      by None one false e = refl
      by None one true e = (let j = listed_in instances l.instance e in absurd (one j.0 j.1 j.2))
      by (Some j) one true e = refl
      by (Some j) one false e = (let bad : true ≡ false = sym (in_listed instances l.instance j one.0 one.1) ∙ e in absurd (cc))

  pub unmatched_are : filter (λ l. set.contains key_cmp kept.gone (key_of l.instance)) live ≡ unmatched instances live
  unmatched_are = filter_same_on (λ (l : Live). set.contains key_cmp kept.gone (key_of l.instance)) (λ (l : Live). not (is_listed instances l.instance)) live gone_test
