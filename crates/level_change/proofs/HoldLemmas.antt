-- A graph as its parts hold it.
use Rattle.std.proofs.Common.{◌≡◌, ℕ, Bool, true, false, cond, List, [], ◌∷◌, Option, Some, None, is_some, unwrap_or, refl, sym, ap, subst, ◌∙◌}
use Rattle.std.specs.FinMap as map
use Rattle.std.specs.BTreeMap.{is_at}
use Rattle.std.specs.Cmp.{IsTotalOrder, nat_cmp_total}
use Rattle.std.specs.List.Sorted.{IsStrictlySortedBy}
use Rattle.std.specs.Map.{lookup, keys_of}
use Rattle.std.specs.Ordering.{is_eq, nat_cmp, ordering_then}
use Rattle.std.specs.declared.cmp.Ordering.{Ordering}
use Rattle.std.specs.declared.cmp.Ordering.TheVariants.{Less, Equal, Greater}
use Rattle.std.proofs.lemmas.Cmp.{then_total, on_total, eq_by_cmp_equiv}
use Rattle.std.proofs.lemmas.Map.{lookup-none}
use Rattle.std.proofs.lemmas.Map.Entries.{none_past_head}
use Rattle.std.proofs.lemmas.Map.Keys.{IsDistinct-from_sorted}
use Rattle.soar_sym.specs.declared.symbol.Sym.{Sym}
use Rattle.soar_sym.specs.declared.symbol.Triple.{Triple}
use Rattle.level_laws.specs.Labels.{Links, Labels}
use Rattle.level_graph.specs.Spreading.{Spreads}
use Rattle.level_change.specs.declared.levels.Told.{Told}
use Rattle.level_change.specs.declared.store.Store.{Store}
use Rattle.level_change.specs.Graph.{Graph, Numbers, Stands, times_in, number_at, merged, merged_map, put_over}
use Rattle.level_change.specs.Holds.{Holds, told_in}
use Rattle.level_change.specs.Links.{Id, id_of, id_cmp, link_place, level_place, Place, place_cmp, Facts, Late, placed, value_in, value_if, is_linked}
use Rattle.level_change.proofs.LinkLemmas.{value_is}
use Rattle.level_change.proofs.StandLemmas.{nothing_spreads}

-- ---- the order of places

pub id_total : IsTotalOrder id_cmp
id_total = then_total (on_total (λ q. q.0) nat_cmp_total) (on_total (λ q. q.1) nat_cmp_total)

pub place_total : IsTotalOrder place_cmp
place_total = then_total (on_total (λ q. q.0) id_total) (on_total (λ q. q.1) id_total)

both : (x y : Ordering) → ordering_then x y ≡ Equal → (x ≡ Equal) × (y ≡ Equal)
both Less y e = absurd (cc)
both Equal y e = (refl, e)
both Greater y e = absurd (cc)

nat_exact : (m n : ℕ) → nat_cmp m n ≡ Equal → m ≡ n
nat_exact = map.nat_cmp-IsAntisymmetric

id_exact : (a b : Id) → id_cmp a b ≡ Equal → a ≡ b
id_exact a b e =
    let parts = both (nat_cmp a.0 b.0) (nat_cmp a.1 b.1) e in
    let one : a.0 ≡ b.0 = nat_exact a.0 b.0 parts.0 in
    let two : a.1 ≡ b.1 = nat_exact a.1 b.1 parts.1 in
    λ i. (one i, two i)

place_exact : (p q : Place) → place_cmp p q ≡ Equal → p ≡ q
place_exact p q e =
    let parts = both (id_cmp p.0 q.0) (id_cmp p.1 q.1) e in
    let one : p.0 ≡ q.0 = id_exact p.0 q.0 parts.0 in
    let two : p.1 ≡ q.1 = id_exact p.1 q.1 parts.1 in
    λ i. (one i, two i)

-- ---- what is kept, with what came later

get_map : (base : Facts) (late : Late) (q : Place) → map.get (merged_map base late) q ≡ value_in base late q
get_map base [] q = map.get-from_entries place_total base q ∙ found base
  where
    found : (es : Facts) → map.find place_cmp q es ≡ lookup (λ k. is_eq (place_cmp q k)) es
    found [] = refl
    found (e ∷ es) = ap (cond (is_eq (place_cmp q e.0)) (Some e.1)) (found es)
get_map base (e ∷ late) q = by e.1 (get_map base late q)
  where
    by : (w : Option ℕ) → map.get (merged_map base late) q ≡ value_in base late q → map.get (put_over w e.0 (merged_map base late)) q ≡ cond (is_eq (place_cmp q e.0)) w (value_in base late q)
    by None h = map.get-remove place_total (merged_map base late) e.0 q ∙ ap (cond (is_eq (place_cmp q e.0)) None) h
    by (Some n) h = map.get-insert place_total (merged_map base late) e.0 n q ∙ ap (cond (is_eq (place_cmp q e.0)) (Some n)) h

pub get_merged : (base : Facts) (late : Late) (q : Place) → map.find place_cmp q (merged base late) ≡ value_in base late q
get_merged base late q = sym (map.get-entries (merged_map base late) q) ∙ get_map base late q

pub get_number : (base : Facts) (late : Late) (o : Option Place) → number_at (merged base late) o ≡ value_if base late o
get_number base late None = refl
get_number base late (Some q) = get_merged base late q

pub merged_same : (a b : Facts) (s t : Late) → ((q : Place) → value_in a s q ≡ value_in b t q) → merged a s ≡ merged b t
merged_same a b s t same = ap map.entries (map.same_map place_total place_exact (merged_map a s) (merged_map b t) (λ q. get_map a s q ∙ same q ∙ sym (get_map b t q)))

-- ---- what came later is put in

pub past : (q : Place) (e : Place × Option ℕ) (late : Late) → IsStrictlySortedBy place_cmp (keys_of (e ∷ late)) → is_eq (place_cmp q e.0) ≡ true → lookup (λ k. is_eq (place_cmp q k)) late ≡ None
past q e late sorted h = lookup-none (is_at (place_cmp q)) late (none_past_head (eq_by_cmp_equiv place_total) q e late (IsDistinct-from_sorted place_cmp _ sorted) h)

pub put_step : (base next : Facts) (p : Place) (w : Option ℕ) (late : Late) → ((q : Place) → is_eq (place_cmp q p) ≡ true → lookup (λ k. is_eq (place_cmp q k)) late ≡ None)
    → ((q : Place) → lookup (λ k. is_eq (place_cmp q k)) next ≡ cond (is_eq (place_cmp p q)) w (lookup (λ k. is_eq (place_cmp q k)) base)) → (q : Place) → value_in next late q ≡ value_in base ((p, w) ∷ late) q
put_step base next p w late none up q = sym (value_is next late q) ∙ by (is_eq (place_cmp q p)) refl
  where
    at_base : Option ℕ
    at_base = lookup (λ k. is_eq (place_cmp q k)) base

    later : Option (Option ℕ)
    later = lookup (λ k. is_eq (place_cmp q k)) late

    here : (b : Bool) → is_eq (place_cmp q p) ≡ b → lookup (λ k. is_eq (place_cmp q k)) next ≡ cond b w at_base
    here b e = up q ∙ ap (λ c. cond c w at_base) ((eq_by_cmp_equiv place_total).symm p q ∙ e)

    by : (b : Bool) → is_eq (place_cmp q p) ≡ b → unwrap_or (lookup (λ k. is_eq (place_cmp q k)) late) (lookup (λ k. is_eq (place_cmp q k)) next) ≡ cond (is_eq (place_cmp q p)) w (value_in base late q)
    by true e = ap (λ o. unwrap_or o (lookup (λ k. is_eq (place_cmp q k)) next)) (none q e) ∙ here true e ∙ sym (ap (λ c. cond c w (value_in base late q)) e)
    by false e = ap (unwrap_or (lookup (λ k. is_eq (place_cmp q k)) late)) (here false e) ∙ value_is base late q ∙ sym (ap (λ c. cond c w (value_in base late q)) e)

-- nothing more is found in what is left
abbrev pub IsRest : Late → Late → Type 0
IsRest late rest = (q : Place) → lookup (λ k. is_eq (place_cmp q k)) late ≡ None → lookup (λ k. is_eq (place_cmp q k)) rest ≡ None

pub rest_tail : (late rest : Late) (e : Place × Option ℕ) → IsRest late (e ∷ rest) → IsRest late rest
rest_tail late rest e is q none = by (is_eq (place_cmp q e.0)) (is q none)
  where
    by : (b : Bool) → cond b (Some e.1) (lookup (λ k. is_eq (place_cmp q k)) rest) ≡ None → lookup (λ k. is_eq (place_cmp q k)) rest ≡ None
    by true h = cc
    by false h = h

-- a part is put in
pub put_part : (first now : Facts) (late rest : Late) → IsRest late rest → ((q : Place) → value_in now rest q ≡ value_in first late q) → (q : Place) → value_in now late q ≡ value_in first late q
put_part first now late rest is same q = by (lookup (λ k. is_eq (place_cmp q k)) late) refl
  where
    at : Facts → Option ℕ
    at base = lookup (λ k. is_eq (place_cmp q k)) base

    by : (o : Option (Option ℕ)) → lookup (λ k. is_eq (place_cmp q k)) late ≡ o → value_in now late q ≡ value_in first late q
    by (Some w) e = sym (value_is now late q) ∙ ap (λ o. unwrap_or o (lookup (λ k. is_eq (place_cmp q k)) now)) e ∙ sym (ap (λ o. unwrap_or o (lookup (λ k. is_eq (place_cmp q k)) first)) e) ∙ value_is first late q
    by None e =
        sym (value_is now late q) ∙ ap (λ o. unwrap_or o (lookup (λ k. is_eq (place_cmp q k)) now)) (e ∙ sym (is q e)) ∙ value_is now rest q ∙ same q

-- ---- a graph

pub same_graph : (a b : Graph) → a.told ≡ b.told → a.out ≡ b.out → a.into ≡ b.into → a.goals ≡ b.goals → a.moved ≡ b.moved → a ≡ b
same_graph a b t o n g m = λ i. record { told = t i; out = o i; into = n i; goals = g i; moved = m i }

abbrev pub shown : Store → Numbers
shown store = merged store.base.entries store.late.entries

abbrev pub shown_levels : Told → Numbers
shown_levels told = merged (placed told.base.entries) (placed told.late.entries)

spread_as : (a b : Links) (goals : List Sym) (s t : Labels) → ((x y : Sym) → a x y ≡ b x y) → ((x : Sym) → s x ≡ t x) → Spreads a goals s [] → Spreads b goals t []
spread_as a b goals s t links labels spreads =
    let ls : a ≡ b = λ i x y. links x y i in
    let ts : s ≡ t = λ i x. labels x i in
    subst (λ l. Spreads l goals t []) ls (subst (λ u. Spreads a goals u []) ts spreads)

pub holds_of : (told : Told) (out into : Store) (triples : List Triple) (goals moved : List Sym) (now : List Sym) → Stands (record { told = shown_levels told; out = shown out; into = shown into; goals = now; moved = moved }) triples goals → Holds told out into triples now
holds_of told out into triples goals moved now stands =
    record {
      out_is = λ x y. sym (get_number out.base.entries out.late.entries (link_place (id_of x) (id_of y))) ∙ stands.out x y;
      into_is = λ y x. sym (get_number into.base.entries into.late.entries (link_place (id_of y) (id_of x))) ∙ stands.into x y;
      levels = subst (λ g. Spreads (is_linked out) g (told_in told) []) (sym stands.same_goals)
          (spread_as (λ x y. is_some (times_in (shown out) x y)) (is_linked out) goals (λ s. number_at (shown_levels told) (level_place (id_of s))) (told_in told)
          (λ x y. ap is_some (get_number out.base.entries out.late.entries (link_place (id_of x) (id_of y)))) (λ s. get_number (placed told.base.entries) (placed told.late.entries) (level_place (id_of s))) stands.levels);
    }

pub stands_of : (told : Told) (out into : Store) (triples : List Triple) (goals moved now : List Sym) → now ≡ goals → Holds told out into triples goals
    → Stands (record { told = shown_levels told; out = shown out; into = shown into; goals = now; moved = moved }) triples goals
stands_of told out into triples goals moved now same holds =
    record {
      out = λ x y. get_number out.base.entries out.late.entries (link_place (id_of x) (id_of y)) ∙ holds.out_is x y;
      into = λ x y. get_number into.base.entries into.late.entries (link_place (id_of y) (id_of x)) ∙ holds.into_is y x;
      same_goals = same;
      levels = spread_as (is_linked out) (λ x y. is_some (times_in (shown out) x y)) goals (told_in told) (λ s. number_at (shown_levels told) (level_place (id_of s)))
          (λ x y. sym (ap is_some (get_number out.base.entries out.late.entries (link_place (id_of x) (id_of y))))) (λ s. sym (get_number (placed told.base.entries) (placed told.late.entries) (level_place (id_of s)))) holds.levels;
    }

pub kept_as : (a b : Store) → a.base ≡ b.base → a.late.entries ≡ [] → b.late.entries ≡ [] → shown a ≡ shown b
kept_as a b base none nothing = let late : a.late.entries ≡ b.late.entries = none ∙ sym nothing in λ i. merged (base i).entries (late i)

pub levels_kept_as : (a b : Told) → a.base ≡ b.base → a.late.entries ≡ [] → b.late.entries ≡ [] → shown_levels a ≡ shown_levels b
levels_kept_as a b base none nothing = let late : a.late.entries ≡ b.late.entries = none ∙ sym nothing in λ i. merged (placed (base i).entries) (placed (late i))

nothing_in : (base : Facts) (late : Late) → base ≡ [] → late ≡ [] → (o : Option Place) → value_if base late o ≡ None
nothing_in base late b l None = refl
nothing_in base late b l (Some q) = ap (λ t. value_in base t q) l ∙ ap (λ f. value_in f [] q) b

pub empty_holds : (told : Told) (out into : Store) → told.base.entries ≡ [] → told.late.entries ≡ [] → out.base.entries ≡ [] → out.late.entries ≡ [] → into.base.entries ≡ [] → into.late.entries ≡ [] → Holds told out into [] []
empty_holds told out into tb tl ob ol ib il =
    record {
      out_is = λ x y. nothing_in out.base.entries out.late.entries ob ol (link_place (id_of x) (id_of y));
      into_is = λ y x. nothing_in into.base.entries into.late.entries ib il (link_place (id_of y) (id_of x));
      levels = nothing_spreads (is_linked out) (told_in told) (λ s. nothing_in (placed told.base.entries) (placed told.late.entries) (ap placed tb) (ap placed tl) (level_place (id_of s)));
    }
