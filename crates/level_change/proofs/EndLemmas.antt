-- Where the links from an identifier end.
use Rattle.std.proofs.Common.{◌≡◌, ℕ, ◌&&◌, ◌||◌, not, Bool, true, false, cond, List, [], ◌∷◌, ◌++◌, filter, map, Option, Some, None, is_some, unwrap_or, refl, sym, ap, ap₂, ◌∙◌, arith}
use Rattle.std.specs.BTreeMap.Range.{entries_between}
use Rattle.std.specs.List.{AllByRecursion}
use Rattle.std.specs.List.Sorted.{IsStrictlySortedBy}
use Rattle.std.specs.Map.{lookup, keys_of}
use Rattle.std.specs.Ordering.{is_eq, is_le, ordering_then}
use Rattle.std.specs.declared.cmp.Ordering.{Ordering}
use Rattle.std.specs.declared.cmp.Ordering.TheVariants.{Less, Equal, Greater}
use Rattle.std.specs.declared.ops.Bound.TheVariants.{Included, Unbounded}
use Rattle.std.proofs.lemmas.Cmp.{alike_right}
use Rattle.std.proofs.lemmas.List.Folds.{list_any-append}
use Rattle.std.proofs.lemmas.Map.Keys.{sorted_head, sorted_tail}
use Rattle.soar_sym.specs.Equality.{symbol_eq}
use Rattle.soar_sym.specs.declared.symbol.Sym.{Sym}
use Rattle.soar_sym.specs.declared.symbol.Sym.TheVariants.{Ident, Word, Int}
use Rattle.defs_soar.specs.Sorted.{has_symbol}
use Rattle.level_laws.proofs.SymbolLemmas.{symbol_same}
use Rattle.level_change.specs.declared.store.Store.{Store}
use Rattle.level_change.specs.Links.{Id, id_of, symbol_of, id_cmp, Place, Facts, Late, place_cmp, is_linked, front_of, links_from, came_later, end_of}
use Rattle.level_change.proofs.HoldLemmas.{id_total, past}
use Rattle.level_change.proofs.LinkLemmas.{id_same, link_same, value_is}

-- ---- the links from an identifier, wherever they stand

abbrev of_id : {X : Type 0} → Id → List (Place × X) → List (Place × X)
of_id id places = filter (λ e. symbol_eq (symbol_of id) (symbol_of e.0.0)) places

-- what comes after a place of a later identifier is of a later one too
later_id : (id : Id) (p q : Place) → id_cmp id p.0 ≡ Less → place_cmp p q ≡ Less → id_cmp id q.0 ≡ Less
later_id id p q less after = by (id_cmp p.0 q.0) refl after
  where
    by : (o : Ordering) → id_cmp p.0 q.0 ≡ o → ordering_then o (id_cmp p.1 q.1) ≡ Less → id_cmp id q.0 ≡ Less
    by Less is h = (id_total).trans id p.0 q.0 less is
    by Equal is h = sym (alike_right id_total p.0 q.0 id is) ∙ less
    by Greater is h = absurd (cc)

another : (id : Id) (q : Place) → id_cmp id q.0 ≡ Less → symbol_eq (symbol_of id) (symbol_of q.0) ≡ false
another id q less = sym (id_same id q.0) ∙ ap is_eq less

none_after : {X : Type 0} (id : Id) (p : Place) (places : List (Place × X)) → id_cmp id p.0 ≡ Less → AllByRecursion (λ q. place_cmp p q ≡ Less) (keys_of places) → of_id id places ≡ []
none_after id p [] less after = refl
none_after id p (e ∷ places) less after = ap (λ c. cond c (e ∷ of_id id places) (of_id id places)) (another id e.0 (later_id id p e.0 less after.0)) ∙ none_after id p places less after.1

-- they stand side by side
side_by_side : {X : Type 0} (id : Id) (places : List (Place × X)) → IsStrictlySortedBy place_cmp (keys_of places) → links_from id places ≡ of_id id places
side_by_side id [] sorted = refl
side_by_side {X} id (e ∷ places) sorted =
    by (id_cmp id e.0.0) refl (side_by_side id places (sorted_tail place_cmp e.0 (keys_of places) sorted)) (λ less. none_after id e.0 places less (sorted_head place_cmp e.0 (keys_of places) sorted))
  where
    least : (b : Id) → is_le (id_cmp (0, 0) b) ≡ true
    least b = grind arith

    rest : List (Place × X)
    rest = entries_between place_cmp (Included (id, (0, 0))) Unbounded places

    -- whether the first is of the identifier, where its test is known
    at : (c : Bool) → symbol_eq (symbol_of id) (symbol_of e.0.0) ≡ c → (es fs : List (Place × X)) → cond c (e ∷ es) [] ≡ cond c (e ∷ fs) fs
        → cond (symbol_eq (symbol_of id) (symbol_of e.0.0)) (e ∷ es) [] ≡ cond (symbol_eq (symbol_of id) (symbol_of e.0.0)) (e ∷ fs) fs
    at c is es fs h = ap (λ d. cond d (e ∷ es) []) is ∙ h ∙ sym (ap (λ d. cond d (e ∷ fs) fs) is)

    by : (o : Ordering) → id_cmp id e.0.0 ≡ o → front_of id rest ≡ of_id id places → (id_cmp id e.0.0 ≡ Less → of_id id places ≡ [])
        → front_of id (cond (is_le (ordering_then o (id_cmp (0, 0) e.0.1)) && not false) (e ∷ rest) rest) ≡ of_id id (e ∷ places)
    by Less is deep none = at false (another id e.0 is) (front_of id rest) (of_id id places) (sym (none is))
    by Equal is deep none =
        ap (λ c. front_of id (cond (c && not false) (e ∷ rest) rest)) (least e.0.1)
        ∙ at true (sym (id_same id e.0.0) ∙ ap is_eq is) (front_of id rest) (of_id id places) (ap (λ es. e ∷ es) deep)
    by Greater is deep none = deep ∙ sym (ap (λ c. cond c (e ∷ of_id id places) (of_id id places)) (sym (id_same id e.0.0) ∙ ap is_eq is))

abbrev ends : {X : Type 0} → List (Place × X) → List Sym
ends places = map end_of places

-- only identifiers are ends
no_other : {X : Type 0} (places : List (Place × X)) (s : Sym) → id_of s ≡ None → has_symbol (ends places) s ≡ false
no_other [] s h = refl
no_other (e ∷ places) (Ident l n) h = cc
no_other (e ∷ places) (Word w) h = no_other places (Word w) h
no_other (e ∷ places) (Int z) h = no_other places (Int z) h

-- ---- what is kept

ends_linked : (id : Id) (places : Facts) (y : Id) → has_symbol (ends (of_id id places)) (symbol_of y) ≡ is_some (lookup (λ k. is_eq (place_cmp (id, y) k)) places)
ends_linked id [] y = refl
ends_linked id (((a, b), n) ∷ places) y =
    by (symbol_eq (symbol_of id) (symbol_of a)) (symbol_eq (symbol_of y) (symbol_of b)) refl (ends_linked id places y)
    ∙ ap (λ c. is_some (cond c (Some n) (lookup (λ k. is_eq (place_cmp (id, y) k)) places))) (sym (link_same id y a b))
  where
    by : (c d : Bool) → symbol_eq (symbol_of y) (symbol_of b) ≡ d → has_symbol (ends (of_id id places)) (symbol_of y) ≡ is_some (lookup (λ k. is_eq (place_cmp (id, y) k)) places)
        → has_symbol (ends (cond c (((a, b), n) ∷ of_id id places) (of_id id places))) (symbol_of y) ≡ is_some (cond (c && d) (Some n) (lookup (λ k. is_eq (place_cmp (id, y) k)) places))
    by true true e h = ap (λ z. z || has_symbol (ends (of_id id places)) (symbol_of y)) e
    by true false e h = ap (λ z. z || has_symbol (ends (of_id id places)) (symbol_of y)) e ∙ h
    by false d e h = h

id_from : (a b : Id) → symbol_eq (symbol_of a) (symbol_of b) ≡ true → a ≡ b
id_from a b h = ap (λ s. unwrap_or (id_of s) a) (symbol_same (symbol_of a) (symbol_of b) h)

kept_of : (p : Id → Bool) (es : Facts) (y : Id) → has_symbol (ends (filter (λ e. p e.0.1) es)) (symbol_of y) ≡ (p y && has_symbol (ends es) (symbol_of y))
kept_of p [] y = none (p y)
  where
    none : (b : Bool) → false ≡ (b && false)
    none true = refl
    none false = refl
kept_of p (((a, b), n) ∷ es) y = by (symbol_eq (symbol_of y) (symbol_of b)) refl (p b) refl (kept_of p es y)
  where
    rest : Facts
    rest = filter (λ e. p e.0.1) es

    by : (c : Bool) → symbol_eq (symbol_of y) (symbol_of b) ≡ c → (d : Bool) → p b ≡ d → has_symbol (ends rest) (symbol_of y) ≡ (p y && has_symbol (ends es) (symbol_of y))
        → has_symbol (ends (cond d (((a, b), n) ∷ rest) rest)) (symbol_of y) ≡ (p y && (c || has_symbol (ends es) (symbol_of y)))
    by true e true f h = ap (λ z. z || has_symbol (ends rest) (symbol_of y)) e ∙ sym (ap (λ z. z && true) (ap p (id_from y b e) ∙ f))
    by true e false f h = h ∙ ap (λ z. z && has_symbol (ends es) (symbol_of y)) (ap p (id_from y b e) ∙ f) ∙ sym (ap (λ z. z && true) (ap p (id_from y b e) ∙ f))
    by false e true f h = ap (λ z. z || has_symbol (ends rest) (symbol_of y)) e ∙ h
    by false e false f h = h

-- ---- what came later

put_ends : (id : Id) (late : Late) (y : Id) → IsStrictlySortedBy place_cmp (keys_of late) → has_symbol (ends (filter (λ e. is_some e.1) (of_id id late))) (symbol_of y) ≡ is_some (unwrap_or (lookup (λ k. is_eq (place_cmp (id, y) k)) late) None)
put_ends id [] y sorted = refl
put_ends id (((a, b), w) ∷ late) y sorted =
    by (symbol_eq (symbol_of id) (symbol_of a)) (symbol_eq (symbol_of y) (symbol_of b)) refl refl w (put_ends id late y (sorted_tail place_cmp (a, b) (keys_of late) sorted))
    ∙ ap (λ c. is_some (unwrap_or (cond c (Some w) (lookup (λ k. is_eq (place_cmp (id, y) k)) late)) None)) (sym (link_same id y a b))
  where
    rest : Late
    rest = of_id id late

    put : List Sym
    put = ends (filter (λ e. is_some e.1) rest)

    later : Option (Option ℕ)
    later = lookup (λ k. is_eq (place_cmp (id, y) k)) late

    by : (c d : Bool) → symbol_eq (symbol_of id) (symbol_of a) ≡ c → symbol_eq (symbol_of y) (symbol_of b) ≡ d → (v : Option ℕ) → has_symbol put (symbol_of y) ≡ is_some (unwrap_or later None)
        → has_symbol (ends (filter (λ e. is_some e.1) (cond c (((a, b), v) ∷ rest) rest))) (symbol_of y) ≡ is_some (unwrap_or (cond (c && d) (Some v) later) None)
    by true true e f (Some n) h = ap (λ z. z || has_symbol put (symbol_of y)) f
    by true true e f None h = h ∙ ap (λ o. is_some (unwrap_or o None)) (past (id, y) ((a, b), w) late sorted (link_same id y a b ∙ ap₂ (λ c d. c && d) e f))
    by true false e f (Some n) h = ap (λ z. z || has_symbol put (symbol_of y)) f ∙ h
    by true false e f None h = h
    by false d e f v h = h

-- ---- both

-- all ends of links from an identifier are found in the two maps
pub all_ends : (links : Store) (id : Id) (found : List Sym) → IsStrictlySortedBy place_cmp (keys_of links.base.entries) → IsStrictlySortedBy place_cmp (keys_of links.late.entries)
    → found ≡ ends (filter (λ e. not (came_later links.late.entries id e.0.1)) (links_from id links.base.entries)) ++ ends (filter (λ e. is_some e.1) (links_from id links.late.entries))
    → (y : Sym) → is_linked links (symbol_of id) y ≡ has_symbol found y
all_ends links id found base_sorted late_sorted is y = sym (ap (λ l. has_symbol l y) is ∙ list_any-append (symbol_eq y) kept put ∙ by y)
  where
    base : Facts
    base = links.base.entries

    late : Late
    late = links.late.entries

    kept : List Sym
    kept = ends (filter (λ e. not (came_later late id e.0.1)) (links_from id base))

    put : List Sym
    put = ends (filter (λ e. is_some e.1) (links_from id late))

    one : (o : Option (Option ℕ)) (b : Option ℕ) → ((not (is_some o) && is_some b) || is_some (unwrap_or o None)) ≡ is_some (unwrap_or o b)
    one None None = refl
    one None (Some n) = refl
    one (Some w) b = refl

    by : (y : Sym) → (has_symbol kept y || has_symbol put y) ≡ is_linked links (symbol_of id) y
    by (Ident l n) =
        ap₂ (λ a b. a || b)
        (kept_of (λ z. not (came_later late id z)) (links_from id base) (l, n)
        ∙ ap (λ c. not (came_later late id (l, n)) && c) (ap (λ (es : Facts). has_symbol (ends es) (symbol_of (l, n))) (side_by_side id base base_sorted) ∙ ends_linked id base (l, n)))
        (ap (λ (es : Late). has_symbol (ends (filter (λ e. is_some e.1) es)) (symbol_of (l, n))) (side_by_side id late late_sorted) ∙ put_ends id late (l, n) late_sorted)
        ∙ one (lookup (λ k. is_eq (place_cmp (id, (l, n)) k)) late) (lookup (λ k. is_eq (place_cmp (id, (l, n)) k)) base)
        ∙ ap is_some (value_is base late (id, (l, n)))
    by (Word w) = ap₂ (λ a b. a || b) (no_other (filter (λ e. not (came_later late id e.0.1)) (links_from id base)) (Word w) refl) (no_other (filter (λ e. is_some e.1) (links_from id late)) (Word w) refl)
    by (Int z) = ap₂ (λ a b. a || b) (no_other (filter (λ e. not (came_later late id e.0.1)) (links_from id base)) (Int z) refl) (no_other (filter (λ e. is_some e.1) (links_from id late)) (Int z) refl)
