-- Maps by key as lists in order.
use Rattle.std.proofs.Common.{◌≡◌, refl, sym, ◌∙◌, ap, ap₂, subst, ℕ, nat_lt, Bool, true, false, ◌==◌, cond, is_some, Option, Some, None, arith, List, [], ◌∷◌, map}
use Rattle.std.proofs.lemmas.List.Elements.{All-head, All-tail}
use Rattle.std.proofs.lemmas.Map.Keys.{sorted_tail}
use Rattle.std.proofs.lemmas.Map.Views.{All-after_first}
use Rattle.std.specs.BTreeMap.{insert_entry}
use Rattle.std.specs.List.{All}
use Rattle.std.specs.List.Sorted.{IsStrictlySortedBy}
use Rattle.std.specs.Map.{lookup}
use Rattle.std.specs.Ordering.{is_eq, match_ordering, nat_cmp}
use Rattle.std.specs.declared.cmp.Ordering.{Ordering}
use Rattle.std.specs.declared.cmp.Ordering.TheVariants.{Less, Equal, Greater}
use Rattle.soar_wm.specs.declared.element.Element.{Element}
use Rattle.defs_soar.specs.Explanation.{at_its_tag}
use Rattle.chunk_back.specs.Keyed.{element_in, elements_in, HaveOwnKeys, IsTagged, tag_key}
use Rattle.chunk_back.proofs.Lists.{same_number}

-- one more at the place of its key, where that is new
abbrev pub put : {K X : Type 0} → (K → K → Ordering) → (X → K) → X → List X → List X
put cmp key x [] = x ∷ []
put cmp key x (y ∷ ys) = match_ordering (cmp (key x) (key y)) (x ∷ y ∷ ys) (y ∷ ys) (y ∷ put cmp key x ys)

module _ {K V X : Type 0} (cmp : K → K → Ordering) (key : X → K) (seen : K × V → X) where
  abbrev found : K → List (K × V) → Option V
  found k entries = lookup (λ q. is_eq (cmp k q)) entries

  -- a new key goes to its place
  pub put_new : (k : K) (v : V) (entries : List (K × V)) → HaveOwnKeys key seen entries → k ≡ key (seen (k, v)) → found k entries ≡ None
      → map seen (insert_entry cmp entries k v) ≡ put cmp key (seen (k, v)) (map seen entries)
  put_new k v [] h own none = refl
  put_new k v (e ∷ entries) h own none =
      go (cmp k e.0) none (put_new k v entries h.1 own) ∙ ap (λ o. match_ordering o (seen (k, v) ∷ seen e ∷ map seen entries) (seen e ∷ map seen entries) (seen e ∷ put cmp key (seen (k, v)) (map seen entries))) (ap₂ cmp own h.0)
    where
      go : (o : Ordering) → cond (is_eq o) (Some e.1) (found k entries) ≡ None → (found k entries ≡ None → map seen (insert_entry cmp entries k v) ≡ put cmp key (seen (k, v)) (map seen entries))
          → map seen (match_ordering o ((k, v) ∷ e ∷ entries) ((e.0, v) ∷ entries) (e ∷ insert_entry cmp entries k v))
          ≡ match_ordering o (seen (k, v) ∷ seen e ∷ map seen entries) (seen e ∷ map seen entries) (seen e ∷ put cmp key (seen (k, v)) (map seen entries))
      go Less n later = refl
      go Equal n later = absurd (cc)
      go Greater n later = ap (λ l. seen e ∷ l) (later n)

  pub own_new : (k : K) (v : V) (entries : List (K × V)) → HaveOwnKeys key seen entries → k ≡ key (seen (k, v)) → found k entries ≡ None → HaveOwnKeys key seen (insert_entry cmp entries k v)
  own_new k v [] h own none = (own, tt)
  own_new k v (e ∷ entries) h own none = go (cmp k e.0) none (own_new k v entries h.1 own)
    where
      go : (o : Ordering) → cond (is_eq o) (Some e.1) (found k entries) ≡ None → (found k entries ≡ None → HaveOwnKeys key seen (insert_entry cmp entries k v))
          → HaveOwnKeys key seen (match_ordering o ((k, v) ∷ e ∷ entries) ((e.0, v) ∷ entries) (e ∷ insert_entry cmp entries k v))
      go Less n later = (own, h)
      go Equal n later = absurd (cc)
      go Greater n later = (h.0, later n)

  -- a key that is there changes nothing
  module _ (less : (a b c : K) → cmp a b ≡ Less → cmp b c ≡ Less → cmp a c ≡ Less) where
    none_above : (k q : K) (entries : List (K × V)) → cmp k q ≡ Less → All (λ y. cmp q y ≡ Less) (map (λ e. e.0) entries) → found k entries ≡ None
    none_above k q [] l h = refl
    none_above k q (e ∷ entries) l h =
        ap (λ o. cond (is_eq o) (Some e.1) (found k entries)) (less k q e.0 l (All-head (λ y. cmp q y ≡ Less) e.0 (map (λ d. d.0) entries) h))
        ∙ none_above k q entries l (All-tail (λ y. cmp q y ≡ Less) e.0 (map (λ d. d.0) entries) h)

    pub put_known : (x : X) (v : V) (entries : List (K × V)) → HaveOwnKeys key seen entries → IsStrictlySortedBy cmp (map (λ e. e.0) entries) → is_some (found (key x) entries) ≡ true
        → put cmp key x (map seen entries) ≡ map seen entries
    put_known x v [] h s there = absurd (cc)
    put_known x v (e ∷ entries) h s there =
        ap (λ o. match_ordering o (x ∷ seen e ∷ map seen entries) (seen e ∷ map seen entries) (seen e ∷ put cmp key x (map seen entries))) (ap (cmp (key x)) (sym h.0))
        ∙ go (cmp (key x) e.0) refl there (put_known x v entries h.1 (sorted_tail cmp e.0 (map (λ d. d.0) entries) s))
      where
        go : (o : Ordering) → cmp (key x) e.0 ≡ o → is_some (cond (is_eq o) (Some e.1) (found (key x) entries)) ≡ true → (is_some (found (key x) entries) ≡ true → put cmp key x (map seen entries) ≡ map seen entries)
            → match_ordering o (x ∷ seen e ∷ map seen entries) (seen e ∷ map seen entries) (seen e ∷ put cmp key x (map seen entries)) ≡ seen e ∷ map seen entries
        go Less p t later = let none = none_above (key x) e.0 entries p (All-after_first cmp e.0 (map (λ d. d.0) entries) s) in let no : true ≡ false = sym t ∙ ap is_some none in absurd (cc)
        go Equal p t later = refl
        go Greater p t later = ap (λ l. seen e ∷ l) (later t)

-- ---- by tag

nat_less : (a b c : ℕ) → nat_cmp a b ≡ Less → nat_cmp b c ≡ Less → nat_cmp a c ≡ Less
nat_less a b c p q = grind arith

at_tag : (e : Element) (fs : List Element) → put nat_cmp tag_key e fs ≡ at_its_tag e fs
at_tag e [] = refl
at_tag e (f ∷ fs) = go (e.tag == f.tag) refl (nat_lt e.tag f.tag) refl (at_tag e fs)
  where
    go : (a : Bool) → (e.tag == f.tag) ≡ a → (b : Bool) → nat_lt e.tag f.tag ≡ b → put nat_cmp tag_key e fs ≡ at_its_tag e fs
        → match_ordering (cond b Less (cond a Equal Greater)) (e ∷ f ∷ fs) (f ∷ fs) (f ∷ put nat_cmp tag_key e fs) ≡ cond a (f ∷ fs) (cond b (e ∷ f ∷ fs) (f ∷ at_its_tag e fs))
    go true p true q later = let same : e.tag ≡ f.tag = same_number e.tag f.tag p in absurd (grind arith)
    go true p false q later = refl
    go false p true q later = refl
    go false p false q later = ap (λ l. f ∷ l) later

pub tag_new : (e : Element) (entries : List (ℕ × Element)) → IsTagged entries → lookup (λ q. is_eq (nat_cmp e.tag q)) entries ≡ None → elements_in (insert_entry nat_cmp entries e.tag e) ≡ at_its_tag e (elements_in entries)
tag_new e entries h none = put_new nat_cmp tag_key element_in e.tag e entries h.own_keys refl none ∙ at_tag e (elements_in entries)

pub tag_known : (e : Element) (entries : List (ℕ × Element)) → IsTagged entries → is_some (lookup (λ q. is_eq (nat_cmp e.tag q)) entries) ≡ true → at_its_tag e (elements_in entries) ≡ elements_in entries
tag_known e entries h there = sym (at_tag e (elements_in entries)) ∙ put_known nat_cmp tag_key element_in nat_less e e entries h.own_keys h.in_order there

pub is_none : {A : Type 0} (o : Option A) → is_some o ≡ false → o ≡ None
is_none None e = refl
is_none (Some a) e = absurd (cc)

pub tagged_new : (e : Element) (entries new : List (ℕ × Element)) → IsTagged entries → lookup (λ q. is_eq (nat_cmp e.tag q)) entries ≡ None → new ≡ insert_entry nat_cmp entries e.tag e → IsStrictlySortedBy nat_cmp (map (λ d. d.0) new) → IsTagged new
tagged_new e entries new h none is sorted = record {
  own_keys = subst (HaveOwnKeys tag_key element_in) (sym is) (own_new nat_cmp tag_key element_in e.tag e entries h.own_keys refl none);
  in_order = sorted;
}
