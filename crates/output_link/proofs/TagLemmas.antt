-- The triples of elements by tag.
use Rattle.std.proofs.Common.{◌≡◌, ℕ, ◌<◌, Bool, true, false, cond, ◌&&◌, ◌||◌, not, List, [], ◌∷◌, filter, map, refl, sym, ap, ◌∙◌, arith}
use Rattle.std.specs.BTreeMap.{insert_entry}
use Rattle.std.specs.Ordering.{match_ordering, nat_cmp}
use Rattle.std.specs.declared.cmp.Ordering.TheVariants.{Less, Equal, Greater}
use Rattle.soar_sym.specs.Equality.{symbol_eq}
use Rattle.soar_sym.specs.declared.symbol.Sym.{Sym}
use Rattle.soar_sym.specs.declared.symbol.Triple.{Triple}
use Rattle.soar_wm.specs.declared.element.Element.{Element}
use Rattle.soar_wm.specs.WorkingMemory.{elements_of, triple_of, IsBelow, IsRising}
use Rattle.settling_laws.proofs.FilterLemmas.{filter_same}
use Rattle.level_laws.proofs.SymbolLemmas.{symbol_same}
use Rattle.output_link.specs.Walking.{kept_with, shown, Tagged, tagged, with_elements}

pub untagged : (es : List Element) → map (λ e. e.1) (tagged es) ≡ map triple_of es
untagged [] = refl
untagged (e ∷ es) = ap (λ l. triple_of e ∷ l) (untagged es)

less : (m n : ℕ) → m < n → nat_cmp m n ≡ Less
less m n h = grind arith

greater : (m n : ℕ) → m < n → nat_cmp n m ≡ Greater
greater m n h = grind arith

equal : (n : ℕ) → nat_cmp n n ≡ Equal
equal n = grind arith

below_filter : (tag : ℕ) (p : Element → Bool) (es : List Element) → IsBelow tag es → IsBelow tag (filter p es)
below_filter tag p [] below = tt
below_filter tag p (e ∷ es) below = by (p e) (below_filter tag p es below.1)
  where
    by : (b : Bool) → IsBelow tag (filter p es) → IsBelow tag (cond b (e ∷ filter p es) (filter p es))
    by true rest = (below.0, rest)
    by false rest = rest

-- a tag below all comes first
put_first : (tag : ℕ) (t : Triple) (es : List Element) → IsBelow tag es → insert_entry nat_cmp (tagged es) tag t ≡ (tag, t) ∷ tagged es
put_first tag t [] below = refl
put_first tag t (e ∷ es) below =
    ap (λ o. match_ordering o ((tag, t) ∷ (e.tag, triple_of e) ∷ tagged es) ((e.tag, t) ∷ tagged es) ((e.tag, triple_of e) ∷ insert_entry nat_cmp (tagged es) tag t)) (less tag e.tag below.0)

-- later tags go behind
put_behind : (tag : ℕ) (t : Triple) (es : List Element) (kept : Tagged) → IsBelow tag es → with_elements es ((tag, t) ∷ kept) ≡ (tag, t) ∷ with_elements es kept
put_behind tag t [] kept below = refl
put_behind tag t (e ∷ es) kept below =
    ap (λ o. with_elements es (match_ordering o ((e.tag, triple_of e) ∷ (tag, t) ∷ kept) ((tag, triple_of e) ∷ kept) ((tag, t) ∷ insert_entry nat_cmp kept e.tag (triple_of e)))) (greater tag e.tag below.0)
    ∙ put_behind tag t es (insert_entry nat_cmp kept e.tag (triple_of e)) below.1

-- elements that are put among others of the same list
put_among : (p q : Element → Bool) (es : List Element) → IsRising es → with_elements (filter p es) (tagged (filter q es)) ≡ tagged (filter (λ e. p e || q e) es)
put_among p q [] rising = refl
put_among p q (e ∷ es) rising = by (p e) (q e) (put_among p q es rising.1)
  where
    behind : with_elements (filter p es) (tagged (filter q es)) ≡ tagged (filter (λ d. p d || q d) es)
        → with_elements (filter p es) ((e.tag, triple_of e) ∷ tagged (filter q es)) ≡ (e.tag, triple_of e) ∷ tagged (filter (λ d. p d || q d) es)
    behind h = put_behind e.tag (triple_of e) (filter p es) (tagged (filter q es)) (below_filter e.tag p es rising.0) ∙ ap (λ l. (e.tag, triple_of e) ∷ l) h

    by : (a b : Bool) → with_elements (filter p es) (tagged (filter q es)) ≡ tagged (filter (λ d. p d || q d) es)
        → with_elements (cond a (e ∷ filter p es) (filter p es)) (tagged (cond b (e ∷ filter q es) (filter q es))) ≡ tagged (cond (a || b) (e ∷ filter (λ d. p d || q d) es) (filter (λ d. p d || q d) es))
    by false false h = h
    by false true h = behind h
    by true false h = ap (with_elements (filter p es)) (put_first e.tag (triple_of e) (filter q es) (below_filter e.tag q es rising.0)) ∙ behind h
    by true true h =
        ap (λ o. with_elements (filter p es) (match_ordering o ((e.tag, triple_of e) ∷ (e.tag, triple_of e) ∷ tagged (filter q es)) ((e.tag, triple_of e) ∷ tagged (filter q es)) ((e.tag, triple_of e) ∷ insert_entry nat_cmp (tagged (filter q es)) e.tag (triple_of e)))) (equal e.tag)
        ∙ behind h

-- the triples of one identifier more
pub kept_more : (is_goal : Sym → Bool) (elements : List Element) → IsRising elements → (id : Sym) (old new : Sym → Bool) → ((s : Sym) → new s ≡ (old s || symbol_eq s id))
    → kept_with is_goal elements (tagged (shown old is_goal elements)) id ≡ tagged (shown new is_goal elements)
kept_more is_goal elements rising id old new more = by (is_goal id) refl
  where
    of_goal : (is_goal id ≡ true) → (s : Sym) → (old s && not (is_goal s)) ≡ (new s && not (is_goal s))
    of_goal g s = go (symbol_eq s id) refl (old s) ∙ ap (λ b. b && not (is_goal s)) (sym (more s))
      where
        go : (a : Bool) → symbol_eq s id ≡ a → (b : Bool) → (b && not (is_goal s)) ≡ ((b || a) && not (is_goal s))
        go true e b = both b (ap is_goal (symbol_same s id e) ∙ g)
          where
            both : (b : Bool) → is_goal s ≡ true → (b && not (is_goal s)) ≡ ((b || true) && not (is_goal s))
            both true k = refl
            both false k = sym (ap not k)
        go false e true = refl
        go false e false = refl

    of_other : (is_goal id ≡ false) → (s : Sym) → (symbol_eq s id || (old s && not (is_goal s))) ≡ (new s && not (is_goal s))
    of_other g s = go (symbol_eq s id) refl (old s) ∙ ap (λ b. b && not (is_goal s)) (sym (more s))
      where
        go : (a : Bool) → symbol_eq s id ≡ a → (b : Bool) → (a || (b && not (is_goal s))) ≡ ((b || a) && not (is_goal s))
        go true e true = sym (ap not (ap is_goal (symbol_same s id e) ∙ g))
        go true e false = sym (ap not (ap is_goal (symbol_same s id e) ∙ g))
        go false e true = refl
        go false e false = refl

    by : (b : Bool) → is_goal id ≡ b → cond b (tagged (shown old is_goal elements)) (with_elements (elements_of id elements) (tagged (shown old is_goal elements))) ≡ tagged (shown new is_goal elements)
    by true g = ap tagged (filter_same (λ e. old e.id && not (is_goal e.id)) (λ e. new e.id && not (is_goal e.id)) elements (λ e. of_goal g e.id))
    by false g =
        put_among (λ e. symbol_eq e.id id) (λ e. old e.id && not (is_goal e.id)) elements rising
        ∙ ap tagged (filter_same (λ e. symbol_eq e.id id || (old e.id && not (is_goal e.id))) (λ e. new e.id && not (is_goal e.id)) elements (λ e. of_other g e.id))
