-- Lists of triples and of symbols, and what they have.
use Rattle.std.proofs.Common.{◌≡◌, refl, sym, ◌∙◌, ap, Bool, true, false, ◌&&◌, ◌||◌, not, inl, inr, List, [], ◌∷◌, filter, cond}
use Rattle.soar_sym.specs.Equality.{symbol_eq, mark_eq}
use Rattle.soar_sym.specs.declared.symbol.Sym.{Sym}
use Rattle.soar_sym.specs.declared.symbol.Triple.{Triple}
use Rattle.defs_soar.specs.Laws.{IsIn}
use Rattle.defs_soar.specs.Sorted.{has_symbol}
use Rattle.defs_soar.specs.Values.{has_triple_among, triple_eq}
use Rattle.settling_laws.specs.Changes.{has_value}
use Rattle.settling_laws.proofs.SlotLemmas.{triple_itself}
use Rattle.level_laws.proofs.SymbolLemmas.{symbol_turned, symbol_same}
use Rattle.soar_prefs.specs.Memory.{has_plain}
use Rattle.settle_changes.specs.Naming.{ids_of}

-- ---- tests

pub neither_of : (a b : Bool) → (a || b) ≡ false → (a ≡ false) × (b ≡ false)
neither_of false b h = (refl, h)
neither_of true b h = absurd (cc)

pub neither : (a b : Bool) → a ≡ false → b ≡ false → (a || b) ≡ false
neither false b e f = f
neither true b e f = absurd (cc)

-- ---- triples

-- a triple apart from its mark is not this one, so the triple is not
other : (t u : Triple) → has_value t.id t.attr t.value u ≡ false → triple_eq t u ≡ false
other t u h =
    unmarked (symbol_eq t.id u.id) (symbol_eq t.attr u.attr) (symbol_eq t.value u.value) (mark_eq t.accept u.accept)
    ((λ i. symbol_turned t.id u.id i && (symbol_turned t.attr u.attr i && symbol_turned t.value u.value i)) ∙ h)
  where
    unmarked : (a b c m : Bool) → (a && (b && c)) ≡ false → (a && (b && (c && m))) ≡ false
    unmarked true true true m h = absurd (cc)
    unmarked true true false m h = refl
    unmarked true false c m h = refl
    unmarked false b c m h = refl

-- what is not there, marks apart, is not there
pub plainly_absent : (triples : List Triple) (t : Triple) → has_plain triples t ≡ false → has_triple_among triples t ≡ false
plainly_absent [] t h = refl
plainly_absent (u ∷ triples) t h =
    let parts = neither_of (has_value t.id t.attr t.value u) (has_plain triples t) h in
    neither (triple_eq t u) (has_triple_among triples t) (other t u parts.0) (plainly_absent triples t parts.1)

pub has_member : (triples : List Triple) (t : Triple) → IsIn t triples → has_triple_among triples t ≡ true
has_member [] t i = absurd i
has_member (u ∷ triples) t (inl e) = ap (λ b. b || has_triple_among triples t) (ap (triple_eq t) e ∙ triple_itself t)
has_member (u ∷ triples) t (inr i) = later (triple_eq t u) (has_member triples t i)
  where
    later : (b : Bool) → has_triple_among triples t ≡ true → (b || has_triple_among triples t) ≡ true
    later true h = refl
    later false h = h

-- ---- the identifiers of triples

-- a triple whose identifier is not among theirs is none of these
pub unnamed : (triples : List Triple) (t : Triple) → has_symbol (ids_of triples) t.id ≡ false → has_plain triples t ≡ false
unnamed [] t h = refl
unnamed (u ∷ triples) t h =
    let parts = neither_of (symbol_eq t.id u.id) (has_symbol (ids_of triples) t.id) h in
    neither (has_value t.id t.attr t.value u) (has_plain triples t)
    (ap (λ b. b && (symbol_eq u.attr t.attr && symbol_eq u.value t.value)) (symbol_turned u.id t.id ∙ parts.0)) (unnamed triples t parts.1)

-- ---- what a test leaves

-- two tests that agree on what is there take the same
pub filter_alike : {A : Type 0} (p q : A → Bool) (xs : List A) → ((x : A) → IsIn x xs → p x ≡ q x) → filter p xs ≡ filter q xs
filter_alike p q [] h = refl
filter_alike p q (x ∷ xs) h =
    λ i. cond (h x (inl refl) i) (x ∷ filter_alike p q xs (λ y j. h y (inr j)) i) (filter_alike p q xs (λ y j. h y (inr j)) i)

-- the symbol is among those that pass the test
pub has_filtered_symbol : (p : Sym → Bool) (symbols : List Sym) (s : Sym) → has_symbol (filter p symbols) s ≡ (has_symbol symbols s && p s)
has_filtered_symbol p [] s = refl
has_filtered_symbol p (u ∷ symbols) s = by (p u) (symbol_eq s u) refl refl (has_filtered_symbol p symbols s)
  where
    by : (b c : Bool) → p u ≡ b → symbol_eq s u ≡ c → has_symbol (filter p symbols) s ≡ (has_symbol symbols s && p s)
        → has_symbol (cond b (u ∷ filter p symbols) (filter p symbols)) s ≡ ((c || has_symbol symbols s) && p s)
    by true true e f h = ap (λ d. d || has_symbol (filter p symbols) s) f ∙ sym (ap p (symbol_same s u f) ∙ e)
    by true false e f h = ap (λ d. d || has_symbol (filter p symbols) s) f ∙ h
    by false true e f h = h ∙ ap (λ d. has_symbol symbols s && d) (ap p (symbol_same s u f) ∙ e) ∙ none (has_symbol symbols s) ∙ sym (ap p (symbol_same s u f) ∙ e)
      where
        none : (d : Bool) → (d && false) ≡ false
        none true = refl
        none false = refl
    by false false e f h = h

-- What is spared by the symbols that do not pass a test is what passes the test, where all passes that no symbol of the list tells.
pub spared : {A : Type 0} (key : A → Sym) (stay : Sym → Bool) (symbols : List Sym) (xs : List A)
    → ((x : A) → IsIn x xs → has_symbol symbols (key x) ≡ false → stay (key x) ≡ true)
    → filter (λ x. not (has_symbol (filter (λ s. not (stay s)) symbols) (key x))) xs ≡ filter (λ x. stay (key x)) xs
spared key stay symbols xs h =
    filter_alike (λ x. not (has_symbol (filter (λ s. not (stay s)) symbols) (key x))) (λ x. stay (key x)) xs
    (
    λ x i. ap not (has_filtered_symbol (λ s. not (stay s)) symbols (key x))
    ∙ by (has_symbol symbols (key x)) (stay (key x)) (h x i)
    )
  where
    by : (a b : Bool) → (a ≡ false → b ≡ true) → not (a && not b) ≡ b
    by true true w = refl
    by true false w = refl
    by false true w = refl
    by false false w = sym (w refl)
