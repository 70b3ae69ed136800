-- Walks from the output link, from their first identifier to their last.
use Rattle.std.proofs.Common.{◌≡◌, ℕ, ◌+◌, ◌<◌, ◌≤◌, Bool, true, false, cond, ◌||◌, not, List, [], ◌∷◌, length, map, take, get_or, refl, sym, ap, subst, ◌∙◌, inl, inr, arith}
use Rattle.std.proofs.lemmas.List.{take_all}
use Rattle.std.proofs.lemmas.List.Folds.{list_any_at, list_any_more}
use Rattle.soar_sym.specs.Equality.{symbol_eq}
use Rattle.soar_sym.specs.declared.symbol.Sym.{Sym}
use Rattle.soar_sym.specs.declared.symbol.Sym.TheVariants.{Ident}
use Rattle.soar_wm.specs.declared.element.Element.{Element}
use Rattle.soar_wm.specs.WorkingMemory.{elements_of, triple_of, IsRising}
use Rattle.defs_soar.specs.Architecture.{output_identifier}
use Rattle.defs_soar.specs.Levels.{reached_from}
use Rattle.defs_soar.specs.Sorted.{has_symbol}
use Rattle.level_laws.specs.Labels.{has_edge, Walks, starts, goes_on}
use Rattle.level_laws.proofs.ReachedLemmas.{or_first, or_split, reached_walked, walked_reached}
use Rattle.level_laws.proofs.SymbolLemmas.{symbol_same, symbol_self}
use Rattle.output_link.specs.Walking.{goes_on_at, gone_on, kept_with, shown, Tagged, tagged, Tells, Walked, with_values}
use Rattle.output_link.proofs.TagLemmas.{kept_more}
use Rattle.output_link.proofs.ValueLemmas.{edge_at, edge_of, front, grows, has_values, only_values}

-- ---- the start

none_kept : (is_goal : Sym → Bool) (es : List Element) → [] ≡ tagged (shown (λ s. false) is_goal es)
none_kept is_goal [] = refl
none_kept is_goal (e ∷ es) = none_kept is_goal es

pub walked_first : (is_goal : Sym → Bool) (elements : List Element) → IsRising elements → Walked is_goal elements (output_identifier ∷ []) 0 []
walked_first is_goal elements rising = record {
  rising = rising;
  own = or_first (symbol_eq output_identifier output_identifier) false (symbol_self output_identifier);
  sound = λ ids tells s h. elim (or_split (symbol_eq s output_identifier) false h) [
    | inl e ↦ subst (Walks (has_edge (map triple_of elements)) ids output_identifier) (sym (symbol_same s output_identifier e)) starts
    | inr e ↦ absurd (cc)
  ];
  closed = λ x y h go k. absurd (cc);
  are_kept = none_kept is_goal elements;
}

-- ---- a step

abbrev at_place : List Sym → ℕ → Sym
at_place reached i = get_or reached i (Ident 0 0)

grows_on : (is_goal : Sym → Bool) (elements : List Element) (reached : List Sym) (id s : Sym) → has_symbol reached s ≡ true → has_symbol (gone_on is_goal elements reached id) s ≡ true
grows_on is_goal elements reached id s h = by (goes_on_at is_goal id)
  where
    by : (b : Bool) → has_symbol (cond b (with_values reached (elements_of id elements)) reached) s ≡ true
    by true = grows (elements_of id elements) reached s h
    by false = h

front_on : (is_goal : Sym → Bool) (elements : List Element) (reached : List Sym) (id : Sym) (n : ℕ) → n ≤ length reached → take n (gone_on is_goal elements reached id) ≡ take n reached
front_on is_goal elements reached id n h = by (goes_on_at is_goal id)
  where
    by : (b : Bool) → take n (cond b (with_values reached (elements_of id elements)) reached) ≡ take n reached
    by true = front (elements_of id elements) n reached h
    by false = refl

-- one more from which walks have gone on
one_more : (is_goal : Sym → Bool) (elements : List Element) (reached : List Sym) (i : ℕ) → i < length reached → (s : Sym)
    → has_symbol (take (i + 1) (gone_on is_goal elements reached (at_place reached i))) s ≡ (has_symbol (take i reached) s || symbol_eq s (at_place reached i))
one_more is_goal elements reached i within s =
    ap (λ l. has_symbol l s) (front_on is_goal elements reached (at_place reached i) (i + 1) (omega (arith, within))) ∙ list_any_more (symbol_eq s) reached i (Ident 0 0) within

is_there : (reached : List Sym) (i : ℕ) → i < length reached → has_symbol reached (at_place reached i) ≡ true
is_there reached i within = list_any_at (symbol_eq (at_place reached i)) reached i (Ident 0 0) within (symbol_self (at_place reached i))

sound_on : (is_goal : Sym → Bool) (elements : List Element) (ids : List Sym) → Tells is_goal ids → (reached : List Sym) (id : Sym)
    → ((s : Sym) → has_symbol reached s ≡ true → Walks (has_edge (map triple_of elements)) ids output_identifier s) → has_symbol reached id ≡ true
    → (s : Sym) → has_symbol (gone_on is_goal elements reached id) s ≡ true → Walks (has_edge (map triple_of elements)) ids output_identifier s
sound_on is_goal elements ids tells reached id old there = by (goes_on_at is_goal id) refl
  where
    by : (b : Bool) → goes_on_at is_goal id ≡ b → (s : Sym) → has_symbol (cond b (with_values reached (elements_of id elements)) reached) s ≡ true → Walks (has_edge (map triple_of elements)) ids output_identifier s
    by false g = old
    by true g = only_values (Walks (has_edge (map triple_of elements)) ids output_identifier) (elements_of id elements) reached old (λ x y k.
        let p = edge_of id elements x y k in
        goes_on x y (old x (ap (has_symbol reached) p.0 ∙ there))
        (ap (λ b. symbol_eq x output_identifier || not b) (sym (tells x)) ∙ ap (goes_on_at is_goal) p.0 ∙ g) p.1)

pub walked_on : (is_goal : Sym → Bool) (elements : List Element) (reached : List Sym) (i : ℕ) (kept : Tagged) → Walked is_goal elements reached i kept → i < length reached
    → Walked is_goal elements (gone_on is_goal elements reached (at_place reached i)) (i + 1) (kept_with is_goal elements kept (at_place reached i))
walked_on is_goal elements reached i kept walked within = record {
  rising = walked.rising;
  own = grows_on is_goal elements reached id output_identifier walked.own;
  sound = λ ids tells. sound_on is_goal elements ids tells reached id (walked.sound ids tells) (is_there reached i within);
  closed = λ x y h go k. elim (or_split (has_symbol (take i reached) x) (symbol_eq x id) (sym (more x) ∙ h)) [
    | inl f ↦ grows_on is_goal elements reached id y (walked.closed x y f go k)
    | inr f ↦
        let same = symbol_same x id f in
        ap (λ b. has_symbol (cond b (with_values reached (elements_of id elements)) reached) y) (ap (goes_on_at is_goal) (sym same) ∙ go)
        ∙ has_values (elements_of id elements) reached id y (edge_at id elements y (ap (λ w. has_edge (map triple_of elements) w y) (sym same) ∙ k))
  ];
  are_kept = ap (λ l. kept_with is_goal elements l id) walked.are_kept
      ∙ kept_more is_goal elements walked.rising id (has_symbol (take i reached)) (has_symbol (take (i + 1) (gone_on is_goal elements reached id))) more;
}
  where
    id : Sym
    id = at_place reached i

    more : (s : Sym) → has_symbol (take (i + 1) (gone_on is_goal elements reached id)) s ≡ (has_symbol (take i reached) s || symbol_eq s id)
    more = one_more is_goal elements reached i within

-- ---- the end

same_truth : (a b : Bool) → (a ≡ true → b ≡ true) → (b ≡ true → a ≡ true) → a ≡ b
same_truth true b f g = sym (f refl)
same_truth false true f g = g refl
same_truth false false f g = refl

walk_met : (is_goal : Sym → Bool) (elements : List Element) (ids : List Sym) → Tells is_goal ids → (reached : List Sym) → has_symbol reached output_identifier ≡ true
    → ((x y : Sym) → has_symbol reached x ≡ true → goes_on_at is_goal x ≡ true → has_edge (map triple_of elements) x y ≡ true → has_symbol reached y ≡ true)
    → (s : Sym) → Walks (has_edge (map triple_of elements)) ids output_identifier s → has_symbol reached s ≡ true
walk_met is_goal elements ids tells reached own closed s starts = own
walk_met is_goal elements ids tells reached own closed s (goes_on x y w go e) =
    closed x y (walk_met is_goal elements ids tells reached own closed x w) (ap (λ b. symbol_eq x output_identifier || not b) (tells x) ∙ go) e

-- where walks have gone on from all that is reached, what is kept is what is shown
pub walked_all : (is_goal : Sym → Bool) (elements : List Element) (reached : List Sym) (i : ℕ) (kept : Tagged) → Walked is_goal elements reached i kept → length reached ≤ i
    → (ids : List Sym) → Tells is_goal ids → kept ≡ tagged (shown (has_symbol (reached_from ids (map triple_of elements) output_identifier)) (has_symbol ids) elements)
walked_all is_goal elements reached i kept walked past ids tells =
    walked.are_kept ∙ ap (λ p. tagged (shown p is_goal elements)) (λ j s. met s j) ∙ ap (λ p. tagged (shown (has_symbol (reached_from ids (map triple_of elements) output_identifier)) p elements)) (λ j s. tells s j)
  where
    all : take i reached ≡ reached
    all = take_all i reached past

    closed : (x y : Sym) → has_symbol reached x ≡ true → goes_on_at is_goal x ≡ true → has_edge (map triple_of elements) x y ≡ true → has_symbol reached y ≡ true
    closed x y h = walked.closed x y (ap (λ l. has_symbol l x) all ∙ h)

    met : (s : Sym) → has_symbol (take i reached) s ≡ has_symbol (reached_from ids (map triple_of elements) output_identifier) s
    met s =
        ap (λ l. has_symbol l s) all
        ∙ same_truth _ _ (λ h. walked_reached ids (map triple_of elements) output_identifier s (walked.sound ids tells s h))
        (λ h. walk_met is_goal elements ids tells reached walked.own closed s (reached_walked ids (map triple_of elements) output_identifier s h))
