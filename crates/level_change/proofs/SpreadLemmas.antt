-- Steps over the triples that came, and over what was forgotten.
use Rattle.std.proofs.Common.{◌≡◌, ℕ, ◌+◌, ◌<◌, ◌&&◌, true, false, List, [], length, drop, get_or, sym, ap, ◌∙◌, inl, inr}
use Rattle.std.proofs.lemmas.List.{at_drop_more}
use Rattle.soar_sym.specs.Equality.{symbol_eq}
use Rattle.soar_sym.specs.declared.symbol.Sym.{Sym}
use Rattle.soar_sym.specs.declared.symbol.Triple.{Triple}
use Rattle.defs_soar.specs.Sorted.{has_symbol}
use Rattle.level_laws.specs.Labels.{leads, has_edge, Links, Labels}
use Rattle.level_laws.proofs.SymbolLemmas.{symbol_same, symbol_self}
use Rattle.level_laws.proofs.ReachedLemmas.{or_split, or_first, or_second, and_both, leads_parts}
use Rattle.level_change.specs.declared.forgetting.Had.{Had}
use Rattle.level_change.specs.Forgetting.{has_had, and_had}
use Rattle.level_change.specs.Passing.{SpreadsBut, and_link, and_links, and_edges}
use Rattle.level_change.proofs.ButLemmas.{but_left}

-- the same symbols make the link
pair_self : (a b x y : Sym) → a ≡ x → b ≡ y → (symbol_eq a x && symbol_eq b y) ≡ true
pair_self a b x y p q = and_both (symbol_eq a x) (symbol_eq b y) (ap (λ z. symbol_eq z x) p ∙ symbol_self x) (ap (λ z. symbol_eq z y) q ∙ symbol_self y)

pub come_step : (links : Links) (goals : List Sym) (told : Labels) (waiting : List Sym) (come : List Triple) (i : ℕ) (d : Triple) (left : Links) → i < length come
    → SpreadsBut links goals told waiting (and_edges (drop i come) left) → SpreadsBut links goals told waiting (and_link (get_or come i d).id (get_or come i d).value (and_edges (drop (i + 1) come) left))
come_step links goals told waiting come i d left lt =
    but_left links goals told waiting (and_edges (drop i come) left) (and_link t.id t.value (and_edges (drop (i + 1) come) left))
    (λ a b n link at l. elim (or_split (has_edge (drop i come) a b) (left a b) l) [
      | inl e ↦ elim (or_split (leads a b t) (has_edge (drop (i + 1) come) a b) (sym (at_drop_more (λ l. has_edge l a b) come i d lt) ∙ e)) [
        | inl f ↦ let p = leads_parts a b t f in or_first (symbol_eq a t.id && symbol_eq b t.value) (and_edges (drop (i + 1) come) left a b) (pair_self a b t.id t.value p.0 p.1)
        | inr f ↦ or_second (symbol_eq a t.id && symbol_eq b t.value) (and_edges (drop (i + 1) come) left a b) (or_first (has_edge (drop (i + 1) come) a b) (left a b) f)
      ]
      | inr e ↦ or_second (symbol_eq a t.id && symbol_eq b t.value) (and_edges (drop (i + 1) come) left a b) (or_second (has_edge (drop (i + 1) come) a b) (left a b) e)
    ])
  where
    t : Triple
    t = get_or come i d

-- a link that is not there is passed over
pub come_past : (links : Links) (goals : List Sym) (told : Labels) (waiting : List Sym) (come : List Triple) (i : ℕ) (d : Triple) (left : Links) → i < length come → links (get_or come i d).id (get_or come i d).value ≡ false
    → SpreadsBut links goals told waiting (and_edges (drop i come) left) → SpreadsBut links goals told waiting (and_edges (drop (i + 1) come) left)
come_past links goals told waiting come i d left lt none =
    but_left links goals told waiting (and_edges (drop i come) left) (and_edges (drop (i + 1) come) left)
    (λ a b n link at l. elim (or_split (has_edge (drop i come) a b) (left a b) l) [
      | inl e ↦ elim (or_split (leads a b t) (has_edge (drop (i + 1) come) a b) (sym (at_drop_more (λ l. has_edge l a b) come i d lt) ∙ e)) [
        | inl f ↦ let p = leads_parts a b t f in absurd (let c : true ≡ false = sym link ∙ ap (λ z. links z b) p.0 ∙ ap (links t.id) p.1 ∙ none in cc)
        | inr f ↦ or_first (has_edge (drop (i + 1) come) a b) (left a b) f
      ]
      | inr e ↦ or_second (has_edge (drop (i + 1) come) a b) (left a b) e
    ])
  where
    t : Triple
    t = get_or come i d

pub come_done : (links : Links) (goals : List Sym) (told : Labels) (waiting : List Sym) (left : Links) → SpreadsBut links goals told waiting (and_edges [] left) → SpreadsBut links goals told waiting left
come_done links goals told waiting left = but_left links goals told waiting (and_edges [] left) left (λ a b n link at l. l)

-- the links to what was forgotten come from its sources
pub had_step : (links : Links) (goals : List Sym) (told : Labels) (waiting : List Sym) (had : List Had) (i : ℕ) (d : Had) (sources : List Sym) (left : Links) → i < length had
    → ((x : Sym) → links x (get_or had i d).id ≡ has_symbol sources x)
    → SpreadsBut links goals told waiting (and_had (drop i had) left) → SpreadsBut links goals told waiting (and_links sources (get_or had i d).id (and_had (drop (i + 1) had) left))
had_step links goals told waiting had i d sources left lt all =
    but_left links goals told waiting (and_had (drop i had) left) (and_links sources h.id (and_had (drop (i + 1) had) left))
    (λ a b n link at l. elim (or_split (has_had (drop i had) b) (left a b) l) [
      | inl e ↦ elim (or_split (symbol_eq b h.id) (has_had (drop (i + 1) had) b) (sym (at_drop_more (λ l. has_had l b) had i d lt) ∙ e)) [
        | inl f ↦ or_first (has_symbol sources a && symbol_eq b h.id) (and_had (drop (i + 1) had) left a b) (and_both (has_symbol sources a) (symbol_eq b h.id) (sym (all a) ∙ ap (links a) (sym (symbol_same b h.id f)) ∙ link) f)
        | inr f ↦ or_second (has_symbol sources a && symbol_eq b h.id) (and_had (drop (i + 1) had) left a b) (or_first (has_had (drop (i + 1) had) b) (left a b) f)
      ]
      | inr e ↦ or_second (has_symbol sources a && symbol_eq b h.id) (and_had (drop (i + 1) had) left a b) (or_second (has_had (drop (i + 1) had) b) (left a b) e)
    ])
  where
    h : Had
    h = get_or had i d

pub had_done : (links : Links) (goals : List Sym) (told : Labels) (waiting : List Sym) (left : Links) → SpreadsBut links goals told waiting (and_had [] left) → SpreadsBut links goals told waiting left
had_done links goals told waiting left = but_left links goals told waiting (and_had [] left) left (λ a b n link at l. l)
