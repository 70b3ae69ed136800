-- What does not stay, and what comes, is looked at.
use Rattle.std.proofs.Common.{◌≡◌, ◌∙◌, refl, sym, ap, ap₂, Bool, true, false, ◌&&◌, ◌||◌, List, [], ◌∷◌, ◌++◌, map, Option, Some, None, is_some}
use Rattle.std.proofs.lemmas.List.Folds.{list_any-append}
use Rattle.soar_sym.specs.Equality.{mark_eq, symbol_eq}
use Rattle.soar_sym.specs.declared.symbol.Sym.{Sym}
use Rattle.soar_sym.specs.declared.symbol.Triple.{Triple}
use Rattle.soar_wm.specs.declared.element.Element.{Element}
use Rattle.soar_wm.specs.WorkingMemory.{elements_of, triple_of}
use Rattle.defs_soar.specs.declared.goal.Goal.{Goal}
use Rattle.defs_soar.specs.Goals.{is_goal}
use Rattle.defs_soar.specs.Laws.{IsIn}
use Rattle.defs_soar.specs.Settling.{stays}
use Rattle.defs_soar.specs.Sorted.{has_symbol}
use Rattle.defs_soar.specs.Values.{has_triple_among, triple_eq}
use Rattle.settling_laws.proofs.FilterLemmas.{filter_has}
use Rattle.settling_laws.proofs.SlotLemmas.{has_its_triple, triple_itself}
use Rattle.settling_laws.proofs.SymbolOrderLemmas.{symbol_same}
use Rattle.touched_tags.specs.Looked.{IsLooked, both_marks, first_with, is_flagged, is_standing, triples_of, with_mark}
use Rattle.touched_tags.specs.Touched.{has_plain}
use Rattle.touched_tags.proofs.FirstLemmas.{first_is, found_when}
use Rattle.touched_tags.proofs.MemberLemmas.{has_member}
use Rattle.soar_settle.proofs.TripleOrderLemmas.{both}

apart : true ≡ false → ⊥
apart h = cc

and_false : (a : Bool) → (a && false) ≡ false
and_false true = refl
and_false false = refl

or_true : (a b : Bool) → b ≡ true → (a || b) ≡ true
or_true true b h = refl
or_true false b h = h

-- ---- of the parts

in_left : (a b : List Triple) (t : Triple) → has_triple_among a t ≡ true → has_triple_among (a ++ b) t ≡ true
in_left a b t h = list_any-append (triple_eq t) a b ∙ ap (λ x. x || has_triple_among b t) h

in_right : (a b : List Triple) (t : Triple) → has_triple_among b t ≡ true → has_triple_among (a ++ b) t ≡ true
in_right a b t h = list_any-append (triple_eq t) a b ∙ or_true (has_triple_among a t) (has_triple_among b t) h

abbrev is_plain : Triple → Triple → Bool
is_plain t u = symbol_eq u.id t.id && (symbol_eq u.attr t.attr && symbol_eq u.value t.value)

marked_as : (t u : Triple) → is_plain t u ≡ true → t ≡ with_mark u t.accept
marked_as t u h =
    let first = both (symbol_eq u.id t.id) (symbol_eq u.attr t.attr && symbol_eq u.value t.value) h in
    let second = both (symbol_eq u.attr t.attr) (symbol_eq u.value t.value) first.1 in
    λ i. record {
      id = sym (symbol_same u.id t.id first.0) i;
      attr = sym (symbol_same u.attr t.attr second.0) i;
      value = sym (symbol_same u.value t.value second.1) i;
      accept = t.accept;
    }

one_of_both : (t u : Triple) (mark : Bool) → t ≡ with_mark u mark → (rest : Bool) → (triple_eq t (with_mark u false) || (triple_eq t (with_mark u true) || rest)) ≡ true
one_of_both t u false is rest = ap (λ b. b || (triple_eq t (with_mark u true) || rest)) (ap (triple_eq t) (sym is) ∙ triple_itself t)
one_of_both t u true is rest =
    or_true (triple_eq t (with_mark u false)) (triple_eq t (with_mark u true) || rest) (ap (λ b. b || rest) (ap (triple_eq t) (sym is) ∙ triple_itself t))

named_is_there : (touched : List Triple) (t : Triple) → has_plain touched t ≡ true → has_triple_among (both_marks touched) t ≡ true
named_is_there [] t h = absurd (cc)
named_is_there (u ∷ touched) t h = by (is_plain t u) refl h (named_is_there touched t)
  where
    by : (b : Bool) → is_plain t u ≡ b → (b || has_plain touched t) ≡ true → (has_plain touched t ≡ true → has_triple_among (both_marks touched) t ≡ true)
        → (triple_eq t (with_mark u false) || (triple_eq t (with_mark u true) || has_triple_among (both_marks touched) t)) ≡ true
    by true e k later = one_of_both t u t.accept (marked_as t u e) (has_triple_among (both_marks touched) t)
    by false e k later =
        or_true (triple_eq t (with_mark u false)) (triple_eq t (with_mark u true) || has_triple_among (both_marks touched) t)
        (or_true (triple_eq t (with_mark u true)) (has_triple_among (both_marks touched) t) (later k))

of_id_is_there : (ids : List Sym) (elements : List Element) (e : Element) → IsIn e elements → has_symbol ids e.id ≡ true → has_triple_among (triples_of ids elements) (triple_of e) ≡ true
of_id_is_there [] elements e i h = absurd (cc)
of_id_is_there (id ∷ ids) elements e i h = by (symbol_eq e.id id) refl h (of_id_is_there ids elements e i)
  where
    by : (b : Bool) → symbol_eq e.id id ≡ b → (b || has_symbol ids e.id) ≡ true → (has_symbol ids e.id ≡ true → has_triple_among (triples_of ids elements) (triple_of e) ≡ true)
        → has_triple_among (map triple_of (elements_of id elements) ++ triples_of ids elements) (triple_of e) ≡ true
    by true p k later =
        in_left (map triple_of (elements_of id elements)) (triples_of ids elements) (triple_of e)
        (has_its_triple (elements_of id elements) e (filter_has (λ o. symbol_eq o.id id) elements e i p))
    by false p k later = in_right (map triple_of (elements_of id elements)) (triples_of ids elements) (triple_of e) (later k)

-- ---- of all

same_marks : (a b : Bool) → a ≡ b → mark_eq a b ≡ true
same_marks true true h = refl
same_marks true false h = absurd (apart h)
same_marks false true h = absurd (apart (sym h))
same_marks false false h = refl

module _ (before : List Sym) (goals : List Goal) (kept touched : List Triple) (elements : List Element) (looked : List Triple) (is : IsLooked before goals touched elements looked)
    (same : (t : Triple) → has_plain touched t ≡ false → has_triple_among kept t ≡ has_triple_among (map triple_of elements) t)
    (flags : (e : Element) → IsIn e elements → e.of_state ≡ has_symbol before e.id) where
  named : (t : Triple) → has_plain touched t ≡ true → has_triple_among looked t ≡ true
  named t h = ap (λ l. has_triple_among l t) is.looked_is ∙ in_left (both_marks touched) (triples_of is.changed elements) t (named_is_there touched t h)

  of_changed : (e : Element) → IsIn e elements → has_symbol is.changed e.id ≡ true → has_triple_among looked (triple_of e) ≡ true
  of_changed e i h =
      ap (λ l. has_triple_among l (triple_of e)) is.looked_is
      ∙ in_right (both_marks touched) (triples_of is.changed elements) (triple_of e) (of_id_is_there is.changed elements e i h)

  flagged_now : (e : Element) → IsIn e elements → has_symbol is.changed e.id ≡ false → is_flagged goals e ≡ true
  flagged_now e i h = same_marks e.of_state (is_goal goals e.id) (flags e i ∙ is.covers e.id h)

  pub gone_has : (e : Element) → IsIn e elements → stays goals kept e ≡ false → has_triple_among looked (triple_of e) ≡ true
  gone_has e i out = by (has_plain touched (triple_of e)) refl (has_symbol is.changed e.id) refl
    where
      stands : has_plain touched (triple_of e) ≡ false → has_symbol is.changed e.id ≡ false → stays goals kept e ≡ true
      stands p q = ap₂ (λ a b. a && b) (same (triple_of e) p ∙ has_its_triple elements e i) (flagged_now e i q)

      by : (a : Bool) → has_plain touched (triple_of e) ≡ a → (b : Bool) → has_symbol is.changed e.id ≡ b → has_triple_among looked (triple_of e) ≡ true
      by true p b q = named (triple_of e) p
      by false p true q = of_changed e i q
      by false p false q = absurd (apart (sym (stands p q) ∙ out))

  pub gone_is_looked : (e : Element) → IsIn e elements → stays goals kept e ≡ false → IsIn (triple_of e) looked
  gone_is_looked e i out = has_member looked (triple_of e) (gone_has e i out)

  pub come_is_looked : (t : Triple) → has_triple_among kept t ≡ true → is_standing goals (first_with t elements) ≡ false → has_triple_among looked t ≡ true
  come_is_looked t among none = by (has_plain touched t) refl
    where
      there : (o : Option Element) → first_with t elements ≡ o → is_some o ≡ true → is_standing goals o ≡ false → has_triple_among looked t ≡ true
      there None p q out = absurd (apart (sym q))
      there (Some e) p q out =
          let found = first_is t elements e p in
          ap (has_triple_among looked) (sym found.1)
          ∙ gone_has e found.0 (ap (λ b. has_triple_among kept (triple_of e) && b) out ∙ and_false (has_triple_among kept (triple_of e)))

      by : (a : Bool) → has_plain touched t ≡ a → has_triple_among looked t ≡ true
      by true p = named t p
      by false p = there (first_with t elements) refl (sym (found_when t elements) ∙ sym (same t p) ∙ among) none
