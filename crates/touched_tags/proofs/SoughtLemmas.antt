-- What is found by looking is all that goes and all that comes.
use Rattle.std.proofs.Common.{◌≡◌, ◌∙◌, refl, sym, ap, ap₂, subst, ℕ, Bool, true, false, cond, ◌&&◌, not, ◌⊎◌, inl, inr, List, [], filter, filter_map, map, Option, Some, None, is_some}
use Rattle.soar_sym.specs.Words.{IsTable, Texts}
use Rattle.soar_sym.specs.declared.symbol.Sym.{Sym}
use Rattle.soar_sym.specs.declared.symbol.Triple.{Triple}
use Rattle.soar_wm.specs.declared.element.Element.{Element}
use Rattle.soar_wm.specs.WorkingMemory.{IsDistinct, IsLawful, IsRising, WorkingMemory, element_of, triple_of}
use Rattle.defs_soar.specs.declared.goal.Goal.{Goal}
use Rattle.defs_soar.specs.Laws.{IsIn}
use Rattle.defs_soar.specs.Settling.{new_triples, stays}
use Rattle.defs_soar.specs.Sorted.{has_symbol, in_order}
use Rattle.defs_soar.specs.Values.{has_triple_among}
use Rattle.settling_laws.proofs.ChangeLemmas.{table_tells_apart}
use Rattle.settling_laws.proofs.FilterLemmas.{filter_has}
use Rattle.settling_laws.proofs.MemberLemmas.{filter_passes, filter_within}
use Rattle.settling_laws.proofs.OrderLemmas.{has_filtered, order_is_of_members}
use Rattle.settling_laws.proofs.SlotLemmas.{has_its_triple}
use Rattle.soar_settle.specs.Known.{AreTriplesKnown}
use Rattle.soar_settle.specs.Tagging.{IsTripleKnown}
use Rattle.touched_tags.specs.Looked.{IsLooked, comes, elements_in, first_with, gone_of, is_flagged, is_standing, unless_stays, with_elements}
use Rattle.touched_tags.specs.Plans.{IsSought}
use Rattle.touched_tags.specs.Touched.{has_plain}
use Rattle.touched_tags.proofs.FirstLemmas.{first_is, found_when, in_at_tag, in_is_first}
use Rattle.touched_tags.proofs.KnownLemmas.{known_each}
use Rattle.touched_tags.proofs.LookedLemmas.{come_is_looked, gone_is_looked}
use Rattle.touched_tags.proofs.MemberLemmas.{in_filter_map, of_filter_map, same_some}
use Rattle.touched_tags.proofs.TagLemmas.{all_rise, each_there, elements_rise, of_all, rising_filter, rising_same}
use Rattle.soar_settle.proofs.TripleOrderLemmas.{both}

apart : true ≡ false → ⊥
apart h = cc

come_is_kept : (goals : List Goal) (kept : List Triple) (elements : List Element) (looked : List Triple) (t : Triple) → IsIn t (filter (comes goals kept elements) looked)
    → has_triple_among kept t ≡ true
come_is_kept goals kept elements looked t i =
    (both (has_triple_among kept t) (not (is_standing goals (first_with t elements))) (filter_passes (comes goals kept elements) looked t i)).0

module _ (goals : List Goal) (kept : List Triple) (elements : List Element) (looked : List Triple) (rising : IsRising elements) (distinct : IsDistinct elements) where
  abbrev gone : List Element
  gone = filter_map (gone_of goals kept elements) looked

  abbrev goes : Element → Bool
  goes e = not (stays goals kept e)

  -- ---- what goes

  of_gone : (e : Element) → IsIn e gone → IsIn e elements × (stays goals kept e ≡ false)
  of_gone e i = let there = of_filter_map (gone_of goals kept elements) looked e i in by there.0 (first_with there.0 elements) refl there.2
    where
      choose : (f : Element) (b : Bool) → stays goals kept f ≡ b → cond b None (Some f) ≡ Some e → IsIn f elements → IsIn e elements × (stays goals kept e ≡ false)
      choose f true p q j = absurd (cc)
      choose f false p q j = let is = same_some f e q in (subst (λ g. IsIn g elements) is j, ap (stays goals kept) (sym is) ∙ p)

      by : (t : Triple) (o : Option Element) → first_with t elements ≡ o → unless_stays goals kept o ≡ Some e → IsIn e elements × (stays goals kept e ≡ false)
      by t None p q = absurd (cc)
      by t (Some f) p q = choose f (stays goals kept f) refl q (first_is t elements f p).0

  -- those of one tag are one
  one_of_tag : (f g : Element) → IsIn f gone → IsIn g gone → f.tag ≡ g.tag → f ≡ g
  one_of_tag f g i j same =
      same_some f g (sym (in_at_tag f elements rising (of_gone f i).0) ∙ ap (λ n. element_of n elements) same ∙ in_at_tag g elements rising (of_gone g j).0)

  module _ (gone_is_looked : (e : Element) → IsIn e elements → stays goals kept e ≡ false → IsIn (triple_of e) looked) where
    to_gone : (e : Element) → IsIn e elements → stays goals kept e ≡ false → IsIn e gone
    to_gone e i out =
        in_filter_map (gone_of goals kept elements) looked (triple_of e) e (gone_is_looked e i out)
        (ap (unless_stays goals kept) (in_is_first e elements distinct i) ∙ ap (λ b. cond b None (Some e)) out)

    going_are : elements_in (with_elements gone []) ≡ filter goes elements
    going_are =
        rising_same (elements_in (with_elements gone [])) (filter goes elements)
        (elements_rise (with_elements gone []) (all_rise gone [] tt)) (rising_filter goes elements rising) forth back
      where
        turned : (b : Bool) → not b ≡ true → b ≡ false
        turned true h = absurd (cc)
        turned false h = refl

        forth : (e : Element) → IsIn e (elements_in (with_elements gone [])) → IsIn e (filter goes elements)
        forth e i = by (of_all gone [] e i)
          where
            by : IsIn e gone ⊎ ⊥ → IsIn e (filter goes elements)
            by (inl j) = let there = of_gone e j in filter_has goes elements e there.0 (ap not there.1)
            by (inr j) = absurd j

        back : (e : Element) → IsIn e (filter goes elements) → IsIn e (elements_in (with_elements gone []))
        back e i = each_there gone one_of_tag e (to_gone e (filter_within goes elements e i) (turned (stays goals kept e) (filter_passes goes elements e i)))

  -- ---- what comes

  abbrev staying : List Element
  staying = filter (stays goals kept) elements

  -- a kept triple is one of those that stay exactly if an element with the right flag has it
  stood : (t : Triple) → has_triple_among kept t ≡ true → has_triple_among (map triple_of staying) t ≡ is_standing goals (first_with t elements)
  stood t among = found_when t staying ∙ by (first_with t elements) refl (first_with t staying) refl
    where
      must : (e : Element) → first_with t elements ≡ Some e → first_with t staying ≡ None → (b : Bool) → is_flagged goals e ≡ b → false ≡ b
      must e p q false r = refl
      must e p q true r =
          let found = first_is t elements e p in
          let there = filter_has (stays goals kept) elements e found.0 (ap₂ (λ a b. a && b) (ap (has_triple_among kept) found.1 ∙ among) r) in
          let has = ap (has_triple_among (map triple_of staying)) (sym found.1) ∙ has_its_triple staying e there in
          absurd (apart (sym has ∙ found_when t staying ∙ ap is_some q))

      by : (o : Option Element) → first_with t elements ≡ o → (m : Option Element) → first_with t staying ≡ m → is_some m ≡ is_standing goals o
      by None p None q = refl
      by (Some e) p None q = must e p q (is_flagged goals e) refl
      by o p (Some f) q =
          let found = first_is t staying f q in
          let there = filter_within (stays goals kept) elements f found.0 in
          let flagged = (both (has_triple_among kept (triple_of f)) (is_flagged goals f) (filter_passes (stays goals kept) elements f found.0)).1 in
          let is : o ≡ Some f = sym p ∙ ap (λ u. first_with u elements) (sym found.1) ∙ in_is_first f elements distinct there in
          sym (ap (is_standing goals) is ∙ flagged)

  module _ (come_is_looked : (t : Triple) → has_triple_among kept t ≡ true → is_standing goals (first_with t elements) ≡ false → has_triple_among looked t ≡ true) where
    same_come : (t : Triple) → has_triple_among (filter (comes goals kept elements) looked) t ≡ has_triple_among (new_triples staying kept) t
    same_come t =
        has_filtered (comes goals kept elements) looked t
        ∙ by (has_triple_among kept t) refl (is_standing goals (first_with t elements)) refl (has_triple_among looked t) refl
        ∙ sym (has_filtered (λ u. not (has_triple_among (map triple_of staying) u)) kept t)
      where
        by : (a : Bool) → has_triple_among kept t ≡ a → (b : Bool) → is_standing goals (first_with t elements) ≡ b → (c : Bool) → has_triple_among looked t ≡ c
            → (has_triple_among looked t && (has_triple_among kept t && not (is_standing goals (first_with t elements)))) ≡ (has_triple_among kept t && not (has_triple_among (map triple_of staying) t))
        by false p b q true r = ap₂ (λ x y. x && (y && not (is_standing goals (first_with t elements)))) r p ∙ sym (ap (λ y. y && not (has_triple_among (map triple_of staying) t)) p)
        by false p b q false r = ap (λ x. x && (has_triple_among kept t && not (is_standing goals (first_with t elements)))) r ∙ sym (ap (λ y. y && not (has_triple_among (map triple_of staying) t)) p)
        by true p b q true r = ap (λ x. x && (has_triple_among kept t && not (is_standing goals (first_with t elements)))) r ∙ ap (λ y. has_triple_among kept t && not y) (sym (stood t p))
        by true p true q false r =
            ap (λ x. x && (has_triple_among kept t && not (is_standing goals (first_with t elements)))) r
            ∙ sym (ap₂ (λ x y. x && not y) p (stood t p ∙ q))
        by true p false q false r = absurd (apart (sym (come_is_looked t p q) ∙ r))

    triples_are : (words : Texts) → IsTable words → ((t : Triple) → has_triple_among kept t ≡ true → IsTripleKnown words t)
        → in_order words (filter (comes goals kept elements) looked) ≡ in_order words (new_triples staying kept)
    triples_are words table known =
        order_is_of_members words (filter (comes goals kept elements) looked) (new_triples staying kept)
        (table_tells_apart words (filter (comes goals kept elements) looked) table (λ t i. known t (come_is_kept goals kept elements looked t i)))
        same_come

-- ---- both, as they are come by

module _ (words : Texts) (before : List Sym) (goals : List Goal) (kept touched : List Triple) (m : WorkingMemory) (looked : List Triple) (table : IsTable words) (lawful : IsLawful m)
    (is : IsLooked before goals touched m.elements looked) (known : (t : Triple) → has_triple_among kept t ≡ true → IsTripleKnown words t)
    (same : (t : Triple) → has_plain touched t ≡ false → has_triple_among kept t ≡ has_triple_among (map triple_of m.elements) t)
    (flags : (e : Element) → IsIn e m.elements → e.of_state ≡ has_symbol before e.id) where
  pub sought : (seen come come_seen triples : List Triple) (entries : List (ℕ × Element)) (going : List Element) → seen ≡ looked → entries ≡ with_elements (filter_map (gone_of goals kept m.elements) seen) []
      → going ≡ elements_in entries → come ≡ filter (comes goals kept m.elements) seen → come_seen ≡ come → triples ≡ in_order words come_seen
      → IsSought words goals kept m (record { going = going; triples = triples })
  sought seen come come_seen triples entries going seen_is entries_are going_is come_is come_seen_is triples_is = record {
    lawful = lawful;
    going_are =
        going_is ∙ ap elements_in (entries_are ∙ ap (λ l. with_elements (filter_map (gone_of goals kept m.elements) l) []) seen_is)
        ∙ going_are goals kept m.elements looked lawful.rising lawful.distinct (gone_is_looked before goals kept touched m.elements looked is same flags);
    triples_are =
        triples_is ∙ ap (in_order words) (come_seen_is ∙ come_is ∙ ap (filter (comes goals kept m.elements)) seen_is)
        ∙ triples_are goals kept m.elements looked lawful.rising lawful.distinct (come_is_looked before goals kept touched m.elements looked is same flags) words table known;
  }

-- what comes is known
pub come_are_known : (words : Texts) (goals : List Goal) (kept : List Triple) (elements : List Element) (seen come come_seen : List Triple) → ((t : Triple) → has_triple_among kept t ≡ true → IsTripleKnown words t)
    → come ≡ filter (comes goals kept elements) seen → come_seen ≡ come → AreTriplesKnown words come_seen
come_are_known words goals kept elements seen come come_seen known come_is come_seen_is =
    let P : List Triple → Type 0 = AreTriplesKnown words in
    subst P (sym (come_seen_is ∙ come_is)) (known_each words (filter (comes goals kept elements) seen) (λ t i. known t (come_is_kept goals kept elements seen t i)))
