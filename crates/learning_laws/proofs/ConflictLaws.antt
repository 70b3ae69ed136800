-- A chunk's instance at its grounds is in the conflict set of the chunk alone.
use Rattle.std.proofs.Common.{◌≡◌, refl, sym, ◌∙◌, ap, subst, ℕ, suc, ◌+◌, Bool, true, false, ◌==◌, cond, inl, inr, ◌⊎◌, arith, List, [], ◌∷◌, ◌++◌, map, flat_map, filter, Option, Some, None}
use Rattle.std.specs.List.{list_any}
use Rattle.soar_sym.specs.Words.{Texts}
use Rattle.soar_sym.specs.declared.symbol.Sym.{Sym}
use Rattle.soar_rule.specs.declared.cond.Atom.{Atom}
use Rattle.soar_rule.specs.declared.cond.Atom.TheVariants.{Const, Var}
use Rattle.soar_rule.specs.Conditions.{Condition, positive, negated, conjunctive, Conditions, no_more, condition_and}
use Rattle.soar_rule.specs.Equality.{condition_eq}
use Rattle.soar_rule.specs.Renaming.{condition_with, conditions_with}
use Rattle.soar_rule.specs.Symbols.{constants_of_condition}
use Rattle.soar_wm.specs.declared.element.Element.{Element}
use Rattle.defs_match.specs.Conflict.{instance_of, instances_of}
use Rattle.defs_match.specs.Rows.{Row, empty_row, rows}
use Rattle.defs_match.specs.Testing.{symbol_of, symbol_at}
use Rattle.defs_soar.specs.declared.learning.Learning.{Learning}
use Rattle.defs_soar.specs.Candidate.{conditions_from, conditions_of, general_form, with_variables, variablized_place}
use Rattle.defs_soar.specs.CarriedTests.{Placed, placed_tests, carried_tests}
use Rattle.defs_soar.specs.ChainIdentifiers.{firings_of}
use Rattle.defs_soar.specs.ConditionOrder.{ordered_grounds, with_place}
use Rattle.defs_soar.specs.History.{ChainOf}
use Rattle.defs_soar.specs.Laws.{IsIn}
use Rattle.defs_soar.specs.Negations.{negations_in, negations_of, is_superstate_negation, bindings_in, bound_atom, renumbered_from, with_own_from, own_count, superstate_negations, without_repeats, with_own_variables, negations_taken_over}
use Rattle.defs_soar.specs.Results.{with_each_symbol}
use Rattle.defs_soar.specs.Variablized.{Variablized, of_identifier, of_own, variablized_in_conditions, variablized_in_wish, each_variablized_once}
use Rattle.defs_soar.specs.Sorted.{has_symbol}
use Rattle.defs_soar.specs.Stale.{blocking_rows, first_tag, Blocking, blocked_from}
use Rattle.defs_soar.specs.Values.{is_identifier}
use Rattle.learning_laws.specs.Lawful.{IsLawful}
use Rattle.learning_laws.specs.Laws.{chunk_of, ChunksMatch, GroundsAreMatched}
use Rattle.learning_laws.proofs.CarriedStand.{carried_stand}
use Rattle.learning_laws.proofs.Chunked.{IsChunked, is_chunked}
use Rattle.learning_laws.proofs.FieldLaws.{bindings_for, HaveSlots, known_for}
use Rattle.learning_laws.proofs.FitLaws.{all_fit, places_hold, places_from}
use Rattle.learning_laws.proofs.GroundedLaws.{grounded, ground_taken, none_without, order, place_stands, tags_tell, test_stands}
use Rattle.learning_laws.proofs.Lists.{in_append, in_left, in_right, in_map, in_mapped, in_flat_map, in_flat_mapped, filter_within}
use Rattle.learning_laws.proofs.MatchLaws.{Keeps, kept_through, places_after, places_with, walk}
use Rattle.learning_laws.proofs.Moving.{InCondition, Moves, move_inside, none_after, rows_inside}
use Rattle.learning_laws.proofs.Negations.{inside_same}
use Rattle.learning_laws.proofs.OrderLaws.{is_order_of}
use Rattle.learning_laws.proofs.PlacedLaws.{each_placed, IsPlaced, symbols_of}
use Rattle.learning_laws.proofs.ReplayLaws.{found_within, is_there_still}
use Rattle.learning_laws.proofs.SlotCover.{condition_covered, ground_slots, IsCovered, slots_in}
use Rattle.learning_laws.proofs.SlotLaws.{as_constant, as_identifier, number_of, own_apart, own_same, slot_kept}

-- ---- what is taken over are negations

abbrev pub IsNegation : Condition → Type 0
IsNegation (positive p) = ⊥
IsNegation (negated p) = Unit {0}
IsNegation (conjunctive inside) = Unit {0}

pub with_negation : (f : Atom → Atom) (d : Condition) → IsNegation d → IsNegation (condition_with f d)
with_negation f (positive p) h = h
with_negation f (negated p) h = h
with_negation f (conjunctive inside) h = h

in_negations : (cs : Conditions) (d : Condition) → IsIn d (negations_in cs) → IsNegation d
in_negations no_more d i = absurd i
in_negations (condition_and (positive p) cs) d i = in_negations cs d i
in_negations (condition_and (negated p) cs) d (inl e) = subst IsNegation e tt
in_negations (condition_and (negated p) cs) d (inr i) = in_negations cs d i
in_negations (condition_and (conjunctive inside) cs) d (inl e) = subst IsNegation e tt
in_negations (condition_and (conjunctive inside) cs) d (inr i) = in_negations cs d i

pub once_among : (seen ds : List Condition) (d : Condition) → IsIn d (without_repeats seen ds) → IsIn d seen ⊎ IsIn d ds
once_among seen [] d i = inl i
once_among seen (e ∷ ds) d i = go (list_any (condition_eq e) seen) (once_among (cond (list_any (condition_eq e) seen) seen (seen ++ e ∷ [])) ds d i)
  where
    go : (b : Bool) → IsIn d (cond b seen (seen ++ e ∷ [])) ⊎ IsIn d ds → IsIn d seen ⊎ IsIn d (e ∷ ds)
    go true (inl j) = inl j
    go true (inr j) = inr (inr j)
    go false (inl j) = elim (in_append d seen (e ∷ []) j) [ inl k ↦ inl k | inr k ↦ elim k [ inl q ↦ inr (inl q) | inr l ↦ absurd l ] ]
    go false (inr j) = inr (inr j)

own_negations : (first : ℕ) (ds : List Condition) → ((d : Condition) → IsIn d ds → IsNegation d) → (d : Condition) → IsIn d (with_own_variables first ds) → IsNegation d
own_negations first [] h d i = absurd i
own_negations first (e ∷ ds) h d (inl q) = subst IsNegation q (with_negation (renumbered_from first _) e (h e (inl refl)))
own_negations first (e ∷ ds) h d (inr i) = own_negations (first + own_count e) ds (λ x j. h x (inr j)) d i

pub taken_over_negations : (c : ChainOf) (depth : ℕ) (d : Condition) → IsIn d (negations_taken_over c depth) → IsNegation d
unfolding negations_taken_over
taken_over_negations c depth d i =
    own_negations 0 (without_repeats [] (flat_map (superstate_negations c depth) (firings_of c))) (λ e j. each e (once_among [] (flat_map (superstate_negations c depth) (firings_of c)) e j)) d i
  where
    each : (e : Condition) → IsIn e [] ⊎ IsIn e (flat_map (superstate_negations c depth) (firings_of c)) → IsNegation e
    each e (inl j) = absurd j
    each e (inr j) =
        let f = in_flat_map (superstate_negations c depth) e (firings_of c) j in
        let m = in_map (λ d. with_own_from 0 (condition_with (bound_atom (bindings_in f.0)) d)) e (filter (is_superstate_negation c depth f.0) (negations_of f.0)) f.2 in
        let among = filter_within (is_superstate_negation c depth f.0) (negations_of f.0) m.0 m.1 in
        subst IsNegation m.2
        (with_negation (renumbered_from 0 _) (condition_with (bound_atom (bindings_in f.0)) m.0)
        (with_negation (bound_atom (bindings_in f.0)) m.0 (in_negations f.0.rule.production.conditions m.0 among.0)))

each_unblocked : (w : List Element) (n : ℕ) (ds : List Condition) (d : Condition) → blocked_from n w ds ≡ None → IsIn d ds → blocking_rows w d ≡ []
each_unblocked w n [] d h i = absurd i
each_unblocked w n (e ∷ ds) d h i = go (blocking_rows w e) refl h i (each_unblocked w (suc n) ds d)
  where
    go : (found : List Row) → blocking_rows w e ≡ found
        → ◌≡◌ {A = Option Blocking} (elim found [ [] ↦ blocked_from (suc n) w ds | row ∷ more ↦ Some (record { negation = n; tag = first_tag row.tags }) ]) None
        → (e ≡ d) ⊎ IsIn d ds → (blocked_from (suc n) w ds ≡ None → IsIn d ds → blocking_rows w d ≡ []) → blocking_rows w d ≡ []
    go [] q k (inl same) later = ap (blocking_rows w) (sym same) ∙ q
    go [] q k (inr j) later = later k j
    go (row ∷ more) q k j later = absurd (cc)

-- ---- identifiers in the order of the conditions

pub each_symbol : (seen symbols : List Sym) (elements : List Element) → with_each_symbol seen (filter is_identifier (symbols_of elements)) ≡ places_after seen elements
each_symbol seen symbols [] = refl
each_symbol seen symbols (e ∷ elements) =
    one seen e.id (e.attr ∷ e.value ∷ symbols_of elements) ∙ one (with_place seen e.id) e.attr (e.value ∷ symbols_of elements)
    ∙ one (with_place (with_place seen e.id) e.attr) e.value (symbols_of elements) ∙ each_symbol (places_with seen e) symbols elements
  where
    one : (seen : List Sym) (s : Sym) (others : List Sym) → with_each_symbol seen (filter is_identifier (s ∷ others)) ≡ with_each_symbol (with_place seen s) (filter is_identifier others)
    one seen s others = go (is_identifier s)
      where
        go : (b : Bool) → with_each_symbol seen (cond b (s ∷ filter is_identifier others) (filter is_identifier others)) ≡ with_each_symbol (cond b (cond (has_symbol seen s) seen (seen ++ s ∷ [])) seen) (filter is_identifier others)
        go true = refl
        go false = refl

pub binds_are : (variablized : List Variablized) (symbols : List Sym) → map (λ (b : ℕ × Sym). b.1) (bindings_for variablized symbols) ≡ symbols
binds_are variablized [] = refl
binds_are variablized (s ∷ symbols) = ap (λ l. s ∷ l) (binds_are variablized symbols)

-- ---- the row

module _ (words : Texts) (c : ChainOf) (depth : ℕ) (w : List Element) (s : Learning) (lawful : IsLawful words c w) (k : IsChunked words c depth w s) where
  abbrev taken : List Element
  taken = (ordered_grounds words c.grounds).taken

  abbrev placed : List Placed
  placed = placed_tests taken (carried_tests c depth)

  abbrev negs : List Condition
  negs = negations_taken_over c depth

  abbrev pub variablized : List Variablized
  variablized = each_variablized_once [] (variablized_in_conditions true (conditions_of c depth taken) ++ flat_map (variablized_in_wish true) c.results)

  abbrev pub bound_here : List Sym
  bound_here = places_after [] taken

  abbrev pub at_grounds : Row
  at_grounds = record { tags = map (λ e. e.tag) taken; bindings = bindings_for variablized bound_here }

  condition_slot : (x : Variablized) → IsIn x (variablized_in_conditions true (conditions_of c depth taken)) → IsIn x variablized
  condition_slot x i =
      slot_kept x [] (variablized_in_conditions true (conditions_of c depth taken) ++ flat_map (variablized_in_wish true) c.results)
      (in_left x (variablized_in_conditions true (conditions_of c depth taken)) (flat_map (variablized_in_wish true) c.results) i)

  pub own_slots : (t : Sym) → IsIn t (symbols_of taken) → is_identifier t ≡ true → IsIn (of_identifier t) variablized
  own_slots t i h = condition_slot (of_identifier t) (ground_slots placed 0 taken t negs i h)

  pub well : (p : Placed) → IsIn p placed → IsPlaced (symbols_of taken) p
  well = each_placed taken (carried_tests c depth) (carried_stand c depth (λ f i. (lawful.firings f i).passes)) (test_stands words c depth w s lawful k)

  still_there : (e : Element) → IsIn e taken → IsIn e w
  still_there e i =
      let ground = (is_order_of words c.grounds (tags_tell words c depth w s lawful k)).taken e i in
      let found = is_there_still w c.grounds e k.there ground in
      subst (λ x. IsIn x w) (lawful.tags e found.0 ground found.1) (found_within e.tag w found.0 found.1)

  pub seen_slots : HaveSlots variablized bound_here
  seen_slots t i =
      elim (places_from [] taken t i) [
        | inl j ↦ absurd j
        | inr j ↦ own_slots t j (identified [] taken t (λ u j. absurd j) i)
      ]
    where
      placed_identified : (seen : List Sym) (s t : Sym) → ((u : Sym) → IsIn u seen → is_identifier u ≡ true) → IsIn t (with_place seen s) → is_identifier t ≡ true
      placed_identified seen s t h i = go (is_identifier s) refl (has_symbol seen s) i
        where
          go : (a : Bool) → is_identifier s ≡ a → (b : Bool) → IsIn t (cond a (cond b seen (seen ++ s ∷ [])) seen) → is_identifier t ≡ true
          go true q true j = h t j
          go true q false j = elim (in_append t seen (s ∷ []) j) [ inl l ↦ h t l | inr l ↦ elim l [ inl e ↦ ap is_identifier (sym e) ∙ q | inr m ↦ absurd m ] ]
          go false q b j = h t j

      identified : (seen : List Sym) (elements : List Element) (t : Sym) → ((u : Sym) → IsIn u seen → is_identifier u ≡ true) → IsIn t (places_after seen elements) → is_identifier t ≡ true
      identified seen [] t h i = h t i
      identified seen (e ∷ elements) t h i =
          identified (places_with seen e) elements t
          (λ u j. placed_identified (with_place (with_place seen e.id) e.attr) e.value u (λ v l. placed_identified (with_place seen e.id) e.attr v (λ x m. placed_identified seen e.id x h m) l) j) i

  -- ---- negations

  none_own : (v : ℕ) (symbols : List Sym) → HaveSlots variablized symbols → IsIn (of_own v) variablized → symbol_of (variablized_place 0 variablized (of_own v)) (bindings_for variablized symbols) ≡ None
  none_own v [] h i = refl
  none_own v (t ∷ symbols) h i = go (number_of variablized t == variablized_place 0 variablized (of_own v)) refl (none_own v symbols (λ x j. h x (inr j)) i)
    where
      go : (b : Bool) → (number_of variablized t == variablized_place 0 variablized (of_own v)) ≡ b → symbol_of (variablized_place 0 variablized (of_own v)) (bindings_for variablized symbols) ≡ None
          → cond b (Some t) (symbol_of (variablized_place 0 variablized (of_own v)) (bindings_for variablized symbols)) ≡ None
      go true q later = absurd (own_apart variablized t v (h t (inl refl)) i (grind arith))
      go false q later = later

  variables_move : Moves (with_variables true variablized) (IsCovered variablized bound_here) (λ v. variablized_place 0 variablized (of_own v)) [] (bindings_for variablized bound_here)
  variables_move = record {
    at = at;
    free = λ v d h. refl;
    apart = λ v u d e h l q. own_same variablized v u (d.slot (of_own v) (inl refl)) (e.slot (of_own u) (inl refl)) q;
  }
    where
      constant : (t : Sym) → IsCovered variablized bound_here (Const t) → (b : Bool) → is_identifier t ≡ b → symbol_at (with_variables true variablized (Const t)) (bindings_for variablized bound_here) ≡ Some t
      constant t d true q = ap (λ a. symbol_at a (bindings_for variablized bound_here)) (as_identifier variablized t q) ∙ known_for variablized bound_here t seen_slots (d.symbol t (inl refl) q)
      constant t d false q = ap (λ a. symbol_at a (bindings_for variablized bound_here)) (as_constant variablized t q)

      at : (a : Atom) → IsCovered variablized bound_here a → symbol_at (with_variables true variablized a) (bindings_for variablized bound_here) ≡ symbol_at a []
      at (Const t) d = constant t d (is_identifier t) refl
      at (Var v) d = none_own v bound_here seen_slots (d.slot (of_own v) (inl refl))

  pub covered : (d : Condition) → IsIn d negs → InCondition (IsCovered variablized bound_here) d
  covered d i =
      condition_covered variablized bound_here d
      (λ x j. condition_slot x (slots_in d (conditions_from placed 0 taken ++ negs) (in_right d (conditions_from placed 0 taken) negs i) x j))
      (λ t j h. places_hold [] taken t (place_stands words c depth w s lawful k t
      (none_without (order words c depth w s lawful k).places (flat_map constants_of_condition negs) t (grounded words c depth w s lawful k).negations (in_flat_mapped constants_of_condition d t negs i j) h)) h)

  keeps : (d : Condition) → IsIn d negs → Keeps variablized placed w at_grounds d
  keeps d i = by d (taken_over_negations c depth d i) (moved d i)
    where
      moved : (d : Condition) → IsIn d negs → rows_inside w at_grounds (condition_with (with_variables true variablized) d) ≡ []
      moved d i =
          none_after (with_variables true variablized) (IsCovered variablized bound_here) (λ v. variablized_place 0 variablized (of_own v)) (rows_inside w empty_row d) (rows_inside w at_grounds (condition_with (with_variables true variablized) d))
          (move_inside (with_variables true variablized) (IsCovered variablized bound_here) (λ v. variablized_place 0 variablized (of_own v)) d w empty_row at_grounds (covered d i) variables_move)
          (sym (inside_same w d) ∙ each_unblocked w 1 negs d k.unblocked i)

      by : (d : Condition) → IsNegation d → rows_inside w at_grounds (condition_with (with_variables true variablized) d) ≡ [] → Keeps variablized placed w at_grounds d
      by (positive p) h r = absurd h
      by (negated p) h r = r
      by (conjunctive cs) h r = r

  pub row_there : IsIn at_grounds (rows (conditions_with (with_variables true variablized) (conditions_of c depth taken)) w)
  row_there =
      walk variablized placed w taken 0 [] empty_row at_grounds (empty_row ∷ []) negs refl (λ t i. absurd i)
      (all_fit variablized placed (symbols_of taken) own_slots well taken refl) still_there (inl refl)
      (λ more i. kept_through variablized placed w at_grounds negs more keeps i)

pub chunks_match : ChunksMatch
unfolding general_form
chunks_match words c depth number name rules w s lawful h =
    let k = is_chunked words c depth rules w s h in
    let row = row_there words c depth w s lawful k in
    let taken : List Element = (ordered_grounds words c.grounds).taken in
    let z : Row = at_grounds words c depth w s lawful k in
    let mine = in_mapped (instance_of number) z (rows (conditions_with (with_variables true (variablized words c depth w s lawful k)) (conditions_of c depth taken)) w) row in
    in_left _ (instances_of w (chunk_of words c depth name number)) []
    (subst (λ binds. IsIn (record { rule = number; tags = map (λ e. e.tag) taken; binds = binds }) (instances_of w (chunk_of words c depth name number)))
    (binds_are (variablized words c depth w s lawful k) (places_after [] taken) ∙ sym (each_symbol [] [] taken)) mine)

pub grounds_are_matched : GroundsAreMatched
grounds_are_matched words c depth rules w s lawful h e i = ground_taken words c depth w s lawful (is_chunked words c depth rules w s h) e i
