-- The check gives a chunk back as it is.
use Rattle.std.proofs.Common.{◌≡◌, refl, sym, ◌∙◌, ap, subst, ℕ, ◌+◌, ◌≤◌, max, nat_lt, Bool, true, false, ◌||◌, cond, inl, inr, arith, List, [], ◌∷◌, ◌++◌, length, map, filter, Option, Some, None, Ok}
use Rattle.std.proofs.lemmas.List.{length-map}
use Rattle.std.specs.Prelude.{not, option_map}
use Rattle.std.specs.List.{list_any}
use Rattle.soar_sym.specs.Equality.{symbol_eq}
use Rattle.soar_sym.specs.Words.{Texts}
use Rattle.soar_sym.specs.declared.symbol.Sym.{Sym}
use Rattle.soar_rule.specs.declared.cond.Atom.{Atom}
use Rattle.soar_rule.specs.declared.cond.Atom.TheVariants.{Const}
use Rattle.soar_rule.specs.Checking.{Fault, bad_preference, fault_if, fault_of, fault_of_actions, fault_of_number, has_state, is_bad, linked_by_all, linked_variables, no_state, ordered, too_deep, too_many, told, unbound}
use Rattle.soar_rule.specs.Conditions.{Condition, Conditions, condition_and, all_of}
use Rattle.soar_rule.specs.MatchOrder.{nothing_taken, Taken, taken_in_order}
use Rattle.soar_rule.specs.Productions.{ActionOf, ProductionOf}
use Rattle.soar_rule.specs.Renaming.{action_with, condition_with, conditions_with}
use Rattle.soar_rule.specs.Repeat.{repeated}
use Rattle.soar_rule.specs.Sizes.{calls_of, depth_of, depth_of_all, size_of_all}
use Rattle.soar_rule.specs.Variables.{plain_outside, variables_of_atom}
use Rattle.soar_wm.specs.declared.element.Element.{Element}
use Rattle.defs_text.specs.Numbered.{word_in}
use Rattle.defs_soar.specs.declared.goal.Goal.{Goal}
use Rattle.defs_soar.specs.declared.learning.Learning.{Learning}
use Rattle.defs_soar.specs.declared.preference.Wish.{Wish}
use Rattle.defs_soar.specs.Candidate.{action_of, conditions_from, conditions_of, general_form, variablized_place, with_variables}
use Rattle.defs_soar.specs.CarriedTests.{Placed, placed_tests, carried_tests}
use Rattle.defs_soar.specs.ChainIdentifiers.{is_made_by}
use Rattle.defs_soar.specs.ConditionOrder.{ordered_grounds}
use Rattle.defs_soar.specs.History.{ChainOf}
use Rattle.defs_soar.specs.Laws.{IsIn}
use Rattle.defs_soar.specs.Negations.{negations_taken_over}
use Rattle.defs_soar.specs.Variablized.{Variablized, of_own, names_from}
use Rattle.defs_soar.specs.Sorted.{has_symbol}
use Rattle.defs_soar.specs.Ungrounded.{or_else, first_without, led_to}
use Rattle.defs_soar.specs.Dependencies.{symbols_of_referent}
use Rattle.defs_soar.specs.Values.{is_identifier}
use Rattle.rule_laws.proofs.CheckedParts.{all_none, NoFault, stays_so}
use Rattle.rule_laws.proofs.NoneLeftLaws.{no_stop}
use Rattle.rule_laws.proofs.PlaceLaws.{all_in_place, bound_after, InOrder, InPlace}
use Rattle.learning_laws.specs.Lawful.{IsLawful}
use Rattle.learning_laws.specs.Laws.{chunk_of, ChunksAreChecked}
use Rattle.learning_laws.specs.BeforeWave.{IsBeforeWave}
use Rattle.learning_laws.specs.Ready.{FlagsAgree, NegationsReady}
use Rattle.learning_laws.specs.Standing.{StandsReady}
use Rattle.learning_laws.proofs.Chunked.{IsChunked, is_chunked, neither}
use Rattle.learning_laws.proofs.ConflictLaws.{bound_here, covered, IsNegation, own_slots, variablized, taken_over_negations, well, with_negation}
use Rattle.learning_laws.proofs.FaultLaws.{Identified, led_links, LinkedIn, none_bad, none_deep, none_unbound, repeated_grow}
use Rattle.learning_laws.proofs.FitLaws.{all_fit, places_hold}
use Rattle.learning_laws.proofs.GroundedLaws.{ground_there, grounded, ground_taken, has_in, none_without, order, place_stands, tags_tell}
use Rattle.learning_laws.proofs.InOrderLaws.{after_append, after_negations, elements_in_order, in_order_append, InOrderSo, negations_in_order, outside_bound}
use Rattle.learning_laws.proofs.LinkLaws.{taken_linked}
use Rattle.learning_laws.proofs.Lists.{in_append, in_map, any_in, any_some, same_itself}
use Rattle.learning_laws.proofs.PlacedLaws.{symbols_of}
use Rattle.learning_laws.proofs.ResultLaws.{wish_right}
use Rattle.learning_laws.proofs.Shifting.{AllIn}
use Rattle.learning_laws.proofs.ShiftLaws.{Shift, stands_shifted}
use Rattle.learning_laws.proofs.SlotCover.{IsCovered}
use Rattle.learning_laws.proofs.SlotLaws.{as_constant, as_identifier, number_of, own_apart, own_same}
use Rattle.learning_laws.proofs.StandingNegations.{depth_with, taken_over_ready}

-- ---- a list in order without a fault

listed_with : (f : Atom → Atom) (xs ys : List Condition) → conditions_with f (all_of (xs ++ ys)) ≡ all_of (map (condition_with f) xs ++ map (condition_with f) ys)
listed_with f [] [] = refl
listed_with f [] (y ∷ ys) = ap (condition_and (condition_with f y)) (listed_with f [] ys)
listed_with f (x ∷ xs) ys = ap (condition_and (condition_with f x)) (listed_with f xs ys)

in_place : (ds : List Condition) → InOrder false (plain_outside (all_of ds)) [] ds → InPlace (all_of ds) (nothing_taken []) ds (taken_in_order (all_of ds))
unfolding taken_in_order
in_place ds o = all_in_place ds false (plain_outside (all_of ds)) [] o

checked_by : (p : ProductionOf) (ds : List Condition) → p.conditions ≡ all_of ds → InOrder false (plain_outside (all_of ds)) [] ds
    → ((t : Taken) → InPlace (all_of ds) (nothing_taken []) ds t → NoFault (all_of ds) p.actions (length p.vars) t) → ordered p ≡ Ok p
checked_by p ds same o none =
    let place = in_place ds o in
    stays_so p
    (subst (λ (cs : Conditions). fault_of (record p { conditions = cs }) (taken_in_order cs) ≡ None) (sym same)
    (all_none (all_of ds) p.actions (length p.vars) (taken_in_order (all_of ds)) (none (taken_in_order (all_of ds)) place)))
    (ap (λ (cs : Conditions). all_of (taken_in_order cs).order) same ∙ ap all_of place.order ∙ sym same)

-- ---- parts

none_if : (b : Bool) (f : Fault) → b ≡ false → fault_if b f ≡ None
none_if true f h = absurd (cc)
none_if false f h = refl

state_there : (f : Atom → Atom) (placed : List Placed) (first : ℕ) (elements : List Element) (more : List Condition) (e : Element) → IsIn e elements → e.of_state ≡ true
    → has_state (all_of (map (condition_with f) (conditions_from placed first elements) ++ more)) ≡ true
state_there f placed first [] more e i h = absurd i
state_there f placed first (x ∷ elements) more e (inl q) h =
    ap (λ b. b || has_state (all_of (map (condition_with f) (conditions_from placed (first + 3) elements) ++ more))) (ap (λ (y : Element). y.of_state) q ∙ h)
state_there f placed first (x ∷ elements) more e (inr i) h = either x.of_state (state_there f placed (first + 3) elements more e i h)
  where
    either : (b : Bool) → has_state (all_of (map (condition_with f) (conditions_from placed (first + 3) elements) ++ more)) ≡ true
        → (b || has_state (all_of (map (condition_with f) (conditions_from placed (first + 3) elements) ++ more))) ≡ true
    either true k = refl
    either false k = k

most : (a b : ℕ) → a ≤ 8 → b ≤ 8 → max a b ≤ 8
most a b h k = grind arith

not_deep : (ds : List Condition) → ((d : Condition) → IsIn d ds → depth_of d ≤ 8) → depth_of_all (all_of ds) ≤ 8
not_deep [] h = omega arith
not_deep (d ∷ ds) h = most (depth_of d) (depth_of_all (all_of ds)) (h d (inl refl)) (not_deep ds (λ e i. h e (inr i)))

flat_positives : (f : Atom → Atom) (placed : List Placed) (first : ℕ) (elements : List Element) (d : Condition) → IsIn d (map (condition_with f) (conditions_from placed first elements)) → depth_of d ≤ 8
flat_positives f placed first [] d i = absurd i
flat_positives f placed first (e ∷ elements) d (inl q) = subst (λ (x : Condition). depth_of x ≤ 8) q (omega arith)
flat_positives f placed first (e ∷ elements) d (inr i) = flat_positives f placed (first + 3) elements d i

not_less : (n : ℕ) → n ≤ 8 → nat_lt 8 n ≡ false
not_less n h = grind arith

small_enough : (size count other : ℕ) → count ≡ other → ◌≡◌ {A = Option ℕ} (cond (nat_lt 1000 size) (Some size) (cond (nat_lt 2000 other) (Some other) None)) None → fault_of_number size count ≡ None
small_enough size count other q h = go (nat_lt 1000 size) (nat_lt 2000 other) h refl (ap (λ n. nat_lt 2000 n) q)
  where
    go : (a b : Bool) → ◌≡◌ {A = Option ℕ} (cond a (Some size) (cond b (Some other) None)) None → nat_lt 1000 size ≡ a → nat_lt 2000 count ≡ b → fault_of_number size count ≡ None
    go true b k x y = absurd (cc)
    go false true k x y = absurd (cc)
    go false false k x y = ap (λ a. cond a (Some (too_many (told size))) (cond (nat_lt 2000 count) (Some (too_many (told count))) None)) x ∙ ap (λ b. cond b (Some (too_many (told count))) None) y

-- ---- the chunk

module _ (words : Texts) (letters : List ℕ) (goals : List Goal) (c : ChainOf) (depth number : ℕ) (name : Sym) (w : List Element) (s : Learning)
    (lawful : IsLawful words c w) (moment : IsBeforeWave words letters goals c depth) (ready : NegationsReady c) (flags : FlagsAgree w) (k : IsChunked words c depth w s) where
  abbrev taken : List Element
  taken = (ordered_grounds words c.grounds).taken

  abbrev placed : List Placed
  placed = placed_tests taken (carried_tests c depth)

  abbrev negs : List Condition
  negs = negations_taken_over c depth

  abbrev mine : List Variablized
  mine = variablized words c depth w s lawful k

  abbrev here : List Sym
  here = bound_here words c depth w s lawful k

  abbrev G : Atom → Atom
  G = with_variables true mine

  abbrev positives : List Condition
  positives = map (condition_with G) (conditions_from placed 0 taken)

  abbrev negatives : List Condition
  negatives = map (condition_with G) negs

  abbrev ds : List Condition
  ds = positives ++ negatives

  abbrev bound : List ℕ
  bound = bound_after [] positives

  so : InOrderSo mine placed w (plain_outside (all_of ds)) [] [] 0 taken
  so =
      elements_in_order mine placed w taken (plain_outside (all_of ds)) [] [] 0
      (all_fit mine placed (symbols_of taken) (own_slots words c depth w s lawful k) (well words c depth w s lawful k) taken refl)
      (taken_linked words c.grounds (tags_tell words c depth w s lawful k) (λ e f i j q. flags e f (ground_there words c depth w s lawful k e i) (ground_there words c depth w s lawful k f j) q) lawful.ids) (λ t i. absurd i) (λ v i. absurd i)

  are_negations : (d : Condition) → IsIn d negatives → IsNegation d
  are_negations d i = let m = in_map (condition_with G) d negs i in subst IsNegation m.2 (with_negation G m.0 (taken_over_negations c depth m.0 m.1))

  after_all : bound_after [] ds ≡ bound
  after_all = after_append positives negatives [] ∙ after_negations negatives bound are_negations

  outside_in : AllIn (plain_outside (all_of ds)) bound
  outside_in v i = subst (λ b. IsIn v b) after_all (outside_bound ds [] v i)

  variables_shift : Shift G (IsCovered mine here) (λ v. variablized_place 0 mine (of_own v)) [] bound
  variables_shift = record {
    constant = λ t d u i. constant t d u (is_identifier t) refl i;
    known = λ v d i. absurd i;
    free = λ v d n. refl;
    fresh = λ v d n i. let found = so.numbers (variablized_place 0 mine (of_own v)) i in own_apart mine found.0 v found.1 (d.slot (of_own v) (inl refl)) found.2;
    apart = λ v u d e n m q. own_same mine v u (d.slot (of_own v) (inl refl)) (e.slot (of_own u) (inl refl)) q;
  }
    where
      one : (a b : ℕ) → IsIn b (a ∷ []) → IsIn a bound → IsIn b bound
      one a b (inl e) j = subst (λ x. IsIn x bound) e j
      one a b (inr l) j = absurd l

      constant : (t : Sym) → IsCovered mine here (Const t) → (u : ℕ) → (b : Bool) → is_identifier t ≡ b → IsIn u (variables_of_atom (G (Const t))) → IsIn u bound
      constant t d u true q i = one (number_of mine t) u (subst (λ a. IsIn u (variables_of_atom a)) (as_identifier mine t q) i) (so.numbered t (d.symbol t (inl refl) q))
      constant t d u false q i = absurd (subst (λ a. IsIn u (variables_of_atom a)) (as_constant mine t q) i)

  negation_stands : (d : Condition) → IsIn d negatives → IsNegation d × StandsReady [] bound d
  negation_stands d i =
      let m = in_map (condition_with G) d negs i in (
        are_negations d i,
        subst (StandsReady [] bound) m.2
            (stands_shifted G (IsCovered mine here) (λ v. variablized_place 0 mine (of_own v)) m.0 [] [] bound variables_shift (λ a j. absurd j) (covered words c depth w s lawful k m.0 m.1)
            (taken_over_ready c depth ready m.0 m.1).0),
      )

  in_order : InOrder false (plain_outside (all_of ds)) [] ds
  in_order =
      in_order_append positives negatives (plain_outside (all_of ds)) [] so.in_order (negations_in_order negatives (plain_outside (all_of ds)) bound outside_in negation_stands)

  -- ---- no fault

  state_is : has_state (all_of ds) ≡ true
  state_is =
      let found = any_some (λ (e : Element). e.of_state) c.grounds k.grounds in
      state_there G placed 0 taken negatives found.0 (ground_taken words c depth w s lawful k found.0 found.1) found.2

  each_depth : (d : Condition) → IsIn d ds → depth_of d ≤ 8
  each_depth d i =
      elim (in_append d positives negatives i) [
        | inl j ↦ flat_positives G placed 0 taken d j
        | inr j ↦ let m = in_map (condition_with G) d negs j in
            subst (λ (x : Condition). depth_of x ≤ 8) m.2 (subst (λ n. n ≤ 8) (sym (depth_with G m.0)) (taken_over_ready c depth ready m.0 m.1).1)
      ]

  identified : Identified mine c.results
  identified x i = ((moment.results x i).identifier, (moment.results x i).referent)

  -- an identifier with a place has its number bound
  place_bound : LinkedIn mine (order words c depth w s lawful k).places bound
  place_bound t i q =
      so.numbered t (places_hold [] taken t (place_stands words c depth w s lawful k t (any_in (symbol_eq t) t (order words c depth w s lawful k).places i (same_itself t))) q)

  abbrev led : List Sym
  led = led_to (order words c depth w s lawful k).places c.results

  -- the identifier of a wish that is right is led to, or has a place; its attribute has a place
  right_id : (x : Wish) (linked : List ℕ) → AllIn bound linked → LinkedIn mine led linked → (b : Bool) → is_made_by c x.id ≡ b
      → cond b (cond (has_symbol led x.id) None (Some x.id)) (first_without (order words c depth w s lawful k).places (x.id ∷ [])) ≡ None → is_identifier x.id ≡ true → IsIn (number_of mine x.id) linked
  right_id x linked more all true m h q = all x.id (has_in led x.id (is_there (has_symbol led x.id) refl h)) q
    where
      is_there : (b : Bool) → has_symbol led x.id ≡ b → cond b None (Some x.id) ≡ None → has_symbol led x.id ≡ true
      is_there true e g = e
      is_there false e g = absurd (cc)
  right_id x linked more all false m h q =
      let places = (order words c depth w s lawful k).places in
      more (number_of mine x.id) (place_bound x.id (has_in places x.id (none_without places (x.id ∷ []) x.id h (inl refl) q)) q)

  wish_linked : (linked : List ℕ) → AllIn bound linked → LinkedIn mine led linked → (x : Wish) → IsIn x c.results
      → (is_identifier x.id ≡ true → IsIn (number_of mine x.id) linked) × (is_identifier x.attr ≡ true → IsIn (number_of mine x.attr) bound)
  wish_linked linked more all x i =
      let places = (order words c depth w s lawful k).places in
      let right = wish_right c places led x c.results (grounded words c depth w s lawful k).wishes i in
      let rest : Option Sym = first_without places (filter (λ s. not (is_made_by c s)) (x.value ∷ symbols_of_referent x.referent)) in
      let a = neither (cond (is_made_by c x.id) (cond (has_symbol led x.id) None (Some x.id)) (first_without places (x.id ∷ []))) (or_else (first_without places (x.attr ∷ [])) rest) right in
      let b = neither (first_without places (x.attr ∷ [])) rest a.1 in (
        (λ q. right_id x linked more all (is_made_by c x.id) refl a.0 q),
        (λ q. place_bound x.attr (has_in places x.attr (none_without places (x.attr ∷ []) x.attr b.0 (inl refl) q)) q),
      )

  abbrev actions : List ActionOf
  actions = map (λ x. action_with G (action_of x)) c.results

  no_fault_of_actions : fault_of_actions bound actions ≡ None
  no_fault_of_actions =
      let linked = linked_variables bound actions in
      let same : length actions ≡ length c.results = length-map c.results (λ x. action_with G (action_of x)) in
      let grown : AllIn bound linked = repeated_grow mine (length actions) c.results bound identified in
      let all : LinkedIn mine led linked =
      subst (λ n. LinkedIn mine led (repeated n (linked_by_all actions) bound)) (sym same) (led_links mine (length c.results) c.results (order words c depth w s lawful k).places bound identified place_bound) in
      ap (option_map unbound) (none_unbound mine c.results bound linked (wish_linked linked grown all))

  faultless : (size : size_of_all (all_of ds) ≡ size_of_all (conditions_with G (conditions_of c depth taken))) (count : ℕ) → count ≡ length (names_from [] mine)
      → ◌≡◌ {A = Option ℕ} (cond (nat_lt 1000 (size_of_all (conditions_with G (conditions_of c depth taken)))) (Some (size_of_all (conditions_with G (conditions_of c depth taken)))) (cond (nat_lt 2000 (length (names_from [] mine))) (Some (length (names_from [] mine))) None)) None
      → (t : Taken) → InPlace (all_of ds) (nothing_taken []) ds t → NoFault (all_of ds) actions count t
  faultless size count counted small t place = record {
    state = ap (λ b. fault_if (not b) no_state) state_is;
    stop = no_stop (all_of ds) t place.left;
    lack = ap (λ b. fault_of_actions b actions) (place.bound ∙ after_all) ∙ no_fault_of_actions;
    number = ap (λ n. fault_of_number n count) size ∙ small_enough (size_of_all (conditions_with G (conditions_of c depth taken))) count (length (names_from [] mine)) counted small;
    depth = none_if (nat_lt 8 (depth_of_all (all_of ds)) || list_any (λ a. nat_lt 8 (calls_of a)) actions) too_deep
        (ap (λ b. b || list_any (λ a. nat_lt 8 (calls_of a)) actions) (not_less (depth_of_all (all_of ds)) (not_deep ds each_depth)) ∙ none_deep mine c.results);
    preference = none_if (list_any is_bad actions) bad_preference (none_bad mine goals c.results (λ x i. (moment.results x i).allowed));
  }

  pub chunk_checked : ordered (chunk_of words c depth name number).production ≡ Ok (chunk_of words c depth name number).production
  unfolding general_form
  chunk_checked =
      let same = listed_with G (conditions_from placed 0 taken) negs in
      checked_by (chunk_of words c depth name number).production ds same in_order
      (faultless (ap size_of_all (sym same)) (length (map (word_in words) (names_from [] mine))) (length-map (names_from [] mine) (word_in words)) k.small)

pub chunks_are_checked : ChunksAreChecked
chunks_are_checked words letters goals c depth number name rules w s lawful moment ready flags h =
    chunk_checked words letters goals c depth number name w s lawful moment ready flags (is_chunked words c depth rules w s h)
