-- The firing of a chunk at its grounds is recorded lawfully.
use Rattle.std.proofs.Common.{◌≡◌, refl, sym, ◌∙◌, ap, subst, ℕ, zero, suc, ◌<◌, Bool, true, false, ◌&&◌, ◌||◌, cond, inl, inr, List, [], ◌∷◌, length, map, flat_map, Some}
use Rattle.std.specs.Prelude.{not}
use Rattle.std.specs.List.{list_any}
use Rattle.soar_sym.specs.Equality.{symbol_eq}
use Rattle.soar_sym.specs.Words.{has_text, Texts}
use Rattle.soar_sym.specs.declared.symbol.Sym.{Sym}
use Rattle.soar_rule.specs.Conditions.{Condition}
use Rattle.soar_rule.specs.Symbols.{constants_of, constants_of_action, constants_of_condition, constants_of_conditions}
use Rattle.soar_wm.specs.declared.element.Element.{Element}
use Rattle.defs_match.specs.Conflict.{bindings_of, instances_of}
use Rattle.defs_match.specs.Rules.{RuleOf}
use Rattle.defs_text.specs.Numbered.{word_in}
use Rattle.defs_soar.specs.declared.firing.Used.{Used}
use Rattle.defs_soar.specs.declared.preference.Wish.{Wish}
use Rattle.defs_soar.specs.Candidate.{general_form, with_variables}
use Rattle.defs_soar.specs.CarriedTests.{carried_tests, placed_tests}
use Rattle.defs_soar.specs.ChainIdentifiers.{firings_of, is_in_ground, is_made_by, occurs_in}
use Rattle.defs_soar.specs.ConditionOrder.{ordered_grounds}
use Rattle.defs_soar.specs.Dependencies.{is_new_in, symbols_of_wish}
use Rattle.defs_soar.specs.Firing.{MadeSoFar}
use Rattle.defs_soar.specs.History.{FiringOf, ChainOf}
use Rattle.defs_soar.specs.Laws.{IsIn}
use Rattle.defs_soar.specs.LearnedFirings.{learned_firing, ExplainedFiring}
use Rattle.defs_soar.specs.Naming.{name_at}
use Rattle.defs_soar.specs.Negations.{negations_taken_over}
use Rattle.defs_soar.specs.Outcome.{chunked}
use Rattle.defs_soar.specs.Sorted.{has_symbol}
use Rattle.defs_soar.specs.Support.{match_depth}
use Rattle.defs_soar.specs.LearnedRules.{as_learning, identifiers_of}
use Rattle.defs_soar.specs.Ungrounded.{symbols_of_element}
use Rattle.defs_soar.specs.Uses.{all_uses, elements_matched}
use Rattle.defs_soar.specs.Values.{is_identifier}
use Rattle.defs_soar.specs.WaveAtHand.{BeforeWave, Wave}
use Rattle.learning_laws.specs.Laws.{chunk_of, instance_at_grounds, made_at_grounds, MakesResults}
use Rattle.learning_laws.specs.LearningSteps.{ChunkFiringsAreLawful, IsLearningStep, named_wave, outcome_at, TagsTellUses}
use Rattle.learning_laws.specs.Lawful.{Grown}
use Rattle.learning_laws.specs.Replay.{AreAlike, HasLetterOf, made_again, passed_on}
use Rattle.learning_laws.proofs.Chunked.{IsChunked, is_chunked}
use Rattle.learning_laws.proofs.ConflictLaws.{bound_here, chunks_match, each_symbol, variablized}
use Rattle.learning_laws.proofs.FiringLaws.{as_it_is, recorded_alike}
use Rattle.learning_laws.proofs.FitLaws.{places_from, places_hold}
use Rattle.learning_laws.proofs.GroundedLaws.{grounded, ground_there, has_in, none_without, order, place_stands, tags_tell}
use Rattle.learning_laws.proofs.InstanceLaws.{each_used, instance_passes, matched_again}
use Rattle.learning_laws.proofs.ListedLaws.{condition_constant, no_action_constant}
use Rattle.learning_laws.proofs.Lists.{any_in, any_some, both_true, and_true, in_append, in_flat_map, in_flat_mapped, same_itself}
use Rattle.learning_laws.proofs.OrderLaws.{is_order_of}
use Rattle.learning_laws.proofs.PlainGrowth.{plain_made}
use Rattle.learning_laws.proofs.TableGrowth.{HasWord, name_later, not_grown, same_place}
use Rattle.learning_laws.proofs.ResultLaws.{chunks_make_results, map_same}

-- ---- other free identifiers

-- where what is free in the one way and occurs is free in the other
pub freed_alike : (free other : Sym → Bool) (wishes others : List Wish) → AreAlike free wishes others
    → ((s : Sym) → has_symbol (flat_map symbols_of_wish wishes) s ≡ true → free s ≡ true → other s ≡ true) → AreAlike other wishes others
freed_alike free other wishes others a h = record {
  to = λ s. cond (other s) (a.to s) s;
  stays = λ s q. ap (λ b. cond b (a.to s) s) q;
  letter = λ s q. subst (HasLetterOf s) (sym (ap (λ b. cond b (a.to s) s) q)) (letter s (free s) refl);
  apart = λ s t i j q. a.apart s t i j (as_it_was s i ∙ q ∙ sym (as_it_was t j));
  same = a.same ∙ map_same a.to (λ s. cond (other s) (a.to s) s) wishes (λ s i. as_it_was s (any_in (symbol_eq s) s (flat_map symbols_of_wish wishes) i (same_itself s)));
}
  where
    letter : (s : Sym) (b : Bool) → free s ≡ b → HasLetterOf s (a.to s)
    letter s true q = a.letter s q
    letter s false q = subst (HasLetterOf s) (sym (a.stays s q)) (as_it_is s)

    by : (s : Sym) → has_symbol (flat_map symbols_of_wish wishes) s ≡ true → (b : Bool) → other s ≡ b → (e : Bool) → free s ≡ e → a.to s ≡ cond b (a.to s) s
    by s i true q e r = refl
    by s i false q true r = let k = sym q ∙ h s i r in absurd (cc)
    by s i false q false r = a.stays s r

    as_it_was : (s : Sym) → has_symbol (flat_map symbols_of_wish wishes) s ≡ true → a.to s ≡ cond (other s) (a.to s) s
    as_it_was s i = by s i (other s) refl (free s) refl

none_any : {A : Type 0} (p : A → Bool) (xs : List A) (b : Bool) → list_any p xs ≡ b → (list_any p xs ≡ true → ⊥) → list_any p xs ≡ false
none_any p xs true q n = absurd (n q)
none_any p xs false q n = q

module _ (m : BeforeWave) (l : ExplainedFiring) (w : Wave) (order_words : Texts) (firing number : ℕ) (name : Sym) (learning_event : IsLearningStep m l w) (h : outcome_at m l w ≡ chunked) (tags : TagsTellUses m (ordered_grounds (named_wave l w).names.words l.chain.grounds).taken) (some : 0 < length (named_wave l w).names.words) where
  abbrev words : Texts
  words = (named_wave l w).names.words

  abbrev c : ChainOf
  c = l.chain

  abbrev depth : ℕ
  depth = l.explained.depth

  abbrev letters : List ℕ
  letters = (named_wave l w).names.letters

  abbrev taken : List Element
  taken = (ordered_grounds words c.grounds).taken

  abbrev rule : RuleOf
  rule = chunk_of words c depth name number

  abbrev mine : FiringOf
  mine = learned_firing m order_words firing rule taken (identifiers_of taken) c.results

  k : IsChunked words c depth m.elements (as_learning m.settings (named_wave l w).learned)
  k = is_chunked words c depth (named_wave l w).program.rules m.elements (as_learning m.settings (named_wave l w).learned) h

  there : (e : Element) → IsIn e taken → IsIn e m.elements
  there e i =
      ground_there words c depth m.elements (as_learning m.settings (named_wave l w).learned) learning_event.lawful k e
      ((is_order_of words c.grounds (tags_tell words c depth m.elements (as_learning m.settings (named_wave l w).learned) learning_event.lawful k)).taken e i)

  instance_there : IsIn (instance_at_grounds words c number) (instances_of m.elements rule)
  instance_there =
      elim (in_append (instance_at_grounds words c number) (instances_of m.elements rule) []
      (chunks_match words c depth number name (named_wave l w).program.rules m.elements (as_learning m.settings (named_wave l w).learned) learning_event.lawful h)) [
        | inl j ↦ j
        | inr j ↦ absurd j
      ]

  abbrev used : List Element
  used = map (λ (u : Used). u.element) (all_uses m.reach m.rows (match_depth m.reach.goals taken) taken)

  passes : passed_on rule.production.conditions (elements_matched used (map (λ (e : Element). e.tag) taken)) [] ≡ Some (bindings_of rule.production (instance_at_grounds words c number))
  passes =
      let p = instance_passes rule m.elements (instance_at_grounds words c number) instance_there in
      let mine_again = matched_again taken m.elements there (λ e f i j q. tags.0 e f (there e i) j q) in
      let their_again = matched_again p.elements m.elements p.there (λ e f i j q. tags.0 e f (p.there e i) j q) in
      let same : p.elements ≡ taken = sym their_again ∙ ap (elements_matched m.elements) (sym p.tags) ∙ mine_again in
      let used_again = matched_again taken used (λ e i. each_used m.reach m.rows (match_depth m.reach.goals taken) taken e i) (λ e f i j q. tags.1 e f (there e i) j q) in
      ap (λ es. passed_on rule.production.conditions es []) (used_again ∙ sym same) ∙ p.passes

  -- ---- what it makes

  made : MakesResults c (made_at_grounds words letters m.reach.goals c depth name number)
  made = chunks_make_results words letters m.reach.goals c depth number name (named_wave l w).program.rules m.elements (as_learning m.settings (named_wave l w).learned) learning_event.lawful learning_event.moment h

  -- what the chain made is not bound
  bound_in_ground : (t : Sym) → IsIn t (bound_here words c depth m.elements (as_learning m.settings (named_wave l w).learned) learning_event.lawful k) → is_in_ground c t ≡ true
  bound_in_ground t i =
      elim (places_from [] taken t i) [
        | inl j ↦ absurd j
        | inr j ↦ let found = in_flat_map symbols_of_element t taken j in
            any_in (occurs_in t) found.0 c.grounds
            ((is_order_of words c.grounds (tags_tell words c depth m.elements (as_learning m.settings (named_wave l w).learned) learning_event.lawful k)).taken found.0 found.1) (occurs t found.0 found.2)
      ]
    where
      occurs : (t : Sym) (e : Element) → IsIn t (symbols_of_element e) → occurs_in t e ≡ true
      occurs t e (inl q) = first (symbol_eq e.id t) (symbol_eq e.attr t || symbol_eq e.value t) (ap (symbol_eq e.id) (sym q) ∙ same_itself e.id)
        where
          first : (a b : Bool) → a ≡ true → (a || b) ≡ true
          first true b z = refl
          first false b z = absurd (cc)
      occurs t e (inr (inl q)) = second (symbol_eq e.id t) (symbol_eq e.attr t) (symbol_eq e.value t) (ap (symbol_eq e.attr) (sym q) ∙ same_itself e.attr)
        where
          second : (a b d : Bool) → b ≡ true → (a || (b || d)) ≡ true
          second true b d z = refl
          second false true d z = refl
          second false false d z = absurd (cc)
      occurs t e (inr (inr (inl q))) = third (symbol_eq e.id t) (symbol_eq e.attr t) (symbol_eq e.value t) (ap (symbol_eq e.value) (sym q) ∙ same_itself e.value)
        where
          third : (a b d : Bool) → d ≡ true → (a || (b || d)) ≡ true
          third true b d z = refl
          third false true d z = refl
          third false false d z = z
      occurs t e (inr (inr (inr j))) = absurd j

  not_bound : (t : Sym) → is_made_by c t ≡ true → IsIn t (bound_here words c depth m.elements (as_learning m.settings (named_wave l w).learned) learning_event.lawful k) → ⊥
  not_bound t q i =
      let no = (both_true (list_any (λ f. is_new_in f t) (firings_of c)) (not (is_in_ground c t)) q).1 in
      let z = sym (ap not (bound_in_ground t i)) ∙ no in absurd (cc)

  made_identifier : (t : Sym) → is_made_by c t ≡ true → is_identifier t ≡ true
  made_identifier t q =
      let new = any_some (λ f. is_new_in f t) (firings_of c) (both_true (list_any (λ f. is_new_in f t) (firings_of c)) _ q).0 in
      (both_true (is_identifier t) _ new.2).0

  not_constant : (t : Sym) → is_made_by c t ≡ true → IsIn t (constants_of rule.production) → ⊥
  unfolding general_form
  not_constant t q i =
      let settings = as_learning m.settings (named_wave l w).learned in
      let chosen = variablized words c depth m.elements settings learning_event.lawful k in
      let negs : List Condition = negations_taken_over c depth in
      let id = made_identifier t q in
      elim (in_append t (constants_of_conditions rule.production.conditions) (flat_map constants_of_action rule.production.actions) i) [
        | inl j ↦
            let found = condition_constant chosen (placed_tests taken (carried_tests c depth)) taken negs t j id in
            not_bound t q (places_hold [] taken t (place_stands words c depth m.elements settings learning_event.lawful k t
            (none_without (order words c depth m.elements settings learning_event.lawful k).places (flat_map constants_of_condition negs) t (grounded words c depth m.elements settings learning_event.lawful k).negations
            (in_flat_mapped constants_of_condition found.0 t negs found.1 found.2) id)) id)
        | inr j ↦ no_action_constant chosen c.results t j id
      ]

  new_here : (t : Sym) → has_symbol (flat_map symbols_of_wish c.results) t ≡ true → is_made_by c t ≡ true → is_new_in mine t ≡ true
  new_here t i q =
      and_true (is_identifier t) (has_symbol (flat_map symbols_of_wish c.results) t && (not (has_symbol (identifiers_of taken) t) && not (has_symbol (constants_of rule.production) t))) (made_identifier t q)
      (and_true (has_symbol (flat_map symbols_of_wish c.results) t) (not (has_symbol (identifiers_of taken) t) && not (has_symbol (constants_of rule.production) t)) i
      (and_true (not (has_symbol (identifiers_of taken) t)) (not (has_symbol (constants_of rule.production) t))
      (ap not (none_any (symbol_eq t) (identifiers_of taken) (has_symbol (identifiers_of taken) t) refl (λ z. not_bound t q (subst (λ x. IsIn t x) (each_symbol [] [] taken) (has_in (identifiers_of taken) t z)))))
      (ap not (none_any (symbol_eq t) (constants_of rule.production) (has_symbol (constants_of rule.production) t) refl (λ z. not_constant t q (has_in (constants_of rule.production) t z))))))

  -- the names of its variables are in the table
  name_there : (v : ℕ) → HasWord words (name_at rule.production.vars v)
  unfolding general_form
  name_there v = each_name (general_form words c depth).names learning_event.moment.names v
    where
      each_name : (names : Texts) → ((text : List ℕ) → IsIn text names → has_text words text ≡ true) → (v : ℕ) → HasWord words (name_at (map (word_in words) names) v)
      each_name [] h v = some
      each_name (t ∷ names) h zero = (same_place words words t (not_grown words) (h t (inl refl))).1
      each_name (t ∷ names) h (suc v) = each_name names (λ x i. h x (inr i)) v

  again : (later : Texts) → Grown words later → AreAlike (is_made_by c) c.results (made_again later letters mine)
  unfolding general_form
  again later g =
      subst (AreAlike (is_made_by c) c.results)
      (sym (ap (λ (x : MadeSoFar). x.wishes) (recorded_alike order_words m.reach.goals rule (instance_at_grounds words c number) later letters learning_event.moment.goals_given learning_event.moment.long)
      ∙ plain_made m.reach.goals (with_variables true (variablized words c depth m.elements (as_learning m.settings (named_wave l w).learned) learning_event.lawful k)) c.results (bindings_of rule.production (instance_at_grounds words c number)) words later letters rule.production.vars
      (λ v. name_later words later (name_at rule.production.vars v) g (name_there v)))) made.wishes

pub chunk_firings_are_lawful : ChunkFiringsAreLawful
chunk_firings_are_lawful m l w order_words firing number name learning_event h tags some = record {
  passes = passes m l w order_words firing number name learning_event h tags some;
  makes = λ later g. record {
    letters = (named_wave l w).names.letters;
    alike = freed_alike (is_made_by l.chain) (is_new_in (mine m l w order_words firing number name learning_event h tags some)) l.chain.results _
        (again m l w order_words firing number name learning_event h tags some later g) (new_here m l w order_words firing number name learning_event h tags some);
  };
}
