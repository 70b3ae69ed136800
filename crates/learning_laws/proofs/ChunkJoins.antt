-- A chunk that joins keeps a wave lawful; so each learning step does.
use Rattle.std.proofs.Common.{◌≡◌, refl, sym, ◌∙◌, ap, subst, ℕ, suc, ◌≤◌, ◌<◌, Bool, true, false, ◌&&◌, inl, inr, arith, List, [], ◌++◌, length, flat_map}
use Rattle.std.specs.Prelude.{not}
use Rattle.soar_sym.specs.Equality.{symbol_eq}
use Rattle.soar_sym.specs.Letters.{last_of}
use Rattle.soar_sym.specs.Words.{IsKnown, Texts}
use Rattle.soar_sym.specs.declared.symbol.Sym.{Sym}
use Rattle.soar_sym.specs.declared.symbol.Sym.TheVariants.{Ident, Word, Int}
use Rattle.soar_rule.specs.Productions.{ProductionOf}
use Rattle.soar_rule.specs.Symbols.{constants_of, constants_of_action, constants_of_conditions}
use Rattle.soar_wm.specs.declared.element.Element.{Element}
use Rattle.defs_text.specs.Numbered.{word_in}
use Rattle.defs_soar.specs.declared.learning.Learning.{Learning}
use Rattle.defs_soar.specs.Agents.{Agent}
use Rattle.defs_soar.specs.Candidate.{conditions_of, general_form, named_form, with_variables}
use Rattle.defs_soar.specs.CarriedTests.{carried_tests, placed_tests}
use Rattle.defs_soar.specs.ChainIdentifiers.{is_made_by}
use Rattle.defs_soar.specs.ConditionOrder.{ordered_grounds}
use Rattle.defs_soar.specs.Dependencies.{is_new_in, symbols_of_wish}
use Rattle.defs_soar.specs.Events.{has_lost, has_no_grounds, is_blocked, learns, reuses}
use Rattle.defs_soar.specs.History.{ChainOf, FiringOf}
use Rattle.defs_soar.specs.Laws.{IsIn}
use Rattle.defs_soar.specs.LearnedFirings.{ExplainedFiring}
use Rattle.defs_soar.specs.Outcome.{blocked, chunked, groundless, justified, lost, Outcome, reused}
use Rattle.defs_soar.specs.Variablized.{each_variablized_once, Variablized, variablized_in_conditions, variablized_in_wish}
use Rattle.defs_soar.specs.Sorted.{has_symbol}
use Rattle.defs_soar.specs.LearnedRules.{as_learning, by_outcome, chunk_front, with_number_total, free_number, identifiers_of, learned_name, names_joining, with_chunk, with_joined_word}
use Rattle.defs_soar.specs.Ungrounded.{symbols_of_element}
use Rattle.defs_soar.specs.Values.{is_identifier}
use Rattle.defs_soar.specs.WaveAtHand.{all_fresh, Fresh, BeforeWave, Wave}
use Rattle.defs_soar.specs.WaveFirings.{before_wave}
use Rattle.learning_laws.specs.Lawful.{Grown, IsLawfulFiring}
use Rattle.learning_laws.specs.LawfulAgents.{IsLawfulAgent, IsLiteral}
use Rattle.learning_laws.specs.LawfulWaves.{IsLawfulWave, explained_in, LearningStepsKeep}
use Rattle.learning_laws.specs.LearningSteps.{IsLearningStep, named_wave, outcome_at}
use Rattle.learning_laws.specs.Listed.{listed_of_all}
use Rattle.learning_laws.proofs.CheckedReady.{checked_negations_ready}
use Rattle.learning_laws.proofs.CheckLaws.{chunks_are_checked}
use Rattle.learning_laws.proofs.Chunked.{is_chunked, IsChunked}
use Rattle.learning_laws.proofs.ConflictLaws.{each_symbol}
use Rattle.learning_laws.proofs.FireLaws.{given_more, HasMore, literal_more}
use Rattle.learning_laws.proofs.FitLaws.{places_from}
use Rattle.learning_laws.proofs.GroundedLaws.{has_in}
use Rattle.learning_laws.proofs.JoinLaws.{IsJoining, joining_firing, joining_keeps}
use Rattle.learning_laws.proofs.JustificationJoins.{ground_known, holds, justification_joins, named_lawful, nil_known, results_given, rule_listed, tag_named, tags_tell_uses, tell, word_counted}
use Rattle.learning_laws.proofs.KnownSymbols.{form_all}
use Rattle.learning_laws.proofs.LearnedLaws.{chunk_firings_are_lawful}
use Rattle.learning_laws.proofs.ListedLaws.{conditions_listed, no_action_constant}
use Rattle.learning_laws.proofs.Lists.{any_in, both_true, in_append, in_flat_map, in_map, same_itself}
use Rattle.learning_laws.proofs.NamingLaws.{known_later}
use Rattle.learning_laws.proofs.OrderLaws.{is_order_of}
use Rattle.learning_laws.proofs.ReplayLaws.{found_within, is_there_still}
use Rattle.learning_laws.proofs.ResultLaws.{not_made_bound}
use Rattle.learning_laws.proofs.TableGrowth.{grown_by_text, grown_twice, not_grown, same_place}
use Rattle.learning_laws.proofs.TakenListed.{learned_listed, plain_listed}
use Rattle.learning_laws.proofs.LearnedRuleLaws.{steps_without_rule_keep}
use Rattle.learning_laws.proofs.WaveLearning.{c_lawful, grown, letters_are, no_goal, result_can, waves_give_learning_steps}

known_literal : (words : Texts) (s : Sym) → IsKnown words s → is_identifier s ≡ false → IsLiteral words s
known_literal words (Ident l n) h q = absurd (cc)
known_literal words (Word n) h q = h
known_literal words (Int z) h q = tt

module _ (a : Agent) (w : Wave) (x : Fresh) (h : IsLawfulAgent a) (k : IsLawfulWave a w) (i : IsIn x (all_fresh w.entries)) (outcome : outcome_at (before_wave a) (explained_in a w x.firing) w ≡ chunked) where
  abbrev m : BeforeWave
  m = before_wave a

  abbrev l : ExplainedFiring
  l = explained_in a w x.firing

  abbrev c : ChainOf
  c = l.chain

  abbrev depth : ℕ
  depth = l.explained.depth

  abbrev named : Wave
  named = named_wave l w

  abbrev words : Texts
  words = named.names.words

  abbrev settings : Learning
  settings = as_learning a.settings named.learned

  abbrev taken : List Element
  taken = (ordered_grounds words c.grounds).taken

  learning_event : IsLearningStep m l w
  learning_event = waves_give_learning_steps a w x h k i outcome

  is : IsChunked words c depth a.holding.elements settings
  is = is_chunked words c depth named.program.rules a.holding.elements settings outcome

  there : (e : Element) → IsIn e c.grounds → IsIn e a.holding.elements
  there e j =
      let found = is_there_still a.holding.elements c.grounds e is.there j in
      subst (λ y. IsIn y a.holding.elements) ((c_lawful a w x h k i).tags e found.0 j found.1) (found_within e.tag a.holding.elements found.0 found.1)

  in_grounds : (e : Element) → IsIn e taken → IsIn e c.grounds
  in_grounds e j = (is_order_of words c.grounds (tell a w x h k i there)).taken e j

  within : (e : Element) → IsIn e taken → IsIn e a.holding.elements
  within e j = there e (in_grounds e j)

  abbrev number : ℕ
  number = free_number (length named.program.rules) words named.program.rules chunk_front (suc named.program.chunks)

  abbrev text : List ℕ
  text = learned_name chunk_front number

  abbrev spelled : Wave
  spelled = with_joined_word text (with_number_total number named)

  abbrev counted : Wave
  counted = record spelled { program = record spelled.program { chunks = number }; learned = suc spelled.learned }

  abbrev name : Sym
  name = word_in counted.names.words text

  abbrev production : ProductionOf
  production = record (named_form words (general_form words c depth)) { name = name }

  counted_lawful : IsLawfulWave a counted
  counted_lawful =
      let n = named_lawful a w x h k i in
      let d : IsLawfulWave a (with_number_total number named) = record { founded = n.founded; wishes = n.wishes; counted = n.counted; later = n.later; explains = n.explains; can = n.can } in
      word_counted a w x h k i (with_number_total number named) text counted.program counted.learned d refl

  grown_word : Grown words counted.names.words
  grown_word = grown_by_text words text

  all_grown_here : Grown w.names.words counted.names.words
  all_grown_here = grown_twice w.names.words words counted.names.words (grown a w x h k i) grown_word

  more_names : HasMore w.names counted.names
  more_names = record {
    words = all_grown_here;
    letters = λ n. subst (λ y. last_of w.names.letters n ≤ last_of y n) (letters_are a w x h k i) (same (last_of w.names.letters n));
    last_tag = tag_named (names_joining w.names.words c depth) w;
    long = counted_lawful.founded.symbols.letters;
    once = counted_lawful.founded.symbols.once;
  }
    where
      same : (n : ℕ) → n ≤ n
      same n = omega arith

  abbrev f : FiringOf
  f = joining_firing a counted l production taken (identifiers_of taken)

  lawful : IsLawfulFiring counted.names.words f
  lawful =
      let some : 0 < length words = let low : 24 ≤ length words = (named_lawful a w x h k i).founded.symbols.words in omega arith in
      let o = chunk_firings_are_lawful m l w counted.names.words (suc counted.last_firing) (suc counted.program.last_rule) name learning_event outcome (tags_tell_uses a w x h k i taken within) some in
      record { passes = o.passes; makes = λ later more. o.makes later (grown_twice words counted.names.words later grown_word more) }

  -- ---- what is new in it is new in the explanation

  new_made : (s : Sym) → is_new_in f s ≡ true → is_made_by c s ≡ true
  new_made s q = go (is_made_by c s) refl
    where
      parts : (is_identifier s ≡ true) × (has_symbol (flat_map symbols_of_wish c.results) s ≡ true) × (not (has_symbol (identifiers_of taken) s) ≡ true)
      parts =
          let o = both_true (is_identifier s) _ q in
          let p = both_true (has_symbol (flat_map symbols_of_wish c.results) s) (not (has_symbol (identifiers_of taken) s) && not (has_symbol (constants_of production) s)) o.1 in
          let r = both_true (not (has_symbol (identifiers_of taken) s)) (not (has_symbol (constants_of production) s)) p.1 in (o.0, p.0, r.0)

      go : (b : Bool) → is_made_by c s ≡ b → b ≡ true
      go true z = refl
      go false z =
          let u = in_flat_map symbols_of_wish s c.results (has_in (flat_map symbols_of_wish c.results) s parts.1) in
          let bound = not_made_bound words named.names.letters a.holding.goals c depth number name a.holding.elements settings learning_event.lawful learning_event.moment is u.0 s u.1 u.2 parts.0 z in
          let among = subst (λ l. IsIn s l) (sym (each_symbol [] [] taken)) bound in
          let y = sym (ap not (any_in (symbol_eq s) s (identifiers_of taken) among (same_itself s))) ∙ parts.2 in absurd (cc)

  -- ---- its symbols

  abbrev chosen : List Variablized
  chosen = each_variablized_once [] (variablized_in_conditions true (conditions_of c depth taken) ++ flat_map (variablized_in_wish true) c.results)

  constant_known : (s : Sym) → IsIn s (constants_of production) → IsKnown w.names.words s
  unfolding general_form
  constant_known s j =
      form_all (IsKnown w.names.words) c depth (holds a w x h k i) true chosen taken (λ e y. ground_known a w x h k i e (in_grounds e y)) (λ t y. (results_given a w x h k i t y).0) (nil_known a w x h k i) s j

  bind_known : (s : Sym) → IsIn s (identifiers_of taken) → IsKnown w.names.words s
  bind_known s j =
      elim (places_from [] taken s (subst (λ y. IsIn s y) (each_symbol [] [] taken) j)) [
        | inl y ↦ absurd y
        | inr y ↦ let e = in_flat_map symbols_of_element s taken y in ground_known a w x h k i e.0 (in_grounds e.0 e.1) s e.2
      ]

  listed : (s : Sym) → IsIn s (listed_of_all production.conditions) → IsLiteral w.names.words s
  unfolding general_form
  listed s j =
      let by = learned_listed (with_variables true chosen) c depth (placed_tests taken (carried_tests c depth)) taken s j in
      rule_listed a w x h k i by.0 s by.1 by.2

  constant_literal : (s : Sym) → IsIn s (constants_of production) → IsLiteral w.names.words s
  unfolding general_form
  constant_literal s j = go (is_identifier s) refl
    where
      go : (b : Bool) → is_identifier s ≡ b → IsLiteral w.names.words s
      go false q = known_literal w.names.words s (constant_known s j) q
      go true q =
          elim (in_append s (constants_of_conditions production.conditions) (flat_map constants_of_action production.actions) j) [
            | inl y ↦
                let by = plain_listed c depth (placed_tests taken (carried_tests c depth)) taken s (conditions_listed chosen (conditions_of c depth taken) s y q) in
                rule_listed a w x h k i by.0 s by.1 by.2
            | inr y ↦ absurd (no_action_constant chosen c.results s y q)
          ]

  name_literal : (s : Sym) → IsIn s production.vars → IsLiteral words s
  name_literal s j =
      let t = in_map (word_in words) s (general_form words c depth).names j in
      subst (IsLiteral words) t.2 ((same_place words words t.0 (not_grown words) (learning_event.moment.names t.0 t.1)).1)

  joining : IsJoining a counted l production taken (identifiers_of taken)
  joining = record {
    within = within;
    stand = checked_negations_ready production
        (chunks_are_checked words named.names.letters a.holding.goals c depth number name named.program.rules a.holding.elements settings learning_event.lawful learning_event.moment learning_event.negations learning_event.flags outcome);
    literal = λ q s j.
        elim (in_append s production.vars (constants_of production) j) [
          | inl y ↦ literal_more words counted.names.words s grown_word (name_literal s y)
          | inr y ↦ literal_more w.names.words counted.names.words s all_grown_here (constant_literal s y)
        ];
    lawful = lawful;
    listed = λ s j. literal_more w.names.words counted.names.words s all_grown_here (listed s j);
    known = λ s j.
        known_later w.names.words counted.names.words s all_grown_here (elim (in_append s (identifiers_of taken) (constants_of production) j) [ inl y ↦ bind_known s y | inr y ↦ constant_known s y ]);
    made = λ s j. given_more w.names counted.names s more_names (results_given a w x h k i s j);
    new = λ s q. no_goal a w x h k i s (new_made s q);
    can = result_can a w x h k i;
  }

  pub chunk_joins : IsLawfulWave a (with_chunk m l (named_form words (general_form words c depth)) (ordered_grounds words c.grounds) named)
  chunk_joins = joining_keeps a l production taken (identifiers_of taken) (λ number tags. learns number name l.explained.number tags) counted h counted_lawful joining

-- each learning step keeps a wave lawful
pub learning_steps_keep : LearningStepsKeep
learning_steps_keep a w x h k i =
    go (outcome_at (before_wave a) (explained_in a w x.firing) w) refl
  where
    go : (o : Outcome) → outcome_at (before_wave a) (explained_in a w x.firing) w ≡ o → IsLawfulWave a (by_outcome (before_wave a) (explained_in a w x.firing) (named_wave (explained_in a w x.firing) w) o)
    go (lost tag) q = steps_without_rule_keep a (named_wave (explained_in a w x.firing) w) (explained_in a w x.firing) (has_lost x.firing.number tag) (named_lawful a w x h k i)
    go (blocked b) q = steps_without_rule_keep a (named_wave (explained_in a w x.firing) w) (explained_in a w x.firing) (is_blocked x.firing.number b.negation b.tag) (named_lawful a w x h k i)
    go groundless q = steps_without_rule_keep a (named_wave (explained_in a w x.firing) w) (explained_in a w x.firing) (has_no_grounds x.firing.number) (named_lawful a w x h k i)
    go (reused name) q = steps_without_rule_keep a (named_wave (explained_in a w x.firing) w) (explained_in a w x.firing) (reuses name x.firing.number) (named_lawful a w x h k i)
    go (justified why) q = justification_joins a w x h k i why q
    go chunked q = chunk_joins a w x h k i q
