-- What a wave learns joins what was there.
use Rattle.std.proofs.Common.{◌≡◌, refl, sym, ◌∙◌, ap, subst, ℕ, zero, suc, nat_lt, Bool, true, false, ◌==◌, ◌&&◌, cond, List, [], ◌∷◌, ◌++◌, map, filter, length, append_assoc}
use Rattle.std.proofs.lemmas.List.{append-nil}
use Rattle.std.specs.List.{list_any}
use Rattle.soar_rule.specs.Productions.{ProductionOf}
use Rattle.soar_rule.specs.Repeat.{repeated}
use Rattle.soar_sym.specs.declared.symbol.Sym.{Sym}
use Rattle.soar_wm.specs.declared.element.Element.{Element}
use Rattle.defs_match.specs.Rules.{RuleOf}
use Rattle.defs_text.specs.Numbered.{word_in}
use Rattle.defs_soar.specs.declared.learning.Cause.{Cause}
use Rattle.defs_soar.specs.Agents.{Learnt}
use Rattle.defs_soar.specs.Candidate.{all_grounds, general_form, literal_form, named_form}
use Rattle.defs_soar.specs.ConditionOrder.{Ordered, ordered_grounds}
use Rattle.defs_soar.specs.Events.{has_lost, has_no_grounds, is_blocked, justifies, learns, LearningEvent, reuses}
use Rattle.defs_soar.specs.Learning.{explained_on, learned_from, learned_from_each, one_round, with_learning}
use Rattle.defs_soar.specs.LearnedFirings.{ExplainedFiring, with_learned, without_rule}
use Rattle.defs_soar.specs.LearnedRules.{after_explanation, as_learning, by_outcome, chunk_front, free_number, identifiers_of, justification_front, learned_name, names_joining, with_chunk, with_joined_word, with_justification, with_names, with_number_total}
use Rattle.defs_soar.specs.Limits.{counts_to, Total, words_to}
use Rattle.defs_soar.specs.Outcome.{blocked, chunked, groundless, justified, lost, Outcome, outcome_of, reused}
use Rattle.defs_soar.specs.Results.{is_result, results_of}
use Rattle.defs_soar.specs.WaveAtHand.{all_fresh, BeforeWave, Fresh, Wave}
use Rattle.learning_laws.specs.Lawful.{Grown}
use Rattle.learning_laws.proofs.TableGrowth.{grown_by_text, grown_twice, not_grown}
use Rattle.learning_laws.proofs.WorkLaws.{map_both}
use Rattle.program_laws.specs.Taught.{AreNext, IsTaught, LearningTeaches}

-- ---- what joins in turn

next_twice : (first : ℕ) (rules more : List RuleOf) (middle last : ℕ) → AreNext first rules middle → AreNext middle more last → AreNext first (rules ++ more) last
next_twice first [] more middle last h k = subst (λ n. AreNext n more last) (sym h) k
next_twice first (rule ∷ rules) more middle last h k = (h.0, next_twice (suc first) rules more middle last h.1 k)

taught_twice : (u v w : Wave) → IsTaught u v → IsTaught v w → IsTaught u w
taught_twice u v w a b = record {
  rules = a.rules ++ b.rules;
  rules_are = b.rules_are ∙ ap (λ l. l ++ b.rules) a.rules_are ∙ append_assoc u.program.rules a.rules b.rules;
  numbers = next_twice u.program.last_rule a.rules b.rules v.program.last_rule w.program.last_rule a.numbers b.numbers;
  chains = a.chains ++ b.chains;
  chains_are = b.chains_are ∙ ap (λ l. l ++ b.chains) a.chains_are ∙ append_assoc u.program.chains a.chains b.chains;
  of_rules = map_both (λ (l : Learnt). l.rule) a.chains b.chains
      ∙ ap (λ l. l ++ map (λ (l : Learnt). l.rule) b.chains) a.of_rules
      ∙ ap (λ l. map (λ (r : RuleOf). r.number) a.rules ++ l) b.of_rules
      ∙ sym (map_both (λ (r : RuleOf). r.number) a.rules b.rules);
  words = grown_twice u.names.words v.names.words w.names.words a.words b.words;
  letters_are = b.letters_are ∙ a.letters_are;
  last_tag_is = b.last_tag_is ∙ a.last_tag_is;
  halted_is = b.halted_is ∙ a.halted_is;
  totals = a.totals ++ b.totals;
  totals_are = b.totals_are ∙ ap (λ l. l ++ b.totals) a.totals_are ∙ append_assoc u.totals a.totals b.totals;
}

-- a wave without another rule
no_rule : (w v : Wave) (totals : List Total) → v.program.rules ≡ w.program.rules → v.program.last_rule ≡ w.program.last_rule → v.program.chains ≡ w.program.chains
    → Grown w.names.words v.names.words → v.names.letters ≡ w.names.letters → v.names.last_tag ≡ w.names.last_tag → v.halted ≡ w.halted → v.totals ≡ w.totals ++ totals → IsTaught w v
no_rule w v totals rules last chains words letters tag halted totals_are = record {
  rules = [];
  rules_are = rules ∙ sym (append-nil w.program.rules);
  numbers = sym last;
  chains = [];
  chains_are = chains ∙ sym (append-nil w.program.chains);
  of_rules = refl;
  words = words;
  letters_are = letters;
  last_tag_is = tag;
  halted_is = halted;
  totals = totals;
  totals_are = totals_are;
}

-- a wave with the same names, program, halt and totals
same_parts : (w v : Wave) → v.program.rules ≡ w.program.rules → v.program.last_rule ≡ w.program.last_rule → v.program.chains ≡ w.program.chains → v.names ≡ w.names
    → v.halted ≡ w.halted → v.totals ≡ w.totals → IsTaught w v
same_parts w v rules last chains names halted totals =
    no_rule w v [] rules last chains (subst (λ n. Grown w.names.words n.words) (sym names) (not_grown w.names.words)) (ap (λ n. n.letters) names) (ap (λ n. n.last_tag) names) halted
    (totals ∙ sym (append-nil w.totals))

-- ---- parts of a step

word_taught : (text : List ℕ) (w : Wave) → IsTaught w (with_joined_word text w)
word_taught text w = no_rule w (with_joined_word text w) (words_to (length (with_joined_word text w).names.words) ∷ []) refl refl refl (grown_by_text w.names.words text) refl refl refl refl

names_taught : (texts : List (List ℕ)) (w : Wave) → IsTaught w (with_names texts w)
names_taught [] w = same_parts w w refl refl refl refl refl refl
names_taught (text ∷ texts) w = taught_twice w (with_joined_word text w) (with_names texts (with_joined_word text w)) (word_taught text w) (names_taught texts (with_joined_word text w))

number_taught : (n : ℕ) (w : Wave) → IsTaught w (with_number_total n w)
number_taught n w = no_rule w (with_number_total n w) (counts_to n ∷ []) refl refl refl (not_grown w.names.words) refl refl refl refl

without_taught : (l : ExplainedFiring) (learning_event : LearningEvent) (w : Wave) → IsTaught w (without_rule l learning_event w)
without_taught l learning_event w = same_parts w (without_rule l learning_event w) refl refl refl refl refl refl

module _ (m : BeforeWave) (l : ExplainedFiring) where
  learned_taught : (production : ProductionOf) (elements : List Element) (binds : List Sym) (learning_event : ℕ → List ℕ → LearningEvent) (w : Wave)
      → IsTaught w (with_learned m l production elements binds learning_event w)
  learned_taught production elements binds learning_event w = record {
    rules = record { number = suc w.program.last_rule; production = production } ∷ [];
    rules_are = refl;
    numbers = (refl, refl);
    chains = record { rule = suc w.program.last_rule; chain = l.chain } ∷ [];
    chains_are = refl;
    of_rules = refl;
    words = not_grown w.names.words;
    letters_are = refl;
    last_tag_is = refl;
    halted_is = refl;
    totals = counts_to (suc w.program.last_rule) ∷ counts_to (suc w.last_firing) ∷ [];
    totals_are = refl;
  }

  -- a number and a word join before it
  numbered_taught : (n : ℕ) (text : List ℕ) (w counted v : Wave) → IsTaught (with_joined_word text (with_number_total n w)) counted → IsTaught counted v → IsTaught w v
  numbered_taught n text w counted v h k =
      taught_twice w counted v
      (taught_twice w (with_joined_word text (with_number_total n w)) counted
      (taught_twice w (with_number_total n w) (with_joined_word text (with_number_total n w)) (number_taught n w) (word_taught text (with_number_total n w))) h) k

  chunk_taught : (production : ProductionOf) (o : Ordered) (w : Wave) → IsTaught w (with_chunk m l production o w)
  chunk_taught production o w =
      numbered_taught n text w counted (with_chunk m l production o w) (same_parts named counted refl refl refl refl refl refl)
      (learned_taught (record production { name = word_in named.names.words text }) o.taken (identifiers_of o.taken) (λ number tags. learns number (word_in named.names.words text) l.explained.number tags) counted)
    where
      n : ℕ
      n = free_number (length w.program.rules) w.names.words w.program.rules chunk_front (suc w.program.chunks)

      text : List ℕ
      text = learned_name chunk_front n

      named : Wave
      named = with_joined_word text (with_number_total n w)

      counted : Wave
      counted = record named { program = record named.program { chunks = n }; learned = suc named.learned }

  justification_taught : (production : ProductionOf) (o : Ordered) (why : Cause) (w : Wave) → IsTaught w (with_justification m l production o why w)
  justification_taught production o why w =
      numbered_taught n text w counted (with_justification m l production o why w) (same_parts named counted refl refl refl refl refl refl)
      (learned_taught (record production { name = word_in named.names.words text }) (all_grounds o) [] (λ number tags. justifies number (word_in named.names.words text) l.explained.number tags why) counted)
    where
      n : ℕ
      n = free_number (length w.program.rules) w.names.words w.program.rules justification_front (suc w.program.justifications)

      text : List ℕ
      text = learned_name justification_front n

      named : Wave
      named = with_joined_word text (with_number_total n w)

      counted : Wave
      counted = record named { program = record named.program { justifications = n } }

  -- ---- a step

  outcome_taught : (w : Wave) (o : Outcome) → IsTaught w (by_outcome m l w o)
  outcome_taught w (lost tag) = without_taught l (has_lost l.explained.number tag) w
  outcome_taught w (blocked b) = without_taught l (is_blocked l.explained.number b.negation b.tag) w
  outcome_taught w groundless = without_taught l (has_no_grounds l.explained.number) w
  outcome_taught w (reused name) = without_taught l (reuses name l.explained.number) w
  outcome_taught w (justified why) =
      justification_taught (named_form w.names.words (literal_form w.names.words l.chain l.explained.depth)) (ordered_grounds w.names.words l.chain.grounds) why w
  outcome_taught w chunked = chunk_taught (named_form w.names.words (general_form w.names.words l.chain l.explained.depth)) (ordered_grounds w.names.words l.chain.grounds) w

  pub step_taught : (w : Wave) → IsTaught w (after_explanation m l w)
  step_taught w =
      taught_twice w read (after_explanation m l w) (names_taught texts w)
      (outcome_taught read (outcome_of read.names.words l.chain l.explained.depth read.program.rules m.elements (as_learning m.settings read.learned)))
    where
      texts : List (List ℕ)
      texts = names_joining w.names.words l.chain l.explained.depth

      read : Wave
      read = with_names texts w

-- ---- rounds of steps

each_taught : (m : BeforeWave) (left : List ℕ) (v : Wave) → IsTaught v (learned_from_each m left v)
each_taught m [] v = same_parts v v refl refl refl refl refl refl
each_taught m (n ∷ left) v = go (filter (λ x. x.firing.number == n) (all_fresh v.entries)) (λ u. each_taught m left u)
  where
    one : (x : Fresh) (b : Bool) → IsTaught v (cond b (after_explanation m (explained_on m x.firing (results_of v.names.words m.reach m.rows x.firing)) v) v)
    one x true = step_taught m (explained_on m x.firing (results_of v.names.words m.reach m.rows x.firing)) v
    one x false = same_parts v v refl refl refl refl refl refl

    go : (found : List Fresh) → ((u : Wave) → IsTaught u (learned_from_each m left u)) → IsTaught v (learned_from_each m left (elim found as (λ y. Wave) [ [] ↦ v | x ∷ others ↦ learned_from m x.firing v ]))
    go [] later = later v
    go (x ∷ others) later =
        let u = learned_from m x.firing v in
        taught_twice v u (learned_from_each m left u) (one x (nat_lt 1 x.firing.depth && list_any (is_result m.reach x.firing.depth) x.firing.made)) (later u)

round_taught : (m : BeforeWave) (v : Wave) → IsTaught v (one_round m v)
round_taught m v = taught_twice v (record v { next = [] }) (one_round m v) (same_parts v (record v { next = [] }) refl refl refl refl refl refl) (each_taught m v.next (record v { next = [] }))

rounds_taught : (m : BeforeWave) (n : ℕ) (v : Wave) → IsTaught v (repeated n (one_round m) v)
rounds_taught m zero v = same_parts v v refl refl refl refl refl refl
rounds_taught m (suc n) v = taught_twice v (one_round m v) (repeated n (one_round m) (one_round m v)) (round_taught m v) (rounds_taught m n (one_round m v))

pub learning_teaches : LearningTeaches
unfolding with_learning
learning_teaches m w = rounds_taught m (length m.reach.goals) w
