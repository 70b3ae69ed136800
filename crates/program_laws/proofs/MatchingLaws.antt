-- Rules that are learned can be matched with their conditions as they stand.
use Rattle.std.proofs.Common.{◌≡◌, refl, sym, subst, ℕ, suc, true, inl, inr, ◌⊎◌, List, [], ◌∷◌, ◌++◌, length}
use Rattle.soar_sym.specs.Words.{Texts}
use Rattle.soar_sym.specs.declared.symbol.Sym.{Sym}
use Rattle.soar_rule.specs.AsItStands.{can_be_matched}
use Rattle.soar_rule.specs.Productions.{ProductionOf}
use Rattle.defs_match.specs.Rules.{RuleOf}
use Rattle.defs_text.specs.Numbered.{word_in}
use Rattle.defs_soar.specs.declared.learning.Cause.{Cause}
use Rattle.defs_soar.specs.Agents.{Agent}
use Rattle.defs_soar.specs.Candidate.{general_form, literal_form, named_form}
use Rattle.defs_soar.specs.History.{ChainOf}
use Rattle.defs_soar.specs.Laws.{IsIn}
use Rattle.defs_soar.specs.LearnedFirings.{ExplainedFiring}
use Rattle.defs_soar.specs.LearnedRules.{after_explanation, as_learning, by_outcome, chunk_front, free_number, justification_front, learned_name, names_joining, with_joined_word, with_names, with_number_total}
use Rattle.defs_soar.specs.Outcome.{blocked, chunked, groundless, justified, lost, Outcome, reused}
use Rattle.defs_soar.specs.WaveAtHand.{all_fresh, BeforeWave, Fresh, Wave}
use Rattle.defs_soar.specs.WaveFirings.{before_wave}
use Rattle.learning_laws.specs.LawfulAgents.{IsLawfulAgent}
use Rattle.learning_laws.specs.LawfulWaves.{explained_in, IsLawfulWave}
use Rattle.learning_laws.specs.LearningSteps.{IsLearningStep, named_wave, outcome_at}
use Rattle.learning_laws.proofs.CheckLaws.{chunks_are_checked}
use Rattle.learning_laws.proofs.Lists.{in_append}
use Rattle.learning_laws.proofs.WaveLearning.{negations, waves_give_learning_steps}
use Rattle.rule_laws.proofs.BoundLaws.{checked_is_bound}
use Rattle.program_laws.specs.Matching.{LearnedCanBeMatched}
use Rattle.program_laws.proofs.LearningRounds.{learning_holds}
use Rattle.program_laws.proofs.LiteralLaws.{literal_matched}

-- each rule is one of these, or can be matched
abbrev AreMatched : List RuleOf → List RuleOf → Type 0
AreMatched first rules = (rule : RuleOf) → IsIn rule rules → IsIn rule first ⊎ (can_be_matched rule.production ≡ true)

rules_named : (texts : Texts) (w : Wave) → (with_names texts w).program.rules ≡ w.program.rules
rules_named [] w = refl
rules_named (text ∷ texts) w = rules_named texts (with_joined_word text w)

one_more : (first rules : List RuleOf) (rule : RuleOf) → AreMatched first rules → can_be_matched rule.production ≡ true → AreMatched first (rules ++ rule ∷ [])
one_more first rules rule h k r i = elim (in_append r rules (rule ∷ []) i) [
  | inl j ↦ h r j
  | inr j ↦ elim j [ inl e ↦ inr (subst (λ (x : RuleOf). can_be_matched x.production ≡ true) e k) | inr z ↦ absurd z ]
]

module _ (first : List RuleOf) (a : Agent) (w : Wave) (x : Fresh) (h : IsLawfulAgent a) (k : IsLawfulWave a w) (i : IsIn x (all_fresh w.entries)) (known : AreMatched first w.program.rules) where
  abbrev m : BeforeWave
  m = before_wave a

  abbrev l : ExplainedFiring
  l = explained_in a w x.firing

  abbrev c : ChainOf
  c = l.chain

  abbrev depth : ℕ
  depth = l.explained.depth

  abbrev named : Wave
  named = named_wave l w

  abbrev words : Texts
  words = named.names.words

  named_known : AreMatched first named.program.rules
  named_known = subst (AreMatched first) (sym (rules_named (names_joining w.names.words c depth) w)) known

  chunk_matched : (number : ℕ) (name : Sym) → outcome_at m l w ≡ chunked → can_be_matched (record (named_form words (general_form words c depth)) { name = name }) ≡ true
  chunk_matched number name q =
      let step : IsLearningStep m l w = waves_give_learning_steps a w x h k i q in
      let production : ProductionOf = record (named_form words (general_form words c depth)) { name = name } in
      checked_is_bound production production
      (chunks_are_checked words named.names.letters a.holding.goals c depth number name named.program.rules a.holding.elements (as_learning a.settings named.learned) step.lawful step.moment step.negations step.flags q)

  -- a rule that joins, under its name and number
  chunk_known : outcome_at m l w ≡ chunked → AreMatched first (by_outcome m l named chunked).program.rules
  chunk_known q =
      one_more first named.program.rules (record { number = number; production = record (named_form words (general_form words c depth)) { name = name } }) named_known (chunk_matched number name q)
    where
      n : ℕ
      n = free_number (length named.program.rules) words named.program.rules chunk_front (suc named.program.chunks)

      text : List ℕ
      text = learned_name chunk_front n

      name : Sym
      name = word_in (with_joined_word text (with_number_total n named)).names.words text

      number : ℕ
      number = suc named.program.last_rule

  justification_known : (why : Cause) → AreMatched first (by_outcome m l named (justified why)).program.rules
  justification_known why =
      one_more first named.program.rules (record { number = number; production = record (named_form words (literal_form words c depth)) { name = name } }) named_known
      (literal_matched words c depth name (negations a w x h k i))
    where
      n : ℕ
      n = free_number (length named.program.rules) words named.program.rules justification_front (suc named.program.justifications)

      text : List ℕ
      text = learned_name justification_front n

      name : Sym
      name = word_in (with_joined_word text (with_number_total n named)).names.words text

      number : ℕ
      number = suc named.program.last_rule

  step_matched : AreMatched first (after_explanation m l w).program.rules
  step_matched = go (outcome_at m l w) refl
    where
      go : (o : Outcome) → outcome_at m l w ≡ o → AreMatched first (by_outcome m l named o).program.rules
      go (lost tag) q = named_known
      go (blocked b) q = named_known
      go groundless q = named_known
      go (reused name) q = named_known
      go (justified why) q = justification_known why
      go chunked q = chunk_known q

pub learned_can_be_matched : LearnedCanBeMatched
learned_can_be_matched a w rule h k i =
    learning_holds a h (λ v. AreMatched w.program.rules v.program.rules) (λ v known. known) (λ v x l j known. step_matched w.program.rules a v x h l j known) w k (λ r j. inl j) rule i
