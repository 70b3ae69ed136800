-- All that is told of a wave, of its rules and of their explanations stays known when it learns.
use Rattle.std.proofs.Common.{◌≡◌, refl, subst, ℕ, suc, ◌≤◌, ◌<◌, inl, inr, arith, List, [], ◌++◌, length, Option, Some, None}
use Rattle.std.specs.Prelude.{unwrap_or}
use Rattle.std.specs.Str.{bytes_eq}
use Rattle.soar_sym.proofs.TableLemmas.{found_any}
use Rattle.soar_sym.specs.Words.{IsKnown, place_of, Texts}
use Rattle.soar_sym.specs.declared.symbol.Sym.{Sym}
use Rattle.soar_sym.specs.declared.symbol.Sym.TheVariants.{Word}
use Rattle.soar_rule.specs.Symbols.{AreKnown}
use Rattle.defs_text.specs.Numbered.{word_in}
use Rattle.chain_texts.specs.Shown.{shown_symbols}
use Rattle.defs_soar.specs.declared.learning.Cause.{Cause}
use Rattle.defs_soar.specs.Agents.{Agent}
use Rattle.defs_soar.specs.Candidate.{all_grounds, Form, general_form, literal_form, named_form}
use Rattle.defs_soar.specs.ConditionOrder.{ordered_grounds}
use Rattle.defs_soar.specs.Events.{has_lost, has_no_grounds, is_blocked, justifies, learns, reuses}
use Rattle.defs_soar.specs.History.{ChainOf, FiringOf}
use Rattle.defs_soar.specs.Laws.{IsIn}
use Rattle.defs_soar.specs.LearnedFirings.{ExplainedFiring}
use Rattle.defs_soar.specs.LearnedRules.{after_explanation, as_learning, by_outcome, chunk_front, free_number, identifiers_of, justification_front, learned_name, names_joining, with_joined_word, with_number_total}
use Rattle.defs_soar.specs.Outcome.{blocked, chunked, groundless, justified, lost, Outcome, reused}
use Rattle.defs_soar.specs.Ungrounded.{symbols_of_element}
use Rattle.defs_soar.specs.WaveAtHand.{all_fresh, BeforeWave, Fresh, Wave}
use Rattle.defs_soar.specs.WaveFirings.{before_wave}
use Rattle.learning_laws.specs.Lawful.{Grown}
use Rattle.learning_laws.specs.LawfulAgents.{firings_of_agent, IsLawfulAgent}
use Rattle.learning_laws.specs.LawfulWaves.{explained_in, fresh_firings, IsLawfulWave}
use Rattle.learning_laws.specs.LearningSteps.{named_wave, outcome_at}
use Rattle.learning_laws.proofs.ChunkJoins.{chunk_joins}
use Rattle.learning_laws.proofs.JustificationJoins.{ground_known, holds, justification_joins, named_lawful, nil_known, results_given}
use Rattle.learning_laws.proofs.Lists.{in_append, in_flat_map, in_map}
use Rattle.learning_laws.proofs.NamingLaws.{known_later}
use Rattle.learning_laws.proofs.TableGrowth.{grown_by_text, grown_twice, not_grown, same_place}
use Rattle.learning_laws.proofs.WaveLearning.{grown}
use Rattle.program_laws.specs.Knowing.{AreNamed, IsKnownWave, LearningIsKnown}
use Rattle.program_laws.proofs.CarriedKnown.{negations_known, sides_known}
use Rattle.program_laws.proofs.KnownEvents.{all_known_later, rules_later}
use Rattle.program_laws.proofs.KnownSteps.{known_more, learned_known, names_known, without_known}
use Rattle.program_laws.proofs.LearningRounds.{learning_holds}
use Rattle.program_laws.proofs.OutcomeLaws.{IsOutcomeKnown, outcome_known}
use Rattle.program_laws.proofs.ShownLaws.{shown_known}
use Rattle.program_laws.proofs.TeachingLaws.{step_taught}

-- ---- words that are looked up

-- a word that is looked up is in the table, which has some word
word_known : (words : Texts) (text : List ℕ) → 0 < length words → IsKnown words (word_in words text)
word_known words text some = go (place_of words text) refl
  where
    go : (o : Option ℕ) → place_of words text ≡ o → IsKnown words (Word (unwrap_or o 0))
    go None q = some
    go (Some n) q = subst (λ o. IsKnown words (Word (unwrap_or o 0))) q (same_place words words text (not_grown words) (found_any (bytes_eq text) 0 words n q)).1

module _ (a : Agent) (w : Wave) (x : Fresh) (h : IsLawfulAgent a) (k : IsLawfulWave a w) (i : IsIn x (all_fresh w.entries)) (named_firings : AreNamed w.names.words (firings_of_agent a)) (known : IsKnownWave w) where
  abbrev m : BeforeWave
  m = before_wave a

  abbrev l : ExplainedFiring
  l = explained_in a w x.firing

  abbrev c : ChainOf
  c = l.chain

  abbrev depth : ℕ
  depth = l.explained.depth

  abbrev named : Wave
  named = named_wave l w

  abbrev words : Texts
  words = named.names.words

  all_named : (f : FiringOf) → IsIn f (firings_of_agent a ++ fresh_firings w) → IsKnown w.names.words f.name
  all_named f j =
      elim (in_append f (firings_of_agent a) (fresh_firings w) j) [
        | inl y ↦ named_firings f y
        | inr y ↦ let z = in_map (λ (u : Fresh). u.firing) f (all_fresh w.entries) y in subst (λ (g : FiringOf). IsKnown w.names.words g.name) z.2 (known.names z.0 z.1)
      ]

  shown : AreKnown w.names.words (shown_symbols c)
  shown = shown_known a w x h k i all_named

  named_known : IsKnownWave named
  named_known = names_known (names_joining w.names.words c depth) w known

  some_word : 0 < length words
  some_word = let low : 24 ≤ length words = (named_lawful a w x h k i).founded.symbols.words in omega arith

  -- what is told of the outcome is known by each longer table
  told : (table : Texts) → Grown words table → IsOutcomeKnown table (outcome_at m l w)
  told table more =
      outcome_known table words c depth (λ s j. let e = in_flat_map symbols_of_element s c.grounds j in later s (ground_known a w x h k i e.0 e.1 s e.2))
      (λ s j. later s (sides_known w.names.words c depth (holds a w x h k i) s j))
      (λ s j. later s (negations_known w.names.words c depth (holds a w x h k i) (λ t y. (results_given a w x h k i t y).0) (nil_known a w x h k i) s j))
      (λ s j. later s (results_given a w x h k i s j).0) named.program.rules a.holding.elements (as_learning a.settings named.learned)
      (rules_later words table named.program.rules more named_known.rules)
    where
      later : (s : Sym) → IsKnown w.names.words s → IsKnown table s
      later s y = known_later w.names.words table s (grown_twice w.names.words words table (grown a w x h k i) more) y

  -- the names of a form's variables
  vars_known : (table : Texts) → Grown words table → (form : Form) (s : Sym) → IsIn s (named_form words form).vars → IsKnown table s
  vars_known table more form s j =
      let t = in_map (word_in words) s form.names j in known_later words table s more (subst (IsKnown words) t.2 (word_known words t.0 some_word))

  -- ---- a rule that joins

  module _ (n : ℕ) (text : List ℕ) where
    abbrev spelled : Wave
    spelled = with_joined_word text (with_number_total n named)

    abbrev table : Texts
    table = spelled.names.words

    more : Grown words table
    more = grown_by_text words text

    some_later : 0 < length table
    some_later = known_later words table (Word 0) more some_word

    shown_later : AreKnown table (shown_symbols c)
    shown_later = all_known_later w.names.words table (shown_symbols c) (grown_twice w.names.words words table (grown a w x h k i) more) shown

    spelled_known : IsKnownWave spelled
    spelled_known = known_more named spelled more refl refl refl named_known

  chunk_known : outcome_at m l w ≡ chunked → IsKnownWave (by_outcome m l named chunked)
  chunk_known q =
      learned_known a l (record (named_form words (general_form words c depth)) { name = name }) (ordered_grounds words c.grounds).taken (identifiers_of (ordered_grounds words c.grounds).taken)
      (λ number tags. learns number name l.explained.number tags) counted (known_more (spelled n text) counted (not_grown (table n text)) refl refl refl (spelled_known n text)) name_known
      (vars_known (table n text) (more n text) (general_form words c depth)) name_known (shown_later n text) (chunk_joins a w x h k i q)
    where
      n : ℕ
      n = free_number (length named.program.rules) words named.program.rules chunk_front (suc named.program.chunks)

      text : List ℕ
      text = learned_name chunk_front n

      name : Sym
      name = word_in (table n text) text

      counted : Wave
      counted = record (spelled n text) { program = record (spelled n text).program { chunks = n }; learned = suc (spelled n text).learned }

      name_known : IsKnown (table n text) name
      name_known = word_known (table n text) text (some_later n text)

  justification_known : (why : Cause) → outcome_at m l w ≡ justified why → IsKnownWave (by_outcome m l named (justified why))
  justification_known why q =
      learned_known a l (record (named_form words (literal_form words c depth)) { name = name }) (all_grounds (ordered_grounds words c.grounds)) []
      (λ number tags. justifies number name l.explained.number tags why) counted (known_more (spelled n text) counted (not_grown (table n text)) refl refl refl (spelled_known n text)) name_known
      (vars_known (table n text) (more n text) (literal_form words c depth)) (name_known, subst (IsOutcomeKnown (table n text)) q (told (table n text) (more n text))) (shown_later n text) (justification_joins a w x h k i why q)
    where
      n : ℕ
      n = free_number (length named.program.rules) words named.program.rules justification_front (suc named.program.justifications)

      text : List ℕ
      text = learned_name justification_front n

      name : Sym
      name = word_in (table n text) text

      counted : Wave
      counted = record (spelled n text) { program = record (spelled n text).program { justifications = n } }

      name_known : IsKnown (table n text) name
      name_known = word_known (table n text) text (some_later n text)

  -- ---- a step

  pub step_known : IsKnownWave (after_explanation m l w)
  step_known = go (outcome_at m l w) refl
    where
      go : (o : Outcome) → outcome_at m l w ≡ o → IsKnownWave (by_outcome m l named o)
      go (lost tag) q = without_known l (has_lost l.explained.number tag) named tt named_known
      go (blocked b) q = without_known l (is_blocked l.explained.number b.negation b.tag) named tt named_known
      go groundless q = without_known l (has_no_grounds l.explained.number) named tt named_known
      go (reused name) q = without_known l (reuses name l.explained.number) named (subst (IsOutcomeKnown words) q (told words (not_grown words))) named_known
      go (justified why) q = justification_known why q
      go chunked q = chunk_known q

-- ---- learning

-- the firings of the agent are named, and the wave is known
record IsToldOf (a : Agent) (w : Wave) : Type 0 where
  named : AreNamed w.names.words (firings_of_agent a)
  known : IsKnownWave w

pub learning_is_known : LearningIsKnown
learning_is_known a w h k named known =
    (learning_holds a h (IsToldOf a) (λ v o. record { named = o.named; known = record { rules = o.known.rules; chains = o.known.chains; events = o.known.events; names = o.known.names } })
    (λ v x l i o. record {
      named = λ f j. known_later v.names.words (after_explanation (before_wave a) (explained_in a v x.firing) v).names.words f.name (step_taught (before_wave a) (explained_in a v x.firing) v).words (o.named f j);
      known = step_known a v x h l i o.named o.known;
    }) w k (record { named = named; known = known })).known
