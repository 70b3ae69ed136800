-- What a learning step adds to a wave: nothing, or one firing, from which learning goes on where it is of a higher goal.
use Rattle.std.proofs.Common.{◌≡◌, refl, sym, ◌∙◌, ap, ℕ, suc, nat_lt, cond, List, [], ◌∷◌, ◌++◌, length, map}
use Rattle.soar_rule.specs.Productions.{ProductionOf}
use Rattle.soar_sym.specs.declared.symbol.Sym.{Sym}
use Rattle.soar_wm.specs.declared.element.Element.{Element}
use Rattle.defs_text.specs.Numbered.{word_in}
use Rattle.defs_soar.specs.declared.learning.Cause.{Cause}
use Rattle.defs_soar.specs.Candidate.{all_grounds, general_form, literal_form, named_form}
use Rattle.defs_soar.specs.ConditionOrder.{Ordered, ordered_grounds}
use Rattle.defs_soar.specs.Events.{by_instance, by_learned, has_lost, has_no_grounds, is_blocked, justifies, learns, LearningEvent, reuses}
use Rattle.defs_soar.specs.History.{FiringOf}
use Rattle.defs_soar.specs.LearnedFirings.{as_fresh, learned_firing, ExplainedFiring, with_supports_by, with_learned, without_rule}
use Rattle.defs_soar.specs.Outcome.{blocked, chunked, groundless, justified, lost, Outcome, outcome_of, reused}
use Rattle.defs_soar.specs.LearnedRules.{as_learning, by_outcome, chunk_front, with_number_total, free_number, identifiers_of, justification_front, learned_name, names_joining, after_explanation, with_chunk, with_justification, with_names, with_joined_word}
use Rattle.defs_soar.specs.WaveAtHand.{all_fresh, Entry, fired, Fresh, BeforeWave, Wave}
use Rattle.learning_laws.specs.LawfulWaves.{fresh_firings}
use Rattle.learning_laws.proofs.JoinLaws.{fresh_more, fresh_told}
use Rattle.learning_laws.proofs.LearnedRuleLaws.{firings_same}
use Rattle.learning_laws.proofs.WorkLaws.{map_both}

-- a wave after a learning step about a firing of this depth, where these were the numbers to go on with, the firings, and the last number
pub data IsTaught (depth : ℕ) (next : List ℕ) (firings : List FiringOf) (last : ℕ) (v : Wave) : Type 0 where
  keeps : v.next ≡ next → fresh_firings v ≡ firings → v.last_firing ≡ last → IsTaught depth next firings last v
  joins : (f : FiringOf) → fresh_firings v ≡ firings ++ f ∷ [] → f.number ≡ suc last → v.last_firing ≡ suc last
      → v.next ≡ next ++ cond (nat_lt f.depth depth) (f.number ∷ []) [] → IsTaught depth next firings last v

abbrev Taught : ExplainedFiring → Wave → Wave → Type 0
Taught l w v = IsTaught l.explained.depth w.next (fresh_firings w) w.last_firing v

without_taught : (l : ExplainedFiring) (learning_event : LearningEvent) (w : Wave) → Taught l w (without_rule l learning_event w)
without_taught l learning_event w = keeps refl (firings_same l.explained.number l.takes_over by_instance learning_event w.entries) refl

joined : (m : BeforeWave) (l : ExplainedFiring) (production : ProductionOf) (elements : List Element) (binds : List Sym) (learning_event : ℕ → List ℕ → LearningEvent) (w : Wave)
    → Taught l w (with_learned m l production elements binds learning_event w)
joined m l production elements binds learning_event w = joins f firings refl refl refl
  where
    f : FiringOf
    f = learned_firing m w.names.words (suc w.last_firing) (record { number = suc w.program.last_rule; production = production }) elements binds l.chain.results

    told_as : LearningEvent
    told_as = learning_event f.number f.instance.tags

    fresh : Fresh
    fresh = as_fresh m l f elements told_as

    before : List Entry
    before = map (with_supports_by l.explained.number l.takes_over by_learned) w.entries

    firings : map (λ (x : Fresh). x.firing) (all_fresh (before ++ fired fresh ∷ [])) ≡ fresh_firings w ++ f ∷ []
    firings =
        ap (map (λ (x : Fresh). x.firing)) (fresh_more before fresh)
        ∙ map_both (λ (x : Fresh). x.firing) (all_fresh before) (fresh ∷ [])
        ∙ ap (λ fs. fs ++ f ∷ []) (ap (map (λ (x : Fresh). x.firing)) (sym (fresh_told before told_as)) ∙ firings_same l.explained.number l.takes_over by_learned told_as w.entries)

chunk_taught : (m : BeforeWave) (l : ExplainedFiring) (production : ProductionOf) (o : Ordered) (w : Wave) → Taught l w (with_chunk m l production o w)
chunk_taught m l production o w =
    let n = free_number (length w.program.rules) w.names.words w.program.rules chunk_front (suc w.program.chunks) in
    let text = learned_name chunk_front n in
    let named = with_joined_word text (with_number_total n w) in
    let name = word_in named.names.words text in
    joined m l (record production { name = name }) o.taken (identifiers_of o.taken) (λ number tags. learns number name l.explained.number tags) _

justification_taught : (m : BeforeWave) (l : ExplainedFiring) (production : ProductionOf) (o : Ordered) (why : Cause) (w : Wave) → Taught l w (with_justification m l production o why w)
justification_taught m l production o why w =
    let n = free_number (length w.program.rules) w.names.words w.program.rules justification_front (suc w.program.justifications) in
    let text = learned_name justification_front n in
    let named = with_joined_word text (with_number_total n w) in
    let name = word_in named.names.words text in
    joined m l (record production { name = name }) (all_grounds o) [] (λ number tags. justifies number name l.explained.number tags why) _

outcome_taught : (m : BeforeWave) (l : ExplainedFiring) (w : Wave) (o : Outcome) → Taught l w (by_outcome m l w o)
outcome_taught m l w (lost tag) = without_taught l (has_lost l.explained.number tag) w
outcome_taught m l w (blocked b) = without_taught l (is_blocked l.explained.number b.negation b.tag) w
outcome_taught m l w groundless = without_taught l (has_no_grounds l.explained.number) w
outcome_taught m l w (reused name) = without_taught l (reuses name l.explained.number) w
outcome_taught m l w (justified why) =
    justification_taught m l (named_form w.names.words (literal_form w.names.words l.chain l.explained.depth)) (ordered_grounds w.names.words l.chain.grounds) why w
outcome_taught m l w chunked = chunk_taught m l (named_form w.names.words (general_form w.names.words l.chain l.explained.depth)) (ordered_grounds w.names.words l.chain.grounds) w

-- words that join change none of it
with_words_taught : (depth : ℕ) (texts : List (List ℕ)) (w v : Wave) → IsTaught depth (with_names texts w).next (fresh_firings (with_names texts w)) (with_names texts w).last_firing v
    → IsTaught depth w.next (fresh_firings w) w.last_firing v
with_words_taught depth [] w v h = h
with_words_taught depth (text ∷ texts) w v h = with_words_taught depth texts (with_joined_word text w) v h

pub is_taught : (m : BeforeWave) (l : ExplainedFiring) (w : Wave) → Taught l w (after_explanation m l w)
is_taught m l w =
    with_words_taught l.explained.depth texts w (after_explanation m l w)
    (outcome_taught m l read (outcome_of read.names.words l.chain l.explained.depth read.program.rules m.elements (as_learning m.settings read.learned)))
  where
    texts : List (List ℕ)
    texts = names_joining w.names.words l.chain l.explained.depth

    read : Wave
    read = with_names texts w
