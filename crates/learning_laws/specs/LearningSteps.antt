-- What a wave learns from an explanation.
use Rattle.std.specs.Prelude.{◌++◌, Some, ◌≡◌, ℕ, true, false, List, [], ◌∷◌, length, map, Ok, ◌<◌, ◌≤◌}
use Rattle.soar_sym.specs.Words.{has_text, IsKnown, Texts}
use Rattle.soar_sym.specs.Letters.{last_of}
use Rattle.soar_sym.specs.declared.symbol.Sym.{Sym}
use Rattle.soar_sym.specs.declared.symbol.Sym.TheVariants.{Ident}
use Rattle.soar_rule.specs.Checking.{ordered}
use Rattle.soar_wm.specs.declared.element.Element.{Element}
use Rattle.defs_match.specs.Conflict.{conflict}
use Rattle.defs_match.specs.Rules.{RuleOf}
use Rattle.defs_soar.specs.Laws.{IsIn}
use Rattle.defs_soar.specs.declared.preference.Wish.{Wish}
use Rattle.defs_soar.specs.Candidate.{all_grounds, general_form, literal_form, named_form}
use Rattle.defs_soar.specs.Goals.{is_goal}
use Rattle.defs_soar.specs.History.{ChainOf, FiringOf}
use Rattle.defs_soar.specs.ConditionOrder.{ordered_grounds}
use Rattle.soar_wm.specs.WorkingMemory.{element_of}
use Rattle.defs_soar.specs.Learning.{explained_on}
use Rattle.defs_soar.specs.Results.{results_of}
use Rattle.defs_soar.specs.Values.{is_identifier}
use Rattle.defs_soar.specs.LearnedFirings.{learned_firing, ExplainedFiring}
use Rattle.defs_soar.specs.Support.{match_depth}
use Rattle.defs_soar.specs.Uses.{all_uses}
use Rattle.defs_soar.specs.Outcome.{chunked, Outcome, outcome_of}
use Rattle.defs_soar.specs.LearnedRules.{as_learning, identifiers_of, names_joining, after_explanation, with_names}
use Rattle.defs_soar.specs.WaveAtHand.{BeforeWave, Wave}
use Rattle.learning_laws.specs.Lawful.{IsLawful, IsLawfulFiring}
use Rattle.learning_laws.specs.Record.{IsLawfulRecord, used_elements}
use Rattle.learning_laws.specs.Waves.{IsSettled, TagsAre}
use Rattle.learning_laws.specs.Laws.{chunk_of, instance_at_grounds, made_at_grounds, MakesResults}
use Rattle.learning_laws.specs.BeforeWave.{CanBeMade, IsBeforeWave}
use Rattle.learning_laws.specs.Ready.{FlagsAgree, NegationsReady}
use Rattle.learning_laws.specs.Replay.{Replays}

-- the wave once the names of the variables are in the table, and the outcome that is found then
abbrev pub named_wave : ExplainedFiring → Wave → Wave
named_wave l w = with_names (names_joining w.names.words l.chain l.explained.depth) w

abbrev pub outcome_at : BeforeWave → ExplainedFiring → Wave → Outcome
outcome_at m l w =
    outcome_of (named_wave l w).names.words l.chain l.explained.depth (named_wave l w).program.rules m.elements (as_learning m.settings (named_wave l w).learned)

-- a lawful explanation in a wave at hand
pub record IsLearningStep (m : BeforeWave) (l : ExplainedFiring) (w : Wave) : Type 0 where
  pub lawful : IsLawful (named_wave l w).names.words l.chain m.elements
  pub moment : IsBeforeWave (named_wave l w).names.words (named_wave l w).names.letters m.reach.goals l.chain l.explained.depth
  pub negations : NegationsReady l.chain
  pub flags : FlagsAgree m.elements

-- The wave has a chunk more, with the explanation beside it. The check gives it back, it has its instance at its grounds, it makes the results, and its explanation goes through.
pub record LearnsChunk (m : BeforeWave) (l : ExplainedFiring) (w after : Wave) : Type 0 where
  pub name : Sym
  pub number : ℕ
  pub rule : IsIn (chunk_of (named_wave l w).names.words l.chain l.explained.depth name number) after.program.rules
  pub chain : IsIn (record { rule = number; chain = l.chain }) after.program.chains
  pub checked : ordered (chunk_of (named_wave l w).names.words l.chain l.explained.depth name number).production
      ≡ Ok (chunk_of (named_wave l w).names.words l.chain l.explained.depth name number).production
  pub matches : IsIn (instance_at_grounds (named_wave l w).names.words l.chain number) (conflict (chunk_of (named_wave l w).names.words l.chain l.explained.depth name number ∷ []) m.elements)
  pub results : MakesResults l.chain (made_at_grounds (named_wave l w).names.words (named_wave l w).names.letters m.reach.goals l.chain l.explained.depth name number)
  pub replays : Replays (named_wave l w).names.words l.chain m.elements

-- with local negations disallowed, this is so for each chunk that is learned from a lawful explanation
abbrev pub ChunksAreLearned : Type 0
ChunksAreLearned = (m : BeforeWave) (l : ExplainedFiring) (w : Wave) → IsLearningStep m l w → m.settings.local_negations ≡ false → outcome_at m l w ≡ chunked → LearnsChunk m l w (after_explanation m l w)

-- ---- the learned rule's own firing, from which later explanations go on

-- tags tell elements, also those that the uses of these elements name
abbrev pub TagsTellUses : BeforeWave → List Element → Type 0
TagsTellUses m elements =
    TagsAre m.elements m.elements × TagsAre m.elements (map (λ u. u.element) (all_uses m.reach m.rows (match_depth m.reach.goals elements) elements))

-- the firing of a chunk at its grounds is recorded as it goes again
abbrev pub ChunkFiringsAreLawful : Type 0
ChunkFiringsAreLawful =
    (m : BeforeWave) (l : ExplainedFiring) (w : Wave) (order : Texts) (firing number : ℕ) (name : Sym) → IsLearningStep m l w → outcome_at m l w ≡ chunked
    → TagsTellUses m (ordered_grounds (named_wave l w).names.words l.chain.grounds).taken → 0 < length (named_wave l w).names.words
    → IsLawfulFiring (named_wave l w).names.words
    (learned_firing m order firing (chunk_of (named_wave l w).names.words l.chain l.explained.depth name number)
    (ordered_grounds (named_wave l w).names.words l.chain.grounds).taken (identifiers_of (ordered_grounds (named_wave l w).names.words l.chain.grounds).taken) l.chain.results)

-- the firing of a justification, whose rule has the identifiers themselves
abbrev pub justification_of : Texts → ChainOf → ℕ → Sym → ℕ → RuleOf
justification_of words c depth name number = record { number = number; production = record (named_form words (literal_form words c depth)) { name = name } }

abbrev pub JustificationFiringsAreLawful : Type 0
JustificationFiringsAreLawful =
    (m : BeforeWave) (l : ExplainedFiring) (words order : Texts) (letters : List ℕ) (firing number : ℕ) (name : Sym) → IsLawful words l.chain m.elements → length letters ≡ 26
    → ((n k : ℕ) → is_goal m.reach.goals (Ident n k) ≡ true → k ≤ last_of letters n) → ((x : Wish) → IsIn x l.chain.results → CanBeMade m.reach.goals x)
    → TagsTellUses m (all_grounds (ordered_grounds words l.chain.grounds)) → ((e : Element) → IsIn e l.chain.grounds → IsIn e m.elements)
    → IsLawfulFiring words (learned_firing m order firing (justification_of words l.chain l.explained.depth name number) (all_grounds (ordered_grounds words l.chain.grounds)) [] l.chain.results)

-- ---- where lawful explanations come from in a wave

-- A firing of the wave at hand, after a lawful history: it is recorded lawfully, with the uses of its elements; tags tell elements, also those that its uses name.
pub record IsExplained (m : BeforeWave) (words : Texts) (f : FiringOf) (elements : List Element) : Type 0 where
  pub history : IsLawfulRecord words m.firings m.elements
  pub settled : IsSettled m f.number
  pub lawful : IsLawfulFiring words f
  pub within : (e : Element) → IsIn e elements → IsIn e m.elements
  pub used : f.used ≡ all_uses m.reach m.rows f.depth elements
  pub tags : (e g : Element) → IsIn e (used_elements (m.firings ++ f ∷ [])) → IsIn g (used_elements (m.firings ++ f ∷ [])) → e.tag ≡ g.tag → e ≡ g
  pub now : (e g : Element) → IsIn e (used_elements (m.firings ++ f ∷ [])) → element_of e.tag m.elements ≡ Some g → g ≡ e
  pub ids : (e : Element) → IsIn e (used_elements (m.firings ++ f ∷ [])) → is_identifier e.id ≡ true

-- its explanation is lawful
abbrev pub ExplainedAreLawful : Type 0
ExplainedAreLawful =
    (m : BeforeWave) (words order : Texts) (f : FiringOf) (elements : List Element) → IsExplained m words f elements
    → IsLawful words (explained_on m f (results_of order m.reach m.rows f)).chain m.elements

-- ---- the names of the variables

-- Where the words of the grounds were known before, the names of a chunk's variables are in the table when it is learned.
abbrev pub NamesJoin : Type 0
NamesJoin =
    (m : BeforeWave) (l : ExplainedFiring) (w : Wave) → ((e : Element) → IsIn e l.chain.grounds → IsKnown w.names.words e.id × IsKnown w.names.words e.attr × IsKnown w.names.words e.value)
    → outcome_at m l w ≡ chunked → (text : List ℕ) → IsIn text (general_form (named_wave l w).names.words l.chain l.explained.depth).names → has_text (named_wave l w).names.words text ≡ true
