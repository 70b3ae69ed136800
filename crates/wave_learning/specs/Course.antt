-- Where learning in a wave stands, and its steps as the code takes them: it stops at the first limit, where the definition goes on and notes the totals. No public clause cites this.
use Rattle.std.specs.Prelude.{ℕ, zero, suc, Bool, ◌&&◌, ◌==◌, nat_lt, List, [], ◌∷◌, ◌++◌, map, filter, length, Option, Some, None, if◌then◌else◌}
use Rattle.std.specs.List.{list_any}
use Rattle.soar_sym.specs.Words.{Texts, with_text}
use Rattle.soar_sym.specs.declared.symbol.Sym.{Sym}
use Rattle.soar_rule.specs.Productions.{ProductionOf}
use Rattle.soar_wm.specs.declared.element.Element.{Element}
use Rattle.defs_text.specs.Numbered.{word_in}
use Rattle.defs_match.specs.Conflict.{bindings_of}
use Rattle.defs_match.specs.Rules.{RuleOf}
use Rattle.defs_soar.specs.declared.choice.Mode.TheVariants as mode
use Rattle.defs_soar.specs.declared.learning.Cause.{Cause}
use Rattle.defs_soar.specs.declared.limit.Which.{Which}
use Rattle.defs_soar.specs.Agents.{Program}
use Rattle.defs_soar.specs.Candidate.{all_grounds, general_form, literal_form, named_form}
use Rattle.defs_soar.specs.CandidateOf.{LearnedOf, as_blocked, as_chunk, as_justified, as_lost, as_reused, words_after}
use Rattle.defs_soar.specs.ConditionOrder.{Ordered, ordered_grounds}
use Rattle.defs_soar.specs.Events.{LearningEvent, by_instance, by_learned, has_lost, has_no_grounds, is_blocked, justifies, learning, learns, reuses}
use Rattle.defs_soar.specs.History.{ChainOf, FiringOf}
use Rattle.defs_soar.specs.LearnedFirings.{learned_firing}
use Rattle.defs_soar.specs.LearnedRules.{as_learning, chunk_front, identifiers_of, justification_front, learned_name, names_joining}
use Rattle.defs_soar.specs.Learning.{explained_on}
use Rattle.defs_soar.specs.Limits.{Total, counts_to, first_passed, words_to}
use Rattle.defs_soar.specs.Outcome.{Outcome, blocked, chunked, groundless, justified, lost, outcome_of, reused}
use Rattle.defs_soar.specs.Results.{goes_over, is_result, results_of}
use Rattle.defs_soar.specs.Support.{goal_at_depth, operator_kind}
use Rattle.defs_soar.specs.WaveAtHand.{BeforeWave, Entry, Fresh, Wave, all_fresh, fired, noted, supported_wish}
use Rattle.firing_records.specs.Recorded.{Standing, reach_of}
use Rattle.learned_firings.specs.Flags.{with_flags}
use Rattle.learned_firings.specs.NameTotals.{number_after, totals_of_name}

-- ---- where learning stands

pub record Course : Type 0 where
  pub words : Texts
  pub program : Program
  pub last : ℕ
  pub learned : ℕ
  pub entries : List Entry
  pub next : List ℕ

-- what is before the wave
abbrev pub moment : Standing → List FiringOf → Bool → Bool → BeforeWave
moment s past on local_negations = record {
  reach = reach_of s;
  rows = s.rows;
  elements = s.elements;
  firings = past;
  settings = record { learning = on; local_negations = local_negations; mode = mode.First; max_elaborations = 0; watch = 0 };
}

-- the same moment, with no more of the settings than learning asks
abbrev pub plain : BeforeWave → BeforeWave
plain m = record {
  reach = m.reach;
  rows = m.rows;
  elements = m.elements;
  firings = m.firings;
  settings = record { learning = m.settings.learning; local_negations = m.settings.local_negations; mode = mode.First; max_elaborations = 0; watch = 0 };
}

-- what a step came to, or the limit that it passed
pub data Progress : Type 0 where
  reached : Course → Progress
  stopped : Which → Progress

abbrev pub then_on : Progress → (Course → Progress) → Progress
then_on (stopped limit) f = stopped limit
then_on (reached c) f = f c

abbrev pub within_limits : Option Which → Course → Progress
within_limits None c = reached c
within_limits (Some limit) c = stopped limit

-- ---- an explanation, with flags for the wishes that go over

pub record ExplainedBy : Type 0 where
  pub number : ℕ
  pub depth : ℕ
  pub flags : List Bool
  pub chain : ChainOf

abbrev pub explained_by : BeforeWave → Texts → FiringOf → ExplainedBy
explained_by m words f = record {
  number = f.number;
  depth = f.depth;
  flags = map (goes_over m.reach m.rows f) f.made;
  chain = (explained_on m f (results_of words m.reach m.rows f)).chain;
}

-- no rule is learned
abbrev pub noted_by : ExplainedBy → LearningEvent → Course → Course
noted_by e learning_event c = record c { entries = map (with_flags e.number e.flags by_instance) c.entries ++ noted learning_event ∷ [] }

-- ---- a rule that is learned, at its elements; as a justification with its cause

pub record NewRuleOf : Type 0 where
  pub production : ProductionOf
  pub elements : List Element
  pub binds : List Sym
  pub why : Option Cause

abbrev pub event_of : Option Cause → Sym → ℕ → ℕ → List ℕ → LearningEvent
event_of None name explained number tags = learns number name explained tags
event_of (Some why) name explained number tags = justifies number name explained tags why

abbrev pub joined_firing : BeforeWave → ExplainedBy → NewRuleOf → Texts → ℕ → ℕ → FiringOf
joined_firing m e r words number last = learned_firing m words last (record { number = number; production = r.production }) r.elements r.binds e.chain.results

-- its firing, under the number of the rule and its own
abbrev pub joined_fresh : BeforeWave → ExplainedBy → NewRuleOf → Texts → ℕ → ℕ → Fresh
joined_fresh m e r words number last =
    let f = joined_firing m e r words number last in
    let kind = nat_lt f.depth e.depth && operator_kind m.reach.goals r.elements (bindings_of f.rule.production f.instance) f.rule.production in
    record {
      firing = f;
      goal = goal_at_depth f.depth m.reach.goals;
      operator_kind = kind;
      heading = learning (event_of r.why r.production.name e.number f.number f.instance.tags);
      wishes = map (supported_wish m.reach.goals kind) f.made;
      dropped = [];
      text = [];
    }

abbrev pub with_rule : Program → RuleOf → ChainOf → Program
with_rule p rule chain = record p { rules = p.rules ++ rule ∷ []; last_rule = rule.number; chains = p.chains ++ record { rule = rule.number; chain = chain } ∷ [] }

abbrev pub next_if : Bool → ℕ → List ℕ
next_if higher number = if higher then number ∷ [] else []

-- it joins under these numbers
abbrev pub joined_as : BeforeWave → ExplainedBy → NewRuleOf → ℕ → ℕ → Course → Course
joined_as m e r number last c = record c {
  program = with_rule c.program (record { number = number; production = r.production }) e.chain;
  last = last;
  entries = map (with_flags e.number e.flags by_learned) c.entries ++ fired (joined_fresh m e r c.words number last) ∷ [];
  next = c.next ++ next_if (nat_lt (joined_firing m e r c.words number last).depth e.depth) last;
}

abbrev pub joined : BeforeWave → ExplainedBy → NewRuleOf → Course → Progress
joined m e r c =
    within_limits (first_passed (counts_to (suc c.program.last_rule) ∷ counts_to (suc c.last) ∷ [])) (joined_as m e r (suc c.program.last_rule) (suc c.last) c)

-- ---- its name

abbrev pub front_of : Option Cause → List ℕ
front_of None = chunk_front
front_of (Some why) = justification_front

abbrev pub last_of : Option Cause → Program → ℕ
last_of None p = p.chunks
last_of (Some why) p = p.justifications

abbrev pub counted : Option Cause → ℕ → Course → Course
counted None number c = record c { program = record c.program { chunks = number }; learned = suc c.learned }
counted (Some why) number c = record c { program = record c.program { justifications = number } }

abbrev pub number_of : Option Cause → Course → ℕ
number_of why c = number_after c.words c.program.rules (front_of why) (last_of why c.program)

abbrev pub name_of : Option Cause → Course → List ℕ
name_of why c = learned_name (front_of why) (number_of why c)

abbrev pub named_as : Option Cause → Course → Course
named_as why c = record (counted why (number_of why c) c) { words = with_text c.words (name_of why c) }

abbrev pub named : Option Cause → Course → Progress
named why c = within_limits (first_passed (totals_of_name c.words (front_of why) (number_of why c))) (named_as why c)

abbrev pub with_name : NewRuleOf → Sym → NewRuleOf
with_name r name = record r { production = record r.production { name = name } }

abbrev pub learned : BeforeWave → ExplainedBy → NewRuleOf → Course → Progress
learned m e r c = then_on (named r.why c) (λ d. joined m e (with_name r (word_in d.words (name_of r.why c))) d)

-- ---- by what becomes of the explanation

abbrev pub chunk_made : ExplainedBy → Ordered → ProductionOf → NewRuleOf
chunk_made e o production = record { production = production; elements = o.taken; binds = identifiers_of o.taken; why = None }

abbrev pub justification_made : ExplainedBy → Ordered → ProductionOf → Cause → NewRuleOf
justification_made e o production why = record { production = production; elements = all_grounds o; binds = []; why = Some why }

abbrev pub by_learned_of : BeforeWave → ExplainedBy → Course → LearnedOf → Progress
by_learned_of m e c (as_chunk p) = learned m e (chunk_made e (ordered_grounds c.words e.chain.grounds) p) c
by_learned_of m e c (as_reused name) = reached (noted_by e (reuses name e.number) c)
by_learned_of m e c (as_justified (Some p) why) = learned m e (justification_made e (ordered_grounds c.words e.chain.grounds) p why) c
by_learned_of m e c (as_justified None why) = reached (noted_by e (has_no_grounds e.number) c)
by_learned_of m e c (as_lost tag) = reached (noted_by e (has_lost e.number tag) c)
by_learned_of m e c (as_blocked negation tag) = reached (noted_by e (is_blocked e.number negation tag) c)

abbrev pub by_outcome_of : BeforeWave → ExplainedBy → Course → Outcome → Progress
by_outcome_of m e c (lost tag) = reached (noted_by e (has_lost e.number tag) c)
by_outcome_of m e c (blocked b) = reached (noted_by e (is_blocked e.number b.negation b.tag) c)
by_outcome_of m e c groundless = reached (noted_by e (has_no_grounds e.number) c)
by_outcome_of m e c (reused name) = reached (noted_by e (reuses name e.number) c)
by_outcome_of m e c (justified why) =
    learned m e (justification_made e (ordered_grounds c.words e.chain.grounds) (named_form c.words (literal_form c.words e.chain e.depth)) why) c
by_outcome_of m e c chunked = learned m e (chunk_made e (ordered_grounds c.words e.chain.grounds) (named_form c.words (general_form c.words e.chain e.depth))) c

abbrev pub totals_of_words : Texts → List (List ℕ) → List Total
totals_of_words words [] = []
totals_of_words words (text ∷ texts) = words_to (length (with_text words text)) ∷ totals_of_words (with_text words text) texts

abbrev pub joining_of : ExplainedBy → Course → List (List ℕ)
joining_of e c = names_joining c.words e.chain e.depth

-- the names of the candidate's variables join
abbrev pub read : ExplainedBy → Course → Progress
read e c = within_limits (first_passed (totals_of_words c.words (joining_of e c))) (record c { words = words_after c.words (joining_of e c) })

abbrev pub outcome_in : BeforeWave → ExplainedBy → Course → Outcome
outcome_in m e c = outcome_of c.words e.chain e.depth c.program.rules m.elements (as_learning m.settings c.learned)

abbrev pub taught : BeforeWave → ExplainedBy → Course → Progress
taught m e c = then_on (read e c) (λ d. by_outcome_of m e d (outcome_in m e d))

-- ---- firings in turn

abbrev pub teaches_in : BeforeWave → FiringOf → Bool
teaches_in m f = nat_lt 1 f.depth && list_any (is_result m.reach f.depth) f.made

abbrev pub from_firing : BeforeWave → FiringOf → Course → Progress
from_firing m f c = if teaches_in m f then taught m (explained_by m c.words f) c else reached c

abbrev pub from_first : BeforeWave → List Fresh → Course → Progress
from_first m [] c = reached c
from_first m (x ∷ others) c = from_firing m x.firing c

abbrev pub of_number : ℕ → Course → List Fresh
of_number n c = filter (λ x. x.firing.number == n) (all_fresh c.entries)

abbrev pub from_number : BeforeWave → ℕ → Course → Progress
from_number m n c = from_first m (of_number n c) c

abbrev pub from_each : BeforeWave → List ℕ → Course → Progress
from_each m [] c = reached c
from_each m (n ∷ numbers) c = then_on (from_number m n c) (from_each m numbers)

abbrev pub without_next : Course → Course
without_next c = record c { next = [] }

abbrev pub round_of : BeforeWave → Course → Progress
round_of m c = from_each m c.next (without_next c)

abbrev pub rounds_of : BeforeWave → ℕ → Course → Progress
rounds_of m zero c = reached c
rounds_of m (suc k) c = then_on (round_of m c) (rounds_of m k)

-- ---- a wave as a course

abbrev pub course_seen : Wave → Course
course_seen w = record { words = w.names.words; program = w.program; last = w.last_firing; learned = w.learned; entries = w.entries; next = w.next }
