-- The code's parts as a course, and what its steps leave. No public clause cites this.
use Rattle.std.specs.Prelude.{◌≡◌, ℕ, Bool, List, map, nat_lt, Option, Some, None, Result, Ok, Err}
use Rattle.soar_sym.specs.Words.{Texts}
use Rattle.soar_rule.specs.Productions.{production_seen}
use Rattle.defs_text.specs.Numbered.{word_in}
use Rattle.defs_match.specs.Rules.{rule_seen}
use Rattle.defs_soar.specs.declared.learning.Candidate.{Candidate}
use Rattle.defs_soar.specs.CandidateOf.{candidate_of, candidate_seen, words_of_candidate}
use Rattle.defs_soar.specs.History.{ChainOf, FiringOf, chain_seen}
use Rattle.defs_soar.specs.LearnedRules.{names_joining}
use Rattle.defs_soar.specs.Limits.{first_passed}
use Rattle.defs_soar.specs.WaveAtHand.{BeforeWave, fired}
use Rattle.explained_firings.specs.declared.explained.Explained.{Explained}
use Rattle.firing_records.specs.Recorded.{Standing}
use Rattle.soar_settle.specs.declared.stop.Stop.{Stop}
use Rattle.soar_settle.specs.declared.stop.Stop.TheVariants as stop
use Rattle.wave_entries.specs.Entries.{entry_seen}
use Rattle.wave_learning.specs.Course.{Course, ExplainedBy, NewRuleOf, Progress, from_number, joined_firing, joined_fresh, moment, name_of, named, reached, stopped, taught, totals_of_words, with_name}
use Rattle.wave_learning.specs.Hands.{program_seen}
use Rattle.wave_learning.specs.Lawful.{IsExplainedIn}
use Rattle.wave_learning.specs.declared.going.Going.{Going}
use Rattle.wave_learning.specs.declared.joining.Joining.{Joining}
use Rattle.wave_learning.specs.declared.rules.NewRule.{NewRule}

abbrev pub course_of : Texts → Going → Course
course_of words g = record {
  words = words;
  program = program_seen g.hand.program;
  last = g.hand.last;
  learned = g.hand.learned;
  entries = map entry_seen g.hand.entries;
  next = g.next;
}

-- the step went through to this, or it ended at its first limit
abbrev pub Leaves : Progress → Course → Result (Unit {0}) Stop → Type 0
Leaves p after (Ok done) = p ≡ reached after
Leaves p after (Err (stop.Limit limit)) = p ≡ stopped limit
Leaves p after (Err stop.NoMemory) = Unit {0}

-- ---- explanations

abbrev pub explained_seen : Explained → ExplainedBy
explained_seen e = record { number = e.number; depth = e.depth; flags = e.goes_over; chain = chain_seen e.chain }

-- the explanation of the firing of a number, from which learning goes on; or nothing is learned from it
abbrev pub TellsExplained : Standing → List FiringOf → Bool → Bool → ℕ → Course → Option Explained → Type 0
TellsExplained s past on local_negations n c None = from_number (moment s past on local_negations) n c ≡ reached c
TellsExplained s past on local_negations n c (Some e) =
    (from_number (moment s past on local_negations) n c ≡ taught (moment s past on local_negations) (explained_seen e) c) × IsExplainedIn s past on local_negations c (explained_seen e)

-- the candidate, over the table that the names of its variables joined
abbrev pub MakesCandidate : Texts → ChainOf → ℕ → Texts → Result Candidate Stop → Type 0
MakesCandidate words chain depth after (Ok k) =
    (candidate_seen k ≡ candidate_of words chain depth) × (after ≡ words_of_candidate words chain depth) × (first_passed (totals_of_words words (names_joining words chain depth)) ≡ None)
MakesCandidate words chain depth after (Err (stop.Limit limit)) = first_passed (totals_of_words words (names_joining words chain depth)) ≡ Some limit
MakesCandidate words chain depth after (Err stop.NoMemory) = Unit {0}

-- ---- rules

abbrev pub rule_made : NewRule → NewRuleOf
rule_made r = record { production = production_seen r.production; elements = r.elements; binds = r.binds; why = r.why }

-- the rule with its name, which is counted
abbrev pub NamesRule : NewRuleOf → Course → Course → Result NewRule Stop → Type 0
NamesRule r before after (Ok it) = (named r.why before ≡ reached after) × (rule_made it ≡ with_name r (word_in after.words (name_of r.why before)))
NamesRule r before after (Err (stop.Limit limit)) = named r.why before ≡ stopped limit
NamesRule r before after (Err stop.NoMemory) = Unit {0}

-- a rule under its number, and the entry of its firing
pub record IsJoining (m : BeforeWave) (e : ExplainedBy) (r : NewRuleOf) (words : Texts) (number last : ℕ) (it : Joining) : Type 0 where
  pub rule_is : rule_seen it.rule ≡ record { number = number; production = r.production }
  pub entry_is : entry_seen it.entry ≡ fired (joined_fresh m e r words number last)
  pub higher_is : it.is_higher ≡ nat_lt (joined_firing m e r words number last).depth e.depth
