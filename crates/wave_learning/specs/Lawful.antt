-- Courses that lawful waves of lawful agents have, and what is asked of an explanation in them. No public clause cites this.
use Rattle.std.specs.Prelude.{◌≡◌, Bool, true, ◌&&◌, nat_lt, not, List, [], ◌++◌, flat_map, length, Some, None}
use Rattle.std.specs.List.{list_all}
use Rattle.soar_sym.specs.Words.{IsKnown, Texts}
use Rattle.soar_sym.specs.declared.symbol.Sym.{Sym}
use Rattle.soar_sym.specs.declared.symbol.Sym.TheVariants.{Ident, Int, Word}
use Rattle.soar_rule.specs.Productions.{ProductionOf}
use Rattle.soar_rule.specs.Symbols.{constants_of}
use Rattle.soar_rule.specs.Variables.{bound_variables}
use Rattle.soar_wm.specs.declared.element.Element.{Element}
use Rattle.defs_soar.specs.Agents.{Agent}
use Rattle.defs_soar.specs.Candidate.{all_grounds}
use Rattle.defs_soar.specs.CandidateOf.{LearnedOf, as_blocked, as_chunk, as_justified, as_lost, as_reused}
use Rattle.defs_soar.specs.ChainIdentifiers.{firings_of}
use Rattle.defs_soar.specs.ConditionOrder.{ordered_grounds}
use Rattle.defs_soar.specs.Dependencies.{symbols_of_wish}
use Rattle.defs_soar.specs.History.{ChainOf, FiringOf, StepOf, architecture_step, fire_step, item_step, select_step}
use Rattle.defs_soar.specs.Laws.{IsIn}
use Rattle.defs_soar.specs.LearnedRules.{identifiers_of}
use Rattle.defs_soar.specs.Limits.{first_passed}
use Rattle.defs_soar.specs.Ungrounded.{symbols_of_element}
use Rattle.defs_soar.specs.WaveAtHand.{Fresh, Wave, all_fresh}
use Rattle.defs_soar.specs.WaveFirings.{before_wave}
use Rattle.firing_records.specs.Recorded.{Standing}
use Rattle.learned_firings.specs.Deciding.{AreThere}
use Rattle.learning_laws.specs.LawfulAgents.{IsLawfulAgent}
use Rattle.learning_laws.specs.LawfulWaves.{IsLawfulWave}
use Rattle.wave_learning.specs.Course.{Course, ExplainedBy, course_seen, explained_by, plain}
use Rattle.wave_learning.specs.Hands.{IsBefore}
use Rattle.wave_learning.specs.Held.{AreHeld}
use Rattle.wave_learning.specs.Rising.{AreRising}

-- a wave that learning goes on from
pub record GoesOn (a : Agent) (w : Wave) : Type 0 where
  pub lawful : IsLawfulWave a w
  pub held : AreHeld w.entries
  pub rising : AreRising w.entries

-- some lawful wave of a lawful agent stands there
pub record IsLawfulCourse (s : Standing) (past : List FiringOf) (on local_negations : Bool) (c : Course) : Type 0 where
  pub agent : Agent
  pub wave : Wave
  pub lawful : IsLawfulAgent agent
  pub goes_on : GoesOn agent wave
  pub before : IsBefore s past on local_negations agent
  pub course_is : course_seen wave ≡ c
  pub within : first_passed wave.totals ≡ None

-- and this is the explanation of one of its firings
pub record IsExplainedIn (s : Standing) (past : List FiringOf) (on local_negations : Bool) (c : Course) (e : ExplainedBy) : Type 0 where
  pub course : IsLawfulCourse s past on local_negations c
  pub fresh : Fresh
  pub is_there : IsIn fresh (all_fresh course.wave.entries)
  pub is : e ≡ explained_by (plain (before_wave course.agent)) course.wave.names.words fresh.firing

-- ---- symbols of an explanation whose words are in the table

abbrev pub AllIn : Texts → List Sym → Type 0
AllIn words symbols = (s : Sym) → IsIn s symbols → IsKnown words s

-- but for the names of its rules and of their variables
abbrev pub parts_of_firing : FiringOf → List Sym
parts_of_firing f = flat_map (λ u. symbols_of_element u.element) f.used ++ (flat_map symbols_of_wish f.made ++ (f.instance.binds ++ constants_of f.rule.production))

pub record ArePartsKnown (words : Texts) (c : ChainOf) : Type 0 where
  pub grounds : AllIn words (flat_map symbols_of_element c.grounds)
  pub firings : (f : FiringOf) → IsIn f (firings_of c) → AllIn words (parts_of_firing f)
  pub results : AllIn words (flat_map symbols_of_wish c.results)

-- and these
abbrev pub is_known : Texts → Sym → Bool
is_known words (Word n) = nat_lt n (length words)
is_known words (Ident letter number) = not (nat_lt letter 65) && not (nat_lt 90 letter)
is_known words (Int value) = true

abbrev pub is_named : Texts → ProductionOf → Bool
is_named words p = is_known words p.name && list_all (is_known words) p.vars

abbrev pub is_step_named : Texts → StepOf → Bool
is_step_named words (fire_step f) = is_named words f.rule.production
is_step_named words (architecture_step e) = true
is_step_named words (item_step e tag) = true
is_step_named words (select_step e tag) = true

-- ---- rules that match at their elements

pub record IsMatched (s : Standing) (p : ProductionOf) (elements : List Element) (binds : List Sym) : Type 0 where
  pub bound : length binds ≡ length (bound_variables p.conditions)
  pub there : AreThere elements s.elements

abbrev pub MatchesAs : Standing → Texts → ChainOf → LearnedOf → Type 0
MatchesAs s words chain (as_chunk p) = IsMatched s p (ordered_grounds words chain.grounds).taken (identifiers_of (ordered_grounds words chain.grounds).taken)
MatchesAs s words chain (as_justified (Some p) why) = IsMatched s p (all_grounds (ordered_grounds words chain.grounds)) []
MatchesAs s words chain (as_justified None why) = Unit {0}
MatchesAs s words chain (as_reused name) = Unit {0}
MatchesAs s words chain (as_lost tag) = Unit {0}
MatchesAs s words chain (as_blocked negation tag) = Unit {0}
