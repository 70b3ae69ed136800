-- Parts that stand for a lawful state do so after each call.
use Rattle.std.proofs.Common.{◌≡◌, ℕ, suc, ◌≤◌, ◌||◌, Bool, true, false, not, List, [], ◌∷◌, ◌++◌, ◌⊎◌, inl, inr, refl, subst}
use Rattle.soar_sym.specs.Words.{Texts}
use Rattle.soar_sym.specs.declared.symbol.Sym.{Sym}
use Rattle.soar_sym.specs.declared.symbol.Triple.{Triple}
use Rattle.soar_rule.specs.Productions.{ProductionOf}
use Rattle.defs_match.specs.Rules.{RuleOf}
use Rattle.defs_soar.specs.Agents.{Agent, Names, Queued}
use Rattle.defs_soar.specs.Cycle.{after_input, after_output}
use Rattle.defs_soar.specs.Decision.{decided_by}
use Rattle.defs_soar.specs.Laws.{IsIn}
use Rattle.defs_soar.specs.Phases.{halting}
use Rattle.defs_soar.specs.Resettling.{AgentStep}
use Rattle.defs_soar.specs.Values.{triple_eq}
use Rattle.defs_run.specs.Carrying.{is_named, with_production, without_name}
use Rattle.settling_laws.proofs.MemberLemmas.{filter_within, in_append}
use Rattle.learning_laws.specs.LawfulAgents.{AreGiven, IsLawfulAgent, symbols_of_triple}
use Rattle.learning_laws.specs.LawfulSteps.{IsLoadable}
use Rattle.learning_laws.proofs.DecideLaws.{decision_keeps}
use Rattle.learning_laws.proofs.FirstLaws.{starting_anew_keeps}
use Rattle.learning_laws.proofs.FoundedLaws.{input_keeps, inputs_keep, output_keeps, queues_keep, rules_keep}
use Rattle.session_laws.proofs.StepLaws.{checked_may_be_loaded, halts_keep, identifiers_keep, settings_keep}
use Rattle.decision_parts.specs.Lawful.{IsOfLawful}
use Rattle.decision_parts.specs.Seen.{Stepped}
use Rattle.decision_parts.specs.Settings.{settings_seen}
use Rattle.decision_parts.specs.Stands.{Stands}
use Rattle.decision_parts.specs.Parts.{Parts as PartsKept}
use Rattle.decision_parts.specs.SettingsType.{Settings}
use Rattle.decision_parts.proofs.StandsLemmas.{remembers_same}
use Rattle.cycle_parts.specs.Calls.{IsTripleGiven, MayBeLoaded, excised_agent, fresh_step, input_step, load_step, queue_step, random_step, restart_step, with_input}

-- ---- a step that keeps lawful states

pub stays_lawful : (f : Agent → AgentStep) (old new : PartsKept) → IsOfLawful old → ((s : Agent) → Stands old s → IsLawfulAgent s → IsLawfulAgent (f s).agent)
    → ((s : Agent) → Stands old s → Stepped new (f s)) → IsOfLawful new
stays_lawful f old new was keeps steps =
    let step : AgentStep = f was.agent in
    record {
      agent = halting step;
      stands = (steps was.agent was.stands).stands;
      lawful = halts_keep step.agent (step.agent.halted || step.halted) (keeps was.agent was.stands was.lawful);
    }

-- ---- the steps of a cycle

pub lawful_with_input : (old new : PartsKept) → IsOfLawful old → ((s : Agent) → Stands old s → Stepped new (after_input s)) → IsOfLawful new
lawful_with_input old new was steps = stays_lawful after_input old new was (λ s stands lawful. input_keeps s lawful) steps

pub lawful_with_output : (old new : PartsKept) → IsOfLawful old → ((s : Agent) → Stands old s → Stepped new (after_output s)) → IsOfLawful new
lawful_with_output old new was steps = stays_lawful after_output old new was (λ s stands lawful. output_keeps s lawful) steps

pub lawful_decided : (old new : PartsKept) → IsOfLawful old → ((s : Agent) → Stands old s → Stepped new (decided_by s)) → IsOfLawful new
lawful_decided old new was steps = stays_lawful decided_by old new was (λ s stands lawful. decision_keeps s lawful) steps

-- ---- inputs, and what waits

names_are : (a : PartsKept) (s : Agent) → Stands a s → record { words = a.table; letters = a.letters; last_tag = a.memory.last } ≡ s.names
names_are a s h = λ k. record { words = h.words k; letters = h.letters k; last_tag = h.last_tag k }

given_there : (a : PartsKept) (s : Agent) (t : Triple) → Stands a s → IsTripleGiven a t → AreGiven s.names (symbols_of_triple t)
given_there a s t h given = subst (λ (names : Names). AreGiven names (symbols_of_triple t)) (names_are a s h) given

all_given : (names : Names) (adds : Bool) (t : Triple) (inputs : List Triple) → ((u : Triple) → IsIn u inputs → AreGiven names (symbols_of_triple u)) → AreGiven names (symbols_of_triple t)
    → (u : Triple) → IsIn u (with_input adds t inputs) → AreGiven names (symbols_of_triple u)
all_given names true t inputs were given u is = by (in_append u inputs (t ∷ []) is)
  where
    by : IsIn u inputs ⊎ IsIn u (t ∷ []) → AreGiven names (symbols_of_triple u)
    by (inl old) = were u old
    by (inr (inl e)) = subst (λ (v : Triple). AreGiven names (symbols_of_triple v)) e given
    by (inr (inr none)) = absurd none
all_given names false t inputs were given u is = were u (filter_within (λ v. not (triple_eq v t)) inputs u is)

pub lawful_input : (old new : PartsKept) (adds : Bool) (t : Triple) → IsTripleGiven old t → IsOfLawful old → ((s : Agent) → Stands old s → Stepped new (input_step adds t s)) → IsOfLawful new
lawful_input old new adds t given was steps =
    stays_lawful (input_step adds t) old new was
    (λ s stands lawful. inputs_keep s (with_input adds t s.holding.inputs) lawful
    (all_given s.names adds t s.holding.inputs lawful.founded.symbols.inputs (given_there old s t stands given))) steps

queued_given : (names : Names) (q : Queued) (queue : List Queued) → ((r : Queued) → IsIn r queue → AreGiven names (symbols_of_triple r.triple)) → AreGiven names (symbols_of_triple q.triple)
    → (r : Queued) → IsIn r (queue ++ q ∷ []) → AreGiven names (symbols_of_triple r.triple)
queued_given names q queue were given r is = by (in_append r queue (q ∷ []) is)
  where
    by : IsIn r queue ⊎ IsIn r (q ∷ []) → AreGiven names (symbols_of_triple r.triple)
    by (inl old) = were r old
    by (inr (inl e)) = subst (λ (x : Queued). AreGiven names (symbols_of_triple x.triple)) e given
    by (inr (inr none)) = absurd none

pub lawful_queued : (old new : PartsKept) (adds : Bool) (t : Triple) → IsTripleGiven old t → IsOfLawful old → ((s : Agent) → Stands old s → Stepped new (queue_step adds t s)) → IsOfLawful new
lawful_queued old new adds t given was steps =
    let q : Queued = record { adds = adds; triple = t } in
    stays_lawful (queue_step adds t) old new was
    (λ s stands lawful. queues_keep s (record s.queues { input = s.queues.input ++ q ∷ [] }) lawful
    (queued_given s.names q s.queues.input lawful.founded.symbols.queued (given_there old s t stands given))) steps

pub lawful_random : (old new : PartsKept) (words : List ℕ) → IsOfLawful old → ((s : Agent) → Stands old s → Stepped new (random_step words s)) → IsOfLawful new
lawful_random old new words was steps =
    stays_lawful (random_step words) old new was
    (λ s stands lawful. queues_keep s (record s.queues { random = s.queues.random ++ words }) lawful lawful.founded.symbols.queued) steps

-- ---- rules

abbrev rule_loaded : ProductionOf → Agent → RuleOf
rule_loaded production s = record { number = suc s.program.last_rule; production = production }

loadable : (s : Agent) (production : ProductionOf) → MayBeLoaded s.names.words production
    → (r : RuleOf) → IsIn r (with_production production s.program).rules → IsIn r s.program.rules ⊎ IsLoadable s r
loadable s production may r is = by (in_append r (without_name production.name s.program).rules (rule_loaded production s ∷ []) is)
  where
    by : IsIn r (without_name production.name s.program).rules ⊎ IsIn r (rule_loaded production s ∷ []) → IsIn r s.program.rules ⊎ IsLoadable s r
    by (inl old) = inl (filter_within (λ q. not (is_named production.name q)) s.program.rules r old)
    by (inr (inl e)) = inr (subst (IsLoadable s) e (checked_may_be_loaded s production (suc s.program.last_rule) may.checked may.literal))
    by (inr (inr none)) = absurd none

pub lawful_loaded : (old new : PartsKept) (production : ProductionOf) → IsOfLawful old → MayBeLoaded old.table production
    → ((s : Agent) → Stands old s → Stepped new (load_step production s)) → IsOfLawful new
lawful_loaded old new production was may steps =
    stays_lawful (load_step production) old new was
    (λ s stands lawful. rules_keep s (with_production production s.program) lawful
    (loadable s production (subst (λ (words : Texts). MayBeLoaded words production) stands.words may))) steps

pub lawful_excised : (old new : PartsKept) (name : Sym) → IsOfLawful old → ((s : Agent) → Stands old s → Stands new (excised_agent name s)) → IsOfLawful new
lawful_excised old new name was stands = record {
  agent = excised_agent name was.agent;
  stands = stands was.agent was.stands;
  lawful = rules_keep was.agent (without_name name was.agent.program) was.lawful (λ r is. inl (filter_within (λ q. not (is_named name q)) was.agent.program.rules r is));
}

-- ---- starting anew, new identifiers and settings

pub lawful_restarted : (old new : PartsKept) → IsOfLawful old → ((s : Agent) → Stands old s → Stepped new (restart_step s)) → IsOfLawful new
lawful_restarted old new was steps = stays_lawful restart_step old new was (λ s stands lawful. starting_anew_keeps s lawful) steps

pub lawful_fresh : (old new : PartsKept) (letter : ℕ) → 65 ≤ letter → letter ≤ 90 → IsOfLawful old → ((s : Agent) → Stands old s → Stepped new (fresh_step letter s)) → IsOfLawful new
lawful_fresh old new letter low high was steps =
    stays_lawful (fresh_step letter) old new was (λ s stands lawful. identifiers_keep s letter lawful low high) steps

set_stands : (a : PartsKept) (settings : Settings) (s : Agent) → Stands a s → Stands (record a { settings = settings }) (record s { settings = settings_seen settings })
set_stands a settings s h = record {
  words = h.words;
  letters = h.letters;
  elements = h.elements;
  last_tag = h.last_tag;
  goals = h.goals;
  rows = h.rows;
  inputs = h.inputs;
  live = h.live;
  queues = h.queues;
  rules = h.rules;
  last_rule = h.last_rule;
  chains = h.chains;
  learned_numbers = h.learned_numbers;
  counts = h.counts;
  settings = refl;
  output = h.output;
  halted = h.halted;
  remembers = remembers_same a (record a { settings = settings }) s.history refl refl refl refl refl refl refl h.remembers;
}

pub lawful_set : (a : PartsKept) (settings : Settings) → IsOfLawful a → IsOfLawful (record a { settings = settings })
lawful_set a settings was = record {
  agent = record was.agent { settings = settings_seen settings };
  stands = set_stands a settings was.agent was.stands;
  lawful = settings_keep was.agent (settings_seen settings) was.lawful;
}
