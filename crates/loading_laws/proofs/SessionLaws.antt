-- Orders and commands leave a session lawful.
use Rattle.std.proofs.Common.{◌≡◌, refl, subst, ℕ, zero, suc, ◌≤◌, Bool, true, false, cond, inl, inr, ◌⊎◌, arith, List, [], ◌∷◌, ◌++◌, filter, Option, Some, None, Result, Ok, Err}
use Rattle.std.specs.Prelude.{not}
use Rattle.soar_sym.specs.Letters.{last_of}
use Rattle.soar_sym.specs.declared.symbol.Sym.{Sym}
use Rattle.soar_sym.specs.declared.symbol.Triple.{Triple}
use Rattle.soar_rule.specs.Productions.{ProductionOf}
use Rattle.soar_rule.specs.Repeat.{ends, goes_on, Turn, turns}
use Rattle.soar_wm.specs.declared.element.Element.{Element}
use Rattle.soar_wm.specs.WorkingMemory.{element_of, tag_of, triple_of}
use Rattle.defs_match.specs.Rules.{RuleOf}
use Rattle.defs_soar.specs.Agents.{Agent, Program, Queued, Settings}
use Rattle.defs_soar.specs.Cycle.{course_of, cycle, held_with, one_cycle, run, then_course}
use Rattle.defs_soar.specs.Decision.{decided_by}
use Rattle.defs_soar.specs.History.{ChainOf}
use Rattle.defs_soar.specs.Laws.{IsIn}
use Rattle.defs_soar.specs.Learning.{with_learning}
use Rattle.defs_soar.specs.Phases.{Course, still}
use Rattle.defs_soar.specs.Resettling.{resettled}
use Rattle.defs_soar.specs.Values.{has_triple_among, triple_eq}
use Rattle.defs_run.specs.Carrying.{carried_out, chain_of_rule, excised, explained, followed, has_run, if_named, is_named, lists_elements, lists_slot, loaded, rule_named, with_production, without_name}
use Rattle.defs_run.specs.Listing.{conflict_lines_of, production_lines}
use Rattle.defs_run.specs.Inputs.{added, Carried, does, first_unknown, is_reserved, is_top_level, or_else, queued, refuses, removed, spelled, Spelled, unless_there, unless_unknown, with_inputs, with_queued}
use Rattle.defs_run.specs.Orders.{add_wme, chunk, excise, explain, halted, init_soar, load, local_negations, matches, matches_of, max_elaborations, no_element, no_production, not_an_input, not_of_the_top_state, Operand, Order, preferences, print_chunks, print_id, print_memory, print_name, print_rules, queue, quit, random, Refusal, remove_wme, reserved_attribute, run_cycles, select_by, source, stats, watch}
use Rattle.defs_run.specs.Runs.{obeyed, ordered_by, replied_by}
use Rattle.defs_run.specs.Sessions.{resolved, says, Session, unknown_in}
use Rattle.defs_run.specs.Stages.{Stage}
use Rattle.defs_run.specs.Whole.{whole_stage}
use Rattle.learning_laws.specs.LawfulAgents.{AreGiven, IsLawfulAgent, symbols_of_triple}
use Rattle.learning_laws.specs.LawfulSteps.{IsLoadable}
use Rattle.learning_laws.proofs.DecideLaws.{decision_keeps}
use Rattle.learning_laws.proofs.FirstLaws.{first_is_lawful, starting_anew_keeps}
use Rattle.learning_laws.proofs.FoundedLaws.{inputs_keep, queues_keep, rules_keep}
use Rattle.learning_laws.proofs.Lists.{filter_within, in_append}
use Rattle.learning_laws.proofs.RunLaws.{learning_keeps, runs_keep}
use Rattle.letter_laws.specs.Grows.{LettersGrow}
use Rattle.letter_laws.proofs.GrowthLaws.{cycles_grow}
use Rattle.session_laws.proofs.StepLaws.{settings_keep, words_keep}
use Rattle.session_laws.proofs.StepLaws as steps
use Rattle.loading_laws.specs.Literals.{MayBeLoaded}
use Rattle.loading_laws.specs.Orders.{AreOperandsKnown, IsLawfulOrder}
use Rattle.loading_laws.specs.Sessions.{CommandsLeaveLawful, FirstSessionIsLawful, IsLawfulSession, LeavesLawful, OrdersLeaveLawful, RunsLawfully, WholeCommandsLeaveLawful, WholeRunsLawfully}
use Rattle.loading_laws.proofs.LabelLaws.{itself, labels_stay_given, resolving_keeps_agents, resolving_keeps_labels, spelled_are_given, spelling_keeps_agents}
use Rattle.loading_laws.proofs.ReadOrders.{whole_reads_lawfully}

pub first_session_is_lawful : FirstSessionIsLawful
first_session_is_lawful level = record { agent = first_is_lawful level; labels = λ l i. absurd i }

-- ---- running

once_more : (a b c : List ℕ) → LettersGrow a b → LettersGrow b c → LettersGrow a c
once_more a b c h k l = let low : last_of a l ≤ last_of b l = h l in let high : last_of b l ≤ last_of c l = k l in omega arith

-- a cycle is a run of one, where the agent has not halted
cycle_lawful : (a : Agent) → a.halted ≡ false → IsLawfulAgent a → IsLawfulAgent (cycle decided_by with_learning a).agent
unfolding run
cycle_lawful a q h = subst (λ b. IsLawfulAgent (course_of (turned (halted_turn b))).agent) q (runs_keep decided_by with_learning decision_keeps learning_keeps 1 a h)
  where
    halted_turn : Bool → Turn Course
    halted_turn b = elim b as (λ x. Turn Course) [ true ↦ ends (still a) | false ↦ goes_on (then_course (still a) (cycle decided_by with_learning a)) ]

    turned : Turn Course → Turn Course
    turned t = elim t as (λ x. Turn Course) [ ends b ↦ ends b | goes_on b ↦ turns 0 (one_cycle decided_by with_learning) b ]

module _ (letters : List ℕ) where
  abbrev Goes : Agent → Type 0
  Goes a = IsLawfulAgent a × LettersGrow letters a.names.letters

  abbrev TurnGoes : Turn Course → Type 0
  TurnGoes (ends c) = Goes c.agent
  TurnGoes (goes_on c) = Goes c.agent

  turn_goes : (c : Course) → Goes c.agent → TurnGoes (one_cycle decided_by with_learning c)
  turn_goes c h = go c.agent.halted refl
    where
      go : (b : Bool) → c.agent.halted ≡ b → TurnGoes (elim b as (λ x. Turn Course) [ true ↦ ends c | false ↦ goes_on (then_course c (cycle decided_by with_learning c.agent)) ])
      go true q = h
      go false q =
          (cycle_lawful c.agent q h.0, once_more letters c.agent.names.letters (cycle decided_by with_learning c.agent).agent.names.letters h.1 (cycles_grow c.agent h.0))

  turns_go : (n : ℕ) (c : Course) → Goes c.agent → TurnGoes (turns n (one_cycle decided_by with_learning) c)
  turns_go zero c h = h
  turns_go (suc n) c h = go (one_cycle decided_by with_learning c) (turn_goes c h) (turns_go n)
    where
      go : (t : Turn Course) → TurnGoes t → ((d : Course) → Goes d.agent → TurnGoes (turns n (one_cycle decided_by with_learning) d))
          → TurnGoes (elim t as (λ x. Turn Course) [ ends b ↦ ends b | goes_on b ↦ turns n (one_cycle decided_by with_learning) b ])
      go (ends b) k later = k
      go (goes_on b) k later = later b k

pub whole_runs_lawfully : WholeRunsLawfully
unfolding run
whole_runs_lawfully n a h = go (turns n (one_cycle decided_by with_learning) (still a)) (turns_go a.names.letters n (still a) (h, itself a.names.letters))
  where
    go : (t : Turn Course) → TurnGoes a.names.letters t → IsLawfulAgent (course_of t).agent × LettersGrow a.names.letters (course_of t).agent.names.letters
    go (ends c) k = k
    go (goes_on c) k = k

-- ---- orders

-- the agent with other rules, under labels that there were
rules_lawful : (s : Session) (program : Program) → IsLawfulSession s → ((r : RuleOf) → IsIn r program.rules → IsIn r s.agent.program.rules ⊎ IsLoadable s.agent r)
    → IsLawfulSession (record s { agent = record s.agent { program = program } })
rules_lawful s program h new = record { agent = rules_keep s.agent program h.agent new; labels = h.labels }

others_there : (name : Sym) (a : Agent) (r : RuleOf) → IsIn r (without_name name a.program).rules → IsIn r a.program.rules
others_there name a r i = (filter_within (λ rule. not (is_named name rule)) a.program.rules r i).0

loaded_lawful : (p : ProductionOf) (s : Session) → MayBeLoaded s.agent.names.words p → IsLawfulSession s → IsLawfulSession (loaded p s).session
loaded_lawful p s may h =
    rules_lawful s (with_production p s.agent.program) h (λ r i. elim (in_append r (without_name p.name s.agent.program).rules (record { number = suc s.agent.program.last_rule; production = p } ∷ []) i) [
      | inl j ↦ inl (others_there p.name s.agent r j)
      | inr j ↦ elim j [ inl q ↦ inr (subst (IsLoadable s.agent) q (steps.checked_may_be_loaded s.agent p (suc s.agent.program.last_rule) may.checked may.literal)) | inr k ↦ absurd k ]
    ])

excised_lawful : (name : Sym) (s : Session) → IsLawfulSession s → IsLawfulSession (excised name s).session
excised_lawful name s h = rules_lawful s (without_name name s.agent.program) h (λ r i. inl (others_there name s.agent r i))

inputs_lawful : (inputs : List Triple) (s : Session) → IsLawfulSession s → ((t : Triple) → IsIn t inputs → AreGiven s.agent.names (symbols_of_triple t)) → IsLawfulSession (with_inputs inputs s).session
unfolding resettled
inputs_lawful inputs s h given =
    record { agent = inputs_keep s.agent inputs h.agent given; labels = labels_stay_given s.agent.names (resettled s.agent (held_with s.agent inputs)).agent.names s.labels (itself s.agent.names.letters) h.labels }

settings_lawful : (s : Session) (settings : Settings) → IsLawfulSession s → IsLawfulSession (record s { agent = record s.agent { settings = settings } })
settings_lawful s settings h = record { agent = settings_keep s.agent settings h.agent; labels = h.labels }

resolved_lawful : (s : Session) (o : Operand) → IsLawfulSession s → IsLawfulSession (resolved s o).session
resolved_lawful s o h = record {
  agent = resolving_keeps_agents s o h.agent;
  labels = (resolving_keeps_labels s o (record { letters = h.agent.founded.symbols.letters; labels = h.labels })).labels;
}

-- ---- orders on inputs

pub record IsLawfulSpelling (t : Spelled) : Type 0 where
  pub session : IsLawfulSession t.session
  pub given : AreGiven t.session.agent.names (symbols_of_triple t.triple)

spelling_lawful : (reached : Bool) (s : Session) (id attr value : Operand) → IsLawfulSession s → AreOperandsKnown s.agent.names.words id attr value → first_unknown reached s id attr value ≡ None
    → IsLawfulSpelling (spelled s id attr value)
spelling_lawful reached s id attr value h known q =
    let g = spelled_are_given reached s id attr value (record { letters = h.agent.founded.symbols.letters; labels = h.labels }) known q in
    record { session = record { agent = spelling_keeps_agents s id attr value h.agent; labels = g.0.labels }; given = g.1 }

unless_unknown_lawful : (o : Option (List ℕ)) (c : Carried) → (o ≡ None → LeavesLawful c) → LeavesLawful (unless_unknown o c)
unless_unknown_lawful None c h = h refl
unless_unknown_lawful (Some text) c h = tt

and_triple : (t : Spelled) → IsLawfulSpelling t → (u : Triple) → IsIn u (t.session.agent.holding.inputs ++ t.triple ∷ []) → AreGiven t.session.agent.names (symbols_of_triple u)
and_triple t h u i = elim (in_append u t.session.agent.holding.inputs (t.triple ∷ []) i) [
  | inl j ↦ h.session.agent.founded.symbols.inputs u j
  | inr j ↦ elim j [ inl q ↦ subst (λ v. AreGiven t.session.agent.names (symbols_of_triple v)) q h.given | inr k ↦ absurd k ]
]

added_lawful : (t : Spelled) → IsLawfulSpelling t → LeavesLawful (added t)
added_lawful t h = go (not (is_top_level t.session t.triple.id)) (is_reserved t.session t.triple)
  where
    put : (o : Option ℕ) → LeavesLawful (unless_there t o)
    put (Some tag) = tt
    put None = inputs_lawful (t.session.agent.holding.inputs ++ t.triple ∷ []) t.session h.session (and_triple t h)

    go : (a b : Bool) → LeavesLawful (cond a (refuses not_of_the_top_state) (cond b (refuses reserved_attribute) (unless_there t (tag_of t.triple t.session.agent.holding.elements))))
    go true b = tt
    go false true = tt
    go false false = put (tag_of t.triple t.session.agent.holding.elements)

removed_lawful : (s : Session) (o : Option Element) (tag : ℕ) → IsLawfulSession s → LeavesLawful (elim o as (λ x. Carried) [ None ↦ refuses (no_element tag) | Some e ↦ removed s e ])
removed_lawful s None tag h = tt
removed_lawful s (Some e) tag h = go (has_triple_among s.agent.holding.inputs (triple_of e))
  where
    others : (t : Triple) → IsIn t (filter (λ t. not (triple_eq t (triple_of e))) s.agent.holding.inputs) → AreGiven s.agent.names (symbols_of_triple t)
    others t i = h.agent.founded.symbols.inputs t (filter_within (λ t. not (triple_eq t (triple_of e))) s.agent.holding.inputs t i).0

    go : (b : Bool) → LeavesLawful (cond b (does (with_inputs (filter (λ t. not (triple_eq t (triple_of e))) s.agent.holding.inputs) s)) (refuses (not_an_input e.tag)))
    go true = inputs_lawful (filter (λ t. not (triple_eq t (triple_of e))) s.agent.holding.inputs) s h others
    go false = tt

queued_lawful : (adds : Bool) (t : Spelled) → IsLawfulSpelling t → LeavesLawful (queued adds t)
queued_lawful adds t h = go (is_reserved t.session t.triple)
  where
    a : Agent
    a = t.session.agent

    each : (q : Queued) → IsIn q (a.queues.input ++ record { adds = adds; triple = t.triple } ∷ []) → AreGiven a.names (symbols_of_triple q.triple)
    each q i = elim (in_append q a.queues.input (record { adds = adds; triple = t.triple } ∷ []) i) [
      | inl j ↦ h.session.agent.founded.symbols.queued q j
      | inr j ↦ elim j [ inl e ↦ subst (λ (x : Queued). AreGiven a.names (symbols_of_triple x.triple)) e h.given | inr k ↦ absurd k ]
    ]

    go : (b : Bool) → LeavesLawful (cond b (refuses reserved_attribute) (does (with_queued adds t)))
    go true = tt
    go false = record { agent = queues_keep a (record a.queues { input = a.queues.input ++ record { adds = adds; triple = t.triple } ∷ [] }) h.session.agent each; labels = h.session.labels }

-- ---- looking

named_lawful : (s : Session) (name : Sym) (f : RuleOf → Carried) → ((r : RuleOf) → LeavesLawful (f r)) → LeavesLawful (if_named s name f)
named_lawful s name f each = go (rule_named s.agent.program.rules name)
  where
    go : (o : Option RuleOf) → LeavesLawful (elim o as (λ x. Carried) [ None ↦ refuses (no_production s.agent.names.words name) | Some rule ↦ f rule ])
    go None = tt
    go (Some rule) = each rule

explained_lawful : (s : Session) (name : Sym) (o : Option ChainOf) → IsLawfulSession s → LeavesLawful (explained s name o)
explained_lawful s name None h = tt
explained_lawful s name (Some c) h = h

-- ---- all of them

runs_lawfully : (runs : ℕ → Agent → Course) (n : ℕ) (s : Session) → RunsLawfully runs → IsLawfulSession s → LeavesLawful (has_run runs n s)
runs_lawfully runs n s lawful h = go s.agent.halted
  where
    go : (b : Bool) → LeavesLawful (cond b (refuses halted) (does (followed s (runs n s.agent))))
    go true = tt
    go false = let r = lawful n s.agent h.agent in record { agent = r.0; labels = labels_stay_given s.agent.names (runs n s.agent).agent.names s.labels r.1 h.labels }

pub orders_leave_lawful : OrdersLeaveLawful
orders_leave_lawful runs (load p) s lawful may h = loaded_lawful p s may h
orders_leave_lawful runs (excise name) s lawful may h = named_lawful s name (λ rule. does (excised name s)) (λ r. excised_lawful name s h)
orders_leave_lawful runs (source name) s lawful may h = h
orders_leave_lawful runs (add_wme id attr value) s lawful may h =
    unless_unknown_lawful (first_unknown true s id attr value) (added (spelled s id attr value)) (λ q. added_lawful (spelled s id attr value) (spelling_lawful true s id attr value h may q))
orders_leave_lawful runs (remove_wme tag) s lawful may h = removed_lawful s (element_of tag s.agent.holding.elements) tag h
orders_leave_lawful runs (queue adds id attr value) s lawful may h =
    unless_unknown_lawful (first_unknown false s id attr value) (queued adds (spelled s id attr value)) (λ q. queued_lawful adds (spelled s id attr value) (spelling_lawful false s id attr value h may q))
orders_leave_lawful runs (random words) s lawful may h =
    record { agent = queues_keep s.agent (record s.agent.queues { random = s.agent.queues.random ++ words }) h.agent h.agent.founded.symbols.queued; labels = h.labels }
orders_leave_lawful runs (run_cycles n) s lawful may h = runs_lawfully runs n s lawful h
orders_leave_lawful runs (watch n) s lawful may h = settings_lawful s (record s.agent.settings { watch = n }) h
orders_leave_lawful runs matches s lawful may h = h
orders_leave_lawful runs (matches_of name) s lawful may h = named_lawful s name (λ rule. does (says s (conflict_lines_of s.agent rule))) (λ r. h)
orders_leave_lawful runs (preferences id attr) s lawful may h =
    unless_unknown_lawful (or_else (unknown_in s id) (unknown_in s attr)) (does (lists_slot s id attr)) (λ q. resolved_lawful (resolved s id).session attr (resolved_lawful s id h))
orders_leave_lawful runs (print_id id) s lawful may h = unless_unknown_lawful (unknown_in s id) (does (lists_elements s id)) (λ q. resolved_lawful s id h)
orders_leave_lawful runs (print_name name) s lawful may h = named_lawful s name (λ rule. does (says s (production_lines s.agent rule))) (λ r. h)
orders_leave_lawful runs print_memory s lawful may h = h
orders_leave_lawful runs print_rules s lawful may h = h
orders_leave_lawful runs print_chunks s lawful may h = h
orders_leave_lawful runs (chunk on) s lawful may h = settings_lawful s (record s.agent.settings { learning = on }) h
orders_leave_lawful runs (local_negations on) s lawful may h = settings_lawful s (record s.agent.settings { local_negations = on }) h
orders_leave_lawful runs (select_by m) s lawful may h = settings_lawful s (record s.agent.settings { mode = m }) h
orders_leave_lawful runs (max_elaborations n) s lawful may h = settings_lawful s (record s.agent.settings { max_elaborations = n }) h
orders_leave_lawful runs (explain name) s lawful may h =
    named_lawful s name (λ rule. explained s name (chain_of_rule s.agent.program.chains rule.number)) (λ r. explained_lawful s name (chain_of_rule s.agent.program.chains r.number) h)
orders_leave_lawful runs stats s lawful may h = h
orders_leave_lawful runs init_soar s lawful may h = record { agent = starting_anew_keeps s.agent h.agent; labels = λ l i. absurd i }
orders_leave_lawful runs quit s lawful may h = h

-- ---- commands

replied_lawful : (from : List ℕ) (number : ℕ) (s : Session) (c : Carried) → IsLawfulSession s → LeavesLawful c → IsLawfulSession (replied_by from number s c).session
replied_lawful from number s (does reply) h k = k
replied_lawful from number s (refuses r) h k = h

ordered_lawful : (stage : Stage) (from : List ℕ) (number : ℕ) (s : Session) (r : Result Order Refusal) → RunsLawfully stage.run → ((order : Order) → r ≡ Ok order → IsLawfulOrder s.agent.names.words order)
    → IsLawfulSession s → IsLawfulSession (ordered_by stage from number s r).session
ordered_lawful stage from number s (Ok order) lawful may h = replied_lawful from number s (carried_out stage.run order s) h (orders_leave_lawful stage.run order s lawful (may order refl) h)
ordered_lawful stage from number s (Err r) lawful may h = h

pub commands_leave_lawful : CommandsLeaveLawful
unfolding obeyed
commands_leave_lawful stage from number text s reads lawful h =
    let words = s.agent.names.words in
    let r = stage.read words text in
    let read : Session = record s { agent = record s.agent { names = record s.agent.names { words = r.words } } } in
    let start : IsLawfulSession read = record {
      agent = words_keep s.agent r.words h.agent (reads.grown words text) (reads.once words text h.agent.founded.symbols.once);
      labels = labels_stay_given s.agent.names read.agent.names s.labels (itself s.agent.names.letters) h.labels;
    } in
    ordered_lawful stage from number read r.order lawful (λ order q. reads.orders words text order h.agent.founded.symbols.words q) start

pub whole_commands_leave_lawful : WholeCommandsLeaveLawful
whole_commands_leave_lawful from number text s h = commands_leave_lawful whole_stage from number text s whole_reads_lawfully whole_runs_lawfully h
