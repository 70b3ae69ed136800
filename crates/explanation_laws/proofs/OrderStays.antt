-- Explanations stay through orders and commands.
use Rattle.std.proofs.Common.{ℕ, Bool, true, false, cond, List, [], ◌∷◌, ◌++◌, filter, Option, Some, None, Result, Ok, Err}
use Rattle.std.specs.Prelude.{not}
use Rattle.soar_sym.specs.declared.symbol.Sym.{Sym}
use Rattle.soar_sym.specs.declared.symbol.Triple.{Triple}
use Rattle.soar_wm.specs.declared.element.Element.{Element}
use Rattle.soar_wm.specs.WorkingMemory.{element_of, tag_of, triple_of}
use Rattle.defs_match.specs.Rules.{RuleOf}
use Rattle.defs_soar.specs.Agents.{Agent}
use Rattle.defs_soar.specs.History.{ChainOf}
use Rattle.defs_soar.specs.Phases.{Course}
use Rattle.defs_soar.specs.Resettling.{resettled}
use Rattle.defs_soar.specs.Values.{has_triple_among, triple_eq}
use Rattle.defs_run.specs.Carrying.{carried_out, chain_of_rule, excised, explained, followed, has_run, if_named, lists_elements, lists_slot, rule_named}
use Rattle.defs_run.specs.Listing.{conflict_lines_of, production_lines}
use Rattle.defs_run.specs.Inputs.{added, Carried, does, first_unknown, is_reserved, is_top_level, or_else, queued, refuses, removed, spelled, Spelled, unless_there, unless_unknown, with_inputs, with_queued}
use Rattle.defs_run.specs.Orders.{add_wme, chunk, excise, explain, halted, init_soar, is_label, is_symbol, load, local_negations, matches, matches_of, max_elaborations, no_element, no_production, not_an_input, not_of_the_top_state, Operand, Order, preferences, print_chunks, print_id, print_memory, print_name, print_rules, queue, quit, random, Refusal, remove_wme, reserved_attribute, run_cycles, select_by, source, stats, watch}
use Rattle.defs_run.specs.Runs.{obeyed, ordered_by, replied_by}
use Rattle.defs_run.specs.Sessions.{label_in, labelled, resolved, says, Session, unknown_in}
use Rattle.defs_run.specs.Stages.{Stage}
use Rattle.defs_run.specs.Whole.{whole_stage}
use Rattle.learning_laws.proofs.TableGrowth.{grown_twice, not_grown}
use Rattle.loading_laws.proofs.ReadOrders.{whole_reads_lawfully}
use Rattle.explanation_laws.specs.Staying.{IsNumberedProgram, LaterAgent}
use Rattle.explanation_laws.specs.Stays.{after_commands, AllCommandsStay, CommandsStay, LeavesLater, OrdersStay, RunsStay, WholeCommandsStay}
use Rattle.explanation_laws.proofs.CycleStays.{agent_itself, whole_runs_stay}
use Rattle.explanation_laws.proofs.ProgramLaws.{anew_later, later_twice, named_later, production_later}

-- ---- orders on inputs

module _ (a : Agent) where
  abbrev Goes : Session → Type 0
  Goes s = LaterAgent a s.agent

  resolved_goes : (s : Session) (o : Operand) → Goes s → Goes (resolved s o).session
  resolved_goes s (is_symbol symbol) h = h
  resolved_goes s (is_label name) h = go (label_in s.labels name)
    where
      go : (o : Option Sym) → Goes (labelled s name o).session
      go None = h
      go (Some symbol) = h

  spelled_goes : (s : Session) (id attr value : Operand) → Goes s → Goes (spelled s id attr value).session
  spelled_goes s id attr value h =
      let first = (resolved s id).session in
      let second = (resolved first attr).session in
      resolved_goes second value (resolved_goes first attr (resolved_goes s id h))

  inputs_go : (inputs : List Triple) (s : Session) → Goes s → Goes (with_inputs inputs s).session
  unfolding resettled
  inputs_go inputs s h = h

  unknown_goes : (o : Option (List ℕ)) (c : Carried) → LeavesLater a c → LeavesLater a (unless_unknown o c)
  unknown_goes None c h = h
  unknown_goes (Some text) c h = tt

  added_goes : (t : Spelled) → Goes t.session → LeavesLater a (added t)
  added_goes t h = go (not (is_top_level t.session t.triple.id)) (is_reserved t.session t.triple)
    where
      put : (o : Option ℕ) → LeavesLater a (unless_there t o)
      put (Some tag) = tt
      put None = inputs_go (t.session.agent.holding.inputs ++ t.triple ∷ []) t.session h

      go : (b c : Bool) → LeavesLater a (cond b (refuses not_of_the_top_state) (cond c (refuses reserved_attribute) (unless_there t (tag_of t.triple t.session.agent.holding.elements))))
      go true c = tt
      go false true = tt
      go false false = put (tag_of t.triple t.session.agent.holding.elements)

  removed_goes : (s : Session) (o : Option Element) (tag : ℕ) → Goes s → LeavesLater a (elim o as (λ x. Carried) [ None ↦ refuses (no_element tag) | Some e ↦ removed s e ])
  removed_goes s None tag h = tt
  removed_goes s (Some e) tag h = go (has_triple_among s.agent.holding.inputs (triple_of e))
    where
      go : (b : Bool) → LeavesLater a (cond b (does (with_inputs (filter (λ t. not (triple_eq t (triple_of e))) s.agent.holding.inputs) s)) (refuses (not_an_input e.tag)))
      go true = inputs_go (filter (λ t. not (triple_eq t (triple_of e))) s.agent.holding.inputs) s h
      go false = tt

  queued_goes : (adds : Bool) (t : Spelled) → Goes t.session → LeavesLater a (queued adds t)
  queued_goes adds t h = go (is_reserved t.session t.triple)
    where
      go : (b : Bool) → LeavesLater a (cond b (refuses reserved_attribute) (does (with_queued adds t)))
      go true = tt
      go false = h

  -- ---- looking

  named_goes : (s : Session) (name : Sym) (f : RuleOf → Carried) → ((r : RuleOf) → LeavesLater a (f r)) → LeavesLater a (if_named s name f)
  named_goes s name f each = go (rule_named s.agent.program.rules name)
    where
      go : (o : Option RuleOf) → LeavesLater a (elim o as (λ x. Carried) [ None ↦ refuses (no_production s.agent.names.words name) | Some rule ↦ f rule ])
      go None = tt
      go (Some rule) = each rule

  explained_goes : (s : Session) (name : Sym) (o : Option ChainOf) → Goes s → LeavesLater a (explained s name o)
  explained_goes s name None h = tt
  explained_goes s name (Some c) h = h

-- ---- all of them

runs_go : (runs : ℕ → Agent → Course) (n : ℕ) (s : Session) → RunsStay runs → IsNumberedProgram s.agent.program → LeavesLater s.agent (has_run runs n s)
runs_go runs n s stay h = go s.agent.halted
  where
    go : (b : Bool) → LeavesLater s.agent (cond b (refuses halted) (does (followed s (runs n s.agent))))
    go true = tt
    go false = stay n s.agent h

pub orders_stay : OrdersStay
orders_stay runs (load production) s stay h = (production_later production s.agent.program h, not_grown s.agent.names.words)
orders_stay runs (excise name) s stay h = named_goes s.agent s name (λ rule. does (excised name s)) (λ r. (named_later name s.agent.program h, not_grown s.agent.names.words))
orders_stay runs (source name) s stay h = agent_itself s.agent h
orders_stay runs (add_wme id attr value) s stay h =
    let a = s.agent in
    unknown_goes a (first_unknown true s id attr value) (added (spelled s id attr value)) (added_goes a (spelled s id attr value) (spelled_goes a s id attr value (agent_itself a h)))
orders_stay runs (remove_wme tag) s stay h = removed_goes s.agent s (element_of tag s.agent.holding.elements) tag (agent_itself s.agent h)
orders_stay runs (queue adds id attr value) s stay h =
    let a = s.agent in
    unknown_goes a (first_unknown false s id attr value) (queued adds (spelled s id attr value)) (queued_goes a adds (spelled s id attr value) (spelled_goes a s id attr value (agent_itself a h)))
orders_stay runs (random words) s stay h = agent_itself s.agent h
orders_stay runs (run_cycles n) s stay h = runs_go runs n s stay h
orders_stay runs (watch n) s stay h = agent_itself s.agent h
orders_stay runs matches s stay h = agent_itself s.agent h
orders_stay runs (matches_of name) s stay h = named_goes s.agent s name (λ rule. does (says s (conflict_lines_of s.agent rule))) (λ r. agent_itself s.agent h)
orders_stay runs (preferences id attr) s stay h =
    let a = s.agent in
    unknown_goes a (or_else (unknown_in s id) (unknown_in s attr)) (does (lists_slot s id attr)) (resolved_goes a (resolved s id).session attr (resolved_goes a s id (agent_itself a h)))
orders_stay runs (print_id id) s stay h =
    let a = s.agent in unknown_goes a (unknown_in s id) (does (lists_elements s id)) (resolved_goes a s id (agent_itself a h))
orders_stay runs (print_name name) s stay h = named_goes s.agent s name (λ rule. does (says s (production_lines s.agent rule))) (λ r. agent_itself s.agent h)
orders_stay runs print_memory s stay h = agent_itself s.agent h
orders_stay runs print_rules s stay h = agent_itself s.agent h
orders_stay runs print_chunks s stay h = agent_itself s.agent h
orders_stay runs (chunk on) s stay h = agent_itself s.agent h
orders_stay runs (local_negations on) s stay h = agent_itself s.agent h
orders_stay runs (select_by m) s stay h = agent_itself s.agent h
orders_stay runs (max_elaborations n) s stay h = agent_itself s.agent h
orders_stay runs (explain name) s stay h =
    let a = s.agent in
    named_goes a s name (λ rule. explained s name (chain_of_rule a.program.chains rule.number)) (λ r. explained_goes a s name (chain_of_rule a.program.chains r.number) (agent_itself a h))
orders_stay runs stats s stay h = agent_itself s.agent h
orders_stay runs init_soar s stay h = (anew_later s.agent.program h, not_grown s.agent.names.words)
orders_stay runs quit s stay h = agent_itself s.agent h

-- ---- commands

replied_goes : (a : Agent) (from : List ℕ) (number : ℕ) (s : Session) (c : Carried) → LaterAgent a s.agent → LeavesLater a c → LaterAgent a (replied_by from number s c).session.agent
replied_goes a from number s (does reply) h k = k
replied_goes a from number s (refuses r) h k = h

ordered_goes : (stage : Stage) (from : List ℕ) (number : ℕ) (s : Session) (r : Result Order Refusal) → RunsStay stage.run → IsNumberedProgram s.agent.program
    → LaterAgent s.agent (ordered_by stage from number s r).session.agent
ordered_goes stage from number s (Ok order) stay h = replied_goes s.agent from number s (carried_out stage.run order s) (agent_itself s.agent h) (orders_stay stage.run order s stay h)
ordered_goes stage from number s (Err r) stay h = agent_itself s.agent h

pub commands_stay : CommandsStay
unfolding obeyed
commands_stay stage from number text s reads stay h =
    let words = s.agent.names.words in
    let r = stage.read words text in
    let read : Session = record s { agent = record s.agent { names = record s.agent.names { words = r.words } } } in
    let one = ordered_goes stage from number read r.order stay h in
    (one.0, grown_twice words r.words (ordered_by stage from number read r.order).session.agent.names.words (reads words text) one.1)

pub whole_commands_stay : WholeCommandsStay
whole_commands_stay from number text s h = commands_stay whole_stage from number text s whole_reads_lawfully.grown whole_runs_stay h

pub all_commands_stay : AllCommandsStay
all_commands_stay [] s h = agent_itself s.agent h
all_commands_stay (c ∷ commands) s h =
    let next = (obeyed whole_stage c.from c.number c.text (record s { mid_line = c.mid_line })).session in
    let one = whole_commands_stay c.from c.number c.text (record s { mid_line = c.mid_line }) h in
    let later = all_commands_stay commands next one.0.numbered in
    let last = (after_commands commands next).agent in
    (later_twice s.agent.program next.agent.program last.program one.0 later.0, grown_twice s.agent.names.words next.agent.names.words last.names.words one.1 later.1)
