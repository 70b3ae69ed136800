-- What each order does.
use Rattle.std.specs.Prelude.{ℕ, suc, Bool, true, false, ◌&&◌, ◌==◌, not, List, [], ◌∷◌, ◌++◌, map, filter, Option, Some, None, if◌then◌else◌}
use Rattle.std.specs.List.{list_any}
use Rattle.soar_sym.specs.Equality.{symbol_eq}
use Rattle.soar_sym.specs.declared.symbol.Sym.{Sym}
use Rattle.soar_rule.specs.Productions.{ProductionOf}
use Rattle.soar_wm.specs.WorkingMemory.{element_of, elements_of}
use Rattle.defs_match.specs.Rules.{RuleOf}
use Rattle.defs_soar.specs.Agents.{Agent, Program, Settings, Learnt}
use Rattle.defs_soar.specs.History.{ChainOf}
use Rattle.defs_soar.specs.Limits.{counts_to}
use Rattle.defs_soar.specs.Phases.{Said, Course}
use Rattle.defs_soar.specs.Start.{restarted}
use Rattle.defs_soar.specs.Texts.{chain_lines}
use Rattle.defs_soar.specs.Trace.{pieces_of}
use Rattle.defs_run.specs.Inputs.{Carried, does, refuses, spelled, or_else, first_unknown, added, unless_unknown, removed, queued, with_random}
use Rattle.defs_run.specs.Listing.{conflict_lines, conflict_lines_of, preference_lines, element_lines, production_lines, rule_lines, chunk_lines, stats_line}
use Rattle.defs_run.specs.Orders.{Operand, Order, load, excise, source, add_wme, remove_wme, queue, random, run_cycles, watch, matches, matches_of, preferences, print_id, print_name, print_memory, print_rules, print_chunks, chunk, local_negations, select_by, max_elaborations, explain, stats, init_soar, quit, no_production, not_a_learned_rule, no_element, halted}
use Rattle.defs_run.specs.Sessions.{Session, Told, sources, quits, Reply, replied, quiet, with_agent, says, draws, resolved, unknown_in}

-- ---- loading and taking away

abbrev pub is_named : Sym → RuleOf → Bool
is_named name rule = symbol_eq rule.production.name name

abbrev pub rule_named : List RuleOf → Sym → Option RuleOf
rule_named [] name = None
rule_named (rule ∷ rules) name = if is_named name rule then Some rule else rule_named rules name

-- the explanation goes with its rule
abbrev pub without_name : Sym → Program → Program
without_name name program = record program {
  rules = filter (λ rule. not (is_named name rule)) program.rules;
  chains = filter (λ learnt. not (list_any (λ rule. (rule.number == learnt.rule) && is_named name rule) program.rules)) program.chains;
}

-- in the place of the production of that name, under the next rule number
abbrev pub with_production : ProductionOf → Program → Program
with_production production program =
    let others = without_name production.name program in
    record others { rules = others.rules ++ record { number = suc program.last_rule; production = production } ∷ []; last_rule = suc program.last_rule }

abbrev pub loaded : ProductionOf → Session → Reply
loaded production s =
    draws (counts_to (suc s.agent.program.last_rule) ∷ []) (quiet (with_agent s (record s.agent { program = with_production production s.agent.program })))

abbrev pub excised : Sym → Session → Reply
excised name s = quiet (with_agent s (record s.agent { program = without_name name s.agent.program }))

-- ---- running

abbrev pub told_of : Said → Told
told_of said = record { pieces = pieces_of said.words said.events; totals = said.totals }

abbrev pub followed : Session → Course → Reply
followed s c = replied (with_agent s c.agent) (map told_of c.steps)

abbrev pub has_run : (ℕ → Agent → Course) → ℕ → Session → Carried
has_run run n s = if s.agent.halted then refuses halted else does (followed s (run n s.agent))

-- ---- settings

abbrev pub with_settings : Session → Settings → Reply
with_settings s settings = quiet (with_agent s (record s.agent { settings = settings }))

-- ---- looking

abbrev pub if_named : Session → Sym → (RuleOf → Carried) → Carried
if_named s name f = elim (rule_named s.agent.program.rules name) [ None ↦ refuses (no_production s.agent.names.words name) | Some rule ↦ f rule ]

abbrev pub chain_of_rule : List Learnt → ℕ → Option ChainOf
chain_of_rule [] number = None
chain_of_rule (l ∷ chains) number = if l.rule == number then Some l.chain else chain_of_rule chains number

abbrev pub explained : Session → Sym → Option ChainOf → Carried
explained s name None = refuses (not_a_learned_rule s.agent.names.words name)
explained s name (Some c) = does (says s (chain_lines s.agent.names.words name c))

abbrev pub lists_slot : Session → Operand → Operand → Reply
lists_slot s id attr =
    let i = resolved s id in
    let a = resolved i.session attr in
    draws (i.totals ++ a.totals) (says a.session (preference_lines a.session.agent i.symbol a.symbol))

abbrev pub lists_elements : Session → Operand → Reply
lists_elements s id =
    let i = resolved s id in
    draws i.totals (says i.session (element_lines s.agent.names.words (elements_of i.symbol s.agent.holding.elements)))

-- ---- the order

-- `run` gives the course of a number of cycles
abbrev pub carried_out : (ℕ → Agent → Course) → Order → Session → Carried
carried_out run (load production) s = does (loaded production s)
carried_out run (excise name) s = if_named s name (λ rule. does (excised name s))
carried_out run (source name) s = does (record (quiet s) { sequel = sources name })
carried_out run (add_wme id attr value) s = unless_unknown (first_unknown true s id attr value) (added (spelled s id attr value))
carried_out run (remove_wme tag) s = elim (element_of tag s.agent.holding.elements) [ None ↦ refuses (no_element tag) | Some e ↦ removed s e ]
carried_out run (queue adds id attr value) s = unless_unknown (first_unknown false s id attr value) (queued adds (spelled s id attr value))
carried_out run (random words) s = does (with_random words s)
carried_out run (run_cycles n) s = has_run run n s
carried_out run (watch n) s = does (with_settings s (record s.agent.settings { watch = n }))
carried_out run matches s = does (says s (conflict_lines s.agent))
carried_out run (matches_of name) s = if_named s name (λ rule. does (says s (conflict_lines_of s.agent rule)))
carried_out run (preferences id attr) s = unless_unknown (or_else (unknown_in s id) (unknown_in s attr)) (does (lists_slot s id attr))
carried_out run (print_id id) s = unless_unknown (unknown_in s id) (does (lists_elements s id))
carried_out run (print_name name) s = if_named s name (λ rule. does (says s (production_lines s.agent rule)))
carried_out run print_memory s = does (says s (element_lines s.agent.names.words s.agent.holding.elements))
carried_out run print_rules s = does (says s (rule_lines s.agent))
carried_out run print_chunks s = does (says s (chunk_lines s.agent))
carried_out run (chunk on) s = does (with_settings s (record s.agent.settings { learning = on }))
carried_out run (local_negations on) s = does (with_settings s (record s.agent.settings { local_negations = on }))
carried_out run (select_by m) s = does (with_settings s (record s.agent.settings { mode = m }))
carried_out run (max_elaborations n) s = does (with_settings s (record s.agent.settings { max_elaborations = n }))
carried_out run (explain name) s = if_named s name (λ rule. explained s name (chain_of_rule s.agent.program.chains rule.number))
carried_out run stats s = does (says s (stats_line s.agent ∷ []))
carried_out run init_soar s = does (quiet (record s { agent = restarted s.agent; labels = [] }))
carried_out run quit s = does (record (quiet s) { sequel = quits })
