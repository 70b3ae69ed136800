-- What orders do to the inputs, and what carrying out an order comes to.
use Rattle.std.specs.Prelude.{ℕ, Bool, false, ◌==◌, not, List, [], ◌∷◌, ◌++◌, map, filter, Option, Some, None, is_some, if◌then◌else◌}
use Rattle.soar_sym.specs.declared.symbol.Sym.{Sym}
use Rattle.soar_sym.specs.declared.symbol.Triple.{Triple}
use Rattle.soar_wm.specs.declared.element.Element.{Element}
use Rattle.soar_wm.specs.WorkingMemory.{triple_of, tag_of}
use Rattle.defs_text.specs.Symbols.{symbol_text}
use Rattle.defs_soar.specs.Agents.{Agent}
use Rattle.defs_soar.specs.Cycle.{held_with}
use Rattle.defs_soar.specs.Goals.{is_operator_slot, plain_triple}
use Rattle.defs_soar.specs.Levels.{level}
use Rattle.defs_soar.specs.Limits.{Total}
use Rattle.defs_soar.specs.Resettling.{AgentStep, resettled}
use Rattle.defs_soar.specs.Trace.{pieces_of}
use Rattle.defs_soar.specs.Values.{triple_eq, has_triple_among}
use Rattle.defs_run.specs.Orders.{Operand, is_symbol, is_label, Refusal, unknown_identifier, not_of_the_top_state, reserved_attribute, already_there, not_an_input}
use Rattle.defs_run.specs.Sessions.{Session, Told, Reply, replied, quiet, with_agent, draws, label_in, resolved, unknown_in, bracketed}

-- what an order does, or why it is refused
pub data Carried : Type 0 where
  does : Reply → Carried
  refuses : Refusal → Carried

abbrev pub told_by : Agent → AgentStep → Told
told_by a step = record { pieces = pieces_of step.agent.names.words step.events; totals = step.totals }

-- the session with these inputs, settled
abbrev pub with_inputs : List Triple → Session → Reply
with_inputs inputs s = let step = resettled s.agent (held_with s.agent inputs) in replied (with_agent s step.agent) (told_by s.agent step ∷ [])

-- the triple of three operands, and the session in which they stand for symbols
pub record Spelled : Type 0 where
  pub session : Session
  pub triple : Triple
  pub totals : List Total

abbrev pub spelled : Session → Operand → Operand → Operand → Spelled
spelled s id attr value =
    let i = resolved s id in
    let a = resolved i.session attr in
    let v = resolved a.session value in
    record { session = v.session; triple = plain_triple i.symbol a.symbol v.symbol; totals = i.totals ++ (a.totals ++ v.totals) }

abbrev pub or_else : {A : Type 0} → Option A → Option A → Option A
or_else (Some a) later = Some a
or_else None later = later

abbrev pub level_of : Agent → Sym → Option ℕ
level_of a s = level a.holding.goals (map triple_of a.holding.elements) s

-- the text of an identifier that no goal reaches
abbrev pub unreached_symbol : Session → Sym → Option (List ℕ)
unreached_symbol s symbol = if is_some (level_of s.agent symbol) then None else Some (symbol_text s.agent.names.words symbol)

abbrev pub unreached_label : Session → List ℕ → Option Sym → Option (List ℕ)
unreached_label s name None = Some (bracketed name)
unreached_label s name (Some symbol) = unreached_symbol s symbol

abbrev pub unreached_in : Session → Operand → Option (List ℕ)
unreached_in s (is_symbol symbol) = unreached_symbol s symbol
unreached_in s (is_label name) = unreached_label s name (label_in s.labels name)

-- the first identifier that there is not, or that no goal reaches where one has to
abbrev pub first_unknown : Bool → Session → Operand → Operand → Operand → Option (List ℕ)
first_unknown reached s id attr value =
    or_else (unknown_in s id) (or_else (if reached then unreached_in s id else None) (or_else (unknown_in s attr) (unknown_in s value)))

abbrev pub is_top_level : Session → Sym → Bool
is_top_level s id = elim (level_of s.agent id) [ Some n ↦ n == 1 | None ↦ false ]

abbrev pub is_reserved : Session → Triple → Bool
is_reserved s t = is_operator_slot s.agent.holding.goals t.id t.attr

abbrev pub unless_there : Spelled → Option ℕ → Carried
unless_there t (Some tag) = refuses (already_there tag)
unless_there t None = does (draws t.totals (with_inputs (t.session.agent.holding.inputs ++ t.triple ∷ []) t.session))

-- an element that is there for another cause becomes no input
abbrev pub added : Spelled → Carried
added t =
    if not (is_top_level t.session t.triple.id) then refuses not_of_the_top_state
    else if is_reserved t.session t.triple then refuses reserved_attribute
    else unless_there t (tag_of t.triple t.session.agent.holding.elements)

abbrev pub unless_unknown : Option (List ℕ) → Carried → Carried
unless_unknown (Some text) c = refuses (unknown_identifier text)
unless_unknown None c = c

abbrev pub removed : Session → Element → Carried
removed s e =
    if has_triple_among s.agent.holding.inputs (triple_of e) then does (with_inputs (filter (λ t. not (triple_eq t (triple_of e))) s.agent.holding.inputs) s)
    else refuses (not_an_input e.tag)

abbrev pub with_queued : Bool → Spelled → Reply
with_queued adds t =
    let a = t.session.agent in
    draws t.totals (quiet (with_agent t.session (record a { queues = record a.queues { input = a.queues.input ++ record { adds = adds; triple = t.triple } ∷ [] } })))

abbrev pub queued : Bool → Spelled → Carried
queued adds t = if is_reserved t.session t.triple then refuses reserved_attribute else does (with_queued adds t)

abbrev pub with_random : List ℕ → Session → Reply
with_random words s = let a = s.agent in quiet (with_agent s (record a { queues = record a.queues { random = a.queues.random ++ words } }))
