-- Adding an element, once its identifier and its attribute are symbols.
use Rattle.std.specs.Prelude.{ℕ, not, List, [], ◌∷◌, ◌++◌, None, if◌then◌else◌}
use Rattle.soar_sym.specs.declared.symbol.Sym.{Sym}
use Rattle.soar_sym.specs.declared.symbol.Triple.{Triple}
use Rattle.soar_wm.specs.WorkingMemory.{tag_of}
use Rattle.defs_soar.specs.Goals.{is_operator_slot, plain_triple}
use Rattle.defs_run.specs.Inputs.{Carried, refuses, Spelled, is_top_level, unless_there, with_inputs}
use Rattle.defs_run.specs.Orders.{Operand, not_of_the_top_state, reserved_attribute}
use Rattle.defs_run.specs.Sessions.{Session, Resolved, Reply, draws, labelled, resolved}

-- the triple with a value, in the session in which that stands for a symbol
abbrev pub spelled_by : Sym → Sym → Resolved → Spelled
spelled_by id attr v = record { session = v.session; triple = plain_triple id attr v.symbol; totals = v.totals }

-- unless working memory has the triple
abbrev pub unless_twice : Spelled → Carried
unless_twice t = unless_there t (tag_of t.triple t.session.agent.holding.elements)

-- with a value
abbrev pub adds_by : Sym → Sym → Operand → Session → Carried
adds_by id attr value s = unless_twice (spelled_by id attr (resolved s value))

-- the same where the attribute is not reserved
abbrev pub adds_to : Sym → Sym → Operand → Session → Carried
adds_to id attr value s = if is_operator_slot s.agent.holding.goals id attr then refuses reserved_attribute else adds_by id attr value s

-- the same where the identifier is of the top level
abbrev pub adds_at_top : Sym → Sym → Operand → Session → Carried
adds_at_top id attr value s = if not (is_top_level s id) then refuses not_of_the_top_state else adds_to id attr value s

-- a triple of symbols that there are
abbrev pub adds_triple : Triple → Session → Carried
adds_triple t s = unless_twice (record { session = s; triple = t; totals = [] })

-- the totals that it comes to, and the inputs with it
abbrev pub puts : Spelled → Reply
puts t = draws t.totals (with_inputs (t.session.agent.holding.inputs ++ t.triple ∷ []) t.session)

abbrev pub makes_labelled : Sym → Sym → List ℕ → Session → Reply
makes_labelled id attr name s = puts (spelled_by id attr (labelled s name None))
