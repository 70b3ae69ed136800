use Rattle.std.proofs.Common.{◌≡◌, ◌∙◌, ap, sym, ◌+◌, arith, true, false, cond}
use Rattle.soar_sym.specs.Equality.{symbol_eq}
use Rattle.level_graph.specs.Marks.{has_mark, mark_at, weight, weight_of}
use Rattle.level_graph.proofs.MapLemmas.{write_marks, write_places, write_weight, is_found, IsWritten}
use Rattle.level_graph.specs.contracts.marks.Marks.{the_view}
use Rattle.level_graph.proofs.marks.Marks.set.Goals as goal
use Rattle.level_graph.proofs.marks.Marks.set.Goals.{in-Some, in_default}

has : (c : goal.Joined-get_mut) → has_mark (c.self.inside.map.entries) c.args.id ≡ true
has c = ap (λ l. has_mark l c.args.id) c.self.view_is ∙ grind (arith, c.requires)

written : (c : goal.Joined-get_mut) → IsWritten c.self.inside.map.entries (the_view c.match-get_mut.self-inside) c.args.id c.args.level
written c = elim c.match-get_mut.branch [
  | in-Some w ↦ ap the_view w.self-inside-is ∙ (c.get_mut.follows.holds c.args.level).0
  | in_default w ↦ absurd (let e : true ≡ false = is_found c.self.inside.map.entries c.args.id (has c) (sym w.in_default.ensures.value) in cc)
]

pub returns-clause-weight : goal.returns-clause-weight
returns-clause-weight c =
    ap (λ l. weight (the_view c.match-get_mut.self-inside) + weight_of (mark_at l c.args.id)) (sym c.self.view_is)
    ∙ write_weight c.self.inside.map.entries (the_view c.match-get_mut.self-inside) c.args.id c.args.level (written c) (has c)
    ∙ ap (λ l. weight l + weight_of c.args.level) c.self.view_is

pub returns-clause-places : goal.returns-clause-places
returns-clause-places c = λ s. write_places c.self.inside.map.entries (the_view c.match-get_mut.self-inside) c.args.id c.args.level (written c) s ∙ ap (λ l. has_mark l s) c.self.view_is

pub returns-clause-marks : goal.returns-clause-marks
returns-clause-marks c = λ s.
    write_marks c.self.inside.map.entries (the_view c.match-get_mut.self-inside) c.args.id c.args.level (written c) (has c) s
    ∙ ap (λ l. cond (symbol_eq c.args.id s) c.args.level (mark_at l s)) c.self.view_is
