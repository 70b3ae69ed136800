use Rattle.std.proofs.Common.{sym, ap, ◌∙◌}
use Rattle.soar_rule.specs.declared.cond.Atom.TheVariants.{Var}
use Rattle.defs_read.specs.FreshNames.{expanded}
use Rattle.read_parts.specs.Naming.{fresh_seen}
use Rattle.read_parts.proofs.NameLemmas.{fresh_after, fresh_kept}
use Rattle.read_parts.proofs.names.fresh.Goals as goal

pub returns-clause-variable : goal.returns-clause-variable
returns-clause-variable c =
    fresh_after c.args.source.now c.args.names.now (record { list = c.add.new.list; next = c.in_ok-next.next }) c.in_ok-number.number
    c.requires c.in_ok-number.ensures.later c.in_ok-number.ensures.number c.in_ok-place.ensures.keys c.in_ok-next.ensures
    ∙ ap (λ a. expanded a (fresh_seen c.args.source.now (record { list = c.add.new.list; next = c.in_ok-next.next }))) (ap Var (sym c.in_ok-place.ensures.place) ∙ sym c.in_ok-variable.ensures)

pub returns-clause-kept : goal.returns-clause-kept
returns-clause-kept c =
    fresh_kept c.args.source.now c.args.names.now (record { list = c.add.new.list; next = c.in_ok-next.next }) c.in_ok-number.number
    c.requires c.in_ok-number.ensures.later c.in_ok-number.ensures.free c.in_ok-place.ensures.keys c.in_ok-next.ensures
