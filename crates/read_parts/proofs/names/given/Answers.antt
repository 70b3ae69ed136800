use Rattle.std.proofs.Common.{refl, sym, ap, ◌∙◌}
use Rattle.soar_rule.specs.declared.cond.Atom.TheVariants.{Var}
use Rattle.defs_read.specs.FreshNames.{expanded}
use Rattle.read_parts.specs.Naming.{fresh_seen}
use Rattle.read_parts.proofs.NameLemmas.{named_after, named_kept}
use Rattle.read_parts.proofs.names.given.Goals as goal

pub returns-clause-variable : goal.returns-clause-variable
returns-clause-variable c =
    named_after c.args.source.now c.args.names.now (record { list = c.add.new.list; next = c.args.names.now.next }) c.args.word c.requires.used c.requires.kept c.in_ok-place.ensures.keys refl
    ∙ ap (λ a. expanded a (fresh_seen c.args.source.now (record { list = c.add.new.list; next = c.args.names.now.next }))) (ap Var (sym c.in_ok-place.ensures.place) ∙ sym c.in_ok-variable.ensures)

pub returns-clause-kept : goal.returns-clause-kept
returns-clause-kept c = named_kept c.args.source.now c.args.names.now (record { list = c.add.new.list; next = c.args.names.now.next }) c.args.word c.requires.used c.requires.kept c.in_ok-place.ensures.keys refl
