use Rattle.std.proofs.Common.{map, ap, sym, ◌∙◌}
use Rattle.defs_read.specs.ActionExpansion.{value_of, values_of}
use Rattle.defs_read.specs.ReadingValues.{terms_of}
use Rattle.tree_parts.specs.Seen.{term_seen}
use Rattle.read_parts.specs.Expanding.{listed}
use Rattle.read_parts.specs.Naming.{fresh_seen}
use Rattle.read_parts.proofs.ValueLemmas.{call_after}
use Rattle.read_parts.proofs.terms.+terms.Goals as goal

pub value-returns-in_ok-values-in-Call-clause-value : goal.value-returns-in_ok-values-in-Call-clause-value
value-returns-in_ok-values-in-Call-clause-value t c =
    ap (λ term. value_of (term_seen c.args.source.now.table.now term) c.args.source.now.table.now (fresh_seen c.args.source.now c.args.names.now)) c.in-Call.is
    ∙ call_after c.args.source.now.table.now c.in-Call.func c.in-Call.terms c.in_ok-values-in-Call.values (fresh_seen c.args.source.now c.args.names.now) (fresh_seen c.args.source.now c.values.new.names)
    (ap (λ terms. listed (values_of (terms_of (map (term_seen c.args.source.now.table.now) terms)) c.args.source.now.table.now (fresh_seen c.args.source.now c.args.names.now))) (sym c.as_slice.ensures)
    ∙ c.in_ok-values-in-Call.ensures.values)
