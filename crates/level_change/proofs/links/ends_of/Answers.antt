use Rattle.std.proofs.Common.{rules, ◌≡◌, Some, subst}
use Rattle.defs_soar.specs.Sorted.{has_symbol}
use Rattle.level_change.specs.Links.{id_of, is_linked}
use Rattle.level_change.proofs.EndLemmas.{all_ends}
use Rattle.level_change.proofs.LinkLemmas.{symbol_id}
use Rattle.level_change.proofs.links.ends_of.Goals as goal

pub returns : goal.returns
returns c = λ y.
    let at : id_of c.args.id ≡ Some c.in_ok-id.id = search rules in
    subst (λ s. is_linked c.args.links.now s y ≡ has_symbol c.add_late.new.found y) (symbol_id c.args.id c.in_ok-id.id at) (all_ends c.args.links.now c.in_ok-id.id _ c.in_ok-add_kept.ensures.ordered c.in_ok-add_late.ensures.ordered (search rules) y)
