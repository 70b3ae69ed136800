use Rattle.std.proofs.Common.{◌≢◌, ◌↔◌, sym, subst, List}
use Rattle.std.specs.Map.{keys_of}
use Rattle.defs_match.specs.Laws.{IsIn}
use Rattle.node_agenda.specs.declared.turns.TurnKey.{TurnKey}
use Rattle.node_agenda.proofs.TurnLemmas.{in_removed}
use Rattle.node_agenda.proofs.turns.TurnIndex.remove.Goals as goal

pub returns : goal.returns
returns c x =
    subst (λ (ks : List TurnKey). IsIn x (keys_of c.remove.new.self.entries) ↔ (IsIn x ks × (c.args.key.now ≢ x))) c.self.view_is
    (subst (λ es. IsIn x (keys_of es) ↔ (IsIn x (keys_of c.self.inside.keys.entries) × (c.args.key.now ≢ x))) (sym c.remove.ensures.entries) (in_removed c.self.inside.keys.entries c.args.key.now x c.len-count.ensures.ordered))
