use Rattle.std.proofs.Common.{◌≡◌, ◌↔◌, ◌⊎◌, sym, subst, List}
use Rattle.std.specs.Map.{keys_of}
use Rattle.defs_match.specs.Laws.{IsIn}
use Rattle.node_agenda.specs.declared.turns.TurnKey.{TurnKey}
use Rattle.node_agenda.proofs.TurnLemmas.{in_inserted}
use Rattle.node_agenda.proofs.turns.TurnIndex.add.Goals as goal

pub returns-clause-ok : goal.returns-clause-ok
returns-clause-ok c x =
    subst (λ (ks : List TurnKey). IsIn x (keys_of c.insert.new.self.entries) ↔ ((c.args.key ≡ x) ⊎ IsIn x ks)) c.self.view_is
    (subst (λ es. IsIn x (keys_of es) ↔ ((c.args.key ≡ x) ⊎ IsIn x (keys_of c.self.inside.keys.entries))) (sym c.in_ok-insert.ensures.entries) (in_inserted c.self.inside.keys.entries c.args.key tt x))
