use Rattle.std.proofs.Common.{◌≡◌, ◌↔◌, ◌⊎◌, ap, subst}
use Rattle.defs_match.specs.Laws.{IsIn}
use Rattle.defs_match.specs.declared.rule.Rule.{Rule}
use Rattle.node_agenda.specs.declared.turns.TurnKey.{TurnKey}
use Rattle.rete_beta.specs.Joins.{node_at}
use Rattle.rete_net.proofs.EndLemmas.{ends_inserted}
use Rattle.rete_net.proofs.LoadLemmas.{numbered_inserted, rules_inserted, whole_inserted}
use Rattle.rete_net.proofs.loaded.load.Goals as goal

pub returns-clause-loaded : goal.returns-clause-loaded
returns-clause-loaded c =
    let chain = c.in_ok-chain.chain in
    let number : chain.rule.number ≡ c.args.rule.now.number = ap (λ (r : Rule). r.number) c.in_ok-chain.ensures.rule in
    record {
      works = c.in_ok-chain.ensures.works;
      numbered = numbered_inserted _ _ chain c.args.rule.now.number number c.in_ok-insert.ensures.entries c.requires.loaded.numbered c.requires.new;
      whole =
          whole_inserted _ _ chain c.args.rule.now.number number c.in_ok-insert.ensures.entries c.requires.loaded.numbered c.requires.new (node_at c.args.loaded.now.joins) (node_at c.chain_of.new.joins)
          c.requires.loaded.whole c.in_ok-chain.ensures.grows c.in_ok-chain.ensures.served;
      ends =
          ends_inserted _ _ chain c.args.rule.now.number number c.in_ok-insert.ensures.entries c.requires.loaded.numbered c.requires.new c.args.loaded.now.ends c.add.new.self c.requires.loaded.ends
          (λ x. subst (λ (k : TurnKey). IsIn x c.add.new.self ↔ ((k ≡ x) ⊎ IsIn x c.args.loaded.now.ends)) c.end_of.ensures (c.in_ok-add.ensures.ok x));
    }

pub returns-clause-rules : goal.returns-clause-rules
returns-clause-rules c =
    rules_inserted _ _ c.in_ok-chain.chain c.args.rule.now.number (ap (λ (r : Rule). r.number) c.in_ok-chain.ensures.rule) c.in_ok-insert.ensures.entries c.requires.loaded.numbered c.requires.new
    c.args.rule.now c.in_ok-chain.ensures.rule
