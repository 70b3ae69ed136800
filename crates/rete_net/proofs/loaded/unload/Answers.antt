use Rattle.std.proofs.Common.{◌≢◌, ◌↔◌, sym, subst}
use Rattle.defs_match.specs.Laws.{IsIn}
use Rattle.node_agenda.specs.declared.turns.TurnKey.{TurnKey}
use Rattle.std.specs.Map.{values_of}
use Rattle.rete_beta.specs.Joins.{node_at}
use Rattle.rete_net.specs.Chains.{AreNumbered, Entries}
use Rattle.rete_net.specs.Ends.{AreEnds}
use Rattle.rete_net.specs.Loads.{IsWhole}
use Rattle.rete_net.proofs.EndLemmas.{ends_removed}
use Rattle.rete_net.proofs.LoadLemmas.{can_remove, numbered_removed, rules_removed, whole_removed}
use Rattle.rete_net.proofs.loaded.unload.Goals as goal

pub drop_all-requires-clause-can : goal.drop_all-requires-clause-can
drop_all-requires-clause-can c =
    can_remove c.args.loaded.now.chains.entries c.args.number c.in-Some.chain (node_at c.args.loaded.now.joins) c.in-Some.ensures.value c.requires.loaded.numbered c.requires.loaded.whole

pub returns-in-Some-clause-loaded : goal.returns-in-Some-clause-loaded
returns-in-Some-clause-loaded c =
    let nodes = node_at c.args.loaded.now.joins in
    record {
      works = c.drop_all.ensures.works;
      numbered = numbered_removed _ c.args.number c.in-Some.chain nodes c.in-Some.ensures.value c.requires.loaded.numbered c.requires.loaded.whole _ c.in-Some.ensures.entries;
      whole =
          whole_removed _ c.args.number c.in-Some.chain nodes c.in-Some.ensures.value c.requires.loaded.numbered c.requires.loaded.whole _ c.in-Some.ensures.entries (node_at c.drop_all.new.joins)
          c.drop_all.ensures.drops;
      ends =
          ends_removed _ _ c.args.number c.in-Some.chain nodes c.in-Some.ensures.value c.requires.loaded.whole c.in-Some.ensures.entries c.args.loaded.now.ends c.remove-in-Some.new.self c.requires.loaded.ends
          (λ x. subst (λ (k : TurnKey). IsIn x c.remove-in-Some.new.self ↔ (IsIn x c.args.loaded.now.ends × (k ≢ x))) c.end_of.ensures (c.remove-in-Some.ensures x));
    }

pub returns-in-Some-clause-rules : goal.returns-in-Some-clause-rules
returns-in-Some-clause-rules c = rules_removed _ _ c.args.number (node_at c.args.loaded.now.joins) c.requires.loaded.numbered c.requires.loaded.whole c.in-Some.ensures.entries

pub returns-in_default-clause-rules : goal.returns-in_default-clause-rules
returns-in_default-clause-rules c = rules_removed _ _ c.args.number (node_at c.args.loaded.now.joins) c.requires.loaded.numbered c.requires.loaded.whole c.in_default.ensures.entries

pub returns-in_default-clause-loaded : goal.returns-in_default-clause-loaded
returns-in_default-clause-loaded c =
    let same = sym c.in_default.ensures.unchanged in
    record {
      works = c.requires.loaded.works;
      numbered = subst AreNumbered same c.requires.loaded.numbered;
      whole = subst (λ (es : Entries). IsWhole (values_of es) (node_at c.args.loaded.now.joins)) same c.requires.loaded.whole;
      ends = subst (λ (es : Entries). AreEnds (values_of es) c.args.loaded.now.ends) same c.requires.loaded.ends;
    }
