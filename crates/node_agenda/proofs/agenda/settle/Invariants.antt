use Rattle.std.proofs.Common.{◌-◌, ◌≤◌, List}
use Rattle.slab.specs.Slab.{get}
use Rattle.defs_match.specs.Laws.{ElementsDiffer}
use Rattle.soar_wm.specs.declared.element.Element.{Element}
use Rattle.node_memory.specs.Changes.{ElementsChange}
use Rattle.node_memory.specs.Held.{listed, SameElements}
use Rattle.node_table.specs.Content.{Stands}
use Rattle.node_agenda.specs.Agenda.{IsLoop, Settles, AreServed}
use Rattle.node_agenda.specs.Links.{AreLinked}
use Rattle.node_agenda.proofs.agenda.settle.Given as goal

abbrev pub invariant-turns : goal.invariant-turns
invariant-turns l = record {
  loops : IsLoop (get l.nodes) l.agenda.keys l.below l.alpha.elements l.stamp l.floor l.end l.come l.goes;
  linked : AreLinked (get l.nodes) l.below l.takers;
  settles : Settles (get l.initial.nodes) (get l.nodes) l.stamp;
  served : AreServed (get l.nodes) l.stamp l.served;
  within : l.floor ≤ l.end;
  stands : (w0 w1 : List Element) → Stands (get l.initial.nodes) l.stamp w0 w1 → ElementsChange w0 w1 (listed l.come) (listed l.goes) → SameElements l.index w1 → ElementsDiffer w1 → Stands (get l.nodes) l.stamp w0 w1;
}

abbrev pub decreases-turns : goal.decreases-turns
decreases-turns l = l.end - l.floor
