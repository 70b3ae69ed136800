-- Serving a node of the table.
use Rattle.std.specs.Prelude.{◌≡◌, ◌≢◌, ◌==◌, ℕ, suc, Bool, false, List, [], Option, Some, None, if◌then◌else◌}
use Rattle.std.specs.Ordering.{nat_cmp}
use Rattle.std.specs.Cmp.Lexicographic.{slice_cmp}
use Rattle.std.specs.BTreeMap.{get}
use Rattle.defs_match.specs.Laws.{IsIn}
use Rattle.defs_match.specs.Rows.{Row}
use Rattle.soar_rule.specs.declared.cond.Pattern.{Pattern}
use Rattle.soar_wm.specs.declared.element.Element.{Element}
use Rattle.node_memory.specs.declared.memory.Memory.{Memory}
use Rattle.node_memory.specs.declared.symbols.Joined.{Joined}
use Rattle.node_memory.specs.Changes.{join, OneEach, RowsChange, ElementsChange}
use Rattle.node_memory.specs.Memories.{Found, IsIndexed}
use Rattle.node_memory.specs.Held.{listed, Holds, SameElements}
use Rattle.rete_alpha.specs.Taking.{takes}
use Rattle.join_parts.specs.Known.{joined_of, constants_of}
use Rattle.negation_parts.specs.Negations.{AllLong, kept}
use Rattle.node_table.specs.declared.node.Step.{Step}
use Rattle.node_table.specs.declared.node.Step.TheVariants.{Join, Negation}
use Rattle.node_table.specs.declared.node.NodeKey.{NodeKey}
use Rattle.node_table.specs.declared.node.Node.{Node}
use Rattle.node_table.specs.Nodes.{inner_of, uppers}

abbrev pub found : Memory → Found
found m = get (slice_cmp nat_cmp) m.rows

abbrev pub AreIndexed : Memory → Type 0
AreIndexed m = IsIndexed m.joined.items (found m) m.index

-- the variables by which a step finds the rows of its parent
abbrev pub first_of : Step → Option Joined
first_of (Join p) = Some (joined_of p)
first_of (Negation m) = None

-- the rows are indexed by them
abbrev pub CanJoin : Step → Memory → Type 0
CanJoin step m = (j : Joined) → first_of step ≡ Some j → IsIn j m.joined.items

-- what a step makes of the rows of its parent
abbrev pub stepped : Step → List Element → (ℕ → List Row) → List Row → List Row
stepped (Join p) w up rs = join p w rs
stepped (Negation m) w up rs = kept (up m) rs

-- an element that it may take
abbrev pub may_take : Step → Element → Bool
may_take (Join p) e = takes (constants_of p) e
may_take (Negation m) e = false

-- no element that comes or goes is one that a step may take
pub record LeavesOut (step : Step) (come goes : Option Element) : Type 0 where
  pub no_come : (e : Element) → IsIn e (listed come) → may_take step e ≡ false
  pub no_go : (e : Element) → IsIn e (listed goes) → may_take step e ≡ false

-- how many elements a row has after it
abbrev pub tags_after : Step → ℕ → ℕ
tags_after (Join p) n = suc n
tags_after (Negation m) n = n

-- what a node tells of a change: nothing, where it was not served
abbrev pub come_at : ℕ → Node → List Row
come_at stamp node = if node.stamp == stamp then node.come.items else []

abbrev pub gone_at : ℕ → Node → List (List ℕ)
gone_at stamp node = if node.stamp == stamp then node.gone.items else []

-- The two lists tell the change of a join, whatever rows its parent had and has.
abbrev pub TellsJoin : Pattern → ℕ → Node → Found → List Element → Option Element → Option Element → List Row → List (List ℕ) → Type 0
TellsJoin p stamp parent old index come goes come_list gone_list =
    (rows0 rows1 : List Row) (w0 w1 : List Element) → RowsChange rows0 rows1 (come_at stamp parent) (gone_at stamp parent) → ElementsChange w0 w1 (listed come) (listed goes)
    → Holds (found parent.memory) rows1 → SameElements index w1 → Holds old (join p w0 rows0) → RowsChange (join p w0 rows0) (join p w1 rows1) come_list gone_list

-- The two lists tell the change of a negation, whatever rows its parent and its inside had and have.
abbrev pub TellsNegation : ℕ → Node → Node → List Row → List (List ℕ) → Type 0
TellsNegation stamp parent inner come_list gone_list =
    (rows0 rows1 inner0 inner1 : List Row) → RowsChange rows0 rows1 (come_at stamp parent) (gone_at stamp parent) → RowsChange inner0 inner1 (come_at stamp inner) (gone_at stamp inner)
    → Holds (found parent.memory) rows1 → Holds (found inner.memory) inner1 → AllLong parent.tags rows0 → AllLong parent.tags rows1
    → RowsChange (kept inner0 rows0) (kept inner1 rows1) come_list gone_list

-- a node that tells the change of its rows, and holds those after it
pub record IsRead (nodes : ℕ → Option Node) (stamp : ℕ) (up0 up1 : ℕ → List Row) (m : ℕ) : Type 0 where
  pub node : Node
  pub here : nodes m ≡ Some node
  pub change : RowsChange (up0 m) (up1 m) (come_at stamp node) (gone_at stamp node)
  pub holds : Holds (found node.memory) (up1 m)
  pub long0 : AllLong node.tags (up0 m)
  pub long1 : AllLong node.tags (up1 m)

-- The two lists tell the change of a node, whatever rows those that it reads had and have.
abbrev pub Tells : (ℕ → Option Node) → NodeKey → ℕ → Found → List Element → Option Element → Option Element → List Row → List (List ℕ) → Type 0
Tells nodes key stamp old index come goes come_list gone_list =
    (up0 up1 : ℕ → List Row) (w0 w1 : List Element) → ((m : ℕ) → IsIn m (uppers key) → IsRead nodes stamp up0 up1 m) → ElementsChange w0 w1 (listed come) (listed goes)
    → SameElements index w1 → Holds old (stepped key.step w0 up0 (up0 key.parent))
    → RowsChange (stepped key.step w0 up0 (up0 key.parent)) (stepped key.step w1 up1 (up1 key.parent)) come_list gone_list

-- a node with a key, and the nodes that it reads
pub record IsKeyed (nodes : ℕ → Option Node) (n : ℕ) : Type 0 where
  pub node : Node
  pub key : NodeKey
  pub parent : Node
  pub here : nodes n ≡ Some node
  pub keyed : node.key ≡ Some key
  pub above : nodes key.parent ≡ Some parent
  pub joined : CanJoin key.step parent.memory
  pub indexed : AreIndexed parent.memory
  pub own : AreIndexed node.memory
  pub inner : (m : ℕ) → IsIn m (inner_of key.step) → (inside : Node) × (nodes m ≡ Some inside)

abbrev pub HasChange : (ℕ → Option Node) → ℕ → ℕ → List Element → Option Element → Option Element → List Row → List (List ℕ) → Type 0
HasChange nodes n stamp index come goes come_list gone_list =
    (node : Node) (key : NodeKey) → nodes n ≡ Some node → node.key ≡ Some key → Tells nodes key stamp (found node.memory) index come goes come_list gone_list

-- The node after a change that it has served.
pub record IsServed (old new : Node) (at : ℕ) (come_list : List Row) (gone_list : List (List ℕ)) : Type 0 where
  pub key : new.key ≡ old.key
  pub tags : new.tags ≡ old.tags
  pub made : new.made ≡ old.made
  pub alpha : new.alpha ≡ old.alpha
  pub requests : new.requests ≡ old.requests
  pub stamp : new.stamp ≡ at
  pub come : new.come.items ≡ come_list
  pub gone : new.gone.items ≡ gone_list
  pub joined : new.memory.joined.items ≡ old.memory.joined.items
  pub indexed : AreIndexed new.memory
  pub holds : (rows0 rows1 : List Row) → Holds (found old.memory) rows0 → RowsChange rows0 rows1 come_list gone_list → OneEach rows1 → Holds (found new.memory) rows1

abbrev pub TakesAt : Option Node → Option Node → ℕ → List Row → List (List ℕ) → Type 0
TakesAt old new stamp come_list gone_list = (was : Node) → old ≡ Some was → (now : Node) × (new ≡ Some now) × IsServed was now stamp come_list gone_list

-- The node of the number has served a change, and no other is changed.
pub record ServedAt (old new : ℕ → Option Node) (n stamp : ℕ) (index : List Element) (come goes : Option Element) : Type 0 where
  pub come_list : List Row
  pub gone_list : List (List ℕ)
  pub told : HasChange old n stamp index come goes come_list gone_list
  pub served : TakesAt (old n) (new n) stamp come_list gone_list
  pub others : (k : ℕ) → k ≢ n → new k ≡ old k
