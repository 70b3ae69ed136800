-- A change begins.
use Rattle.std.proofs.Common.{◌≡◌, ◌⊎◌, inl, inr, refl, sym, ap, subst, ◌∙◌, Bool, true, false, cond, ◌==◌, ℕ, List, [], Option, Some}
use Rattle.defs_match.specs.Laws.{IsIn}
use Rattle.soar_wm.specs.declared.element.Element.{Element}
use Rattle.node_memory.specs.Changes.{ElementsChange}
use Rattle.node_memory.specs.Held.{listed}
use Rattle.node_table.specs.declared.node.NodeKey.{NodeKey}
use Rattle.node_table.specs.declared.node.Node.{Node}
use Rattle.node_table.specs.Nodes.{key_at}
use Rattle.node_table.specs.Serving.{LeavesOut}
use Rattle.node_table.specs.Content.{IsTable, StandsAt, Stands, AllHold}
use Rattle.node_table.specs.Hearing.{MayHear, AllHear}
use Rattle.node_table.proofs.HearLemmas.{some_heard}
use Rattle.node_agenda.specs.declared.turns.Turn.{Turn}
use Rattle.node_agenda.specs.declared.turns.TurnKey.{TurnKey}
use Rattle.node_agenda.specs.Agenda.{turn_of, IsTurn, IsStill, IsLinked, IsLoop}
use Rattle.node_agenda.proofs.StillLemmas.{barren_after}

-- before a change nothing is served
pub stands_first : (nodes : ℕ → Option Node) (stamp : ℕ) (w0 w1 : List Element) → AllHold nodes w0 → ((n : ℕ) (node : Node) → nodes n ≡ Some node → (node.stamp == stamp) ≡ false) → Stands nodes stamp w0 w1
stands_first nodes stamp w0 w1 all unserved n node here = subst (λ (b : Bool). StandsAt (key_at nodes) w0 w1 n node b) (sym (unserved n node here)) (all n node here)

module _ (nodes : ℕ → Option Node) (w elements : List Element) (stamp : ℕ) (come goes : Option Element) (ec : ElementsChange w elements (listed come) (listed goes)) (unserved : (n : ℕ) (node : Node) → nodes n ≡ Some node → (node.stamp == stamp) ≡ false) where
  -- a node that the element does not reach is still
  still_first : {A : Type 0} (key : NodeKey) (r e : Bool) → MayHear nodes key w r e → (e ≡ true → A ⊎ LeavesOut key.step come goes) → A ⊎ IsStill nodes elements stamp come goes key r e
  still_first key true true may reached = elim (reached refl) [
    | inl i ↦ inl i
    | inr out ↦ inr (record {
      out = out;
      none_came = λ m i upper up. ap (λ (b : Bool). cond b upper.come.items []) (unserved m upper up);
      none_went = λ m i upper up. ap (λ (b : Bool). cond b upper.gone.items []) (unserved m upper up);
    })
  ]
  still_first key true false may reached =
      inr (record {
        none_came = λ upper up. ap (λ (b : Bool). cond b upper.come.items []) (unserved key.parent upper up);
        none_went = λ upper up. ap (λ (b : Bool). cond b upper.gone.items []) (unserved key.parent upper up);
        no_rows = may;
      })
  still_first key false true may reached = elim (reached refl) [
    | inl i ↦ inl i
    | inr out ↦ inr (record { out = out; barren = barren_after key.step w elements come goes ec out may })
  ]
  still_first key false false may reached = absurd may

  -- the agenda begins with each node that may take the element and hears of it
  pub loop_first : (agenda : List Turn) (below : List TurnKey) (end : ℕ) → IsTable nodes end → ((t : Turn) → IsIn t agenda → IsTurn nodes 0 t)
      → ((n : ℕ) (node : Node) (key : NodeKey) → nodes n ≡ Some node → node.key ≡ Some key → node.hears.elements ≡ true → IsIn (turn_of node n) agenda ⊎ LeavesOut key.step come goes)
      → AllHear nodes w → IsLinked nodes below → IsLoop nodes agenda below elements stamp 0 end come goes
  loop_first agenda below end t turns reached all links =
      record {
        table = t;
        turns = turns;
        done = λ n node here served. (let bad : true ≡ false = sym served ∙ unserved n node here in absurd (cc));
        waits = λ n node key here keyed late. still_first key node.hears.rows node.hears.elements (all n node key here keyed) (reached n node key here keyed);
        heard = λ n node key here keyed served. (let bad : true ≡ false = sym served ∙ unserved n node here in absurd (cc));
        hears = λ n node key here keyed. some_heard nodes key w node.hears.rows node.hears.elements (all n node key here keyed);
        links = links;
      }
