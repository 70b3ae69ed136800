-- A change ends, and begins.
use Rattle.std.proofs.Common.{◌≡◌, inl, inr, refl, sym, subst, ◌∙◌, Bool, true, false, ◌==◌, ℕ, ◌<◌, length, List, [], ◌∷◌, Option, arith}
use Rattle.soar_wm.specs.declared.element.Element.{Element}
use Rattle.rete_alpha.specs.Alphas.{AlphaOf}
use Rattle.node_memory.specs.Changes.{ElementsChange}
use Rattle.node_memory.specs.Held.{listed, SameElements}
use Rattle.node_table.specs.declared.node.Node.{Node}
use Rattle.node_table.specs.Nodes.{key_at}
use Rattle.node_table.specs.Content.{Stands, AllHold}
use Rattle.node_table.specs.Hearing.{MayHear, AllHear, IsAskedFor, AllAsk}
use Rattle.node_table.proofs.StandLemmas.{settled_holds}
use Rattle.node_agenda.specs.declared.turns.Turn.{Turn}
use Rattle.node_agenda.specs.declared.turns.TurnKey.{TurnKey}
use Rattle.node_agenda.specs.Agenda.{IsStill, IsLoop, Settles, AreServed, AllTell}
use Rattle.node_agenda.proofs.AgendaLemmas.{settled}

-- When the agenda is empty, every node has told what the change made of its rows, and holds them.
module _ (nodes : ℕ → Option Node) (below : List TurnKey) (elements : List Element) (stamp floor end : ℕ) (come goes : Option Element) (l : IsLoop nodes [] below elements stamp floor end come goes) (w0 w1 : List Element) (stands : Stands nodes stamp w0 w1) (ec : ElementsChange w0 w1 (listed come) (listed goes)) (alike : SameElements elements w1) where
  pub all_tell : AllTell nodes stamp w0 w1
  all_tell n node here = settled nodes [] below elements stamp floor end come goes l w0 w1 stands ec alike end (λ t i. absurd i) node.made n node here (omega arith) (l.table.early n node here)

  pub all_hold : AllHold nodes w1
  all_hold n node here = settled_holds (key_at nodes) stamp w0 w1 n node (stands n node here) (all_tell n node here)

pub empty_of : {A : Type 0} (xs : List A) → (0 < length xs → ⊥) → xs ≡ []
empty_of [] h = refl
empty_of (x ∷ xs) h = absurd (h (omega arith))

pub settles_first : (nodes : ℕ → Option Node) (stamp : ℕ) → Settles nodes nodes stamp
settles_first nodes stamp = record { stays = λ n node there. (node, there, refl, refl, refl, refl, inl refl); still = λ n w at. (w, at) }

-- before a change none has its stamp
pub none_served : (nodes : ℕ → Option Node) (agenda : List Turn) (below : List TurnKey) (elements : List Element) (stamp end : ℕ) (come goes : Option Element) → IsLoop nodes agenda below elements stamp 0 end come goes → AreServed nodes stamp []
none_served nodes agenda below elements stamp end come goes l n node here stamped = (let never : node.made < 0 = l.done n node here stamped in absurd (omega (arith, never)))

-- each node asks for what it did
pub ask_on : (first nodes : ℕ → Option Node) (stamp : ℕ) (alpha : AlphaOf) → Settles first nodes stamp → AllAsk first alpha → AllAsk nodes alpha
ask_on first nodes stamp alpha s all n node key here keyed =
    let f = s.stays n node here in
    subst (λ (a : ℕ). IsAskedFor alpha key.step a) (sym f.4) (all n f.0 key f.1 (sym f.2 ∙ keyed))

-- When the agenda is empty, every node hears of all that may change its rows.
pub all_hear : (nodes : ℕ → Option Node) (below : List TurnKey) (elements : List Element) (stamp floor end : ℕ) (come goes : Option Element) → IsLoop nodes [] below elements stamp floor end come goes → AllHear nodes elements
all_hear nodes below elements stamp floor end come goes l n node key here keyed = by (node.stamp == stamp) refl
  where
    from_still : (r e : Bool) → IsStill nodes elements stamp come goes key r e → MayHear nodes key elements r e
    from_still true true still = tt
    from_still true false still = still.no_rows
    from_still false true still = still.barren
    from_still false false still = absurd still

    by : (b : Bool) → (node.stamp == stamp) ≡ b → MayHear nodes key elements node.hears.rows node.hears.elements
    by true is = l.heard n node key here keyed is
    by false is = elim (l.waits n node key here keyed is) [ inl i ↦ absurd i | inr still ↦ from_still node.hears.rows node.hears.elements still ]
