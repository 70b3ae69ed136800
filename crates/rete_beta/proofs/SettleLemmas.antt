-- A network after a change is served.
use Rattle.std.proofs.Common.{◌≡◌, ◌⊎◌, inl, inr, refl, sym, ap, ap₂, ◌∙◌, Bool, true, false, ◌==◌, eqb-true, ℕ, ◌+◌, ◌<◌, List, Option, Some, None, slice_index_or, arith}
use Rattle.std.proofs.lemmas.Option.{same_Some}
use Rattle.std.specs.Prelude.{option_and_then}
use Rattle.std.specs.Option.{option_map}
use Rattle.soar_wm.specs.declared.element.Element.{Element}
use Rattle.defs_match.specs.Laws.{IsIn}
use Rattle.rete_alpha.specs.Alphas.{AlphaOf}
use Rattle.rete_alpha.specs.Taking.{takes}
use Rattle.rete_alpha.specs.declared.pattern.ConstPattern.{ConstPattern}
use Rattle.join_parts.specs.Known.{constants_of}
use Rattle.node_table.specs.declared.node.Step.{Step}
use Rattle.node_table.specs.declared.node.Step.TheVariants.{Join, Negation}
use Rattle.node_table.specs.declared.node.NodeKey.{NodeKey}
use Rattle.node_table.specs.declared.node.Node.{Node}
use Rattle.node_table.specs.Nodes.{key_at, key_of}
use Rattle.node_table.specs.Serving.{LeavesOut}
use Rattle.node_table.specs.Asked.{Asker, asker, asker_by, asker_of, IsAsked}
use Rattle.node_table.specs.Making.{Seen, seen, seen_at}
use Rattle.node_agenda.specs.declared.turns.Turn.{Turn}
use Rattle.node_agenda.specs.declared.turns.TurnKey.{TurnKey}
use Rattle.node_agenda.specs.Turns.{under}
use Rattle.node_agenda.specs.Agenda.{turn_of, IsTurn, Settles}
use Rattle.node_agenda.specs.Links.{takers_of, IsSpread}
use Rattle.node_agenda.proofs.SpreadLemmas.{taker_there, taker_is}
use Rattle.rete_beta.specs.Networks.{IsFirst, IsOneOf, SameAsked, asked_of}

-- ---- what of a node a change leaves

module _ {A : Type 0} (g : Option Node → A) (keeps : (a b : Node) → a.key ≡ b.key → a.made ≡ b.made → a.alpha ≡ b.alpha → a.requests ≡ b.requests → g (Some a) ≡ g (Some b)) where
  pub settled_same : (old new : ℕ → Option Node) (stamp : ℕ) → Settles old new stamp → (k : ℕ) → g (new k) ≡ g (old k)
  settled_same old new stamp s k = by (new k) refl (old k) refl
    where
      by : (o : Option Node) → new k ≡ o → (p : Option Node) → old k ≡ p → g o ≡ g p
      by None is None at = refl
      by None is (Some was) at = (let x = s.still k was at in let bad : None ≡ Some x.0 = sym is ∙ x.1 in absurd (cc))
      by (Some node) is p at =
          let x = s.stays k node is in
          keeps node x.0 x.2 x.3 x.4 x.5 ∙ ap g (sym x.1 ∙ at)

pub keys_settled : (old new : ℕ → Option Node) (stamp : ℕ) → Settles old new stamp → (k : ℕ) → key_at new k ≡ key_at old k
keys_settled old new stamp s k = settled_same (λ o. option_and_then key_of o) (λ a b key made alpha requests. key) old new stamp s k

pub askers_settled : (old new : ℕ → Option Node) (stamp : ℕ) → Settles old new stamp → (k : ℕ) → option_and_then asker (new k) ≡ option_and_then asker (old k)
askers_settled old new stamp s k = settled_same (λ o. option_and_then asker o) (λ a b key made alpha requests. ap₂ asker_by alpha key) old new stamp s k

pub asked_settled : (old new : ℕ → Option Node) (stamp : ℕ) → Settles old new stamp → SameAsked old new
asked_settled old new stamp s k = settled_same (λ o. option_map asked_of o) (λ a b key made alpha requests. (λ i. Some (record { key = key i; requests = requests i }))) old new stamp s k

pub stamps_settled : (old new : ℕ → Option Node) (stamp next : ℕ) → Settles old new stamp → stamp + 1 ≡ next → ((k : ℕ) (x : Seen) → seen_at old k ≡ Some x → x.stamp < stamp) → (k : ℕ) (x : Seen) → seen_at new k ≡ Some x → x.stamp < next
stamps_settled old new stamp next s is before k x there = by (new k) refl there
  where
    by : (o : Option Node) → new k ≡ o → option_map seen o ≡ Some x → x.stamp < next
    by None at h = absurd (cc)
    by (Some node) at h =
        let own : node.stamp ≡ x.stamp = ap (λ (y : Seen). y.stamp) (same_Some (seen node) x h) in
        let f = s.stays k node at in
        elim (f.6) [
          | inl e ↦ (let less : f.0.stamp < stamp = before k (seen f.0) (ap (option_map seen) f.1) in let same : node.stamp ≡ f.0.stamp = e in omega (arith, own, less, same, is))
          | inr e ↦ (let same : node.stamp ≡ stamp = e in omega (arith, own, same, is))
        ]

pub root_settled : (old new : ℕ → Option Node) (stamp : ℕ) → Settles old new stamp → (root : Seen) × (seen_at old 0 ≡ Some root) × (root.key ≡ None) → (root : Seen) × (seen_at new 0 ≡ Some root) × (root.key ≡ None)
root_settled old new stamp s root = by (old 0) refl root.1
  where
    by : (o : Option Node) → old 0 ≡ o → option_map seen o ≡ Some root.0 → (x : Seen) × (seen_at new 0 ≡ Some x) × (x.key ≡ None)
    by None at h = absurd (cc)
    by (Some was) at h =
        let own : was.key ≡ None = ap (λ (x : Seen). x.key) (same_Some (seen was) root.0 h) ∙ root.2 in
        let now = s.still 0 was at in
        let f = s.stays 0 now.0 now.1 in
        let same : f.0 ≡ was = same_Some f.0 was (sym f.1 ∙ at) in
        (seen now.0, ap (option_map seen) now.1, f.2 ∙ ap (λ (x : Node). x.key) same ∙ own)

-- ---- the first agenda

keyed_by : (number : ℕ) (o : Option NodeKey) (q : Asker) → asker_by number o ≡ Some q → (key : NodeKey) × (o ≡ Some key)
keyed_by number None q h = absurd (cc)
keyed_by number (Some key) q h = (key, refl)

-- what is on it is a node with a key
pub first_turns : (nodes : ℕ → Option Node) (takers : List TurnKey) (alpha : AlphaOf) (e : Element) (agenda : List Turn) → IsSpread takers_of (seen_at nodes) takers → IsFirst alpha takers e agenda → (t : Turn) → IsIn t agenda → IsTurn nodes 0 t
first_turns nodes takers alpha e agenda spread first t i =
    let at = (first t).0 i in
    let x = taker_is nodes takers spread (under at.0 t) at.2 in
    let k = keyed_by x.0.alpha x.0.key x.1 x.3 in
    (x.0, k.0, x.2, k.1, x.5, omega arith)

-- each node that is not on it and hears of elements may take neither the one that comes nor the one that goes
pub first_reached : (slots : List (Option Node)) (takers : List TurnKey) (alpha : AlphaOf) (e : Element) (come goes : Option Element) (agenda : List Turn) → IsAsked slots alpha
    → IsSpread takers_of (seen_at (λ n. slice_index_or slots n None)) takers → IsFirst alpha takers e agenda → IsOneOf e come goes
    → (n : ℕ) (node : Node) (key : NodeKey) → slice_index_or slots n None ≡ Some node → node.key ≡ Some key → node.hears.elements ≡ true → IsIn (turn_of node n) agenda ⊎ LeavesOut key.step come goes
first_reached slots takers alpha e come goes agenda asked spread first one n node key here keyed heard = by key.step refl
  where
    by : (step : Step) → key.step ≡ step → IsIn (turn_of node n) agenda ⊎ LeavesOut step come goes
    by (Negation m) is = inr (record { no_come = λ x i. refl; no_go = λ x i. refl })
    by (Join p) is = taken (takes (constants_of p) e) refl
      where
        own : asker node ≡ Some (node.alpha, p)
        own = ap (asker_by node.alpha) keyed ∙ ap (asker_of node.alpha) is

        taken : (b : Bool) → takes (constants_of p) e ≡ b → IsIn (turn_of node n) agenda ⊎ LeavesOut (Join p) come goes
        taken true h =
            let r = asked.patterned n (node.alpha, p) (ap (option_and_then asker) here ∙ own) in
            inl ((first (turn_of node n)).1 (
              node.alpha,
              (r.0, r.1, ap (λ (q : ConstPattern). takes q e) r.2 ∙ h),
              taker_there (λ k. slice_index_or slots k None) takers spread n node (node.alpha, p) here own heard,
            ))
        taken false h = inr (record {
          no_come = λ x i. ap (takes (constants_of p)) (sym (one.comes x i)) ∙ h;
          no_go = λ x i. ap (takes (constants_of p)) (sym (one.leaves x i)) ∙ h;
        })

pub unserved : (nodes : ℕ → Option Node) (stamp : ℕ) → ((k : ℕ) (x : Seen) → seen_at nodes k ≡ Some x → x.stamp < stamp) → (n : ℕ) (node : Node) → nodes n ≡ Some node → (node.stamp == stamp) ≡ false
unserved nodes stamp before n node here = by (node.stamp == stamp) refl
  where
    by : (b : Bool) → (node.stamp == stamp) ≡ b → (node.stamp == stamp) ≡ false
    by true is =
        let less : node.stamp < stamp = before n (seen node) (ap (option_map seen) here) in
        let same : node.stamp ≡ stamp = eqb-true node.stamp stamp is in
        absurd (omega (arith, less, same))
    by false is = is
