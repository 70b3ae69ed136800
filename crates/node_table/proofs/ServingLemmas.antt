-- What tells the change of a step tells that of the node of its key.
use Rattle.std.proofs.Common.{◌≡◌, inl, inr, refl, sym, ap, subst, ◌∙◌, ℕ, List, Option, Some}
use Rattle.std.proofs.lemmas.Option.{same_Some}
use Rattle.defs_match.specs.Rows.{Row}
use Rattle.soar_rule.specs.declared.cond.Pattern.{Pattern}
use Rattle.soar_wm.specs.declared.element.Element.{Element}
use Rattle.node_memory.specs.Changes.{RowsChange}
use Rattle.node_memory.specs.Memories.{Found}
use Rattle.node_memory.specs.Held.{Holds}
use Rattle.negation_parts.specs.Negations.{AllLong}
use Rattle.node_table.specs.declared.node.Step.{Step}
use Rattle.node_table.specs.declared.node.Step.TheVariants.{Join, Negation}
use Rattle.node_table.specs.declared.node.NodeKey.{NodeKey}
use Rattle.node_table.specs.declared.node.Node.{Node}
use Rattle.node_table.specs.Serving.{found, come_at, gone_at, IsKeyed, Tells, TellsJoin, TellsNegation}

-- what is known of a node is known of its key and of its parent
pub own_key : (nodes : ℕ → Option Node) (n : ℕ) (j : IsKeyed nodes n) (node : Node) (key : NodeKey) → nodes n ≡ Some node → node.key ≡ Some key → j.key ≡ key
own_key nodes n j node key here keyed =
    let one = same_Some j.node node (sym j.here ∙ here) in
    same_Some j.key key (sym j.keyed ∙ ap (λ (m : Node). m.key) one ∙ keyed)

pub own_parent : (nodes : ℕ → Option Node) (n : ℕ) (j : IsKeyed nodes n) (node : Node) (key : NodeKey) (parent : Node) → nodes n ≡ Some node → node.key ≡ Some key → nodes key.parent ≡ Some parent → j.parent ≡ parent
own_parent nodes n j node key parent here keyed above =
    same_Some j.parent parent (sym j.above ∙ ap (λ (k : NodeKey). nodes k.parent) (own_key nodes n j node key here keyed) ∙ above)

module _ (nodes : ℕ → Option Node) (parent : ℕ) (p0 : Node) (above : nodes parent ≡ Some p0) (stamp : ℕ) (old : Found) (index : List Element) (come goes : Option Element) (cl : List Row) (gl : List (List ℕ)) where
  pub tells_join : (p : Pattern) → TellsJoin p stamp p0 old index come goes cl gl → Tells nodes (record { parent = parent; step = Join p }) stamp old index come goes cl gl
  tells_join p told up0 up1 w0 w1 reads ec same held =
      let r = reads parent (inl refl) in
      let is : r.node ≡ p0 = same_Some r.node p0 (sym r.here ∙ above) in
      told (up0 parent) (up1 parent) w0 w1 (subst (λ (x : Node). RowsChange (up0 parent) (up1 parent) (come_at stamp x) (gone_at stamp x)) is r.change) ec
      (subst (λ (x : Node). Holds (found x.memory) (up1 parent)) is r.holds) same held

  pub tells_negation : (m : ℕ) (inner : Node) → nodes m ≡ Some inner → TellsNegation stamp p0 inner cl gl → Tells nodes (record { parent = parent; step = Negation m }) stamp old index come goes cl gl
  tells_negation m inner within told up0 up1 w0 w1 reads ec same held =
      let r = reads parent (inl refl) in
      let i = reads m (inr (inl refl)) in
      let is : r.node ≡ p0 = same_Some r.node p0 (sym r.here ∙ above) in
      let in_ : i.node ≡ inner = same_Some i.node inner (sym i.here ∙ within) in
      told (up0 parent) (up1 parent) (up0 m) (up1 m) (subst (λ (x : Node). RowsChange (up0 parent) (up1 parent) (come_at stamp x) (gone_at stamp x)) is r.change)
      (subst (λ (x : Node). RowsChange (up0 m) (up1 m) (come_at stamp x) (gone_at stamp x)) in_ i.change)
      (subst (λ (x : Node). Holds (found x.memory) (up1 parent)) is r.holds) (subst (λ (x : Node). Holds (found x.memory) (up1 m)) in_ i.holds)
      (subst (λ (x : Node). AllLong x.tags (up0 parent)) is r.long0) (subst (λ (x : Node). AllLong x.tags (up1 parent)) is r.long1)

-- a key by its step
abbrev pub key_by : NodeKey → Step → NodeKey
key_by key step = record { parent = key.parent; step = step }

pub key_is : (key : NodeKey) (step : Step) → key.step ≡ step → key_by key step ≡ key
key_is key step e = λ i. record { parent = key.parent; step = sym e i }

-- what tells the change of a key tells that of the node of its number
pub tells_here : (nodes : ℕ → Option Node) (n stamp : ℕ) (index : List Element) (come goes : Option Element) (cl : List Row) (gl : List (List ℕ)) (node : Node) (key : NodeKey) → nodes n ≡ Some node → node.key ≡ Some key
    → Tells nodes key stamp (found node.memory) index come goes cl gl
    → (m : Node) (q : NodeKey) → nodes n ≡ Some m → m.key ≡ Some q → Tells nodes q stamp (found m.memory) index come goes cl gl
tells_here nodes n stamp index come goes cl gl node key here keyed told m q there own =
    let one : node ≡ m = same_Some node m (sym here ∙ there) in
    let two : key ≡ q = same_Some key q (sym keyed ∙ ap (λ (x : Node). x.key) one ∙ own) in
    subst (λ (x : Node). Tells nodes q stamp (found x.memory) index come goes cl gl) one (subst (λ (k : NodeKey). Tells nodes k stamp (found node.memory) index come goes cl gl) two told)
