-- Who reads what, as nodes come and go.
use Rattle.std.proofs.Common.{◌≡◌, ◌≢◌, ◌↔◌, ◌⊎◌, inl, inr, refl, sym, ap, subst, Bool, true, false, ℕ, List, [], Option, Some, None}
use Rattle.std.proofs.lemmas.Bool.{cases_eq}
use Rattle.std.specs.Option.{option_map}
use Rattle.defs_match.specs.Laws.{IsIn}
use Rattle.node_memory.proofs.ChangeLemmas.{in_map, in_map_back}
use Rattle.node_table.specs.declared.node.NodeKey.{NodeKey}
use Rattle.node_table.specs.declared.node.Node.{Node}
use Rattle.node_table.specs.Nodes.{uppers}
use Rattle.node_table.specs.Asked.{Asker, asker, asker_by}
use Rattle.node_table.specs.Making.{Seen, seen, seen_at}
use Rattle.node_agenda.specs.declared.turns.Turn.{Turn}
use Rattle.node_agenda.specs.declared.turns.TurnKey.{TurnKey}
use Rattle.node_agenda.specs.Turns.{under}
use Rattle.node_agenda.specs.Agenda.{turn_of, IsReader, IsLinked}
use Rattle.node_agenda.specs.Links.{seen_turn, links_by, links_of, takers_by, takers_of, where_heard, IsSpread}

-- the keys of a node name it
abbrev pub NamesOwn : (Option Seen → ℕ → List TurnKey) → Type 0
NamesOwn f = (o : Option Seen) (n : ℕ) (c : TurnKey) → IsIn c (f o n) → c.turn.node ≡ n

module _ (f : Option Seen → ℕ → List TurnKey) where
  -- what the nodes tell stays
  pub spread_same : (old new : ℕ → Option Seen) (keys : List TurnKey) → ((k : ℕ) → f (new k) k ≡ f (old k) k) → IsSpread f old keys → IsSpread f new keys
  spread_same old new keys same s c = (
    (λ i. subst (λ (l : List TurnKey). IsIn c l) (sym (same c.turn.node)) ((s c).0 i)),
    (λ i. (s c).1 (subst (λ (l : List TurnKey). IsIn c l) (same c.turn.node) i)),
  )

  -- a node comes
  pub spread_more : NamesOwn f → (old new : ℕ → Option Seen) (n : ℕ) (keys0 keys1 : List TurnKey) → IsSpread f old keys0 → f (old n) n ≡ [] → ((k : ℕ) → k ≢ n → f (new k) k ≡ f (old k) k)
      → ((c : TurnKey) → IsIn c keys1 ↔ (IsIn c (f (new n) n) ⊎ IsIn c keys0)) → IsSpread f new keys1
  spread_more own old new n keys0 keys1 s none others all c = (
    (λ i. elim ((all c).0 i) [
      | inl k ↦ subst (λ (m : ℕ). IsIn c (f (new m) m)) (sym (own (new n) n c k)) k
      | inr k ↦ elim (cases_eq c.turn.node n) [
        | inl e ↦ absurd (subst (λ (l : List TurnKey). IsIn c l) none (subst (λ (m : ℕ). IsIn c (f (old m) m)) e ((s c).0 k)))
        | inr ne ↦ subst (λ (l : List TurnKey). IsIn c l) (sym (others c.turn.node ne)) ((s c).0 k)
      ]
    ]),
    (λ i. elim (cases_eq c.turn.node n) [
      | inl e ↦ (all c).1 (inl (subst (λ (m : ℕ). IsIn c (f (new m) m)) e i))
      | inr ne ↦ (all c).1 (inr ((s c).1 (subst (λ (l : List TurnKey). IsIn c l) (others c.turn.node ne) i)))
    ]),
  )

  -- a node goes
  pub spread_less : NamesOwn f → (old new : ℕ → Option Seen) (n : ℕ) (keys0 keys1 : List TurnKey) → IsSpread f old keys0 → f (new n) n ≡ [] → ((k : ℕ) → k ≢ n → f (new k) k ≡ f (old k) k)
      → ((c : TurnKey) → IsIn c keys1 ↔ (IsIn c keys0 × (IsIn c (f (old n) n) → ⊥))) → IsSpread f new keys1
  spread_less own old new n keys0 keys1 s none others all c = (
    (λ i.
        let k = (all c).0 i in
        elim (cases_eq c.turn.node n) [
          | inl e ↦ absurd (k.1 (subst (λ (m : ℕ). IsIn c (f (old m) m)) e ((s c).0 k.0)))
          | inr ne ↦ subst (λ (l : List TurnKey). IsIn c l) (sym (others c.turn.node ne)) ((s c).0 k.0)
        ]),
    (λ i. elim (cases_eq c.turn.node n) [
      | inl e ↦ absurd (subst (λ (l : List TurnKey). IsIn c l) none (subst (λ (m : ℕ). IsIn c (f (new m) m)) e i))
      | inr ne ↦ (all c).1 ((s c).1 (subst (λ (l : List TurnKey). IsIn c l) (others c.turn.node ne) i), λ h. ne (own (old n) n c h))
    ]),
  )

links_name : (key : Option NodeKey) (t : Turn) (c : TurnKey) → IsIn c (links_by key t) → c.turn ≡ t
links_name None t c i = absurd i
links_name (Some key) t c i = (let from = in_map (λ (m : ℕ). under m t) c (uppers key) i in ap (λ (x : TurnKey). x.turn) (sym from.2))

pub links_own : NamesOwn links_of
links_own None n c i = absurd i
links_own (Some s) n c i = by s.hears.rows i
  where
    by : (b : Bool) → IsIn c (where_heard b (links_by s.key (seen_turn s n))) → c.turn.node ≡ n
    by true k = ap (λ (t : Turn). t.node) (links_name s.key (seen_turn s n) c k)
    by false k = absurd k

takers_name : (q : Option Asker) (t : Turn) (c : TurnKey) → IsIn c (takers_by q t) → c.turn ≡ t
takers_name None t c i = absurd i
takers_name (Some q) t c (inl e) = ap (λ (x : TurnKey). x.turn) (sym e)
takers_name (Some q) t c (inr i) = absurd i

pub takers_own : NamesOwn takers_of
takers_own None n c i = absurd i
takers_own (Some s) n c i = by s.hears.elements i
  where
    by : (b : Bool) → IsIn c (where_heard b (takers_by (asker_by s.alpha s.key) (seen_turn s n))) → c.turn.node ≡ n
    by true k = ap (λ (t : Turn). t.node) (takers_name (asker_by s.alpha s.key) (seen_turn s n) c k)
    by false k = absurd k

-- ---- readers

reader_of : (nodes : ℕ → Option Node) (c : TurnKey) (o : Option Node) → nodes c.turn.node ≡ o → IsIn c (links_of (option_map seen o) c.turn.node) → IsReader nodes c
reader_of nodes c None is i = absurd i
reader_of nodes c (Some node) is i = heard node.hears.rows i
  where
    by : (o : Option NodeKey) → node.key ≡ o → IsIn c (links_by o (turn_of node c.turn.node)) → IsReader nodes c
    by None keyed i = absurd i
    by (Some key) keyed i =
        let from = in_map (λ (m : ℕ). under m (turn_of node c.turn.node)) c (uppers key) i in
        (node, key, is, keyed, subst (λ (x : ℕ). IsIn x (uppers key)) (ap (λ (x : TurnKey). x.number) from.2) from.1, ap (λ (x : TurnKey). x.turn.made) from.2)

    heard : (b : Bool) → IsIn c (where_heard b (links_by node.key (turn_of node c.turn.node))) → IsReader nodes c
    heard true k = by node.key refl k
    heard false k = absurd k

pub linked : (nodes : ℕ → Option Node) (below : List TurnKey) → IsSpread links_of (seen_at nodes) below → IsLinked nodes below
linked nodes below s = record {
  covers = λ n node key here keyed heard m i.
      let c = under m (turn_of node n) in
      let at : IsIn c (links_by (Some key) (turn_of node n)) = in_map_back (λ (x : ℕ). under x (turn_of node n)) m (uppers key) i in
      let one = subst (λ (o : Option NodeKey). IsIn c (links_by o (turn_of node n))) (sym keyed) at in
      let two = subst (λ (b : Bool). IsIn c (where_heard b (links_by node.key (turn_of node n)))) (sym heard) one in
      (s c).1 (subst (λ (o : Option Node). IsIn c (links_of (option_map seen o) n)) (sym here) two);
  names = λ c i. reader_of nodes c (nodes c.turn.node) refl ((s c).0 i);
}

-- ---- those that ask for a pattern

pub taker_there : (nodes : ℕ → Option Node) (takers : List TurnKey) → IsSpread takers_of (seen_at nodes) takers → (n : ℕ) (node : Node) (q : Asker) → nodes n ≡ Some node → asker node ≡ Some q → node.hears.elements ≡ true
    → IsIn (under q.0 (turn_of node n)) takers
taker_there nodes takers s n node q here is heard =
    let c = under q.0 (turn_of node n) in
    let at : IsIn c (takers_by (Some q) (turn_of node n)) = inl refl in
    let one = subst (λ (o : Option Asker). IsIn c (takers_by o (turn_of node n))) (sym is) at in
    let two = subst (λ (b : Bool). IsIn c (where_heard b (takers_by (asker node) (turn_of node n)))) (sym heard) one in
    (s c).1 (subst (λ (o : Option Node). IsIn c (takers_of (option_map seen o) n)) (sym here) two)

pub taker_is : (nodes : ℕ → Option Node) (takers : List TurnKey) → IsSpread takers_of (seen_at nodes) takers → (c : TurnKey) → IsIn c takers
    → (node : Node) × (q : Asker) × (nodes c.turn.node ≡ Some node) × (asker node ≡ Some q) × (q.0 ≡ c.number) × (node.made ≡ c.turn.made)
taker_is nodes takers s c i = by (nodes c.turn.node) refl ((s c).0 i)
  where
    asked : (node : Node) (o : Option Asker) → nodes c.turn.node ≡ Some node → asker node ≡ o → IsIn c (takers_by o (turn_of node c.turn.node))
        → (x : Node) × (q : Asker) × (nodes c.turn.node ≡ Some x) × (asker x ≡ Some q) × (q.0 ≡ c.number) × (x.made ≡ c.turn.made)
    asked node None here is i = absurd i
    asked node (Some q) here is (inl e) = (node, q, here, is, ap (λ (x : TurnKey). x.number) e, ap (λ (x : TurnKey). x.turn.made) e)
    asked node (Some q) here is (inr i) = absurd i

    heard : (node : Node) (b : Bool) → nodes c.turn.node ≡ Some node → IsIn c (where_heard b (takers_by (asker node) (turn_of node c.turn.node)))
        → (x : Node) × (q : Asker) × (nodes c.turn.node ≡ Some x) × (asker x ≡ Some q) × (q.0 ≡ c.number) × (x.made ≡ c.turn.made)
    heard node true here k = asked node (asker node) here refl k
    heard node false here k = absurd k

    by : (o : Option Node) → nodes c.turn.node ≡ o → IsIn c (takers_of (option_map seen o) c.turn.node)
        → (x : Node) × (q : Asker) × (nodes c.turn.node ≡ Some x) × (asker x ≡ Some q) × (q.0 ≡ c.number) × (x.made ≡ c.turn.made)
    by None is i = absurd i
    by (Some node) is i = heard node node.hears.elements is i
