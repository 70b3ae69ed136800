-- What has been settled between two turns of the agenda.
use Rattle.std.proofs.Common.{◌≡◌, ◌⊎◌, inl, inr, refl, sym, ap, subst, ◌∙◌, Bool, true, false, cond, ◌==◌, ℕ, zero, suc, ◌<◌, ◌≤◌, List, [], ◌∷◌, Option, Some, None, arith}
use Rattle.std.specs.Prelude.{option_and_then}
use Rattle.defs_match.specs.Laws.{IsIn}
use Rattle.defs_match.specs.Rows.{Row, empty_row}
use Rattle.soar_wm.specs.declared.element.Element.{Element}
use Rattle.node_memory.specs.Changes.{RowsChange, ElementsChange}
use Rattle.node_memory.specs.Held.{listed, Holds, SameElements}
use Rattle.node_table.specs.declared.node.NodeKey.{NodeKey}
use Rattle.node_table.specs.declared.node.Node.{Node}
use Rattle.node_table.specs.Nodes.{key_at, key_of, uppers}
use Rattle.node_table.specs.Serving.{found, stepped, gone_at}
use Rattle.node_table.specs.Content.{content, IsAbove, IsSettled, Stands}
use Rattle.node_table.proofs.ContentLemmas.{content_at, content_step, root_content, step_rests}
use Rattle.node_table.proofs.StandLemmas.{served_settled, settled_holds}
use Rattle.node_agenda.specs.declared.turns.Turn.{Turn}
use Rattle.node_agenda.specs.declared.turns.TurnKey.{TurnKey}
use Rattle.node_agenda.specs.Agenda.{turn_of, IsIdle, IsRowless, TakesNothing, IsStill, IsLoop}
use Rattle.node_agenda.proofs.StillLemmas.{rowless_rests, barren_rests}

stays_same : (rs : List Row) → RowsChange rs rs [] []
stays_same rs = record { fresh = λ x h. inl h; here = λ x h. absurd h; lost = λ x h. inl h; away = λ x h g. g }

same_change : (a b c d : List Row) → a ≡ c → b ≡ d → RowsChange c d [] [] → RowsChange a b [] []
same_change a b c d e f h = subst (λ (x : List Row). RowsChange x b [] []) (sym e) (subst (λ (y : List Row). RowsChange c y [] []) (sym f) h)

-- one that was not served tells nothing
unserved_settled : (keys : ℕ → Option NodeKey) (stamp : ℕ) (w0 w1 : List Element) (n : ℕ) (node : Node) → (node.stamp == stamp) ≡ false → RowsChange (content keys node.made n w0) (content keys node.made n w1) [] []
    → IsSettled keys stamp w0 w1 n node
unserved_settled keys stamp w0 w1 n node unserved rc =
    subst (λ (b : Bool). RowsChange (content keys node.made n w0) (content keys node.made n w1) (cond b node.come.items []) (cond b node.gone.items [])) (sym unserved) rc

module _ (nodes : ℕ → Option Node) (agenda : List Turn) (below : List TurnKey) (elements : List Element) (stamp floor end : ℕ) (come goes : Option Element) (l : IsLoop nodes agenda below elements stamp floor end come goes) (w0 w1 : List Element) (stands : Stands nodes stamp w0 w1) (ec : ElementsChange w0 w1 (listed come) (listed goes)) (alike : SameElements elements w1) (bound : ℕ) (later : (t : Turn) → IsIn t agenda → bound ≤ t.made) where
  -- a node that reads nothing that has changed
  idle_settled : (n : ℕ) (node : Node) (key : NodeKey) → nodes n ≡ Some node → node.key ≡ Some key → (node.stamp == stamp) ≡ false → IsIdle nodes stamp come goes key
      → ((m : ℕ) (a : IsAbove nodes node m) → IsSettled (key_at nodes) stamp w0 w1 m a.upper) → IsSettled (key_at nodes) stamp w0 w1 n node
  idle_settled n node key here keyed unserved idle up =
      unserved_settled (key_at nodes) stamp w0 w1 n node unserved
      (same_change (content (key_at nodes) node.made n w0) (content (key_at nodes) node.made n w1)
      (stepped key.step w0 (λ m. content (key_at nodes) end m w0) (content (key_at nodes) end key.parent w0)) (stepped key.step w1 (λ m. content (key_at nodes) end m w1) (content (key_at nodes) end key.parent w1))
      (content_step nodes end l.table n node key w0 here keyed) (content_step nodes end l.table n node key w1 here keyed)
      (step_rests key.step w0 w1 (λ m. content (key_at nodes) end m w0) (λ m. content (key_at nodes) end m w1) (content (key_at nodes) end key.parent w0) (content (key_at nodes) end key.parent w1) come goes
      (calm key.parent (inl refl)) (λ m i. calm m (inr i)) ec idle.out))
    where
      calm : (m : ℕ) → IsIn m (uppers key) → RowsChange (content (key_at nodes) end m w0) (content (key_at nodes) end m w1) [] []
      calm m i =
          let a = (l.table.below n node key here keyed).each m i in
          let one = subst (λ (rs : List Row). RowsChange (content (key_at nodes) a.upper.made m w0) (content (key_at nodes) a.upper.made m w1) rs (gone_at stamp a.upper)) (idle.none_came m i a.upper a.there) (up m a) in
          let two = subst (λ (ts : List (List ℕ)). RowsChange (content (key_at nodes) a.upper.made m w0) (content (key_at nodes) a.upper.made m w1) [] ts) (idle.none_went m i a.upper a.there) one in
          same_change (content (key_at nodes) end m w0) (content (key_at nodes) end m w1) (content (key_at nodes) a.upper.made m w0) (content (key_at nodes) a.upper.made m w1)
          (content_at nodes end l.table m a.upper w0 a.there) (content_at nodes end l.table m a.upper w1 a.there) two

  -- one whose parent has no rows and tells nothing
  rowless_settled : (n : ℕ) (node : Node) (key : NodeKey) → nodes n ≡ Some node → node.key ≡ Some key → (node.stamp == stamp) ≡ false → IsRowless nodes stamp key
      → ((m : ℕ) (a : IsAbove nodes node m) → IsSettled (key_at nodes) stamp w0 w1 m a.upper) → IsSettled (key_at nodes) stamp w0 w1 n node
  rowless_settled n node key here keyed unserved rowless up =
      let a = (l.table.below n node key here keyed).each key.parent (inl refl) in
      let own = up key.parent a in
      let one = subst (λ (rs : List Row). RowsChange (content (key_at nodes) a.upper.made key.parent w0) (content (key_at nodes) a.upper.made key.parent w1) rs (gone_at stamp a.upper)) (rowless.none_came a.upper a.there) own in
      let two = subst (λ (ts : List (List ℕ)). RowsChange (content (key_at nodes) a.upper.made key.parent w0) (content (key_at nodes) a.upper.made key.parent w1) [] ts) (rowless.none_went a.upper a.there) one in
      let held = settled_holds (key_at nodes) stamp w0 w1 key.parent a.upper (stands key.parent a.upper a.there) own in
      unserved_settled (key_at nodes) stamp w0 w1 n node unserved
      (same_change (content (key_at nodes) node.made n w0) (content (key_at nodes) node.made n w1)
      (stepped key.step w0 (λ m. content (key_at nodes) end m w0) (content (key_at nodes) end key.parent w0)) (stepped key.step w1 (λ m. content (key_at nodes) end m w1) (content (key_at nodes) end key.parent w1))
      (content_step nodes end l.table n node key w0 here keyed) (content_step nodes end l.table n node key w1 here keyed)
      (rowless_rests key.step w0 w1 (λ m. content (key_at nodes) end m w0) (λ m. content (key_at nodes) end m w1) (content (key_at nodes) end key.parent w0) (content (key_at nodes) end key.parent w1) (found a.upper.memory)
      (same_change (content (key_at nodes) end key.parent w0) (content (key_at nodes) end key.parent w1) (content (key_at nodes) a.upper.made key.parent w0) (content (key_at nodes) a.upper.made key.parent w1)
      (content_at nodes end l.table key.parent a.upper w0 a.there) (content_at nodes end l.table key.parent a.upper w1 a.there) two)
      (subst (λ (rs : List Row). Holds (found a.upper.memory) rs) (sym (content_at nodes end l.table key.parent a.upper w1 a.there)) held) (rowless.no_rows a.upper a.there)))

  -- one that takes nothing
  barren_settled : (n : ℕ) (node : Node) (key : NodeKey) → nodes n ≡ Some node → node.key ≡ Some key → (node.stamp == stamp) ≡ false → TakesNothing key.step elements come goes → IsSettled (key_at nodes) stamp w0 w1 n node
  barren_settled n node key here keyed unserved nothing =
      unserved_settled (key_at nodes) stamp w0 w1 n node unserved
      (same_change (content (key_at nodes) node.made n w0) (content (key_at nodes) node.made n w1)
      (stepped key.step w0 (λ m. content (key_at nodes) end m w0) (content (key_at nodes) end key.parent w0)) (stepped key.step w1 (λ m. content (key_at nodes) end m w1) (content (key_at nodes) end key.parent w1))
      (content_step nodes end l.table n node key w0 here keyed) (content_step nodes end l.table n node key w1 here keyed)
      (barren_rests key.step w0 w1 elements (λ m. content (key_at nodes) end m w0) (λ m. content (key_at nodes) end m w1) (content (key_at nodes) end key.parent w0) (content (key_at nodes) end key.parent w1) come goes ec alike nothing))

  still_settled : (n : ℕ) (node : Node) (key : NodeKey) → nodes n ≡ Some node → node.key ≡ Some key → (node.stamp == stamp) ≡ false → (r e : Bool) → IsStill nodes elements stamp come goes key r e
      → ((m : ℕ) (a : IsAbove nodes node m) → IsSettled (key_at nodes) stamp w0 w1 m a.upper) → IsSettled (key_at nodes) stamp w0 w1 n node
  still_settled n node key here keyed unserved true true still up = idle_settled n node key here keyed unserved still up
  still_settled n node key here keyed unserved true false still up = rowless_settled n node key here keyed unserved still up
  still_settled n node key here keyed unserved false true still up = barren_settled n node key here keyed unserved still
  still_settled n node key here keyed unserved false false still up = absurd still

  settled_by : (n : ℕ) (node : Node) → nodes n ≡ Some node → node.made < bound → ((m : ℕ) (a : IsAbove nodes node m) → IsSettled (key_at nodes) stamp w0 w1 m a.upper) → IsSettled (key_at nodes) stamp w0 w1 n node
  settled_by n node here early up = by_stamp (node.stamp == stamp) refl
    where
      root : node.key ≡ None → (node.stamp == stamp) ≡ false → IsSettled (key_at nodes) stamp w0 w1 n node
      root none unserved =
          let flat = λ (w : List Element). root_content (key_at nodes) node.made n w (ap (option_and_then key_of) here ∙ none) in
          unserved_settled (key_at nodes) stamp w0 w1 n node unserved
          (same_change (content (key_at nodes) node.made n w0) (content (key_at nodes) node.made n w1) (empty_row ∷ []) (empty_row ∷ []) (flat w0) (flat w1) (stays_same (empty_row ∷ [])))

      waiting : (key : NodeKey) → node.key ≡ Some key → (node.stamp == stamp) ≡ false → IsIn (turn_of node n) agenda ⊎ IsStill nodes elements stamp come goes key node.hears.rows node.hears.elements → IsSettled (key_at nodes) stamp w0 w1 n node
      waiting key keyed unserved (inl turn) = (let past : bound ≤ node.made = later (turn_of node n) turn in absurd (omega (arith, past, early)))
      waiting key keyed unserved (inr i) = still_settled n node key here keyed unserved node.hears.rows node.hears.elements i up

      by_key : (o : Option NodeKey) → node.key ≡ o → (node.stamp == stamp) ≡ false → IsSettled (key_at nodes) stamp w0 w1 n node
      by_key None is unserved = root is unserved
      by_key (Some key) is unserved = waiting key is unserved (l.waits n node key here is unserved)

      by_stamp : (b : Bool) → (node.stamp == stamp) ≡ b → IsSettled (key_at nodes) stamp w0 w1 n node
      by_stamp true is = served_settled (key_at nodes) stamp w0 w1 n node is (stands n node here)
      by_stamp false is = by_key node.key refl is

  -- each node that was made before those on the agenda is settled
  pub settled : (h n : ℕ) (node : Node) → nodes n ≡ Some node → node.made ≤ h → node.made < bound → IsSettled (key_at nodes) stamp w0 w1 n node
  settled zero n node here high early = settled_by n node here early (λ m a. absurd (never a.upper.made node.made a.made high))
    where
      never : (x y : ℕ) → x < y → y ≤ zero → ⊥
      never x y a b = omega (arith, a, b)
  settled (suc g) n node here high early = settled_by n node here early (λ m a. settled g m a.upper a.there (lower a.upper.made node.made a.made high) (trans a.upper.made node.made a.made early))
    where
      lower : (x y : ℕ) → x < y → y ≤ suc g → x ≤ g
      lower x y a b = omega (arith, a, b)

      trans : (x y : ℕ) → x < y → y < bound → x < bound
      trans x y a b = omega (arith, a, b)
