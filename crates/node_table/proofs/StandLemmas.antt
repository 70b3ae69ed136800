-- The nodes of the table as one of them serves a change.
use Rattle.std.proofs.Common.{◌≡◌, inl, inr, refl, sym, ap, subst, ◌∙◌, Bool, true, false, cond, ◌==◌, eq-eqb, ℕ, zero, ◌<◌, ◌≤◌, List, [], Option, Some, arith}
use Rattle.std.proofs.lemmas.Option.{same_Some}
use Rattle.std.proofs.lemmas.Bool.{cases_eq}
use Rattle.std.specs.Prelude.{option_and_then}
use Rattle.defs_match.specs.Laws.{IsIn, ElementsDiffer}
use Rattle.defs_match.specs.Rows.{Row}
use Rattle.soar_wm.specs.declared.element.Element.{Element}
use Rattle.node_memory.specs.declared.symbols.Joined.{Joined}
use Rattle.node_memory.specs.Changes.{RowsChange, ElementsChange}
use Rattle.node_memory.specs.Memories.{Found}
use Rattle.node_memory.specs.Held.{listed, Holds, SameElements}
use Rattle.node_table.specs.declared.node.NodeKey.{NodeKey}
use Rattle.node_table.specs.declared.node.Node.{Node}
use Rattle.node_table.specs.Nodes.{key_at, key_of, uppers}
use Rattle.node_table.specs.Serving.{found, stepped, tags_after, come_at, gone_at, AreIndexed, IsKeyed, IsRead, IsServed, ServedAt}
use Rattle.node_table.specs.Content.{content, IsBelow, IsAbove, IsTable, IsSettled, StandsAt, Stands}
use Rattle.node_table.proofs.ContentLemmas.{content_at, content_step, content_long, content_one_each}

-- rows that stay are held still
pub stays_held : (f : Found) (rows0 rows1 : List Row) → Holds f rows0 → RowsChange rows0 rows1 [] [] → Holds f rows1
stays_held f rows0 rows1 holds rc x = (
  (λ h. elim (rc.lost x ((holds x).0 h)) [ inl i ↦ i | inr i ↦ absurd i ]),
  (λ i. elim (rc.fresh x i) [ inl j ↦ (holds x).1 j | inr j ↦ absurd j ]),
)

-- a node that is settled holds its rows after the change
pub settled_holds : (keys : ℕ → Option NodeKey) (stamp : ℕ) (w0 w1 : List Element) (n : ℕ) (node : Node) → StandsAt keys w0 w1 n node (node.stamp == stamp) → IsSettled keys stamp w0 w1 n node
    → Holds (found node.memory) (content keys node.made n w1)
settled_holds keys stamp w0 w1 n node = by (node.stamp == stamp)
  where
    by : (b : Bool) → StandsAt keys w0 w1 n node b → RowsChange (content keys node.made n w0) (content keys node.made n w1) (cond b node.come.items []) (cond b node.gone.items []) → Holds (found node.memory) (content keys node.made n w1)
    by true stands rc = stands.0
    by false stands rc = stays_held (found node.memory) (content keys node.made n w0) (content keys node.made n w1) stands rc

-- one that was served is settled
pub served_settled : (keys : ℕ → Option NodeKey) (stamp : ℕ) (w0 w1 : List Element) (n : ℕ) (node : Node) → (node.stamp == stamp) ≡ true → StandsAt keys w0 w1 n node (node.stamp == stamp) → IsSettled keys stamp w0 w1 n node
served_settled keys stamp w0 w1 n node = by (node.stamp == stamp)
  where
    by : (b : Bool) → b ≡ true → StandsAt keys w0 w1 n node b → RowsChange (content keys node.made n w0) (content keys node.made n w1) (cond b node.come.items []) (cond b node.gone.items [])
    by true is stands = stands.1
    by false is stands = absurd (cc)

-- what a change leaves of a node
pub record AlikeNodes (old new : Node) : Type 0 where
  pub key : new.key ≡ old.key
  pub tags : new.tags ≡ old.tags
  pub made : new.made ≡ old.made
  pub alpha : new.alpha ≡ old.alpha
  pub requests : new.requests ≡ old.requests
  pub joined : new.memory.joined.items ≡ old.memory.joined.items

module _ (old new : ℕ → Option Node) (n stamp : ℕ) (index : List Element) (come goes : Option Element) (s : ServedAt old new n stamp index come goes) (j : IsKeyed old n) where
  abbrev pub now : Node
  now = (s.served j.node j.here).0

  pub now_here : new n ≡ Some now
  now_here = (s.served j.node j.here).1

  pub now_served : IsServed j.node now stamp s.come_list s.gone_list
  now_served = (s.served j.node j.here).2

  pub now_alike : AlikeNodes j.node now
  now_alike = record { key = now_served.key; tags = now_served.tags; made = now_served.made; alpha = now_served.alpha; requests = now_served.requests; joined = now_served.joined }

  -- each node was there
  pub was : (k : ℕ) (m : Node) → new k ≡ Some m → (o : Node) × (old k ≡ Some o) × AlikeNodes o m
  was k m there = elim (cases_eq k n) [
    | inl e ↦ (
        let same : now ≡ m = same_Some now m (sym now_here ∙ ap new (sym e) ∙ there) in
        (j.node, ap old e ∙ j.here, subst (λ (x : Node). AlikeNodes j.node x) same now_alike))
    | inr ne ↦ (m, sym (s.others k ne) ∙ there, record { key = refl; tags = refl; made = refl; alpha = refl; requests = refl; joined = refl })
  ]

  -- and each is still there
  pub still : (k : ℕ) (o : Node) → old k ≡ Some o → (m : Node) × (new k ≡ Some m) × AlikeNodes o m
  still k o there = elim (cases_eq k n) [
    | inl e ↦ (
        let same : j.node ≡ o = same_Some j.node o (sym j.here ∙ ap old (sym e) ∙ there) in
        (now, ap new e ∙ now_here, subst (λ (x : Node). AlikeNodes x now) same now_alike))
    | inr ne ↦ (o, s.others k ne ∙ there, record { key = refl; tags = refl; made = refl; alpha = refl; requests = refl; joined = refl })
  ]

  keys_stay : (k : ℕ) → key_at new k ≡ key_at old k
  keys_stay k = elim (cases_eq k n) [
    | inl e ↦ ap (key_at new) e ∙ ap (option_and_then key_of) now_here ∙ now_served.key ∙ sym (ap (option_and_then key_of) j.here) ∙ ap (key_at old) (sym e)
    | inr ne ↦ ap (option_and_then key_of) (s.others k ne)
  ]

  pub same_keys : key_at new ≡ key_at old
  same_keys = λ i k. keys_stay k i

  -- the table stays one
  pub table_stays : (end : ℕ) → IsTable old end → IsTable new end
  table_stays end t =
      record {
        indexed = λ k m there. elim (cases_eq k n) [
          | inl e ↦ subst (λ (x : Node). AreIndexed x.memory) (same_Some now m (sym now_here ∙ ap new (sym e) ∙ there)) now_served.indexed
          | inr ne ↦ t.indexed k m (sym (s.others k ne) ∙ there)
        ];
        roots = λ k m there unkeyed. (let o = was k m there in o.2.tags ∙ t.roots k o.0 o.1 (sym o.2.key ∙ unkeyed));
        below = λ k m key there keyed.
            let o = was k m there in
            let b = t.below k o.0 key o.1 (sym o.2.key ∙ keyed) in
            let p = still key.parent b.parent b.above in
            record {
              each = λ u i.
                  let a = b.each u i in
                  let q = still u a.upper a.there in
                  record { upper = q.0; there = q.1; made = subst (λ (x : ℕ). q.0.made < x) (sym o.2.made) (subst (λ (x : ℕ). x < o.0.made) (sym q.2.made) a.made) };
              parent = p.0;
              above = p.1;
              tags = o.2.tags ∙ b.tags ∙ ap (λ (x : ℕ). tags_after key.step x) (sym p.2.tags);
              joined = λ v first. subst (λ (js : List Joined). IsIn v js) (sym p.2.joined) (b.joined v first);
            };
        once = λ k l m x there here same.
            let o = was k m there in
            let q = was l x here in
            t.once k l o.0 q.0 o.1 q.1 (sym o.2.made ∙ same ∙ q.2.made);
        early = λ k m there. (let o = was k m there in subst (λ (x : ℕ). x < end) (sym o.2.made) (t.early k o.0 o.1));
        asked = λ k m there. (let o = was k m there in subst (λ (x : ℕ). zero < x) (sym o.2.requests) (t.asked k o.0 o.1));
      }

  -- The node that was served holds its rows after the change, and tells it; the others stand as they did.
  pub stands_served : (end : ℕ) (w0 w1 : List Element) → IsTable old end → Stands old stamp w0 w1 → (j.node.stamp == stamp) ≡ false
      → ((m : ℕ) (a : IsAbove old j.node m) → IsSettled (key_at old) stamp w0 w1 m a.upper)
      → ElementsChange w0 w1 (listed come) (listed goes) → SameElements index w1 → ElementsDiffer w1 → Stands new stamp w0 w1
  stands_served end w0 w1 t stands unserved settled ec same differ k m there = elim (cases_eq k n) [
    | inl e ↦ here e
    | inr ne ↦ subst (λ (keys : ℕ → Option NodeKey). StandsAt keys w0 w1 k m (m.stamp == stamp)) (sym same_keys) (stands k m (sym (s.others k ne) ∙ there))
  ]
    where
      b : IsBelow old j.node j.key
      b = t.below n j.node j.key j.here j.keyed

      step : (w : List Element) → content (key_at old) j.node.made n w ≡ stepped j.key.step w (λ i. content (key_at old) end i w) (content (key_at old) end j.key.parent w)
      step w = content_step old end t n j.node j.key w j.here j.keyed

      before : Holds (found j.node.memory) (content (key_at old) j.node.made n w0)
      before = subst (λ (u : Bool). StandsAt (key_at old) w0 w1 n j.node u) unserved (stands n j.node j.here)

      reads : (i : ℕ) → IsIn i (uppers j.key) → IsRead old stamp (λ l. content (key_at old) end l w0) (λ l. content (key_at old) end l w1) i
      reads i at =
          let a = b.each i at in
          let up = settled i a in
          let low : a.upper.made < end = t.early i a.upper a.there in
          let in_ : a.upper.made ≤ end = omega (arith, low) in
          record {
            node = a.upper;
            here = a.there;
            change = subst (λ (rs : List Row). RowsChange rs (content (key_at old) end i w1) (come_at stamp a.upper) (gone_at stamp a.upper)) (sym (content_at old end t i a.upper w0 a.there))
                (subst (λ (rs : List Row). RowsChange (content (key_at old) a.upper.made i w0) rs (come_at stamp a.upper) (gone_at stamp a.upper)) (sym (content_at old end t i a.upper w1 a.there)) up);
            holds = subst (λ (rs : List Row). Holds (found a.upper.memory) rs) (sym (content_at old end t i a.upper w1 a.there))
                (settled_holds (key_at old) stamp w0 w1 i a.upper (stands i a.upper a.there) up);
            long0 = content_long old end t end i a.upper w0 a.there in_;
            long1 = content_long old end t end i a.upper w1 a.there in_;
          }

      stepped_ : RowsChange (stepped j.key.step w0 (λ l. content (key_at old) end l w0) (content (key_at old) end j.key.parent w0)) (stepped j.key.step w1 (λ l. content (key_at old) end l w1) (content (key_at old) end j.key.parent w1)) s.come_list s.gone_list
      stepped_ = s.told j.node j.key j.here j.keyed (λ l. content (key_at old) end l w0) (λ l. content (key_at old) end l w1) w0 w1 reads ec same
          (subst (λ (rs : List Row). Holds (found j.node.memory) rs) (step w0) before)

      changed : RowsChange (content (key_at old) j.node.made n w0) (content (key_at old) j.node.made n w1) s.come_list s.gone_list
      changed = subst (λ (rs : List Row). RowsChange rs (content (key_at old) j.node.made n w1) s.come_list s.gone_list) (sym (step w0))
          (subst (λ (rs : List Row). RowsChange (stepped j.key.step w0 (λ l. content (key_at old) end l w0) (content (key_at old) end j.key.parent w0)) rs s.come_list s.gone_list) (sym (step w1)) stepped_)

      held : Holds (found now.memory) (content (key_at old) j.node.made n w1)
      held = now_served.holds (content (key_at old) j.node.made n w0) (content (key_at old) j.node.made n w1) before changed (content_one_each (key_at old) j.node.made n w1 differ)

      told : RowsChange (content (key_at old) j.node.made n w0) (content (key_at old) j.node.made n w1) now.come.items now.gone.items
      told = subst (λ (rs : List Row). RowsChange (content (key_at old) j.node.made n w0) (content (key_at old) j.node.made n w1) rs now.gone.items) (sym now_served.come)
          (subst (λ (ts : List (List ℕ)). RowsChange (content (key_at old) j.node.made n w0) (content (key_at old) j.node.made n w1) s.come_list ts) (sym now_served.gone) changed)

      at_now : StandsAt (key_at old) w0 w1 n now true
      at_now = subst (λ (h : ℕ). Holds (found now.memory) (content (key_at old) h n w1) × RowsChange (content (key_at old) h n w0) (content (key_at old) h n w1) now.come.items now.gone.items) (sym now_served.made) (held, told)

      here : k ≡ n → StandsAt (key_at new) w0 w1 k m (m.stamp == stamp)
      here e =
          let same_node : now ≡ m = same_Some now m (sym now_here ∙ ap new (sym e) ∙ there) in
          let one_ = subst (λ (keys : ℕ → Option NodeKey). StandsAt keys w0 w1 n now true) (sym same_keys) at_now in
          let two = subst (λ (u : Bool). StandsAt (key_at new) w0 w1 n now u) (sym (eq-eqb now.stamp stamp now_served.stamp)) one_ in
          let three = subst (λ (x : Node). StandsAt (key_at new) w0 w1 n x (x.stamp == stamp)) same_node two in
          subst (λ (i : ℕ). StandsAt (key_at new) w0 w1 i m (m.stamp == stamp)) (sym e) three
