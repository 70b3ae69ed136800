-- The table as requests for a node are counted.
use Rattle.std.proofs.Common.{◌≡◌, ◌≢◌, inl, inr, refl, sym, ap, subst, ◌∙◌, ℕ, zero, ◌<◌, Option, Some, List, []}
use Rattle.std.proofs.lemmas.Option.{same_Some}
use Rattle.std.proofs.lemmas.Bool.{cases_eq}
use Rattle.std.specs.Prelude.{option_and_then}
use Rattle.defs_match.specs.Laws.{IsIn}
use Rattle.soar_wm.specs.declared.element.Element.{Element}
use Rattle.node_memory.specs.declared.memory.Memory.{Memory}
use Rattle.node_memory.specs.Held.{Holds}
use Rattle.node_table.specs.declared.node.NodeKey.{NodeKey}
use Rattle.node_table.specs.declared.node.Node.{Node}
use Rattle.node_table.specs.Nodes.{key_at, key_of, IsNumbered}
use Rattle.node_table.specs.Serving.{found, tags_after, AreIndexed}
use Rattle.node_table.specs.Content.{content, IsTable, AllHold}
use Rattle.node_table.specs.Hearing.{AllHear}
use Rattle.node_table.proofs.HearLemmas.{hear_alike}

-- two live nodes of one key are one
pub one_of_key : (number : NodeKey → Option ℕ) (nodes : ℕ → Option Node) → IsNumbered number (key_at nodes) → (m n : ℕ) (key : NodeKey) → key_at nodes m ≡ Some key → key_at nodes n ≡ Some key → m ≡ n
one_of_key number nodes numbered m n key a b = same_Some m n (sym ((numbered key m).1 a) ∙ (numbered key n).1 b)

module _ (old new : ℕ → Option Node) (n end : ℕ) (t : IsTable old end) (node now : Node) (here : old n ≡ Some node) (is : new n ≡ Some now) (same : now ≡ record node { requests = now.requests }) (some : zero < now.requests) (others : (k : ℕ) → k ≢ n → new k ≡ old k) where
  -- a node but for the count of its requests
  record Keeps (a b : Node) : Type 0 where
    kept : b ≡ record a { requests = b.requests }

  was_counted : (k : ℕ) (m : Node) → new k ≡ Some m → (o : Node) × (old k ≡ Some o) × Keeps o m
  was_counted k m there = elim (cases_eq k n) [
    | inl e ↦ (node, ap old e ∙ here, subst (λ (x : Node). Keeps node x) (same_Some now m (sym is ∙ ap new (sym e) ∙ there)) (record { kept = same }))
    | inr ne ↦ (m, sym (others k ne) ∙ there, record { kept = refl })
  ]

  still_counted : (k : ℕ) (o : Node) → old k ≡ Some o → (m : Node) × (new k ≡ Some m) × Keeps o m
  still_counted k o there = elim (cases_eq k n) [
    | inl e ↦ (now, ap new e ∙ is, subst (λ (x : Node). Keeps x now) (same_Some node o (sym here ∙ ap old (sym e) ∙ there)) (record { kept = same }))
    | inr ne ↦ (o, others k ne ∙ there, record { kept = refl })
  ]

  key_counted : (k : ℕ) → key_at new k ≡ key_at old k
  key_counted k = elim (cases_eq k n) [
    | inl e ↦ ap (key_at new) e ∙ ap (option_and_then key_of) is ∙ ap (λ (x : Node). x.key) same ∙ sym (ap (option_and_then key_of) here) ∙ ap (key_at old) (sym e)
    | inr ne ↦ ap (option_and_then key_of) (others k ne)
  ]

  pub keys_counted : key_at new ≡ key_at old
  keys_counted = λ i k. key_counted k i

  pub table_counted : IsTable new end
  table_counted =
      record {
        indexed = λ k m there. (let o = was_counted k m there in subst AreIndexed (sym (ap (λ (x : Node). x.memory) o.2.kept)) (t.indexed k o.0 o.1));
        roots = λ k m there none. (let o = was_counted k m there in ap (λ (x : Node). x.tags) o.2.kept ∙ t.roots k o.0 o.1 (sym (ap (λ (x : Node). x.key) o.2.kept) ∙ none));
        below = λ k m key there keyed.
            let o = was_counted k m there in
            let b = t.below k o.0 key o.1 (sym (ap (λ (x : Node). x.key) o.2.kept) ∙ keyed) in
            let q = still_counted key.parent b.parent b.above in
            record {
              each = λ u i.
                  let a = b.each u i in
                  let r = still_counted u a.upper a.there in
                  record { upper = r.0; there = r.1; made = subst (λ (x : ℕ). r.0.made < x) (sym (ap (λ (y : Node). y.made) o.2.kept)) (subst (λ (x : ℕ). x < o.0.made) (sym (ap (λ (y : Node). y.made) r.2.kept)) a.made) };
              parent = q.0;
              above = q.1;
              tags = ap (λ (x : Node). x.tags) o.2.kept ∙ b.tags ∙ ap (λ (x : Node). tags_after key.step x.tags) (sym q.2.kept);
              joined = λ v first. subst (λ (x : Memory). IsIn v x.joined.items) (sym (ap (λ (x : Node). x.memory) q.2.kept)) (b.joined v first);
            };
        once = λ k i m x there also alike.
            let o = was_counted k m there in
            let r = was_counted i x also in
            t.once k i o.0 r.0 o.1 r.1 (sym (ap (λ (y : Node). y.made) o.2.kept) ∙ alike ∙ ap (λ (y : Node). y.made) r.2.kept);
        early = λ k m there. (let o = was_counted k m there in subst (λ (x : ℕ). x < end) (sym (ap (λ (y : Node). y.made) o.2.kept)) (t.early k o.0 o.1));
        asked = λ k m there. elim (cases_eq k n) [
          | inl e ↦ subst (λ (x : Node). zero < x.requests) (same_Some now m (sym is ∙ ap new (sym e) ∙ there)) some
          | inr ne ↦ t.asked k m (sym (others k ne) ∙ there)
        ];
      }

  pub hold_counted : (w : List Element) → AllHold old w → AllHold new w
  hold_counted w all k m there =
      let o = was_counted k m there in
      subst (λ (x : Memory). Holds (found x) (content (key_at new) m.made k w)) (sym (ap (λ (x : Node). x.memory) o.2.kept))
      (subst (λ (h : ℕ). Holds (found o.0.memory) (content (key_at new) h k w)) (sym (ap (λ (x : Node). x.made) o.2.kept))
      (subst (λ (f : ℕ → Option NodeKey). Holds (found o.0.memory) (content f o.0.made k w)) (sym keys_counted) (all k o.0 o.1)))

  pub hear_counted : (w : List Element) → AllHear old w → AllHear new w
  hear_counted w all =
      hear_alike old new w (λ k m there.
      let o = was_counted k m there in (
        o.0,
        o.1,
        record {
          key = ap (λ (x : Node). x.key) o.2.kept;
          hears = ap (λ (x : Node). x.hears) o.2.kept;
          none = λ h. subst (λ (x : Memory). Holds (found x) []) (sym (ap (λ (x : Node). x.memory) o.2.kept)) h;
        },
      )) all
