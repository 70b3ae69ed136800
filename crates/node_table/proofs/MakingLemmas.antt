-- The table as a parent is made ready for a new node.
use Rattle.std.proofs.Common.{◌≡◌, ◌≢◌, ◌<◌, zero, ap, inl, inr, refl, sym, subst, ◌∙◌, Bool, true, false, ◌||◌, ℕ, List, [], ◌∷◌, Option, Some}
use Rattle.std.proofs.lemmas.Option.{same_Some}
use Rattle.std.proofs.lemmas.Bool.{cases_eq}
use Rattle.std.specs.List.{list_any}
use Rattle.std.specs.Prelude.{option_and_then}
use Rattle.std.specs.Map.{lookup}
use Rattle.std.specs.Ordering.{nat_cmp, is_eq}
use Rattle.std.specs.Cmp.Lexicographic.{slice_cmp}
use Rattle.defs_match.specs.Laws.{IsIn}
use Rattle.defs_match.specs.Rows.{Row}
use Rattle.defs_match.specs.Testing.{Bindings}
use Rattle.soar_wm.specs.declared.element.Element.{Element}
use Rattle.node_memory.specs.declared.symbols.Joined.{Joined}
use Rattle.node_memory.specs.Symbols.{joined_eq}
use Rattle.node_memory.proofs.SymbolLemmas.{joined_told}
use Rattle.node_table.specs.declared.node.Step.{Step}
use Rattle.node_table.specs.declared.node.NodeKey.{NodeKey}
use Rattle.node_table.specs.declared.node.Node.{Node}
use Rattle.node_table.specs.Nodes.{key_at, key_of}
use Rattle.node_table.specs.Serving.{found, first_of, tags_after, AreIndexed}
use Rattle.node_table.specs.Content.{content, IsTable, AllHold}
use Rattle.node_table.specs.Making.{IsReady}
use Rattle.node_table.specs.Hearing.{AllHear}
use Rattle.node_table.proofs.HearLemmas.{none_same, hear_alike}

pub any_in : (v : Joined) (xs : List Joined) → list_any (λ x. joined_eq x v) xs ≡ true → IsIn v xs
any_in v [] h = absurd (cc)
any_in v (x ∷ xs) h = by (any_in v xs) (joined_eq x v) refl h
  where
    by : (list_any (λ y. joined_eq y v) xs ≡ true → IsIn v xs) → (b : Bool) → joined_eq x v ≡ b → (b || list_any (λ y. joined_eq y v) xs) ≡ true → IsIn v (x ∷ xs)
    by deep true is e = inl (joined_told x v is)
    by deep false is e = inr (deep e)

pub only_first : (step : Step) (v : Joined) (xs : List Joined) → first_of step ≡ Some v → IsIn v xs → (u : Joined) → first_of step ≡ Some u → IsIn u xs
only_first step v xs first i u other = subst (λ (x : Joined). IsIn x xs) (same_Some v u (sym first ∙ other)) i

-- ---- the table stays as a parent is made ready

module _ (old new : ℕ → Option Node) (n end : ℕ) (step : Step) (t : IsTable old end) (node now : Node) (here : old n ≡ Some node) (is : new n ≡ Some now) (ready : IsReady node now step) (others : (k : ℕ) → k ≢ n → new k ≡ old k) where
  -- what the memory of a node keeps
  record Keeps (a b : Node) : Type 0 where
    same : b ≡ record a { memory = b.memory }
    rows : b.memory.rows.entries ≡ a.memory.rows.entries
    kept : (v : Joined) → IsIn v a.memory.joined.items → IsIn v b.memory.joined.items

  was_kept : (k : ℕ) (m : Node) → new k ≡ Some m → (o : Node) × (old k ≡ Some o) × Keeps o m
  was_kept k m there = elim (cases_eq k n) [
    | inl e ↦ (node, ap old e ∙ here, subst (λ (x : Node). Keeps node x) (same_Some now m (sym is ∙ ap new (sym e) ∙ there)) (record { same = ready.same; rows = ready.rows; kept = ready.kept }))
    | inr ne ↦ (m, sym (others k ne) ∙ there, record { same = refl; rows = refl; kept = λ v i. i })
  ]

  still_kept : (k : ℕ) (o : Node) → old k ≡ Some o → (m : Node) × (new k ≡ Some m) × Keeps o m
  still_kept k o there = elim (cases_eq k n) [
    | inl e ↦ (now, ap new e ∙ is, subst (λ (x : Node). Keeps x now) (same_Some node o (sym here ∙ ap old (sym e) ∙ there)) (record { same = ready.same; rows = ready.rows; kept = ready.kept }))
    | inr ne ↦ (o, others k ne ∙ there, record { same = refl; rows = refl; kept = λ v i. i })
  ]

  key_kept : (k : ℕ) → key_at new k ≡ key_at old k
  key_kept k = elim (cases_eq k n) [
    | inl e ↦ ap (key_at new) e ∙ ap (option_and_then key_of) is ∙ ap (λ (x : Node). x.key) ready.same ∙ sym (ap (option_and_then key_of) here) ∙ ap (key_at old) (sym e)
    | inr ne ↦ ap (option_and_then key_of) (others k ne)
  ]

  pub keys_kept : key_at new ≡ key_at old
  keys_kept = λ i k. key_kept k i

  pub table_kept : IsTable new end
  table_kept =
      record {
        indexed = λ k m there. elim (cases_eq k n) [
          | inl e ↦ subst (λ (x : Node). AreIndexed x.memory) (same_Some now m (sym is ∙ ap new (sym e) ∙ there)) ready.indexed
          | inr ne ↦ t.indexed k m (sym (others k ne) ∙ there)
        ];
        roots = λ k m there none. (let o = was_kept k m there in ap (λ (x : Node). x.tags) o.2.same ∙ t.roots k o.0 o.1 (sym (ap (λ (x : Node). x.key) o.2.same) ∙ none));
        below = λ k m key there keyed.
            let o = was_kept k m there in
            let b = t.below k o.0 key o.1 (sym (ap (λ (x : Node). x.key) o.2.same) ∙ keyed) in
            let q = still_kept key.parent b.parent b.above in
            record {
              each = λ u i.
                  let a = b.each u i in
                  let r = still_kept u a.upper a.there in
                  record { upper = r.0; there = r.1; made = subst (λ (x : ℕ). r.0.made < x) (sym (ap (λ (y : Node). y.made) o.2.same)) (subst (λ (x : ℕ). x < o.0.made) (sym (ap (λ (y : Node). y.made) r.2.same)) a.made) };
              parent = q.0;
              above = q.1;
              tags = ap (λ (x : Node). x.tags) o.2.same ∙ b.tags ∙ ap (λ (x : Node). tags_after key.step x.tags) (sym q.2.same);
              joined = λ v first. q.2.kept v (b.joined v first);
            };
        once = λ k i m x there also same.
            let o = was_kept k m there in
            let r = was_kept i x also in
            t.once k i o.0 r.0 o.1 r.1 (sym (ap (λ (y : Node). y.made) o.2.same) ∙ same ∙ ap (λ (y : Node). y.made) r.2.same);
        early = λ k m there. (let o = was_kept k m there in subst (λ (x : ℕ). x < end) (sym (ap (λ (y : Node). y.made) o.2.same)) (t.early k o.0 o.1));
        asked = λ k m there. (let o = was_kept k m there in subst (λ (x : ℕ). zero < x) (sym (ap (λ (y : Node). y.requests) o.2.same)) (t.asked k o.0 o.1));
      }

  pub hold_kept : (w : List Element) → AllHold old w → AllHold new w
  hold_kept w all k m there x =
      let o = was_kept k m there in
      let held = all k o.0 o.1 in
      let high : m.made ≡ o.0.made = ap (λ (y : Node). y.made) o.2.same in
      let rows_are : content (key_at new) m.made k w ≡ content (key_at old) o.0.made k w = ap (λ (keys : ℕ → Option NodeKey). content keys m.made k w) keys_kept ∙ ap (λ (h : ℕ). content (key_at old) h k w) high in
      let finds : found m.memory x.tags ≡ found o.0.memory x.tags = ap (λ (es : List ((List ℕ) × Bindings)). lookup (λ q. is_eq (slice_cmp nat_cmp x.tags q)) es) o.2.rows in (
        (λ h. subst (λ (rs : List Row). IsIn x rs) (sym rows_are) ((held x).0 (sym finds ∙ h))),
        (λ i. finds ∙ (held x).1 (subst (λ (rs : List Row). IsIn x rs) rows_are i)),
      )

  pub hear_kept : (w : List Element) → AllHear old w → AllHear new w
  hear_kept w all =
      hear_alike old new w (λ k m there.
      let o = was_kept k m there in
      (o.0, o.1, record { key = ap (λ (x : Node). x.key) o.2.same; hears = ap (λ (x : Node). x.hears) o.2.same; none = λ h. none_same o.0.memory m.memory o.2.rows h })) all
