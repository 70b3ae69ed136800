-- A network of the root alone.
use Rattle.std.proofs.Common.{◌≡◌, ◌≢◌, inl, inr, refl, sym, ap, subst, ◌∙◌, Bool, true, false, ℕ, zero, ◌<◌, List, [], ◌∷◌, Option, Some, None, slice_index_or, arith}
use Rattle.std.proofs.lemmas.Option.{same_Some}
use Rattle.std.proofs.lemmas.Bool.{cases_eq}
use Rattle.std.specs.Prelude.{option_and_then}
use Rattle.std.specs.Option.{option_map}
use Rattle.soar_wm.specs.declared.element.Element.{Element}
use Rattle.defs_match.specs.Laws.{IsIn}
use Rattle.defs_match.specs.Rows.{empty_row}
use Rattle.rete_alpha.specs.Alphas.{no_patterns}
use Rattle.node_memory.specs.Held.{Holds}
use Rattle.node_table.specs.declared.node.NodeKey.{NodeKey}
use Rattle.node_table.specs.declared.node.Node.{Node}
use Rattle.node_table.specs.Nodes.{key_at, IsNumbered}
use Rattle.node_table.specs.Serving.{found, AreIndexed}
use Rattle.node_table.specs.Content.{content, IsTable, AllHold}
use Rattle.node_table.specs.Asked.{asker, asker_by, IsAsked}
use Rattle.node_table.specs.Making.{Seen, seen, seen_at}
use Rattle.node_table.specs.Hearing.{AllHear}
use Rattle.node_table.proofs.AskedLemmas.{asks_at, alike_asked}
use Rattle.node_agenda.specs.declared.turns.TurnKey.{TurnKey}
use Rattle.node_agenda.specs.Links.{seen_turn, links_by, links_of, takers_by, takers_of, where_heard, IsSpread}
use Rattle.rete_beta.specs.Networks.{IsRoot, StartsWith, asked_of}
use Rattle.rete_beta.proofs.NetworkLemmas.{node_keyed}

module _ (slots : List (Option Node)) (root : Node) (is : IsRoot root) (here : slice_index_or slots 0 None ≡ Some root) (others : (k : ℕ) → k ≢ 0 → slice_index_or slots k None ≡ None) where
  only : (k : ℕ) (node : Node) → slice_index_or slots k None ≡ Some node → (k ≡ 0) × (root ≡ node)
  only k node there = elim (cases_eq k 0) [
    | inl e ↦ (e, same_Some root node (sym here ∙ ap (λ (i : ℕ). slice_index_or slots i None) (sym e) ∙ there))
    | inr ne ↦ (let bad : None ≡ Some node = sym (others k ne) ∙ there in absurd (cc))
  ]

  unkeyed : (k : ℕ) (node : Node) → slice_index_or slots k None ≡ Some node → node.key ≡ None
  unkeyed k node there = ap (λ (x : Node). x.key) (sym (only k node there).1) ∙ is.key

  pub start_table : IsTable (λ k. slice_index_or slots k None) 1
  start_table = record {
    indexed = λ k node there. subst (λ (x : Node). AreIndexed x.memory) (only k node there).1 is.indexed;
    roots = λ k node there none. ap (λ (x : Node). x.tags) (sym (only k node there).1) ∙ is.tags;
    below = λ k node key there keyed. (let bad : None ≡ Some key = sym (unkeyed k node there) ∙ keyed in absurd (cc));
    once = λ k i node other there also same. (only k node there).0 ∙ sym (only i other also).0;
    early = λ k node there. (let made : node.made ≡ 0 = ap (λ (x : Node). x.made) (sym (only k node there).1) ∙ is.made in omega (arith, made));
    asked = λ k node there. (let some : node.requests ≡ 1 = ap (λ (x : Node). x.requests) (sym (only k node there).1) ∙ is.requests in omega (arith, some));
  }

  pub start_numbered : (number : NodeKey → Option ℕ) → ((key : NodeKey) → number key ≡ None) → IsNumbered number (key_at (λ k. slice_index_or slots k None))
  start_numbered number none key n = (
    (λ h. (let bad : None ≡ Some n = sym (none key) ∙ h in absurd (cc))),
    (λ h.
        let node = node_keyed (λ k. slice_index_or slots k None) n key h in
        let bad : None ≡ Some key = sym (unkeyed n node.0 node.1) ∙ node.2 in
        absurd (cc)),
  )

  none_asks : (k : ℕ) → asks_at slots k ≡ None
  none_asks k = by (slice_index_or slots k None) refl
    where
      by : (o : Option Node) → slice_index_or slots k None ≡ o → option_and_then asker o ≡ None
      by None at = refl
      by (Some node) at = ap (asker_by node.alpha) (unkeyed k node at)

  pub start_asked : IsAsked slots no_patterns
  start_asked = alike_asked [] slots no_patterns (record { counted = λ a. refl; patterned = λ k q there. absurd (cc) }) none_asks

  nowhere : (b : Bool) → where_heard b [] ≡ []
  nowhere true = refl
  nowhere false = refl

  none_linked : (k : ℕ) → links_of (seen_at (λ i. slice_index_or slots i None) k) k ≡ []
  none_linked k = by (slice_index_or slots k None) refl
    where
      by : (o : Option Node) → slice_index_or slots k None ≡ o → links_of (option_map seen o) k ≡ []
      by None at = refl
      by (Some node) at = ap (λ (key : Option NodeKey). where_heard node.hears.rows (links_by key (seen_turn (seen node) k))) (unkeyed k node at) ∙ nowhere node.hears.rows

  none_takes : (k : ℕ) → takers_of (seen_at (λ i. slice_index_or slots i None) k) k ≡ []
  none_takes k = by (slice_index_or slots k None) refl
    where
      by : (o : Option Node) → slice_index_or slots k None ≡ o → takers_of (option_map seen o) k ≡ []
      by None at = refl
      by (Some node) at = ap (λ (key : Option NodeKey). where_heard node.hears.elements (takers_by (asker_by node.alpha key) (seen_turn (seen node) k))) (unkeyed k node at) ∙ nowhere node.hears.elements

  pub start_links : IsSpread links_of (seen_at (λ k. slice_index_or slots k None)) []
  start_links c = ((λ i. absurd i), (λ i. subst (λ (l : List TurnKey). IsIn c l) (none_linked c.turn.node) i))

  pub start_takers : IsSpread takers_of (seen_at (λ k. slice_index_or slots k None)) []
  start_takers c = ((λ i. absurd i), (λ i. subst (λ (l : List TurnKey). IsIn c l) (none_takes c.turn.node) i))

  pub start_hear : (w : List Element) → AllHear (λ k. slice_index_or slots k None) w
  start_hear w k node key there keyed = (let bad : None ≡ Some key = sym (unkeyed k node there) ∙ keyed in absurd (cc))

  pub start_stamps : (k : ℕ) (s : Seen) → seen_at (λ i. slice_index_or slots i None) k ≡ Some s → s.stamp < 1
  start_stamps k s there = by (slice_index_or slots k None) refl there
    where
      by : (o : Option Node) → slice_index_or slots k None ≡ o → option_map seen o ≡ Some s → s.stamp < 1
      by None at h = absurd (cc)
      by (Some node) at h =
          let own : node.stamp ≡ s.stamp = ap (λ (x : Seen). x.stamp) (same_Some (seen node) s h) in
          let first : node.stamp ≡ 0 = ap (λ (x : Node). x.stamp) (sym (only k node at).1) ∙ is.stamp in
          omega (arith, own, first)

  pub start_holds : (w : List Element) → AllHold (λ k. slice_index_or slots k None) w
  start_holds w k node there =
      let own = (only k node there).1 in
      let made : node.made ≡ zero = ap (λ (x : Node). x.made) (sym own) ∙ is.made in
      subst (λ (h : ℕ). Holds (found node.memory) (content (key_at (λ i. slice_index_or slots i None)) h k w)) (sym made)
      (subst (λ (x : Node). Holds (found x.memory) (empty_row ∷ [])) own is.holds)

  pub start_root : (s : Seen) × (seen_at (λ k. slice_index_or slots k None) 0 ≡ Some s) × (s.key ≡ None)
  start_root = (seen root, ap (option_map seen) here, is.key)

  pub starts_with : StartsWith (λ k. slice_index_or slots k None)
  starts_with = record {
    root = ap (option_map asked_of) here ∙ (λ i. Some (record { key = is.key i; requests = is.requests i }));
    others = others;
  }
