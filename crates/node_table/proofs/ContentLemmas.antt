-- The rows of the nodes of a table.
use Rattle.std.proofs.Common.{◌≡◌, inl, inr, refl, sym, ap, subst, ◌∙◌, ℕ, zero, suc, ◌+◌, ◌<◌, ◌≤◌, length, length-append, List, [], ◌∷◌, Option, Some, None, arith}
use Rattle.std.proofs.lemmas.Option.{same_Some}
use Rattle.std.specs.Prelude.{option_and_then}
use Rattle.defs_match.specs.Laws.{IsIn, ElementsDiffer}
use Rattle.defs_match.specs.Rows.{Row, empty_row}
use Rattle.soar_wm.specs.declared.element.Element.{Element}
use Rattle.node_memory.specs.Changes.{OneEach, OneEachElement, RowsChange, ElementsChange}
use Rattle.node_memory.specs.Held.{listed}
use Rattle.node_memory.proofs.ChangeLemmas.{in_join, by_tags, join_one_each}
use Rattle.join_parts.proofs.ServedLemmas.{rests}
use Rattle.negation_parts.specs.Negations.{AllLong, kept}
use Rattle.negation_parts.proofs.NegationLemmas.{in_kept, kept_one_each, kept_rests}
use Rattle.node_table.specs.declared.node.Step.{Step}
use Rattle.node_table.specs.declared.node.Step.TheVariants.{Join, Negation}
use Rattle.node_table.specs.declared.node.NodeKey.{NodeKey}
use Rattle.node_table.specs.declared.node.Node.{Node}
use Rattle.node_table.specs.Nodes.{key_at, key_of, inner_of, uppers}
use Rattle.node_table.specs.Serving.{LeavesOut, stepped, tags_after}
use Rattle.node_table.specs.Content.{after, content, IsBelow, IsTable}

-- ---- rows differ in their tags

elements_one_each : (w : List Element) → ElementsDiffer w → OneEachElement w
elements_one_each [] differ d e i j same = absurd i
elements_one_each (f ∷ w) differ d e (inl a) (inl b) same = sym a ∙ b
elements_one_each (f ∷ w) differ d e (inl a) (inr j) same = absurd (differ.0 e j (sym same ∙ ap (λ (x : Element). x.tag) (sym a)))
elements_one_each (f ∷ w) differ d e (inr i) (inl b) same = absurd (differ.0 d i (same ∙ ap (λ (x : Element). x.tag) (sym b)))
elements_one_each (f ∷ w) differ d e (inr i) (inr j) same = elements_one_each w differ.1 d e i j same

one_row : OneEach (empty_row ∷ [])
one_row x y (inl a) (inl b) same = sym a ∙ b
one_row x y (inl a) (inr j) same = absurd j
one_row x y (inr i) j same = absurd i

pub step_one_each : (step : Step) (w : List Element) (up : ℕ → List Row) (rs : List Row) → ElementsDiffer w → OneEach rs → OneEach (stepped step w up rs)
step_one_each (Join p) w up rs differ one = join_one_each p w rs (elements_one_each w differ) one
step_one_each (Negation m) w up rs differ one = kept_one_each (up m) rs one

after_one_each : (key : Option NodeKey) (w : List Element) (up : ℕ → List Row) → ElementsDiffer w → ((m : ℕ) → OneEach (up m)) → OneEach (after key w up)
after_one_each None w up differ one = one_row
after_one_each (Some key) w up differ one = step_one_each key.step w up (up key.parent) differ (one key.parent)

pub content_one_each : (keys : ℕ → Option NodeKey) (h n : ℕ) (w : List Element) → ElementsDiffer w → OneEach (content keys h n w)
content_one_each keys zero n w differ = one_row
content_one_each keys (suc h) n w differ = after_one_each (keys n) w (λ m. content keys h m w) differ (λ m. content_one_each keys h m w differ)

-- ---- rows that others do not change

step_same : (step : Step) (w : List Element) (f g : ℕ → List Row) (rs : List Row) → ((m : ℕ) → IsIn m (inner_of step) → f m ≡ g m) → stepped step w f rs ≡ stepped step w g rs
step_same (Join p) w f g rs same = refl
step_same (Negation m) w f g rs same = ap (λ (i : List Row). kept i rs) (same m (inl refl))

-- a step that reads the same rows makes the same
pub reads_same : (key : NodeKey) (w : List Element) (f g : ℕ → List Row) → ((m : ℕ) → IsIn m (uppers key) → f m ≡ g m) → stepped key.step w f (f key.parent) ≡ stepped key.step w g (g key.parent)
reads_same key w f g same = ap (stepped key.step w f) (same key.parent (inl refl)) ∙ step_same key.step w f g (g key.parent) (λ m i. same m (inr i))

pub after_same : (key : Option NodeKey) (w : List Element) (f g : ℕ → List Row) → ((k : NodeKey) → key ≡ Some k → (m : ℕ) → IsIn m (uppers k) → f m ≡ g m) → after key w f ≡ after key w g
after_same None w f g same = refl
after_same (Some k) w f g same = reads_same k w f g (same k refl)

pub step_rests : (step : Step) (w0 w1 : List Element) (up0 up1 : ℕ → List Row) (rows0 rows1 : List Row) (come goes : Option Element) → RowsChange rows0 rows1 [] [] → ((m : ℕ) → IsIn m (inner_of step) → RowsChange (up0 m) (up1 m) [] [])
    → ElementsChange w0 w1 (listed come) (listed goes) → LeavesOut step come goes → RowsChange (stepped step w0 up0 rows0) (stepped step w1 up1 rows1) [] []
step_rests (Join p) w0 w1 up0 up1 rows0 rows1 come goes rc inner ec out = rests p rows0 rows1 w0 w1 come goes rc ec out.no_come out.no_go
step_rests (Negation m) w0 w1 up0 up1 rows0 rows1 come goes rc inner ec out = kept_rests (up0 m) (up1 m) rows0 rows1 (inner m (inl refl)) rc

-- ---- how many tags a row has

step_long : (step : Step) (w : List Element) (up : ℕ → List Row) (rs : List Row) (n : ℕ) → AllLong n rs → AllLong (tags_after step n) (stepped step w up rs)
step_long (Join p) w up rs n long r i =
    let from = in_join p w rs r i in
    let tags : length r.tags ≡ length (from.0.tags) + 1 = ap length (by_tags p from.0 r from.1 from.4) ∙ length-append from.0.tags (from.1.tag ∷ []) in
    let first : length (from.0.tags) ≡ n = long from.0 from.2 in
    omega (arith, tags, first)
step_long (Negation m) w up rs n long r i = long r (in_kept (up m) rs r i).0

no_tags : (n : ℕ) → n ≡ zero → AllLong n (empty_row ∷ [])
no_tags n is r (inl e) = sym (ap (λ (x : Row). length x.tags) e) ∙ sym is
no_tags n is r (inr i) = absurd i

before : (x y h : ℕ) → x < y → y ≤ suc h → x ≤ h
before x y h a b = omega (arith, a, b)

unkeyed_content : (keys : ℕ → Option NodeKey) (h n : ℕ) (w : List Element) → keys n ≡ None → content keys h n w ≡ empty_row ∷ []
unkeyed_content keys zero n w none = refl
unkeyed_content keys (suc h) n w none = ap (λ (o : Option NodeKey). after o w (λ m. content keys h m w)) none

pub root_content : (keys : ℕ → Option NodeKey) (h n : ℕ) (w : List Element) → keys n ≡ None → content keys h n w ≡ empty_row ∷ []
root_content keys h n w none = unkeyed_content keys h n w none

module _ (nodes : ℕ → Option Node) (end : ℕ) (t : IsTable nodes end) where
  pub parent_made : (node : Node) (key : NodeKey) (b : IsBelow nodes node key) → b.parent.made < node.made
  parent_made node key b =
      let a = b.each key.parent (inl refl) in
      subst (λ (x : Node). x.made < node.made) (same_Some a.upper b.parent (sym a.there ∙ b.above)) a.made

  pub key_here : (n : ℕ) (node : Node) → nodes n ≡ Some node → key_at nodes n ≡ node.key
  key_here n node here = ap (option_and_then key_of) here

  -- what was made first has no key
  unkeyed : (n : ℕ) (node : Node) → nodes n ≡ Some node → node.made ≤ zero → key_at nodes n ≡ None
  unkeyed n node here low = key_here n node here ∙ by node.key refl
    where
      by : (o : Option NodeKey) → node.key ≡ o → node.key ≡ None
      by None is = is
      by (Some key) is = (let a = (t.below n node key here is).each key.parent (inl refl) in let less : a.upper.made < node.made = a.made in absurd (omega (arith, less, low)))

  flat : (h n : ℕ) (node : Node) (w : List Element) → nodes n ≡ Some node → node.made ≤ zero → content (key_at nodes) h n w ≡ empty_row ∷ []
  flat h n node w here low = unkeyed_content (key_at nodes) h n w (unkeyed n node here low)

  -- each number that is at least when a node was made gives its rows
  pub content_stable : (h k n : ℕ) (node : Node) (w : List Element) → nodes n ≡ Some node → node.made ≤ h → node.made ≤ k → content (key_at nodes) h n w ≡ content (key_at nodes) k n w
  content_stable zero k n node w here low high = sym (flat k n node w here low)
  content_stable (suc h) zero n node w here low high = flat (suc h) n node w here high
  content_stable (suc h) (suc k) n node w here low high =
      after_same (key_at nodes n) w (λ m. content (key_at nodes) h m w) (λ m. content (key_at nodes) k m w) (λ key keyed m i.
      let a = (t.below n node key here (sym (key_here n node here) ∙ keyed)).each m i in
      content_stable h k m a.upper w a.there (before a.upper.made node.made h a.made low) (before a.upper.made node.made k a.made high))

  within : (n : ℕ) (node : Node) → nodes n ≡ Some node → node.made ≤ end
  within n node here = (let early : node.made < end = t.early n node here in omega (arith, early))

  pub content_at : (n : ℕ) (node : Node) (w : List Element) → nodes n ≡ Some node → content (key_at nodes) end n w ≡ content (key_at nodes) node.made n w
  content_at n node w here = content_stable end node.made n node w here (within n node here) (omega arith)

  -- the rows of a node, by those of the nodes that it reads
  pub content_step : (n : ℕ) (node : Node) (key : NodeKey) (w : List Element) → nodes n ≡ Some node → node.key ≡ Some key
      → content (key_at nodes) node.made n w ≡ stepped key.step w (λ m. content (key_at nodes) end m w) (content (key_at nodes) end key.parent w)
  content_step n node key w here keyed =
      content_stable node.made (suc end) n node w here (omega arith) (let in_ : node.made ≤ end = within n node here in omega (arith, in_))
      ∙ ap (λ (o : Option NodeKey). after o w (λ m. content (key_at nodes) end m w)) (key_here n node here ∙ keyed)

  long_root : (h n : ℕ) (node : Node) (w : List Element) → nodes n ≡ Some node → node.key ≡ None → AllLong node.tags (content (key_at nodes) h n w)
  long_root h n node w here none = subst (λ (rs : List Row). AllLong node.tags rs) (sym (unkeyed_content (key_at nodes) h n w (key_here n node here ∙ none))) (no_tags node.tags (t.roots n node here none))

  long_by : (h n : ℕ) (node : Node) (w : List Element) → nodes n ≡ Some node → (o : Option NodeKey) → node.key ≡ o
      → ((key : NodeKey) (b : IsBelow nodes node key) → AllLong b.parent.tags (content (key_at nodes) h key.parent w)) → AllLong node.tags (content (key_at nodes) (suc h) n w)
  long_by h n node w here None is deep = long_root (suc h) n node w here is
  long_by h n node w here (Some key) is deep =
      let b = t.below n node key here is in
      let up = λ (m : ℕ). content (key_at nodes) h m w in
      let rows_are : content (key_at nodes) (suc h) n w ≡ stepped key.step w up (up key.parent) = ap (λ (o : Option NodeKey). after o w up) (key_here n node here ∙ is) in
      subst (λ (rs : List Row). AllLong node.tags rs) (sym rows_are)
      (subst (λ (k : ℕ). AllLong k (stepped key.step w up (up key.parent))) (sym b.tags) (step_long key.step w up (up key.parent) b.parent.tags (deep key b)))

  -- each row has as many tags as its node says
  pub content_long : (h n : ℕ) (node : Node) (w : List Element) → nodes n ≡ Some node → node.made ≤ h → AllLong node.tags (content (key_at nodes) h n w)
  content_long zero n node w here low = long_root zero n node w here (sym (key_here n node here) ∙ unkeyed n node here low)
  content_long (suc h) n node w here low =
      long_by h n node w here node.key refl (λ key b. content_long h key.parent b.parent w b.above (before b.parent.made node.made h (parent_made node key b) low))
