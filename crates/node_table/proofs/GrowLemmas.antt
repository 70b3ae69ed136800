-- The table as nodes come and go.
use Rattle.std.proofs.Common.{◌≡◌, ◌≢◌, ◌⊎◌, inl, inr, refl, sym, ap, subst, ◌∙◌, ℕ, zero, suc, ◌+◌, ◌<◌, List, [], Option, Some, None, arith}
use Rattle.std.proofs.lemmas.Option.{same_Some}
use Rattle.std.proofs.lemmas.Bool.{cases_eq}
use Rattle.std.specs.Prelude.{option_and_then}
use Rattle.defs_match.specs.Laws.{IsIn, ElementsDiffer}
use Rattle.defs_match.specs.Rows.{Row}
use Rattle.soar_wm.specs.declared.element.Element.{Element}
use Rattle.node_memory.specs.Held.{Holds, SameElements}
use Rattle.node_table.specs.declared.node.NodeKey.{NodeKey}
use Rattle.node_table.specs.declared.node.Node.{Node}
use Rattle.node_table.specs.Nodes.{key_at, key_of, uppers}
use Rattle.node_table.specs.Serving.{found, stepped, tags_after, AreIndexed, CanJoin}
use Rattle.node_table.specs.Content.{after, content, IsAbove, IsBelow, IsTable, AllHold}
use Rattle.node_table.specs.Making.{HoldsAt, IsFilled}
use Rattle.node_table.specs.Hearing.{HasNoRows, MayHear, AllHear}
use Rattle.node_table.proofs.HearLemmas.{hear_moves}
use Rattle.node_table.proofs.ContentLemmas.{after_same, content_at, content_step, content_one_each}

-- Where a table is part of another, the nodes of the first have the same rows in both.
module _ (part whole : ℕ → Option Node) (end : ℕ) (t : IsTable part end) (within : (n : ℕ) (node : Node) → part n ≡ Some node → whole n ≡ Some node) where
  pub content_same : (h n : ℕ) (node : Node) (w : List Element) → part n ≡ Some node → content (key_at whole) h n w ≡ content (key_at part) h n w
  content_same zero n node w here = refl
  content_same (suc h) n node w here =
      let one : key_at whole n ≡ node.key = ap (option_and_then key_of) (within n node here) in
      let two : key_at part n ≡ node.key = ap (option_and_then key_of) here in
      ap (λ (k : Option NodeKey). after k w (λ m. content (key_at whole) h m w)) one
      ∙ after_same node.key w (λ m. content (key_at whole) h m w) (λ m. content (key_at part) h m w) (λ key keyed m i.
      let a = (t.below n node key here keyed).each m i in
      content_same h m a.upper w a.there)
      ∙ ap (λ (k : Option NodeKey). after k w (λ m. content (key_at part) h m w)) (sym two)

-- A table holds its rows still when a part of it is left.
pub part_holds : (part whole : ℕ → Option Node) (end : ℕ) → IsTable part end → ((n : ℕ) (node : Node) → part n ≡ Some node → whole n ≡ Some node) → (w : List Element) → AllHold whole w → AllHold part w
part_holds part whole end t within w all n node here =
    subst (λ (rs : List Row). Holds (found node.memory) rs) (content_same part whole end t within node.made n node w here) (all n node (within n node here))

-- ---- a node that goes

pub table_less : (old new : ℕ → Option Node) (end n : ℕ) → IsTable old end → new n ≡ None → ((k : ℕ) → k ≢ n → new k ≡ old k)
    → ((k : ℕ) (node : Node) (key : NodeKey) → old k ≡ Some node → node.key ≡ Some key → IsIn n (uppers key) → ⊥)
    → IsTable new end × ((k : ℕ) (node : Node) → new k ≡ Some node → old k ≡ Some node)
table_less old new end n t gone others childless = (
  record {
    indexed = λ k m there. t.indexed k m (within k m there);
    roots = λ k m there. t.roots k m (within k m there);
    below = λ k m key there keyed.
        let b = t.below k m key (within k m there) keyed in
        let apart = λ (u : ℕ) (i : IsIn u (uppers key)) (e : u ≡ n). childless k m key (within k m there) keyed (subst (λ (x : ℕ). IsIn x (uppers key)) e i) in
        record {
          each = λ u i. (let a = b.each u i in record { upper = a.upper; there = others u (apart u i) ∙ a.there; made = a.made });
          parent = b.parent;
          above = others key.parent (apart key.parent (inl refl)) ∙ b.above;
          tags = b.tags;
          joined = b.joined;
        };
    once = λ k i m x there here. t.once k i m x (within k m there) (within i x here);
    early = λ k m there. t.early k m (within k m there);
    asked = λ k m there. t.asked k m (within k m there);
  },
  within,
)
  where
    within : (k : ℕ) (node : Node) → new k ≡ Some node → old k ≡ Some node
    within k node there = elim (cases_eq k n) [
      | inl e ↦ (let none : new k ≡ None = ap new e ∙ gone in absurd (cc))
      | inr ne ↦ sym (others k ne) ∙ there
    ]

-- ---- a node that comes

module _ (old new : ℕ → Option Node) (end n : ℕ) (t : IsTable old end) (node parent : Node) (key : NodeKey) (vacant : old n ≡ None) (here : new n ≡ Some node) (others : (k : ℕ) → k ≢ n → new k ≡ old k)
    (keyed : node.key ≡ Some key) (above : old key.parent ≡ Some parent) (live : (m : ℕ) → IsIn m (uppers key) → (u : Node) × (old m ≡ Some u)) (tags : node.tags ≡ tags_after key.step parent.tags) (made : node.made ≡ end) (requests : node.requests ≡ 1) (joins : CanJoin key.step parent.memory) (indexed : AreIndexed node.memory) where
  pub still_there : (k : ℕ) (m : Node) → old k ≡ Some m → new k ≡ Some m
  still_there k m there = elim (cases_eq k n) [
    | inl e ↦ (let none : old k ≡ None = ap old e ∙ vacant in absurd (cc))
    | inr ne ↦ others k ne ∙ there
  ]

  is_new : (k : ℕ) (m : Node) → new k ≡ Some m → ((k ≡ n) × (node ≡ m)) ⊎ (old k ≡ Some m)
  is_new k m there = elim (cases_eq k n) [
    | inl e ↦ inl (e, same_Some node m (sym here ∙ ap new (sym e) ∙ there))
    | inr ne ↦ inr (sym (others k ne) ∙ there)
  ]

  its_uppers : (m : ℕ) → IsIn m (uppers key) → IsAbove new node m
  its_uppers m i =
      let u = live m i in
      let early : u.0.made < end = t.early m u.0 u.1 in
      record { upper = u.0; there = still_there m u.0 u.1; made = subst (λ (x : ℕ). u.0.made < x) (sym made) early }

  its_below : IsBelow new node key
  its_below = record { each = its_uppers; parent = parent; above = still_there key.parent parent above; tags = tags; joined = joins }

  pub table_more : IsTable new (end + 1)
  table_more =
      record {
        indexed = λ k m there. elim (is_new k m there) [ inl e ↦ subst (λ (x : Node). AreIndexed x.memory) e.1 indexed | inr was ↦ t.indexed k m was ];
        roots = λ k m there none. elim (is_new k m there) [
          | inl e ↦ (let bad : Some key ≡ None = sym keyed ∙ ap (λ (x : Node). x.key) e.1 ∙ none in absurd (cc))
          | inr was ↦ t.roots k m was none
        ];
        below = λ k m q there own. elim (is_new k m there) [
          | inl e ↦ (
              let same : key ≡ q = same_Some key q (sym keyed ∙ ap (λ (x : Node). x.key) e.1 ∙ own) in
              subst (λ (x : Node). IsBelow new x q) e.1 (subst (λ (r : NodeKey). IsBelow new node r) same its_below))
          | inr was ↦ (
              let b = t.below k m q was own in
              record {
                each = λ u i. (let a = b.each u i in record { upper = a.upper; there = still_there u a.upper a.there; made = a.made });
                parent = b.parent;
                above = still_there q.parent b.parent b.above;
                tags = b.tags;
                joined = b.joined;
              })
        ];
        once = λ k i m x there also same. elim (is_new k m there) [
          | inl e ↦ elim (is_new i x also) [
            | inl f ↦ e.0 ∙ sym f.0
            | inr g ↦ (let b : x.made < end = t.early i x g in let a : m.made ≡ end = ap (λ (y : Node). y.made) (sym e.1) ∙ made in let s : m.made ≡ x.made = same in absurd (omega (arith, b, a, s)))
          ]
          | inr f ↦ elim (is_new i x also) [
            | inl e ↦ (let b : m.made < end = t.early k m f in let a : x.made ≡ end = ap (λ (y : Node). y.made) (sym e.1) ∙ made in let s : m.made ≡ x.made = same in absurd (omega (arith, b, a, s)))
            | inr g ↦ t.once k i m x f g same
          ]
        ];
        early = λ k m there. elim (is_new k m there) [
          | inl e ↦ (let a : m.made ≡ end = ap (λ (y : Node). y.made) (sym e.1) ∙ made in omega (arith, a))
          | inr was ↦ (let b : m.made < end = t.early k m was in omega (arith, b))
        ];
        asked = λ k m there. elim (is_new k m there) [
          | inl e ↦ (let a : m.requests ≡ 1 = ap (λ (y : Node). y.requests) (sym e.1) ∙ requests in omega (arith, a))
          | inr was ↦ t.asked k m was
        ];
      }

  -- a new node that holds what its step makes of the rows that it reads holds its own
  pub more_hold : (index w : List Element) → AllHold old w → SameElements index w → ElementsDiffer w → IsFilled old key index node.memory → AllHold new w
  more_hold index w all same differ filled k m there = elim (is_new k m there) [
    | inl e ↦ subst (λ (x : Node). Holds (found x.memory) (content (key_at new) x.made k w)) e.1 (subst (λ (i : ℕ). Holds (found node.memory) (content (key_at new) node.made i w)) (sym e.0) own)
    | inr was ↦ subst (λ (rs : List Row). Holds (found m.memory) rs) (sym (content_same old new end t still_there m.made k m w was)) (all k m was)
  ]
    where
      step : content (key_at new) node.made n w ≡ stepped key.step w (λ i. content (key_at new) (end + 1) i w) (content (key_at new) (end + 1) key.parent w)
      step = content_step new (end + 1) table_more n node key w here keyed

      held : (i : ℕ) → IsIn i (uppers key) → HoldsAt old i (content (key_at new) (end + 1) i w)
      held i at u there_ =
          subst (λ (rs : List Row). Holds (found u.memory) rs)
          (sym (content_at new (end + 1) table_more i u w (still_there i u there_) ∙ content_same old new end t still_there u.made i u w there_)) (all i u there_)

      own : Holds (found node.memory) (content (key_at new) node.made n w)
      own = subst (λ (rs : List Row). Holds (found node.memory) rs) (sym step)
          (filled (λ i. content (key_at new) (end + 1) i w) w held same
          (λ x y a b tags_. content_one_each (key_at new) node.made n w differ x y (subst (λ (rs : List Row). IsIn x rs) (sym step) a) (subst (λ (rs : List Row). IsIn y rs) (sym step) b) tags_))

  -- it hears enough, and so do the others
  pub more_hear : (w : List Element) → AllHear old w → MayHear old key w node.hears.rows node.hears.elements → AllHear new w
  more_hear w all enough k m q there own = elim (is_new k m there) [
    | inl e ↦ (
        let same : key ≡ q = same_Some key q (sym keyed ∙ ap (λ (x : Node). x.key) e.1 ∙ own) in
        subst (λ (x : Node). MayHear new q w x.hears.rows x.hears.elements) e.1
        (subst (λ (r : NodeKey). MayHear new r w node.hears.rows node.hears.elements) same (hear_moves old new key w node.hears.rows node.hears.elements (still_none key.parent parent above) enough)))
    | inr was ↦ (
        let b = t.below k m q was own in
        hear_moves old new q w m.hears.rows m.hears.elements (still_none q.parent b.parent b.above) (all k m q was own))
  ]
    where
      still_none : (p : ℕ) (u : Node) → old p ≡ Some u → HasNoRows old p → HasNoRows new p
      still_none p u there_ none x up = subst (λ (y : Node). Holds (found y.memory) []) (same_Some u x (sym (still_there p u there_) ∙ up)) (none u there_)
