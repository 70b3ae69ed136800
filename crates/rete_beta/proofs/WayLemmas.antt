-- A node holds the rows of the conditions on each way to it.
use Rattle.std.proofs.Common.{◌≡◌, inl, inr, refl, sym, subst, ◌∙◌, ℕ, List, [], ◌∷◌, Option, Some}
use Rattle.soar_rule.specs.declared.cond.Pattern.{Pattern}
use Rattle.soar_rule.specs.Conditions.{Condition, positive, Conditions, no_more, condition_and}
use Rattle.soar_wm.specs.declared.element.Element.{Element}
use Rattle.defs_match.specs.Laws.{IsIn, ElementsDiffer, IsNegation, NegationKeeps, followed_by, inside}
use Rattle.defs_match.specs.Rows.{Row, empty_row, rows}
use Rattle.node_memory.specs.Changes.{join}
use Rattle.node_memory.specs.Memories.{Found}
use Rattle.node_memory.specs.Held.{Holds}
use Rattle.node_memory.proofs.ChangeLemmas.{in_join, in_join_back}
use Rattle.join_parts.proofs.PrefixLemmas.{from_followed}
use Rattle.negation_parts.specs.Negations.{kept}
use Rattle.negation_parts.proofs.NegationLemmas.{SameRows, kept_found}
use Rattle.negation_parts.proofs.KeptLemmas.{kept_is}
use Rattle.node_table.specs.declared.node.Step.TheVariants.{Join, Negation}
use Rattle.node_table.specs.declared.node.NodeKey.{NodeKey}
use Rattle.node_table.specs.declared.node.Node.{Node}
use Rattle.node_table.specs.Nodes.{key_at}
use Rattle.node_table.specs.Content.{content, IsTable}
use Rattle.node_table.proofs.ContentLemmas.{key_here, content_at, content_step, root_content}
use Rattle.rete_beta.specs.Ways.{Way, at_root, by_join, by_negation, conditions_of, IsWay}

same_sides : (xs ys : List Row) → xs ≡ ys → SameRows xs ys
same_sides xs ys e x = ((λ i. subst (λ (l : List Row). IsIn x l) e i), (λ i. subst (λ (l : List Row). IsIn x l) (sym e) i))

then_same : (xs ys zs : List Row) → SameRows xs ys → SameRows ys zs → SameRows xs zs
then_same xs ys zs a b x = ((λ i. (b x).0 ((a x).0 i)), (λ i. (a x).1 ((b x).1 i)))

join_same : (p : Pattern) (w : List Element) (xs ys : List Row) → SameRows xs ys → SameRows (join p w xs) (join p w ys)
join_same p w xs ys same x = (
  (λ i. (let from = in_join p w xs x i in in_join_back p w ys x from.0 from.1 ((same from.0).0 from.2) from.3 from.4)),
  (λ i. (let from = in_join p w ys x i in in_join_back p w xs x from.0 from.1 ((same from.0).1 from.2) from.3 from.4)),
)

module _ (law : NegationKeeps) (nodes : ℕ → Option Node) (end : ℕ) (t : IsTable nodes end) (w : List Element) (differ : ElementsDiffer w) where
  keyed_of : (n : ℕ) (node : Node) (key : NodeKey) → nodes n ≡ Some node → key_at nodes n ≡ Some key → node.key ≡ Some key
  keyed_of n node key here is = sym (key_here nodes end t n node here) ∙ is

  -- the rows of a node that is read, by any number that is at least when it was made
  upper_rows : (m : ℕ) (u : Node) (rs : List Row) → nodes m ≡ Some u → SameRows (content (key_at nodes) u.made m w) rs → SameRows (content (key_at nodes) end m w) rs
  upper_rows m u rs here same = then_same (content (key_at nodes) end m w) (content (key_at nodes) u.made m w) rs (same_sides (content (key_at nodes) end m w) (content (key_at nodes) u.made m w) (content_at nodes end t m u w here)) same

  join_rows : (n m : ℕ) (node : Node) (p : Pattern) (cs : Conditions) → nodes n ≡ Some node → key_at nodes n ≡ Some (record { parent = m; step = Join p })
      → ((u : Node) → nodes m ≡ Some u → SameRows (content (key_at nodes) u.made m w) (rows cs w))
      → SameRows (content (key_at nodes) node.made n w) (rows (followed_by cs (condition_and (positive p) no_more)) w)
  join_rows n m node p cs here is deep =
      let key : NodeKey = record { parent = m; step = Join p } in
      let keyed = keyed_of n node key here is in
      let a = (t.below n node key here keyed).each m (inl refl) in
      let up = upper_rows m a.upper (rows cs w) a.there (deep a.upper a.there) in
      then_same (content (key_at nodes) node.made n w) (join p w (content (key_at nodes) end m w)) (rows (followed_by cs (condition_and (positive p) no_more)) w)
      (same_sides (content (key_at nodes) node.made n w) (join p w (content (key_at nodes) end m w)) (content_step nodes end t n node key w here keyed))
      (then_same (join p w (content (key_at nodes) end m w)) (join p w (rows cs w)) (rows (followed_by cs (condition_and (positive p) no_more)) w)
      (join_same p w (content (key_at nodes) end m w) (rows cs w) up)
      (same_sides (join p w (rows cs w)) (rows (followed_by cs (condition_and (positive p) no_more)) w) (sym (from_followed cs (condition_and (positive p) no_more) w (empty_row ∷ [])))))

  negation_rows : (n m i : ℕ) (node : Node) (c : Condition) (cs ds : Conditions) → nodes n ≡ Some node → key_at nodes n ≡ Some (record { parent = m; step = Negation i }) → IsNegation c → ds ≡ followed_by cs (inside c)
      → ((u : Node) → nodes m ≡ Some u → SameRows (content (key_at nodes) u.made m w) (rows cs w))
      → ((u : Node) → nodes i ≡ Some u → SameRows (content (key_at nodes) u.made i w) (rows ds w))
      → SameRows (content (key_at nodes) node.made n w) (rows (followed_by cs (condition_and c no_more)) w)
  negation_rows n m i node c cs ds here is neg within deep deeper =
      let key : NodeKey = record { parent = m; step = Negation i } in
      let keyed = keyed_of n node key here is in
      let b = t.below n node key here keyed in
      let a = b.each m (inl refl) in
      let d = b.each i (inr (inl refl)) in
      let up = upper_rows m a.upper (rows cs w) a.there (deep a.upper a.there) in
      let in_ = subst (λ (es : Conditions). SameRows (content (key_at nodes) end i w) (rows es w)) within (upper_rows i d.upper (rows ds w) d.there (deeper d.upper d.there)) in
      then_same (content (key_at nodes) node.made n w) (kept (content (key_at nodes) end i w) (content (key_at nodes) end m w)) (rows (followed_by cs (condition_and c no_more)) w)
      (same_sides (content (key_at nodes) node.made n w) (kept (content (key_at nodes) end i w) (content (key_at nodes) end m w)) (content_step nodes end t n node key w here keyed))
      (then_same (kept (content (key_at nodes) end i w) (content (key_at nodes) end m w)) (kept (rows (followed_by cs (inside c)) w) (rows cs w)) (rows (followed_by cs (condition_and c no_more)) w)
      (kept_found (content (key_at nodes) end i w) (content (key_at nodes) end m w) (rows (followed_by cs (inside c)) w) (rows cs w) up in_)
      (kept_is law cs c w differ neg))

  pub way_rows : (way : Way) (n : ℕ) (node : Node) → nodes n ≡ Some node → IsWay (key_at nodes) way n → SameRows (content (key_at nodes) node.made n w) (rows (conditions_of way) w)
  way_rows at_root n node here is = same_sides (content (key_at nodes) node.made n w) (empty_row ∷ []) (root_content (key_at nodes) node.made n w is)
  way_rows (by_join p up) n node here is = join_rows n is.0 node p (conditions_of up) here is.1 (λ u at. way_rows up is.0 u at is.2)
  way_rows (by_negation c up within) n node here is =
      negation_rows n is.0 is.1 node c (conditions_of up) (conditions_of within) here is.2 is.5 is.6 (λ u at. way_rows up is.0 u at is.3) (λ u at. way_rows within is.1 u at is.4)

pub holds_same : (f : Found) (xs ys : List Row) → Holds f xs → SameRows xs ys → Holds f ys
holds_same f xs ys holds same x = ((λ h. (same x).0 ((holds x).0 h)), (λ i. (holds x).1 ((same x).1 i)))
