-- What is told of a change, of the rows of conditions.
use Rattle.std.proofs.Common.{◌≡◌, inl, inr, refl, sym, ap, subst, ◌∙◌, Bool, true, false, cond, ◌==◌, ℕ, zero, suc, List, [], ◌∷◌, ◌++◌, map, length, Option, Some, None, slice_index_or, arith}
use Rattle.std.specs.Prelude.{option_and_then, IsSome}
use Rattle.std.specs.Option.{option_map}
use Rattle.soar_wm.specs.declared.element.Element.{Element}
use Rattle.defs_match.specs.Conflict.{instance_of}
use Rattle.defs_match.specs.Laws.{IsIn, ElementsDiffer, NegationKeeps}
use Rattle.defs_match.specs.Rows.{Row, rows}
use Rattle.defs_match.specs.Testing.{Bindings}
use Rattle.defs_match.specs.declared.instance.Instance.{Instance}
use Rattle.node_memory.specs.Changes.{RowsChange, tags_of}
use Rattle.node_memory.specs.Held.{Holds}
use Rattle.node_memory.specs.Memories.{Found, row_found}
use Rattle.node_memory.proofs.ChangeLemmas.{in_left, in_right, in_map_back}
use Rattle.negation_parts.proofs.NegationLemmas.{SameRows}
use Rattle.node_table.specs.declared.node.NodeKey.{NodeKey}
use Rattle.node_table.specs.declared.node.Node.{Node}
use Rattle.node_table.specs.Nodes.{key_at as table_key, key_of as table_key_of}
use Rattle.node_table.specs.Content.{content, IsTable}
use Rattle.node_agenda.specs.Agenda.{AreServed, AllTell}
use Rattle.rete_beta.specs.Joins.{JoinsOf, Told, nothing_told, key_of}
use Rattle.rete_beta.specs.Networks.{SameAsked, asked_of}
use Rattle.rete_beta.specs.Told.{AreTold, IsRowOf, IsTold, IsToldIn, tags_told, told_in, told_of}
use Rattle.rete_beta.specs.Ways.{IsWay, conditions_of}
use Rattle.rete_beta.proofs.ViewLemmas.{keys_in, live_in}
use Rattle.rete_beta.proofs.WayLemmas.{way_rows}

-- ---- rows

-- what two lists tell of a change is told, where their tags are
change_told : (a b come : List Row) (gone : List (List ℕ)) (told : List ℕ → Type 0) → RowsChange a b come gone → ((x : Row) → IsIn x come → told x.tags) → ((t : List ℕ) → IsIn t gone → told t) → AreTold told a b
change_told a b come gone told rc came went x none = (
  (λ i. elim (rc.lost x i) [ inl j ↦ j | inr g ↦ absurd (none (went x.tags g)) ]),
  (λ i. elim (rc.fresh x i) [ inl j ↦ j | inr k ↦ absurd (none (came x k)) ]),
)

told_same : (told : List ℕ → Type 0) (a b c d : List Row) → SameRows a c → SameRows b d → AreTold told a b → AreTold told c d
told_same told a b c d ac bd h x none = (let k = h x none in ((λ i. (bd x).0 (k.0 ((ac x).1 i))), (λ i. (ac x).0 (k.1 ((bd x).1 i)))))

-- ---- nodes

-- a node tells of its rows, if it was served
told_here : (nodes : ℕ → Option Node) (stamp : ℕ) (served : List ℕ) (w0 w1 : List Element) → AreServed nodes stamp served → AllTell nodes stamp w0 w1 → (n : ℕ) (node : Node) → nodes n ≡ Some node
    → AreTold (λ tags. IsIn n served × IsIn tags (tags_told (told_of node))) (content (table_key nodes) node.made n w0) (content (table_key nodes) node.made n w1)
told_here nodes stamp served w0 w1 listed all n node here = by (node.stamp == stamp) refl
  where
    before : List Row
    before = content (table_key nodes) node.made n w0

    after : List Row
    after = content (table_key nodes) node.made n w1

    change : (b : Bool) → (node.stamp == stamp) ≡ b → RowsChange before after (cond b node.come.items []) (cond b node.gone.items [])
    change b is = subst (λ (x : Bool). RowsChange before after (cond x node.come.items []) (cond x node.gone.items [])) is (all n node here)

    by : (b : Bool) → (node.stamp == stamp) ≡ b → AreTold (λ tags. IsIn n served × IsIn tags (tags_told (told_of node))) before after
    by true is =
        change_told before after node.come.items node.gone.items (λ tags. IsIn n served × IsIn tags (tags_told (told_of node))) (change true is)
        (λ x i. (listed n node here is, in_left x.tags (tags_of node.come.items) node.gone.items (in_map_back (λ (r : Row). r.tags) x node.come.items i)))
        (λ t i. (listed n node here is, in_right t (tags_of node.come.items) node.gone.items i))
    by false is = change_told before after [] [] (λ tags. IsIn n served × IsIn tags (tags_told (told_of node))) (change false is) (λ x i. absurd i) (λ t i. absurd i)

key_asked : (o : Option Node) → option_and_then table_key_of o ≡ option_and_then key_of (option_map asked_of o)
key_asked None = refl
key_asked (Some node) = refl

same_keys : (old new : ℕ → Option Node) → SameAsked old new → table_key old ≡ table_key new
same_keys old new same = λ i k. (key_asked (old k) ∙ ap (option_and_then key_of) (sym (same k)) ∙ sym (key_asked (new k))) i

still_live : (old new : ℕ → Option Node) → SameAsked old new → (n : ℕ) → IsSome (old n) → (node : Node) × (new n ≡ Some node)
still_live old new same n live = by (new n) refl (subst IsSome (sym (same n)) (asked_live (old n) live))
  where
    asked_live : (o : Option Node) → IsSome o → IsSome (option_map asked_of o)
    asked_live None h = h
    asked_live (Some node) h = refl

    by : (o : Option Node) → new n ≡ o → IsSome (option_map asked_of o) → (node : Node) × (new n ≡ Some node)
    by None at h = absurd (cc)
    by (Some node) at h = (node, at)

-- every live node tells of the rows of the conditions on the way to it
pub told_rows : NegationKeeps → (old new : ℕ → Option Node) (end stamp : ℕ) (served : List ℕ) (w0 w1 : List Element) → IsTable new end → SameAsked old new → ElementsDiffer w0 → ElementsDiffer w1
    → AreServed new stamp served → AllTell new stamp w0 w1 → IsToldIn old new w0 w1 served
told_rows law old new end stamp served w0 w1 t same d0 d1 listed all n way live is =
    let here = still_live old new same n live in
    let on = subst (λ (keys : ℕ → Option NodeKey). IsWay keys way n) (same_keys old new same) is in
    subst (λ (o : Option Node). AreTold (λ tags. IsIn n served × IsIn tags (tags_told (told_in o))) (rows (conditions_of way) w0) (rows (conditions_of way) w1)) (sym here.1)
    (told_same (λ tags. IsIn n served × IsIn tags (tags_told (told_of here.0))) (content (table_key new) here.0.made n w0) (content (table_key new) here.0.made n w1) (rows (conditions_of way) w0) (rows (conditions_of way) w1)
    (way_rows law new end t w0 d0 way n here.0 here.1 on) (way_rows law new end t w1 d1 way n here.0 here.1 on) (told_here new stamp served w0 w1 listed all n here.0 here.1))

-- ---- what callers see

told_in_view : (slots : List (Option Node)) (k : ℕ) → slice_index_or (map told_in slots) k nothing_told ≡ told_in (slice_index_or slots k None)
told_in_view [] k = refl
told_in_view (o ∷ slots) zero = refl
told_in_view (o ∷ slots) (suc k) = told_in_view slots k

pub tells_in : (v : JoinsOf) (slots : List (Option Node)) (n : ℕ) → v.told ≡ map told_in slots → told_in (slice_index_or slots n None) ≡ slice_index_or v.told n nothing_told
tells_in v slots n is = sym (ap (λ (l : List Told). slice_index_or l n nothing_told) is ∙ told_in_view slots n)

pub told_shown : (v0 v1 : JoinsOf) (xs ys : List (Option Node)) (w : List Element) → v0.nodes ≡ map (option_map asked_of) xs → w ≡ v0.elements → v1.told ≡ map told_in ys → (served : List ℕ)
    → IsToldIn (λ k. slice_index_or xs k None) (λ k. slice_index_or ys k None) w v1.elements served → IsTold v0 v1 served
told_shown v0 v1 xs ys w e0 elements e1 served h n way live is =
    subst (λ (u : List Element). AreTold (λ tags. IsIn n served × IsIn tags (tags_told (slice_index_or v1.told n nothing_told))) (rows (conditions_of way) u) (rows (conditions_of way) v1.elements)) elements
    (subst (λ (t : Told). AreTold (λ tags. IsIn n served × IsIn tags (tags_told t)) (rows (conditions_of way) w) (rows (conditions_of way) v1.elements)) (tells_in v1 ys n e1)
    (h n way (live_in v0 xs n e0 live) (subst (λ (keys : ℕ → Option NodeKey). IsWay keys way n) (keys_in v0 xs e0) is)))

-- ---- one row

pub row_is : (f : Found) (rs : List Row) (tags : List ℕ) → Holds f rs → IsRowOf rs tags (option_map (λ (bs : Bindings). instance_of 0 (record { tags = tags; bindings = bs })) (f tags))
row_is f rs tags holds = by (f tags) refl
  where
    by : (o : Option Bindings) → f tags ≡ o → IsRowOf rs tags (option_map (λ (bs : Bindings). instance_of 0 (record { tags = tags; bindings = bs })) o)
    by None none = λ x i same. (let bad : None ≡ Some x.bindings = sym none ∙ ap f (sym same) ∙ (holds x).1 i in cc)
    by (Some bs) is = (let r : Row = record { tags = tags; bindings = bs } in (r, (holds r).0 is, refl, refl))

-- a map that finds no row
pub none_found : (tags : List ℕ) (o : Option Bindings) (items : List Row) → items ≡ row_found tags o → length items ≡ 0 → None ≡ option_map (λ (bs : Bindings). instance_of 0 (record { tags = tags; bindings = bs })) o
none_found tags None items is empty = refl
none_found tags (Some bs) items is empty = (let bad : 1 ≡ 0 = sym (ap length is) ∙ empty in absurd (omega (arith, bad)))

-- the one that is found stands last
pub one_found : (tags : List ℕ) (o : Option Bindings) (rest : List Row) (row : Row) → row_found tags o ≡ rest ++ row ∷ [] → Some (instance_of 0 row) ≡ option_map (λ (bs : Bindings). instance_of 0 (record { tags = tags; bindings = bs })) o
one_found tags None [] row is = absurd (cc)
one_found tags None (r ∷ rest) row is = absurd (cc)
one_found tags (Some bs) [] row is = ap (λ (l : List Row). first l) (sym is)
  where
    first : List Row → Option Instance
    first [] = None
    first (r ∷ l) = Some (instance_of 0 r)
one_found tags (Some bs) (r ∷ rest) row is = (let bad : 1 ≡ length ((r ∷ rest) ++ row ∷ []) = ap length is in absurd (longer rest row bad))
  where
    longer : (rest : List Row) (row : Row) → 1 ≡ length ((r ∷ rest) ++ row ∷ []) → ⊥
    longer [] row h = omega (arith, h)
    longer (q ∷ rest) row h = omega (arith, h)
