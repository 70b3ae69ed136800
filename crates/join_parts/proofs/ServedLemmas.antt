-- What a join computes from the changes of its two sides is the change of its rows.
use Rattle.std.proofs.Common.{◌≡◌, false, ◌↔◌, inl, inr, refl, sym, subst, ℕ, List, [], ◌∷◌, Option, Some, None}
use Rattle.defs_match.specs.Laws.{IsIn}
use Rattle.defs_match.specs.Rows.{Row, by_element}
use Rattle.soar_rule.specs.declared.cond.Pattern.{Pattern}
use Rattle.soar_wm.specs.declared.element.Element.{Element}
use Rattle.node_memory.specs.Changes.{join, below, tags_of, RowsChange, ElementsChange, join_come, join_gone}
use Rattle.node_memory.specs.Memories.{Found}
use Rattle.join_parts.specs.Joins.{IsOfOne, GoesFrom, ComesTo}
use Rattle.rete_alpha.specs.Taking.{takes}
use Rattle.join_parts.specs.Known.{constants_of}
use Rattle.join_parts.proofs.KnownLemmas.{not_taken}
use Rattle.node_memory.specs.Held.{listed, Holds, SameElements}
use Rattle.node_memory.proofs.ChangeLemmas.{in_append, in_left, in_right, in_map, in_map_back, in_join, in_join_back, join_changes}

-- lists with the same rows and tags tell the same change
pub change_same : (old new come come1 : List Row) (gone gone1 : List (List ℕ)) → RowsChange old new come gone → ((x : Row) → IsIn x come1 ↔ IsIn x come) → ((t : List ℕ) → IsIn t gone1 ↔ IsIn t gone)
    → RowsChange old new come1 gone1
change_same old new come come1 gone gone1 c same_come same_gone =
    record {
      fresh = λ x h. elim (c.fresh x h) [ inl i ↦ inl i | inr i ↦ inr ((same_come x).1 i) ];
      here = λ x h. c.here x ((same_come x).0 h);
      lost = λ x h. elim (c.lost x h) [ inl i ↦ inl i | inr i ↦ inr ((same_gone x.tags).1 i) ];
      away = λ x h g. c.away x h ((same_gone x.tags).0 g);
    }

-- what one element makes
of_listed : (p : Pattern) (o : Option Element) (found : Found) (rows : List Row) → Holds found rows → (x : Row) → IsOfOne p o found x ↔ IsIn x (join p (listed o) rows)
of_listed p None found rows holds x = ((λ h. absurd h), λ h. (let from = in_join p [] rows x h in absurd (from.3)))
of_listed p (Some e) found rows holds x = (
  (λ r. in_join_back p (e ∷ []) rows x r.0 e ((holds r.0).0 r.1) (inl refl) r.2),
  (λ h.
      let from = in_join p (e ∷ []) rows x h in
      elim (from.3) [
        | inl same ↦ (from.0, (holds from.0).1 from.2, subst (λ (d : Element). IsIn x (by_element p from.0 d)) (sym same) from.4)
        | inr i ↦ absurd i
      ]),
)

same_join : (p : Pattern) (v w : List Element) (rs : List Row) → SameElements v w → (x : Row) → IsIn x (join p v rs) ↔ IsIn x (join p w rs)
same_join p v w rs same x = (
  (λ h. let from = in_join p v rs x h in in_join_back p w rs x from.0 from.1 from.2 ((same from.1).0 from.3) from.4),
  (λ h. let from = in_join p w rs x h in in_join_back p v rs x from.0 from.1 from.2 ((same from.1).1 from.3) from.4),
)

-- The lists that a join computes tell the change of its rows, for whatever rows its parent had and has.
pub join_served : (p : Pattern) (rows0 rows1 rows_come come_list : List Row) (rows_gone keys gone_list : List (List ℕ)) (w0 w1 index : List Element) (come goes : Option Element) (found : Found)
    → RowsChange rows0 rows1 rows_come rows_gone → ElementsChange w0 w1 (listed come) (listed goes) → Holds found rows1 → SameElements index w1
    → ((x : Row) → IsIn x (join p w0 rows0) → IsIn x.tags keys)
    → ComesTo p index rows_come come found come_list → GoesFrom p found keys rows_gone goes gone_list
    → RowsChange (join p w0 rows0) (join p w1 rows1) come_list gone_list
join_served p rows0 rows1 rows_come come_list rows_gone keys gone_list w0 w1 index come goes found rc ec holds same kept comes leaves =
    change_same (join p w0 rows0) (join p w1 rows1) (join_come p w1 rows1 (listed come) rows_come) come_list (join_gone p rows1 (listed goes) rows_gone keys) gone_list
    (join_changes p rows0 rows1 rows_come rows_gone keys w0 w1 (listed come) (listed goes) rc ec kept)
    (λ x. (
      (λ h. elim ((comes x).0 h) [
        | inl i ↦ in_left x (join p w1 rows_come) (join p (listed come) rows1) ((same_join p index w1 rows_come same x).0 i)
        | inr i ↦ in_right x (join p w1 rows_come) (join p (listed come) rows1) ((of_listed p come found rows1 holds x).0 i)
      ]),
      (λ h. (comes x).1 (elim (in_append x (join p w1 rows_come) (join p (listed come) rows1) h) [
        | inl i ↦ inl ((same_join p index w1 rows_come same x).1 i)
        | inr i ↦ inr ((of_listed p come found rows1 holds x).1 i)
      ])),
    ))
    (λ t. (
      (λ h. elim ((leaves t).0 h) [
        | inl i ↦ in_left t (below keys rows_gone) (tags_of (join p (listed goes) rows1)) i
        | inr x ↦ in_right t (below keys rows_gone) (tags_of (join p (listed goes) rows1))
            (subst (λ (u : List ℕ). IsIn u (tags_of (join p (listed goes) rows1))) x.2 (in_map_back (λ (r : Row). r.tags) x.0 (join p (listed goes) rows1) ((of_listed p goes found rows1 holds x.0).0 x.1)))
      ]),
      (λ h. (leaves t).1 (elim (in_append t (below keys rows_gone) (tags_of (join p (listed goes) rows1)) h) [
        | inl i ↦ inl i
        | inr i ↦ (let x = in_map (λ (r : Row). r.tags) t (join p (listed goes) rows1) i in inr (x.0, (of_listed p goes found rows1 holds x.0).1 x.1, x.2))
      ])),
    ))

-- ---- a join that need not be served

pub rests : (p : Pattern) (rows0 rows1 : List Row) (w0 w1 : List Element) (come goes : Option Element) → RowsChange rows0 rows1 [] [] → ElementsChange w0 w1 (listed come) (listed goes)
    → ((e : Element) → IsIn e (listed come) → takes (constants_of p) e ≡ false) → ((e : Element) → IsIn e (listed goes) → takes (constants_of p) e ≡ false)
    → RowsChange (join p w0 rows0) (join p w1 rows1) [] []
rests p rows0 rows1 w0 w1 come goes rc ec no_come no_go =
    record {
      fresh = λ x h.
          let from = in_join p w1 rows1 x h in
          elim (rc.fresh from.0 from.2) [
            | inr i ↦ absurd i
            | inl i ↦ elim (ec.fresh from.1 from.3) [ inl j ↦ inl (in_join_back p w0 rows0 x from.0 from.1 i j from.4) | inr j ↦ absurd (nothing x from.0 from.1 (no_come from.1 j) from.4) ]
          ];
      here = λ x h. absurd h;
      lost = λ x h.
          let from = in_join p w0 rows0 x h in
          elim (rc.lost from.0 from.2) [
            | inr i ↦ absurd i
            | inl i ↦ elim (ec.lost from.1 from.3) [ inl j ↦ inl (in_join_back p w1 rows1 x from.0 from.1 i j from.4) | inr j ↦ absurd (nothing x from.0 from.1 (no_go from.1 j) from.4) ]
          ];
      away = λ x h g. g;
    }
  where
    nothing : (x r : Row) (e : Element) → takes (constants_of p) e ≡ false → IsIn x (by_element p r e) → ⊥
    nothing x r e out h = subst (λ (l : List Row). IsIn x l) (not_taken p r e out) h
