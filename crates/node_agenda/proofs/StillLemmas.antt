-- Nodes that a change need not serve, since a side of theirs has nothing.
use Rattle.std.proofs.Common.{inl, inr, subst, ℕ, List, [], Option}
use Rattle.defs_match.specs.Laws.{IsIn}
use Rattle.defs_match.specs.Rows.{Row}
use Rattle.soar_wm.specs.declared.element.Element.{Element}
use Rattle.node_memory.specs.Changes.{RowsChange, ElementsChange}
use Rattle.node_memory.specs.Memories.{Found}
use Rattle.node_memory.specs.Held.{listed, Holds, SameElements}
use Rattle.node_memory.proofs.ChangeLemmas.{in_join}
use Rattle.node_table.proofs.KnownLemmas.{not_taken}
use Rattle.node_table.proofs.NegationLemmas.{in_kept}
use Rattle.node_table.specs.declared.node.Step.{Step}
use Rattle.node_table.specs.declared.node.Step.TheVariants.{Join, Negation}
use Rattle.node_table.specs.Serving.{LeavesOut, stepped}
use Rattle.node_table.specs.Hearing.{IsBarren}
use Rattle.node_agenda.specs.Agenda.{TakesNothing}

none_change : (xs ys : List Row) → ((x : Row) → IsIn x xs → ⊥) → ((x : Row) → IsIn x ys → ⊥) → RowsChange xs ys [] []
none_change xs ys before after = record { fresh = λ x h. absurd (after x h); here = λ x h. absurd h; lost = λ x h. absurd (before x h); away = λ x h g. g }

-- ---- no rows to read

none_made : (step : Step) (w : List Element) (up : ℕ → List Row) (rs : List Row) → ((x : Row) → IsIn x rs → ⊥) → (x : Row) → IsIn x (stepped step w up rs) → ⊥
none_made (Join p) w up rs none x i = (let from = in_join p w rs x i in none from.0 from.2)
none_made (Negation m) w up rs none x i = none x (in_kept (up m) rs x i).0

-- a parent that has no rows and tells nothing
pub rowless_rests : (step : Step) (w0 w1 : List Element) (up0 up1 : ℕ → List Row) (rows0 rows1 : List Row) (f : Found) → RowsChange rows0 rows1 [] [] → Holds f rows1 → Holds f []
    → RowsChange (stepped step w0 up0 rows0) (stepped step w1 up1 rows1) [] []
rowless_rests step w0 w1 up0 up1 rows0 rows1 f rc holds empty =
    none_change (stepped step w0 up0 rows0) (stepped step w1 up1 rows1) (none_made step w0 up0 rows0 (λ x i. elim (rc.lost x i) [ inl k ↦ none_after x k | inr k ↦ k ])) (none_made step w1 up1 rows1 none_after)
  where
    none_after : (x : Row) → IsIn x rows1 → ⊥
    none_after x i = (empty x).0 ((holds x).1 i)

-- ---- no elements to take

none_by : (step : Step) (w : List Element) (up : ℕ → List Row) (rs : List Row) → IsBarren step w → (x : Row) → IsIn x (stepped step w up rs) → ⊥
none_by (Join p) w up rs barren x i = (let from = in_join p w rs x i in subst (λ (l : List Row). IsIn x l) (not_taken p from.0 from.1 (barren from.1 from.3)) from.4)
none_by (Negation m) w up rs barren x i = barren

barren_same : (step : Step) (v w : List Element) → SameElements v w → IsBarren step v → IsBarren step w
barren_same (Join p) v w same barren = λ e i. barren e ((same e).1 i)
barren_same (Negation m) v w same barren = barren

barren_before : (step : Step) (w0 w1 : List Element) (come goes : Option Element) → ElementsChange w0 w1 (listed come) (listed goes) → LeavesOut step come goes → IsBarren step w1 → IsBarren step w0
barren_before (Join p) w0 w1 come goes ec out barren = λ e i. elim (ec.lost e i) [ inl k ↦ barren e k | inr k ↦ out.no_go e k ]
barren_before (Negation m) w0 w1 come goes ec out barren = barren

-- an element that it does not take comes or goes
pub barren_after : (step : Step) (w0 w1 : List Element) (come goes : Option Element) → ElementsChange w0 w1 (listed come) (listed goes) → LeavesOut step come goes → IsBarren step w0 → IsBarren step w1
barren_after (Join p) w0 w1 come goes ec out barren = λ e i. elim (ec.fresh e i) [ inl k ↦ barren e k | inr k ↦ out.no_come e k ]
barren_after (Negation m) w0 w1 come goes ec out barren = barren

-- a join that takes nothing, before and after
pub barren_rests : (step : Step) (w0 w1 elements : List Element) (up0 up1 : ℕ → List Row) (rows0 rows1 : List Row) (come goes : Option Element) → ElementsChange w0 w1 (listed come) (listed goes) → SameElements elements w1 → TakesNothing step elements come goes
    → RowsChange (stepped step w0 up0 rows0) (stepped step w1 up1 rows1) [] []
barren_rests step w0 w1 elements up0 up1 rows0 rows1 come goes ec same nothing =
    let after = barren_same step elements w1 same nothing.barren in
    none_change (stepped step w0 up0 rows0) (stepped step w1 up1 rows1) (none_by step w0 up0 rows0 (barren_before step w0 w1 come goes ec nothing.out after)) (none_by step w1 up1 rows1 after)
