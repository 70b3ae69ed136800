-- The goal that is broken, by tags.
use Rattle.std.proofs.Common.{◌≡◌, refl, sym, ap, ap₂, ℕ, suc, Bool, true, false, not, arith, List, [], ◌∷◌, length, Option, Some, None}
use Rattle.soar_sym.specs.declared.symbol.Triple.{Triple}
use Rattle.soar_wm.specs.declared.element.Element.{Element}
use Rattle.soar_wm.specs.WorkingMemory.{element_of, triple_of}
use Rattle.defs_soar.specs.declared.goal.Goal.{Goal}
use Rattle.defs_soar.specs.Dependencies.{dependency_set}
use Rattle.defs_soar.specs.History.{RecordedFiring}
use Rattle.defs_soar.specs.Standing.{dependencies_from}
use Rattle.defs_soar.specs.Trimming.{highest_broken, is_lost}
use Rattle.defs_soar.specs.Values.{has_triple_among}
use Rattle.dependency_tables.specs.Tables.{first_with, tables_of}
use Rattle.dependency_tables.proofs.TableLemmas.{any_of_table}
use Rattle.goal_trimming.specs.Broken.{highest_broken_by}

-- by the tables of the tags on which each goal depends it is the goal that the history tells
pub broken_by_tags : (history : List RecordedFiring) (elements : List Element) (kept : List Triple) (depth : ℕ) (goals : List Goal)
    → highest_broken history elements kept depth goals ≡ highest_broken_by (tables_of (dependencies_from history depth goals)) elements kept depth
broken_by_tags history elements kept depth [] = refl
broken_by_tags history elements kept depth (goal ∷ goals) =
    ap₂ (λ (lost : Bool) (later : Option ℕ). elim lost as (λ _. Option ℕ) [ true ↦ Some depth | false ↦ later ])
    (sym (any_of_table (is_lost elements kept) (dependency_set history goal.id depth)))
    (broken_by_tags history elements kept (suc depth) goals)

-- the order of what is kept counts for nothing
same_lost : (elements : List Element) (a b : List Triple) → ((t : Triple) → has_triple_among a t ≡ has_triple_among b t) → is_lost elements a ≡ is_lost elements b
same_lost elements a b same = λ i tag. elim (element_of tag elements) as (λ _. Bool) [ None ↦ true | Some e ↦ not (same (triple_of e) i) ]

pub same_broken : (elements : List Element) (a b : List Triple) (depth : ℕ) (depends : List (List ℕ)) → ((t : Triple) → has_triple_among a t ≡ has_triple_among b t)
    → first_with (is_lost elements a) depth depends ≡ first_with (is_lost elements b) depth depends
same_broken elements a b depth depends same = ap (λ lost. first_with lost depth depends) (same_lost elements a b same)

-- where there is no goal below the top, none is broken
pub none_below : (depends : List (List ℕ)) (elements : List Element) (kept : List Triple) → length depends ≡ 0 → highest_broken_by depends elements kept 2 ≡ None
none_below [] elements kept h = refl
none_below (tags ∷ depends) elements kept h = absurd (omega arith)
