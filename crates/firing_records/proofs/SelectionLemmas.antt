-- The selection that an element tells, goal by goal.
use Rattle.std.proofs.Common.{◌≡◌, ℕ, suc, ◌+◌, ◌<◌, length, get_or, drop, drop-cons, add-one, Bool, true, false, ◌&&◌, not, cond, List, [], ◌∷◌, Option, Some, None, refl, ◌∙◌, ap, sym}
use Rattle.soar_sym.specs.Equality.{symbol_eq}
use Rattle.soar_sym.specs.declared.symbol.Sym.{Sym}
use Rattle.soar_wm.specs.declared.element.Element.{Element}
use Rattle.defs_soar.specs.declared.goal.Goal.{Goal}
use Rattle.defs_soar.specs.declared.goal.Impasse.{Impasse}
use Rattle.defs_soar.specs.declared.goal.Item.{Item}
use Rattle.defs_soar.specs.declared.goal.Selection.{Selection}
use Rattle.defs_soar.specs.Architecture.{operator_word}
use Rattle.defs_soar.specs.Uses.{selection_told}

-- the first selection, where there is one
abbrev pub or_told : Option Selection → Option Selection → Option Selection
or_told (Some s) other = Some s
or_told None other = other

told_by_one : (id : Sym) (why : Impasse) (items : List Item) (o : Option Selection) (goals : List Goal) (e : Element)
    → let g : Goal = record { id = id; impasse = why; items = items; selected = o } in selection_told (g ∷ goals) e ≡ or_told (selection_told (g ∷ []) e) (selection_told goals e)
told_by_one id why items None goals e = by (symbol_eq id e.id) (symbol_eq e.attr operator_word) (not e.accept)
  where
    by : (a b c : Bool) → cond (a && (b && (c && false))) None (selection_told goals e) ≡ or_told (cond (a && (b && (c && false))) None None) (selection_told goals e)
    by true true true = refl
    by true true false = refl
    by true false c = refl
    by false b c = refl
told_by_one id why items (Some s) goals e = by (symbol_eq id e.id && (symbol_eq e.attr operator_word && (not e.accept && symbol_eq s.operator e.value)))
  where
    by : (b : Bool) → cond b (Some s) (selection_told goals e) ≡ or_told (cond b (Some s) None) (selection_told goals e)
    by true = refl
    by false = refl

-- the goals after the first
pub told_next : (g : Goal) (goals : List Goal) (e : Element) → selection_told (g ∷ goals) e ≡ or_told (selection_told (g ∷ []) e) (selection_told goals e)
told_next g goals e = told_by_one g.id g.impasse g.items g.selected goals e

-- the goal at a place, and those after it
pub told_at : (goals : List Goal) (i : ℕ) (g : Goal) (e : Element) → i < length goals → g ≡ get_or goals i g
    → selection_told (drop i goals) e ≡ or_told (selection_told (g ∷ []) e) (selection_told (drop (i + 1) goals) e)
told_at goals i g e within is =
    let next : drop i goals ≡ g ∷ drop (i + 1) goals = drop-cons goals i g within ∙ ap (λ h. h ∷ drop (suc i) goals) (sym is) ∙ ap (λ n. g ∷ drop n goals) (sym (add-one i)) in
    ap (λ l. selection_told l e) next ∙ told_next g (drop (i + 1) goals) e
