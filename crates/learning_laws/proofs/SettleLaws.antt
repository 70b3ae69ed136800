-- Settling keeps what a state is founded on, and sees to it that what is held is there.
use Rattle.std.proofs.Common.{◌≡◌, refl, sym, ◌∙◌, ap, subst, ◌<◌, Bool, true, false, ◌&&◌, ◌||◌, cond, inl, inr, arith, List, [], ◌∷◌, ◌++◌, length, Option, Some, None, Ok, Err, Result}
use Rattle.std.specs.Prelude.{not}
use Rattle.soar_sym.specs.Equality.{symbol_eq}
use Rattle.soar_sym.specs.declared.symbol.Sym.{Sym}
use Rattle.soar_wm.specs.declared.element.Element.{Element}
use Rattle.defs_soar.specs.declared.firing.DropCause.{DropCause}
use Rattle.defs_soar.specs.declared.firing.DropCause.TheVariants as cause
use Rattle.defs_soar.specs.declared.goal.Goal.{Goal}
use Rattle.defs_soar.specs.declared.goal.Selection.{Selection}
use Rattle.defs_soar.specs.declared.preference.PrefKind.TheVariants as kind
use Rattle.defs_soar.specs.declared.preference.Wish.{Wish}
use Rattle.defs_soar.specs.Architecture.{operator_word}
use Rattle.defs_soar.specs.Firing.{fits_operator, is_in_range, is_ordinary_kind, judged}
use Rattle.defs_soar.specs.Goals.{goal_ids, is_goal, is_operator_slot}
use Rattle.defs_soar.specs.Laws.{IsIn}
use Rattle.defs_soar.specs.Uses.{selection_told}
use Rattle.defs_soar.specs.Values.{is_kind}
use Rattle.learning_laws.specs.LawfulAgents.{BelowAreNamed, GoalsAreNamed, ItemsAreNamed}
use Rattle.learning_laws.specs.BeforeWave.{CanBeMade}
use Rattle.learning_laws.proofs.Lists.{and_true, any_in, any_some, in_left, in_map, in_mapped, same_itself, symbol_same}
use Rattle.learning_laws.proofs.ResultLaws.{judged_parts}
use Rattle.learning_laws.proofs.TrimLaws.{front_in, IsFront}

-- ---- fewer goals

pub goal_there : (goals : List Goal) (s : Sym) → is_goal goals s ≡ true → (g : Goal) × IsIn g goals × (g.id ≡ s)
goal_there goals s h =
    let some = any_some (symbol_eq s) (goal_ids goals) h in
    let g = in_map (λ (g : Goal). g.id) some.0 goals some.1 in (g.0, g.1, g.2 ∙ sym (symbol_same s some.0 some.2))

pub is_goal_in : (goals : List Goal) (g : Goal) → IsIn g goals → is_goal goals g.id ≡ true
is_goal_in goals g i = any_in (symbol_eq g.id) g.id (goal_ids goals) (in_mapped (λ (g : Goal). g.id) g goals i) (same_itself g.id)

pub front_goal : (front goals : List Goal) → IsFront front goals → (s : Sym) → is_goal front s ≡ true → is_goal goals s ≡ true
front_goal front goals h s q =
    let g = goal_there front s q in ap (is_goal goals) (sym g.2) ∙ is_goal_in goals g.0 (front_in front goals h g.0 g.1)

pub front_no_goal : (front goals : List Goal) → IsFront front goals → (s : Sym) → is_goal goals s ≡ false → is_goal front s ≡ false
front_no_goal front goals h s q = go (is_goal front s) refl
  where
    go : (b : Bool) → is_goal front s ≡ b → is_goal front s ≡ false
    go true r = let k = sym (front_goal front goals h s r) ∙ q in absurd (cc)
    go false r = r

-- an acceptable wish can be made where fewer are goals
pub can_be_made_still : (goals others : List Goal) (w : Wish) → is_kind w.kind kind.Accept ≡ true → (is_operator_slot others w.id w.attr ≡ true → is_operator_slot goals w.id w.attr ≡ true) → CanBeMade goals w
    → CanBeMade others w
can_be_made_still goals others w k slot h =
    let parts = judged_parts goals w h.allowed in
    record { identifier = h.identifier; referent = h.referent; allowed = go (is_operator_slot others w.id w.attr) refl parts.0 parts.1 }
  where
    ordinary : is_ordinary_kind w.kind ≡ true
    ordinary = ap (λ b. b || is_kind w.kind kind.Reject) k

    ok : (a b : Bool) → a ≡ true → b ≡ true → ◌≡◌ {A = Result Wish DropCause} (cond a (cond b (Ok w) (Err cause.OutOfRange)) (Err cause.NotAnOperator)) (Ok w)
    ok a b p q = ap (λ x. cond x (cond b (Ok w) (Err cause.OutOfRange)) (Err cause.NotAnOperator)) p ∙ ap (λ x. cond x (Ok w) (Err cause.OutOfRange)) q

    go : (b : Bool) → is_operator_slot others w.id w.attr ≡ b → cond (is_operator_slot goals w.id w.attr) (fits_operator w) (is_ordinary_kind w.kind) ≡ true → is_in_range w ≡ true → judged others w ≡ Ok w
    go true q p r =
        let fits : fits_operator w ≡ true = ap (λ x. cond x (fits_operator w) (is_ordinary_kind w.kind)) (sym (slot q)) ∙ p in
        ok (cond (is_operator_slot others w.id w.attr) (fits_operator w) (is_ordinary_kind w.kind)) (is_in_range w) (ap (λ x. cond x (fits_operator w) (is_ordinary_kind w.kind)) q ∙ fits) r
    go false q p r = ok (cond (is_operator_slot others w.id w.attr) (fits_operator w) (is_ordinary_kind w.kind)) (is_in_range w) (ap (λ x. cond x (fits_operator w) (is_ordinary_kind w.kind)) q ∙ ordinary) r

-- ---- names over more elements

items_more : (ever more : List Element) (superstate : Sym) (goals : List Goal) → BelowAreNamed ever superstate goals → BelowAreNamed (ever ++ more) superstate goals
items_more ever more superstate [] h = tt
items_more ever more superstate (g ∷ goals) h = ((λ item i. in_left _ ever more (h.0 item i)), items_more ever more g.id goals h.1)

front_named : (ever : List Element) (superstate : Sym) (front goals : List Goal) → IsFront front goals → BelowAreNamed ever superstate goals → BelowAreNamed ever superstate front
front_named ever superstate [] goals f h = tt
front_named ever superstate (x ∷ front) [] f h = absurd f
front_named ever superstate (x ∷ front) (g ∷ goals) f h =
    (subst (λ (y : Goal). ItemsAreNamed ever superstate y.items) (sym f.0) h.0, front_named ever x.id front goals f.1 (subst (λ (y : Goal). BelowAreNamed ever y.id goals) (sym f.0) h.1))

pub still_named : (ever more : List Element) (front goals : List Goal) → IsFront front goals → 0 < length front → GoalsAreNamed ever goals → GoalsAreNamed (ever ++ more) front
still_named ever more [] goals f some h = absurd (omega arith)
still_named ever more (x ∷ front) [] f some h = absurd f
still_named ever more (x ∷ front) (g ∷ goals) f some h =
    (ap (λ (y : Goal). y.items) f.0 ∙ h.0, items_more ever more x.id front (front_named ever x.id front goals f.1 (subst (λ (y : Goal). BelowAreNamed ever y.id goals) (sym f.0) h.1)))

pub some_goal : (ever : List Element) (goals : List Goal) → GoalsAreNamed ever goals → 0 < length goals
some_goal ever [] h = absurd h
some_goal ever (g ∷ goals) h = omega arith

-- ---- selections

pub not_unselected : (goals : List Goal) (e : Element) (g : Goal) (s : Selection) → IsIn g goals → g.id ≡ e.id → e.attr ≡ operator_word → e.accept ≡ false → g.selected ≡ Some s → s.operator ≡ e.value
    → selection_told goals e ≡ None → ⊥
not_unselected [] e g s i id attr accept selected value h = i
not_unselected (x ∷ goals) e g s (inl q) id attr accept selected value h =
    let here : selection_told (x ∷ goals) e ≡ Some s =
    (λ j. selection_told (record x { selected = (ap (λ (y : Goal). y.selected) q ∙ selected) j } ∷ goals) e)
    ∙ found (symbol_eq x.id e.id) (symbol_eq e.attr operator_word) (not e.accept) (symbol_eq s.operator e.value) (ap (λ (y : Goal). symbol_eq y.id e.id) q ∙ ap (λ y. symbol_eq y e.id) id ∙ same_itself e.id)
    (ap (λ y. symbol_eq y operator_word) attr) (ap not accept) (ap (λ y. symbol_eq y e.value) value ∙ same_itself e.value) in
    let k = sym here ∙ h in absurd (cc)
  where
    found : (a b c d : Bool) → a ≡ true → b ≡ true → c ≡ true → d ≡ true → ◌≡◌ {A = Option Selection} (cond (a && (b && (c && d))) (Some s) (selection_told goals e)) (Some s)
    found a b c d p r t u = ap (λ y. cond y (Some s) (selection_told goals e)) (and_true a (b && (c && d)) p (and_true b (c && d) r (and_true c d t u)))
not_unselected (x ∷ goals) e g s (inr i) id attr accept selected value h = not_unselected goals e g s i id attr accept selected value (by (x.selected) (selection_told (x ∷ goals) e) refl h)
  where
    none : (a b c : Bool) → cond (a && (b && (c && false))) None (selection_told goals e) ≡ None → selection_told goals e ≡ None
    none true true true q = q
    none true true false q = q
    none true false c q = q
    none false b c q = q

    some : (b : Bool) (t : Selection) → cond b (Some t) (selection_told goals e) ≡ None → selection_told goals e ≡ None
    some true t q = absurd (cc)
    some false t q = q

    by : (o : Option Selection) (p : Option Selection) → p ≡ selection_told (record x { selected = o } ∷ goals) e → p ≡ None → selection_told goals e ≡ None
    by None p q r = none (symbol_eq x.id e.id) (symbol_eq e.attr operator_word) (not e.accept) (sym q ∙ r)
    by (Some t) p q r = some (symbol_eq x.id e.id && (symbol_eq e.attr operator_word && (not e.accept && symbol_eq t.operator e.value))) t (sym q ∙ r)
