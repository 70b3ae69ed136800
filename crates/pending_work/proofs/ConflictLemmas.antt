-- The instances of the conflict set, and those that are left of them: each has its rule, its bindings, and symbols of elements.
use Rattle.std.proofs.Common.{◌≡◌, ℕ, Bool, true, false, cond, List, [], ◌∷◌, ◌++◌, map, filter, length, refl, sym, ◌∙◌, ap, subst}
use Rattle.std.proofs.lemmas.List.{length-map}
use Rattle.soar_sym.specs.Words.{Texts, IsKnown}
use Rattle.soar_sym.specs.declared.symbol.Sym.{Sym}
use Rattle.soar_rule.specs.Symbols.{AreKnown}
use Rattle.soar_rule.specs.Variables.{bound_variables}
use Rattle.soar_wm.specs.declared.element.Element.{Element}
use Rattle.defs_match.specs.Conflict.{conflict, instance_of, instances_of}
use Rattle.defs_match.specs.Rows.{Row, rows}
use Rattle.defs_match.specs.Rules.{RuleOf}
use Rattle.defs_match.specs.Testing.{Bindings}
use Rattle.defs_match.specs.declared.instance.Instance.{Instance}
use Rattle.pending_work.specs.Firables.{AreNumbered, AreBound, IsBelowRules, IsBoundBy, IsInstance, rules_of}
use Rattle.outstanding.specs.Known.{AreElementsKnown, AreInstancesKnown}
use Rattle.pending_work.proofs.BindingLemmas.{HoldIn, HoldOf, RowsBind, rows_bind}
use Rattle.pending_work.proofs.RuleLemmas.{AreAbove, above_conflict, later_number, own_number}

-- ---- each has its rule and its bindings

-- nothing is said of the symbols
abbrev AnySymbol : Sym → Type 0
AnySymbol s = Unit {0}

any_elements : (elements : List Element) → HoldIn AnySymbol elements
any_elements [] = tt
any_elements (e ∷ elements) = ((tt, tt, tt), any_elements elements)

abbrev IsOfRules : Instance → List RuleOf → Type 0
IsOfRules i rules = (length rules ≡ 1) × IsBoundBy i rules

instance_from : (rules : List RuleOf) (i : Instance) → IsOfRules i (rules_of rules i.rule) → IsInstance rules i
instance_from rules i h = record { one = h.0; bound = h.1 }

own_bound : (rule : RuleOf) (rules : List RuleOf) (rs : List Row) → IsBelowRules rule.number rules
    → RowsBind AnySymbol (bound_variables rule.production.conditions) rs → AreBound (rule ∷ rules) (map (instance_of rule.number) rs)
own_bound rule rules [] h k = tt
own_bound rule rules (r ∷ rs) h k =
    let i : Instance = instance_of rule.number r in
    let count : length i.binds ≡ length (bound_variables rule.production.conditions) =
    length-map r.bindings (λ b. b.1) ∙ sym (length-map r.bindings (λ b. b.0)) ∙ ap length k.0.variables in (
      instance_from (rule ∷ rules) i (subst (IsOfRules i) (sym (own_number rule rules h)) (refl, (count, tt))),
      own_bound rule rules rs h k.1,
    )

later_bound : (rule : RuleOf) (rules : List RuleOf) (is : List Instance) → AreAbove rule.number is → AreBound rules is → AreBound (rule ∷ rules) is
later_bound rule rules [] h k = tt
later_bound rule rules (i ∷ is) h k = (
  instance_from (rule ∷ rules) i (subst (IsOfRules i) (sym (later_number rule rules i.rule h.0)) (k.0.one, k.0.bound)),
  later_bound rule rules is h.1 k.1,
)

bound_append : (rules : List RuleOf) (is js : List Instance) → AreBound rules is → AreBound rules js → AreBound rules (is ++ js)
bound_append rules [] js h k = k
bound_append rules (i ∷ is) js h k = (h.0, bound_append rules is js h.1 k)

pub bound_conflict : (rules : List RuleOf) (elements : List Element) → AreNumbered rules → AreBound rules (conflict rules elements)
bound_conflict [] elements h = tt
bound_conflict (rule ∷ rules) elements h =
    bound_append (rule ∷ rules) (instances_of elements rule) (conflict rules elements)
    (own_bound rule rules (rows rule.production.conditions elements) h.0 (rows_bind AnySymbol rule.production.conditions elements (any_elements elements)))
    (later_bound rule rules (conflict rules elements) (above_conflict rule.number rules elements h.0) (bound_conflict rules elements h.1))

pub bound_filter : (rules : List RuleOf) (p : Instance → Bool) (is : List Instance) → AreBound rules is → AreBound rules (filter p is)
bound_filter rules p [] h = tt
bound_filter rules p (i ∷ is) h = by (p i) (bound_filter rules p is h.1)
  where
    by : (b : Bool) → AreBound rules (filter p is) → AreBound rules (cond b (i ∷ filter p is) (filter p is))
    by true k = (h.0, k)
    by false k = k

-- ---- its symbols are those of elements

known_elements : (words : Texts) (elements : List Element) → AreElementsKnown words elements → HoldIn (IsKnown words) elements
known_elements words [] h = tt
known_elements words (e ∷ elements) h = (h.0, known_elements words elements h.1)

known_symbols : (words : Texts) (bs : Bindings) → HoldOf (IsKnown words) bs → AreKnown words (map (λ b. b.1) bs)
known_symbols words [] h = tt
known_symbols words (b ∷ bs) h = (h.0, known_symbols words bs h.1)

known_rows : (words : Texts) (number : ℕ) (vs : List ℕ) (rs : List Row) → RowsBind (IsKnown words) vs rs → AreInstancesKnown words (map (instance_of number) rs)
known_rows words number vs [] h = tt
known_rows words number vs (r ∷ rs) h = (known_symbols words r.bindings h.0.symbols, known_rows words number vs rs h.1)

known_append : (words : Texts) (is js : List Instance) → AreInstancesKnown words is → AreInstancesKnown words js → AreInstancesKnown words (is ++ js)
known_append words [] js h k = k
known_append words (i ∷ is) js h k = (h.0, known_append words is js h.1 k)

pub known_conflict : (words : Texts) (rules : List RuleOf) (elements : List Element) → AreElementsKnown words elements → AreInstancesKnown words (conflict rules elements)
known_conflict words [] elements h = tt
known_conflict words (rule ∷ rules) elements h =
    let cs = rule.production.conditions in
    known_append words (instances_of elements rule) (conflict rules elements)
    (known_rows words rule.number (bound_variables cs) (rows cs elements) (rows_bind (IsKnown words) cs elements (known_elements words elements h)))
    (known_conflict words rules elements h)

pub known_filter : (words : Texts) (p : Instance → Bool) (is : List Instance) → AreInstancesKnown words is → AreInstancesKnown words (filter p is)
known_filter words p [] h = tt
known_filter words p (i ∷ is) h = by (p i) (known_filter words p is h.1)
  where
    by : (b : Bool) → AreInstancesKnown words (filter p is) → AreInstancesKnown words (cond b (i ∷ filter p is) (filter p is))
    by true k = (h.0, k)
    by false k = k
