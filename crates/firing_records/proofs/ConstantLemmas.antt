-- Goals found one after another.
use Rattle.std.proofs.Common.{◌≡◌, ℕ, suc, ◌+◌, ◌<◌, length, get_or, drop, drop-cons, add-one, append_assoc, List, [], ◌∷◌, ◌++◌, map, flat_map, refl, sym, ap, ◌∙◌}
use Rattle.std.proofs.lemmas.List.Elements.{filter-append}
use Rattle.soar_sym.specs.declared.symbol.Sym.{Sym}
use Rattle.soar_rule.specs.declared.action.Func.{Func}
use Rattle.soar_rule.specs.declared.action.Value.{Value}
use Rattle.soar_rule.specs.declared.action.Value.TheVariants.{Call}
use Rattle.soar_rule.specs.Productions.{ValueOf, values_of, value_seen}
use Rattle.soar_rule.specs.Symbols.{constants_of_value, constants_of_values}
use Rattle.soar_rule.proofs.SeenLemmas.{call_seen}
use Rattle.defs_soar.specs.declared.goal.Goal.{Goal}
use Rattle.defs_soar.specs.Goals.{is_goal}
use Rattle.firing_records.specs.Among.{goals_in}

pub found_both : (goals : List Goal) (xs ys : List Sym) → goals_in goals (xs ++ ys) ≡ goals_in goals xs ++ goals_in goals ys
found_both goals xs ys = filter-append (is_goal goals) xs ys

values_in_row : (vs : List ValueOf) → constants_of_values (values_of vs) ≡ flat_map constants_of_value vs
values_in_row [] = refl
values_in_row (v ∷ vs) = ap (λ xs. constants_of_value v ++ xs) (values_in_row vs)

pub constants_of_call : (f : Func) (vs : List Value) → flat_map constants_of_value (map value_seen vs) ≡ constants_of_value (value_seen (Call f vs))
constants_of_call f vs = sym (ap constants_of_value (call_seen f vs) ∙ values_in_row (map value_seen vs))

-- one of several, and those after it
pub found_next : {A : Type 0} (f : A → List Sym) (all : List A → List Sym) → ((x : A) (xs : List A) → all (x ∷ xs) ≡ f x ++ all xs)
    → (goals : List Goal) (found met : List Sym) (xs : List A) (i : ℕ) (x : A) → i < length xs → x ≡ get_or xs i x → met ≡ found ++ goals_in goals (f x)
    → met ++ goals_in goals (all (drop (i + 1) xs)) ≡ found ++ goals_in goals (all (drop i xs))
found_next f all step goals found met xs i x within is now =
    let next : drop i xs ≡ x ∷ drop (i + 1) xs = drop-cons xs i x within ∙ ap (λ y. y ∷ drop (suc i) xs) (sym is) ∙ ap (λ n. x ∷ drop n xs) (sym (add-one i)) in
    let left : List Sym = all (drop (i + 1) xs) in
    ap (λ m. m ++ goals_in goals left) now
    ∙ append_assoc found (goals_in goals (f x)) (goals_in goals left)
    ∙ ap (λ l. found ++ l) (sym (ap (λ ys. goals_in goals (all ys)) next ∙ ap (goals_in goals) (step x (drop (i + 1) xs)) ∙ found_both goals (f x) left))
