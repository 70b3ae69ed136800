-- Values in turn.
use Rattle.std.proofs.Common.{◌≡◌, ◌<◌, ℕ, ◌+◌, List, [], ◌∷◌, ◌++◌, length, map, drop, get_or, Result, Ok, Err, refl, sym, ap, ◌∙◌, subst, add-one, drop-cons}
use Rattle.soar_sym.specs.Words.{Texts}
use Rattle.soar_sym.specs.declared.symbol.Sym.{Sym}
use Rattle.soar_rule.specs.declared.action.Value.{Value}
use Rattle.soar_rule.specs.Productions.{value_seen, values_of}
use Rattle.soar_rule.specs.Symbols.{constants_of_value, constants_of_values}
use Rattle.soar_fire.specs.Known.{Knows}
use Rattle.defs_soar.specs.declared.firing.DropCause.{DropCause}
use Rattle.soar_fire.specs.declared.fault.FireFault.{FireFault}
use Rattle.soar_fire.specs.Outcomes.{Outcome, reached, then_on, found, Answers, Standing, value_outcome, values_outcome}
use Rattle.soar_fire.proofs.KnownLemmas.{knows_front, knows_back}
use Rattle.soar_fire.proofs.OutcomeLemmas.{answers_stopped, then_more}

next_seen : (values : List Value) (i : ℕ) (v : Value) → i < length values → v ≡ get_or values i v → map value_seen (drop i values) ≡ value_seen v ∷ map value_seen (drop (i + 1) values)
next_seen values i v within at = ap (map value_seen) (drop-cons values i v within) ∙ rw (← at, add-one i) refl

pub next_constants : (words : Texts) (values : List Value) (i : ℕ) (v : Value) → Knows words (constants_of_values (values_of (map value_seen (drop i values)))) → i < length values → v ≡ get_or values i v → Knows words (constants_of_value (value_seen v))
next_constants words values i v h within at =
    knows_front words _ (constants_of_values (values_of (map value_seen (drop (i + 1) values))))
    (subst (λ seen. Knows words (constants_of_values (values_of seen))) (next_seen values i v within at) h)

pub later_constants : (words : Texts) (values : List Value) (i : ℕ) (v : Value) → Knows words (constants_of_values (values_of (map value_seen (drop i values)))) → i < length values → v ≡ get_or values i v → Knows words (constants_of_values (values_of (map value_seen (drop (i + 1) values))))
later_constants words values i v h within at =
    knows_back words (constants_of_value (value_seen v)) _
    (subst (λ seen. Knows words (constants_of_values (values_of seen))) (next_seen values i v within at) h)

next_is : (vars : List Sym) (values : List Value) (i : ℕ) (v : Value) (xs : List Sym) (s : Standing) → i < length values → v ≡ get_or values i v
    → then_on (values_outcome vars (values_of (map value_seen (drop i values))) s) (λ more last. found (xs ++ more) last)
    ≡ then_on (then_on (value_outcome vars (value_seen v) s) (λ symbol then. then_on (values_outcome vars (values_of (map value_seen (drop (i + 1) values))) then) (λ symbols last. found (symbol ∷ symbols) last))) (λ more last. found (xs ++ more) last)
next_is vars values i v xs s within at = ap (λ seen. then_on (values_outcome vars (values_of seen) s) (λ more last. found (xs ++ more) last)) (next_seen values i v within at)

-- one value evaluated
pub next_rest : (vars : List Sym) (values : List Value) (i : ℕ) (v : Value) (x : Sym) (xs : List Sym) (s after : Standing) → i < length values → v ≡ get_or values i v
    → value_outcome vars (value_seen v) s ≡ reached (Ok x) after
    → then_on (values_outcome vars (values_of (map value_seen (drop i values))) s) (λ more last. found (xs ++ more) last)
    ≡ then_on (values_outcome vars (values_of (map value_seen (drop (i + 1) values))) after) (λ more last. found ((xs ++ x ∷ []) ++ more) last)
next_rest vars values i v x xs s after within at is =
    next_is vars values i v xs s within at
    ∙ ap (λ o. then_on (then_on o (λ symbol then. then_on (values_outcome vars (values_of (map value_seen (drop (i + 1) values))) then) (λ symbols last. found (symbol ∷ symbols) last))) (λ more last. found (xs ++ more) last)) is
    ∙ then_more (values_outcome vars (values_of (map value_seen (drop (i + 1) values))) after) xs x

-- a value that stands for nothing
pub next_drop : (vars : List Sym) (values : List Value) (i : ℕ) (v : Value) (xs : List Sym) (s after : Standing) (whole : Outcome (List Sym)) (why : DropCause)
    → i < length values → v ≡ get_or values i v
    → then_on (values_outcome vars (values_of (map value_seen (drop i values))) s) (λ more last. found (xs ++ more) last) ≡ whole
    → value_outcome vars (value_seen v) s ≡ reached (Err why) after → whole ≡ reached (Err why) after
next_drop vars values i v xs s after whole why within at rest is =
    sym rest ∙ next_is vars values i v xs s within at
    ∙ ap (λ o. then_on (then_on o (λ symbol then. then_on (values_outcome vars (values_of (map value_seen (drop (i + 1) values))) then) (λ symbols last. found (symbol ∷ symbols) last))) (λ more last. found (xs ++ more) last)) is

-- a limit that a value passed
pub next_stop : (vars : List Sym) (values : List Value) (i : ℕ) (v : Value) (xs : List Sym) (s after end : Standing) (whole : Outcome (List Sym)) (e : FireFault) (r : Result (Result (List Sym) DropCause) FireFault)
    → i < length values → v ≡ get_or values i v
    → then_on (values_outcome vars (values_of (map value_seen (drop i values))) s) (λ more last. found (xs ++ more) last) ≡ whole
    → Answers (value_outcome vars (value_seen v) s) after (Err e) → r ≡ Err e → Answers whole end r
next_stop vars values i v xs s after end whole e r within at rest h same =
    let one = answers_stopped (value_outcome vars (value_seen v) s) (λ symbol then. then_on (values_outcome vars (values_of (map value_seen (drop (i + 1) values))) then) (λ symbols last. found (symbol ∷ symbols) last)) after end e h in
    subst (Answers whole end) (sym same)
    (subst (λ o. Answers o end (Err e)) (sym (next_is vars values i v xs s within at) ∙ rest)
    (answers_stopped _ (λ more last. found (xs ++ more) last) end end e one))
