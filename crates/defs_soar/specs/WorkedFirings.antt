-- Small cases of firing and support, worked out by hand.
use Rattle.std.specs.Prelude.{◌≡◌, ℕ, Bool, true, false, pos, List, [], ◌∷◌, ◌++◌, map, None, codes}
use Rattle.soar_sym.specs.Words.{Texts, architecture}
use Rattle.soar_sym.specs.declared.symbol.Sym.TheVariants.{Ident, Word, Int}
use Rattle.soar_rule.specs.declared.cond.Atom.TheVariants.{Const, Var}
use Rattle.soar_rule.specs.declared.action.Func.TheVariants as func
use Rattle.soar_rule.specs.declared.production.Kind.TheVariants.{User}
use Rattle.soar_rule.specs.declared.production.Support.{Support}
use Rattle.soar_rule.specs.declared.production.Support.TheVariants as support
use Rattle.defs_match.specs.Element.{Element}
use Rattle.soar_rule.specs.Conditions.{no_more}
use Rattle.soar_rule.specs.Productions.{ValueOf, atom_value, call_value, values_of, accepts, is_better_than, is_indifferent_to, makes, ActionOf, ProductionOf}
use Rattle.defs_soar.specs.declared.firing.DropCause.TheVariants as cause
use Rattle.defs_soar.specs.Architecture.{operator_word}
use Rattle.defs_soar.specs.Firing.{made_by}
use Rattle.defs_soar.specs.Support.{operator_kind}
use Rattle.defs_soar.specs.Worked.{s1, top_goal}

-- ---- firing

abbrev pub letters_at_start : List ℕ
letters_at_start = 0 ∷ 0 ∷ 0 ∷ 0 ∷ 0 ∷ 0 ∷ 0 ∷ 0 ∷ 3 ∷ 0 ∷ 0 ∷ 0 ∷ 0 ∷ 0 ∷ 0 ∷ 0 ∷ 0 ∷ 0 ∷ 1 ∷ 0 ∷ 0 ∷ 0 ∷ 0 ∷ 0 ∷ 0 ∷ 0 ∷ []

-- words 24 to 26 are the names s, obj and the attribute a
abbrev pub words_at_firing : Texts
words_at_firing = architecture ++ (codes "s" ∷ codes "obj" ∷ codes "a" ∷ [])

abbrev pub var : ℕ → ValueOf
var n = atom_value (Var n)

abbrev pub const : ℕ → ValueOf
const n = atom_value (Const (Word n))

-- (<s> ^a <obj>) (<obj> ^a (+ 1 2)): one new identifier O1, used by both
abbrev pub Fires : Type 0
Fires =
    let made = made_by (top_goal ∷ [])
    (makes (Var 0) (const 26) (var 1) accepts ∷ makes (Var 1) (const 26) (call_value func.Plus (values_of (atom_value (Const (Int (pos 1))) ∷ atom_value (Const (Int (pos 2))) ∷ []))) accepts ∷ [])
    (record { bindings = (0, s1) ∷ []; words = words_at_firing; letters = letters_at_start; vars = Word 24 ∷ Word 25 ∷ []; totals = [] }) in
    (map (λ w. w.id) made.wishes ≡ s1 ∷ Ident 79 1 ∷ []) × (map (λ w. w.value) made.wishes ≡ Ident 79 1 ∷ Int (pos 3) ∷ []) × (made.dropped ≡ [])

-- division by zero, a constant identifier, a preference that only operators have, and a number beyond the range
abbrev pub Drops : Type 0
Drops =
    let made = made_by (top_goal ∷ [])
    (makes (Var 0) (const 26) (call_value func.Div (values_of (atom_value (Const (Int (pos 1))) ∷ atom_value (Const (Int (pos 0))) ∷ []))) accepts
    ∷ makes (Const (Word 26)) (const 26) (var 0) accepts
    ∷ makes (Var 0) (const 26) (var 1) (is_better_than (var 0))
    ∷ makes (Var 0) (const 7) (var 1) (is_indifferent_to (atom_value (Const (Int (pos 1000000001)))))
    ∷ makes (Var 0) (const 26) (var 1) accepts ∷ [])
    (record { bindings = (0, s1) ∷ []; words = words_at_firing; letters = letters_at_start; vars = Word 24 ∷ Word 25 ∷ []; totals = [] }) in
    (map (λ d. d.action) made.dropped ≡ 1 ∷ 2 ∷ 3 ∷ 4 ∷ []) × (map (λ d. d.cause) made.dropped ≡ cause.ZeroDivisor ∷ cause.NotAnIdentifier ∷ cause.NotAnOperator ∷ cause.OutOfRange ∷ [])
    × (map (λ w. w.value) made.wishes ≡ Ident 79 1 ∷ [])

-- ---- support

-- (state <s> ^operator <o>) with O1 selected: an action on <s> has operator support, one on <o> has not, a flag decides
abbrev pub selected_o1 : List Element
selected_o1 = record { tag = 8; id = s1; attr = operator_word; value = Ident 79 1; accept = false; of_state = true } ∷ []

abbrev pub on : ℕ → ActionOf
on n = makes (Var n) (const 26) (const 26) accepts

abbrev pub rule_with : Support → ActionOf → ProductionOf
rule_with flag action = record { name = Word 24; doc = None; kind = User; support = flag; vars = Word 24 ∷ Word 25 ∷ []; conditions = no_more; actions = action ∷ [] }

abbrev pub is_operator_kind : Support → ActionOf → Bool
is_operator_kind flag action = operator_kind (top_goal ∷ []) selected_o1 ((0, s1) ∷ (1, Ident 79 1) ∷ []) (rule_with flag action)

abbrev pub Supported : Type 0
Supported =
    (is_operator_kind support.Unset (on 0) ≡ true) × (is_operator_kind support.Unset (on 1) ≡ false) × (is_operator_kind support.Operator (on 1) ≡ true)
    × (is_operator_kind support.Instance (on 0) ≡ false) × (is_operator_kind support.Unset (makes (Var 0) (const 7) (var 1) accepts) ≡ false)
