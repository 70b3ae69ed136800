-- Keys that compare equal are one.
use Rattle.std.proofs.Common.{◌≡◌, refl, sym, ap, ap₂, ◌∙◌, Bool, true, false, ℕ, ◌==◌, eqb-true, List, [], ◌∷◌}
use Rattle.std.specs.Bool.{beq}
use Rattle.std.specs.Ordering.{is_eq}
use Rattle.std.specs.Cmp.{tied_itself}
use Rattle.std.specs.Cmp.Lexicographic.{pointwise}
use Rattle.std.proofs.lemmas.Bool.{and_parts}
use Rattle.soar_sym.specs.declared.symbol.Sym.{Sym}
use Rattle.soar_sym.specs.contracts.symbol.SymPartialEq.TheImpl as symbols
use Rattle.soar_rule.specs.declared.cond.Atom.{Atom}
use Rattle.soar_rule.specs.declared.cond.Atom.TheVariants.{Const, Var}
use Rattle.soar_rule.specs.declared.cond.Relation.{Relation}
use Rattle.soar_rule.specs.declared.cond.Relation.TheVariants.{Differ, Less, Greater, AtMost, AtLeast, SameKind}
use Rattle.soar_rule.specs.declared.cond.Test.{Test}
use Rattle.soar_rule.specs.declared.cond.Test.TheVariants.{Plain, Rel, OneOf}
use Rattle.soar_rule.specs.declared.cond.Field.{Field}
use Rattle.soar_rule.specs.declared.cond.Pattern.{Pattern}
use Rattle.soar_rule.specs.contracts.cond.AtomPartialEq.TheImpl as atoms
use Rattle.soar_rule.specs.contracts.cond.RelationPartialEq.TheImpl as relations
use Rattle.soar_rule.specs.contracts.cond.TestPartialEq.TheImpl as tests
use Rattle.soar_rule.specs.contracts.cond.FieldPartialEq.TheImpl as fields
use Rattle.soar_rule.specs.contracts.cond.PatternPartialEq.TheImpl as patterns
use Rattle.soar_sym.proofs.KeyLemmas.{symbol_same, symbol_derived}
use Rattle.node_table.specs.contracts.node.StepPartialEq.TheImpl as steps
use Rattle.node_table.specs.contracts.node.NodeKeyOrd.TheImpl.Laws as laws
use Rattle.node_table.specs.declared.node.Step.{Step}
use Rattle.node_table.specs.declared.node.Step.TheVariants.{Join, Negation}
use Rattle.node_table.specs.declared.node.NodeKey.{NodeKey}
use Rattle.node_table.specs.Nodes.{key_cmp}

pointwise_same : {A : Type 0} (eq : A → A → Bool) → ((a b : A) → eq a b ≡ true → a ≡ b) → (xs ys : List A) → pointwise eq xs ys ≡ true → xs ≡ ys
pointwise_same eq same [] [] h = refl
pointwise_same eq same [] (y ∷ ys) h = absurd (cc)
pointwise_same eq same (x ∷ xs) [] h = absurd (cc)
pointwise_same eq same (x ∷ xs) (y ∷ ys) h =
    let parts = and_parts (eq x y) (pointwise eq xs ys) h in
    ap₂ (λ a l. a ∷ l) (same x y parts.0) (pointwise_same eq same xs ys parts.1)

same_sym : (a b : Sym) → (symbols.ghosts).eq a b ≡ true → a ≡ b
same_sym a b h = symbol_same a b (sym (symbol_derived a b) ∙ h)

same_atom : (a b : Atom) → (atoms.ghosts).eq a b ≡ true → a ≡ b
same_atom (Const a) (Const b) h = ap (λ (s : Sym). let o : Atom = Const s in o) (same_sym a b h)
same_atom (Var a) (Var b) h = ap (λ (v : ℕ). let o : Atom = Var v in o) (eqb-true a b h)
same_atom (Const a) (Var b) h = absurd (cc)
same_atom (Var a) (Const b) h = absurd (cc)

same_relation : (a b : Relation) → (relations.ghosts).eq a b ≡ true → a ≡ b
same_relation Differ Differ h = refl
same_relation Less Less h = refl
same_relation Greater Greater h = refl
same_relation AtMost AtMost h = refl
same_relation AtLeast AtLeast h = refl
same_relation SameKind SameKind h = refl
same_relation _ _ h = absurd (cc)

same_test : (a b : Test) → (tests.ghosts).eq a b ≡ true → a ≡ b
same_test (Plain a) (Plain b) h = ap (λ (s : Atom). let o : Test = Plain s in o) (same_atom a b h)
same_test (Rel r a) (Rel q b) h =
    let parts = and_parts ((relations.ghosts).eq r q) ((atoms.ghosts).eq a b) h in
    ap₂ (λ (s : Relation) (t : Atom). let o : Test = Rel s t in o) (same_relation r q parts.0) (same_atom a b parts.1)
same_test (OneOf a) (OneOf b) h = ap (λ (s : List Sym). let o : Test = OneOf s in o) (pointwise_same (symbols.ghosts).eq same_sym a b h)
same_test (Plain a) (Rel q b) h = absurd (cc)
same_test (Plain a) (OneOf b) h = absurd (cc)
same_test (Rel r a) (Plain b) h = absurd (cc)
same_test (Rel r a) (OneOf b) h = absurd (cc)
same_test (OneOf a) (Plain b) h = absurd (cc)
same_test (OneOf a) (Rel q b) h = absurd (cc)

same_field : (a b : Field) → (fields.ghosts).eq a b ≡ true → a ≡ b
same_field a b h = (let e = pointwise_same (tests.ghosts).eq same_test a.tests b.tests h in λ i. record { tests = e i })

same_bool : (a b : Bool) → beq a b ≡ true → a ≡ b
same_bool true true h = refl
same_bool false false h = refl
same_bool true false h = absurd (cc)
same_bool false true h = absurd (cc)

same_pattern : (a b : Pattern) → (patterns.ghosts).eq a b ≡ true → a ≡ b
same_pattern p q h =
    let a = and_parts (beq p.state q.state) _ h in
    let b = and_parts ((fields.ghosts).eq p.id q.id) _ a.1 in
    let c = and_parts ((fields.ghosts).eq p.attr q.attr) _ b.1 in
    let d = and_parts ((fields.ghosts).eq p.value q.value) _ c.1 in
    let state = same_bool p.state q.state a.0 in
    let id = same_field p.id q.id b.0 in
    let attr = same_field p.attr q.attr c.0 in
    let value = same_field p.value q.value d.0 in
    let accept = same_bool p.accept q.accept d.1 in
    λ i. record { state = state i; id = id i; attr = attr i; value = value i; accept = accept i }

same_step : (a b : Step) → (steps.ghosts).eq a b ≡ true → a ≡ b
same_step (Join p) (Join q) h = ap (λ (r : Pattern). let o : Step = Join r in o) (same_pattern p q h)
same_step (Negation m) (Negation n) h = ap (λ (k : ℕ). let o : Step = Negation k in o) (eqb-true m n h)
same_step (Join p) (Negation n) h = absurd (cc)
same_step (Negation m) (Join q) h = absurd (cc)

abbrev pub alike : NodeKey → NodeKey → Bool
alike a b = is_eq (key_cmp a b)

-- keys that compare equal are one
pub alike_same : (a b : NodeKey) → alike a b ≡ true → a ≡ b
alike_same a b h =
    let parts = and_parts (a.parent == b.parent) ((steps.ghosts).eq a.step b.step) (laws.matches_eq-law a b ∙ h) in
    let parent = eqb-true a.parent b.parent parts.0 in
    let step = same_step a.step b.step parts.1 in
    λ i. record { parent = parent i; step = step i }

-- a key compares equal to itself
pub alike_itself : (a : NodeKey) → alike a a ≡ true
alike_itself a = ap is_eq (tied_itself laws.total-law a)
