-- From the trees of conditions to one triple for each condition (Soar manual, chapter 3, production syntax).
use Rattle.std.specs.Prelude.{Bool, false, List, [], ◌∷◌, ◌++◌, Option, Some, None, if◌then◌else◌}
use Rattle.soar_sym.specs.Words.{Texts}
use Rattle.soar_sym.specs.declared.symbol.Sym.TheVariants.{Word}
use Rattle.soar_rule.specs.declared.cond.Atom.TheVariants.{Const}
use Rattle.soar_rule.specs.declared.cond.Field.{Field}
use Rattle.soar_rule.specs.Conditions.{Condition, positive, negated, conjunctive, all_of}
use Rattle.defs_read.specs.FieldExpansion.{field_of, plain_field}
use Rattle.defs_read.specs.FreshNames.{Fresh, Expanded, expanded, then_expand, fresh_variable}
use Rattle.defs_read.specs.Grammar.{FieldTree, ValueTest, AttributeTest, Group, Part, grouped, joined, Parts, no_parts, part_and}

abbrev pub triple_condition : Bool → Field → Field → Field → Bool → Condition
triple_condition state id attr value accept = positive (record { state = state; id = id; attr = attr; value = value; accept = accept })

-- one positive triple is negated as it is, anything else as a whole
abbrev pub negation_of : List Condition → Condition
negation_of (positive p ∷ []) = negated p
negation_of cs = conjunctive (all_of cs)

abbrev pub signed : Bool → List Condition → List Condition
signed negative cs = if negative then negation_of cs ∷ [] else cs

-- a triple for each value
abbrev pub with_values : Texts → Bool → Field → Field → List ValueTest → Fresh → Expanded (List Condition)
with_values words state id attr [] f = expanded [] f
with_values words state id attr (v ∷ values) f =
    then_expand (field_of words v.value f) (λ value g. then_expand (with_values words state id attr values g) (λ cs h. expanded (triple_condition state id attr value v.accept ∷ cs) h))

-- an attribute without a value has a fresh variable
abbrev pub valued : Texts → Bool → Field → Field → List ValueTest → Fresh → Expanded (List Condition)
valued words state id attr [] f = then_expand (fresh_variable f) (λ v g. expanded (triple_condition state id attr (plain_field v) false ∷ []) g)
valued words state id attr (v ∷ values) f = with_values words state id attr (v ∷ values) f

-- a path goes over fresh variables; only its first triple has the group's field and mark
abbrev pub along : Texts → Bool → Field → FieldTree → List FieldTree → List ValueTest → Fresh → Expanded (List Condition)
along words state id attribute [] values f = then_expand (field_of words attribute f) (λ attr g. valued words state id attr values g)
along words state id attribute (next ∷ path) values f =
    then_expand (field_of words attribute f) (λ attr g. then_expand (fresh_variable g) (λ v h.
    then_expand (along words false (plain_field v) next path values h) (λ cs last. expanded (triple_condition state id attr (plain_field v) false ∷ cs) last)))

abbrev pub tests_conditions : Texts → Bool → Field → List AttributeTest → Fresh → Expanded (List Condition)
tests_conditions words state id [] f = expanded [] f
tests_conditions words state id (t ∷ tests) f =
    then_expand (along words state id t.attribute t.path t.values f) (λ cs g. then_expand (tests_conditions words state id tests g) (λ more h.
    expanded (signed t.negative cs ++ more) h))

-- a group without a field has a fresh variable
abbrev pub group_field : Texts → Option FieldTree → Fresh → Expanded Field
group_field words None f = then_expand (fresh_variable f) (λ v g. expanded (plain_field v) g)
group_field words (Some tree) f = field_of words tree f

-- a group without attributes asks for a superstate, whose word is the sixth of the architecture's
abbrev pub group_tests : Texts → Bool → Field → List AttributeTest → Fresh → Expanded (List Condition)
group_tests words state id [] f =
    then_expand (fresh_variable f) (λ v g. expanded (triple_condition state id (plain_field (Const (Word 5))) (plain_field v) false ∷ []) g)
group_tests words state id (t ∷ tests) f = tests_conditions words state id (t ∷ tests) f

abbrev pub group_conditions : Texts → Group → Fresh → Expanded (List Condition)
group_conditions words g f = then_expand (group_field words g.field f) (λ id h. group_tests words g.state id g.tests h)

abbrev mutual
  pub part_conditions : Part → Texts → Fresh → Expanded (List Condition)
  part_conditions (grouped negative g) words f = then_expand (group_conditions words g f) (λ cs h. expanded (signed negative cs) h)
  part_conditions (joined negative p ps) words f =
      then_expand (part_conditions p words f) (λ cs g. then_expand (parts_conditions ps words g) (λ more h.
      expanded (if negative then conjunctive (all_of (cs ++ more)) ∷ [] else cs ++ more) h))

  pub parts_conditions : Parts → Texts → Fresh → Expanded (List Condition)
  parts_conditions no_parts words f = expanded [] f
  parts_conditions (part_and p ps) words f = then_expand (part_conditions p words f) (λ cs g. then_expand (parts_conditions ps words g) (λ more h. expanded (cs ++ more) h))
