-- What comes of conditions fits.
use Rattle.std.proofs.Common.{◌≡◌, ℕ, ◌<◌, ◌≤◌, Bool, true, false, cond, List, [], ◌∷◌, ◌++◌, length, Option, Some, None, refl, arith}
use Rattle.std.specs.List.{list_all}
use Rattle.std.proofs.lemmas.Bool.{lt-ltb}
use Rattle.soar_sym.specs.declared.symbol.Sym.TheVariants.{Word}
use Rattle.soar_sym.specs.Words.{Texts}
use Rattle.soar_rule.specs.declared.cond.Atom.{Atom}
use Rattle.soar_rule.specs.declared.cond.Atom.TheVariants.{Const}
use Rattle.soar_rule.specs.declared.cond.Field.{Field}
use Rattle.soar_rule.specs.Conditions.{Condition, positive, negated, conjunctive, all_of}
use Rattle.defs_read.specs.ConditionExpansion.{triple_condition, negation_of, signed, with_values, valued, along, tests_conditions, group_field, group_tests, group_conditions, part_conditions, parts_conditions}
use Rattle.defs_read.specs.FieldExpansion.{field_of, plain_field}
use Rattle.defs_read.specs.FreshNames.{Fresh, Expanded, fresh_variable}
use Rattle.defs_read.specs.Grammar.{FieldTree, ValueTest, AttributeTest, Group, Part, grouped, joined, Parts, no_parts, part_and}
use Rattle.soar_read.proofs.FieldFits.{fresh_fits, field_of_fits, plain_fits}
use Rattle.soar_read.proofs.FitLemmas.{atom_fits, field_fits, condition_fits, field_stays, condition_stays, all_stay, count, Fits, all_append, all_conditions}
use Rattle.read_parts.proofs.TextLemmas.{and-true, both-true}

abbrev pub conds_fit : ℕ → ℕ → List Condition → Bool
conds_fit known n cs = list_all (condition_fits known n) cs

triple_fits : (known n : ℕ) (state accept : Bool) (id attr value : Field) → field_fits known n id ≡ true → field_fits known n attr ≡ true → field_fits known n value ≡ true
    → condition_fits known n (triple_condition state id attr value accept) ≡ true
triple_fits known n state accept id attr value p q r = both-true p (both-true q r)

negation_fits : (known n : ℕ) (cs : List Condition) → conds_fit known n cs ≡ true → condition_fits known n (negation_of cs) ≡ true
negation_fits known n [] fit = refl
negation_fits known n (positive p ∷ []) fit = (and-true fit).0
negation_fits known n (positive p ∷ c ∷ cs) fit = all_conditions known n (positive p ∷ c ∷ cs) fit
negation_fits known n (negated p ∷ cs) fit = all_conditions known n (negated p ∷ cs) fit
negation_fits known n (conjunctive inside ∷ cs) fit = all_conditions known n (conjunctive inside ∷ cs) fit

signed_fit : (known n : ℕ) (negative : Bool) (cs : List Condition) → conds_fit known n cs ≡ true → conds_fit known n (signed negative cs) ≡ true
signed_fit known n true cs fit = both-true (negation_fits known n cs fit) refl
signed_fit known n false cs fit = fit

conds_stay : (known m n : ℕ) (cs : List Condition) → m ≤ n → conds_fit known m cs ≡ true → conds_fit known n cs ≡ true
conds_stay known m n cs more fit = all_stay (condition_fits known) (condition_stays known) m n cs more fit

-- ---- attributes

with_values_fit : (words : Texts) (state : Bool) (id attr : Field) (vs : List ValueTest) (f : Fresh) → 0 < length words → field_fits (length words) (count f) id ≡ true → field_fits (length words) (count f) attr ≡ true
    → Fits (conds_fit (length words)) (count f) (with_values words state id attr vs f)
with_values_fit words state id attr [] f room p q = record { more = omega arith; fit = refl }
with_values_fit words state id attr (v ∷ vs) f room p q =
    let known : ℕ = length words in
    let e : Expanded Field = field_of words v.value f in
    let one : Fits (field_fits known) (count f) e = field_of_fits words v.value f room in
    let rest : Expanded (List Condition) = with_values words state id attr vs e.names in
    let more : Fits (conds_fit known) (count e.names) rest =
    with_values_fit words state id attr vs e.names room (field_stays known (count f) (count e.names) id one.more p) (field_stays known (count f) (count e.names) attr one.more q) in
    let far : count f ≤ count rest.names = omega (arith, one.more, more.more) in
    record {
      more = far;
      fit = both-true (triple_fits known (count rest.names) state v.accept id attr e.value (field_stays known (count f) (count rest.names) id far p) (field_stays known (count f) (count rest.names) attr far q) (field_stays known (count e.names) (count rest.names) e.value more.more one.fit)) more.fit;
    }

-- a triple with a fresh variable
fresh_triple_fits : (words : Texts) (state : Bool) (id attr : Field) (f : Fresh) → field_fits (length words) (count f) id ≡ true → field_fits (length words) (count f) attr ≡ true
    → condition_fits (length words) (count (fresh_variable f).names) (triple_condition state id attr (plain_field (fresh_variable f).value) false) ≡ true
fresh_triple_fits words state id attr f p q =
    let known : ℕ = length words in
    let e : Expanded Atom = fresh_variable f in
    let one : Fits (atom_fits known) (count f) e = fresh_fits words f in
    triple_fits known (count e.names) state false id attr (plain_field e.value) (field_stays known (count f) (count e.names) id one.more p) (field_stays known (count f) (count e.names) attr one.more q) (plain_fits known (count e.names) e.value one.fit)

valued_fit : (words : Texts) (state : Bool) (id attr : Field) (vs : List ValueTest) (f : Fresh) → 0 < length words → field_fits (length words) (count f) id ≡ true → field_fits (length words) (count f) attr ≡ true
    → Fits (conds_fit (length words)) (count f) (valued words state id attr vs f)
valued_fit words state id attr [] f room p q = record { more = (fresh_fits words f).more; fit = both-true (fresh_triple_fits words state id attr f p q) refl }
valued_fit words state id attr (v ∷ vs) f room p q = with_values_fit words state id attr (v ∷ vs) f room p q

along_fit : (words : Texts) (state : Bool) (id : Field) (attribute : FieldTree) (path : List FieldTree) (vs : List ValueTest) (f : Fresh) → 0 < length words → field_fits (length words) (count f) id ≡ true
    → Fits (conds_fit (length words)) (count f) (along words state id attribute path vs f)
along_fit words state id attribute [] vs f room p =
    let known : ℕ = length words in
    let e : Expanded Field = field_of words attribute f in
    let one : Fits (field_fits known) (count f) e = field_of_fits words attribute f room in
    let rest : Fits (conds_fit known) (count e.names) (valued words state id e.value vs e.names) = valued_fit words state id e.value vs e.names room (field_stays known (count f) (count e.names) id one.more p) one.fit in
    record { more = omega (arith, one.more, rest.more); fit = rest.fit }
along_fit words state id attribute (next ∷ path) vs f room p =
    let known : ℕ = length words in
    let e : Expanded Field = field_of words attribute f in
    let one : Fits (field_fits known) (count f) e = field_of_fits words attribute f room in
    let v : Expanded Atom = fresh_variable e.names in
    let two : Fits (atom_fits known) (count e.names) v = fresh_fits words e.names in
    let rest : Expanded (List Condition) = along words false (plain_field v.value) next path vs v.names in
    let more : Fits (conds_fit known) (count v.names) rest = along_fit words false (plain_field v.value) next path vs v.names room (plain_fits known (count v.names) v.value two.fit) in
    record {
      more = omega (arith, one.more, two.more, more.more);
      fit = both-true (condition_stays known (count v.names) (count rest.names) (triple_condition state id e.value (plain_field v.value) false) more.more (fresh_triple_fits words state id e.value e.names (field_stays known (count f) (count e.names) id one.more p) one.fit)) more.fit;
    }

-- some conditions and others behind them
pub appended_fit : (known : ℕ) (n : ℕ) (e : Expanded (List Condition)) (cs : List Condition) (rest : Expanded (List Condition)) → n ≤ count e.names → conds_fit known (count e.names) cs ≡ true → Fits (conds_fit known) (count e.names) rest
    → (n ≤ count rest.names) × (conds_fit known (count rest.names) (cs ++ rest.value) ≡ true)
appended_fit known n e cs rest more fit others =
    (omega (arith, more, others.more), all_append (condition_fits known (count rest.names)) cs rest.value (conds_stay known (count e.names) (count rest.names) cs others.more fit) others.fit)

tests_conditions_fit : (words : Texts) (state : Bool) (id : Field) (ts : List AttributeTest) (f : Fresh) → 0 < length words → field_fits (length words) (count f) id ≡ true
    → Fits (conds_fit (length words)) (count f) (tests_conditions words state id ts f)
tests_conditions_fit words state id [] f room p = record { more = omega arith; fit = refl }
tests_conditions_fit words state id (t ∷ ts) f room p =
    let known : ℕ = length words in
    let e : Expanded (List Condition) = along words state id t.attribute t.path t.values f in
    let one : Fits (conds_fit known) (count f) e = along_fit words state id t.attribute t.path t.values f room p in
    let rest : Expanded (List Condition) = tests_conditions words state id ts e.names in
    let more : Fits (conds_fit known) (count e.names) rest = tests_conditions_fit words state id ts e.names room (field_stays known (count f) (count e.names) id one.more p) in
    let both : (count f ≤ count rest.names) × (conds_fit known (count rest.names) (signed t.negative e.value ++ rest.value) ≡ true) = appended_fit known (count f) e (signed t.negative e.value) rest one.more (signed_fit known (count e.names) t.negative e.value one.fit) more in
    record { more = both.0; fit = both.1 }

-- ---- groups

group_field_fits : (words : Texts) (tree : Option FieldTree) (f : Fresh) → 0 < length words → Fits (field_fits (length words)) (count f) (group_field words tree f)
group_field_fits words None f room =
    let one : Fits (atom_fits (length words)) (count f) (fresh_variable f) = fresh_fits words f in
    record { more = one.more; fit = plain_fits (length words) (count (fresh_variable f).names) (fresh_variable f).value one.fit }
group_field_fits words (Some tree) f room = field_of_fits words tree f room

group_tests_fit : (words : Texts) (state : Bool) (id : Field) (ts : List AttributeTest) (f : Fresh) → 5 < length words → field_fits (length words) (count f) id ≡ true
    → Fits (conds_fit (length words)) (count f) (group_tests words state id ts f)
group_tests_fit words state id [] f room p =
    record { more = (fresh_fits words f).more; fit = both-true (fresh_triple_fits words state id (plain_field (Const (Word 5))) f p (plain_fits (length words) (count f) (Const (Word 5)) (lt-ltb 5 (length words) room))) refl }
group_tests_fit words state id (t ∷ ts) f room p = tests_conditions_fit words state id (t ∷ ts) f (omega (arith, room)) p

group_conditions_fit : (words : Texts) (g : Group) (f : Fresh) → 5 < length words → Fits (conds_fit (length words)) (count f) (group_conditions words g f)
group_conditions_fit words g f room =
    let e : Expanded Field = group_field words g.field f in
    let one : Fits (field_fits (length words)) (count f) e = group_field_fits words g.field f (omega (arith, room)) in
    let rest : Fits (conds_fit (length words)) (count e.names) (group_tests words g.state e.value g.tests e.names) = group_tests_fit words g.state e.value g.tests e.names room one.fit in
    record { more = omega (arith, one.more, rest.more); fit = rest.fit }

joined_fit : (known n : ℕ) (negative : Bool) (cs : List Condition) → conds_fit known n cs ≡ true → conds_fit known n (cond negative (conjunctive (all_of cs) ∷ []) cs) ≡ true
joined_fit known n true cs fit = both-true (all_conditions known n cs fit) refl
joined_fit known n false cs fit = fit

mutual
  pub part_conditions_fit : (p : Part) (words : Texts) (f : Fresh) → 5 < length words → Fits (conds_fit (length words)) (count f) (part_conditions p words f)
  part_conditions_fit (grouped negative g) words f room =
      let one : Fits (conds_fit (length words)) (count f) (group_conditions words g f) = group_conditions_fit words g f room in
      record { more = one.more; fit = signed_fit (length words) (count (group_conditions words g f).names) negative (group_conditions words g f).value one.fit }
  part_conditions_fit (joined negative p ps) words f room =
      let known : ℕ = length words in
      let e : Expanded (List Condition) = part_conditions p words f in
      let one : Fits (conds_fit known) (count f) e = part_conditions_fit p words f room in
      let rest : Expanded (List Condition) = parts_conditions ps words e.names in
      let more : Fits (conds_fit known) (count e.names) rest = parts_conditions_fit ps words e.names room in
      let both : (count f ≤ count rest.names) × (conds_fit known (count rest.names) (e.value ++ rest.value) ≡ true) = appended_fit known (count f) e e.value rest one.more one.fit more in
      record { more = both.0; fit = joined_fit known (count rest.names) negative (e.value ++ rest.value) both.1 }

  pub parts_conditions_fit : (ps : Parts) (words : Texts) (f : Fresh) → 5 < length words → Fits (conds_fit (length words)) (count f) (parts_conditions ps words f)
  parts_conditions_fit no_parts words f room = record { more = omega arith; fit = refl }
  parts_conditions_fit (part_and p ps) words f room =
      let known : ℕ = length words in
      let e : Expanded (List Condition) = part_conditions p words f in
      let one : Fits (conds_fit known) (count f) e = part_conditions_fit p words f room in
      let rest : Expanded (List Condition) = parts_conditions ps words e.names in
      let more : Fits (conds_fit known) (count e.names) rest = parts_conditions_fit ps words e.names room in
      let both : (count f ≤ count rest.names) × (conds_fit known (count rest.names) (e.value ++ rest.value) ≡ true) = appended_fit known (count f) e e.value rest one.more one.fit more in
      record { more = both.0; fit = both.1 }
