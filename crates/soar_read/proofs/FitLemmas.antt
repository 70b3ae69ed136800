-- Variables have numbers below the count of names, and constants are words of the table: what that means, and that it stays so.
use Rattle.std.proofs.Common.{◌≡◌, ℕ, ◌≤◌, ◌&&◌, Bool, true, false, nat_lt, List, [], ◌∷◌, ◌++◌, length, refl, arith}
use Rattle.std.specs.List.{list_all}
use Rattle.std.proofs.lemmas.Bool.{ltb-true, lt-ltb}
use Rattle.soar_sym.specs.declared.symbol.Sym.{Sym}
use Rattle.soar_sym.specs.declared.symbol.Sym.TheVariants.{Ident, Word, Int}
use Rattle.soar_rule.specs.declared.cond.Atom.{Atom}
use Rattle.soar_rule.specs.declared.cond.Atom.TheVariants.{Const, Var}
use Rattle.soar_rule.specs.declared.cond.Test.{Test}
use Rattle.soar_rule.specs.declared.cond.Test.TheVariants.{Plain, Rel, OneOf}
use Rattle.soar_rule.specs.declared.cond.Field.{Field}
use Rattle.soar_rule.specs.declared.cond.Pattern.{Pattern}
use Rattle.soar_rule.specs.Conditions.{Condition, positive, negated, conjunctive, Conditions, no_more, condition_and, all_of}
use Rattle.soar_rule.specs.Productions.{ValueOf, atom_value, call_value, ValuesOf, no_values, value_and, PreferenceOf, accepts, rejects, requires_it, prohibits, is_best, is_worst, is_indifferent, is_better_than, is_worse_than, is_indifferent_to, ActionOf, makes, writes, halts}
use Rattle.defs_read.specs.FreshNames.{Fresh, Expanded}
use Rattle.read_parts.proofs.TextLemmas.{and-true, both-true}
use Rattle.read_parts.proofs.UseLemmas.{all_mapped}

-- ---- what fits: so many words are known, and so many names

abbrev pub symbol_fits : ℕ → Sym → Bool
symbol_fits known (Word w) = nat_lt w known
symbol_fits known (Int z) = true
symbol_fits known (Ident letter number) = false

abbrev pub atom_fits : ℕ → ℕ → Atom → Bool
atom_fits known bound (Const s) = symbol_fits known s
atom_fits known bound (Var v) = nat_lt v bound

abbrev pub test_fits : ℕ → ℕ → Test → Bool
test_fits known bound (Plain a) = atom_fits known bound a
test_fits known bound (Rel r a) = atom_fits known bound a
test_fits known bound (OneOf symbols) = list_all (symbol_fits known) symbols

abbrev pub field_fits : ℕ → ℕ → Field → Bool
field_fits known bound field = list_all (test_fits known bound) field.tests

abbrev pub pattern_fits : ℕ → ℕ → Pattern → Bool
pattern_fits known bound p = field_fits known bound p.id && (field_fits known bound p.attr && field_fits known bound p.value)

abbrev mutual
  pub condition_fits : ℕ → ℕ → Condition → Bool
  condition_fits known bound (positive p) = pattern_fits known bound p
  condition_fits known bound (negated p) = pattern_fits known bound p
  condition_fits known bound (conjunctive inside) = conditions_fit known bound inside

  pub conditions_fit : ℕ → ℕ → Conditions → Bool
  conditions_fit known bound no_more = true
  conditions_fit known bound (condition_and c cs) = condition_fits known bound c && conditions_fit known bound cs

abbrev mutual
  pub value_fits : ℕ → ℕ → ValueOf → Bool
  value_fits known bound (atom_value a) = atom_fits known bound a
  value_fits known bound (call_value f values) = values_fit known bound values

  pub values_fit : ℕ → ℕ → ValuesOf → Bool
  values_fit known bound no_values = true
  values_fit known bound (value_and v values) = value_fits known bound v && values_fit known bound values

abbrev pub preference_fits : ℕ → ℕ → PreferenceOf → Bool
preference_fits known bound (is_better_than v) = value_fits known bound v
preference_fits known bound (is_worse_than v) = value_fits known bound v
preference_fits known bound (is_indifferent_to v) = value_fits known bound v
preference_fits known bound accepts = true
preference_fits known bound rejects = true
preference_fits known bound requires_it = true
preference_fits known bound prohibits = true
preference_fits known bound is_best = true
preference_fits known bound is_worst = true
preference_fits known bound is_indifferent = true

abbrev pub action_fits : ℕ → ℕ → ActionOf → Bool
action_fits known bound (makes id attr value p) = atom_fits known bound id && (value_fits known bound attr && (value_fits known bound value && preference_fits known bound p))
action_fits known bound (writes values) = list_all (value_fits known bound) values
action_fits known bound halts = true

-- ---- with more names

abbrev pub Stays : {A : Type 0} → (ℕ → A → Bool) → Type 0
Stays {A} fits = (m n : ℕ) (a : A) → m ≤ n → fits m a ≡ true → fits n a ≡ true

pub atom_stays : (known : ℕ) → Stays (atom_fits known)
atom_stays known m n (Const s) more fits = fits
atom_stays known m n (Var v) more fits = lt-ltb v n (omega (arith, ltb-true v m fits))

pub test_stays : (known : ℕ) → Stays (test_fits known)
test_stays known m n (Plain a) more fits = atom_stays known m n a more fits
test_stays known m n (Rel r a) more fits = atom_stays known m n a more fits
test_stays known m n (OneOf symbols) more fits = fits

pub all_stay : {A : Type 0} (fits : ℕ → A → Bool) → Stays fits → Stays (λ n items. list_all (fits n) items)
all_stay fits stays m n items more fit = all_mapped (fits m) (fits n) (λ a. stays m n a more) items fit

pub field_stays : (known : ℕ) → Stays (field_fits known)
field_stays known m n field more fits = all_stay (test_fits known) (test_stays known) m n field.tests more fits

pattern_stays : (known : ℕ) → Stays (pattern_fits known)
pattern_stays known m n p more fits =
    let one : (field_fits known m p.id ≡ true) × ((field_fits known m p.attr && field_fits known m p.value) ≡ true) = and-true fits in
    let two : (field_fits known m p.attr ≡ true) × (field_fits known m p.value ≡ true) = and-true one.1 in
    both-true (field_stays known m n p.id more one.0) (both-true (field_stays known m n p.attr more two.0) (field_stays known m n p.value more two.1))

mutual
  pub condition_stays : (known m n : ℕ) (c : Condition) → m ≤ n → condition_fits known m c ≡ true → condition_fits known n c ≡ true
  condition_stays known m n (positive p) more fits = pattern_stays known m n p more fits
  condition_stays known m n (negated p) more fits = pattern_stays known m n p more fits
  condition_stays known m n (conjunctive inside) more fits = conditions_stay known m n inside more fits

  pub conditions_stay : (known m n : ℕ) (cs : Conditions) → m ≤ n → conditions_fit known m cs ≡ true → conditions_fit known n cs ≡ true
  conditions_stay known m n no_more more fits = refl
  conditions_stay known m n (condition_and c cs) more fits =
      let both : (condition_fits known m c ≡ true) × (conditions_fit known m cs ≡ true) = and-true fits in
      both-true (condition_stays known m n c more both.0) (conditions_stay known m n cs more both.1)

mutual
  pub value_stays : (known m n : ℕ) (v : ValueOf) → m ≤ n → value_fits known m v ≡ true → value_fits known n v ≡ true
  value_stays known m n (atom_value a) more fits = atom_stays known m n a more fits
  value_stays known m n (call_value f values) more fits = values_stay known m n values more fits

  pub values_stay : (known m n : ℕ) (vs : ValuesOf) → m ≤ n → values_fit known m vs ≡ true → values_fit known n vs ≡ true
  values_stay known m n no_values more fits = refl
  values_stay known m n (value_and v vs) more fits =
      let both : (value_fits known m v ≡ true) × (values_fit known m vs ≡ true) = and-true fits in
      both-true (value_stays known m n v more both.0) (values_stay known m n vs more both.1)

pub preference_stays : (known : ℕ) → Stays (preference_fits known)
preference_stays known m n (is_better_than v) more fits = value_stays known m n v more fits
preference_stays known m n (is_worse_than v) more fits = value_stays known m n v more fits
preference_stays known m n (is_indifferent_to v) more fits = value_stays known m n v more fits
preference_stays known m n accepts more fits = refl
preference_stays known m n rejects more fits = refl
preference_stays known m n requires_it more fits = refl
preference_stays known m n prohibits more fits = refl
preference_stays known m n is_best more fits = refl
preference_stays known m n is_worst more fits = refl
preference_stays known m n is_indifferent more fits = refl

pub action_stays : (known : ℕ) → Stays (action_fits known)
action_stays known m n (makes id attr value p) more fits =
    let one : (atom_fits known m id ≡ true) × ((value_fits known m attr && (value_fits known m value && preference_fits known m p)) ≡ true) = and-true fits in
    let two : (value_fits known m attr ≡ true) × ((value_fits known m value && preference_fits known m p) ≡ true) = and-true one.1 in
    let three : (value_fits known m value ≡ true) × (preference_fits known m p ≡ true) = and-true two.1 in
    both-true (atom_stays known m n id more one.0) (both-true (value_stays known m n attr more two.0) (both-true (value_stays known m n value more three.0) (preference_stays known m n p more three.1)))
action_stays known m n (writes values) more fits = all_stay (value_fits known) (value_stays known) m n values more fits
action_stays known m n halts more fits = refl

-- ---- what an expansion leaves

abbrev pub count : Fresh → ℕ
count f = length f.names

-- no name is lost, and what comes out fits
pub record Fits {A : Type 0} (fits : ℕ → A → Bool) (n : ℕ) (e : Expanded A) : Type 0 where
  pub more : n ≤ count e.names
  pub fit : fits (count e.names) e.value ≡ true

pub all_append : {A : Type 0} (p : A → Bool) (xs ys : List A) → list_all p xs ≡ true → list_all p ys ≡ true → list_all p (xs ++ ys) ≡ true
all_append p [] ys one two = two
all_append p (x ∷ xs) ys one two = let both : (p x ≡ true) × (list_all p xs ≡ true) = and-true one in both-true both.0 (all_append p xs ys both.1 two)

pub all_conditions : (known n : ℕ) (cs : List Condition) → list_all (condition_fits known n) cs ≡ true → conditions_fit known n (all_of cs) ≡ true
all_conditions known n [] fits = refl
all_conditions known n (c ∷ cs) fits = let both : (condition_fits known n c ≡ true) × (list_all (condition_fits known n) cs ≡ true) = and-true fits in both-true both.0 (all_conditions known n cs both.1)
