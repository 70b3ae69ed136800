-- The table of words grows alone, as actions are made.
use Rattle.std.proofs.Common.{ℕ, suc, cond, List, [], ◌∷◌, Option, Some, None, Result, Ok, Err}
use Rattle.soar_sym.specs.Words.{Texts}
use Rattle.soar_sym.specs.declared.symbol.Sym.{Sym}
use Rattle.soar_rule.specs.declared.cond.Atom.{Atom}
use Rattle.soar_rule.specs.declared.cond.Atom.TheVariants.{Const, Var}
use Rattle.soar_rule.specs.Productions.{ValueOf, atom_value, call_value, ValuesOf, no_values, value_and, PreferenceOf, ActionOf, makes, writes, halts}
use Rattle.defs_match.specs.Testing.{symbol_of}
use Rattle.defs_soar.specs.declared.firing.DropCause.{DropCause}
use Rattle.defs_soar.specs.declared.firing.DropCause.TheVariants as cause
use Rattle.defs_soar.specs.declared.goal.Goal.{Goal}
use Rattle.defs_soar.specs.declared.preference.Wish.{Wish}
use Rattle.defs_soar.specs.Firing.{evaluated_referent, identifier_only, judged, kind_of, MadeSoFar, referent_of, values_of_list, with_action, with_actions, with_wish, with_writing, wished}
use Rattle.defs_soar.specs.Functions.{Computed, gives, spells, fails, computed}
use Rattle.defs_soar.specs.Naming.{Naming, Evaluated, as_evaluated, atom_of_action, done, evaluated, evaluated_all, then_with, variable_value}
use Rattle.defs_soar.specs.Values.{is_identifier}
use Rattle.learning_laws.specs.Lawful.{Grown}
use Rattle.learning_laws.proofs.TableGrowth.{grown_by_text, grown_twice, not_grown}

-- ---- the table grows alone

pub then_grows : {A B : Type 0} (words : Texts) (e : Evaluated A) (f : A → Naming → Evaluated B) → Grown words e.naming.words → ((a : A) (n : Naming) → Grown n.words (f a n).naming.words)
    → Grown words (then_with e f).naming.words
then_grows {A} {B} words e f h k = go (e.value)
  where
    go : (r : Result A DropCause) → Grown words (then_with {A = A} {B = B} (record { value = r; naming = e.naming }) f).naming.words
    go (Ok a) = grown_twice words e.naming.words (f a e.naming).naming.words h (k a e.naming)
    go (Err why) = h

pub atom_grows : (a : Atom) (n : Naming) → Grown n.words (atom_of_action a n).naming.words
atom_grows (Const s) n = not_grown n.words
atom_grows (Var v) n = go (symbol_of v n.bindings)
  where
    go : (o : Option Sym) → Grown n.words (variable_value v n o).naming.words
    go (Some s) = not_grown n.words
    go None = not_grown n.words

pub computed_grows : (n : Naming) (c : Computed) → Grown n.words (as_evaluated n c).naming.words
computed_grows n (gives s) = not_grown n.words
computed_grows n (spells text) = grown_by_text n.words text
computed_grows n (fails e) = not_grown n.words

mutual
  pub value_grows : (v : ValueOf) (n : Naming) → Grown n.words (evaluated v n).naming.words
  value_grows (atom_value a) n = atom_grows a n
  value_grows (call_value f values) n =
      then_grows n.words (evaluated_all values n) (λ symbols after. as_evaluated after (computed after.words f symbols)) (values_grow values n) (λ symbols after. computed_grows after (computed after.words f symbols))

  pub values_grow : (vs : ValuesOf) (n : Naming) → Grown n.words (evaluated_all vs n).naming.words
  values_grow no_values n = not_grown n.words
  values_grow (value_and v vs) n =
      then_grows n.words (evaluated v n) (λ s after. then_with (evaluated_all vs after) (λ symbols last. done (s ∷ symbols) last)) (value_grows v n)
      (λ s after. then_grows after.words (evaluated_all vs after) (λ symbols last. done (s ∷ symbols) last) (values_grow vs after) (λ symbols last. not_grown last.words))

pub referent_grows : (o : Option ValueOf) (n : Naming) → Grown n.words (evaluated_referent o n).naming.words
referent_grows None n = not_grown n.words
referent_grows (Some v) n = then_grows n.words (evaluated v n) (λ s after. done (Some s) after) (value_grows v n) (λ s after. not_grown after.words)

-- what a firing evaluates of a wish, part by part
abbrev pub from_referent : List Goal → PreferenceOf → Sym → Sym → Sym → Naming → Evaluated Wish
from_referent goals p i a v n3 =
    then_with (evaluated_referent (referent_of p) n3) (λ r n4. record { value = judged goals (record { id = i; attr = a; value = v; kind = kind_of p r; referent = r }); naming = n4 })

abbrev pub from_value : List Goal → ValueOf → PreferenceOf → Sym → Sym → Naming → Evaluated Wish
from_value goals value p i a n2 = then_with (evaluated value n2) (from_referent goals p i a)

abbrev pub from_attr : List Goal → ValueOf → ValueOf → PreferenceOf → Sym → Naming → Evaluated Wish
from_attr goals attr value p i n1 = then_with (evaluated attr n1) (from_value goals value p i)

pub from_referent_grows : (goals : List Goal) (p : PreferenceOf) (i a v : Sym) (n : Naming) → Grown n.words (from_referent goals p i a v n).naming.words
from_referent_grows goals p i a v n =
    then_grows n.words (evaluated_referent (referent_of p) n) (λ r n4. record { value = judged goals (record { id = i; attr = a; value = v; kind = kind_of p r; referent = r }); naming = n4 })
    (referent_grows (referent_of p) n) (λ r n4. not_grown n4.words)

pub from_value_grows : (goals : List Goal) (value : ValueOf) (p : PreferenceOf) (i a : Sym) (n : Naming) → Grown n.words (from_value goals value p i a n).naming.words
from_value_grows goals value p i a n = then_grows n.words (evaluated value n) (from_referent goals p i a) (value_grows value n) (from_referent_grows goals p i a)

pub from_attr_grows : (goals : List Goal) (attr value : ValueOf) (p : PreferenceOf) (i : Sym) (n : Naming) → Grown n.words (from_attr goals attr value p i n).naming.words
from_attr_grows goals attr value p i n = then_grows n.words (evaluated attr n) (from_value goals value p i) (value_grows attr n) (from_value_grows goals value p i)

pub id_grows : (words : Texts) (e : Evaluated Sym) → Grown words e.naming.words → Grown words (identifier_only e).naming.words
id_grows words e h = then_grows words e (λ s naming. record { value = cond (is_identifier s) (Ok s) (Err cause.NotAnIdentifier); naming = naming }) h (λ s naming. not_grown naming.words)

pub wished_grows : (goals : List Goal) (id : Atom) (attr value : ValueOf) (p : PreferenceOf) (n : Naming) → Grown n.words (wished goals id attr value p n).naming.words
wished_grows goals id attr value p n =
    then_grows n.words (identifier_only (atom_of_action id n)) (from_attr goals attr value p) (id_grows n.words (atom_of_action id n) (atom_grows id n)) (from_attr_grows goals attr value p)

pub with_wish_grows : (words : Texts) (place : ℕ) (made : MadeSoFar) (e : Evaluated Wish) → Grown words e.naming.words → Grown words (with_wish place made e).naming.words
with_wish_grows words place made e h = go (e.value)
  where
    go : (r : Result Wish DropCause) → Grown words (with_wish place made (record { value = r; naming = e.naming })).naming.words
    go (Ok w) = h
    go (Err why) = h

pub with_writing_grows : (words : Texts) (place : ℕ) (made : MadeSoFar) (e : Evaluated (List Sym)) → Grown words e.naming.words → Grown words (with_writing place made e).naming.words
with_writing_grows words place made e h = go (e.value)
  where
    go : (r : Result (List Sym) DropCause) → Grown words (with_writing place made (record { value = r; naming = e.naming })).naming.words
    go (Ok w) = h
    go (Err why) = h

-- what an evaluation leaves is what its action leaves
pub wish_within : {table : Texts} (place : ℕ) (made : MadeSoFar) (e : Evaluated Wish) → Grown (with_wish place made e).naming.words table → Grown e.naming.words table
wish_within {table} place made e h = go (e.value) h
  where
    go : (r : Result Wish DropCause) → Grown (with_wish place made (record { value = r; naming = e.naming })).naming.words table → Grown e.naming.words table
    go (Ok w) k = k
    go (Err why) k = k

pub writing_within : {table : Texts} (place : ℕ) (made : MadeSoFar) (e : Evaluated (List Sym)) → Grown (with_writing place made e).naming.words table → Grown e.naming.words table
writing_within {table} place made e h = go (e.value) h
  where
    go : (r : Result (List Sym) DropCause) → Grown (with_writing place made (record { value = r; naming = e.naming })).naming.words table → Grown e.naming.words table
    go (Ok w) k = k
    go (Err why) k = k

pub action_grows : (goals : List Goal) (place : ℕ) (a : ActionOf) (made : MadeSoFar) → Grown made.naming.words (with_action goals place a made).naming.words
action_grows goals place (makes id attr value p) made = with_wish_grows made.naming.words place made (wished goals id attr value p made.naming) (wished_grows goals id attr value p made.naming)
action_grows goals place (writes values) made = with_writing_grows made.naming.words place made (evaluated_all (values_of_list values) made.naming) (values_grow (values_of_list values) made.naming)
action_grows goals place halts made = not_grown made.naming.words

pub actions_grow : (goals : List Goal) (place : ℕ) (actions : List ActionOf) (made : MadeSoFar) → Grown made.naming.words (with_actions goals place actions made).naming.words
actions_grow goals place [] made = not_grown made.naming.words
actions_grow goals place (a ∷ actions) made =
    grown_twice made.naming.words (with_action goals place a made).naming.words (with_actions goals (suc place) actions (with_action goals place a made)).naming.words
    (action_grows goals place a made) (actions_grow goals (suc place) actions (with_action goals place a made))
