-- What a firing makes, action by action (Soar manual, chapter 3, right-hand sides).
use Rattle.std.specs.Prelude.{ℕ, suc, Bool, true, false, ◌&&◌, ◌||◌, not, pos, neg_ℤ, int_le, List, [], ◌∷◌, ◌++◌, Option, Some, None, Result, Ok, Err, if◌then◌else◌}
use Rattle.soar_sym.specs.Words.{Texts}
use Rattle.soar_sym.specs.declared.symbol.Sym.{Sym}
use Rattle.soar_sym.specs.declared.symbol.Sym.TheVariants.{Int}
use Rattle.soar_rule.specs.declared.cond.Atom.{Atom}
use Rattle.soar_rule.specs.Checking.{told}
use Rattle.soar_rule.specs.Productions.{ValueOf, ValuesOf, no_values, value_and, PreferenceOf, accepts, rejects, requires_it, prohibits, is_best, is_worst, is_indifferent, is_better_than, is_worse_than, is_indifferent_to, ActionOf, makes, writes, halts}
use Rattle.defs_soar.specs.declared.preference.PrefKind.{PrefKind}
use Rattle.defs_soar.specs.declared.preference.PrefKind.TheVariants as kind
use Rattle.defs_soar.specs.declared.preference.Wish.{Wish}
use Rattle.defs_soar.specs.declared.firing.DropCause.{DropCause}
use Rattle.defs_soar.specs.declared.firing.DropCause.TheVariants as cause
use Rattle.defs_soar.specs.declared.firing.Dropped.{Dropped}
use Rattle.defs_soar.specs.declared.goal.Goal.{Goal}
use Rattle.defs_soar.specs.Functions.{plain_text}
use Rattle.defs_soar.specs.Goals.{is_operator_slot}
use Rattle.defs_soar.specs.Naming.{Naming, Evaluated, atom_of_action, then_with, done, evaluated, evaluated_all}
use Rattle.defs_soar.specs.Values.{is_identifier, is_kind}

-- ---- preferences

abbrev pub referent_of : PreferenceOf → Option ValueOf
referent_of (is_better_than v) = Some v
referent_of (is_worse_than v) = Some v
referent_of (is_indifferent_to v) = Some v
referent_of other = None

abbrev pub evaluated_referent : Option ValueOf → Naming → Evaluated (Option Sym)
evaluated_referent None naming = done None naming
evaluated_referent (Some v) naming = then_with (evaluated v naming) (λ s after. done (Some s) after)

-- `=` with an integer is numeric
abbrev pub indifferent_kind : Option Sym → PrefKind
indifferent_kind (Some (Int z)) = kind.Numeric
indifferent_kind other = kind.IndifferentTo

abbrev pub kind_of : PreferenceOf → Option Sym → PrefKind
kind_of accepts referent = kind.Accept
kind_of rejects referent = kind.Reject
kind_of requires_it referent = kind.Require
kind_of prohibits referent = kind.Prohibit
kind_of is_best referent = kind.Best
kind_of is_worst referent = kind.Worst
kind_of is_indifferent referent = kind.Indifferent
kind_of (is_better_than v) referent = kind.Better
kind_of (is_worse_than v) referent = kind.Worse
kind_of (is_indifferent_to v) referent = indifferent_kind referent

abbrev pub is_ordinary_kind : PrefKind → Bool
is_ordinary_kind k = is_kind k kind.Accept || is_kind k kind.Reject

-- an identifier, or an integer where `=` stands before it
abbrev pub is_referent : PrefKind → Option Sym → Bool
is_referent k None = true
is_referent k (Some s) = is_identifier s || is_kind k kind.Numeric

abbrev pub fits_operator : Wish → Bool
fits_operator w = is_identifier w.value && is_referent w.kind w.referent

-- preferences other than `+` and `-` are for the operators of goals, and these are identifiers
abbrev pub is_for_operator : List Goal → Wish → Bool
is_for_operator goals w = if is_operator_slot goals w.id w.attr then fits_operator w else is_ordinary_kind w.kind

abbrev pub within_range : Option Sym → Bool
within_range (Some (Int z)) = int_le (neg_ℤ (pos 1000000000)) z && int_le z (pos 1000000000)
within_range other = true

abbrev pub is_in_range : Wish → Bool
is_in_range w = not (is_kind w.kind kind.Numeric) || within_range w.referent

abbrev pub judged : List Goal → Wish → Result Wish DropCause
judged goals w = if is_for_operator goals w then (if is_in_range w then Ok w else Err cause.OutOfRange) else Err cause.NotAnOperator

-- ---- actions

-- the identifier is evaluated and judged before attribute and value
abbrev pub identifier_only : Evaluated Sym → Evaluated Sym
identifier_only e = then_with e (λ s naming. record { value = if is_identifier s then Ok s else Err cause.NotAnIdentifier; naming = naming })

abbrev pub wished : List Goal → Atom → ValueOf → ValueOf → PreferenceOf → Naming → Evaluated Wish
wished goals id attr value preference naming =
    then_with (identifier_only (atom_of_action id naming)) (λ i n1. then_with (evaluated attr n1) (λ a n2. then_with (evaluated value n2) (λ v n3.
    then_with (evaluated_referent (referent_of preference) n3) (λ r n4.
    record { value = judged goals (record { id = i; attr = a; value = v; kind = kind_of preference r; referent = r }); naming = n4 }))))

-- what a firing has made so far
pub record MadeSoFar : Type 0 where
  pub wishes : List Wish
  pub text : List ℕ
  pub halted : Bool
  pub dropped : List Dropped
  pub naming : Naming

-- a place beyond 2^32 - 1 is told as that
abbrev pub with_dropped : ℕ → DropCause → MadeSoFar → MadeSoFar
with_dropped place why made = record made { dropped = made.dropped ++ record { action = told place; cause = why } ∷ [] }

abbrev pub with_wish : ℕ → MadeSoFar → Evaluated Wish → MadeSoFar
with_wish place made e =
    let after = record made { naming = e.naming } in
    elim (e.value) [ Ok w ↦ record after { wishes = after.wishes ++ w ∷ [] } | Err why ↦ with_dropped place why after ]

abbrev pub texts_of : Texts → List Sym → List ℕ
texts_of words [] = []
texts_of words (s ∷ symbols) = plain_text words s ++ texts_of words symbols

abbrev pub values_of_list : List ValueOf → ValuesOf
values_of_list [] = no_values
values_of_list (v ∷ values) = value_and v (values_of_list values)

abbrev pub with_writing : ℕ → MadeSoFar → Evaluated (List Sym) → MadeSoFar
with_writing place made e =
    let after = record made { naming = e.naming } in
    elim (e.value) [ Ok symbols ↦ record after { text = after.text ++ texts_of e.naming.words symbols } | Err why ↦ with_dropped place why after ]

-- an action at its place, from 1
abbrev pub with_action : List Goal → ℕ → ActionOf → MadeSoFar → MadeSoFar
with_action goals place (makes id attr value preference) made = with_wish place made (wished goals id attr value preference made.naming)
with_action goals place (writes values) made = with_writing place made (evaluated_all (values_of_list values) made.naming)
with_action goals place halts made = record made { halted = true }

abbrev pub with_actions : List Goal → ℕ → List ActionOf → MadeSoFar → MadeSoFar
with_actions goals place [] made = made
with_actions goals place (action ∷ actions) made = with_actions goals (suc place) actions (with_action goals place action made)

-- what a firing makes, from what its conditions bound
abbrev pub made_by : List Goal → List ActionOf → Naming → MadeSoFar
made_by goals actions naming = with_actions goals 1 actions (record { wishes = []; text = []; halted = false; dropped = []; naming = naming })
