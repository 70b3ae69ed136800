-- Each wish that a firing makes was judged to be in range, and no action takes one away.
use Rattle.std.proofs.Common.{◌≡◌, refl, ℕ, suc, ℤ, Bool, true, false, not, ◌&&◌, ◌||◌, cond, List, [], ◌∷◌, ◌++◌, Option, Some, Result, Ok, Err}
use Rattle.std.specs.Prelude.{int_le, pos, neg_ℤ, ◌≤ℤ◌}
use Rattle.std.specs.Bool.{passes}
use Rattle.std.specs.Int.Signed.{le_z_yes}
use Rattle.soar_sym.specs.declared.symbol.Sym.{Sym}
use Rattle.soar_sym.specs.declared.symbol.Sym.TheVariants.{Int}
use Rattle.soar_rule.specs.Productions.{ActionOf, makes, writes, halts, PreferenceOf, ValueOf}
use Rattle.soar_rule.specs.declared.cond.Atom.{Atom}
use Rattle.soar_choose.specs.Rows.{IsNumberInRange, IsWithin}
use Rattle.defs_soar.specs.declared.firing.DropCause.{DropCause}
use Rattle.defs_soar.specs.declared.firing.DropCause.TheVariants as cause
use Rattle.defs_soar.specs.declared.goal.Goal.{Goal}
use Rattle.defs_soar.specs.declared.preference.PrefKind.{PrefKind}
use Rattle.defs_soar.specs.declared.preference.PrefKind.TheVariants as kind
use Rattle.defs_soar.specs.declared.preference.Wish.{Wish}
use Rattle.defs_soar.specs.Firing.{MadeSoFar, evaluated_referent, identifier_only, is_for_operator, is_in_range, judged, kind_of, made_by, referent_of, texts_of, values_of_list, wished, with_action, with_actions, with_dropped, with_wish, with_writing, within_range}
use Rattle.defs_soar.specs.Naming.{Evaluated, Naming, atom_of_action, evaluated, evaluated_all, then_with}
use Rattle.defs_soar.specs.Values.{is_kind}
use Rattle.row_laws.specs.Made.{AreWishesInRange, MadeAreInRange, RowsMadeAreInRange, RowsOfWishesAreInRange}

-- ---- what is judged

in_order : (a b : ℤ) → int_le a b ≡ true → a ≤ℤ b
in_order a b e = le_z_yes (passes (int_le a b) e)

within : (most : ℕ) (z : ℤ) → (int_le (neg_ℤ (pos most)) z && int_le z (pos most)) ≡ true → IsWithin most z
within most z e = by (int_le (neg_ℤ (pos most)) z) (int_le z (pos most)) (in_order (neg_ℤ (pos most)) z) (in_order z (pos most)) e
  where
    by : (a b : Bool) → (a ≡ true → neg_ℤ (pos most) ≤ℤ z) → (b ≡ true → z ≤ℤ pos most) → (a && b) ≡ true → IsWithin most z
    by true b low high e = (low refl, high e)
    by false b low high e = absurd (cc)

number_in_range : (k : PrefKind) (referent : Option Sym) → (not (is_kind k kind.Numeric) || within_range referent) ≡ true → IsNumberInRange k referent
number_in_range kind.Numeric (Some (Int z)) e = within 1000000000 z e
number_in_range other referent e = tt

-- a wish, where one is made, is in range
abbrev IsFit : Result Wish DropCause → Type 0
IsFit (Ok w) = IsNumberInRange w.kind w.referent
IsFit (Err why) = Unit {0}

judged_fit : (goals : List Goal) (w : Wish) → IsFit (judged goals w)
judged_fit goals w = by (is_for_operator goals w) (is_in_range w) (number_in_range w.kind w.referent)
  where
    by : (a b : Bool) → (b ≡ true → IsNumberInRange w.kind w.referent) → IsFit (cond a (cond b (Ok w) (Err cause.OutOfRange)) (Err cause.NotAnOperator))
    by true true fit = fit refl
    by true false fit = tt
    by false b fit = tt

-- ---- an action

then_fit : {A : Type 0} (e : Evaluated A) (f : A → Naming → Evaluated Wish) → ((a : A) (naming : Naming) → IsFit (f a naming).value) → IsFit (then_with e f).value
then_fit {A} e f fit = by e.value
  where
    by : (r : Result A DropCause) → IsFit (elim r as (λ _. Evaluated Wish) [ Ok a ↦ f a e.naming | Err why ↦ record { value = Err why; naming = e.naming } ]).value
    by (Ok a) = fit a e.naming
    by (Err why) = tt

-- the rest of a wish, once its value is there, its attribute, or its identifier alone

abbrev by_value : List Goal → PreferenceOf → Sym → Sym → Sym → Naming → Evaluated Wish
by_value goals preference i a v naming =
    then_with (evaluated_referent (referent_of preference) naming)
    (λ r after. record { value = judged goals (record { id = i; attr = a; value = v; kind = kind_of preference r; referent = r }); naming = after })

abbrev by_attribute : List Goal → ValueOf → PreferenceOf → Sym → Sym → Naming → Evaluated Wish
by_attribute goals value preference i a naming = then_with (evaluated value naming) (by_value goals preference i a)

abbrev by_identifier : List Goal → ValueOf → ValueOf → PreferenceOf → Sym → Naming → Evaluated Wish
by_identifier goals attr value preference i naming = then_with (evaluated attr naming) (by_attribute goals value preference i)

wished_fit : (goals : List Goal) (id : Atom) (attr value : ValueOf) (preference : PreferenceOf) (naming : Naming)
    → IsFit (wished goals id attr value preference naming).value
wished_fit goals id attr value preference naming =
    then_fit (identifier_only (atom_of_action id naming)) (by_identifier goals attr value preference)
    (λ i n1. then_fit (evaluated attr n1) (by_attribute goals value preference i)
    (λ a n2. then_fit (evaluated value n2) (by_value goals preference i a) (λ v n3. referent_fit i a v n3)))
  where
    referent_fit : (i a v : Sym) (n : Naming) → IsFit (by_value goals preference i a v n).value
    referent_fit i a v n =
        then_fit (evaluated_referent (referent_of preference) n)
        (λ r after. record { value = judged goals (record { id = i; attr = a; value = v; kind = kind_of preference r; referent = r }); naming = after })
        (λ r after. judged_fit goals (record { id = i; attr = a; value = v; kind = kind_of preference r; referent = r }))

one_more : (wishes : List Wish) (w : Wish) → AreWishesInRange wishes → IsNumberInRange w.kind w.referent → AreWishesInRange (wishes ++ w ∷ [])
one_more [] w h k = (k, tt)
one_more (v ∷ wishes) w h k = (h.0, one_more wishes w h.1 k)

with_wish_fit : (place : ℕ) (made : MadeSoFar) (e : Evaluated Wish) → AreWishesInRange made.wishes → IsFit e.value → AreWishesInRange (with_wish place made e).wishes
with_wish_fit place made e h fit = by e.value fit
  where
    by : (r : Result Wish DropCause) → IsFit r → (let after : MadeSoFar = record made { naming = e.naming } in
        AreWishesInRange (elim r as (λ _. MadeSoFar) [ Ok w ↦ record after { wishes = after.wishes ++ w ∷ [] } | Err why ↦ with_dropped place why after ]).wishes)
    by (Ok w) fit = one_more made.wishes w h fit
    by (Err why) fit = h

with_writing_fit : (place : ℕ) (made : MadeSoFar) (e : Evaluated (List Sym)) → AreWishesInRange made.wishes → AreWishesInRange (with_writing place made e).wishes
with_writing_fit place made e h = by e.value
  where
    by : (r : Result (List Sym) DropCause) → (let after : MadeSoFar = record made { naming = e.naming } in
        AreWishesInRange (elim r as (λ _. MadeSoFar) [ Ok symbols ↦ record after { text = after.text ++ texts_of e.naming.words symbols } | Err why ↦ with_dropped place why after ]).wishes)
    by (Ok symbols) = h
    by (Err why) = h

-- ---- a firing

action_fit : (goals : List Goal) (place : ℕ) (action : ActionOf) (made : MadeSoFar) → AreWishesInRange made.wishes → AreWishesInRange (with_action goals place action made).wishes
action_fit goals place (makes id attr value preference) made h =
    with_wish_fit place made (wished goals id attr value preference made.naming) h (wished_fit goals id attr value preference made.naming)
action_fit goals place (writes values) made h = with_writing_fit place made (evaluated_all (values_of_list values) made.naming) h
action_fit goals place halts made h = h

actions_fit : (goals : List Goal) (place : ℕ) (actions : List ActionOf) (made : MadeSoFar) → AreWishesInRange made.wishes
    → AreWishesInRange (with_actions goals place actions made).wishes
actions_fit goals place [] made h = h
actions_fit goals place (action ∷ actions) made h = actions_fit goals (suc place) actions (with_action goals place action made) (action_fit goals place action made h)

pub made_are_in_range : MadeAreInRange
made_are_in_range goals actions naming = actions_fit goals 1 actions (record { wishes = []; text = []; halted = false; dropped = []; naming = naming }) tt

-- ---- rows

pub rows_of_wishes_are_in_range : RowsOfWishesAreInRange
rows_of_wishes_are_in_range goals number kind [] h = tt
rows_of_wishes_are_in_range goals number kind (w ∷ wishes) h = (h.0, rows_of_wishes_are_in_range goals number kind wishes h.1)

pub rows_made_are_in_range : RowsMadeAreInRange
rows_made_are_in_range goals actions naming number kind =
    rows_of_wishes_are_in_range goals number kind (made_by goals actions naming).wishes (made_are_in_range goals actions naming)
