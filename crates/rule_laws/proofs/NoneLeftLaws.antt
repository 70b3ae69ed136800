-- Where no condition is left, nothing is lacking.
use Rattle.std.proofs.Common.{◌≡◌, ℕ, suc, Bool, true, false, ◌&&◌, List, Option, None, refl, sym, ◌∙◌, ap}
use Rattle.std.specs.Prelude.{not, if◌then◌else◌, option_map}
use Rattle.soar_rule.specs.Checking.{unbound, unconnected, told, lack_of_linked, place_left, stop_of}
use Rattle.soar_rule.specs.Conditions.{Condition, positive, negated, conjunctive, Conditions, no_more, condition_and}
use Rattle.soar_rule.specs.MatchOrder.{or_else, missing_in, is_linked, Taken, first_lack}
use Rattle.soar_rule.specs.Variables.{is_among, plain_outside}
use Rattle.rule_laws.proofs.LackLaws.{lack_on, place_on}
use Rattle.rule_laws.proofs.LeftLaws.{left_of, left_on, left_here}

-- the first place is taken, and none of the others is left
first_is_taken :
    (c : Condition) (cs : Conditions) (place : ℕ) (places : List ℕ) → left_of (condition_and c cs) place places ≡ no_more →
    (is_among places place ≡ true) × (left_of cs (suc place) places ≡ no_more)
first_is_taken c cs place places l = by (is_among places place) refl
  where
    by : (b : Bool) → is_among places place ≡ b → (is_among places place ≡ true) × (left_of cs (suc place) places ≡ no_more)
    by true e = (e, sym (left_on c cs place places e) ∙ l)
    by false e = let f = sym (left_here c cs place places e) ∙ l in absurd (cc)

pub no_lack :
    (cs : Conditions) (among inside : Bool) (outside : List ℕ) (place : ℕ) (t : Taken) → left_of cs place t.places ≡ no_more →
    first_lack cs among inside outside place t ≡ None
no_lack no_more among inside outside place t l = refl
no_lack (condition_and c cs) among inside outside place t l =
    let f = first_is_taken c cs place t.places l in lack_on c cs outside place t among inside f.0 ∙ no_lack cs among inside outside (suc place) t f.1

no_place : (cs : Conditions) (outside : List ℕ) (place : ℕ) (t : Taken) → left_of cs place t.places ≡ no_more → place_left cs place t ≡ None
no_place no_more outside place t l = refl
no_place (condition_and c cs) outside place t l =
    let f = first_is_taken c cs place t.places l in place_on c cs outside place t f.0 ∙ no_place cs outside (suc place) t f.1

linked_on :
    (c : Condition) (cs : Conditions) (place : ℕ) (t : Taken) → is_among t.places place ≡ true →
    lack_of_linked (condition_and c cs) place t ≡ lack_of_linked cs (suc place) t
linked_on (positive p) cs place t e =
    ap (λ b. or_else (if not b && is_linked t.bound p then missing_in t.bound p else None) (lack_of_linked cs (suc place) t)) e
linked_on (negated p) cs place t e = refl
linked_on (conjunctive inside) cs place t e = refl

no_linked : (cs : Conditions) (place : ℕ) (t : Taken) → left_of cs place t.places ≡ no_more → lack_of_linked cs place t ≡ None
no_linked no_more place t l = refl
no_linked (condition_and c cs) place t l = let f = first_is_taken c cs place t.places l in linked_on c cs place t f.0 ∙ no_linked cs (suc place) t f.1

pub no_stop : (cs : Conditions) (t : Taken) → left_of cs 0 t.places ≡ no_more → stop_of cs t ≡ None
no_stop cs t l =
    none_of (lack_of_linked cs 0 t) (place_left cs 0 t) (first_lack cs false false (plain_outside cs) 0 t)
    (no_linked cs 0 t l) (no_place cs (plain_outside cs) 0 t l) (no_lack cs false false (plain_outside cs) 0 t l)
  where
    none_of :
        (a b c : Option ℕ) → a ≡ None → b ≡ None → c ≡ None →
        or_else (option_map unbound a) (or_else (option_map (λ k. unconnected (told k)) b) (option_map unbound c)) ≡ None
    none_of a b c e f g = cc
