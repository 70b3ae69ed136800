-- Why the order stops, by what was left.
use Rattle.std.proofs.Common.{◌≡◌, ℕ, suc, Bool, true, false, ◌&&◌, ◌||◌, not, List, refl, sym, ap, ◌∙◌}
use Rattle.std.specs.Prelude.{Option, Some, None, option_map, if◌then◌else◌}
use Rattle.soar_rule.specs.Checking.{unbound, unconnected, told, lack_of_linked, place_left, stop_of}
use Rattle.soar_rule.specs.Conditions.{Condition, positive, negated, conjunctive, Conditions, no_more, condition_and}
use Rattle.soar_rule.specs.MatchOrder.{or_else, missing_in, is_linked, is_unlinked, unless_missing, Taken, first_lack}
use Rattle.soar_rule.specs.Variables.{is_among, plain_outside}
use Rattle.rule_check.specs.declared.level.Left.{Left}
use Rattle.rule_check.specs.Levels.{left_from}
use Rattle.rule_check.specs.Stops.{stop_seen}
use Rattle.rule_check.proofs.AgreeLemmas.{lack_or_rest}

-- a positive condition outside negations lacks a variable only where it is linked
linked_step : (taken linked : Bool) (missing : Option ℕ) (c : Condition) (rest : Option ℕ)
    → or_else (if not taken && linked then missing else None) rest ≡ lack_or_rest (taken || false) (if linked then unless_missing missing c else is_unlinked) rest
linked_step true linked missing c rest = refl
linked_step false false missing c rest = refl
linked_step false true (Some v) c rest = refl
linked_step false true None c rest = refl

passed_step : (taken : Bool) (rest other : Option ℕ) → rest ≡ (if taken || true then rest else other)
passed_step true rest other = refl
passed_step false rest other = refl

linked_lack : (cs : Conditions) (outside : List ℕ) (place : ℕ) (t : Taken) → lack_of_linked cs place t ≡ first_lack cs true false outside place t
linked_lack no_more outside place t = refl
linked_lack (condition_and (positive p) cs) outside place t =
    ap (or_else (if not (is_among t.places place) && is_linked t.bound p then missing_in t.bound p else None)) (linked_lack cs outside (suc place) t)
    ∙ linked_step (is_among t.places place) (is_linked t.bound p) (missing_in t.bound p) (positive p) (first_lack cs true false outside (suc place) t)
linked_lack (condition_and (negated p) cs) outside place t = linked_lack cs outside (suc place) t ∙ passed_step (is_among t.places place) (first_lack cs true false outside (suc place) t) _
linked_lack (condition_and (conjunctive ds) cs) outside place t = linked_lack cs outside (suc place) t ∙ passed_step (is_among t.places place) (first_lack cs true false outside (suc place) t) _

pub stop_left : (cs : Conditions) (t : Taken) (left : Left) → left ≡ left_from cs false (plain_outside cs) 0 t
    → stop_seen left ≡ stop_of cs t
stop_left cs t left same =
    ap stop_seen same
    ∙ ap (λ lack. or_else (option_map unbound lack) (or_else (option_map (λ place. unconnected (told place)) (place_left cs 0 t)) (option_map unbound (first_lack cs false false (plain_outside cs) 0 t))))
    (sym (linked_lack cs (plain_outside cs) 0 t))
