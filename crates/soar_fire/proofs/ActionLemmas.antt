-- Actions in turn.
use Rattle.std.proofs.Common.{◌≡◌, ◌<◌, ℕ, ◌+◌, suc, List, [], ◌∷◌, ◌++◌, length, map, flat_map, drop, get_or, Result, Ok, Err, refl, sym, ap, ◌∙◌, subst, add-one, drop-cons}
use Rattle.soar_sym.specs.Words.{Texts}
use Rattle.soar_sym.specs.declared.symbol.Sym.{Sym}
use Rattle.soar_rule.specs.declared.action.Action.{Action}
use Rattle.soar_rule.specs.Productions.{action_seen, values_of, ValueOf, writes}
use Rattle.soar_rule.specs.Symbols.{constants_of_action, constants_of_value, constants_of_values, AreKnown}
use Rattle.defs_soar.specs.declared.firing.Made.{Made}
use Rattle.defs_soar.specs.declared.goal.Goal.{Goal}
use Rattle.defs_soar.specs.declared.preference.Wish.{Wish}
use Rattle.soar_fire.specs.ActionOutcomes.{action_outcome, actions_outcome}
use Rattle.soar_fire.specs.Fires.{AreWishesKnown}
use Rattle.soar_fire.specs.Growth.{OnlyGrows}
use Rattle.soar_fire.specs.Known.{Knows, KnowsWishes, constants_of_actions, symbols_of_wish}
use Rattle.soar_fire.specs.Outcomes.{Outcome, reached, then_on, Standing, Leaves}
use Rattle.soar_fire.specs.declared.fault.FireFault.{FireFault}
use Rattle.soar_fire.proofs.OutcomeLemmas.{leaves_stopped}
use Rattle.soar_fire.proofs.KnownLemmas.{knows_front, knows_back, knows_grown}

-- ---- wishes

are_wishes_grown : (old new : Texts) (ws : List Wish) → OnlyGrows old new → AreWishesKnown old ws → AreWishesKnown new ws
are_wishes_grown old new [] grown h = tt
are_wishes_grown old new (w ∷ ws) grown h = ((knows_grown old new (symbols_of_wish w) (record { are_known = h.0 }) grown).are_known, are_wishes_grown old new ws grown h.1)

pub wishes_grown : (old new : Texts) (ws : List Wish) → KnowsWishes old ws → OnlyGrows old new → KnowsWishes new ws
wishes_grown old new ws h grown = record { are_known = are_wishes_grown old new ws grown h.are_known }

are_wishes_push : (words : Texts) (ws : List Wish) (w : Wish) → AreWishesKnown words ws → AreKnown words (symbols_of_wish w) → AreWishesKnown words (ws ++ w ∷ [])
are_wishes_push words [] w h k = (k, tt)
are_wishes_push words (u ∷ ws) w h k = (h.0, are_wishes_push words ws w h.1 k)

pub wishes_push : (words : Texts) (ws : List Wish) (w : Wish) → KnowsWishes words ws → Knows words (symbols_of_wish w) → KnowsWishes words (ws ++ w ∷ [])
wishes_push words ws w h k = record { are_known = are_wishes_push words ws w h.are_known k.are_known }

-- ---- constants

pub constants_are : (vs : List ValueOf) → flat_map constants_of_value vs ≡ constants_of_values (values_of vs)
constants_are [] = refl
constants_are (v ∷ vs) = ap (λ rest. constants_of_value v ++ rest) (constants_are vs)

pub written_constants : (words : Texts) (vs : List ValueOf) → Knows words (constants_of_action (writes vs)) → Knows words (constants_of_values (values_of vs))
written_constants words vs h = subst (Knows words) (constants_are vs) h

-- ---- one action taken

next_seen : (actions : List Action) (i : ℕ) (a : Action) → i < length actions → a ≡ get_or actions i a → map action_seen (drop i actions) ≡ action_seen a ∷ map action_seen (drop (i + 1) actions)
next_seen actions i a within at = ap (map action_seen) (drop-cons actions i a within) ∙ rw (← at, add-one i) refl

pub next_constants : (words : Texts) (actions : List Action) (i : ℕ) (a : Action) → Knows words (constants_of_actions (map action_seen (drop i actions))) → i < length actions → a ≡ get_or actions i a → Knows words (constants_of_action (action_seen a))
next_constants words actions i a h within at =
    knows_front words _ (constants_of_actions (map action_seen (drop (i + 1) actions)))
    (subst (λ seen. Knows words (constants_of_actions seen)) (next_seen actions i a within at) h)

pub later_constants : (words : Texts) (actions : List Action) (i : ℕ) (a : Action) → Knows words (constants_of_actions (map action_seen (drop i actions))) → i < length actions → a ≡ get_or actions i a → Knows words (constants_of_actions (map action_seen (drop (i + 1) actions)))
later_constants words actions i a h within at =
    knows_back words (constants_of_action (action_seen a)) _
    (subst (λ seen. Knows words (constants_of_actions seen)) (next_seen actions i a within at) h)

pub next_rest : (vars : List Sym) (goals : List Goal) (place : ℕ) (actions : List Action) (i : ℕ) (a : Action) (made later : Made) (s after : Standing) → i < length actions → a ≡ get_or actions i a
    → action_outcome vars goals place (action_seen a) made s ≡ reached (Ok later) after
    → actions_outcome vars goals place (map action_seen (drop i actions)) made s
    ≡ actions_outcome vars goals (place + 1) (map action_seen (drop (i + 1) actions)) later after
next_rest vars goals place actions i a made later s after within at is =
    ap (λ seen. actions_outcome vars goals place seen made s) (next_seen actions i a within at)
    ∙ ap (λ o. then_on o (λ m last. actions_outcome vars goals (suc place) (map action_seen (drop (i + 1) actions)) m last)) is
    ∙ ap (λ n. actions_outcome vars goals n (map action_seen (drop (i + 1) actions)) later after) (sym (add-one place))

-- a limit that an action passed
pub next_stop : (vars : List Sym) (goals : List Goal) (place : ℕ) (actions : List Action) (i : ℕ) (a : Action) (made later last : Made) (s after end : Standing) (whole : Outcome Made) (e : FireFault) (r : Result (Unit {0}) FireFault)
    → i < length actions → a ≡ get_or actions i a
    → actions_outcome vars goals place (map action_seen (drop i actions)) made s ≡ whole
    → Leaves (action_outcome vars goals place (action_seen a) made s) later after (Err e) → r ≡ Err e → Leaves whole last end r
next_stop vars goals place actions i a made later last s after end whole e r within at is h same =
    subst (Leaves whole last end) (sym same)
    (subst (λ o. Leaves o last end (Err e)) (sym (ap (λ seen. actions_outcome vars goals place seen made s) (next_seen actions i a within at)) ∙ is)
    (leaves_stopped (action_outcome vars goals place (action_seen a) made s) (λ m then. actions_outcome vars goals (suc place) (map action_seen (drop (i + 1) actions)) m then) later last after end e h))
