-- The names of live firings are symbols of the table.
use Rattle.std.proofs.Common.{◌≤◌, Bool, true, false, cond, List, [], ◌∷◌, ◌++◌, filter, length, inl, inr, refl, subst}
use Rattle.soar_sym.specs.Words.{Texts, IsKnown}
use Rattle.soar_wm.specs.declared.element.Element.{Element}
use Rattle.defs_match.specs.Rules.{RuleOf}
use Rattle.defs_soar.specs.declared.goal.Goal.{Goal}
use Rattle.defs_soar.specs.Agents.{LiveFiring}
use Rattle.defs_soar.specs.Laws.{IsIn}
use Rattle.defs_soar.specs.Pending.{pending_in}
use Rattle.wave_firings.proofs.FiringKnown.{known_grown}
use Rattle.wave_parts.specs.Seen.{AreLiveKnown}

-- ---- lists of live firings

pub live_append : (words : Texts) (live more : List LiveFiring) → AreLiveKnown words live → AreLiveKnown words more → AreLiveKnown words (live ++ more)
live_append words [] more h k = k
live_append words (l ∷ live) more h k = (h.0, live_append words live more h.1 k)

pub live_filter : (words : Texts) (p : LiveFiring → Bool) (live : List LiveFiring) → AreLiveKnown words live → AreLiveKnown words (filter p live)
live_filter words p [] h = tt
live_filter words p (l ∷ live) h = by (p l) (live_filter words p live h.1)
  where
    by : (b : Bool) → AreLiveKnown words (filter p live) → AreLiveKnown words (cond b (l ∷ filter p live) (filter p live))
    by true later = (h.0, later)
    by false later = later

pub live_grown : (old new : Texts) (live : List LiveFiring) → length old ≤ length new → AreLiveKnown old live → AreLiveKnown new live
live_grown old new [] grown h = tt
live_grown old new (l ∷ live) grown h = (known_grown old new l.name grown h.0, live_grown old new live grown h.1)

name_known : (words : Texts) (live : List LiveFiring) (l : LiveFiring) → AreLiveKnown words live → IsIn l live → IsKnown words l.name
name_known words [] l h is = absurd is
name_known words (k ∷ live) l h (inl e) = subst (λ (x : LiveFiring). IsKnown words x.name) e h.0
name_known words (k ∷ live) l h (inr is) = name_known words live l h.1 is

pub live_left : (words : Texts) (old new : List LiveFiring) → ((l : LiveFiring) → IsIn l new → IsIn l old) → AreLiveKnown words old → AreLiveKnown words new
live_left words old [] within h = tt
live_left words old (l ∷ new) within h = (name_known words old l h (within l (inl refl)), live_left words old new (λ x is. within x (inr is)) h)

-- what is pending is live
pub pending_named : (words : Texts) (proposing : Bool) (rules : List RuleOf) (elements : List Element) (goals : List Goal) (live : List LiveFiring) → AreLiveKnown words live
    → AreLiveKnown words (pending_in proposing rules elements goals live).retracted
unfolding pending_in
pending_named words proposing rules elements goals live h = live_filter words _ _ (live_filter words _ live h)
