-- A firing of a wave as the code leaves it: how its preferences are held, and its entry (Soar manual, chapter 2, persistence).
use Rattle.std.specs.Prelude.{ℕ, Bool, List, map, if◌then◌else◌}
use Rattle.soar_sym.specs.declared.symbol.Sym.{Sym}
use Rattle.soar_wm.specs.declared.element.Element.{Element}
use Rattle.defs_match.specs.Rules.{RuleOf}
use Rattle.defs_match.specs.declared.instance.Instance.{Instance}
use Rattle.defs_soar.specs.declared.firing.Dropped.{Dropped}
use Rattle.defs_soar.specs.declared.goal.Goal.{Goal}
use Rattle.defs_soar.specs.declared.preference.Preference.{Preference}
use Rattle.defs_soar.specs.declared.preference.Wish.{Wish}
use Rattle.defs_soar.specs.Events.{fires}
use Rattle.defs_soar.specs.History.{Reach}
use Rattle.defs_soar.specs.Pending.{Firable, depth_of, is_of_operator_kind}
use Rattle.defs_soar.specs.Support.{goal_at_depth, has_operator_support}
use Rattle.defs_soar.specs.Uses.{all_uses, elements_matched}
use Rattle.defs_soar.specs.WaveAtHand.{Fresh, supported_wish}
use Rattle.firing_records.specs.Recorded.{Standing, reach_of}
use Rattle.wave_entries.specs.HeldByVariants as held_by
use Rattle.wave_entries.specs.declared.entry.Heading.TheVariants as heading
use Rattle.wave_entries.specs.declared.entry.HeldWish.{HeldWish}
use Rattle.wave_entries.specs.declared.entry.Told.{Told}

-- what firings are held against, with what the goals reach
pub record Against : Type 0 where
  pub reach : Reach
  pub rows : List Preference
  pub elements : List Element

abbrev pub against : Standing → Against
against s = record { reach = reach_of s; rows = s.rows; elements = s.elements }

-- ---- as the code's types

-- a preference of a firing of this kind, held by the operator or by its instance; learning comes later
abbrev pub held_as : List Goal → Bool → Wish → HeldWish
held_as goals kind w = record { wish = w; by = if has_operator_support goals kind w then held_by.Operator else held_by.Instance }

abbrev pub told_as : List Goal → Bool → RuleOf → Instance → ℕ → List Wish → List Dropped → List ℕ → Told
told_as goals kind rule i number wishes dropped text = record {
  heading = heading.Fires number rule.production.name i;
  wishes = map (held_as goals kind) wishes;
  dropped = dropped;
  text = text;
}

-- ---- as the definitions have it

-- the firing of a number; the goals among its symbols and what it made are given
abbrev pub fresh_made : Against → Firable → ℕ → List Sym → List Wish → List Dropped → List ℕ → Fresh
fresh_made a f number goals wishes dropped text =
    let depth = depth_of a.reach.goals f in
    let kind = is_of_operator_kind a.reach.goals f in
    record {
      firing = record {
        number = number;
        name = f.rule.production.name;
        rule = f.rule;
        depth = depth;
        instance = f.instance;
        goals = goals;
        used = all_uses a.reach a.rows depth (elements_matched a.elements f.instance.tags);
        made = wishes;
      };
      goal = goal_at_depth depth a.reach.goals;
      operator_kind = kind;
      heading = fires number f.rule.production.name f.instance;
      wishes = map (supported_wish a.reach.goals kind) wishes;
      dropped = dropped;
      text = text;
    }
