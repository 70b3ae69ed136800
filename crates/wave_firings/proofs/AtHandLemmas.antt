-- A firing as the code leaves it is the firing at hand of the definitions.
use Rattle.std.proofs.Common.{◌≡◌, ℕ, Bool, true, false, List, [], ◌∷◌, map, refl, sym, ap, ap₂, ◌∙◌}
use Rattle.std.specs.Prelude.{if◌then◌else◌}
use Rattle.soar_sym.specs.declared.symbol.Sym.{Sym}
use Rattle.defs_match.specs.Rules.{RuleOf}
use Rattle.defs_match.specs.declared.instance.Instance.{Instance}
use Rattle.defs_soar.specs.declared.firing.Dropped.{Dropped}
use Rattle.defs_soar.specs.declared.goal.Goal.{Goal}
use Rattle.defs_soar.specs.declared.preference.Wish.{Wish}
use Rattle.defs_soar.specs.Events.{by_instance, by_operator}
use Rattle.defs_soar.specs.History.{firing_seen}
use Rattle.defs_soar.specs.Pending.{Firable, firable_of, is_of_operator_kind}
use Rattle.defs_soar.specs.Support.{has_operator_support}
use Rattle.defs_soar.specs.WaveAtHand.{Fresh as FreshOf, SupportedWish, supported_wish}
use Rattle.firing_records.specs.Recorded.{RecordedAs, Standing, recorded_as, recorded_seen}
use Rattle.firing_records.specs.declared.outcome.Recorded.{Recorded}
use Rattle.wave_entries.specs.HeldByVariants as held_by
use Rattle.wave_entries.specs.Entries.{heading_event, held_seen}
use Rattle.wave_entries.specs.declared.entry.HeldWish.{HeldWish}
use Rattle.wave_entries.specs.declared.entry.Told.{Told}
use Rattle.wave_firings.specs.Held.{against, fresh_made, held_as, told_as}

-- ---- preferences

held_one : (w : Wish) (lasts : Bool)
    → held_seen (record { wish = w; by = if lasts then held_by.Operator else held_by.Instance }) ≡ record { wish = w; wish_support = if lasts then by_operator else by_instance }
held_one w true = refl
held_one w false = refl

held_all : (goals : List Goal) (kind : Bool) (wishes : List Wish) → map held_seen (map (held_as goals kind) wishes) ≡ map (supported_wish goals kind) wishes
held_all goals kind [] = refl
held_all goals kind (w ∷ wishes) = ap₂ (λ (y : SupportedWish) ys. y ∷ ys) (held_one w (has_operator_support goals kind w)) (held_all goals kind wishes)

wishes_are : (goals : List Goal) (kind : Bool) (wishes : List Wish) → map (λ (h : HeldWish). h.wish) (map (held_as goals kind) wishes) ≡ wishes
wishes_are goals kind [] = refl
wishes_are goals kind (w ∷ wishes) = ap (λ ws. w ∷ ws) (wishes_are goals kind wishes)

-- ---- the firing, from how it is recorded and how it is told

abbrev fresh_by : Recorded → Told → FreshOf
fresh_by r t = record {
  firing = firing_seen r.firing;
  goal = r.goal;
  operator_kind = r.operator_kind;
  heading = heading_event t.heading;
  wishes = map held_seen t.wishes;
  dropped = t.dropped;
  text = t.text;
}

module _ (s : Standing) (rule : RuleOf) (i : Instance) (number : ℕ) (goals : List Sym) (wishes : List Wish) (dropped : List Dropped) (text : List ℕ) (r : Recorded) (t : Told)
    (recorded_is : recorded_seen r ≡ recorded_as goals s rule i number wishes) (told_is : t ≡ told_as s.goals r.operator_kind rule i number wishes dropped text) where
  -- the preferences that it holds are those that it made
  pub holds_made : map (λ (h : HeldWish). h.wish) t.wishes ≡ r.firing.made
  holds_made =
      ap (λ (x : Told). map (λ (h : HeldWish). h.wish) x.wishes) told_is ∙ wishes_are s.goals r.operator_kind wishes ∙ sym (ap (λ (x : RecordedAs). x.firing.made) recorded_is)

  pub at_hand_is : fresh_by r t ≡ fresh_made (against s) (firable_of s.elements rule i) number goals wishes dropped text
  at_hand_is =
      let f : Firable = firable_of s.elements rule i in
      let kind_is : r.operator_kind ≡ is_of_operator_kind s.goals f = ap (λ (x : RecordedAs). x.operator_kind) recorded_is in
      let wishes_held : map held_seen t.wishes ≡ map (supported_wish s.goals (is_of_operator_kind s.goals f)) wishes =
      ap (λ (x : Told). map held_seen x.wishes) told_is ∙ held_all s.goals r.operator_kind wishes ∙ ap (λ kind. map (supported_wish s.goals kind) wishes) kind_is in
      λ k. record {
        firing = (recorded_is k).firing;
        goal = (recorded_is k).goal;
        operator_kind = (recorded_is k).operator_kind;
        heading = heading_event (told_is k).heading;
        wishes = wishes_held k;
        dropped = (told_is k).dropped;
        text = (told_is k).text;
      }
