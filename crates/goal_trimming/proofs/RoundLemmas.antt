-- One round of the code: what was settled, what is broken, and what goes.
use Rattle.std.proofs.Common.{◌≡◌, refl, sym, ◌∙◌, ap, subst, ℕ, ◌-◌, ◌≤◌, Bool, true, false, List, length, map, take, Option, None}
use Rattle.soar_sym.specs.declared.symbol.Triple.{Triple}
use Rattle.soar_wm.specs.declared.element.Element.{Element}
use Rattle.defs_soar.specs.declared.goal.Goal.{Goal}
use Rattle.defs_soar.specs.declared.preference.Preference.{Preference}
use Rattle.defs_soar.specs.History.{RecordedFiring}
use Rattle.defs_soar.specs.Preferences.{without_firings}
use Rattle.defs_soar.specs.Settling.{Supports, kept_triples}
use Rattle.defs_soar.specs.Trimming.{numbers_of}
use Rattle.defs_soar.specs.Values.{has_triple_among}
use Rattle.soar_prefs.specs.Memory.{PreferenceMemory, has_plain}
use Rattle.kept_triples.specs.Kept.{KeptOf}
use Rattle.settle_changes.specs.Rest.{GrowsBy, IsAtRest, RestIsKept, settled_from}
use Rattle.live_firings.specs.declared.live.Live.{Live}
use Rattle.goal_trimming.specs.Broken.{highest_broken_by}
use Rattle.goal_trimming.specs.Held.{Held, held_by, kept_held, room_of, settled_held, trimmed_held, with_supports_held, without_goals_held}
use Rattle.live_firings.specs.Living.{live_above, live_from, live_seen}
use Rattle.goal_trimming.specs.Trims.{AreDependencies, KeepsFirst, Trims}
use Rattle.goal_trimming.proofs.BrokenLemmas.{same_broken}
use Rattle.goal_trimming.proofs.HeldLemmas.{Fits, IsBroken, round_ends}
use Rattle.goal_trimming.proofs.KeptLemmas.{trimmed_keeps}
use Rattle.goal_trimming.proofs.TagLemmas.{trims_by_tags}

-- what the calls of a round answer
pub record IsRound (elements : List Element) (goals listed : List Goal) (depends tags : List (List ℕ)) (prefs left : PreferenceMemory) (inputs top : List Triple) (kept : List Triple) (o : Option ℕ) : Type 0 where
  pub goals_are : listed ≡ goals
  pub tags_are : tags ≡ depends
  pub rows_are : room_of left ≡ record (room_of prefs) { rows = (settled_from listed prefs.rows inputs).rows }
  pub inputs_are : top ≡ (settled_from listed prefs.rows inputs).inputs
  pub kept_are : (t : Triple) → has_triple_among kept t ≡ has_triple_among (kept_triples listed (settled_from listed prefs.rows inputs)) t
  pub broken_is : o ≡ highest_broken_by tags elements kept 2

-- what is kept is what the settled state keeps
kept_so : (goals : List Goal) (rows : List Preference) (inputs : List Triple) (s : Supports) (triples : List Triple) → rows ≡ s.rows → inputs ≡ s.inputs
    → ((t : Triple) → has_triple_among triples t ≡ has_triple_among (kept_triples goals (record { rows = rows; inputs = inputs })) t)
    → (t : Triple) → has_triple_among triples t ≡ has_triple_among (kept_triples goals s) t
kept_so goals rows inputs s triples rows_are inputs_are members t = members t ∙ (λ i. has_triple_among (kept_triples goals (record { rows = rows_are i; inputs = inputs_are i })) t)

pub round_of : RestIsKept → (elements : List Element) (goals listed : List Goal) (depends tags : List (List ℕ)) (prefs left : PreferenceMemory) (inputs top : List Triple) (kept : KeptOf) (o : Option ℕ)
    → listed ≡ goals → tags ≡ depends → left ≡ record prefs { rows = (settled_from listed prefs.rows inputs).rows; settled = (settled_from listed prefs.rows inputs).rows }
    → top ≡ (settled_from listed prefs.rows inputs).inputs → IsAtRest listed left.rows top kept → o ≡ highest_broken_by tags elements kept.triples 2
    → IsRound elements goals listed depends tags prefs left inputs top kept.triples o
round_of law elements goals listed depends tags prefs left inputs top kept o goals_are tags_are prefs_are inputs_are rest broken_is = record {
  goals_are = goals_are;
  tags_are = tags_are;
  rows_are = ap room_of prefs_are;
  inputs_are = inputs_are;
  kept_are = kept_so listed left.rows top (settled_from listed prefs.rows inputs) kept.triples (ap (λ (p : PreferenceMemory). p.rows) prefs_are) inputs_are (law listed left.rows top kept rest);
  broken_is = broken_is;
}

module _ (elements : List Element) (goals listed : List Goal) (depends tags : List (List ℕ)) (prefs left : PreferenceMemory) (inputs top : List Triple) (live : List Live)
    (kept : List Triple) (o : Option ℕ) where
  pub round_settles : IsRound elements goals listed depends tags prefs left inputs top kept o
      → IsBroken elements (held_by goals depends prefs inputs live) (held_by goals depends left top live) (kept_held (settled_held (held_by goals depends prefs inputs live))) o
  round_settles r = record {
    settled_is = (λ i. record { goals = goals; depends = depends; prefs = r.rows_are i; inputs = r.inputs_are i; live = map live_seen live })
        ∙ ap (λ (gs : List Goal). with_supports_held (held_by goals depends prefs inputs live) (settled_from gs prefs.rows inputs)) r.goals_are;
    kept_is = refl;
    broken_is = r.broken_is ∙ ap (λ (ts : List (List ℕ)). highest_broken_by ts elements kept 2) r.tags_are
        ∙ same_broken elements kept (kept_held (settled_held (held_by goals depends prefs inputs live))) 2 depends
        (λ t. r.kept_are t ∙ ap (λ (gs : List Goal). has_triple_among (kept_triples gs (settled_from gs prefs.rows inputs)) t) r.goals_are);
  }

-- what goes with the goals from a depth on
pub record Removes (depth : ℕ) (goals first : List Goal) (depends tags : List (List ℕ)) (prefs left : PreferenceMemory) (live above : List Live) : Type 0 where
  pub goals_are : first ≡ take (depth - 1) goals
  pub depends_are : tags ≡ take (depth - 2) depends
  pub rows_are : room_of left ≡ record (room_of prefs) { rows = without_firings prefs.rows (numbers_of (live_from depth (map live_seen live))) }
  pub live_are : map live_seen above ≡ live_above depth (map live_seen live)

pub removed_is : (depth : ℕ) (goals first : List Goal) (depends tags : List (List ℕ)) (prefs left : PreferenceMemory) (inputs : List Triple) (live above : List Live)
    → Removes depth goals first depends tags prefs left live above → held_by first tags left inputs above ≡ without_goals_held depth (held_by goals depends prefs inputs live)
removed_is depth goals first depends tags prefs left inputs live above r =
    λ i. record { goals = r.goals_are i; depends = r.depends_are i; prefs = r.rows_are i; inputs = inputs; live = r.live_are i }

-- ---- in the end

-- what is left is what trimming leaves
pub record IsEnd (elements : List Element) (old new : Held) (kept : List Triple) : Type 0 where
  pub left : new ≡ trimmed_held elements old
  pub kept_is : kept ≡ kept_held new

pub ends_round : (elements : List Element) (old h new : Held) (kept : List Triple) → trimmed_held elements h ≡ trimmed_held elements old
    → IsBroken elements h new kept None → IsEnd elements old new kept
ends_round elements old h new kept rest b = let k = round_ends elements h new kept b in record { left = k.0 ∙ rest; kept_is = k.1 }

pub end_trims : (elements : List Element) (old new : Held) (kept : List Triple) → IsEnd elements old new kept
    → (history : List RecordedFiring) → AreDependencies history old → Trims history elements old new kept
end_trims elements old new kept e history is = trims_by_tags history elements old new kept is e.left e.kept_is

pub end_keeps : (elements : List Element) (old new : Held) (kept : List Triple) → 1 ≤ length old.goals → Fits old → IsEnd elements old new kept → KeepsFirst old new
end_keeps elements old new kept some fits e = subst (λ (h : Held). KeepsFirst old h) (sym e.left) (trimmed_keeps elements old some fits)

-- ---- what was looked at

-- what is not named now was not named before
unnamed : (old new : Bool) → (old ≡ true → new ≡ true) → new ≡ false → old ≡ false
unnamed true new grows h = absurd (let clash : true ≡ false = sym (grows refl) ∙ h in cc)
unnamed false new grows h = refl

-- what changed in two steps is named behind both
pub grows_on : (first second third : List Triple) (a b c : KeptOf) → GrowsBy first second a b → GrowsBy second third b c → GrowsBy first third a c
grows_on first second third a b c h k = (
  λ t is. k.0 t (h.0 t is),
  λ t none. k.1 t none ∙ h.1 t (unnamed (has_plain second t) (has_plain third t) (k.0 t) none),
)
