-- What is sought is a plan exactly where no limit is passed.
use Rattle.std.proofs.Common.{◌≡◌, ◌∙◌, refl, sym, ap, ℕ, ◌+◌, ◌-◌, ◌≤◌, arith, List, [], ◌∷◌, length, Option, None}
use Rattle.soar_sym.specs.Words.{Texts}
use Rattle.soar_sym.specs.declared.symbol.Triple.{Triple}
use Rattle.soar_wm.specs.WorkingMemory.{WorkingMemory}
use Rattle.defs_soar.specs.declared.goal.Goal.{Goal}
use Rattle.defs_soar.specs.declared.limit.Which.{Which}
use Rattle.defs_soar.specs.Limits.{elements_to, first_passed, tags_to}
use Rattle.defs_soar.specs.Settling.{stays}
use Rattle.touched_tags.specs.declared.planning.Plan.{Plan}
use Rattle.soar_settle.specs.Plans.{staying}
use Rattle.touched_tags.specs.Plans.{IsPlan, IsSought}
use Rattle.soar_settle.specs.Settles.{after_of, passed_by}
use Rattle.touched_tags.proofs.CountLemmas.{room_left}
use Rattle.soar_settle.proofs.TaggingLemmas.{count_staying, passed_is}

module _ (words : Texts) (goals : List Goal) (kept : List Triple) (m : WorkingMemory) (plan : Plan) (is : IsSought words goals kept m plan) (gone : ℕ) (gone_is : gone ≡ length plan.going) where
  counted : (gone ≤ length m.elements) × (length m.elements - gone ≡ length (staying goals kept m))
  counted = count_staying (stays goals kept) m.elements plan.going (length m.elements) gone is.going_are refl gone_is

  pub few_gone : gone ≤ length m.elements
  few_gone = counted.0

  module _ (new : ℕ) (new_is : new ≡ length plan.triples) (which : Option Which)
      (which_is : which ≡ first_passed (elements_to (length m.elements - gone + new) ∷ tags_to (m.last + new) ∷ [])) where
    pub limit_is : passed_by (after_of words goals kept m) m ≡ which
    limit_is = passed_is words goals kept m is.lawful (length m.elements - gone) new m.last counted.1 (new_is ∙ ap length is.triples_are) refl ∙ sym which_is

    pub plan_is : which ≡ None → IsPlan words goals kept m plan
    plan_is none =
        let room = room_left (length m.elements - gone + new) (m.last + new) (sym which_is ∙ none) in record {
          sought = is;
          room = omega (arith, counted.1, new_is, room.0);
          left = omega (arith, new_is, room.1);
          within = limit_is ∙ none;
        }
