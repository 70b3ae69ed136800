use Rattle.std.proofs.Common.{◌≡◌, ◌-◌, ◌∙◌, ℕ, List, arith, sym, ap, refl, subst, None, Some, []}
use Rattle.soar_prefs.specs.Memory.{PreferenceMemory}
use Rattle.settle_changes.specs.Rest.{IsTracked}
use Rattle.goal_trimming.specs.Doubted.{AreDoubted}
use Rattle.goal_trimming.specs.Lost.{AreLooked}
use Rattle.goal_trimming.specs.Held.{held_by, kept_held, room_of, settled_held}
use Rattle.goal_trimming.proofs.HeldLemmas.{GoesOn, round_goes_on, round_there}
use Rattle.goal_trimming.proofs.LostLemmas.{doubted_first, looked_at, nothing_lost}
use Rattle.goal_trimming.proofs.RoundLemmas.{IsEnd, Removes, end_keeps, end_trims, ends_round, grows_on, removed_is, round_of, round_settles}
use Rattle.goal_trimming.proofs.trimming.trim.Goals as goal

-- ---- what is broken

pub highest_broken-requires : goal.highest_broken-requires
highest_broken-requires c =
    let grown = grows_on c.args.touched.now c.rounds.touched c.settle_changes.new.touched c.args.kept.now c.rounds.kept c.settle_changes.new.kept c.rounds.invariant.grows c.in_ok-settle_changes.ensures.touched in
    record {
      looked = subst (AreLooked c.rounds.depends c.args.memory.now.elements c.settle_changes.new.kept.triples c.args.doubted.now) (sym c.as_slice.ensures)
          (looked_at c.rounds.depends c.args.memory.now.elements c.args.kept.now.triples c.settle_changes.new.kept.triples c.args.doubted.now c.settle_changes.new.touched c.rounds.invariant.doubted grown.1);
    }

-- ---- where no goal is broken

at_end : (c : goal.In-None) → IsEnd c.args.memory.now.elements (held_by c.args.goals.now c.args.depends.now c.args.prefs.now c.args.inputs.now c.args.live.now.list)
    (held_by c.rounds.goals c.rounds.depends c.settle_changes.new.prefs c.settle_changes.new.inputs c.rounds.live.list)
    (kept_held (settled_held (held_by c.rounds.goals c.rounds.depends c.rounds.prefs c.rounds.inputs c.rounds.live.list)))
at_end c =
    ends_round c.args.memory.now.elements _ (held_by c.rounds.goals c.rounds.depends c.rounds.prefs c.rounds.inputs c.rounds.live.list) _ _ c.rounds.invariant.rest
    (round_settles c.args.memory.now.elements _ _ _ _ _ _ _ _ c.rounds.live.list _ None (round_of c.rest_is_kept.ensures c.args.memory.now.elements c.rounds.goals c.list.result.now c.rounds.depends c.rounds.depends c.rounds.prefs c.settle_changes.new.prefs c.rounds.inputs c.settle_changes.new.inputs c.settle_changes.new.kept None
    c.list.ensures.goals refl c.in_ok-settle_changes.ensures.prefs c.in_ok-settle_changes.ensures.inputs c.in_ok-settle_changes.ensures.rest (sym c.in-None.is ∙ c.in_ok-broken.ensures)))

pub returns-in-None-clause-trims : goal.returns-in-None-clause-trims
returns-in-None-clause-trims c = end_trims c.args.memory.now.elements _ _ _ (record { left = (at_end c).left; kept_is = refl })

pub returns-in-None-clause-keeps : goal.returns-in-None-clause-keeps
returns-in-None-clause-keeps c = end_keeps c.args.memory.now.elements _ _ _ (omega arith) c.requires.fits (at_end c)

pub returns-in-None-clause-whole : goal.returns-in-None-clause-whole
returns-in-None-clause-whole c = nothing_lost c.rounds.depends c.args.memory.now.elements c.settle_changes.new.kept.triples (sym c.in_ok-broken.ensures ∙ c.in-None.is)

-- ---- where a goal goes

pub remove_from-requires-clause-substate : goal.remove_from-requires-clause-substate
remove_from-requires-clause-substate c =
    let k =
    round_there c.args.memory.now.elements (held_by c.rounds.goals c.rounds.depends c.rounds.prefs c.rounds.inputs c.rounds.live.list) _ _ c.in-Some.depth c.rounds.invariant.fits
    (round_settles c.args.memory.now.elements _ _ _ _ _ _ _ _ c.rounds.live.list _ (Some c.in-Some.depth) (round_of c.rest_is_kept.ensures c.args.memory.now.elements c.rounds.goals c.list.result.now c.rounds.depends c.rounds.depends c.rounds.prefs c.settle_changes.new.prefs c.rounds.inputs c.settle_changes.new.inputs c.settle_changes.new.kept (Some c.in-Some.depth)
    c.list.ensures.goals refl c.in_ok-settle_changes.ensures.prefs c.in_ok-settle_changes.ensures.inputs c.in_ok-settle_changes.ensures.rest (sym c.in-Some.is ∙ c.in_ok-broken.ensures))) in
    k.0

pub remove_from-requires-clause-there : goal.remove_from-requires-clause-there
remove_from-requires-clause-there c =
    let k =
    round_there c.args.memory.now.elements (held_by c.rounds.goals c.rounds.depends c.rounds.prefs c.rounds.inputs c.rounds.live.list) _ _ c.in-Some.depth c.rounds.invariant.fits
    (round_settles c.args.memory.now.elements _ _ _ _ _ _ _ _ c.rounds.live.list _ (Some c.in-Some.depth) (round_of c.rest_is_kept.ensures c.args.memory.now.elements c.rounds.goals c.list.result.now c.rounds.depends c.rounds.depends c.rounds.prefs c.settle_changes.new.prefs c.rounds.inputs c.settle_changes.new.inputs c.settle_changes.new.kept (Some c.in-Some.depth)
    c.list.ensures.goals refl c.in_ok-settle_changes.ensures.prefs c.in_ok-settle_changes.ensures.inputs c.in_ok-settle_changes.ensures.rest (sym c.in-Some.is ∙ c.in_ok-broken.ensures))) in
    k.1

goes : (c : goal.After-remove_from) → GoesOn c.args.memory.now.elements (held_by c.rounds.goals c.rounds.depends c.rounds.prefs c.rounds.inputs c.rounds.live.list)
    (held_by c.remove_from.new.goals c.remove_from.new.depends c.remove_from.new.prefs c.settle_changes.new.inputs c.remove_from.new.live.list)
goes c =
    let left : Removes c.in-Some.depth c.rounds.goals c.remove_from.new.goals c.rounds.depends c.remove_from.new.depends c.settle_changes.new.prefs c.remove_from.new.prefs c.rounds.live.list c.remove_from.new.live.list
    = record { goals_are = c.remove_from.ensures.goals; depends_are = c.remove_from.ensures.depends; rows_are = ap room_of c.remove_from.ensures.rows; live_are = c.remove_from.ensures.live } in
    round_goes_on c.args.memory.now.elements (held_by c.rounds.goals c.rounds.depends c.rounds.prefs c.rounds.inputs c.rounds.live.list) _ _ _ c.in-Some.depth c.rounds.invariant.fits
    (round_settles c.args.memory.now.elements _ _ _ _ _ _ _ _ c.rounds.live.list _ (Some c.in-Some.depth) (round_of c.rest_is_kept.ensures c.args.memory.now.elements c.rounds.goals c.list.result.now c.rounds.depends c.rounds.depends c.rounds.prefs c.settle_changes.new.prefs c.rounds.inputs c.settle_changes.new.inputs c.settle_changes.new.kept (Some c.in-Some.depth)
    c.list.ensures.goals refl c.in_ok-settle_changes.ensures.prefs c.in_ok-settle_changes.ensures.inputs c.in_ok-settle_changes.ensures.rest (sym c.in-Some.is ∙ c.in_ok-broken.ensures)))
    (removed_is c.in-Some.depth c.rounds.goals _ c.rounds.depends _ c.settle_changes.new.prefs _ c.settle_changes.new.inputs c.rounds.live.list _ left)

pub rounds-smaller : goal.rounds-smaller
rounds-smaller c = (goes c).less

pub rounds-preserved : goal.rounds-preserved
rounds-preserved c =
    let k = goes c in
    let answer = c.in_ok-settle_changes.ensures in
    let taken : c.settle_changes.new.prefs.settled ≡ c.settle_changes.new.prefs.rows = ap (λ (p : PreferenceMemory). p.settled) answer.prefs ∙ sym (ap (λ (p : PreferenceMemory). p.rows) answer.prefs) in
    let now : IsTracked c.settle_changes.new.prefs c.settle_changes.new.inputs [] c.settle_changes.new.kept =
    c.changes_are_tracked.ensures.rest c.list.result.now c.settle_changes.new.prefs c.settle_changes.new.inputs c.settle_changes.new.kept taken answer.rest in
    record {
      fits = k.fits;
      rest = k.rest ∙ c.rounds.invariant.rest;
      told = c.remove_from.ensures.told ∙ c.rounds.invariant.told;
      tracked = c.changes_are_tracked.ensures.goes_on c.settle_changes.new.prefs c.remove_from.new.prefs c.settle_changes.new.inputs c.settle_changes.new.inputs [] c.settle_changes.new.changed c.settle_changes.new.kept now
          (ap (λ (p : PreferenceMemory). p.settled) c.remove_from.ensures.rows) (λ t h. refl) (λ t h. refl);
      grows = grows_on c.args.touched.now c.rounds.touched c.settle_changes.new.touched c.args.kept.now c.rounds.kept c.settle_changes.new.kept c.rounds.invariant.grows answer.touched;
      doubted = subst (λ (tables : List (List ℕ)). AreDoubted tables c.args.memory.now.elements c.args.kept.now.triples c.args.doubted.now) (sym c.remove_from.ensures.depends)
          (doubted_first (c.in-Some.depth - 2) c.rounds.depends c.args.memory.now.elements c.args.kept.now.triples c.args.doubted.now c.rounds.invariant.doubted);
    }
