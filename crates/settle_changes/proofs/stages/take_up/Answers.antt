use Rattle.std.proofs.Common.{◌≡◌, false, List, ◌++◌, sym, ◌∙◌, ap, subst}
use Rattle.soar_sym.specs.declared.symbol.Sym.{Sym}
use Rattle.soar_sym.specs.declared.symbol.Triple.{Triple}
use Rattle.defs_soar.specs.declared.preference.Preference.{Preference}
use Rattle.defs_soar.specs.Held.{held}
use Rattle.defs_soar.specs.Sorted.{has_symbol}
use Rattle.soar_prefs.specs.Memory.{PreferenceMemory}
use Rattle.kept_triples.specs.Kept.{HoldsTriples, IsCovered, KeptOf, level_in_kept}
use Rattle.settle_changes.specs.Naming.{ids_of}
use Rattle.settle_changes.specs.Stages.{AreReachedBut, AreTopBut}
use Rattle.settle_changes.proofs.StepLemmas.{covered, taken_up, with_own}
use Rattle.settle_changes.proofs.stages.take_up.Goals as goal

pub returns-clause-state : goal.returns-clause-state
returns-clause-state c =
    let goals = c.args.goals.now in
    let prefs = c.args.prefs.now in
    let inputs = c.args.inputs.now in
    let changed = c.args.changed.now in
    let tracked = c.requires.tracked in
    let own = c.in_ok-own.own in
    let names = c.in_ok-names.names in
    let told = c.in_ok-names.ensures in
    let k0 = c.args.kept.now in
    let k = c.reconsider.new.self in
    let law = c.kept_levels_are_levels.ensures in
    let rows : c.changes.new.prefs.rows ≡ prefs.rows = ap (λ (p : PreferenceMemory). p.rows) told.prefs in
    let before : HoldsTriples tracked.goals_then prefs.settled tracked.inputs_then c.set_own.new.self =
    subst (HoldsTriples tracked.goals_then prefs.settled tracked.inputs_then) (sym c.set_own.ensures)
    (with_own tracked.goals_then prefs.settled tracked.inputs_then k0 own tracked.rest.holds) in
    let covers : IsCovered tracked.goals_then prefs.settled tracked.inputs_then goals c.changes.new.prefs.rows inputs c.as_slice.result.now =
    subst (λ (l : List Triple). IsCovered tracked.goals_then prefs.settled tracked.inputs_then goals c.changes.new.prefs.rows inputs l) (sym c.as_slice.ensures)
    (
    subst (λ (r : List Preference). IsCovered tracked.goals_then prefs.settled tracked.inputs_then goals r inputs names) (sym rows)
    (covered goals prefs inputs changed names k0 own tracked c.in_ok-own.ensures told.rows told.inputs told.goals)
    ) in
    let holds : HoldsTriples goals prefs.rows inputs k =
    subst (λ (r : List Preference). HoldsTriples goals r inputs k) rows
    (c.in_ok-reconsider.ensures.holds tracked.goals_then prefs.settled tracked.inputs_then before covers) in
    let same : (s : Sym) → has_symbol k.graph.moved s ≡ false → level_in_kept k s ≡ level_in_kept k0 s =
    λ s h. c.in_ok-reconsider.ensures.moved tracked.goals_then prefs.settled tracked.inputs_then before s h
    ∙ ap (λ (x : KeptOf). level_in_kept x s) c.set_own.ensures in
    let ids : c.in_ok-ids.ids ≡ ids_of names ++ k.graph.moved = c.in_ok-ids.ensures ∙ (λ i. ids_of (c.as_slice-2.ensures i) ++ c.moved.ensures i) in
    let taken = taken_up law goals prefs inputs changed names k0 k tracked told.rows told.inputs holds same in
    record {
      state = record {
        holds = holds;
        own = c.in_ok-reconsider.ensures.own;
        reached = subst (λ (l : List Sym). AreReachedBut l goals (held prefs.rows goals inputs) prefs.rows) (sym ids) taken.0;
      };
      tops = subst (λ (l : List Sym). AreTopBut l goals (held prefs.rows goals inputs) inputs) (sym ids) taken.1;
    }
