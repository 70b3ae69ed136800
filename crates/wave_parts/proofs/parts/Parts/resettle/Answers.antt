use Rattle.std.proofs.Common.{◌∙◌, refl, sym, Ok, Err, ap, length, map, subst, arith, List}
use Rattle.std.proofs.lemmas.Result.{err_from_is_err_and}
use Rattle.soar_sym.specs.declared.symbol.Triple.{Triple}
use Rattle.soar_sym.specs.declared.symbol.Sym.{Sym}
use Rattle.soar_wm.specs.WorkingMemory.{WorkingMemory}
use Rattle.soar_wm.specs.declared.element.Element.{Element}
use Rattle.defs_soar.specs.Agents.{Agent}
use Rattle.defs_soar.specs.Sorted.{has_symbol}
use Rattle.defs_soar.specs.Trimming.{at_depths}
use Rattle.soar_prefs.specs.Memory.{has_plain}
use Rattle.soar_settle.specs.Settles.{Retags}
use Rattle.goal_trimming.specs.Doubted.{AreDoubted}
use Rattle.goal_trimming.specs.Held.{held_by, kept_held}
use Rattle.wave_parts.specs.Resettles.{IsResettled, Resettles, resettled_now}
use Rattle.wave_parts.proofs.DoubtLemmas.{gone_doubted}
use Rattle.wave_parts.proofs.KeptUpLemmas.{newly_kept, tags_small, those_known}
use Rattle.wave_parts.proofs.RemovedLemmas.{no_more_left}
use Rattle.wave_parts.proofs.ResettlingLemmas.{HasTrimmed, Left, has_removed, kept_sound, left_sound, settles, settles_each, settles_not, settles_not_each, tells_known, with_left}
use Rattle.wave_parts.proofs.StandsLemmas.{of_each_state}
use Rattle.wave_parts.proofs.parts.Parts.resettle.Goals as goal

pub trim-requires : goal.trim-requires
trim-requires c = record { fits = c.requires.sound.depends_fit; tracked = c.requires.sound.kept_up.tracked; doubted = c.requires.sound.doubted }

pub behind-requires : goal.behind-requires
behind-requires c =
    omega (
      arith,
      c.len.ensures,
      ap length c.list-2.ensures.goals,
      ap length c.as_slice-2.ensures,
      no_more_left c.trim.new.goals c.args.self.now.goals c.in_ok-before.before c.in_ok-trim.ensures.keeps.goals_are
          (c.in_ok-before.ensures ∙ ap (at_depths 1) (c.as_slice.ensures ∙ c.list.ensures.goals)),
    )

pub retag_touched-requires-clause-known : goal.retag_touched-requires-clause-known
retag_touched-requires-clause-known c =
    let a = c.args.self.now in
    let left : Left = record { goals = c.trim.new.goals; depends = c.trim.new.depends; doubted = c.args.self.now.doubted; prefs = c.trim.new.prefs; inputs = c.trim.new.inputs; changed = c.trim.new.changed; live = c.trim.new.live; kept = c.trim.new.kept } in
    let all : List Triple = kept_held (held_by c.trim.new.goals c.trim.new.depends c.trim.new.prefs c.trim.new.inputs c.trim.new.live.list) in
    let has : HasTrimmed a left all = record { trims = λ history remembers. c.in_ok-trim.ensures.trims history remembers.depends_are; keeps = c.in_ok-trim.ensures.keeps; kept_is = refl } in
    let members = c.rest_is_kept.ensures c.trim.new.goals c.trim.new.prefs.rows c.trim.new.inputs c.trim.new.kept c.in_ok-trim.ensures.rest in
    those_known a.table all c.trim.new.kept.triples members (kept_sound a left all has c.requires.sound)

pub retag_touched-requires-clause-same : goal.retag_touched-requires-clause-same
retag_touched-requires-clause-same c = λ t h.
    c.in_ok-trim.ensures.touched.1 t (ap (λ (l : List Triple). has_plain l t) (sym c.as_slice-4.ensures) ∙ h) ∙ c.requires.sound.kept_up.memory_is t

pub retag_touched-requires-clause-flags : goal.retag_touched-requires-clause-flags
retag_touched-requires-clause-flags c = λ e is.
    c.requires.sound.kept_up.flags e is ∙ ap (λ (ids : List Sym). has_symbol ids e.id) (sym (c.as_slice-3.ensures ∙ c.in_ok-ids.ensures ∙ c.ids.ensures))

pub returns-in_err-changes-clause-resettled : goal.returns-in_err-changes-clause-resettled
returns-in_err-changes-clause-resettled c =
    let a = c.args.self.now in
    let left : Left = record { goals = c.trim.new.goals; depends = c.trim.new.depends; doubted = c.args.self.now.doubted; prefs = c.trim.new.prefs; inputs = c.trim.new.inputs; changed = c.trim.new.changed; live = c.trim.new.live; kept = c.trim.new.kept } in
    let all : List Triple = kept_held (held_by c.trim.new.goals c.trim.new.depends c.trim.new.prefs c.trim.new.inputs c.trim.new.live.list) in
    let has : HasTrimmed a left all = record { trims = λ history remembers. c.in_ok-trim.ensures.trims history remembers.depends_are; keeps = c.in_ok-trim.ensures.keeps; kept_is = refl } in
    let members = c.rest_is_kept.ensures c.trim.new.goals c.trim.new.prefs.rows c.trim.new.inputs c.trim.new.kept c.in_ok-trim.ensures.rest in
    let result = c.from_residual-in_err-changes.result in
    let p = err_from_is_err_and result c.from_residual-in_err-changes.ensures.1 in
    of_each_state (λ (s : Agent). Resettles (with_left a left c.retag_touched.new.memory) s result) a
    (λ history remembers. settles_not a (with_left a left c.retag_touched.new.memory) left all history c.retag_touched.new.memory result c.in_err-changes.field-0.0 (p.1 ∙ ap Err p.2) remembers has
    (subst (λ gs. Retags a.table gs all a.memory c.retag_touched.new.memory (Err c.in_err-changes.field-0.0)) c.list-3.ensures.goals (c.in_err-changes.ensures.retags all (λ t. sym (members t)))))

pub returns-clause-resettled : goal.returns-clause-resettled
returns-clause-resettled c =
    let a = c.args.self.now in
    let left : Left = record { goals = c.trim.new.goals; depends = c.trim.new.depends; doubted = c.in_ok-doubted.doubted; prefs = c.trim.new.prefs; inputs = c.trim.new.inputs; changed = c.trim.new.changed; live = c.trim.new.live; kept = c.trim.new.kept } in
    let all : List Triple = kept_held (held_by c.trim.new.goals c.trim.new.depends c.trim.new.prefs c.trim.new.inputs c.trim.new.live.list) in
    let has : HasTrimmed a left all = record { trims = λ history remembers. c.in_ok-trim.ensures.trims history remembers.depends_are; keeps = c.in_ok-trim.ensures.keeps; kept_is = refl } in
    let members = c.rest_is_kept.ensures c.trim.new.goals c.trim.new.prefs.rows c.trim.new.inputs c.trim.new.kept c.in_ok-trim.ensures.rest in
    let gone =
    has_removed a left c.in_ok-before.before c.as_slice-2.result.now c.in_ok-removed.removed c.len.result (c.in_ok-before.ensures ∙ ap (at_depths 1) (c.as_slice.ensures ∙ c.list.ensures.goals)) c.as_slice-2.ensures
    (c.len.ensures ∙ ap length c.list-2.ensures.goals) c.in_ok-removed.ensures in
    let tagged = subst (λ gs. Retags a.table gs all a.memory c.retag_touched.new.memory (Ok c.in_ok-changes.changes)) c.list-3.ensures.goals (c.in_ok-changes.ensures.retags all (λ t. sym (members t))) in
    of_each_state (λ (s : Agent). IsResettled (with_left a left c.retag_touched.new.memory) (record { removed = c.in_ok-removed.removed; changes = c.in_ok-changes.changes }) (resettled_now s)) a
    (λ history remembers. settles c.removals_are_nested.ensures.removed c.removals_alone.ensures a left all c.in_ok-removed.removed history c.retag_touched.new.memory c.in_ok-changes.changes remembers has gone tagged)

pub returns-in_err-changes-clause-each : goal.returns-in_err-changes-clause-each
returns-in_err-changes-clause-each c =
    let a = c.args.self.now in
    let left : Left = record { goals = c.trim.new.goals; depends = c.trim.new.depends; doubted = c.args.self.now.doubted; prefs = c.trim.new.prefs; inputs = c.trim.new.inputs; changed = c.trim.new.changed; live = c.trim.new.live; kept = c.trim.new.kept } in
    let all : List Triple = kept_held (held_by c.trim.new.goals c.trim.new.depends c.trim.new.prefs c.trim.new.inputs c.trim.new.live.list) in
    let has : HasTrimmed a left all = record { trims = λ history remembers. c.in_ok-trim.ensures.trims history remembers.depends_are; keeps = c.in_ok-trim.ensures.keeps; kept_is = refl } in
    let members = c.rest_is_kept.ensures c.trim.new.goals c.trim.new.prefs.rows c.trim.new.inputs c.trim.new.kept c.in_ok-trim.ensures.rest in
    let result = c.from_residual-in_err-changes.result in
    let p = err_from_is_err_and result c.from_residual-in_err-changes.ensures.1 in
    λ history remembers. settles_not_each a (with_left a left c.retag_touched.new.memory) left all history c.retag_touched.new.memory result c.in_err-changes.field-0.0 (p.1 ∙ ap Err p.2) remembers has
    (subst (λ gs. Retags a.table gs all a.memory c.retag_touched.new.memory (Err c.in_err-changes.field-0.0)) c.list-3.ensures.goals (c.in_err-changes.ensures.retags all (λ t. sym (members t))))

pub returns-clause-each : goal.returns-clause-each
returns-clause-each c =
    let a = c.args.self.now in
    let left : Left = record { goals = c.trim.new.goals; depends = c.trim.new.depends; doubted = c.in_ok-doubted.doubted; prefs = c.trim.new.prefs; inputs = c.trim.new.inputs; changed = c.trim.new.changed; live = c.trim.new.live; kept = c.trim.new.kept } in
    let all : List Triple = kept_held (held_by c.trim.new.goals c.trim.new.depends c.trim.new.prefs c.trim.new.inputs c.trim.new.live.list) in
    let has : HasTrimmed a left all = record { trims = λ history remembers. c.in_ok-trim.ensures.trims history remembers.depends_are; keeps = c.in_ok-trim.ensures.keeps; kept_is = refl } in
    let members = c.rest_is_kept.ensures c.trim.new.goals c.trim.new.prefs.rows c.trim.new.inputs c.trim.new.kept c.in_ok-trim.ensures.rest in
    let gone =
    has_removed a left c.in_ok-before.before c.as_slice-2.result.now c.in_ok-removed.removed c.len.result (c.in_ok-before.ensures ∙ ap (at_depths 1) (c.as_slice.ensures ∙ c.list.ensures.goals)) c.as_slice-2.ensures
    (c.len.ensures ∙ ap length c.list-2.ensures.goals) c.in_ok-removed.ensures in
    let tagged = subst (λ gs. Retags a.table gs all a.memory c.retag_touched.new.memory (Ok c.in_ok-changes.changes)) c.list-3.ensures.goals (c.in_ok-changes.ensures.retags all (λ t. sym (members t))) in
    λ history remembers. settles_each c.removals_are_nested.ensures.removed c.removals_alone.ensures a left all c.in_ok-removed.removed history c.retag_touched.new.memory c.in_ok-changes.changes remembers has gone tagged

pub returns-clause-removed : goal.returns-clause-removed
returns-clause-removed c =
    let a = c.args.self.now in
    let left : Left = record { goals = c.trim.new.goals; depends = c.trim.new.depends; doubted = c.in_ok-doubted.doubted; prefs = c.trim.new.prefs; inputs = c.trim.new.inputs; changed = c.trim.new.changed; live = c.trim.new.live; kept = c.trim.new.kept } in
    let gone =
    has_removed a left c.in_ok-before.before c.as_slice-2.result.now c.in_ok-removed.removed c.len.result (c.in_ok-before.ensures ∙ ap (at_depths 1) (c.as_slice.ensures ∙ c.list.ensures.goals)) c.as_slice-2.ensures
    (c.len.ensures ∙ ap length c.list-2.ensures.goals) c.in_ok-removed.ensures in
    gone.removed_are

pub returns-clause-told : goal.returns-clause-told
returns-clause-told c =
    let a = c.args.self.now in
    let all : List Triple = kept_held (held_by c.trim.new.goals c.trim.new.depends c.trim.new.prefs c.trim.new.inputs c.trim.new.live.list) in
    let members = c.rest_is_kept.ensures c.trim.new.goals c.trim.new.prefs.rows c.trim.new.inputs c.trim.new.kept c.in_ok-trim.ensures.rest in
    let tagged = subst (λ gs. Retags a.table gs all a.memory c.retag_touched.new.memory (Ok c.in_ok-changes.changes)) c.list-3.ensures.goals (c.in_ok-changes.ensures.retags all (λ t. sym (members t))) in
    c.changes_are_told.ensures.told a.table c.trim.new.goals all a.memory c.retag_touched.new.memory c.in_ok-changes.changes tagged.lawful tagged

pub returns-clause-known : goal.returns-clause-known
returns-clause-known c =
    let a = c.args.self.now in
    let left : Left = record { goals = c.trim.new.goals; depends = c.trim.new.depends; doubted = c.in_ok-doubted.doubted; prefs = c.trim.new.prefs; inputs = c.trim.new.inputs; changed = c.trim.new.changed; live = c.trim.new.live; kept = c.trim.new.kept } in
    let all : List Triple = kept_held (held_by c.trim.new.goals c.trim.new.depends c.trim.new.prefs c.trim.new.inputs c.trim.new.live.list) in
    let has : HasTrimmed a left all = record { trims = λ history remembers. c.in_ok-trim.ensures.trims history remembers.depends_are; keeps = c.in_ok-trim.ensures.keeps; kept_is = refl } in
    let members = c.rest_is_kept.ensures c.trim.new.goals c.trim.new.prefs.rows c.trim.new.inputs c.trim.new.kept c.in_ok-trim.ensures.rest in
    let gone =
    has_removed a left c.in_ok-before.before c.as_slice-2.result.now c.in_ok-removed.removed c.len.result (c.in_ok-before.ensures ∙ ap (at_depths 1) (c.as_slice.ensures ∙ c.list.ensures.goals)) c.as_slice-2.ensures
    (c.len.ensures ∙ ap length c.list-2.ensures.goals) c.in_ok-removed.ensures in
    let tagged = subst (λ gs. Retags a.table gs all a.memory c.retag_touched.new.memory (Ok c.in_ok-changes.changes)) c.list-3.ensures.goals (c.in_ok-changes.ensures.retags all (λ t. sym (members t))) in
    tells_known a left all c.in_ok-removed.removed c.retag_touched.new.memory c.in_ok-changes.changes has gone c.requires.sound tagged

pub returns-clause-sound : goal.returns-clause-sound
returns-clause-sound c =
    let a = c.args.self.now in
    let left : Left = record { goals = c.trim.new.goals; depends = c.trim.new.depends; doubted = c.in_ok-doubted.doubted; prefs = c.trim.new.prefs; inputs = c.trim.new.inputs; changed = c.trim.new.changed; live = c.trim.new.live; kept = c.trim.new.kept } in
    let all : List Triple = kept_held (held_by c.trim.new.goals c.trim.new.depends c.trim.new.prefs c.trim.new.inputs c.trim.new.live.list) in
    let has : HasTrimmed a left all = record { trims = λ history remembers. c.in_ok-trim.ensures.trims history remembers.depends_are; keeps = c.in_ok-trim.ensures.keeps; kept_is = refl } in
    let members = c.rest_is_kept.ensures c.trim.new.goals c.trim.new.prefs.rows c.trim.new.inputs c.trim.new.kept c.in_ok-trim.ensures.rest in
    let tagged = subst (λ gs. Retags a.table gs all a.memory c.retag_touched.new.memory (Ok c.in_ok-changes.changes)) c.list-3.ensures.goals (c.in_ok-changes.ensures.retags all (λ t. sym (members t))) in
    let told = c.changes_are_told.ensures.told a.table c.trim.new.goals all a.memory c.retag_touched.new.memory c.in_ok-changes.changes tagged.lawful tagged in
    left_sound a left all c.retag_touched.new.memory has c.requires.sound tagged.memory_is
    (newly_kept a.table c.trim.new.goals c.trim.new.prefs c.trim.new.inputs c.trim.new.changed c.trim.new.kept a.memory.last a.memory.elements c.retag_touched.new.memory.elements (record {
      rest = c.in_ok-trim.ensures.rest;
      taken = c.in_ok-trim.ensures.taken;
      none = c.in_ok-trim.ensures.changed;
      after_is = ap (λ (m : WorkingMemory). m.elements) tagged.memory_is;
      members = members;
      once = c.law.ensures.table.once;
      known = kept_sound a left all has c.requires.sound;
      small = tags_small a.memory.last a.memory.elements tagged.lawful.given;
    }))
    c.in_ok-trim.ensures.rest.own.ids
    (subst (AreDoubted c.trim.new.depends c.retag_touched.new.memory.elements c.trim.new.kept.triples) (sym (c.in_ok-doubted.ensures ∙ ap (map (λ (e : Element). e.tag)) c.as_slice-5.ensures))
    (gone_doubted c.trim.new.depends a.memory.elements c.retag_touched.new.memory.elements c.trim.new.kept.triples c.in_ok-changes.changes told c.in_ok-trim.ensures.whole))

pub returns-clause-first : goal.returns-clause-first
returns-clause-first c = c.in_ok-trim.ensures.keeps.goals_are
