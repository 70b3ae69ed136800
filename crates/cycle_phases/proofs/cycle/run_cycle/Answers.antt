use Rattle.std.proofs.Common.{◌∙◌, Ok, Err, ap, refl}
use Rattle.std.proofs.lemmas.Result.{err_from_is_err_and}
use Rattle.defs_soar.specs.Cycle.{then_output}
use Rattle.defs_soar.specs.Phases.{still}
use Rattle.cycle_phases.specs.Cycling.{with_application, with_decision, with_input, with_proposals}
use Rattle.cycle_phases.proofs.CourseLemmas.{none_went}
use Rattle.cycle_phases.proofs.CycleLemmas.{after_decision, after_inputs, after_output_extends, after_proposals, nothing_after, of_cycle, same_level, stopped_with}
use Rattle.cycle_phases.proofs.cycle.run_cycle.Goals as goal

pub returns-in_err-take_input-clause-cycle : goal.returns-in_err-take_input-clause-cycle
returns-in_err-take_input-clause-cycle g c = λ s stands.
    let a = c.args.engine.now.parts in
    let watch = a.settings.watch in
    let mid = c.args.mid_line.now in
    let before = c.args.out.now in
    let went = none_went watch mid s a before stands in
    let p = err_from_is_err_and c.from_residual.result c.from_residual.ensures.1 in
    of_cycle watch s c.take_input.new.engine.parts mid c.take_input.new.mid_line before c.take_input.new.out c.from_residual.result
    (stopped_with watch mid (still s) (λ d. then_output (with_application (with_decision (with_proposals d)))) with_input after_inputs a c.take_input.new.engine.parts mid c.take_input.new.mid_line before before c.take_input.new.out c.in_err-take_input.field-0.0
    c.from_residual.result (p.1 ∙ ap Err p.2) refl went (c.in_err-take_input.ensures.course watch))

pub returns-in_err-propose-clause-cycle : goal.returns-in_err-propose-clause-cycle
returns-in_err-propose-clause-cycle g c = λ s stands.
    let a = c.args.engine.now.parts in
    let watch = a.settings.watch in
    let mid = c.args.mid_line.now in
    let before = c.args.out.now in
    let went = none_went watch mid s a before stands in
    let taken = c.in_ok-take_input.ensures.course watch refl mid (still s) before went in
    let p = err_from_is_err_and c.from_residual-in_err-propose.result c.from_residual-in_err-propose.ensures.1 in
    of_cycle watch s c.propose.new.engine.parts mid c.propose.new.mid_line before c.propose.new.out c.from_residual-in_err-propose.result
    (stopped_with watch mid (with_input (still s)) (λ d. then_output (with_application (with_decision d))) with_proposals after_proposals c.take_input.new.engine.parts c.propose.new.engine.parts c.take_input.new.mid_line c.propose.new.mid_line before c.take_input.new.out c.propose.new.out c.in_err-propose.field-0.0
    c.from_residual-in_err-propose.result (p.1 ∙ ap Err p.2) (same_level c.take_input.new.engine.parts.settings a.settings (c.in_ok-take_input.ensures.settings)) taken (c.in_err-propose.ensures.course watch))

pub returns-in_err-decide-clause-cycle : goal.returns-in_err-decide-clause-cycle
returns-in_err-decide-clause-cycle g c = λ s stands.
    let a = c.args.engine.now.parts in
    let watch = a.settings.watch in
    let mid = c.args.mid_line.now in
    let before = c.args.out.now in
    let went = none_went watch mid s a before stands in
    let taken = c.in_ok-take_input.ensures.course watch refl mid (still s) before went in
    let proposed = c.in_ok-propose.ensures.course watch (same_level c.take_input.new.engine.parts.settings a.settings (c.in_ok-take_input.ensures.settings)) mid (with_input (still s)) before taken in
    let p = err_from_is_err_and c.from_residual-in_err-decide.result c.from_residual-in_err-decide.ensures.1 in
    of_cycle watch s c.decide.new.engine.parts mid c.decide.new.mid_line before c.decide.new.out c.from_residual-in_err-decide.result
    (stopped_with watch mid (with_proposals (with_input (still s))) (λ d. then_output (with_application d)) with_decision after_decision c.propose.new.engine.parts c.decide.new.engine.parts c.propose.new.mid_line c.decide.new.mid_line before c.propose.new.out c.decide.new.out c.in_err-decide.field-0.0
    c.from_residual-in_err-decide.result (p.1 ∙ ap Err p.2) (same_level c.propose.new.engine.parts.settings a.settings (c.in_ok-propose.ensures.settings ∙ c.in_ok-take_input.ensures.settings)) proposed (c.in_err-decide.ensures.course watch))

pub returns-in_err-apply-clause-cycle : goal.returns-in_err-apply-clause-cycle
returns-in_err-apply-clause-cycle g c = λ s stands.
    let a = c.args.engine.now.parts in
    let watch = a.settings.watch in
    let mid = c.args.mid_line.now in
    let before = c.args.out.now in
    let went = none_went watch mid s a before stands in
    let taken = c.in_ok-take_input.ensures.course watch refl mid (still s) before went in
    let proposed = c.in_ok-propose.ensures.course watch (same_level c.take_input.new.engine.parts.settings a.settings (c.in_ok-take_input.ensures.settings)) mid (with_input (still s)) before taken in
    let decided = c.in_ok-decide.ensures.course watch (same_level c.propose.new.engine.parts.settings a.settings (c.in_ok-propose.ensures.settings ∙ c.in_ok-take_input.ensures.settings)) mid (with_proposals (with_input (still s))) before proposed in
    let p = err_from_is_err_and c.from_residual-in_err-apply.result c.from_residual-in_err-apply.ensures.1 in
    of_cycle watch s c.apply.new.engine.parts mid c.apply.new.mid_line before c.apply.new.out c.from_residual-in_err-apply.result
    (stopped_with watch mid (with_decision (with_proposals (with_input (still s)))) then_output with_application after_output_extends c.decide.new.engine.parts c.apply.new.engine.parts c.decide.new.mid_line c.apply.new.mid_line before c.decide.new.out c.apply.new.out c.in_err-apply.field-0.0
    c.from_residual-in_err-apply.result (p.1 ∙ ap Err p.2) (same_level c.decide.new.engine.parts.settings a.settings (c.in_ok-decide.ensures.settings ∙ c.in_ok-propose.ensures.settings ∙ c.in_ok-take_input.ensures.settings)) decided (c.in_err-apply.ensures.course watch))

pub returns-in_err-give_output-clause-cycle : goal.returns-in_err-give_output-clause-cycle
returns-in_err-give_output-clause-cycle g c = λ s stands.
    let a = c.args.engine.now.parts in
    let watch = a.settings.watch in
    let mid = c.args.mid_line.now in
    let before = c.args.out.now in
    let went = none_went watch mid s a before stands in
    let taken = c.in_ok-take_input.ensures.course watch refl mid (still s) before went in
    let proposed = c.in_ok-propose.ensures.course watch (same_level c.take_input.new.engine.parts.settings a.settings (c.in_ok-take_input.ensures.settings)) mid (with_input (still s)) before taken in
    let decided = c.in_ok-decide.ensures.course watch (same_level c.propose.new.engine.parts.settings a.settings (c.in_ok-propose.ensures.settings ∙ c.in_ok-take_input.ensures.settings)) mid (with_proposals (with_input (still s))) before proposed in
    let applied = c.in_ok-apply.ensures.course watch (same_level c.decide.new.engine.parts.settings a.settings (c.in_ok-decide.ensures.settings ∙ c.in_ok-propose.ensures.settings ∙ c.in_ok-take_input.ensures.settings)) mid (with_decision (with_proposals (with_input (still s)))) before decided in
    let p = err_from_is_err_and c.from_residual-in_err-give_output.result c.from_residual-in_err-give_output.ensures.1 in
    of_cycle watch s c.give_output.new.engine.parts mid c.give_output.new.mid_line before c.give_output.new.out c.from_residual-in_err-give_output.result
    (stopped_with watch mid (with_application (with_decision (with_proposals (with_input (still s))))) (λ d. d) then_output nothing_after c.apply.new.engine.parts c.give_output.new.engine.parts c.apply.new.mid_line c.give_output.new.mid_line before c.apply.new.out c.give_output.new.out c.in_err-give_output.field-0.0
    c.from_residual-in_err-give_output.result (p.1 ∙ ap Err p.2) (same_level c.apply.new.engine.parts.settings a.settings (c.in_ok-apply.ensures.settings ∙ c.in_ok-decide.ensures.settings ∙ c.in_ok-propose.ensures.settings ∙ c.in_ok-take_input.ensures.settings)) applied (c.in_err-give_output.ensures.course watch))

pub returns-clause-cycle : goal.returns-clause-cycle
returns-clause-cycle g c = λ s stands.
    let a = c.args.engine.now.parts in
    let watch = a.settings.watch in
    let mid = c.args.mid_line.now in
    let before = c.args.out.now in
    let went = none_went watch mid s a before stands in
    let taken = c.in_ok-take_input.ensures.course watch refl mid (still s) before went in
    let proposed = c.in_ok-propose.ensures.course watch (same_level c.take_input.new.engine.parts.settings a.settings (c.in_ok-take_input.ensures.settings)) mid (with_input (still s)) before taken in
    let decided = c.in_ok-decide.ensures.course watch (same_level c.propose.new.engine.parts.settings a.settings (c.in_ok-propose.ensures.settings ∙ c.in_ok-take_input.ensures.settings)) mid (with_proposals (with_input (still s))) before proposed in
    let applied = c.in_ok-apply.ensures.course watch (same_level c.decide.new.engine.parts.settings a.settings (c.in_ok-decide.ensures.settings ∙ c.in_ok-propose.ensures.settings ∙ c.in_ok-take_input.ensures.settings)) mid (with_decision (with_proposals (with_input (still s)))) before decided in
    of_cycle watch s c.give_output.new.engine.parts mid c.give_output.new.mid_line before c.give_output.new.out (Ok c.give_output.new.engine.parts.halted)
    (c.in_ok-give_output.ensures.course watch (same_level c.apply.new.engine.parts.settings a.settings (c.in_ok-apply.ensures.settings ∙ c.in_ok-decide.ensures.settings ∙ c.in_ok-propose.ensures.settings ∙ c.in_ok-take_input.ensures.settings)) mid (with_application (with_decision (with_proposals (with_input (still s))))) before applied)
