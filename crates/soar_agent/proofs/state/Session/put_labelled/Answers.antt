use Rattle.std.proofs.Common.{◌++◌, ◌∷◌, [], sym, subst}
use Rattle.soar_sym.specs.declared.symbol.Triple.{Triple}
use Rattle.defs_run.specs.Inputs.{with_inputs}
use Rattle.letter_laws.proofs.GrowthLaws.{given_stay_given}
use Rattle.soar_agent.specs.Carries.{Obeys}
use Rattle.soar_agent.specs.Numbered.{IsTripleNumbered}
use Rattle.soar_agent.specs.States.{session_of}
use Rattle.soar_agent.proofs.AddingLemmas.{puts_labelled, puts_none}
use Rattle.soar_agent.proofs.state.Session.put_labelled.Goals as goal

pub change_inputs-requires-clause-numbered : goal.change_inputs-requires-clause-numbered
change_inputs-requires-clause-numbered g c =
    let old = c.args.self.now.agent.parts.letters in
    let letters = c.make_label.new.self.agent.parts.letters in
    subst (IsTripleNumbered letters) (sym c.with.ensures) (
      given_stay_given old letters c.args.slot.id c.in-Ok.ensures.letters c.requires.slot_numbered.0,
      given_stay_given old letters c.args.slot.attr c.in-Ok.ensures.letters c.requires.slot_numbered.1,
      c.in-Ok.ensures.numbered,
    )

pub returns-in-Ok-clause-reply : goal.returns-in-Ok-clause-reply
returns-in-Ok-clause-reply g c = λ history remembers.
    puts_labelled c.args.self.now c.make_label.new.self c.change_inputs.new.self c.args.slot.id c.args.slot.attr c.in-Ok.value c.args.name history c.args.out.now c.change_inputs.new.out c.change_inputs.result
    c.in-Ok.ensures.mid_line (c.in-Ok.ensures.symbol history remembers)
    (subst (λ (t : Triple). Obeys c.make_label.new.self.agent.parts.settings.watch c.make_label.new.self.agent.mid_line
    (with_inputs (c.make_label.new.self.agent.parts.inputs ++ t ∷ []) (session_of c.make_label.new.self history)) c.change_inputs.new.self c.args.out.now c.change_inputs.new.out c.change_inputs.result)
    c.with.ensures (c.change_inputs.ensures.reply history (c.in-Ok.ensures.symbol history remembers).3))

pub returns-in-Err-clause-reply : goal.returns-in-Err-clause-reply
returns-in-Err-clause-reply g c = λ history remembers.
    puts_none c.args.self.now c.make_label.new.self c.args.slot.id c.args.slot.attr c.args.name history c.args.out.now c.in-Err.stop c.in-Err.ensures.mid_line (c.in-Err.ensures.symbol history remembers)
