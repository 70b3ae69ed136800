use Rattle.std.proofs.Common.{Ok, sym, subst}
use Rattle.std.proofs.lemmas.Result.{err_from_is_err_and}
use Rattle.soar_sym.specs.declared.symbol.Triple.{Triple}
use Rattle.defs_run.specs.Inputs.{spelled}
use Rattle.command_orders.specs.Asked.{operand_seen}
use Rattle.letter_laws.proofs.GrowthLaws.{given_stay_given}
use Rattle.soar_agent.specs.Labels.{Spells}
use Rattle.soar_agent.specs.Numbered.{IsTripleNumbered}
use Rattle.soar_agent.specs.States.{session_of}
use Rattle.soar_agent.proofs.GivenLemmas.{operand_stays}
use Rattle.soar_agent.proofs.SpellingLemmas.{attr_none, id_none, spells, value_none}
use Rattle.soar_agent.proofs.state.Session.spell.Goals as goal

pub returns-clause-numbered : goal.returns-clause-numbered
returns-clause-numbered g c =
    let old = c.args.self.now.agent.parts.letters in
    let first = c.resolve.new.self.agent.parts.letters in
    let second = c.resolve-2.new.self.agent.parts.letters in
    let last = c.resolve-3.new.self.agent.parts.letters in
    let id = c.in_ok-id.ensures.numbered c.requires.numbered.id_numbered in
    let attr = c.in_ok-attr.ensures.numbered (operand_stays old first c.args.addition.attr c.in_ok-id.ensures.letters c.requires.numbered.attr_numbered) in
    let value =
    c.in_ok-value.ensures.numbered
    (operand_stays first second c.args.addition.value c.in_ok-attr.ensures.letters (operand_stays old first c.args.addition.value c.in_ok-id.ensures.letters c.requires.numbered.value_numbered)) in
    subst (IsTripleNumbered last) (sym c.with.ensures) (
      given_stay_given second last c.in_ok-id.id c.in_ok-value.ensures.letters (given_stay_given first second c.in_ok-id.id c.in_ok-attr.ensures.letters id),
      given_stay_given second last c.in_ok-attr.attr c.in_ok-value.ensures.letters attr,
      value,
    )

pub returns-clause-triple : goal.returns-clause-triple
returns-clause-triple g c = λ history remembers.
    let first = c.in_ok-id.ensures.symbol history remembers in
    let second = c.in_ok-attr.ensures.symbol history first.3 in
    subst (λ (t : Triple). Spells c.resolve-3.new.self (spelled (session_of c.args.self.now history) (operand_seen c.args.addition.id) (operand_seen c.args.addition.attr) (operand_seen c.args.addition.value)) history (Ok t))
    (sym c.with.ensures)
    (spells c.args.self.now c.resolve.new.self c.resolve-2.new.self c.resolve-3.new.self (operand_seen c.args.addition.id) (operand_seen c.args.addition.attr) (operand_seen c.args.addition.value)
    c.in_ok-id.id c.in_ok-attr.attr c.in_ok-value.value history first second (c.in_ok-value.ensures.symbol history second.3))

pub returns-in_err-id-clause-triple : goal.returns-in_err-id-clause-triple
returns-in_err-id-clause-triple g c = λ history remembers.
    let p = err_from_is_err_and c.from_residual.result c.from_residual.ensures.1 in
    rw (p.1, p.2)
    (id_none c.args.self.now c.resolve.new.self (operand_seen c.args.addition.id) (operand_seen c.args.addition.attr) (operand_seen c.args.addition.value) history c.in_err-id.field-0.0
    (c.in_err-id.ensures.symbol history remembers))

pub returns-in_err-attr-clause-triple : goal.returns-in_err-attr-clause-triple
returns-in_err-attr-clause-triple g c = λ history remembers.
    let p = err_from_is_err_and c.from_residual-in_err-attr.result c.from_residual-in_err-attr.ensures.1 in
    rw (p.1, p.2)
    (attr_none c.args.self.now c.resolve.new.self c.resolve-2.new.self (operand_seen c.args.addition.id) (operand_seen c.args.addition.attr) (operand_seen c.args.addition.value) c.in_ok-id.id history
    c.in_err-attr.field-0.0 (c.in_ok-id.ensures.symbol history remembers) (c.in_err-attr.ensures.symbol history (c.in_ok-id.ensures.symbol history remembers).3))

pub returns-in_err-value-clause-triple : goal.returns-in_err-value-clause-triple
returns-in_err-value-clause-triple g c = λ history remembers.
    let p = err_from_is_err_and c.from_residual-in_err-value.result c.from_residual-in_err-value.ensures.1 in
    let first = c.in_ok-id.ensures.symbol history remembers in
    let second = c.in_ok-attr.ensures.symbol history first.3 in
    rw (p.1, p.2)
    (value_none c.args.self.now c.resolve.new.self c.resolve-2.new.self c.resolve-3.new.self (operand_seen c.args.addition.id) (operand_seen c.args.addition.attr) (operand_seen c.args.addition.value)
    c.in_ok-id.id c.in_ok-attr.attr history c.in_err-value.field-0.0 first second (c.in_err-value.ensures.symbol history second.3))
