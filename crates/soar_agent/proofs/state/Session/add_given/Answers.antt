use Rattle.std.proofs.Common.{◌≡◌, ◌∙◌, [], true, Some, map, sym, subst}
use Rattle.soar_sym.specs.declared.symbol.Sym.{Sym}
use Rattle.soar_cycle.specs.Remembers.{Remembers}
use Rattle.soar_agent.specs.Carries.{Responds, response_by}
use Rattle.soar_agent.specs.Adding.{adds_at_top}
use Rattle.command_orders.specs.Asked.{operand_seen}
use Rattle.command_labels.specs.Found.{label_seen}
use Rattle.session_parts.specs.Labels.{symbol_in}
use Rattle.soar_agent.specs.States.{session_of}
use Rattle.soar_agent.specs.declared.state.Session.{Session}
use Rattle.letter_laws.proofs.GrowthLaws.{given_stay_given}
use Rattle.soar_agent.proofs.GivenLemmas.{addition_numbered, attribute_stands, given_adds, id_stands, operand_stays}
use Rattle.soar_agent.proofs.state.Session.add_given.Goals as goal

pub add_at_top-requires-clause-slot_numbered : goal.add_at_top-requires-clause-slot_numbered
add_at_top-requires-clause-slot_numbered g c =
    let numbered = addition_numbered (session_of c.args.self.now []) true c.args.addition (c.requires.given []) in
    let first = c.resolve.new.self.agent.parts.letters in (
      given_stay_given first c.resolve-2.new.self.agent.parts.letters c.in_ok-id.id c.in_ok-attr.ensures.letters (c.in_ok-id.ensures.numbered numbered.id_numbered),
      c.in_ok-attr.ensures.numbered (operand_stays c.args.self.now.agent.parts.letters first c.args.addition.attr c.in_ok-id.ensures.letters numbered.attr_numbered),
    )

pub add_at_top-requires-clause-value_numbered : goal.add_at_top-requires-clause-value_numbered
add_at_top-requires-clause-value_numbered g c =
    let numbered = addition_numbered (session_of c.args.self.now []) true c.args.addition (c.requires.given []) in
    let first = c.resolve.new.self.agent.parts.letters in
    operand_stays first c.resolve-2.new.self.agent.parts.letters c.args.addition.value c.in_ok-attr.ensures.letters
    (operand_stays c.args.self.now.agent.parts.letters first c.args.addition.value c.in_ok-id.ensures.letters numbered.value_numbered)

pub returns-clause-reply : goal.returns-clause-reply
returns-clause-reply g c = λ history remembers.
    let i = id_stands (session_of c.args.self.now history) (operand_seen c.args.addition.id) (operand_seen c.args.addition.attr) (operand_seen c.args.addition.value) (c.requires.given history) in
    let first = c.resolve.ensures.standing i.0 i.1 in
    let a = attribute_stands c.args.self.now.agent.parts.table (map label_seen c.resolve.new.self.labels) c.args.addition.attr c.requires.known.attr in
    let second = c.resolve-2.ensures.standing a.0 a.1 in
    let id_is : c.in_ok-id.id ≡ i.0 = cc (first.0, c.in_ok-id.was) in
    let attr_is : c.in_ok-attr.attr ≡ a.0 = cc (second.0, c.in_ok-attr.was) in
    let same : c.resolve-2.new.self ≡ c.args.self.now = second.1 ∙ first.1 in
    given_adds c.args.self.now c.resolve-2.new.self c.add_at_top.new.self c.args.origin.now.source.now c.args.origin.now.line (operand_seen c.args.addition.id) (operand_seen c.args.addition.attr) (operand_seen c.args.addition.value)
    i.0 a.0 history c.args.out.now c.add_at_top.new.out c.add_at_top.result i.1
    (subst (λ (s : Session g.row.M.Denot). symbol_in (map label_seen s.labels) (operand_seen c.args.addition.attr) ≡ Some a.0) first.1 a.1) same
    (subst (λ (s : Sym). Responds c.resolve-2.new.self.agent.parts.settings.watch c.resolve-2.new.self.agent.mid_line (response_by c.args.origin.now.source.now c.args.origin.now.line (session_of c.resolve-2.new.self history)
    (adds_at_top s a.0 (operand_seen c.args.addition.value) (session_of c.resolve-2.new.self history))) c.add_at_top.new.self c.args.out.now c.add_at_top.new.out c.add_at_top.result)
    id_is
    (subst (λ (s : Sym). Responds c.resolve-2.new.self.agent.parts.settings.watch c.resolve-2.new.self.agent.mid_line (response_by c.args.origin.now.source.now c.args.origin.now.line (session_of c.resolve-2.new.self history)
    (adds_at_top c.in_ok-id.id s (operand_seen c.args.addition.value) (session_of c.resolve-2.new.self history))) c.add_at_top.new.self c.args.out.now c.add_at_top.new.out c.add_at_top.result)
    attr_is (c.add_at_top.ensures.reply history (subst (λ (s : Session g.row.M.Denot). Remembers s.agent.parts history) (sym same) remembers))))

pub returns-in_err-id-clause-reply : goal.returns-in_err-id-clause-reply
returns-in_err-id-clause-reply g c = λ history remembers.
    let i = id_stands (session_of c.args.self.now history) (operand_seen c.args.addition.id) (operand_seen c.args.addition.attr) (operand_seen c.args.addition.value) (c.requires.given history) in
    absurd (let first = c.resolve.ensures.standing i.0 i.1 in cc (first.0, c.in_err-id.was))

pub returns-in_err-attr-clause-reply : goal.returns-in_err-attr-clause-reply
returns-in_err-attr-clause-reply g c = λ history remembers.
    let a = attribute_stands c.args.self.now.agent.parts.table (map label_seen c.resolve.new.self.labels) c.args.addition.attr c.requires.known.attr in
    absurd (let second = c.resolve-2.ensures.standing a.0 a.1 in cc (second.0, c.in_err-attr.was))
