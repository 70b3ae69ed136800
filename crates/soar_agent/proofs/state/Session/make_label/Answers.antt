use Rattle.std.proofs.Common.{◌≡◌, ◌∙◌, ◌+◌, ap, refl, subst, sym}
use Rattle.std.specs.Prelude.{IsTrue}
use Rattle.soar_sym.specs.Letters.{last_of}
use Rattle.soar_sym.specs.Words.{IsKnown}
use Rattle.soar_sym.specs.declared.symbol.Sym.{Sym}
use Rattle.defs_soar.specs.Naming.{letter_from}
use Rattle.learning_laws.specs.LawfulAgents.{IsNumbered}
use Rattle.soar_cycle.specs.Seen.{agent_of}
use Rattle.soar_cycle.proofs.StandsLemmas.{stands_at}
use Rattle.command_labels.specs.Lettered.{is_lettered}
use Rattle.soar_agent.proofs.LabelLemmas.{known_lettered, makes_label, makes_none}
use Rattle.soar_agent.proofs.ReadyLemmas.{letters_new, new_numbered, ready_labelled}
use Rattle.soar_agent.proofs.ReplyLemmas.{with_kept}
use Rattle.soar_agent.proofs.state.Session.make_label.Goals as goal

pub invariant_of-add : goal.invariant_of-add
invariant_of-add g c =
    let letter = c.letter_from-letter.result in
    let table = c.fresh.new.self.parts.table in
    let is = c.in-Ok.ensures.symbol c.requires.0 in
    let known = subst (IsKnown table) is (c.in-Ok.ensures.known c.requires.0) in
    record { lettered = subst (λ (s : Sym). IsTrue (is_lettered s)) (sym is) (known_lettered table letter (last_of c.args.self.now.agent.parts.letters letter + 1) known) }

pub returns-in_ok-add-in-Ok-clause-numbered : goal.returns-in_ok-add-in-Ok-clause-numbered
returns-in_ok-add-in-Ok-clause-numbered g c =
    let letter = c.letter_from-letter.result in
    subst (IsNumbered c.fresh.new.self.parts.letters) (sym (c.in-Ok.ensures.symbol c.requires.0))
    (new_numbered c.args.self.now.agent.parts c.fresh.new.self.parts letter c.requires.2 c.letter_from-letter.ensures.high (λ s stands. (c.in-Ok.ensures.step c.requires.0 s stands).1.stands.letters))

pub returns-in_ok-add-in-Ok-clause-letters : goal.returns-in_ok-add-in-Ok-clause-letters
returns-in_ok-add-in-Ok-clause-letters g c =
    letters_new c.args.self.now.agent.parts c.fresh.new.self.parts c.letter_from-letter.result c.requires.2 c.letter_from-letter.ensures.low c.letter_from-letter.ensures.high
    (λ s stands. (c.in-Ok.ensures.step c.requires.0 s stands).1.stands.letters)

pub returns-in_ok-add-in-Ok-clause-ready : goal.returns-in_ok-add-in-Ok-clause-ready
returns-in_ok-add-in-Ok-clause-ready g c =
    let letter = c.letter_from-letter.result in
    ready_labelled c.args.self.now c.fresh.new.self c.add.new.self _ c.requires c.in-Ok.ensures.standing c.in-Ok.ensures.sound
    (letters_new c.args.self.now.agent.parts c.fresh.new.self.parts letter c.requires.2 c.letter_from-letter.ensures.low c.letter_from-letter.ensures.high
    (λ s stands. (c.in-Ok.ensures.step c.requires.0 s stands).1.stands.letters))
    (subst (IsNumbered c.fresh.new.self.parts.letters) (sym (c.in-Ok.ensures.symbol c.requires.0))
    (new_numbered c.args.self.now.agent.parts c.fresh.new.self.parts letter c.requires.2 c.letter_from-letter.ensures.high (λ s stands. (c.in-Ok.ensures.step c.requires.0 s stands).1.stands.letters)))
    c.in_ok-add-in-Ok.ensures.ok

pub returns-in_ok-add-in-Ok-clause-symbol : goal.returns-in_ok-add-in-Ok-clause-symbol
returns-in_ok-add-in-Ok-clause-symbol g c = λ history remembers.
    let first : c.letter_from-letter.result ≡ letter_from c.args.name = c.letter_from-letter.ensures.letter ∙ ap letter_from (c.as_bytes.ensures.value ∙ c.as_str.ensures) in
    makes_label c.args.self.now c.fresh.new.self c.add.new.self _ c.letter_from-letter.result c.args.name history first refl c.in_ok-add-in-Ok.ensures.ok c.in-Ok.ensures.mid_line
    (c.in-Ok.ensures.step c.requires.0 (agent_of c.args.self.now.agent.parts history) (stands_at c.args.self.now.agent.parts history remembers))

pub returns-in-Err-clause-symbol : goal.returns-in-Err-clause-symbol
returns-in-Err-clause-symbol g c = λ history remembers.
    let first : c.letter_from-letter.result ≡ letter_from c.args.name = c.letter_from-letter.ensures.letter ∙ ap letter_from (c.as_bytes.ensures.value ∙ c.as_str.ensures) in
    makes_none c.args.self.now (with_kept c.fresh.new.self c.args.self.now) c.letter_from-letter.result c.args.name history c.in-Err.stop first
    (c.in-Err.ensures.step c.requires.0 (agent_of c.args.self.now.agent.parts history) (stands_at c.args.self.now.agent.parts history remembers))
