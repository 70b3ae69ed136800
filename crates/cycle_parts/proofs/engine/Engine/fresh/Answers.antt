use Rattle.std.proofs.Common.{◌≡◌, ◌+◌, [], ◌∷◌, None, rules}
use Rattle.soar_sym.specs.Letters.{last_of}
use Rattle.defs_soar.specs.Limits.{first_passed, identifiers_to}
use Rattle.cycle_parts.proofs.FreshLemmas.{fresh_sound, gave_next}
use Rattle.cycle_parts.proofs.LawfulLemmas.{lawful_fresh}
use Rattle.cycle_parts.proofs.engine.Engine.fresh.Goals as goal

pub returns-in-Ok-clause-step : goal.returns-in-Ok-clause-step
returns-in-Ok-clause-step g c = λ s stands.
    let a = c.args.self.now.parts in
    let within : first_passed (identifiers_to (last_of a.letters c.args.letter + 1) ∷ []) ≡ None = search rules in
    let gave = gave_next a c.next.new.self c.args.letter c.in-Ok.symbol c.in-Ok.ensures.given.0 c.in-Ok.ensures.given.1 within s stands in
    (gave.symbol_is, gave.stepped)

pub returns-in-Ok-clause-sound : goal.returns-in-Ok-clause-sound
returns-in-Ok-clause-sound g c = fresh_sound c.args.self.now.parts c.next.new.self c.args.letter c.in-Ok.ensures.given.1 c.requires.sound

pub returns-in-Ok-clause-lawful : goal.returns-in-Ok-clause-lawful
returns-in-Ok-clause-lawful g c =
    let a = c.args.self.now.parts in
    let within : first_passed (identifiers_to (last_of a.letters c.args.letter + 1) ∷ []) ≡ None = search rules in
    lawful_fresh a _ c.args.letter c.requires.low c.requires.high c.requires.lawful
    (λ s stands. (gave_next a c.next.new.self c.args.letter c.in-Ok.symbol c.in-Ok.ensures.given.0 c.in-Ok.ensures.given.1 within s stands).stepped)
