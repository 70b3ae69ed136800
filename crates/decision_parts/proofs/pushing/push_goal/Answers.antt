use Rattle.std.proofs.Common.{◌≡◌, ◌+◌, [], ◌∷◌, None, rules}
use Rattle.soar_sym.specs.Letters.{last_of}
use Rattle.defs_soar.specs.Limits.{first_passed, identifiers_to}
use Rattle.decision_parts.proofs.PushedLemmas.{IsPush, has_pushed, push_is_sound}
use Rattle.decision_parts.proofs.pushing.push_goal.Goals as goal

pub returns-clause-pushes : goal.returns-clause-pushes
returns-clause-pushes c =
    let a = c.args.parts.now in
    let within : first_passed (identifiers_to (last_of a.letters 83 + 1) ∷ []) ≡ None = search rules in
    let push : IsPush a c.args.why c.args.items c.in-Ok.goal c.push.new.self c.next.new.self c.push-2.new.self = record {
      id_is = c.in-Ok.ensures.given.0;
      goals_are = c.in-Ok-push.ensures.ok;
      letters_are = c.in-Ok.ensures.given.1;
      depends_are = c.in_ok-push.ensures;
    } in
    has_pushed c.dependencies_grow.ensures.nothing a c.args.why c.args.items c.in-Ok.goal c.push.new.self c.next.new.self c.push-2.new.self c.requires.sound within push

pub returns-clause-sound : goal.returns-clause-sound
returns-clause-sound c =
    let a = c.args.parts.now in
    let push : IsPush a c.args.why c.args.items c.in-Ok.goal c.push.new.self c.next.new.self c.push-2.new.self = record {
      id_is = c.in-Ok.ensures.given.0;
      goals_are = c.in-Ok-push.ensures.ok;
      letters_are = c.in-Ok.ensures.given.1;
      depends_are = c.in_ok-push.ensures;
    } in
    push_is_sound a c.args.why c.args.items c.in-Ok.goal c.push.new.self c.next.new.self c.push-2.new.self c.requires.sound c.requires.room c.requires.known push
