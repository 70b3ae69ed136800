use Rattle.std.proofs.Common.{◌≡◌, ◌∙◌, map, Err, sym, ap, subst}
use Rattle.std.proofs.lemmas.Result.{err_from_is_err_and}
use Rattle.defs_match.specs.Rules.{rule_seen}
use Rattle.matching_laws.specs.Telling.{with_each}
use Rattle.soar_settle.specs.Tagging.{without_each}
use Rattle.decision_parts.specs.Carrying.{CarriesOut}
use Rattle.cycle_parts.specs.Retelling.{AreHeld, without_each_rule}
use Rattle.cycle_parts.proofs.RetellingLemmas.{all_are_told, spent_are_held, taught_are_new}
use Rattle.cycle_parts.proofs.engine.Engine.carry_out.Goals as goal

pub returns-in_err-done-clause-wave : goal.returns-in_err-done-clause-wave
returns-in_err-done-clause-wave g c =
    let p = err_from_is_err_and c.from_residual.result c.from_residual.ensures.1 in
    subst (CarriesOut c.args.self.now.parts c.carry_out.new.self c.args.work) (sym (p.1 ∙ ap Err p.2)) c.in_err-done.ensures.wave

pub forget-requires-clause-held : goal.forget-requires-clause-held
forget-requires-clause-held g c =
    let old = c.args.self.now.parts in
    let spent = c.in_ok-done.done.spent in
    let rules : g.M.Matcher.rules c.tell.new.matcher ≡ map rule_seen old.rules = c.in_ok-tell.ensures.rules ∙ c.requires.bond.rules_are in
    rw c.as_slice.ensures
    (subst (λ held. AreHeld held spent) (sym rules) (spent_are_held spent (map rule_seen old.rules) c.requires.sound.numbered c.in_ok-done.ensures.rules.spent_are))

pub take_up-requires-clause-new : goal.take_up-requires-clause-new
take_up-requires-clause-new g c =
    let old = c.args.self.now.parts in
    let new = c.carry_out.new.self in
    let spent = c.in_ok-done.done.spent in
    let rules : g.M.Matcher.rules c.tell.new.matcher ≡ map rule_seen old.rules = c.in_ok-tell.ensures.rules ∙ c.requires.bond.rules_are in
    let held : g.M.Matcher.rules c.forget.new.matcher ≡ without_each_rule (map rule_seen old.rules) spent =
    c.forget.ensures.rules ∙ ap (without_each_rule (g.M.Matcher.rules c.tell.new.matcher)) c.as_slice.ensures ∙ ap (λ held. without_each_rule held spent) rules in
    taught_are_new old new spent (g.M.Matcher.rules c.forget.new.matcher) c.requires.sound c.in_ok-done.ensures.rules held

pub returns-clause-bond : goal.returns-clause-bond
returns-clause-bond g c =
    let old = c.args.self.now.parts in
    let new = c.carry_out.new.self in
    let spent = c.in_ok-done.done.spent in
    let rules : g.M.Matcher.rules c.tell.new.matcher ≡ map rule_seen old.rules = c.in_ok-tell.ensures.rules ∙ c.requires.bond.rules_are in
    let held : g.M.Matcher.rules c.forget.new.matcher ≡ without_each_rule (map rule_seen old.rules) spent =
    c.forget.ensures.rules ∙ ap (without_each_rule (g.M.Matcher.rules c.tell.new.matcher)) c.as_slice.ensures ∙ ap (λ held. without_each_rule held spent) rules in
    let changes = c.in_ok-done.done.report.settled.changes in
    record {
      works = c.in_ok-take_up.ensures.works;
      rules_are = c.in_ok-take_up.ensures.rules
          ∙ all_are_told old new spent (g.M.Matcher.rules c.forget.new.matcher) c.requires.sound c.in_ok-done.ensures.rules held;
      elements_are = c.in_ok-take_up.ensures.elements ∙ c.forget.ensures.elements ∙ c.in_ok-tell.ensures.elements
          ∙ ap (λ elements. with_each (without_each elements changes.gone) changes.new) c.requires.bond.elements_are ∙ c.in_ok-done.ensures.told.whole;
      known = subst (g.M.Outstanding.knows c.take_up.new.matcher) (sym c.carry_out.ensures.live)
          (c.in_ok-take_up.ensures.knows old.live.told (c.forget.ensures.knows old.live.told (c.in_ok-tell.ensures.knows old.live.told c.requires.bond.known)));
    }
