use Rattle.std.proofs.Common.{◌∙◌, map, ap, refl, sym, subst}
use Rattle.defs_match.specs.Rules.{rule_seen}
use Rattle.cycle_parts.specs.Calls.{restart_step}
use Rattle.cycle_parts.specs.Retelling.{AreHeld, without_each_rule}
use Rattle.cycle_parts.proofs.LawfulLemmas.{lawful_restarted}
use Rattle.cycle_parts.proofs.RetellingLemmas.{spent_are_gone, spent_are_held}
use Rattle.cycle_parts.proofs.SteppingLemmas.{stepped_at}
use Rattle.cycle_parts.proofs.engine.Engine.restart.Goals as goal

pub forget-requires-clause-held : goal.forget-requires-clause-held
forget-requires-clause-held g c =
    let old = c.args.self.now.parts in
    let spent = c.in_ok-spent.spent in
    rw c.as_slice.ensures
    (subst (λ held. AreHeld held spent) (sym c.requires.bond.rules_are) (spent_are_held spent (map rule_seen old.rules) c.requires.sound.numbered c.in_ok-spent.ensures.spent.0))

pub returns-clause-step : goal.returns-clause-step
returns-clause-step g c s stands = stepped_at c.restart.new.self (restart_step s) refl (c.in_ok-spent.ensures.restarted s stands) refl

pub returns-clause-lawful : goal.returns-clause-lawful
returns-clause-lawful g c = lawful_restarted c.args.self.now.parts c.restart.new.self c.requires.lawful (returns-clause-step g c)

pub returns-clause-bond : goal.returns-clause-bond
returns-clause-bond g c =
    let old = c.args.self.now.parts in
    let spent = c.in_ok-spent.spent in
    record {
      works = c.in_ok-tell_anew.ensures.works;
      rules_are = c.in_ok-tell_anew.ensures.rules ∙ c.forget.ensures.rules
          ∙ ap (without_each_rule (g.M.Matcher.rules c.args.self.now.matcher)) c.as_slice.ensures
          ∙ ap (λ held. without_each_rule held spent) c.requires.bond.rules_are
          ∙ spent_are_gone spent (map rule_seen old.rules) c.requires.sound.numbered c.in_ok-spent.ensures.spent.0
          ∙ sym c.in_ok-spent.ensures.spent.1;
      elements_are = c.in_ok-tell_anew.ensures.elements ∙ c.as_slice-3.ensures ∙ c.in_ok-new.ensures.elements;
      known = subst (g.M.Outstanding.knows c.tell_anew.new.matcher) (sym c.restart.ensures.live)
          (c.in_ok-tell_anew.ensures.knows old.live.told (c.forget.ensures.knows old.live.told c.requires.bond.known));
    }
