use Rattle.std.proofs.Common.{◌≡◌, false, ap, map, subst, sym, ◌∙◌}
use Rattle.std.specs.List.{list_any}
use Rattle.soar_rule.specs.Productions.{production_seen}
use Rattle.defs_match.specs.Contents.{IsNewRule, is_numbered, with_rule}
use Rattle.defs_match.specs.Rules.{rule_seen}
use Rattle.defs_match.specs.declared.rule.Rule.{Rule}
use Rattle.defs_soar.specs.Agents.{Agent}
use Rattle.rule_shelf.specs.Shelf.{AreBelow}
use Rattle.decision_parts.specs.Lawful.{IsOfLawful}
use Rattle.decision_parts.specs.Seen.{IsSound, Stepped}
use Rattle.decision_parts.specs.Stands.{Stands}
use Rattle.decision_parts.specs.Parts.{Parts as PartsKept}
use Rattle.cycle_parts.specs.Calls.{load_step}
use Rattle.cycle_parts.proofs.ExcisedLemmas.{elements_stay, told_stays}
use Rattle.cycle_parts.proofs.LawfulLemmas.{lawful_loaded}
use Rattle.cycle_parts.proofs.LoadLemmas.{joins_last, loaded_from, loads, more_rules, number_is_last, number_is_new}
use Rattle.cycle_parts.proofs.SoundLemmas.{sound_loaded}
use Rattle.cycle_parts.proofs.engine.Engine.load.Goals as goal

pub rule_comes-requires : goal.rule_comes-requires
rule_comes-requires g c =
    let number = c.in_ok-number.number in
    record {
      new = λ _. subst (λ (rule : Rule). IsNewRule (g.M.Matcher.rules c.drop_named.new.matcher) (rule_seen rule)) (sym c.in_ok-rule.ensures)
          (record {
            new_number = subst (λ rules. list_any (is_numbered number) rules ≡ false) (sym c.drop_named.ensures.held)
                (number_is_new c.args.self.now.parts c.drop_named.new.parts.rules c.args.production.name number c.requires.sound c.drop_named.ensures.dropped.rules_are c.in_ok-number.ensures.count.0);
            matchable = c.requires.matchable;
          });
    }

pub push-requires : goal.push-requires
push-requires g c =
    subst (λ (rule : Rule). AreBelow rule.number (map rule_seen c.drop_named.new.parts.rules)) (sym c.in_ok-rule.ensures)
    (number_is_last c.args.self.now.parts c.drop_named.new.parts.rules c.args.production.name c.in_ok-number.number c.requires.sound c.drop_named.ensures.dropped.rules_are c.in_ok-number.ensures.count.0)

pub returns-clause-step : goal.returns-clause-step
returns-clause-step g c =
    let production = c.args.production in
    let number = c.in_ok-number.number in
    let a = c.args.self.now.parts in
    let dropped = c.drop_named.new.parts in
    subst (λ (p : PartsKept). (s : Agent) → Stands a s → Stepped p (load_step (production_seen production) s)) (sym (loaded_from a dropped production.name c.push.new.self number c.drop_named.ensures.dropped))
    (loads a c.push.new.self number dropped.chains (production_seen production) c.in_ok-number.ensures.count
    (more_rules dropped.rules c.push.new.self (record { number = number; production = production }) _ c.drop_named.ensures.dropped.rules_are (rw c.in_ok-rule.ensures at c.in_ok-push.ensures.ok)) c.drop_named.ensures.dropped.chains_are)

pub returns-clause-sound : goal.returns-clause-sound
returns-clause-sound g c =
    let a = c.args.self.now.parts in
    let number = c.in_ok-number.number in
    let production = c.args.production in
    let dropped = c.drop_named.new.parts in
    subst IsSound (sym (loaded_from a dropped production.name c.push.new.self number c.drop_named.ensures.dropped))
    (sound_loaded a c.push.new.self number dropped.chains (production_seen production) c.requires.sound c.requires.known c.in_ok-number.ensures.count.0
    (more_rules dropped.rules c.push.new.self (record { number = number; production = production }) _ c.drop_named.ensures.dropped.rules_are (rw c.in_ok-rule.ensures at c.in_ok-push.ensures.ok)) c.drop_named.ensures.dropped.chains_are)

pub returns-clause-lawful : goal.returns-clause-lawful
returns-clause-lawful g c =
    let production = c.args.production in
    let number = c.in_ok-number.number in
    let a = c.args.self.now.parts in
    let dropped = c.drop_named.new.parts in
    subst IsOfLawful (sym (loaded_from a dropped production.name c.push.new.self number c.drop_named.ensures.dropped))
    (lawful_loaded a _ (production_seen production) c.requires.lawful c.requires.may_be_loaded
    (loads a c.push.new.self number dropped.chains (production_seen production) c.in_ok-number.ensures.count
    (more_rules dropped.rules c.push.new.self (record { number = number; production = production }) _ c.drop_named.ensures.dropped.rules_are (rw c.in_ok-rule.ensures at c.in_ok-push.ensures.ok)) c.drop_named.ensures.dropped.chains_are))

pub returns-clause-bond : goal.returns-clause-bond
returns-clause-bond g c =
    let rule : Rule = record { number = c.in_ok-number.number; production = c.args.production } in
    let a = c.args.self.now.parts in
    let dropped = c.drop_named.new.parts in
    record {
      works = c.in_ok-rule_comes.ensures.works.works;
      rules_are = (rw c.in_ok-rule.ensures at c.in_ok-rule_comes.ensures.rules) ∙ ap (λ rules. with_rule rules (rule_seen rule)) c.drop_named.ensures.held
          ∙ joins_last a dropped.rules c.push.new.self rule c.args.production.name c.requires.sound c.drop_named.ensures.dropped.rules_are c.in_ok-number.ensures.count.0 (rw c.in_ok-rule.ensures at c.in_ok-push.ensures.ok);
      elements_are = c.in_ok-rule_comes.ensures.elements ∙ c.drop_named.ensures.elements ∙ c.requires.bond.elements_are ∙ elements_stay a dropped c.args.production.name c.drop_named.ensures.dropped;
      known = subst (g.M.Outstanding.knows c.rule_comes.new.self) (told_stays a dropped c.args.production.name c.drop_named.ensures.dropped)
          (c.in_ok-rule_comes.ensures.knows a.live.told (c.drop_named.ensures.knows a.live.told c.requires.bond.known));
    }
