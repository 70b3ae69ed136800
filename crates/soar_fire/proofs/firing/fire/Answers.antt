use Rattle.std.proofs.Common.{map, ap, sym, subst}
use Rattle.soar_rule.specs.Productions.{action_seen, production_seen}
use Rattle.defs_match.specs.Rules.{rule_seen}
use Rattle.soar_fire.specs.Known.{Knows, bound_symbols, constants_of_actions}
use Rattle.soar_fire.specs.Outcomes.{Standing, standing, Finds}
use Rattle.soar_fire.proofs.BindingLemmas.{knows_paired}
use Rattle.soar_fire.proofs.FiringLemmas.{fires, rule_constants, same_start}
use Rattle.soar_fire.proofs.GrowthLemmas.{no_shorter}
use Rattle.soar_fire.proofs.firing.fire.Goals as goal

pub made_of-requires-clause-bound : goal.made_of-requires-clause-bound
made_of-requires-clause-bound c =
    let h = rw (c.as_slice.ensures, c.as_slice-2.ensures, c.deref-production.ensures) at c.in_ok-bindings.ensures in
    subst (λ bindings. Knows c.args.table.now (bound_symbols bindings)) (sym h) (knows_paired _ _ _ c.requires.known.instance_known)

pub made_of-requires-clause-constants : goal.made_of-requires-clause-constants
made_of-requires-clause-constants c =
    subst (λ actions. Knows c.args.table.now (constants_of_actions (map action_seen actions))) (sym (rw c.deref-production.ensures at c.as_slice-actions.ensures))
    (rule_constants c.args.table.now (production_seen c.args.rule.now.production) c.requires.known.rule_known)

pub returns-clause-answer : goal.returns-clause-answer
returns-clause-answer c =
    let after : Standing = standing c.made_of.new.bindings.items c.made_of.new.table c.made_of.new.letters in
    let rule = rule_seen c.args.rule.now in
    fires c.args.table.now c.args.letters.now c.args.goals.now rule c.args.instance.now after c.made_of.result
    (subst (λ o. Finds o after c.made_of.result)
    (same_start c.args.table.now c.args.letters.now c.args.goals.now c.as_slice-4.result.now rule c.args.instance.now c.as_slice-3.result.now (map action_seen c.as_slice-actions.result.now) c.in_ok-bindings.bindings.items
    (rw c.deref-production.ensures at c.as_slice-3.ensures) c.as_slice-4.ensures (ap (map action_seen) (rw c.deref-production.ensures at c.as_slice-actions.ensures)) (rw (c.as_slice.ensures, c.as_slice-2.ensures, c.deref-production.ensures) at c.in_ok-bindings.ensures))
    c.made_of.ensures.answer)

pub returns-clause-words : goal.returns-clause-words
returns-clause-words c = c.made_of.ensures.gains.words_grow.grown

pub returns-clause-letters : goal.returns-clause-letters
returns-clause-letters c = c.made_of.ensures.gains.letters_rise.kept

pub returns-clause-grown : goal.returns-clause-grown
returns-clause-grown c = no_shorter _ _ c.made_of.ensures.gains.words_grow
