use Rattle.std.proofs.Common.{◌∙◌, [], ap, List, map, ℕ}
use Rattle.soar_sym.specs.declared.symbol.Sym.{Sym}
use Rattle.soar_rule.specs.Variables.{bound_variables}
use Rattle.soar_wm.specs.declared.element.Element.{Element}
use Rattle.defs_match.specs.Conflict.{paired}
use Rattle.defs_match.specs.Rules.{rule_seen}
use Rattle.defs_soar.specs.Pending.{elements_of_tags}
use Rattle.defs_soar.specs.Support.{operator_kind as kind_of}
use Rattle.learned_firings.specs.Deciding.{deciding}
use Rattle.learned_firings.proofs.DecidingLemmas.{kind_told}
use Rattle.learned_firings.proofs.deciding.learned_kind.Goals as goal

pub returns : goal.returns
returns c =
    let memory = c.args.before.now.memory.now.elements in
    let goals = c.args.before.now.goals.now in
    let elements = c.args.elements.now in
    let production = (rule_seen c.args.rule.now).production in
    let variables = bound_variables production.conditions in
    c.operator_kind.ensures
    ∙ ap (λ (tags : List ℕ). kind_of goals (elements_of_tags memory tags) (paired variables c.in_ok-from_slice.field-0) production) c.in_ok-deciding_tags.ensures
    ∙ ap (λ (binds : List Sym). kind_of goals (elements_of_tags memory (map (λ (e : Element). e.tag) (deciding [] elements))) (paired variables binds) production) c.in_ok-from_slice.ensures
    ∙ kind_told elements memory c.requires.there goals (paired variables c.args.binds.now) production
