use Rattle.std.proofs.Common.{◌≡◌, ◌∙◌, [], sym, ap, subst}
use Rattle.matching_laws.specs.Telling.{AreRemovable}
use Rattle.soar_settle.specs.Tagging.{without_each}
use Rattle.cycle_parts.proofs.TellingLemmas.{all_removable, none_left, starts_insertable, starts_whole}
use Rattle.cycle_parts.proofs.telling.tell_anew.Goals as goal

pub let_go-requires-clause-removable : goal.let_go-requires-clause-removable
let_go-requires-clause-removable g c = subst (λ held. AreRemovable held c.args.gone.now) (sym c.requires.held) (all_removable c.args.gone.now)

pub take_in-requires-clause-insertable : goal.take_in-requires-clause-insertable
take_in-requires-clause-insertable g c =
    let none : g.M.Matcher.elements c.let_go.new.matcher ≡ [] = c.in_ok-let_go.ensures.elements ∙ ap (λ held. without_each held c.args.gone.now) c.requires.held ∙ none_left c.args.gone.now in
    starts_insertable (g.M.Matcher.elements c.let_go.new.matcher) c.args.first.now none c.requires.first

pub returns-clause-elements : goal.returns-clause-elements
returns-clause-elements g c =
    let none : g.M.Matcher.elements c.let_go.new.matcher ≡ [] = c.in_ok-let_go.ensures.elements ∙ ap (λ held. without_each held c.args.gone.now) c.requires.held ∙ none_left c.args.gone.now in
    c.in_ok-take_in.ensures.elements ∙ starts_whole (g.M.Matcher.elements c.let_go.new.matcher) c.args.first.now none c.requires.first
