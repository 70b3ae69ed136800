use Rattle.std.proofs.Common.{◌≡◌, ◌∙◌, ◌&&◌, not, List, map, sym, ap, subst}
use Rattle.std.specs.Result.{IfOk}
use Rattle.soar_sym.specs.declared.symbol.Triple.{Triple}
use Rattle.soar_wm.specs.declared.element.Element.{Element}
use Rattle.soar_wm.specs.WorkingMemory.{triple_of}
use Rattle.defs_soar.specs.declared.goal.Goal.{Goal}
use Rattle.defs_soar.specs.Architecture.{output_identifier}
use Rattle.defs_soar.specs.Goals.{goal_ids, is_goal}
use Rattle.defs_soar.specs.Levels.{reached_from}
use Rattle.defs_soar.specs.Sorted.{has_symbol}
use Rattle.level_graph.specs.Marks.{has_mark}
use Rattle.output_link.specs.Walking.{shown, tagged, Tells}
use Rattle.output_link.proofs.KnownLemmas.{known_answer, known_shown}
use Rattle.output_link.proofs.TagLemmas.{untagged}
use Rattle.output_link.proofs.shown.output_of.Goals as goal

-- the elements that are shown, under these goals
abbrev shown_of : List Goal → List Element → List Element
shown_of goals elements = shown (has_symbol (reached_from (goal_ids goals) (map triple_of elements) output_identifier)) (has_symbol (goal_ids goals)) elements

pub returns-clause-shown : goal.returns-clause-shown
returns-clause-shown c = λ a goals elements.
    let tells : Tells (has_mark c.in_ok-ids.ids) (goal_ids a.holding.goals) = λ s. c.in_ok-ids.ensures s ∙ ap (λ g. is_goal g s) (c.as_slice.ensures ∙ sym goals) in
    let kept : c.in_ok-kept.kept.entries ≡ tagged (shown_of a.holding.goals a.holding.elements) = c.in_ok-kept.ensures (goal_ids a.holding.goals) tells ∙ ap (λ l. tagged (shown_of a.holding.goals l)) (sym elements) in
    let triples = ap (map (λ e. e.1)) kept ∙ untagged (shown_of a.holding.goals a.holding.elements) in
    subst (λ (l : List Triple). IfOk c.triples_of.result (λ out. out ≡ l)) triples c.triples_of.ensures

pub returns-clause-known : goal.returns-clause-known
returns-clause-known c = λ words known.
    let goals = c.args.goals.now in
    let elements = c.args.memory.now.elements in
    let tells : Tells (has_mark c.in_ok-ids.ids) (goal_ids goals) = λ s. c.in_ok-ids.ensures s ∙ ap (λ g. is_goal g s) c.as_slice.ensures in
    let triples = ap (map (λ e. e.1)) (c.in_ok-kept.ensures (goal_ids goals) tells) ∙ untagged (shown_of goals elements) in
    let answer = subst (λ (l : List Triple). IfOk c.triples_of.result (λ out. out ≡ l)) triples c.triples_of.ensures in
    known_answer words c.triples_of.result (map triple_of (shown_of goals elements)) answer
    (known_shown words (λ e. has_symbol (reached_from (goal_ids goals) (map triple_of elements) output_identifier) e.id && not (has_symbol (goal_ids goals) e.id)) elements known)
