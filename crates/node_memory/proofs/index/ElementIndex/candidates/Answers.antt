use Rattle.std.proofs.Common.{◌∙◌, ap, filter, Result, Ok, Err, IfOk}
use Rattle.node_memory.specs.Entries.{elements_in}
use Rattle.node_memory.specs.Keys.{value_beside, meets, key_meets, entries_from, least_key}
use Rattle.node_memory.specs.Runs.{front_while}
use Rattle.node_memory.proofs.KeyLemmas.{run_of_id}
use Rattle.node_memory.proofs.IndexLemmas.{found_meets}
use Rattle.node_memory.proofs.index.ElementIndex.candidates.Goals as goal

pub returns : goal.returns
returns c =
    let es = c.self.inside.by_key.entries in
    both (λ v run ordered.
    run ∙ ap (λ w. elements_in (front_while (λ e. key_meets c.args.id c.args.attr w e.0) (entries_from (least_key c.args.id c.args.attr w) es))) c.value_beside-value.ensures ∙ ap elements_in (run_of_id c.args.id c.args.attr c.args.value es ordered) ∙ found_meets c.args.id c.args.attr (value_beside c.args.attr c.args.value) es
    ∙ ap (filter (meets c.args.id c.args.attr (value_beside c.args.attr c.args.value))) c.self.view_is) c.run_of.result c.run_of.ensures.run c.run_of.ensures.ordered
  where
    both : {T E : Type 0} {P Q R : T → Type 0} → ((x : T) → P x → Q x → R x) → (r : Result T E) → IfOk r P → IfOk r Q → IfOk r R
    both f (Ok x) p q = f x p q
    both f (Err e) p q = tt
