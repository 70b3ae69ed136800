use Rattle.std.proofs.Common.{◌∙◌, ap, map, filter, Result, Ok, Err, IfOk}
use Rattle.node_agenda.specs.declared.turns.TurnKey.{TurnKey}
use Rattle.node_agenda.specs.Turns.{is_under}
use Rattle.node_agenda.proofs.TurnLemmas.{run_under, turns_found}
use Rattle.node_agenda.proofs.turns.TurnIndex.under.Goals as goal

pub returns : goal.returns
returns c =
    both (λ v run ordered.
    run ∙ ap (map (λ e. e.0.turn)) (run_under c.args.number c.self.inside.keys.entries ordered) ∙ turns_found (is_under c.args.number) c.self.inside.keys.entries
    ∙ ap (λ ks. map (λ (k : TurnKey). k.turn) (filter (is_under c.args.number) ks)) c.self.view_is) c.run_of.result c.run_of.ensures.run c.run_of.ensures.ordered
  where
    both : {T E : Type 0} {P Q R : T → Type 0} → ((x : T) → P x → Q x → R x) → (r : Result T E) → IfOk r P → IfOk r Q → IfOk r R
    both f (Ok x) p q = f x p q
    both f (Err e) p q = tt
