use Rattle.std.proofs.Common.{◌∙◌, ◌++◌, ap, Result, Ok, Err, OnOk}
use Rattle.node_memory.proofs.BelowLemmas.{below_run}
use Rattle.join_parts.proofs.serve.add_below_all.Goals as goal

pub returns : goal.returns
returns c = both (λ run ordered. run ∙ ap (λ ts. c.args.out.now.items ++ ts) (below_run c.args.front.now c.args.rows.now.entries ordered)) c.add_below.result c.add_below.ensures.run c.add_below.ensures.ordered
  where
    both : {T E P Q R : Type 0} → (P → Q → R) → (r : Result T E) → OnOk r P → OnOk r Q → OnOk r R
    both f (Ok x) p q = f p q
    both f (Err e) p q = tt
