use Rattle.std.proofs.Common.{sym, subst, List, ℕ}
use Rattle.rete_alpha.specs.Alphas.{Accepts}
use Rattle.rete_beta.proofs.AgendaLemmas.{first_of}
use Rattle.rete_beta.proofs.changing.first_agenda.Goals as goal

pub returns : goal.returns
returns c =
    first_of c.args.alpha.now c.args.takers.now c.args.e.now c.as_slice.result.now c.add_all_under.new.agenda.keys c.new-agenda.result.keys
    (subst (λ (ns : List ℕ). Accepts c.args.alpha.now c.args.e.now ns) (sym c.as_slice.ensures) c.in_ok-numbers.ensures.accepts) c.new-agenda.ensures.empty c.in_ok-add_all_under.ensures
