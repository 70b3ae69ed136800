use Rattle.std.proofs.Common.{◌≡◌, map, drop}
use Rattle.pending_work.specs.Active.{least_from}
use Rattle.pending_work.proofs.active.least_of_gone.Given as goal

abbrev pub invariant-gone : goal.invariant-gone
invariant-gone l = least_from l.least (map (λ g. g.depth) (drop l.one-index l.gone)) ≡ least_from l.initial.least (map (λ g. g.depth) l.gone)
