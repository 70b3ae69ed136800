use Rattle.std.proofs.Common.{◌≡◌, ◌==◌, filter}
use Rattle.pending_work.proofs.active.firings_at.Given as goal

abbrev pub invariant-gone : goal.invariant-gone
invariant-gone l = l.at ≡ filter (λ g. g.depth == l.level) l.yielded
