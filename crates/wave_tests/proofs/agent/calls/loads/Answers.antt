use Rattle.std.proofs.Common.{ap}
use Rattle.soar_rule.specs.Productions.{ProductionOf, production_seen}
use Rattle.defs_soar.specs.Pending.{is_justification}
use Rattle.wave_tests.proofs.IdleLemmas.{idle_can_be_matched, idle_known, idle_may_be_loaded}
use Rattle.wave_tests.proofs.agent.calls.loads.Goals as goal

pub load-requires-clause-known : goal.load-requires-clause-known
load-requires-clause-known c = λ standing. idle_known _ (production_seen c.in_ok-production.field-0) c.in_ok-production.ensures (c.requires standing).0.first_words

pub load-requires-clause-matchable : goal.load-requires-clause-matchable
load-requires-clause-matchable c = idle_can_be_matched (production_seen c.in_ok-production.field-0) c.in_ok-production.ensures

pub load-requires-clause-may_be_loaded : goal.load-requires-clause-may_be_loaded
load-requires-clause-may_be_loaded c = λ standing. idle_may_be_loaded _ (production_seen c.in_ok-production.field-0) c.in_ok-production.ensures (c.requires standing).0.first_words

pub load-requires-clause-unlearned : goal.load-requires-clause-unlearned
load-requires-clause-unlearned c = ap (λ (p : ProductionOf). is_justification p.kind) c.in_ok-production.ensures
