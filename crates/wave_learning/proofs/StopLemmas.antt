-- Where the code ends at a limit, its steps end there.
use Rattle.std.proofs.Common.{◌≡◌, ◌<◌, ℕ, suc, List, [], ◌∷◌, length, drop, get_or, None, Err}
use Rattle.soar_sym.specs.Words.{Texts}
use Rattle.defs_soar.specs.WaveAtHand.{BeforeWave}
use Rattle.soar_settle.specs.declared.stop.Stop.{Stop}
use Rattle.soar_settle.specs.declared.stop.Stop.TheVariants as stop
use Rattle.defs_soar.specs.Limits.{counts_to, first_passed}
use Rattle.learned_firings.specs.Totals.{Reaches}
use Rattle.wave_learning.specs.Course.{Course, ExplainedBy, NewRuleOf, from_each, from_number, joined, learned, round_of, rounds_of, taught}
use Rattle.wave_learning.specs.Seen.{Leaves, MakesCandidate, NamesRule}
use Rattle.wave_learning.proofs.StepLemmas.{first_over, joins_over, learned_stops, second_over, stop_each, stop_round, taught_stops}

pub each_stops : (m : BeforeWave) (numbers : List ℕ) (i n z : ℕ) (c d last : Course) (e : Stop) → i < length numbers → n ≡ get_or numbers i z → Leaves (from_number m n c) d (Err e) → Leaves (from_each m (drop i numbers) c) last (Err e)
each_stops m numbers i n z c d last (stop.Limit limit) within at q = stop_each m numbers i n z c limit within at q
each_stops m numbers i n z c d last stop.NoMemory within at q = tt

pub round_stops : (m : BeforeWave) (k left : ℕ) (c d last : Course) (e : Stop) → k ≡ suc left → Leaves (round_of m c) d (Err e) → Leaves (rounds_of m k c) last (Err e)
round_stops m k left c d last (stop.Limit limit) is q = stop_round m k left c limit is q
round_stops m k left c d last stop.NoMemory is q = tt

pub taught_ends : (m : BeforeWave) (e : ExplainedBy) (c last : Course) (after : Texts) (end : Stop) → MakesCandidate c.words e.chain e.depth after (Err end) → Leaves (taught m e c) last (Err end)
taught_ends m e c last after (stop.Limit limit) q = taught_stops m e c limit q
taught_ends m e c last after stop.NoMemory q = tt

pub learned_ends : (m : BeforeWave) (e : ExplainedBy) (r : NewRuleOf) (c d last : Course) (end : Stop) → NamesRule r c d (Err end) → Leaves (learned m e r c) last (Err end)
learned_ends m e r c d last (stop.Limit limit) q = learned_stops m e r c limit q
learned_ends m e r c d last stop.NoMemory q = tt

-- at the number of the rule, and at that of its firing
pub rule_ends : (m : BeforeWave) (e : ExplainedBy) (r : NewRuleOf) (c last : Course) (end : Stop) → Reaches {A = ℕ} (counts_to (suc c.program.last_rule) ∷ []) (Err end) → Leaves (joined m e r c) last (Err end)
rule_ends m e r c last (stop.Limit limit) q = joins_over m e r c limit (first_over (counts_to (suc c.program.last_rule)) (counts_to (suc c.last)) limit q)
rule_ends m e r c last stop.NoMemory q = tt

pub firing_ends : (m : BeforeWave) (e : ExplainedBy) (r : NewRuleOf) (c last : Course) (end : Stop) → first_passed (counts_to (suc c.program.last_rule) ∷ []) ≡ None
    → Reaches {A = ℕ} (counts_to (suc c.last) ∷ []) (Err end) → Leaves (joined m e r c) last (Err end)
firing_ends m e r c last (stop.Limit limit) within q = joins_over m e r c limit (second_over (counts_to (suc c.program.last_rule)) (counts_to (suc c.last)) limit within q)
firing_ends m e r c last stop.NoMemory within q = tt
