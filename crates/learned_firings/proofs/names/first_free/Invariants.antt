use Rattle.std.proofs.Common.{◌≡◌, ◌-◌, length, map}
use Rattle.defs_match.specs.Rules.{rule_seen}
use Rattle.defs_soar.specs.LearnedRules.{free_number}
use Rattle.learned_firings.proofs.names.first_free.Given as goal

abbrev pub invariant-tries : goal.invariant-tries
invariant-tries l = record {
  table : l.table ≡ l.initial.table;
  number :
      free_number (l.end - l.counter) l.initial.table (map rule_seen l.rules) l.front l.number ≡ free_number (length l.rules) l.initial.table (map rule_seen l.rules) l.front l.first;
}
