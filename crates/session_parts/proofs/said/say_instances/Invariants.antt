use Rattle.std.proofs.Common.{◌≡◌, ◌++◌, map, drop}
use Rattle.defs_match.specs.Rules.{rule_seen}
use Rattle.defs_soar.specs.Trace.{rendered}
use Rattle.defs_run.specs.Sessions.{as_lines}
use Rattle.session_parts.specs.Saying.{instance_line}
use Rattle.session_parts.proofs.said.say_instances.Given as goal

abbrev pub invariant-instances : goal.invariant-instances
invariant-instances l = record {
  text : l.out ++ (rendered 1 l.mid_line (as_lines (map (instance_line l.table (map rule_seen l.rules)) (drop l.instance-index l.instances)))).text
      ≡ l.initial.out ++ (rendered 1 l.initial.mid_line (as_lines (map (instance_line l.table (map rule_seen l.rules)) l.instances))).text;
  mid_line : (rendered 1 l.mid_line (as_lines (map (instance_line l.table (map rule_seen l.rules)) (drop l.instance-index l.instances)))).mid_line
      ≡ (rendered 1 l.initial.mid_line (as_lines (map (instance_line l.table (map rule_seen l.rules)) l.instances))).mid_line;
}
