use Rattle.std.proofs.Common.{◌≡◌, ◌++◌, map, drop}
use Rattle.defs_match.specs.Rules.{rule_seen}
use Rattle.defs_soar.specs.Trace.{rendered}
use Rattle.defs_run.specs.Sessions.{as_lines}
use Rattle.list_parts.specs.Matches.{match_line, matches_of}
use Rattle.list_parts.proofs.matches.say_matches.Given as goal

abbrev pub invariant-instances : goal.invariant-instances
invariant-instances l = record {
  text : l.out ++ (rendered 1 l.mid_line (as_lines (map (match_line l.table (rule_seen l.rule)) (matches_of l.rule.number (drop l.instance-index l.instances))))).text
      ≡ l.initial.out ++ (rendered 1 l.initial.mid_line (as_lines (map (match_line l.table (rule_seen l.rule)) (matches_of l.rule.number l.instances)))).text;
  mid_line : (rendered 1 l.mid_line (as_lines (map (match_line l.table (rule_seen l.rule)) (matches_of l.rule.number (drop l.instance-index l.instances))))).mid_line
      ≡ (rendered 1 l.initial.mid_line (as_lines (map (match_line l.table (rule_seen l.rule)) (matches_of l.rule.number l.instances)))).mid_line;
}
