use Rattle.std.proofs.Common.{◌≡◌, ◌++◌, map}
use Rattle.defs_match.specs.Rules.{rule_seen}
use Rattle.defs_soar.specs.Trace.{rendered}
use Rattle.defs_run.specs.Sessions.{as_lines}
use Rattle.soar_settle.specs.Known.{AreRulesKnown}
use Rattle.list_parts.specs.Lists.{chunk_texts}
use Rattle.list_parts.proofs.chunks.say_chunks.Given as goal

abbrev pub invariant-rules : goal.invariant-rules
invariant-rules l = record {
  known : AreRulesKnown l.table (map rule_seen l.rule-iterator);
  text : l.out ++ (rendered 1 l.mid_line (as_lines (chunk_texts l.table (map rule_seen l.rule-iterator)))).text
      ≡ l.initial.out ++ (rendered 1 l.initial.mid_line (as_lines (chunk_texts l.table (map rule_seen l.rules)))).text;
  mid_line : (rendered 1 l.mid_line (as_lines (chunk_texts l.table (map rule_seen l.rule-iterator)))).mid_line
      ≡ (rendered 1 l.initial.mid_line (as_lines (chunk_texts l.table (map rule_seen l.rules)))).mid_line;
}
