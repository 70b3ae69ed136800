use Rattle.std.proofs.Common.{◌∙◌, ℕ, List, OnOk, sym, subst, map}
use Rattle.std.specs.Prelude.{codes}
use Rattle.std.proofs.lemmas.Result.{on_ok_weaker}
use Rattle.defs_match.specs.Rules.{rule_seen}
use Rattle.session_parts.specs.Saying.{Says}
use Rattle.list_parts.proofs.ChunkLemmas.{no_lines, some_lines}
use Rattle.list_parts.proofs.MatchLemmas.{one_line}
use Rattle.list_parts.proofs.chunks.list_chunks.Goals as goal

pub returns-then-has_chunk-clause-ok : goal.returns-then-has_chunk-clause-ok
returns-then-has_chunk-clause-ok c =
    subst (λ (lines : List (List ℕ)). OnOk c.list_found.result (Says lines c.args.mid_line.now c.args.out.now c.list_found.new.mid_line c.list_found.new.out))
    (sym (some_lines c.args.table.now (map rule_seen c.args.rules.now) (sym c.has_chunk.ensures ∙ c.if-has_chunk.true)))
    c.list_found.ensures.ok

pub returns-else-has_chunk-clause-ok : goal.returns-else-has_chunk-clause-ok
returns-else-has_chunk-clause-ok c =
    subst (λ (lines : List (List ℕ)). OnOk c.say_line.result (Says lines c.args.mid_line.now c.args.out.now c.say_line.new.mid_line c.say_line.new.out))
    (sym (no_lines c.args.table.now (map rule_seen c.args.rules.now) (sym c.has_chunk.ensures ∙ c.if-has_chunk.false)))
    (on_ok_weaker c.say_line.result (one_line (codes "no chunks") c.args.mid_line.now c.say_line.new.mid_line c.args.out.now c.say_line.new.out) c.say_line.ensures.ok)
