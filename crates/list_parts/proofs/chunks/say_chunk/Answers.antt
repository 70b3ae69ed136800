use Rattle.std.proofs.Common.{◌∙◌, List, ℕ, OnOk, sym, append-nil, refl, subst}
use Rattle.defs_match.specs.Rules.{RuleOf, rule_seen}
use Rattle.session_parts.specs.Saying.{Says}
use Rattle.list_parts.proofs.ChunkLemmas.{is_left, is_listed}
use Rattle.list_parts.proofs.chunks.say_chunk.Goals as goal

pub returns-then-is_chunk : goal.returns-then-is_chunk
returns-then-is_chunk c =
    let rule : RuleOf = rule_seen c.args.rule.now in
    subst (λ (lines : List (List ℕ)). OnOk c.say_production.result (Says lines c.args.mid_line.now c.args.out.now c.say_production.new.mid_line c.say_production.new.out))
    (sym (is_listed c.args.table.now rule (sym (rw c.deref.ensures at c.is_chunk.ensures) ∙ c.if-is_chunk.true)))
    (rw c.deref-then-is_chunk.ensures at c.say_production.ensures)

pub returns-else-is_chunk : goal.returns-else-is_chunk
returns-else-is_chunk c =
    let rule : RuleOf = rule_seen c.args.rule.now in
    subst (λ (lines : List (List ℕ)). Says lines c.args.mid_line.now c.args.out.now c.args.mid_line.now c.args.out.now)
    (sym (is_left c.args.table.now rule (sym (rw c.deref.ensures at c.is_chunk.ensures) ∙ c.if-is_chunk.false)))
    (sym (append-nil c.args.out.now), refl)
