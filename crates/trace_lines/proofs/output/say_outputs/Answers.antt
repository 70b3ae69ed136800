use Rattle.std.proofs.Common.{◌∙◌, ◌++◌, [], ℕ, List, map, ap, subst}
use Rattle.defs_soar.specs.Events.{shows, shows_no_longer}
use Rattle.trace_lines.specs.Saying.{SaysLines}
use Rattle.trace_lines.proofs.SayingLemmas.{says_behind}
use Rattle.trace_lines.proofs.output.say_outputs.Goals as goal

pub returns-clause-ok : goal.returns-clause-ok
returns-clause-ok c =
    let both = says_behind c.args.table.now (map shows_no_longer c.args.gone.now) (map shows c.args.new.now)
    c.args.mid_line.now c.say_each.new.mid_line c.say_each-2.new.mid_line [] c.say_each.new.out c.say_each-2.new.out
    (subst (λ (text : List ℕ). SaysLines c.args.table.now (map shows_no_longer c.args.gone.now) c.args.mid_line.now text c.say_each.new.mid_line c.say_each.new.out) c.new-said.ensures c.in_ok-say_each.ensures)
    c.in_ok-say_each-2.ensures in
    (c.in_ok-push_str.ensures.ok ∙ ap (λ (text : List ℕ). c.args.out.now ++ text) (c.as_str.ensures ∙ both.0), both.1)
