use Rattle.std.proofs.Common.{◌∙◌, ℕ, List, OnOk, sym, subst}
use Rattle.std.proofs.lemmas.Result.{on_ok_weaker}
use Rattle.defs_match.specs.Rules.{rule_seen}
use Rattle.defs_run.specs.Listing.{no_matches}
use Rattle.session_parts.specs.Saying.{Says}
use Rattle.list_parts.proofs.MatchLemmas.{lines_of_agent, no_lines, one_line, some_lines}
use Rattle.list_parts.proofs.matches.list_matches_of.Goals as goal

pub returns-then-has_match-clause-ok : goal.returns-then-has_match-clause-ok
returns-then-has_match-clause-ok c =
    subst (λ (lines : List (List ℕ)). OnOk c.list_found.result (Says lines c.args.mid_line.now c.args.out.now c.list_found.new.mid_line c.list_found.new.out))
    (sym (some_lines c.args.table.now (rule_seen c.args.rule.now) c.args.instances.now (sym c.has_match.ensures ∙ c.if-has_match.true)))
    c.list_found.ensures.ok

pub returns-then-has_match-clause-of_agent : goal.returns-then-has_match-clause-of_agent
returns-then-has_match-clause-of_agent c = λ a. lines_of_agent a c.args.table.now (rule_seen c.args.rule.now) c.args.instances.now

pub returns-else-has_match-clause-ok : goal.returns-else-has_match-clause-ok
returns-else-has_match-clause-ok c =
    subst (λ (lines : List (List ℕ)). OnOk c.say_line.result (Says lines c.args.mid_line.now c.args.out.now c.say_line.new.mid_line c.say_line.new.out))
    (sym (no_lines c.args.table.now (rule_seen c.args.rule.now) c.args.instances.now (sym c.has_match.ensures ∙ c.if-has_match.false)))
    (on_ok_weaker c.say_line.result (one_line no_matches c.args.mid_line.now c.say_line.new.mid_line c.args.out.now c.say_line.new.out) c.say_line.ensures.ok)

pub returns-else-has_match-clause-of_agent : goal.returns-else-has_match-clause-of_agent
returns-else-has_match-clause-of_agent c = λ a. lines_of_agent a c.args.table.now (rule_seen c.args.rule.now) c.args.instances.now
