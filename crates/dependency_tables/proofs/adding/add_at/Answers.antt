use Rattle.std.proofs.Common.{rules, sym}
use Rattle.dependency_tables.proofs.PlaceLemmas.{past_all, set_more, where_ok}
use Rattle.dependency_tables.proofs.adding.add_at.Goals as goal

pub returns-in-Some : goal.returns-in-Some
returns-in-Some c = where_ok c.add_tags.result (set_more c.args.place _ c.args.tables.now.items c.in-Some.table.now c.add_tags.new.table c.in-Some.ensures.value) c.add_tags.ensures

pub returns-in-None : goal.returns-in-None
returns-in-None c = sym (past_all c.args.place _ c.args.tables.now.items (search rules))
