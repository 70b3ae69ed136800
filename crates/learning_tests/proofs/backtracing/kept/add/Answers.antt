use Rattle.std.proofs.Common.{◌≡◌, ◌∙◌, ap, sym, subst, flat_map, List, nat_lt, true, arith}
use Rattle.std.specs.List.{list_all}
use Rattle.defs_soar.specs.declared.firing.Used.{Used}
use Rattle.defs_soar.specs.Explanation.{maker_named}
use Rattle.defs_soar.specs.History.{firing_seen, FiringOf}
use Rattle.chunk_back.specs.Makers.{MakersAreEarlier}
use Rattle.soar_record.specs.Recorded.{recorded}
use Rattle.learning_tests.proofs.KeptLemmas.{earlier_more}
use Rattle.learning_tests.proofs.backtracing.kept.add.Goals as goal

pub returns-in_err-add : goal.returns-in_err-add
returns-in_err-add c = subst MakersAreEarlier (ap recorded (sym c.in_err-add.ensures.err)) c.requires

pub returns : goal.returns
returns c =
    let less : list_all (λ n. nat_lt n c.args.number) (flat_map maker_named c.args.used.now) ≡ true = sym c.are_earlier.ensures ∙ (grind (arith, c.if-not-are_earlier.false)) in
    let own : list_all (λ n. nat_lt n c.in_ok-firing.firing.number) (flat_map maker_named c.in_ok-firing.firing.used) ≡ true =
    ap (λ (used : List Used). list_all (λ n. nat_lt n c.in_ok-firing.firing.number) (flat_map maker_named used)) c.in_ok-firing.ensures.used
    ∙ ap (λ number. list_all (λ n. nat_lt n number) (flat_map maker_named c.args.used.now)) c.in_ok-firing.ensures.number ∙ less in
    subst MakersAreEarlier (sym (rw c.in_ok-new.ensures at c.in_ok-add.ensures.recorded)) (earlier_more (recorded c.args.kept.now) (firing_seen c.in_ok-firing.firing) c.requires own)
