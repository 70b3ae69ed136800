use Rattle.std.proofs.Common.{◌∙◌, sym, ap, subst}
use Rattle.soar_sym.specs.declared.symbol.Sym.TheVariants.{Word}
use Rattle.level_change.specs.declared.store.Store.{Store}
use Rattle.level_change.specs.Anew.{CanSpread}
use Rattle.level_change.specs.Forgetting.{has_had, and_had}
use Rattle.level_change.specs.Holds.{told_in}
use Rattle.level_change.specs.Links.{level_at, is_linked}
use Rattle.level_change.specs.Passing.{and_edges, no_links}
use Rattle.level_change.proofs.ChangeLemmas.{can_spread, still_or_gone, came_or_was, both_ways}
use Rattle.level_change.proofs.LinkLemmas.{on_ok, if_ok}
use Rattle.level_change.proofs.renewing.renew.Goals as goal

pub returns-clause-holds : goal.returns-clause-holds
returns-clause-holds c =
    on_ok c.spread_anew.result
    (λ spreads held after changed before.
    let gone = c.args.gone.now in
    let come = c.args.come.now in
    let goals = c.args.new.now in
    let was = c.args.out.now in
    let is : Store = record { base = c.args.out.now.base; late = c.recount.new.out_late } in
    let other : Store = record { base = c.args.into.now.base; late = c.recount.new.into_late } in
    let now = level_at c.args.told.now.base.entries c.forget_lost.new.told.entries in
    let out = c.in_ok-recount.ensures.out held after changed before.out_is in
    let into = c.in_ok-recount.ensures.into c.args.into.now.base.entries held after changed before.out_is before.into_is in
    let can = can_spread was is c.args.old.now (told_in c.args.told.now) now gone come goals c.in_ok-had.had before.levels (still_or_gone held gone come after was is changed before.out_is out)
    (came_or_was held gone come after was is changed before.out_is out) c.in_ok-had.ensures.forgets c.in_ok-had.ensures.seeds in
    record {
      out_is = out;
      into_is = into;
      levels = spreads (subst (λ h. CanSpread (is_linked is) goals now (and_edges come (and_had h no_links))) (sym c.as_slice-had.ensures) can) (both_ways after is other out into);
    }) c.spread_anew.ensures.spreads

pub returns-clause-moved : goal.returns-clause-moved
returns-clause-moved c =
    if_ok c.spread_anew.result (λ moved kept. kept (told_in c.args.told.now) (λ t h. (c.in_ok-had.ensures.forgets (Word 0)).same t (ap (λ l. has_had l t) (sym c.as_slice-had.ensures) ∙ h))) c.spread_anew.ensures.moved
