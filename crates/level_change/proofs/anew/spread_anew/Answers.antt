use Rattle.std.proofs.Common.{◌∙◌, refl, sym, ap}
use Rattle.defs_soar.specs.Sorted.{has_symbol}
use Rattle.level_change.specs.Links.{level_at}
use Rattle.level_change.specs.Passing.{no_links}
use Rattle.level_change.proofs.ButLemmas.{but_none}
use Rattle.level_change.proofs.ChangeLemmas.{had_symbols}
use Rattle.level_change.proofs.anew.spread_anew.Goals as goal

pub returns-clause-spreads : goal.returns-clause-spreads
returns-clause-spreads c = λ can ways.
    c.in_ok-spread.ensures.spreads (but_none _ _ _ _ (c.in_ok-pass_had.ensures.settles _ no_links ways
    (c.in_ok-pass_come.ensures.settles _ (can _ _ c.in_ok-tell_goals.ensures.told (c.in_ok-tell_goals.ensures.waiting (level_at c.args.levels.now.entries c.args.told.now.entries) (λ s out. refl))))))

pub returns-clause-moved : goal.returns-clause-moved
returns-clause-moved c = λ first same.
    c.in_ok-spread.ensures.moved first (c.in_ok-pass_had.ensures.moved first (c.in_ok-pass_come.ensures.moved first (c.in_ok-tell_goals.ensures.moved first
    (λ s out. same s (sym (had_symbols c.args.had.now s) ∙ ap (λ l. has_symbol l s) (sym c.in_ok-moved.ensures) ∙ out)))))
