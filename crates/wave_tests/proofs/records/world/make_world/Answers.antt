use Rattle.std.proofs.Common.{◌∙◌, ◌++◌, List, ap, sym, subst}
use Rattle.soar_sym.specs.declared.symbol.Triple.{Triple}
use Rattle.firing_records.specs.Levels.{TellsLevels}
use Rattle.wave_tests.proofs.records.world.make_world.Goals as goal

pub returns : goal.returns
returns c =
    let others = c.args.others.now in
    subst (λ (l : List Triple). TellsLevels c.in_ok-kept.kept c.args.goals.now l) (sym (c.in_ok-memory.ensures ∙ ap (λ (l : List Triple). l ++ others) (c.own.ensures ∙ c.in_ok-kept.ensures.own.own)))
    c.in_ok-kept.ensures.tells
