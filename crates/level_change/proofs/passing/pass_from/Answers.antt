use Rattle.std.proofs.Common.{rules, ◌<◌, ◌≤◌, length, get_or, subst}
use Rattle.std.proofs.lemmas.List.{at_drop_all}
use Rattle.soar_sym.specs.declared.symbol.Sym.TheVariants.{Ident}
use Rattle.level_graph.proofs.PassSteps.{has_at}
use Rattle.level_change.specs.Links.{level_at}
use Rattle.level_change.specs.Passing.{SpreadsBut, and_links}
use Rattle.level_change.proofs.ButLemmas.{sources_step, sources_done}
use Rattle.level_change.proofs.passing.pass_from.Goals as goal

pub sources-preserved : goal.sources-preserved
sources-preserved c =
    let sources = c.args.sources.now in
    let i = c.sources.source-index in
    let lt : i < length sources = search rules in (
      (λ links left there s. c.in_ok-pass_to.ensures.settles links _ (there (get_or sources i (Ident 0 0)) (has_at sources i (Ident 0 0) lt))
          (sources_step links _ _ _ sources i (Ident 0 0) c.args.to left lt (c.sources.invariant.0 links left there s))),
      (λ old k. c.in_ok-pass_to.ensures.moved old (c.sources.invariant.1 old k)),
    )

pub returns-clause-settles : goal.returns-clause-settles
returns-clause-settles c = λ links left there s.
    let all : length c.args.sources.now ≤ c.sources.source-index = search rules in
    sources_done links _ _ _ c.args.to left
    (subst (λ l. SpreadsBut links c.args.goals.now (level_at c.args.levels.now.entries c.sources.told.entries) c.sources.waiting (and_links l c.args.to left)) (at_drop_all (λ l. l) c.args.sources.now c.sources.source-index all) (c.sources.invariant.0 links left there s))
