use Rattle.std.proofs.Common.{rules, ◌≡◌, ◌∙◌, ◌<◌, ◌≤◌, length, sym, ap, subst, get_or}
use Rattle.std.proofs.lemmas.List.{at_drop_all}
use Rattle.soar_sym.specs.declared.symbol.Sym.{Sym}
use Rattle.soar_sym.specs.declared.symbol.Sym.TheVariants.{Ident}
use Rattle.defs_soar.specs.Sorted.{has_symbol}
use Rattle.level_change.specs.declared.forgetting.Had.{Had}
use Rattle.level_change.specs.Forgetting.{and_had}
use Rattle.level_change.specs.Links.{level_at}
use Rattle.level_change.specs.Passing.{SpreadsBut}
use Rattle.level_change.proofs.SpreadLemmas.{had_step, had_done}
use Rattle.level_change.proofs.spreading.pass_had.Goals as goal

abbrev none : Had
none = record { id = Ident 0 0; level = 0 }

pub had-preserved : goal.had-preserved
had-preserved c =
    let had = c.args.had.now in
    let i = c.had.it-index in
    let lt : i < length had = search rules in (
      (λ links left same s.
          let all : (x : Sym) → links x (get_or had i none).id ≡ has_symbol c.as_slice.result.now x = λ x. same x _ ∙ c.in_ok-sources.ensures x ∙ ap (λ l. has_symbol l x) (sym c.as_slice.ensures) in
          c.in_ok-pass_from.ensures.settles links _ (λ x h. all x ∙ h) (had_step links _ _ _ had i none c.as_slice.result.now left lt all (c.had.invariant.0 links left same s))),
      (λ old k. c.in_ok-pass_from.ensures.moved old (c.had.invariant.1 old k)),
    )

pub returns-clause-settles : goal.returns-clause-settles
returns-clause-settles c = λ links left same s.
    let all : length c.args.had.now ≤ c.had.it-index = search rules in
    had_done links _ _ _ left
    (subst (λ l. SpreadsBut links c.args.goals.now (level_at c.args.levels.now.entries c.had.told.entries) c.had.waiting (and_had l left)) (at_drop_all (λ l. l) c.args.had.now c.had.it-index all) (c.had.invariant.0 links left same s))
