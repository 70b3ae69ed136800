use Rattle.std.proofs.Common.{rules, ◌∙◌, ◌<◌, ◌+◌, refl, sym, subst, length, take, get_or}
use Rattle.soar_sym.specs.declared.symbol.Sym.{Sym}
use Rattle.soar_sym.specs.declared.symbol.Sym.TheVariants.{Ident}
use Rattle.level_change.specs.declared.forgetting.Had.{Had}
use Rattle.level_change.specs.Forgetting.{Cleared}
use Rattle.level_change.specs.Links.{level_at}
use Rattle.level_change.proofs.HadSteps.{clear_past, clear_one}
use Rattle.level_change.proofs.forgetting.clear_seeds.Goals as goal
use Rattle.level_change.proofs.forgetting.clear_seeds.Goals.{in-Some+in_ok-push+in_ok-clear, in_default}

pub seeds-preserved : goal.seeds-preserved
seeds-preserved c =
    let seeds = c.args.seeds.now in
    let first = level_at c.args.levels.now.entries c.args.told.now.entries in
    let now = level_at c.args.levels.now.entries c.seeds.told.entries in
    let i = c.seeds.id-index in
    let v : Sym = get_or seeds i (Ident 0 0) in
    let lt : i < length seeds = search rules in
    elim c.match-level_of.branch [
      | in-Some+in_ok-push+in_ok-clear w ↦
          let it : Had = record { id = v; level = w.in-Some.level } in
          subst (λ m. Cleared first (level_at c.args.levels.now.entries m.entries) c.match-level_of.had (take (i + 1) seeds)) (sym w.told-is)
          (subst (λ h. Cleared first (level_at c.args.levels.now.entries w.clear.new.told.entries) h (take (i + 1) seeds)) (sym (w.had-is ∙ w.in_ok-push.ensures.ok))
          (clear_one first now (level_at c.args.levels.now.entries w.clear.new.told.entries) c.seeds.had seeds i w.in-Some.level it lt refl refl c.seeds.invariant (sym c.level_of.ensures ∙ w.in-Some.is) (w.in_ok-clear.ensures c.args.levels.now.entries)))
      | in_default w ↦
          subst (λ m. Cleared first (level_at c.args.levels.now.entries m.entries) c.match-level_of.had (take (i + 1) seeds)) (sym w.told-is)
          (subst (λ h. Cleared first now h (take (i + 1) seeds)) (sym w.had-is)
          (clear_past first now c.seeds.had seeds i lt c.seeds.invariant (sym c.level_of.ensures ∙ w.in_default.is)))
    ]
