use Rattle.std.proofs.Common.{rules, ◌≡◌, ◌∙◌, ◌<◌, ◌≤◌, ◌&&◌, ◌++◌, ◌∷◌, [], not, refl, sym, ap, subst, length, get_or, true, false, arith, ◌+◌}
use Rattle.std.proofs.lemmas.List.{at_drop_all}
use Rattle.soar_sym.specs.declared.symbol.Sym.{Sym}
use Rattle.soar_sym.specs.declared.symbol.Sym.TheVariants.{Ident}
use Rattle.defs_soar.specs.Sorted.{has_symbol}
use Rattle.level_change.specs.declared.forgetting.Had.{Had}
use Rattle.level_change.specs.Forgetting.{Forgetting, has_level}
use Rattle.level_change.specs.Links.{level_at}
use Rattle.level_change.proofs.HadSteps.{Fore, fore_over, fore_to}
use Rattle.level_change.proofs.forgetting.forget_from.Goals as goal
use Rattle.level_change.proofs.forgetting.forget_from.Goals.{then-has_level+then-not-has_symbol+in_ok-push+in_ok-push-2+in_ok-clear, else-has_level, else-has_level-via-then-has_level+else-not-has_symbol, else-has_level-via-else-has_level}

pub values-preserved : goal.values-preserved
values-preserved c =
    let goals = c.args.goals.now in
    let values = c.args.values.now in
    let n = c.args.level in
    let old = level_at c.args.levels.now.entries c.args.told.now.entries in
    let old_had = c.args.had.now in
    let old_waiting = c.args.waiting.now in
    let i = c.values.value-index in
    let told = level_at c.args.levels.now.entries c.values.told.entries in
    let v : Sym = get_or values i (Ident 0 0) in
    let it : Had = record { id = v; level = n } in
    let lt : i < length values = search rules in
    elim c.if-has_level.branch [
      | then-has_level+then-not-has_symbol+in_ok-push+in_ok-push-2+in_ok-clear w ↦
          let up : has_level (told v) n ≡ true = ap (λ x. has_level x n) (sym c.level_of.ensures) ∙ sym c.has_level.ensures ∙ w.if-has_level.true in
          subst (λ m. Fore goals values n old old_had old_waiting (i + 1) (level_at c.args.levels.now.entries m.entries) c.if-has_level.had c.if-has_level.waiting) (sym w.told-is)
          (subst (λ h. Fore goals values n old old_had old_waiting (i + 1) (level_at c.args.levels.now.entries w.clear.new.told.entries) h c.if-has_level.waiting) (sym (w.had-is ∙ w.in_ok-push-2.ensures.ok))
          (subst (λ q. Fore goals values n old old_had old_waiting (i + 1) (level_at c.args.levels.now.entries w.clear.new.told.entries) (c.values.had ++ it ∷ []) q) (sym (w.waiting-is ∙ w.in_ok-push.ensures.ok))
          (fore_to goals values n old old_had old_waiting i told c.values.had c.values.waiting (level_at c.args.levels.now.entries w.clear.new.told.entries) it refl refl c.values.invariant lt up (w.in_ok-clear.ensures c.args.levels.now.entries))))
      | else-has_level w ↦
          let skip : (has_level (told v) n && not (has_symbol goals v)) ≡ false = elim w.else-has_level.branch [
            | else-has_level-via-then-has_level+else-not-has_symbol u ↦
                let g : has_symbol goals v ≡ true = sym u.has_symbol.ensures ∙ u.if-not-has_symbol.false in grind arith
            | else-has_level-via-else-has_level u ↦
                let e : has_level (told v) n ≡ false = ap (λ x. has_level x n) (sym c.level_of.ensures) ∙ sym c.has_level.ensures ∙ u.if-has_level.false in grind arith
          ] in
          subst (λ m. Fore goals values n old old_had old_waiting (i + 1) (level_at c.args.levels.now.entries m.entries) c.if-has_level.had c.if-has_level.waiting) (sym w.told-is)
          (subst (λ h. Fore goals values n old old_had old_waiting (i + 1) told h c.if-has_level.waiting) (sym w.had-is)
          (subst (λ q. Fore goals values n old old_had old_waiting (i + 1) told c.values.had q) (sym w.waiting-is)
          (fore_over goals values n old old_had old_waiting i told c.values.had c.values.waiting c.values.invariant lt skip)))
    ]

pub returns-clause-forgets : goal.returns-clause-forgets
returns-clause-forgets c = λ links first x at f.
    let all : length c.args.values.now ≤ c.values.value-index = search rules in
    subst (Forgetting links c.args.goals.now first (level_at c.args.levels.now.entries c.values.told.entries) c.values.had c.values.waiting x) (at_drop_all (λ l. l) c.args.values.now c.values.value-index all) (c.values.invariant.0 links first x at f)
