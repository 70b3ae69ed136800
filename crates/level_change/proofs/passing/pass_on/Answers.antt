use Rattle.std.proofs.Common.{rules, ◌≡◌, ◌∙◌, ◌<◌, ◌&&◌, not, sym, ap, subst, length, get_or, true, false, arith, ◌+◌, ◌++◌, ◌∷◌, []}
use Rattle.soar_sym.specs.declared.symbol.Sym.{Sym}
use Rattle.soar_sym.specs.declared.symbol.Sym.TheVariants.{Ident}
use Rattle.defs_soar.specs.Sorted.{has_symbol}
use Rattle.level_graph.specs.Spreading.{is_above}
use Rattle.level_change.specs.Links.{level_at}
use Rattle.level_change.proofs.PassSteps.{Going, going_over, going_to}
use Rattle.level_change.proofs.passing.pass_on.Goals as goal
use Rattle.level_change.proofs.passing.pass_on.Goals.{then-falls_to+then-not-has_symbol+in_ok-push+in_ok-push-2+in_ok-tell, else-falls_to, else-falls_to-via-then-falls_to+else-not-has_symbol, else-falls_to-via-else-falls_to}

pub values-preserved : goal.values-preserved
values-preserved c =
    let goals = c.args.goals.now in
    let values = c.args.values.now in
    let n = c.args.level in
    let old = level_at c.args.levels.now.entries c.args.told.now.entries in
    let before = c.args.waiting.now in
    let first = c.args.moved.now in
    let i = c.values.value-index in
    let told = level_at c.args.levels.now.entries c.values.told.entries in
    let v : Sym = get_or values i (Ident 0 0) in
    let lt : i < length values = search rules in
    elim c.if-falls_to.branch [
      | then-falls_to+then-not-has_symbol+in_ok-push+in_ok-push-2+in_ok-tell w ↦
          let up : is_above (told v) n ≡ true = ap (λ x. is_above x n) (sym c.level_of.ensures) ∙ sym c.falls_to.ensures ∙ w.if-falls_to.true in
          let ng : has_symbol goals v ≡ false = sym w.has_symbol.ensures ∙ w.if-not-has_symbol.true in
          subst (λ m. Going goals values n old before first (i + 1) (level_at c.args.levels.now.entries m.entries) c.if-falls_to.waiting c.if-falls_to.moved) (sym w.told-is)
          (subst (λ q. Going goals values n old before first (i + 1) (level_at c.args.levels.now.entries w.tell.new.told.entries) q c.if-falls_to.moved) (sym (w.waiting-is ∙ w.in_ok-push.ensures.ok))
          (subst (λ q. Going goals values n old before first (i + 1) (level_at c.args.levels.now.entries w.tell.new.told.entries) (c.values.waiting ++ v ∷ []) q) (sym (w.moved-is ∙ w.in_ok-push-2.ensures.ok))
          (going_to goals values n old before first i told c.values.waiting c.values.moved (level_at c.args.levels.now.entries w.tell.new.told.entries) c.values.invariant (search rules) lt up ng (w.in_ok-tell.ensures c.args.levels.now.entries))))
      | else-falls_to w ↦
          let skip : (is_above (told v) n && not (has_symbol goals v)) ≡ false = elim w.else-falls_to.branch [
            | else-falls_to-via-then-falls_to+else-not-has_symbol u ↦
                let g : has_symbol goals v ≡ true = sym u.has_symbol.ensures ∙ u.if-not-has_symbol.false in grind arith
            | else-falls_to-via-else-falls_to u ↦
                let e : is_above (told v) n ≡ false = ap (λ x. is_above x n) (sym c.level_of.ensures) ∙ sym c.falls_to.ensures ∙ u.if-falls_to.false in grind arith
          ] in
          subst (λ m. Going goals values n old before first (i + 1) (level_at c.args.levels.now.entries m.entries) c.if-falls_to.waiting c.if-falls_to.moved) (sym w.told-is)
          (subst (λ q. Going goals values n old before first (i + 1) told q c.if-falls_to.moved) (sym w.waiting-is)
          (subst (λ q. Going goals values n old before first (i + 1) told c.values.waiting q) (sym w.moved-is)
          (going_over goals values n old before first i told c.values.waiting c.values.moved c.values.invariant lt skip)))
    ]
