use Rattle.std.proofs.Common.{◌≡◌, ℕ, ◌+◌, ◌<◌, Bool, true, false, ◌||◌, List, [], ◌∷◌, length, take, get_or, refl, sym, ap, ◌∙◌}
use Rattle.std.proofs.lemmas.List.{map_more}
use Rattle.std.proofs.lemmas.List.Folds.{list_any-append}
use Rattle.soar_sym.specs.Equality.{symbol_eq}
use Rattle.soar_sym.specs.declared.symbol.Sym.{Sym}
use Rattle.defs_soar.specs.declared.goal.Goal.{Goal}
use Rattle.defs_soar.specs.Goals.{goal_ids, is_goal}
use Rattle.defs_soar.specs.Sorted.{has_symbol}
use Rattle.level_laws.proofs.SymbolLemmas.{symbol_turned}
use Rattle.output_link.proofs.walking.ids_of.Goals as goal

turned : (a b : Bool) → (a || b) ≡ (b || (a || false))
turned true true = refl
turned true false = refl
turned false true = refl
turned false false = refl

one_more : (goals : List Goal) (i : ℕ) (g : Goal) (s : Sym) → i < length goals → g ≡ get_or goals i g → (symbol_eq g.id s || is_goal (take i goals) s) ≡ is_goal (take (i + 1) goals) s
one_more goals i g s within at =
    ap (λ b. b || is_goal (take i goals) s) (symbol_turned g.id s ∙ ap (λ (x : Goal). symbol_eq s x.id) at)
    ∙ turned (symbol_eq s (get_or goals i g).id) (is_goal (take i goals) s)
    ∙ sym (ap (λ l. has_symbol l s) (map_more (λ (x : Goal). x.id) goals i g within) ∙ list_any-append (symbol_eq s) (goal_ids (take i goals)) ((get_or goals i g).id ∷ []))

pub goals-preserved : goal.goals-preserved
goals-preserved c = λ s.
    c.in_ok-add.ensures.places s ∙ ap (λ b. symbol_eq c.goal-item.result.id s || b) (c.goals.invariant s)
    ∙ one_more c.args.goals.now c.goals.goal-index c.goal-item.result s c.goals-test.true c.goal-item.is
