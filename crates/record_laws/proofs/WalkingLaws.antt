-- The selections that a decision's walk leaves rest on firings that are roots.
use Rattle.std.proofs.Common.{sym, subst, ℕ, inl, inr, List, [], ◌∷◌, None}
use Rattle.soar_sym.specs.declared.symbol.Sym.{Sym}
use Rattle.defs_soar.specs.declared.goal.Goal.{Goal}
use Rattle.defs_soar.specs.Agents.{Agent}
use Rattle.defs_soar.specs.Decision.{view_of}
use Rattle.defs_soar.specs.Laws.{IsIn}
use Rattle.defs_soar.specs.Standing.{makers_of_goal, roots_of}
use Rattle.defs_soar.specs.Walk.{Decided, walked}
use Rattle.learning_laws.specs.LawfulAgents.{IsLawfulAgent}
use Rattle.learning_laws.proofs.WalkLaws.{WalkIs, whole_walk}
use Rattle.agent_laws.proofs.RootLaws.{maker_selected}
use Rattle.record_laws.specs.Walking.{WalksNameRoots}

each_names : (a : Agent) (h : IsLawfulAgent a) (superstate : Sym) (goals : List Goal) (d : Decided) → WalkIs a h superstate goals d → (g : Goal) → IsIn g goals → (n : ℕ) → IsIn n (makers_of_goal g) → IsIn n (roots_of a)
each_names a h superstate [] d w g i n j = absurd i
each_names a h superstate (x ∷ goals) d w g (inl e) n j =
    let made = maker_selected x n (subst (λ (y : Goal). IsIn n (makers_of_goal y)) (sym e) j) in subst (λ m. IsIn m (roots_of a)) made.2 (w.0.root made.0 made.1)
each_names a h superstate (x ∷ goals) d w g (inr i) n j = each_names a h x.id goals d w.1 g i n j

pub walks_name_roots : WalksNameRoots
walks_name_roots a g n h i j =
    let w = whole_walk a h in
    let end = walked (view_of a) None a.holding.goals in each_names a h w.0 end.goals end.decided w.1.1 g i n j
