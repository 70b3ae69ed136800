-- Firings of lists that are joined.
use Rattle.std.proofs.Common.{◌≡◌, ℕ, ◌||◌, List, ◌++◌}
use Rattle.std.specs.List.{list_any}
use Rattle.std.proofs.lemmas.List.Folds.{list_any-append}
use Rattle.soar_sym.specs.declared.symbol.Sym.{Sym}
use Rattle.defs_soar.specs.Dependencies.{is_new_in}
use Rattle.defs_soar.specs.History.{FiringOf}
use Rattle.chain_identifiers.specs.Steps.{is_goal_of_firing}

pub new_in_both : (xs ys : List FiringOf) (s : Sym) → list_any (λ f. is_new_in f s) (xs ++ ys) ≡ (list_any (λ f. is_new_in f s) xs || list_any (λ f. is_new_in f s) ys)
new_in_both xs ys s = list_any-append (λ f. is_new_in f s) xs ys

pub goal_in_both : (xs ys : List FiringOf) (depth : ℕ) (s : Sym) → list_any (is_goal_of_firing depth s) (xs ++ ys) ≡ (list_any (is_goal_of_firing depth s) xs || list_any (is_goal_of_firing depth s) ys)
goal_in_both xs ys depth s = list_any-append (is_goal_of_firing depth s) xs ys
