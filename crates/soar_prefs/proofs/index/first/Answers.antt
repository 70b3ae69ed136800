use Rattle.std.proofs.Common.{◌≡◌, ℕ, true, false, IfSome, IfNone, sym, subst}
use Rattle.soar_prefs.specs.Store.{has}
use Rattle.soar_prefs.specs.declared.key.Key.{Key}
use Rattle.soar_prefs.proofs.index.first.Goals as goal

pub returns-in-Firing-clause-some : goal.returns-in-Firing-clause-some
returns-in-Firing-clause-some c = subst (λ (key : Key). IfSome c.first.result (λ n. has c.args.index.now (key, n) ≡ true)) (sym c.in-Firing.is) c.first.ensures.some

pub returns-in-Firing-clause-none : goal.returns-in-Firing-clause-none
returns-in-Firing-clause-none c = subst (λ (key : Key). IfNone c.first.result ((n : ℕ) → has c.args.index.now (key, n) ≡ false)) (sym c.in-Firing.is) c.first.ensures.none

pub returns-in-Id-clause-some : goal.returns-in-Id-clause-some
returns-in-Id-clause-some c = subst (λ (key : Key). IfSome c.first-in-Id.result (λ n. has c.args.index.now (key, n) ≡ true)) (sym c.in-Id.is) c.first-in-Id.ensures.some

pub returns-in-Id-clause-none : goal.returns-in-Id-clause-none
returns-in-Id-clause-none c = subst (λ (key : Key). IfNone c.first-in-Id.result ((n : ℕ) → has c.args.index.now (key, n) ≡ false)) (sym c.in-Id.is) c.first-in-Id.ensures.none

pub returns-in-Variablized-clause-some : goal.returns-in-Variablized-clause-some
returns-in-Variablized-clause-some c = subst (λ (key : Key). IfSome c.first-in-Variablized.result (λ n. has c.args.index.now (key, n) ≡ true)) (sym c.in-Variablized.is) c.first-in-Variablized.ensures.some

pub returns-in-Variablized-clause-none : goal.returns-in-Variablized-clause-none
returns-in-Variablized-clause-none c = subst (λ (key : Key). IfNone c.first-in-Variablized.result ((n : ℕ) → has c.args.index.now (key, n) ≡ false)) (sym c.in-Variablized.is) c.first-in-Variablized.ensures.none

pub returns-in-Triple-clause-some : goal.returns-in-Triple-clause-some
returns-in-Triple-clause-some c = subst (λ (key : Key). IfSome c.first-in-Triple.result (λ n. has c.args.index.now (key, n) ≡ true)) (sym c.in-Triple.is) c.first-in-Triple.ensures.some

pub returns-in-Triple-clause-none : goal.returns-in-Triple-clause-none
returns-in-Triple-clause-none c = subst (λ (key : Key). IfNone c.first-in-Triple.result ((n : ℕ) → has c.args.index.now (key, n) ≡ false)) (sym c.in-Triple.is) c.first-in-Triple.ensures.none
