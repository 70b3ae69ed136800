-- What firing a rule answers, from what its actions came to.
use Rattle.std.proofs.Common.{◌≡◌, ℕ, List, [], Some, Result, Ok, Err, refl, sym, subst}
use Rattle.soar_sym.specs.Words.{Texts}
use Rattle.soar_sym.specs.declared.symbol.Sym.{Sym}
use Rattle.soar_rule.specs.Productions.{ActionOf, ProductionOf}
use Rattle.soar_rule.specs.Symbols.{AreKnown, constants_of_conditions, symbols_of}
use Rattle.defs_match.specs.Conflict.{bindings_of}
use Rattle.defs_match.specs.Rules.{RuleOf}
use Rattle.defs_match.specs.Testing.{Bindings}
use Rattle.defs_match.specs.declared.instance.Instance.{Instance}
use Rattle.defs_soar.specs.declared.firing.Made.{Made}
use Rattle.defs_soar.specs.declared.goal.Goal.{Goal}
use Rattle.defs_soar.specs.declared.limit.Which.{Which}
use Rattle.defs_soar.specs.Limits.{first_passed}
use Rattle.soar_fire.specs.declared.fault.FireFault.{FireFault}
use Rattle.soar_fire.specs.declared.fault.FireFault.TheVariants as fault
use Rattle.soar_fire.specs.ActionOutcomes.{actions_outcome, nothing_made}
use Rattle.soar_fire.specs.Fires.{made_of, Fires, IsMade}
use Rattle.soar_fire.specs.Known.{Knows, constants_of_actions}
use Rattle.soar_fire.specs.Outcomes.{Standing, standing, Outcome, reached, stopped, Finds}
use Rattle.soar_fire.proofs.KnownLemmas.{knows_back}
use Rattle.soar_fire.proofs.Agreement.{AgreesMade, agrees_actions}

abbrev pub rule_outcome : Texts → List ℕ → List Goal → RuleOf → Instance → Outcome Made
rule_outcome words letters goals rule i =
    actions_outcome rule.production.vars goals 1 rule.production.actions nothing_made (standing (bindings_of rule.production i) words letters)

pub same_start : (words : Texts) (letters : List ℕ) (goals given_goals : List Goal) (rule : RuleOf) (i : Instance) (vars : List Sym) (actions : List ActionOf) (bindings : Bindings)
    → vars ≡ rule.production.vars → given_goals ≡ goals → actions ≡ rule.production.actions → bindings ≡ bindings_of rule.production i
    → actions_outcome vars given_goals 1 actions nothing_made (standing bindings words letters) ≡ rule_outcome words letters goals rule i
same_start words letters goals given_goals rule i vars actions bindings same_vars same_goals same_actions same_bindings =
    rw (same_vars, same_goals, same_actions, same_bindings) refl

agrees_rule : (words : Texts) (letters : List ℕ) (goals : List Goal) (rule : RuleOf) (i : Instance) → AgreesMade rule.production.vars (rule_outcome words letters goals rule i) (made_of words letters goals rule i)
agrees_rule words letters goals rule i = agrees_actions rule.production.vars goals 1 rule.production.actions nothing_made (standing (bindings_of rule.production i) words letters) [] refl

is_made : (words : Texts) (letters : List ℕ) (goals : List Goal) (rule : RuleOf) (i : Instance) (made : Made) (after : Standing)
    → rule_outcome words letters goals rule i ≡ reached (Ok made) after → IsMade made after.words after.letters (made_of words letters goals rule i)
is_made words letters goals rule i made after is =
    let agrees : AgreesMade rule.production.vars (reached (Ok made) after) (made_of words letters goals rule i) = subst (λ o. AgreesMade rule.production.vars o (made_of words letters goals rule i)) is (agrees_rule words letters goals rule i) in
    subst (IsMade made after.words after.letters) (sym agrees.2) (record { made_is = refl; words_are = refl; letters_are = refl; within = agrees.1 })

stops : (words : Texts) (letters : List ℕ) (goals : List Goal) (rule : RuleOf) (i : Instance) (w : Which)
    → rule_outcome words letters goals rule i ≡ stopped w → first_passed (made_of words letters goals rule i).naming.totals ≡ Some w
stops words letters goals rule i w is = subst (λ o. AgreesMade rule.production.vars o (made_of words letters goals rule i)) is (agrees_rule words letters goals rule i)

pub fires : (words : Texts) (letters : List ℕ) (goals : List Goal) (rule : RuleOf) (i : Instance) (after : Standing) (r : Result Made FireFault)
    → Finds (rule_outcome words letters goals rule i) after r → Fires after.words after.letters (made_of words letters goals rule i) r
fires words letters goals rule i after (Ok made) h = is_made words letters goals rule i made after h
fires words letters goals rule i after (Err fault.IdsSpent) h = stops words letters goals rule i _ h
fires words letters goals rule i after (Err fault.WordsSpent) h = stops words letters goals rule i _ h
fires words letters goals rule i after (Err fault.NoMemory) h = tt

pub rule_constants : (words : Texts) (p : ProductionOf) → AreKnown words (symbols_of p) → Knows words (constants_of_actions p.actions)
rule_constants words p h =
    knows_back words (constants_of_conditions p.conditions) _ (knows_back words p.vars _ (record { are_known = h.1 }))
