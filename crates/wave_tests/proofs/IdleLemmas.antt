-- The rule of the tests may be loaded by each sound agent.
use Rattle.std.proofs.Common.{◌≡◌, ◌≤◌, true, ◌++◌, length, Ok, inl, inr, refl, sym, ap, subst, arith}
use Rattle.soar_sym.specs.Words.{Texts}
use Rattle.soar_sym.specs.declared.symbol.Sym.{Sym}
use Rattle.soar_rule.specs.AsItStands.{can_be_matched}
use Rattle.soar_rule.specs.Checking.{ordered}
use Rattle.soar_rule.specs.MatchOrder.{taken_in_order}
use Rattle.soar_rule.specs.Productions.{ProductionOf}
use Rattle.soar_rule.specs.Symbols.{AreKnown, constants_of, symbols_of}
use Rattle.defs_soar.specs.Laws.{IsIn}
use Rattle.learning_laws.specs.LawfulAgents.{IsLiteral}
use Rattle.soar_cycle.specs.Calls.{MayBeLoaded}
use Rattle.wave_tests.specs.Idle.{idle_production}

idle_checked : ordered idle_production ≡ Ok idle_production
unfolding ordered taken_in_order
idle_checked = refl

idle_literal : (words : Texts) → 24 ≤ length words → (s : Sym) → IsIn s (idle_production.vars ++ constants_of idle_production) → IsLiteral words s
idle_literal words more s (inl e) = subst (IsLiteral words) e (omega (arith, more))
idle_literal words more s (inr (inl e)) = subst (IsLiteral words) e (omega (arith, more))
idle_literal words more s (inr (inr (inl e))) = subst (IsLiteral words) e (omega (arith, more))
idle_literal words more s (inr (inr (inr none))) = absurd none

pub idle_known : (words : Texts) (p : ProductionOf) → p ≡ idle_production → 24 ≤ length words → AreKnown words (symbols_of p)
idle_known words p is more =
    subst (λ (q : ProductionOf). AreKnown words (symbols_of q)) (sym is) (omega (arith, more), (omega (arith, more), (omega (arith, more), (omega (arith, more), tt))))

pub idle_may_be_loaded : (words : Texts) (p : ProductionOf) → p ≡ idle_production → 24 ≤ length words → MayBeLoaded words p
idle_may_be_loaded words p is more = subst (MayBeLoaded words) (sym is) (record { checked = idle_checked; literal = idle_literal words more })

pub idle_can_be_matched : (p : ProductionOf) → p ≡ idle_production → can_be_matched p ≡ true
idle_can_be_matched p is = ap can_be_matched is
