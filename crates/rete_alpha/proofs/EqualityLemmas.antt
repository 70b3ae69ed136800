-- Patterns that compare equal are one.
use Rattle.std.proofs.Common.{◌≡◌, refl, sym, ap₂, ◌∙◌, Bool, true, false, Option, Some, None, ◌&&◌}
use Rattle.std.specs.Option.{option_eq}
use Rattle.std.specs.Cmp.{bool_eq_equiv}
use Rattle.std.proofs.lemmas.Bool.{and_parts}
use Rattle.std.proofs.Math.Bool.{beq}
use Rattle.soar_sym.specs.declared.symbol.Sym.{Sym}
use Rattle.soar_sym.specs.contracts.symbol.SymPartialEq.TheImpl as eq
use Rattle.soar_sym.proofs.KeyLemmas.{symbol_same, symbol_self, symbol_derived}
use Rattle.rete_alpha.specs.declared.pattern.ConstPattern.{ConstPattern}
use Rattle.rete_alpha.specs.Slots.{pattern_eq}

same_option : (a b : Option Sym) → option_eq (eq.ghosts).eq a b ≡ true → a ≡ b
same_option None None h = refl
same_option None (Some b) h = absurd (cc)
same_option (Some a) None h = absurd (cc)
same_option (Some a) (Some b) h = (let one : a ≡ b = symbol_same a b (sym (symbol_derived a b) ∙ h) in λ i. Some (one i))

option_itself : (a : Option Sym) → option_eq (eq.ghosts).eq a a ≡ true
option_itself None = refl
option_itself (Some a) = symbol_derived a a ∙ symbol_self a

same_bool : (a b : Bool) → beq a b ≡ true → a ≡ b
same_bool true true h = refl
same_bool false false h = refl
same_bool true false h = absurd (cc)
same_bool false true h = absurd (cc)

both : (a b : Bool) → a ≡ true → b ≡ true → (a && b) ≡ true
both a b h k = ap₂ (λ p q. p && q) h k

pub equal_patterns : (p q : ConstPattern) → pattern_eq p q ≡ true → p ≡ q
equal_patterns p q h =
    let a = and_parts (beq p.state q.state) (option_eq (eq.ghosts).eq p.id q.id && (option_eq (eq.ghosts).eq p.attr q.attr && (option_eq (eq.ghosts).eq p.value q.value && beq p.accept q.accept))) h in
    let b = and_parts (option_eq (eq.ghosts).eq p.id q.id) _ a.1 in
    let c = and_parts (option_eq (eq.ghosts).eq p.attr q.attr) _ b.1 in
    let d = and_parts (option_eq (eq.ghosts).eq p.value q.value) _ c.1 in
    let state = same_bool p.state q.state a.0 in
    let id = same_option p.id q.id b.0 in
    let attr = same_option p.attr q.attr c.0 in
    let value = same_option p.value q.value d.0 in
    let accept = same_bool p.accept q.accept d.1 in
    λ i. record { state = state i; id = id i; attr = attr i; value = value i; accept = accept i }

pub pattern_itself : (p : ConstPattern) → pattern_eq p p ≡ true
pattern_itself p = both (beq p.state p.state) _ (bool_eq_equiv.refl p.state) (both (option_eq (eq.ghosts).eq p.id p.id) _ (option_itself p.id) (both (option_eq (eq.ghosts).eq p.attr p.attr) _ (option_itself p.attr)
    (both (option_eq (eq.ghosts).eq p.value p.value) _ (option_itself p.value) (bool_eq_equiv.refl p.accept))))
