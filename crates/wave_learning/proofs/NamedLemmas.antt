-- An explanation whose parts are known, and whose rules have known names, is known.
use Rattle.std.proofs.Common.{◌≡◌, ◌≤◌, refl, subst, nat_lt, Bool, true, false, inl, inr, List, ◌∷◌, ◌++◌, flat_map, arith}
use Rattle.std.specs.List.{list_all}
use Rattle.std.specs.Prelude.{not}
use Rattle.soar_fire.specs.Growth.{OnlyGrows}
use Rattle.soar_sym.specs.Words.{IsKnown, Texts}
use Rattle.soar_sym.specs.declared.symbol.Sym.{Sym}
use Rattle.soar_sym.specs.declared.symbol.Sym.TheVariants.{Ident, Int, Word}
use Rattle.soar_rule.specs.Symbols.{constants_of}
use Rattle.chunk_make.specs.Known.{HasGrown, IsChainKnown, symbols_of_firing}
use Rattle.defs_soar.specs.declared.firing.Used.{Used}
use Rattle.defs_soar.specs.ChainIdentifiers.{firing_in, firings_of}
use Rattle.defs_soar.specs.Dependencies.{symbols_of_wish}
use Rattle.defs_soar.specs.History.{ChainOf, FiringOf, StepOf, architecture_step, fire_step, item_step, select_step}
use Rattle.defs_soar.specs.Laws.{IsIn}
use Rattle.defs_soar.specs.Ungrounded.{symbols_of_element}
use Rattle.learning_laws.proofs.Lists.{both_true, each_all, in_append, in_flat_map, in_left, in_right}
use Rattle.wave_learning.specs.Lawful.{AllIn, ArePartsKnown, is_known, is_named, is_step_named}
use Rattle.wave_learning.proofs.LawfulFacts.{are_known}

known_symbol : (words : Texts) (s : Sym) → is_known words s ≡ true → IsKnown words s
known_symbol words (Word n) q = grind arith
known_symbol words (Ident letter number) q =
    let p = both_true (not (nat_lt letter 65)) (not (nat_lt 90 letter)) q in
    (low (nat_lt letter 65) refl p.0, high (nat_lt 90 letter) refl p.1)
  where
    low : (b : Bool) → nat_lt letter 65 ≡ b → not b ≡ true → 65 ≤ letter
    low true e r = absurd (cc)
    low false e r = grind arith

    high : (b : Bool) → nat_lt 90 letter ≡ b → not b ≡ true → letter ≤ 90
    high true e r = absurd (cc)
    high false e r = grind arith
known_symbol words (Int value) q = tt

-- a firing among the steps has such a rule
firing_named : (words : Texts) (steps : List StepOf) (f : FiringOf) → list_all (is_step_named words) steps ≡ true → IsIn f (flat_map firing_in steps) → is_named words f.rule.production ≡ true
firing_named words steps f all i =
    let s = in_flat_map firing_in f steps i in by s.0 (each_all (is_step_named words) s.0 steps all s.1) s.2
  where
    by : (step : StepOf) → is_step_named words step ≡ true → IsIn f (firing_in step) → is_named words f.rule.production ≡ true
    by (fire_step g) q (inl e) = subst (λ (x : FiringOf). is_named words x.rule.production ≡ true) e q
    by (fire_step g) q (inr z) = absurd z
    by (architecture_step e) q z = absurd z
    by (item_step e tag) q z = absurd z
    by (select_step e tag) q z = absurd z

firing_known : (words : Texts) (f : FiringOf) → is_named words f.rule.production ≡ true
    → AllIn words (flat_map (λ (u : Used). symbols_of_element u.element) f.used ++ (flat_map symbols_of_wish f.made ++ (f.instance.binds ++ constants_of f.rule.production))) → AllIn words (symbols_of_firing f)
firing_known words f q h s i =
    elim (in_append s used (made ++ (f.instance.binds ++ (f.rule.production.name ∷ (f.rule.production.vars ++ constants)))) i) [
      | inl j ↦ h s (in_left s used (made ++ (f.instance.binds ++ constants)) j)
      | inr j ↦ elim (in_append s made (f.instance.binds ++ (f.rule.production.name ∷ (f.rule.production.vars ++ constants))) j) [
        | inl k ↦ h s (in_right s used (made ++ (f.instance.binds ++ constants)) (in_left s made (f.instance.binds ++ constants) k))
        | inr k ↦ elim (in_append s f.instance.binds (f.rule.production.name ∷ (f.rule.production.vars ++ constants)) k) [
          | inl l ↦ h s (in_right s used (made ++ (f.instance.binds ++ constants)) (in_right s made (f.instance.binds ++ constants) (in_left s f.instance.binds constants l)))
          | inr l ↦ of_rule l
        ]
      ]
    ]
  where
    used : List Sym
    used = flat_map (λ (u : Used). symbols_of_element u.element) f.used

    made : List Sym
    made = flat_map symbols_of_wish f.made

    constants : List Sym
    constants = constants_of f.rule.production

    parts : (is_known words f.rule.production.name ≡ true) × (list_all (is_known words) f.rule.production.vars ≡ true)
    parts = both_true (is_known words f.rule.production.name) (list_all (is_known words) f.rule.production.vars) q

    of_rule : IsIn s (f.rule.production.name ∷ (f.rule.production.vars ++ constants)) → IsKnown words s
    of_rule (inl e) = subst (IsKnown words) e (known_symbol words f.rule.production.name parts.0)
    of_rule (inr j) = elim (in_append s f.rule.production.vars constants j) [
      | inl k ↦ known_symbol words s (each_all (is_known words) s f.rule.production.vars parts.1 k)
      | inr k ↦ h s (in_right s used (made ++ (f.instance.binds ++ constants)) (in_right s made (f.instance.binds ++ constants) (in_right s f.instance.binds constants k)))
    ]

pub chain_known : (words : Texts) (c : ChainOf) → ArePartsKnown words c → list_all (is_step_named words) c.steps ≡ true → IsChainKnown words c
chain_known words c h named =
    are_known words (flat_map symbols_of_element c.grounds ++ (flat_map symbols_of_firing (firings_of c) ++ flat_map symbols_of_wish c.results))
    (λ s i. elim (in_append s (flat_map symbols_of_element c.grounds) (flat_map symbols_of_firing (firings_of c) ++ flat_map symbols_of_wish c.results) i) [
      | inl j ↦ h.grounds s j
      | inr j ↦ elim (in_append s (flat_map symbols_of_firing (firings_of c)) (flat_map symbols_of_wish c.results) j) [
        | inl k ↦ (let f = in_flat_map symbols_of_firing s (firings_of c) k in firing_known words f.0 (firing_named words c.steps f.0 named f.1) (h.firings f.0 f.1) s f.2)
        | inr k ↦ h.results s k
      ]
    ])

-- ---- the table

pub only_grows : (old later : Texts) → HasGrown old later → OnlyGrows old later
only_grows old later h = record { grown = h.grown }
