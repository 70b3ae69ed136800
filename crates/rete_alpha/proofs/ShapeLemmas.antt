-- Patterns have their shapes noted as their numbers come and go.
use Rattle.std.proofs.Common.{◌≡◌, ◌≢◌, ◌⊎◌, refl, sym, ap, ◌∙◌, Bool, true, false, cond, ℕ, ◌<◌, List, length, set, Option, Some, None, inl, inr}
use Rattle.std.proofs.lemmas.Bool.{cases_eq}
use Rattle.std.proofs.lemmas.Grind.{get_or-set_at}
use Rattle.std.proofs.lemmas.List.{get_or-set_other}
use Rattle.rete_alpha.specs.declared.pattern.ConstPattern.{ConstPattern}
use Rattle.rete_alpha.specs.Shapes.{shape, IsShaped}
use Rattle.rete_alpha.specs.Slots.{pattern_eq}
use Rattle.rete_alpha.proofs.EqualityLemmas.{equal_patterns}

-- a number comes, and the shape of its pattern is noted
pub shaped_with : (old new : ConstPattern → Option ℕ) (shapes : List Bool) (p : ConstPattern) (n : ℕ) → IsShaped old shapes → shape p < length shapes
    → ((q : ConstPattern) → new q ≡ cond (pattern_eq p q) (Some n) (old q)) → IsShaped new (set shapes (shape p) true)
shaped_with old new shapes p n shaped below changed q missing = changed q ∙ go (cases_eq (shape q) (shape p))
  where
    other : shape q ≢ shape p → (b : Bool) → pattern_eq p q ≡ b → cond b (Some n) (old q) ≡ None
    other ne true same = absurd (ne (ap shape (sym (equal_patterns p q same))))
    other ne false differ = shaped q (sym (get_or-set_other shapes (shape p) (shape q) true false ne) ∙ missing)

    go : (shape q ≡ shape p) ⊎ (shape q ≢ shape p) → cond (pattern_eq p q) (Some n) (old q) ≡ None
    go (inl e) = (let bad : true ≡ false = sym (get_or-set_at shapes (shape p) (shape q) true false e below) ∙ missing in absurd (cc))
    go (inr ne) = other ne (pattern_eq p q) refl

-- a number goes
pub shaped_without : (old new : ConstPattern → Option ℕ) (shapes : List Bool) (p : ConstPattern) → IsShaped old shapes
    → ((q : ConstPattern) → new q ≡ cond (pattern_eq p q) None (old q)) → IsShaped new shapes
shaped_without old new shapes p shaped changed q missing = changed q ∙ by (pattern_eq p q)
  where
    by : (b : Bool) → cond b None (old q) ≡ None
    by true = refl
    by false = shaped q missing
