-- Flags in the order in which a firing made its wishes say which of them go over.
use Rattle.std.proofs.Common.{◌≡◌, refl, sym, ◌∙◌, ap, ap₂, ℕ, Bool, true, false, ◌==◌, cond, inl, inr, List, [], ◌∷◌, ◌++◌, map}
use Rattle.defs_soar.specs.declared.preference.Wish.{Wish}
use Rattle.defs_soar.specs.declared.goal.Goal.{Goal}
use Rattle.defs_soar.specs.Events.{WishSupport, LearningEvent}
use Rattle.defs_soar.specs.History.{FiringOf}
use Rattle.defs_soar.specs.Laws.{IsIn}
use Rattle.defs_soar.specs.LearnedFirings.{with_support_by, with_supports_by}
use Rattle.defs_soar.specs.WaveAtHand.{Entry, Fresh, SupportedWish, all_fresh, fired, noted, supported_wish}
use Rattle.learned_firings.specs.Flags.{flagged, with_flags, with_flags_held}
use Rattle.learning_laws.proofs.Lists.{same_number}
use Rattle.wave_learning.specs.Held.{AreHeld, wishes_of}

-- ---- they stay so

wishes_stay : (p : Wish → Bool) (by : WishSupport) (wishes : List SupportedWish) → map (λ (y : SupportedWish). y.wish) (map (with_support_by p by) wishes) ≡ map (λ (y : SupportedWish). y.wish) wishes
wishes_stay p by [] = refl
wishes_stay p by (x ∷ wishes) = go (p x.wish) (wishes_stay p by wishes)
  where
    go : (b : Bool) → map (λ (y : SupportedWish). y.wish) (map (with_support_by p by) wishes) ≡ map (λ (y : SupportedWish). y.wish) wishes
        → (cond b (record x { wish_support = by }) x).wish ∷ map (λ (y : SupportedWish). y.wish) (map (with_support_by p by) wishes) ≡ x.wish ∷ map (λ (y : SupportedWish). y.wish) wishes
    go true q = ap (λ l. x.wish ∷ l) q
    go false q = ap (λ l. x.wish ∷ l) q

pub held_with : (n : ℕ) (p : Wish → Bool) (by : WishSupport) (entries : List Entry) → AreHeld entries → AreHeld (map (with_supports_by n p by) entries)
held_with n p by [] h = tt
held_with n p by (noted l ∷ entries) h = held_with n p by entries h
held_with n p by (fired x ∷ entries) h = go (x.firing.number == n) (held_with n p by entries h.1)
  where
    go : (b : Bool) → AreHeld (map (with_supports_by n p by) entries)
        → AreHeld (cond b (fired (record x { wishes = map (with_support_by p by) x.wishes })) (fired x) ∷ map (with_supports_by n p by) entries)
    go true later = (wishes_stay p by x.wishes ∙ h.0, later)
    go false later = (h.0, later)

pub held_fired : (entries : List Entry) (x : Fresh) → AreHeld entries → wishes_of x ≡ x.firing.made → AreHeld (entries ++ fired x ∷ [])
held_fired [] x h q = (q, tt)
held_fired (fired y ∷ entries) x h q = (h.0, held_fired entries x h.1 q)
held_fired (noted l ∷ entries) x h q = held_fired entries x h q

pub held_noted : (entries : List Entry) (learning_event : LearningEvent) → AreHeld entries → AreHeld (entries ++ noted learning_event ∷ [])
held_noted [] learning_event h = tt
held_noted (fired y ∷ entries) learning_event h = (h.0, held_noted entries learning_event h.1)
held_noted (noted l ∷ entries) learning_event h = held_noted entries learning_event h

pub held_supported : (goals : List Goal) (kind : Bool) (wishes : List Wish) → map (λ (y : SupportedWish). y.wish) (map (supported_wish goals kind) wishes) ≡ wishes
held_supported goals kind [] = refl
held_supported goals kind (w ∷ wishes) = ap (λ l. w ∷ l) (held_supported goals kind wishes)

-- ---- by flags

flagged_is : (p : Wish → Bool) (by : WishSupport) (wishes : List SupportedWish) → flagged (map p (map (λ (y : SupportedWish). y.wish) wishes)) by wishes ≡ map (with_support_by p by) wishes
flagged_is p by [] = refl
flagged_is p by (x ∷ wishes) = ap (λ l. with_support_by p by x ∷ l) (flagged_is p by wishes)

-- the flags of a firing, in entries in which its number tells it
pub flags_are : (f : FiringOf) (p : Wish → Bool) (by : WishSupport) (entries : List Entry) → AreHeld entries
    → ((x : Fresh) → IsIn x (all_fresh entries) → x.firing.number ≡ f.number → x.firing ≡ f)
    → map (with_flags f.number (map p f.made) by) entries ≡ map (with_supports_by f.number p by) entries
flags_are f p by [] h tell = refl
flags_are f p by (noted l ∷ entries) h tell = ap (λ es. noted l ∷ es) (flags_are f p by entries h tell)
flags_are f p by (fired x ∷ entries) h tell =
    ap₂ (λ e es. e ∷ es) (go (x.firing.number == f.number) refl) (flags_are f p by entries h.1 (λ y i q. tell y (inr i) q))
  where
    go : (b : Bool) → (x.firing.number == f.number) ≡ b
        → cond b (fired (with_flags_held (map p f.made) by x)) (fired x) ≡ cond b (fired (record x { wishes = map (with_support_by p by) x.wishes })) (fired x)
    go false q = refl
    go true q =
        let same = tell x (inl refl) (same_number x.firing.number f.number q) in
        ap (λ (ws : List SupportedWish). fired (record x { wishes = ws }))
        (ap (λ (made : List Wish). flagged (map p made) by x.wishes) (ap (λ (g : FiringOf). g.made) (sym same) ∙ sym h.0) ∙ flagged_is p by x.wishes)
