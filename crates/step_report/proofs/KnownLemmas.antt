-- Events of lists whose words are in the table.
use Rattle.std.proofs.Common.{◌≡◌, ℕ, ◌<◌, zero, suc, List, [], ◌∷◌, ◌++◌, length, map, flat_map, get_or, sym, subst, arith}
use Rattle.soar_sym.specs.Words.{Texts}
use Rattle.defs_soar.specs.Events.{Event}
use Rattle.trace_laws.specs.Events.{AreEventsKnown, IsEventKnown}

pub known_first : (words : Texts) (first second : List Event) → AreEventsKnown words (first ++ second) → AreEventsKnown words first
known_first words [] second h = tt
known_first words (e ∷ first) second h = (h.0, known_first words first second h.1)

pub known_second : (words : Texts) (first second : List Event) → AreEventsKnown words (first ++ second) → AreEventsKnown words second
known_second words [] second h = h
known_second words (e ∷ first) second h = known_second words first second h.1

-- ---- the item at a place

pub known_in_map : {A : Type 0} (words : Texts) (f : A → Event) (items : List A) (i : ℕ) (x : A) → i < length items → x ≡ get_or items i x
    → AreEventsKnown words (map f items) → IsEventKnown words (f x)
known_in_map words f [] i x within at h = absurd (omega (arith, within))
known_in_map words f (y ∷ items) zero x within at h = subst (λ z. IsEventKnown words (f z)) (sym at) h.0
known_in_map words f (y ∷ items) (suc i) x within at h = known_in_map words f items i x (omega (arith, within)) at h.1

pub known_in_maps : {A B : Type 0} (words : Texts) (f : B → Event) (g : A → B) (items : List A) (i : ℕ) (x : A) → i < length items → x ≡ get_or items i x
    → AreEventsKnown words (map f (map g items)) → IsEventKnown words (f (g x))
known_in_maps words f g [] i x within at h = absurd (omega (arith, within))
known_in_maps words f g (y ∷ items) zero x within at h = subst (λ z. IsEventKnown words (f (g z))) (sym at) h.0
known_in_maps words f g (y ∷ items) (suc i) x within at h = known_in_maps words f g items i x (omega (arith, within)) at h.1

pub known_in_flat_map : {A : Type 0} (words : Texts) (f : A → List Event) (items : List A) (i : ℕ) (x : A) → i < length items → x ≡ get_or items i x
    → AreEventsKnown words (flat_map f items) → AreEventsKnown words (f x)
known_in_flat_map words f [] i x within at h = absurd (omega (arith, within))
known_in_flat_map words f (y ∷ items) zero x within at h = subst (λ z. AreEventsKnown words (f z)) (sym at) (known_first words (f y) (flat_map f items) h)
known_in_flat_map words f (y ∷ items) (suc i) x within at h = known_in_flat_map words f items i x (omega (arith, within)) at (known_second words (f y) (flat_map f items) h)
