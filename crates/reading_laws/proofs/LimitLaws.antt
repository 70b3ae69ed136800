-- Trees within a limit of open brackets, or with none.
use Rattle.std.specs.Prelude.{◌↔◌}
use Rattle.std.proofs.Common.{ℕ, suc, List, [], ◌∷◌, Option, Some, None, ◌≤◌, arith}
use Rattle.std.specs.Prelude.{max}
use Rattle.std.proofs.Math.Nat.{max-le, le-max_left, le-max_right}
use Rattle.reading_laws.specs.Lawful.{AllOf, IfThere}
use Rattle.reading_laws.specs.Brackets.{most, if_there}

-- so many brackets are within the limit
abbrev pub Fits : Option ℕ → ℕ → Type 0
Fits None n = Unit {0}
Fits (Some d) n = n ≤ d

-- lawful, and within the limit
abbrev pub Within : {A : Type 0} → (A → Type 0) → (A → ℕ) → Option ℕ → A → Type 0
Within ok size m a = ok a × Fits m (size a)

pub fits_none : (m : Option ℕ) → Fits m 0
fits_none None = tt
fits_none (Some d) = omega arith

pub fits_both : (m : Option ℕ) (a b : ℕ) → Fits m a → Fits m b → Fits m (max a b)
fits_both None a b h k = tt
fits_both (Some d) a b h k = max-le h k

pub fits_left : (m : Option ℕ) (a b : ℕ) → Fits m (max a b) → Fits m a
fits_left None a b h = tt
fits_left (Some d) a b h = let l = le-max_left a b in omega arith

pub fits_right : (m : Option ℕ) (a b : ℕ) → Fits m (max a b) → Fits m b
fits_right None a b h = tt
fits_right (Some d) a b h = let l = le-max_right a b in omega arith

-- the limit outside one more bracket
abbrev pub outer : Option ℕ → Option ℕ
outer None = None
outer (Some d) = Some (suc d)

pub fits_outside : (m : Option ℕ) (n : ℕ) → Fits m n → Fits (outer m) (suc n)
fits_outside None n h = tt
fits_outside (Some d) n h = omega arith

pub fits_inside : (m : Option ℕ) (n : ℕ) → Fits (outer m) (suc n) → Fits m n
fits_inside None n h = tt
fits_inside (Some d) n h = omega arith

pub all_within : {A : Type 0} (ok : A → Type 0) (size : A → ℕ) (m : Option ℕ) (xs : List A) → AllOf (Within ok size m) xs ↔ (AllOf ok xs × Fits m (most size xs))
all_within {A} ok size m xs = (there xs, back xs)
  where
    there : (xs : List A) → AllOf (Within ok size m) xs → AllOf ok xs × Fits m (most size xs)
    there [] h = (tt, fits_none m)
    there (x ∷ xs) h = let l = there xs h.1 in ((h.0.0, l.0), fits_both m (size x) (most size xs) h.0.1 l.1)

    back : (xs : List A) → AllOf ok xs × Fits m (most size xs) → AllOf (Within ok size m) xs
    back [] h = tt
    back (x ∷ xs) h = ((h.0.0, fits_left m (size x) (most size xs) h.1), back xs (h.0.1, fits_right m (size x) (most size xs) h.1))

pub there_within : {A : Type 0} (ok : A → Type 0) (size : A → ℕ) (m : Option ℕ) (o : Option A) → IfThere (Within ok size m) o ↔ (IfThere ok o × Fits m (if_there size o))
there_within {A} ok size m o = (there o, back o)
  where
    there : (o : Option A) → IfThere (Within ok size m) o → IfThere ok o × Fits m (if_there size o)
    there (Some a) h = h
    there None h = (tt, fits_none m)

    back : (o : Option A) → IfThere ok o × Fits m (if_there size o) → IfThere (Within ok size m) o
    back (Some a) h = h
    back None h = tt
