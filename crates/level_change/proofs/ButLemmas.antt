-- Levels that spread but for some links.
use Rattle.std.proofs.Common.{◌≡◌, ℕ, suc, ◌≤◌, ◌<◌, ◌+◌, nat_lt, ◌&&◌, ◌||◌, Bool, true, false, not, cond, List, [], ◌∷◌, length, drop, get_or, Option, Some, None, refl, sym, ap, subst, ◌∙◌, ◌⊎◌, inl, inr, arith}
use Rattle.std.proofs.lemmas.List.{at_drop_more}
use Rattle.soar_sym.specs.Equality.{symbol_eq}
use Rattle.soar_sym.specs.declared.symbol.Sym.{Sym}
use Rattle.defs_soar.specs.Levels.{first_place}
use Rattle.defs_soar.specs.Sorted.{has_symbol}
use Rattle.level_laws.specs.Labels.{Links, starts, goes_on, Labels, as_told, GoalsHaveDepths, IsAtMost, HasWalk, IsSound}
use Rattle.level_laws.proofs.SymbolLemmas.{symbol_same, symbol_self}
use Rattle.level_laws.proofs.ReachedLemmas.{or_split, or_first, or_second, and_parts}
use Rattle.level_laws.proofs.LabelLemmas.{at_place, some_same}
use Rattle.level_graph.specs.Spreading.{is_above, HasFallen, HasStayed, Passed, Spreads}
use Rattle.level_change.specs.Passing.{SpreadsBut, and_link, and_links, no_links}

some_place : (s : Sym) (n : ℕ) (xs : List Sym) → has_symbol xs s ≡ true → (d : ℕ) × (first_place (symbol_eq s) n xs ≡ Some d)
some_place s n [] h = cc
some_place s n (x ∷ xs) h = by (symbol_eq s x) h (some_place s (suc n) xs)
  where
    by : (b : Bool) → (b || has_symbol xs s) ≡ true → (has_symbol xs s ≡ true → (d : ℕ) × (first_place (symbol_eq s) (suc n) xs ≡ Some d)) → (d : ℕ) × (cond b (Some n) (first_place (symbol_eq s) (suc n) xs) ≡ Some d)
    by true g rest = (n, refl)
    by false g rest = rest g

-- from a symbol with a level walks go on to what it is linked to
walk_on : (links : Links) (goals : List Sym) (told : Labels) → GoalsHaveDepths goals told → IsSound links goals told → (x y : Sym) (n : ℕ) → told x ≡ Some n → links x y ≡ true → HasWalk links goals y n
walk_on links goals told depths sound x y n at link = by (has_symbol goals x) refl
  where
    by : (b : Bool) → has_symbol goals x ≡ b → HasWalk links goals y n
    by true e =
        let (d, place) = some_place x 1 goals e in
        (x, d, place, some_same n (as_told d) (sym at ∙ depths x d place), goes_on x y starts (or_first (symbol_eq x x) (not (has_symbol goals x)) (symbol_self x)) link)
    by false e =
        let (g, d, place, eq, walk) = sound x n at e in
        (g, d, place, eq, goes_on x y walk (or_second (symbol_eq x g) (not (has_symbol goals x)) (ap not e)) link)

above : (m n : ℕ) → nat_lt n m ≡ true → n ≤ m
above m n h = grind arith

below_old : (x : Option ℕ) (n : ℕ) → is_above x n ≡ true → (m : ℕ) → x ≡ Some m → n ≤ m
below_old None n h m e = cc
below_old (Some k) n h m e = above m n (ap (nat_lt n) (sym (some_same k m e)) ∙ h)

-- a level was passed on along one link
pub but_on : (links : Links) (goals : List Sym) (old new : Labels) (before waiting : List Sym) (x v : Sym) (n : ℕ) (left : Links)
    → links x v ≡ true → SpreadsBut links goals old before (and_link x v left) → old x ≡ Some n → Passed goals (v ∷ []) n old before new waiting [] → SpreadsBut links goals new waiting left
but_on links goals old new before waiting x v n left there s at p = record { depths = depths; sound = sound; closed = closed }
  where
    is_v : (y : Sym) → has_symbol (v ∷ []) y ≡ true → y ≡ v
    is_v y h = elim (or_split (symbol_eq y v) false h) [ inl e ↦ symbol_same y v e | inr e ↦ cc ]

    depths : GoalsHaveDepths goals new
    depths g d place =
        elim (p.steps g) [
          | inl e ↦ e ∙ s.depths g d place
          | inr f ↦ absurd (let k : false ≡ true = sym f.1 ∙ at_place g 1 d goals place in cc)
        ]

    sound : IsSound links goals new
    sound y m is ng =
        elim (p.steps y) [
          | inl e ↦ s.sound y m (sym e ∙ is) ng
          | inr f ↦ subst (HasWalk links goals y) (some_same n m (sym f.2 ∙ is)) (walk_on links goals old s.depths s.sound x y n at (ap (links x) (is_v y f.0) ∙ there))
        ]

    fell : (y : Sym) (k : ℕ) → IsAtMost (old y) k → HasStayed old new y ⊎ HasFallen goals (v ∷ []) n old new waiting y → IsAtMost (new y) k
    fell y k (m, is, le) (inl e) = (m, e ∙ is, le)
    fell y k (m, is, le) (inr f) = (n, f.2, omega (arith, le, below_old (old y) n f.3 m is))

    met_v : (k : ℕ) → old x ≡ Some k → has_symbol goals v ≡ false → IsAtMost (new v) k
    met_v k is ng =
        elim (p.met v (or_first (symbol_eq v v) false (symbol_self v)) ng) [
          | inl le ↦ subst (IsAtMost (new v)) (some_same n k (sym at ∙ is)) le
          | inr none ↦ cc
        ]

    was : (z y : Sym) (k : ℕ) → links z y ≡ true → old z ≡ Some k → has_symbol goals y ≡ false → IsAtMost (new y) k ⊎ ((has_symbol waiting z ≡ true) ⊎ (left z y ≡ true))
    was z y k link is ng =
        elim (s.closed z y k link is ng) [
          | inl le ↦ inl (fell y k le (p.steps y))
          | inr (inl w) ↦ inr (inl (p.kept z w))
          | inr (inr l) ↦ elim (or_split (symbol_eq z x && symbol_eq y v) (left z y) l) [
            | inl both ↦
                let q = and_parts (symbol_eq z x) (symbol_eq y v) both in
                let yv = symbol_same y v q.1 in
                inl (subst (λ a. IsAtMost (new a) k) (sym yv) (met_v k (ap old (sym (symbol_same z x q.0)) ∙ is) (ap (has_symbol goals) (sym yv) ∙ ng)))
            | inr rest ↦ inr (inr rest)
          ]
        ]

    closed : (z y : Sym) (k : ℕ) → links z y ≡ true → new z ≡ Some k → has_symbol goals y ≡ false → IsAtMost (new y) k ⊎ ((has_symbol waiting z ≡ true) ⊎ (left z y ≡ true))
    closed z y k link is ng = elim (p.steps z) [ inl e ↦ was z y k link (sym e ∙ is) ng | inr f ↦ inr (inl f.4) ]

-- it is enough to leave what is linked and has a level
pub but_left : (links : Links) (goals : List Sym) (told : Labels) (waiting : List Sym) (left other : Links) → ((x y : Sym) (n : ℕ) → links x y ≡ true → told x ≡ Some n → left x y ≡ true → other x y ≡ true)
    → SpreadsBut links goals told waiting left → SpreadsBut links goals told waiting other
but_left links goals told waiting left other up s =
    record {
      depths = s.depths;
      sound = s.sound;
      closed = λ x y n link at ng. elim (s.closed x y n link at ng) [
        | inl le ↦ inl le
        | inr (inl w) ↦ inr (inl w)
        | inr (inr l) ↦ inr (inr (up x y n link at l))
      ];
    }

-- a symbol without a level has nothing to pass on
pub but_past : (links : Links) (goals : List Sym) (told : Labels) (waiting : List Sym) (x v : Sym) (left : Links) → told x ≡ None → SpreadsBut links goals told waiting (and_link x v left) → SpreadsBut links goals told waiting left
but_past links goals told waiting x v left none = but_left links goals told waiting (and_link x v left) left up
  where
    up : (a b : Sym) (n : ℕ) → links a b ≡ true → told a ≡ Some n → and_link x v left a b ≡ true → left a b ≡ true
    up a b n link at l =
        elim (or_split (symbol_eq a x && symbol_eq b v) (left a b) l) [
          | inl both ↦ absurd (let e : None ≡ Some n = sym none ∙ ap told (sym (symbol_same a x (and_parts (symbol_eq a x) (symbol_eq b v) both).0)) ∙ at in cc)
          | inr rest ↦ rest
        ]

-- with nothing left
pub but_none : (links : Links) (goals : List Sym) (told : Labels) (waiting : List Sym) → SpreadsBut links goals told waiting no_links → Spreads links goals told waiting
but_none links goals told waiting s =
    record {
      depths = s.depths;
      sound = s.sound;
      closed = λ x y n link at ng. elim (s.closed x y n link at ng) [
        | inl le ↦ inl le
        | inr (inl w) ↦ inr w
        | inr (inr l) ↦ absurd (let e : false ≡ true = l in cc)
      ];
    }

-- ---- one source after the other

and_false : (b : Bool) → (false && b) ≡ false
and_false b = refl

pub sources_step : (links : Links) (goals : List Sym) (told : Labels) (waiting : List Sym) (sources : List Sym) (i : ℕ) (d to : Sym) (left : Links) → i < length sources
    → SpreadsBut links goals told waiting (and_links (drop i sources) to left) → SpreadsBut links goals told waiting (and_link (get_or sources i d) to (and_links (drop (i + 1) sources) to left))
sources_step links goals told waiting sources i d to left lt =
    but_left links goals told waiting (and_links (drop i sources) to left) (and_link (get_or sources i d) to (and_links (drop (i + 1) sources) to left))
    (λ a b n link at l. step (symbol_eq a (get_or sources i d)) (has_symbol (drop (i + 1) sources) a) (symbol_eq b to) (left a b) (ap (λ h. (h && symbol_eq b to) || left a b) (sym (at_drop_more (λ l. has_symbol l a) sources i d lt)) ∙ l))
  where
    step : (p q t l : Bool) → (((p || q) && t) || l) ≡ true → ((p && t) || ((q && t) || l)) ≡ true
    step true q true l h = refl
    step true q false l h = step2 q l h
      where
        step2 : (q l : Bool) → l ≡ true → ((q && false) || l) ≡ true
        step2 true l h = h
        step2 false l h = h
    step false q t l h = h

pub sources_done : (links : Links) (goals : List Sym) (told : Labels) (waiting : List Sym) (to : Sym) (left : Links) → SpreadsBut links goals told waiting (and_links [] to left) → SpreadsBut links goals told waiting left
sources_done links goals told waiting to left = but_left links goals told waiting (and_links [] to left) left (λ a b n link at l. l)
