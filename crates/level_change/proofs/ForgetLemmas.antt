-- What is not forgotten keeps a walk, and what is not closed waits.
use Rattle.std.proofs.Common.{◌≡◌, ℕ, not, Bool, true, false, List, [], Option, Some, None, refl, sym, ap, subst, ◌∙◌, ◌⊎◌, inl, inr, arith}
use Rattle.soar_sym.specs.Equality.{symbol_eq}
use Rattle.soar_sym.specs.declared.symbol.Sym.{Sym}
use Rattle.defs_soar.specs.Levels.{goes_on_at}
use Rattle.defs_soar.specs.Sorted.{has_symbol}
use Rattle.level_laws.specs.Labels.{Links, Walks, starts, goes_on, Labels, as_told, depth_of_goal, IsAtMost, IsClosed, HasWalk, IsSound}
use Rattle.level_laws.proofs.SymbolLemmas.{symbol_same, symbol_self}
use Rattle.level_laws.proofs.ReachedLemmas.{or_split, or_first, or_second}
use Rattle.level_laws.proofs.LabelLemmas.{at_place, no_place, some_same, along}
use Rattle.level_graph.specs.Spreading.{Spreads}
use Rattle.level_change.specs.declared.forgetting.Had.{Had}
use Rattle.level_change.specs.Forgetting.{StaysGoal, Forgets, ForgettingIsSafe, Forgetting, has_had}

no_depth : (s : Sym) (goals : List Sym) (x : Option ℕ) → depth_of_goal goals s ≡ x → has_symbol goals s ≡ false → depth_of_goal goals s ≡ None
no_depth s goals None e h = e
no_depth s goals (Some d) e h = absurd (let f : true ≡ false = sym (at_place s 1 d goals e) ∙ h in cc)

-- no goal before or none after means none both times
was_none : (old new : List Sym) (s : Sym) → StaysGoal old new s → has_symbol new s ≡ false → has_symbol old s ≡ false
was_none old new s stays h = no_place s 1 old (sym stays ∙ no_depth s new (depth_of_goal new s) refl h)

is_none : (old new : List Sym) (s : Sym) → StaysGoal old new s → has_symbol old s ≡ false → has_symbol new s ≡ false
is_none old new s stays h = no_place s 1 new (stays ∙ no_depth s old (depth_of_goal old s) refl h)

not_true : (b : Bool) → not b ≡ true → b ≡ false
not_true true h = cc
not_true false h = refl

closed_of : (links : Links) (goals : List Sym) (told : Labels) → Spreads links goals told [] → IsClosed links goals told
closed_of links goals told s x y n link at ng = elim (s.closed x y n link at ng) [ inl le ↦ le | inr none ↦ cc ]

stays_if_kept : (links : Links) (goals : List Sym) (told : Labels) (new_links : Links) (new_goals : List Sym) (forgotten : Sym → Bool) → Forgets links goals told new_links new_goals forgotten
    → (s : Sym) (n : ℕ) → told s ≡ Some n → forgotten s ≡ false → StaysGoal goals new_goals s
stays_if_kept links goals told new_links new_goals forgotten f s n at kept =
    elim (f.by_goal s n at) [ inl stays ↦ stays | inr gone ↦ absurd (let e : true ≡ false = sym gone ∙ kept in cc) ]

abbrev Kept : Links → List Sym → Sym → ℕ → Sym → Type 0
Kept new_links new_goals g d s = (depth_of_goal new_goals g ≡ Some d) × Walks new_links new_goals g s

keeps_walk : (links : Links) (goals : List Sym) (told : Labels) (new_links : Links) (new_goals : List Sym) (forgotten : Sym → Bool) → Spreads links goals told []
    → Forgets links goals told new_links new_goals forgotten → (g : Sym) (d : ℕ) → depth_of_goal goals g ≡ Some d
    → (s : Sym) → Walks links goals g s → told s ≡ Some (as_told d) → (has_symbol goals s ≡ false) ⊎ (s ≡ g) → forgotten s ≡ false → Kept new_links new_goals g d s
keeps_walk links goals told new_links new_goals forgotten sp f g d place s starts at free kept =
    (stays_if_kept links goals told new_links new_goals forgotten f g (as_told d) at kept ∙ place, starts)
keeps_walk links goals told new_links new_goals forgotten sp f g d place s (goes_on x y w go link) at (inr same) kept =
    (stays_if_kept links goals told new_links new_goals forgotten f g (as_told d) (ap told (sym same) ∙ at) (ap forgotten (sym same) ∙ kept) ∙ place, subst (Walks new_links new_goals g) (sym same) starts)
keeps_walk links goals told new_links new_goals forgotten sp f g d place s (goes_on x y w go link) at (inl ng) kept =
    let (k, at_x, le) = along links goals told g (as_told d) (sp.depths g d place) (closed_of links goals told sp) x w go in
    let (m, at_y, ge) = closed_of links goals told sp x y k link at_x ng in
    let same : k ≡ as_told d = omega (arith, le, ge, some_same m (as_told d) (sym at_y ∙ at)) in
    let at_source : told x ≡ Some (as_told d) = at_x ∙ ap Some same in
    let kept_x : forgotten x ≡ false = source (forgotten x) refl at_source in
    let free : (has_symbol goals x ≡ false) ⊎ (x ≡ g) = elim (or_split (symbol_eq x g) (not (has_symbol goals x)) go) [ inl e ↦ inr (symbol_same x g e) | inr e ↦ inl (not_true (has_symbol goals x) e) ] in
    let (new_place, walk) = keeps_walk links goals told new_links new_goals forgotten sp f g d place x w at_source free kept_x in
    (new_place, goes_on x y walk (still free at_source kept_x) (linked at_source))
  where
    source : (b : Bool) → forgotten x ≡ b → told x ≡ Some (as_told d) → forgotten x ≡ false
    source false e h = e
    source true e h = absurd (let c : true ≡ false = sym (f.by_source x y (as_told d) link h at ng e) ∙ kept in cc)

    still : (has_symbol goals x ≡ false) ⊎ (x ≡ g) → told x ≡ Some (as_told d) → forgotten x ≡ false → goes_on_at new_goals g x ≡ true
    still (inr e) h k = or_first (symbol_eq x g) (not (has_symbol new_goals x)) (ap (λ z. symbol_eq z g) e ∙ symbol_self g)
    still (inl e) h k = or_second (symbol_eq x g) (not (has_symbol new_goals x)) (ap not (is_none goals new_goals x (stays_if_kept links goals told new_links new_goals forgotten f x (as_told d) h k) e))

    linked : told x ≡ Some (as_told d) → new_links x y ≡ true
    linked h = elim (f.by_link x y (as_told d) link h at ng) [ inl e ↦ e | inr e ↦ absurd (let c : true ≡ false = sym e ∙ kept in cc) ]

pub forgetting_is_safe : ForgettingIsSafe
forgetting_is_safe links goals told new_links new_goals forgotten kept waiting left sp f k waits = record { depths = k.goals; sound = sound; closed = closed }
  where
    walk_kept : (s : Sym) (m : ℕ) → told s ≡ Some m → has_symbol new_goals s ≡ false → forgotten s ≡ false → HasWalk new_links new_goals s m
    walk_kept s m at ng left =
        let was : has_symbol goals s ≡ false = was_none goals new_goals s (stays_if_kept links goals told new_links new_goals forgotten f s m at left) ng in
        let (g, d, place, eq, walk) = sp.sound s m at was in
        let (new_place, new_walk) = keeps_walk links goals told new_links new_goals forgotten sp f g d place s walk (at ∙ ap Some eq) (inl was) left in
        (g, d, new_place, eq, new_walk)

    sound_by : (s : Sym) (m : ℕ) → kept s ≡ Some m → has_symbol new_goals s ≡ false → (b : Bool) → forgotten s ≡ b → HasWalk new_links new_goals s m
    sound_by s m at ng true e = absurd (let c : None ≡ Some m = sym (k.gone s ng e) ∙ at in cc)
    sound_by s m at ng false e = walk_kept s m (sym (k.rest s ng e) ∙ at) ng e

    sound : IsSound new_links new_goals kept
    sound s m at ng = sound_by s m at ng (forgotten s) refl

    -- a symbol that stays a goal, or none, and has a level, had it before
    had_depth : (x : Sym) (n : ℕ) → kept x ≡ Some n → StaysGoal goals new_goals x → (p : Option ℕ) → depth_of_goal new_goals x ≡ p → has_symbol new_goals x ≡ true → told x ≡ Some n
    had_depth x n at stays None e h = absurd (let c : true ≡ false = sym h ∙ no_place x 1 new_goals e in cc)
    had_depth x n at stays (Some d) e h = sp.depths x d (sym stays ∙ e) ∙ sym (k.goals x d e) ∙ at

    had_level : (x : Sym) (n : ℕ) → kept x ≡ Some n → has_symbol new_goals x ≡ false → (b : Bool) → forgotten x ≡ b → told x ≡ Some n
    had_level x n at ng true e = absurd (let c : None ≡ Some n = sym (k.gone x ng e) ∙ at in cc)
    had_level x n at ng false e = sym (k.rest x ng e) ∙ at

    had : (x : Sym) (n : ℕ) → kept x ≡ Some n → StaysGoal goals new_goals x → (b : Bool) → has_symbol new_goals x ≡ b → told x ≡ Some n
    had x n at stays true e = had_depth x n at stays (depth_of_goal new_goals x) refl e
    had x n at stays false e = had_level x n at e (forgotten x) refl

    -- a goal before that is none after has a level, so it is forgotten
    was_free : (y : Sym) (p : Option ℕ) → depth_of_goal goals y ≡ p → has_symbol new_goals y ≡ false → forgotten y ≡ false → has_symbol goals y ≡ false
    was_free y None e ng left = no_place y 1 goals e
    was_free y (Some d) e ng left = was_none goals new_goals y (stays_if_kept links goals told new_links new_goals forgotten f y (as_told d) (sp.depths y d e) left) ng

    closed : (x y : Sym) (n : ℕ) → new_links x y ≡ true → kept x ≡ Some n → has_symbol new_goals y ≡ false → IsAtMost (kept y) n ⊎ ((has_symbol waiting x ≡ true) ⊎ (left x y ≡ true))
    closed x y n link at ng =
        elim (waits x y n link at ng) [
          | inl w ↦ inr (inl w)
          | inr (inl l) ↦ inr (inr l)
          | inr (inr o) ↦ inl (subst (λ z. IsAtMost z n) (sym (k.rest y ng o.1)) (closed_of links goals told sp x y n o.0 (had x n at o.2 (has_symbol new_goals x) refl) (was_free y (depth_of_goal goals y) refl ng o.1)))
        ]

-- Once nothing waits to be forgotten along the new links, it is enough that what stood by a link that is gone, and each goal that comes, goes or moves, is in the list.
pub forgets_of : (links : Links) (goals : List Sym) (told now : Labels) (new_links : Links) (new_goals : List Sym) (had : List Had) (x : Sym) → Forgetting new_links goals told now had [] x []
    → ((a b : Sym) (n : ℕ) → links a b ≡ true → told a ≡ Some n → told b ≡ Some n → has_symbol goals b ≡ false → (new_links a b ≡ true) ⊎ (has_had had b ≡ true))
    → ((s : Sym) (n : ℕ) → told s ≡ Some n → StaysGoal goals new_goals s ⊎ (has_had had s ≡ true))
    → Forgets links goals told new_links new_goals (has_had had)
forgets_of links goals told now new_links new_goals had x f by_link by_goal = record { by_link = by_link; by_source = by_source; by_goal = by_goal }
  where
    along_new : (a b : Sym) (n : ℕ) → new_links a b ≡ true → told a ≡ Some n → told b ≡ Some n → has_symbol goals b ≡ false → has_had had a ≡ true → has_had had b ≡ true
    along_new a b n link at at_b ng h =
        elim (f.next a b n link at at_b ng h) [
          | inl l ↦ l
          | inr (inl l) ↦ absurd (let c : false ≡ true = l in cc)
          | inr (inr l) ↦ absurd (let c : false ≡ true = l.1 in cc)
        ]

    by_source : (a b : Sym) (n : ℕ) → links a b ≡ true → told a ≡ Some n → told b ≡ Some n → has_symbol goals b ≡ false → has_had had a ≡ true → has_had had b ≡ true
    by_source a b n link at at_b ng h =
        elim (by_link a b n link at at_b ng) [
          | inl new ↦ along_new a b n new at at_b ng h
          | inr gone ↦ gone
        ]
