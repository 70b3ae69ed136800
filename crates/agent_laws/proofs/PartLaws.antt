-- How a part of the history that has all that roots reach is kept.
use Rattle.std.proofs.Common.{◌≡◌, refl, sym, ◌∙◌, ap, subst, ℕ, ◌<◌, Bool, true, false, ◌==◌, cond, inl, inr, ◌⊎◌, arith, List, [], ◌∷◌, ◌++◌}
use Rattle.std.proofs.lemmas.List.{append-nil}
use Rattle.std.specs.List.{list_all}
use Rattle.defs_soar.specs.Explanation.{explaining, firing_of}
use Rattle.defs_soar.specs.History.{FiringOf}
use Rattle.defs_soar.specs.Laws.{IsIn}
use Rattle.defs_soar.specs.Standing.{AreFrom, is_recorded}
use Rattle.agent_laws.specs.Records.{AreRisingFrom, FewerRootsNeedLess, FiringsJoin, PartsOfParts, RisingAreApart}
use Rattle.agent_laws.proofs.DependenceLaws.{filter_both, none_of}
use Rattle.agent_laws.proofs.ReachLaws.{explaining_has_makers, explaining_has_roots, explaining_within, numbers_of_makers}
use Rattle.agent_laws.proofs.RecordLaws.{from_there, numbers_by_record, roots_reach_more}
use Rattle.learning_laws.proofs.Lists.{all_each, any_in, any_some, each_all, filter_keeps, filter_within, in_append, in_left, in_right, same_number}

pub fewer_roots_need_less : FewerRootsNeedLess
fewer_roots_need_less kept firings roots fewer within h = record {
  apart = h.apart;
  from_history = h.from_history;
  reaches_all = all_each (is_recorded kept) (explaining firings fewer) (λ n i. each_all (is_recorded kept) n (explaining firings roots) h.reaches_all (roots_reach_more firings fewer roots within n i));
}

-- a firing that a history has under its number is one of it
is_there : (history kept : List FiringOf) (f : FiringOf) → AreFrom history kept → IsIn f kept → IsIn f history
is_there history kept f h i = (filter_within (λ g. g.number == f.number) history f (subst (IsIn f) (sym (from_there history kept f h i)) (inl refl))).0

all_from : (history kept : List FiringOf) → ((f : FiringOf) → IsIn f kept → firing_of history f.number ≡ f ∷ []) → AreFrom history kept
all_from history [] h = tt
all_from history (f ∷ kept) h = (h f (inl refl), all_from history kept (λ g i. h g (inr i)))

each_rising : (least : ℕ) (fs : List FiringOf) → AreRisingFrom least fs → (f : FiringOf) → IsIn f fs → (least < f.number) × (firing_of fs f.number ≡ f ∷ [])
each_rising least [] h f i = absurd i
each_rising least (g ∷ fs) h f i = go i (λ x j. each_rising g.number fs h.1 x j)
  where
    itself : (b : Bool) → (g.number == g.number) ≡ b → firing_of fs g.number ≡ [] → cond b (g ∷ firing_of fs g.number) (firing_of fs g.number) ≡ g ∷ []
    itself true q none = ap (λ l. g ∷ l) none
    itself false q none = absurd (grind arith)

    other : (b : Bool) → (g.number == f.number) ≡ b → g.number < f.number → firing_of fs f.number ≡ f ∷ [] → cond b (g ∷ firing_of fs f.number) (firing_of fs f.number) ≡ f ∷ []
    other true q less later = let e : g.number ≡ f.number = same_number g.number f.number q in absurd (omega arith)
    other false q less later = later

    go : (g ≡ f) ⊎ IsIn f fs → ((x : FiringOf) → IsIn x fs → (g.number < x.number) × (firing_of fs x.number ≡ x ∷ [])) → (least < f.number) × (firing_of (g ∷ fs) f.number ≡ f ∷ [])
    go (inl e) later =
        subst (λ (x : FiringOf). (least < x.number) × (firing_of (g ∷ fs) x.number ≡ x ∷ [])) e (h.0, itself (g.number == g.number) refl (none_of g.number fs (λ x j. (later x j).0)))
    go (inr j) later =
        let k = later f j in
        let low : least < g.number = h.0 in
        let high : g.number < f.number = k.0 in (omega arith, other (g.number == f.number) refl high k.1)

pub rising_are_apart : RisingAreApart
rising_are_apart least kept h = all_from kept kept (λ f i. (each_rising least kept h f i).1)

pub parts_of_parts : PartsOfParts
parts_of_parts less kept firings roots h k = record {
  apart = k.apart;
  from_history = all_from firings less (λ f i. from_there firings kept f h.from_history (is_there kept less f k.from_history i));
  reaches_all = subst (λ ns. list_all (is_recorded less) ns ≡ true) (numbers_by_record kept firings roots h) k.reaches_all;
}

-- ---- a firing more

module _ (f : FiringOf) where
  -- it is not found by other numbers, and by its own
  none_else : (n : ℕ) → n < f.number → firing_of (f ∷ []) n ≡ []
  none_else n l = none_of n (f ∷ []) (λ g i. elim i [ inl e ↦ subst (λ (x : FiringOf). n < x.number) e l | inr z ↦ absurd z ])

  only_it : firing_of (f ∷ []) f.number ≡ f ∷ []
  only_it = go (f.number == f.number) refl
    where
      go : (b : Bool) → (f.number == f.number) ≡ b → cond b (f ∷ []) [] ≡ f ∷ []
      go true q = refl
      go false q = absurd (grind arith)

  none_before : (fs : List FiringOf) → ((g : FiringOf) → IsIn g fs → g.number < f.number) → firing_of fs f.number ≡ []
  none_before [] h = refl
  none_before (g ∷ fs) h = go (g.number == f.number) refl (none_before fs (λ x i. h x (inr i)))
    where
      go : (b : Bool) → (g.number == f.number) ≡ b → firing_of fs f.number ≡ [] → cond b (g ∷ firing_of fs f.number) (firing_of fs f.number) ≡ []
      go true q later = let less : g.number < f.number = h g (inl refl) in let e : g.number ≡ f.number = same_number g.number f.number q in absurd (omega arith)
      go false q later = later

  found_before : (fs : List FiringOf) (g : FiringOf) → g.number < f.number → firing_of fs g.number ≡ g ∷ [] → firing_of (fs ++ f ∷ []) g.number ≡ g ∷ []
  found_before fs g l h = filter_both (λ x. x.number == g.number) fs (f ∷ []) ∙ ap (λ x. firing_of fs g.number ++ x) (none_else g.number l) ∙ append-nil (firing_of fs g.number) ∙ h

  found_itself : (fs : List FiringOf) → ((g : FiringOf) → IsIn g fs → g.number < f.number) → firing_of (fs ++ f ∷ []) f.number ≡ f ∷ []
  found_itself fs h = filter_both (λ x. x.number == f.number) fs (f ∷ []) ∙ ap (λ x. x ++ firing_of (f ∷ []) f.number) (none_before fs h) ∙ only_it

  -- all are found with one more
  found : (fs kept : List FiringOf) → ((g : FiringOf) → IsIn g fs → g.number < f.number) → ((g : FiringOf) → IsIn g kept → g.number < f.number) → AreFrom fs kept → AreFrom (fs ++ f ∷ []) (kept ++ f ∷ [])
  found fs kept low less h = all_from (fs ++ f ∷ []) (kept ++ f ∷ []) (λ g i. elim (in_append g kept (f ∷ []) i) [
    | inl j ↦ found_before fs g (less g j) (from_there fs kept g h j)
    | inr j ↦ elim j [ inl e ↦ subst (λ (x : FiringOf). firing_of (fs ++ f ∷ []) x.number ≡ x ∷ []) e (found_itself fs low) | inr z ↦ absurd z ]
  ])

pub firings_join : FiringsJoin
firings_join kept firings roots f h low made = record {
  apart = found f kept kept less less h.apart;
  from_history = found f firings kept low less h.from_history;
  reaches_all = all_each (is_recorded (kept ++ f ∷ [])) (explaining (firings ++ f ∷ []) (f.number ∷ roots)) (λ n i. recorded n (reached n i));
}
  where
    less : (g : FiringOf) → IsIn g kept → g.number < f.number
    less g i = low g (is_there firings kept g h.from_history i)

    same : (f.number == f.number) ≡ true
    same = grind arith

    recorded : (n : ℕ) → (f.number ≡ n) ⊎ IsIn n (explaining firings roots) → is_recorded (kept ++ f ∷ []) n ≡ true
    recorded n (inl e) = subst (λ x. is_recorded (kept ++ f ∷ []) x ≡ true) e (any_in (λ g. g.number == f.number) f (kept ++ f ∷ []) (in_right f kept (f ∷ []) (inl refl)) same)
    recorded n (inr i) =
        let g = any_some (λ g. g.number == n) kept (each_all (is_recorded kept) n (explaining firings roots) h.reaches_all i) in
        any_in (λ g. g.number == n) g.0 (kept ++ f ∷ []) (in_left g.0 kept (f ∷ []) g.1) g.2

    reached : (n : ℕ) → IsIn n (explaining (firings ++ f ∷ []) (f.number ∷ roots)) → (f.number ≡ n) ⊎ IsIn n (explaining firings roots)
    reached =
        explaining_within (firings ++ f ∷ []) (λ n. (f.number ≡ n) ⊎ IsIn n (explaining firings roots)) (f.number ∷ roots)
        (λ n i. elim i [ inl e ↦ inl e | inr j ↦ inr (explaining_has_roots firings roots n j) ])
        (λ n g p i m j. let k = filter_within (λ x. x.number == n) (firings ++ f ∷ []) g i in inr (makers n g p k.1 (in_append g firings (f ∷ []) k.0) m j))
      where
        makers : (n : ℕ) (g : FiringOf) → (f.number ≡ n) ⊎ IsIn n (explaining firings roots) → (g.number == n) ≡ true → IsIn g firings ⊎ ((f ≡ g) ⊎ ⊥) → (m : ℕ) → IsIn m (numbers_of_makers g) → IsIn m (explaining firings roots)
        makers n g p q (inr (inl e)) m j = made m (subst (λ (x : FiringOf). IsIn m (numbers_of_makers x)) (sym e) j)
        makers n g p q (inr (inr z)) m j = absurd z
        makers n g (inl e) q (inl i) m j = let small : g.number < f.number = low g i in let same : g.number ≡ n = same_number g.number n q in absurd (omega arith)
        makers n g (inr p) q (inl i) m j = explaining_has_makers firings roots n g m p (filter_keeps (λ x. x.number == n) firings g i q) j
