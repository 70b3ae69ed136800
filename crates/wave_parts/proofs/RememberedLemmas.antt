-- The firings of a wave join what is remembered.
use Rattle.std.proofs.Common.{◌≡◌, ◌∙◌, ℕ, suc, true, ◌==◌, ◌<◌, ◌≤◌, ◌⊎◌, List, [], ◌∷◌, ◌++◌, map, filter, flat_map, inl, inr, refl, sym, ap, subst, arith}
use Rattle.soar_sym.specs.declared.symbol.Sym.{Sym}
use Rattle.defs_soar.specs.declared.goal.Goal.{Goal}
use Rattle.defs_soar.specs.declared.preference.Preference.{Preference}
use Rattle.defs_soar.specs.Dependencies.{counts_for, higher_grounds}
use Rattle.defs_soar.specs.Explanation.{maker_named}
use Rattle.defs_soar.specs.Goals.{goal_ids}
use Rattle.defs_soar.specs.History.{FiringOf, Reach, RecordedFiring}
use Rattle.defs_soar.specs.Laws.{IsIn}
use Rattle.defs_soar.specs.Standing.{dependencies_from, is_recorded}
use Rattle.defs_soar.specs.WaveAtHand.{Fresh}
use Rattle.defs_soar.specs.Waves.{lasting_of}
use Rattle.agent_laws.specs.Dependence.{AreLater, GoalsDependOnMore, MakersAreEarlier, each_with, firings_in, tags_from}
use Rattle.agent_laws.specs.Records.{AreRisingFrom, IsPartOf}
use Rattle.agent_laws.proofs.DependenceLaws.{tags_by_record}
use Rattle.dependency_tables.specs.Tables.{each_with_tags, tables_of}
use Rattle.learning_laws.proofs.Lists.{any_in, filter_within, in_right}
use Rattle.record_laws.specs.Closed.{AreRecorded}
use Rattle.firing_records.specs.Recorded.{RecordedAs, recorded_seen}
use Rattle.firing_records.specs.declared.outcome.Recorded.{Recorded}
use Rattle.goal_dependence.specs.Remembered.{firings_of, past_by, tags_found, tags_found_from}
use Rattle.goal_dependence.proofs.DependenceSteps.{tables_joined}
use Rattle.firing_records.specs.Recorded.{fresh_seen}
use Rattle.wave_firings.specs.Numbered.{AreMakersUpTo, AreRecordedUpTo}

-- ---- numbers

rising_above : (last : ℕ) (firings : List FiringOf) (f : FiringOf) → AreRisingFrom last firings → IsIn f firings → last < f.number
rising_above last [] f h is = absurd is
rising_above last (g ∷ firings) f h (inl e) = let same : g.number ≡ f.number = ap (λ (x : FiringOf). x.number) e in omega (arith, h.0, same)
rising_above last (g ∷ firings) f h (inr is) = omega (arith, h.0, rising_above g.number firings f h.1 is)

map_twice : {A B C : Type 0} (f : A → B) (g : B → C) (xs : List A) → map g (map f xs) ≡ map (λ x. g (f x)) xs
map_twice f g [] = refl
map_twice f g (x ∷ xs) = ap (λ l. g (f x) ∷ l) (map_twice f g xs)

pub in_either : {A : Type 0} (x : A) (xs ys : List A) → IsIn x (xs ++ ys) → IsIn x xs ⊎ IsIn x ys
in_either x [] ys is = inr is
in_either x (z ∷ xs) ys (inl e) = inl (inl e)
in_either x (z ∷ xs) ys (inr is) = elim (in_either x xs ys is) [ inl here ↦ inl (inr here) | inr there ↦ inr there ]

pub recorded_within : (last : ℕ) (kept new : List FiringOf) → AreRecordedUpTo last kept → AreRecordedUpTo last new → AreRecordedUpTo last (kept ++ new)
recorded_within last kept new up_to more f is = elim (in_either f kept new is) [ inl old ↦ up_to f old | inr here ↦ more f here ]

-- the firings that are recorded are those of the wave
pub recorded_firings : (recorded : List Recorded) (fresh : List Fresh) → map recorded_seen recorded ≡ map fresh_seen fresh → firings_of recorded ≡ map (λ (x : Fresh). x.firing) fresh
recorded_firings recorded fresh same =
    sym (map_twice recorded_seen (λ (r : RecordedAs). r.firing) recorded) ∙ ap (map (λ (r : RecordedAs). r.firing)) same ∙ map_twice fresh_seen (λ (r : RecordedAs). r.firing) fresh

-- ---- makers

-- the firing stands among those that are recorded
at_firing : (recorded : List Recorded) (f : FiringOf) → IsIn f (firings_of recorded) → (r : RecordedAs) × IsIn r (map recorded_seen recorded) × (r.firing ≡ f)
at_firing [] f is = absurd is
at_firing (r ∷ recorded) f (inl e) = (recorded_seen r, inl refl, e)
at_firing (r ∷ recorded) f (inr is) = let later = at_firing recorded f is in (later.0, inr later.1, later.2)

pub makers_of_new : (last : ℕ) (recorded : List Recorded) → AreRisingFrom last (firings_of recorded) → AreMakersUpTo last (map recorded_seen recorded) → MakersAreEarlier (firings_of recorded)
makers_of_new last recorded rising makers f is n named =
    let at = at_firing recorded f is in
    let up_to : n ≤ last = makers at.0 n at.1 (subst (λ (g : FiringOf). IsIn n (flat_map maker_named g.used)) (sym at.2) named) in
    omega (arith, up_to, rising_above last (firings_of recorded) f rising is)

pub makers_joined : (kept new : List FiringOf) → MakersAreEarlier kept → MakersAreEarlier new → MakersAreEarlier (kept ++ new)
makers_joined kept new old more f is = elim (in_either f kept new is) [ inl here ↦ old f here | inr there ↦ more f there ]

-- ---- as they join the history

abbrev past_of : Reach → List Preference → RecordedAs → RecordedFiring
past_of reach added r = record { firing = r.firing; goal = r.goal; operator_kind = r.operator_kind; lasting = lasting_of added r.firing.number; before = reach }

pub pasts_are : (reach : Reach) (added : List Preference) (recorded : List Recorded) (fresh : List Fresh) → map recorded_seen recorded ≡ map fresh_seen fresh
    → map (past_by reach added) recorded ≡ map (λ (x : Fresh). past_of reach added (fresh_seen x)) fresh
pasts_are reach added recorded fresh same =
    sym (map_twice recorded_seen (past_of reach added) recorded) ∙ ap (map (past_of reach added)) same ∙ map_twice fresh_seen (past_of reach added) fresh

pub firings_joined : (reach : Reach) (added : List Preference) (recorded : List Recorded) → firings_of recorded ≡ firings_in (map (past_by reach added) recorded)
firings_joined reach added recorded = sym (map_twice (past_by reach added) (λ (p : RecordedFiring). p.firing) recorded)

firing_of_past : (history : List RecordedFiring) (p : RecordedFiring) → IsIn p history → IsIn p.firing (firings_in history)
firing_of_past [] p is = absurd is
firing_of_past (q ∷ history) p (inl e) = inl (ap (λ (x : RecordedFiring). x.firing) e)
firing_of_past (q ∷ history) p (inr is) = inr (firing_of_past history p is)

pub are_later : (last : ℕ) (history : List RecordedFiring) (reach : Reach) (added : List Preference) (recorded : List Recorded) → AreRecordedUpTo last (firings_in history)
    → AreRisingFrom last (firings_of recorded) → AreLater history (map (past_by reach added) recorded)
are_later last history reach added recorded up_to rising p q old new =
    let above = rising_above last (firings_of recorded) q.firing rising (subst (IsIn q.firing) (sym (firings_joined reach added recorded)) (firing_of_past (map (past_by reach added) recorded) q new)) in
    omega (arith, above, up_to p.firing (firing_of_past history p old))

-- the goal of each is one of the goals
pub goal_of_past : (reach : Reach) (added : List Preference) (recorded : List Recorded) (p : RecordedFiring) → IsIn p (map (past_by reach added) recorded)
    → (r : RecordedAs) × IsIn r (map recorded_seen recorded) × (r.goal ≡ p.goal)
goal_of_past reach added [] p is = absurd is
goal_of_past reach added (r ∷ recorded) p (inl e) = (recorded_seen r, inl refl, ap (λ (x : RecordedFiring). x.goal) e)
goal_of_past reach added (r ∷ recorded) p (inr is) = let later = goal_of_past reach added recorded p is in (later.0, inr later.1, later.2)

-- a goal's identifier
pub at_goal : (goals : List Goal) (s : Sym) → IsIn s (goal_ids goals) → (g : Goal) × IsIn g goals × (g.id ≡ s)
at_goal [] s is = absurd is
at_goal (g ∷ goals) s (inl e) = (g, inl refl, e)
at_goal (g ∷ goals) s (inr is) = let later = at_goal goals s is in (later.0, inr later.1, later.2)

pub firings_append : (history more : List RecordedFiring) → firings_in (history ++ more) ≡ firings_in history ++ firings_in more
firings_append [] more = refl
firings_append (p ∷ history) more = ap (λ l. p.firing ∷ l) (firings_append history more)

tags_are : (history pasts : List RecordedFiring) (depth : ℕ) (goals : List Goal) → tags_from history pasts depth goals ≡ tags_found_from (firings_in history) pasts depth goals
tags_are history pasts depth [] = refl
tags_are history pasts depth (goal ∷ goals) = ap (λ l. tags_found (firings_in history) pasts goal.id depth ∷ l) (tags_are history pasts (suc depth) goals)

-- a firing that joined is recorded
pub number_recorded : (kept new all : List FiringOf) (pasts : List RecordedFiring) → all ≡ kept ++ new → new ≡ firings_in pasts → (p : RecordedFiring) → IsIn p pasts → AreRecorded all (p.firing.number ∷ [])
number_recorded kept new all pasts all_are new_are p is n (inl e) =
    subst (λ m. is_recorded all m ≡ true) e
    (subst (λ fs. is_recorded fs p.firing.number ≡ true) (sym all_are)
    (any_in (λ (f : FiringOf). f.number == p.firing.number) p.firing (kept ++ new) (in_right p.firing kept new (subst (IsIn p.firing) (sym new_are) (firing_of_past pasts p is))) (grind arith)))
number_recorded kept new all pasts all_are new_are p is n (inr none) = absurd none

-- a part of the history that has all that these firings reach gives the same tags
pub tags_kept : (kept whole : List FiringOf) (pasts : List RecordedFiring) → ((p : RecordedFiring) → IsIn p pasts → IsPartOf kept whole (p.firing.number ∷ [])) → (depth : ℕ) (goals : List Goal)
    → tags_found_from kept pasts depth goals ≡ tags_found_from whole pasts depth goals
tags_kept kept whole pasts parts depth [] = refl
tags_kept kept whole pasts parts depth (goal ∷ goals) =
    let here = filter (counts_for goal.id depth) pasts in
    let same = each_kept here (λ p is. parts p (filter_within (counts_for goal.id depth) pasts p is).0) in
    λ k. same k ∷ tags_kept kept whole pasts parts (suc depth) goals k
  where
    each_kept : (ps : List RecordedFiring) → ((p : RecordedFiring) → IsIn p ps → IsPartOf kept whole (p.firing.number ∷ [])) → flat_map (higher_grounds kept depth) ps ≡ flat_map (higher_grounds whole depth) ps
    each_kept [] h = refl
    each_kept (p ∷ ps) h = λ k. tags_by_record kept whole depth p (h p (inl refl)) k ++ each_kept ps (λ q is. h q (inr is)) k

-- the tags that the wave's firings add join the tables
pub dependencies_joined : GoalsDependOnMore → (history pasts : List RecordedFiring) (depends : List (List ℕ)) (goals : List Goal) → depends ≡ tables_of (dependencies_from history 2 goals)
    → MakersAreEarlier (firings_in history) → AreLater history pasts
    → each_with_tags depends (tags_found_from (firings_in history ++ firings_in pasts) pasts 2 goals) ≡ tables_of (dependencies_from (history ++ pasts) 2 goals)
dependencies_joined law history pasts depends goals depends_are earlier later =
    (λ k. each_with_tags (depends_are k) (tags_found_from (sym (firings_append history pasts) k) pasts 2 goals))
    ∙ tables_joined (dependencies_from history 2 goals) (tags_found_from (firings_in (history ++ pasts)) pasts 2 goals)
    ∙ ap (λ found. tables_of (each_with (dependencies_from history 2 goals) found)) (sym (tags_are (history ++ pasts) pasts 2 goals))
    ∙ ap tables_of (sym (law history pasts 2 goals earlier later))
