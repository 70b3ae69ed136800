-- What trimming keeps in any case: the first goals, and rows, inputs and firings that there were.
use Rattle.std.proofs.Common.{◌≡◌, refl, sym, ◌∙◌, ap, ℕ, zero, suc, ◌-◌, ◌≤◌, ◌<◌, ◌==◌, is_some, arith, List, [], ◌∷◌, length, Option, Some, None, nat_lt}
use Rattle.std.specs.Prelude.{take}
use Rattle.std.proofs.lemmas.List.{take-take}
use Rattle.soar_rule.specs.Repeat.{Turn, ends, goes_on, turns}
use Rattle.soar_wm.specs.declared.element.Element.{Element}
use Rattle.defs_soar.specs.declared.goal.Goal.{Goal}
use Rattle.defs_soar.specs.Held.{held}
use Rattle.defs_soar.specs.Levels.{reaches, level_in}
use Rattle.defs_soar.specs.Settling.{Supports, count_of, one_settling, settled}
use Rattle.settling_laws.proofs.MemberLemmas.{filter_within}
use Rattle.settling_laws.proofs.RepeatLemmas.{until_same_keeps}
use Rattle.settling_laws.proofs.SettlingLemmas.{filter_shorter, settled_is_within}
use Rattle.goal_trimming.specs.Broken.{highest_broken_by}
use Rattle.goal_trimming.specs.Held.{Held, held_after, kept_held, one_trim_held, settled_held, supports_held, trimmed_held, without_broken_held, without_goals_held}
use Rattle.goal_trimming.specs.Trims.{KeepsFirst}
use Rattle.goal_trimming.proofs.HeldLemmas.{broken_there, Fits, leaves, length_taken}

-- ---- lists of which the first items are left

all_taken : {A : Type 0} (xs : List A) → xs ≡ take (length xs) xs
all_taken [] = refl
all_taken (x ∷ xs) = ap (λ l. x ∷ l) (all_taken xs)

-- no more is taken than there is
taken_few : {A : Type 0} (n : ℕ) (xs : List A) → length (take n xs) ≤ length xs
taken_few zero xs = omega arith
taken_few (suc n) [] = omega arith
taken_few (suc n) (x ∷ xs) = omega (arith, taken_few n xs)

-- what is first among the first is first among all
taken_twice : {A : Type 0} (a b c : List A) → b ≡ take (length b) a → c ≡ take (length c) b → c ≡ take (length c) a
taken_twice a b c h k =
    let few : length c ≤ length b = omega (arith, ap (λ l. length l) k, taken_few (length c) b) in
    k ∙ ap (take (length c)) h ∙ take-take (length c) (length b) a few

-- ---- one step

pub keeps_all : (h : Held) → 1 ≤ length h.goals → Fits h → KeepsFirst h h
keeps_all h some fits = record {
  some = some;
  goals_are = all_taken h.goals;
  depends_are = all_taken h.depends;
  fits = fits;
  rows_are = λ row i. i;
  fewer_rows = omega arith;
  limit_is = refl;
  inputs_are = λ t i. i;
  live_are = λ l i. i;
}

keeps_twice : (a b c : Held) → KeepsFirst a b → KeepsFirst b c → KeepsFirst a c
keeps_twice a b c h k = record {
  some = k.some;
  goals_are = taken_twice a.goals b.goals c.goals h.goals_are k.goals_are;
  depends_are = taken_twice a.depends b.depends c.depends h.depends_are k.depends_are;
  fits = k.fits;
  rows_are = λ row i. h.rows_are row (k.rows_are row i);
  fewer_rows = omega (arith, h.fewer_rows, k.fewer_rows);
  limit_is = k.limit_is ∙ h.limit_is;
  inputs_are = λ t i. h.inputs_are t (k.inputs_are t i);
  live_are = λ l i. h.live_are l (k.live_are l i);
}

settled_fewer : (goals : List Goal) (s : Supports) → length (settled goals s).rows ≤ length s.rows
settled_fewer goals s = until_same_keeps (λ x. length x.rows ≤ length s.rows) (one_settling goals) (λ x y. count_of x == count_of y) round (count_of s) s (omega arith)
  where
    round : (x : Supports) → length x.rows ≤ length s.rows → length (one_settling goals x).rows ≤ length s.rows
    round x h = omega (arith, filter_shorter (λ row. is_some (level_in goals (reaches goals (held x.rows goals x.inputs)) row.wish.id)) x.rows)

settled_keeps : (h : Held) → 1 ≤ length h.goals → Fits h → KeepsFirst h (settled_held h)
settled_keeps h some fits =
    let w = settled_is_within h.goals (supports_held h) in
    record {
      some = some;
      goals_are = all_taken h.goals;
      depends_are = all_taken h.depends;
      fits = fits;
      rows_are = w.rows;
      fewer_rows = settled_fewer h.goals (supports_held h);
      limit_is = refl;
      inputs_are = w.inputs;
      live_are = λ l i. i;
    }

goes_keeps : (h : Held) (depth : ℕ) → Fits h → 2 ≤ depth → depth ≤ length h.goals → KeepsFirst h (without_goals_held depth h)
goes_keeps h depth fits low high =
    let l = leaves h depth fits low high in
    let goals : depth - 1 ≡ length (take (depth - 1) h.goals) = sym l.goals_are in
    let tags : depth - 2 ≡ length (take (depth - 2) h.depends) = sym (length_taken (depth - 2) h.depends (omega arith)) in
    record {
      some = l.some;
      goals_are = ap (λ n. take n h.goals) goals;
      depends_are = ap (λ n. take n h.depends) tags;
      fits = l.fits;
      rows_are = filter_within _ h.prefs.rows;
      fewer_rows = filter_shorter _ h.prefs.rows;
      limit_is = refl;
      inputs_are = λ t i. i;
      live_are = filter_within (λ l. nat_lt l.depth depth) h.live;
    }

-- ---- turn by turn

module _ (elements : List Element) (first : Held) where
  abbrev Keeps : Held → Turn Held → Type 0
  Keeps old (ends h) = KeepsFirst first h
  Keeps old (goes_on h) = KeepsFirst first h × (length h.goals < length old.goals)

  one_keeps : (h : Held) → KeepsFirst first h → Keeps h (one_trim_held elements h)
  one_keeps h keeps = go (highest_broken_by h.depends elements (kept_held (settled_held h)) 2) refl
    where
      settles : KeepsFirst first (settled_held h)
      settles = keeps_twice first h (settled_held h) keeps (settled_keeps h keeps.some keeps.fits)

      go : (o : Option ℕ) → highest_broken_by h.depends elements (kept_held (settled_held h)) 2 ≡ o → Keeps h (without_broken_held (settled_held h) o)
      go None is = settles
      go (Some depth) is =
          let k = broken_there (settled_held h) elements depth keeps.fits is in (
            keeps_twice first (settled_held h) (without_goals_held depth (settled_held h)) settles (goes_keeps (settled_held h) depth keeps.fits k.0 k.1),
            (leaves (settled_held h) depth keeps.fits k.0 k.1).less,
          )

  all_keep : (n : ℕ) (h : Held) → KeepsFirst first h → length h.goals < n → KeepsFirst first (held_after (turns n (one_trim_held elements) h))
  all_keep zero h keeps few = absurd (omega arith)
  all_keep (suc n) h keeps few = go (one_trim_held elements h) (one_keeps h keeps) (all_keep n)
    where
      go : (t : Turn Held) → Keeps h t → ((h : Held) → KeepsFirst first h → length h.goals < n → KeepsFirst first (held_after (turns n (one_trim_held elements) h)))
          → KeepsFirst first (held_after (elim t as (λ _. Turn Held) [ ends b ↦ ends b | goes_on b ↦ turns n (one_trim_held elements) b ]))
      go (ends b) k later = k
      go (goes_on b) k later = let less = k.1 in later b k.0 (omega arith)

pub trimmed_keeps : (elements : List Element) (h : Held) → 1 ≤ length h.goals → Fits h → KeepsFirst h (trimmed_held elements h)
unfolding trimmed_held
trimmed_keeps elements h some fits = all_keep elements h (suc (length h.goals)) h (keeps_all h some fits) (omega arith)
