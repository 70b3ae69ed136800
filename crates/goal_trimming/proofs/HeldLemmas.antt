-- Trimming by tags, one turn after the other.
use Rattle.std.proofs.Common.{◌≡◌, refl, sym, ◌∙◌, ap, subst, ℕ, zero, suc, ◌-◌, ◌≤◌, ◌<◌, arith, List, [], ◌∷◌, length, Option, Some, None}
use Rattle.std.specs.Prelude.{take}
use Rattle.soar_sym.specs.declared.symbol.Triple.{Triple}
use Rattle.soar_rule.specs.Repeat.{Turn, ends, goes_on, turns}
use Rattle.soar_wm.specs.declared.element.Element.{Element}
use Rattle.goal_trimming.specs.Broken.{highest_broken_by}
use Rattle.goal_trimming.specs.Held.{Held, held_after, kept_held, one_trim_held, settled_held, trimmed_held, without_broken_held, without_goals_held}
use Rattle.dependency_tables.proofs.FindingLemmas.{found_within}

-- tags are kept for each goal below the top
abbrev pub Fits : Held → Type 0
Fits h = suc (length h.depends) ≡ length h.goals

pub length_taken : {A : Type 0} (n : ℕ) (xs : List A) → n ≤ length xs → length (take n xs) ≡ n
length_taken zero xs h = refl
length_taken (suc n) [] h = absurd (omega arith)
length_taken (suc n) (x ∷ xs) h = let k = length_taken n xs (omega arith) in omega arith

-- what is left where a goal below the top goes
pub record Leaves (depth : ℕ) (old new : Held) : Type 0 where
  pub goals_are : length new.goals ≡ depth - 1
  pub less : length new.goals < length old.goals
  pub some : 1 ≤ length new.goals
  pub fits : Fits new

pub leaves : (h : Held) (depth : ℕ) → Fits h → 2 ≤ depth → depth ≤ length h.goals → Leaves depth h (without_goals_held depth h)
leaves h depth fits low high =
    let goals : length (take (depth - 1) h.goals) ≡ depth - 1 = length_taken (depth - 1) h.goals (omega arith) in
    let tags : length (take (depth - 2) h.depends) ≡ depth - 2 = length_taken (depth - 2) h.depends (omega arith) in
    record { goals_are = goals; less = omega arith; some = omega arith; fits = omega arith }

-- the depth that is found is that of a goal below the top
pub broken_there : (h : Held) (elements : List Element) (depth : ℕ) → Fits h → highest_broken_by h.depends elements (kept_held h) 2 ≡ Some depth → (2 ≤ depth) × (depth ≤ length h.goals)
broken_there h elements depth fits is =
    let k = found_within _ 2 h.depends depth is in
    let low = k.0 in
    let high = k.1 in (omega arith, omega arith)

module _ (elements : List Element) where
  -- what one turn leaves
  abbrev pub Turns : Held → Turn Held → Type 0
  Turns old (ends h) = Unit {0}
  Turns old (goes_on h) = Fits h × (length h.goals < length old.goals)

  turn_fits : (h : Held) → Fits h → Turns h (one_trim_held elements h)
  turn_fits h fits = go (highest_broken_by h.depends elements (kept_held (settled_held h)) 2) refl
    where
      go : (o : Option ℕ) → highest_broken_by h.depends elements (kept_held (settled_held h)) 2 ≡ o → Turns h (without_broken_held (settled_held h) o)
      go None is = tt
      go (Some depth) is =
          let k = broken_there (settled_held h) elements depth fits is in
          let l = leaves (settled_held h) depth fits k.0 k.1 in (l.fits, l.less)

  abbrev pub turned : ℕ → Turn Held → Turn Held
  turned n t = elim t as (λ _. Turn Held) [ ends h ↦ ends h | goes_on h ↦ turns n (one_trim_held elements) h ]

  -- more turns than there are goals make no difference
  enough : (n m : ℕ) (h : Held) → Fits h → length h.goals < n → length h.goals < m → turns n (one_trim_held elements) h ≡ turns m (one_trim_held elements) h
  enough zero m h fits few many = absurd (omega arith)
  enough (suc n) zero h fits few many = absurd (omega arith)
  enough (suc n) (suc m) h fits few many = go (one_trim_held elements h) (turn_fits h fits) (enough n m)
    where
      go : (t : Turn Held) → Turns h t → ((h : Held) → Fits h → length h.goals < n → length h.goals < m → turns n (one_trim_held elements) h ≡ turns m (one_trim_held elements) h)
          → turned n t ≡ turned m t
      go (ends b) k later = refl
      go (goes_on b) k later = let less = k.1 in later b k.0 (omega arith) (omega arith)

  pub turn_by : (n : ℕ) (h : Held) (t : Turn Held) → one_trim_held elements h ≡ t → turns (suc n) (one_trim_held elements) h ≡ turned n t
  turn_by n h t is = ap (turned n) is

  trim_to : (h : Held) (o : Option ℕ) → highest_broken_by h.depends elements (kept_held (settled_held h)) 2 ≡ o → one_trim_held elements h ≡ without_broken_held (settled_held h) o
  trim_to h o is = ap (without_broken_held (settled_held h)) is

  -- where none is broken it ends settled
  pub trimmed_ends : (h : Held) → highest_broken_by h.depends elements (kept_held (settled_held h)) 2 ≡ None → trimmed_held elements h ≡ settled_held h
  unfolding trimmed_held
  trimmed_ends h is = ap held_after (turn_by (length h.goals) h (ends (settled_held h)) (trim_to h None is))

  -- where a goal is broken it goes on without it
  pub trimmed_goes_on : (h : Held) (depth : ℕ) → Fits h → highest_broken_by h.depends elements (kept_held (settled_held h)) 2 ≡ Some depth
      → trimmed_held elements h ≡ trimmed_held elements (without_goals_held depth (settled_held h))
  unfolding trimmed_held
  trimmed_goes_on h depth fits is =
      let k = broken_there (settled_held h) elements depth fits is in
      let l = leaves (settled_held h) depth fits k.0 k.1 in
      let less : length (take (depth - 1) h.goals) < length h.goals = l.less in
      ap held_after (turn_by (length h.goals) h (goes_on (without_goals_held depth (settled_held h))) (trim_to h (Some depth) is)
      ∙ enough (length h.goals) (suc (length (take (depth - 1) h.goals))) (without_goals_held depth (settled_held h)) l.fits less (omega arith))

-- ---- one round of trimming

-- the settled state, whose goal of a depth is the highest that is broken
pub record IsBroken (elements : List Element) (h settled : Held) (kept : List Triple) (o : Option ℕ) : Type 0 where
  pub settled_is : settled ≡ settled_held h
  pub kept_is : kept ≡ kept_held (settled_held h)
  pub broken_is : o ≡ highest_broken_by h.depends elements kept 2

pub broken_is_settled : (elements : List Element) (h settled : Held) (kept : List Triple) (o : Option ℕ) → IsBroken elements h settled kept o
    → highest_broken_by h.depends elements (kept_held (settled_held h)) 2 ≡ o
broken_is_settled elements h settled kept o b = ap (λ k. highest_broken_by h.depends elements k 2) (sym b.kept_is) ∙ sym b.broken_is

-- with the goal that goes it comes to the same in the end, and there are fewer goals
pub record GoesOn (elements : List Element) (old new : Held) : Type 0 where
  pub rest : trimmed_held elements new ≡ trimmed_held elements old
  pub fits : Fits new
  pub less : length new.goals < length old.goals

pub round_there : (elements : List Element) (h settled : Held) (kept : List Triple) (depth : ℕ) → Fits h → IsBroken elements h settled kept (Some depth) → (2 ≤ depth) × (depth ≤ length h.goals)
round_there elements h settled kept depth fits b = broken_there (settled_held h) elements depth fits (broken_is_settled elements h settled kept (Some depth) b)

pub round_goes_on : (elements : List Element) (h settled new : Held) (kept : List Triple) (depth : ℕ) → Fits h → IsBroken elements h settled kept (Some depth)
    → new ≡ without_goals_held depth settled → GoesOn elements h new
round_goes_on elements h settled new kept depth fits b left =
    let same : without_goals_held depth (settled_held h) ≡ new = sym (left ∙ ap (without_goals_held depth) b.settled_is) in
    let k = round_there elements h settled kept depth fits b in
    let l = leaves (settled_held h) depth fits k.0 k.1 in
    subst (GoesOn elements h) same (record {
      rest = sym (trimmed_goes_on elements h depth fits (broken_is_settled elements h settled kept (Some depth) b));
      fits = l.fits;
      less = l.less;
    })

pub round_ends : (elements : List Element) (h settled : Held) (kept : List Triple) → IsBroken elements h settled kept None
    → (settled ≡ trimmed_held elements h) × (kept ≡ kept_held settled)
round_ends elements h settled kept b = (
  b.settled_is ∙ sym (trimmed_ends elements h (broken_is_settled elements h settled kept None b)),
  b.kept_is ∙ ap (λ (s : Held). kept_held s) (sym b.settled_is),
)
