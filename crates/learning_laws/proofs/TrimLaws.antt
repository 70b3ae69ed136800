-- What settling and the removal of goals keep: rows and inputs that there were, and goals at the front; and it ends settled.
use Rattle.std.proofs.Common.{◌≡◌, refl, sym, ◌∙◌, ℕ, zero, suc, ◌+◌, ◌-◌, ◌≤◌, ◌<◌, Bool, true, false, inl, inr, arith, List, [], ◌∷◌, length, Option, Some, None}
use Rattle.std.specs.Prelude.{take, drop}
use Rattle.std.specs.List.{list_any}
use Rattle.soar_sym.specs.declared.symbol.Triple.{Triple}
use Rattle.soar_rule.specs.Repeat.{Turn, ends, goes_on, turns}
use Rattle.soar_wm.specs.declared.element.Element.{Element}
use Rattle.defs_soar.specs.declared.goal.Goal.{Goal}
use Rattle.defs_soar.specs.declared.preference.Preference.{Preference}
use Rattle.defs_soar.specs.Dependencies.{dependency_set}
use Rattle.defs_soar.specs.History.{RecordedFiring}
use Rattle.defs_soar.specs.Laws.{IsIn}
use Rattle.defs_soar.specs.Settling.{kept_triples, one_settling, settled}
use Rattle.defs_soar.specs.Trimming.{highest_broken, is_lost, one_trim, supports_of, Remains, trimmed, trimmed_by, with_supports, without_broken}
use Rattle.settling_laws.proofs.SettlingLemmas.{settled_is_within, settled_stays}
use Rattle.learning_laws.proofs.Lists.{filter_within}

-- the first goals of some
abbrev pub IsFront : List Goal → List Goal → Type 0
IsFront [] goals = Unit {0}
IsFront (x ∷ front) [] = ⊥
IsFront (x ∷ front) (g ∷ goals) = (x ≡ g) × IsFront front goals

pub whole_front : (goals : List Goal) → IsFront goals goals
whole_front [] = tt
whole_front (g ∷ goals) = (refl, whole_front goals)

pub front_in : (front goals : List Goal) → IsFront front goals → (g : Goal) → IsIn g front → IsIn g goals
front_in [] goals h g i = absurd i
front_in (x ∷ front) [] h g i = absurd h
front_in (x ∷ front) (y ∷ goals) h g (inl e) = inl (sym h.0 ∙ e)
front_in (x ∷ front) (y ∷ goals) h g (inr i) = inr (front_in front goals h.1 g i)

take_front : (n : ℕ) (goals : List Goal) → IsFront (take n goals) goals
take_front zero goals = tt
take_front (suc n) [] = tt
take_front (suc n) (g ∷ goals) = (refl, take_front n goals)

front_twice : (a b c : List Goal) → IsFront a b → IsFront b c → IsFront a c
front_twice [] b c h k = tt
front_twice (x ∷ a) [] c h k = absurd h
front_twice (x ∷ a) (y ∷ b) [] h k = absurd k
front_twice (x ∷ a) (y ∷ b) (z ∷ c) h k = (h.0 ∙ k.0, front_twice a b c h.1 k.1)

-- what there is of less was there before, and some goal is left
pub record IsLess (t before : Remains) : Type 0 where
  pub goals : IsFront t.goals before.goals
  pub some : 0 < length t.goals
  pub rows : (row : Preference) → IsIn row t.rows → IsIn row before.rows
  pub inputs : (u : Triple) → IsIn u t.inputs → IsIn u before.inputs

-- ---- one trim

-- the least depth that is broken is that of one of the goals
pub broken_within : (history : List RecordedFiring) (elements : List Element) (kept : List Triple) (depth : ℕ) (goals : List Goal) (d : ℕ) → highest_broken history elements kept depth goals ≡ Some d
    → (depth ≤ d) × (d < depth + length goals)
broken_within history elements kept depth [] d h = absurd (cc)
broken_within history elements kept depth (g ∷ goals) d h =
    go (list_any (is_lost elements kept) (dependency_set history g.id depth)) h (broken_within history elements kept (suc depth) goals d)
  where
    go : (b : Bool) → ◌≡◌ {A = Option ℕ} (elim b [ true ↦ Some depth | false ↦ highest_broken history elements kept (suc depth) goals ]) (Some d)
        → (highest_broken history elements kept (suc depth) goals ≡ Some d → (suc depth ≤ d) × (d < suc depth + length goals)) → (depth ≤ d) × (d < depth + suc (length goals))
    go true q later = let e : depth ≡ d = cc in (omega arith, omega arith)
    go false q later = let k = later q in let a = k.0 in let b = k.1 in (omega arith, omega arith)

abbrev pub after_settling : Remains → Remains
after_settling t = with_supports t (settled t.goals (supports_of t))

settled_less : (t before : Remains) → IsLess t before → IsLess (after_settling t) before
settled_less t before h =
    let w = settled_is_within t.goals (supports_of t) in
    record { goals = h.goals; some = h.some; rows = λ row i. h.rows row (w.rows row i); inputs = λ u i. h.inputs u (w.inputs u i) }

drop_one : (goals : List Goal) → 0 < length goals → length (drop 1 goals) + 1 ≡ length goals
drop_one [] h = absurd (omega arith)
drop_one (g ∷ goals) h = omega arith

pub length_take_less : (n : ℕ) (goals : List Goal) → n ≤ length goals → length (take n goals) ≡ n
length_take_less zero goals h = refl
length_take_less (suc n) [] h = absurd (omega arith)
length_take_less (suc n) (g ∷ goals) h = let k = length_take_less n goals (omega arith) in omega arith

-- what one trim leaves
pub record IsEnd (t before : Remains) : Type 0 where
  pub less : IsLess t before
  pub rests : one_settling t.goals (supports_of t) ≡ supports_of t

abbrev Trims : Remains → ℕ → Turn Remains → Type 0
Trims before size (ends t) = IsEnd t before
Trims before size (goes_on t) = IsLess t before × (length t.goals < size)

trim_once : (history : List RecordedFiring) (elements : List Element) (t before : Remains) → IsLess t before → Trims before (length t.goals) (one_trim history elements t)
trim_once history elements t before h = go (highest_broken history elements (kept_triples t.goals (settled t.goals (supports_of t))) 2 (drop 1 t.goals)) refl
  where
    less : IsLess (after_settling t) before
    less = settled_less t before h

    go : (o : Option ℕ) → highest_broken history elements (kept_triples t.goals (settled t.goals (supports_of t))) 2 (drop 1 t.goals) ≡ o → Trims before (length t.goals) (without_broken (after_settling t) o)
    go None q = record { less = less; rests = settled_stays t.goals (supports_of t) }
    go (Some d) q =
        let k = broken_within history elements (kept_triples t.goals (settled t.goals (supports_of t))) 2 (drop 1 t.goals) d q in
        let low : 2 ≤ d = k.0 in
        let high : d < 2 + length (drop 1 t.goals) = k.1 in
        let one : length (drop 1 t.goals) + 1 ≡ length t.goals = drop_one t.goals h.some in
        let size : length (take (d - 1) t.goals) ≡ d - 1 = length_take_less (d - 1) t.goals (omega arith) in (
          record {
            goals = front_twice (take (d - 1) t.goals) t.goals before.goals (take_front (d - 1) t.goals) less.goals;
            some = omega arith;
            rows = λ row i. less.rows row (filter_within _ (after_settling t).rows row i).0;
            inputs = less.inputs;
          },
          omega arith,
        )

trims_end : (history : List RecordedFiring) (elements : List Element) (before : Remains) (n : ℕ) (t : Remains) → IsLess t before → length t.goals < n → IsEnd (trimmed_by (turns n (one_trim history elements) t)) before
trims_end history elements before zero t h l = absurd (omega arith)
trims_end history elements before (suc n) t h l = go (one_trim history elements t) (trim_once history elements t before h) (trims_end history elements before n)
  where
    go : (u : Turn Remains) → Trims before (length t.goals) u → ((t : Remains) → IsLess t before → length t.goals < n → IsEnd (trimmed_by (turns n (one_trim history elements) t)) before)
        → IsEnd (trimmed_by (elim u [ ends b ↦ ends b | goes_on b ↦ turns n (one_trim history elements) b ])) before
    go (ends b) k later = k
    go (goes_on b) k later = let small = k.1 in later b k.0 (omega arith)

pub trimmed_ends : (history : List RecordedFiring) (elements : List Element) (t : Remains) → 0 < length t.goals → IsEnd (trimmed history elements t) t
unfolding trimmed
trimmed_ends history elements t h =
    trims_end history elements t (suc (length t.goals)) t (record { goals = whole_front t.goals; some = h; rows = λ row i. i; inputs = λ u i. i }) (omega arith)
