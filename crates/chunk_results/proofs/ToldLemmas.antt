-- What is told of levels is what was reached before the wave: so results, and what hangs on them, are those that are defined.
use Rattle.std.proofs.Common.{◌≡◌, ◌∙◌, sym, ap, ap₂, ℕ, Bool, true, ◌&&◌, ◌||◌, not, List, ◌++◌, map, filter, Option}
use Rattle.soar_sym.specs.Words.{Texts}
use Rattle.soar_sym.specs.declared.symbol.Sym.{Sym}
use Rattle.defs_soar.specs.declared.goal.Goal.{Goal}
use Rattle.defs_soar.specs.declared.preference.PrefKind.TheVariants as kind
use Rattle.defs_soar.specs.declared.preference.Preference.{Preference}
use Rattle.defs_soar.specs.declared.preference.Wish.{Wish}
use Rattle.defs_soar.specs.Dependencies.{is_new_in}
use Rattle.defs_soar.specs.Goals.{is_goal}
use Rattle.defs_soar.specs.History.{FiringOf, Reach}
use Rattle.defs_soar.specs.Results.{accepted_for, each_triple_once, goes_over, hanging_on, hangs, is_result, result_row, results_of, rows_seen}
use Rattle.defs_soar.specs.Sorted.{has_symbol}
use Rattle.defs_soar.specs.Uses.{is_above}
use Rattle.defs_soar.specs.Values.{is_identifier, is_kind}
use Rattle.level_laws.proofs.ReachedLemmas.{and_parts}
use Rattle.chunk_results.specs.Held.{AreSame, held_as_told, held_from}
use Rattle.chunk_results.specs.Reached.{TellsReach}
use Rattle.chunk_results.specs.Told.{first_held, goes_as_told, hangs_as_told, is_told_at, is_told_result, rows_as_told, Told}

pub hanging_is_identifier : (told : Told) (goals : List Goal) (f : FiringOf) (s : Sym) → hangs_as_told told goals f s ≡ true → is_identifier s ≡ true
hanging_is_identifier told goals f s h = (and_parts (is_identifier s) (not (is_goal goals s) && (is_told_at (told s) f.depth || is_new_in f s)) h).0

accepted_same : (rows : List Preference) (xs ys : List Sym) → AreSame xs ys → accepted_for rows xs ≡ accepted_for rows ys
accepted_same rows xs ys same = ap (λ (h : Sym → Bool). filter (λ row. is_kind row.wish.kind kind.Accept && h row.wish.id) rows) (λ i s. same s i)

module _ (told : Told) (before : Reach) (goals : List Goal) (is : before.goals ≡ goals) (tells : TellsReach told before) (f : FiringOf) where
  result_same : (w : Wish) → is_told_result told f.depth w ≡ is_result before f.depth w
  result_same w = ap (λ o. is_above o f.depth) (tells w.id)

  hangs_same : (s : Sym) → hangs_as_told told goals f s ≡ hangs before f s
  hangs_same s = ap₂ (λ (gs : List Goal) (o : Option ℕ). is_identifier s && (not (is_goal gs s) && (is_told_at o f.depth || is_new_in f s))) (sym is) (tells s)

  held_same : (rows : List Preference) → held_as_told told goals f rows ≡ hanging_on before f rows (filter (is_result before f.depth) f.made)
  unfolding held_from
  held_same rows = ap₂ (λ (h : Sym → Bool) (r : Wish → Bool). held_from h rows (first_held h (filter r f.made))) (λ i s. hangs_same s i) (λ i w. result_same w i)

  pub results_same : (words : Texts) (rows : List Preference) (held : List Sym) → AreSame held (held_as_told told goals f (rows_seen rows f))
      → rows_as_told told f ++ each_triple_once words (accepted_for (rows_seen rows f) held) ≡ results_of words before rows f
  unfolding results_of
  results_same words rows held same =
      ap₂ (λ xs ys. xs ++ ys) (ap (λ (r : Wish → Bool). map (result_row f) (filter r f.made)) (λ i w. result_same w i))
      (ap (each_triple_once words) (accepted_same (rows_seen rows f) held (held_as_told told goals f (rows_seen rows f)) same ∙ ap (accepted_for (rows_seen rows f)) (held_same (rows_seen rows f))))

  pub flags_same : (rows : List Preference) (held : List Sym) → AreSame held (held_as_told told goals f (rows_seen rows f)) → map (goes_as_told told f.depth held) f.made ≡ map (goes_over before rows f) f.made
  flags_same rows held same = ap (λ (p : Wish → Bool). map p f.made) (λ i w. one w i)
    where
      one : (w : Wish) → goes_as_told told f.depth held w ≡ goes_over before rows f w
      one w = ap₂ (λ a b. a || (is_kind w.kind kind.Accept && b)) (result_same w) (same w.id ∙ ap (λ ids. has_symbol ids w.id) (held_same (rows_seen rows f)))
