-- What is settled: all inputs are of the top level, and all rows have a level.
use Rattle.std.proofs.Common.{◌≡◌, refl, sym, ◌∙◌, ap, subst, ℕ, ◌-◌, ◌^◌, ◌==◌, min, Bool, true, false, ◌&&◌, arith, List, Option, Some, None, is_some, option_map}
use Rattle.soar_sym.specs.declared.symbol.Triple.{Triple}
use Rattle.defs_soar.specs.declared.goal.Goal.{Goal}
use Rattle.defs_soar.specs.declared.preference.Preference.{Preference}
use Rattle.defs_soar.specs.Held.{held}
use Rattle.defs_soar.specs.Laws.{IsIn}
use Rattle.defs_soar.specs.Levels.{is_level_one, level}
use Rattle.defs_soar.specs.Settling.{Supports, kept_triples, settled}
use Rattle.defs_soar.specs.Values.{has_triple_among}
use Rattle.settling_laws.specs.Changes.{settled_level}
use Rattle.settling_laws.proofs.KeptLemmas.{kept_is_held}
use Rattle.settling_laws.proofs.MemberLemmas.{filter_passes}
use Rattle.settling_laws.proofs.OrderLemmas.{has_filtered}
use Rattle.settling_laws.proofs.SlotLemmas.{inputs_stay_by_level, rows_stay_by_level, top_by_level}
use Rattle.level_laws.specs.Labels.{as_told}

-- ---- levels as they are told

pub some_told : (x : Option ℕ) → is_some (option_map as_told x) ≡ is_some x
some_told None = refl
some_told (Some depth) = refl

one_capped : (depth : ℕ) → (min depth (2 ^ 32 - 1) == 1) ≡ (depth == 1)
one_capped depth = grind arith

pub one_told : (x : Option ℕ) → is_level_one (option_map as_told x) ≡ is_level_one x
one_told None = refl
one_told (Some depth) = one_capped depth

-- ---- what is settled

-- all that is held then is kept
pub held_at_rest : (goals : List Goal) (s : Supports) → settled goals s ≡ s → kept_triples goals s ≡ held s.rows goals s.inputs
held_at_rest goals s e =
    ap (kept_triples goals) (sym e) ∙ kept_is_held goals s ∙ ap (λ (x : Supports). held x.rows goals x.inputs) e

-- an input is of the top level
pub input_at_rest : (goals : List Goal) (s : Supports) → settled goals s ≡ s → (t : Triple) → has_triple_among s.inputs t ≡ true
    → is_level_one (level goals (held s.rows goals s.inputs) t.id) ≡ true
input_at_rest goals s e t h =
    top_by_level goals s t.id
    ∙ second (has_triple_among s.inputs t) (is_level_one (settled_level goals s t.id))
    (
    sym (has_filtered (λ u. is_level_one (settled_level goals s u.id)) s.inputs t)
    ∙ ap (λ l. has_triple_among l t) (sym (inputs_stay_by_level goals s) ∙ ap (λ (x : Supports). x.inputs) e)
    ∙ h
    )
  where
    second : (a b : Bool) → (a && b) ≡ true → b ≡ true
    second true b h = h
    second false b h = absurd (cc)

-- and a row's identifier has a level
pub row_at_rest : (goals : List Goal) (s : Supports) → settled goals s ≡ s → (row : Preference) → IsIn row s.rows
    → is_some (level goals (held s.rows goals s.inputs) row.wish.id) ≡ true
row_at_rest goals s e row i =
    ap (λ l. is_some (level goals l row.wish.id)) (sym (ap (kept_triples goals) e ∙ held_at_rest goals s e))
    ∙ filter_passes (λ r. is_some (settled_level goals s r.wish.id)) s.rows row
    (subst (IsIn row) (ap (λ (x : Supports). x.rows) (sym e) ∙ rows_stay_by_level goals s) i)
