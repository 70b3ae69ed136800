-- Each stage, over what is kept.
use Rattle.std.proofs.Common.{◌≡◌, refl, sym, ◌∙◌, ap, Bool, false, not, ◌⊎◌, inl, inr, List, [], ◌++◌, filter, is_some}
use Rattle.soar_sym.specs.declared.symbol.Sym.{Sym}
use Rattle.soar_sym.specs.declared.symbol.Triple.{Triple}
use Rattle.defs_soar.specs.declared.goal.Goal.{Goal}
use Rattle.defs_soar.specs.declared.preference.Preference.{Preference}
use Rattle.defs_soar.specs.Held.{held}
use Rattle.defs_soar.specs.Levels.{is_level_one, level}
use Rattle.defs_soar.specs.Settling.{Supports, settled}
use Rattle.defs_soar.specs.Sorted.{has_symbol}
use Rattle.defs_soar.specs.Values.{has_triple_among}
use Rattle.settling_laws.specs.Changes.{of_value, rows_hold}
use Rattle.settling_laws.specs.Once.{top_inputs}
use Rattle.settling_laws.proofs.ChangeLemmas.{rows_tell_their_triple}
use Rattle.settling_laws.proofs.OnceLemmas.{once_rests, settled_at_once}
use Rattle.settling_laws.proofs.SettlingLemmas.{settled_stays}
use Rattle.soar_prefs.specs.Memory.{CoversRows, PreferenceMemory, has_plain}
use Rattle.kept_triples.specs.Kept.{HoldsTriples, IsCovered, KeptLevelsAreLevels, KeptOf, OwnIs, level_in_kept}
use Rattle.kept_triples.specs.Owned.{OwnOf, TellsOwn}
use Rattle.settle_changes.specs.Leaving.{inputs_gone, inputs_without, rows_without}
use Rattle.settle_changes.specs.Naming.{CoversGoals, ids_of, is_slot_among}
use Rattle.settle_changes.specs.Rest.{IsAtRest, IsTracked, settled_from}
use Rattle.settle_changes.specs.Stages.{AreReachedBut, AreTopBut, StayBut, reached_rows, supports}
use Rattle.settle_changes.proofs.CoverLemmas.{no_rows}
use Rattle.settle_changes.proofs.LeavingLemmas.{gone_are_named, inputs_at_once, rows_at_once}
use Rattle.settle_changes.proofs.PlainLemmas.{has_member, spared}
use Rattle.settle_changes.proofs.RestLemmas.{one_told, some_told}
use Rattle.settle_changes.proofs.StageLemmas.{rows_stay, tops_stay}

-- ---- levels

-- what did not move has the level that it had
pub stay_but : KeptLevelsAreLevels → (moved : List Sym) (goals0 goals : List Goal) (rows0 rows : List Preference) (inputs0 inputs : List Triple) (k0 k : KeptOf)
    → HoldsTriples goals0 rows0 inputs0 k0 → HoldsTriples goals rows inputs k
    → ((s : Sym) → has_symbol moved s ≡ false → level_in_kept k s ≡ level_in_kept k0 s)
    → StayBut moved goals0 (held rows0 goals0 inputs0) goals (held rows goals inputs)
stay_but law moved goals0 goals rows0 rows inputs0 inputs k0 k before now same s h =
    sym (law goals rows inputs k now s) ∙ same s h ∙ law goals0 rows0 inputs0 k0 before s

-- ---- what changed is taken up

-- other goals, before triples are looked at
pub with_own : (goals : List Goal) (rows : List Preference) (inputs : List Triple) (k : KeptOf) (own : OwnOf) → HoldsTriples goals rows inputs k
    → HoldsTriples goals rows inputs (record k { own = own.triples; ids = own.ids })
with_own goals rows inputs k own holds = record { members = holds.members; graph = holds.graph }

pub covered : (goals : List Goal) (prefs : PreferenceMemory) (inputs changed names : List Triple) (k : KeptOf) (own : OwnOf) (tracked : IsTracked prefs inputs changed k)
    → TellsOwn goals own → CoversRows names prefs.settled prefs.rows → ((t : Triple) → has_plain names t ≡ false → has_plain changed t ≡ false)
    → CoversGoals k.own own.triples k.ids own.ids prefs.rows names
    → IsCovered tracked.goals_then prefs.settled tracked.inputs_then goals prefs.rows inputs names
covered goals prefs inputs changed names k own tracked owned rows within of_goals t h = record {
  own = ap (λ l. has_triple_among l t) (sym tracked.rest.own.own) ∙ of_goals.own t h ∙ ap (λ l. has_triple_among l t) owned.triples;
  input = sym (tracked.covers t (within t h));
  rows = by (of_goals.slots t h);
}
  where
    by : (is_slot_among k.ids t ≡ is_slot_among own.ids t) ⊎ (of_value t.id t.attr t.value prefs.rows ≡ [])
        → rows_hold tracked.goals_then prefs.settled t ≡ rows_hold goals prefs.rows t
    by (inl e) =
        rows_tell_their_triple tracked.goals_then goals prefs.settled prefs.rows t (rows t h)
        (ap (λ ids. is_slot_among ids t) (sym tracked.rest.own.ids) ∙ e ∙ ap (λ ids. is_slot_among ids t) owned.ids)
    by (inr e) = no_rows tracked.goals_then prefs.settled t (rows t h ∙ e) ∙ sym (no_rows goals prefs.rows t e)

pub taken_up : KeptLevelsAreLevels → (goals : List Goal) (prefs : PreferenceMemory) (inputs changed names : List Triple) (k0 k : KeptOf)
    → IsTracked prefs inputs changed k0 → CoversRows names prefs.settled prefs.rows → ((t : Triple) → has_plain names t ≡ false → has_plain changed t ≡ false)
    → HoldsTriples goals prefs.rows inputs k → ((s : Sym) → has_symbol k.graph.moved s ≡ false → level_in_kept k s ≡ level_in_kept k0 s)
    → AreReachedBut (ids_of names ++ k.graph.moved) goals (held prefs.rows goals inputs) prefs.rows
    × AreTopBut (ids_of names ++ k.graph.moved) goals (held prefs.rows goals inputs) inputs
taken_up law goals prefs inputs changed names k0 k tracked rows within holds same =
    let s0 = supports prefs.settled tracked.inputs_then in
    let stay =
    stay_but law k.graph.moved tracked.goals_then goals prefs.settled prefs.rows tracked.inputs_then inputs k0 k tracked.rest.holds holds same in (
      rows_stay tracked.goals_then goals s0 prefs.rows inputs names k.graph.moved tracked.rest.settled rows stay,
      tops_stay tracked.goals_then goals s0 prefs.rows inputs names k.graph.moved tracked.rest.settled (λ t h. sym (tracked.covers t (within t h))) stay,
    )

-- ---- inputs go

pub tops_left : KeptLevelsAreLevels → (goals : List Goal) (rows : List Preference) (inputs : List Triple) (ids : List Sym) (k : KeptOf)
    → HoldsTriples goals rows inputs k → AreTopBut ids goals (held rows goals inputs) inputs
    → inputs_without inputs (filter (λ id. not (is_level_one (level_in_kept k id))) ids) ≡ top_inputs goals (supports rows inputs)
tops_left law goals rows inputs ids k holds tops =
    inputs_at_once (filter (λ id. not (is_level_one (level_in_kept k id))) ids) inputs
    ∙ ap (λ (p : Sym → Bool). filter (λ t. not (has_symbol (filter (λ id. not (p id)) ids) t.id)) inputs) (λ i s. one s i)
    ∙ spared (λ (t : Triple). t.id) (λ s. is_level_one (level goals (held rows goals inputs) s)) ids inputs (λ t i h. tops t (has_member inputs t i) h)
  where
    one : (s : Sym) → is_level_one (level_in_kept k s) ≡ is_level_one (level goals (held rows goals inputs) s)
    one s = ap is_level_one (law goals rows inputs k holds s) ∙ one_told (level goals (held rows goals inputs) s)

pub inputs_covered : (goals : List Goal) (rows : List Preference) (inputs : List Triple) (ids : List Sym)
    → IsCovered goals rows inputs goals rows (inputs_without inputs ids) (inputs_gone inputs ids)
inputs_covered goals rows inputs ids t h = record { own = refl; input = gone_are_named ids inputs t h; rows = refl }

-- ---- rows go

pub rows_left : KeptLevelsAreLevels → (goals : List Goal) (rows : List Preference) (inputs : List Triple) (ids : List Sym) (k : KeptOf)
    → HoldsTriples goals rows inputs k → AreReachedBut ids goals (held rows goals inputs) rows
    → rows_without rows (filter (λ id. not (is_some (level_in_kept k id))) ids) ≡ reached_rows goals rows inputs
rows_left law goals rows inputs ids k holds reached =
    rows_at_once (filter (λ id. not (is_some (level_in_kept k id))) ids) rows
    ∙ ap (λ (p : Sym → Bool). filter (λ row. not (has_symbol (filter (λ id. not (p id)) ids) row.wish.id)) rows) (λ i s. some s i)
    ∙ spared (λ (row : Preference). row.wish.id) (λ s. is_some (level goals (held rows goals inputs) s)) ids rows reached
  where
    some : (s : Sym) → is_some (level_in_kept k s) ≡ is_some (level goals (held rows goals inputs) s)
    some s = ap is_some (law goals rows inputs k holds s) ∙ some_told (level goals (held rows goals inputs) s)

pub rows_covered : (goals : List Goal) (before now : List Preference) (inputs gone : List Triple) → CoversRows gone before now
    → IsCovered goals before inputs goals now inputs gone
rows_covered goals before now inputs gone covers t h = record { own = refl; input = refl; rows = rows_tell_their_triple goals goals before now t (covers t h) refl }

-- ---- all stages

pub rows_settled : (goals : List Goal) (rows : List Preference) (inputs top : List Triple) → top ≡ top_inputs goals (supports rows inputs)
    → reached_rows goals rows top ≡ (settled_from goals rows inputs).rows
rows_settled goals rows inputs top e =
    ap (reached_rows goals rows) e ∙ ap (λ (x : Supports). x.rows) (sym (settled_at_once goals (supports rows inputs)))

pub inputs_settled : (goals : List Goal) (rows : List Preference) (inputs top : List Triple) → top ≡ top_inputs goals (supports rows inputs)
    → top ≡ (settled_from goals rows inputs).inputs
inputs_settled goals rows inputs top e = e ∙ ap (λ (x : Supports). x.inputs) (sym (settled_at_once goals (supports rows inputs)))

-- what is settled is settled once more to itself
settled_rests : (goals : List Goal) (s : Supports) → settled goals (settled goals s) ≡ settled goals s
settled_rests goals s = settled_at_once goals (settled goals s) ∙ once_rests goals (settled goals s) (settled_stays goals s)

pub at_rest : (goals : List Goal) (rows left : List Preference) (inputs top : List Triple) (k : KeptOf) → left ≡ (settled_from goals rows inputs).rows
    → top ≡ (settled_from goals rows inputs).inputs → HoldsTriples goals left top k → OwnIs goals k → IsAtRest goals left top k
at_rest goals rows left inputs top k of_rows of_inputs holds own = record {
  holds = holds;
  own = own;
  settled = ap (settled goals) is ∙ settled_rests goals (supports rows inputs) ∙ sym is;
}
  where
    is : supports left top ≡ settled_from goals rows inputs
    is = λ i. supports (of_rows i) (of_inputs i)
