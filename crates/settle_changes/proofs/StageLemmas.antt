-- What is looked at is enough.
use Rattle.std.proofs.Common.{◌≡◌, sym, ◌∙◌, ap, subst, false, ◌&&◌, List, ◌++◌, is_some}
use Rattle.std.proofs.lemmas.List.Folds.{list_any-append}
use Rattle.soar_sym.specs.Equality.{symbol_eq}
use Rattle.soar_sym.specs.declared.symbol.Sym.{Sym}
use Rattle.soar_sym.specs.declared.symbol.Triple.{Triple}
use Rattle.defs_soar.specs.declared.goal.Goal.{Goal}
use Rattle.defs_soar.specs.declared.preference.Preference.{Preference}
use Rattle.defs_soar.specs.Held.{held}
use Rattle.defs_soar.specs.Laws.{IsIn}
use Rattle.defs_soar.specs.Levels.{is_level_one, level}
use Rattle.defs_soar.specs.Settling.{Supports, settled}
use Rattle.defs_soar.specs.Sorted.{has_symbol}
use Rattle.defs_soar.specs.Values.{has_triple_among}
use Rattle.settling_laws.specs.Changes.{is_of}
use Rattle.settling_laws.proofs.FilterLemmas.{filter_has}
use Rattle.settling_laws.proofs.MemberLemmas.{filter_within}
use Rattle.level_laws.proofs.SymbolLemmas.{symbol_self}
use Rattle.soar_prefs.specs.Memory.{CoversRows, has_plain}
use Rattle.settle_changes.specs.Naming.{ids_of, plain_of}
use Rattle.settle_changes.specs.Stages.{AreReachedBut, AreTopBut, StayBut}
use Rattle.settle_changes.proofs.PlainLemmas.{neither_of, unnamed}
use Rattle.settle_changes.proofs.RestLemmas.{input_at_rest, one_told, row_at_rest, some_told}

-- a symbol that is neither here nor there
pub in_neither : (a b : List Sym) (s : Sym) → has_symbol (a ++ b) s ≡ false → (has_symbol a s ≡ false) × (has_symbol b s ≡ false)
in_neither a b s h = neither_of (has_symbol a s) (has_symbol b s) (sym (list_any-append (symbol_eq s) a b) ∙ h)

-- ---- after what changed was taken up

pub tops_stay : (goals0 goals : List Goal) (s0 : Supports) (rows : List Preference) (inputs names : List Triple) (moved : List Sym)
    → settled goals0 s0 ≡ s0 → ((t : Triple) → has_plain names t ≡ false → has_triple_among s0.inputs t ≡ has_triple_among inputs t)
    → StayBut moved goals0 (held s0.rows goals0 s0.inputs) goals (held rows goals inputs)
    → AreTopBut (ids_of names ++ moved) goals (held rows goals inputs) inputs
tops_stay goals0 goals s0 rows inputs names moved rest covers stay t h k =
    let apart = in_neither (ids_of names) moved t.id k in
    sym (one_told (level goals (held rows goals inputs) t.id))
    ∙ ap is_level_one (stay t.id apart.1)
    ∙ one_told (level goals0 (held s0.rows goals0 s0.inputs) t.id)
    ∙ input_at_rest goals0 s0 rest t (covers t (unnamed names t apart.0) ∙ h)

-- a row that is there as before
row_was : (rows0 rows : List Preference) (names : List Triple) → CoversRows names rows0 rows → (row : Preference) → IsIn row rows
    → has_symbol (ids_of names) row.wish.id ≡ false → IsIn row rows0
row_was rows0 rows names covers row i k =
    filter_within (is_of (plain_of row)) rows0 row
    (
    subst (IsIn row) (sym (covers (plain_of row) (unnamed names (plain_of row) k)))
    (filter_has (is_of (plain_of row)) rows row i (λ j. symbol_self row.wish.id j && (symbol_self row.wish.attr j && symbol_self row.wish.value j)))
    )

pub rows_stay : (goals0 goals : List Goal) (s0 : Supports) (rows : List Preference) (inputs names : List Triple) (moved : List Sym)
    → settled goals0 s0 ≡ s0 → CoversRows names s0.rows rows
    → StayBut moved goals0 (held s0.rows goals0 s0.inputs) goals (held rows goals inputs)
    → AreReachedBut (ids_of names ++ moved) goals (held rows goals inputs) rows
rows_stay goals0 goals s0 rows inputs names moved rest covers stay row i k =
    let apart = in_neither (ids_of names) moved row.wish.id k in
    sym (some_told (level goals (held rows goals inputs) row.wish.id))
    ∙ ap is_some (stay row.wish.id apart.1)
    ∙ some_told (level goals0 (held s0.rows goals0 s0.inputs) row.wish.id)
    ∙ row_at_rest goals0 s0 rest row (row_was s0.rows rows names covers row i apart.0)

-- ---- after levels moved once more

pub reached_stay : (goals : List Goal) (before now : List Triple) (rows : List Preference) (ids moved : List Sym) → StayBut moved goals before goals now
    → AreReachedBut ids goals before rows → AreReachedBut (ids ++ moved) goals now rows
reached_stay goals before now rows ids moved stay reached row i k =
    let apart = in_neither ids moved row.wish.id k in
    sym (some_told (level goals now row.wish.id))
    ∙ ap is_some (stay row.wish.id apart.1)
    ∙ some_told (level goals before row.wish.id)
    ∙ reached row i apart.0
