-- Rows of preference memory, one firing or one row after the other.
use Rattle.std.proofs.Common.{◌≡◌, ℕ, ◌+◌, ◌≤◌, ◌∙◌, Bool, true, false, ◌&&◌, ◌||◌, ◌==◌, not, cond, List, [], ◌∷◌, ◌++◌, length, length-append, None, Err, refl, ap, arith}
use Rattle.std.specs.List.{list_any}
use Rattle.std.proofs.lemmas.List.Elements.{filter_agree}
use Rattle.soar_sym.specs.declared.symbol.Sym.TheVariants.{Ident}
use Rattle.defs_soar.specs.declared.preference.PrefKind.TheVariants as kind
use Rattle.defs_soar.specs.declared.preference.Preference.{Preference}
use Rattle.defs_soar.specs.Preferences.{is_kept_already, with_row, with_rows, is_of_gone, without_firings, is_reject_now, is_rejected_by}
use Rattle.defs_soar.specs.Values.{same_triple}
use Rattle.soar_prefs.specs.Memory.{PreferenceMemory, is_of_triple, without_triple}
use Rattle.level_graph.proofs.SymbolLemmas.{symbol_turned}
use Rattle.soar_settle.specs.Renewal.{not_rejected, triple_in, AddsAll}
use Rattle.soar_settle.specs.declared.stop.Stop.{Stop}
use Rattle.soar_settle.specs.declared.stop.Stop.TheVariants as stop
use Rattle.soar_settle.proofs.FilterLemmas.{filter_twice, filter_all, filter_shorter}

-- ---- firings that left

pub none_left : (rows : List Preference) → without_firings rows [] ≡ rows
none_left rows = filter_all (λ row. not (is_of_gone [] row)) (λ row. by row.operator_support) rows
  where
    by : (o : Bool) → not (not o && false) ≡ true
    by true = refl
    by false = refl

pub one_left : (rows : List Preference) (n : ℕ) (ns : List ℕ) → without_firings (without_firings rows (n ∷ [])) ns ≡ without_firings rows (n ∷ ns)
one_left rows n ns =
    filter_twice (λ row. not (is_of_gone ns row)) (λ row. not (is_of_gone (n ∷ []) row)) rows
    ∙ filter_agree (λ row. not (is_of_gone (n ∷ []) row) && not (is_of_gone ns row)) (λ row. not (is_of_gone (n ∷ ns) row))
    (λ row. by row.operator_support (n == row.firing) (list_any (λ number. number == row.firing) ns)) rows
  where
    by : (o b c : Bool) → (not (not o && (b || false)) && not (not o && c)) ≡ not (not o && (b || c))
    by true b c = refl
    by false true c = refl
    by false false c = refl

-- ---- rows that were made

pub row_longer : (rows : List Preference) (row : Preference) → length rows ≤ length (with_row rows row)
row_longer rows row = by (is_kept_already rows row)
  where
    by : (b : Bool) → length rows ≤ length (cond b rows (rows ++ row ∷ []))
    by true = omega arith
    by false = omega (arith, length-append rows (row ∷ []))

pub rows_longer : (rows made : List Preference) → length rows ≤ length (with_rows rows made)
rows_longer rows [] = omega arith
rows_longer rows (row ∷ made) = omega (arith, row_longer rows row, rows_longer (with_row rows row) made)

pub row_added : (rows : List Preference) (row : Preference) → is_kept_already rows row ≡ false → length (with_row rows row) ≡ length rows + 1
row_added rows row new = ap (λ b. length (cond b rows (rows ++ row ∷ []))) new ∙ length-append rows (row ∷ [])

-- a row that finds no room stops all that follow it
pub stops_at_one : (first old new : PreferenceMemory) (row : Preference) (made all : List Preference) (why : Stop)
    → old.limit ≡ first.limit → with_rows old.rows (row ∷ made) ≡ with_rows first.rows all
    → AddsAll old new (row ∷ []) (Err why) → AddsAll first new all (Err why)
stops_at_one first old new row made all stop.NoMemory limit rows full = tt
stops_at_one first old new row made all (stop.Limit which) limit rows full =
    (full.0, omega (arith, limit, full.1, rows_longer (with_row old.rows row) made, ap length rows))

-- ---- triples that are rejected

pub none_rejected : (rows : List Preference) → not_rejected [] rows ≡ rows
none_rejected rows = filter_all (λ row. not (is_rejected_by [] row)) (λ row. refl) rows

triple_turned : (r row : Preference) → is_of_triple (triple_in r) row ≡ same_triple r row
triple_turned r row =
    λ k. symbol_turned row.wish.id r.wish.id k && (symbol_turned row.wish.attr r.wish.attr k && symbol_turned row.wish.value r.wish.value k)

pub one_rejected : (r : Preference) (made rows : List Preference) → is_reject_now r ≡ true
    → not_rejected made (without_triple rows (triple_in r)) ≡ not_rejected (r ∷ made) rows
one_rejected r made rows now =
    ap (not_rejected made) (filter_agree (λ row. not (is_of_triple (triple_in r) row)) (λ row. not (same_triple r row)) (λ row. ap not (triple_turned r row)) rows) ∙
    filter_twice (λ row. not (is_rejected_by made row)) (λ row. not (same_triple r row)) rows
    ∙ filter_agree (λ row. not (same_triple r row) && not (is_rejected_by made row)) (λ row. not (is_rejected_by (r ∷ made) row))
    (λ row. by (is_reject_now r) (same_triple r row) (is_rejected_by made row) now) rows
  where
    by : (a b c : Bool) → a ≡ true → (not b && not c) ≡ not ((a && b) || c)
    by true true c e = refl
    by true false c e = refl
    by false b c e = absurd (cc)

pub not_one_rejected : (r : Preference) (made rows : List Preference) → is_reject_now r ≡ false → not_rejected made rows ≡ not_rejected (r ∷ made) rows
not_one_rejected r made rows now =
    filter_agree (λ row. not (is_rejected_by made row)) (λ row. not (is_rejected_by (r ∷ made) row))
    (λ row. by (is_reject_now r) (same_triple r row) (is_rejected_by made row) now) rows
  where
    by : (a b c : Bool) → a ≡ false → not c ≡ not ((a && b) || c)
    by true b c e = absurd (cc)
    by false b c e = refl

-- ---- rows in a list

-- what stands past the end
abbrev pub no_row : Preference
no_row = record { firing = 0; wish = record { id = Ident 0 0; attr = Ident 0 0; value = Ident 0 0; kind = kind.Accept; referent = None }; operator_support = false }

pub fewer_left : (rows : List Preference) (gone : List ℕ) → length (without_firings rows gone) ≤ length rows
fewer_left rows gone = filter_shorter (λ row. not (is_of_gone gone row)) rows
