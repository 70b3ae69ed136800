-- What holds of each row holds of those that are left.
use Rattle.std.proofs.Common.{ℕ, ◌<◌, zero, suc, Bool, true, false, cond, List, [], ◌∷◌, length, take, drop, get_or, None, subst}
use Rattle.std.specs.Ordering.{is_lt}
use Rattle.std.proofs.lemmas.List.{drop_more}
use Rattle.soar_sym.specs.Equality.{symbol_eq}
use Rattle.soar_sym.specs.Order.{symbol_cmp}
use Rattle.soar_sym.specs.Words.{Texts, IsKnown}
use Rattle.soar_sym.specs.declared.symbol.Sym.{Sym}
use Rattle.soar_sym.specs.declared.symbol.Sym.TheVariants.{Ident}
use Rattle.defs_soar.specs.declared.preference.PrefKind.{PrefKind}
use Rattle.defs_soar.specs.declared.preference.PrefKind.TheVariants as kind
use Rattle.defs_soar.specs.declared.preference.Preference.{Preference}
use Rattle.defs_soar.specs.Choice.{values_of}
use Rattle.defs_soar.specs.Sorted.{with_symbol}
use Rattle.defs_soar.specs.Values.{is_kind}
use Rattle.soar_choose.specs.Parts.{AreSymbolsKnown}
use Rattle.soar_choose.specs.Rows.{AreKnown}

abbrev pub no_row : Preference
no_row =
    record { firing = 0; wish = record { id = Ident 0 0; attr = Ident 0 0; value = Ident 0 0; kind = kind.Accept; referent = None }; operator_support = false }

-- ---- known symbols

pub known_after : (words : Texts) (i : ℕ) (rows : List Preference) → AreKnown words rows → AreKnown words (drop i rows)
known_after words zero rows k = k
known_after words (suc i) [] k = tt
known_after words (suc i) (row ∷ rows) k = known_after words i rows k.2

pub known_before : (words : Texts) (i : ℕ) (rows : List Preference) → AreKnown words rows → AreKnown words (take i rows)
known_before words zero rows k = tt
known_before words (suc i) [] k = tt
known_before words (suc i) (row ∷ rows) k = (k.0, k.1, known_before words i rows k.2)

pub known_at : (words : Texts) (rows : List Preference) (i : ℕ) → i < length rows → AreKnown words rows → IsKnown words (get_or rows i no_row).wish.value
known_at words rows i h k = let P : List Preference → Type 0 = AreKnown words in (subst P (drop_more rows i no_row h) (known_after words i rows k)).0

known_with : (words : Texts) (symbols : List Sym) (s : Sym) → AreSymbolsKnown words symbols → IsKnown words s → AreSymbolsKnown words (with_symbol words symbols s)
known_with words [] s k h = (h, tt)
known_with words (t ∷ symbols) s k h = by (symbol_eq s t) (is_lt (symbol_cmp words s t)) (known_with words symbols s k.1 h)
  where
    by : (b d : Bool) → AreSymbolsKnown words (with_symbol words symbols s) → AreSymbolsKnown words (cond b (t ∷ symbols) (cond d (s ∷ t ∷ symbols) (t ∷ with_symbol words symbols s)))
    by true d rest = k
    by false true rest = (h, k)
    by false false rest = (k.0, rest)

pub known_values : (words : Texts) (k : PrefKind) (rows : List Preference) → AreKnown words rows → AreSymbolsKnown words (values_of words k rows)
known_values words k [] h = tt
known_values words k (row ∷ rows) h = by (is_kind row.wish.kind k) (known_values words k rows h.2)
  where
    by : (b : Bool) → AreSymbolsKnown words (values_of words k rows) → AreSymbolsKnown words (cond b (with_symbol words (values_of words k rows) row.wish.value) (values_of words k rows))
    by true rest = known_with words (values_of words k rows) row.wish.value rest h.0
    by false rest = rest

pub symbol_known_at : (words : Texts) (symbols : List Sym) (i : ℕ) → i < length symbols → AreSymbolsKnown words symbols → IsKnown words (get_or symbols i (Ident 0 0))
symbol_known_at words symbols i h k =
    let P : List Sym → Type 0 = AreSymbolsKnown words in (subst P (drop_more symbols i (Ident 0 0) h) (symbols_known_after i symbols k)).0
  where
    symbols_known_after : (i : ℕ) (symbols : List Sym) → AreSymbolsKnown words symbols → AreSymbolsKnown words (drop i symbols)
    symbols_known_after zero symbols k = k
    symbols_known_after (suc i) [] k = tt
    symbols_known_after (suc i) (s ∷ symbols) k = symbols_known_after i symbols k.1

pub known_values_after : (words : Texts) (k : PrefKind) (i : ℕ) (rows : List Preference) → AreKnown words rows → AreSymbolsKnown words (values_of words k (drop i rows))
known_values_after words k i rows h = known_values words k (drop i rows) (known_after words i rows h)
