-- A list that names what changed of goals, rows and inputs.
use Rattle.std.proofs.Common.{◌≡◌, refl, sym, ◌∙◌, ap, Bool, true, false, ◌&&◌, ◌||◌, not, ◌⊎◌, inl, inr, List, [], ◌∷◌, ◌++◌, map, cond}
use Rattle.std.proofs.lemmas.List.Folds.{list_any-append}
use Rattle.soar_sym.specs.Equality.{symbol_eq}
use Rattle.soar_sym.specs.declared.symbol.Sym.{Sym}
use Rattle.soar_sym.specs.declared.symbol.Triple.{Triple}
use Rattle.defs_soar.specs.declared.goal.Goal.{Goal}
use Rattle.defs_soar.specs.declared.preference.Preference.{Preference}
use Rattle.defs_soar.specs.Architecture.{operator_word}
use Rattle.defs_soar.specs.Goals.{is_operator_slot}
use Rattle.defs_soar.specs.Preferences.{slot_of}
use Rattle.defs_soar.specs.Sorted.{has_symbol}
use Rattle.defs_soar.specs.Values.{has_triple_among}
use Rattle.settling_laws.specs.Changes.{has_value, of_value, rows_hold}
use Rattle.settling_laws.proofs.ChangeLemmas.{rows_tell_their_triple}
use Rattle.level_laws.proofs.SymbolLemmas.{symbol_same}
use Rattle.soar_prefs.specs.Memory.{has_plain}
use Rattle.settle_changes.specs.Naming.{CoversGoals, is_slot_among, named_of_goals, plain_of, slot_names}
use Rattle.settle_changes.proofs.PlainLemmas.{neither_of, plainly_absent}

-- ---- a triple of which no row is

pub no_rows : (goals : List Goal) (rows : List Preference) (t : Triple) → of_value t.id t.attr t.value rows ≡ [] → rows_hold goals rows t ≡ false
no_rows goals rows t e = rows_tell_their_triple goals goals rows [] t e refl ∙ by (is_operator_slot goals t.id t.attr) t.accept
  where
    by : (o m : Bool) → cond o (m && (false || false)) (not m && (false && not false)) ≡ false
    by true true = refl
    by true false = refl
    by false true = refl
    by false false = refl

-- where the rows of its slot do not name it
pub no_row_of_slot : (rows : List Preference) (t : Triple) → has_plain (map plain_of (slot_of rows t.id t.attr)) t ≡ false → of_value t.id t.attr t.value rows ≡ []
no_row_of_slot [] t h = refl
no_row_of_slot (row ∷ rows) t h = by (symbol_eq row.wish.id t.id) (symbol_eq row.wish.attr t.attr) (symbol_eq row.wish.value t.value) refl refl refl h (no_row_of_slot rows t)
  where
    by : (a b c : Bool) → symbol_eq row.wish.id t.id ≡ a → symbol_eq row.wish.attr t.attr ≡ b → symbol_eq row.wish.value t.value ≡ c
        → has_plain (map plain_of (cond (a && b) (row ∷ slot_of rows t.id t.attr) (slot_of rows t.id t.attr))) t ≡ false
        → (has_plain (map plain_of (slot_of rows t.id t.attr)) t ≡ false → of_value t.id t.attr t.value rows ≡ [])
        → cond (a && (b && c)) (row ∷ of_value t.id t.attr t.value rows) (of_value t.id t.attr t.value rows) ≡ []
    by true true true e f g h later =
        let here = (neither_of (has_value t.id t.attr t.value (plain_of row)) (has_plain (map plain_of (slot_of rows t.id t.attr)) t) h).0 in
        absurd (let there : has_value t.id t.attr t.value (plain_of row) ≡ true = λ i. e i && (f i && g i) in cc)
    by true true false e f g h later = later (neither_of (has_value t.id t.attr t.value (plain_of row)) (has_plain (map plain_of (slot_of rows t.id t.attr)) t) h).1
    by true false c e f g h later = later h
    by false b c e f g h later = later h

-- nor those of all operator slots
pub no_row_of_slots : (rows : List Preference) (ids : List Sym) (t : Triple) → has_plain (slot_names rows ids) t ≡ false → is_slot_among ids t ≡ true
    → of_value t.id t.attr t.value rows ≡ []
no_row_of_slots rows ids t h k = by (symbol_eq t.attr operator_word) refl k
  where
    of_slot : (ids : List Sym) → has_plain (slot_names rows ids) t ≡ false → has_symbol ids t.id ≡ true → has_plain (map plain_of (slot_of rows t.id operator_word)) t ≡ false
    of_slot [] h k = absurd (cc)
    of_slot (id ∷ ids) h k =
        let parts =
        neither_of (has_plain (map plain_of (slot_of rows id operator_word)) t) (has_plain (slot_names rows ids) t)
        (sym (list_any-append (has_value t.id t.attr t.value) (map plain_of (slot_of rows id operator_word)) (slot_names rows ids)) ∙ h) in
        here (symbol_eq t.id id) refl k parts.0 (of_slot ids parts.1)
      where
        here : (b : Bool) → symbol_eq t.id id ≡ b → (b || has_symbol ids t.id) ≡ true → has_plain (map plain_of (slot_of rows id operator_word)) t ≡ false
            → (has_symbol ids t.id ≡ true → has_plain (map plain_of (slot_of rows t.id operator_word)) t ≡ false)
            → has_plain (map plain_of (slot_of rows t.id operator_word)) t ≡ false
        here true e k first later = ap (λ s. has_plain (map plain_of (slot_of rows s operator_word)) t) (symbol_same t.id id e) ∙ first
        here false e k first later = later k

    by : (b : Bool) → symbol_eq t.attr operator_word ≡ b → (b && has_symbol ids t.id) ≡ true → of_value t.id t.attr t.value rows ≡ []
    by true e k =
        no_row_of_slot rows t (ap (λ a. has_plain (map plain_of (slot_of rows t.id a)) t) (symbol_same t.attr operator_word e) ∙ of_slot ids h k)
    by false e k = absurd (cc)

-- a triple that is in neither list
apart : (a b : List Triple) (t : Triple) → has_plain (a ++ b) t ≡ false → (has_plain a t ≡ false) × (has_plain b t ≡ false)
apart a b t h = neither_of (has_plain a t) (has_plain b t) (sym (list_any-append (has_value t.id t.attr t.value) a b) ∙ h)

-- ---- what is named of the goals' changes

-- where nothing of them changed
pub same_goals : (own : List Triple) (ids : List Sym) (rows : List Preference) → CoversGoals own own ids ids rows []
same_goals own ids rows = record { own = λ t h. refl; slots = λ t h. inl refl }

-- where all of them is named
pub all_of_goals : (own0 own : List Triple) (ids0 ids : List Sym) (rows : List Preference) → CoversGoals own0 own ids0 ids rows (named_of_goals own0 own ids0 ids rows)
all_of_goals own0 own ids0 ids rows = record { own = owns; slots = slots }
  where
    owns : (t : Triple) → has_plain (named_of_goals own0 own ids0 ids rows) t ≡ false → has_triple_among own0 t ≡ has_triple_among own t
    owns t h =
        let first = apart own0 (own ++ (slot_names rows ids0 ++ slot_names rows ids)) t h in
        let second = apart own (slot_names rows ids0 ++ slot_names rows ids) t first.1 in
        plainly_absent own0 t first.0 ∙ sym (plainly_absent own t second.0)

    slots : (t : Triple) → has_plain (named_of_goals own0 own ids0 ids rows) t ≡ false → (is_slot_among ids0 t ≡ is_slot_among ids t) ⊎ (of_value t.id t.attr t.value rows ≡ [])
    slots t h =
        let first = apart own0 (own ++ (slot_names rows ids0 ++ slot_names rows ids)) t h in
        let second = apart own (slot_names rows ids0 ++ slot_names rows ids) t first.1 in
        let third = apart (slot_names rows ids0) (slot_names rows ids) t second.1 in
        by (is_slot_among ids0 t) (is_slot_among ids t) refl refl (no_row_of_slots rows ids0 t third.0) (no_row_of_slots rows ids t third.1)
      where
        by : (a b : Bool) → is_slot_among ids0 t ≡ a → is_slot_among ids t ≡ b → (is_slot_among ids0 t ≡ true → of_value t.id t.attr t.value rows ≡ [])
            → (is_slot_among ids t ≡ true → of_value t.id t.attr t.value rows ≡ [])
            → (is_slot_among ids0 t ≡ is_slot_among ids t) ⊎ (of_value t.id t.attr t.value rows ≡ [])
        by true b e f g h = inr (g e)
        by false true e f g h = inr (h f)
        by false false e f g h = inl (e ∙ sym f)
