-- What is named of the goals' changes. No public clause cites this.
use Rattle.std.specs.Prelude.{◌≡◌, Bool, false, ◌&&◌, ◌⊎◌, List, [], ◌++◌, map, flat_map}
use Rattle.soar_sym.specs.Equality.{symbol_eq}
use Rattle.soar_sym.specs.declared.symbol.Sym.{Sym}
use Rattle.soar_sym.specs.declared.symbol.Triple.{Triple}
use Rattle.defs_soar.specs.declared.preference.Preference.{Preference}
use Rattle.defs_soar.specs.Architecture.{operator_word}
use Rattle.defs_soar.specs.Goals.{plain_triple}
use Rattle.defs_soar.specs.Preferences.{slot_of}
use Rattle.defs_soar.specs.Sorted.{has_symbol}
use Rattle.defs_soar.specs.Values.{has_triple_among}
use Rattle.settling_laws.specs.Changes.{of_value}
use Rattle.soar_prefs.specs.Memory.{has_plain}

-- the triple of a row, without mark
abbrev pub plain_of : Preference → Triple
plain_of row = plain_triple row.wish.id row.wish.attr row.wish.value

-- the triples of the rows of these identifiers' operator slots
abbrev pub slot_names : List Preference → List Sym → List Triple
slot_names rows ids = flat_map (λ id. map plain_of (slot_of rows id operator_word)) ids

-- all own triples before and now, and the triples of all rows of operator slots of goals before and now
abbrev pub named_of_goals : List Triple → List Triple → List Sym → List Sym → List Preference → List Triple
named_of_goals own0 own ids0 ids rows = own0 ++ (own ++ (slot_names rows ids0 ++ slot_names rows ids))

-- the triple is of an operator slot of one of these goals
abbrev pub is_slot_among : List Sym → Triple → Bool
is_slot_among ids t = symbol_eq t.attr operator_word && has_symbol ids t.id

-- what is not named is own as it was, and of an operator slot as it was, or no row is of it
pub record CoversGoals (before now : List Triple) (ids0 ids : List Sym) (rows : List Preference) (names : List Triple) : Type 0 where
  pub own : (t : Triple) → has_plain names t ≡ false → has_triple_among before t ≡ has_triple_among now t
  pub slots : (t : Triple) → has_plain names t ≡ false → (is_slot_among ids0 t ≡ is_slot_among ids t) ⊎ (of_value t.id t.attr t.value rows ≡ [])

-- the identifiers of triples
abbrev pub ids_of : List Triple → List Sym
ids_of triples = map (λ (t : Triple). t.id) triples
