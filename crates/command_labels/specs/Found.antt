-- Labels as the definitions have them, and what is kept of them.
use Rattle.std.specs.Prelude.{◌≡◌, ℕ, ◌+◌, ◌≤◌, List, [], ◌∷◌, ◌++◌, fold, length, map, Option, Some, None, option_map, String, string_bytes, if◌then◌else◌}
use Rattle.std.specs.Global.{Global}
use Rattle.std.specs.List.{insert}
use Rattle.std.specs.Map.{lookup}
use Rattle.std.specs.Str.{bytes_eq}
use Rattle.soar_sym.specs.declared.symbol.Sym.{Sym}
use Rattle.defs_run.specs.Inputs.{or_else}
use Rattle.defs_run.specs.Sessions.{Label, label_in}
use Rattle.command_labels.specs.declared.label.Again.{Again}
use Rattle.command_labels.specs.declared.label.Label.{Label as LabelKept}
use Rattle.command_labels.specs.declared.label.Meant.{Meant}

abbrev pub label_seen : LabelKept → Label
label_seen l = record { name = l.name; symbol = l.symbol }

-- names with what their first labels stand for
abbrev pub Entries : Type 0
Entries = List (String Global × Meant)

-- the first label of a name
abbrev pub label_of : String Global × Meant → LabelKept
label_of e = record { name = string_bytes e.0; symbol = e.1.symbol; lettered = e.1.lettered }

-- the symbol that is noted of a name
abbrev pub symbol_of : Entries → List ℕ → Option Sym
symbol_of entries name = option_map (λ m. m.symbol) (lookup (λ k. bytes_eq name (string_bytes k)) entries)

-- that of a label alone
abbrev pub symbol_under : List ℕ → Sym → List ℕ → Option Sym
symbol_under own symbol name = if bytes_eq own name then Some symbol else None

-- labels with others put among them, each at its place
abbrev pub with_again : List LabelKept → List Again → List LabelKept
with_again labels again = fold (λ all a. insert all a.place a.label) labels again

-- all labels, in their order
abbrev pub all_of : Entries → List Again → List LabelKept
all_of entries again = with_again (map label_of entries) again

-- each place is among the labels that are there before it, or behind them
abbrev pub ArePlaced : ℕ → List Again → Type 0
ArePlaced count [] = Unit {0}
ArePlaced count (a ∷ again) = (a.place ≤ count) × ArePlaced (count + 1) again

-- of each name the symbol of its first label is noted
abbrev pub FindsFirst : List LabelKept → Entries → Type 0
FindsFirst labels entries = (name : List ℕ) → symbol_of entries name ≡ label_in (map label_seen labels) name

pub record IsKept (entries : Entries) (again : List Again) : Type 0 where
  pub placed : ArePlaced (length entries) again
  pub first : FindsFirst (all_of entries again) entries

-- the label was noted behind all others
pub record IsNoted (old new : Entries) (label : LabelKept) : Type 0 where
  pub labels : map label_of new ≡ map label_of old ++ label ∷ []
  pub count : length new ≡ length old + 1
  pub symbols : (name : List ℕ) → symbol_of new name ≡ or_else (symbol_of old name) (symbol_under label.name label.symbol name)

-- the label stands behind these
pub record IsAdded (entries : Entries) (again : List Again) (before : List LabelKept) (label : LabelKept) : Type 0 where
  pub kept : IsKept entries again
  pub all : all_of entries again ≡ before ++ label ∷ []
