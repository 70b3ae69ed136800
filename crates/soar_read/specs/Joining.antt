-- The names of new variables join the table.
use Rattle.std.specs.Prelude.{◌≡◌, ℕ, ◌-◌, ◌^◌, ◌<◌, Bool, true, List, map, flat_map, length, Some, Result, Ok, Err}
use Rattle.soar_sym.specs.Words.{Texts, with_text, with_texts, word_of}
use Rattle.soar_sym.specs.declared.symbol.Sym.{Sym}
use Rattle.soar_sym.specs.declared.symbol.Sym.TheVariants.{Word}
use Rattle.defs_read.specs.FreshNames.{new_name}
use Rattle.soar_read.specs.Answers.{Grown}
use Rattle.read_parts.specs.Naming.{name_text, new_text}
use Rattle.read_parts.specs.Words.{is_own}
use Rattle.soar_read.specs.declared.fault.ReadFault.{ReadFault}
use Rattle.soar_read.specs.declared.fault.ReadFault.TheVariants as fault
use Rattle.read_parts.specs.declared.names.Name.{Name}
use Rattle.read_parts.specs.declared.names.Name.TheVariants.{Given, New}

-- a given name is found by its text
abbrev pub is_own_name : Texts → Name → Bool
is_own_name words (Given w) = is_own words w
is_own_name words (New n) = true

-- the symbol is the name's word
abbrev pub IsWordOf : Texts → Name → Sym → Type 0
IsWordOf words (Given w) s = s ≡ Word w
IsWordOf words (New n) s = word_of words (new_name n) ≡ Some s

-- a text joins
abbrev pub JoinsText : Texts → Texts → List ℕ → Result Sym ReadFault → Type 0
JoinsText old new text (Ok s) = (new ≡ with_text old text) × (word_of new text ≡ Some s)
JoinsText old new text (Err fault.WordsSpent) = (new ≡ old) × (2 ^ 32 - 1 < length (with_text old text))
JoinsText old new text (Err fault.NoMemory) = new ≡ old
JoinsText old new text (Err (fault.SyntaxFault place kind)) = ⊥

-- one name joins
abbrev pub Joins : Texts → Texts → Name → Result Sym ReadFault → Type 0
Joins old new name (Ok s) = (new ≡ with_texts old (new_text name)) × IsWordOf new name s
Joins old new name (Err fault.WordsSpent) = (new ≡ old) × (2 ^ 32 - 1 < length (with_texts old (new_text name)))
Joins old new name (Err fault.NoMemory) = new ≡ old
Joins old new name (Err (fault.SyntaxFault place kind)) = ⊥

-- the words of names, whose given ones an older table has
abbrev pub AreWordsOf : Texts → Texts → List Name → List Sym → Type 0
AreWordsOf old words names symbols = map (word_of words) (map (name_text old) names) ≡ map Some symbols

-- all names join, in order
abbrev pub AllJoin : Texts → Texts → List Name → Result (List Sym) ReadFault → Type 0
AllJoin old new names (Ok symbols) = (new ≡ with_texts old (flat_map new_text names)) × AreWordsOf old new names symbols
AllJoin old new names (Err fault.WordsSpent) = Grown old new × (2 ^ 32 - 1 < length (with_texts old (flat_map new_text names)))
AllJoin old new names (Err fault.NoMemory) = Grown old new
AllJoin old new names (Err (fault.SyntaxFault place kind)) = ⊥
