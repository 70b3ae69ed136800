-- The architecture's words, letters and identifiers, by name.
use Rattle.std.specs.Prelude.{ℕ}
use Rattle.soar_sym.specs.declared.symbol.Sym.{Sym}
use Rattle.soar_sym.specs.declared.symbol.Sym.TheVariants.{Ident, Word}

-- ---- letters

-- I, of links and of what has no letter of its own
abbrev pub link_letter : ℕ
link_letter = 73

-- S, of states
abbrev pub state_letter : ℕ
state_letter = 83

-- ---- identifiers at the start

abbrev pub top_state : Sym
top_state = Ident state_letter 1

abbrev pub io_identifier : Sym
io_identifier = Ident link_letter 1

abbrev pub input_identifier : Sym
input_identifier = Ident link_letter 2

abbrev pub output_identifier : Sym
output_identifier = Ident link_letter 3

-- ---- words

abbrev pub state_word : Sym
state_word = Word 0

abbrev pub nil_word : Sym
nil_word = Word 1

abbrev pub io_word : Sym
io_word = Word 2

abbrev pub input_link_word : Sym
input_link_word = Word 3

abbrev pub output_link_word : Sym
output_link_word = Word 4

abbrev pub superstate_word : Sym
superstate_word = Word 5

abbrev pub type_word : Sym
type_word = Word 6

abbrev pub operator_word : Sym
operator_word = Word 7

abbrev pub name_word : Sym
name_word = Word 8

abbrev pub impasse_word : Sym
impasse_word = Word 9

abbrev pub choices_word : Sym
choices_word = Word 10

abbrev pub attribute_word : Sym
attribute_word = Word 11

abbrev pub quiescence_word : Sym
quiescence_word = Word 12

abbrev pub t_word : Sym
t_word = Word 13

abbrev pub item_word : Sym
item_word = Word 14

abbrev pub item_count_word : Sym
item_count_word = Word 15

abbrev pub non_numeric_word : Sym
non_numeric_word = Word 16

abbrev pub non_numeric_count_word : Sym
non_numeric_count_word = Word 17

abbrev pub tie_word : Sym
tie_word = Word 18

abbrev pub conflict_word : Sym
conflict_word = Word 19

abbrev pub constraint_failure_word : Sym
constraint_failure_word = Word 20

abbrev pub no_change_word : Sym
no_change_word = Word 21

abbrev pub multiple_word : Sym
multiple_word = Word 22

abbrev pub none_word : Sym
none_word = Word 23
