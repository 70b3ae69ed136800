-- What the variables of a firing stand for, new identifiers, and the values of its actions (Soar manual, chapter 3, right-hand sides).
use Rattle.std.specs.Prelude.{ℕ, zero, suc, ◌+◌, ◌-◌, List, [], ◌∷◌, ◌++◌, length, Option, Some, None, Result, Ok, Err, if◌then◌else◌}
use Rattle.soar_sym.specs.Letters.{last_of, with_last}
use Rattle.soar_sym.specs.Words.{Texts, text_of, with_text}
use Rattle.soar_sym.specs.declared.symbol.Sym.{Sym}
use Rattle.soar_sym.specs.declared.symbol.Sym.TheVariants.{Ident, Word}
use Rattle.soar_rule.specs.declared.cond.Atom.{Atom}
use Rattle.soar_rule.specs.declared.cond.Atom.TheVariants.{Const, Var}
use Rattle.defs_text.specs.Bytes.{is_capital, is_small}
use Rattle.defs_text.specs.Numbered.{word_in}
use Rattle.defs_match.specs.Testing.{Bindings, symbol_of}
use Rattle.soar_rule.specs.Productions.{ValueOf, atom_value, call_value, ValuesOf, no_values, value_and}
use Rattle.defs_soar.specs.declared.firing.DropCause.{DropCause}
use Rattle.defs_soar.specs.Architecture.{link_letter}
use Rattle.defs_soar.specs.Functions.{Computed, gives, spells, fails, computed}
use Rattle.defs_soar.specs.Limits.{Total, identifiers_to, words_to}

-- what the variables stand for, the table of words, the letters, the names of variables, and the totals so far
pub record Naming : Type 0 where
  pub bindings : Bindings
  pub words : Texts
  pub letters : List ℕ
  pub vars : List Sym
  pub totals : List Total

-- a value, or why there is none, and the naming after it
pub record Evaluated (A : Type 0) : Type 0 where
  pub value : Result A DropCause
  pub naming : Naming

-- ---- new identifiers

-- the first letter of the name in upper case, or I where it begins with no letter
abbrev pub letter_from : List ℕ → ℕ
letter_from [] = link_letter
letter_from (b ∷ bytes) = if is_capital b then b else if is_small b then b - 32 else link_letter

abbrev pub name_at : List Sym → ℕ → Sym
name_at [] n = Word 0
name_at (name ∷ names) zero = name
name_at (name ∷ names) (suc n) = name_at names n

abbrev pub text_of_name : Texts → Sym → List ℕ
text_of_name words (Word word) = text_of words word
text_of_name words other = []

abbrev pub with_new : ℕ → ℕ → ℕ → Naming → Naming
with_new variable letter number naming =
    record naming {
      bindings = naming.bindings ++ (variable, Ident letter number) ∷ [];
      letters = with_last naming.letters letter number;
      totals = naming.totals ++ identifiers_to number ∷ [];
    }

abbrev pub new_identifier : ℕ → ℕ → Naming → Evaluated Sym
new_identifier variable letter naming =
    let number = last_of naming.letters letter + 1 in
    record { value = Ok (Ident letter number); naming = with_new variable letter number naming }

-- the first use of an unbound variable makes a new identifier, and later uses mean the same one
abbrev pub variable_value : ℕ → Naming → Option Sym → Evaluated Sym
variable_value variable naming (Some s) = record { value = Ok s; naming = naming }
variable_value variable naming None = new_identifier variable (letter_from (text_of_name naming.words (name_at naming.vars variable))) naming

abbrev pub atom_of_action : Atom → Naming → Evaluated Sym
atom_of_action (Const s) naming = record { value = Ok s; naming = naming }
atom_of_action (Var variable) naming = variable_value variable naming (symbol_of variable naming.bindings)

-- ---- values, from left to right

abbrev pub with_word : List ℕ → Naming → Naming
with_word text naming =
    record naming { words = with_text naming.words text; totals = naming.totals ++ words_to (length (with_text naming.words text)) ∷ [] }

abbrev pub as_evaluated : Naming → Computed → Evaluated Sym
as_evaluated naming (gives s) = record { value = Ok s; naming = naming }
as_evaluated naming (spells text) = record { value = Ok (word_in (with_text naming.words text) text); naming = with_word text naming }
as_evaluated naming (fails e) = record { value = Err e; naming = naming }

-- a later part is computed only where the earlier ones have values
abbrev pub then_with : {A B : Type 0} → Evaluated A → (A → Naming → Evaluated B) → Evaluated B
then_with e f = elim (e.value) [ Ok a ↦ f a e.naming | Err why ↦ record { value = Err why; naming = e.naming } ]

abbrev pub done : {A : Type 0} → A → Naming → Evaluated A
done a naming = record { value = Ok a; naming = naming }

abbrev mutual
  pub evaluated : ValueOf → Naming → Evaluated Sym
  evaluated (atom_value a) naming = atom_of_action a naming
  evaluated (call_value f values) naming = then_with (evaluated_all values naming) (λ symbols after. as_evaluated after (computed after.words f symbols))

  pub evaluated_all : ValuesOf → Naming → Evaluated (List Sym)
  evaluated_all no_values naming = record { value = Ok []; naming = naming }
  evaluated_all (value_and v values) naming =
      then_with (evaluated v naming) (λ s after. then_with (evaluated_all values after) (λ symbols last. done (s ∷ symbols) last))
