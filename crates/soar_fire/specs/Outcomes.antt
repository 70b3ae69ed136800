-- Firing as the code does it: it stops at the first limit, where the definition goes on and notes the totals.
use Rattle.std.specs.Prelude.{◌≡◌, ℕ, ◌+◌, nat_lt, List, [], ◌∷◌, ◌++◌, length, Option, Some, None, Result, Ok, Err, if◌then◌else◌}
use Rattle.soar_sym.specs.Letters.{last_of, with_last}
use Rattle.soar_sym.specs.Words.{Texts, with_text}
use Rattle.soar_sym.specs.declared.symbol.Sym.{Sym}
use Rattle.soar_sym.specs.declared.symbol.Sym.TheVariants.{Ident}
use Rattle.soar_rule.specs.declared.action.Func.{Func}
use Rattle.soar_rule.specs.declared.cond.Atom.{Atom}
use Rattle.soar_rule.specs.declared.cond.Atom.TheVariants.{Const, Var}
use Rattle.soar_rule.specs.Productions.{ValueOf, atom_value, call_value, ValuesOf, no_values, value_and}
use Rattle.defs_text.specs.Numbered.{word_in}
use Rattle.defs_match.specs.Testing.{Bindings, symbol_of}
use Rattle.defs_soar.specs.declared.firing.DropCause.{DropCause}
use Rattle.defs_soar.specs.declared.firing.Made.{Made}
use Rattle.defs_soar.specs.declared.limit.Which.{Which}
use Rattle.defs_soar.specs.declared.limit.Which.TheVariants as which
use Rattle.defs_soar.specs.Functions.{Computed, gives, spells, fails, computed}
use Rattle.defs_soar.specs.Naming.{letter_from, name_at, text_of_name}
use Rattle.soar_fire.specs.declared.fault.FireFault.{FireFault}
use Rattle.soar_fire.specs.declared.fault.FireFault.TheVariants as fault

-- what an action finds: what the variables stand for, the words and the letters
pub record Standing : Type 0 where
  pub bindings : Bindings
  pub words : Texts
  pub letters : List ℕ

abbrev pub standing : Bindings → Texts → List ℕ → Standing
standing bindings words letters = record { bindings = bindings; words = words; letters = letters }

-- a value, or why there is none, with what stands then; or the limit that was passed
pub data Outcome (A : Type 0) : Type 0 where
  reached : Result A DropCause → Standing → Outcome A
  stopped : Which → Outcome A

-- the next step, where the one before has a value
abbrev pub then_on : {A B : Type 0} → Outcome A → (A → Standing → Outcome B) → Outcome B
then_on (stopped limit) f = stopped limit
then_on (reached (Err why) s) f = reached (Err why) s
then_on (reached (Ok a) s) f = f a s

abbrev pub found : {A : Type 0} → A → Standing → Outcome A
found a s = reached (Ok a) s

-- ---- new identifiers and words

abbrev pub identifier_of : ℕ → ℕ → ℕ → Standing → Outcome Sym
identifier_of variable letter number s =
    if nat_lt 4294967295 number then stopped which.Identifiers
    else found (Ident letter number) (standing (s.bindings ++ (variable, Ident letter number) ∷ []) s.words (with_last s.letters letter number))

abbrev pub new_identifier : ℕ → ℕ → Standing → Outcome Sym
new_identifier variable letter s = identifier_of variable letter (last_of s.letters letter + 1) s

abbrev pub word_of_text : List ℕ → Standing → Outcome Sym
word_of_text text s =
    if nat_lt 4294967295 (length (with_text s.words text)) then stopped which.Words
    else found (word_in (with_text s.words text) text) (standing s.bindings (with_text s.words text) s.letters)

-- ---- values

abbrev pub bound_or_new : List Sym → ℕ → Standing → Option Sym → Outcome Sym
bound_or_new vars variable s (Some symbol) = found symbol s
bound_or_new vars variable s None = new_identifier variable (letter_from (text_of_name s.words (name_at vars variable))) s

abbrev pub atom_outcome : List Sym → Atom → Standing → Outcome Sym
atom_outcome vars (Const symbol) s = found symbol s
atom_outcome vars (Var variable) s = bound_or_new vars variable s (symbol_of variable s.bindings)

abbrev pub computed_outcome : Standing → Computed → Outcome Sym
computed_outcome s (gives symbol) = found symbol s
computed_outcome s (spells text) = word_of_text text s
computed_outcome s (fails why) = reached (Err why) s

abbrev pub call_outcome : Func → List Sym → Standing → Outcome Sym
call_outcome f symbols s = computed_outcome s (computed s.words f symbols)

abbrev mutual
  pub value_outcome : List Sym → ValueOf → Standing → Outcome Sym
  value_outcome vars (atom_value a) s = atom_outcome vars a s
  value_outcome vars (call_value f values) s = then_on (values_outcome vars values s) (call_outcome f)

  pub values_outcome : List Sym → ValuesOf → Standing → Outcome (List Sym)
  values_outcome vars no_values s = found [] s
  values_outcome vars (value_and v values) s = then_on (value_outcome vars v s) (λ symbol after. then_on (values_outcome vars values after) (λ symbols last. found (symbol ∷ symbols) last))

-- ---- what a call answers

abbrev pub Answers : {A : Type 0} → Outcome A → Standing → Result (Result A DropCause) FireFault → Type 0
Answers o after (Ok value) = o ≡ reached value after
Answers o after (Err fault.IdsSpent) = o ≡ stopped which.Identifiers
Answers o after (Err fault.WordsSpent) = o ≡ stopped which.Words
Answers o after (Err fault.NoMemory) = Unit {0}

-- of a call that always finds a value
abbrev pub Finds : {A : Type 0} → Outcome A → Standing → Result A FireFault → Type 0
Finds o after (Ok a) = o ≡ reached (Ok a) after
Finds o after (Err fault.IdsSpent) = o ≡ stopped which.Identifiers
Finds o after (Err fault.WordsSpent) = o ≡ stopped which.Words
Finds o after (Err fault.NoMemory) = Unit {0}

-- of a call that leaves what was made
abbrev pub Leaves : Outcome Made → Made → Standing → Result (Unit {0}) FireFault → Type 0
Leaves o made after (Ok done) = o ≡ reached (Ok made) after
Leaves o made after (Err fault.IdsSpent) = o ≡ stopped which.Identifiers
Leaves o made after (Err fault.WordsSpent) = o ≡ stopped which.Words
Leaves o made after (Err fault.NoMemory) = Unit {0}
