-- The tree that tokens spell: values of actions, and how many values each function has.
use Rattle.std.specs.Prelude.{ℕ, zero, suc, Bool, true, false, ◌&&◌, ◌||◌, ◌==◌, nat_lt, List, [], ◌∷◌, Option, Some, None, Ok, Err, if◌then◌else◌, length}
use Rattle.std.specs.Str.{bytes_eq}
use Rattle.soar_rule.specs.declared.action.Func.{Func}
use Rattle.soar_rule.specs.declared.action.Func.TheVariants as func
use Rattle.defs_text.specs.Lexing.{Saying, mark, sign, variable_named, integer, word_of}
use Rattle.defs_read.specs.Grammar.{Term, simple, called, Terms, no_terms, term_and}
use Rattle.defs_read.specs.Printing.{function_text}
use Rattle.defs_read.specs.Readers.{deep, then_read, begins, token, taken, several}
use Rattle.defs_read.specs.ReadingTokens.{ReadOf, is_mark, as_single}
use Rattle.defs_read.specs.Spelling.{Tokens}

-- how many values a function has, at least and at most
pub record Arity : Type 0 where
  pub least : ℕ
  pub most : Option ℕ

abbrev pub from_one : Arity
from_one = record { least = 1; most = None }

abbrev pub exactly : ℕ → Arity
exactly n = record { least = n; most = Some n }

abbrev pub arity_of : Func → Arity
arity_of func.Plus = from_one
arity_of func.Times = from_one
arity_of func.Minus = from_one
arity_of func.Div = exactly 2
arity_of func.Mod = exactly 2
arity_of func.Abs = exactly 1
arity_of func.Min = from_one
arity_of func.Max = from_one
arity_of func.Concat = record { least = 0; most = None }
arity_of func.IfEq = exactly 4
arity_of func.StrLen = exactly 1
arity_of func.Crlf = exactly 0

-- those that bare words name
abbrev pub functions : List Func
functions = func.Times ∷ func.Div ∷ func.Mod ∷ func.Abs ∷ func.Min ∷ func.Max ∷ func.Concat ∷ func.IfEq ∷ func.StrLen ∷ func.Crlf ∷ []

abbrev pub function_in : List Func → List ℕ → Option Func
function_in [] text = None
function_in (f ∷ fs) text = if bytes_eq (function_text f) text then Some f else function_in fs text

-- `+` and `-` are signs, the others bare words
abbrev pub as_function : Saying → Option Func
as_function (sign k) = if k == 7 then Some func.Plus else if k == 8 then Some func.Minus else None
as_function (word_of text true) = function_in functions text
as_function other = None

abbrev pub begins_term : Saying → Bool
begins_term (variable_named name) = true
begins_term (word_of text bare) = true
begins_term (integer z) = true
begins_term (mark b) = b == 40
begins_term other = false

abbrev pub allows : Option ℕ → ℕ → Bool
allows None n = true
allows (Some m) n = nat_lt n m

-- a value must or may follow the n values that are there
abbrev pub wants : Func → ℕ → Tokens → Bool
wants f n ts = nat_lt n (arity_of f).least || (allows (arity_of f).most n && begins begins_term ts)

abbrev pub terms_of : List Term → Terms
terms_of [] = no_terms
terms_of (t ∷ ts) = term_and t (terms_of ts)

abbrev pub one_further : {A : Type 0} → ℕ → A → ℕ
one_further n a = suc n

abbrev pub call_at : (Tokens → ReadOf Term) → Tokens → ReadOf Term
call_at read ts =
    then_read (token (is_mark 40) ts) (λ _ rest. then_read (taken as_function rest) (λ f rest.
    then_read (several (wants f) one_further read 0 rest) (λ values rest. then_read (token (is_mark 41) rest) (λ _ rest. Ok (called f (terms_of values), rest)))))

abbrev pub single_at : Tokens → ReadOf Term
single_at ts = then_read (taken as_single ts) (λ s rest. Ok (simple s, rest))

-- a value, where so many more brackets may be open
unfoldable pub term_at : ℕ → Tokens → ReadOf Term
term_at zero ts = elim (begins (is_mark 40) ts) [ true ↦ Err (deep, length ts) | false ↦ single_at ts ]
term_at (suc d) ts = elim (begins (is_mark 40) ts) [ true ↦ call_at (term_at d) ts | false ↦ single_at ts ]
