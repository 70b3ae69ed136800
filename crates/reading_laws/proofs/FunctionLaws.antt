-- Names of functions are read exactly, and each takes its number of values.
use Rattle.std.specs.Prelude.{if◌then◌else◌}
use Rattle.std.proofs.Common.{◌≡◌, refl, sym, ◌∙◌, ap, true, false, [], ◌∷◌, ◌++◌, List, ℕ, Bool, Option, Some, None, Ok, ◌≤◌, arith}
use Rattle.std.specs.Str.{bytes_eq}
use Rattle.std.proofs.lemmas.Bool.Decides.{nat_tests}
use Rattle.std.proofs.lemmas.Slice.Eq.{bytes_eq-Decides}
use Rattle.soar_rule.specs.declared.action.Func.{Func}
use Rattle.soar_rule.specs.declared.action.Func.TheVariants as func
use Rattle.defs_text.specs.Lexing.{Saying, mark, sign, word_of}
use Rattle.defs_read.specs.Printing.{function_text}
use Rattle.defs_read.specs.Readers.{unexpected, taken, taken_by}
use Rattle.defs_read.specs.ReadingValues.{arity_of, function_in, functions, as_function}
use Rattle.defs_read.specs.Spelling.{Tokens, spelled_function, bare_word}
use Rattle.reading_laws.specs.Lawful.{AllOf, Takes}
use Rattle.reading_laws.proofs.ReaderLaws.{Viable, Outcome, read_all, read_front, ended, refused, Took, Exact, Always}
use Rattle.reading_laws.proofs.ChoiceLaws.{Stands, taken_exact}
use Rattle.reading_laws.proofs.PieceLaws.{Spelled, Any}

-- ---- names

function_back : (f : Func) → as_function (spelled_function f) ≡ Some f
function_back func.Plus = refl
function_back func.Times = refl
function_back func.Minus = refl
function_back func.Div = refl
function_back func.Mod = refl
function_back func.Abs = refl
function_back func.Min = refl
function_back func.Max = refl
function_back func.Concat = refl
function_back func.IfEq = refl
function_back func.StrLen = refl
function_back func.Crlf = refl

-- the bare word of its text names it
abbrev IsNamed : Func → Type 0
IsNamed f = bare_word (function_text f) ≡ spelled_function f

named_back : (fs : List Func) (text : List ℕ) (f : Func) → AllOf IsNamed fs → function_in fs text ≡ Some f → word_of text true ≡ spelled_function f
named_back [] text f n e = absurd (cc)
named_back (g ∷ fs) text f n e = go (named_back fs text f n.1) (bytes_eq (function_text g) text) refl e
  where
    go : (function_in fs text ≡ Some f → word_of text true ≡ spelled_function f) → (b : Bool) → bytes_eq (function_text g) text ≡ b → (if b then Some g else function_in fs text) ≡ Some f → word_of text true ≡ spelled_function f
    go later true t h = let same : g ≡ f = cc in sym (ap bare_word ((bytes_eq-Decides (function_text g) text).0 t)) ∙ n.0 ∙ ap spelled_function same
    go later false t h = later h

are_named : AllOf IsNamed functions
are_named = (refl, (refl, (refl, (refl, (refl, (refl, (refl, (refl, (refl, (refl, tt))))))))))

function_only : (t : Saying) (f : Func) → as_function t ≡ Some f → t ≡ spelled_function f
function_only (sign k) f e = grind (arith, nat_tests)
function_only (word_of text true) f e = named_back functions text f are_named e
function_only (word_of text false) f e = absurd (cc)
function_only (mark b) f e = absurd (cc)
function_only _ f e = absurd (cc)

abbrev FunctionIs : Func → Tokens → Type 0
FunctionIs = Spelled (λ f. spelled_function f ∷ []) Any

pub function_part : Exact FunctionIs FunctionIs Always (taken as_function)
function_part = record {
  outcome = outcome;
  whole = λ f u rest z s. ap (λ l. taken as_function (l ++ rest)) z.spelled ∙ ap (λ o. taken_by o (spelled_function f) rest) (function_back f);
  wide = λ f u z. z;
  sample = (func.Plus, sign 7 ∷ [], record { spelled = refl; lawful = tt });
  steps = steps;
}
  where
    none : Viable FunctionIs []
    none = record { tree = func.Plus; more = sign 7 ∷ []; spells = record { spelled = refl; lawful = tt } }

    empty : (f : Func) → Stands as_function f [] → FunctionIs f []
    empty f s = let e = s.whole in absurd (cc)

    steps : (ts : Tokens) (f : Func) (rest : Tokens) → taken as_function ts ≡ Ok (f, rest) → Took FunctionIs f ts rest
    steps ts f rest e = let m = (taken_exact as_function (sign 7) func.Plus refl).steps ts f rest e in (m.0, m.1, λ z. empty f (m.2 z))

    outcome : (ts : Tokens) → Outcome FunctionIs FunctionIs (taken as_function) ts
    outcome [] = ended none refl
    outcome (c ∷ ts) = go ts (as_function c) refl
      where
        go : (ts : Tokens) (o : Option Func) → as_function c ≡ o → Outcome FunctionIs FunctionIs (taken as_function) (c ∷ ts)
        go [] (Some f) e = read_all f (record { spelled = ap (λ t. t ∷ []) (function_only c f e); lawful = tt }) (ap (λ r. taken_by r c []) e)
        go (d ∷ ts) (Some f) e = read_front f (c ∷ []) d ts refl (record { spelled = ap (λ t. t ∷ []) (function_only c f e); lawful = tt }) (λ y. ap (λ r. taken_by r c (d ∷ y)) e)
        go ts None e = refused unexpected [] c ts refl none (λ d. absurd (cc)) (λ y. ap (λ r. taken_by r c y) e)

-- ---- how many values

abbrev pub AtMost : Option ℕ → ℕ → Type 0
AtMost None n = Unit {0}
AtMost (Some m) n = n ≤ m

-- so many values are neither too few nor too many
pub record InArity (f : Func) (n : ℕ) : Type 0 where
  pub enough : (arity_of f).least ≤ n
  pub allowed : AtMost (arity_of f).most n

pub arity_takes : (f : Func) (n : ℕ) → InArity f n → Takes f n
arity_takes func.Plus n h = h.enough
arity_takes func.Times n h = h.enough
arity_takes func.Minus n h = h.enough
arity_takes func.Div n h = let a = h.enough in let b = h.allowed in omega arith
arity_takes func.Mod n h = let a = h.enough in let b = h.allowed in omega arith
arity_takes func.Abs n h = let a = h.enough in let b = h.allowed in omega arith
arity_takes func.Min n h = h.enough
arity_takes func.Max n h = h.enough
arity_takes func.Concat n h = tt
arity_takes func.IfEq n h = let a = h.enough in let b = h.allowed in omega arith
arity_takes func.StrLen n h = let a = h.enough in let b = h.allowed in omega arith
arity_takes func.Crlf n h = let a = h.enough in let b = h.allowed in omega arith

pub takes_arity : (f : Func) (n : ℕ) → Takes f n → InArity f n
takes_arity func.Plus n h = record { enough = h; allowed = tt }
takes_arity func.Times n h = record { enough = h; allowed = tt }
takes_arity func.Minus n h = record { enough = h; allowed = tt }
takes_arity func.Div n h = record { enough = omega arith; allowed = omega arith }
takes_arity func.Mod n h = record { enough = omega arith; allowed = omega arith }
takes_arity func.Abs n h = record { enough = omega arith; allowed = omega arith }
takes_arity func.Min n h = record { enough = h; allowed = tt }
takes_arity func.Max n h = record { enough = h; allowed = tt }
takes_arity func.Concat n h = record { enough = omega arith; allowed = tt }
takes_arity func.IfEq n h = record { enough = omega arith; allowed = omega arith }
takes_arity func.StrLen n h = record { enough = omega arith; allowed = omega arith }
takes_arity func.Crlf n h = record { enough = omega arith; allowed = omega arith }

-- no function is allowed fewer values than it needs
pub arity_fits : (f : Func) → AtMost (arity_of f).most (arity_of f).least
arity_fits func.Plus = tt
arity_fits func.Times = tt
arity_fits func.Minus = tt
arity_fits func.Div = omega arith
arity_fits func.Mod = omega arith
arity_fits func.Abs = omega arith
arity_fits func.Min = tt
arity_fits func.Max = tt
arity_fits func.Concat = tt
arity_fits func.IfEq = omega arith
arity_fits func.StrLen = omega arith
arity_fits func.Crlf = omega arith
