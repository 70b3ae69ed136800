-- Arguments, and the orders that they make.
use Rattle.std.proofs.Common.{◌≡◌, ℕ, Bool, true, false, List, [], ◌∷◌, map, drop, Option, Some, None, Result, Ok, Err, IfOk, refl, ap, ap₂, ◌∙◌}
use Rattle.std.specs.Prelude.{if◌then◌else◌, option_map, codes}
use Rattle.std.specs.Str.{bytes_eq}
use Rattle.soar_sym.specs.Words.{Texts}
use Rattle.defs_text.specs.Lexing.{Saying, mark, arrow, open_set, close_set, sign, variable_named, integer, word_of, documentation, Spelled}
use Rattle.defs_text.specs.Numbered.{kind_in, numbered}
use Rattle.defs_text.specs.declared.token.Token.{Token}
use Rattle.defs_run.specs.Arguments.{Argument, bare, barred, label, argument_of, argument_in}
use Rattle.defs_run.specs.CommandForms.{input_order, triple_order}
use Rattle.defs_run.specs.Orders.{Order, queue}
use Rattle.defs_run.specs.declared.form.Order.{Order as OrderRead}
use Rattle.command_orders.specs.Asked.{FormOf, adds_by, order_by, order_seen}
use Rattle.command_orders.specs.Behind.{kind_argument, argument_at}
use Rattle.command_orders.specs.Known.{IsSayingIn, AreSpelledIn}
use Rattle.command_orders.proofs.WordLemmas.{text_in}

-- ---- tokens as arguments

argument_is : (words : Texts) (bytes : List ℕ) (says : Saying) → IsSayingIn words says → kind_argument words bytes (kind_in words says) ≡ argument_of bytes says
argument_is words bytes (mark b) has = refl
argument_is words bytes arrow has = refl
argument_is words bytes open_set has = refl
argument_is words bytes close_set has = refl
argument_is words bytes (sign n) has = refl
argument_is words bytes (variable_named name) has = ap label (text_in words name has)
argument_is words bytes (integer z) has = refl
argument_is words bytes (word_of text true) has = ap bare (text_in words text has)
argument_is words bytes (word_of text false) has = ap barred (text_in words text has)
argument_is words bytes (documentation text) has = refl

arguments_are : (words : Texts) (text : List ℕ) (spelled : List Spelled) → AreSpelledIn words spelled
    → map (argument_at words text) (map (numbered words) spelled) ≡ map (argument_in text) spelled
arguments_are words text [] has = refl
arguments_are words text (t ∷ spelled) has = ap₂ (λ a arguments. a ∷ arguments) (argument_is words (drop t.start text) t.says has.0) (arguments_are words text spelled has.1)

arguments_behind : (words : Texts) (text : List ℕ) (spelled : List Spelled) → AreSpelledIn words spelled
    → map (argument_at words text) (drop 1 (map (numbered words) spelled)) ≡ drop 1 (map (argument_in text) spelled)
arguments_behind words text [] has = refl
arguments_behind words text (t ∷ spelled) has = arguments_are words text spelled has.1

-- the order of arguments that are those behind a command's word
pub order_behind : {E : Type 0} (f : FormOf) (words : Texts) (text : List ℕ) (tokens : List Token) (arguments : List Argument) (result : Result (Option OrderRead) E)
    → arguments ≡ map (argument_at words text) (drop 1 tokens) → IfOk result (λ order. option_map order_seen order ≡ f words arguments)
    → IfOk result (λ order. (spelled : List Spelled) → tokens ≡ map (numbered words) spelled → AreSpelledIn words spelled → option_map order_seen order ≡ order_by f words text spelled)
order_behind f words text tokens arguments (Err e) are is = tt
order_behind f words text tokens arguments (Ok order) are is = λ spelled same has.
    is ∙ ap (f words) (are ∙ (ap (λ ts. map (argument_at words text) (drop 1 ts)) same ∙ arguments_behind words text spelled has))

-- ---- changes of the inputs

-- a word that says whether to add, and what follows it
pub input_is : (words : Texts) (text : List ℕ) (adds : Bool) (arguments : List Argument) → Some adds ≡ adds_by text
    → triple_order words (queue adds) arguments ≡ input_order words (bare text ∷ arguments)
input_is words text adds arguments is = by (bytes_eq text (codes "add")) (bytes_eq text (codes "remove")) is
  where
    by : (a r : Bool) → Some adds ≡ (if a then Some true else if r then Some false else None)
        → triple_order words (queue adds) arguments ≡ (if a then triple_order words (queue true) arguments else if r then triple_order words (queue false) arguments else None)
    by true r is = let e : adds ≡ true = cc in ap (λ b. triple_order words (queue b) arguments) e
    by false true is = let e : adds ≡ false = cc in ap (λ b. triple_order words (queue b) arguments) e
    by false false is = absurd (cc)

-- the order is one that is as good
pub order_same : {E : Type 0} (result : Result (Option OrderRead) E) (one other : Option Order) → one ≡ other
    → IfOk result (λ order. option_map order_seen order ≡ one) → IfOk result (λ order. option_map order_seen order ≡ other)
order_same (Err e) one other same is = tt
order_same (Ok order) one other same is = is ∙ same
