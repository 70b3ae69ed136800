-- Numbers of tokens, and the order that they make.
use Rattle.std.proofs.Common.{◌≡◌, ℕ, List, [], ◌∷◌, map, drop, Option, refl, ap}
use Rattle.std.specs.Prelude.{option_map}
use Rattle.defs_text.specs.Lexing.{Spelled}
use Rattle.defs_run.specs.Arguments.{Argument, bare, barred, label, number, signed, caret, no_argument, argument_in}
use Rattle.defs_run.specs.Orders.{random}
use Rattle.defs_run.specs.RandomReading.{numbers_of, random_order}
use Rattle.random_words.specs.Answers.{number_in, numbers_in}
use Rattle.command_orders.specs.Asked.{all_numbers, numbers_order}

number_first : (a : Argument) (numbers : List (Option ℕ)) (arguments : List Argument) → all_numbers numbers ≡ numbers_of arguments
    → all_numbers (number_in a ∷ numbers) ≡ numbers_of (a ∷ arguments)
number_first (number n) numbers arguments same = ap (option_map (λ ns. n ∷ ns)) same
number_first (bare text) numbers arguments same = refl
number_first (barred text) numbers arguments same = refl
number_first (label name) numbers arguments same = refl
number_first (signed z) numbers arguments same = refl
number_first caret numbers arguments same = refl
number_first no_argument numbers arguments same = refl

numbers_same : (text : List ℕ) (tokens : List Spelled) → all_numbers (numbers_in text tokens) ≡ numbers_of (map (argument_in text) tokens)
numbers_same text [] = refl
numbers_same text (t ∷ tokens) = number_first (argument_in text t) (numbers_in text tokens) (map (argument_in text) tokens) (numbers_same text tokens)

-- the order of numbers is that of the arguments
pub order_is : (text : List ℕ) (tokens : List Spelled) → numbers_order (numbers_in text tokens) ≡ random_order (drop 1 (map (argument_in text) tokens))
order_is text [] = refl
order_is text (word ∷ []) = refl
order_is text (word ∷ t ∷ tokens) = ap (option_map random) (numbers_same text (t ∷ tokens))
