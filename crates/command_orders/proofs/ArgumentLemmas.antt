-- Arguments whose words the table has.
use Rattle.std.proofs.Common.{◌≡◌, ℕ, ◌+◌, ◌<◌, List, [], ◌∷◌, ◌++◌, length, drop, get_or, sym, ap, ◌∙◌, add-one}
use Rattle.std.proofs.Math.Seq.{drop-cons}
use Rattle.soar_sym.specs.Words.{Texts}
use Rattle.command_orders.specs.Behind.{AreArgumentsKnown, IsArgumentKnown}
use Rattle.command_orders.specs.declared.argument.Argument.{Argument}

-- the items from a place on, where one stands
pub items_from : {A : Type 0} (items : List A) (at : ℕ) (item : A) → at < length items → item ≡ get_or items at item → drop at items ≡ item ∷ drop (at + 1) items
items_from items at item within is =
    let front : drop at items ≡ get_or items at item ∷ drop (at + 1) items = rw add-one (drop-cons items at item within) in
    front ∙ ap (λ first. first ∷ drop (at + 1) items) (sym is)

pub arguments_last : (words : Texts) (arguments : List Argument) (a : Argument) → AreArgumentsKnown words arguments → IsArgumentKnown words a → AreArgumentsKnown words (arguments ++ a ∷ [])
arguments_last words [] a known one = (one, tt)
arguments_last words (first ∷ arguments) a known one = (known.0, arguments_last words arguments a known.1 one)
