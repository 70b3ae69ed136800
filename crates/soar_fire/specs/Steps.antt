-- The steps of the code, each beside the definition that it computes.
use Rattle.std.specs.Prelude.{ℕ, length, Option, Some, None, Result, Ok, Err, ℤ, ◌+ℤ◌, ◌-ℤ◌, ◌*ℤ◌, neg_ℤ}
use Rattle.soar_sym.specs.Words.{Texts}
use Rattle.soar_sym.specs.declared.symbol.Sym.{Sym}
use Rattle.defs_soar.specs.Functions.{Computed, gives, spells, fails, plain_text, least_of, greatest_of, absolute}
use Rattle.defs_soar.specs.declared.firing.DropCause.{DropCause}
use Rattle.defs_soar.specs.declared.firing.DropCause.TheVariants as cause
use Rattle.soar_fire.specs.declared.arithmetic.Operation.{Operation}
use Rattle.soar_fire.specs.declared.arithmetic.Operation.TheVariants as operation
use Rattle.soar_fire.specs.declared.functions.Computed.{Computed as ComputedCode}
use Rattle.soar_fire.specs.declared.functions.Computed.TheVariants as code

-- what an operation does with the number so far and the next
abbrev pub step_of : Operation → ℤ → ℤ → ℤ
step_of operation.Sum = λ z y. z +ℤ y
step_of operation.Product = λ z y. z *ℤ y
step_of operation.Rest = λ z y. z -ℤ y
step_of operation.Least = least_of
step_of operation.Greatest = greatest_of
step_of operation.Opposite = λ zero z. neg_ℤ z
step_of operation.Size = absolute

-- a result that is none where it is beyond 64 bits
abbrev pub or_overflow : Option ℤ → Result ℤ DropCause
or_overflow None = Err cause.Overflow
or_overflow (Some z) = Ok z

-- what a function gives, as the definition says it
abbrev pub computed_seen : ComputedCode → Computed
computed_seen (code.Gives s) = gives s
computed_seen (code.Spells text) = spells text
computed_seen (code.Fails e) = fails e

-- what a symbol adds to the length of a text
abbrev pub plain_length : Texts → Sym → ℕ
plain_length words s = length (plain_text words s)
