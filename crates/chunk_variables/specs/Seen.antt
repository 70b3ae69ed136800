-- What has a variable, as plain data.
use Rattle.std.specs.Prelude.{ℕ, Bool, List, [], ◌∷◌, ◌++◌, Option, Some, None}
use Rattle.soar_sym.specs.declared.symbol.Sym.TheVariants.{Ident}
use Rattle.soar_rule.specs.declared.cond.Pattern.{Pattern}
use Rattle.defs_soar.specs.Variablized.{Variablized as VariablizedOf, of_identifier, of_own, variablized_in_field}
use Rattle.chunk_variables.specs.declared.variables.Variablized.{Variablized}
use Rattle.chunk_variables.specs.declared.variables.Variablized.TheVariants.{Identifier, Own}

abbrev pub variablized_seen : Variablized → VariablizedOf
variablized_seen (Identifier letter number) = of_identifier (Ident letter number)
variablized_seen (Own number) = of_own number

-- one or none
abbrev pub as_many : Option Variablized → List VariablizedOf
as_many None = []
as_many (Some v) = variablized_seen v ∷ []

-- the capital of the small letter that names its variable
abbrev pub capital_of : Variablized → ℕ
capital_of (Identifier letter number) = letter
capital_of (Own number) = 88

abbrev pub variablized_in_pattern : Bool → Pattern → List VariablizedOf
variablized_in_pattern general p = variablized_in_field general p.id ++ (variablized_in_field general p.attr ++ variablized_in_field general p.value)
