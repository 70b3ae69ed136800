-- What the answers of this crate's call say.
use Rattle.std.specs.Prelude.{codes}
use Rattle.defs_run.specs.Orders.{Refusal, at_byte, wrong_words}
use Rattle.file_names.specs.declared.name.NameFault.{NameFault}
use Rattle.file_names.specs.declared.name.NameFault.TheVariants as fault

-- the refusal of a name
abbrev pub refusal_of : NameFault → Refusal
refusal_of (fault.BadByte place) = at_byte 12 (codes "bad byte") place
refusal_of fault.Empty = wrong_words
