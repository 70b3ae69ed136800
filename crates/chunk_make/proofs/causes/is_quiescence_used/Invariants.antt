use Rattle.std.proofs.Common.{◌≡◌, drop}
use Rattle.std.specs.List.{list_any}
use Rattle.soar_sym.specs.Equality.{symbol_eq}
use Rattle.defs_soar.specs.Architecture.{quiescence_word}
use Rattle.chunk_make.proofs.causes.is_quiescence_used.Given as goal

abbrev pub invariant-used : goal.invariant-used
invariant-used l = list_any (λ u. symbol_eq u.element.attr quiescence_word) (drop l.one-index l.used) ≡ list_any (λ u. symbol_eq u.element.attr quiescence_word) l.used
