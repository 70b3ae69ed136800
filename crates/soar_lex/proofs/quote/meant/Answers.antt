use Rattle.std.proofs.Common.{subst, sym}
use Rattle.std.specs.Str.{IsUtf8}
use Rattle.soar_lex.proofs.MeantLemmas.{meant_is_text}
use Rattle.soar_lex.proofs.quote.meant.Goals as goal

pub owned-requires : goal.owned-requires
owned-requires c = subst IsUtf8 (sym c.in-Ok.ensures) (meant_is_text c.as_bytes.result.now c.as_bytes.ensures.utf8)
