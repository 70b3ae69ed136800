use Rattle.std.proofs.Common.{◌≡◌, ◌-◌, ◌<◌, drop, true, cond}
use Rattle.defs_text.specs.Quotes.{bad_escape, bad_escape_from}
use Rattle.soar_lex.proofs.quote.bad_escape.Given as goal

abbrev pub invariant-bytes : goal.invariant-bytes
invariant-bytes l = record {
  place : bad_escape l.quote l.bytes ≡ bad_escape_from l.quote l.behind (l.at - cond l.behind 1 0) (drop l.at l.bytes);
  some : l.behind ≡ true → 0 < l.at;
}
