use Rattle.std.proofs.Common.{sym, subst}
use Rattle.std.proofs.lemmas.Result.{err_from_is_err_and}
use Rattle.defs_text.specs.Quotes.{closing}
use Rattle.defs_text.specs.Lexing.{quoted_piece, quoted_word}
use Rattle.soar_lex.specs.Pieces.{IsFront, IsFault}
use Rattle.soar_lex.proofs.front.barred.Goals as goal

pub returns-clause-piece : goal.returns-clause-piece
returns-clause-piece c = c.in_ok-inside.ensures.piece quoted_word

pub returns-in_err-inside-clause-piece : goal.returns-in_err-inside-clause-piece
returns-in_err-inside-clause-piece c =
    let piece = quoted_piece 124 c.args.place quoted_word c.args.after.now (closing 124 c.args.after.now) in
    let p = err_from_is_err_and c.from_residual.result c.from_residual.ensures.1 in
    subst (IsFront piece) (sym p.1) (subst (IsFault piece) (sym p.2) (c.in_err-inside.ensures.piece quoted_word))
