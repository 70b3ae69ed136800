use Rattle.std.proofs.Common.{[], ◌∙◌, sym, subst}
use Rattle.soar_sym.specs.Words.{Texts}
use Rattle.defs_text.specs.Numbered.{texts_before}
use Rattle.soar_lex.specs.Answers.{Grown}
use Rattle.soar_lex.specs.Pieces.{saying}
use Rattle.soar_lex.proofs.WordLemmas.{grown_all, grown_same}
use Rattle.random_words.proofs.cut.cut_piece.Goals.{in-Token+in_ok-named-in-Token, in-Wide}
use Rattle.random_words.proofs.cut.cut_piece.Goals as goal

pub returns-in-Err : goal.returns-in-Err
returns-in-Err c =
    let old : Texts = c.args.table.now in
    elim c.match-branch-2.branch [
      | in-Token+in_ok-named-in-Token w ↦ subst (Grown old) (sym (w.table-is ∙ w.in_ok-named-in-Token.ensures.words)) (grown_all old (texts_before (saying w.in-Token.says) []))
      | in-Wide w ↦ subst (Grown old) (sym w.table-is) (grown_same old)
    ]
