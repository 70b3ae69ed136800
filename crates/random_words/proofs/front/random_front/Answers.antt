use Rattle.defs_text.specs.Lexing.{nothing, token}
use Rattle.soar_lex.specs.Pieces.{saying}
use Rattle.random_words.proofs.FrontLemmas.{same_unless_wide}
use Rattle.random_words.proofs.front.random_front.Goals as goal

pub returns-in-Ok-Nothing-clause-piece : goal.returns-in-Ok-Nothing-clause-piece
returns-in-Ok-Nothing-clause-piece c =
    same_unless_wide c.args.place c.args.text.now (nothing c.in-Ok-Nothing.count) (rw c.in-Ok-Nothing.field-0-is at c.in-Ok-Nothing.ensures.piece) (λ e. absurd (cc))

pub returns-in-Ok-Token-clause-piece : goal.returns-in-Ok-Token-clause-piece
returns-in-Ok-Token-clause-piece c =
    same_unless_wide c.args.place c.args.text.now (token (saying c.in-Ok-Token.says) c.in-Ok-Token.count) (rw c.in-Ok-Token.field-0-is at c.in-Ok-Token.ensures.piece) (λ e. absurd (cc))
