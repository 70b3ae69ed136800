use Rattle.std.proofs.Common.{◌≡◌, ◌∙◌, ap, subst}
use Rattle.defs_text.specs.Lexing.{fault, wide_number}
use Rattle.defs_text.specs.declared.token.LexFault.{LexFault}
use Rattle.soar_lex.specs.Pieces.{IsFault, piece_at}
use Rattle.random_words.proofs.FrontLemmas.{fault_stays, wide_is}
use Rattle.random_words.proofs.front.faulty_front.Goals as goal

pub wide_front-requires : goal.wide_front-requires
wide_front-requires c =
    let told : piece_at c.args.place c.args.text.now ≡ fault (wide_number c.in-WideNumber.field-0) =
    subst (λ (reason : LexFault). IsFault (piece_at c.args.place c.args.text.now) reason) c.in-WideNumber.is c.requires in
    told ∙ ap (λ at. fault (wide_number at)) (wide_is c.args.place c.in-WideNumber.field-0 c.args.text.now told).0

pub returns-in_default : goal.returns-in_default
returns-in_default c = record { piece = fault_stays c.args.place c.args.text.now c.args.fault c.requires c.in_default.not-WideNumber; within = tt }
