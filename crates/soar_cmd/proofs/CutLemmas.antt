-- A text that was cut into tokens, and the table that its words joined.
use Rattle.std.proofs.Common.{ℕ, zero, suc, ◌+◌, ◌-◌, ◌≤◌, List, [], ◌∷◌, length, map, Some, Err, sym, ap, subst, arith}
use Rattle.std.proofs.lemmas.List.{length-map}
use Rattle.soar_sym.specs.Words.{Texts}
use Rattle.defs_text.specs.Lexing.{Lexed, Piece, token, nothing, fault, front_at, piece_of, with_token, lexed_from, lexed}
use Rattle.defs_text.specs.Numbered.{numbered, token_texts}
use Rattle.defs_text.specs.declared.token.Token.{Token}
use Rattle.defs_text.specs.declared.token.LexFault.{LexFault}
use Rattle.defs_text.specs.declared.token.LexFault.TheVariants as faults
use Rattle.defs_read.specs.Sayings.{AreTokensKnown}
use Rattle.soar_lex.specs.Answers.{Gained, Grown, CutWhole, IsCut}
use Rattle.soar_lex.proofs.WordLemmas.{grown_all}
use Rattle.command_orders.specs.Known.{AreSpelledIn}
use Rattle.soar_cmd.proofs.TokenLemmas.{tokens_known, tokens_spelled}

abbrev after_piece : ℕ → List ℕ → Piece → Lexed
after_piece place bytes piece =
    elim piece as (λ _. Lexed) [
      | token says count ↦ with_token (record { says = says; start = place; end = place + count }) (lexed_from (count - 1) (suc place) bytes)
      | nothing count ↦ lexed_from (count - 1) (suc place) bytes
      | fault e ↦ record { tokens = []; fault = Some e }
    ]

lexed_few : (skip place : ℕ) (bytes : List ℕ) → length (lexed_from skip place bytes).tokens ≤ length bytes
lexed_few skip place [] = omega arith
lexed_few (suc skip) place (b ∷ bytes) = omega (arith, lexed_few skip (suc place) bytes)
lexed_few zero place (b ∷ bytes) = by (piece_of (front_at b) place b bytes) (λ skip. lexed_few skip (suc place) bytes)
  where
    by : (piece : Piece) → ((skip : ℕ) → length (lexed_from skip (suc place) bytes).tokens ≤ length bytes) → length (after_piece place bytes piece).tokens ≤ length (b ∷ bytes)
    by (token says count) later = omega (arith, later (count - 1))
    by (nothing count) later = omega (arith, later (count - 1))
    by (fault e) later = omega arith

tokens_few : (bytes : List ℕ) → length (lexed bytes).tokens ≤ length bytes
unfolding lexed
tokens_few bytes = lexed_few 0 0 bytes

pub cut_known : (old new : Texts) (text : Lexed) (tokens : List Token) → CutWhole old new text tokens → AreTokensKnown new tokens
cut_known old new text tokens cut =
    subst (AreTokensKnown new) (sym cut.tokens_are)
    (subst (λ words. AreTokensKnown words (map (numbered words) text.tokens)) (sym cut.gained.words) (tokens_known old text.tokens))

pub cut_spelled : (old new : Texts) (text : Lexed) (tokens : List Token) → CutWhole old new text tokens → AreSpelledIn new text.tokens
cut_spelled old new text tokens cut = subst (λ words. AreSpelledIn words text.tokens) (sym cut.gained.words) (tokens_spelled old text.tokens)

pub cut_few : (old new : Texts) (bytes : List ℕ) (tokens : List Token) → CutWhole old new (lexed bytes) tokens → length tokens ≤ length bytes
cut_few old new bytes tokens cut =
    omega (arith, ap length cut.tokens_are, length-map (lexed bytes).tokens (numbered new), tokens_few bytes)

-- a table with the words of a text has gained words
pub gained_grown : (old new : Texts) (text : Lexed) → Gained old new text → Grown old new
gained_grown old new text gained = subst (Grown old) (sym gained.words) (grown_all old (token_texts text.tokens))

-- so has one that a fault leaves
pub fault_grown : (old new : Texts) (text : Lexed) (reason : LexFault) → IsCut old new text (Err reason) → Grown old new
fault_grown old new text (faults.BadByte place) cut = gained_grown old new text cut.1
fault_grown old new text (faults.OpenString place) cut = gained_grown old new text cut.1
fault_grown old new text (faults.WideNumber place) cut = gained_grown old new text cut.1
fault_grown old new text (faults.FloatNumber place) cut = gained_grown old new text cut.1
fault_grown old new text faults.WordsSpent cut = cut.1
fault_grown old new text faults.NoMemory cut = cut
