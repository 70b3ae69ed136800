-- A word at its place has its text there for good, and tables grow at their end alone.
use Rattle.std.proofs.Common.{◌≡◌, ℕ, ◌<◌, Bool, true, false, cond, List, [], ◌∷◌, ◌++◌, append_assoc, length, refl, subst, sym, ap, ◌∙◌, length-append, arith}
use Rattle.std.proofs.lemmas.List.{append-nil, get_or_append_left}
use Rattle.std.proofs.lemmas.Option.{unwrap_or-slice_get}
use Rattle.soar_sym.specs.Words.{Texts, has_text, text_of, with_text, with_texts}
use Rattle.soar_sym.specs.declared.symbol.Sym.TheVariants.{Ident, Word, Int}
use Rattle.defs_text.specs.Symbols.{word_text}
use Rattle.trace_laws.specs.Tables.{KnownStays, Later, LaterInTurn, SymbolsKeep, TablesGrow}

text_stays : (words more : Texts) (n : ℕ) → n < length words → text_of (words ++ more) n ≡ text_of words n
text_stays words more n less =
    unwrap_or-slice_get (words ++ more) n [] ∙ get_or_append_left words more [] n less ∙ sym (unwrap_or-slice_get words n [])

pub known_stays : KnownStays
known_stays words later (Ident letter number) known grown = known
known_stays words later (Int value) known grown = known
known_stays words later (Word n) known grown =
    let P : Texts → Type 0 = λ l. n < length l in subst P (sym grown.1) (omega (arith, known, length-append words grown.0))

pub symbols_keep : SymbolsKeep
symbols_keep words later (Ident letter number) known grown = refl
symbols_keep words later (Int value) known grown = refl
symbols_keep words later (Word n) known grown = ap word_text (ap (λ l. text_of l n) grown.1 ∙ text_stays words grown.0 n known)

-- ---- tables that grow

pub later_in_turn : LaterInTurn
later_in_turn first later last a b = (a.0 ++ b.0, b.1 ∙ ap (λ l. l ++ b.0) a.1 ∙ append_assoc first a.0 b.0)

one_text : (words : Texts) (text : List ℕ) → Later words (with_text words text)
one_text words text = by (has_text words text)
  where
    by : (b : Bool) → Later words (cond b words (words ++ text ∷ []))
    by true = ([], sym (append-nil words))
    by false = (text ∷ [], refl)

pub tables_grow : TablesGrow
tables_grow words [] = ([], sym (append-nil words))
tables_grow words (text ∷ texts) =
    let next : Texts = with_text words text in later_in_turn words next (with_texts next texts) (one_text words text) (tables_grow next texts)
