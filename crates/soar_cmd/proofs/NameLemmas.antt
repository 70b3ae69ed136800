-- The names of variables that are told.
use Rattle.std.proofs.Common.{◌≡◌, ℕ, zero, suc, ◌<◌, List, [], ◌∷◌, length, get_or, refl, arith}
use Rattle.soar_sym.specs.Words.{Texts, architecture, IsKnown, IsVocabulary}
use Rattle.soar_sym.specs.declared.symbol.Sym.{Sym}
use Rattle.soar_sym.specs.declared.symbol.Sym.TheVariants.{Word}
use Rattle.soar_rule.specs.Symbols.{AreKnown}
use Rattle.defs_read.specs.PrintingConditions.{name_at}

pub name_at_is : (vars : List Sym) (v : ℕ) → name_at vars v ≡ get_or vars v (Word 0)
name_at_is [] v = refl
name_at_is (name ∷ vars) zero = refl
name_at_is (name ∷ vars) (suc v) = name_at_is vars v

-- the name of a variable is known, that of one beyond the names too
pub name_known : (words : Texts) (vars : List Sym) (v : ℕ) → 0 < length words → AreKnown words vars → IsKnown words (name_at vars v)
name_known words [] v first known = first
name_known words (name ∷ vars) zero first known = known.0
name_known words (name ∷ vars) (suc v) first known = name_known words vars v first known.1

-- each table has some word
pub some_words : (words : Texts) → IsVocabulary words → 0 < length words
some_words [] vocabulary = let e : [] ≡ architecture = vocabulary.first in absurd (cc)
some_words (t ∷ words) vocabulary = omega arith
