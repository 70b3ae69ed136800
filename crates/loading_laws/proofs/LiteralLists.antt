-- Lists of words and numbers.
use Rattle.std.proofs.Common.{subst, ℕ, ◌+◌, ◌≤◌, ◌<◌, Bool, true, false, cond, inl, inr, arith, List, [], ◌∷◌, ◌++◌, length, map, Some}
use Rattle.std.specs.Prelude.{unwrap_or}
use Rattle.std.specs.List.{position_from}
use Rattle.std.specs.Str.{bytes_eq}
use Rattle.soar_sym.specs.Words.{Texts, with_text, with_texts}
use Rattle.soar_sym.specs.declared.symbol.Sym.{Sym}
use Rattle.defs_text.specs.Numbered.{word_in}
use Rattle.learning_laws.specs.Lawful.{Grown}
use Rattle.learning_laws.specs.LawfulAgents.{IsLiteral}
use Rattle.learning_laws.proofs.Lists.{in_append, in_left, in_right}
use Rattle.learning_laws.proofs.TableGrowth.{grown_by_text, grown_twice, not_grown}
use Rattle.loading_laws.specs.Literals.{AreLiteral}

-- the place that is found, or else the first, is below the length
within : {X : Type 0} (p : X → Bool) (from bound : ℕ) (xs : List X) → from + length xs ≤ bound → 0 < bound → unwrap_or (position_from p from xs) 0 < bound
within p from bound [] h some = some
within p from bound (x ∷ xs) h some = go (p x) (within p (from + 1) bound xs (omega arith) some)
  where
    go : (b : Bool) → unwrap_or (position_from p (from + 1) xs) 0 < bound → unwrap_or (cond b (Some from) (position_from p (from + 1) xs)) 0 < bound
    go true later = omega arith
    go false later = later

-- the word of any text is one of a table that is not empty
pub word_literal : (words : Texts) (text : List ℕ) → 0 < length words → IsLiteral words (word_in words text)
word_literal words text some = within (bytes_eq text) 0 (length words) words (omega arith) some

-- ---- lists

module _ (words : Texts) where
  pub none : AreLiteral words []
  none s i = absurd i

  pub one : (s : Sym) → IsLiteral words s → AreLiteral words (s ∷ [])
  one s h t (inl e) = subst (IsLiteral words) e h
  one s h t (inr i) = absurd i

  pub both : (xs ys : List Sym) → AreLiteral words xs → AreLiteral words ys → AreLiteral words (xs ++ ys)
  both xs ys h k s i = elim (in_append s xs ys i) [ inl j ↦ h s j | inr j ↦ k s j ]

  pub front : (xs ys : List Sym) → AreLiteral words (xs ++ ys) → AreLiteral words xs
  front xs ys h s i = h s (in_left s xs ys i)

  pub behind : (xs ys : List Sym) → AreLiteral words (xs ++ ys) → AreLiteral words ys
  behind xs ys h s i = h s (in_right s xs ys i)

  -- words by their texts
  pub words_literal : (texts : Texts) → 0 < length words → AreLiteral words (map (word_in words) texts)
  words_literal [] some = none
  words_literal (text ∷ texts) some = both (word_in words text ∷ []) (map (word_in words) texts) (one (word_in words text) (word_literal words text some)) (words_literal texts some)

-- ---- tables that grow

pub grown_by_texts : (words texts : Texts) → Grown words (with_texts words texts)
grown_by_texts words [] = not_grown words
grown_by_texts words (text ∷ texts) = grown_twice words (with_text words text) (with_texts (with_text words text) texts) (grown_by_text words text) (grown_by_texts (with_text words text) texts)
