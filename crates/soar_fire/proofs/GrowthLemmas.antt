-- What the table and the letters gain, step by step. Crates above cite this file.
use Rattle.std.proofs.Common.{◌≡◌, ℕ, zero, suc, ◌+◌, ◌-◌, ◌≤◌, Bool, true, false, cond, List, [], ◌∷◌, ◌++◌, length, slice_index, slice_set, refl, sym, ap, subst, ◌∙◌, arith, append_assoc, length-append}
use Rattle.std.proofs.lemmas.List.{append-nil}
use Rattle.soar_sym.specs.Letters.{last_of, with_last}
use Rattle.soar_sym.specs.Words.{Texts, has_text, with_text}
use Rattle.soar_fire.specs.Growth.{Grown, LettersKeep, OnlyGrows, OnlyRise, OnlyGains}

-- ---- the table

pub not_grown : (words : Texts) → OnlyGrows words words
not_grown words = record { grown = ([], sym (append-nil words)) }

pub grown_twice : (a b c : Texts) → OnlyGrows a b → OnlyGrows b c → OnlyGrows a c
grown_twice a b c g h = record { grown = (g.grown.0 ++ h.grown.0, h.grown.1 ∙ ap (λ l. l ++ h.grown.0) g.grown.1 ∙ append_assoc a g.grown.0 h.grown.0) }

pub same_table : (words : Texts) → Grown words words
same_table words = (not_grown words).grown

pub no_shorter : (old later : Texts) → OnlyGrows old later → length old ≤ length later
no_shorter old later g = let k : length later ≡ length old + length g.grown.0 = ap length g.grown.1 ∙ length-append old g.grown.0 in omega arith

grown_with : (words : Texts) (text : List ℕ) → OnlyGrows words (with_text words text)
grown_with words text = by (has_text words text)
  where
    by : (b : Bool) → OnlyGrows words (cond b words (words ++ text ∷ []))
    by true = not_grown words
    by false = record { grown = (text ∷ [], refl) }

pub grown_by : (words later : Texts) (text : List ℕ) → later ≡ with_text words text → OnlyGrows words later
grown_by words later text is = subst (OnlyGrows words) (sym is) (grown_with words text)

pub grown_same : (words later : Texts) → later ≡ words → OnlyGrows words later
grown_same words later is = subst (OnlyGrows words) (sym is) (not_grown words)

-- ---- the letters

pub letters_same : (letters after : List ℕ) → after ≡ letters → OnlyRise letters after
letters_same letters after is = record { kept = λ letter. rw is (omega arith) }

pub letters_twice : (a b c : List ℕ) → OnlyRise a b → OnlyRise b c → OnlyRise a c
letters_twice a b c g h = record { kept = λ letter. let x = g.kept letter in let y = h.kept letter in omega arith }

pub letters_none : (letters : List ℕ) → OnlyRise letters letters
letters_none letters = record { kept = λ letter. omega arith }

pub same_letters : (letters : List ℕ) → LettersKeep letters letters
same_letters letters = (letters_none letters).kept

raised : (xs : List ℕ) (i j v : ℕ) → slice_index xs i ≤ v → slice_index xs j ≤ slice_index (slice_set xs i v) j
raised [] i j v h = omega arith
raised (x ∷ xs) zero zero v h = h
raised (x ∷ xs) zero (suc j) v h = omega arith
raised (x ∷ xs) (suc i) zero v h = omega arith
raised (x ∷ xs) (suc i) (suc j) v h = raised xs i j v h

pub letters_next : (letters after : List ℕ) (letter : ℕ) → after ≡ with_last letters letter (last_of letters letter + 1) → OnlyRise letters after
letters_next letters after letter is =
    subst (OnlyRise letters) (sym is) (record { kept = λ other. raised letters (letter - 65) (other - 65) (last_of letters letter + 1) (omega arith) })

-- ---- both

pub gains_both : (words : Texts) (letters : List ℕ) (later : Texts) (after : List ℕ) → Grown words later → LettersKeep letters after → OnlyGains words letters later after
gains_both words letters later after g h = record { words_grow = record { grown = g }; letters_rise = record { kept = h } }

pub gains_none : (words : Texts) (letters : List ℕ) → OnlyGains words letters words letters
gains_none words letters = record { words_grow = not_grown words; letters_rise = letters_none letters }

pub gains_letters : (words : Texts) (letters after : List ℕ) → OnlyRise letters after → OnlyGains words letters words after
gains_letters words letters after h = record { words_grow = not_grown words; letters_rise = h }

pub gains_words : (words : Texts) (letters : List ℕ) (later : Texts) (after : List ℕ) (last : Texts) → OnlyGains words letters later after → OnlyGrows later last → OnlyGains words letters last after
gains_words words letters later after last g h = record { words_grow = grown_twice words later last g.words_grow h; letters_rise = g.letters_rise }

pub gains_twice : (words : Texts) (letters : List ℕ) (later : Texts) (after : List ℕ) (last : Texts) (end : List ℕ) → OnlyGains words letters later after → OnlyGains later after last end → OnlyGains words letters last end
gains_twice words letters later after last end g h =
    record { words_grow = grown_twice words later last g.words_grow h.words_grow; letters_rise = letters_twice letters after end g.letters_rise h.letters_rise }

-- a step that changes letters alone, and one behind it
pub gains_then : (words : Texts) (letters after : List ℕ) (last : Texts) (end : List ℕ) → OnlyRise letters after → OnlyGains words after last end → OnlyGains words letters last end
gains_then words letters after last end g h = gains_twice words letters words after last end (gains_letters words letters after g) h

-- and two behind it
pub gains_then_two : (words : Texts) (letters after : List ℕ) (later : Texts) (next : List ℕ) (last : Texts) (end : List ℕ) → OnlyRise letters after → OnlyGains words after later next → OnlyGains later next last end → OnlyGains words letters last end
gains_then_two words letters after later next last end g h k = gains_twice words letters later next last end (gains_then words letters after later next g h) k

-- and three behind it
pub gains_then_three : (words : Texts) (letters after : List ℕ) (later : Texts) (next : List ℕ) (third : Texts) (fourth : List ℕ) (last : Texts) (end : List ℕ) → OnlyRise letters after → OnlyGains words after later next → OnlyGains later next third fourth → OnlyGains third fourth last end → OnlyGains words letters last end
gains_then_three words letters after later next third fourth last end g h k m = gains_twice words letters third fourth last end (gains_then_two words letters after later next third fourth g h k) m
