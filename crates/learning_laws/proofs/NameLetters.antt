-- The name of an identifier's variable begins with its letter.
use Rattle.std.proofs.Common.{◌≡◌, refl, sym, ◌∙◌, ap, ℕ, suc, ◌+◌, ◌-◌, ◌≤◌, Bool, true, false, ◌||◌, cond, inl, inr, ◌⊎◌, arith, List, [], ◌∷◌, ◌++◌, map, Option, Some, unwrap_or}
use Rattle.std.proofs.lemmas.Slice.Eq.{bytes_eq-Decides}
use Rattle.std.specs.Fmt.{decimal}
use Rattle.std.specs.List.{list_any, position_from, slice_get}
use Rattle.std.specs.Str.{bytes_eq}
use Rattle.soar_sym.specs.Words.{Texts, has_text, text_of}
use Rattle.soar_sym.specs.declared.symbol.Sym.{Sym}
use Rattle.soar_sym.specs.declared.symbol.Sym.TheVariants.{Ident}
use Rattle.defs_text.specs.Bytes.{is_capital, is_small}
use Rattle.defs_text.specs.Numbered.{word_in}
use Rattle.defs_soar.specs.Candidate.{variablized_place}
use Rattle.defs_soar.specs.Laws.{IsIn}
use Rattle.defs_soar.specs.Naming.{letter_from, name_at, text_of_name}
use Rattle.defs_soar.specs.Variablized.{Variablized, of_identifier, variablized_eq, letter_of, count_with, names_from}
use Rattle.learning_laws.proofs.SlotLaws.{slot_same, slot_itself}

-- ---- words of texts

bytes_same : (t u : List ℕ) → bytes_eq t u ≡ true → t ≡ u
bytes_same t u h = (bytes_eq-Decides t u).0 h

placed : (t : List ℕ) (k : ℕ) (ws : Texts) → list_any (bytes_eq t) ws ≡ true → (n : ℕ) × (position_from (bytes_eq t) k ws ≡ Some (k + n)) × (slice_get ws n ≡ Some t)
placed t k [] h = absurd (cc)
placed t k (u ∷ ws) h = go (bytes_eq t u) refl h (placed t (k + 1) ws)
  where
    go : (b : Bool) → bytes_eq t u ≡ b → (b || list_any (bytes_eq t) ws) ≡ true
        → (list_any (bytes_eq t) ws ≡ true → (n : ℕ) × (position_from (bytes_eq t) (k + 1) ws ≡ Some (k + 1 + n)) × (slice_get ws n ≡ Some t))
        → (n : ℕ) × (cond b (Some k) (position_from (bytes_eq t) (k + 1) ws) ≡ Some (k + n)) × (slice_get (u ∷ ws) n ≡ Some t)
    go true q l later = (0, ap Some (zero_more k), ap Some (sym (bytes_same t u q)))
      where
        zero_more : (k : ℕ) → k ≡ k + 0
        zero_more k = omega arith
    go false q l later = let found = later l in (suc found.0, found.1 ∙ ap Some (one_more k found.0), found.2)
      where
        one_more : (k n : ℕ) → k + 1 + n ≡ k + suc n
        one_more k n = omega arith

-- the text of a text's word is the text
pub text_of_word : (words : Texts) (t : List ℕ) → has_text words t ≡ true → text_of_name words (word_in words t) ≡ t
text_of_word words t h =
    let found = placed t 0 words h in
    ap (λ (o : Option ℕ). text_of words (unwrap_or o 0)) found.1 ∙ ap (text_of words) (zero_on found.0) ∙ ap (λ (o : Option (List ℕ)). unwrap_or o []) found.2
  where
    zero_on : (n : ℕ) → 0 + n ≡ n
    zero_on n = omega arith

-- ---- names

place_suc : (n : ℕ) (variablized : List Variablized) (s : Variablized) → variablized_place (suc n) variablized s ≡ suc (variablized_place n variablized s)
place_suc n [] s = refl
place_suc n (t ∷ variablized) s = go (variablized_eq s t) (place_suc (suc n) variablized s)
  where
    go : (b : Bool) → variablized_place (suc (suc n)) variablized s ≡ suc (variablized_place (suc n) variablized s) → cond b (suc n) (variablized_place (suc (suc n)) variablized s) ≡ suc (cond b n (variablized_place (suc n) variablized s))
    go true k = refl
    go false k = k

-- the name at the place of a slot begins with its letter
pub name_here : (f : List ℕ → Sym) (before variablized : List Variablized) (s : Variablized) → IsIn s variablized
    → (rest : List ℕ) × (name_at (map f (names_from before variablized)) (variablized_place 0 variablized s) ≡ f (letter_of s ∷ rest)) × IsIn (letter_of s ∷ rest) (names_from before variablized)
name_here f before [] s i = absurd i
name_here f before (t ∷ variablized) s i = go (variablized_eq s t) refl i (name_here f (before ++ t ∷ []) variablized s)
  where
    name : List ℕ
    name = letter_of t ∷ decimal (suc (count_with (letter_of t) before))

    go : (b : Bool) → variablized_eq s t ≡ b → (t ≡ s) ⊎ IsIn s variablized
        → (IsIn s variablized → (rest : List ℕ) × (name_at (map f (names_from (before ++ t ∷ []) variablized)) (variablized_place 0 variablized s) ≡ f (letter_of s ∷ rest)) × IsIn (letter_of s ∷ rest) (names_from (before ++ t ∷ []) variablized))
        → (rest : List ℕ) × (name_at (f (letter_of t ∷ decimal (suc (count_with (letter_of t) before))) ∷ map f (names_from (before ++ t ∷ []) variablized)) (cond b 0 (variablized_place 1 variablized s)) ≡ f (letter_of s ∷ rest))
        × (((letter_of t ∷ decimal (suc (count_with (letter_of t) before))) ≡ (letter_of s ∷ rest)) ⊎ IsIn (letter_of s ∷ rest) (names_from (before ++ t ∷ []) variablized))
    go true q i later =
        let same = slot_same s t q in
        let letters = ap letter_of (sym same) in
        (decimal (suc (count_with (letter_of t) before)), ap (λ l. f (l ∷ decimal (suc (count_with (letter_of t) before)))) letters, inl (ap (λ l. l ∷ decimal (suc (count_with (letter_of t) before))) letters))
    go false q (inl e) later = let k = ap (variablized_eq s) e ∙ slot_itself s in absurd (cc)
    go false q (inr j) later =
        let found = later j in
        (found.0, ap (name_at (f (letter_of t ∷ decimal (suc (count_with (letter_of t) before))) ∷ map f (names_from (before ++ t ∷ []) variablized))) (place_suc 0 variablized s) ∙ found.1, inr found.2)

no_capital : (l : ℕ) → 65 ≤ l → is_capital (l + 32) ≡ false
no_capital l a = grind arith

a_small : (l : ℕ) → 65 ≤ l → l ≤ 90 → is_small (l + 32) ≡ true
a_small l a b = grind arith

small_letter : (l : ℕ) (rest : List ℕ) → 65 ≤ l → l ≤ 90 → letter_from ((l + 32) ∷ rest) ≡ l
small_letter l rest a b =
    ap (λ c. cond c (l + 32) (cond (is_small (l + 32)) (l + 32 - 32) 73)) (no_capital l a) ∙ ap (λ c. cond c (l + 32 - 32) 73) (a_small l a b) ∙ back l
  where
    back : (l : ℕ) → l + 32 - 32 ≡ l
    back l = omega arith

pub letter_of_name : (words : Texts) (variablized : List Variablized) (l n : ℕ) → IsIn (of_identifier (Ident l n)) variablized → ((text : List ℕ) → IsIn text (names_from [] variablized) → has_text words text ≡ true)
    → 65 ≤ l → l ≤ 90 → letter_from (text_of_name words (name_at (map (word_in words) (names_from [] variablized)) (variablized_place 0 variablized (of_identifier (Ident l n))))) ≡ l
letter_of_name words variablized l n i known a b =
    let found = name_here (word_in words) [] variablized (of_identifier (Ident l n)) i in
    ap (λ s. letter_from (text_of_name words s)) found.1 ∙ ap letter_from (text_of_word words ((l + 32) ∷ found.0) (known ((l + 32) ∷ found.0) found.2)) ∙ small_letter l found.0 a b
