-- Names that count the variables of each letter.
use Rattle.std.proofs.Common.{◌≡◌, ◌≢◌, ℕ, suc, ◌+◌, ◌-◌, ◌<◌, ◌≤◌, ◌==◌, Bool, true, false, cond, List, [], ◌∷◌, ◌++◌, length, get_or, set, map, take, drop, drop-cons, add-one, append_assoc, replicate, refl, sym, ap, ap₂, ◌∙◌, arith}
use Rattle.std.specs.Fmt.{decimal}
use Rattle.std.proofs.lemmas.Bool.{eq-eqb, eqb-false, eqb-true, ne_eqb}
use Rattle.std.proofs.lemmas.Grind.{get_or-set_at}
use Rattle.std.proofs.lemmas.List.{get_or-replicate, get_or-set_other, length-replicate, length-set, map-append, take_more}
use Rattle.soar_sym.specs.Letters.{last_of, with_last}
use Rattle.defs_soar.specs.Variablized.{Variablized as VariablizedOf, count_with, letter_of, names_from}
use Rattle.chunk_variables.specs.Counts.{IsCounted}
use Rattle.chunk_variables.specs.declared.variables.Variablized.{Variablized}
use Rattle.chunk_variables.specs.declared.variables.Variablized.TheVariants.{Identifier, Own}
use Rattle.chunk_variables.specs.Seen.{capital_of, variablized_seen}

small_letter : (x : Variablized) → letter_of (variablized_seen x) ≡ capital_of x + 32
small_letter (Identifier letter number) = refl
small_letter (Own number) = refl

-- ---- counts

count_more : (l : ℕ) (before : List VariablizedOf) (s : VariablizedOf) → count_with l (before ++ s ∷ []) ≡ cond (letter_of s == l) (suc (count_with l before)) (count_with l before)
count_more l [] s = refl
count_more l (t ∷ before) s = by (letter_of t == l) (letter_of s == l) (count_more l before s)
  where
    by : (p q : Bool) → count_with l (before ++ s ∷ []) ≡ cond q (suc (count_with l before)) (count_with l before)
        → cond p (suc (count_with l (before ++ s ∷ []))) (count_with l (before ++ s ∷ []))
        ≡ cond q (suc (cond p (suc (count_with l before)) (count_with l before))) (cond p (suc (count_with l before)) (count_with l before))
    by true true e = ap suc e
    by true false e = ap suc e
    by false true e = e
    by false false e = e

pub counted_first : (lasts : List ℕ) → lasts ≡ replicate 26 0 → IsCounted lasts []
counted_first lasts is = record {
  letters = ap length is ∙ length-replicate {A = ℕ} 26 0;
  each = λ k below. ap (λ ls. get_or ls k 0) is ∙ get_or-replicate {A = ℕ} 26 k 0 0 below;
}

-- the count of an item's letter
count_now : (lasts : List ℕ) (before : List VariablizedOf) (x : Variablized) → IsCounted lasts before → 65 ≤ capital_of x → capital_of x ≤ 90
    → last_of lasts (capital_of x) ≡ count_with (letter_of (variablized_seen x)) before
count_now lasts before x counted low high =
    let place : capital_of x - 65 < 26 = omega arith in
    let letter : capital_of x - 65 + 97 ≡ letter_of (variablized_seen x) = omega (arith, small_letter x) in
    counted.each (capital_of x - 65) place ∙ ap (λ l. count_with l before) letter

pub counted_more : (lasts more : List ℕ) (before after : List VariablizedOf) (x : Variablized) → IsCounted lasts before → 65 ≤ capital_of x → capital_of x ≤ 90
    → more ≡ with_last lasts (capital_of x) (last_of lasts (capital_of x) + 1) → after ≡ before ++ variablized_seen x ∷ [] → IsCounted more after
counted_more lasts more before after x counted low high is longer = record {
  letters = ap length is ∙ length-set lasts (capital_of x - 65) (last_of lasts (capital_of x) + 1) ∙ counted.letters;
  each = λ k below. ap (λ ls. get_or ls k 0) is ∙ by k below (k == (capital_of x - 65)) refl ∙ sym (count_more (k + 97) before (variablized_seen x)) ∙ sym (ap (count_with (k + 97)) longer);
}
  where
    by : (k : ℕ) → k < 26 → (b : Bool) → (k == (capital_of x - 65)) ≡ b
        → get_or (set lasts (capital_of x - 65) (last_of lasts (capital_of x) + 1)) k 0
        ≡ cond (letter_of (variablized_seen x) == (k + 97)) (suc (count_with (k + 97) before)) (count_with (k + 97) before)
    by k below true e =
        let here : k ≡ capital_of x - 65 = eqb-true k (capital_of x - 65) e in
        let within : capital_of x - 65 < length lasts = omega (arith, counted.letters) in
        let letter : letter_of (variablized_seen x) ≡ k + 97 = omega (arith, small_letter x) in
        get_or-set_at lasts (capital_of x - 65) k (last_of lasts (capital_of x) + 1) 0 here within
        ∙ add-one (last_of lasts (capital_of x)) ∙ ap suc (count_now lasts before x counted low high ∙ ap (λ l. count_with l before) letter)
        ∙ sym (ap (λ b. cond b (suc (count_with (k + 97) before)) (count_with (k + 97) before)) (eq-eqb (letter_of (variablized_seen x)) (k + 97) letter))
    by k below false e =
        let other : k ≢ capital_of x - 65 = eqb-false k (capital_of x - 65) e in
        let letter : (letter_of (variablized_seen x) == (k + 97)) ≡ false = ne_eqb (letter_of (variablized_seen x)) (k + 97) (λ same. other (omega (arith, small_letter x, same))) in
        get_or-set_other lasts (capital_of x - 65) k (last_of lasts (capital_of x) + 1) 0 other ∙ counted.each k below
        ∙ sym (ap (λ b. cond b (suc (count_with (k + 97) before)) (count_with (k + 97) before)) letter)

-- ---- one name more

pub seen_before : (items : List Variablized) (i : ℕ) (x d : Variablized) → i < length items → x ≡ get_or items i d
    → map variablized_seen (take (i + 1) items) ≡ map variablized_seen (take i items) ++ variablized_seen x ∷ []
seen_before items i x d within is =
    ap (map variablized_seen) (take_more items i d within ∙ ap (λ y. take i items ++ y ∷ []) (sym is)) ∙ map-append variablized_seen (take i items) (x ∷ [])

seen_after : (items : List Variablized) (i : ℕ) (x d : Variablized) → i < length items → x ≡ get_or items i d
    → map variablized_seen (drop i items) ≡ variablized_seen x ∷ map variablized_seen (drop (i + 1) items)
seen_after items i x d within is =
    ap (map variablized_seen) (drop-cons items i d within ∙ ap (λ y. y ∷ drop (suc i) items) (sym is) ∙ ap (λ n. x ∷ drop n items) (sym (add-one i)))

name_now : (lasts : List ℕ) (before : List VariablizedOf) (x : Variablized) → IsCounted lasts before → 65 ≤ capital_of x → capital_of x ≤ 90
    → (capital_of x + 32) ∷ decimal (last_of lasts (capital_of x) + 1) ≡ letter_of (variablized_seen x) ∷ decimal (suc (count_with (letter_of (variablized_seen x)) before))
name_now lasts before x counted low high =
    ap₂ (λ l n. l ∷ decimal n) (sym (small_letter x)) (add-one (last_of lasts (capital_of x)) ∙ ap suc (count_now lasts before x counted low high))

pub named_more : (items : List Variablized) (i : ℕ) (x d : Variablized) (lasts : List ℕ) (names more : List (List ℕ)) (name : List ℕ)
    → i < length items → x ≡ get_or items i d → IsCounted lasts (map variablized_seen (take i items)) → 65 ≤ capital_of x → capital_of x ≤ 90
    → name ≡ (capital_of x + 32) ∷ decimal (last_of lasts (capital_of x) + 1) → more ≡ names ++ name ∷ []
    → more ++ names_from (map variablized_seen (take (i + 1) items)) (map variablized_seen (drop (i + 1) items))
    ≡ names ++ names_from (map variablized_seen (take i items)) (map variablized_seen (drop i items))
named_more items i x d lasts names more name within is counted low high called longer =
    let before = map variablized_seen (take i items) in
    let rest = map variablized_seen (drop (i + 1) items) in
    ap₂ (λ (xs : List (List ℕ)) (bs : List VariablizedOf). xs ++ names_from bs rest) longer (seen_before items i x d within is)
    ∙ append_assoc names (name ∷ []) (names_from (before ++ variablized_seen x ∷ []) rest)
    ∙ ap (λ (n : List ℕ). names ++ (n ∷ names_from (before ++ variablized_seen x ∷ []) rest)) (called ∙ name_now lasts before x counted low high)
    ∙ sym (ap (λ (vs : List VariablizedOf). names ++ names_from before vs) (seen_after items i x d within is))
