-- The values that rows call worse than a candidate are those that a candidate beats.
use Rattle.std.proofs.Common.{◌≡◌, ◌∙◌, refl, sym, ap, ap₂, ℕ, ◌+◌, ◌<◌, Bool, true, false, not, ◌&&◌, ◌||◌, List, [], ◌∷◌, length, drop, get_or, Option, Some, None}
use Rattle.std.proofs.lemmas.List.{drop_more}
use Rattle.std.specs.List.{list_any}
use Rattle.soar_sym.specs.Equality.{symbol_eq}
use Rattle.soar_sym.specs.declared.symbol.Sym.{Sym}
use Rattle.defs_soar.specs.declared.preference.PrefKind.{PrefKind}
use Rattle.defs_soar.specs.declared.preference.PrefKind.TheVariants as kind
use Rattle.defs_soar.specs.declared.preference.Preference.{Preference}
use Rattle.defs_soar.specs.Choice.{beats, is_beaten, says_of}
use Rattle.defs_soar.specs.Sorted.{has_symbol}
use Rattle.defs_soar.specs.Values.{is_kind}
use Rattle.soar_choose.specs.Parts.{is_referent, says}
use Rattle.soar_choose.specs.Told.{beats_in, beats_in_row, better_in}
use Rattle.soar_choose.proofs.LawLemmas.{symbol_same}
use Rattle.soar_choose.proofs.RowLemmas.{no_row}
use Rattle.soar_choose.proofs.ShuffleLemmas.{turn}

-- ---- lists

any_none : (values : List Sym) → list_any (λ a. false) values ≡ false
any_none [] = refl
any_none (a ∷ values) = any_none values

any_either : (p q : Sym → Bool) (values : List Sym) → list_any (λ a. p a || q a) values ≡ (list_any p values || list_any q values)
any_either p q [] = refl
any_either p q (a ∷ values) = ap (λ b. (p a || q a) || b) (any_either p q values) ∙ by (p a) (q a) (list_any p values) (list_any q values)
  where
    by : (a b c d : Bool) → ((a || b) || (c || d)) ≡ ((a || c) || (b || d))
    by true b c d = refl
    by false true true d = refl
    by false true false d = refl
    by false false c d = refl

-- the one that is looked for is among them
any_one : (p : Sym → Bool) (w : Sym) (values : List Sym) → list_any (λ a. p a && symbol_eq w a) values ≡ (has_symbol values w && p w)
any_one p w [] = refl
any_one p w (a ∷ values) = by (symbol_eq w a) refl (any_one p w values)
  where
    none : (b c : Bool) → ((b && false) || c) ≡ c
    none true c = refl
    none false c = refl

    more : (b c : Bool) → ((b && true) || (c && b)) ≡ (true && b)
    more true c = refl
    more false true = refl
    more false false = refl

    by : (b : Bool) → symbol_eq w a ≡ b → list_any (λ a. p a && symbol_eq w a) values ≡ (has_symbol values w && p w)
        → ((p a && b) || list_any (λ a. p a && symbol_eq w a) values) ≡ ((b || has_symbol values w) && p w)
    by true e rest = ap₂ (λ c d. (c && true) || d) (ap p (sym (symbol_same w a e))) rest ∙ more (p w) (has_symbol values w)
    by false e rest = none (p a) (list_any (λ a. p a && symbol_eq w a) values) ∙ rest

-- one row more
pub carried_on : (f : Preference → Bool) (rows : List Preference) (i : ℕ) (old new whole : Bool) → i < length rows → new ≡ (f (get_or rows i no_row) || old)
    → (list_any f (drop i rows) || old) ≡ whole → (list_any f (drop (i + 1) rows) || new) ≡ whole
carried_on f rows i old new whole lt e h =
    ap (λ b. list_any f (drop (i + 1) rows) || b) e ∙ by (list_any f (drop (i + 1) rows)) (f (get_or rows i no_row)) old ∙ ap (λ b. b || old) (sym (ap (list_any f) (drop_more rows i no_row lt))) ∙ h
  where
    by : (a b c : Bool) → (a || (b || c)) ≡ ((b || a) || c)
    by true true c = refl
    by true false c = refl
    by false true c = refl
    by false false c = refl

-- ---- one row

abbrev in_row : PrefKind → Sym → Option Sym → Sym → Sym → Bool
in_row k value r s a =
    not (symbol_eq a s)
    && ((is_kind k kind.Better && (symbol_eq value a && is_referent r s)) || (is_kind k kind.Worse && (symbol_eq value s && is_referent r a)))

parted : (n t l : Bool) → (n && ((t && l) || false)) ≡ ((n && l) && t)
parted true true true = refl
parted true true false = refl
parted true false true = refl
parted true false false = refl
parted false true l = refl
parted false false l = refl

-- the loser is the value that is asked for, so the winner differs from both alike
one_loser : (h : Bool) (winner loser s : Sym) → (h && (not (symbol_eq winner s) && symbol_eq loser s)) ≡ ((h && not (symbol_eq winner loser)) && symbol_eq s loser)
one_loser h winner loser s = ap (λ b. h && (not (symbol_eq winner s) && b)) (turn loser s) ∙ by h (symbol_eq s loser) refl
  where
    by : (h b : Bool) → symbol_eq s loser ≡ b → (h && (not (symbol_eq winner s) && b)) ≡ ((h && not (symbol_eq winner loser)) && b)
    by true true e = ap (λ t. not (symbol_eq winner t) && true) (symbol_same s loser e)
    by true false e = ends (not (symbol_eq winner s)) (not (symbol_eq winner loser))
      where
        ends : (a b : Bool) → (a && false) ≡ (b && false)
        ends true true = refl
        ends true false = refl
        ends false true = refl
        ends false false = refl
    by false b e = refl

silent : (candidates : List Sym) (s : Sym) → list_any (λ a. not (symbol_eq a s) && false) candidates ≡ false
silent candidates s = ap (λ p. list_any p candidates) (λ i a. nothing (not (symbol_eq a s)) i) ∙ any_none candidates
  where
    nothing : (n : Bool) → (n && false) ≡ false
    nothing true = refl
    nothing false = refl

by_row : (candidates : List Sym) (s : Sym) (k : PrefKind) (value : Sym) (r : Option Sym) → list_any (in_row k value r s) candidates ≡ beats_in candidates s (better_in k value r)
by_row candidates s kind.Better value (Some worse) =
    ap (λ p. list_any p candidates) (λ i a. parted (not (symbol_eq a s)) (symbol_eq value a) (symbol_eq worse s) i)
    ∙ any_one (λ a. not (symbol_eq a s) && symbol_eq worse s) value candidates
    ∙ one_loser (has_symbol candidates value) value worse s
by_row candidates s kind.Worse value (Some better) =
    ap (λ p. list_any p candidates) (λ i a. swapped (not (symbol_eq a s)) (symbol_eq value s) (symbol_eq better a) i)
    ∙ any_one (λ a. not (symbol_eq a s) && symbol_eq value s) better candidates
    ∙ one_loser (has_symbol candidates better) better value s
  where
    swapped : (n l t : Bool) → (n && (l && t)) ≡ ((n && l) && t)
    swapped true l t = refl
    swapped false l t = refl
by_row candidates s kind.Better value None = ap (λ p. list_any p candidates) (λ i a. nothing (not (symbol_eq a s)) (symbol_eq value a) i) ∙ any_none candidates
  where
    nothing : (n t : Bool) → (n && ((t && false) || false)) ≡ false
    nothing true true = refl
    nothing true false = refl
    nothing false t = refl
by_row candidates s kind.Worse value None = ap (λ p. list_any p candidates) (λ i a. nothing (not (symbol_eq a s)) (symbol_eq value s) i) ∙ any_none candidates
  where
    nothing : (n t : Bool) → (n && (t && false)) ≡ false
    nothing true true = refl
    nothing true false = refl
    nothing false t = refl
by_row candidates s kind.Accept value r = silent candidates s
by_row candidates s kind.Require value r = silent candidates s
by_row candidates s kind.Reject value r = silent candidates s
by_row candidates s kind.Prohibit value r = silent candidates s
by_row candidates s kind.Best value r = silent candidates s
by_row candidates s kind.Worst value r = silent candidates s
by_row candidates s kind.Indifferent value r = silent candidates s
by_row candidates s kind.Numeric value r = silent candidates s
by_row candidates s kind.IndifferentTo value r = silent candidates s

-- ---- all rows

says_first : (row : Preference) (rows : List Preference) (k : PrefKind) (a b : Sym) → says_of (row ∷ rows) k a b ≡ (says k a b row || says_of rows k a b)
says_first row rows k a b = refl

parts_of_beats : (n b c w d : Bool) → (n && ((b || c) || (w || d))) ≡ ((n && (b || w)) || (n && (c || d)))
parts_of_beats true true c w d = refl
parts_of_beats true false true true d = refl
parts_of_beats true false true false d = refl
parts_of_beats true false false w d = refl
parts_of_beats false b c w d = refl

beats_first : (row : Preference) (rows : List Preference) (s a : Sym) → beats (row ∷ rows) a s ≡ (in_row row.wish.kind row.wish.value row.wish.referent s a || beats rows a s)
beats_first row rows s a =
    ap₂ (λ p q. not (symbol_eq a s) && (p || q)) (says_first row rows kind.Better a s) (says_first row rows kind.Worse s a)
    ∙ parts_of_beats (not (symbol_eq a s)) (says kind.Better a s row) (says_of rows kind.Better a s) (says kind.Worse s a row) (says_of rows kind.Worse s a)

-- a set of the candidates serves as they do
pub beaten_same : (held candidates : List Sym) → ((v : Sym) → has_symbol held v ≡ has_symbol candidates v) → (rows : List Preference) (s : Sym)
    → list_any (beats_in_row held s) rows ≡ is_beaten rows candidates s
beaten_same held candidates same [] s = sym (silent candidates s)
beaten_same held candidates same (row ∷ rows) s =
    ap₂ (λ p q. p || q)
    (in_held (better_in row.wish.kind row.wish.value row.wish.referent) ∙ sym (by_row candidates s row.wish.kind row.wish.value row.wish.referent))
    (beaten_same held candidates same rows s)
    ∙ sym (ap (λ p. list_any p candidates) (λ i a. beats_first row rows s a i) ∙ any_either (in_row row.wish.kind row.wish.value row.wish.referent s) (λ a. beats rows a s) candidates)
  where
    in_held : (o : Option (Sym × Sym)) → beats_in held s o ≡ beats_in candidates s o
    in_held None = refl
    in_held (Some pair) = ap (λ b. (b && not (symbol_eq pair.0 pair.1)) && symbol_eq s pair.1) (same pair.0)
