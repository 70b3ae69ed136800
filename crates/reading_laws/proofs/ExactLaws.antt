-- The reading of productions is exact, with the limit that it has.
use Rattle.std.proofs.Common.{◌≡◌, refl, sym, ◌∙◌, ap, subst, [], ◌∷◌, ◌++◌, ℕ, Some, None, Ok, Err, Result, arith, length, ◌-◌, ◌≤◌}
use Rattle.defs_text.specs.Lexing.{Saying}
use Rattle.defs_read.specs.Grammar.{Tree}
use Rattle.defs_read.specs.Readers.{Stop, at_end}
use Rattle.defs_read.specs.ReadingTokens.{ReadOf}
use Rattle.defs_read.specs.ReadingActions.{tree_of}
use Rattle.defs_read.specs.Spelling.{Tokens, spelling}
use Rattle.reading_laws.specs.Refusals.{IsSpelled, RefusedAt}
use Rattle.reading_laws.specs.Laws.{ReadIsSpelled, SpelledIsRead, RefusedIsFirst}
use Rattle.reading_laws.proofs.ReaderLaws.{Outcome, read_all, read_front, ended, refused, rest_in, then_gives, append_nil}
use Rattle.reading_laws.proofs.ProductionLaws.{production_with}
use Rattle.reading_laws.proofs.RefusalLaws.{whole_with, Spells, whole_exact, shallow, first_refused}

-- the tree of what is read, or why not
abbrev tree_or_stop : ReadOf Tree → Result Tree (Stop × ℕ)
tree_or_stop (Ok r) = Ok r.0
tree_or_stop (Err e) = Err e

read_whole : (tokens : Tokens) → tree_of tokens ≡ tree_or_stop (whole_with 63 tokens)
unfolding tree_of
read_whole tokens = go (whole_with 63 tokens)
  where
    go : (r : ReadOf Tree) → elim r as (λ _. Result Tree (Stop × ℕ)) [ Ok r ↦ Ok r.0 | Err e ↦ Err e ] ≡ tree_or_stop r
    go (Ok r) = refl
    go (Err e) = refl

abbrev tree_then : Result Tree (Stop × ℕ) → Tree → Tree
tree_then (Ok t) u = t
tree_then (Err e) u = u

-- behind the end nothing is left
none_left : (ts : Tokens) (t : Tree) (c : Saying) (v : Tokens) → whole_with 63 ts ≡ Ok (t, c ∷ v) → ⊥
none_left ts t c v e = let o = then_gives (production_with 63 ts) at_end (t, c ∷ v) e in go o.0.0 o.0.1 o.2
  where
    go : (a : Tree) (rest : Tokens) → at_end a rest ≡ Ok (t, c ∷ v) → ⊥
    go a [] e = let f : [] ≡ c ∷ v = ap rest_in e in cc
    go a (d ∷ rest) e = cc

pub read_is_spelled : ReadIsSpelled
read_is_spelled tokens tree e = go ((whole_exact 63).outcome tokens)
  where
    read : tree_or_stop (whole_with 63 tokens) ≡ Ok tree
    read = sym (read_whole tokens) ∙ e

    go : Outcome (Spells (Some 64)) (Spells None) (whole_with 63) tokens → IsSpelled tree tokens
    go (read_all a l f) =
        let same : a ≡ tree = ap (λ r. tree_then r a) (sym (ap tree_or_stop f) ∙ read) in
        subst (λ t. IsSpelled t tokens) same (record { spelled = sym l.spelled; lawful = l.lawful.0; within = l.lawful.1 })
    go (read_front a u t v q l keep) = absurd (none_left (u ++ (t ∷ v)) a t v (keep v))
    go (ended via f) = let g = sym (ap tree_or_stop f) ∙ read in absurd (cc)
    go (refused k u t v q via further keep) = let g = sym (ap tree_or_stop (ap (whole_with 63) q ∙ keep v)) ∙ read in absurd (cc)

pub spelled_is_read : SpelledIsRead
spelled_is_read tree lawful within =
    read_whole (spelling tree) ∙ ap (λ ts. tree_or_stop (whole_with 63 ts)) (sym (append_nil (spelling tree)))
    ∙ ap tree_or_stop ((whole_exact 63).whole tree (spelling tree) [] (record { spelled = refl; lawful = (lawful, within) }) refl)

pub refused_is_first : RefusedIsFirst
refused_is_first tokens why left e = go (whole_with 63 tokens) refl (sym (read_whole tokens) ∙ e)
  where
    found : whole_with 63 tokens ≡ Err (why, left) → (left ≤ length tokens) × RefusedAt tokens (length tokens - left) why
    found f =
        let x = first_refused 63 tokens why left f in let s = shallow 63 tokens why left f in
        (x.fewer, record { inside = omega arith; begun = x.begun; shallow = s.before; no_further = x.no_further; not_whole = x.not_whole; goes_on = x.goes_on; none_within = λ i b. x.none_within i b.0 b.1; too_deep = s.with_next })

    go : (r : ReadOf Tree) → whole_with 63 tokens ≡ r → tree_or_stop r ≡ Err (why, left) → (left ≤ length tokens) × RefusedAt tokens (length tokens - left) why
    go (Ok r) f g = absurd (cc)
    go (Err x) f g = found (f ∙ ap (λ (y : Stop × ℕ). let r : ReadOf Tree = Err y in r) (ap error_of g))
      where
        error_of : Result Tree (Stop × ℕ) → Stop × ℕ
        error_of (Ok t) = x
        error_of (Err y) = y
