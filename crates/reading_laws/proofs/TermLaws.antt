-- Values are read exactly.
use Rattle.std.proofs.Common.{◌≡◌, refl, sym, ◌∙◌, ap, subst, false, [], ◌∷◌, ◌++◌, ℕ, zero, suc, Option, Some, None, inl, inr, arith}
use Rattle.soar_rule.specs.declared.action.Func.TheVariants as func
use Rattle.defs_text.specs.Lexing.{mark}
use Rattle.defs_read.specs.Grammar.{named, number, Single, a_variable, a_constant, Term, simple, called, no_terms}
use Rattle.defs_read.specs.Readers.{begins, taken}
use Rattle.defs_read.specs.ReadingTokens.{is_mark, as_single}
use Rattle.defs_read.specs.ReadingValues.{call_at, single_at, term_at}
use Rattle.defs_read.specs.Spelling.{Tokens, bare_word, spelled_single, spelled_function}
use Rattle.defs_read.specs.Printing.{function_text}
use Rattle.reading_laws.specs.Lawful.{Takes}
use Rattle.reading_laws.specs.Brackets.{terms_brackets}
use Rattle.reading_laws.proofs.ReaderLaws.{Viable, Exact, Always, said_exact}
use Rattle.reading_laws.proofs.ChoiceLaws.{Either, begins_looks, Begun, choice_exact, deep_exact}
use Rattle.reading_laws.proofs.PieceLaws.{Spelled, Piece, Any, Built, built_exact}
use Rattle.reading_laws.proofs.LimitLaws.{fits_none, outer, fits_outside, fits_inside}
use Rattle.reading_laws.proofs.TokenLaws.{mark_only, single_part}
use Rattle.reading_laws.proofs.CallLaws.{TermIs, spelled_list, length_list, terms_within, IsCall, CallTail, CallOk, call_exact}

-- ---- a value

abbrev Plainly : Term → Tokens → Type 0
Plainly = Built simple (Spelled (λ s. spelled_single s ∷ []) Any)

plain_exact : Exact Plainly Plainly Always single_at
plain_exact = built_exact Always simple (taken as_single) single_part (λ s rest t. tt)

plain_there : (m : Option ℕ) (t : Term) (u : Tokens) → Plainly t u → TermIs m t u
plain_there m t u b = subst (λ x. TermIs m x u) (sym b.same) (record { spelled = b.first.spelled; lawful = (tt, fits_none m) })

plain_back : (m : Option ℕ) (s : Single) (u : Tokens) → TermIs m (simple s) u → Plainly (simple s) u
plain_back m s u z = record { part = s; same = refl; first = record { spelled = z.spelled; lawful = tt } }

plain_begins : (t : Term) (u rest : Tokens) → Plainly t u → begins (is_mark 40) (u ++ rest) ≡ false
plain_begins t u rest b = ap (λ k. begins (is_mark 40) (k ++ rest)) b.first.spelled ∙ none b.part
  where
    none : (s : Single) → is_mark 40 (spelled_single s) ≡ false
    none (a_variable v) = refl
    none (a_constant (named w b)) = refl
    none (a_constant (number z)) = refl

term_there : (m : Option ℕ) (t : Term) (u : Tokens) → Either (Piece IsCall CallTail (CallOk m)) Plainly t u → TermIs (outer m) t u
term_there m t u (inr b) = plain_there (outer m) t u b
term_there m (simple s) u (inl z) = absurd z.known
term_there m (called f ts) u (inl z) =
    let l = (terms_within m ts).0 z.lawful.1.1.0.0 in
    record { spelled = z.spelled ∙ ap (λ k. mark 40 ∷ (spelled_function f ∷ (k ++ (mark 41 ∷ [])))) (spelled_list ts); lawful = ((subst (Takes f) (length_list ts) z.lawful.1.1.0.1, l.0), fits_outside m (terms_brackets ts) l.1) }

term_back : (m : Option ℕ) (t : Term) (u : Tokens) → TermIs (outer m) t u → Either (Piece IsCall CallTail (CallOk m)) Plainly t u
term_back m (simple s) u z = inr (plain_back (outer m) s u z)
term_back m (called f ts) u z =
    let b = fits_inside m (terms_brackets ts) z.lawful.1 in
    inl (record {
      known = tt;
      spelled = z.spelled ∙ ap (λ k. mark 40 ∷ (spelled_function f ∷ (k ++ (mark 41 ∷ [])))) (sym (spelled_list ts));
      lawful = (tt, (tt, (((terms_within m ts).1 (z.lawful.0.1, b), subst (Takes f) (sym (length_list ts)) z.lawful.0.0), tt)));
    })

term_wide : (m : Option ℕ) (t : Term) (u : Tokens) → TermIs m t u → TermIs None t u
term_wide m t u z = record { spelled = z.spelled; lawful = (z.lawful.0, tt) }

term_begun : Begun (is_mark 40) (TermIs None)
term_begun = record {
  each = λ t e. subst (λ c. Viable (TermIs None) (c ∷ [])) (sym (mark_only 40 t e))
      (record { tree = called func.Crlf no_terms; more = bare_word (function_text func.Crlf) ∷ (mark 41 ∷ []); spells = record { spelled = refl; lawful = ((refl, tt), tt) } });
}

-- A value is read exactly, where so many brackets may open.
pub term_exact : (d : ℕ) → Exact (TermIs (Some d)) (TermIs None) Always (term_at d)
unfolding term_at
term_exact zero =
    said_exact (term_at zero) (plain_there (Some 0)) back wide (term_wide (Some 0)) (λ t rest s. s)
    (deep_exact (is_mark 40) single_at term_begun (λ t u rest b s. plain_begins t u rest b) plain_exact)
  where
    back : (t : Term) (u : Tokens) → TermIs (Some 0) t u → Plainly t u
    back (simple s) u z = plain_back (Some 0) s u z
    back (called f ts) u z = let h = z.lawful.1 in absurd (omega arith)

    wide : (t : Term) (u : Tokens) → Either (TermIs None) Plainly t u → TermIs None t u
    wide t u (inl w) = w
    wide t u (inr b) = plain_there None t u b
term_exact (suc d) = go (term_exact d)
  where
    go : Exact (TermIs (Some d)) (TermIs None) Always (term_at d) → Exact (TermIs (Some (suc d))) (TermIs None) Always (term_at (suc d))
    go x =
        said_exact (term_at (suc d)) (term_there (Some d)) (term_back (Some d)) (term_there None) (term_wide (Some (suc d))) (λ t rest s. s)
        (choice_exact (begins (is_mark 40)) (call_at (term_at d)) single_at (begins_looks (is_mark 40))
        (record { first = λ t u rest z. ap (λ k. begins (is_mark 40) (k ++ rest)) z.spelled; second = λ t u rest b s. plain_begins t u rest b }) (call_exact d x) plain_exact)
