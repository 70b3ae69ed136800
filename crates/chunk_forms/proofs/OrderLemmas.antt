-- Whatever has a variable gets a number below their count.
use Rattle.std.proofs.Common.{◌≡◌, suc, Bool, true, false, nat_lt, ◌&&◌, ◌||◌, cond, List, [], ◌∷◌, ◌++◌, length, refl, sym, ap, ap₂, ◌∙◌, arith}
use Rattle.std.specs.List.{list_all, list_any}
use Rattle.std.proofs.lemmas.Bool.{eq-eqb}
use Rattle.std.proofs.lemmas.List.Folds.{list_any-append}
use Rattle.soar_sym.proofs.KeyLemmas.{symbol_self}
use Rattle.defs_soar.specs.Candidate.{variablized_place}
use Rattle.defs_soar.specs.Variablized.{Variablized, of_identifier, of_own, each_variablized_once, variablized_eq}
use Rattle.chunk_variables.proofs.VariableLemmas.{place_later}

abbrev pub has_number : List Variablized → Variablized → Bool
has_number order s = nat_lt (variablized_place 0 order s) (length order)

is_itself : (s : Variablized) → variablized_eq s s ≡ true
is_itself (of_identifier s) = symbol_self s
is_itself (of_own n) = eq-eqb n n refl

-- it is among others exactly where it has a number
among_by_place : (order : List Variablized) (s : Variablized) → list_any (variablized_eq s) order ≡ has_number order s
among_by_place [] s = refl
among_by_place (t ∷ order) s = by (variablized_eq s t) (among_by_place order s) ∙ ap (λ p. nat_lt (cond (variablized_eq s t) 0 p) (suc (length order))) (sym (place_later 0 order s))
  where
    by : (b : Bool) → list_any (variablized_eq s) order ≡ has_number order s
        → (b || list_any (variablized_eq s) order) ≡ nat_lt (cond b 0 (suc (variablized_place 0 order s))) (suc (length order))
    by true later = grind arith
    by false later = later ∙ grind arith

or_last : (b : Bool) → (b || true) ≡ true
or_last true = refl
or_last false = refl

-- what was met stays so
stays : (seen vs : List Variablized) (s : Variablized) → list_any (variablized_eq s) seen ≡ true → list_any (variablized_eq s) (each_variablized_once seen vs) ≡ true
stays seen [] s is = is
stays seen (t ∷ vs) s is =
    by (list_any (variablized_eq t) seen) (stays seen vs s is)
    (stays (seen ++ t ∷ []) vs s (list_any-append (variablized_eq s) seen (t ∷ []) ∙ ap (λ b. b || list_any (variablized_eq s) (t ∷ [])) is))
  where
    by : (b : Bool) → list_any (variablized_eq s) (each_variablized_once seen vs) ≡ true → list_any (variablized_eq s) (each_variablized_once (seen ++ t ∷ []) vs) ≡ true
        → list_any (variablized_eq s) (each_variablized_once (cond b seen (seen ++ t ∷ [])) vs) ≡ true
    by true old new = old
    by false old new = new

-- each of these is met
each_is_met : (seen vs : List Variablized) → list_all (λ s. list_any (variablized_eq s) (each_variablized_once seen vs)) vs ≡ true
each_is_met seen [] = refl
each_is_met seen (t ∷ vs) = by (list_any (variablized_eq t) seen) refl (each_is_met seen vs) (each_is_met (seen ++ t ∷ []) vs)
  where
    now : list_any (variablized_eq t) (seen ++ t ∷ []) ≡ true
    now = list_any-append (variablized_eq t) seen (t ∷ []) ∙ ap (λ b. list_any (variablized_eq t) seen || (b || false)) (is_itself t) ∙ or_last (list_any (variablized_eq t) seen)

    by : (b : Bool) → list_any (variablized_eq t) seen ≡ b
        → list_all (λ s. list_any (variablized_eq s) (each_variablized_once seen vs)) vs ≡ true → list_all (λ s. list_any (variablized_eq s) (each_variablized_once (seen ++ t ∷ []) vs)) vs ≡ true
        → (list_any (variablized_eq t) (each_variablized_once (cond b seen (seen ++ t ∷ [])) vs) && list_all (λ s. list_any (variablized_eq s) (each_variablized_once (cond b seen (seen ++ t ∷ [])) vs)) vs) ≡ true
    by true e old new = ap₂ (λ b c. b && c) (stays seen vs t e) old
    by false e old new = ap₂ (λ b c. b && c) (stays (seen ++ t ∷ []) vs t now) new

pub each_has_number : (order vs : List Variablized) → order ≡ each_variablized_once [] vs → list_all (has_number order) vs ≡ true
each_has_number order vs is = same vs ∙ ap (λ o. list_all (λ s. list_any (variablized_eq s) o) vs) is ∙ each_is_met [] vs
  where
    same : (ws : List Variablized) → list_all (has_number order) ws ≡ list_all (λ s. list_any (variablized_eq s) order) ws
    same [] = refl
    same (w ∷ ws) = ap₂ (λ b c. b && c) (sym (among_by_place order w)) (same ws)
