-- Rounds of what results lead to.
use Rattle.std.proofs.Common.{◌≡◌, ◌<◌, ◌≤◌, ◌+◌, ◌-◌, ◌++◌, ◌==◌, ◌∙◌, ℕ, zero, suc, Bool, true, false, cond, List, [], ◌∷◌, flat_map, length, length-append, refl, ap, sym, arith}
use Rattle.std.proofs.Math.Dec.{eqb→eq}
use Rattle.std.specs.Bool.{passes}
use Rattle.soar_sym.specs.declared.symbol.Sym.{Sym}
use Rattle.soar_rule.specs.Repeat.{until_same}
use Rattle.defs_soar.specs.declared.preference.Wish.{Wish}
use Rattle.defs_soar.specs.Levels.{same_length}
use Rattle.defs_soar.specs.Results.{named_by, with_each_symbol}
use Rattle.defs_soar.specs.Sorted.{has_symbol}
use Rattle.defs_soar.specs.Ungrounded.{led_to_by}

-- the values and referents of the wishes whose identifier is known
abbrev pub named_from : List Sym → List Wish → List Sym
named_from known wishes = flat_map (λ w. cond (has_symbol known w.id) (named_by w) []) wishes

-- ---- lists that grow

each_longer : (seen symbols : List Sym) → length seen ≤ length (with_each_symbol seen symbols)
each_longer seen [] = omega arith
each_longer seen (s ∷ symbols) = go (has_symbol seen s) (each_longer seen symbols) (each_longer (seen ++ s ∷ []) symbols)
  where
    go : (b : Bool) → length seen ≤ length (with_each_symbol seen symbols) → length (seen ++ s ∷ []) ≤ length (with_each_symbol (seen ++ s ∷ []) symbols)
        → length seen ≤ length (with_each_symbol (cond b seen (seen ++ s ∷ [])) symbols)
    go true here longer = here
    go false here longer = omega (arith, length-append {A = Sym})

-- a list that grew by nothing is the same
each_kept : (seen symbols : List Sym) → length (with_each_symbol seen symbols) ≡ length seen → with_each_symbol seen symbols ≡ seen
each_kept seen [] same = refl
each_kept seen (s ∷ symbols) same = go (has_symbol seen s) same (each_kept seen symbols)
  where
    go : (b : Bool) → length (with_each_symbol (cond b seen (seen ++ s ∷ [])) symbols) ≡ length seen
        → (length (with_each_symbol seen symbols) ≡ length seen → with_each_symbol seen symbols ≡ seen) → with_each_symbol (cond b seen (seen ++ s ∷ [])) symbols ≡ seen
    go true here later = later here
    go false here later =
        let longer = each_longer (seen ++ s ∷ []) symbols in
        let one : length (seen ++ s ∷ []) ≡ length seen + 1 = length-append seen (s ∷ []) in
        absurd (omega arith)

-- ---- rounds

-- where a round brings nothing, no other brings more
stays : (step : List Sym → List Sym) (n : ℕ) (known : List Sym) → step known ≡ known → until_same same_length n step known ≡ known
stays step zero known same = refl
stays step (suc n) known same = go (same_length known (step known)) (ap (until_same same_length n step) same ∙ stays step n known same)
  where
    go : (b : Bool) → until_same same_length n step (step known) ≡ known → ◌≡◌ {A = List Sym} (elim b [ true ↦ known | false ↦ until_same same_length n step (step known) ]) known
    go true later = refl
    go false later = later

pub ends : (wishes : List Wish) (n : ℕ) (known new : List Sym) → new ≡ led_to_by wishes known → length new ≡ length known → until_same same_length n (led_to_by wishes) known ≡ new
ends wishes n known new is same =
    let kept : led_to_by wishes known ≡ known = each_kept known (named_from known wishes) (ap length (sym is) ∙ same) in
    stays (led_to_by wishes) n known kept ∙ sym kept ∙ sym is

pub goes_on : (wishes : List Wish) (n i : ℕ) (known new : List Sym) → i < n → new ≡ led_to_by wishes known → (length new ≡ length known → ⊥)
    → until_same same_length (n - (i + 1)) (led_to_by wishes) new ≡ until_same same_length (n - i) (led_to_by wishes) known
goes_on wishes n i known new within is other =
    let more : n - i ≡ suc (n - (i + 1)) = omega arith in
    sym (ap (λ m. until_same same_length m (led_to_by wishes) known) more ∙ go (same_length known (led_to_by wishes known)) refl)
  where
    go : (b : Bool) → same_length known (led_to_by wishes known) ≡ b
        → ◌≡◌ {A = List Sym} (elim b [ true ↦ known | false ↦ until_same same_length (n - (i + 1)) (led_to_by wishes) (led_to_by wishes known) ]) (until_same same_length (n - (i + 1)) (led_to_by wishes) new)
    go true e = absurd (other (ap length is ∙ sym (eqb→eq (length known) (length (led_to_by wishes known)) (passes (length known == length (led_to_by wishes known)) e))))
    go false e = ap (until_same same_length (n - (i + 1)) (led_to_by wishes)) (sym is)
