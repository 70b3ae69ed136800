-- Looking at triples, one after the other.
use Rattle.std.proofs.Common.{◌≡◌, Bool, true, false, cond, not, ◌&&◌, ◌||◌, List, [], ◌∷◌, ◌++◌, ap, ap₂, refl, sym, ◌∙◌}
use Rattle.soar_sym.specs.Equality.{mark_eq, symbol_eq}
use Rattle.soar_sym.specs.declared.symbol.Triple.{Triple}
use Rattle.defs_soar.specs.Values.{has_triple_among, triple_eq}
use Rattle.settling_laws.specs.Changes.{has_value}
use Rattle.soar_settle.specs.Memory.{has_plain}
use Rattle.level_change.proofs.SymbolLemmas.{symbol_same, symbol_turned}
use Rattle.kept_triples.specs.Looking.{with_mark}

-- ---- one triple

pub came_so : (a b : Bool) → (a || b) ≡ cond a true b
came_so true b = refl
came_so false b = refl

pub went_so : (a b : Bool) → (not a && b) ≡ cond a false b
went_so true b = refl
went_so false b = refl

-- ---- marked and unmarked

all_four : (a b c d : Bool) → (a && (b && (c && d))) ≡ ((a && (b && c)) && d)
all_four true true c d = refl
all_four true false c d = refl
all_four false b c d = refl

marks : (t u : Triple) (mark : Bool) → triple_eq t (with_mark u mark) ≡ (has_value t.id t.attr t.value u && mark_eq t.accept mark)
marks t u mark =
    (λ k. symbol_turned t.id u.id k && (symbol_turned t.attr u.attr k && (symbol_turned t.value u.value k && mark_eq t.accept mark)))
    ∙ all_four (symbol_eq u.id t.id) (symbol_eq u.attr t.attr) (symbol_eq u.value t.value) (mark_eq t.accept mark)

three : (a b c : Bool) → (a && (b && c)) ≡ true → (a ≡ true) × (b ≡ true) × (c ≡ true)
three true true true h = (refl, refl, refl)
three true true false h = absurd (cc)
three true false c h = absurd (cc)
three false b c h = absurd (cc)

-- a triple that is the same, marks apart, is the same with its mark
with_its_mark : (t u : Triple) (mark : Bool) → has_value t.id t.attr t.value u ≡ true → t.accept ≡ mark → with_mark u mark ≡ t
with_its_mark t u mark h m =
    let parts = three (symbol_eq u.id t.id) (symbol_eq u.attr t.attr) (symbol_eq u.value t.value) h in
    λ k. record {
      id = symbol_same u.id t.id parts.0 k;
      attr = symbol_same u.attr t.attr parts.1 k;
      value = symbol_same u.value t.value parts.2 k;
      accept = sym m k;
    }

-- the set has the triple as this says, and others as before
abbrev pub IsSet : List Triple → List Triple → Triple → Bool → Type 0
IsSet old new u b = (t : Triple) → has_triple_among new t ≡ cond (triple_eq t u) b (has_triple_among old t)

pub both_set : (now : Triple → Bool) (old mid new : List Triple) (u : Triple) → IsSet old mid (with_mark u false) (now (with_mark u false))
    → IsSet mid new (with_mark u true) (now (with_mark u true))
    → (t : Triple) → has_triple_among new t ≡ cond (has_value t.id t.attr t.value u) (now t) (has_triple_among old t)
both_set now old mid new u first second t =
    second t
    ∙ ap₂ (λ a b. cond a (now (with_mark u true)) b) (marks t u true) (first t ∙ ap (λ a. cond a (now (with_mark u false)) (has_triple_among old t)) (marks t u false))
    ∙ by (has_value t.id t.attr t.value u) refl t.accept refl
  where
    by : (h : Bool) → has_value t.id t.attr t.value u ≡ h → (a : Bool) → t.accept ≡ a
        → cond (h && mark_eq a true) (now (with_mark u true)) (cond (h && mark_eq a false) (now (with_mark u false)) (has_triple_among old t))
        ≡ cond h (now t) (has_triple_among old t)
    by true e true m = ap now (with_its_mark t u true e m)
    by true e false m = ap now (with_its_mark t u false e m)
    by false e a m = refl

-- ---- all of a list

-- with what is left looked at, each is as it is after all are
abbrev pub IsLooked : (Triple → Bool) → List Triple → List Triple → List Triple → List Triple → Type 0
IsLooked now start all set left =
    (t : Triple) → cond (has_plain left t) (now t) (has_triple_among set t) ≡ cond (has_plain all t) (now t) (has_triple_among start t)

pub one_looked : (now : Triple → Bool) (start all old new left : List Triple) (u : Triple) → IsLooked now start all old (u ∷ left)
    → ((t : Triple) → has_triple_among new t ≡ cond (has_value t.id t.attr t.value u) (now t) (has_triple_among old t)) → IsLooked now start all new left
one_looked now start all old new left u had up t =
    ap (cond (has_plain left t) (now t)) (up t) ∙ by (has_value t.id t.attr t.value u) (has_plain left t) ∙ had t
  where
    by : (a b : Bool) → cond b (now t) (cond a (now t) (has_triple_among old t)) ≡ cond (a || b) (now t) (has_triple_among old t)
    by true true = refl
    by true false = refl
    by false b = refl

-- ---- noting

pub noted : (xs ys : List Triple) (t : Triple) → has_plain (xs ++ ys) t ≡ (has_plain xs t || has_plain ys t)
noted [] ys t = refl
noted (x ∷ xs) ys t = ap (λ b. has_value t.id t.attr t.value x || b) (noted xs ys t) ∙ by (has_value t.id t.attr t.value x) (has_plain xs t) (has_plain ys t)
  where
    by : (a b c : Bool) → (a || (b || c)) ≡ ((a || b) || c)
    by true b c = refl
    by false b c = refl
