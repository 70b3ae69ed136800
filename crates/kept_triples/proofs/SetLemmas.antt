-- A set that is filled from a list.
use Rattle.std.proofs.Common.{◌≡◌, ◌||◌, Bool, true, false, List, [], ◌∷◌, ap, refl, sym, ◌∙◌}
use Rattle.soar_sym.specs.declared.symbol.Sym.TheVariants.{Ident}
use Rattle.soar_sym.specs.declared.symbol.Triple.{Triple}
use Rattle.defs_soar.specs.Values.{has_triple_among, triple_eq}

abbrev pub no_triple : Triple
no_triple = record { id = Ident 0 0; attr = Ident 0 0; value = Ident 0 0; accept = false }

-- the set and what is left have all
abbrev pub HasWithRest : List Triple → List Triple → List Triple → Type 0
HasWithRest set left all = (t : Triple) → (has_triple_among set t || has_triple_among left t) ≡ has_triple_among all t

pub one_filled : (old new left all : List Triple) (u : Triple) → HasWithRest old (u ∷ left) all
    → ((t : Triple) → has_triple_among new t ≡ (triple_eq t u || has_triple_among old t)) → HasWithRest new left all
one_filled old new left all u had up t =
    ap (λ b. b || has_triple_among left t) (up t) ∙ by (triple_eq t u) (has_triple_among old t) (has_triple_among left t) ∙ had t
  where
    by : (a b c : Bool) → ((a || b) || c) ≡ (b || (a || c))
    by true true c = refl
    by true false c = refl
    by false b c = refl

pub all_filled : (set all : List Triple) → HasWithRest set [] all → (t : Triple) → has_triple_among set t ≡ has_triple_among all t
all_filled set all had t = sym (by (has_triple_among set t)) ∙ had t
  where
    by : (b : Bool) → (b || false) ≡ b
    by true = refl
    by false = refl
