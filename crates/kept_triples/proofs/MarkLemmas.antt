-- What is told of strange triples stays so as triples come and go.
use Rattle.std.proofs.Common.{◌≡◌, Bool, true, false, not, ◌&&◌, ◌||◌, List, [], ap, refl, sym, ◌∙◌}
use Rattle.soar_sym.specs.declared.symbol.Triple.{Triple}
use Rattle.defs_soar.specs.Values.{has_triple_among, triple_eq}
use Rattle.kept_triples.specs.Marks.{is_strange, AreStrangeTold}
use Rattle.kept_triples.proofs.KeyLemmas.{triple_is}

-- the start
pub none_told : (strange : Bool) (triples : List Triple) → triples ≡ [] → AreStrangeTold strange triples
none_told strange triples is none t marked = ap (λ l. has_triple_among l t) is

-- a triple that comes
pub more_told : (strange later : Bool) (old new : List Triple) (u : Triple) → AreStrangeTold strange old
    → ((t : Triple) → has_triple_among new t ≡ (triple_eq t u || has_triple_among old t))
    → (later ≡ false → strange ≡ false) → (later ≡ false → is_strange u ≡ false) → AreStrangeTold later new
more_told strange later old new u told up before plain none t marked = up t ∙ by (triple_eq t u) refl (told (before none) t marked)
  where
    by : (b : Bool) → triple_eq t u ≡ b → has_triple_among old t ≡ false → (b || has_triple_among old t) ≡ false
    by true same had = (let bad : true ≡ false = sym marked ∙ ap is_strange (triple_is t u same) ∙ plain none in absurd (cc))
    by false other had = had

-- a triple that goes
pub fewer_told : (strange : Bool) (old new : List Triple) (u : Triple) → AreStrangeTold strange old
    → ((t : Triple) → has_triple_among new t ≡ (not (triple_eq t u) && has_triple_among old t)) → AreStrangeTold strange new
fewer_told strange old new u told up none t marked = up t ∙ ap (λ b. not (triple_eq t u) && b) (told none t marked) ∙ by (not (triple_eq t u))
  where
    by : (b : Bool) → (b && false) ≡ false
    by true = refl
    by false = refl

-- to take away what is not there changes nothing
pub nothing_less : (triples : List Triple) (u : Triple) → has_triple_among triples u ≡ false
    → (t : Triple) → has_triple_among triples t ≡ (not (triple_eq t u) && has_triple_among triples t)
nothing_less triples u none t = by (triple_eq t u) refl
  where
    by : (b : Bool) → triple_eq t u ≡ b → has_triple_among triples t ≡ (not b && has_triple_among triples t)
    by true same = ap (has_triple_among triples) (triple_is t u same) ∙ none
    by false other = refl

-- ---- either of two

pub neither_first : (a b : Bool) → (a || b) ≡ false → a ≡ false
neither_first true b none = none
neither_first false b none = refl

pub neither_second : (a b : Bool) → (a || b) ≡ false → b ≡ false
neither_second true b none = absurd (cc)
neither_second false b none = none
