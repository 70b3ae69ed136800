-- What is told of marks stays so as triples come and go, and tells what is not there.
use Rattle.std.proofs.Common.{◌≡◌, Bool, true, false, List, [], filter, refl, sym, ap, subst, ◌∙◌}
use Rattle.std.proofs.lemmas.List.Elements.{All-filter, All-nil, All-weaker}
use Rattle.std.proofs.lemmas.List.Folds.{list_any_none}
use Rattle.soar_sym.specs.declared.symbol.Triple.{Triple}
use Rattle.soar_sym.proofs.KeyLemmas.{triple_same}
use Rattle.defs_soar.specs.Values.{has_triple_among, triple_eq}
use Rattle.input_memory.specs.Marks.{AreMarksTold, ArePlain}

-- the start
pub nothing_kept : (marked : Bool) (triples : List Triple) → triples ≡ [] → AreMarksTold marked triples
nothing_kept marked triples is none = subst ArePlain (sym is) (All-nil (λ (u : Triple). u.accept ≡ false))

-- a removal
pub fewer_told : (marked : Bool) (keep : Triple → Bool) (triples later : List Triple) → AreMarksTold marked triples → later ≡ filter keep triples → AreMarksTold marked later
fewer_told marked keep triples later told is none = subst ArePlain (sym is) (All-filter keep (λ (u : Triple). u.accept ≡ false) triples (told none))

apart : (t u : Triple) → t.accept ≡ true → u.accept ≡ false → triple_eq t u ≡ false
apart t u marked plain = by (triple_eq t u) refl
  where
    by : (b : Bool) → triple_eq t u ≡ b → triple_eq t u ≡ false
    by true same = (let bad : true ≡ false = sym marked ∙ ap (λ (v : Triple). v.accept) (triple_same t u same) ∙ plain in absurd (cc))
    by false other = other

-- where no triple has the mark, none with it is there
pub none_marked : (triples : List Triple) (t : Triple) → ArePlain triples → t.accept ≡ true → has_triple_among triples t ≡ false
none_marked triples t plain marked =
    list_any_none (triple_eq t) triples (All-weaker (λ (u : Triple). u.accept ≡ false) (λ (u : Triple). triple_eq t u ≡ false) (λ u unmarked. apart t u marked unmarked) triples plain)
