-- What the index says: of the first place of a key, and after changes.
use Rattle.std.proofs.Common.{◌≡◌, ℕ, Bool, true, false, ◌&&◌, ◌==◌, cond, [], ◌∷◌, Option, is_some, refl, sym, ap, ap₂, subst, ◌∙◌}
use Rattle.std.specs.Map.{lookup}
use Rattle.std.specs.Ordering.{is_eq, nat_cmp}
use Rattle.soar_sym.specs.declared.symbol.Triple.{Triple}
use Rattle.input_memory.specs.Key.{is_of, is_under, lowest, IsToldKey}
use Rattle.input_memory.specs.Numbered.{numbered_cmp, stands}
use Rattle.input_memory.specs.Order.{place_cmp}
use Rattle.input_memory.specs.Place.{place_of}
use Rattle.input_memory.specs.Store.{has, IsFound, Places, Writes}
use Rattle.input_memory.specs.declared.index.Index.{Index}
use Rattle.input_memory.specs.declared.key.Key.{Key}
use Rattle.input_memory.specs.declared.place.Place.{Place}
use Rattle.input_memory.proofs.FirstLemmas.{From, first_stands, other_stands, none_stands}
use Rattle.input_memory.proofs.KeyLemmas.{under_own, lowest_below, between_under}
use Rattle.input_memory.proofs.OrderLemmas.{nat_same, then_same}

-- ---- the first place from that of a key on

module _ (key : Key) (index : Index) (found : Places) where
  abbrev pub FromPlace : Place → Type 0
  FromPlace low = From place_cmp low index.places found

  from_key : (low : Place) → low ≡ lowest key → FromPlace low → FromPlace (lowest key)
  from_key low is range = subst FromPlace is range

  pub first_found : (low : Place) → low ≡ lowest key → FromPlace low → (x : (Place × ℕ) × Unit {0}) (rest : Places) → found ≡ x ∷ rest → IsToldKey key → is_under key x.0.0 ≡ true → IsFound key index x.0.1
  first_found low low_is range x rest is told under = record {
    place = x.0.0;
    here = first_stands place_cmp (lowest key) index.places found (from_key low low_is range) x rest is;
    own = under_own key x.0.0 told under;
  }

  pub first_other : (low : Place) → low ≡ lowest key → FromPlace low → (x : (Place × ℕ) × Unit {0}) (rest : Places) → found ≡ x ∷ rest → is_under key x.0.0 ≡ false → (t : Triple) (n : ℕ) → is_of key t ≡ true → has index (place_of t, n) ≡ false
  first_other low low_is range x rest is other t n own =
      other_stands place_cmp (lowest key) index.places found (from_key low low_is range) x rest is (place_of t, n) (lowest_below key t n own) (λ low high. sym (between_under key t x.0.0 x.0.1 n own low high) ∙ other)

  pub first_none : (low : Place) → low ≡ lowest key → FromPlace low → found ≡ [] → (t : Triple) (n : ℕ) → is_of key t ≡ true → has index (place_of t, n) ≡ false
  first_none low low_is range empty t n own = none_stands place_cmp (lowest key) index.places found (from_key low low_is range) empty (place_of t, n) (lowest_below key t n own)

-- ---- changes

abbrev pub at_place : Places → Place × ℕ → Option (Unit {0})
at_place places q = lookup (λ k. is_eq (numbered_cmp place_cmp q k)) places

-- at the place of a triple this is written
pub wrote : (triple : Triple) (n : ℕ) (w : Option (Unit {0})) (old new : Index) (p : Place) → p ≡ place_of triple
    → ((q : Place × ℕ) → at_place new.places.entries q ≡ cond (is_eq (numbered_cmp place_cmp (p, n) q)) w (at_place old.places.entries q)) → Writes triple n (is_some w) old new
wrote triple n w old new p is up q =
    ap is_some (up q) ∙ by (is_eq (numbered_cmp place_cmp (p, n) q)) ∙ ap (λ b. cond b (is_some w) (has old q)) here
  where
    by : (b : Bool) → is_some (cond b w (at_place old.places.entries q)) ≡ cond b (is_some w) (has old q)
    by true = refl
    by false = refl

    here : is_eq (numbered_cmp place_cmp (p, n) q) ≡ (is_eq (place_cmp (place_of triple) q.0) && (n == q.1))
    here = then_same (place_cmp p q.0) (nat_cmp n q.1) ∙ ap₂ (λ a b. is_eq (place_cmp a q.0) && b) is (nat_same n q.1)

-- nothing stands where the map is empty
pub nothing : (index : Index) → index.places.entries ≡ [] → (q : Place × ℕ) → has index q ≡ false
nothing index empty q = ap (λ es. stands place_cmp es q) empty
