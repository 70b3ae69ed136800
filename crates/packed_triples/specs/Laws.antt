-- Triples as the keys of a hash table: which are one, and what is hashed of them.
use Rattle.std.specs.Prelude.{◌≡◌, ◌++◌, ℕ, List, true}
use Rattle.std.specs.Cmp.{IsEquivalence}
use Rattle.std.specs.Hash as fed
use Rattle.std.proofs.Common.{ap}
use Rattle.soar_sym.specs.Equality.{triple_eq}
use Rattle.soar_sym.specs.declared.symbol.Triple.{Triple}
use Rattle.soar_sym.proofs.KeyLemmas.{triple_same, triple_self, triple_turned}
use Rattle.packed_triples.specs.Packed.{number_of}

pub triple_equivalence : IsEquivalence triple_eq
triple_equivalence = record {
  refl = triple_self;
  symm = triple_turned;
  congr = λ x y z same. ap (λ t. triple_eq t z) (triple_same x y same);
}

-- what is hashed: the numbers of the identifier, of the attribute, of the value and of the attribute again, so that no choice of a
-- value undoes what the attribute did; a triple is found beside that of the other mark
abbrev pub triple_writes : Triple → List (List ℕ)
triple_writes t = fed.i64 (number_of t.id) ++ fed.i64 (number_of t.attr) ++ fed.i64 (number_of t.value) ++ fed.i64 (number_of t.attr)

pub same_writes : (t u : Triple) → triple_eq t u ≡ true → triple_writes t ≡ triple_writes u
same_writes t u same = ap triple_writes (triple_same t u same)
