-- Namings under the tags that they are ordered by.
use Rattle.std.specs.Prelude.{ℕ, List, map}
use Rattle.std.specs.List.Sorted.{IsStrictlySortedBy}
use Rattle.std.specs.Ordering.{nat_cmp, ordering_then}
use Rattle.std.specs.declared.cmp.Ordering.{Ordering}
use Rattle.defs_soar.specs.Explanation.{TagNaming}
use Rattle.chunk_back.specs.Keyed.{HaveOwnKeys}
use Rattle.chunk_back.specs.declared.naming.Naming.{Naming}

-- a naming of the code as plain data
abbrev pub as_naming : Naming → TagNaming
as_naming n = record { element = n.element; named = n.named }

abbrev pub pair_cmp : ℕ × ℕ → ℕ × ℕ → Ordering
pair_cmp a b = ordering_then (nat_cmp a.0 b.0) (nat_cmp a.1 b.1)

abbrev pub naming_key : TagNaming → ℕ × ℕ
naming_key n = (n.element.tag, n.named)

abbrev pub naming_in : (ℕ × ℕ) × Naming → TagNaming
naming_in e = as_naming e.1

abbrev pub namings_in : List ((ℕ × ℕ) × Naming) → List TagNaming
namings_in entries = map naming_in entries

pub record AreNamings (entries : List ((ℕ × ℕ) × Naming)) : Type 0 where
  pub own_keys : HaveOwnKeys naming_key naming_in entries
  pub in_order : IsStrictlySortedBy pair_cmp (map (λ e. e.0) entries)
