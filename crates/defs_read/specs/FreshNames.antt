-- The names of variables that were met in a text so far, and new ones (names of new variables are this engine's).
use Rattle.std.specs.Prelude.{ℕ, zero, suc, Bool, true, false, List, [], ◌∷◌, ◌++◌, length, if◌then◌else◌}
use Rattle.std.specs.Fmt.{decimal}
use Rattle.std.specs.List.{list_any}
use Rattle.std.specs.Str.{bytes_eq}
use Rattle.soar_sym.specs.Words.{Texts}
use Rattle.soar_rule.specs.declared.cond.Atom.{Atom}
use Rattle.soar_rule.specs.declared.cond.Atom.TheVariants.{Var}

-- a test, with its variable by name: in the expansion a variable is the place of its name in this list, which grows
pub record Fresh : Type 0 where
  pub used : Texts  -- the names in the text
  pub names : Texts  -- the names met so far, in order
  pub fresh : Texts  -- those of them that are new, in order
  pub next : ℕ  -- the number of the next new name

abbrev pub has_name : Texts → List ℕ → Bool
has_name names name = list_any (bytes_eq name) names

abbrev pub with_name : List ℕ → Fresh → Fresh
with_name name f = if has_name f.names name then f else record f { names = f.names ++ name ∷ [] }

abbrev pub place_of_name : Texts → List ℕ → ℕ
place_of_name [] name = 0
place_of_name (other ∷ names) name = if bytes_eq other name then 0 else suc (place_of_name names name)

abbrev pub new_name : ℕ → List ℕ
new_name n = 36 ∷ decimal n

-- the first number from n on whose name the text does not use; as many names as there are can be in the way
abbrev pub free_number : ℕ → Texts → ℕ → ℕ
free_number zero used n = n
free_number (suc k) used n = elim (has_name used (new_name n)) [ true ↦ free_number k used (suc n) | false ↦ n ]

-- what comes of a part of the text, and the names after it
pub record Expanded (A : Type 0) : Type 0 where
  pub value : A
  pub names : Fresh

abbrev pub expanded : {A : Type 0} → A → Fresh → Expanded A
expanded a f = record { value = a; names = f }

abbrev pub then_expand : {A B : Type 0} → Expanded A → (A → Fresh → Expanded B) → Expanded B
then_expand e f = f e.value e.names

abbrev pub fresh_variable : Fresh → Expanded Atom
fresh_variable f =
    let n = free_number (length f.used) f.used f.next in
    let name = new_name n in
    expanded (Var (length f.names)) (record f { names = f.names ++ name ∷ []; fresh = f.fresh ++ name ∷ []; next = suc n })
