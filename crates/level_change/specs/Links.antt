-- What is kept at places: levels, and how often symbols lead to others.
use Rattle.std.specs.Prelude.{◌≡◌, ℕ, zero, suc, ◌-◌, ◌==◌, Bool, ◌&&◌, cond, List, [], ◌∷◌, Option, Some, None, is_some, if◌then◌else◌}
use Rattle.std.specs.BTreeMap.Range.{entries_between}
use Rattle.std.specs.declared.ops.Bound.TheVariants.{Included, Unbounded}
use Rattle.soar_sym.specs.Equality.{symbol_eq}
use Rattle.std.specs.Map.{lookup}
use Rattle.std.specs.Ordering.{is_eq, nat_cmp, ordering_then}
use Rattle.std.specs.declared.cmp.Ordering.{Ordering}
use Rattle.soar_sym.specs.declared.symbol.Sym.{Sym}
use Rattle.soar_sym.specs.declared.symbol.Sym.TheVariants.{Ident, Word, Int}
use Rattle.level_change.specs.declared.store.Store.{Store}

-- an identifier's letter and number
abbrev pub Id : Type 0
Id = ℕ × ℕ

abbrev pub id_of : Sym → Option Id
id_of (Ident letter number) = Some (letter, number)
id_of (Word word) = None
id_of (Int value) = None

abbrev pub symbol_of : Id → Sym
symbol_of id = Ident id.0 id.1

-- where something is kept: how often an identifier leads to another, and its level beside the first of all
abbrev pub Place : Type 0
Place = Id × Id

abbrev pub id_cmp : Id → Id → Ordering
id_cmp a b = ordering_then (nat_cmp a.0 b.0) (nat_cmp a.1 b.1)

abbrev pub place_cmp : Place → Place → Ordering
place_cmp a b = ordering_then (id_cmp a.0 b.0) (id_cmp a.1 b.1)

abbrev pub link_place : Option Id → Option Id → Option Place
link_place None to = None
link_place (Some from) None = None
link_place (Some from) (Some to) = Some (from, to)

abbrev pub level_place : Option Id → Option Place
level_place None = None
level_place (Some id) = Some (id, (0, 0))

-- what is kept
abbrev pub Facts : Type 0
Facts = List (Place × ℕ)

-- what came later, or went
abbrev pub Late : Type 0
Late = List (Place × Option ℕ)

-- what stands at a place: what came later, or what was kept
abbrev pub value_in : Facts → Late → Place → Option ℕ
value_in base [] q = lookup (λ k. is_eq (place_cmp q k)) base
value_in base (e ∷ late) q = cond (is_eq (place_cmp q e.0)) e.1 (value_in base late q)

-- nothing stands where there is no place
abbrev pub value_if : Facts → Late → Option Place → Option ℕ
value_if base late None = None
value_if base late (Some q) = value_in base late q

-- levels that are kept, in no order
abbrev pub Levels : Type 0
Levels = List (Id × ℕ)

-- levels that came later, or went
abbrev pub LateLevels : Type 0
LateLevels = List (Id × Option ℕ)

abbrev pub id_eq : Id → Id → Bool
id_eq a b = (a.0 == b.0) && (a.1 == b.1)

-- the same at the places of levels
abbrev pub placed : {X : Type 0} → List (Id × X) → List (Place × X)
placed [] = []
placed (e ∷ es) = ((e.0, (0, 0)), e.1) ∷ placed es

-- the level that is told of a symbol
abbrev pub level_at : Levels → LateLevels → Sym → Option ℕ
level_at base late s = value_if (placed base) (placed late) (level_place (id_of s))

-- how often x leads to y, where it does
abbrev pub times : Facts → Late → Sym → Sym → Option ℕ
times base late x y = value_if base late (link_place (id_of x) (id_of y))

abbrev pub is_linked : Store → Sym → Sym → Bool
is_linked links x y = is_some (times links.base.entries links.late.entries x y)

-- a number beside each two symbols
abbrev pub Counts : Type 0
Counts = Sym → Sym → ℕ

-- a number, and none for 0
abbrev pub if_any : ℕ → Option ℕ
if_any zero = None
if_any (suc n) = Some (suc n)

-- the links are there as often as is counted
abbrev pub IsCounted : Counts → Facts → Late → Type 0
IsCounted counts base late = (x y : Sym) → times base late x y ≡ if_any (counts x y)

-- So often one symbol leads to another now, or never, and others as often as before.
abbrev pub PutsLink : Late → Late → Sym → Sym → Option ℕ → Type 0
PutsLink old new from to number = (base : Facts) (x y : Sym) → times base new x y ≡ cond (symbol_eq from x && symbol_eq to y) number (times base old x y)

-- one more from a symbol to another
abbrev pub raised : Sym → Sym → Counts → Counts
raised from to counts x y = if symbol_eq from x && symbol_eq to y then suc (counts x y) else counts x y

-- one less, where there is one
abbrev pub lowered : Sym → Sym → Counts → Counts
lowered from to counts x y = if symbol_eq from x && symbol_eq to y then counts x y - 1 else counts x y

-- the links from an identifier that stand in front
abbrev pub front_of : {X : Type 0} → Id → List (Place × X) → List (Place × X)
front_of id [] = []
front_of id (e ∷ places) = if id_eq id e.0.0 then e ∷ front_of id places else []

-- the links from an identifier: they stand side by side, from the least place on that one of them may have
abbrev pub links_from : {X : Type 0} → Id → List (Place × X) → List (Place × X)
links_from id places = front_of id (entries_between place_cmp (Included (id, (0, 0))) Unbounded places)

-- whether something came later of the link between two identifiers
abbrev pub came_later : Late → Id → Id → Bool
came_later late x y = is_some (lookup (λ k. is_eq (place_cmp (x, y) k)) late)

-- the identifier in which a link ends
abbrev pub end_of : {X : Type 0} → Place × X → Sym
end_of e = symbol_of e.0.1

-- the same, from the end to the start
abbrev pub turned : Counts → Counts
turned counts y x = counts x y
