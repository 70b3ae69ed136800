-- Explanations from a part of the history: firings that no root reaches can go.
use Rattle.std.specs.Prelude.{◌≡◌, ℕ, ◌<◌, true, List, [], ◌∷◌, ◌++◌, flat_map}
use Rattle.std.specs.List.{list_all}
use Rattle.defs_soar.specs.declared.preference.Wish.{Wish}
use Rattle.defs_soar.specs.Agents.{Agent}
use Rattle.defs_soar.specs.Explanation.{chain_of, explaining, maker_named}
use Rattle.defs_soar.specs.History.{FiringOf}
use Rattle.defs_soar.specs.Laws.{IsIn}
use Rattle.defs_soar.specs.Standing.{AreFrom, firings_of_history, is_recorded, IsRecordOf, roots_of}

-- each number stands once
abbrev pub AreApart : List FiringOf → Type 0
AreApart kept = AreFrom kept kept

-- firings of the history, each once, among them all that the roots reach
pub record IsPartOf (kept firings : List FiringOf) (roots : List ℕ) : Type 0 where
  pub apart : AreApart kept
  pub from_history : AreFrom firings kept
  pub reaches_all : list_all (is_recorded kept) (explaining firings roots) ≡ true

-- the roots reach the same firings in the part
abbrev pub NumbersByRecord : Type 0
NumbersByRecord = (kept firings : List FiringOf) (roots : List ℕ) → IsPartOf kept firings roots → explaining kept roots ≡ explaining firings roots

-- and explanations are the same
abbrev pub ChainsByRecord : Type 0
ChainsByRecord =
    (kept firings : List FiringOf) (roots : List ℕ) (results : List Wish) → IsPartOf kept firings roots → chain_of kept roots results ≡ chain_of firings roots results

-- some of the roots reach no more than all
abbrev pub RootsReachMore : Type 0
RootsReachMore =
    (firings : List FiringOf) (roots more : List ℕ) → ((n : ℕ) → IsIn n roots → IsIn n more) → (n : ℕ) → IsIn n (explaining firings roots) → IsIn n (explaining firings more)

-- so the record of an agent has the explanation of each of its roots
abbrev pub ChainsByRecordOfAgent : Type 0
ChainsByRecordOfAgent =
    (kept : List FiringOf) (a : Agent) (roots : List ℕ) (results : List Wish) → AreApart kept → IsRecordOf kept a → ((n : ℕ) → IsIn n roots → IsIn n (roots_of a))
    → chain_of kept roots results ≡ chain_of (firings_of_history a) roots results

-- ---- how such a part is kept

-- firings whose numbers rise stand once each
abbrev pub AreRisingFrom : ℕ → List FiringOf → Type 0
AreRisingFrom least [] = Unit {0}
AreRisingFrom least (f ∷ kept) = (least < f.number) × AreRisingFrom f.number kept

abbrev pub RisingAreApart : Type 0
RisingAreApart = (least : ℕ) (kept : List FiringOf) → AreRisingFrom least kept → AreApart kept

-- with fewer roots it stays one
abbrev pub FewerRootsNeedLess : Type 0
FewerRootsNeedLess =
    (kept firings : List FiringOf) (roots fewer : List ℕ) → ((n : ℕ) → IsIn n fewer → IsIn n roots) → IsPartOf kept firings roots → IsPartOf kept firings fewer

-- a part of it that has all that the roots reach in it is one of the history
abbrev pub PartsOfParts : Type 0
PartsOfParts = (less kept firings : List FiringOf) (roots : List ℕ) → IsPartOf kept firings roots → IsPartOf less kept roots → IsPartOf less firings roots

-- a new firing joins both, and the roots, where what it used was made by what they reach
abbrev pub FiringsJoin : Type 0
FiringsJoin =
    (kept firings : List FiringOf) (roots : List ℕ) (f : FiringOf) → IsPartOf kept firings roots → ((g : FiringOf) → IsIn g firings → g.number < f.number)
    → ((n : ℕ) → IsIn n (flat_map maker_named f.used) → IsIn n (explaining firings roots))
    → IsPartOf (kept ++ f ∷ []) (firings ++ f ∷ []) (f.number ∷ roots)
