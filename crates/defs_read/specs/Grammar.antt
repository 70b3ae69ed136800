-- The grammar of productions: what may stand in a text (Soar manual, chapter 3, production syntax; the profile is this engine's).
use Rattle.std.specs.Prelude.{ℕ, Bool, ℤ, List, Option}
use Rattle.soar_rule.specs.declared.action.Func.{Func}

-- ---- fields

-- a word, bare or in bars, or an integer
pub data Constant : Type 0 where
  named : List ℕ → Bool → Constant
  number : ℤ → Constant

pub data Single : Type 0 where
  a_variable : List ℕ → Single
  a_constant : Constant → Single

-- `<< a b >>`
pub record Alternatives : Type 0 where
  pub first : Constant
  pub others : List Constant

-- with the sign of a relation, or without
pub record Tested : Type 0 where
  pub relation : Option ℕ
  pub single : Single

pub data Simple : Type 0 where
  one_of : Alternatives → Simple
  tested : Tested → Simple

-- `{ a b }`, or one test
pub record Braced : Type 0 where
  pub first : Simple
  pub others : List Simple

pub data FieldTree : Type 0 where
  braced : Braced → FieldTree
  single : Simple → FieldTree

-- ---- conditions

pub record ValueTest : Type 0 where
  pub value : FieldTree
  pub accept : Bool

-- an attribute, the path behind it, and its values
pub record AttributeTest : Type 0 where
  pub negative : Bool
  pub attribute : FieldTree
  pub path : List FieldTree
  pub values : List ValueTest

pub record Group : Type 0 where
  pub state : Bool
  pub field : Option FieldTree
  pub tests : List AttributeTest

-- a group, or conditions in braces; with `-` or without
mutual
  pub data Part : Type 0 where
    grouped : Bool → Group → Part
    joined : Bool → Part → Parts → Part

  pub data Parts : Type 0 where
    no_parts : Parts
    part_and : Part → Parts → Parts

-- ---- actions

mutual
  pub data Term : Type 0 where
    simple : Single → Term
    called : Func → Terms → Term

  pub data Terms : Type 0 where
    no_terms : Terms
    term_and : Term → Terms → Terms

-- `>`, `<` or `=`, with a referent or without
pub record Compared : Type 0 where
  pub sign : ℕ
  pub referent : Option Term

-- `+`, `-`, `!`, `~`, or one that compares
pub data WishTree : Type 0 where
  accepting rejecting requiring prohibiting : WishTree
  comparing : Compared → WishTree

pub record ItemTree : Type 0 where
  pub value : Term
  pub wishes : List WishTree

pub record AttributeMake : Type 0 where
  pub attribute : Term
  pub path : List Term
  pub item : ItemTree
  pub items : List ItemTree

pub record MakeTree : Type 0 where
  pub variable : List ℕ
  pub make : AttributeMake
  pub makes : List AttributeMake

pub data ActionTree : Type 0 where
  making : MakeTree → ActionTree
  writing : Terms → ActionTree
  halting : ActionTree

-- ---- productions

pub data Flag : Type 0 where
  operator_support instance_support is_default is_chunk : Flag

pub record Tree : Type 0 where
  pub name : List ℕ
  pub bare : Bool
  pub doc : Option (List ℕ)
  pub flags : List Flag
  pub part : Part
  pub parts : Parts
  pub actions : List ActionTree
