-- What is known where a wave learns: the goals, the words and the last numbers of letters, and what the results may be.
use Rattle.std.specs.Prelude.{◌≡◌, ℕ, ◌≤◌, true, false, List, length, flat_map, Option, Some, None, Ok}
use Rattle.soar_sym.specs.Letters.{last_of}
use Rattle.soar_sym.specs.Words.{Texts, has_text}
use Rattle.soar_sym.specs.declared.symbol.Sym.{Sym}
use Rattle.soar_sym.specs.declared.symbol.Sym.TheVariants.{Ident, Word, Int}
use Rattle.defs_soar.specs.declared.goal.Goal.{Goal}
use Rattle.defs_soar.specs.declared.preference.PrefKind.{PrefKind}
use Rattle.defs_soar.specs.declared.preference.PrefKind.TheVariants as kind
use Rattle.defs_soar.specs.declared.preference.Wish.{Wish}
use Rattle.defs_soar.specs.Candidate.{general_form}
use Rattle.defs_soar.specs.ChainIdentifiers.{is_made_by}
use Rattle.defs_soar.specs.Dependencies.{symbols_of_wish}
use Rattle.defs_soar.specs.Firing.{judged, made_by}
use Rattle.defs_soar.specs.Goals.{is_goal}
use Rattle.defs_soar.specs.History.{ChainOf}
use Rattle.defs_soar.specs.Laws.{IsIn}
use Rattle.defs_soar.specs.Naming.{Naming}
use Rattle.soar_rule.specs.Productions.{ActionOf}
use Rattle.defs_soar.specs.Ungrounded.{symbols_of_element}
use Rattle.defs_soar.specs.Values.{is_identifier}

-- the kinds that have a referent have one, and no others
abbrev pub RefFits : PrefKind → Option Sym → Type 0
RefFits kind.Better (Some s) = Unit {0}
RefFits kind.Better None = ⊥
RefFits kind.Worse (Some s) = Unit {0}
RefFits kind.Worse None = ⊥
RefFits kind.Numeric (Some (Int z)) = Unit {0}
RefFits kind.Numeric (Some (Ident l n)) = ⊥
RefFits kind.Numeric (Some (Word x)) = ⊥
RefFits kind.Numeric None = ⊥
RefFits kind.IndifferentTo (Some (Int z)) = ⊥
RefFits kind.IndifferentTo (Some (Ident l n)) = Unit {0}
RefFits kind.IndifferentTo (Some (Word x)) = Unit {0}
RefFits kind.IndifferentTo None = ⊥
RefFits kind.Accept (Some s) = ⊥
RefFits kind.Accept None = Unit {0}
RefFits kind.Require (Some s) = ⊥
RefFits kind.Require None = Unit {0}
RefFits kind.Reject (Some s) = ⊥
RefFits kind.Reject None = Unit {0}
RefFits kind.Prohibit (Some s) = ⊥
RefFits kind.Prohibit None = Unit {0}
RefFits kind.Best (Some s) = ⊥
RefFits kind.Best None = Unit {0}
RefFits kind.Worst (Some s) = ⊥
RefFits kind.Worst None = Unit {0}
RefFits kind.Indifferent (Some s) = ⊥
RefFits kind.Indifferent None = Unit {0}

-- a wish that some action can make where these are the goals
pub record CanBeMade (goals : List Goal) (w : Wish) : Type 0 where
  pub identifier : is_identifier w.id ≡ true
  pub referent : RefFits w.kind w.referent
  pub allowed : judged goals w ≡ Ok w

-- Identifiers were given by the letters; none that the explanation made is a goal; the results can be made; the names of the rule's variables are words.
pub record IsBeforeWave (words : Texts) (letters : List ℕ) (goals : List Goal) (c : ChainOf) (depth : ℕ) : Type 0 where
  pub long : length letters ≡ 26
  pub given : (l n : ℕ) → IsIn (Ident l n) (flat_map symbols_of_element c.grounds) → n ≤ last_of letters l
  pub goals_given : (l n : ℕ) → is_goal goals (Ident l n) ≡ true → n ≤ last_of letters l
  pub capital : (l n : ℕ) → IsIn (Ident l n) (flat_map symbols_of_wish c.results) → (65 ≤ l) × (l ≤ 90)
  pub no_goal : (s : Sym) → is_made_by c s ≡ true → is_goal goals s ≡ false
  pub results : (w : Wish) → IsIn w c.results → CanBeMade goals w
  pub names : (text : List ℕ) → IsIn text (general_form words c depth).names → has_text words text ≡ true

-- what a firing makes can be made
abbrev pub MadeCanBeMade : Type 0
MadeCanBeMade = (goals : List Goal) (actions : List ActionOf) (n : Naming) (x : Wish) → IsIn x (made_by goals actions n).wishes → CanBeMade goals x
