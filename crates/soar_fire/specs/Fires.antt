-- What firing a rule answers.
use Rattle.std.specs.Prelude.{◌≡◌, ℕ, List, [], ◌∷◌, Option, Some, None, Result, Ok, Err}
use Rattle.soar_sym.specs.Words.{Texts}
use Rattle.soar_sym.specs.declared.symbol.Sym.{Sym}
use Rattle.soar_rule.specs.Symbols.{AreKnown, symbols_of}
use Rattle.defs_match.specs.Conflict.{bindings_of}
use Rattle.defs_match.specs.Rules.{RuleOf}
use Rattle.defs_match.specs.declared.instance.Instance.{Instance}
use Rattle.defs_soar.specs.declared.firing.Made.{Made}
use Rattle.defs_soar.specs.declared.goal.Goal.{Goal}
use Rattle.defs_soar.specs.declared.limit.Which.TheVariants as which
use Rattle.defs_soar.specs.declared.preference.Wish.{Wish}
use Rattle.defs_soar.specs.Firing.{MadeSoFar, made_by}
use Rattle.defs_soar.specs.Limits.{first_passed}
use Rattle.soar_fire.specs.declared.fault.FireFault.{FireFault}
use Rattle.soar_fire.specs.declared.fault.FireFault.TheVariants as fault

-- what the rule's actions make of the instance
abbrev pub made_of : Texts → List ℕ → List Goal → RuleOf → Instance → MadeSoFar
made_of words letters goals rule i =
    made_by goals rule.production.actions (record { bindings = bindings_of rule.production i; words = words; letters = letters; vars = rule.production.vars; totals = [] })

-- all was made, within the limits
pub record IsMade (made : Made) (words : Texts) (letters : List ℕ) (m : MadeSoFar) : Type 0 where
  pub made_is : made ≡ record { wishes = m.wishes; texts = m.text; halted = m.halted; dropped = m.dropped }
  pub words_are : words ≡ m.naming.words
  pub letters_are : letters ≡ m.naming.letters
  pub within : first_passed m.naming.totals ≡ None

-- each answer, exactly where it comes; only want of memory is free
abbrev pub Fires : Texts → List ℕ → MadeSoFar → Result Made FireFault → Type 0
Fires words letters m (Ok made) = IsMade made words letters m
Fires words letters m (Err fault.IdsSpent) = first_passed m.naming.totals ≡ Some which.Identifiers
Fires words letters m (Err fault.WordsSpent) = first_passed m.naming.totals ≡ Some which.Words
Fires words letters m (Err fault.NoMemory) = Unit {0}

abbrev pub referents_of : Option Sym → List Sym
referents_of None = []
referents_of (Some s) = s ∷ []

-- the words of wishes are in the table
abbrev pub AreWishesKnown : Texts → List Wish → Type 0
AreWishesKnown words [] = Unit {0}
AreWishesKnown words (w ∷ wishes) = AreKnown words (w.id ∷ w.attr ∷ w.value ∷ referents_of w.referent) × AreWishesKnown words wishes

-- the words of the rule and of the instance are in the table
pub record IsFirable (words : Texts) (rule : RuleOf) (i : Instance) : Type 0 where
  pub rule_known : AreKnown words (symbols_of rule.production)
  pub instance_known : AreKnown words i.binds
