-- A candidate before the names of its variables are words.
use Rattle.std.specs.Prelude.{◌≡◌, ℕ, Bool, true, false, List, [], Option, Some, None}
use Rattle.std.specs.List.{list_all}
use Rattle.soar_sym.specs.Words.{Texts, has_text}
use Rattle.soar_sym.specs.declared.symbol.Sym.{Sym}
use Rattle.soar_rule.specs.Productions.{ProductionOf}
use Rattle.soar_rule.specs.declared.production.Kind.TheVariants.{Chunk, Justification}
use Rattle.chunk_forms.specs.Forms.{form_seen}
use Rattle.chunk_make.specs.declared.drafts.Draft.{Draft}
use Rattle.chunk_make.specs.declared.forms.Forms.{Forms}
use Rattle.chunk_make.specs.declared.forms.Forms.TheVariants as forms
use Rattle.defs_soar.specs.declared.learning.Cause.{Cause}
use Rattle.defs_soar.specs.declared.learning.Cause.TheVariants as cause
use Rattle.defs_soar.specs.Candidate.{Form, general_form, literal_form, named_form}
use Rattle.defs_soar.specs.CandidateOf.{CandidateOf, first_cause}
use Rattle.defs_soar.specs.History.{ChainOf}
use Rattle.defs_soar.specs.Outcome.{as_cause, has_grounds, too_large}
use Rattle.defs_soar.specs.Ungrounded.{ungrounded}

-- ---- the forms that are there

pub data FormsOf : Type 0 where
  no_forms : FormsOf
  literal_alone : Form → FormsOf
  both_forms : Form → Form → FormsOf  -- the general one, and the literal one

-- whether a state is among the grounds, and the identifier without a variable, tell which
abbrev pub forms_by : Bool → Option Sym → Form → Form → FormsOf
forms_by false missing general literal = no_forms
forms_by true (Some s) general literal = literal_alone literal
forms_by true None general literal = both_forms general literal

abbrev pub forms_of : Texts → ChainOf → ℕ → FormsOf
forms_of words c depth = forms_by (has_grounds c) (ungrounded words c depth) (general_form words c depth) (literal_form words c depth)

-- the names that join the table
abbrev pub joining : FormsOf → List (List ℕ)
joining no_forms = []
joining (literal_alone literal) = literal.names
joining (both_forms general literal) = general.names

-- the first cause that the forms tell
abbrev pub cause_of_forms : FormsOf → Option Sym → Option Cause
cause_of_forms no_forms missing = Some cause.NoGrounds
cause_of_forms (literal_alone literal) missing = as_cause cause.Ungrounded missing
cause_of_forms (both_forms general literal) missing = as_cause cause.TooLarge (too_large general)

-- ---- drafts

pub record DraftOf : Type 0 where
  pub forms : FormsOf
  pub cause : Option Cause
  pub missing : Option Sym

abbrev pub draft_of : Texts → ChainOf → ℕ → DraftOf
draft_of words c depth = record { forms = forms_of words c depth; cause = first_cause words c depth; missing = ungrounded words c depth }

-- ---- by a table in which the names are

-- the names of all variables are in the table
abbrev pub AreNamesKnown : Texts → FormsOf → Type 0
AreNamesKnown words no_forms = Unit {0}
AreNamesKnown words (literal_alone literal) = list_all (has_text words) literal.names ≡ true
AreNamesKnown words (both_forms general literal) = (list_all (has_text words) general.names ≡ true) × (list_all (has_text words) literal.names ≡ true)

abbrev pub general_named : Texts → FormsOf → Option ProductionOf
general_named words no_forms = None
general_named words (literal_alone literal) = None
general_named words (both_forms general literal) = Some (named_form words general)

abbrev pub literal_named : Texts → FormsOf → Option ProductionOf
literal_named words no_forms = None
literal_named words (literal_alone literal) = Some (named_form words literal)
literal_named words (both_forms general literal) = Some (named_form words literal)

abbrev pub candidate_from : Texts → DraftOf → CandidateOf
candidate_from words d = record { general = general_named words d.forms; literal = literal_named words d.forms; cause = d.cause; ungrounded = d.missing }

-- ---- the code's types as plain data

abbrev pub forms_seen : Forms → FormsOf
forms_seen forms.Neither = no_forms
forms_seen (forms.Literal literal) = literal_alone (form_seen Justification literal)
forms_seen (forms.Both general literal) = both_forms (form_seen Chunk general) (form_seen Justification literal)

abbrev pub draft_seen : Draft → DraftOf
draft_seen d = record { forms = forms_seen d.forms; cause = d.cause; missing = d.missing }
