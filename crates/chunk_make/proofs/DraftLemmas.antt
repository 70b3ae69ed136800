-- A draft becomes the candidate, over the table that the names of its variables have joined.
use Rattle.std.proofs.Common.{◌≡◌, ℕ, Bool, true, false, cond, List, [], Option, Some, None, refl}
use Rattle.std.specs.List.{list_all}
use Rattle.soar_sym.specs.Words.{Texts, has_text}
use Rattle.soar_sym.specs.declared.symbol.Sym.{Sym}
use Rattle.soar_rule.specs.Productions.{ProductionOf}
use Rattle.chunk_make.proofs.JoinLemmas.{all_known}
use Rattle.chunk_make.proofs.NameLemmas.{literal_known}
use Rattle.chunk_make.specs.Drafts.{AreNamesKnown, candidate_from, draft_of, forms_by, forms_of, general_named, joining, literal_named}
use Rattle.defs_soar.specs.Candidate.{Form, general_form, literal_form, named_form}
use Rattle.defs_soar.specs.CandidateOf.{candidate_of, first_cause, words_after, words_of_candidate}
use Rattle.defs_soar.specs.History.{ChainOf}
use Rattle.defs_soar.specs.LearnedRules.{names_joining}
use Rattle.defs_soar.specs.Outcome.{has_grounds}
use Rattle.defs_soar.specs.Ungrounded.{ungrounded}

-- ---- the names

abbrev names_if : Option Sym → Form → Form → List (List ℕ)
names_if missing general literal = elim missing [ None ↦ general.names | Some s ↦ literal.names ]

joining_by : (grounded : Bool) (missing : Option Sym) (general literal : Form) → joining (forms_by grounded missing general literal) ≡ cond grounded (names_if missing general literal) []
joining_by false missing general literal = refl
joining_by true None general literal = refl
joining_by true (Some s) general literal = refl

pub joining_is : (words : Texts) (c : ChainOf) (depth : ℕ) → joining (forms_of words c depth) ≡ names_joining words c depth
joining_is words c depth = joining_by (has_grounds c) (ungrounded words c depth) (general_form words c depth) (literal_form words c depth)

known_by : (words : Texts) (grounded : Bool) (missing : Option Sym) (general literal : Form)
    → ((table : Texts) → list_all (has_text table) general.names ≡ true → list_all (has_text table) literal.names ≡ true)
    → AreNamesKnown (words_after words (joining (forms_by grounded missing general literal))) (forms_by grounded missing general literal)
known_by words false missing general literal among = tt
known_by words true None general literal among = (all_known general.names words, among (words_after words general.names) (all_known general.names words))
known_by words true (Some s) general literal among = all_known literal.names words

pub names_known : (words : Texts) (c : ChainOf) (depth : ℕ) → AreNamesKnown (words_after words (joining (forms_of words c depth))) (forms_of words c depth)
names_known words c depth =
    known_by words (has_grounds c) (ungrounded words c depth) (general_form words c depth) (literal_form words c depth) (λ table h. literal_known table words c depth h)

-- ---- the candidate

abbrev named_if : Option Sym → ProductionOf → Option ProductionOf
named_if missing p = elim missing [ None ↦ Some p | Some s ↦ None ]

general_by : (words : Texts) (grounded : Bool) (missing : Option Sym) (general literal : Form)
    → general_named words (forms_by grounded missing general literal) ≡ cond grounded (named_if missing (named_form words general)) None
general_by words false missing general literal = refl
general_by words true None general literal = refl
general_by words true (Some s) general literal = refl

literal_by : (words : Texts) (grounded : Bool) (missing : Option Sym) (general literal : Form)
    → literal_named words (forms_by grounded missing general literal) ≡ cond grounded (Some (named_form words literal)) None
literal_by words false missing general literal = refl
literal_by words true None general literal = refl
literal_by words true (Some s) general literal = refl

pub candidate_is : (words : Texts) (c : ChainOf) (depth : ℕ) → candidate_from (words_of_candidate words c depth) (draft_of words c depth) ≡ candidate_of words c depth
unfolding candidate_of
candidate_is words c depth = λ i. record {
  general = general_by (words_of_candidate words c depth) (has_grounds c) (ungrounded words c depth) (general_form words c depth) (literal_form words c depth) i;
  literal = literal_by (words_of_candidate words c depth) (has_grounds c) (ungrounded words c depth) (general_form words c depth) (literal_form words c depth) i;
  cause = first_cause words c depth;
  ungrounded = ungrounded words c depth;
}
