-- The candidate for a learned rule, and what is learned from an explanation (Soar manual, chapter 4, chunking; the order of causes is this engine's).
--
-- A candidate has two forms. In the general one each identifier of the grounds is a variable; it is there where the explanation
-- has a state among its grounds and each of its identifiers a variable. In the literal one identifiers stay; it needs only the state.
use Rattle.std.specs.Prelude.{ℕ, List, [], ◌∷◌, Option, Some, None, option_map, if◌then◌else◌}
use Rattle.soar_sym.specs.Words.{Texts, with_text}
use Rattle.soar_sym.specs.declared.symbol.Sym.{Sym}
use Rattle.soar_rule.specs.Productions.{ProductionOf, production_seen}
use Rattle.defs_soar.specs.declared.learning.Candidate.{Candidate}
use Rattle.defs_soar.specs.declared.learning.Cause.{Cause}
use Rattle.defs_soar.specs.declared.learning.Cause.TheVariants as cause
use Rattle.defs_soar.specs.declared.learning.Learned.{Learned}
use Rattle.defs_soar.specs.declared.learning.Learned.TheVariants as learned
use Rattle.defs_soar.specs.Candidate.{general_form, literal_form, named_form}
use Rattle.defs_soar.specs.ChainIdentifiers.{firings_of}
use Rattle.defs_soar.specs.History.{ChainOf}
use Rattle.defs_soar.specs.Negations.{has_local_negation}
use Rattle.defs_soar.specs.Outcome.{Outcome, lost, blocked, groundless, justified, reused, chunked, has_grounds, first_firing, uses_quiescence, too_large, as_cause}
use Rattle.defs_soar.specs.LearnedRules.{names_joining}
use Rattle.defs_soar.specs.Ungrounded.{or_else, ungrounded}

-- the forms that are there, the first cause against the general one, whatever the settings, and the identifier without a variable
pub record CandidateOf : Type 0 where
  pub general : Option ProductionOf
  pub literal : Option ProductionOf
  pub cause : Option Cause
  pub ungrounded : Option Sym

-- ---- the forms

abbrev pub words_after : Texts → List (List ℕ) → Texts
words_after words [] = words
words_after words (text ∷ texts) = words_after (with_text words text) texts

-- the table once the names of the candidate's variables have joined it
abbrev pub words_of_candidate : Texts → ChainOf → ℕ → Texts
words_of_candidate words c depth = words_after words (names_joining words c depth)

abbrev pub general_in : Texts → ChainOf → ℕ → Option ProductionOf
general_in words c depth = elim (ungrounded words c depth) [ None ↦ Some (named_form (words_of_candidate words c depth) (general_form words c depth)) | Some s ↦ None ]

abbrev pub literal_in : Texts → ChainOf → ℕ → ProductionOf
literal_in words c depth = named_form (words_of_candidate words c depth) (literal_form words c depth)

-- ---- the cause

abbrev pub unless_grounded : ChainOf → Option Cause
unless_grounded c = if has_grounds c then None else Some cause.NoGrounds

-- a local negation, a use of `^quiescence`, no state among the grounds, an identifier without a variable, too many conditions or variables
abbrev pub first_cause : Texts → ChainOf → ℕ → Option Cause
first_cause words c depth =
    or_else (as_cause cause.LocalNegation (first_firing (has_local_negation c depth) (firings_of c)))
    (or_else (as_cause cause.Quiescence (first_firing uses_quiescence (firings_of c)))
    (or_else (unless_grounded c)
    (or_else (as_cause cause.Ungrounded (ungrounded words c depth)) (as_cause cause.TooLarge (too_large (general_form words c depth))))))

-- the candidate of an explanation whose last firing is of this depth
unfoldable pub candidate_of : Texts → ChainOf → ℕ → CandidateOf
candidate_of words c depth = record {
  general = if has_grounds c then general_in words c depth else None;
  literal = if has_grounds c then Some (literal_in words c depth) else None;
  cause = first_cause words c depth;
  ungrounded = ungrounded words c depth;
}

-- ---- what is learned

-- a chunk, a rule that is there, a justification with its cause, or an explanation that holds no longer
pub data LearnedOf : Type 0 where
  as_chunk : ProductionOf → LearnedOf
  as_reused : Sym → LearnedOf
  as_justified : Option ProductionOf → Cause → LearnedOf
  as_lost : ℕ → LearnedOf
  as_blocked : ℕ → ℕ → LearnedOf

-- by the outcome, from the forms over the table in which the names of their variables stand
abbrev pub learned_by : Texts → ChainOf → ℕ → Outcome → LearnedOf
learned_by words c depth chunked = as_chunk (named_form words (general_form words c depth))
learned_by words c depth (reused name) = as_reused name
learned_by words c depth (justified why) = as_justified (Some (named_form words (literal_form words c depth))) why
learned_by words c depth groundless = as_justified None cause.NoGrounds
learned_by words c depth (lost tag) = as_lost tag
learned_by words c depth (blocked b) = as_blocked b.negation b.tag

-- ---- the code's types as plain data

abbrev pub candidate_seen : Candidate → CandidateOf
candidate_seen c = record { general = option_map production_seen c.general; literal = option_map production_seen c.literal; cause = c.cause; ungrounded = c.ungrounded }

abbrev pub learned_seen : Learned → LearnedOf
learned_seen (learned.Chunk p) = as_chunk (production_seen p)
learned_seen (learned.Reused name) = as_reused name
learned_seen (learned.Justified p why) = as_justified (option_map production_seen p) why
learned_seen (learned.Lost tag) = as_lost tag
learned_seen (learned.Blocked negation tag) = as_blocked negation tag
