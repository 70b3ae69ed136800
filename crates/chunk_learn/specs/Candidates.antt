-- The candidate of an explanation, over the table in which the names of its variables stand.
use Rattle.std.specs.Prelude.{◌≡◌, ℕ, min, ◌-◌, ◌^◌, List, [], ◌∷◌, Option, Some, None, if◌then◌else◌}
use Rattle.soar_sym.specs.Words.{Texts}
use Rattle.soar_rule.specs.Productions.{ProductionOf}
use Rattle.defs_soar.specs.declared.learning.Candidate.{Candidate}
use Rattle.defs_soar.specs.Candidate.{general_form, literal_form, named_form}
use Rattle.defs_soar.specs.CandidateOf.{CandidateOf, candidate_seen, first_cause}
use Rattle.defs_soar.specs.ChainIdentifiers.{firings_of}
use Rattle.defs_soar.specs.History.{ChainOf, FiringOf}
use Rattle.defs_soar.specs.Outcome.{has_grounds}
use Rattle.defs_soar.specs.Stale.{Blocking}
use Rattle.defs_soar.specs.Ungrounded.{ungrounded}

abbrev pub depth_of_last : ℕ → List FiringOf → ℕ
depth_of_last depth [] = depth
depth_of_last depth (f ∷ firings) = depth_of_last f.depth firings

-- the depth is that of the last firing; there is one
pub record IsOfDepth (c : ChainOf) (depth : ℕ) : Type 0 where
  pub last : depth_of_last 0 (firings_of c) ≡ depth

-- a form by the names of its variables, which are in the table
abbrev pub general_now : Texts → ChainOf → ℕ → Option ProductionOf
general_now words c depth = if has_grounds c then elim (ungrounded words c depth) [ None ↦ Some (named_form words (general_form words c depth)) | Some s ↦ None ] else None

abbrev pub literal_now : Texts → ChainOf → ℕ → Option ProductionOf
literal_now words c depth = if has_grounds c then Some (named_form words (literal_form words c depth)) else None

abbrev pub candidate_now : Texts → ChainOf → ℕ → CandidateOf
candidate_now words c depth = record { general = general_now words c depth; literal = literal_now words c depth; cause = first_cause words c depth; ungrounded = ungrounded words c depth }

-- what the code has is the candidate by this table
pub record IsCandidate (words : Texts) (c : ChainOf) (depth : ℕ) (found : Candidate) : Type 0 where
  pub candidate : candidate_seen found ≡ candidate_now words c depth

-- a place and a tag as they are answered
abbrev pub blocking_told : Option Blocking → Option (ℕ × ℕ)
blocking_told None = None
blocking_told (Some b) = Some (min b.negation (2 ^ 32 - 1), b.tag)
