-- The blanks and comments before a command.
use Rattle.std.specs.Prelude.{◌≡◌, ℕ, ◌+◌, ◌<◌, ◌==◌, Bool, false, List, [], ◌∷◌, ◌++◌, length, take, drop}
use Rattle.soar_edge.specs.Cutting.{is_space, cuts_from}
use Rattle.soar_edge.specs.Scanning.{newlines}
use Rattle.soar_edge.specs.declared.lead.Lead.{Lead}
use Rattle.soar_edge.specs.declared.lead.Lead.TheVariants as lead

-- whatever follows, the commands begin no earlier than behind so many bytes
abbrev pub Skips : List ℕ → ℕ → Type 0
Skips bytes size = (ends : Bool) (number : ℕ) (more : List ℕ) → cuts_from ends 0 number (bytes ++ more) ≡ cuts_from ends 0 (number + newlines (take size bytes)) (drop size bytes ++ more)

-- a command begins here
abbrev pub BeginsCommand : List ℕ → Type 0
BeginsCommand [] = ⊥
BeginsCommand (b ∷ bytes) = (is_space b ≡ false) × ((b == 35) ≡ false)

-- a comment whose newline has not come
abbrev pub IsOpenComment : List ℕ → Type 0
IsOpenComment [] = ⊥
IsOpenComment (b ∷ bytes) = (b ≡ 35) × (newlines bytes ≡ 0)

-- behind so many bytes, which are skipped, stands what has the property
pub record LeadsTo (P : List ℕ → Type 0) (bytes : List ℕ) (size : ℕ) : Type 0 where
  pub within : size < length bytes
  pub skips : Skips bytes size
  pub next : P (drop size bytes)

-- what stands behind blanks and comments
abbrev pub IsLead : List ℕ → Lead → Type 0
IsLead bytes lead.Nothing = Skips bytes (length bytes)
IsLead bytes (lead.Comment size) = LeadsTo IsOpenComment bytes size
IsLead bytes (lead.Command size) = LeadsTo BeginsCommand bytes size
