-- How conditions are read, case by case, and when a table has their words.
use Rattle.std.proofs.Common.{◌≡◌, sym, ◌∙◌, ap, ℕ, zero, suc, ◌-◌, ◌<◌, Bool, true, false, List, Ok, arith}
use Rattle.std.specs.List.{list_all}
use Rattle.std.proofs.lemmas.List.Folds.{list_all-map}
use Rattle.soar_sym.specs.Words.{Texts}
use Rattle.defs_read.specs.Grammar.{Part as PartSeen}
use Rattle.defs_read.specs.Readers.{begins, then_read, flag}
use Rattle.defs_read.specs.Reading.{part_at, grouped_at, joined_at}
use Rattle.defs_read.specs.ReadingTokens.{ReadOf, is_mark, is_sign}
use Rattle.defs_read.specs.Spelling.{Tokens}
use Rattle.tree_parts.specs.declared.condition.Part.{Part, fold-roll-Part}
use Rattle.tree_parts.specs.declared.condition.Part.TheVariants.{Joined, rolls-Joined}
use Rattle.tree_parts.specs.declared.condition.Part.TheOpen as F
use Rattle.tree_parts.specs.Known.{part_step, is_part_known}

pub known_joined : (words : Texts) (negative : Bool) (parts : List Part) → is_part_known words (Joined negative parts) ≡ list_all (is_part_known words) parts
known_joined words negative parts =
    ap (is_part_known words) (sym (rolls-Joined negative parts)) ∙ fold-roll-Part Bool (part_step words) (F.Joined negative parts)
    ∙ list_all-map (λ known. known) (is_part_known words) parts

-- what stands behind the sign, where so many more brackets may be open
abbrev body : ℕ → Bool → Tokens → Bool → ReadOf PartSeen
body d negative rest b = elim b [ true ↦ grouped_at d negative rest | false ↦ joined_at (part_at d) negative rest ]

part_body : (d : ℕ) (ts rest : Tokens) (negative b : Bool) → 0 < d → flag (is_sign 8) ts ≡ Ok (negative, rest) → begins (is_mark 40) rest ≡ b → part_at d ts ≡ body (d - 1) negative rest b
unfolding part_at
part_body zero ts rest negative b h e f = absurd (omega arith)
part_body (suc d) ts rest negative b h e f =
    ap (λ (r : ReadOf Bool). then_read r (λ negative rest. body d negative rest (begins (is_mark 40) rest))) e ∙ ap (body d negative rest) f
    ∙ ap (λ k. body k negative rest b) (let same : d ≡ suc d - 1 = omega arith in same)

pub part_grouped : (d : ℕ) (ts rest : Tokens) (negative : Bool) → 0 < d → flag (is_sign 8) ts ≡ Ok (negative, rest) → begins (is_mark 40) rest ≡ true → part_at d ts ≡ grouped_at (d - 1) negative rest
part_grouped d ts rest negative h e f = part_body d ts rest negative true h e f

pub part_joined : (d : ℕ) (ts rest : Tokens) (negative : Bool) → 0 < d → flag (is_sign 8) ts ≡ Ok (negative, rest) → begins (is_mark 40) rest ≡ false → part_at d ts ≡ joined_at (part_at (d - 1)) negative rest
part_joined d ts rest negative h e f = part_body d ts rest negative false h e f
