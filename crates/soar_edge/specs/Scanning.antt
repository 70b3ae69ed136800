-- How far the command in front was scanned.
use Rattle.std.specs.Prelude.{◌≡◌, ℕ, ◌+◌, ◌≤◌, ◌^◌, ◌==◌, false, List, [], ◌∷◌, length, take, if◌then◌else◌}
use Rattle.soar_edge.specs.Cutting.{Inside, open_text, comment, bars, string, escaped_in_bars, escaped_in_string, after_byte, depth_after, is_end}
use Rattle.soar_edge.specs.declared.scan.Inside.{Inside as InsideRead}
use Rattle.soar_edge.specs.declared.scan.Inside.TheVariants as inside
use Rattle.soar_edge.specs.declared.scan.Scan.{Scan}

-- what the enum of the code says
abbrev pub inside_of : InsideRead → Inside
inside_of inside.OpenText = open_text
inside_of inside.Comment = comment
inside_of inside.Bars = bars
inside_of inside.String = string
inside_of inside.EscapedInBars = escaped_in_bars
inside_of inside.EscapedInString = escaped_in_string

-- no byte of these ends a command, and the next one stands in that, so deep
abbrev pub Passes : Inside → ℕ → List ℕ → Inside → ℕ → Type 0
Passes from depth [] to deep = (from ≡ to) × (depth ≡ deep)
Passes from depth (b ∷ bytes) to deep = (is_end from depth b ≡ false) × Passes (after_byte from b) (depth_after from depth b) bytes to deep

-- where a scan of a command stands, 1 byte above 1 MiB at most
pub record IsScan (front : List ℕ) (scan : Scan) : Type 0 where
  pub within : scan.size ≤ length front
  pub few : scan.size ≤ 2 ^ 20 + 1
  pub shallow : scan.depth ≤ scan.size
  pub passes : Passes open_text 0 (take scan.size front) (inside_of scan.inside) scan.depth

-- how many newlines
abbrev pub newlines : List ℕ → ℕ
newlines [] = 0
newlines (b ∷ bytes) = if b == 10 then 1 + newlines bytes else newlines bytes
