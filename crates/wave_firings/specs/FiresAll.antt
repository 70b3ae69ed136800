-- What the firings of a wave make.
use Rattle.std.specs.Prelude.{◌≡◌, ℕ, ◌+◌, false, List, [], map, flat_map, length, Some, None, Result, Ok, Err}
use Rattle.soar_sym.specs.Words.{Texts}
use Rattle.soar_wm.specs.declared.element.Element.{Element}
use Rattle.defs_match.specs.Rules.{RuleOf}
use Rattle.defs_match.specs.declared.instance.Instance.{Instance}
use Rattle.defs_soar.specs.Limits.{first_passed}
use Rattle.defs_soar.specs.WaveAtHand.{BeforeWave, Wave}
use Rattle.defs_soar.specs.WaveFirings.{with_firings}
use Rattle.pending_work.specs.Firables.{firables_for}
use Rattle.firing_records.specs.Recorded.{Standing, reach_of}
use Rattle.wave_entries.specs.Entries.{entry_seen}
use Rattle.wave_firings.specs.declared.firing.Fired.{Fired}
use Rattle.soar_settle.specs.declared.stop.Stop.{Stop}
use Rattle.soar_settle.specs.declared.stop.Stop.TheVariants as stop

-- a moment at which this stands, and a wave that has fired nothing yet
pub record Begins (words : Texts) (letters : List ℕ) (s : Standing) (last : ℕ) (m : BeforeWave) (w : Wave) : Type 0 where
  pub reach_is : m.reach ≡ reach_of s
  pub rows_are : m.rows ≡ s.rows
  pub elements_are : m.elements ≡ s.elements
  pub words_are : w.names.words ≡ words
  pub letters_are : w.names.letters ≡ letters
  pub last_is : w.last_firing ≡ last
  pub entries_are : w.entries ≡ []
  pub next_are : w.next ≡ []
  pub not_halted : w.halted ≡ false
  pub nothing_drawn : w.totals ≡ []

-- what the wave holds after the firings; each preference is held as the kind of its firing has it
pub record HasFired (words : Texts) (letters : List ℕ) (count : ℕ) (fired : Fired) (before after : Wave) : Type 0 where
  pub words_are : words ≡ after.names.words
  pub letters_are : letters ≡ after.names.letters
  pub last_is : after.last_firing ≡ before.last_firing + count
  pub entries_are : map entry_seen fired.entries ≡ after.entries
  pub halted_is : fired.halted ≡ after.halted
  pub within : first_passed after.totals ≡ None

abbrev pub FiredFrom : BeforeWave → Wave → List RuleOf → List Element → List Instance → Texts → List ℕ → Result Fired Stop → Type 0
FiredFrom m w rules elements instances words letters (Ok fired) =
    HasFired words letters (length instances) fired w (with_firings m w (flat_map (firables_for rules elements) instances))
FiredFrom m w rules elements instances words letters (Err (stop.Limit which)) =
    first_passed (with_firings m w (flat_map (firables_for rules elements) instances)).totals ≡ Some which
FiredFrom m w rules elements instances words letters (Err stop.NoMemory) = Unit {0}

-- for every moment and wave that begin so
abbrev pub FiresAll : Texts → List ℕ → Standing → List RuleOf → List Instance → ℕ → Texts → List ℕ → Result Fired Stop → Type 0
FiresAll words letters s rules instances last new_words new_letters result =
    (m : BeforeWave) (w : Wave) → Begins words letters s last m w → FiredFrom m w rules s.elements instances new_words new_letters result
