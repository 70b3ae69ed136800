-- Parts whose letters gave one more number stand for the state in which these did.
use Rattle.std.proofs.Common.{◌≡◌, ℕ, zero, suc, ◌+◌, ◌-◌, ◌≤◌, List, [], ◌∷◌, None, ap, refl, sym, subst, arith}
use Rattle.std.specs.Prelude.{slice_index, slice_set}
use Rattle.soar_sym.specs.Letters.{last_of, with_last}
use Rattle.soar_sym.specs.declared.symbol.Sym.{Sym}
use Rattle.soar_sym.specs.declared.symbol.Sym.TheVariants.{Ident}
use Rattle.defs_soar.specs.Agents.{Agent}
use Rattle.defs_soar.specs.History.{RecordedFiring}
use Rattle.defs_soar.specs.Limits.{first_passed, identifiers_to}
use Rattle.soar_fire.specs.Growth.{LettersKeep}
use Rattle.soar_fire.proofs.GrowthLemmas.{letters_next}
use Rattle.decision_parts.specs.Remembers.{Remembers}
use Rattle.decision_parts.specs.Seen.{IsSound, Stepped, agent_of}
use Rattle.decision_parts.specs.Stands.{Stands}
use Rattle.decision_parts.specs.Parts.{Parts as PartsKept}
use Rattle.decision_parts.proofs.GrownLemmas.{numbered_later}
use Rattle.decision_parts.proofs.StandsLemmas.{of_each_state, stands_for}
use Rattle.cycle_parts.specs.Calls.{fresh_step, next_number}
use Rattle.cycle_parts.proofs.SteppingLemmas.{stepped_at}

-- ---- numbers

-- no number of a letter falls
pub numbers_keep : (letters later : List ℕ) (letter : ℕ) → later ≡ with_last letters letter (last_of letters letter + 1) → LettersKeep letters later
numbers_keep letters later letter is = (letters_next letters later letter is).kept

set_there : (xs : List ℕ) (i v : ℕ) → 1 ≤ slice_index xs i → slice_index (slice_set xs i v) i ≡ v
set_there [] i v there = absurd (omega (arith, there))
set_there (x ∷ xs) zero v there = refl
set_there (x ∷ xs) (suc i) v there = set_there xs i v there

-- where the letter gave a number before, its last is the new one
pub last_given : (letters later : List ℕ) (letter n : ℕ) → 1 ≤ last_of letters letter → later ≡ with_last letters letter n → last_of later letter ≡ n
last_given letters later letter n there is =
    subst (λ l. last_of l letter ≡ n) (sym is) (set_there letters (letter - 65) n there)

-- ---- the parts

abbrev pub with_letters : PartsKept → List ℕ → PartsKept
with_letters a letters = record a { letters = letters }

letters_remember : (a : PartsKept) (history : List RecordedFiring) (letters : List ℕ) → LettersKeep a.letters letters → Remembers a history → Remembers (with_letters a letters) history
letters_remember a history letters keep r = record {
  is_record = r.is_record;
  makers_kept = r.makers_kept;
  numbers_given = r.numbers_given;
  makers_earlier = r.makers_earlier;
  depends_are = r.depends_are;
  goals_numbered = λ p s is of_goal. numbered_later a.letters letters s keep (r.goals_numbered p s is of_goal);
}

pub fresh_sound : (a : PartsKept) (letters : List ℕ) (letter : ℕ) → letters ≡ with_last a.letters letter (last_of a.letters letter + 1) → IsSound a → IsSound (with_letters a letters)
fresh_sound a letters letter is sound =
    let keep = numbers_keep a.letters letters letter is in
    record {
      goals_some = sound.goals_some;
      goals_few = sound.goals_few;
      goals_known = λ g at. let known = sound.goals_known g at in record {
        id_known = known.id_known;
        id_numbered = numbered_later a.letters letters g.id keep known.id_numbered;
        items_known = known.items_known;
        selection_known = known.selection_known;
      };
      depends_fit = sound.depends_fit;
      doubted = sound.doubted;
      element_limit = sound.element_limit;
      row_limit = sound.row_limit;
      few_rows = sound.few_rows;
      rows_in_range = sound.rows_in_range;
      rows_of_firings = sound.rows_of_firings;
      makers_of_firings = sound.makers_of_firings;
      recorded_up_to = sound.recorded_up_to;
      makers_earlier = sound.makers_earlier;
      first_words = sound.first_words;
      top_numbered = omega (arith, sound.top_numbered, keep 83);
      numbered = sound.numbered;
      numbers_given = sound.numbers_given;
      rules_known = sound.rules_known;
      elements_known = sound.elements_known;
      rows_known = sound.rows_known;
      inputs_known = sound.inputs_known;
      queue_known = sound.queue_known;
      output_known = sound.output_known;
      live_known = sound.live_known;
      live_given = sound.live_given;
      kept_up = sound.kept_up;
      kept_ids = sound.kept_ids;
      past_named = sound.past_named;
      chains_known = sound.chains_known;
      chains_kept = sound.chains_kept;
    }

-- the symbol is the next of its letter, and nothing else changes
pub record GaveNext (letter : ℕ) (symbol : Sym) (s : Agent) (new : PartsKept) : Type 0 where
  pub symbol_is : symbol ≡ Ident letter (next_number letter s)
  pub stepped : Stepped new (fresh_step letter s)

pub gave_next : (a : PartsKept) (letters : List ℕ) (letter : ℕ) (symbol : Sym) → symbol ≡ Ident letter (last_of a.letters letter + 1) → letters ≡ with_last a.letters letter (last_of a.letters letter + 1)
    → first_passed (identifiers_to (last_of a.letters letter + 1) ∷ []) ≡ None → (s : Agent) → Stands a s → GaveNext letter symbol s (with_letters a letters)
gave_next a letters letter symbol symbol_is is within =
    of_each_state (λ (s : Agent). GaveNext letter symbol s (with_letters a letters)) a (λ history remembers. record {
      symbol_is = symbol_is;
      stepped = stepped_at (with_letters a letters) (fresh_step letter (agent_of a history)) refl
          (stands_for (with_letters a letters) history (fresh_step letter (agent_of a history)).agent
          (letters_remember a history letters (numbers_keep a.letters letters letter is) remembers) (ap (λ l. agent_of (with_letters a l) history) is)) within;
    })
