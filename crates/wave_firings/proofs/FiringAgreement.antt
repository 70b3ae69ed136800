-- What the code gathers is what the wave holds; where the code stops, the wave notes the same limit first. Crates above cite this file.
use Rattle.std.proofs.Common.{◌≡◌, ℕ, ◌+◌, suc, Bool, true, false, List, [], ◌∷◌, ◌++◌, length, flat_map, Option, Some, None, Ok, Err, refl, sym, ap, subst, ◌∙◌, append_assoc}
use Rattle.std.specs.Prelude.{nat_lt, if◌then◌else◌}
use Rattle.soar_sym.specs.Words.{Texts}
use Rattle.defs_match.specs.Rules.{RuleOf}
use Rattle.defs_match.specs.declared.instance.Instance.{Instance}
use Rattle.defs_soar.specs.declared.limit.Which.{Which}
use Rattle.defs_soar.specs.declared.limit.Which.TheVariants as which
use Rattle.defs_soar.specs.Limits.{Total, counts_to, first_passed, passed_by, or_limit}
use Rattle.defs_soar.specs.Pending.{Firable}
use Rattle.defs_soar.specs.WaveAtHand.{BeforeWave, Wave, Fresh, Entry, fired, all_fresh, fresh_of}
use Rattle.defs_soar.specs.WaveFirings.{with_firing, with_firings, made_in}
use Rattle.firing_records.specs.Recorded.{Standing}
use Rattle.pending_work.specs.Firables.{firables_for}
use Rattle.wave_firings.specs.FiresAll.{Begins, FiresAll}
use Rattle.wave_firings.specs.Held.{Against, against}
use Rattle.wave_firings.specs.FiringOutcome.{Gathered, gathered, nothing_fired, Outcome, reached, stopped, then_on, within_limits, with_made, next_outcome, firings_outcome, instances_outcome, Leaves}
use Rattle.wave_firings.specs.declared.firing.Fired.{Fired}
use Rattle.soar_settle.specs.declared.stop.Stop.{Stop}
use Rattle.soar_settle.specs.declared.stop.Stop.TheVariants as stop

-- what firings are held against at a moment
abbrev against_wave : BeforeWave → Against
against_wave m = record { reach = m.reach; rows = m.rows; elements = m.elements }

-- what a wave holds, as the code gathers it
abbrev front : Wave → Gathered
front w = record { words = w.names.words; letters = w.names.letters; last = w.last_firing; entries = w.entries; halted = w.halted }

abbrev Agrees : Outcome → Wave → Type 0
Agrees (reached g) w = (g ≡ front w) × (first_passed w.totals ≡ None)
Agrees (stopped limit) w = first_passed w.totals ≡ Some limit

-- ---- limits

or_else_assoc : (a b c : Option Which) → or_limit (or_limit a b) c ≡ or_limit a (or_limit b c)
or_else_assoc None b c = refl
or_else_assoc (Some limit) b c = refl

pub passed_in_turn : (firsts seconds : List Total) → first_passed (firsts ++ seconds) ≡ or_limit (first_passed firsts) (first_passed seconds)
passed_in_turn [] seconds = refl
passed_in_turn (d ∷ firsts) seconds = ap (or_limit (passed_by d)) (passed_in_turn firsts seconds) ∙ sym (or_else_assoc (passed_by d) (first_passed firsts) (first_passed seconds))

passed_then : (firsts seconds : List Total) (o : Option Which) → first_passed firsts ≡ o → first_passed (firsts ++ seconds) ≡ or_limit o (first_passed seconds)
passed_then firsts seconds o h = passed_in_turn firsts seconds ∙ ap (λ p. or_limit p (first_passed seconds)) h

-- a limit that was passed stays the first
pub stays_stopped : (m : BeforeWave) (w : Wave) (firables : List Firable) (limit : Which) → first_passed w.totals ≡ Some limit → first_passed (with_firings m w firables).totals ≡ Some limit
unfolding with_firings
stays_stopped m w [] limit h = h
stays_stopped m w (f ∷ firables) limit h = stays_stopped m (with_firing m w f) firables limit (passed_then w.totals _ _ h)

-- ---- one firing

pub fresh_push : (entries : List Entry) (x : Fresh) → all_fresh (entries ++ fired x ∷ []) ≡ all_fresh entries ++ x ∷ []
fresh_push [] x = refl
fresh_push (e ∷ entries) x = ap (λ more. fresh_of e ++ more) (fresh_push entries x) ∙ sym (append_assoc (fresh_of e) (all_fresh entries) (x ∷ []))

same_front : (m : BeforeWave) (w : Wave) (f : Firable) → with_made (against_wave m) f (suc w.last_firing) (made_in w m f) (front w) ≡ front (with_firing m w f)
same_front m w f = refl

agrees_by : (over : Bool) (passed : Option Which) (g : Gathered) (w : Wave) → g ≡ front w
    → first_passed w.totals ≡ or_limit (if over then Some which.Counts else None) passed → Agrees (if over then stopped which.Counts else within_limits passed g) w
agrees_by true passed g w same totals = totals
agrees_by false None g w same totals = (same, totals)
agrees_by false (Some limit) g w same totals = totals

agrees_next : (m : BeforeWave) (w : Wave) (f : Firable) → first_passed w.totals ≡ None → Agrees (next_outcome (against_wave m) f (front w)) (with_firing m w f)
agrees_next m w f h =
    agrees_by (nat_lt 18446744073709551615 (suc w.last_firing)) (first_passed (made_in w m f).naming.totals) (with_made (against_wave m) f (suc w.last_firing) (made_in w m f) (front w))
    (with_firing m w f) (same_front m w f) (passed_then w.totals (counts_to (suc w.last_firing) ∷ (made_in w m f).naming.totals) None h)

-- ---- firings in turn

agrees_firings : (m : BeforeWave) (w : Wave) (firables : List Firable) → first_passed w.totals ≡ None → Agrees (firings_outcome (against_wave m) firables (front w)) (with_firings m w firables)
unfolding with_firings
agrees_firings m w [] h = (refl, h)
agrees_firings m w (f ∷ firables) h =
    by (next_outcome (against_wave m) f (front w)) (agrees_next m w f h) (agrees_firings m (with_firing m w f) firables)
  where
    by : (o : Outcome) → Agrees o (with_firing m w f)
        → (first_passed (with_firing m w f).totals ≡ None → Agrees (firings_outcome (against_wave m) firables (front (with_firing m w f))) (with_firings m (with_firing m w f) firables))
        → Agrees (then_on o (firings_outcome (against_wave m) firables)) (with_firings m (with_firing m w f) firables)
    by (reached g) agrees later = subst (λ at. Agrees (firings_outcome (against_wave m) firables at) (with_firings m (with_firing m w f) firables)) (sym agrees.0) (later agrees.1)
    by (stopped limit) agrees later = stays_stopped m (with_firing m w f) firables limit agrees

-- ---- all of them

module _ (words : Texts) (letters : List ℕ) (s : Standing) (last : ℕ) where
  same_start : (m : BeforeWave) (w : Wave) → Begins words letters s last m w → gathered words letters last nothing_fired ≡ front w
  same_start m w h = rw (h.words_are, h.letters_are, h.last_is, h.entries_are, h.not_halted) refl

  same_against : (m : BeforeWave) (w : Wave) → Begins words letters s last m w → against_wave m ≡ against s
  same_against m w h = rw (h.reach_is, h.rows_are, h.elements_are) refl

  -- what the definition holds, against what the code came to
  agrees : (m : BeforeWave) (w : Wave) (firables : List Firable) (o : Outcome) → Begins words letters s last m w
      → firings_outcome (against s) firables (gathered words letters last nothing_fired) ≡ o → Agrees o (with_firings m w firables)
  agrees m w firables o h is =
      subst (λ o. Agrees o (with_firings m w firables))
      (ap (λ a. firings_outcome a firables (front w)) (same_against m w h) ∙ ap (firings_outcome (against s) firables) (sym (same_start m w h)) ∙ is)
      (agrees_firings m w firables (ap first_passed h.nothing_drawn))

  pub fires_all : (rules : List RuleOf) (instances : List Instance) (new_words : Texts) (new_letters : List ℕ) (made : Fired)
      → instances_outcome (against s) rules instances (gathered words letters last nothing_fired) ≡ reached (gathered new_words new_letters (last + length instances) made)
      → FiresAll words letters s rules instances last new_words new_letters (Ok made)
  fires_all rules instances new_words new_letters made is m w h =
      let same = agrees m w (flat_map (firables_for rules s.elements) instances) _ h is in
      record {
        words_are = ap (λ g. g.words) same.0;
        letters_are = ap (λ g. g.letters) same.0;
        last_is = sym (ap (λ g. g.last) same.0) ∙ ap (λ n. n + length instances) (sym h.last_is);
        entries_are = ap (λ g. g.entries) same.0;
        halted_is = ap (λ g. g.halted) same.0;
        within = same.1;
      }

  pub stops_all : (rules : List RuleOf) (instances : List Instance) (new_words : Texts) (new_letters : List ℕ) (after : Gathered) (e : Stop)
      → Leaves (instances_outcome (against s) rules instances (gathered words letters last nothing_fired)) after (Err e)
      → FiresAll words letters s rules instances last new_words new_letters (Err e)
  stops_all rules instances new_words new_letters after (stop.Limit limit) is m w h =
      agrees m w (flat_map (firables_for rules s.elements) instances) _ h is
  stops_all rules instances new_words new_letters after stop.NoMemory is m w h = tt
