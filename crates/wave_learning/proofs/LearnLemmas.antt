-- All of learning: where it begins, and what it leaves.
use Rattle.std.proofs.Common.{◌≡◌, refl, sym, ◌∙◌, ap, ap₂, subst, ℕ, Bool, true, List, [], ◌∷◌, ◌++◌, length, map, flat_map, Ok, Err}
use Rattle.soar_sym.specs.Words.{Texts}
use Rattle.defs_soar.specs.declared.goal.Goal.{Goal}
use Rattle.defs_soar.specs.Agents.{Agent}
use Rattle.defs_soar.specs.History.{FiringOf}
use Rattle.defs_soar.specs.Learning.{with_learning}
use Rattle.defs_soar.specs.WaveAtHand.{BeforeWave, Entry as EntryOf, SupportedWish, Wave, all_fresh}
use Rattle.defs_soar.specs.WaveFirings.{before_wave}
use Rattle.firing_records.specs.Recorded.{Standing}
use Rattle.learning_laws.specs.LawfulAgents.{IsLawfulAgent}
use Rattle.learning_laws.specs.LawfulWaves.{IsLawfulWave}
use Rattle.soar_settle.specs.declared.stop.Stop.{Stop}
use Rattle.soar_settle.specs.declared.stop.Stop.TheVariants as stop
use Rattle.wave_entries.specs.Entries.{entry_seen, held_seen}
use Rattle.wave_entries.specs.declared.entry.Entry.{Entry}
use Rattle.wave_entries.specs.declared.entry.Entry.TheVariants as entry
use Rattle.wave_entries.specs.declared.entry.HeldWish.{HeldWish}
use Rattle.wave_learning.specs.Course.{Course, Progress, course_seen, moment, reached, rounds_of, stopped}
use Rattle.wave_learning.specs.Found.{number_in}
use Rattle.wave_learning.specs.Hands.{IsAtHand, IsBefore, IsToLearn, LearnsAll, numbers_of_entries}
use Rattle.wave_learning.specs.Held.{AreHeld}
use Rattle.wave_learning.specs.Lawful.{GoesOn, IsLawfulCourse}
use Rattle.wave_learning.specs.Rising.{AreRising, numbers_in, rises_from}
use Rattle.wave_learning.specs.Seen.{Leaves, course_of}
use Rattle.wave_learning.specs.declared.going.Going.{Going}
use Rattle.wave_learning.specs.declared.hand.AtHand.{AtHand}
use Rattle.wave_learning.proofs.Agreement.{Agrees}
use Rattle.wave_learning.proofs.CourseLemmas.{moment_is}
use Rattle.wave_learning.proofs.RoundAgreement.{agrees_learning}

-- the numbers of firings, entry by entry
abbrev pub numbers_of : List Entry → List ℕ
numbers_of entries = flat_map (λ e. number_in (entry_seen e)) entries

numbers_are : (entries : List Entry) → map (λ x. x.firing.number) (all_fresh (map entry_seen entries)) ≡ numbers_of entries
numbers_are [] = refl
numbers_are (entry.Fired x ∷ entries) = ap (λ l. x.recorded.firing.number ∷ l) (numbers_are entries)
numbers_are (entry.Noted l ∷ entries) = numbers_are entries

wishes_seen : (wishes : List HeldWish) → map (λ (y : SupportedWish). y.wish) (map held_seen wishes) ≡ map (λ (h : HeldWish). h.wish) wishes
wishes_seen [] = refl
wishes_seen (h ∷ wishes) = ap (λ l. h.wish ∷ l) (wishes_seen wishes)

all_held : (entries : List Entry) → AreHeld (map entry_seen entries)
all_held [] = tt
all_held (entry.Fired x ∷ entries) = (wishes_seen x.told.wishes ∙ x.same, all_held entries)
all_held (entry.Noted l ∷ entries) = all_held entries

-- a wave at hand as a course
start_is : (words : Texts) (hand : AtHand) (numbers : List ℕ) (w : Wave) → IsAtHand words hand w → w.next ≡ numbers_of_entries w → numbers ≡ numbers_of hand.entries
    → course_seen w ≡ course_of words (record { hand = hand; next = numbers; place = 0 })
start_is words hand numbers w at next is =
    let same_next : w.next ≡ numbers = next ∙ ap (λ (es : List EntryOf). map (λ x. x.firing.number) (all_fresh es)) at.entries_are ∙ numbers_are hand.entries ∙ sym is in
    λ i. record { words = at.words_are i; program = at.program_is i; last = at.last_is i; learned = at.learned_is i; entries = at.entries_are i; next = same_next i }

seen_numbers : (entries : List Entry) → numbers_in (map entry_seen entries) ≡ numbers_of entries
seen_numbers [] = refl
seen_numbers (e ∷ entries) = ap (λ l. number_in (entry_seen e) ++ l) (seen_numbers entries)

goes_on : (words : Texts) (hand : AtHand) → rises_from 0 (numbers_of hand.entries) ≡ true → (a : Agent) (w : Wave) → IsLawfulWave a w → IsAtHand words hand w → GoesOn a w
goes_on words hand rising a w k at = record {
  lawful = k;
  held = subst AreHeld (sym at.entries_are) (all_held hand.entries);
  rising = subst AreRising (sym at.entries_are) (subst (λ (ns : List ℕ). rises_from 0 ns ≡ true) (sym (seen_numbers hand.entries)) rising);
}

module _ (words : Texts) (s : Standing) (past : List FiringOf) (on local_negations : Bool) (hand : AtHand) (numbers : List ℕ) (is : numbers ≡ numbers_of hand.entries) (rising : rises_from 0 numbers ≡ true) where
  abbrev start : Course
  start = course_of words (record { hand = hand; next = numbers; place = 0 })

  rise : rises_from 0 (numbers_of hand.entries) ≡ true
  rise = subst (λ (ns : List ℕ). rises_from 0 ns ≡ true) is rising

  pub starts : IsToLearn words s past on local_negations hand → IsLawfulCourse s past on local_negations start
  starts h = record {
    agent = h.agent;
    wave = h.wave;
    lawful = h.lawful;
    goes_on = goes_on words hand rise h.agent h.wave h.lawful_wave h.at_hand;
    before = h.before;
    course_is = start_is words hand numbers h.wave h.at_hand h.next is;
    within = h.at_hand.within;
  }

  agrees : (a : Agent) (w : Wave) → IsLawfulAgent a → IsLawfulWave a w → IsBefore s past on local_negations a → IsAtHand words hand w → w.next ≡ numbers_of_entries w
      → (p : Progress) → rounds_of (moment s past on local_negations) (length s.goals) start ≡ p → Agrees p (with_learning (before_wave a) w)
  agrees a w h k before at next p q =
      subst (λ (o : Progress). Agrees o (with_learning (before_wave a) w))
      (ap (λ (m : BeforeWave). rounds_of m (length a.holding.goals) (course_seen w)) (moment_is s past on local_negations a before)
      ∙ ap₂ (λ (goals : List Goal) (c : Course). rounds_of (moment s past on local_negations) (length goals) c) before.goals_are (start_is words hand numbers w at next is)
      ∙ q)
      (agrees_learning a h w (goes_on words hand rise a w k at) at.within)

  pub learns_all : (new_words : Texts) (after : Going) → rounds_of (moment s past on local_negations) (length s.goals) start ≡ reached (course_of new_words after)
      → LearnsAll words s past on local_negations hand new_words (Ok after.hand)
  learns_all new_words after q = λ a w h k before at next.
      let same = agrees a w h k before at next (reached (course_of new_words after)) q in
      record {
        words_are = sym (ap (λ (c : Course). c.words) same.0);
        program_is = sym (ap (λ (c : Course). c.program) same.0);
        last_is = sym (ap (λ (c : Course). c.last) same.0);
        learned_is = sym (ap (λ (c : Course). c.learned) same.0);
        entries_are = sym (ap (λ (c : Course). c.entries) same.0);
        within = same.1;
      }

  pub stops_all : (new_words : Texts) (after : Course) (e : Stop) → Leaves (rounds_of (moment s past on local_negations) (length s.goals) start) after (Err e)
      → LearnsAll words s past on local_negations hand new_words (Err e)
  stops_all new_words after (stop.Limit limit) q = λ a w h k before at next. agrees a w h k before at next (stopped limit) q
  stops_all new_words after stop.NoMemory q = λ a w h k before at next. tt
