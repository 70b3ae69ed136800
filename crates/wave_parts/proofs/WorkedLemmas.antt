-- The work of a wave: what fires and what is learned, as the code and as the definitions have it.
use Rattle.std.proofs.Common.{◌≡◌, ℕ, suc, ◌+◌, ◌≤◌, ◌∙◌, List, [], ◌∷◌, ◌++◌, map, length, Result, Ok, Err, Some, refl, sym, ap, subst, arith}
use Rattle.std.proofs.lemmas.List.{map-append}
use Rattle.soar_sym.specs.Words.{Texts}
use Rattle.soar_wm.specs.declared.element.Element.{Element}
use Rattle.defs_match.specs.Rules.{RuleOf, rule_seen}
use Rattle.defs_soar.specs.declared.limit.Which.{Which}
use Rattle.defs_soar.specs.History.{RecordedFiring}
use Rattle.defs_soar.specs.Limits.{first_passed}
use Rattle.defs_soar.specs.Pending.{Firable, Work as WorkOf, is_of_operator_kind}
use Rattle.defs_soar.specs.WaveAtHand.{BeforeWave, Entry, Fresh, Wave, all_fresh, fired}
use Rattle.defs_soar.specs.WaveFirings.{before_wave, first_wave, firing_of_work, fresh_firing, made_in, with_firing, with_firings}
use Rattle.learning_laws.specs.LawfulAgents.{IsLawfulAgent}
use Rattle.learning_laws.specs.LawfulWaves.{AllFiringsKeep, IsLawfulWave}
use Rattle.program_laws.specs.Taught.{LearningTeaches}
use Rattle.firing_records.specs.Recorded.{Standing}
use Rattle.pending_work.specs.Firables.{IsPending}
use Rattle.pending_work.specs.declared.work.Work.{Work}
use Rattle.soar_record.specs.Recorded.{recorded}
use Rattle.soar_settle.specs.declared.stop.Stop.{Stop}
use Rattle.soar_settle.specs.declared.stop.Stop.TheVariants as stop
use Rattle.wave_firings.specs.FiresAll.{Begins, FiresAll, HasFired}
use Rattle.wave_firings.specs.declared.firing.Fired.{Fired}
use Rattle.wave_firings.proofs.FiringAgreement.{fresh_push}
use Rattle.wave_learning.specs.Hands.{IsAtHand, IsBefore, IsToLearn, LearnsAll, LearnsFrom, numbers_of_entries, program_seen}
use Rattle.wave_learning.specs.declared.hand.AtHand.{AtHand}
use Rattle.wave_learning.specs.declared.program.Program.{Program}
use Rattle.wave_parts.specs.Carrying.{IsPendingIn}
use Rattle.wave_parts.specs.Counting.{Counts}
use Rattle.wave_parts.specs.Lawful.{IsOfLawful}
use Rattle.wave_parts.specs.Programs.{program_of}
use Rattle.wave_parts.specs.Seen.{agent_of, pending_of}
use Rattle.wave_parts.specs.WaveParts.{ended_in, fired_in}
use Rattle.wave_parts.specs.Working.{HoldsWave, Works, WorksOut, standing_now}
use Rattle.wave_parts.specs.declared.parts.Parts.{Parts as PartsKept}
use Rattle.wave_parts.specs.declared.working.WaveWorked.{WaveWorked}
use Rattle.wave_parts.proofs.FiredWaveLemmas.{last_within, learned_stays, program_stays, tag_stays}
use Rattle.wave_parts.proofs.LimitLemmas.{passed_front}
use Rattle.wave_parts.proofs.RecordedLemmas.{ended_same, firings_alone, lawful_recorded, recorded_agent, recorded_alone}

-- ---- the work

-- it stands for no other
pub work_is : (rules : List RuleOf) (elements : List Element) (work : Work) (v w : WorkOf) → IsPending rules elements work v → IsPending rules elements work w → v ≡ w
work_is rules elements work v w h k = λ i. record { retracted = (sym h.retracted_are ∙ k.retracted_are) i; fired = (sym h.fired_are ∙ k.fired_are) i }

pub fired_lawful : AllFiringsKeep → (old : PartsKept) (history : List RecordedFiring) (work : Work) (w : WorkOf) → IsPendingIn old work → IsPending (map rule_seen old.rules) old.memory.elements work w
    → IsLawfulAgent (agent_of old history) → IsLawfulWave (agent_of old history) (fired_in (agent_of old history) w)
fired_lawful law old history work w pending pend lawful =
    let a = agent_of old history in
    subst (λ (v : WorkOf). IsLawfulWave a (fired_in a v)) (work_is (map rule_seen old.rules) old.memory.elements work (pending_of pending.0 old) w pending.1 pend) (law a pending.0 lawful)

-- ---- what fired

abbrev pub begins_now : (old : PartsKept) (history : List RecordedFiring) → Begins old.table old.letters (standing_now old) old.firings (before_wave (agent_of old history)) (first_wave (agent_of old history))
begins_now old history = record {
  reach_is = refl;
  rows_are = refl;
  elements_are = refl;
  words_are = refl;
  letters_are = refl;
  last_is = refl;
  entries_are = refl;
  next_are = refl;
  not_halted = refl;
  nothing_drawn = refl;
}

pub fires_so : (old : PartsKept) (s : Standing) (rules : List RuleOf) (work : Work) (words : Texts) (letters : List ℕ) (r : Result Fired Stop) → s ≡ standing_now old → rules ≡ map rule_seen old.rules
    → FiresAll old.table old.letters s rules work.fired old.firings words letters r
    → FiresAll old.table old.letters (standing_now old) (map rule_seen old.rules) work.fired old.firings words letters r
fires_so old s rules work words letters r same are h =
    subst (λ (rs : List RuleOf). FiresAll old.table old.letters (standing_now old) rs work.fired old.firings words letters r) are
    (subst (λ (at : Standing). FiresAll old.table old.letters at rules work.fired old.firings words letters r) same h)

pub has_fired : (old : PartsKept) (history : List RecordedFiring) (work : Work) (w : WorkOf) (words : Texts) (letters : List ℕ) (made : Fired)
    → IsPending (map rule_seen old.rules) old.memory.elements work w
    → FiresAll old.table old.letters (standing_now old) (map rule_seen old.rules) work.fired old.firings words letters (Ok made)
    → HasFired words letters (length work.fired) made (first_wave (agent_of old history)) (fired_in (agent_of old history) w)
has_fired old history work w words letters made pend all =
    let a = agent_of old history in
    subst (λ (firables : List Firable). HasFired words letters (length work.fired) made (first_wave a) (with_firings (before_wave a) (first_wave a) firables)) pend.fired_are
    (all (before_wave a) (first_wave a) (begins_now old history))

-- the number of the last firing is within the limit
pub firings_fit : (old : PartsKept) (history : List RecordedFiring) (work : Work) (w : WorkOf) (words : Texts) (letters : List ℕ) (made : Fired)
    → HasFired words letters (length work.fired) made (first_wave (agent_of old history)) (fired_in (agent_of old history) w) → old.firings ≤ 18446744073709551615
    → old.firings + length work.fired ≤ 18446744073709551615
firings_fit old history work w words letters made has fits =
    let a = agent_of old history in
    omega (arith, has.last_is, last_within (before_wave a) (first_wave a) w.fired has.within fits)

-- ---- what is learned from

numbers_push : (entries : List Entry) (x : Fresh)
    → map (λ (y : Fresh). y.firing.number) (all_fresh (entries ++ fired x ∷ [])) ≡ map (λ (y : Fresh). y.firing.number) (all_fresh entries) ++ x.firing.number ∷ []
numbers_push entries x = ap (map (λ (y : Fresh). y.firing.number)) (fresh_push entries x) ∙ map-append (λ (y : Fresh). y.firing.number) (all_fresh entries) (x ∷ [])

-- all firings of the wave
next_are : (m : BeforeWave) (w : Wave) (firables : List Firable) → w.next ≡ numbers_of_entries w → (with_firings m w firables).next ≡ numbers_of_entries (with_firings m w firables)
unfolding with_firings
next_are m w [] h = h
next_are m w (f ∷ firables) h =
    next_are m (with_firing m w f) firables
    (ap (λ l. l ++ suc w.last_firing ∷ []) h ∙ sym (numbers_push w.entries (fresh_firing m (firing_of_work m w f (made_in w m f)) (is_of_operator_kind m.reach.goals f) (made_in w m f))))

pub next_numbers : (old : PartsKept) (history : List RecordedFiring) (w : WorkOf) → (fired_in (agent_of old history) w).next ≡ numbers_of_entries (fired_in (agent_of old history) w)
next_numbers old history w = let a = agent_of old history in next_are (before_wave a) (first_wave a) w.fired refl

pub at_hand : (old : PartsKept) (history : List RecordedFiring) (w : WorkOf) (count : ℕ) (words : Texts) (letters : List ℕ) (made : Fired) (program : Program) (last : ℕ)
    → HasFired words letters count made (first_wave (agent_of old history)) (fired_in (agent_of old history) w)
    → program_seen program ≡ program_of old → last ≡ old.firings + count
    → IsAtHand words (record { program = program; last = last; learned = old.learned; entries = made.entries }) (fired_in (agent_of old history) w)
at_hand old history w count words letters made program last has program_is last_is =
    let a = agent_of old history in
    record {
      words_are = sym has.words_are;
      program_is = program_stays (before_wave a) (first_wave a) w.fired ∙ sym program_is;
      last_is = has.last_is ∙ sym last_is;
      learned_is = learned_stays (before_wave a) (first_wave a) w.fired;
      entries_are = sym has.entries_are;
      within = has.within;
    }

is_before : (old : PartsKept) (s : Standing) → s ≡ standing_now old → IsBefore s (recorded old.past) old.settings.learning old.settings.local_negations (recorded_agent old)
is_before old s same = record {
  goals_are = ap (λ (x : Standing). x.goals) (sym same);
  rows_are = ap (λ (x : Standing). x.rows) (sym same);
  elements_are = ap (λ (x : Standing). x.elements) (sym same);
  past_is = firings_alone (recorded old.past);
  on_is = refl;
  local_is = refl;
}

pub to_learn : AllFiringsKeep → (old : PartsKept) (work : Work) (s : Standing) (words : Texts) (letters : List ℕ) (made : Fired) (program : Program) (last : ℕ)
    → IsOfLawful old → IsPendingIn old work → s ≡ standing_now old
    → FiresAll old.table old.letters (standing_now old) (map rule_seen old.rules) work.fired old.firings words letters (Ok made)
    → program_seen program ≡ program_of old → last ≡ old.firings + length work.fired
    → IsToLearn words s (recorded old.past) old.settings.learning old.settings.local_negations (record { program = program; last = last; learned = old.learned; entries = made.entries })
to_learn law old work s words letters made program last lawful pending same all program_is last_is =
    let history = recorded_alone old in
    let a = recorded_agent old in
    let w = pending_of pending.0 old in
    let has = has_fired old history work w words letters made pending.1 all in
    let is_lawful = lawful_recorded old lawful in
    record {
      agent = a;
      wave = fired_in a w;
      lawful = is_lawful;
      lawful_wave = fired_lawful law old history work w pending pending.1 is_lawful;
      before = is_before old s same;
      at_hand = at_hand old history w (length work.fired) words letters made program last has program_is last_is;
      next = next_numbers old history w;
    }

-- ---- where it stops

-- a limit that the firings pass is the first that the wave passes
pub passed_in_firing : LearningTeaches → (old : PartsKept) (history : List RecordedFiring) (w : WorkOf) (limit : Which) → first_passed (fired_in (agent_of old history) w).totals ≡ Some limit
    → first_passed (ended_in (agent_of old history) w).totals ≡ Some limit
passed_in_firing teaches old history w limit passed =
    let a = agent_of old history in
    let taught = teaches (before_wave a) (fired_in a w) in
    ap first_passed taught.totals_are ∙ passed_front (fired_in a w).totals taught.totals limit passed

works_not : (old new : PartsKept) (v : Wave) (r : Result WaveWorked Stop) (why : Stop) → r ≡ Err why → Works old new (Err why) v → Works old new r v
works_not old new v r why is = subst (λ (x : Result WaveWorked Stop). Works old new x v) (sym is)

firing_stops : LearningTeaches → (old new : PartsKept) (history : List RecordedFiring) (work : Work) (w : WorkOf) (words : Texts) (letters : List ℕ) (why : Stop)
    → IsPending (map rule_seen old.rules) old.memory.elements work w
    → FiresAll old.table old.letters (standing_now old) (map rule_seen old.rules) work.fired old.firings words letters (Err why)
    → Works old new (Err why) (ended_in (agent_of old history) w)
firing_stops teaches old new history work w words letters (stop.Limit limit) pend all =
    let a = agent_of old history in
    passed_in_firing teaches old history w limit
    (subst (λ (firables : List Firable). first_passed (with_firings (before_wave a) (first_wave a) firables).totals ≡ Some limit) pend.fired_are (all (before_wave a) (first_wave a) (begins_now old history)))
firing_stops teaches old new history work w words letters stop.NoMemory pend all = tt

pub stops_in_firing : LearningTeaches → (old new : PartsKept) (work : Work) (words : Texts) (letters : List ℕ) (r : Result WaveWorked Stop) (why : Stop) → r ≡ Err why
    → FiresAll old.table old.letters (standing_now old) (map rule_seen old.rules) work.fired old.firings words letters (Err why) → WorksOut old new work r
stops_in_firing teaches old new work words letters r why is all = λ history remembers w pend.
    works_not old new (ended_in (agent_of old history) w) r why is (firing_stops teaches old new history work w words letters why pend all)

counting_stops : (old new : PartsKept) (history : List RecordedFiring) (work : Work) (w : WorkOf) (words : Texts) (letters : List ℕ) (made : Fired) (n : ℕ) (why : Stop)
    → HasFired words letters (length work.fired) made (first_wave (agent_of old history)) (fired_in (agent_of old history) w) → old.firings ≤ 18446744073709551615
    → n ≡ length work.fired → Counts (old.firings + n) (Err why) → Works old new (Err why) (ended_in (agent_of old history) w)
counting_stops old new history work w words letters made n (stop.Limit limit) has fits is over =
    absurd (omega (arith, is, over.1, firings_fit old history work w words letters made has fits))
counting_stops old new history work w words letters made n stop.NoMemory has fits is over = tt

pub stops_in_counting : (old new : PartsKept) (work : Work) (words : Texts) (letters : List ℕ) (made : Fired) (n : ℕ) (r : Result WaveWorked Stop) (why : Stop) → r ≡ Err why
    → FiresAll old.table old.letters (standing_now old) (map rule_seen old.rules) work.fired old.firings words letters (Ok made) → old.firings ≤ 18446744073709551615
    → n ≡ length work.fired → Counts (old.firings + n) (Err why) → WorksOut old new work r
stops_in_counting old new work words letters made n r why is all fits same over = λ history remembers w pend.
    works_not old new (ended_in (agent_of old history) w) r why is
    (counting_stops old new history work w words letters made n why (has_fired old history work w words letters made pend all) fits same over)

-- ---- learning

-- what learning answers of this wave, with the record in the place of the history
pub learns_here : AllFiringsKeep → (old : PartsKept) (work : Work) (w : WorkOf) (s : Standing) (words : Texts) (letters : List ℕ) (made : Fired) (program : Program) (last : ℕ) (table : Texts)
    (r : Result AtHand Stop) → IsOfLawful old → IsPendingIn old work → IsPending (map rule_seen old.rules) old.memory.elements work w → s ≡ standing_now old
    → FiresAll old.table old.letters (standing_now old) (map rule_seen old.rules) work.fired old.firings words letters (Ok made)
    → program_seen program ≡ program_of old → last ≡ old.firings + length work.fired
    → LearnsAll words s (recorded old.past) old.settings.learning old.settings.local_negations (record { program = program; last = last; learned = old.learned; entries = made.entries }) table r
    → LearnsFrom (recorded_agent old) (fired_in (recorded_agent old) w) table r
learns_here law old work w s words letters made program last table r lawful pending pend same all program_is last_is learns =
    let history = recorded_alone old in
    let a = recorded_agent old in
    let has = has_fired old history work w words letters made pend all in
    let is_lawful = lawful_recorded old lawful in
    learns a (fired_in a w) is_lawful (fired_lawful law old history work w pending pend is_lawful) (is_before old s same)
    (at_hand old history w (length work.fired) words letters made program last has program_is last_is) (next_numbers old history w)

-- what the record gives, each history gives of which it is a part
pub works_each : AllFiringsKeep → (old new : PartsKept) (work : Work) (result : Result WaveWorked Stop) → IsOfLawful old → IsPendingIn old work
    → ((w : WorkOf) → IsPending (map rule_seen old.rules) old.memory.elements work w → Works old new result (ended_in (recorded_agent old) w)) → WorksOut old new work result
works_each law old new work result lawful pending works = λ history remembers w pend.
    let is_lawful = lawful_recorded old lawful in
    subst (Works old new result)
    (sym (ended_same old history w is_lawful (fired_lawful law old (recorded_alone old) work w pending pend is_lawful) remembers)) (works w pend)

learning_stops : (old new : PartsKept) (history : List RecordedFiring) (w : WorkOf) (table : Texts) (why : Stop)
    → LearnsFrom (agent_of old history) (fired_in (agent_of old history) w) table (Err why) → Works old new (Err why) (ended_in (agent_of old history) w)
learning_stops old new history w table (stop.Limit limit) h = h
learning_stops old new history w table stop.NoMemory h = tt

pub stops_in_learning : (old new : PartsKept) (history : List RecordedFiring) (w : WorkOf) (table : Texts) (r : Result WaveWorked Stop) (why : Stop) → r ≡ Err why
    → LearnsFrom (agent_of old history) (fired_in (agent_of old history) w) table (Err why) → Works old new r (ended_in (agent_of old history) w)
stops_in_learning old new history w table r why is h = works_not old new (ended_in (agent_of old history) w) r why is (learning_stops old new history w table why h)

-- the parts with what learning gives
abbrev pub worked_of : PartsKept → Texts → List ℕ → AtHand → PartsKept
worked_of old table letters hand = record old {
  table = table;
  letters = letters;
  rules = hand.program.rules;
  last_rule = hand.program.last_rule;
  chains = hand.program.chains;
  chunks = hand.program.chunks;
  justifications = hand.program.justifications;
  firings = hand.last;
  learned = hand.learned;
}

pub holds_wave : LearningTeaches → (old : PartsKept) (history : List RecordedFiring) (w : WorkOf) (count : ℕ) (words : Texts) (letters : List ℕ) (made : Fired) (table : Texts) (hand : AtHand)
    → HasFired words letters count made (first_wave (agent_of old history)) (fired_in (agent_of old history) w) → IsAtHand table hand (ended_in (agent_of old history) w)
    → HoldsWave old (worked_of old table letters hand) hand.entries made.halted (ended_in (agent_of old history) w)
holds_wave teaches old history w count words letters made table hand has at =
    let a = agent_of old history in
    let taught = teaches (before_wave a) (fired_in a w) in
    record {
      words_are = sym at.words_are;
      letters_are = has.letters_are ∙ sym taught.letters_are;
      last_tag_is = sym (tag_stays (before_wave a) (first_wave a) w.fired) ∙ sym taught.last_tag_is;
      program_is = sym at.program_is;
      firings_are = sym at.last_is;
      learned_is = sym at.learned_is;
      entries_are = sym at.entries_are;
      halted_is = has.halted_is ∙ sym taught.halted_is;
      within = at.within;
    }
