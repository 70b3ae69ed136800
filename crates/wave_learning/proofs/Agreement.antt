-- Where the code stands is where the wave of the definitions stands; where the code stops, the wave notes the same limit first. One explanation.
use Rattle.std.proofs.Common.{◌≡◌, ◌<◌, refl, sym, ◌∙◌, ap, subst, ℕ, suc, nat_lt, arith, Bool, List, [], ◌∷◌, ◌++◌, length, map, Option, Some, None, append_assoc, append-nil}
use Rattle.soar_sym.specs.Words.{with_text}
use Rattle.soar_rule.specs.Productions.{ProductionOf}
use Rattle.defs_text.specs.Numbered.{word_in}
use Rattle.defs_soar.specs.declared.learning.Cause.{Cause}
use Rattle.defs_soar.specs.declared.limit.Which.{Which}
use Rattle.defs_soar.specs.Candidate.{general_form, literal_form, named_form}
use Rattle.defs_soar.specs.CandidateOf.{words_after}
use Rattle.defs_soar.specs.ConditionOrder.{Ordered, ordered_grounds}
use Rattle.defs_soar.specs.Events.{LearningEvent, WishSupport, by_instance, by_learned, has_lost, has_no_grounds, is_blocked, reuses}
use Rattle.defs_soar.specs.LearnedFirings.{ExplainedFiring, with_learned, with_supports_by, without_rule}
use Rattle.defs_soar.specs.LearnedRules.{after_explanation, as_learning, by_outcome, chunk_front, free_number, justification_front, learned_name, names_joining, with_chunk, with_joined_word, with_justification, with_names, with_number_total}
use Rattle.defs_soar.specs.Limits.{Total, counts_to, first_passed, or_limit, passed_by, words_to}
use Rattle.defs_soar.specs.Outcome.{Outcome, blocked, chunked, groundless, justified, lost, outcome_of, reused}
use Rattle.defs_soar.specs.WaveAtHand.{BeforeWave, Entry, Wave, fired, noted}
use Rattle.learned_firings.specs.Flags.{with_flags}
use Rattle.learned_firings.specs.NameTotals.{totals_of_name}
use Rattle.wave_learning.specs.Course.{Course, ExplainedBy, NewRuleOf, Progress, by_outcome_of, chunk_made, course_seen, event_of, front_of, joined, joined_as, joined_fresh, justification_made, learned, name_of, named, named_as, next_if, joined_firing, noted_by, number_of, outcome_in, plain, reached, read, stopped, taught, then_on, totals_of_words, with_name, with_rule, within_limits}
use Rattle.wave_learning.specs.Held.{AreHeld}
use Rattle.wave_learning.specs.Rising.{AreRising}
use Rattle.wave_learning.proofs.FlagLemmas.{held_fired, held_noted, held_supported, held_with}
use Rattle.wave_learning.proofs.RisingLemmas.{AreWithin, rising_fired, rising_noted}

abbrev pub Agrees : Progress → Wave → Type 0
Agrees (reached c) w = (c ≡ course_seen w) × (first_passed w.totals ≡ None)
Agrees (stopped limit) w = first_passed w.totals ≡ Some limit

-- ---- limits

or_assoc : (a b c : Option Which) → or_limit (or_limit a b) c ≡ or_limit a (or_limit b c)
or_assoc None b c = refl
or_assoc (Some limit) b c = refl

passed_in_turn : (firsts seconds : List Total) → first_passed (firsts ++ seconds) ≡ or_limit (first_passed firsts) (first_passed seconds)
passed_in_turn [] seconds = refl
passed_in_turn (d ∷ firsts) seconds = ap (or_limit (passed_by d)) (passed_in_turn firsts seconds) ∙ sym (or_assoc (passed_by d) (first_passed firsts) (first_passed seconds))

passed_then : (firsts seconds : List Total) (o : Option Which) → first_passed firsts ≡ o → first_passed (firsts ++ seconds) ≡ or_limit o (first_passed seconds)
passed_then firsts seconds o h = passed_in_turn firsts seconds ∙ ap (λ p. or_limit p (first_passed seconds)) h

-- the second wave has the totals of the first, and more
pub record Appends (w v : Wave) : Type 0 where
  pub more : List Total
  pub is : v.totals ≡ w.totals ++ more

pub appends_none : (w v : Wave) → v.totals ≡ w.totals → Appends w v
appends_none w v same = record { more = []; is = same ∙ sym (append-nil w.totals) }

pub appends_then : (u v w : Wave) → Appends u v → Appends v w → Appends u w
appends_then u v w a b = record { more = a.more ++ b.more; is = b.is ∙ ap (λ l. l ++ b.more) a.is ∙ append_assoc u.totals a.more b.more }

-- a limit that was passed stays the first
stays : (w v : Wave) (limit : Which) → Appends w v → first_passed w.totals ≡ Some limit → first_passed v.totals ≡ Some limit
stays w v limit a h = ap first_passed a.is ∙ passed_then w.totals a.more (Some limit) h

-- ---- steps

agrees_within : (totals : List Total) (c : Course) (w v : Wave) → first_passed w.totals ≡ None → v.totals ≡ w.totals ++ totals → c ≡ course_seen v → Agrees (within_limits (first_passed totals) c) v
agrees_within totals c w v h is same = go (first_passed totals) (ap first_passed is ∙ passed_then w.totals totals None h)
  where
    go : (o : Option Which) → first_passed v.totals ≡ o → Agrees (within_limits o c) v
    go None q = (same, q)
    go (Some limit) q = q

pub agrees_then : (p : Progress) (f : Course → Progress) (v u : Wave) → Agrees p v → (first_passed v.totals ≡ None → Agrees (f (course_seen v)) u) → Appends v u → Agrees (then_on p f) u
agrees_then (reached c) f v u a later more = subst (λ d. Agrees (f d) u) (sym a.0) (later a.1)
agrees_then (stopped limit) f v u a later more = stays v u limit more a

abbrev pub told_of : ExplainedFiring → List Bool → ExplainedBy
told_of l flags = record { number = l.explained.number; depth = l.explained.depth; flags = flags; chain = l.chain }

abbrev pub SameFlags : ExplainedFiring → List Bool → List Entry → Type 0
SameFlags l flags entries = (by : WishSupport) → map (with_flags l.explained.number flags by) entries ≡ map (with_supports_by l.explained.number l.takes_over by) entries

module _ (m : BeforeWave) (l : ExplainedFiring) (flags : List Bool) where
  abbrev e : ExplainedBy
  e = told_of l flags

  -- ---- no rule

  agrees_noted : (learning_event : LearningEvent) (w : Wave) → first_passed w.totals ≡ None → SameFlags l flags w.entries → Agrees (reached (noted_by e learning_event (course_seen w))) (without_rule l learning_event w)
  agrees_noted learning_event w h same = (ap (λ (es : List Entry). record (course_seen w) { entries = es ++ noted learning_event ∷ [] }) (same by_instance), h)

  -- ---- a rule

  abbrev event : NewRuleOf → ℕ → List ℕ → LearningEvent
  event r = λ number tags. event_of r.why r.production.name l.explained.number number tags

  abbrev with_rule_joined : NewRuleOf → Wave → Wave
  with_rule_joined r w = with_learned m l r.production r.elements r.binds (event r) w

  joined_is : (r : NewRuleOf) (w : Wave) → SameFlags l flags w.entries → joined_as (plain m) e r (suc w.program.last_rule) (suc w.last_firing) (course_seen w) ≡ course_seen (with_rule_joined r w)
  joined_is r w same =
      ap (λ (es : List Entry). record (course_seen w) {
        program = with_rule w.program (record { number = suc w.program.last_rule; production = r.production }) l.chain;
        last = suc w.last_firing;
        entries = es ++ fired (joined_fresh (plain m) e r w.names.words (suc w.program.last_rule) (suc w.last_firing)) ∷ [];
        next = w.next ++ next_if (nat_lt (joined_firing (plain m) e r w.names.words (suc w.program.last_rule) (suc w.last_firing)).depth l.explained.depth) (suc w.last_firing);
      }) (same by_learned)

  agrees_joined : (r : NewRuleOf) (w : Wave) → first_passed w.totals ≡ None → SameFlags l flags w.entries → Agrees (joined (plain m) e r (course_seen w)) (with_rule_joined r w)
  agrees_joined r w h same =
      agrees_within (counts_to (suc w.program.last_rule) ∷ counts_to (suc w.last_firing) ∷ []) (joined_as (plain m) e r (suc w.program.last_rule) (suc w.last_firing) (course_seen w)) w (with_rule_joined r w) h refl (joined_is r w same)

  -- its name first; this is the wave with the name
  agrees_learned : (r : NewRuleOf) (w v : Wave) → first_passed w.totals ≡ None → SameFlags l flags v.entries
      → v.totals ≡ w.totals ++ totals_of_name w.names.words (front_of r.why) (number_of r.why (course_seen w)) → named_as r.why (course_seen w) ≡ course_seen v
      → Agrees (learned (plain m) e r (course_seen w)) (with_rule_joined (with_name r (word_in v.names.words (name_of r.why (course_seen w)))) v)
  agrees_learned r w v h same totals course =
      agrees_then (named r.why (course_seen w)) (λ d. joined (plain m) e (with_name r (word_in d.words (name_of r.why (course_seen w)))) d) v
      (with_rule_joined (with_name r (word_in v.names.words (name_of r.why (course_seen w)))) v)
      (agrees_within (totals_of_name w.names.words (front_of r.why) (number_of r.why (course_seen w))) (named_as r.why (course_seen w)) w v h totals course)
      (λ k. agrees_joined (with_name r (word_in v.names.words (name_of r.why (course_seen w)))) v k same)
      (record { more = counts_to (suc v.program.last_rule) ∷ counts_to (suc v.last_firing) ∷ []; is = refl })

  -- the waves with a name
  abbrev chunk_number : Wave → ℕ
  chunk_number w = free_number (length w.program.rules) w.names.words w.program.rules chunk_front (suc w.program.chunks)

  abbrev chunk_named : Wave → Wave
  chunk_named w =
      let n = chunk_number w in
      let spelled : Wave = with_joined_word (learned_name chunk_front n) (with_number_total n w) in
      record spelled { program = record spelled.program { chunks = n }; learned = suc spelled.learned }

  abbrev justification_number : Wave → ℕ
  justification_number w = free_number (length w.program.rules) w.names.words w.program.rules justification_front (suc w.program.justifications)

  abbrev justification_named : Wave → Wave
  justification_named w =
      let n = justification_number w in
      let spelled : Wave = with_joined_word (learned_name justification_front n) (with_number_total n w) in
      record spelled { program = record spelled.program { justifications = n } }

  agrees_chunk : (production : ProductionOf) (o : Ordered) (w : Wave) → first_passed w.totals ≡ None → SameFlags l flags w.entries → Agrees (learned (plain m) e (chunk_made e o production) (course_seen w)) (with_chunk m l production o w)
  agrees_chunk production o w h same =
      agrees_learned (chunk_made e o production) w (chunk_named w) h same
      (append_assoc w.totals (counts_to (chunk_number w) ∷ []) (words_to (length (with_text w.names.words (learned_name chunk_front (chunk_number w)))) ∷ [])) refl

  agrees_justification : (production : ProductionOf) (o : Ordered) (why : Cause) (w : Wave) → first_passed w.totals ≡ None → SameFlags l flags w.entries
      → Agrees (learned (plain m) e (justification_made e o production why) (course_seen w)) (with_justification m l production o why w)
  agrees_justification production o why w h same =
      agrees_learned (justification_made e o production why) w (justification_named w) h same
      (append_assoc w.totals (counts_to (justification_number w) ∷ []) (words_to (length (with_text w.names.words (learned_name justification_front (justification_number w)))) ∷ [])) refl

  -- ---- by the outcome

  agrees_outcome : (w : Wave) (o : Outcome) → first_passed w.totals ≡ None → SameFlags l flags w.entries → Agrees (by_outcome_of (plain m) e (course_seen w) o) (by_outcome m l w o)
  agrees_outcome w (lost tag) h same = agrees_noted (has_lost l.explained.number tag) w h same
  agrees_outcome w (blocked b) h same = agrees_noted (is_blocked l.explained.number b.negation b.tag) w h same
  agrees_outcome w groundless h same = agrees_noted (has_no_grounds l.explained.number) w h same
  agrees_outcome w (reused name) h same = agrees_noted (reuses name l.explained.number) w h same
  agrees_outcome w (justified why) h same =
      agrees_justification (named_form w.names.words (literal_form w.names.words l.chain l.explained.depth)) (ordered_grounds w.names.words l.chain.grounds) why w h same
  agrees_outcome w chunked h same = agrees_chunk (named_form w.names.words (general_form w.names.words l.chain l.explained.depth)) (ordered_grounds w.names.words l.chain.grounds) w h same

  appends_learned : (w v : Wave) (r : NewRuleOf) (number : ℕ) (text : List ℕ) → v.totals ≡ (w.totals ++ counts_to number ∷ []) ++ words_to (length (with_text w.names.words text)) ∷ [] → Appends w (with_rule_joined r v)
  appends_learned w v r number text is = record {
    more = (counts_to number ∷ words_to (length (with_text w.names.words text)) ∷ []) ++ (counts_to (suc v.program.last_rule) ∷ counts_to (suc v.last_firing) ∷ []);
    is = ap (λ l. l ++ (counts_to (suc v.program.last_rule) ∷ counts_to (suc v.last_firing) ∷ [])) (is ∙ append_assoc w.totals (counts_to number ∷ []) (words_to (length (with_text w.names.words text)) ∷ []))
        ∙ append_assoc w.totals (counts_to number ∷ words_to (length (with_text w.names.words text)) ∷ []) (counts_to (suc v.program.last_rule) ∷ counts_to (suc v.last_firing) ∷ []);
  }

  appends_outcome : (w : Wave) (o : Outcome) → Appends w (by_outcome m l w o)
  appends_outcome w (lost tag) = appends_none w (without_rule l (has_lost l.explained.number tag) w) refl
  appends_outcome w (blocked b) = appends_none w (without_rule l (is_blocked l.explained.number b.negation b.tag) w) refl
  appends_outcome w groundless = appends_none w (without_rule l (has_no_grounds l.explained.number) w) refl
  appends_outcome w (reused name) = appends_none w (without_rule l (reuses name l.explained.number) w) refl
  appends_outcome w (justified why) =
      let o = ordered_grounds w.names.words l.chain.grounds in
      let text = learned_name justification_front (justification_number w) in
      appends_learned w (justification_named w) (with_name (justification_made e o (named_form w.names.words (literal_form w.names.words l.chain l.explained.depth)) why) (word_in (with_text w.names.words text) text)) (justification_number w) text refl
  appends_outcome w chunked =
      let o = ordered_grounds w.names.words l.chain.grounds in
      let text = learned_name chunk_front (chunk_number w) in
      appends_learned w (chunk_named w) (with_name (chunk_made e o (named_form w.names.words (general_form w.names.words l.chain l.explained.depth))) (word_in (with_text w.names.words text) text)) (chunk_number w) text refl

  -- ---- what firings hold

  held_without : (learning_event : LearningEvent) (w : Wave) → AreHeld w.entries → AreHeld (without_rule l learning_event w).entries
  held_without learning_event w h = held_noted (map (with_supports_by l.explained.number l.takes_over by_instance) w.entries) learning_event (held_with l.explained.number l.takes_over by_instance w.entries h)

  held_joined : (r : NewRuleOf) (w : Wave) → AreHeld w.entries → AreHeld (with_rule_joined r w).entries
  held_joined r w h =
      let x = joined_fresh (plain m) e r w.names.words (suc w.program.last_rule) (suc w.last_firing) in
      held_fired (map (with_supports_by l.explained.number l.takes_over by_learned) w.entries) x (held_with l.explained.number l.takes_over by_learned w.entries h) (held_supported m.reach.goals x.operator_kind l.chain.results)

  held_outcome : (w : Wave) (o : Outcome) → AreHeld w.entries → AreHeld (by_outcome m l w o).entries
  held_outcome w (lost tag) h = held_without (has_lost l.explained.number tag) w h
  held_outcome w (blocked b) h = held_without (is_blocked l.explained.number b.negation b.tag) w h
  held_outcome w groundless h = held_without (has_no_grounds l.explained.number) w h
  held_outcome w (reused name) h = held_without (reuses name l.explained.number) w h
  held_outcome w (justified why) h =
      let o = ordered_grounds w.names.words l.chain.grounds in
      let text = learned_name justification_front (justification_number w) in
      held_joined (with_name (justification_made e o (named_form w.names.words (literal_form w.names.words l.chain l.explained.depth)) why) (word_in (with_text w.names.words text) text)) (justification_named w) h
  held_outcome w chunked h =
      let o = ordered_grounds w.names.words l.chain.grounds in
      let text = learned_name chunk_front (chunk_number w) in
      held_joined (with_name (chunk_made e o (named_form w.names.words (general_form w.names.words l.chain l.explained.depth))) (word_in (with_text w.names.words text) text)) (chunk_named w) h

  -- ---- the numbers of firings rise

  rising_without : (learning_event : LearningEvent) (w : Wave) → AreRising w.entries → AreRising (without_rule l learning_event w).entries
  rising_without learning_event w h = rising_noted l.explained.number l.takes_over by_instance w.entries learning_event h

  rising_joined : (r : NewRuleOf) (w : Wave) → AreRising w.entries → AreWithin w.last_firing w.entries → AreRising (with_rule_joined r w).entries
  rising_joined r w h within =
      let x = joined_fresh (plain m) e r w.names.words (suc w.program.last_rule) (suc w.last_firing) in
      let above : w.last_firing < suc w.last_firing = omega arith in
      rising_fired l.explained.number l.takes_over by_learned w.entries x w.last_firing h within above

  rising_outcome : (w : Wave) (o : Outcome) → AreRising w.entries → AreWithin w.last_firing w.entries → AreRising (by_outcome m l w o).entries
  rising_outcome w (lost tag) h within = rising_without (has_lost l.explained.number tag) w h
  rising_outcome w (blocked b) h within = rising_without (is_blocked l.explained.number b.negation b.tag) w h
  rising_outcome w groundless h within = rising_without (has_no_grounds l.explained.number) w h
  rising_outcome w (reused name) h within = rising_without (reuses name l.explained.number) w h
  rising_outcome w (justified why) h within =
      let o = ordered_grounds w.names.words l.chain.grounds in
      let text = learned_name justification_front (justification_number w) in
      rising_joined (with_name (justification_made e o (named_form w.names.words (literal_form w.names.words l.chain l.explained.depth)) why) (word_in (with_text w.names.words text) text)) (justification_named w) h within
  rising_outcome w chunked h within =
      let o = ordered_grounds w.names.words l.chain.grounds in
      let text = learned_name chunk_front (chunk_number w) in
      rising_joined (with_name (chunk_made e o (named_form w.names.words (general_form w.names.words l.chain l.explained.depth))) (word_in (with_text w.names.words text) text)) (chunk_named w) h within

-- ---- names that join

pub read_course : (texts : List (List ℕ)) (w : Wave) → course_seen (with_names texts w) ≡ record (course_seen w) { words = words_after w.names.words texts }
read_course [] w = refl
read_course (text ∷ texts) w = read_course texts (with_joined_word text w)

pub read_totals : (texts : List (List ℕ)) (w : Wave) → (with_names texts w).totals ≡ w.totals ++ totals_of_words w.names.words texts
read_totals [] w = sym (append-nil w.totals)
read_totals (text ∷ texts) w =
    read_totals texts (with_joined_word text w)
    ∙ append_assoc w.totals (words_to (length (with_text w.names.words text)) ∷ []) (totals_of_words (with_text w.names.words text) texts)

-- ---- an explanation

module _ (m : BeforeWave) (l : ExplainedFiring) (w : Wave) where
  abbrev joining : List (List ℕ)
  joining = names_joining w.names.words l.chain l.explained.depth

  abbrev named_now : Wave
  named_now = with_names joining w

  abbrev becomes : Outcome
  becomes = outcome_of named_now.names.words l.chain l.explained.depth named_now.program.rules m.elements (as_learning m.settings named_now.learned)

  entries_named : named_now.entries ≡ w.entries
  entries_named = ap (λ (c : Course). c.entries) (read_course joining w)

  pub agrees_taught : (flags : List Bool) → first_passed w.totals ≡ None → SameFlags l flags w.entries → Agrees (taught (plain m) (told_of l flags) (course_seen w)) (after_explanation m l w)
  agrees_taught flags h same =
      agrees_then (read (told_of l flags) (course_seen w)) (λ d. by_outcome_of (plain m) (told_of l flags) d (outcome_in (plain m) (told_of l flags) d)) named_now (after_explanation m l w)
      (agrees_within (totals_of_words w.names.words joining) (record (course_seen w) { words = words_after w.names.words joining }) w named_now h (read_totals joining w) (sym (read_course joining w)))
      (λ k. agrees_outcome m l flags named_now becomes k (subst (SameFlags l flags) (sym entries_named) same))
      (appends_outcome m l flags named_now becomes)

  pub appends_taught : Appends w (after_explanation m l w)
  appends_taught =
      appends_then w named_now (after_explanation m l w) (record { more = totals_of_words w.names.words joining; is = read_totals joining w }) (appends_outcome m l [] named_now becomes)

  pub held_taught : AreHeld w.entries → AreHeld (after_explanation m l w).entries
  held_taught h = held_outcome m l [] named_now becomes (subst AreHeld (sym entries_named) h)

  pub rising_taught : AreRising w.entries → AreWithin w.last_firing w.entries → AreRising (after_explanation m l w).entries
  rising_taught h within =
      let last_named : named_now.last_firing ≡ w.last_firing = ap (λ (c : Course). c.last) (read_course joining w) in
      rising_outcome m l [] named_now becomes (subst AreRising (sym entries_named) h)
      (subst (λ (es : List Entry). AreWithin named_now.last_firing es) (sym entries_named) (subst (λ (n : ℕ). AreWithin n w.entries) (sym last_named) within))
