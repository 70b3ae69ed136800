-- Courses that lawful waves have: each step leaves one, and what is asked of an explanation in one.
use Rattle.std.proofs.Common.{◌≡◌, refl, sym, ◌∙◌, ap, ap₂, subst, ℕ, Bool, true, false, ◌==◌, cond, inl, inr, List, [], ◌∷◌, map, filter, Some, None}
use Rattle.soar_sym.specs.Words.{Texts}
use Rattle.soar_rule.specs.Symbols.{AreKnown}
use Rattle.soar_wm.specs.declared.element.Element.{Element}
use Rattle.soar_wm.specs.WorkingMemory.{triple_of}
use Rattle.chunk_learn.specs.Candidates.{IsOfDepth, candidate_now, depth_of_last}
use Rattle.condition_order.specs.Orders.{AreElementsKnown}
use Rattle.defs_soar.specs.declared.choice.Mode.TheVariants as mode
use Rattle.defs_soar.specs.declared.goal.Goal.{Goal}
use Rattle.defs_soar.specs.Agents.{Agent}
use Rattle.defs_soar.specs.CandidateOf.{candidate_of, learned_by, words_after, words_of_candidate}
use Rattle.defs_soar.specs.ChainIdentifiers.{firings_of}
use Rattle.defs_soar.specs.Goals.{goal_ids}
use Rattle.defs_soar.specs.History.{ChainOf, FiringOf}
use Rattle.defs_soar.specs.Laws.{IsIn}
use Rattle.defs_soar.specs.LearnedFirings.{ExplainedFiring}
use Rattle.defs_soar.specs.LearnedRules.{names_joining}
use Rattle.defs_soar.specs.Levels.{reaches}
use Rattle.defs_soar.specs.Outcome.{outcome_of}
use Rattle.defs_soar.specs.WaveAtHand.{BeforeWave, Entry, Fresh, Wave, all_fresh, fired, noted}
use Rattle.defs_soar.specs.WaveFirings.{before_wave}
use Rattle.explained_firings.specs.Explaining.{CanBeExplained}
use Rattle.firing_records.specs.Recorded.{Standing}
use Rattle.learning_laws.specs.Lawful.{Grown}
use Rattle.learning_laws.specs.LawfulAgents.{firings_of_agent}
use Rattle.learning_laws.specs.LawfulWaves.{IsLawfulWave, explained_in}
use Rattle.learning_laws.specs.LearningSteps.{named_wave}
use Rattle.learning_laws.proofs.NamingLaws.{known_later}
use Rattle.wave_learning.specs.Course.{Course, ExplainedBy, Progress, course_seen, explained_by, from_each, from_first, from_firing, from_number, moment, plain, reached, round_of, stopped, taught, teaches_in, then_on}
use Rattle.wave_learning.specs.Found.{AreTold, first_firing, or_firing}
use Rattle.wave_learning.specs.Hands.{IsBefore}
use Rattle.wave_learning.specs.Lawful.{ArePartsKnown, IsExplainedIn, IsLawfulCourse, MatchesAs}
use Rattle.wave_learning.specs.Rising.{AreRising}
use Rattle.wave_learning.proofs.Agreement.{Agrees, read_course}
use Rattle.wave_learning.proofs.CandidateLemmas.{after_grown, candidate_still}
use Rattle.wave_learning.proofs.LawfulFacts.{can_be_explained, elements_known, ends, goals_known, matches, parts_known}
use Rattle.wave_learning.proofs.RoundAgreement.{after_found, agrees_number, found_in, none_next, number_goes_on, number_tells}

-- ---- what is before the wave

pub moment_is : (s : Standing) (past : List FiringOf) (on local_negations : Bool) (a : Agent) → IsBefore s past on local_negations a → plain (before_wave a) ≡ moment s past on local_negations
moment_is s past on local_negations a h = λ i. record {
  reach = record { goals = h.goals_are i; reached = reaches (h.goals_are i) (map triple_of (h.elements_are i)) };
  rows = h.rows_are i;
  elements = h.elements_are i;
  firings = h.past_is i;
  settings = record { learning = h.on_is i; local_negations = h.local_is i; mode = mode.First; max_elaborations = 0; watch = 0 };
}

-- ---- the firing of a number

-- the first of these firings is the one that is found
record IsFound (n : ℕ) (entries : List Entry) (f : FiringOf) : Type 0 where
  fresh : Fresh
  others : List Fresh
  found : filter (λ x. x.firing.number == n) (all_fresh entries) ≡ fresh ∷ others
  is_there : IsIn fresh (all_fresh entries)
  firing_is : fresh.firing ≡ f

some_found : (n : ℕ) (entries : List Entry) (f : FiringOf) → first_firing n entries ≡ Some f → IsFound n entries f
some_found n [] f q = absurd (cc)
some_found n (noted l ∷ entries) f q = let r = some_found n entries f q in record { fresh = r.fresh; others = r.others; found = r.found; is_there = r.is_there; firing_is = r.firing_is }
some_found n (fired x ∷ entries) f q = go (x.firing.number == n) refl q (some_found n entries f)
  where
    go : (b : Bool) → (x.firing.number == n) ≡ b → or_firing (cond b (Some x.firing) None) (first_firing n entries) ≡ Some f → (first_firing n entries ≡ Some f → IsFound n entries f) → IsFound n (fired x ∷ entries) f
    go true p r later = record {
      fresh = x;
      others = filter (λ x. x.firing.number == n) (all_fresh entries);
      found = ap (λ b. cond b (x ∷ filter (λ x. x.firing.number == n) (all_fresh entries)) (filter (λ x. x.firing.number == n) (all_fresh entries))) p;
      is_there = inl refl;
      firing_is = cc;
    }
    go false p r later =
        let k = later r in
        record {
          fresh = k.fresh;
          others = k.others;
          found = ap (λ b. cond b (x ∷ filter (λ x. x.firing.number == n) (all_fresh entries)) (filter (λ x. x.firing.number == n) (all_fresh entries))) p ∙ k.found;
          is_there = inr k.is_there;
          firing_is = k.firing_is;
        }

none_found : (n : ℕ) (entries : List Entry) → first_firing n entries ≡ None → filter (λ x. x.firing.number == n) (all_fresh entries) ≡ []
none_found n [] q = refl
none_found n (noted l ∷ entries) q = none_found n entries q
none_found n (fired x ∷ entries) q = go (x.firing.number == n) q (none_found n entries)
  where
    go : (b : Bool) → or_firing (cond b (Some x.firing) None) (first_firing n entries) ≡ None → (first_firing n entries ≡ None → filter (λ x. x.firing.number == n) (all_fresh entries) ≡ [])
        → cond b (x ∷ filter (λ x. x.firing.number == n) (all_fresh entries)) (filter (λ x. x.firing.number == n) (all_fresh entries)) ≡ []
    go true r later = absurd (cc)
    go false r later = later r

module _ (s : Standing) (past : List FiringOf) (on local_negations : Bool) (c : Course) where
  abbrev m : BeforeWave
  m = moment s past on local_negations

  pub nothing_found : (n : ℕ) → first_firing n c.entries ≡ None → from_number m n c ≡ reached c
  nothing_found n q = ap (λ (found : List Fresh). from_first m found c) (none_found n c.entries q)

  pub nothing_taught : (n : ℕ) (f : FiringOf) → first_firing n c.entries ≡ Some f → teaches_in m f ≡ false → from_number m n c ≡ reached c
  nothing_taught n f q no_result =
      let r = some_found n c.entries f q in
      ap (λ (found : List Fresh). from_first m found c) r.found ∙ ap (λ (g : FiringOf). from_firing m g c) r.firing_is ∙ ap (λ b. cond b (taught m (explained_by m c.words f) c) (reached c)) no_result

  pub something_taught : (n : ℕ) (f : FiringOf) → first_firing n c.entries ≡ Some f → teaches_in m f ≡ true → from_number m n c ≡ taught m (explained_by m c.words f) c
  something_taught n f q result =
      let r = some_found n c.entries f q in
      ap (λ (found : List Fresh). from_first m found c) r.found ∙ ap (λ (g : FiringOf). from_firing m g c) r.firing_is ∙ ap (λ b. cond b (taught m (explained_by m c.words f) c) (reached c)) result

  module _ (h : IsLawfulCourse s past on local_negations c) where
    abbrev words_are : h.wave.names.words ≡ c.words
    words_are = ap (λ (d : Course). d.words) h.course_is

    same_moment : plain (before_wave h.agent) ≡ m
    same_moment = moment_is s past on local_negations h.agent h.before

    -- numbers tell firings
    pub told_apart : AreTold c.entries
    told_apart = subst (λ (d : Course). AreTold d.entries) h.course_is (number_tells h.agent h.wave h.goes_on.lawful)

    -- each firing can be explained
    pub explainable : (n : ℕ) (f : FiringOf) → first_firing n c.entries ≡ Some f → CanBeExplained c.words s past f
    explainable n f q =
        let r = some_found n c.entries f q in
        let there = subst (λ (d : Course). IsIn r.fresh (all_fresh d.entries)) (sym h.course_is) r.is_there in
        subst (λ (g : FiringOf). CanBeExplained c.words s past g) r.firing_is
        (subst (λ (p : List FiringOf). CanBeExplained c.words s p r.fresh.firing) h.before.past_is
        (subst (λ (ws : Texts). CanBeExplained ws s (firings_of_agent h.agent) r.fresh.firing) words_are (can_be_explained h.agent h.wave r.fresh h.lawful h.goes_on.lawful there s h.before.rows_are)))

    -- and its explanation is one in this course
    pub explained_there : (n : ℕ) (f : FiringOf) (e : ExplainedBy) → first_firing n c.entries ≡ Some f → e ≡ explained_by m c.words f → IsExplainedIn s past on local_negations c e
    explained_there n f e q is =
        let r = some_found n c.entries f q in
        record {
          course = h;
          fresh = r.fresh;
          is_there = subst (λ (d : Course). IsIn r.fresh (all_fresh d.entries)) (sym h.course_is) r.is_there;
          is = is ∙ ap (explained_by m c.words) (sym r.firing_is) ∙ ap₂ (λ (b : BeforeWave) (ws : Texts). explained_by b ws r.fresh.firing) (sym same_moment) (sym words_are);
        }

    -- a step leaves such a course
    pub next_lawful : (n : ℕ) (d : Course) → from_number m n c ≡ reached d → IsLawfulCourse s past on local_negations d
    next_lawful n d q =
        let agrees = agrees_number h.agent h.lawful n h.wave h.goes_on h.within in
        let path : from_number (plain (before_wave h.agent)) n (course_seen h.wave) ≡ reached d = ap₂ (λ (b : BeforeWave) (x : Course). from_number b n x) same_moment h.course_is ∙ q in
        let after : Wave = after_found h.agent h.lawful h.wave (found_in h.agent h.lawful n h.wave) in
        let ends = subst (λ (p : Progress). Agrees p after) path agrees in
        record {
          agent = h.agent;
          wave = after;
          lawful = h.lawful;
          goes_on = number_goes_on h.agent h.lawful n h.wave h.goes_on;
          before = h.before;
          course_is = sym ends.0;
          within = ends.1;
        }

    pub without_next : IsLawfulCourse s past on local_negations (record c { next = [] })
    without_next = record {
      agent = h.agent;
      wave = record h.wave { next = [] };
      lawful = h.lawful;
      goes_on = none_next h.agent h.lawful h.wave h.goes_on;
      before = h.before;
      course_is = ap (λ (d : Course). record d { next = [] }) h.course_is;
      within = h.within;
    }

    pub goals_in : AreKnown c.words (goal_ids s.goals)
    goals_in =
        subst (λ (gs : List Goal). AreKnown c.words (goal_ids gs)) h.before.goals_are
        (subst (λ (ws : Texts). AreKnown ws (goal_ids h.agent.holding.goals)) words_are (goals_known h.agent h.wave h.lawful h.goes_on.lawful))

-- ---- an explanation in it

module _ (s : Standing) (past : List FiringOf) (on local_negations : Bool) (c : Course) (e : ExplainedBy) (h : IsExplainedIn s past on local_negations c e) where
  abbrev a : Agent
  a = h.course.agent

  abbrev w : Wave
  w = h.course.wave

  abbrev x : Fresh
  x = h.fresh

  abbrev k : IsLawfulWave a w
  k = h.course.goes_on.lawful

  abbrev l : ExplainedFiring
  l = explained_in a w x.firing

  abbrev words_here : w.names.words ≡ c.words
  words_here = ap (λ (d : Course). d.words) h.course.course_is

  chain_is : l.chain ≡ e.chain
  chain_is = ap (λ (y : ExplainedBy). y.chain) (sym h.is)

  depth_is : x.firing.depth ≡ e.depth
  depth_is = ap (λ (y : ExplainedBy). y.depth) (sym h.is)

  pub rising_in : AreRising c.entries
  rising_in = subst (λ (d : Course). AreRising d.entries) h.course.course_is h.course.goes_on.rising

  pub parts_in : ArePartsKnown c.words e.chain
  parts_in =
      subst (λ (ch : ChainOf). ArePartsKnown c.words ch) chain_is (subst (λ (ws : Texts). ArePartsKnown ws l.chain) words_here (parts_known a w x h.course.lawful k h.is_there))

  pub depth_in : IsOfDepth e.chain e.depth
  depth_in = record { last = ap (λ (ch : ChainOf). depth_of_last 0 (firings_of ch)) (sym chain_is) ∙ ends a w x h.course.lawful k h.is_there ∙ depth_is }

  module _ (later : Texts) (is : later ≡ words_of_candidate c.words e.chain e.depth) where
    grown : Grown c.words later
    grown = subst (Grown c.words) (sym is) (after_grown (names_joining c.words e.chain e.depth) c.words)

    pub grounds_in : AreElementsKnown later e.chain.grounds
    grounds_in = elements_known later e.chain.grounds (λ t i. known_later c.words later t grown (parts_in.grounds t i))

    pub candidate_in : candidate_of c.words e.chain e.depth ≡ candidate_now later e.chain e.depth
    candidate_in = candidate_still c.words later e.chain e.depth grown parts_in.grounds is

    -- the rule that is learned matches
    abbrev Matches : Course → List Element → Bool → Bool → ChainOf → ℕ → Type 0
    Matches d elements learning allowed chain depth =
        MatchesAs s d.words chain (learned_by d.words chain depth (outcome_of d.words chain depth d.program.rules elements (record { on = learning; local_negations = allowed; learned = d.learned })))

    named_is : course_seen (named_wave l w) ≡ record c { words = later }
    named_is =
        read_course (names_joining w.names.words l.chain x.firing.depth) w
        ∙ ap (λ (d : Course). record d { words = words_after d.words (names_joining d.words l.chain x.firing.depth) }) h.course.course_is
        ∙ ap₂ (λ (ch : ChainOf) (n : ℕ). record c { words = words_after c.words (names_joining c.words ch n) }) chain_is depth_is
        ∙ ap (λ (ws : Texts). record c { words = ws }) (sym is)

    pub matches_in : Matches (record c { words = later }) s.elements on local_negations e.chain e.depth
    matches_in =
        subst (λ (n : ℕ). Matches (record c { words = later }) s.elements on local_negations e.chain n) depth_is
        (subst (λ (ch : ChainOf). Matches (record c { words = later }) s.elements on local_negations ch x.firing.depth) chain_is
        (subst (λ (b : Bool). Matches (record c { words = later }) s.elements on b l.chain x.firing.depth) h.course.before.local_is
        (subst (λ (b : Bool). Matches (record c { words = later }) s.elements b a.settings.local_negations l.chain x.firing.depth) h.course.before.on_is
        (subst (λ (es : List Element). Matches (record c { words = later }) es a.settings.learning a.settings.local_negations l.chain x.firing.depth) h.course.before.elements_are
        (subst (λ (d : Course). Matches d a.holding.elements a.settings.learning a.settings.local_negations l.chain x.firing.depth) named_is
        (matches a w x h.course.lawful k h.is_there s h.course.before.elements_are))))))

-- ---- numbers in turn, and rounds

same_course : (c d : Course) → reached c ≡ reached d → c ≡ d
same_course c d q = cc

each_lawful : (s : Standing) (past : List FiringOf) (on local_negations : Bool) (numbers : List ℕ) (c d : Course) → IsLawfulCourse s past on local_negations c
    → from_each (moment s past on local_negations) numbers c ≡ reached d → IsLawfulCourse s past on local_negations d
each_lawful s past on local_negations [] c d h q = subst (IsLawfulCourse s past on local_negations) (same_course c d q) h
each_lawful s past on local_negations (n ∷ numbers) c d h q =
    go (from_number (moment s past on local_negations) n c) refl q (λ b k r. each_lawful s past on local_negations numbers b d k r)
  where
    go : (p : Progress) → from_number (moment s past on local_negations) n c ≡ p → then_on p (from_each (moment s past on local_negations) numbers) ≡ reached d
        → ((b : Course) → IsLawfulCourse s past on local_negations b → from_each (moment s past on local_negations) numbers b ≡ reached d → IsLawfulCourse s past on local_negations d) → IsLawfulCourse s past on local_negations d
    go (reached b) r t later = later b (next_lawful s past on local_negations c h n b r) t
    go (stopped limit) r t later = absurd (cc)

pub round_lawful : (s : Standing) (past : List FiringOf) (on local_negations : Bool) (c d : Course) → IsLawfulCourse s past on local_negations c
    → round_of (moment s past on local_negations) c ≡ reached d → IsLawfulCourse s past on local_negations d
round_lawful s past on local_negations c d h q =
    each_lawful s past on local_negations c.next (record c { next = [] }) d (without_next s past on local_negations c h) q
