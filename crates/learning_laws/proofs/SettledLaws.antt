-- A settled state is founded as the one before, and what is held is there.
use Rattle.std.proofs.Common.{◌≡◌, refl, sym, ◌∙◌, ap, subst, ℕ, ◌≤◌, ◌<◌, true, ◌&&◌, ◌||◌, cond, inl, inr, ◌⊎◌, arith, List, [], ◌∷◌, ◌++◌, map, flat_map, Some, is_some}
use Rattle.soar_sym.specs.Equality.{mark_eq, symbol_eq}
use Rattle.soar_sym.specs.declared.symbol.Sym.{Sym}
use Rattle.soar_sym.specs.declared.symbol.Triple.{Triple}
use Rattle.soar_wm.specs.declared.element.Element.{Element}
use Rattle.soar_wm.specs.WorkingMemory.{triple_of}
use Rattle.defs_match.specs.Rules.{RuleOf}
use Rattle.defs_soar.specs.declared.goal.Goal.{Goal}
use Rattle.defs_soar.specs.declared.goal.Selection.{Selection}
use Rattle.defs_soar.specs.declared.preference.PrefKind.TheVariants as kind
use Rattle.defs_soar.specs.declared.preference.Preference.{Preference}
use Rattle.defs_soar.specs.Agents.{Agent, Queued}
use Rattle.defs_soar.specs.Architecture.{operator_word}
use Rattle.defs_soar.specs.Dependencies.{symbols_of_wish}
use Rattle.defs_soar.specs.Goals.{goal_elements, is_goal, is_operator_slot, plain_triple, selected_element}
use Rattle.defs_soar.specs.Held.{held, held_by, held_candidate, held_ordinary, marked_triple_of}
use Rattle.defs_soar.specs.History.{FiringOf}
use Rattle.defs_soar.specs.Laws.{IsIn}
use Rattle.defs_soar.specs.Levels.{is_level_one, level_in, reaches}
use Rattle.defs_soar.specs.Resettling.{resettled}
use Rattle.defs_soar.specs.Settling.{elements_after, kept_triples, Supports}
use Rattle.defs_soar.specs.Trimming.{supports_of, Remains, trimmed}
use Rattle.defs_soar.specs.Ungrounded.{symbols_of_element}
use Rattle.defs_soar.specs.Uses.{makes_element, marked_element}
use Rattle.defs_soar.specs.Values.{is_identifier, is_kind}
use Rattle.defs_soar.specs.WaveAtHand.{BeforeWave}
use Rattle.defs_soar.specs.WaveFirings.{before_wave}
use Rattle.learning_laws.specs.LawfulAgents.{AreElements, AreGiven, GoalsAreNamed, IsFounded, IsGiven, IsHeldUp, symbols_of_triple}
use Rattle.learning_laws.specs.LawfulSteps.{unsettled}
use Rattle.learning_laws.specs.Replay.{is_operator_of_goal}
use Rattle.learning_laws.specs.Waves.{IsMadeElement}
use Rattle.learning_laws.proofs.AfterLaws.{added, added_above, added_apart, added_triple, added_within, each_has, is_after}
use Rattle.learning_laws.proofs.HeldLaws.{each_given, goals_given, Holds, IsOfRow, of_goals, of_input, of_row, of_selection, what_holds, word_given}
use Rattle.learning_laws.proofs.LevelLaws.{goal_level, level_identifier, level_one_again}
use Rattle.learning_laws.proofs.Lists.{and_true, any_in, both_true, filter_keeps, filter_within, in_append, in_flat_mapped, in_left, in_right, same_itself, same_mark}
use Rattle.learning_laws.proofs.TrimLaws.{front_in, IsEnd, trimmed_ends}
use Rattle.learning_laws.proofs.TripleLaws.{in_among, IsKnownTriple}
use Rattle.learning_laws.proofs.SettleLaws.{can_be_made_still, front_goal, front_no_goal, not_unselected, some_goal, still_named}

module _ (a : Agent) (t : Remains) (queue : List Queued) (rules : List RuleOf) (number : ℕ) (firings : List FiringOf) (f : IsFounded a.names (unsettled a t) queue rules number firings) where
  abbrev now : Remains
  now = trimmed a.history a.holding.elements t

  ended : IsEnd now t
  ended = trimmed_ends a.history a.holding.elements t (some_goal f.elements.ever t.goals f.elements.items)

  abbrev all : List Triple
  all = held now.rows now.goals now.inputs

  abbrev kept : List Triple
  kept = kept_triples now.goals (supports_of now)

  small : (e : Element) → IsIn e a.holding.elements → e.tag ≤ a.names.last_tag
  small e i = f.elements.last e (f.elements.present e i)

  abbrev new : List Element
  new = added a.names.words now.goals kept a.names.last_tag a.holding.elements small

  abbrev later : List Element
  later = elements_after a.names.words now.goals kept a.names.last_tag a.holding.elements

  -- ---- kept triples

  kept_held : (u : Triple) → IsIn u kept → IsIn u all × (is_some (level_in now.goals (reaches now.goals all) u.id) ≡ true)
  kept_held u i = filter_within (λ u. is_some (level_in now.goals (reaches now.goals all) u.id)) all u i

  goal_given : (g : Goal) → IsIn g now.goals → IsGiven a.names g.id
  goal_given g i = (f.symbols.goals g (front_in now.goals t.goals ended.less.goals g i)).1

  row_given : (row : Preference) → IsIn row t.rows → AreGiven a.names (symbols_of_wish row.wish)
  row_given row i s j =
      let by = f.rows row i in f.symbols.made by.0 by.1 s (in_flat_mapped symbols_of_wish row.wish s by.0.made by.3 j)

  selected_given : (g : Goal) (s : Selection) → IsIn g t.goals → g.selected ≡ Some s → IsGiven a.names s.operator
  selected_given g s i q = f.elements.given (marked_element g.id s.operator s.tag) (f.elements.selected g s i q) s.operator (inr (inr (inl refl)))

  named_now : GoalsAreNamed (f.elements.ever ++ new) now.goals
  named_now = still_named f.elements.ever new now.goals t.goals ended.less.goals ended.less.some f.elements.items

  named_before : GoalsAreNamed (f.elements.ever ++ []) now.goals
  named_before = still_named f.elements.ever [] now.goals t.goals ended.less.goals ended.less.some f.elements.items

  given_before : (e : Element) → IsIn e (f.elements.ever ++ []) → AreGiven a.names (symbols_of_element e)
  given_before e i = elim (in_append e f.elements.ever [] i) [ inl j ↦ f.elements.given e j | inr j ↦ absurd j ]

  held_given : (u : Triple) → IsIn u all → AreGiven a.names (symbols_of_triple u)
  held_given u i = go (what_holds now.rows now.goals now.inputs u i)
    where
      go : Holds now.rows now.goals now.inputs u → AreGiven a.names (symbols_of_triple u)
      go (of_goals j) =
          each_given a.names f.symbols.words f.symbols.links (goal_elements now.goals)
          (goals_given a.names f.symbols.words f.symbols.links (f.elements.ever ++ []) given_before now.goals named_before goal_given) u j
      go (of_selection g s j q e) = subst (λ v. AreGiven a.names (symbols_of_triple v)) e (three g s j q)
        where
          three : (g : Goal) (s : Selection) → IsIn g now.goals → g.selected ≡ Some s → AreGiven a.names (symbols_of_triple (plain_triple g.id operator_word s.operator))
          three g s j q x (inl e) = subst (IsGiven a.names) e (goal_given g j)
          three g s j q x (inr (inl e)) = subst (IsGiven a.names) e (word_given a.names f.symbols.words f.symbols.links 7 (omega arith))
          three g s j q x (inr (inr (inl e))) = subst (IsGiven a.names) e (selected_given g s (front_in now.goals t.goals ended.less.goals g j) q)
          three g s j q x (inr (inr (inr k))) = absurd k
      go (of_input j) = f.symbols.inputs u (ended.less.inputs u j)
      go (of_row row j r) = by (row_given row (ended.less.rows row j))
        where
          by : AreGiven a.names (symbols_of_wish row.wish) → AreGiven a.names (symbols_of_triple u)
          by g x (inl e) = g x (inl (sym r.id ∙ e))
          by g x (inr (inl e)) = g x (inr (inl (sym r.attr ∙ e)))
          by g x (inr (inr (inl e))) = g x (inr (inr (inl (sym r.value ∙ e))))
          by g x (inr (inr (inr k))) = absurd k

  kept_known : (u : Triple) → IsIn u kept → IsKnownTriple a.names.words u
  kept_known u i =
      let g = held_given u (kept_held u i).0 in ((g u.id (inl refl)).0, (g u.attr (inr (inl refl))).0, (g u.value (inr (inr (inl refl)))).0)

  -- ---- elements over all time

  abbrev ever : List Element
  ever = f.elements.ever ++ new

  tags_apart : (e g : Element) → IsIn e f.elements.ever ⊎ IsIn e new → IsIn g f.elements.ever ⊎ IsIn g new → e.tag ≡ g.tag → e ≡ g
  tags_apart e g (inl i) (inl j) q = f.elements.tags e g i j q
  tags_apart e g (inl i) (inr j) q =
      let low : e.tag ≤ a.names.last_tag = f.elements.last e i in
      let high : a.names.last_tag < g.tag = added_above a.names.words now.goals kept a.names.last_tag a.holding.elements small g j in absurd (omega arith)
  tags_apart e g (inr i) (inl j) q =
      let low : g.tag ≤ a.names.last_tag = f.elements.last g j in
      let high : a.names.last_tag < e.tag = added_above a.names.words now.goals kept a.names.last_tag a.holding.elements small e i in absurd (omega arith)
  tags_apart e g (inr i) (inr j) q = added_apart a.names.words now.goals kept a.names.last_tag a.holding.elements small e g i j q

  new_kept : (e : Element) → IsIn e new → IsIn (triple_of e) kept
  new_kept e i = added_triple a.names.words now.goals kept a.names.last_tag a.holding.elements small e i

  all_ids : (g : Goal) → IsIn g now.goals → is_identifier g.id ≡ true
  all_ids g i = (f.symbols.goals g (front_in now.goals t.goals ended.less.goals g i)).0

  elements_now : AreElements (resettled a t).agent.names (resettled a t).agent.holding firings
  unfolding resettled
  elements_now = record {
    ever = ever;
    tags = λ e g i j q. tags_apart e g (in_append e f.elements.ever new i) (in_append g f.elements.ever new j) q;
    last = λ e i. elim (in_append e f.elements.ever new i) [
      | inl j ↦ let low : e.tag ≤ a.names.last_tag = f.elements.last e j in omega arith
      | inr j ↦ added_within a.names.words now.goals kept a.names.last_tag a.holding.elements small e j
    ];
    ids = λ e i. elim (in_append e f.elements.ever new i) [
      | inl j ↦ f.elements.ids e j
      | inr j ↦ level_identifier now.goals all e.id all_ids (kept_held (triple_of e) (new_kept e j)).1
    ];
    given = λ e i. elim (in_append e f.elements.ever new i) [
      | inl j ↦ f.elements.given e j
      | inr j ↦ held_given (triple_of e) (kept_held (triple_of e) (new_kept e j)).0
    ];
    present = λ e i. elim ((is_after a.names.words now.goals kept a.names.last_tag a.holding.elements small e i).from) [
      | inl j ↦ in_left e f.elements.ever new (f.elements.present e j)
      | inr j ↦ in_right e f.elements.ever new j
    ];
    used = λ e i. in_left e f.elements.ever new (f.elements.used e i);
    items = named_now;
    selected = λ g s i q. in_left _ f.elements.ever new (f.elements.selected g s (front_in now.goals t.goals ended.less.goals g i) q);
  }

  pub settled_founded : IsFounded (resettled a t).agent.names (resettled a t).agent.holding queue rules number firings
  unfolding resettled
  settled_founded = record {
    symbols = record {
      letters = f.symbols.letters;
      words = f.symbols.words;
      once = f.symbols.once;
      links = f.symbols.links;
      goals = λ g i. f.symbols.goals g (front_in now.goals t.goals ended.less.goals g i);
      inputs = λ u i. f.symbols.inputs u (ended.less.inputs u i);
      queued = f.symbols.queued;
      of_rules = f.symbols.of_rules;
      made = f.symbols.made;
    };
    elements = elements_now;
    history = record {
      each = f.history.each;
      stand = f.history.stand;
      numbers = f.history.numbers;
      last_is = f.history.last_is;
      uses = f.history.uses;
      listed = f.history.listed;
      known = f.history.known;
      new = λ g s i q. front_no_goal now.goals t.goals ended.less.goals s (f.history.new g s i q);
    };
    rows = λ row i. f.rows row (ended.less.rows row i);
    accepted = λ row i q. can_be_made_still t.goals now.goals row.wish q (slot_still row.wish.id row.wish.attr) (f.accepted row (ended.less.rows row i) q);
    selections = λ g s i q. f.selections g s (front_in now.goals t.goals ended.less.goals g i) q;
    stand = f.stand;
  }
    where
      slot_still : (id attr : Sym) → is_operator_slot now.goals id attr ≡ true → is_operator_slot t.goals id attr ≡ true
      slot_still id attr q =
          let k = both_true (symbol_eq attr operator_word) (is_goal now.goals id) q in
          and_true (symbol_eq attr operator_word) (is_goal t.goals id) k.0 (front_goal now.goals t.goals ended.less.goals id k.1)

  -- ---- what is held up

  each_there : (u : Triple) → IsIn u kept → IsIn u (map triple_of later)
  each_there u i = each_has a.names.words now.goals kept a.names.last_tag a.holding.elements small f.symbols.once kept_known u i

  inputs_top : (u : Triple) → IsIn u now.inputs → is_level_one (level_in now.goals (reaches now.goals all) u.id) ≡ true
  inputs_top u i =
      (filter_within (λ u. is_level_one (level_in now.goals (reaches now.goals all) u.id)) now.inputs u (subst (IsIn u) (sym (ap (λ (s : Supports). s.inputs) ended.rests)) i)).1

  module _ (past : List FiringOf) where
    abbrev m : BeforeWave
    m = record (before_wave (resettled a t).agent) { firings = past }

    row_made : (e : Element) (row : Preference) → IsOfRow now.goals row (triple_of e) → makes_element e row ≡ true
    row_made e row r =
        and_true (symbol_eq row.wish.id e.id) _ (ap (λ s. symbol_eq s e.id) (sym r.id) ∙ same_itself e.id)
        (and_true (symbol_eq row.wish.attr e.attr) _ (ap (λ s. symbol_eq s e.attr) (sym r.attr) ∙ same_itself e.attr)
        (and_true (symbol_eq row.wish.value e.value) _ (ap (λ s. symbol_eq s e.value) (sym r.value) ∙ same_itself e.value) r.kind_is))

    -- what is made is of a row
    made_by_row : (e : Element) → IsIn e m.elements → IsMadeElement m e → (row : Preference) × IsIn row now.rows × IsOfRow now.goals row (triple_of e)
    unfolding resettled
    made_by_row e i made =
        let at = is_after a.names.words now.goals kept a.names.last_tag a.holding.elements small e i in
        go (what_holds now.rows now.goals now.inputs (triple_of e) (kept_held (triple_of e) at.triple).0)
      where
        go : Holds now.rows now.goals now.inputs (triple_of e) → (row : Preference) × IsIn row now.rows × IsOfRow now.goals row (triple_of e)
        go (of_goals j) = let k = sym (in_among (triple_of e) (goal_elements now.goals) j) ∙ made.others in absurd (cc)
        go (of_selection g s j q z) =
            absurd (not_unselected now.goals e g s j (ap (λ (u : Triple). u.id) z) (sym (ap (λ (u : Triple). u.attr) z)) (sym (ap (λ (u : Triple). u.accept) z)) q (ap (λ (u : Triple). u.value) z) made.unselected)
        go (of_input j) =
            let top = level_one_again now.goals all (map triple_of later) e.id
            (λ u k l. each_there u (filter_keeps (λ u. is_some (level_in now.goals (reaches now.goals all) u.id)) all u k l)) (inputs_top (triple_of e) j) in
            let k = sym top ∙ made.below in absurd (cc)
        go (of_row row j r) = (row, j, r)

    pub settled_held : IsHeldUp m
    unfolding resettled
    settled_held = record {
      held = λ e i made. let by = made_by_row e i made in any_in (makes_element e) by.0 now.rows by.1 (row_made e by.0 by.2);
      marks = λ e i made.
          let by = made_by_row e i made in
          let r = by.2 in
          let flag = (is_after a.names.words now.goals kept a.names.last_tag a.holding.elements small e i).flag in
          marked e by.0 r flag;
      flags = λ e i. (is_after a.names.words now.goals kept a.names.last_tag a.holding.elements small e i).flag;
      candidates = λ row i slot kinds.
          let goal = (both_true (symbol_eq row.wish.attr operator_word) (is_goal now.goals row.wish.id) slot).1 in
          let there = candidate_held row i slot kinds in
          in_among (marked_triple_of row) (map triple_of later)
          (each_there (marked_triple_of row)
          (filter_keeps (λ u. is_some (level_in now.goals (reaches now.goals all) u.id)) all (marked_triple_of row) there (goal_level now.goals (reaches now.goals all) row.wish.id goal)));
    }
      where
        marked : (e : Element) (row : Preference) → IsOfRow now.goals row (triple_of e) → e.of_state ≡ is_goal now.goals e.id → mark_eq e.accept (is_operator_of_goal e) ≡ true
        marked e row r flag =
            let same : is_operator_slot now.goals row.wish.id row.wish.attr ≡ is_operator_of_goal e = (λ i. symbol_eq (sym r.attr i) operator_word && is_goal now.goals (sym r.id i)) ∙ ap (λ b. symbol_eq e.attr operator_word && b) (sym flag) in
            ap (λ x. mark_eq x (is_operator_of_goal e)) (r.accept ∙ same) ∙ same_mark (is_operator_of_goal e)

        candidate_held : (row : Preference) → IsIn row now.rows → is_operator_slot now.goals row.wish.id row.wish.attr ≡ true → (is_kind row.wish.kind kind.Accept || is_kind row.wish.kind kind.Require) ≡ true → IsIn (marked_triple_of row) all
        candidate_held row i slot kinds =
            in_right (marked_triple_of row) (goal_elements now.goals) _ (in_right (marked_triple_of row) (flat_map selected_element now.goals) _ (in_right (marked_triple_of row) now.inputs _
            (in_flat_mapped (held_by now.rows now.goals) row (marked_triple_of row) now.rows i (own slot kinds))))
          where
            own : is_operator_slot now.goals row.wish.id row.wish.attr ≡ true → (is_kind row.wish.kind kind.Accept || is_kind row.wish.kind kind.Require) ≡ true → IsIn (marked_triple_of row) (held_by now.rows now.goals row)
            own s k =
                subst (IsIn (marked_triple_of row))
                (sym (ap (λ b. cond b (held_candidate row) (held_ordinary now.rows row)) s ∙ ap (λ b. cond b (marked_triple_of row ∷ []) []) k)) (inl refl)
