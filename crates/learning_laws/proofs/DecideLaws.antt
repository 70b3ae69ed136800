-- A decision keeps an agent lawful.
use Rattle.std.proofs.Common.{◌≡◌, refl, sym, ◌∙◌, ap, subst, ℕ, ◌+◌, ◌-◌, ◌≤◌, Bool, true, false, nat_lt, cond, inl, inr, arith, List, [], ◌∷◌, ◌++◌, length, flat_map, Option, Some, None}
use Rattle.std.proofs.lemmas.List.{length-set}
use Rattle.soar_sym.specs.Equality.{symbol_eq}
use Rattle.soar_sym.specs.Letters.{last_of, with_last}
use Rattle.soar_sym.specs.declared.symbol.Sym.{Sym}
use Rattle.soar_sym.specs.declared.symbol.Sym.TheVariants.{Ident, Word, Int}
use Rattle.soar_wm.specs.declared.element.Element.{Element}
use Rattle.defs_soar.specs.declared.goal.Goal.{Goal}
use Rattle.defs_soar.specs.declared.goal.Impasse.{Impasse}
use Rattle.defs_soar.specs.declared.goal.Item.{Item}
use Rattle.defs_soar.specs.declared.goal.Selection.{Selection}
use Rattle.defs_soar.specs.declared.preference.Preference.{Preference}
use Rattle.defs_soar.specs.Agents.{Agent, Names}
use Rattle.defs_soar.specs.Architecture.{operator_word}
use Rattle.defs_soar.specs.Decision.{after_impasse, after_limit, after_selection, after_substate, after_walk, cut_below, decided_by, new_goal, view_of, with_goal, without_words}
use Rattle.defs_soar.specs.Dependencies.{is_new_in, symbols_of_wish}
use Rattle.defs_soar.specs.Goals.{is_goal, is_operator_slot}
use Rattle.defs_soar.specs.History.{FiringOf}
use Rattle.defs_soar.specs.Laws.{IsIn}
use Rattle.defs_soar.specs.Sorted.{has_symbol}
use Rattle.defs_soar.specs.Trimming.{Remains}
use Rattle.defs_soar.specs.Uses.{marked_element}
use Rattle.defs_soar.specs.Values.{is_identifier}
use Rattle.defs_soar.specs.Walk.{Decided, meets, selects_operator, walked}
use Rattle.learning_laws.specs.LawfulAgents.{AreGiven, BelowAreNamed, firings_of_agent, GoalsAreNamed, IsFounded, IsGiven, IsLawfulAgent, IsNumbered}
use Rattle.learning_laws.specs.LawfulSteps.{DecisionKeeps, unsettled}
use Rattle.learning_laws.specs.Waves.{IsMadeIn}
use Rattle.learning_laws.proofs.FoundedLaws.{settling_keeps}
use Rattle.learning_laws.proofs.GroundedLaws.{has_in}
use Rattle.learning_laws.proofs.Lists.{and_true, both_true, filter_within, in_append, in_flat_mapped}
use Rattle.learning_laws.proofs.NewIdentifiers.{last_grows, last_new}
use Rattle.learning_laws.proofs.SettleLaws.{can_be_made_still, goal_there}
use Rattle.learning_laws.proofs.WalkLaws.{GoalIs, HasFirst, WalkIs, whole_walk}

-- a symbol that is new in a firing is one of those that it made
pub new_made : (f : FiringOf) (s : Sym) → is_new_in f s ≡ true → IsIn s (flat_map symbols_of_wish f.made)
new_made f s h = has_in (flat_map symbols_of_wish f.made) s (both_true (has_symbol (flat_map symbols_of_wish f.made) s) _ (both_true (is_identifier s) _ h).1).0

pub no_longer : (a b : Bool) → (a ≡ true → b ≡ true) → b ≡ false → a ≡ false
no_longer true b h q = let k = sym (h refl) ∙ q in absurd (cc)
no_longer false b h q = refl

-- ---- other goals

module _ (a : Agent) (h : IsLawfulAgent a) where
  abbrev ever : List Element
  ever = h.founded.elements.ever

  -- these may be the goals, with the last numbers of letters
  pub record AreGoals (letters : List ℕ) (goals : List Goal) : Type 0 where
    pub long : length letters ≡ 26
    pub more : (l : ℕ) → last_of a.names.letters l ≤ last_of letters l
    pub ids : (g : Goal) → IsIn g goals → (is_identifier g.id ≡ true) × IsGiven (record a.names { letters = letters }) g.id
    pub fewer : (s : Sym) → IsGiven a.names s → is_goal goals s ≡ true → is_goal a.holding.goals s ≡ true
    pub named : GoalsAreNamed ever goals
    pub selected : (g : Goal) (s : Selection) → IsIn g goals → g.selected ≡ Some s → IsIn (marked_element g.id s.operator s.tag) ever × IsMadeIn (firings_of_agent a) s.maker (marked_element g.id s.operator s.tag)

  module _ (letters : List ℕ) (t : Remains) (k : AreGoals letters t.goals) (rows : (row : Preference) → IsIn row t.rows → IsIn row a.holding.rows) (inputs : t.inputs ≡ a.holding.inputs) where
    abbrev names : Names
    names = record a.names { letters = letters }

    given_still : (s : Sym) → IsGiven a.names s → IsGiven names s
    given_still (Ident l n) g = let low : n ≤ last_of a.names.letters l = g.1 in let more : last_of a.names.letters l ≤ last_of letters l = k.more l in (g.0, omega arith)
    given_still (Word n) g = g
    given_still (Int z) g = g

    all_still : (symbols : List Sym) → AreGiven a.names symbols → AreGiven names symbols
    all_still symbols g s i = given_still s (g s i)

    pub goals_founded : IsFounded names (unsettled a t) a.queues.input a.program.rules a.counts.firings (firings_of_agent a)
    goals_founded =
        let f = h.founded in
        record {
          symbols = record {
            letters = k.long;
            words = f.symbols.words;
            once = f.symbols.once;
            links = let low : 3 ≤ last_of a.names.letters 73 = f.symbols.links in let more : last_of a.names.letters 73 ≤ last_of letters 73 = k.more 73 in omega arith;
            goals = k.ids;
            inputs = λ u i s j. given_still s (f.symbols.inputs u (subst (λ l. IsIn u l) inputs i) s j);
            queued = λ q i s j. given_still s (f.symbols.queued q i s j);
            of_rules = f.symbols.of_rules;
            made = λ g i s j. given_still s (f.symbols.made g i s j);
          };
          elements = record {
            ever = f.elements.ever;
            tags = f.elements.tags;
            last = f.elements.last;
            ids = f.elements.ids;
            given = λ e i s j. given_still s (f.elements.given e i s j);
            present = f.elements.present;
            used = f.elements.used;
            items = k.named;
            selected = λ g s i q. (k.selected g s i q).0;
          };
          history = record {
            each = f.history.each;
            stand = f.history.stand;
            numbers = f.history.numbers;
            last_is = f.history.last_is;
            uses = f.history.uses;
            listed = f.history.listed;
            known = f.history.known;
            new = λ g s i q. no_longer (is_goal t.goals s) (is_goal a.holding.goals s) (k.fewer s (f.symbols.made g i s (new_made g s q))) (f.history.new g s i q);
          };
          rows = λ row i. f.rows row (rows row i);
          accepted = λ row i q. can_be_made_still a.holding.goals t.goals row.wish q (slot_still row (rows row i)) (f.accepted row (rows row i) q);
          selections = λ g s i q. (k.selected g s i q).1;
          stand = f.stand;
        }
      where
        slot_still : (row : Preference) → IsIn row a.holding.rows → is_operator_slot t.goals row.wish.id row.wish.attr ≡ true → is_operator_slot a.holding.goals row.wish.id row.wish.attr ≡ true
        slot_still row i q =
            let by = h.founded.rows row i in
            let given : IsGiven a.names row.wish.id = h.founded.symbols.made by.0 by.1 row.wish.id (in_flat_mapped symbols_of_wish row.wish row.wish.id by.0.made by.3 (inl refl)) in
            let p = both_true (symbol_eq row.wish.attr operator_word) (is_goal t.goals row.wish.id) q in
            and_true (symbol_eq row.wish.attr operator_word) (is_goal a.holding.goals row.wish.id) p.0 (k.fewer row.wish.id given p.1)

  -- ---- the goals that a walk leaves

  each_walked : (superstate : Sym) (gs : List Goal) (d : Decided) → WalkIs a h superstate gs d → (g : Goal) → IsIn g gs → (s : Sym) × GoalIs a h s g
  each_walked superstate [] d w g i = absurd i
  each_walked superstate (x ∷ gs) d w g (inl q) = subst (λ y. (s : Sym) × GoalIs a h s y) q (superstate, w.0)
  each_walked superstate (x ∷ gs) d w g (inr i) = each_walked x.id gs d w.1 g i

  below_walked : (superstate : Sym) (gs : List Goal) (d : Decided) → WalkIs a h superstate gs d → BelowAreNamed ever superstate gs
  below_walked superstate [] d w = tt
  below_walked superstate (x ∷ gs) d w = (w.0.items, below_walked x.id gs d w.1)

  below_and_new : (superstate : Sym) (gs : List Goal) (why : Impasse) (items : List Item) (id : Sym) → WalkIs a h superstate gs (meets why items) → BelowAreNamed ever superstate (gs ++ new_goal id why items ∷ [])
  below_and_new superstate [] why items id w = (w, tt)
  below_and_new superstate (x ∷ gs) why items id w = (w.0.items, below_and_new x.id gs why items id w.1)

  top_named : (superstate : Sym) (gs : List Goal) (d : Decided) → HasFirst a h [] gs → WalkIs a h superstate gs d → GoalsAreNamed ever gs
  top_named superstate [] d f w = f
  top_named superstate (x ∷ gs) d f w = (f, below_walked x.id gs d w.1)

  top_and_new : (superstate : Sym) (gs : List Goal) (why : Impasse) (items : List Item) (id : Sym) → HasFirst a h [] gs → WalkIs a h superstate gs (meets why items) → GoalsAreNamed ever (gs ++ new_goal id why items ∷ [])
  top_and_new superstate [] why items id f w = absurd f
  top_and_new superstate (x ∷ gs) why items id f w = (f, below_and_new x.id gs why items id w.1)

  goal_of : (s : Sym) → is_goal a.holding.goals s ≡ true → (is_identifier s ≡ true) × IsGiven a.names s
  goal_of s q = let g = goal_there a.holding.goals s q in subst (λ x. (is_identifier x ≡ true) × IsGiven a.names x) g.2 (h.founded.symbols.goals g.0 g.1)

  -- without a new goal
  walked_goals : (superstate : Sym) (gs : List Goal) (d : Decided) → HasFirst a h [] gs → WalkIs a h superstate gs d → AreGoals a.names.letters gs
  walked_goals superstate gs d f w = record {
    long = h.founded.symbols.letters;
    more = λ l. same_still (last_of a.names.letters l);
    ids = λ g i. goal_of g.id (each_walked superstate gs d w g i).1.goal;
    fewer = λ s given q. let g = goal_there gs s q in ap (is_goal a.holding.goals) (sym g.2) ∙ (each_walked superstate gs d w g.0 g.1).1.goal;
    named = top_named superstate gs d f w;
    selected = λ g s i q. (each_walked superstate gs d w g i).1.selected s q;
  }
    where
      same_still : (n : ℕ) → n ≤ n
      same_still n = omega arith

  abbrev number : ℕ
  number = last_of a.names.letters 83 + 1

  abbrev with_number : List ℕ
  with_number = with_last a.names.letters 83 number

  letters_more : (l : ℕ) → last_of a.names.letters l ≤ last_of with_number l
  letters_more l = last_grows a.names.letters 83 l number h.founded.symbols.letters (omega arith) (omega arith)

  -- with a new goal below
  and_new_goals : (superstate : Sym) (gs : List Goal) (why : Impasse) (items : List Item) → HasFirst a h [] gs → WalkIs a h superstate gs (meets why items) → AreGoals with_number (gs ++ new_goal (Ident 83 number) why items ∷ [])
  and_new_goals superstate gs why items f w = record {
    long = length-set a.names.letters (83 - 65) number ∙ h.founded.symbols.letters;
    more = letters_more;
    ids = λ g i. elim (in_append g gs (new_goal (Ident 83 number) why items ∷ []) i) [
      | inl j ↦ let k = goal_of g.id (each_walked superstate gs (meets why items) w g j).1.goal in (k.0, given_more g.id k.1)
      | inr j ↦ elim j [ inl q ↦ subst (λ (x : Goal). (is_identifier x.id ≡ true) × IsGiven (record a.names { letters = with_number }) x.id) q (refl, new_given) | inr l ↦ absurd l ]
    ];
    fewer = λ s given q.
        let g = goal_there (gs ++ new_goal (Ident 83 number) why items ∷ []) s q in
        elim (in_append g.0 gs (new_goal (Ident 83 number) why items ∷ []) g.1) [
          | inl j ↦ ap (is_goal a.holding.goals) (sym g.2) ∙ (each_walked superstate gs (meets why items) w g.0 j).1.goal
          | inr j ↦ elim j [ inl e ↦ absurd (not_given s given (ap (λ (x : Goal). x.id) e ∙ g.2)) | inr l ↦ absurd l ]
        ];
    named = top_and_new superstate gs why items (Ident 83 number) f w;
    selected = λ g s i q. elim (in_append g gs (new_goal (Ident 83 number) why items ∷ []) i) [
      | inl j ↦ (each_walked superstate gs (meets why items) w g j).1.selected s q
      | inr j ↦ elim j [ inl e ↦ absurd (unselected g s e q) | inr l ↦ absurd l ]
    ];
  }
    where
      given_more : (s : Sym) → IsGiven a.names s → IsGiven (record a.names { letters = with_number }) s
      given_more (Ident l n) g = let low : n ≤ last_of a.names.letters l = g.1 in let more : last_of a.names.letters l ≤ last_of with_number l = letters_more l in (g.0, omega arith)
      given_more (Word n) g = g
      given_more (Int z) g = g

      new_given : IsGiven (record a.names { letters = with_number }) (Ident 83 number)
      new_given = let same : last_of with_number 83 ≡ number = last_new a.names.letters 83 number h.founded.symbols.letters (omega arith) in ((omega arith, omega arith), omega arith)

      not_given : (s : Sym) → IsGiven a.names s → Ident 83 number ≡ s → ⊥
      not_given s g e = let low : number ≤ last_of a.names.letters 83 = subst (IsNumbered a.names.letters) (sym e) g.1 in absurd (omega arith)

      unselected : (g : Goal) (s : Selection) → new_goal (Ident 83 number) why items ≡ g → g.selected ≡ Some s → ⊥
      unselected g s e q = let k = ap (λ (x : Goal). x.selected) e ∙ q in absurd (cc)

  -- ---- the decision

  cut_rows : (gs : List Goal) (row : Preference) → IsIn row (cut_below a gs).rows → IsIn row a.holding.rows
  cut_rows gs row i = (filter_within _ a.holding.rows row i).0

  selection_keeps : (gs : List Goal) (operator : Option Sym) (takes : Bool) → AreGoals a.names.letters gs → IsLawfulAgent (after_selection a gs operator takes).agent
  selection_keeps gs operator true k =
      settling_keeps (record a { queues = without_words true a.queues }) (cut_below a gs) (goals_founded a.names.letters (cut_below a gs) k (cut_rows gs) refl)
  selection_keeps gs operator false k =
      settling_keeps (record a { queues = without_words false a.queues }) (cut_below a gs) (goals_founded a.names.letters (cut_below a gs) k (cut_rows gs) refl)

  impasse_keeps : (superstate : Sym) (gs : List Goal) (why : Impasse) (items : List Item) → HasFirst a h [] gs → WalkIs a h superstate gs (meets why items) → IsLawfulAgent (after_impasse a gs why items).agent
  impasse_keeps superstate gs why items f w = go (nat_lt (length gs) 100)
    where
      go : (b : Bool) → IsLawfulAgent (cond b (after_substate a gs why items) (after_limit a gs)).agent
      go true =
          let t = with_goal (cut_below a gs) (new_goal (Ident 83 number) why items) in
          settling_keeps (record a { names = record a.names { letters = with_number } }) t (goals_founded with_number t (and_new_goals superstate gs why items f w) (cut_rows gs) refl)
      go false = settling_keeps a (cut_below a gs) (goals_founded a.names.letters (cut_below a gs) (walked_goals superstate gs (meets why items) f w) (cut_rows gs) refl)

  walk_keeps : (superstate : Sym) (gs : List Goal) (d : Decided) → HasFirst a h [] gs → WalkIs a h superstate gs d → IsLawfulAgent (after_walk a (record { goals = gs; decided = d })).agent
  walk_keeps superstate gs (selects_operator operator takes) f w = selection_keeps gs operator takes (walked_goals superstate gs (selects_operator operator takes) f w)
  walk_keeps superstate gs (meets why items) f w = impasse_keeps superstate gs why items f w

pub decision_keeps : DecisionKeeps
unfolding decided_by
decision_keeps a h =
    let w = whole_walk a h in
    let end = walked (view_of a) None a.holding.goals in walk_keeps a h w.0 end.goals end.decided w.1.0 w.1.1
