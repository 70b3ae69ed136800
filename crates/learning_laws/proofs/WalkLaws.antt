-- The goals that a decision's walk leaves: their items and selections name marked elements that are there.
use Rattle.std.proofs.Common.{◌≡◌, refl, sym, ◌∙◌, ap, subst, ℕ, zero, suc, Bool, true, false, ◌&&◌, ◌||◌, cond, inl, inr, List, [], ◌∷◌, length, map, flat_map, Option, Some, None}
use Rattle.std.specs.List.{list_any}
use Rattle.soar_sym.specs.Equality.{symbol_eq}
use Rattle.soar_sym.specs.declared.symbol.Sym.{Sym}
use Rattle.soar_sym.specs.declared.symbol.Triple.{Triple}
use Rattle.soar_wm.specs.declared.element.Element.{Element}
use Rattle.soar_wm.specs.WorkingMemory.{triple_of}
use Rattle.defs_soar.specs.declared.choice.Scored.{Scored}
use Rattle.defs_soar.specs.declared.goal.Goal.{Goal}
use Rattle.defs_soar.specs.declared.goal.Impasse.TheVariants as impasse
use Rattle.defs_soar.specs.declared.goal.Item.{Item}
use Rattle.defs_soar.specs.declared.goal.Selection.{Selection}
use Rattle.defs_soar.specs.declared.preference.Preference.{Preference}
use Rattle.defs_soar.specs.Agents.{Agent}
use Rattle.defs_soar.specs.Architecture.{operator_word}
use Rattle.defs_soar.specs.Decision.{view_of}
use Rattle.defs_soar.specs.Goals.{is_goal, is_operator_slot}
use Rattle.defs_soar.specs.Held.{marked_triple_of}
use Rattle.defs_soar.specs.Laws.{IsIn}
use Rattle.defs_soar.specs.Preferences.{slot_of}
use Rattle.defs_soar.specs.Standing.{makers_of_goal, roots_of}
use Rattle.defs_soar.specs.Uses.{maker_of, makes_element, marked_element}
use Rattle.defs_soar.specs.Verdicts.{are_left, drawn_from, is_impasse, is_marked_for, item_for, items_for, marked_tag, uses_word, value_at, Verdict}
use Rattle.defs_soar.specs.Walk.{below_goal, Decided, has_impasse, is_among_left, meets, selects_operator, verdict_at, walked, Walked, with_selection, without_selection}
use Rattle.learning_laws.specs.LawfulAgents.{BelowAreNamed, firings_of_agent, GoalsAreNamed, IsLawfulAgent, ItemsAreNamed}
use Rattle.learning_laws.specs.Waves.{IsMadeIn}
use Rattle.learning_laws.proofs.ChoiceLaws.{HasRow, VerdictHas, verdict_has}
use Rattle.learning_laws.proofs.Lists.{and_true, any_in, both_true, filter_within, in_flat_mapped, in_left, in_map, in_mapped, in_right, same_itself, symbol_same}
use Rattle.learning_laws.proofs.SettleLaws.{is_goal_in}
use Rattle.learning_laws.proofs.TripleLaws.{among_in}
use Rattle.learning_laws.proofs.UseLaws.{maker_makes, row_wish_makes}

-- the marked element of a tag that is found
marked_found : (elements : List Element) (goal operator : Sym) → list_any (is_marked_for goal operator) elements ≡ true → (e : Element) × IsIn e elements × (is_marked_for goal operator e ≡ true) × (e.tag ≡ marked_tag elements goal operator)
marked_found [] goal operator h = absurd (cc)
marked_found (x ∷ elements) goal operator h = go (is_marked_for goal operator x) refl h (marked_found elements goal operator)
  where
    go : (b : Bool) → is_marked_for goal operator x ≡ b → (b || list_any (is_marked_for goal operator) elements) ≡ true
        → (list_any (is_marked_for goal operator) elements ≡ true → (e : Element) × IsIn e elements × (is_marked_for goal operator e ≡ true) × (e.tag ≡ marked_tag elements goal operator))
        → (e : Element) × IsIn e (x ∷ elements) × (is_marked_for goal operator e ≡ true) × (e.tag ≡ cond b x.tag (marked_tag elements goal operator))
    go true q k later = (x, inl refl, q, refl)
    go false q k later = let f = later k in (f.0, inr f.1, f.2, f.3)

value_in : (left : List Scored) (n : ℕ) (s : Sym) → value_at left n ≡ Some s → (x : Scored) × IsIn x left × (x.value ≡ s)
value_in [] n s h = absurd (cc)
value_in (x ∷ left) zero s h = (x, inl refl, cc)
value_in (x ∷ left) (suc n) s h = let f = value_in left n s h in (f.0, inr f.1, f.2)

module _ (a : Agent) (h : IsLawfulAgent a) where
  abbrev ever : List Element
  ever = h.founded.elements.ever

  abbrev goals : List Goal
  goals = a.holding.goals

  -- ---- a candidate's marked element

  abbrev tag_at : Sym → Sym → ℕ
  tag_at goal operator = marked_tag a.holding.elements goal operator

  -- it is there under its tag, and made by the firing that the selection names
  record IsCandidate (goal operator : Sym) : Type 0 where
    there : IsIn (marked_element goal operator (tag_at goal operator)) a.holding.elements
    made : IsMadeIn (firings_of_agent a) (maker_of a.holding.rows (marked_element goal operator (tag_at goal operator))) (marked_element goal operator (tag_at goal operator))
    root : IsIn (maker_of a.holding.rows (marked_element goal operator (tag_at goal operator))) (map (λ (row : Preference). row.firing) a.holding.rows)

  is_candidate : (goal operator : Sym) → is_goal goals goal ≡ true → HasRow (slot_of a.holding.rows goal operator_word) operator → IsCandidate goal operator
  is_candidate goal operator g k = record {
    there = subst (λ e. IsIn e a.holding.elements) same found.1;
    made = made;
    root = subst (λ n. IsIn n (map (λ (row : Preference). row.firing) a.holding.rows)) by_row.3 (in_mapped (λ (row : Preference). row.firing) by_row.0 a.holding.rows by_row.1);
  }
    where
      among : IsIn k.row a.holding.rows × ((symbol_eq k.row.wish.id goal && symbol_eq k.row.wish.attr operator_word) ≡ true)
      among = filter_within (λ (row : Preference). symbol_eq row.wish.id goal && symbol_eq row.wish.attr operator_word) a.holding.rows k.row k.there

      id_is : k.row.wish.id ≡ goal
      id_is = symbol_same k.row.wish.id goal (both_true (symbol_eq k.row.wish.id goal) _ among.1).0

      attr_is : k.row.wish.attr ≡ operator_word
      attr_is = symbol_same k.row.wish.attr operator_word (both_true (symbol_eq k.row.wish.id goal) _ among.1).1

      slot : is_operator_slot goals k.row.wish.id k.row.wish.attr ≡ true
      slot = and_true (symbol_eq k.row.wish.attr operator_word) (is_goal goals k.row.wish.id) (both_true (symbol_eq k.row.wish.id goal) _ among.1).1 (ap (is_goal goals) id_is ∙ g)

      held : (e : Element) × IsIn e a.holding.elements × (triple_of e ≡ marked_triple_of k.row)
      held = in_map triple_of (marked_triple_of k.row) a.holding.elements (among_in (marked_triple_of k.row) (map triple_of a.holding.elements) (h.held_up.candidates k.row among.0 slot k.kinds))

      marked : is_marked_for goal operator held.0 ≡ true
      marked =
          let e = held.0 in
          and_true (symbol_eq e.id goal) _ (ap (λ s. symbol_eq s goal) (ap (λ (t : Triple). t.id) held.2 ∙ id_is) ∙ same_itself goal)
          (and_true (symbol_eq e.attr operator_word) _ (ap (λ s. symbol_eq s operator_word) (ap (λ (t : Triple). t.attr) held.2 ∙ attr_is))
          (and_true (symbol_eq e.value operator) e.accept (ap (λ s. symbol_eq s operator) (ap (λ (t : Triple). t.value) held.2 ∙ k.value) ∙ same_itself operator) (ap (λ (t : Triple). t.accept) held.2)))

      found : (e : Element) × IsIn e a.holding.elements × (is_marked_for goal operator e ≡ true) × (e.tag ≡ tag_at goal operator)
      found = marked_found a.holding.elements goal operator (any_in (is_marked_for goal operator) held.0 a.holding.elements held.1 marked)

      same : found.0 ≡ marked_element goal operator (tag_at goal operator)
      same =
          let e = found.0 in
          let p = both_true (symbol_eq e.id goal) (symbol_eq e.attr operator_word && (symbol_eq e.value operator && e.accept)) found.2 in
          let q = both_true (symbol_eq e.attr operator_word) (symbol_eq e.value operator && e.accept) p.1 in
          let r = both_true (symbol_eq e.value operator) e.accept q.1 in
          let id = symbol_same e.id goal p.0 in
          let attr = symbol_same e.attr operator_word q.0 in
          let value = symbol_same e.value operator r.0 in
          let flag : e.of_state ≡ true = h.held_up.flags e found.1 ∙ ap (is_goal goals) id ∙ g in
          λ i. record { tag = found.3 i; id = id i; attr = attr i; value = value i; accept = r.1 i; of_state = flag i }

      mine : Element
      mine = marked_element goal operator (tag_at goal operator)

      by_row : (row : Preference) × IsIn row a.holding.rows × (makes_element mine row ≡ true) × (row.firing ≡ maker_of a.holding.rows mine)
      by_row = maker_makes a.holding.rows mine (any_in (makes_element mine) k.row a.holding.rows among.0 (
          and_true (symbol_eq k.row.wish.id goal) _ (both_true (symbol_eq k.row.wish.id goal) _ among.1).0
          (and_true (symbol_eq k.row.wish.attr operator_word) _ (both_true (symbol_eq k.row.wish.id goal) _ among.1).1
          (and_true (symbol_eq k.row.wish.value operator) _ (ap (λ s. symbol_eq s operator) k.value ∙ same_itself operator) k.kinds))))

      made : IsMadeIn (firings_of_agent a) (maker_of a.holding.rows mine) mine
      made =
          let f = h.founded.rows by_row.0 by_row.1 in
          record { firing = f.0; is_there = f.1; number_is = f.2 ∙ by_row.3; makes = any_in _ by_row.0.wish f.0.made f.3 (row_wish_makes mine by_row.0 by_row.2 refl) }

  verdict_rows : (goal : Sym) → VerdictHas (slot_of a.holding.rows goal operator_word) (verdict_at (view_of a) goal)
  verdict_rows goal = verdict_has a.names.words (slot_of a.holding.rows goal operator_word)

  items_named : (goal : Sym) (scored : List Scored) → is_goal goals goal ≡ true → ((s : Scored) → IsIn s scored → HasRow (slot_of a.holding.rows goal operator_word) s.value)
      → ItemsAreNamed ever goal (items_for a.holding.elements goal scored)
  items_named goal scored g k item i =
      let found = in_map (item_for a.holding.elements goal) item scored i in
      subst (λ (x : Item). IsIn (marked_element goal x.value x.tag) ever) found.2 (h.founded.elements.present _ (is_candidate goal found.0.value g (k found.0 found.1)).there)

  -- ---- the walk

  pub record GoalIs (superstate : Sym) (g : Goal) : Type 0 where
    pub items : ItemsAreNamed ever superstate g.items
    pub goal : is_goal goals g.id ≡ true
    pub selected : (s : Selection) → g.selected ≡ Some s → IsIn (marked_element g.id s.operator s.tag) ever × IsMadeIn (firings_of_agent a) s.maker (marked_element g.id s.operator s.tag)
    pub root : (s : Selection) → g.selected ≡ Some s → IsIn s.maker (roots_of a)

  abbrev pub EndIs : Sym → Decided → Type 0
  EndIs superstate (selects_operator operator takes) = Unit {0}
  EndIs superstate (meets why items) = ItemsAreNamed ever superstate items

  abbrev pub WalkIs : Sym → List Goal → Decided → Type 0
  WalkIs superstate [] d = EndIs superstate d
  WalkIs superstate (g ∷ gs) d = GoalIs superstate g × WalkIs g.id gs d

  abbrev pub HasFirst : List Item → List Goal → Type 0
  HasFirst items [] = ⊥
  HasFirst items (g ∷ gs) = g.items ≡ items

  root_of_row : (n : ℕ) → IsIn n (map (λ (row : Preference). row.firing) a.holding.rows) → IsIn n (roots_of a)
  root_of_row n i =
      in_right n (map (λ l. l.number) a.holding.live) _ (in_left n (map (λ (row : Preference). row.firing) a.holding.rows) (flat_map makers_of_goal goals) i)

  root_of_goal : (g : Goal) (s : Selection) → IsIn g goals → g.selected ≡ Some s → IsIn s.maker (roots_of a)
  root_of_goal g s i q =
      in_right s.maker (map (λ l. l.number) a.holding.live) _ (in_right s.maker (map (λ (row : Preference). row.firing) a.holding.rows) (flat_map makers_of_goal goals)
      (in_flat_mapped makers_of_goal g s.maker goals i (maker_is g s q)))
    where
      maker_is : (g : Goal) (s : Selection) → g.selected ≡ Some s → IsIn s.maker (makers_of_goal g)
      maker_is g s q = subst (λ o. IsIn s.maker (elim o [ Some selection ↦ selection.maker ∷ [] | None ↦ [] ])) (sym q) (inl refl)

  no_selection : (superstate : Sym) (g : Goal) → ItemsAreNamed ever superstate g.items → is_goal goals g.id ≡ true → GoalIs superstate (without_selection g)
  no_selection superstate g named goal = record { items = named; goal = goal; selected = λ s q. absurd (cc); root = λ s q. absurd (cc) }

  a_selection : (superstate : Sym) (g : Goal) (left : List Scored) → ItemsAreNamed ever superstate g.items → is_goal goals g.id ≡ true → ((s : Scored) → IsIn s left → HasRow (slot_of a.holding.rows g.id operator_word) s.value)
      → (n : ℕ) → GoalIs superstate (with_selection a.holding.elements a.holding.rows g (value_at left n))
  a_selection superstate g left named goal k n = go (value_at left n) refl
    where
      go : (o : Option Sym) → value_at left n ≡ o → GoalIs superstate (with_selection a.holding.elements a.holding.rows g o)
      go None q = no_selection superstate g named goal
      go (Some operator) q = record {
        items = named;
        goal = goal;
        selected = λ s z.
            let e : mine ≡ s = cc in
            subst (λ (x : Selection). IsIn (marked_element g.id x.operator x.tag) ever × IsMadeIn (firings_of_agent a) x.maker (marked_element g.id x.operator x.tag)) e (h.founded.elements.present _ c.there, c.made);
        root = λ s z. let e : mine ≡ s = cc in subst (λ (x : Selection). IsIn x.maker (roots_of a)) e (root_of_row mine.maker c.root);
      }
        where
          mine : Selection
          mine = record { operator = operator; tag = tag_at g.id operator; maker = maker_of a.holding.rows (marked_element g.id operator (tag_at g.id operator)) }

          c : IsCandidate g.id operator
          c = let found = value_in left n operator q in is_candidate g.id operator goal (subst (HasRow (slot_of a.holding.rows g.id operator_word)) found.2 (k found.0 found.1))

  abbrev Walks : Sym → List Item → Walked → Type 0
  Walks superstate items w = HasFirst items w.goals × WalkIs superstate w.goals w.decided

  -- one goal, with these items
  one_goal : (superstate : Sym) (g : Goal) (deeper : List Goal) → GoalIs superstate g → WalkIs g.id (walked (view_of a) None deeper).goals (walked (view_of a) None deeper).decided
      → ((items : List Item) → ItemsAreNamed ever g.id items → WalkIs g.id (walked (view_of a) (Some items) deeper).goals (walked (view_of a) (Some items) deeper).decided)
      → (v : Verdict) → VerdictHas (slot_of a.holding.rows g.id operator_word) v
      → Walks superstate g.items (elim v [
        | are_left left ↦ elim (is_among_left left g.selected) [
          | true ↦ elim (length deeper) [
            | zero ↦ record { goals = g ∷ []; decided = meets impasse.OperatorNoChange [] }
            | suc n ↦ below_goal g (walked (view_of a) None deeper)
          ]
          | false ↦ let operator = drawn_from a.settings.mode a.queues.random left in
              record { goals = with_selection a.holding.elements a.holding.rows g operator ∷ []; decided = selects_operator operator (uses_word a.settings.mode left) }
        ]
        | is_impasse why scored ↦ let items = items_for a.holding.elements g.id scored in
            elim (has_impasse why deeper) [
              | true ↦ below_goal (without_selection g) (walked (view_of a) (Some items) deeper)
              | false ↦ record { goals = without_selection g ∷ []; decided = meets why items }
            ]
      ])
  one_goal superstate g deeper good later renewed (are_left left) k = left_case (is_among_left left g.selected)
    where
      size_case : (n : ℕ) → Walks superstate g.items (elim n [ zero ↦ record { goals = g ∷ []; decided = meets impasse.OperatorNoChange [] } | suc n ↦ below_goal g (walked (view_of a) None deeper) ])
      size_case zero = (refl, (good, λ item i. absurd i))
      size_case (suc n) = (refl, (good, later))

      first : (n : ℕ) → HasFirst g.items (with_selection a.holding.elements a.holding.rows g (value_at left n) ∷ [])
      first n = by (value_at left n)
        where
          by : (o : Option Sym) → HasFirst g.items (with_selection a.holding.elements a.holding.rows g o ∷ [])
          by None = refl
          by (Some s) = refl

      left_case : (b : Bool) → Walks superstate g.items (elim b [
        | true ↦ elim (length deeper) [
          | zero ↦ record { goals = g ∷ []; decided = meets impasse.OperatorNoChange [] }
          | suc n ↦ below_goal g (walked (view_of a) None deeper)
        ]
        | false ↦ let operator = drawn_from a.settings.mode a.queues.random left in
            record { goals = with_selection a.holding.elements a.holding.rows g operator ∷ []; decided = selects_operator operator (uses_word a.settings.mode left) }
      ])
      left_case true = size_case (length deeper)
      left_case false = (first _, (a_selection superstate g left good.items good.goal k _, tt))
  one_goal superstate g deeper good later renewed (is_impasse why scored) k = go (has_impasse why deeper)
    where
      named : ItemsAreNamed ever g.id (items_for a.holding.elements g.id scored)
      named = items_named g.id scored good.goal k

      go : (b : Bool) → Walks superstate g.items (elim b [
        | true ↦ below_goal (without_selection g) (walked (view_of a) (Some (items_for a.holding.elements g.id scored)) deeper)
        | false ↦ record { goals = without_selection g ∷ []; decided = meets why (items_for a.holding.elements g.id scored) }
      ])
      go true = (refl, (no_selection superstate g good.items good.goal, renewed (items_for a.holding.elements g.id scored) named))
      go false = (refl, (no_selection superstate g good.items good.goal, named))

  goal_good : (superstate : Sym) (g : Goal) (items : List Item) → IsIn g goals → ItemsAreNamed ever superstate items → GoalIs superstate (record g { items = items })
  goal_good superstate g items i named = record {
    items = named;
    goal = is_goal_in goals g i;
    selected = λ s q. (h.founded.elements.selected g s i q, h.founded.selections g s i q);
    root = λ s q. root_of_goal g s i q;
  }

  abbrev Within : List Goal → Type 0
  Within gs = (g : Goal) → IsIn g gs → IsIn g goals

  mutual
    walk_plain : (superstate : Sym) (gs : List Goal) → Within gs → BelowAreNamed ever superstate gs → WalkIs superstate (walked (view_of a) None gs).goals (walked (view_of a) None gs).decided
    walk_plain superstate [] w n = λ item i. absurd i
    walk_plain superstate (g ∷ deeper) w n =
        (one_goal superstate g deeper (goal_good superstate g g.items (w g (inl refl)) n.0) (walk_plain g.id deeper (λ x i. w x (inr i)) n.1)
        (λ items named. walk_renewed g.id items deeper named (λ x i. w x (inr i)) n.1) (verdict_at (view_of a) g.id) (verdict_rows g.id)).1

    walk_renewed : (superstate : Sym) (items : List Item) (gs : List Goal) → ItemsAreNamed ever superstate items → Within gs → BelowAreNamed ever superstate gs
        → WalkIs superstate (walked (view_of a) (Some items) gs).goals (walked (view_of a) (Some items) gs).decided
    walk_renewed superstate items [] named w n = λ item i. absurd i
    walk_renewed superstate items (g ∷ deeper) named w n =
        (one_goal superstate (record g { items = items }) deeper (goal_good superstate g items (w g (inl refl)) named) (walk_plain g.id deeper (λ x i. w x (inr i)) n.1)
        (λ more k. walk_renewed g.id more deeper k (λ x i. w x (inr i)) n.1) (verdict_at (view_of a) g.id) (verdict_rows g.id)).1

  -- the walk from the top
  abbrev end : Walked
  end = walked (view_of a) None goals

  top_walk : (gs : List Goal) → Within gs → GoalsAreNamed ever gs → (superstate : Sym) × Walks superstate [] (walked (view_of a) None gs)
  top_walk [] w n = absurd n
  top_walk (top ∷ deeper) w n =
      let named : ItemsAreNamed ever top.id top.items = subst (ItemsAreNamed ever top.id) (sym n.0) (λ item i. absurd i) in
      let all = one_goal top.id top deeper (goal_good top.id top top.items (w top (inl refl)) named) (walk_plain top.id deeper (λ x i. w x (inr i)) n.1)
      (λ more k. walk_renewed top.id more deeper k (λ x i. w x (inr i)) n.1) (verdict_at (view_of a) top.id) (verdict_rows top.id) in
      (top.id, (subst (λ l. HasFirst l (walked (view_of a) None (top ∷ deeper)).goals) n.0 all.0, all.1))

  pub whole_walk : (superstate : Sym) × Walks superstate [] end
  whole_walk = top_walk goals (λ g i. i) h.founded.elements.items
