-- A substate below the last goal, on which nothing depends yet.
use Rattle.std.proofs.Common.{◌≡◌, ◌∙◌, ℕ, ◌+◌, ◌<◌, ◌≤◌, ◌==◌, ◌&&◌, Bool, true, false, List, [], ◌∷◌, ◌++◌, drop, length, length-append, map, Option, Some, None, ◌⊎◌, inl, inr, refl, sym, ap, subst, arith}
use Rattle.std.proofs.lemmas.List.{map-append}
use Rattle.soar_sym.specs.Equality.{symbol_eq}
use Rattle.soar_sym.specs.Letters.{last_of, with_last}
use Rattle.soar_sym.specs.Words.{IsKnown}
use Rattle.soar_sym.specs.declared.symbol.Sym.{Sym}
use Rattle.soar_sym.specs.declared.symbol.Sym.TheVariants.{Ident, Int, Word}
use Rattle.defs_soar.specs.declared.goal.Goal.{Goal}
use Rattle.defs_soar.specs.declared.goal.Impasse.{Impasse}
use Rattle.defs_soar.specs.declared.goal.Item.{Item}
use Rattle.defs_soar.specs.Decision.{new_goal}
use Rattle.defs_soar.specs.Dependencies.{is_goal_of}
use Rattle.defs_soar.specs.Agents.{Agent}
use Rattle.defs_soar.specs.History.{RecordedFiring}
use Rattle.defs_soar.specs.Laws.{IsIn}
use Rattle.defs_soar.specs.Limits.{first_passed, identifiers_to}
use Rattle.defs_soar.specs.Standing.{dependencies_from}
use Rattle.agent_laws.specs.Dependence.{NewGoalsDependOnNothing, firings_in}
use Rattle.agent_laws.proofs.PartLaws.{fewer_roots_need_less}
use Rattle.agent_laws.proofs.RootLaws.{each_root, maker_selected, root_of_goal, root_of_live, root_of_row}
use Rattle.dependency_tables.specs.Tables.{table_of, tables_of}
use Rattle.wave_parts.specs.LiveFiringsLiving.{live_seen}
use Rattle.learning_laws.specs.LawfulAgents.{IsNumbered}
use Rattle.soar_fire.specs.Growth.{LettersKeep}
use Rattle.wave_parts.specs.Doubted.{AreDoubted}
use Rattle.wave_parts.proofs.LostLemmas.{doubted_pushed}
use Rattle.soar_goals.specs.Known.{AreItemsKnown}
use Rattle.soar_record.specs.Recorded.{recorded}
use Rattle.wave_parts.specs.Remembers.{PastGoalsAreNumbered, Remembers, roots_in}
use Rattle.wave_parts.specs.Seen.{IsGoalKnown, IsToSettle, agent_of}
use Rattle.wave_parts.specs.Stands.{Stands}
use Rattle.wave_parts.specs.declared.parts.Parts.{Parts as PartsKept}
use Rattle.wave_parts.proofs.GrownLemmas.{numbered_later}
use Rattle.wave_parts.proofs.StandsLemmas.{of_each_state, stands_for}
use Rattle.decision_parts.specs.Deciding.{with_substate}
use Rattle.decision_parts.specs.Pushing.{HasPushed}
use Rattle.decision_parts.proofs.LetterLemmas.{last_given, numbers_keep}
use Rattle.decision_parts.proofs.WalkedLemmas.{items_in}

-- ---- it is new

other_number : (n number last : ℕ) → n ≤ last → last < number → (n == number) ≡ false
other_number n number last few less = grind arith

not_its_goal : (letters : List ℕ) (s : Sym) (number : ℕ) → IsNumbered letters s → last_of letters 83 < number → symbol_eq s (Ident 83 number) ≡ false
not_its_goal letters (Ident l n) number given less = by (l == 83) refl
  where
    by : (b : Bool) → (l == 83) ≡ b → (b && (n == number)) ≡ false
    by false e = refl
    by true e =
        let same : l ≡ 83 = grind arith in
        other_number n number (last_of letters 83) (subst (λ m. n ≤ last_of letters m) same given) less
not_its_goal letters (Word n) number given less = refl
not_its_goal letters (Int z) number given less = refl

none_of_it : (letters : List ℕ) (history : List RecordedFiring) (number : ℕ) → PastGoalsAreNumbered letters history → last_of letters 83 < number
    → (p : RecordedFiring) → IsIn p history → is_goal_of p.goal (Ident 83 number) ≡ false
none_of_it letters history number given less p is = by p.goal refl
  where
    by : (o : Option Sym) → p.goal ≡ o → is_goal_of o (Ident 83 number) ≡ false
    by None e = refl
    by (Some s) e = not_its_goal letters s number (given p s is e) less

-- ---- the parts

abbrev pub with_pushed : PartsKept → Goal → List ℕ → List (List ℕ) → PartsKept
with_pushed a goal letters depends = record a { goals = a.goals ++ goal ∷ []; letters = letters; depends = depends }

depends_pushed : NewGoalsDependOnNothing → (history : List RecordedFiring) (goals : List Goal) (goal : Goal) → 1 ≤ length goals → ((p : RecordedFiring) → IsIn p history → is_goal_of p.goal goal.id ≡ false)
    → tables_of (dependencies_from history 2 (drop 1 goals)) ++ [] ∷ [] ≡ tables_of (dependencies_from history 2 (drop 1 (goals ++ goal ∷ [])))
depends_pushed law history [] goal some none = absurd (omega (arith, some))
depends_pushed law history (top ∷ below) goal some none = sym (map-append table_of (dependencies_from history 2 below) ([] ∷ [])) ∙ ap tables_of (sym (law history 2 below goal none))

in_pushed : (g goal : Goal) (goals : List Goal) → IsIn g (goals ++ goal ∷ []) → IsIn g goals ⊎ (goal ≡ g)
in_pushed g goal [] (inl e) = inr e
in_pushed g goal [] (inr none) = absurd none
in_pushed g goal (first ∷ goals) (inl e) = inl (inl e)
in_pushed g goal (first ∷ goals) (inr is) = elim (in_pushed g goal goals is) [ inl here ↦ inl (inr here) | inr e ↦ inr e ]

-- nothing is selected in it yet
pushed_roots : (a : PartsKept) (goal : Goal) (letters : List ℕ) (depends : List (List ℕ)) → goal.selected ≡ None → (n : ℕ) → IsIn n (roots_in (with_pushed a goal letters depends)) → IsIn n (roots_in a)
pushed_roots a goal letters depends none =
    let live = map live_seen a.live.list in
    each_root (λ n. IsIn n (roots_in a)) live a.prefs.rows (a.goals ++ goal ∷ []) (λ l is. root_of_live live a.prefs.rows a.goals l is) (λ row is. root_of_row live a.prefs.rows a.goals row is)
    (λ g is n named. elim (in_pushed g goal a.goals is) [
      | inl old ↦ root_of_goal live a.prefs.rows a.goals g old n named
      | inr e ↦ let made = maker_selected g n named in
          absurd (let clash : None ≡ Some made.0 = sym none ∙ ap (λ (x : Goal). x.selected) e ∙ made.1 in cc)
    ])

pub pushed_remembers : NewGoalsDependOnNothing → (a : PartsKept) (history : List RecordedFiring) (goal : Goal) (letters : List ℕ) (depends : List (List ℕ)) → IsToSettle a → LettersKeep a.letters letters
    → goal.selected ≡ None → goal.id ≡ Ident 83 (last_of a.letters 83 + 1) → depends ≡ a.depends ++ [] ∷ [] → Remembers a history → Remembers (with_pushed a goal letters depends) history
pushed_remembers law a history goal letters depends sound keep none_selected id_is depends_is r =
    let none : (p : RecordedFiring) → IsIn p history → is_goal_of p.goal goal.id ≡ false =
    λ p is. ap (is_goal_of p.goal) id_is ∙ none_of_it a.letters history (last_of a.letters 83 + 1) r.goals_numbered (omega arith) p is in
    record {
      is_record =
          fewer_roots_need_less (recorded a.past) (firings_in history) (roots_in a) (roots_in (with_pushed a goal letters depends)) (pushed_roots a goal letters depends none_selected) r.is_record;
      makers_kept = r.makers_kept;
      numbers_given = r.numbers_given;
      makers_earlier = r.makers_earlier;
      depends_are = depends_is ∙ ap (λ tags. tags ++ [] ∷ []) r.depends_are ∙ depends_pushed law history a.goals goal sound.goals_some none;
      goals_numbered = λ p s is of_goal. numbered_later a.letters letters s keep (r.goals_numbered p s is of_goal);
    }

pub pushed_sound : (a : PartsKept) (goal : Goal) (letters : List ℕ) (depends : List (List ℕ)) → IsToSettle a → length a.goals < 100 → LettersKeep a.letters letters → IsGoalKnown a.table letters goal → goal.selected ≡ None
    → depends ≡ a.depends ++ [] ∷ [] → IsToSettle (with_pushed a goal letters depends)
pushed_sound a goal letters depends sound room keep known none depends_is =
    let count = length-append a.goals (goal ∷ []) in
    record {
      goals_some = omega (arith, count, sound.goals_some);
      goals_few = omega (arith, count, room);
      goals_known = λ g is. elim (in_pushed g goal a.goals is) [
        | inl old ↦ let k = sound.goals_known g old in
            record { id_known = k.id_known; id_numbered = numbered_later a.letters letters g.id keep k.id_numbered; items_known = k.items_known; selection_known = k.selection_known }
        | inr e ↦ subst (IsGoalKnown a.table letters) e known
      ];
      depends_fit = omega (arith, ap length depends_is, length-append a.depends ([] ∷ []), count, sound.depends_fit);
      doubted = subst (λ (tables : List (List ℕ)). AreDoubted tables a.memory.elements a.kept.triples a.doubted) (sym depends_is)
          (doubted_pushed a.depends a.memory.elements a.kept.triples a.doubted sound.doubted);
      element_limit = sound.element_limit;
      row_limit = sound.row_limit;
      few_rows = sound.few_rows;
      rows_in_range = sound.rows_in_range;
      rows_of_firings = sound.rows_of_firings;
      makers_of_firings = λ g s is selected. elim (in_pushed g goal a.goals is) [
        | inl old ↦ sound.makers_of_firings g s old selected
        | inr e ↦ absurd (let clash : None ≡ Some s = sym none ∙ ap (λ (x : Goal). x.selected) e ∙ selected in cc)
      ];
      recorded_up_to = sound.recorded_up_to;
      makers_earlier = sound.makers_earlier;
      first_words = sound.first_words;
      top_numbered = omega (arith, sound.top_numbered, keep 83);
      numbered = sound.numbered;
      numbers_given = sound.numbers_given;
      rules_known = sound.rules_known;
      elements_known = sound.elements_known;
      rows_known = sound.rows_known;
      inputs_known = sound.inputs_known;
      queue_known = sound.queue_known;
      output_known = sound.output_known;
      live_known = sound.live_known;
      live_given = sound.live_given;
      kept_up = sound.kept_up;
      kept_ids = refl;
      past_named = sound.past_named;
      chains_known = sound.chains_known;
      chains_kept = sound.chains_kept;
    }

-- ---- the answer

-- the new goal's parts
abbrev pub pushed_parts : PartsKept → List Goal → List ℕ → List (List ℕ) → PartsKept
pushed_parts a goals letters depends = record a { goals = goals; letters = letters; depends = depends }

-- what a push changes
pub record IsPush (a : PartsKept) (why : Impasse) (items : List Item) (id : Sym) (goals : List Goal) (letters : List ℕ) (depends : List (List ℕ)) : Type 0 where
  pub id_is : id ≡ Ident 83 (last_of a.letters 83 + 1)
  pub goals_are : goals ≡ a.goals ++ new_goal id why items ∷ []
  pub letters_are : letters ≡ with_last a.letters 83 (last_of a.letters 83 + 1)
  pub depends_are : depends ≡ a.depends ++ [] ∷ []

known_goal : (a : PartsKept) (why : Impasse) (items : List Item) (id : Sym) (letters : List ℕ) → IsToSettle a → id ≡ Ident 83 (last_of a.letters 83 + 1)
    → letters ≡ with_last a.letters 83 (last_of a.letters 83 + 1) → AreItemsKnown a.table items → IsGoalKnown a.table letters (new_goal id why items)
known_goal a why items id letters sound id_is letters_are known =
    let last : last_of letters 83 ≡ last_of a.letters 83 + 1 = last_given a.letters letters 83 (last_of a.letters 83 + 1) sound.top_numbered letters_are in
    let numbered : IsNumbered letters (Ident 83 (last_of a.letters 83 + 1)) = omega (arith, last) in
    record {
      id_known = subst (IsKnown a.table) (sym id_is) (omega arith, omega arith);
      id_numbered = subst (IsNumbered letters) (sym id_is) numbered;
      items_known = items_in a.table items known;
      selection_known = tt;
    }

pub push_is_sound : (a : PartsKept) (why : Impasse) (items : List Item) (id : Sym) (goals : List Goal) (letters : List ℕ) (depends : List (List ℕ)) → IsToSettle a → length a.goals < 100 → AreItemsKnown a.table items
    → IsPush a why items id goals letters depends → IsToSettle (pushed_parts a goals letters depends)
push_is_sound a why items id goals letters depends sound room known p =
    subst (λ gs. IsToSettle (pushed_parts a gs letters depends)) (sym p.goals_are)
    (pushed_sound a (new_goal id why items) letters depends sound room (numbers_keep a.letters letters 83 p.letters_are) (known_goal a why items id letters sound p.id_is p.letters_are known) refl p.depends_are)

pushed_at : (a : PartsKept) (history : List RecordedFiring) (why : Impasse) (items : List Item) (id : Sym) (letters : List ℕ) (depends : List (List ℕ)) → id ≡ Ident 83 (last_of a.letters 83 + 1)
    → letters ≡ with_last a.letters 83 (last_of a.letters 83 + 1) → agent_of (with_pushed a (new_goal id why items) letters depends) history ≡ with_substate (agent_of a history) why items
pushed_at a history why items id letters depends id_is letters_are = λ k. agent_of (with_pushed a (new_goal (id_is k) why items) (letters_are k) depends) history

pub has_pushed : NewGoalsDependOnNothing → (a : PartsKept) (why : Impasse) (items : List Item) (id : Sym) (goals : List Goal) (letters : List ℕ) (depends : List (List ℕ)) → IsToSettle a
    → first_passed (identifiers_to (last_of a.letters 83 + 1) ∷ []) ≡ None → IsPush a why items id goals letters depends → (s : Agent) → Stands a s → HasPushed s why items (pushed_parts a goals letters depends) id
has_pushed law a why items id goals letters depends sound within p =
    let goal = new_goal id why items in
    subst (λ gs. (s : Agent) → Stands a s → HasPushed s why items (pushed_parts a gs letters depends) id) (sym p.goals_are)
    (of_each_state (λ (s : Agent). HasPushed s why items (with_pushed a goal letters depends) id) a (λ history remembers. record {
      goal_is = p.id_is;
      stands = stands_for (with_pushed a goal letters depends) history (with_substate (agent_of a history) why items)
          (pushed_remembers law a history goal letters depends sound (numbers_keep a.letters letters 83 p.letters_are) refl p.id_is p.depends_are remembers)
          (pushed_at a history why items id letters depends p.id_is p.letters_are);
      within = within;
    }))
