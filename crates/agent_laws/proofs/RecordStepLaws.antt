-- Steps without firings leave the record of an agent as it is.
use Rattle.std.proofs.Common.{refl, sym, subst, ℕ, nat_lt, Bool, true, false, cond, inl, inr, List, [], ◌∷◌, ◌++◌, ◌+◌, length, None, Option}
use Rattle.soar_sym.specs.declared.symbol.Sym.{Sym}
use Rattle.soar_sym.specs.declared.symbol.Sym.TheVariants.{Ident}
use Rattle.soar_sym.specs.Letters.{last_of, with_last}
use Rattle.defs_soar.specs.declared.goal.Goal.{Goal}
use Rattle.defs_soar.specs.declared.goal.Impasse.{Impasse}
use Rattle.defs_soar.specs.declared.goal.Item.{Item}
use Rattle.defs_soar.specs.Agents.{Agent}
use Rattle.defs_soar.specs.Cycle.{after_input, after_output, held_with, with_changes}
use Rattle.defs_soar.specs.Decision.{after_impasse, after_limit, after_selection, after_substate, after_walk, cut_below, decided_by, new_goal, view_of, with_goal, without_words}
use Rattle.defs_soar.specs.History.{FiringOf}
use Rattle.defs_soar.specs.Laws.{IsIn}
use Rattle.defs_soar.specs.Standing.{firings_of_history, IsRecordOf, makers_of_goal, roots_of}
use Rattle.defs_soar.specs.Walk.{Decided, meets, selects_operator, walked}
use Rattle.learning_laws.specs.LawfulAgents.{IsLawfulAgent}
use Rattle.learning_laws.proofs.Lists.{filter_within, in_append}
use Rattle.learning_laws.proofs.WalkLaws.{WalkIs, whole_walk}
use Rattle.agent_laws.specs.RecordSteps.{DecisionKeepsRecord, FirstHasNoRecord, InputKeepsRecord, InputsKeepRecord, OutputKeepsRecord, RecordsMayShrink, StartingAnewHasNoRecord}
use Rattle.agent_laws.proofs.PartLaws.{parts_of_parts}
use Rattle.agent_laws.proofs.RootLaws.{each_root, maker_selected, root_of_live, root_of_row, roots_held, settled_record}

pub first_has_no_record : FirstHasNoRecord
first_has_no_record watch = record { from_history = tt; reaches_all = refl }

pub starting_anew_has_no_record : StartingAnewHasNoRecord
starting_anew_has_no_record a = record { from_history = tt; reaches_all = refl }

pub input_keeps_record : InputKeepsRecord
unfolding after_input
input_keeps_record kept a h = settled_record kept (firings_of_history a) (roots_of a) _ (held_with a (with_changes a.holding.inputs a.queues.input)) refl (λ n i. i) h.from_history h.reaches_all

pub output_keeps_record : OutputKeepsRecord
unfolding after_output
output_keeps_record kept a h = record { from_history = h.from_history; reaches_all = h.reaches_all }

pub inputs_keep_record : InputsKeepRecord
inputs_keep_record kept a inputs h = settled_record kept (firings_of_history a) (roots_of a) a (held_with a inputs) refl (λ n i. i) h.from_history h.reaches_all

pub records_may_shrink : RecordsMayShrink
records_may_shrink less kept a apart h less_apart from all =
    let p = parts_of_parts less kept (firings_of_history a) (roots_of a) (record { apart = apart; from_history = h.from_history; reaches_all = h.reaches_all })
    (record { apart = less_apart; from_history = from; reaches_all = all }) in
    record { from_history = p.from_history; reaches_all = p.reaches_all }

-- ---- a decision

module _ (kept : List FiringOf) (a : Agent) (h : IsLawfulAgent a) (k : IsRecordOf kept a) where
  abbrev AreRooted : List Goal → Type 0
  AreRooted goals = (g : Goal) → IsIn g goals → (n : ℕ) → IsIn n (makers_of_goal g) → IsIn n (roots_of a)

  -- the makers of the selections that the walk leaves
  walk_rooted : (superstate : Sym) (goals : List Goal) (d : Decided) → WalkIs a h superstate goals d → AreRooted goals
  walk_rooted superstate [] d w g i n j = absurd i
  walk_rooted superstate (x ∷ goals) d w g (inl e) n j =
      let made = maker_selected x n (subst (λ (y : Goal). IsIn n (makers_of_goal y)) (sym e) j) in subst (λ m. IsIn m (roots_of a)) made.2 (w.0.root made.0 made.1)
  walk_rooted superstate (x ∷ goals) d w g (inr i) n j = walk_rooted x.id goals d w.1 g i n j

  and_one : (goals : List Goal) (id : Sym) (why : Impasse) (items : List Item) → AreRooted goals → AreRooted (goals ++ new_goal id why items ∷ [])
  and_one goals id why items r g i n j = elim (in_append g goals (new_goal id why items ∷ []) i) [
    | inl y ↦ r g y n j
    | inr y ↦ elim y [ inl e ↦ absurd (subst (λ (x : Goal). IsIn n (makers_of_goal x)) (sym e) j) | inr z ↦ absurd z ]
  ]

  -- what is held below some goals, with others in their place
  cut_rooted : (goals others : List Goal) → AreRooted others → (n : ℕ) → IsIn n (roots_held (cut_below a goals).live (cut_below a goals).rows others) → IsIn n (roots_of a)
  cut_rooted goals others r =
      each_root (λ n. IsIn n (roots_of a)) (cut_below a goals).live (cut_below a goals).rows others
      (λ l i. root_of_live a.holding.live a.holding.rows a.holding.goals l (filter_within _ a.holding.live l i).0)
      (λ row i. root_of_row a.holding.live a.holding.rows a.holding.goals row (filter_within _ a.holding.rows row i).0) r

  selection_keeps : (goals : List Goal) (operator : Option Sym) (takes : Bool) → AreRooted goals → IsRecordOf kept (after_selection a goals operator takes).agent
  selection_keeps goals operator takes r =
      settled_record kept (firings_of_history a) (roots_of a) (record a { queues = without_words takes a.queues }) (cut_below a goals) refl (cut_rooted goals goals r) k.from_history k.reaches_all

  impasse_keeps : (goals : List Goal) (why : Impasse) (items : List Item) → AreRooted goals → IsRecordOf kept (after_impasse a goals why items).agent
  impasse_keeps goals why items r = go (nat_lt (length goals) 100)
    where
      go : (b : Bool) → IsRecordOf kept (cond b (after_substate a goals why items) (after_limit a goals)).agent
      go true =
          let number = last_of a.names.letters 83 + 1 in
          settled_record kept (firings_of_history a) (roots_of a) (record a { names = record a.names { letters = with_last a.names.letters 83 number } })
          (with_goal (cut_below a goals) (new_goal (Ident 83 number) why items)) refl
          (cut_rooted goals (goals ++ new_goal (Ident 83 number) why items ∷ []) (and_one goals (Ident 83 number) why items r)) k.from_history k.reaches_all
      go false = settled_record kept (firings_of_history a) (roots_of a) a (cut_below a goals) refl (cut_rooted goals goals r) k.from_history k.reaches_all

  walk_keeps : (goals : List Goal) (d : Decided) → AreRooted goals → IsRecordOf kept (after_walk a (record { goals = goals; decided = d })).agent
  walk_keeps goals (selects_operator operator takes) r = selection_keeps goals operator takes r
  walk_keeps goals (meets why items) r = impasse_keeps goals why items r

pub decision_keeps_record : DecisionKeepsRecord
unfolding decided_by
decision_keeps_record kept a h k =
    let w = whole_walk a h in
    let end = walked (view_of a) None a.holding.goals in walk_keeps kept a h k end.goals end.decided (walk_rooted kept a h k w.0 end.goals end.decided w.1.1)
