-- The goals of past firings were given by the letters, so a new goal depends on nothing.
use Rattle.std.proofs.Common.{◌≡◌, refl, sym, ◌∙◌, ap, subst, ℕ, ◌+◌, ◌≤◌, nat_lt, Bool, true, false, cond, inl, inr, arith, List, [], ◌∷◌, length, Option, Some, None}
use Rattle.soar_sym.specs.Equality.{symbol_eq}
use Rattle.soar_sym.specs.Letters.{last_of, with_last}
use Rattle.soar_sym.specs.declared.symbol.Sym.{Sym}
use Rattle.soar_sym.specs.declared.symbol.Sym.TheVariants.{Ident, Word, Int}
use Rattle.defs_soar.specs.declared.goal.Goal.{Goal}
use Rattle.defs_soar.specs.Agents.{Agent, LiveFiring}
use Rattle.defs_soar.specs.Cycle.{after_input, after_output}
use Rattle.defs_soar.specs.Decision.{after_limit, after_substate, after_walk, decided_by, view_of}
use Rattle.defs_soar.specs.Dependencies.{is_goal_of}
use Rattle.defs_soar.specs.History.{RecordedFiring}
use Rattle.defs_soar.specs.Laws.{IsIn}
use Rattle.defs_soar.specs.Pending.{depth_of, Firable, is_of_operator_kind, pending}
use Rattle.defs_soar.specs.Resettling.{resettled}
use Rattle.defs_soar.specs.Walk.{Decided, meets, selects_operator, walked}
use Rattle.defs_soar.specs.WaveAtHand.{all_fresh, Wave}
use Rattle.defs_soar.specs.WaveFirings.{first_wave, firing_of_work, fresh_firing, made_in, before_wave, with_firing, with_firings}
use Rattle.defs_soar.specs.Waves.{after_work, wave_of, worked}
use Rattle.learning_laws.specs.LawfulAgents.{IsLawfulAgent, IsNumbered}
use Rattle.learning_laws.specs.LawfulWaves.{IsLawfulWave}
use Rattle.learning_laws.proofs.FiringsLaws.{fires_on, MayFire, more, pending_fires}
use Rattle.learning_laws.proofs.Lists.{in_append, in_map, symbol_same}
use Rattle.learning_laws.proofs.NewIdentifiers.{last_grows}
use Rattle.learning_laws.proofs.WorkLaws.{waves_begin}
use Rattle.agent_laws.specs.NewGoals.{AnewGoalsAreGiven, DecisionKeepsGoals, FirstGoalsAreGiven, InputKeepsGoals, InputsKeepGoals, IsOfGoals, NextGoalDependsOnNothing, OutputKeepsGoals, PastGoalsAreGiven, WavesKeepGoals}
use Rattle.agent_laws.proofs.FreshGoals.{and_fired, at_depth}
use Rattle.agent_laws.proofs.GoalDependence.{depends_on_nothing}

pub next_goal_depends_on_nothing : NextGoalDependsOnNothing
next_goal_depends_on_nothing a depth h = depends_on_nothing a.history next depth (λ p i. go p.goal (λ s q. h p s i q))
  where
    next : Sym
    next = Ident 83 (last_of a.names.letters 83 + 1)

    other : (s : Sym) (b : Bool) → symbol_eq s next ≡ b → IsNumbered a.names.letters s → b ≡ false
    other s true q k = let low = subst (IsNumbered a.names.letters) (symbol_same s next q) k in absurd (omega arith)
    other s false q k = refl

    go : (o : Option Sym) → ((s : Sym) → o ≡ Some s → IsNumbered a.names.letters s) → is_goal_of o next ≡ false
    go None k = refl
    go (Some s) k = other s (symbol_eq s next) refl (k s refl)

pub first_goals_are_given : FirstGoalsAreGiven
first_goals_are_given watch p s i q = absurd i

pub anew_goals_are_given : AnewGoalsAreGiven
anew_goals_are_given a p s i q = absurd i

pub input_keeps_goals : InputKeepsGoals
unfolding after_input resettled
input_keeps_goals a h = h

pub output_keeps_goals : OutputKeepsGoals
unfolding after_output
output_keeps_goals a h = h

pub inputs_keep_goals : InputsKeepGoals
unfolding resettled
inputs_keep_goals a inputs h = h

-- ---- letters that grow

numbered_more : (letters more : List ℕ) (s : Sym) → ((l : ℕ) → last_of letters l ≤ last_of more l) → IsNumbered letters s → IsNumbered more s
numbered_more letters more (Ident l n) h k = let low : n ≤ last_of letters l = k in let high : last_of letters l ≤ last_of more l = h l in omega arith
numbered_more letters more (Word n) h k = tt
numbered_more letters more (Int z) h k = tt

walk_keeps : (a : Agent) (goals : List Goal) (d : Decided) → IsLawfulAgent a → PastGoalsAreGiven a → PastGoalsAreGiven (after_walk a (record { goals = goals; decided = d })).agent
unfolding resettled
walk_keeps a goals (selects_operator operator takes) h k = k
walk_keeps a goals (meets why items) h k = go (nat_lt (length goals) 100)
  where
    go : (b : Bool) → PastGoalsAreGiven (cond b (after_substate a goals why items) (after_limit a goals)).agent
    go true p s i q =
        numbered_more a.names.letters (with_last a.names.letters 83 (last_of a.names.letters 83 + 1)) s
        (λ l. last_grows a.names.letters 83 l (last_of a.names.letters 83 + 1) h.founded.symbols.letters (omega arith) (omega arith)) (k p s i q)
    go false p s i q = k p s i q

pub decision_keeps_goals : DecisionKeepsGoals
unfolding decided_by
decision_keeps_goals a h k = let end = walked (view_of a) None a.holding.goals in walk_keeps a end.goals end.decided h k

-- ---- waves

abbrev Grows : Agent → Wave → Type 0
Grows a w = (l : ℕ) → last_of a.names.letters l ≤ last_of w.names.letters l

-- the firings of a wave are of goals that there are, and letters grow
fired_grow : (a : Agent) (w : Wave) (xs : List Firable) → IsLawfulAgent a → IsLawfulWave a w → w.program.rules ≡ a.program.rules → ((x : Firable) → IsIn x xs → MayFire a x) → Grows a w
    → IsOfGoals a.holding.goals w.names.letters w → Grows a (with_firings (before_wave a) w xs) × IsOfGoals a.holding.goals (with_firings (before_wave a) w xs).names.letters (with_firings (before_wave a) w xs)
unfolding with_firings
fired_grow a w [] h k same all grows is = (grows, is)
fired_grow a w (x ∷ xs) h k same all grows is =
    let one = all x (inl refl) in
    let there = subst (λ l. IsIn one.rule l) (sym same) one.there in
    let v = with_firing (before_wave a) w x in
    fired_grow a v xs h
    (subst (λ y. IsLawfulWave a (with_firing (before_wave a) w y)) one.is (fires_on a w one.rule one.instance h k there one.fires one.matches)) same (λ y j. all y (inr j))
    (subst (λ y. Grows a (with_firing (before_wave a) w y)) one.is (λ l. let low : last_of a.names.letters l ≤ last_of w.names.letters l = grows l in let high = (more a w one.rule one.instance h k there one.fires one.matches).letters l in omega arith))
    (record {
      letters_are = refl;
      goals_are =
          and_fired a.holding.goals w.entries (fresh_firing (before_wave a) (firing_of_work (before_wave a) w x (made_in w (before_wave a) x)) (is_of_operator_kind a.holding.goals x) (made_in w (before_wave a) x)) is.goals_are
          (λ s q. at_depth (depth_of a.holding.goals x) a.holding.goals s q);
    })

module _ (a : Agent) (gone : List LiveFiring) (w : Wave) (letters : List ℕ) (h : IsLawfulAgent a) (k : PastGoalsAreGiven a) (grows : (l : ℕ) → last_of a.names.letters l ≤ last_of letters l) (is : IsOfGoals a.holding.goals letters w) where
  given_after : PastGoalsAreGiven (after_work a gone w).agent
  unfolding resettled
  given_after p s i q =
      subst (λ l. IsNumbered l s) (sym is.letters_are)
      (elim (in_append p a.history _ i) [
        | inl j ↦ numbered_more a.names.letters letters s grows (k p s j q)
        | inr j ↦
            let x = in_map _ p (all_fresh w.entries) j in
            let g = is.goals_are x.0 s x.1 (ap (λ (y : RecordedFiring). y.goal) x.2 ∙ q) in
            subst (IsNumbered letters) g.2 (numbered_more a.names.letters letters g.0.id grows (h.founded.symbols.goals g.0 g.1).1.1)
      ])

pub waves_keep_goals : WavesKeepGoals
unfolding wave_of
waves_keep_goals end keeps a proposing h k =
    let fired = with_firings (before_wave a) (first_wave a) (pending proposing a).fired in
    let start = fired_grow a (first_wave a) (pending proposing a).fired h (waves_begin a h) refl (λ x i. pending_fires a proposing x i) (λ l. itself (last_of a.names.letters l))
    (record { letters_are = refl; goals_are = λ x s i q. absurd i }) in
    given_after a (pending proposing a).retracted (worked end a (pending proposing a)) fired.names.letters h k start.0 (keeps (before_wave a) fired.names.letters fired start.1)
  where
    itself : (n : ℕ) → n ≤ n
    itself n = omega arith
