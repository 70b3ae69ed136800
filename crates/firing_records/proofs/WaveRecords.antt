-- A firing is recorded as the wave holds it.
use Rattle.std.proofs.Common.{◌≡◌, ℕ, suc, List, ◌++◌, sym, ap, ◌∙◌}
use Rattle.soar_sym.specs.declared.symbol.Sym.{Sym}
use Rattle.soar_rule.specs.Symbols.{constants_of}
use Rattle.soar_wm.specs.declared.element.Element.{Element}
use Rattle.defs_match.specs.Rules.{RuleOf}
use Rattle.defs_match.specs.declared.instance.Instance.{Instance}
use Rattle.defs_soar.specs.declared.preference.Preference.{Preference}
use Rattle.defs_soar.specs.declared.preference.Wish.{Wish}
use Rattle.defs_soar.specs.Firing.{MadeSoFar}
use Rattle.defs_soar.specs.History.{Reach}
use Rattle.defs_soar.specs.Pending.{Firable, depth_of, firable_of, is_of_operator_kind}
use Rattle.defs_soar.specs.Support.{goal_at_depth}
use Rattle.defs_soar.specs.Uses.{all_uses, elements_matched}
use Rattle.defs_soar.specs.WaveAtHand.{BeforeWave, Wave, goals_among}
use Rattle.defs_soar.specs.WaveFirings.{firing_of_work, fresh_firing}
use Rattle.firing_records.specs.Recorded.{RecordedAs, Standing, fresh_seen, reach_of, recorded_as}

-- a firing by its parts; its goals are those among its symbols
abbrev by_parts : RuleOf → Instance → Firable → ℕ → List Sym → List Wish → Reach → List Preference → List Element → RecordedAs
by_parts rule i f number goals wishes reach rows elements = record {
  firing = record {
    number = number;
    name = rule.production.name;
    rule = rule;
    depth = depth_of reach.goals f;
    instance = i;
    goals = goals;
    used = all_uses reach rows (depth_of reach.goals f) (elements_matched elements i.tags);
    made = wishes;
  };
  goal = goal_at_depth (depth_of reach.goals f) reach.goals;
  operator_kind = is_of_operator_kind reach.goals f;
}

-- what is recorded is the firing of the work, with the goal and the kind that the wave holds with it
pub wave_records : (m : BeforeWave) (w : Wave) (s : Standing) (rule : RuleOf) (i : Instance) (made : MadeSoFar) (number : ℕ) (goals : List Sym) (wishes : List Wish)
    → m.reach ≡ reach_of s → m.rows ≡ s.rows → m.elements ≡ s.elements → number ≡ suc w.last_firing
    → goals ≡ goals_among w.names.words s.goals (i.binds ++ constants_of rule.production) → made.wishes ≡ wishes
    → let f : Firable = firable_of s.elements rule i in
    recorded_as goals s rule i number wishes ≡ fresh_seen (fresh_firing m (firing_of_work m w f made) (is_of_operator_kind m.reach.goals f) made)
wave_records m w s rule i made number goals wishes reach_is rows_are elements_are number_is goals_are wishes_are =
    let f : Firable = firable_of s.elements rule i in
    let symbols : List Sym = i.binds ++ constants_of rule.production in
    let same_goals : goals ≡ goals_among w.names.words m.reach.goals symbols = goals_are ∙ ap (λ (r : Reach). goals_among w.names.words r.goals symbols) (sym reach_is) in
    ap (λ n. by_parts rule i f n goals wishes (reach_of s) s.rows s.elements) number_is
    ∙ ap (λ gs. by_parts rule i f (suc w.last_firing) gs wishes (reach_of s) s.rows s.elements) same_goals
    ∙ ap (λ ws. by_parts rule i f (suc w.last_firing) (goals_among w.names.words m.reach.goals symbols) ws (reach_of s) s.rows s.elements) (sym wishes_are)
    ∙ ap (λ r. by_parts rule i f (suc w.last_firing) (goals_among w.names.words m.reach.goals symbols) made.wishes r s.rows s.elements) (sym reach_is)
    ∙ ap (λ rows. by_parts rule i f (suc w.last_firing) (goals_among w.names.words m.reach.goals symbols) made.wishes m.reach rows s.elements) (sym rows_are)
    ∙ ap (by_parts rule i f (suc w.last_firing) (goals_among w.names.words m.reach.goals symbols) made.wishes m.reach m.rows) (sym elements_are)
