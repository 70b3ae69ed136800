-- A rule joins with its firing.
use Rattle.std.proofs.Common.{◌≡◌, sym, ◌∙◌, ap, ap₂, ℕ, suc, nat_lt, Bool, List, [], ◌∷◌, ◌++◌, map}
use Rattle.soar_sym.specs.Words.{Texts}
use Rattle.soar_wm.specs.declared.element.Element.{Element}
use Rattle.defs_match.specs.Rules.{RuleOf, rule_seen}
use Rattle.defs_soar.specs.declared.goal.Goal.{Goal}
use Rattle.defs_soar.specs.declared.preference.Wish.{Wish}
use Rattle.defs_soar.specs.Events.{LearningEvent, by_learned}
use Rattle.defs_soar.specs.History.{FiringOf, chain_seen}
use Rattle.defs_soar.specs.WaveAtHand.{BeforeWave, Entry as EntryOf, fired}
use Rattle.explained_firings.specs.declared.explained.Explained.{Explained}
use Rattle.firing_records.specs.Recorded.{RecordedAs, Standing}
use Rattle.learned_firings.specs.Firings.{learned_as, told_as_learned}
use Rattle.learned_firings.specs.Flags.{with_flags}
use Rattle.wave_entries.specs.Entries.{entry_seen}
use Rattle.wave_learning.specs.Course.{ExplainedBy, NewRuleOf, event_of, joined_as, moment, next_if, with_rule}
use Rattle.wave_learning.specs.Hands.{program_seen}
use Rattle.wave_learning.specs.Seen.{IsJoining, course_of, explained_seen}
use Rattle.wave_learning.specs.declared.going.Going.{Going}
use Rattle.wave_learning.specs.declared.joining.Joining.{Joining}

-- what is there once its results went over
pub record IsTaken (e : Explained) (before : Going) (last : ℕ) (it : Joining) (after : Going) : Type 0 where
  pub program : program_seen after.hand.program ≡ with_rule (program_seen before.hand.program) (rule_seen it.rule) (chain_seen e.chain)
  pub last_is : after.hand.last ≡ last
  pub learned : after.hand.learned ≡ before.hand.learned
  pub entries : map entry_seen after.hand.entries ≡ map (with_flags e.number e.goes_over by_learned) (map entry_seen before.hand.entries) ++ entry_seen it.entry ∷ []
  pub next : after.next ≡ before.next ++ next_if it.is_higher last

module _ (m : BeforeWave) (words : Texts) (e : Explained) (r : NewRuleOf) (before after : Going) (number last : ℕ) (it : Joining) where
  joined_so : IsJoining m (explained_seen e) r words number last it → IsTaken e before last it after → joined_as m (explained_seen e) r number last (course_of words before) ≡ course_of words after
  joined_so j t =
      let program = sym (t.program ∙ ap (λ (rule : RuleOf). with_rule (program_seen before.hand.program) rule (chain_seen e.chain)) j.rule_is) in
      let entries =
      sym (t.entries ∙ ap (λ (x : EntryOf). map (with_flags e.number e.goes_over by_learned) (map entry_seen before.hand.entries) ++ x ∷ []) j.entry_is) in
      let next = sym (t.next ∙ ap (λ (higher : Bool). before.next ++ next_if higher last) j.higher_is) in
      let last_is = sym t.last_is in
      let learned = sym t.learned in
      λ i. record { words = words; program = program i; last = last_is i; learned = learned i; entries = entries i; next = next i }

  pub joins : number ≡ suc before.hand.program.last_rule → last ≡ suc before.hand.last → IsJoining m (explained_seen e) r words number last it → IsTaken e before last it after
      → joined_as m (explained_seen e) r (suc before.hand.program.last_rule) (suc before.hand.last) (course_of words before) ≡ course_of words after
  joins number_is last_is j t =
      ap₂ (λ (n k : ℕ). joined_as m (explained_seen e) r n k (course_of words before)) (sym number_is) (sym last_is) ∙ joined_so j t

-- ---- the rule under its number, with its firing

module _ (s : Standing) (past : List FiringOf) (on local_negations : Bool) (e : ExplainedBy) (r : NewRuleOf) (words : Texts) (number last : ℕ) where
  abbrev of_elements : List Element → List Wish → RecordedAs
  of_elements elements results = learned_as words s e.depth last (record { number = number; production = r.production }) elements r.binds results

  pub joining_is : (it : Joining) (x : RecordedAs) (lesson : LearningEvent) (elements : List Element) (results : List Wish) (goals : List Goal) → elements ≡ r.elements → results ≡ e.chain.results → goals ≡ s.goals
      → x ≡ of_elements elements results → lesson ≡ event_of r.why x.firing.name e.number x.firing.number x.firing.instance.tags → entry_seen it.entry ≡ fired (told_as_learned goals x lesson)
      → rule_seen it.rule ≡ record { number = number; production = r.production } → it.is_higher ≡ nat_lt x.firing.depth e.depth → IsJoining (moment s past on local_negations) e r words number last it
  joining_is it x lesson elements results goals elements_are results_are goals_are x_is lesson_is entry_is rule_is higher_is =
      let y = of_elements r.elements e.chain.results in
      let same : x ≡ y = x_is ∙ ap₂ (λ (es : List Element) (ws : List Wish). of_elements es ws) elements_are results_are in
      let told : lesson ≡ event_of r.why y.firing.name e.number y.firing.number y.firing.instance.tags =
      lesson_is ∙ ap (λ (z : RecordedAs). event_of r.why z.firing.name e.number z.firing.number z.firing.instance.tags) same in
      record {
        rule_is = rule_is;
        entry_is = entry_is ∙ ap₂ (λ (gs : List Goal) (z : RecordedAs). fired (told_as_learned gs z lesson)) goals_are same ∙ ap (λ (l : LearningEvent). fired (told_as_learned s.goals y l)) told;
        higher_is = higher_is ∙ ap (λ (z : RecordedAs). nat_lt z.firing.depth e.depth) same;
      }
