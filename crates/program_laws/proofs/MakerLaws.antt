-- What a firing of a wave used was made before the wave.
use Rattle.std.proofs.Common.{refl, ◌∙◌, subst, ℕ, suc, ◌≤◌, inl, inr, List}
use Rattle.soar_wm.specs.declared.element.Element.{Element}
use Rattle.defs_soar.specs.declared.firing.How.{How}
use Rattle.defs_soar.specs.declared.firing.How.TheVariants as how
use Rattle.defs_soar.specs.Explanation.{maker_named}
use Rattle.defs_soar.specs.History.{FiringOf}
use Rattle.defs_soar.specs.Laws.{IsIn}
use Rattle.defs_soar.specs.WaveFirings.{before_wave}
use Rattle.learning_laws.specs.LawfulAgents.{firings_of_agent}
use Rattle.learning_laws.specs.Record.{UseIsLawful}
use Rattle.learning_laws.proofs.FoundedLaws.{lawful_agents_are_settled}
use Rattle.learning_laws.proofs.Lists.{in_flat_map}
use Rattle.learning_laws.proofs.UseLaws.{uses_are_lawful}
use Rattle.program_laws.specs.Taught.{MakersAreBefore}

-- a maker that is named is a firing of the history
module _ (firings : List FiringOf) (last : ℕ) (f : FiringOf) (few : (g : FiringOf) → IsIn g firings → g.number ≤ last) where
  maker_before : (e : Element) (k : How) (n : ℕ) → UseIsLawful firings f (record { element = e; how = k }) → IsIn n (maker_named (record { element = e; how = k })) → n ≤ last
  maker_before e how.Upper n l i = absurd i
  maker_before e how.Architecture n l i = absurd i
  maker_before e (how.Item tag) n l i = absurd i
  maker_before e (how.Selected tag) n l i = absurd i
  maker_before e (how.Made number) n l (inl q) = subst (λ y. y ≤ last) (l.number_is ∙ q) (few l.firing l.is_there)
  maker_before e (how.Made number) n l (inr j) = absurd j

pub makers_are_before : MakersAreBefore
makers_are_before a w x n h k i j =
    let u = in_flat_map maker_named n x.firing.used j in
    let by = k.explains x i in
    let f : FiringOf = record x.firing { number = suc a.counts.firings } in
    maker_before (firings_of_agent a) a.counts.firings f h.founded.history.last_is u.0.element u.0.how n
    (uses_are_lawful (before_wave a) (suc a.counts.firings) x.firing.depth by.0 f (lawful_agents_are_settled a h) by.1 refl by.2 u.0 u.1) u.2
