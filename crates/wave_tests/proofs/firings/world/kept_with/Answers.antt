use Rattle.std.proofs.Common.{◌≡◌, ◌∙◌, ◌++◌, List, [], ap, sym, subst, option_map}
use Rattle.soar_sym.specs.declared.symbol.Triple.{Triple}
use Rattle.defs_soar.specs.declared.goal.Goal.{Goal}
use Rattle.defs_soar.specs.declared.preference.Preference.{Preference}
use Rattle.defs_soar.specs.Goals.{goal_ids}
use Rattle.defs_soar.specs.Levels.{level}
use Rattle.level_laws.specs.Labels.{as_told}
use Rattle.settling_laws.specs.Changes.{own_triples}
use Rattle.soar_prefs.specs.Memory.{PreferenceMemory}
use Rattle.kept_triples.specs.Kept.{HoldsTriples, IsCovered, KeptOf, OwnIs}
use Rattle.wave_tests.proofs.FiringsCoverLemmas.{covered, held_are, still_holds}
use Rattle.wave_tests.proofs.firings.world.kept_with.Goals as goal

pub reconsider-requires : goal.reconsider-requires
reconsider-requires c =
    record {
      own = subst (λ (goals : List Goal). OwnIs goals c.set_own.new.self) (sym c.as_slice-2.ensures) (record {
        own = ap (λ (k : KeptOf). k.own) c.set_own.ensures ∙ c.in_ok-own.ensures.triples ∙ ap own_triples c.as_slice.ensures;
        ids = ap (λ (k : KeptOf). k.ids) c.set_own.ensures ∙ c.in_ok-own.ensures.ids ∙ ap goal_ids c.as_slice.ensures;
      });
    }

pub returns-clause-own : goal.returns-clause-own
returns-clause-own c = subst (λ (goals : List Goal). OwnIs goals c.reconsider.new.self) c.as_slice-2.ensures c.in_ok-reconsider.ensures.own

pub returns-clause-tells : goal.returns-clause-tells
returns-clause-tells c s =
    let goals = c.args.goals.now in
    let others = c.args.others.now in
    let kept = c.reconsider.new.self in
    let names = c.as_slice-3.result.now in
    let rows_are : c.in_ok-prefs.prefs.rows ≡ [] = ap (λ (p : PreferenceMemory). p.rows) c.in_ok-prefs.ensures in
    let named : names ≡ own_triples goals ++ others =
    c.as_slice-3.ensures ∙ c.in_ok-extend_from_slice.ensures.ok
    ∙ ap (λ (l : List Triple). l ++ others) (c.in_ok-changed.ensures ∙ c.triples.ensures ∙ c.in_ok-own.ensures.triples ∙ ap own_triples c.as_slice.ensures) in
    let cover : IsCovered [] [] [] c.as_slice-2.result.now c.in_ok-prefs.prefs.rows c.in_ok-inputs.inputs names =
    subst (λ (gs : List Goal). IsCovered [] [] [] gs c.in_ok-prefs.prefs.rows c.in_ok-inputs.inputs names) (sym c.as_slice-2.ensures)
    (subst (λ (rows : List Preference). IsCovered [] [] [] goals rows c.in_ok-inputs.inputs names) (sym rows_are)
    (subst (λ (inputs : List Triple). IsCovered [] [] [] goals [] inputs names) (sym c.in_ok-inputs.ensures) (covered goals others names named))) in
    let holds : HoldsTriples goals [] others kept =
    subst (λ (inputs : List Triple). HoldsTriples goals [] inputs kept) c.in_ok-inputs.ensures
    (subst (λ (rows : List Preference). HoldsTriples goals rows c.in_ok-inputs.inputs kept) rows_are
    (subst (λ (gs : List Goal). HoldsTriples gs c.in_ok-prefs.prefs.rows c.in_ok-inputs.inputs kept) c.as_slice-2.ensures
    (c.in_ok-reconsider.ensures.holds [] [] [] (still_holds c.in_ok-kept.kept c.set_own.new.self _ _ c.in_ok-kept.ensures.holds c.set_own.ensures) cover))) in
    c.kept_levels_are_levels.ensures goals [] others kept holds s ∙ ap (λ (l : List Triple). option_map as_told (level goals l s)) (held_are goals others)
