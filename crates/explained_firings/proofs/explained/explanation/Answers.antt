use Rattle.std.proofs.Common.{◌≡◌, ◌∙◌, ap, refl, List, ◌∷◌, map}
use Rattle.defs_soar.specs.declared.preference.Preference.{Preference}
use Rattle.defs_soar.specs.Explanation.{chain_of}
use Rattle.defs_soar.specs.History.{firing_seen}
use Rattle.defs_soar.specs.Results.{goes_over, results_of}
use Rattle.firing_records.specs.Recorded.{reach_of, standing}
use Rattle.soar_record.specs.Recorded.{recorded as kept_in}
use Rattle.explained_firings.specs.Explaining.{with_firing}
use Rattle.explained_firings.proofs.LevelLemmas.{tells_reach}
use Rattle.explained_firings.proofs.explained.explanation.Goals as goal

pub returns : goal.returns
returns c =
    let words = c.args.table.now in
    let s = standing c.args.before.now in
    let past = kept_in c.args.past.now in
    let f = firing_seen c.args.firing.now in
    let told = tells_reach c.args.before.now.levels.now s c.requires.few c.args.before.now.tells in
    let rows : c.in_ok-rows.rows ≡ s.rows = c.in_ok-rows.ensures in
    let found : c.in_ok-found.found ≡ results_of words (reach_of s) s.rows f =
    c.in_ok-found.ensures (reach_of s) refl told ∙ ap (λ (rs : List Preference). results_of words (reach_of s) rs f) rows in
    let flags : c.in_ok-goes_over.goes_over ≡ map (goes_over (reach_of s) s.rows f) f.made =
    c.in_ok-goes_over.ensures (reach_of s) refl told ∙ ap (λ (rs : List Preference). map (goes_over (reach_of s) rs f) f.made) rows in
    record {
      number_is = refl;
      depth_is = refl;
      flags_are = flags;
      chain_is = c.in_ok-chain.ensures
          ∙ ap (λ (rs : List Preference). chain_of (with_firing past f) (f.number ∷ map (λ (row : Preference). row.firing) rs) (map (λ (row : Preference). row.wish) rs)) (c.as_slice.ensures ∙ found);
    }
