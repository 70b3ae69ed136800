-- What a wave takes away and adds, as the code does it.
use Rattle.std.proofs.Common.{◌≡◌, ◌∙◌, ℕ, List, ◌++◌, map, Result, Err, sym, ap, subst}
use Rattle.defs_match.specs.Rules.{rule_seen}
use Rattle.defs_soar.specs.declared.preference.Preference.{Preference}
use Rattle.defs_soar.specs.Preferences.{without_firings}
use Rattle.defs_soar.specs.Trimming.{numbers_of}
use Rattle.defs_soar.specs.Waves.{is_spent, rows_added, without_spent}
use Rattle.live_firings.specs.Living.{Firings, live_seen}
use Rattle.live_firings.specs.declared.live.Live.{Live}
use Rattle.row_laws.specs.Kept.{WaveKeepsRange}
use Rattle.soar_prefs.specs.Memory.{PreferenceMemory}
use Rattle.soar_settle.specs.Renewal.{Renews, RenewsRows}
use Rattle.soar_settle.specs.declared.stop.Stop.{Stop}
use Rattle.wave_parts.specs.Leaving.{HasLeft, IsMadeFit, LeavesHere}
use Rattle.wave_parts.specs.Living.{still_live}
use Rattle.wave_parts.specs.Programs.{numbers_where, program_of}
use Rattle.wave_parts.specs.Seen.{IsSound}
use Rattle.wave_parts.specs.declared.leaving.WaveLeft.{WaveLeft}
use Rattle.wave_parts.specs.declared.parts.Parts.{Parts as PartsKept}
use Rattle.wave_parts.proofs.CarryingLemmas.{renewed_sound}

-- rules went, and nothing else changed
pub record IsDropped (old dropped : PartsKept) : Type 0 where
  pub same : dropped ≡ record old { rules = dropped.rules; chains = dropped.chains }

renews_here : (old dropped : PartsKept) (prefs : PreferenceMemory) (gone : List ℕ) (retracted : List Live) (rows : List Preference) (r : Result (List Preference) Stop) → IsDropped old dropped
    → gone ≡ numbers_of (map live_seen retracted) → Renews dropped.prefs prefs gone rows r → Renews old.prefs prefs (numbers_of (map live_seen retracted)) rows r
renews_here old dropped prefs gone retracted rows r drops is h =
    subst (λ (a : PartsKept). Renews a.prefs prefs (numbers_of (map live_seen retracted)) rows r) drops.same (subst (λ numbers. Renews dropped.prefs prefs numbers rows r) is h)

pub leaves_not : (old dropped : PartsKept) (prefs : PreferenceMemory) (gone : List ℕ) (retracted live : List Live) (rows : List Preference) (r : Result WaveLeft Stop) (why : Stop) → r ≡ Err why
    → IsDropped old dropped → gone ≡ numbers_of (map live_seen retracted) → Renews dropped.prefs prefs gone rows (Err why)
    → LeavesHere old (record dropped { prefs = prefs }) retracted rows live r
leaves_not old dropped prefs gone retracted live rows r why is drops gone_is h =
    subst (LeavesHere old (record dropped { prefs = prefs }) retracted rows live) (sym is) (renews_here old dropped prefs gone retracted rows (Err why) drops gone_is h)

fit_dropped : (old dropped : PartsKept) (rows : List Preference) (live : List Live) → IsDropped old dropped → IsMadeFit old rows (map live_seen live) → IsMadeFit dropped rows (map live_seen live)
fit_dropped old dropped rows live drops fit =
    subst (λ (a : PartsKept). IsMadeFit a rows (map live_seen live)) (sym drops.same) (record {
      rows_known = fit.rows_known;
      rows_in_range = fit.rows_in_range;
      rows_of_firings = fit.rows_of_firings;
      live_known = fit.live_known;
      live_given = fit.live_given;
    })

pub leaves_so : WaveKeepsRange → (old dropped : PartsKept) (prefs : PreferenceMemory) (now : Firings) (gone : List ℕ) (retracted live : List Live) (rows : List Preference) (gains : WaveLeft)
    → IsSound dropped → IsMadeFit old rows (map live_seen live) → IsDropped old dropped → gone ≡ numbers_of (map live_seen retracted)
    → program_of dropped ≡ without_spent (map live_seen retracted) (program_of old)
    → RenewsRows dropped.prefs prefs gone rows → map live_seen now.list ≡ still_live gone (map live_seen dropped.live.list) ++ map live_seen live
    → gains.added ≡ rows_added (without_firings dropped.prefs.rows gone) rows → gains.spent ≡ numbers_where (is_spent (map live_seen retracted)) (map rule_seen old.rules)
    → HasLeft old (record dropped { prefs = prefs; live = now }) retracted rows live gains
leaves_so keeps old dropped prefs now gone retracted live rows gains sound fit drops gone_is program renews lives added spent =
    let prefs_same : dropped.prefs ≡ old.prefs = ap (λ (a : PartsKept). a.prefs) drops.same in
    let live_same : dropped.live ≡ old.live = ap (λ (a : PartsKept). a.live) drops.same in
    record {
      program_is = program;
      renews = subst (λ (p : PreferenceMemory). RenewsRows p prefs (numbers_of (map live_seen retracted)) rows) prefs_same (subst (λ numbers. RenewsRows dropped.prefs prefs numbers rows) gone_is renews);
      lives = lives ∙ (λ k. still_live (gone_is k) (map live_seen (live_same k).list) ++ map live_seen live);
      added_is = added ∙ (λ k. rows_added (without_firings (prefs_same k).rows (gone_is k)) rows);
      spent_is = spent;
      sound = renewed_sound dropped prefs now gone rows (map live_seen live) keeps sound renews lives (fit_dropped old dropped rows live drops fit);
    }
