-- What the firings of a wave leave as it was.
use Rattle.std.proofs.Common.{◌≡◌, suc, ◌≤◌, ◌∙◌, List, [], ◌∷◌, Option, Some, None, refl, sym}
use Rattle.defs_soar.specs.declared.limit.Which.{Which}
use Rattle.defs_soar.specs.declared.limit.Which.TheVariants as which
use Rattle.defs_soar.specs.Limits.{counts_to, first_passed}
use Rattle.defs_soar.specs.Pending.{Firable}
use Rattle.defs_soar.specs.WaveAtHand.{BeforeWave, Wave}
use Rattle.defs_soar.specs.WaveFirings.{made_in, with_firing, with_firings}
use Rattle.wave_firings.proofs.FiringAgreement.{stays_stopped}
use Rattle.wave_parts.proofs.LimitLemmas.{within_here, within_behind, within_limit}

-- ---- what stays

pub program_stays : (m : BeforeWave) (w : Wave) (firables : List Firable) → (with_firings m w firables).program ≡ w.program
unfolding with_firings
program_stays m w [] = refl
program_stays m w (f ∷ firables) = program_stays m (with_firing m w f) firables

pub learned_stays : (m : BeforeWave) (w : Wave) (firables : List Firable) → (with_firings m w firables).learned ≡ w.learned
unfolding with_firings
learned_stays m w [] = refl
learned_stays m w (f ∷ firables) = learned_stays m (with_firing m w f) firables

pub tag_stays : (m : BeforeWave) (w : Wave) (firables : List Firable) → (with_firings m w firables).names.last_tag ≡ w.names.last_tag
unfolding with_firings
tag_stays m w [] = refl
tag_stays m w (f ∷ firables) = tag_stays m (with_firing m w f) firables

-- ---- the last number

within_before : (m : BeforeWave) (w : Wave) (firables : List Firable) → first_passed (with_firings m w firables).totals ≡ None → first_passed w.totals ≡ None
within_before m w firables h = by (first_passed w.totals) refl
  where
    by : (o : Option Which) → first_passed w.totals ≡ o → o ≡ None
    by None e = refl
    by (Some limit) e = absurd (let clash : Some limit ≡ None = sym (stays_stopped m w firables limit e) ∙ h in cc)

pub last_within : (m : BeforeWave) (w : Wave) (firables : List Firable) → first_passed (with_firings m w firables).totals ≡ None → w.last_firing ≤ 18446744073709551615
    → (with_firings m w firables).last_firing ≤ 18446744073709551615
unfolding with_firings
last_within m w [] h few = few
last_within m w (f ∷ firables) h few =
    last_within m (with_firing m w f) firables h
    (within_limit (suc w.last_firing) which.Counts (within_here (counts_to (suc w.last_firing)) (made_in w m f).naming.totals (within_behind w.totals (counts_to (suc w.last_firing) ∷ (made_in w m f).naming.totals) (within_before m (with_firing m w f) firables h))))
