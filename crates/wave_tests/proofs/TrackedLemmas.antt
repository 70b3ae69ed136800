-- Where nothing was there before, all that is there is a change.
use Rattle.std.proofs.Common.{◌≡◌, ◌∙◌, sym, ap, subst, List, []}
use Rattle.soar_sym.specs.declared.symbol.Triple.{Triple}
use Rattle.defs_soar.specs.declared.preference.Preference.{Preference}
use Rattle.soar_prefs.specs.Memory.{PreferenceMemory, has_plain}
use Rattle.kept_triples.specs.Kept.{HoldsTriples, KeptOf, OwnIs}
use Rattle.settle_changes.specs.Rest.{IsAtRest, IsTracked, NothingIsAtRest}
use Rattle.settle_changes.proofs.PlainLemmas.{plainly_absent}

-- nothing is kept yet, and all inputs are named
pub all_tracked : NothingIsAtRest → (prefs : PreferenceMemory) (inputs changed : List Triple) (kept : KeptOf) → HoldsTriples [] [] [] kept → OwnIs [] kept → prefs.settled ≡ [] → changed ≡ inputs
    → IsTracked prefs inputs changed kept
all_tracked law prefs inputs changed kept holds own settled_is named = record {
  goals_then = [];
  inputs_then = [];
  rest = subst (λ (rows : List Preference). IsAtRest [] rows [] kept) (sym settled_is) (law kept holds own);
  covers = λ t h. plainly_absent inputs t (ap (λ (l : List Triple). has_plain l t) (sym named) ∙ h);
}
