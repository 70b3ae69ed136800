use Rattle.std.proofs.Common.{◌≡◌, ◌∙◌, ◌∷◌, [], true, false, Some, None, is_some, ap, sym}
use Rattle.std.specs.Option.{option_map}
use Rattle.std.proofs.lemmas.Option.{same_Some}
use Rattle.defs_soar.specs.Preferences.{without_firings}
use Rattle.live_firings.specs.declared.live.Live.{Live}
use Rattle.live_firings.proofs.store.Store.take_with_rows.Goals as goal

pub returns-in-Some-clause-prefs : goal.returns-in-Some-clause-prefs
returns-in-Some-clause-prefs c l was =
    let old = c.args.prefs.now in
    let same : c.in-Some.number ≡ l.number = same_Some c.in-Some.number l.number (c.in-Some.ensures.number ∙ sym (ap (option_map (λ (x : Live). x.number)) was)) in
    c.retract.ensures ∙ ap (λ n. record old { rows = without_firings old.rows (n ∷ []) }) same

pub returns-in_default-clause-prefs : goal.returns-in_default-clause-prefs
returns-in_default-clause-prefs c l was =
    let bad : true ≡ false = ap is_some (ap (option_map (λ (x : Live). x.number)) was ∙ sym c.in_default.ensures.number) in
    absurd (cc)
