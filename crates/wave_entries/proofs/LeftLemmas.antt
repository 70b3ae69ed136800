-- What the entries of a wave leave is what each leaves, in turn.
use Rattle.std.proofs.Common.{◌≡◌, ℕ, List, [], ◌∷◌, ◌++◌, map, flat_map, refl, sym, ap, ◌∙◌, append-nil}
use Rattle.std.proofs.lemmas.List.{map-append}
use Rattle.std.proofs.lemmas.List.Folds.{flat_map-map}
use Rattle.std.proofs.lemmas.Grind.{flat_map-append}
use Rattle.defs_soar.specs.Events.{drops, makes_wish}
use Rattle.defs_soar.specs.WaveAtHand.{Fresh as FreshOf, all_fresh, fired, fresh_of}
use Rattle.defs_soar.specs.Waves.{entry_events, held_row, live_of, rows_of_fresh, text_events}
use Rattle.firing_records.specs.Recorded.{fresh_seen as fresh_recorded}
use Rattle.wave_entries.specs.Entries.{entry_seen, fresh_at_hand, heading_event, held_event, held_seen, told_events}
use Rattle.wave_entries.specs.Left.{events_left, live_left, recorded_left, row_held, rows_left}
use Rattle.wave_entries.specs.declared.entry.Entry.{Entry}
use Rattle.wave_entries.specs.declared.entry.Fresh.{Fresh}
use Rattle.wave_entries.specs.declared.entry.HeldWish.{HeldWish}
use Rattle.wave_entries.specs.declared.entry.Told.{Told}

-- ---- one firing

pub rows_held : (number : ℕ) (wishes : List HeldWish) → flat_map (held_row number) (map held_seen wishes) ≡ flat_map (row_held number) wishes
rows_held number wishes = flat_map-map (held_row number) held_seen wishes

told_held : (wishes : List HeldWish) → map (λ y. makes_wish y.wish y.wish_support) (map held_seen wishes) ≡ map held_event wishes
told_held [] = refl
told_held (h ∷ wishes) = ap (λ more. held_event h ∷ more) (told_held wishes)

pub told_next : (told : List Told) (x : Fresh) → flat_map told_events (told ++ x.told ∷ []) ≡ flat_map told_events told ++ entry_events (fired (fresh_at_hand x))
told_next told x =
    flat_map-append told_events told (x.told ∷ [])
    ∙ ap (λ more. flat_map told_events told ++ more)
    (append-nil (told_events x.told) ∙ ap (λ made. heading_event x.told.heading ∷ (made ++ (map drops x.told.dropped ++ text_events x.told.text))) (sym (told_held x.told.wishes)))

-- ---- all entries

each_fresh : {A : Type 0} (f : FreshOf → List A) (entries : List Entry) → flat_map f (all_fresh (map entry_seen entries)) ≡ flat_map (λ e. flat_map f (fresh_of (entry_seen e))) entries
each_fresh f [] = refl
each_fresh f (e ∷ entries) =
    flat_map-append f (fresh_of (entry_seen e)) (all_fresh (map entry_seen entries)) ∙ ap (λ more. flat_map f (fresh_of (entry_seen e)) ++ more) (each_fresh f entries)

one_fresh : {A : Type 0} (f : FreshOf → A) (entries : List Entry) → map f (all_fresh (map entry_seen entries)) ≡ flat_map (λ e. map f (fresh_of (entry_seen e))) entries
one_fresh f [] = refl
one_fresh f (e ∷ entries) =
    map-append f (fresh_of (entry_seen e)) (all_fresh (map entry_seen entries)) ∙ ap (λ more. map f (fresh_of (entry_seen e)) ++ more) (one_fresh f entries)

pub all_rows : (entries : List Entry) → flat_map rows_of_fresh (all_fresh (map entry_seen entries)) ≡ flat_map rows_left entries
all_rows entries = each_fresh rows_of_fresh entries

pub all_live : (entries : List Entry) → map live_of (all_fresh (map entry_seen entries)) ≡ flat_map live_left entries
all_live entries = one_fresh live_of entries

pub all_recorded : (entries : List Entry) → map fresh_recorded (all_fresh (map entry_seen entries)) ≡ flat_map recorded_left entries
all_recorded entries = one_fresh fresh_recorded entries

pub all_events : (entries : List Entry) → flat_map entry_events (map entry_seen entries) ≡ flat_map events_left entries
all_events entries = flat_map-map entry_events entry_seen entries
