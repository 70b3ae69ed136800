-- What the entries of a wave leave shows words of the table, also of a longer one.
use Rattle.std.proofs.Common.{◌≡◌, ◌≤◌, ℕ, Bool, true, false, List, [], ◌∷◌, ◌++◌, length, map, flat_map, Option, Some, None, refl, sym, ap, subst, ◌∙◌, append-nil}
use Rattle.std.proofs.lemmas.Grind.{flat_map-append}
use Rattle.std.specs.Prelude.{if◌then◌else◌}
use Rattle.soar_sym.specs.Words.{Texts, IsKnown}
use Rattle.soar_sym.specs.declared.symbol.Sym.{Sym}
use Rattle.soar_rule.specs.Symbols.{AreKnown}
use Rattle.defs_soar.specs.declared.firing.Dropped.{Dropped}
use Rattle.defs_soar.specs.declared.goal.Goal.{Goal}
use Rattle.defs_soar.specs.declared.preference.PrefKind.{PrefKind}
use Rattle.defs_soar.specs.declared.preference.PrefKind.TheVariants as kind
use Rattle.defs_soar.specs.declared.preference.Wish.{Wish}
use Rattle.defs_soar.specs.Dependencies.{symbols_of_referent}
use Rattle.defs_soar.specs.Events.{Event, by_instance, by_operator, drops, makes_wish}
use Rattle.defs_soar.specs.Pending.{Firable, is_of_operator_kind}
use Rattle.defs_soar.specs.Support.{has_operator_support}
use Rattle.defs_soar.specs.WaveAtHand.{Entry, Fresh, SupportedWish, all_fresh, fired, supported_wish}
use Rattle.defs_soar.specs.Waves.{entry_events, held_row, rows_of_fresh, text_events}
use Rattle.soar_fire.specs.Fires.{AreWishesKnown, referents_of}
use Rattle.soar_fire.specs.Growth.{OnlyGrows}
use Rattle.soar_fire.proofs.GrowthLemmas.{no_shorter}
use Rattle.soar_settle.specs.Known.{AreRowsKnown}
use Rattle.trace_laws.specs.Events.{AreEventsKnown, IsOptionKnown, IsSignKnown, IsWishKnown}
use Rattle.trace_laws.proofs.EventLemmas.{events_stay_known}
use Rattle.wave_firings.specs.FiringOutcome.{KnowsEntries}
use Rattle.wave_firings.specs.Held.{Against, fresh_made}
use Rattle.wave_firings.specs.Listed.{events_in, rows_in, wishes_in}
use Rattle.wave_firings.proofs.FiringAgreement.{fresh_push}
use Rattle.wave_firings.proofs.FiringKnown.{are_known_grown, are_rows_append, are_rows_grown, known_grown}

-- ---- what one entry more leaves

rows_push : (entries : List Entry) (x : Fresh) → rows_in (entries ++ fired x ∷ []) ≡ rows_in entries ++ rows_of_fresh x
rows_push entries x =
    ap (flat_map rows_of_fresh) (fresh_push entries x) ∙ flat_map-append rows_of_fresh (all_fresh entries) (x ∷ [])
    ∙ ap (λ more. rows_in entries ++ more) (append-nil (rows_of_fresh x))

wishes_push : (entries : List Entry) (x : Fresh) → wishes_in (entries ++ fired x ∷ []) ≡ wishes_in entries ++ x.firing.made
wishes_push entries x =
    ap (flat_map (λ (y : Fresh). y.firing.made)) (fresh_push entries x) ∙ flat_map-append (λ (y : Fresh). y.firing.made) (all_fresh entries) (x ∷ [])
    ∙ ap (λ more. wishes_in entries ++ more) (append-nil x.firing.made)

events_push : (entries : List Entry) (x : Fresh) → events_in (entries ++ fired x ∷ []) ≡ events_in entries ++ entry_events (fired x)
events_push entries x =
    flat_map-append entry_events entries (fired x ∷ []) ∙ ap (λ more. events_in entries ++ more) (append-nil (entry_events (fired x)))

-- ---- lists in turn

wishes_both : (words : Texts) (first second : List Wish) → AreWishesKnown words first → AreWishesKnown words second → AreWishesKnown words (first ++ second)
wishes_both words [] second h k = k
wishes_both words (w ∷ first) second h k = (h.0, wishes_both words first second h.1 k)

wishes_grown : (old new : Texts) (wishes : List Wish) → length old ≤ length new → AreWishesKnown old wishes → AreWishesKnown new wishes
wishes_grown old new [] grown h = tt
wishes_grown old new (w ∷ wishes) grown h =
    (are_known_grown old new (w.id ∷ w.attr ∷ w.value ∷ referents_of w.referent) grown h.0, wishes_grown old new wishes grown h.1)

events_both : (words : Texts) (first second : List Event) → AreEventsKnown words first → AreEventsKnown words second → AreEventsKnown words (first ++ second)
events_both words [] second h k = k
events_both words (e ∷ first) second h k = (h.0, events_both words first second h.1 k)

drops_known : (words : Texts) (dropped : List Dropped) → AreEventsKnown words (map drops dropped)
drops_known words [] = tt
drops_known words (d ∷ dropped) = (tt, drops_known words dropped)

text_known : (words : Texts) (text : List ℕ) → AreEventsKnown words (text_events text)
text_known words [] = tt
text_known words (b ∷ bytes) = (tt, tt)

-- ---- preferences as events

referent_known : (words : Texts) (r : Option Sym) → AreKnown words (referents_of r) → IsOptionKnown words r
referent_known words None h = tt
referent_known words (Some s) h = h.0

sign_known : (words : Texts) (k : PrefKind) (r : Option Sym) → IsOptionKnown words r → IsSignKnown words k r
sign_known words kind.Accept r h = tt
sign_known words kind.Require r h = tt
sign_known words kind.Reject r h = tt
sign_known words kind.Prohibit r h = tt
sign_known words kind.Better r h = h
sign_known words kind.Worse r h = h
sign_known words kind.Best r h = tt
sign_known words kind.Worst r h = tt
sign_known words kind.Indifferent r h = tt
sign_known words kind.Numeric r h = h
sign_known words kind.IndifferentTo r h = h

wish_events_known : (words : Texts) (goals : List Goal) (operators : Bool) (wishes : List Wish) → AreWishesKnown words wishes
    → AreEventsKnown words (map (λ (y : SupportedWish). makes_wish y.wish y.wish_support) (map (supported_wish goals operators) wishes))
wish_events_known words goals operators [] h = tt
wish_events_known words goals operators (w ∷ wishes) h =
    let k : IsWishKnown words w = record {
      id = h.0.0;
      attr = h.0.1.0;
      value = h.0.1.1.0;
      sign = sign_known words w.kind w.referent (referent_known words w.referent h.0.1.1.1);
    } in
    (k, wish_events_known words goals operators wishes h.1)

-- ---- preferences as rows

referents_are : (o : Option Sym) → referents_of o ≡ symbols_of_referent o
referents_are None = refl
referents_are (Some s) = refl

row_known : (words : Texts) (number : ℕ) (w : Wish) (lasts : Bool) → AreKnown words (w.id ∷ w.attr ∷ w.value ∷ referents_of w.referent)
    → AreRowsKnown words (held_row number (record { wish = w; wish_support = if lasts then by_operator else by_instance }))
row_known words number w true h = (subst (λ more. AreKnown words (w.id ∷ w.attr ∷ w.value ∷ more)) (referents_are w.referent) h, tt)
row_known words number w false h = (subst (λ more. AreKnown words (w.id ∷ w.attr ∷ w.value ∷ more)) (referents_are w.referent) h, tt)

rows_known : (words : Texts) (goals : List Goal) (number : ℕ) (operators : Bool) (wishes : List Wish) → AreWishesKnown words wishes
    → AreRowsKnown words (flat_map (held_row number) (map (supported_wish goals operators) wishes))
rows_known words goals number operators [] h = tt
rows_known words goals number operators (w ∷ wishes) h =
    are_rows_append words (held_row number (supported_wish goals operators w)) (flat_map (held_row number) (map (supported_wish goals operators) wishes))
    (row_known words number w (has_operator_support goals operators w) h.0) (rows_known words goals number operators wishes h.1)

-- ---- one firing more

events_known : (words : Texts) (a : Against) (f : Firable) (number : ℕ) (goals : List Sym) (wishes : List Wish) (dropped : List Dropped) (text : List ℕ)
    → IsKnown words f.rule.production.name → AreWishesKnown words wishes → AreEventsKnown words (entry_events (fired (fresh_made a f number goals wishes dropped text)))
events_known words a f number goals wishes dropped text h k =
    let x = fresh_made a f number goals wishes dropped text in (
      h,
      events_both words (map (λ (y : SupportedWish). makes_wish y.wish y.wish_support) x.wishes) (map drops dropped ++ text_events text)
          (wish_events_known words a.reach.goals (is_of_operator_kind a.reach.goals f) wishes k)
          (events_both words (map drops dropped) (text_events text) (drops_known words dropped) (text_known words text)),
    )

pub entries_more : (old new : Texts) (entries after : List Entry) (a : Against) (f : Firable) (number : ℕ) (goals : List Sym) (wishes : List Wish) (dropped : List Dropped) (text : List ℕ)
    → KnowsEntries old entries → OnlyGrows old new → IsKnown old f.rule.production.name → AreWishesKnown new wishes
    → after ≡ entries ++ fired (fresh_made a f number goals wishes dropped text) ∷ [] → KnowsEntries new after
entries_more old new entries after a f number goals wishes dropped text h grown name k is =
    subst (KnowsEntries new) (sym is)
    (record {
      rows_known =
          subst (AreRowsKnown new) (sym (rows_push entries x))
          (are_rows_append new (rows_in entries) (rows_of_fresh x) (are_rows_grown old new (rows_in entries) longer h.rows_known)
          (rows_known new a.reach.goals number (is_of_operator_kind a.reach.goals f) wishes k));
      wishes_known =
          subst (AreWishesKnown new) (sym (wishes_push entries x))
          (wishes_both new (wishes_in entries) wishes (wishes_grown old new (wishes_in entries) longer h.wishes_known) k);
      events_known =
          subst (AreEventsKnown new) (sym (events_push entries x))
          (events_both new (events_in entries) (entry_events (fired x)) (events_stay_known old new (events_in entries) h.events_known grown.grown)
          (events_known new a f number goals wishes dropped text (known_grown old new f.rule.production.name longer name) k));
    })
  where
    x : Fresh
    x = fresh_made a f number goals wishes dropped text

    longer : length old ≤ length new
    longer = no_shorter old new grown
