-- What is told of a wave is known, with other supports and with an entry more.
use Rattle.std.proofs.Common.{refl, subst, ℕ, Bool, true, false, ◌==◌, cond, inl, inr, List, [], ◌∷◌, ◌++◌, map, flat_map}
use Rattle.soar_sym.specs.Words.{IsKnown, Texts}
use Rattle.soar_sym.specs.declared.symbol.Sym.{Sym}
use Rattle.soar_rule.specs.Symbols.{AreKnown, symbols_of}
use Rattle.defs_match.specs.Rules.{RuleOf}
use Rattle.defs_soar.specs.declared.goal.Goal.{Goal}
use Rattle.defs_soar.specs.declared.preference.Wish.{Wish}
use Rattle.defs_soar.specs.Dependencies.{symbols_of_wish}
use Rattle.defs_soar.specs.Events.{Event, drops, makes_wish, WishSupport}
use Rattle.defs_soar.specs.Laws.{IsIn}
use Rattle.defs_soar.specs.LearnedFirings.{with_support_by, with_supports_by}
use Rattle.defs_soar.specs.WaveAtHand.{Entry, fired, noted, supported_wish, SupportedWish}
use Rattle.defs_soar.specs.Waves.{entry_events, text_events}
use Rattle.chain_texts.proofs.KnownLemmas.{wish_known}
use Rattle.learning_laws.specs.Lawful.{Grown}
use Rattle.learning_laws.proofs.Lists.{in_left, in_right}
use Rattle.learning_laws.proofs.NamingLaws.{known_later}
use Rattle.soar_settle.specs.Known.{AreRulesKnown}
use Rattle.trace_laws.specs.Events.{AreEventsKnown, IsWishKnown}

-- ---- symbols

pub known_all : (words : Texts) (symbols : List Sym) → ((s : Sym) → IsIn s symbols → IsKnown words s) → AreKnown words symbols
known_all words [] h = tt
known_all words (s ∷ symbols) h = (h s (inl refl), known_all words symbols (λ t i. h t (inr i)))

pub known_each : (words : Texts) (symbols : List Sym) → AreKnown words symbols → (s : Sym) → IsIn s symbols → IsKnown words s
known_each words [] h s i = absurd i
known_each words (t ∷ symbols) h s (inl q) = subst (IsKnown words) q h.0
known_each words (t ∷ symbols) h s (inr i) = known_each words symbols h.1 s i

pub all_known_later : (words later : Texts) (symbols : List Sym) → Grown words later → AreKnown words symbols → AreKnown later symbols
all_known_later words later [] g h = tt
all_known_later words later (s ∷ symbols) g h = (known_later words later s g h.0, all_known_later words later symbols g h.1)

-- ---- rules

pub rules_later : (words later : Texts) (rules : List RuleOf) → Grown words later → AreRulesKnown words rules → AreRulesKnown later rules
rules_later words later [] g h = tt
rules_later words later (rule ∷ rules) g h = (all_known_later words later (symbols_of rule.production) g h.0, rules_later words later rules g h.1)

pub rule_more : (words : Texts) (rules : List RuleOf) (rule : RuleOf) → AreRulesKnown words rules → AreKnown words (symbols_of rule.production) → AreRulesKnown words (rules ++ rule ∷ [])
rule_more words [] rule h k = (k, tt)
rule_more words (r ∷ rules) rule h k = (h.0, rule_more words rules rule h.1 k)

-- ---- events

module _ (words : Texts) where
  pub events_both : (first second : List Event) → AreEventsKnown words first → AreEventsKnown words second → AreEventsKnown words (first ++ second)
  events_both [] second h k = k
  events_both (e ∷ first) second h k = (h.0, events_both first second h.1 k)

  events_front : (first second : List Event) → AreEventsKnown words (first ++ second) → AreEventsKnown words first
  events_front [] second h = tt
  events_front (e ∷ first) second h = (h.0, events_front first second h.1)

  events_back : (first second : List Event) → AreEventsKnown words (first ++ second) → AreEventsKnown words second
  events_back [] second h = h
  events_back (e ∷ first) second h = events_back first second h.1

  abbrev pub wish_events : List SupportedWish → List Event
  wish_events wishes = map (λ y. makes_wish y.wish y.wish_support) wishes

  -- another support of a wish is told with the same symbols
  refated_wishes : (p : Wish → Bool) (wish_support : WishSupport) (wishes : List SupportedWish) → AreEventsKnown words (wish_events wishes) → AreEventsKnown words (wish_events (map (with_support_by p wish_support) wishes))
  refated_wishes p wish_support [] h = tt
  refated_wishes p wish_support (y ∷ wishes) h = (go (p y.wish), refated_wishes p wish_support wishes h.1)
    where
      go : (b : Bool) → IsWishKnown words (cond b (record y { wish_support = wish_support }) y).wish
      go true = h.0
      go false = h.0

  pub refated_entries : (number : ℕ) (p : Wish → Bool) (wish_support : WishSupport) (entries : List Entry) → AreEventsKnown words (flat_map entry_events entries)
      → AreEventsKnown words (flat_map entry_events (map (with_supports_by number p wish_support) entries))
  refated_entries number p wish_support [] h = tt
  refated_entries number p wish_support (noted l ∷ entries) h = (h.0, refated_entries number p wish_support entries h.1)
  refated_entries number p wish_support (fired x ∷ entries) h =
      go (x.firing.number == number) (events_front (entry_events (fired x)) (flat_map entry_events entries) h)
      (refated_entries number p wish_support entries (events_back (entry_events (fired x)) (flat_map entry_events entries) h))
    where
      ends : List Event
      ends = map drops x.dropped ++ text_events x.text

      go : (b : Bool) → AreEventsKnown words (entry_events (fired x)) → AreEventsKnown words (flat_map entry_events (map (with_supports_by number p wish_support) entries))
          → AreEventsKnown words (flat_map entry_events (cond b (fired (record x { wishes = map (with_support_by p wish_support) x.wishes })) (fired x) ∷ map (with_supports_by number p wish_support) entries))
      go false here later = events_both (entry_events (fired x)) (flat_map entry_events (map (with_supports_by number p wish_support) entries)) here later
      go true here later =
          events_both (entry_events (fired (record x { wishes = map (with_support_by p wish_support) x.wishes }))) (flat_map entry_events (map (with_supports_by number p wish_support) entries)) (
            here.0,
            events_both (wish_events (map (with_support_by p wish_support) x.wishes)) ends (refated_wishes p wish_support x.wishes (events_front (wish_events x.wishes) ends here.1)) (events_back (wish_events x.wishes) ends here.1),
          ) later

  pub entry_more : (entries : List Entry) (e : Entry) → AreEventsKnown words (flat_map entry_events entries) → AreEventsKnown words (entry_events e) → AreEventsKnown words (flat_map entry_events (entries ++ e ∷ []))
  entry_more [] e h k = events_both (entry_events e) [] k tt
  entry_more (x ∷ entries) e h k =
      events_both (entry_events x) (flat_map entry_events (entries ++ e ∷ [])) (events_front (entry_events x) (flat_map entry_events entries) h)
      (entry_more entries e (events_back (entry_events x) (flat_map entry_events entries) h) k)

  -- wishes of known symbols, as they are held
  pub made_known : (goals : List Goal) (kind : Bool) (wishes : List Wish) → ((s : Sym) → IsIn s (flat_map symbols_of_wish wishes) → IsKnown words s) → AreEventsKnown words (wish_events (map (supported_wish goals kind) wishes))
  made_known goals kind [] h = tt
  made_known goals kind (w ∷ wishes) h = (
    wish_known words w (known_all words (symbols_of_wish w) (λ s i. h s (in_left s (symbols_of_wish w) (flat_map symbols_of_wish wishes) i))),
    made_known goals kind wishes (λ s i. h s (in_right s (symbols_of_wish w) (flat_map symbols_of_wish wishes) i)),
  )
