-- Lines of known events, part by part, with a later table.
use Rattle.std.proofs.Common.{◌≡◌, ℕ, List, [], ◌∷◌, ◌++◌, map, Option, Some, None, cond, codes, refl}
use Rattle.std.proofs.lemmas.List.{map-append}
use Rattle.std.specs.Fmt.{decimal}
use Rattle.soar_sym.specs.Words.{IsKnown, Texts}
use Rattle.soar_sym.specs.declared.symbol.Sym.{Sym}
use Rattle.soar_sym.specs.declared.symbol.Triple.{Triple}
use Rattle.soar_wm.specs.declared.element.Element.{Element}
use Rattle.soar_wm.specs.WorkingMemory.{triple_of}
use Rattle.defs_text.specs.Symbols.{instance_text, symbol_text, tags_text}
use Rattle.defs_soar.specs.declared.learning.Cause.{Cause}
use Rattle.defs_soar.specs.declared.learning.Cause.TheVariants as cause
use Rattle.defs_soar.specs.declared.preference.PrefKind.{PrefKind}
use Rattle.defs_soar.specs.declared.preference.PrefKind.TheVariants as kind
use Rattle.defs_soar.specs.declared.preference.Wish.{Wish}
use Rattle.defs_soar.specs.Events.{LearningEvent, learns, justifies, has_no_grounds, reuses, has_lost, is_blocked, Event, begins, removes, retracts, fires, makes_wish, drops, writes_text, learning, goes, comes, selects, substates, reaches_goal_limit, is_cut, shows_no_longer, shows, halts}
use Rattle.defs_soar.specs.Texts.{front_text, referent_text, sign_text, tagged_text, triple_text, wish_text}
use Rattle.defs_soar.specs.Trace.{cause_text, cycle_text, impasse_text, learned_text, learning_text, line, name_text, piece_of, pieces_of, support_text}
use Rattle.trace_laws.specs.Tables.{Later}
use Rattle.trace_laws.specs.Events.{AreEventsKnown, EventsKeep, EventsStayKnown, IsCauseKnown, IsEventKnown, IsLearningKnown, IsOptionKnown, IsSignKnown, IsTripleKnown, IsWishKnown, PiecesInTurn, PiecesKeep}
use Rattle.trace_laws.proofs.TableLemmas.{known_stays, symbols_keep}

module _ (words later : Texts) (grown : Later words later) where
  -- ---- what is known stays known

  stays : (s : Sym) → IsKnown words s → IsKnown later s
  stays s known = known_stays words later s known grown

  triple_stays : (t : Triple) → IsTripleKnown words t → IsTripleKnown later t
  triple_stays t known = (stays t.id known.0, stays t.attr known.1, stays t.value known.2)

  option_stays : (o : Option Sym) → IsOptionKnown words o → IsOptionKnown later o
  option_stays None known = tt
  option_stays (Some s) known = stays s known

  sign_stays : (k : PrefKind) (r : Option Sym) → IsSignKnown words k r → IsSignKnown later k r
  sign_stays kind.Accept r known = tt
  sign_stays kind.Require r known = tt
  sign_stays kind.Reject r known = tt
  sign_stays kind.Prohibit r known = tt
  sign_stays kind.Better r known = option_stays r known
  sign_stays kind.Worse r known = option_stays r known
  sign_stays kind.Best r known = tt
  sign_stays kind.Worst r known = tt
  sign_stays kind.Indifferent r known = tt
  sign_stays kind.Numeric r known = option_stays r known
  sign_stays kind.IndifferentTo r known = option_stays r known

  cause_stays : (why : Cause) → IsCauseKnown words why → IsCauseKnown later why
  cause_stays cause.NoGrounds known = tt
  cause_stays cause.Off known = tt
  cause_stays (cause.LocalNegation n) known = tt
  cause_stays (cause.Quiescence n) known = tt
  cause_stays (cause.Ungrounded s) known = stays s known
  cause_stays (cause.TooLarge n) known = tt
  cause_stays (cause.TooMany n) known = tt

  learning_stays : (e : LearningEvent) → IsLearningKnown words e → IsLearningKnown later e
  learning_stays (learns number name explained tags) known = stays name known
  learning_stays (justifies number name explained tags why) known = (stays name known.0, cause_stays why known.1)
  learning_stays (has_no_grounds explained) known = tt
  learning_stays (reuses name explained) known = stays name known
  learning_stays (has_lost explained tag) known = tt
  learning_stays (is_blocked explained n tag) known = tt

  wish_stays : (w : Wish) → IsWishKnown words w → IsWishKnown later w
  wish_stays w known = record {
    id = stays w.id known.id;
    attr = stays w.attr known.attr;
    value = stays w.value known.value;
    sign = sign_stays w.kind w.referent known.sign;
  }

  event_stays : (e : Event) → IsEventKnown words e → IsEventKnown later e
  event_stays (begins part) known = tt
  event_stays (removes goal) known = stays goal known
  event_stays (retracts number name i) known = stays name known
  event_stays (fires number name i) known = stays name known
  event_stays (makes_wish w wish_support) known = wish_stays w known
  event_stays (drops d) known = tt
  event_stays (writes_text text) known = tt
  event_stays (learning learning_event) known = learning_stays learning_event known
  event_stays (goes e) known = triple_stays (triple_of e) known
  event_stays (comes e) known = triple_stays (triple_of e) known
  event_stays (selects cycle_number below operator name) known = (stays operator known.0, option_stays name known.1)
  event_stays (substates cycle_number below goal why) known = stays goal known
  event_stays reaches_goal_limit known = tt
  event_stays (is_cut part) known = tt
  event_stays (shows_no_longer t) known = triple_stays t known
  event_stays (shows t) known = triple_stays t known
  event_stays halts known = tt

  all_stay : (events : List Event) → AreEventsKnown words events → AreEventsKnown later events
  all_stay [] known = tt
  all_stay (e ∷ events) known = (event_stays e known.0, all_stay events known.1)

  -- ---- what is known keeps its text

  symbol : (s : Sym) → IsKnown words s → symbol_text later s ≡ symbol_text words s
  symbol s known = symbols_keep words later s known grown

  front : (id attr value : Sym) → IsKnown words id → IsKnown words attr → IsKnown words value → front_text later id attr value ≡ front_text words id attr value
  front id attr value a b c = λ k. symbol id a k ++ (codes " ^" ++ (symbol attr b k ++ (32 ∷ symbol value c k)))

  triple : (t : Triple) → IsTripleKnown words t → triple_text later t ≡ triple_text words t
  triple t known =
      λ k. codes "(" ++ (front t.id t.attr t.value known.0 known.1 known.2 k ++ cond t.accept (codes " +)") (codes ")"))

  tagged : (e : Element) → IsTripleKnown words (triple_of e) → tagged_text later e ≡ tagged_text words e
  tagged e known = λ k. decimal e.tag ++ (codes ": " ++ triple (triple_of e) known k)

  referent : (r : Option Sym) → IsOptionKnown words r → referent_text later r ≡ referent_text words r
  referent None known = refl
  referent (Some s) known = λ k. 32 ∷ symbol s known k

  sign : (d : PrefKind) (r : Option Sym) → IsSignKnown words d r → sign_text later d r ≡ sign_text words d r
  sign kind.Accept r known = refl
  sign kind.Require r known = refl
  sign kind.Reject r known = refl
  sign kind.Prohibit r known = refl
  sign kind.Better r known = λ k. codes ">" ++ referent r known k
  sign kind.Worse r known = λ k. codes "<" ++ referent r known k
  sign kind.Best r known = refl
  sign kind.Worst r known = refl
  sign kind.Indifferent r known = refl
  sign kind.Numeric r known = λ k. codes "=" ++ referent r known k
  sign kind.IndifferentTo r known = λ k. codes "=" ++ referent r known k

  wish : (w : Wish) → IsWishKnown words w → wish_text later w ≡ wish_text words w
  wish w known =
      λ k. codes "(" ++ (front w.id w.attr w.value known.id known.attr known.value k ++ (32 ∷ (sign w.kind w.referent known.sign k ++ codes ")")))

  instance : (name : Sym) (tags : List ℕ) → IsKnown words name → instance_text later name tags ≡ instance_text words name tags
  instance name tags known = λ k. symbol name known k ++ (58 ∷ tags_text tags)

  called : (name : Option Sym) → IsOptionKnown words name → name_text later name ≡ name_text words name
  called None known = refl
  called (Some s) known = λ k. codes " (" ++ (symbol s known k ++ codes ")")

  because : (why : Cause) → IsCauseKnown words why → cause_text later why ≡ cause_text words why
  because cause.NoGrounds known = refl
  because cause.Off known = refl
  because (cause.LocalNegation n) known = refl
  because (cause.Quiescence n) known = refl
  because (cause.Ungrounded s) known = λ k. codes "ungrounded " ++ symbol s known k
  because (cause.TooLarge n) known = refl
  because (cause.TooMany n) known = refl

  learned : (number : ℕ) (name : Sym) (explained : ℕ) (tags : List ℕ) → IsKnown words name
      → learned_text later number name explained tags ≡ learned_text words number name explained tags
  learned number name explained tags known =
      λ k. decimal number ++ (32 ∷ (symbol name known k ++ (codes " from " ++ (decimal explained ++ (codes ":" ++ tags_text tags)))))

  learnt : (e : LearningEvent) → IsLearningKnown words e → learning_text later e ≡ learning_text words e
  learnt (learns number name explained tags) known = λ k. codes "learn " ++ learned number name explained tags known k
  learnt (justifies number name explained tags why) known =
      λ k. codes "justify " ++ (learned number name explained tags known.0 k ++ (codes " (" ++ (because why known.1 k ++ codes ")")))
  learnt (has_no_grounds explained) known = refl
  learnt (reuses name explained) known = λ k. codes "reuse " ++ (symbol name known k ++ (codes " from " ++ decimal explained))
  learnt (has_lost explained tag) known = refl
  learnt (is_blocked explained n tag) known = refl

  event : (e : Event) → IsEventKnown words e → piece_of later e ≡ piece_of words e
  event (begins part) known = refl
  event (removes goal) known = λ k. line 2 (codes "remove " ++ symbol goal known k)
  event (retracts number name i) known = λ k. line 3 (codes "retract " ++ (decimal number ++ (32 ∷ instance name i.tags known k)))
  event (fires number name i) known = λ k. line 3 (codes "fire " ++ (decimal number ++ (32 ∷ instance name i.tags known k)))
  event (makes_wish w wish_support) known = λ k. line 5 (codes "  " ++ (wish w known k ++ support_text wish_support))
  event (drops d) known = refl
  event (writes_text text) known = refl
  event (learning learning_event) known = λ k. line 3 (learnt learning_event known k)
  event (goes e) known = λ k. line 4 (codes "- " ++ tagged e known k)
  event (comes e) known = λ k. line 4 (codes "+ " ++ tagged e known k)
  event (selects cycle_number below operator name) known =
      λ k. line 1 (cycle_text cycle_number below ++ (codes "O: " ++ (symbol operator known.0 k ++ called name known.1 k)))
  event (substates cycle_number below goal why) known =
      λ k. line 1 (cycle_text cycle_number below ++ (codes "==>S: " ++ (symbol goal known k ++ (codes " (" ++ (impasse_text why ++ codes ")")))))
  event reaches_goal_limit known = refl
  event (is_cut part) known = refl
  event (shows_no_longer t) known = λ k. line 1 (codes "out - " ++ triple t known k)
  event (shows t) known = λ k. line 1 (codes "out + " ++ triple t known k)
  event halts known = refl

  all_keep : (events : List Event) → AreEventsKnown words events → map (piece_of later) events ≡ map (piece_of words) events
  all_keep [] known = refl
  all_keep (e ∷ events) known = λ k. event e known.0 k ∷ all_keep events known.1 k

pub events_stay_known : EventsStayKnown
events_stay_known words later events known grown = all_stay words later grown events known

pub events_keep : EventsKeep
events_keep words later e known grown = event words later grown e known

pub pieces_keep : PiecesKeep
unfolding pieces_of
pieces_keep words later events known grown = all_keep words later grown events known

pub pieces_in_turn : PiecesInTurn
unfolding pieces_of
pieces_in_turn words first second = map-append (piece_of words) first second
