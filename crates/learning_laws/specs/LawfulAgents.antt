-- Lawful agents: what each step of an agent keeps, so that all that is learned goes again.
use Rattle.std.specs.Prelude.{◌≡◌, ℕ, ◌<◌, ◌≤◌, true, false, ◌||◌, List, [], ◌∷◌, ◌++◌, length, map, flat_map, slice_get, Some}
use Rattle.soar_sym.specs.Equality.{mark_eq}
use Rattle.soar_sym.specs.Letters.{last_of}
use Rattle.soar_sym.specs.Words.{IsKnown, place_of, Texts}
use Rattle.soar_sym.specs.declared.symbol.Sym.{Sym}
use Rattle.soar_sym.specs.declared.symbol.Sym.TheVariants.{Ident, Word, Int}
use Rattle.soar_sym.specs.declared.symbol.Triple.{Triple}
use Rattle.soar_rule.specs.Symbols.{constants_of}
use Rattle.soar_wm.specs.declared.element.Element.{Element}
use Rattle.soar_wm.specs.WorkingMemory.{triple_of}
use Rattle.defs_match.specs.Rules.{RuleOf}
use Rattle.defs_soar.specs.declared.goal.Goal.{Goal}
use Rattle.defs_soar.specs.declared.goal.Item.{Item}
use Rattle.defs_soar.specs.declared.goal.Selection.{Selection}
use Rattle.defs_soar.specs.declared.preference.PrefKind.TheVariants as kind
use Rattle.defs_soar.specs.declared.preference.Preference.{Preference}
use Rattle.defs_soar.specs.Agents.{Agent, Holding, Names, Queued}
use Rattle.defs_soar.specs.Dependencies.{is_new_in, symbols_of_wish}
use Rattle.defs_soar.specs.Goals.{is_goal, is_operator_slot}
use Rattle.defs_soar.specs.Held.{marked_triple_of}
use Rattle.defs_soar.specs.History.{FiringOf, RecordedFiring}
use Rattle.defs_soar.specs.Laws.{IsIn}
use Rattle.defs_soar.specs.Pending.{is_justification}
use Rattle.defs_soar.specs.Ungrounded.{symbols_of_element}
use Rattle.defs_soar.specs.Uses.{makes_element, marked_element}
use Rattle.defs_soar.specs.Values.{has_triple_among, is_identifier, is_kind}
use Rattle.defs_soar.specs.WaveAtHand.{BeforeWave}
use Rattle.defs_soar.specs.WaveFirings.{before_wave}
use Rattle.std.specs.List.{list_any}
use Rattle.learning_laws.specs.Lawful.{IsLawfulFiring}
use Rattle.learning_laws.specs.Listed.{listed_of_all}
use Rattle.learning_laws.specs.BeforeWave.{CanBeMade}
use Rattle.learning_laws.specs.Ready.{NegationsStand}
use Rattle.learning_laws.specs.Record.{UseIsLawful, used_elements}
use Rattle.learning_laws.specs.Replay.{is_operator_of_goal}
use Rattle.learning_laws.specs.Waves.{IsMadeElement, IsMadeIn, TagsAre}

-- ---- symbols

-- an identifier's number is at most the last of its letter
abbrev pub IsNumbered : List ℕ → Sym → Type 0
IsNumbered letters (Ident l n) = n ≤ last_of letters l
IsNumbered letters (Word n) = Unit {0}
IsNumbered letters (Int z) = Unit {0}

-- each text stands once in the table
abbrev pub EachOnce : Texts → Type 0
EachOnce words = (n : ℕ) (text : List ℕ) → slice_get words n ≡ Some text → place_of words text ≡ Some n

-- a word is in the table, and an identifier was given by the letters and has a capital one
abbrev pub IsGiven : Names → Sym → Type 0
IsGiven names s = IsKnown names.words s × IsNumbered names.letters s

abbrev pub AreGiven : Names → List Sym → Type 0
AreGiven names symbols = (s : Sym) → IsIn s symbols → IsGiven names s

-- a word of the table or a number
abbrev pub IsLiteral : Texts → Sym → Type 0
IsLiteral words (Ident l n) = ⊥
IsLiteral words (Word n) = n < length words
IsLiteral words (Int z) = Unit {0}

abbrev pub symbols_of_triple : Triple → List Sym
symbols_of_triple t = t.id ∷ t.attr ∷ t.value ∷ []

-- The words and letters that there are from the start, and what was given. A rule that may fire again has words and numbers alone.
pub record AreSymbols (names : Names) (h : Holding) (queue : List Queued) (rules : List RuleOf) (firings : List FiringOf) : Type 0 where
  pub letters : length names.letters ≡ 26
  pub words : 24 ≤ length names.words
  pub once : EachOnce names.words
  pub links : 3 ≤ last_of names.letters 73
  pub goals : (g : Goal) → IsIn g h.goals → (is_identifier g.id ≡ true) × IsGiven names g.id
  pub inputs : (t : Triple) → IsIn t h.inputs → AreGiven names (symbols_of_triple t)
  pub queued : (q : Queued) → IsIn q queue → AreGiven names (symbols_of_triple q.triple)
  pub of_rules : (r : RuleOf) → IsIn r rules → is_justification r.production.kind ≡ false → (s : Sym) → IsIn s (r.production.vars ++ constants_of r.production) → IsLiteral names.words s
  pub made : (f : FiringOf) → IsIn f firings → AreGiven names (flat_map symbols_of_wish f.made)

-- ---- elements over all time

-- each item names the marked element of the goal above
abbrev pub ItemsAreNamed : List Element → Sym → List Item → Type 0
ItemsAreNamed ever superstate items = (item : Item) → IsIn item items → IsIn (marked_element superstate item.value item.tag) ever

abbrev pub BelowAreNamed : List Element → Sym → List Goal → Type 0
BelowAreNamed ever superstate [] = Unit {0}
BelowAreNamed ever superstate (g ∷ goals) = ItemsAreNamed ever superstate g.items × BelowAreNamed ever g.id goals

-- there is a top goal, which has no items
abbrev pub GoalsAreNamed : List Element → List Goal → Type 0
GoalsAreNamed ever [] = ⊥
GoalsAreNamed ever (top ∷ goals) = (top.items ≡ []) × BelowAreNamed ever top.id goals

-- All elements that there have been since the start, which their tags tell apart: those of working memory, those that the firings used, and the marked ones that items
-- and selections name.
pub record AreElements (names : Names) (h : Holding) (firings : List FiringOf) : Type 0 where
  pub ever : List Element
  pub tags : TagsAre ever ever
  pub last : (e : Element) → IsIn e ever → e.tag ≤ names.last_tag
  pub ids : (e : Element) → IsIn e ever → is_identifier e.id ≡ true
  pub given : (e : Element) → IsIn e ever → AreGiven names (symbols_of_element e)
  pub present : (e : Element) → IsIn e h.elements → IsIn e ever
  pub used : (e : Element) → IsIn e (used_elements firings) → IsIn e ever
  pub items : GoalsAreNamed ever h.goals
  pub selected : (g : Goal) (s : Selection) → IsIn g h.goals → g.selected ≡ Some s → IsIn (marked_element g.id s.operator s.tag) ever

-- ---- the history

-- Each firing is recorded as it goes again, what it used stands on the history, its rule's lists have words and numbers alone, its symbols are known, and no identifier that is new in it
-- is a goal.
pub record IsHistory (names : Names) (goals : List Goal) (last : ℕ) (firings : List FiringOf) : Type 0 where
  pub each : (f : FiringOf) → IsIn f firings → IsLawfulFiring names.words f
  pub stand : (f : FiringOf) → IsIn f firings → NegationsStand f.rule.production
  pub numbers : (f g : FiringOf) → IsIn f firings → IsIn g firings → f.number ≡ g.number → f ≡ g
  pub last_is : (f : FiringOf) → IsIn f firings → f.number ≤ last
  pub uses : (f : FiringOf) → IsIn f firings → (u : _) → IsIn u f.used → UseIsLawful firings f u
  pub listed : (f : FiringOf) → IsIn f firings → (s : Sym) → IsIn s (listed_of_all f.rule.production.conditions) → IsLiteral names.words s
  pub known : (f : FiringOf) → IsIn f firings → (s : Sym) → IsIn s (f.instance.binds ++ constants_of f.rule.production) → IsKnown names.words s
  pub new : (f : FiringOf) (s : Sym) → IsIn f firings → is_new_in f s ≡ true → is_goal goals s ≡ false

-- ---- the whole

-- What holds of a state even before it is settled: rows and selections stand on the history.
pub record IsFounded (names : Names) (h : Holding) (queue : List Queued) (rules : List RuleOf) (last : ℕ) (firings : List FiringOf) : Type 0 where
  pub symbols : AreSymbols names h queue rules firings
  pub elements : AreElements names h firings
  pub history : IsHistory names h.goals last firings
  pub rows : (row : Preference) → IsIn row h.rows → (f : FiringOf) × IsIn f firings × (f.number ≡ row.firing) × IsIn row.wish f.made
  pub accepted : (row : Preference) → IsIn row h.rows → is_kind row.wish.kind kind.Accept ≡ true → CanBeMade h.goals row.wish
  pub selections : (g : Goal) (s : Selection) → IsIn g h.goals → g.selected ≡ Some s → IsMadeIn firings s.maker (marked_element g.id s.operator s.tag)
  pub stand : (r : RuleOf) → IsIn r rules → NegationsStand r.production

-- What settling sees to: what is made has a row, and is marked exactly where it is a goal's operator; elements are flagged as goals' where they are; and each
-- candidate of a goal has its marked element.
pub record IsHeldUp (m : BeforeWave) : Type 0 where
  pub held : (e : Element) → IsIn e m.elements → IsMadeElement m e → list_any (makes_element e) m.rows ≡ true
  pub marks : (e : Element) → IsIn e m.elements → IsMadeElement m e → mark_eq e.accept (is_operator_of_goal e) ≡ true
  pub flags : (e : Element) → IsIn e m.elements → e.of_state ≡ is_goal m.reach.goals e.id
  pub candidates : (row : Preference) → IsIn row m.rows → is_operator_slot m.reach.goals row.wish.id row.wish.attr ≡ true
      → (is_kind row.wish.kind kind.Accept || is_kind row.wish.kind kind.Require) ≡ true → has_triple_among (map triple_of m.elements) (marked_triple_of row) ≡ true

abbrev pub firings_of_agent : Agent → List FiringOf
firings_of_agent a = map (λ (past : RecordedFiring). past.firing) a.history

pub record IsLawfulAgent (a : Agent) : Type 0 where
  pub founded : IsFounded a.names a.holding a.queues.input a.program.rules a.counts.firings (firings_of_agent a)
  pub held_up : IsHeldUp (before_wave a)
