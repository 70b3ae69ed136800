-- What a wave records of the firings of instances, and what it learns.
use Rattle.std.specs.Prelude.{◌≡◌, ℕ, ◌≤◌, ◌<◌, true, false, List, map, length, Some, None}
use Rattle.std.specs.List.{list_any}
use Rattle.soar_sym.specs.Equality.{mark_eq}
use Rattle.soar_sym.specs.Letters.{last_of}
use Rattle.soar_sym.specs.Words.{IsKnown, Texts}
use Rattle.soar_sym.specs.declared.symbol.Sym.{Sym}
use Rattle.soar_sym.specs.declared.symbol.Sym.TheVariants.{Ident}
use Rattle.soar_rule.specs.Symbols.{constants_of}
use Rattle.soar_wm.specs.declared.element.Element.{Element}
use Rattle.soar_wm.specs.WorkingMemory.{triple_of}
use Rattle.defs_match.specs.Conflict.{instances_of}
use Rattle.defs_match.specs.Rules.{RuleOf}
use Rattle.defs_match.specs.declared.instance.Instance.{Instance}
use Rattle.defs_soar.specs.declared.firing.Used.{Used}
use Rattle.defs_soar.specs.declared.goal.Goal.{Goal}
use Rattle.defs_soar.specs.declared.goal.Selection.{Selection}
use Rattle.defs_soar.specs.declared.preference.Preference.{Preference}
use Rattle.defs_soar.specs.Goals.{goal_elements, is_goal}
use Rattle.defs_soar.specs.History.{FiringOf}
use Rattle.defs_soar.specs.Levels.{is_level_one, level_in}
use Rattle.defs_soar.specs.Laws.{IsIn}
use Rattle.defs_soar.specs.Pending.{depth_of, Firable, firable_of}
use Rattle.defs_soar.specs.Uses.{all_uses, elements_matched, makes_element, marked_element, selection_told}
use Rattle.defs_soar.specs.Values.{has_triple_among}
use Rattle.defs_soar.specs.WaveAtHand.{BeforeWave, Wave}
use Rattle.defs_soar.specs.WaveFirings.{firing_of_work, made_in}
use Rattle.learning_laws.specs.Lawful.{Grown, IsLawfulFiring, IsMadeBy}
use Rattle.learning_laws.specs.Record.{UseIsLawful}
use Rattle.learning_laws.specs.Replay.{is_operator_of_goal}

-- elements of one tag are one
abbrev pub TagsAre : List Element → List Element → Type 0
TagsAre elements among = (e f : Element) → IsIn e elements → IsIn f among → e.tag ≡ f.tag → e ≡ f

abbrev pub elements_used : BeforeWave → Firable → List Element
elements_used m f = map (λ u. u.element) (all_uses m.reach m.rows (depth_of m.reach.goals f) (elements_matched m.elements f.instance.tags))

-- An instance of working memory fires: tags tell elements, also those that its uses name; goals were given by the letters; the words of the instance and of the
-- rule are in the table of its turn; and the table begins with the one that it leaves.
pub record IsFiring (m : BeforeWave) (w : Wave) (rule : RuleOf) (i : Instance) (words : Texts) : Type 0 where
  pub matches : IsIn i (instances_of m.elements rule)
  pub tags : TagsAre m.elements m.elements
  pub named : TagsAre m.elements (elements_used m (firable_of m.elements rule i))
  pub goals : (l n : ℕ) → is_goal m.reach.goals (Ident l n) ≡ true → n ≤ last_of w.names.letters l
  pub long : length w.names.letters ≡ 26
  pub binds_known : (s : Sym) → IsIn s i.binds → IsKnown w.names.words s
  pub vars_known : (s : Sym) → IsIn s rule.production.vars → IsKnown w.names.words s
  pub constants_known : (s : Sym) → IsIn s (constants_of rule.production) → IsKnown w.names.words s
  pub some_word : 0 < length w.names.words
  pub table : Grown (made_in w m (firable_of m.elements rule i)).naming.words words

abbrev pub firing_at : BeforeWave → Wave → RuleOf → Instance → FiringOf
firing_at m w rule i = firing_of_work m w (firable_of m.elements rule i) (made_in w m (firable_of m.elements rule i))

-- the firing of an instance is recorded as it goes again
abbrev pub FiringsAreLawful : Type 0
FiringsAreLawful = (m : BeforeWave) (w : Wave) (rule : RuleOf) (i : Instance) (words : Texts) → IsFiring m w rule i words → IsLawfulFiring words (firing_at m w rule i)

-- ---- uses

-- a firing of the history made an element, by this number
pub record IsMadeIn (firings : List FiringOf) (number : ℕ) (e : Element) : Type 0 where
  pub firing : FiringOf
  pub is_there : IsIn firing firings
  pub number_is : firing.number ≡ number
  pub makes : IsMadeBy firing.made e

-- an element below the top level, as inputs are not, that is neither a goal's own nor tells a selected operator
pub record IsMadeElement (m : BeforeWave) (e : Element) : Type 0 where
  pub below : is_level_one (level_in m.reach.goals m.reach.reached e.id) ≡ false
  pub others : has_triple_among (goal_elements m.reach.goals) (triple_of e) ≡ false
  pub unselected : selection_told m.reach.goals e ≡ None

-- Where a wave begins: each row is of a wish that its firing made; each element that is of no goal's own has a row, and is marked exactly where it is a
-- goal's operator; elements are flagged as goals' where they are; the maker of a selection made it; and the history is of lesser numbers.
pub record IsSettled (m : BeforeWave) (next : ℕ) : Type 0 where
  pub rows : (row : Preference) → IsIn row m.rows → (f : FiringOf) × IsIn f m.firings × (f.number ≡ row.firing) × IsIn row.wish f.made
  pub held : (e : Element) → IsIn e m.elements → IsMadeElement m e → list_any (makes_element e) m.rows ≡ true
  pub marks : (e : Element) → IsIn e m.elements → IsMadeElement m e → mark_eq e.accept (is_operator_of_goal e) ≡ true
  pub flags : (e : Element) → IsIn e m.elements → e.of_state ≡ is_goal m.reach.goals e.id
  pub selections : (g : Goal) (s : Selection) → IsIn g m.reach.goals → g.selected ≡ Some s → IsMadeIn m.firings s.maker (marked_element g.id s.operator s.tag)
  pub numbers : (f : FiringOf) → IsIn f m.firings → f.number < next

-- what a firing of these elements used stands on the history
abbrev pub UsesAreLawful : Type 0
UsesAreLawful =
    (m : BeforeWave) (next depth : ℕ) (elements : List Element) (f : FiringOf) → IsSettled m next → ((e : Element) → IsIn e elements → IsIn e m.elements)
    → f.number ≡ next → f.used ≡ all_uses m.reach m.rows depth elements → (u : Used) → IsIn u f.used → UseIsLawful m.firings f u
