-- What a step changes: held and kept triples slot by slot, and levels.
use Rattle.std.specs.Prelude.{◌≡◌, ℕ, ◌≤◌, ◌<◌, Bool, true, false, ◌&&◌, ◌||◌, not, List, [], ◌∷◌, ◌++◌, filter, flat_map, map, Option, Some, None, is_some, if◌then◌else◌}
use Rattle.std.specs.List.{list_any}
use Rattle.soar_sym.specs.Equality.{symbol_eq, mark_eq}
use Rattle.std.specs.declared.cmp.Ordering.TheVariants.{Equal}
use Rattle.soar_sym.specs.Order.{triple_cmp}
use Rattle.soar_sym.specs.Words.{IsKnown, IsTable, Texts}
use Rattle.soar_sym.specs.declared.symbol.Sym.{Sym}
use Rattle.soar_sym.specs.declared.symbol.Triple.{Triple}
use Rattle.defs_soar.specs.Element.{Element}
use Rattle.defs_soar.specs.WorkingMemory.{element_of, triple_of}
use Rattle.defs_soar.specs.declared.goal.Goal.{Goal}
use Rattle.defs_soar.specs.declared.preference.PrefKind.{PrefKind}
use Rattle.defs_soar.specs.declared.preference.PrefKind.TheVariants as kind
use Rattle.defs_soar.specs.declared.preference.Preference.{Preference}
use Rattle.defs_soar.specs.Goals.{goal_elements, goal_ids, is_goal, is_operator_slot, selected_element}
use Rattle.defs_soar.specs.Held.{held, held_by}
use Rattle.defs_soar.specs.Laws.{IsIn}
use Rattle.defs_soar.specs.Levels.{first_place, level, is_level_one}
use Rattle.defs_soar.specs.Preferences.{slot_of}
use Rattle.defs_soar.specs.Settling.{Supports, elements_after, kept_triples, settled, stays, tagged}
use Rattle.defs_soar.specs.Sorted.{in_order}
use Rattle.defs_soar.specs.Trimming.{is_lost}
use Rattle.defs_soar.specs.Values.{has_triple_among, is_identifier, is_kind}

abbrev pub in_slot : Sym → Sym → Triple → Bool
in_slot id attr t = symbol_eq t.id id && symbol_eq t.attr attr

-- what rows hold up
abbrev pub row_triples : List Goal → List Preference → List Triple
row_triples goals rows = flat_map (held_by rows goals) rows

-- the goals' elements and their selected operators
abbrev pub own_triples : List Goal → List Triple
own_triples goals = goal_elements goals ++ flat_map selected_element goals

-- ---- changed slots

abbrev pub Variablized : Type 0
Variablized = List (Sym × Sym)

abbrev pub is_slot : Sym → Sym → Sym × Sym → Bool
is_slot id attr slot = symbol_eq slot.0 id && symbol_eq slot.1 attr

abbrev pub has_slot : Variablized → Sym → Sym → Bool
has_slot slots id attr = list_any (is_slot id attr) slots

-- the slot is among them afterwards, once
abbrev pub with_slot : Variablized → Sym → Sym → Variablized
with_slot slots id attr = if has_slot slots id attr then slots else slots ++ (id, attr) ∷ []

-- in each slot that is not among these the rows are the same, in the same order
abbrev pub Covers : Variablized → List Preference → List Preference → Type 0
Covers slots old new = (id attr : Sym) → has_slot slots id attr ≡ false → slot_of old id attr ≡ slot_of new id attr

-- a row more: its slot is changed
abbrev pub AddedIsCovered : Type 0
AddedIsCovered =
    (slots : Variablized) (old rows : List Preference) (row : Preference) → Covers slots old rows → Covers (with_slot slots row.wish.id row.wish.attr) old (rows ++ row ∷ [])

-- rows less: the slots of those that went are changed
abbrev pub DroppedAreCovered : Type 0
DroppedAreCovered =
    (slots slots′ : Variablized) (old rows : List Preference) (stay : Preference → Bool) → Covers slots old rows
    → ((id attr : Sym) → has_slot slots id attr ≡ true → has_slot slots′ id attr ≡ true)
    → ((row : Preference) → IsIn row rows → stay row ≡ false → has_slot slots′ row.wish.id row.wish.attr ≡ true)
    → Covers slots′ old (filter stay rows)

-- ---- held

-- what all rows hold up in a slot is what the rows of the slot hold up
abbrev pub SlotIsHeldByItsRows : Type 0
SlotIsHeldByItsRows = (rows : List Preference) (goals : List Goal) (id attr : Sym) → filter (in_slot id attr) (row_triples goals rows) ≡ row_triples goals (slot_of rows id attr)

-- the rows of a triple, marks apart
abbrev pub of_value : Sym → Sym → Sym → List Preference → List Preference
of_value id attr value rows = filter (λ row. symbol_eq row.wish.id id && (symbol_eq row.wish.attr attr && symbol_eq row.wish.value value)) rows

abbrev pub has_value : Sym → Sym → Sym → Triple → Bool
has_value id attr value t = symbol_eq t.id id && (symbol_eq t.attr attr && symbol_eq t.value value)

-- and of a triple what the rows of this triple hold up
abbrev pub TripleIsHeldByItsRows : Type 0
TripleIsHeldByItsRows =
    (rows : List Preference) (goals : List Goal) (id attr value : Sym)
    → filter (has_value id attr value) (row_triples goals rows) ≡ row_triples goals (of_value id attr value rows)

-- the row is of the triple, marks apart
abbrev pub is_of : Triple → Preference → Bool
is_of t row = symbol_eq row.wish.id t.id && (symbol_eq row.wish.attr t.attr && symbol_eq row.wish.value t.value)

-- a row of the kind has the triple, marks apart
abbrev pub has_row : PrefKind → List Preference → Triple → Bool
has_row k rows t = list_any (λ row. is_kind row.wish.kind k && is_of t row) rows

-- whether rows hold a triple up: a goal's candidate marked, by an acceptable or a require row; any other triple unmarked, by an acceptable row where none rejects it
abbrev pub rows_hold : List Goal → List Preference → Triple → Bool
rows_hold goals rows t =
    if is_operator_slot goals t.id t.attr
    then t.accept && (has_row kind.Accept rows t || has_row kind.Require rows t)
    else not t.accept && (has_row kind.Accept rows t && not (has_row kind.Reject rows t))

-- whether a triple is held is told by itself alone: by the goals' own elements, the inputs and the rows of this triple
abbrev pub TripleIsHeldWhen : Type 0
TripleIsHeldWhen =
    (rows : List Preference) (goals : List Goal) (inputs : List Triple) (t : Triple)
    → has_triple_among (held rows goals inputs) t ≡ (has_triple_among (own_triples goals) t || (has_triple_among inputs t || rows_hold goals rows t))

-- nothing in the slot changed but, maybe, the level of its identifier
pub record SameSlot (id attr : Sym) (goals goals′ : List Goal) (s s′ : Supports) : Type 0 where
  pub rows : slot_of s.rows id attr ≡ slot_of s′.rows id attr
  pub inputs : filter (in_slot id attr) s.inputs ≡ filter (in_slot id attr) s′.inputs
  pub own : filter (in_slot id attr) (own_triples goals) ≡ filter (in_slot id attr) (own_triples goals′)
  pub operator : is_operator_slot goals id attr ≡ is_operator_slot goals′ id attr

-- the same is held in such a slot
abbrev pub SameSlotIsHeld : Type 0
SameSlotIsHeld =
    (id attr : Sym) (goals goals′ : List Goal) (s s′ : Supports) → SameSlot id attr goals goals′ s s′
    → filter (in_slot id attr) (held s.rows goals s.inputs) ≡ filter (in_slot id attr) (held s′.rows goals′ s′.inputs)

-- ---- kept

-- the levels when all is settled
abbrev pub settled_level : List Goal → Supports → Sym → Option ℕ
settled_level goals s id = level goals (kept_triples goals (settled goals s)) id

-- they tell which rows and inputs stay
abbrev pub RowsStayByLevel : Type 0
RowsStayByLevel = (goals : List Goal) (s : Supports) → (settled goals s).rows ≡ filter (λ row. is_some (settled_level goals s row.wish.id)) s.rows

abbrev pub InputsStayByLevel : Type 0
InputsStayByLevel = (goals : List Goal) (s : Supports) → (settled goals s).inputs ≡ filter (λ t. is_level_one (settled_level goals s t.id)) s.inputs

-- which inputs stay is known before any goes: level one is told by all that is held
abbrev pub TopIsKnownAtFirst : Type 0
TopIsKnownAtFirst = (goals : List Goal) (s : Supports) (id : Sym) → is_level_one (level goals (held s.rows goals s.inputs) id) ≡ is_level_one (settled_level goals s id)

-- what is kept of a slot, by the level of its identifier
abbrev pub kept_in_slot : List Goal → Supports → Sym → Sym → Option ℕ → List Triple
kept_in_slot goals s id attr depth =
    if is_some depth
    then filter (in_slot id attr) (own_triples goals) ++ ((if is_level_one depth then filter (in_slot id attr) s.inputs else []) ++ row_triples goals (slot_of s.rows id attr))
    else []

abbrev pub SlotIsKeptByLevel : Type 0
SlotIsKeptByLevel =
    (goals : List Goal) (s : Supports) (id attr : Sym)
    → filter (in_slot id attr) (kept_triples goals (settled goals s)) ≡ kept_in_slot goals s id attr (settled_level goals s id)

-- and whether a triple is kept
abbrev pub is_kept_at : List Goal → Supports → Triple → Option ℕ → Bool
is_kept_at goals s t depth =
    (has_triple_among (own_triples goals) t || ((is_level_one depth && has_triple_among s.inputs t) || rows_hold goals s.rows t)) && is_some depth

abbrev pub TripleIsKeptWhen : Type 0
TripleIsKeptWhen =
    (goals : List Goal) (s : Supports) (t : Triple) → has_triple_among (kept_triples goals (settled goals s)) t ≡ is_kept_at goals s t (settled_level goals s t.id)

-- rows of the same slot, or of the same triple, hold the triple up alike
abbrev pub SlotTellsItsTriples : Type 0
SlotTellsItsTriples =
    (goals goals′ : List Goal) (rows rows′ : List Preference) (t : Triple) → slot_of rows t.id t.attr ≡ slot_of rows′ t.id t.attr
    → is_operator_slot goals t.id t.attr ≡ is_operator_slot goals′ t.id t.attr → rows_hold goals rows t ≡ rows_hold goals′ rows′ t

abbrev pub RowsTellTheirTriple : Type 0
RowsTellTheirTriple =
    (goals goals′ : List Goal) (rows rows′ : List Preference) (t : Triple) → of_value t.id t.attr t.value rows ≡ of_value t.id t.attr t.value rows′
    → is_operator_slot goals t.id t.attr ≡ is_operator_slot goals′ t.id t.attr → rows_hold goals rows t ≡ rows_hold goals′ rows′ t

-- nothing that holds the triple up came or went
pub record SameSupport (goals goals′ : List Goal) (s s′ : Supports) (t : Triple) : Type 0 where
  pub own : has_triple_among (own_triples goals) t ≡ has_triple_among (own_triples goals′) t
  pub input : has_triple_among s.inputs t ≡ has_triple_among s′.inputs t
  pub rows : rows_hold goals s.rows t ≡ rows_hold goals′ s′.rows t

-- then it is kept as before, where its identifier is reached, and is of the top level, as before
abbrev pub SameSupportIsKept : Type 0
SameSupportIsKept =
    (goals goals′ : List Goal) (s s′ : Supports) (t : Triple) → SameSupport goals goals′ s s′ t
    → is_some (settled_level goals s t.id) ≡ is_some (settled_level goals′ s′ t.id) → is_level_one (settled_level goals s t.id) ≡ is_level_one (settled_level goals′ s′ t.id)
    → has_triple_among (kept_triples goals (settled goals s)) t ≡ has_triple_among (kept_triples goals′ (settled goals′ s′)) t

-- so the same is kept in a slot in which nothing changed, and whose identifier is reached, and is of the top level, as before
abbrev pub SameSlotIsKept : Type 0
SameSlotIsKept =
    (id attr : Sym) (goals goals′ : List Goal) (s s′ : Supports) → SameSlot id attr goals goals′ s s′
    → is_some (settled_level goals s id) ≡ is_some (settled_level goals′ s′ id) → is_level_one (settled_level goals s id) ≡ is_level_one (settled_level goals′ s′ id)
    → filter (in_slot id attr) (kept_triples goals (settled goals s)) ≡ filter (in_slot id attr) (kept_triples goals′ (settled goals′ s′))

-- ---- levels

-- these triples have the links of those
abbrev pub HasLinks : List Triple → List Triple → Type 0
HasLinks a b = (t : Triple) → IsIn t a → is_identifier t.value ≡ true → IsIn t b

-- levels are told by the links alone, that is by the triples whose value is an identifier
abbrev pub LevelsAreOfLinks : Type 0
LevelsAreOfLinks = (goals : List Goal) (a b : List Triple) → HasLinks a b → HasLinks b a → (id : Sym) → level goals a id ≡ level goals b id

-- the link leads to the symbol from one of the same depth and of lower rank
pub record Leads (triples : List Triple) (depth_of : Sym → Option ℕ) (rank : Sym → ℕ) (s : Sym) (depth : ℕ) : Type 0 where
  pub link : Triple
  pub is_held : IsIn link triples
  pub leads : is_identifier link.value ≡ true
  pub to : link.value ≡ s
  pub from_depth : depth_of link.id ≡ Some depth
  pub from_lower : rank link.id < rank s

-- the symbol has a depth that is at most this
pub record IsAtMost (depth_of : Sym → Option ℕ) (s : Sym) (most : ℕ) : Type 0 where
  pub depth : ℕ
  pub is_depth : depth_of s ≡ Some depth
  pub within : depth ≤ most

-- depths that are right link by link
pub record AreDepths (goals : List Goal) (triples : List Triple) (depth_of : Sym → Option ℕ) (rank : Sym → ℕ) : Type 0 where
  pub of_goals : (s : Sym) (depth : ℕ) → first_place (symbol_eq s) 1 (goal_ids goals) ≡ Some depth → depth_of s ≡ Some depth
  pub are_led : (s : Sym) (depth : ℕ) → is_goal goals s ≡ false → depth_of s ≡ Some depth → Leads triples depth_of rank s depth
  pub are_closed : (t : Triple) (depth : ℕ) → IsIn t triples → is_identifier t.value ≡ true → is_goal goals t.value ≡ false → depth_of t.id ≡ Some depth → IsAtMost depth_of t.value depth

-- are the levels
abbrev pub DepthsAreLevels : Type 0
DepthsAreLevels =
    (goals : List Goal) (triples : List Triple) (depth_of : Sym → Option ℕ) (rank : Sym → ℕ) → AreDepths goals triples depth_of rank
    → (s : Sym) → level goals triples s ≡ depth_of s

-- ---- elements

-- these triples went, of those that elements have
pub record AreGone (before : List Element) (kept gone : List Triple) : Type 0 where
  pub each : (t : Triple) → has_triple_among gone t ≡ (has_triple_among (map triple_of before) t && not (has_triple_among kept t))

-- the elements that stay are told by the triples that went
abbrev pub ElementsStayByGone : Type 0
ElementsStayByGone =
    (goals : List Goal) (before : List Element) (kept gone : List Triple) → AreGone before kept gone
    → filter (stays goals kept) before ≡ filter (λ e. not (has_triple_among gone (triple_of e)) && mark_eq e.of_state (is_goal goals e.id)) before

-- an element that went, or none
abbrev pub is_of_gone : List Triple → Option Element → Bool
is_of_gone gone None = true
is_of_gone gone (Some e) = has_triple_among gone (triple_of e)

-- a tag is lost whose element is not there, or went
abbrev pub TagIsLostWhenGone : Type 0
TagIsLostWhenGone =
    (before : List Element) (kept gone : List Triple) (tag : ℕ) → AreGone before kept gone → is_lost before kept tag ≡ is_of_gone gone (element_of tag before)

-- these triples came: they are kept, and no element that stays has them; where the flag of an element changed, its triple is among them
pub record AreCome (goals : List Goal) (before : List Element) (kept come : List Triple) : Type 0 where
  pub each : (t : Triple) → has_triple_among come t ≡ (has_triple_among kept t && not (has_triple_among (map triple_of (filter (stays goals kept) before)) t))

-- different triples are told apart by the order, as they are where each word is in the table, and each text once
abbrev pub AreToldApart : Texts → List Triple → Type 0
AreToldApart words triples = (t u : Triple) → IsIn t triples → IsIn u triples → triple_cmp words t u ≡ Equal → t ≡ u

-- as they are where all words are in a table
abbrev pub TableTellsApart : Type 0
TableTellsApart = (words : Texts) (triples : List Triple) → IsTable words → ((t : Triple) → IsIn t triples → IsKnown words t.id × IsKnown words t.attr × IsKnown words t.value) → AreToldApart words triples

-- the order of triples depends on which they are alone
abbrev pub OrderIsOfMembers : Type 0
OrderIsOfMembers =
    (words : Texts) (a b : List Triple) → AreToldApart words a → ((t : Triple) → has_triple_among a t ≡ has_triple_among b t) → in_order words a ≡ in_order words b

-- the elements after a step, by what went and what came
abbrev pub ElementsAfterByChange : Type 0
ElementsAfterByChange =
    (words : Texts) (goals : List Goal) (last : ℕ) (before : List Element) (kept gone come : List Triple)
    → AreToldApart words kept → AreGone before kept gone → AreCome goals before kept come
    → elements_after words goals kept last before
    ≡ filter (λ e. not (has_triple_among gone (triple_of e)) && mark_eq e.of_state (is_goal goals e.id)) before ++ tagged goals last (in_order words come)
