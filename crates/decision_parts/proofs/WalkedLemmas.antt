-- The parts of an agent after the walk of a decision.
use Rattle.std.proofs.Common.{◌≡◌, ◌∙◌, ℕ, zero, suc, ◌+◌, ◌-◌, ◌<◌, ◌≤◌, ◌&&◌, nat_le, nat_lt, Bool, true, false, List, [], ◌∷◌, map, length, Option, Some, None, inl, inr, refl, sym, ap, subst, arith}
use Rattle.std.specs.Prelude.{IsTrue, take, drop, not}
use Rattle.std.proofs.lemmas.List.{length-take, take-map}
use Rattle.soar_sym.specs.Words.{Texts, IsKnown}
use Rattle.soar_sym.specs.declared.symbol.Sym.{Sym}
use Rattle.defs_soar.specs.declared.choice.Mode.{Mode}
use Rattle.defs_soar.specs.declared.choice.Mode.TheVariants as mode
use Rattle.defs_soar.specs.declared.goal.Goal.{Goal}
use Rattle.defs_soar.specs.declared.goal.Item.{Item}
use Rattle.defs_soar.specs.declared.goal.Selection.{Selection}
use Rattle.defs_soar.specs.declared.preference.Preference.{Preference}
use Rattle.defs_soar.specs.Agents.{Agent, LiveFiring}
use Rattle.defs_soar.specs.Decision.{view_of}
use Rattle.defs_soar.specs.Dependencies.{dependency_set}
use Rattle.defs_soar.specs.Goals.{goal_ids}
use Rattle.defs_soar.specs.History.{RecordedFiring}
use Rattle.defs_soar.specs.Laws.{IsIn}
use Rattle.defs_soar.specs.Preferences.{is_of_gone, without_firings}
use Rattle.defs_soar.specs.Standing.{dependencies_from, makers_of_goal}
use Rattle.defs_soar.specs.Trimming.{numbers_of}
use Rattle.defs_soar.specs.Walk.{View}
use Rattle.agent_laws.specs.Dependence.{firings_in}
use Rattle.agent_laws.proofs.PartLaws.{fewer_roots_need_less}
use Rattle.agent_laws.proofs.RootLaws.{each_root, root_of_live, root_of_row}
use Rattle.decision_walk.specs.First.{AreFirst}
use Rattle.decision_walk.specs.Known.{AreSelectionsKnown, IsSelectionKnown}
use Rattle.decision_walk.specs.Makers.{AreFiringsUpTo, AreMakersUpTo, IsMakerUpTo}
use Rattle.dependency_tables.specs.Tables.{table_of, tables_of}
use Rattle.wave_parts.specs.LiveFiringsLiving.{Firings, live_above, live_from, live_seen}
use Rattle.wave_parts.specs.Doubted.{AreDoubted}
use Rattle.wave_parts.proofs.LostLemmas.{doubted_first}
use Rattle.wave_parts.proofs.TagLemmas.{left_depend}
use Rattle.learning_laws.specs.LawfulAgents.{IsNumbered}
use Rattle.wave_parts.specs.Kept.{RetractedKeepRange}
use Rattle.soar_goals.specs.Known.{AreGoalsKnown as AreListKnown, AreItemsKnown}
use Rattle.soar_prefs.specs.Memory.{PreferenceMemory}
use Rattle.soar_record.specs.Recorded.{recorded}
use Rattle.soar_choose.specs.Rows.{AreInRange, IsFraction}
use Rattle.soar_settle.specs.Known.{AreRowsKnown}
use Rattle.soar_settle.proofs.FilterLemmas.{filter_shorter}
use Rattle.settling_laws.proofs.MemberLemmas.{filter_within}
use Rattle.wave_parts.specs.Numbered.{AreMakersOfFirings, AreOfFirings}
use Rattle.wave_parts.proofs.KeptUpLemmas.{kept_renewed}
use Rattle.wave_parts.specs.Modes.{is_fraction}
use Rattle.wave_parts.specs.Remembers.{Remembers, roots_in}
use Rattle.wave_parts.specs.Seen.{AreGoalsKnown, AreLiveKnown, IsGoalKnown, IsSound, IsToSettle, agent_of, IsSelectionKnown as IsSelectedKnown}
use Rattle.wave_parts.specs.Stands.{Stands}
use Rattle.wave_parts.specs.declared.parts.Parts.{Parts as PartsKept}
use Rattle.wave_parts.proofs.GrownLemmas.{rows_filtered}
use Rattle.wave_parts.proofs.NamedLemmas.{live_filter}
use Rattle.wave_parts.proofs.RememberedLemmas.{at_goal}
use Rattle.wave_parts.proofs.StandsLemmas.{of_each_state, stands_for}
use Rattle.decision_parts.specs.Deciding.{walk_of, walked_state}

-- ---- goals in a list, and each of them

pub items_in : (words : Texts) (items : List Item) → AreItemsKnown words items → (item : Item) → IsIn item items → IsKnown words item.value
items_in words [] h item is = absurd is
items_in words (first ∷ items) h item (inl e) = subst (λ (i : Item). IsKnown words i.value) e h.0
items_in words (first ∷ items) h item (inr is) = items_in words items h.1 item is

items_of : (words : Texts) (items : List Item) → ((item : Item) → IsIn item items → IsKnown words item.value) → AreItemsKnown words items
items_of words [] h = tt
items_of words (item ∷ items) h = (h item (inl refl), items_of words items (λ x is. h x (inr is)))

pub list_of : (words : Texts) (letters : List ℕ) (goals : List Goal) → AreGoalsKnown words letters goals → AreListKnown words goals
list_of words letters [] h = tt
list_of words letters (g ∷ goals) h = (((h g (inl refl)).id_known, items_of words g.items (h g (inl refl)).items_known), list_of words letters goals (λ x is. h x (inr is)))

selection_of : (words : Texts) (letters : List ℕ) (g : Goal) → IsGoalKnown words letters g → IsSelectionKnown words g.selected
selection_of words letters g h = by g.selected h.selection_known
  where
    by : (o : Option Selection) → IsSelectedKnown words o → IsSelectionKnown words o
    by None k = tt
    by (Some selection) k = k

pub selections_of : (words : Texts) (letters : List ℕ) (goals : List Goal) → AreGoalsKnown words letters goals → AreSelectionsKnown words goals
selections_of words letters [] h = tt
selections_of words letters (g ∷ goals) h = (selection_of words letters g (h g (inl refl)), selections_of words letters goals (λ x is. h x (inr is)))

each_known : (words : Texts) (letters : List ℕ) (goals : List Goal) → AreListKnown words goals → AreSelectionsKnown words goals → ((g : Goal) → IsIn g goals → IsNumbered letters g.id)
    → AreGoalsKnown words letters goals
each_known words letters [] known selections numbered g is = absurd is
each_known words letters (first ∷ goals) known selections numbered g (inl e) =
    subst (IsGoalKnown words letters) e (record {
      id_known = known.0.0;
      id_numbered = numbered first (inl refl);
      items_known = items_in words first.items known.0.1;
      selection_known = by first.selected selections.0;
    })
  where
    by : (o : Option Selection) → IsSelectionKnown words o → IsSelectedKnown words o
    by None k = tt
    by (Some selection) k = k
each_known words letters (first ∷ goals) known selections numbered g (inr is) = each_known words letters goals known.1 selections.1 (λ x at. numbered x (inr at)) g is

-- ---- numbers of firings

pub rows_up_to : (last : ℕ) (rows : List Preference) → AreOfFirings last rows → AreFiringsUpTo last rows
rows_up_to last [] h = tt
rows_up_to last (row ∷ rows) h = (h row (inl refl), rows_up_to last rows (λ r is. h r (inr is)))

pub makers_up_to : (last : ℕ) (goals : List Goal) → AreMakersOfFirings last goals → AreMakersUpTo last goals
makers_up_to last [] h = tt
makers_up_to last (g ∷ goals) h = (by g.selected refl, makers_up_to last goals (λ x s is. h x s (inr is)))
  where
    by : (o : Option Selection) → g.selected ≡ o → IsMakerUpTo last o
    by None e = tt
    by (Some s) e = h g s (inl refl) e

each_maker : (last : ℕ) (goals : List Goal) → AreMakersUpTo last goals → AreMakersOfFirings last goals
each_maker last [] h g s is selected = absurd is
each_maker last (first ∷ goals) h g s (inl e) selected = subst (IsMakerUpTo last) (ap (λ (x : Goal). x.selected) e ∙ selected) h.0
each_maker last (first ∷ goals) h g s (inr is) selected = each_maker last goals h.1 g s is selected

-- ---- the goals that are left

ids_below : (goals : List Goal) → goal_ids (drop 1 goals) ≡ drop 1 (goal_ids goals)
ids_below [] = refl
ids_below (g ∷ goals) = refl

ids_take : (n : ℕ) (goals : List Goal) → goal_ids (take n goals) ≡ take n (goal_ids goals)
ids_take zero goals = refl
ids_take (suc n) [] = refl
ids_take (suc n) (g ∷ goals) = ap (λ l. g.id ∷ l) (ids_take n goals)

depends_by_ids : (history : List RecordedFiring) (depth : ℕ) (xs ys : List Goal) → goal_ids xs ≡ goal_ids ys → dependencies_from history depth xs ≡ dependencies_from history depth ys
depends_by_ids history depth [] [] e = refl
depends_by_ids history depth [] (y ∷ ys) e = absurd (cc)
depends_by_ids history depth (x ∷ xs) [] e = absurd (cc)
depends_by_ids history depth (x ∷ xs) (y ∷ ys) e =
    let first : x.id ≡ y.id = cc in
    let rest : goal_ids xs ≡ goal_ids ys = cc in
    λ k. dependency_set history (first k) depth ∷ depends_by_ids history (suc depth) xs ys rest k

-- they depend on what they did
walked_depends : (history : List RecordedFiring) (old new : List Goal) → AreFirst old new → take (length new - 1) (dependencies_from history 2 (drop 1 old)) ≡ dependencies_from history 2 (drop 1 new)
walked_depends history old new first =
    let n = length new in
    let one : suc n - 1 ≡ n = omega arith in
    let two : suc n - 2 ≡ n - 1 = omega arith in
    let ids : goal_ids (drop 1 new) ≡ goal_ids (drop 1 (take n old)) = ids_below new ∙ ap (drop 1) (first.identifiers ∙ sym (ids_take n old)) ∙ sym (ids_below (take n old)) in
    ap (λ m. take m (dependencies_from history 2 (drop 1 old))) (sym two)
    ∙ sym (left_depend history (suc n) old)
    ∙ ap (λ m. dependencies_from history 2 (drop 1 (take m old))) one
    ∙ sym (depends_by_ids history 2 (drop 1 new) (drop 1 (take n old)) ids)

-- and so do their tables
walked_tables : (history : List RecordedFiring) (old new : List Goal) → AreFirst old new → take (length new - 1) (tables_of (dependencies_from history 2 (drop 1 old))) ≡ tables_of (dependencies_from history 2 (drop 1 new))
walked_tables history old new first = take-map table_of (length new - 1) (dependencies_from history 2 (drop 1 old)) ∙ ap tables_of (walked_depends history old new first)

in_take : (n : ℕ) (s : Sym) (ids : List Sym) → IsIn s (take n ids) → IsIn s ids
in_take zero s ids is = absurd is
in_take (suc n) s [] is = absurd is
in_take (suc n) s (t ∷ ids) (inl e) = inl e
in_take (suc n) s (t ∷ ids) (inr is) = inr (in_take n s ids is)

id_in : (g : Goal) (goals : List Goal) → IsIn g goals → IsIn g.id (goal_ids goals)
id_in g [] is = absurd is
id_in g (first ∷ goals) (inl e) = inl (ap (λ (x : Goal). x.id) e)
id_in g (first ∷ goals) (inr is) = inr (id_in g goals is)

numbered_left : (words : Texts) (letters : List ℕ) (old new : List Goal) → AreFirst old new → AreGoalsKnown words letters old → (g : Goal) → IsIn g new → IsNumbered letters g.id
numbered_left words letters old new first known g is =
    let there = at_goal old g.id (in_take (length new) g.id (goal_ids old) (subst (IsIn g.id) first.identifiers (id_in g new is))) in
    subst (IsNumbered letters) there.2 (known there.0 there.1).id_numbered

-- a probability of at most 1
pub fraction_of : (m : Mode) → IsTrue (is_fraction m) → IsFraction m
fraction_of mode.First h = tt
fraction_of mode.Last h = tt
fraction_of mode.Softmax h = tt
fraction_of (mode.EpsilonGreedy p q) h = by (nat_le 1 q) (nat_le p q) refl refl h
  where
    by : (b c : Bool) → nat_le 1 q ≡ b → nat_le p q ≡ c → IsTrue (b && c) → (0 < q) × (p ≤ q)
    by true true some most t = (grind arith, grind arith)
    by true false some most t = absurd (cc)
    by false c some most t = absurd (cc)

-- what the walk looks at, with random words that are those of the parts
abbrev pub view_with : PartsKept → List ℕ → View
view_with a random = record (view_of (agent_of a [])) { random = random }

-- ---- the parts

-- what stays, with the tags and firings of the goals that are left
abbrev pub with_walked : PartsKept → List Goal → List (List ℕ) → PreferenceMemory → Firings → PartsKept
with_walked a goals depends prefs live = record a { goals = goals; depends = depends; prefs = prefs; live = live }

-- what went with the other goals
pub record HasLeft (a : PartsKept) (goals : List Goal) (depends : List (List ℕ)) (prefs : PreferenceMemory) (live : Firings) : Type 0 where
  pub depends_are : depends ≡ take (length goals - 1) a.depends
  pub prefs_are : prefs ≡ record a.prefs { rows = without_firings a.prefs.rows (numbers_of (live_from (suc (length goals)) (map live_seen a.live.list))) }
  pub live_are : map live_seen live.list ≡ live_above (suc (length goals)) (map live_seen a.live.list)

pub has_left : (a : PartsKept) (goals : List Goal) (left : ℕ) (depends : List (List ℕ)) (prefs : PreferenceMemory) (live : Firings) → left ≡ length goals → depends ≡ take (left - 1) a.depends
    → prefs ≡ record a.prefs { rows = without_firings a.prefs.rows (numbers_of (live_from (left + 1) (map live_seen a.live.list))) } → map live_seen live.list ≡ live_above (left + 1) (map live_seen a.live.list)
    → HasLeft a goals depends prefs live
has_left a goals left depends prefs live is depends_is prefs_is live_is =
    let next : left + 1 ≡ suc (length goals) = omega (arith, is) in
    record {
      depends_are = depends_is ∙ ap (λ n. take (n - 1) a.depends) is;
      prefs_are = prefs_is ∙ ap (λ n. record a.prefs { rows = without_firings a.prefs.rows (numbers_of (live_from n (map live_seen a.live.list))) }) next;
      live_are = live_is ∙ ap (λ n. live_above n (map live_seen a.live.list)) next;
    }

-- the makers of the selections are roots
abbrev pub AreRooted : PartsKept → List Goal → Type 0
AreRooted a goals = (g : Goal) → IsIn g goals → (n : ℕ) → IsIn n (makers_of_goal g) → IsIn n (roots_in a)

-- no explanation begins elsewhere
walked_roots : (a : PartsKept) (goals : List Goal) (depends : List (List ℕ)) (prefs : PreferenceMemory) (live : Firings) → HasLeft a goals depends prefs live → AreRooted a goals
    → (n : ℕ) → IsIn n (roots_in (with_walked a goals depends prefs live)) → IsIn n (roots_in a)
walked_roots a goals depends prefs live left =
    let gone = numbers_of (live_from (suc (length goals)) (map live_seen a.live.list)) in
    let rows = ap (λ (p : PreferenceMemory). p.rows) left.prefs_are in
    each_root (λ n. IsIn n (roots_in a)) (map live_seen live.list) prefs.rows goals
    (λ l is. root_of_live (map live_seen a.live.list) a.prefs.rows a.goals l (filter_within (λ (x : LiveFiring). nat_lt x.depth (suc (length goals))) (map live_seen a.live.list) l (subst (IsIn l) left.live_are is)))
    (λ row is. root_of_row (map live_seen a.live.list) a.prefs.rows a.goals row (filter_within (λ r. not (is_of_gone gone r)) a.prefs.rows row (subst (IsIn row) rows is)))

walked_remembers : (a : PartsKept) (history : List RecordedFiring) (goals : List Goal) (depends : List (List ℕ)) (prefs : PreferenceMemory) (live : Firings) → AreFirst a.goals goals → HasLeft a goals depends prefs live
    → AreRooted a goals → Remembers a history → Remembers (with_walked a goals depends prefs live) history
walked_remembers a history goals depends prefs live first left rooted r = record {
  is_record =
      fewer_roots_need_less (recorded a.past) (firings_in history) (roots_in a) (roots_in (with_walked a goals depends prefs live)) (walked_roots a goals depends prefs live left rooted) r.is_record;
  makers_kept = r.makers_kept;
  numbers_given = r.numbers_given;
  makers_earlier = r.makers_earlier;
  depends_are = left.depends_are ∙ ap (take (length goals - 1)) r.depends_are ∙ walked_tables history a.goals goals first;
  goals_numbered = r.goals_numbered;
}

pub walked_stands : (a : PartsKept) (goals : List Goal) (depends : List (List ℕ)) (prefs : PreferenceMemory) (live : Firings) → AreFirst a.goals goals → HasLeft a goals depends prefs live
    → AreRooted a goals → ((history : List RecordedFiring) → goals ≡ (walk_of (agent_of a history)).goals)
    → (s : Agent) → Stands a s → Stands (with_walked a goals depends prefs live) (walked_state s (walk_of s))
walked_stands a goals depends prefs live first left rooted walked_to =
    of_each_state (λ (s : Agent). Stands (with_walked a goals depends prefs live) (walked_state s (walk_of s))) a
    (λ history remembers. stands_for (with_walked a goals depends prefs live) history (walked_state (agent_of a history) (walk_of (agent_of a history)))
    (walked_remembers a history goals depends prefs live first left rooted remembers)
    ((λ k. record (agent_of a history) { holding = record (agent_of a history).holding { goals = goals; rows = (left.prefs_are k).rows; live = left.live_are k } })
    ∙ ap (λ (gs : List Goal). walked_state (agent_of a history) (record (walk_of (agent_of a history)) { goals = gs })) (walked_to history)))

pub walked_sound : (a : PartsKept) (goals : List Goal) (depends : List (List ℕ)) (prefs : PreferenceMemory) (live : Firings) → RetractedKeepRange → IsSound a → AreFirst a.goals goals → HasLeft a goals depends prefs live
    → AreListKnown a.table goals → AreSelectionsKnown a.table goals → AreMakersUpTo a.firings goals → IsToSettle (with_walked a goals depends prefs live)
walked_sound a goals depends prefs live range sound first left known selections makers =
    let gone = numbers_of (live_from (suc (length goals)) (map live_seen a.live.list)) in
    let rows = ap (λ (p : PreferenceMemory). p.rows) left.prefs_are in
    let limit = ap (λ (p : PreferenceMemory). p.limit) left.prefs_are in
    record {
      goals_some = first.some;
      goals_few = omega (arith, first.few, sound.goals_few);
      goals_known = each_known a.table a.letters goals known selections (numbered_left a.table a.letters a.goals goals first sound.goals_known);
      depends_fit = omega (arith, ap length left.depends_are, length-take (length goals - 1) a.depends, first.some, first.few, sound.depends_fit);
      doubted = subst (λ (tables : List (List ℕ)). AreDoubted tables a.memory.elements a.kept.triples a.doubted) (sym left.depends_are)
          (doubted_first (length goals - 1) a.depends a.memory.elements a.kept.triples a.doubted sound.doubted);
      element_limit = sound.element_limit;
      row_limit = limit ∙ sound.row_limit;
      few_rows = omega (arith, ap length rows, filter_shorter (λ r. not (is_of_gone gone r)) a.prefs.rows, limit, sound.few_rows);
      rows_in_range = subst AreInRange (sym rows) (range a.prefs.rows gone sound.rows_in_range);
      rows_of_firings = λ row is. sound.rows_of_firings row (filter_within (λ r. not (is_of_gone gone r)) a.prefs.rows row (subst (IsIn row) rows is));
      makers_of_firings = each_maker a.firings goals makers;
      recorded_up_to = sound.recorded_up_to;
      makers_earlier = sound.makers_earlier;
      first_words = sound.first_words;
      top_numbered = sound.top_numbered;
      numbered = sound.numbered;
      numbers_given = sound.numbers_given;
      rules_known = sound.rules_known;
      elements_known = sound.elements_known;
      rows_known = subst (AreRowsKnown a.table) (sym rows) (rows_filtered a.table (λ r. not (is_of_gone gone r)) a.prefs.rows sound.rows_known);
      inputs_known = sound.inputs_known;
      queue_known = sound.queue_known;
      output_known = sound.output_known;
      live_known = subst (AreLiveKnown a.table) (sym left.live_are) (live_filter a.table (λ l. nat_lt l.depth (suc (length goals))) (map live_seen a.live.list) sound.live_known);
      live_given = λ l is. sound.live_given l (filter_within (λ (m : LiveFiring). nat_lt m.depth (suc (length goals))) (map live_seen a.live.list) l (subst (IsIn l) left.live_are is));
      kept_up = kept_renewed a.prefs prefs a.inputs a.changed a.kept a.memory.elements (ap (λ (p : PreferenceMemory). p.settled) left.prefs_are) sound.kept_up;
      kept_ids = refl;
      past_named = sound.past_named;
      chains_known = sound.chains_known;
      chains_kept = sound.chains_kept;
    }
