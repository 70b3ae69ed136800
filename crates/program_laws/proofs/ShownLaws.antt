-- What an explanation shows is of the firings from which it is found.
use Rattle.std.proofs.Common.{◌≡◌, refl, ap, subst, ℕ, ◌==◌, inl, inr, List, [], ◌∷◌, ◌++◌, map, flat_map, filter}
use Rattle.std.specs.Prelude.{not}
use Rattle.soar_sym.specs.Words.{IsKnown}
use Rattle.soar_sym.specs.declared.symbol.Sym.{Sym}
use Rattle.soar_rule.specs.Symbols.{AreKnown}
use Rattle.soar_wm.specs.declared.element.Element.{Element}
use Rattle.chain_texts.specs.Shown.{shown_symbols, symbols_of_step}
use Rattle.defs_soar.specs.declared.firing.How.{How}
use Rattle.defs_soar.specs.declared.firing.How.TheVariants as how
use Rattle.defs_soar.specs.declared.firing.Used.{Used}
use Rattle.defs_soar.specs.declared.preference.Preference.{Preference}
use Rattle.defs_soar.specs.declared.preference.Wish.{Wish}
use Rattle.defs_soar.specs.Agents.{Agent}
use Rattle.defs_soar.specs.Dependencies.{symbols_of_wish}
use Rattle.defs_soar.specs.Explanation.{architecture_of, as_item_step, as_select_step, by_tag, chain_of, explaining, firing_of, firing_steps, is_seen, item_of, namings_in_order, selection_of, TagNaming}
use Rattle.defs_soar.specs.History.{architecture_step, ChainOf, fire_step, FiringOf, item_step, select_step, StepOf}
use Rattle.defs_soar.specs.Laws.{IsIn}
use Rattle.defs_soar.specs.Results.{results_of}
use Rattle.defs_soar.specs.Ungrounded.{symbols_of_element}
use Rattle.defs_soar.specs.WaveAtHand.{all_fresh, BeforeWave, Fresh, Wave}
use Rattle.defs_soar.specs.WaveFirings.{before_wave}
use Rattle.learning_laws.specs.LawfulAgents.{firings_of_agent, IsLawfulAgent}
use Rattle.learning_laws.specs.LawfulWaves.{explained_in, fresh_firings, IsLawfulWave}
use Rattle.learning_laws.specs.Record.{used_elements}
use Rattle.learning_laws.proofs.JustificationJoins.{ground_known, results_given}
use Rattle.learning_laws.proofs.Lists.{filter_within, in_append, in_flat_map, in_flat_mapped, in_map, in_mapped}
use Rattle.learning_laws.proofs.StepLaws.{from_namings, from_tags}
use Rattle.learning_laws.proofs.WaveLearning.{past_in}
use Rattle.program_laws.proofs.KnownEvents.{known_all}

-- ---- elements of uses

from_architecture : (e f : Element) (k : How) → IsIn f (architecture_of (record { element = e; how = k })) → e ≡ f
from_architecture e f how.Architecture (inl q) = q
from_architecture e f how.Architecture (inr i) = absurd i
from_architecture e f how.Upper i = absurd i
from_architecture e f (how.Item tag) i = absurd i
from_architecture e f (how.Selected tag) i = absurd i
from_architecture e f (how.Made n) i = absurd i

from_item : (e : Element) (n : TagNaming) (k : How) → IsIn n (item_of (record { element = e; how = k })) → e ≡ n.element
from_item e n (how.Item tag) (inl q) = ap (λ (x : TagNaming). x.element) q
from_item e n (how.Item tag) (inr i) = absurd i
from_item e n how.Upper i = absurd i
from_item e n how.Architecture i = absurd i
from_item e n (how.Selected tag) i = absurd i
from_item e n (how.Made m) i = absurd i

from_selected : (e : Element) (n : TagNaming) (k : How) → IsIn n (selection_of (record { element = e; how = k })) → e ≡ n.element
from_selected e n (how.Selected tag) (inl q) = ap (λ (x : TagNaming). x.element) q
from_selected e n (how.Selected tag) (inr i) = absurd i
from_selected e n how.Upper i = absurd i
from_selected e n how.Architecture i = absurd i
from_selected e n (how.Item tag) i = absurd i
from_selected e n (how.Made m) i = absurd i

-- the element of a use is one that the firings used
used_by : (firings : List FiringOf) (f : FiringOf) (u : Used) (e : Element) → IsIn f firings → IsIn u f.used → u.element ≡ e → IsIn e (used_elements firings)
used_by firings f u e i j q =
    in_flat_mapped (λ (g : FiringOf). map (λ (u : Used). u.element) g.used) f e firings i (subst (λ x. IsIn x (map (λ (u : Used). u.element) f.used)) q (in_mapped (λ (u : Used). u.element) u f.used j))

more_used : (firings more : List FiringOf) → ((f : FiringOf) → IsIn f firings → IsIn f more) → (e : Element) → IsIn e (used_elements firings) → IsIn e (used_elements more)
more_used firings more all e i =
    let f = in_flat_map (λ (g : FiringOf). map (λ (u : Used). u.element) g.used) e firings i in
    in_flat_mapped (λ (g : FiringOf). map (λ (u : Used). u.element) g.used) f.0 e more (all f.0 f.1) f.2

-- ---- steps

-- a step is of one of the firings, or of an element that they used
abbrev pub IsOf : List FiringOf → StepOf → Type 0
IsOf firings (architecture_step e) = IsIn e (used_elements firings)
IsOf firings (item_step e tag) = IsIn e (used_elements firings)
IsOf firings (select_step e tag) = IsIn e (used_elements firings)
IsOf firings (fire_step f) = IsIn f firings

of_more : (firings more : List FiringOf) → ((f : FiringOf) → IsIn f firings → IsIn f more) → (t : StepOf) → IsOf firings t → IsOf more t
of_more firings more all (architecture_step e) i = more_used firings more all e i
of_more firings more all (item_step e tag) i = more_used firings more all e i
of_more firings more all (select_step e tag) i = more_used firings more all e i
of_more firings more all (fire_step f) i = all f i

firing_steps_of : (seen : List TagNaming) (firings : List FiringOf) (t : StepOf) → IsIn t (firing_steps seen firings) → IsOf firings t
firing_steps_of seen [] t i = absurd i
firing_steps_of seen (f ∷ firings) t i =
    let new = filter (λ n. not (is_seen seen n)) (namings_in_order (flat_map selection_of f.used)) in
    elim (in_append t (map as_select_step new) (fire_step f ∷ firing_steps (seen ++ new) firings) i) [
      | inl j ↦
          let n = in_map as_select_step t new j in
          let among = (filter_within (λ n. not (is_seen seen n)) (namings_in_order (flat_map selection_of f.used)) n.0 n.1).0 in
          let u = in_flat_map selection_of n.0 f.used (from_namings (flat_map selection_of f.used) n.0 among) in
          subst (IsOf (f ∷ firings)) n.2 (used_by (f ∷ firings) f u.0 n.0.element (inl refl) u.1 (from_selected u.0.element n.0 u.0.how u.2))
      | inr j ↦ elim j [
        | inl q ↦ subst (IsOf (f ∷ firings)) q (inl refl)
        | inr k ↦ of_more firings (f ∷ firings) (λ g l. inr l) t (firing_steps_of (seen ++ new) firings t k)
      ]
    ]

steps_of : (firings : List FiringOf) (roots : List ℕ) (results : List Wish) (t : StepOf) → IsIn t (chain_of firings roots results).steps → IsOf firings t
steps_of firings roots results t i =
    elim (in_append t architecture (items ++ firing_steps [] explained) i) [
      | inl j ↦
          let e = in_map architecture_step t (by_tag (flat_map architecture_of uses)) j in
          let u = in_flat_map architecture_of e.0 uses (from_tags (flat_map architecture_of uses) e.0 e.1) in
          subst (IsOf firings) e.2 (of_use u.0 e.0 u.1 (from_architecture u.0.element e.0 u.0.how u.2))
      | inr j ↦ elim (in_append t items (firing_steps [] explained) j) [
        | inl k ↦
            let n = in_map as_item_step t (namings_in_order (flat_map item_of uses)) k in
            let u = in_flat_map item_of n.0 uses (from_namings (flat_map item_of uses) n.0 n.1) in
            subst (IsOf firings) n.2 (of_use u.0 n.0.element u.1 (from_item u.0.element n.0 u.0.how u.2))
        | inr k ↦ of_more explained firings among t (firing_steps_of [] explained t k)
      ]
    ]
  where
    explained : List FiringOf
    explained = flat_map (firing_of firings) (explaining firings roots)

    uses : List Used
    uses = flat_map (λ f. f.used) explained

    architecture : List StepOf
    architecture = map architecture_step (by_tag (flat_map architecture_of uses))

    items : List StepOf
    items = map as_item_step (namings_in_order (flat_map item_of uses))

    among : (f : FiringOf) → IsIn f explained → IsIn f firings
    among f j = let n = in_flat_map (firing_of firings) f (explaining firings roots) j in (filter_within (λ g. g.number == n.0) firings f n.2).0

    of_use : (u : Used) (e : Element) → IsIn u uses → u.element ≡ e → IsIn e (used_elements firings)
    of_use u e j q = let f = in_flat_map (λ (g : FiringOf). g.used) u explained j in used_by firings f.0 u e (among f.0 f.1) f.2 q

-- ---- in a lawful wave

module _ (a : Agent) (w : Wave) (x : Fresh) (h : IsLawfulAgent a) (k : IsLawfulWave a w) (i : IsIn x (all_fresh w.entries)) where
  abbrev m : BeforeWave
  m = before_wave a

  abbrev c : ChainOf
  c = (explained_in a w x.firing).chain

  abbrev all : List FiringOf
  all = firings_of_agent a ++ fresh_firings w

  abbrev rows : List Preference
  rows = results_of w.names.words m.reach m.rows x.firing

  element_known : (e : Element) → IsIn e (used_elements all) → (s : Sym) → IsIn s (symbols_of_element e) → IsKnown w.names.words s
  element_known e j s y = (k.founded.elements.given e (k.founded.elements.used e j) s y).0

  module _ (names : (f : FiringOf) → IsIn f all → IsKnown w.names.words f.name) where
    fired_known : (f : FiringOf) → IsIn f all → (s : Sym) → IsIn s (f.name ∷ flat_map symbols_of_wish f.made) → IsKnown w.names.words s
    fired_known f j s (inl q) = subst (IsKnown w.names.words) q (names f j)
    fired_known f j s (inr y) = (k.founded.symbols.made f j s y).0

    step_known : (t : StepOf) → IsOf all t → (s : Sym) → IsIn s (symbols_of_step t) → IsKnown w.names.words s
    step_known (architecture_step e) j s y = element_known e j s y
    step_known (item_step e tag) j s y = element_known e j s y
    step_known (select_step e tag) j s y = element_known e j s y
    step_known (fire_step f) j s y = fired_known f j s y

    one_shown : (s : Sym) → IsIn s (shown_symbols c) → IsKnown w.names.words s
    one_shown s j =
        elim (in_append s (flat_map symbols_of_element c.grounds) (flat_map symbols_of_step c.steps ++ flat_map symbols_of_wish c.results) j) [
          | inl y ↦ let e = in_flat_map symbols_of_element s c.grounds y in ground_known a w x h k i e.0 e.1 s e.2
          | inr y ↦ elim (in_append s (flat_map symbols_of_step c.steps) (flat_map symbols_of_wish c.results) y) [
            | inl z ↦
                let t = in_flat_map symbols_of_step s c.steps z in
                step_known t.0
                (of_more (firings_of_agent a ++ x.firing ∷ []) all (past_in a w x h k i) t.0
                (steps_of (firings_of_agent a ++ x.firing ∷ []) (x.firing.number ∷ map (λ row. row.firing) rows) (map (λ row. row.wish) rows) t.0 t.1)) s t.2
            | inr z ↦ (results_given a w x h k i s z).0
          ]
        ]

    -- what the explanation shows is known
    pub shown_known : AreKnown w.names.words (shown_symbols c)
    shown_known = known_all w.names.words (shown_symbols c) one_shown
