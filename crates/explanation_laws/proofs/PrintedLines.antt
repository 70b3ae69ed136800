-- Explanations are printed as they were.
use Rattle.std.proofs.Common.{◌≡◌, refl, ◌∙◌, ap, ℕ, ◌≤◌, ◌<◌, Bool, true, false, cond, ◌⊎◌, inl, inr, arith, List, [], ◌∷◌, ◌++◌, map, flat_map, drop, Some, None, codes}
use Rattle.std.proofs.lemmas.List.{append_cancel_right}
use Rattle.std.specs.Fmt.{decimal}
use Rattle.soar_sym.specs.Words.{IsKnown, Texts}
use Rattle.soar_sym.specs.declared.symbol.Sym.{Sym}
use Rattle.soar_rule.specs.Symbols.{AreKnown}
use Rattle.soar_wm.specs.declared.element.Element.{Element}
use Rattle.defs_match.specs.Rules.{RuleOf}
use Rattle.defs_match.specs.declared.instance.Instance.{Instance}
use Rattle.defs_soar.specs.declared.preference.Wish.{Wish}
use Rattle.defs_soar.specs.Dependencies.{symbols_of_wish}
use Rattle.defs_soar.specs.Events.{by_instance, comes, fires, makes_wish}
use Rattle.defs_soar.specs.History.{architecture_step, fire_step, item_step, select_step, StepOf}
use Rattle.defs_soar.specs.Laws.{IsIn}
use Rattle.defs_soar.specs.Texts.{chain_lines, firing_text, step_lines, tagged_text, wish_text}
use Rattle.defs_soar.specs.Trace.{bare, line, Piece}
use Rattle.defs_soar.specs.Ungrounded.{symbols_of_element}
use Rattle.trace_laws.proofs.EventLemmas.{events_keep}
use Rattle.trace_laws.proofs.TableLemmas.{symbols_keep}
use Rattle.chain_texts.specs.Shown.{symbols_of_step}
use Rattle.chain_texts.proofs.KnownLemmas.{wish_known}
use Rattle.defs_run.specs.Carrying.{chain_of_rule, explained, is_named, rule_named}
use Rattle.defs_run.specs.Inputs.{Carried, does, refuses}
use Rattle.defs_run.specs.Orders.{no_production}
use Rattle.defs_run.specs.Sessions.{first_session, says}
use Rattle.learning_laws.specs.Lawful.{Grown}
use Rattle.learning_laws.proofs.Lists.{in_left, in_right}
use Rattle.program_laws.proofs.KnownEvents.{known_all, known_each}
use Rattle.explanation_laws.specs.Printed.{ExplainedFromTheStart, ExplanationsStay, LaterHasIt, LaterPrints, LinesStay, PrintedLinesStay}
use Rattle.explanation_laws.specs.Staying.{HasStayed}
use Rattle.explanation_laws.specs.Stays.{after_commands}
use Rattle.explanation_laws.proofs.CycleStays.{first_session_is_numbered}
use Rattle.explanation_laws.proofs.OrderStays.{all_commands_stay}

-- ---- lines with a longer table

abbrev piece_text : Piece → List ℕ
piece_text (line level text) = text
piece_text (bare text) = text

module _ (words later : Texts) (grown : Grown words later) where
  front : (xs ys : List Sym) → AreKnown words (xs ++ ys) → AreKnown words xs
  front xs ys h = known_all words xs (λ s i. known_each words (xs ++ ys) h s (in_left s xs ys i))

  back : (xs ys : List Sym) → AreKnown words (xs ++ ys) → AreKnown words ys
  back xs ys h = known_all words ys (λ s i. known_each words (xs ++ ys) h s (in_right s xs ys i))

  -- as the trace tells of the element, the preference and the firing
  tagged : (e : Element) → AreKnown words (symbols_of_element e) → tagged_text later e ≡ tagged_text words e
  tagged e h = ap (λ p. drop 2 (piece_text p)) (events_keep words later (comes e) (h.0, h.1.0, h.1.1.0) grown)

  wish : (w : Wish) → AreKnown words (symbols_of_wish w) → wish_text later w ≡ wish_text words w
  wish w h =
      append_cancel_right (wish_text later w) (wish_text words w) (codes " i")
      (ap (λ p. drop 2 (piece_text p)) (events_keep words later (makes_wish w by_instance) (wish_known words w h) grown))

  firing : (number : ℕ) (name : Sym) (i : Instance) → IsKnown words name → firing_text later number name i ≡ firing_text words number name i
  firing number name i h = ap piece_text (events_keep words later (fires number name i) h grown)

  grounds : (es : List Element) → AreKnown words (flat_map symbols_of_element es)
      → map (λ e. codes "ground " ++ tagged_text later e) es ≡ map (λ e. codes "ground " ++ tagged_text words e) es
  grounds [] h = refl
  grounds (e ∷ es) h =
      λ k. (codes "ground " ++ tagged e (front (symbols_of_element e) (flat_map symbols_of_element es) h) k) ∷ grounds es (back (symbols_of_element e) (flat_map symbols_of_element es) h) k

  wishes : (mark : List ℕ) (ws : List Wish) → AreKnown words (flat_map symbols_of_wish ws) → map (λ w. mark ++ wish_text later w) ws ≡ map (λ w. mark ++ wish_text words w) ws
  wishes mark [] h = refl
  wishes mark (w ∷ ws) h =
      λ k. (mark ++ wish w (front (symbols_of_wish w) (flat_map symbols_of_wish ws) h) k) ∷ wishes mark ws (back (symbols_of_wish w) (flat_map symbols_of_wish ws) h) k

  step : (s : StepOf) → AreKnown words (symbols_of_step s) → step_lines later s ≡ step_lines words s
  step (architecture_step e) h = λ k. (codes "architecture " ++ tagged e h k) ∷ []
  step (item_step e tag) h = λ k. (codes "item " ++ (tagged e h k ++ (codes " by " ++ decimal tag))) ∷ []
  step (select_step e tag) h = λ k. (codes "select " ++ (tagged e h k ++ (codes " by " ++ decimal tag))) ∷ []
  step (fire_step f) h = λ k. firing f.number f.name f.instance h.0 k ∷ wishes (codes "  ") f.made h.1 k

  steps : (ss : List StepOf) → AreKnown words (flat_map symbols_of_step ss) → flat_map (step_lines later) ss ≡ flat_map (step_lines words) ss
  steps [] h = refl
  steps (s ∷ ss) h =
      λ k. step s (front (symbols_of_step s) (flat_map symbols_of_step ss) h) k ++ steps ss (back (symbols_of_step s) (flat_map symbols_of_step ss) h) k

pub lines_stay : LinesStay
unfolding chain_lines
lines_stay words later name c known grown =
    let from_grounds = flat_map symbols_of_element c.grounds in
    let from_steps = flat_map symbols_of_step c.steps in
    let from_results = flat_map symbols_of_wish c.results in
    let others = back words later grown from_grounds (from_steps ++ from_results) known.1 in
    let first = symbols_keep words later name known.0 grown in
    let second = grounds words later grown c.grounds (front words later grown from_grounds (from_steps ++ from_results) known.1) in
    let third = steps words later grown c.steps (front words later grown from_steps from_results others) in
    let fourth = wishes words later grown (codes "result ") c.results (back words later grown from_steps from_results others) in
    λ k. (codes "explain " ++ first k) ∷ (second k ++ (third k ++ (fourth k ++ (codes "end" ∷ []))))

-- ---- what is printed

named_there : (rules : List RuleOf) (name : Sym) (r : RuleOf) → rule_named rules name ≡ Some r → IsIn r rules
named_there [] name r q = absurd (cc)
named_there (rule ∷ rules) name r q = go (is_named name rule) (named_there rules name r) q
  where
    go : (b : Bool) → (rule_named rules name ≡ Some r → IsIn r rules) → cond b (Some rule) (rule_named rules name) ≡ Some r → (rule ≡ r) ⊎ IsIn r rules
    go true later e = inl (cc)
    go false later e = inr (later e)

pub later_has_it : LaterHasIt
later_has_it p q r c h k there = record { numbered = k.numbered; there = there; is = stayed (k.rules r there) ∙ h.is }
  where
    stayed : HasStayed p q r ⊎ (p.last_rule < r.number) → chain_of_rule q.chains r.number ≡ chain_of_rule p.chains r.number
    stayed (inl before) = before.same
    stayed (inr new) = let low : r.number ≤ p.last_rule = h.numbered.given r h.there in absurd (omega arith)

pub later_prints : LaterPrints
later_prints runs p s name r c h k named =
    let now = later_has_it p s.agent.program r c h k (named_there s.agent.program.rules name r named) in
    ap (λ o. elim o as (λ x. Carried) [ None ↦ refuses (no_production s.agent.names.words name) | Some rule ↦ explained s name (chain_of_rule s.agent.program.chains rule.number) ]) named
    ∙ ap (λ o. explained s name o) now.is

pub explanations_stay : ExplanationsStay
explanations_stay runs commands s name r c h named = later_prints runs s.agent.program (after_commands commands s) name r c h (all_commands_stay commands s h.numbered).0 named

pub explained_from_the_start : ExplainedFromTheStart
explained_from_the_start runs watch commands more name r c there is named =
    let s = after_commands commands (first_session watch) in
    explanations_stay runs more s name r c (record { numbered = (all_commands_stay commands (first_session watch) (first_session_is_numbered watch)).0.numbered; there = there; is = is }) named

pub printed_lines_stay : PrintedLinesStay
printed_lines_stay runs commands s name r c h known named =
    let t = after_commands commands s in
    explanations_stay runs commands s name r c h named
    ∙ ap (λ lines. does (says t lines)) (lines_stay s.agent.names.words t.agent.names.words name c known (all_commands_stay commands s h.numbered).1)
