-- What is sound stays so where a step changes rules and explanations, inputs, what waits, what is shown, or how many cycles there were.
use Rattle.std.proofs.Common.{◌≡◌, ℕ, ◌+◌, ◌<◌, ◌≤◌, Bool, true, false, ◌&&◌, ◌||◌, not, cond, List, [], ◌∷◌, ◌++◌, map, filter, sym, ap, subst, ◌==◌, ◌∙◌, arith, inl, inr, refl}
use Rattle.std.proofs.lemmas.List.{map-append}
use Rattle.std.specs.List.{list_any}
use Rattle.soar_sym.specs.Equality.{mark_eq, symbol_eq}
use Rattle.soar_sym.specs.Words.{Texts, IsKnown}
use Rattle.soar_sym.specs.declared.symbol.Sym.{Sym}
use Rattle.soar_sym.specs.declared.symbol.Triple.{Triple}
use Rattle.soar_sym.proofs.KeyLemmas.{symbol_turned}
use Rattle.soar_rule.specs.Productions.{ProductionOf}
use Rattle.soar_rule.specs.Symbols.{AreKnown, symbols_of}
use Rattle.defs_match.specs.Rules.{RuleOf, rule_seen}
use Rattle.defs_match.specs.declared.rule.Rule.{Rule}
use Rattle.defs_soar.specs.Agents.{Learnt}
use Rattle.defs_soar.specs.Values.{has_triple_among, triple_eq}
use Rattle.defs_run.specs.Carrying.{is_named}
use Rattle.soar_settle.specs.Known.{AreRulesKnown, AreTriplesKnown}
use Rattle.settling_laws.proofs.MemberLemmas.{any_more, filter_passes, filter_within}
use Rattle.settling_laws.proofs.OrderLemmas.{has_filtered}
use Rattle.soar_prefs.specs.Memory.{has_plain}
use Rattle.input_queue.specs.Seen.{triple_queued}
use Rattle.input_queue.specs.declared.queued.Queued.{Queued}
use Rattle.pending_work.specs.Firables.{AreNumbered}
use Rattle.decision_parts.specs.Knowing.{AreChainsKnown}
use Rattle.decision_parts.specs.Hands.{learned_rule_seen}
use Rattle.decision_parts.specs.LearnedRule.{LearnedRule}
use Rattle.decision_parts.specs.KeptUp.{IsKeptUp}
use Rattle.decision_parts.specs.Programs.{AreExplained}
use Rattle.decision_parts.specs.Seen.{AreUpTo, IsSound}
use Rattle.decision_parts.specs.Parts.{Parts as PartsKept}
use Rattle.decision_parts.proofs.KeptUpLemmas.{kept_covered}
use Rattle.cycle_parts.specs.Calls.{IsTripleGiven, IsTripleKnown, with_input}
use Rattle.cycle_parts.specs.Dropping.{AreDropped, is_of_name, unnamed, unnamed_chains}
use Rattle.cycle_parts.proofs.RuleLemmas.{numbered_filter, numbered_last, rules_filter, rules_last, up_to_filter, up_to_last}

abbrev changed : PartsKept → List Rule → ℕ → List LearnedRule → List Triple → List Triple → List Queued → ℕ → ℕ → List Triple → PartsKept
changed a rules last_rule chains inputs moved queue cycles learned output =
    record a { rules = rules; last_rule = last_rule; chains = chains; inputs = inputs; changed = moved; queue = queue; cycles = cycles; learned = learned; output = output }

-- what has to be true of the change
record IsSoundChange (words : Texts) (last : ℕ) (rules : List RuleOf) (last_rule : ℕ) (chains : List Learnt) (inputs queued output : List Triple) : Type 0 where
  more_given : last ≤ last_rule
  numbered : AreNumbered rules
  numbers_given : AreUpTo last_rule rules
  rules_known : AreRulesKnown words rules
  inputs_known : AreTriplesKnown words inputs
  queue_known : AreTriplesKnown words queued
  output_known : AreTriplesKnown words output
  chains_known : AreChainsKnown words chains
  chains_kept : AreExplained rules chains

still_sound : (a : PartsKept) (rules : List Rule) (last_rule : ℕ) (chains : List LearnedRule) (inputs moved : List Triple) (queue : List Queued) (cycles learned : ℕ) (output : List Triple) → IsSound a
    → IsSoundChange a.table a.last_rule (map rule_seen rules) last_rule (map learned_rule_seen chains) inputs (map triple_queued queue) output
    → IsKeptUp a.prefs inputs moved a.kept a.memory.elements → IsSound (changed a rules last_rule chains inputs moved queue cycles learned output)
still_sound a rules last_rule chains inputs moved queue cycles learned output sound change kept_up = record {
  goals_some = sound.goals_some;
  goals_few = sound.goals_few;
  goals_known = sound.goals_known;
  depends_fit = sound.depends_fit;
  doubted = sound.doubted;
  element_limit = sound.element_limit;
  row_limit = sound.row_limit;
  few_rows = sound.few_rows;
  rows_in_range = sound.rows_in_range;
  rows_of_firings = sound.rows_of_firings;
  makers_of_firings = sound.makers_of_firings;
  recorded_up_to = sound.recorded_up_to;
  makers_earlier = sound.makers_earlier;
  first_words = sound.first_words;
  top_numbered = sound.top_numbered;
  numbered = change.numbered;
  numbers_given = change.numbers_given;
  rules_known = change.rules_known;
  elements_known = sound.elements_known;
  rows_known = sound.rows_known;
  inputs_known = change.inputs_known;
  queue_known = change.queue_known;
  output_known = change.output_known;
  live_known = sound.live_known;
  live_given = λ l is. omega (arith, sound.live_given l is, change.more_given);
  past_named = sound.past_named;
  chains_known = change.chains_known;
  chains_kept = change.chains_kept;
  kept_up = kept_up;
  kept_ids = sound.kept_ids;
}

-- ---- inputs, what waits and what is shown

-- with the rules and explanations that there are
with_same_rules : (a : PartsKept) (inputs moved : List Triple) (queue : List Queued) (cycles learned : ℕ) (output : List Triple) → IsSound a
    → AreTriplesKnown a.table inputs → IsKeptUp a.prefs inputs moved a.kept a.memory.elements → AreTriplesKnown a.table (map triple_queued queue) → AreTriplesKnown a.table output
    → IsSound (changed a a.rules a.last_rule a.chains inputs moved queue cycles learned output)
with_same_rules a inputs moved queue cycles learned output sound inputs_known kept_up queue_known output_known =
    still_sound a a.rules a.last_rule a.chains inputs moved queue cycles learned output sound (record {
      more_given = omega arith;
      numbered = sound.numbered;
      numbers_given = sound.numbers_given;
      rules_known = sound.rules_known;
      inputs_known = inputs_known;
      queue_known = queue_known;
      output_known = output_known;
      chains_known = sound.chains_known;
      chains_kept = sound.chains_kept;
    }) kept_up

-- in a new cycle nothing waits, and nothing was learned
pub sound_in_cycle : (a : PartsKept) (inputs moved : List Triple) (cycles : ℕ) → IsSound a → AreTriplesKnown a.table inputs → IsKeptUp a.prefs inputs moved a.kept a.memory.elements
    → IsSound (record a { inputs = inputs; changed = moved; queue = []; cycles = cycles; learned = 0 })
sound_in_cycle a inputs moved cycles sound known kept_up = with_same_rules a inputs moved [] cycles 0 a.output sound known kept_up tt sound.output_known

abbrev pub with_inputs : PartsKept → List Triple → List Triple → PartsKept
with_inputs a inputs moved = record a { inputs = inputs; changed = moved }

pub sound_with_inputs : (a : PartsKept) (inputs moved : List Triple) → IsSound a → AreTriplesKnown a.table inputs → IsKeptUp a.prefs inputs moved a.kept a.memory.elements
    → IsSound (with_inputs a inputs moved)
sound_with_inputs a inputs moved sound known kept_up = with_same_rules a inputs moved a.queue a.cycles a.learned a.output sound known kept_up sound.queue_known sound.output_known

pub sound_with_output : (a : PartsKept) (output : List Triple) → IsSound a → AreTriplesKnown a.table output → IsSound (record a { output = output })
sound_with_output a output sound known = with_same_rules a a.inputs a.changed a.queue a.cycles a.learned output sound sound.inputs_known sound.kept_up sound.queue_known known

triples_filter : (p : Triple → Bool) (words : Texts) (triples : List Triple) → AreTriplesKnown words triples → AreTriplesKnown words (filter p triples)
triples_filter p words [] known = tt
triples_filter p words (t ∷ triples) known = by (p t) (triples_filter p words triples known.1)
  where
    by : (b : Bool) → AreTriplesKnown words (filter p triples) → AreTriplesKnown words (cond b (t ∷ filter p triples) (filter p triples))
    by true later = (known.0, later)
    by false later = later

triples_last : (words : Texts) (triples : List Triple) (t : Triple) → AreTriplesKnown words triples → IsKnown words t.id × IsKnown words t.attr × IsKnown words t.value
    → AreTriplesKnown words (triples ++ t ∷ [])
triples_last words [] t known one = (one, tt)
triples_last words (first ∷ triples) t known one = (known.0, triples_last words triples t known.1 one)

pub input_known : (words : Texts) (adds : Bool) (t : Triple) (inputs : List Triple) → AreTriplesKnown words inputs → IsTripleKnown words t → AreTriplesKnown words (with_input adds t inputs)
input_known words true t inputs known one = triples_last words inputs t known one
input_known words false t inputs known one = triples_filter (λ u. not (triple_eq u t)) words inputs known

-- another identifier, attribute or value makes another triple
never : (b : Bool) → (b && false) ≡ false
never true = refl
never false = refl

and_true : (b : Bool) → (b && true) ≡ b
and_true true = refl
and_true false = refl

other : (t u : Triple) → has_plain (t ∷ []) u ≡ false → triple_eq u t ≡ false
other t u h =
    by (symbol_eq t.id u.id) (symbol_eq t.attr u.attr) (symbol_eq t.value u.value) (symbol_eq u.id t.id) (symbol_eq u.attr t.attr) (symbol_eq u.value t.value)
    (symbol_turned t.id u.id) (symbol_turned t.attr u.attr) (symbol_turned t.value u.value) h
  where
    by : (a b c x y z : Bool) → a ≡ x → b ≡ y → c ≡ z → ((a && (b && c)) || false) ≡ false → (x && (y && (z && mark_eq u.accept t.accept))) ≡ false
    by true true true x y z p q r none = absurd (cc)
    by false b c x y z p q r none = ap (λ k. k && (y && (z && mark_eq u.accept t.accept))) (sym p)
    by true false c x y z p q r none = ap (λ k. x && (k && (z && mark_eq u.accept t.accept))) (sym q) ∙ never x
    by true true false x y z p q r none = ap (λ k. x && (y && (k && mark_eq u.accept t.accept))) (sym r) ∙ ap (λ k. x && k) (never y) ∙ never x

last_stays : (t u : Triple) (inputs : List Triple) → triple_eq u t ≡ false → has_triple_among (inputs ++ t ∷ []) u ≡ has_triple_among inputs u
last_stays t u [] h = ap (λ b. b || false) h
last_stays t u (x ∷ inputs) h = ap (λ b. triple_eq u x || b) (last_stays t u inputs h)

rest_stays : (t u : Triple) (inputs : List Triple) → triple_eq u t ≡ false → has_triple_among (filter (λ x. not (triple_eq x t)) inputs) u ≡ has_triple_among inputs u
rest_stays t u inputs h = has_filtered (λ x. not (triple_eq x t)) inputs u ∙ ap (λ b. has_triple_among inputs u && not b) h ∙ and_true (has_triple_among inputs u)

-- but for the triple itself the same inputs are there
others_stay : (t u : Triple) (inputs : List Triple) → has_plain (t ∷ []) u ≡ false → (adds : Bool) → has_triple_among (with_input adds t inputs) u ≡ has_triple_among inputs u
others_stay t u inputs h true = last_stays t u inputs (other t u h)
others_stay t u inputs h false = rest_stays t u inputs (other t u h)

pub input_kept_up : (a : PartsKept) (inputs moved : List Triple) (adds : Bool) (t : Triple) → IsSound a → inputs ≡ with_input adds t a.inputs → moved ≡ a.changed ++ t ∷ []
    → IsKeptUp a.prefs inputs moved a.kept a.memory.elements
input_kept_up a inputs moved adds t sound are named =
    subst (λ (ms : List Triple). IsKeptUp a.prefs inputs ms a.kept a.memory.elements) (sym named)
    (kept_covered a.prefs a.inputs inputs a.changed (t ∷ []) a.kept a.memory.elements (λ u h. ap (λ (l : List Triple). has_triple_among l u) are ∙ others_stay t u a.inputs h adds) sound.kept_up)

-- so it is where the queued changes were made
pub queued_kept_up : (a : PartsKept) (inputs moved : List Triple) → IsSound a → ((u : Triple) → has_plain (map triple_queued a.queue) u ≡ false → has_triple_among inputs u ≡ has_triple_among a.inputs u)
    → moved ≡ a.changed ++ map triple_queued a.queue → IsKeptUp a.prefs inputs moved a.kept a.memory.elements
queued_kept_up a inputs moved sound covers named =
    subst (λ (ms : List Triple). IsKeptUp a.prefs inputs ms a.kept a.memory.elements) (sym named)
    (kept_covered a.prefs a.inputs inputs a.changed (map triple_queued a.queue) a.kept a.memory.elements covers sound.kept_up)

-- what was given is known
pub given_known : (a : PartsKept) (t : Triple) → IsTripleGiven a t → IsTripleKnown a.table t
given_known a t given = ((given t.id (inl refl)).0, (given t.attr (inr (inl refl))).0, (given t.value (inr (inr (inl refl)))).0)

pub sound_queued : (a : PartsKept) (queue : List Queued) (q : Queued) → IsSound a → IsTripleKnown a.table q.triple → queue ≡ a.queue ++ q ∷ [] → IsSound (record a { queue = queue })
sound_queued a queue q sound known are =
    let seen : map triple_queued queue ≡ map triple_queued a.queue ++ q.triple ∷ [] = ap (map triple_queued) are ∙ map-append triple_queued a.queue (q ∷ []) in
    with_same_rules a a.inputs a.changed queue a.cycles a.learned a.output sound sound.inputs_known sound.kept_up
    (subst (AreTriplesKnown a.table) (sym seen) (triples_last a.table (map triple_queued a.queue) q.triple sound.queue_known known)) sound.output_known

-- ---- rules

-- with the inputs, what waits and what is shown
with_other_rules : (a : PartsKept) (rules : List Rule) (last_rule : ℕ) (chains : List LearnedRule) (are : List RuleOf) (explained : List Learnt) → IsSound a
    → map rule_seen rules ≡ are → map learned_rule_seen chains ≡ explained → a.last_rule ≤ last_rule → AreNumbered are → AreUpTo last_rule are → AreRulesKnown a.table are → AreChainsKnown a.table explained
    → AreExplained are explained → IsSound (record a { rules = rules; last_rule = last_rule; chains = chains })
with_other_rules a rules last_rule chains are explained sound is chains_are more numbered given known chains_known chains_kept =
    still_sound a rules last_rule chains a.inputs a.changed a.queue a.cycles a.learned a.output sound (record {
      more_given = more;
      numbered = subst AreNumbered (sym is) numbered;
      numbers_given = subst (AreUpTo last_rule) (sym is) given;
      rules_known = subst (AreRulesKnown a.table) (sym is) known;
      inputs_known = sound.inputs_known;
      queue_known = sound.queue_known;
      output_known = sound.output_known;
      chains_known = subst (AreChainsKnown a.table) (sym chains_are) chains_known;
      chains_kept = subst (λ rs. AreExplained rs (map learned_rule_seen chains)) (sym is) (subst (AreExplained are) (sym chains_are) chains_kept);
    }) sound.kept_up

fewer_chains : (words : Texts) (p : Learnt → Bool) (chains : List Learnt) → AreChainsKnown words chains → AreChainsKnown words (filter p chains)
fewer_chains words p chains known l is = known l (filter_within p chains l is)

-- what does not pass both tests, though it passes the first, is left
left_over : (p q : RuleOf → Bool) (rules : List RuleOf) → list_any p rules ≡ true → list_any (λ r. p r && q r) rules ≡ false → list_any p (filter (λ r. not (q r)) rules) ≡ true
left_over p q [] some none = some
left_over p q (rule ∷ rules) some none = go (p rule) (q rule) refl some none (left_over p q rules)
  where
    later : List RuleOf
    later = filter (λ r. not (q r)) rules

    go : (b c : Bool) → p rule ≡ b → (b || list_any p rules) ≡ true → ((b && c) || list_any (λ r. p r && q r) rules) ≡ false
        → (list_any p rules ≡ true → list_any (λ r. p r && q r) rules ≡ false → list_any p later ≡ true) → list_any p (cond (not c) (rule ∷ later) later) ≡ true
    go true true e some none left = absurd (cc)
    go true false e some none left = ap (λ b. b || list_any p later) e
    go false true e some none left = left some none
    go false false e some none left = ap (λ b. b || list_any p later) e ∙ left some none

untold : (b : Bool) → not b ≡ true → b ≡ false
untold true h = absurd (cc)
untold false h = refl

unnamed_explained : (name : Sym) (rules : List RuleOf) (chains : List Learnt) → AreExplained rules chains → AreExplained (unnamed name rules) (unnamed_chains name rules chains)
unnamed_explained name rules chains kept l is =
    left_over (λ (r : RuleOf). r.number == l.rule) (is_named name) rules (kept l (filter_within (λ learnt. not (is_of_name name rules learnt.rule)) chains l is))
    (untold (is_of_name name rules l.rule) (filter_passes (λ learnt. not (is_of_name name rules learnt.rule)) chains l is))

-- without those of a name
pub sound_dropped : (a new : PartsKept) (name : Sym) → IsSound a → AreDropped a new name → IsSound new
sound_dropped a new name sound dropped =
    let p : RuleOf → Bool = λ rule. not (is_named name rule) in
    let old : List RuleOf = map rule_seen a.rules in
    let explained : List Learnt = map learned_rule_seen a.chains in
    subst IsSound (sym dropped.same)
    (with_other_rules a new.rules a.last_rule new.chains (unnamed name old) (unnamed_chains name old explained) sound dropped.rules_are dropped.chains_are (omega arith)
    (numbered_filter p old sound.numbered) (up_to_filter p a.last_rule old sound.numbers_given) (rules_filter p a.table old sound.rules_known)
    (fewer_chains a.table (λ learnt. not (is_of_name name old learnt.rule)) explained sound.chains_known) (unnamed_explained name old explained sound.chains_kept))

-- a production under the next number, behind those that do not have its name
pub sound_loaded : (a : PartsKept) (rules : List Rule) (number : ℕ) (chains : List LearnedRule) (production : ProductionOf) → IsSound a → AreKnown a.table (symbols_of production) → number ≡ a.last_rule + 1
    → map rule_seen rules ≡ unnamed production.name (map rule_seen a.rules) ++ record { number = number; production = production } ∷ []
    → map learned_rule_seen chains ≡ unnamed_chains production.name (map rule_seen a.rules) (map learned_rule_seen a.chains) → IsSound (record a { rules = rules; last_rule = number; chains = chains })
sound_loaded a rules number chains production sound known next are chains_are =
    let p : RuleOf → Bool = λ rule. not (is_named production.name rule) in
    let old : List RuleOf = map rule_seen a.rules in
    let explained : List Learnt = map learned_rule_seen a.chains in
    let rule : RuleOf = record { number = number; production = production } in
    let less : a.last_rule < number = omega arith in
    let given : AreUpTo a.last_rule (filter p old) = up_to_filter p a.last_rule old sound.numbers_given in
    with_other_rules a rules number chains (filter p old ++ rule ∷ []) (unnamed_chains production.name old explained) sound are chains_are (omega (arith, less))
    (numbered_last a.last_rule (filter p old) rule (numbered_filter p old sound.numbered) given less) (up_to_last a.last_rule (filter p old) rule given less)
    (rules_last a.table (filter p old) rule (rules_filter p a.table old sound.rules_known) known)
    (fewer_chains a.table (λ learnt. not (is_of_name production.name old learnt.rule)) explained sound.chains_known)
    (λ l is. any_more (λ (r : RuleOf). r.number == l.rule) (filter p old) (rule ∷ []) (unnamed_explained production.name old explained sound.chains_kept l is))
