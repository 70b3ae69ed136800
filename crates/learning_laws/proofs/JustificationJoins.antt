-- A justification that joins keeps a wave lawful.
use Rattle.std.proofs.Common.{◌≡◌, refl, sym, ◌∙◌, ap, subst, ℕ, suc, ◌≤◌, true, false, ◌&&◌, inl, inr, List, [], ◌∷◌, ◌++◌, arith, length, map, flat_map, Option, Some, None}
use Rattle.std.specs.Prelude.{not}
use Rattle.soar_sym.specs.Letters.{last_of}
use Rattle.soar_sym.specs.Equality.{symbol_eq}
use Rattle.soar_sym.specs.Words.{IsKnown, Texts}
use Rattle.soar_sym.specs.declared.symbol.Sym.{Sym}
use Rattle.soar_rule.specs.Productions.{ProductionOf}
use Rattle.soar_rule.specs.Renaming.{action_with, preference_with}
use Rattle.soar_rule.specs.Symbols.{constants_of, constants_of_action, constants_of_conditions, constants_of_referent}
use Rattle.soar_rule.specs.Variables.{referent_value}
use Rattle.soar_wm.specs.declared.element.Element.{Element}
use Rattle.defs_text.specs.Numbered.{word_in}
use Rattle.defs_soar.specs.declared.firing.Used.{Used}
use Rattle.defs_soar.specs.declared.learning.Cause.{Cause}
use Rattle.defs_soar.specs.declared.learning.Learning.{Learning}
use Rattle.defs_soar.specs.declared.preference.PrefKind.{PrefKind}
use Rattle.defs_soar.specs.declared.preference.PrefKind.TheVariants as kind
use Rattle.defs_soar.specs.declared.preference.Wish.{Wish}
use Rattle.defs_soar.specs.Agents.{Agent, Program}
use Rattle.defs_match.specs.Rules.{RuleOf}
use Rattle.defs_soar.specs.Architecture.{nil_word}
use Rattle.defs_soar.specs.Candidate.{action_of, all_grounds, conditions_of, literal_form, named_form, preference_of, with_variables}
use Rattle.defs_soar.specs.CarriedTests.{carried_tests, placed_tests}
use Rattle.defs_soar.specs.ChainIdentifiers.{firings_of}
use Rattle.defs_soar.specs.ConditionOrder.{ordered_grounds}
use Rattle.defs_soar.specs.Dependencies.{is_new_in, symbols_of_referent, symbols_of_wish}
use Rattle.defs_soar.specs.Events.{justifies}
use Rattle.defs_soar.specs.History.{ChainOf, FiringOf}
use Rattle.defs_soar.specs.Laws.{IsIn}
use Rattle.defs_soar.specs.LearnedFirings.{ExplainedFiring}
use Rattle.defs_soar.specs.Outcome.{justified, outcome_of, unless_lost}
use Rattle.defs_soar.specs.Variablized.{each_variablized_once, Variablized, variablized_in_conditions, variablized_in_wish}
use Rattle.defs_soar.specs.Sorted.{has_symbol}
use Rattle.defs_soar.specs.Stale.{tag_lost}
use Rattle.defs_soar.specs.Support.{match_depth}
use Rattle.defs_soar.specs.LearnedRules.{as_learning, with_number_total, free_number, justification_front, learned_name, names_joining, with_justification, with_names, with_joined_word}
use Rattle.defs_soar.specs.Ungrounded.{symbols_of_element}
use Rattle.defs_soar.specs.Uses.{all_uses}
use Rattle.defs_soar.specs.Values.{is_identifier}
use Rattle.defs_soar.specs.WaveAtHand.{all_fresh, Fresh, BeforeWave, Wave}
use Rattle.defs_soar.specs.WaveFirings.{before_wave}
use Rattle.learning_laws.specs.Lawful.{Grown, IsLawfulFiring}
use Rattle.learning_laws.specs.LawfulAgents.{AreGiven, firings_of_agent, IsFounded, IsGiven, IsLawfulAgent, IsLiteral}
use Rattle.learning_laws.specs.LawfulWaves.{fresh_firings, IsLawfulWave, explained_in}
use Rattle.learning_laws.specs.LearningSteps.{named_wave, outcome_at, TagsTellUses}
use Rattle.learning_laws.specs.Listed.{listed_of_all}
use Rattle.learning_laws.specs.BeforeWave.{RefFits}
use Rattle.learning_laws.proofs.BindLaws.{uses_ever}
use Rattle.learning_laws.proofs.FireLaws.{given_more, literal_more}
use Rattle.learning_laws.proofs.GroundedLaws.{has_in}
use Rattle.learning_laws.proofs.JoinLaws.{joining_firing, joining_keeps, IsJoining}
use Rattle.learning_laws.proofs.JustifiedLaws.{justification_firings_are_lawful}
use Rattle.learning_laws.proofs.KnownSymbols.{form_all, Holds}
use Rattle.learning_laws.proofs.Lists.{any_in, both_true, in_append, in_flat_map, in_flat_mapped, in_map, in_mapped, in_right, same_itself}
use Rattle.learning_laws.proofs.NamingLaws.{known_later}
use Rattle.learning_laws.proofs.OrderLaws.{is_order_of, IsOrderOf, TagsTell}
use Rattle.learning_laws.proofs.ReplayLaws.{found_within, is_there_still}
use Rattle.learning_laws.proofs.RuleLaws.{justifications_stand}
use Rattle.learning_laws.proofs.TableGrowth.{grown_by_text, grown_twice}
use Rattle.learning_laws.proofs.TakenListed.{learned_listed}
use Rattle.learning_laws.proofs.LearnedRuleLaws.{names_keep}
use Rattle.learning_laws.proofs.WaveLearning.{c_lawful, firing_past, goal_numbered, ground_ever, grown, lawful_named, letters_are, negations, past_in, result_can}

-- ---- what has a rule has lost no ground

not_lost : (words : Texts) (c : ChainOf) (depth : ℕ) (rules : List RuleOf) (w : List Element) (s : Learning) (why : Cause) → outcome_of words c depth rules w s ≡ justified why → tag_lost w c.grounds ≡ None
unfolding outcome_of
not_lost words c depth rules w s why h = go (tag_lost w c.grounds) h
  where
    go : (o : Option ℕ) → unless_lost words c depth rules w s o ≡ justified why → o ≡ None
    go None q = refl
    go (Some t) q = absurd (cc)

-- ---- each symbol of its wishes is a constant

referent_constant : (variablized : List Variablized) (k : PrefKind) (r : Option Sym) (t : Sym) → RefFits k r → IsIn t (symbols_of_referent r)
    → IsIn t (constants_of_referent (referent_value (preference_with (with_variables false variablized) (preference_of k r))))
referent_constant variablized k None t f i = absurd i
referent_constant variablized kind.Better (Some s) t f i = i
referent_constant variablized kind.Worse (Some s) t f i = i
referent_constant variablized kind.Numeric (Some s) t f i = i
referent_constant variablized kind.IndifferentTo (Some s) t f i = i
referent_constant variablized kind.Accept (Some s) t f i = absurd f
referent_constant variablized kind.Require (Some s) t f i = absurd f
referent_constant variablized kind.Reject (Some s) t f i = absurd f
referent_constant variablized kind.Prohibit (Some s) t f i = absurd f
referent_constant variablized kind.Best (Some s) t f i = absurd f
referent_constant variablized kind.Worst (Some s) t f i = absurd f
referent_constant variablized kind.Indifferent (Some s) t f i = absurd f

wish_constant : (variablized : List Variablized) (u : Wish) (t : Sym) → RefFits u.kind u.referent → IsIn t (symbols_of_wish u) → IsIn t (constants_of_action (action_with (with_variables false variablized) (action_of u)))
wish_constant variablized u t f (inl q) = inl q
wish_constant variablized u t f (inr (inl q)) = inr (inl q)
wish_constant variablized u t f (inr (inr (inl q))) = inr (inr (inl q))
wish_constant variablized u t f (inr (inr (inr i))) = inr (inr (inr (referent_constant variablized u.kind u.referent t f i)))

wishes_constant : (variablized : List Variablized) (us : List Wish) (t : Sym) → ((u : Wish) → IsIn u us → RefFits u.kind u.referent) → IsIn t (flat_map symbols_of_wish us)
    → IsIn t (flat_map constants_of_action (map (λ u. action_with (with_variables false variablized) (action_of u)) us))
wishes_constant variablized us t f i =
    let u = in_flat_map symbols_of_wish t us i in
    in_flat_mapped constants_of_action (action_with (with_variables false variablized) (action_of u.0)) t (map (λ u. action_with (with_variables false variablized) (action_of u)) us)
    (in_mapped (λ u. action_with (with_variables false variablized) (action_of u)) u.0 us u.1) (wish_constant variablized u.0 t (f u.0 u.1) u.2)

pub tag_named : (texts : Texts) (w : Wave) → (with_names texts w).names.last_tag ≡ w.names.last_tag
tag_named [] w = refl
tag_named (t ∷ texts) w = tag_named texts (with_joined_word t w)

module _ (a : Agent) (w : Wave) (x : Fresh) (h : IsLawfulAgent a) (k : IsLawfulWave a w) (i : IsIn x (all_fresh w.entries)) where
  abbrev m : BeforeWave
  m = before_wave a

  abbrev l : ExplainedFiring
  l = explained_in a w x.firing

  abbrev c : ChainOf
  c = l.chain

  abbrev depth : ℕ
  depth = l.explained.depth

  abbrev named : Wave
  named = named_wave l w

  abbrev words : Texts
  words = named.names.words

  pub named_lawful : IsLawfulWave a named
  named_lawful = names_keep a w (names_joining w.names.words l.chain l.explained.depth) k

  -- ---- what each learned rule has

  pub tell : ((e : Element) → IsIn e c.grounds → IsIn e a.holding.elements) → TagsTell c.grounds
  tell there e g y z q = k.founded.elements.tags e g (ground_ever a w x h k i e y) (ground_ever a w x h k i g z) q

  pub tags_tell_uses : (elements : List Element) → ((e : Element) → IsIn e elements → IsIn e a.holding.elements) → TagsTellUses m elements
  tags_tell_uses elements within = (
    (λ e g y z q. k.founded.elements.tags e g (k.founded.elements.present e y) (k.founded.elements.present g z) q),
    (λ e g y z q.
        let u = in_map (λ (u : Used). u.element) g (all_uses m.reach m.rows (match_depth m.reach.goals elements) elements) z in
        k.founded.elements.tags e g (k.founded.elements.present e y)
        (subst (λ (n : Element). IsIn n k.founded.elements.ever) u.2
        (uses_ever k.founded.elements.ever m.reach m.rows (match_depth m.reach.goals elements) elements (λ n j. k.founded.elements.present n (within n j)) k.founded.elements.items k.founded.elements.selected u.0 u.1)) q),
  )

  pub results_given : AreGiven w.names (flat_map symbols_of_wish c.results)
  results_given s j =
      let u = in_flat_map symbols_of_wish s c.results j in
      let by = (c_lawful a w x h k i).results u.0 u.1 in
      k.founded.symbols.made by.0 (past_in a w x h k i by.0 (firing_past a w x h k i by.0 by.1)) s (in_flat_mapped symbols_of_wish u.0 s by.0.made by.2 u.2)

  pub rule_listed : (f : FiringOf) (s : Sym) → IsIn f (firings_of c) → IsIn s (listed_of_all f.rule.production.conditions) → IsLiteral w.names.words s
  rule_listed f s j y = k.founded.history.listed f (past_in a w x h k i f (firing_past a w x h k i f j)) s y

  pub holds : (f : FiringOf) → IsIn f (firings_of c) → Holds (IsKnown w.names.words) f
  holds f j =
      let there = past_in a w x h k i f (firing_past a w x h k i f j) in
      record {
        own = k.founded.history.known f there;
        used = λ e y s z.
            (k.founded.elements.given e
            (k.founded.elements.used e (in_flat_mapped (λ (g : FiringOf). map (λ (u : Used). u.element) g.used) f e (firings_of_agent a ++ fresh_firings w) there y)) s z).0;
      }

  pub ground_known : (e : Element) → IsIn e c.grounds → (s : Sym) → IsIn s (symbols_of_element e) → IsKnown w.names.words s
  ground_known e j s y = (k.founded.elements.given e (ground_ever a w x h k i e j) s y).0

  pub nil_known : IsKnown w.names.words nil_word
  nil_known = let low : 24 ≤ length w.names.words = k.founded.symbols.words in omega arith

  -- a wave with a word more, and other counts
  pub word_counted : (v : Wave) (text : List ℕ) (program : Program) (learned : ℕ) → IsLawfulWave a v → program.rules ≡ v.program.rules
      → IsLawfulWave a (record (with_joined_word text v) { program = program; learned = learned })
  word_counted v text program learned n same =
      let s = names_keep a v (text ∷ []) n in
      record {
        founded = subst (λ rules. IsFounded (with_joined_word text v).names a.holding a.queues.input rules v.last_firing (firings_of_agent a ++ fresh_firings v)) (sym same) s.founded;
        wishes = s.wishes;
        counted = s.counted;
        later = s.later;
        explains = s.explains;
        can = s.can;
      }

  -- ---- a justification

  module _ (why : Cause) (outcome : outcome_at m l w ≡ justified why) where
    there : (e : Element) → IsIn e c.grounds → IsIn e a.holding.elements
    there e j =
        let found = is_there_still a.holding.elements c.grounds e (not_lost words c depth named.program.rules a.holding.elements (as_learning a.settings named.learned) why outcome) j in
        subst (λ y. IsIn y a.holding.elements) ((c_lawful a w x h k i).tags e found.0 j found.1) (found_within e.tag a.holding.elements found.0 found.1)

    abbrev elements : List Element
    elements = all_grounds (ordered_grounds words c.grounds)

    of_order : IsOrderOf words c.grounds (ordered_grounds words c.grounds)
    of_order = is_order_of words c.grounds (tell there)

    in_grounds : (e : Element) → IsIn e elements → IsIn e c.grounds
    in_grounds e j = (elim (in_append e (ordered_grounds words c.grounds).taken (ordered_grounds words c.grounds).left j) [ inl y ↦ of_order.taken e y | inr y ↦ of_order.left e y ])

    within : (e : Element) → IsIn e elements → IsIn e a.holding.elements
    within e j = there e (in_grounds e j)

    abbrev number : ℕ
    number = free_number (length named.program.rules) words named.program.rules justification_front (suc named.program.justifications)

    abbrev text : List ℕ
    text = learned_name justification_front number

    abbrev spelled : Wave
    spelled = with_joined_word text (with_number_total number named)

    abbrev counted : Wave
    counted = record spelled { program = record spelled.program { justifications = number } }

    abbrev name : Sym
    name = word_in counted.names.words text

    abbrev production : ProductionOf
    production = record (named_form words (literal_form words c depth)) { name = name }

    counted_lawful : IsLawfulWave a counted
    counted_lawful =
        let n = named_lawful in
        let d : IsLawfulWave a (with_number_total number named) = record { founded = n.founded; wishes = n.wishes; counted = n.counted; later = n.later; explains = n.explains; can = n.can } in
        word_counted (with_number_total number named) text counted.program named.learned d refl

    grown_word : Grown words counted.names.words
    grown_word = grown_by_text words text

    abbrev f : FiringOf
    f = joining_firing a counted l production elements []

    lawful : IsLawfulFiring counted.names.words f
    lawful =
        let o =
        justification_firings_are_lawful m l words counted.names.words w.names.letters (suc counted.last_firing) (suc counted.program.last_rule) name (lawful_named a w x h k i) k.founded.symbols.letters
        (goal_numbered a w x h k i) (result_can a w x h k i) (tags_tell_uses elements within) there in
        record { passes = o.passes; makes = λ later more. o.makes later (grown_twice words counted.names.words later grown_word more) }

    nothing_new : (s : Sym) → is_new_in f s ≡ true → ⊥
    unfolding literal_form
    nothing_new s q =
        let p = both_true (has_symbol (flat_map symbols_of_wish c.results) s) (not (has_symbol [] s) && not (has_symbol (constants_of production) s)) (both_true (is_identifier s) _ q).1 in
        let r = (both_true (not (has_symbol [] s)) (not (has_symbol (constants_of production) s)) p.1).1 in
        let variablized = each_variablized_once [] (variablized_in_conditions false (conditions_of c depth elements) ++ flat_map (variablized_in_wish false) c.results) in
        let j = found (flat_map symbols_of_wish c.results) p.0 in
        let constant = in_right s (constants_of_conditions production.conditions) (flat_map constants_of_action production.actions) (wishes_constant variablized c.results s (λ u y. (result_can a w x h k i u y).referent) j) in
        let z = sym (ap not (any_in (symbol_eq s) s (constants_of production) constant (same_itself s))) ∙ r in absurd (cc)
      where
        found : (symbols : List Sym) → has_symbol symbols s ≡ true → IsIn s symbols
        found symbols z = has_in symbols s z

    joining : IsJoining a counted l production elements []
    unfolding literal_form
    joining = record {
      within = within;
      stand = justifications_stand words c depth name (negations a w x h k i);
      literal = λ q. absurd (cc);
      lawful = lawful;
      listed = λ s j.
          let variablized = each_variablized_once [] (variablized_in_conditions false (conditions_of c depth elements) ++ flat_map (variablized_in_wish false) c.results) in
          let by = learned_listed (with_variables false variablized) c depth (placed_tests elements (carried_tests c depth)) elements s j in
          literal_more w.names.words counted.names.words s all_grown_here (rule_listed by.0 s by.1 by.2);
      known = λ s j.
          let variablized = each_variablized_once [] (variablized_in_conditions false (conditions_of c depth elements) ++ flat_map (variablized_in_wish false) c.results) in
          known_later w.names.words counted.names.words s all_grown_here
          (form_all (IsKnown w.names.words) c depth holds false variablized elements (λ e y. ground_known e (in_grounds e y)) (λ t y. (results_given t y).0) nil_known s j);
      made = λ s j. given_here s (results_given s j);
      new = λ s q. absurd (nothing_new s q);
      can = result_can a w x h k i;
    }
      where
        all_grown_here : Grown w.names.words counted.names.words
        all_grown_here = grown_twice w.names.words words counted.names.words (grown a w x h k i) grown_word

        given_here : (s : Sym) → IsGiven w.names s → IsGiven counted.names s
        given_here s g = given_more w.names counted.names s (record {
          words = all_grown_here;
          letters = λ n. subst (λ y. last_of w.names.letters n ≤ last_of y n) (letters_are a w x h k i) (same (last_of w.names.letters n));
          last_tag = tag_named (names_joining w.names.words c depth) w;
          long = counted_lawful.founded.symbols.letters;
          once = counted_lawful.founded.symbols.once;
        }) g
          where
            same : (n : ℕ) → n ≤ n
            same n = omega arith

    pub justification_joins : IsLawfulWave a (with_justification m l (named_form words (literal_form words c depth)) (ordered_grounds words c.grounds) why named)
    justification_joins = joining_keeps a l production elements [] (λ number tags. justifies number name l.explained.number tags why) counted h counted_lawful joining
