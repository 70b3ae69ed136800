-- The first state is lawful, and so is one that starts anew.
use Rattle.std.proofs.Common.{◌≡◌, refl, sym, ◌∙◌, ap, subst, ℕ, zero, suc, ◌+◌, ◌≤◌, ◌<◌, true, false, inl, inr, arith, List, [], ◌∷◌, ◌++◌, length, Some, slice_get}
use Rattle.soar_sym.specs.Letters.{last_of}
use Rattle.soar_sym.specs.Words.{architecture, place_of, Texts}
use Rattle.soar_sym.specs.declared.symbol.Sym.{Sym}
use Rattle.soar_sym.specs.declared.symbol.Sym.TheVariants.{Ident, Word}
use Rattle.soar_wm.specs.declared.element.Element.{Element}
use Rattle.soar_wm.specs.WorkingMemory.{IsBelow, IsRising, triple_of}
use Rattle.defs_match.specs.Rules.{RuleOf}
use Rattle.defs_soar.specs.declared.goal.Goal.{Goal}
use Rattle.defs_soar.specs.Agents.{Names}
use Rattle.defs_soar.specs.declared.goal.Impasse.TheVariants as impasse
use Rattle.defs_soar.specs.declared.goal.Selection.{Selection}
use Rattle.defs_soar.specs.Decision.{new_goal}
use Rattle.defs_soar.specs.Goals.{goal_elements, is_goal}
use Rattle.defs_soar.specs.Laws.{IsIn}
use Rattle.defs_soar.specs.Pending.{is_justification}
use Rattle.defs_soar.specs.Start.{first_elements, first_holding, first_letters, start_element, without_justifications}
use Rattle.defs_soar.specs.Ungrounded.{symbols_of_element}
use Rattle.defs_soar.specs.Values.{has_triple_among, is_identifier}
use Rattle.soar_rule.specs.Symbols.{constants_of}
use Rattle.learning_laws.specs.LawfulAgents.{AreGiven, EachOnce, IsFounded, IsGiven, IsLiteral}
use Rattle.learning_laws.specs.LawfulSteps.{FirstIsLawful, StartingAnewKeeps}
use Rattle.learning_laws.specs.Ready.{NegationsStand}
use Rattle.learning_laws.specs.Waves.{TagsAre}
use Rattle.learning_laws.proofs.HeldLaws.{link_given, word_given}
use Rattle.learning_laws.proofs.Lists.{filter_within}

-- ---- each text of the architecture stands once

abbrev ArePlaced : Texts → ℕ → Type 0
ArePlaced [] n = Unit {0}
ArePlaced (t ∷ words) n = (place_of architecture t ≡ Some n) × ArePlaced words (suc n)

placed_once : (words : Texts) (n k : ℕ) (text : List ℕ) → ArePlaced words n → slice_get words k ≡ Some text → place_of architecture text ≡ Some (n + k)
placed_once [] n k text h q = absurd (cc)
placed_once (t ∷ words) n zero text h q = let e : t ≡ text = cc in subst (λ x. place_of architecture x ≡ Some (n + 0)) e (h.0 ∙ ap Some (omega arith))
placed_once (t ∷ words) n (suc k) text h q = placed_once words (suc n) k text h.1 q ∙ ap Some (omega arith)

architecture_placed : ArePlaced architecture 0
architecture_placed = (refl, (refl, (refl, (refl, (refl, (refl, (refl, (refl, (refl, (refl, (refl, (refl, (refl, (refl, (refl, (refl, (refl, (refl, (refl, (refl, (refl, (refl, (refl, (refl, tt))))))))))))))))))))))))

architecture_once : EachOnce architecture
architecture_once n text h = placed_once architecture 0 n text architecture_placed h ∙ ap Some (omega arith)

-- ---- elements

above_all : (elements : List Element) (tag : ℕ) (e : Element) → IsBelow tag elements → IsIn e elements → tag < e.tag
above_all [] tag e h i = absurd i
above_all (x ∷ elements) tag e h (inl q) = subst (λ (y : Element). tag < y.tag) q h.0
above_all (x ∷ elements) tag e h (inr i) = above_all elements tag e h.1 i

rising_apart : (elements : List Element) → IsRising elements → TagsAre elements elements
rising_apart [] h e f i j q = absurd i
rising_apart (x ∷ elements) h e f (inl a) (inl b) q = sym a ∙ b
rising_apart (x ∷ elements) h e f (inl a) (inr j) q =
    let l : x.tag < f.tag = above_all elements x.tag f h.0 j in let s : x.tag ≡ e.tag = ap (λ (y : Element). y.tag) a in absurd (omega arith)
rising_apart (x ∷ elements) h e f (inr i) (inl b) q =
    let l : x.tag < e.tag = above_all elements x.tag e h.0 i in let s : x.tag ≡ f.tag = ap (λ (y : Element). y.tag) b in absurd (omega arith)
rising_apart (x ∷ elements) h e f (inr i) (inr j) q = rising_apart elements h.1 e f i j q

-- what holds of each of the first elements
each_first : (P : Element → Type 0) → P (start_element 1 (Ident 73 1) (Word 3) (Ident 73 2) false) → P (start_element 2 (Ident 73 1) (Word 4) (Ident 73 3) false) → P (start_element 3 (Ident 83 1) (Word 2) (Ident 73 1) true) → P (start_element 4 (Ident 83 1) (Word 5) (Word 1) true) → P (start_element 5 (Ident 83 1) (Word 6) (Word 0) true) → (e : Element) → IsIn e first_elements → P e
each_first P a b c d f e (inl q) = subst P q a
each_first P a b c d f e (inr (inl q)) = subst P q b
each_first P a b c d f e (inr (inr (inl q))) = subst P q c
each_first P a b c d f e (inr (inr (inr (inl q)))) = subst P q d
each_first P a b c d f e (inr (inr (inr (inr (inl q))))) = subst P q f
each_first P a b c d f e (inr (inr (inr (inr (inr i))))) = absurd i

first_rise : IsRising first_elements
first_rise = ((omega arith, (omega arith, (omega arith, (omega arith, tt)))), ((omega arith, (omega arith, (omega arith, tt))), ((omega arith, (omega arith, tt)), ((omega arith, tt), (tt, tt)))))

three_given : (names : Names) (e : Element) → IsGiven names e.id → IsGiven names e.attr → IsGiven names e.value → AreGiven names (symbols_of_element e)
three_given names e h k l s (inl q) = subst (IsGiven names) q h
three_given names e h k l s (inr (inl q)) = subst (IsGiven names) q k
three_given names e h k l s (inr (inr (inl q))) = subst (IsGiven names) q l
three_given names e h k l s (inr (inr (inr i))) = absurd i

-- ---- the first state

module _ (words : Texts) (long : 24 ≤ length words) (once : EachOnce words) (rules : List RuleOf)
    (literal : (r : RuleOf) → IsIn r rules → is_justification r.production.kind ≡ false → (s : Sym) → IsIn s (r.production.vars ++ constants_of r.production) → IsLiteral words s)
    (stand : (r : RuleOf) → IsIn r rules → NegationsStand r.production) where
  abbrev names : Names
  names = record { words = words; letters = first_letters; last_tag = 5 }

  links : 3 ≤ last_of names.letters 73
  links = let k : last_of first_letters 73 ≡ 3 = refl in omega arith

  word : (n : ℕ) → n < 24 → IsGiven names (Word n)
  word n h = word_given names long links n h

  link : (n : ℕ) → n ≤ 3 → IsGiven names (Ident 73 n)
  link n h = link_given names long links n h

  top : IsGiven names (Ident 83 1)
  top = ((omega arith, omega arith), let k : last_of first_letters 83 ≡ 1 = refl in omega arith)

  one_top : (g : Goal) → IsIn g first_holding.goals → g ≡ new_goal (Ident 83 1) impasse.Top []
  one_top g (inl q) = sym q
  one_top g (inr i) = absurd i

  none_selected : (g : Goal) (s : Selection) → IsIn g first_holding.goals → g.selected ≡ Some s → ⊥
  none_selected g s i q = let k = sym (ap (λ (x : Goal). x.selected) (one_top g i)) ∙ q in absurd (cc)

  first_founded : IsFounded names first_holding [] rules 0 []
  first_founded = record {
    symbols = record {
      letters = refl;
      words = long;
      once = once;
      links = links;
      goals = λ g i. subst (λ (x : Goal). (is_identifier x.id ≡ true) × IsGiven names x.id) (sym (one_top g i)) (refl, top);
      inputs = λ t i. absurd i;
      queued = λ q i. absurd i;
      of_rules = literal;
      made = λ f i. absurd i;
    };
    elements = record {
      ever = first_elements;
      tags = rising_apart first_elements first_rise;
      last = each_first (λ e. e.tag ≤ 5) (omega arith) (omega arith) (omega arith) (omega arith) (omega arith);
      ids = each_first (λ e. is_identifier e.id ≡ true) refl refl refl refl refl;
      given = each_first (λ e. AreGiven names (symbols_of_element e)) (three_given names (start_element 1 (Ident 73 1) (Word 3) (Ident 73 2) false) (link 1 (omega arith)) (word 3 (omega arith)) (link 2 (omega arith)))
          (three_given names (start_element 2 (Ident 73 1) (Word 4) (Ident 73 3) false) (link 1 (omega arith)) (word 4 (omega arith)) (link 3 (omega arith))) (three_given names (start_element 3 (Ident 83 1) (Word 2) (Ident 73 1) true) top (word 2 (omega arith)) (link 1 (omega arith)))
          (three_given names (start_element 4 (Ident 83 1) (Word 5) (Word 1) true) top (word 5 (omega arith)) (word 1 (omega arith))) (three_given names (start_element 5 (Ident 83 1) (Word 6) (Word 0) true) top (word 6 (omega arith)) (word 0 (omega arith)));
      present = λ e i. i;
      used = λ e i. absurd i;
      items = (refl, tt);
      selected = λ g s i q. absurd (none_selected g s i q);
    };
    history = record {
      each = λ f i. absurd i;
      stand = λ f i. absurd i;
      numbers = λ f g i j q. absurd i;
      last_is = λ f i. absurd i;
      uses = λ f i u j. absurd i;
      listed = λ f i. absurd i;
      known = λ f i. absurd i;
      new = λ f s i q. absurd i;
    };
    rows = λ row i. absurd i;
    accepted = λ row i q. absurd i;
    selections = λ g s i q. absurd (none_selected g s i q);
    stand = stand;
  }

-- its elements are the top goal's own
own_first : (e : Element) → IsIn e first_elements → has_triple_among (goal_elements first_holding.goals) (triple_of e) ≡ true
own_first = each_first (λ e. has_triple_among (goal_elements first_holding.goals) (triple_of e) ≡ true) refl refl refl refl refl

flags_first : (e : Element) → IsIn e first_elements → e.of_state ≡ is_goal first_holding.goals e.id
flags_first = each_first (λ e. e.of_state ≡ is_goal first_holding.goals e.id) refl refl refl refl refl

not_made : (e : Element) (A : Type 0) → IsIn e first_elements → has_triple_among (goal_elements first_holding.goals) (triple_of e) ≡ false → A
not_made e A i q = let k = sym (own_first e i) ∙ q in absurd (cc)

pub first_is_lawful : FirstIsLawful
first_is_lawful watch = record {
  founded = first_founded architecture (omega arith) architecture_once [] (λ r i j s k. absurd i) (λ r i. absurd i);
  held_up = record {
    held = λ e i made. not_made e _ i made.others;
    marks = λ e i made. not_made e _ i made.others;
    flags = flags_first;
    candidates = λ row i slot kinds. absurd i;
  };
}

pub starting_anew_keeps : StartingAnewKeeps
starting_anew_keeps a h = record {
  founded = first_founded a.names.words h.founded.symbols.words h.founded.symbols.once (without_justifications a.program).rules
      (λ r i j s k. h.founded.symbols.of_rules r (filter_within _ a.program.rules r i).0 j s k) (λ r i. h.founded.stand r (filter_within _ a.program.rules r i).0);
  held_up = record {
    held = λ e i made. not_made e _ i made.others;
    marks = λ e i made. not_made e _ i made.others;
    flags = flags_first;
    candidates = λ row i slot kinds. absurd i;
  };
}
