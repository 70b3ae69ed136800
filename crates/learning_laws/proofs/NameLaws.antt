-- The names of a chunk's variables are in the table when it is learned: what joins the table does not change the order of the grounds.
use Rattle.std.proofs.Common.{◌≡◌, refl, sym, ◌∙◌, ap, subst, ℕ, zero, suc, ◌<◌, Bool, true, false, ◌||◌, ◌==◌, cond, inl, inr, arith, List, [], ◌∷◌, ◌++◌, length, filter, flat_map, Option, Some, None, append_assoc}
use Rattle.std.proofs.lemmas.List.{append-nil}
use Rattle.std.specs.Prelude.{not}
use Rattle.std.specs.List.{list_any}
use Rattle.std.specs.Ordering.{bool_cmp, is_lt, nat_cmp, ordering_then}
use Rattle.std.specs.Cmp.Lexicographic.{slice_cmp}
use Rattle.std.specs.Str.{bytes_eq}
use Rattle.soar_sym.specs.Equality.{symbol_eq}
use Rattle.soar_sym.specs.Order.{symbol_cmp}
use Rattle.soar_sym.specs.Words.{has_text, IsKnown, text_of, Texts, with_text}
use Rattle.soar_sym.specs.declared.symbol.Sym.{Sym}
use Rattle.soar_sym.specs.declared.symbol.Sym.TheVariants.{Ident, Word, Int}
use Rattle.soar_rule.specs.Repeat.{repeated}
use Rattle.soar_wm.specs.declared.element.Element.{Element}
use Rattle.defs_soar.specs.Candidate.{Form, form_of, general_form, conditions_of, literal_form}
use Rattle.defs_soar.specs.ConditionOrder.{ground_cmp, least_ground, one_ground_more, option_cmp, Ordered, ordered_grounds, placed_cmp, states_of, unplaced_cmp, variable_place, with_ground, with_next}
use Rattle.defs_soar.specs.History.{ChainOf}
use Rattle.defs_soar.specs.Laws.{IsIn}
use Rattle.defs_soar.specs.Outcome.{has_grounds}
use Rattle.defs_soar.specs.Sorted.{has_symbol, with_symbol}
use Rattle.defs_soar.specs.LearnedRules.{as_learning, names_joining, with_names, with_joined_word}
use Rattle.soar_rule.specs.declared.production.Kind.TheVariants.{Chunk}
use Rattle.soar_rule.specs.Symbols.{constants_of_condition}
use Rattle.defs_soar.specs.CarriedTests.{carried_tests}
use Rattle.defs_soar.specs.Negations.{negations_taken_over}
use Rattle.defs_soar.specs.Ungrounded.{first_without, led_to, or_else, symbols_of_carried, symbols_of_element, ungrounded, wrong_in_wishes}
use Rattle.defs_soar.specs.Values.{is_identifier}
use Rattle.defs_soar.specs.WaveAtHand.{Wave}
use Rattle.learning_laws.specs.LearningSteps.{named_wave, NamesJoin}
use Rattle.learning_laws.proofs.Chunked.{is_chunked}
use Rattle.learning_laws.proofs.GroundedLaws.{state_of_ground}
use Rattle.learning_laws.proofs.Lists.{filter_within}
use Rattle.soar_sym.proofs.TableLemmas.{bytes_eq_same}

-- ---- a table that has grown

text_still : (words more : Texts) (n : ℕ) → n < length words → text_of (words ++ more) n ≡ text_of words n
text_still [] more n h = absurd (omega arith)
text_still (t ∷ words) more zero h = refl
text_still (t ∷ words) more (suc n) h = text_still words more n (omega arith)

module _ (words more : Texts) where
  abbrev pub K : Sym → Type 0
  K s = IsKnown words s

  symbols_alike : (a b : Sym) → K a → K b → symbol_cmp (words ++ more) a b ≡ symbol_cmp words a b
  symbols_alike (Ident a m) (Ident b n) h k = refl
  symbols_alike (Ident a m) (Int n) h k = refl
  symbols_alike (Ident a m) (Word n) h k = refl
  symbols_alike (Int m) (Ident b n) h k = refl
  symbols_alike (Int m) (Int n) h k = refl
  symbols_alike (Int m) (Word n) h k = refl
  symbols_alike (Word m) (Ident b n) h k = refl
  symbols_alike (Word m) (Int n) h k = refl
  symbols_alike (Word m) (Word n) h k = λ i. slice_cmp nat_cmp (text_still words more m h i) (text_still words more n k i)

  pub record KnownElement (e : Element) : Type 0 where
    pub id : K e.id
    pub attr : K e.attr
    pub value : K e.value

  unplaced_alike : (e f : Element) → KnownElement e → KnownElement f → (a b : Bool) → unplaced_cmp (words ++ more) e f a b ≡ unplaced_cmp words e f a b
  unplaced_alike e f h k false false = symbols_alike e.value f.value h.value k.value
  unplaced_alike e f h k false true = refl
  unplaced_alike e f h k true false = refl
  unplaced_alike e f h k true true = refl

  placed_alike : (e f : Element) → KnownElement e → KnownElement f → (a b : Option ℕ) → placed_cmp (words ++ more) e f a b ≡ placed_cmp words e f a b
  placed_alike e f h k None None = unplaced_alike e f h k (is_identifier e.value) (is_identifier f.value)
  placed_alike e f h k (Some n) None = refl
  placed_alike e f h k None (Some m) = refl
  placed_alike e f h k (Some n) (Some m) = refl

  grounds_alike : (places : List Sym) (e f : Element) → KnownElement e → KnownElement f → ground_cmp (words ++ more) places e f ≡ ground_cmp words places e f
  grounds_alike places e f h k = λ i.
      ordering_then (option_cmp (variable_place places e.id) (variable_place places f.id))
      (ordering_then (symbols_alike e.attr f.attr h.attr k.attr i) (ordering_then (placed_alike e f h k (variable_place places e.value) (variable_place places f.value) i) (bool_cmp e.accept f.accept)))

  abbrev pub AllKnown : List Element → Type 0
  AllKnown es = (e : Element) → IsIn e es → KnownElement e

  least_alike : (places : List Sym) (e : Element) (es : List Element) → KnownElement e → AllKnown es → least_ground (words ++ more) places e es ≡ least_ground words places e es
  least_alike places e [] h k = refl
  least_alike places e (f ∷ es) h k =
      ap (λ o. least_ground (words ++ more) places (cond (is_lt o) f e) es) (grounds_alike places f e (k f (inl refl)) h)
      ∙ least_alike places (cond (is_lt (ground_cmp words places f e)) f e) es (either (is_lt (ground_cmp words places f e))) (λ x i. k x (inr i))
    where
      either : (b : Bool) → KnownElement (cond b f e)
      either true = k f (inl refl)
      either false = h

  next_alike : (o : Ordered) (es : List Element) → AllKnown es → with_next (words ++ more) o es ≡ with_next words o es
  next_alike o [] k = refl
  next_alike o (e ∷ es) k = ap (with_ground o) (least_alike o.places e es (k e (inl refl)) (λ x i. k x (inr i)))

  step_alike : (o : Ordered) → AllKnown o.left → one_ground_more (words ++ more) o ≡ one_ground_more words o
  step_alike o k = next_alike o (filter (λ e. has_symbol o.places e.id) o.left) (λ e i. k e (filter_within (λ e. has_symbol o.places e.id) o.left e i).0)

  left_known : (o : Ordered) → AllKnown o.left → AllKnown (one_ground_more words o).left
  left_known o k = go (filter (λ e. has_symbol o.places e.id) o.left)
    where
      go : (es : List Element) → AllKnown (with_next words o es).left
      go [] = k
      go (e ∷ es) = λ x i. k x (filter_within (λ f. not (f.tag == (least_ground words o.places e es).tag)) o.left x i).0

  all_alike : (n : ℕ) (o : Ordered) → AllKnown o.left → repeated n (one_ground_more (words ++ more)) o ≡ repeated n (one_ground_more words) o
  all_alike zero o k = refl
  all_alike (suc n) o k = ap (repeated n (one_ground_more (words ++ more))) (step_alike o k) ∙ all_alike n (one_ground_more words o) (left_known o k)

  with_alike : (symbols : List Sym) (s : Sym) → K s → ((t : Sym) → IsIn t symbols → K t) → with_symbol (words ++ more) symbols s ≡ with_symbol words symbols s
  with_alike [] s h k = refl
  with_alike (t ∷ symbols) s h k = λ i.
      cond (symbol_eq s t) (t ∷ symbols) (cond (is_lt (symbols_alike s t h (k t (inl refl)) i)) (s ∷ t ∷ symbols) (t ∷ with_alike symbols s h (λ u j. k u (inr j)) i))

  states_alike : (es : List Element) → AllKnown es → states_of (words ++ more) es ≡ states_of words es
  states_alike [] k = refl
  states_alike (e ∷ es) k = go e.of_state (states_alike es (λ x i. k x (inr i)))
    where
      known : (t : Sym) → IsIn t (states_of words es) → K t
      known t i = let found = state_of_ground words es t i in subst K found.2 (k found.0 (inr found.1)).id

      go : (b : Bool) → states_of (words ++ more) es ≡ states_of words es
          → cond b (with_symbol (words ++ more) (states_of (words ++ more) es) e.id) (states_of (words ++ more) es) ≡ cond b (with_symbol words (states_of words es) e.id) (states_of words es)
      go true q = ap (λ l. with_symbol (words ++ more) l e.id) q ∙ with_alike (states_of words es) e.id (k e (inl refl)).id known
      go false q = q

  -- the order of grounds whose words were known is the same
  pub order_alike : (grounds : List Element) → AllKnown grounds → ordered_grounds (words ++ more) grounds ≡ ordered_grounds words grounds
  unfolding ordered_grounds
  order_alike grounds k =
      ap (λ l. repeated (length grounds) (one_ground_more (words ++ more)) (record { taken = []; left = grounds; places = l })) (states_alike grounds k)
      ∙ all_alike (length grounds) (record { taken = []; left = grounds; places = states_of words grounds }) k

-- ---- the names that join

grown : (words : Texts) (text : List ℕ) → (more : Texts) × (with_text words text ≡ words ++ more)
grown words text = go (has_text words text)
  where
    go : (b : Bool) → (more : Texts) × (cond b words (words ++ text ∷ []) ≡ words ++ more)
    go true = ([], sym (append-nil words))
    go false = (text ∷ [], refl)

pub all_grown : (texts : Texts) (w : Wave) → (more : Texts) × ((with_names texts w).names.words ≡ w.names.words ++ more)
all_grown [] w = ([], sym (append-nil w.names.words))
all_grown (text ∷ texts) w =
    let one = grown w.names.words text in
    let rest = all_grown texts (with_joined_word text w) in
    (one.0 ++ rest.0, rest.1 ∙ ap (λ l. l ++ rest.0) one.1 ∙ append_assoc w.names.words one.0 rest.0)

any_front : (p : List ℕ → Bool) (words more : Texts) → list_any p words ≡ true → list_any p (words ++ more) ≡ true
any_front p [] more h = absurd (cc)
any_front p (t ∷ words) more h = go (p t) h (any_front p words more)
  where
    go : (b : Bool) → (b || list_any p words) ≡ true → (list_any p words ≡ true → list_any p (words ++ more) ≡ true) → (b || list_any p (words ++ more)) ≡ true
    go true q later = refl
    go false q later = later q

any_back : (p : List ℕ → Bool) (words : Texts) (text : List ℕ) → p text ≡ true → list_any p (words ++ text ∷ []) ≡ true
any_back p [] text h = ap (λ b. b || false) h
any_back p (t ∷ words) text h = go (p t) (any_back p words text h)
  where
    go : (b : Bool) → list_any p (words ++ text ∷ []) ≡ true → (b || list_any p (words ++ text ∷ [])) ≡ true
    go true q = refl
    go false q = q

has_new : (words : Texts) (text : List ℕ) → has_text (with_text words text) text ≡ true
has_new words text = go (has_text words text) refl
  where
    go : (b : Bool) → has_text words text ≡ b → has_text (cond b words (words ++ text ∷ [])) text ≡ true
    go true q = q
    go false q = any_back (bytes_eq text) words text (bytes_eq_same text)

each_joined : (texts : Texts) (w : Wave) (text : List ℕ) → IsIn text texts → has_text (with_names texts w).names.words text ≡ true
each_joined [] w text i = absurd i
each_joined (t ∷ texts) w text (inr i) = each_joined texts (with_joined_word t w) text i
each_joined (t ∷ texts) w text (inl e) =
    let rest = all_grown texts (with_joined_word t w) in
    subst (λ l. has_text l text ≡ true) (sym rest.1)
    (any_front (bytes_eq text) (with_text w.names.words t) rest.0 (subst (λ x. has_text (with_text w.names.words x) text ≡ true) (sym e) (has_new w.names.words text)))

module _ (words more : Texts) (c : ChainOf) (depth : ℕ) (same : ordered_grounds (words ++ more) c.grounds ≡ ordered_grounds words c.grounds) where
  form_alike : general_form (words ++ more) c depth ≡ general_form words c depth
  unfolding general_form
  form_alike = ap (λ (o : Ordered). form_of true Chunk c (conditions_of c depth o.taken)) same

  ungrounded_alike : ungrounded (words ++ more) c depth ≡ ungrounded words c depth
  ungrounded_alike = ap (λ (o : Ordered). ungrounded_by c depth o.places) same
    where
      ungrounded_by : ChainOf → ℕ → List Sym → Option Sym
      ungrounded_by c depth places =
          or_else (first_without places (flat_map symbols_of_element c.grounds))
          (or_else (first_without places (flat_map symbols_of_carried (carried_tests c depth)))
          (or_else (first_without places (flat_map constants_of_condition (negations_taken_over c depth))) (wrong_in_wishes c places (led_to places c.results) c.results)))

  names_are : has_grounds c ≡ true → ungrounded (words ++ more) c depth ≡ None → names_joining words c depth ≡ (general_form (words ++ more) c depth).names
  names_are g u =
      ap (λ (b : Bool). cond b (elim (ungrounded words c depth) [ None ↦ (general_form words c depth).names | Some s ↦ (literal_form words c depth).names ]) []) g
      ∙ ap (λ (o : Option Sym). elim o [ None ↦ (general_form words c depth).names | Some s ↦ (literal_form words c depth).names ]) (sym ungrounded_alike ∙ u)
      ∙ ap (λ (f : Form). f.names) (sym form_alike)

pub names_join : NamesJoin
names_join m l w known h text i =
    let joining = names_joining w.names.words l.chain l.explained.depth in
    let g = all_grown joining w in
    let k = is_chunked (named_wave l w).names.words l.chain l.explained.depth (named_wave l w).program.rules m.elements (as_learning m.settings (named_wave l w).learned) h in
    let same = order_alike w.names.words g.0 l.chain.grounds (λ e j. let s = known e j in record { id = s.0; attr = s.1; value = s.2 }) in
    let ungrounded_is : ungrounded (w.names.words ++ g.0) l.chain l.explained.depth ≡ None = subst (λ x. ungrounded x l.chain l.explained.depth ≡ None) g.1 k.grounded in
    let names = names_are w.names.words g.0 l.chain l.explained.depth same k.grounds ungrounded_is in
    each_joined joining w text
    (subst (λ x. IsIn text x) (sym names) (subst (λ x. IsIn text (general_form x l.chain l.explained.depth).names) g.1 i))
