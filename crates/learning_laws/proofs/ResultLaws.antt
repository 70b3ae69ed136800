-- A chunk's firing at its grounds makes the results of its explanation, up to the numbers of new identifiers.
use Rattle.std.proofs.Common.{◌≡◌, refl, sym, ◌∙◌, ap, subst, ℕ, ◌≤◌, ◌<◌, Bool, true, false, ◌&&◌, ◌||◌, cond, inl, inr, arith, List, [], ◌∷◌, ◌++◌, map, flat_map, filter, Option, Some, None, Ok, Err}
use Rattle.std.specs.Prelude.{not}
use Rattle.std.specs.List.{list_any}
use Rattle.soar_sym.specs.Equality.{symbol_eq}
use Rattle.soar_sym.specs.Letters.{last_of}
use Rattle.soar_sym.specs.Words.{Texts, has_text}
use Rattle.soar_sym.specs.declared.symbol.Sym.{Sym}
use Rattle.soar_sym.specs.declared.symbol.Sym.TheVariants.{Ident, Word, Int}
use Rattle.soar_wm.specs.declared.element.Element.{Element}
use Rattle.defs_text.specs.Numbered.{word_in}
use Rattle.defs_match.specs.Conflict.{bindings_of}
use Rattle.defs_match.specs.Laws as match
use Rattle.defs_match.specs.Rows.{Row, rows}
use Rattle.defs_match.specs.Testing.{symbol_of}
use Rattle.defs_match.proofs.BindingLemmas.{tells_bindings}
use Rattle.defs_soar.specs.declared.firing.DropCause.TheVariants as cause
use Rattle.defs_soar.specs.declared.goal.Goal.{Goal}
use Rattle.defs_soar.specs.declared.learning.Learning.{Learning}
use Rattle.defs_soar.specs.declared.preference.PrefKind.{PrefKind}
use Rattle.defs_soar.specs.declared.preference.PrefKind.TheVariants as kind
use Rattle.defs_soar.specs.declared.preference.Wish.{Wish}
use Rattle.defs_soar.specs.Architecture.{operator_word}
use Rattle.defs_soar.specs.Candidate.{conditions_of, general_form}
use Rattle.defs_soar.specs.ChainIdentifiers.{is_made_by, firings_of}
use Rattle.defs_soar.specs.ConditionOrder.{ordered_grounds}
use Rattle.defs_soar.specs.Dependencies.{is_new_in, symbols_of_referent, symbols_of_wish}
use Rattle.defs_soar.specs.Firing.{is_for_operator, is_in_range, is_ordinary_kind, is_referent, judged, made_by, MadeSoFar, within_range}
use Rattle.defs_soar.specs.Goals.{is_goal, is_operator_slot}
use Rattle.defs_soar.specs.History.{ChainOf}
use Rattle.defs_soar.specs.Laws.{IsIn}
use Rattle.defs_soar.specs.Naming.{Naming}
use Rattle.defs_soar.specs.Variablized.{Variablized, of_identifier, names_from, variablized_in_conditions, variablized_in_referent, variablized_in_symbol, variablized_in_wish}
use Rattle.defs_soar.specs.Sorted.{has_symbol}
use Rattle.defs_soar.specs.Ungrounded.{or_else, symbols_of_element, first_without, led_to, wrong_in_wish, wrong_in_wishes}
use Rattle.defs_soar.specs.Values.{is_identifier, is_kind}
use Rattle.learning_laws.specs.Lawful.{IsLawful}
use Rattle.learning_laws.specs.Laws.{chunk_of, ChunksMakeResults, instance_at_grounds, made_at_grounds, MakesResults}
use Rattle.learning_laws.specs.BeforeWave.{IsBeforeWave}
use Rattle.learning_laws.specs.Replay.{AreAlike, HasLetterOf, referent_with, wish_with}
use Rattle.learning_laws.proofs.Chunked.{IsChunked, is_chunked, neither}
use Rattle.learning_laws.proofs.ConflictLaws.{at_grounds, binds_are, bound_here, each_symbol, row_there, seen_slots, variablized}
use Rattle.learning_laws.proofs.FieldLaws.{bindings_for, known_for, symbol_for}
use Rattle.learning_laws.proofs.FitLaws.{places_from, places_hold}
use Rattle.learning_laws.proofs.GroundedLaws.{grounded, has_in, none_without, order, place_stands, tags_tell}
use Rattle.learning_laws.proofs.Lists.{in_left, in_right, in_flat_map, in_flat_mapped, filter_keeps, any_in, any_some, both_true, same_itself}
use Rattle.learning_laws.proofs.MakeLaws.{Allowed, HasSlots, makes, Makes, ReferentSlot}
use Rattle.learning_laws.proofs.NameLetters.{letter_of_name}
use Rattle.learning_laws.proofs.NewIdentifiers.{IsSetting, look, looked_up, Named, Setting, StandsFor}
use Rattle.learning_laws.proofs.OrderLaws.{is_order_of}
use Rattle.learning_laws.proofs.SlotCover.{identifier_slot}
use Rattle.learning_laws.proofs.SlotLaws.{number_of, slot_kept}

-- ---- what is not made has a variable

pub wish_right : (c : ChainOf) (places led : List Sym) (w : Wish) (ws : List Wish) → wrong_in_wishes c places led ws ≡ None → IsIn w ws → wrong_in_wish c places led w ≡ None
wish_right c places led w [] h i = absurd i
wish_right c places led w (x ∷ ws) h (inl q) = ap (wrong_in_wish c places led) (sym q) ∙ (neither (wrong_in_wish c places led x) (wrong_in_wishes c places led ws) h).0
wish_right c places led w (x ∷ ws) h (inr i) = wish_right c places led w ws (neither (wrong_in_wish c places led x) (wrong_in_wishes c places led ws) h).1 i

-- each symbol of a wish that is an identifier and not made has a place
right_placed : (c : ChainOf) (places led : List Sym) (w : Wish) (s : Sym) → wrong_in_wish c places led w ≡ None → IsIn s (symbols_of_wish w) → is_identifier s ≡ true → is_made_by c s ≡ false → has_symbol places s ≡ true
right_placed c places led w s h i k m =
    let id_part : Option Sym = cond (is_made_by c w.id) (cond (has_symbol led w.id) None (Some w.id)) (first_without places (w.id ∷ [])) in
    let rest : Option Sym = first_without places (filter (λ s. not (is_made_by c s)) (w.value ∷ symbols_of_referent w.referent)) in
    let a = neither id_part (or_else (first_without places (w.attr ∷ [])) rest) h in
    let b = neither (first_without places (w.attr ∷ [])) rest a.1 in
    go a.0 b.0 b.1 i
  where
    at_id : (b : Bool) → is_made_by c w.id ≡ b → cond b (cond (has_symbol led w.id) None (Some w.id)) (first_without places (w.id ∷ [])) ≡ None → w.id ≡ s → has_symbol places s ≡ true
    at_id true q e same = let z = sym q ∙ ap (is_made_by c) same ∙ m in absurd (cc)
    at_id false q e same = none_without places (w.id ∷ []) s e (inl same) k

    go : cond (is_made_by c w.id) (cond (has_symbol led w.id) None (Some w.id)) (first_without places (w.id ∷ [])) ≡ None → first_without places (w.attr ∷ []) ≡ None
        → first_without places (filter (λ s. not (is_made_by c s)) (w.value ∷ symbols_of_referent w.referent)) ≡ None → IsIn s (symbols_of_wish w) → has_symbol places s ≡ true
    go e f g (inl q) = at_id (is_made_by c w.id) refl e q
    go e f g (inr (inl q)) = none_without places (w.attr ∷ []) s f (inl q) k
    go e f g (inr (inr j)) =
        none_without places (filter (λ s. not (is_made_by c s)) (w.value ∷ symbols_of_referent w.referent)) s g
        (filter_keeps (λ s. not (is_made_by c s)) (w.value ∷ symbols_of_referent w.referent) s j (ap not m)) k

-- ---- what is judged

for_operator : (goals : List Goal) (w x : Wish) → is_operator_slot goals x.id x.attr ≡ is_operator_slot goals w.id w.attr → is_identifier x.value ≡ is_identifier w.value
    → is_referent x.kind x.referent ≡ is_referent w.kind w.referent → x.kind ≡ w.kind → is_for_operator goals x ≡ is_for_operator goals w
for_operator goals w x slot value referent k =
    λ i. cond (slot i) (value i && referent i) (is_ordinary_kind (k i))

pub judged_parts : (goals : List Goal) (w : Wish) → judged goals w ≡ Ok w → (is_for_operator goals w ≡ true) × (is_in_range w ≡ true)
judged_parts goals w h = go (is_for_operator goals w) (is_in_range w) refl refl h
  where
    go : (a b : Bool) → is_for_operator goals w ≡ a → is_in_range w ≡ b → cond a (cond b (Ok w) (Err cause.OutOfRange)) (Err cause.NotAnOperator) ≡ Ok w → (is_for_operator goals w ≡ true) × (is_in_range w ≡ true)
    go true true p q k = (p, q)
    go true false p q k = absurd (cc)
    go false b p q k = absurd (cc)

judged_by : (goals : List Goal) (w : Wish) → is_for_operator goals w ≡ true → is_in_range w ≡ true → judged goals w ≡ Ok w
judged_by goals w a b = ap (λ x. cond x (cond (is_in_range w) (Ok w) (Err cause.OutOfRange)) (Err cause.NotAnOperator)) a ∙ ap (λ x. cond x (Ok w) (Err cause.OutOfRange)) b

operator_apart : (s : Sym) → is_identifier s ≡ true → symbol_eq s operator_word ≡ false
operator_apart (Ident l n) h = refl
operator_apart (Word n) h = absurd (cc)
operator_apart (Int z) h = absurd (cc)

-- ---- wishes under two maps that agree on their symbols

pub map_same : (f h : Sym → Sym) (ws : List Wish) → ((t : Sym) → IsIn t (flat_map symbols_of_wish ws) → f t ≡ h t) → map (wish_with f) ws ≡ map (wish_with h) ws
map_same f h [] e = refl
map_same f h (x ∷ ws) e =
    let rest = map_same f h ws (λ t i. e t (in_right t (symbols_of_wish x) (flat_map symbols_of_wish ws) i)) in
    let here : (t : Sym) → IsIn t (symbols_of_wish x) → f t ≡ h t = λ t i. e t (in_left t (symbols_of_wish x) (flat_map symbols_of_wish ws) i) in
    let referents = referent_same x.referent (λ t i. here t (inr (inr (inr i)))) in
    λ i. record { id = here x.id (inl refl) i; attr = here x.attr (inr (inl refl)) i; value = here x.value (inr (inr (inl refl))) i; kind = x.kind; referent = referents i } ∷ rest i
  where
    referent_same : (r : Option Sym) → ((t : Sym) → IsIn t (symbols_of_referent r) → f t ≡ h t) → referent_with f r ≡ referent_with h r
    referent_same None e = refl
    referent_same (Some t) e = ap Some (e t (inl refl))

-- ---- the chunk's firing

module _ (words : Texts) (letters : List ℕ) (goals : List Goal) (c : ChainOf) (depth number : ℕ) (name : Sym) (w : List Element) (s : Learning)
    (lawful : IsLawful words c w) (moment : IsBeforeWave words letters goals c depth) (k : IsChunked words c depth w s) where
  abbrev taken : List Element
  taken = (ordered_grounds words c.grounds).taken

  abbrev mine : List Variablized
  mine = variablized words c depth w s lawful k

  abbrev bound : List Sym
  bound = bound_here words c depth w s lawful k

  abbrev said : List Sym
  said = flat_map symbols_of_wish c.results

  abbrev g : Setting
  g = record { variablized = mine; seen = bound; wished = said; vars = map (word_in words) (names_from [] mine); words = words; base = letters }

  names_known : (text : List ℕ) → IsIn text (names_from [] mine) → has_text words text ≡ true
  unfolding general_form
  names_known = moment.names

  in_grounds : (t : Sym) → IsIn t bound → IsIn t (flat_map symbols_of_element c.grounds)
  in_grounds t i =
      elim (places_from [] taken t i) [
        | inl j ↦ absurd j
        | inr j ↦ let found = in_flat_map symbols_of_element t taken j in
            in_flat_mapped symbols_of_element found.0 t c.grounds ((is_order_of words c.grounds (tags_tell words c depth w s lawful k)).taken found.0 found.1) found.2
      ]

  setting : IsSetting g
  setting = record {
    seen_slots = seen_slots words c depth w s lawful k;
    letter = λ l n slot i. let range = moment.capital l n i in letter_of_name words mine l n slot names_known range.0 range.1;
    range = λ l n i. (moment.capital l n i).1;
    given = λ l n i. moment.given l n (in_grounds (Ident l n) i);
  }

  -- an identifier of a result that was not made is bound
  pub not_made_bound : (x : Wish) (t : Sym) → IsIn x c.results → IsIn t (symbols_of_wish x) → is_identifier t ≡ true → is_made_by c t ≡ false → IsIn t bound
  not_made_bound x t i j h m =
      let there = order words c depth w s lawful k in
      places_hold [] taken t
      (place_stands words c depth w s lawful k t
      (right_placed c there.places (led_to there.places c.results) x t (wish_right c there.places (led_to there.places c.results) x c.results (grounded words c depth w s lawful k).wishes i) j h m)) h

  -- ---- variablized of wishes

  wish_slot : (x : Wish) (y : Variablized) → IsIn x c.results → IsIn y (variablized_in_wish true x) → IsIn y mine
  wish_slot x y i j =
      slot_kept y [] (variablized_in_conditions true (conditions_of c depth taken) ++ flat_map (variablized_in_wish true) c.results)
      (in_right y (variablized_in_conditions true (conditions_of c depth taken)) (flat_map (variablized_in_wish true) c.results) (in_flat_mapped (variablized_in_wish true) x y c.results i j))

  said_in : (x : Wish) (t : Sym) → IsIn x c.results → IsIn t (symbols_of_wish x) → IsIn t said
  said_in x t i j = in_flat_mapped symbols_of_wish x t c.results i j

  referent_slots : (x : Wish) (r : Option Sym) → IsIn x c.results → ((t : Sym) → IsIn t (symbols_of_referent r) → IsIn t said) → ((y : Variablized) → IsIn y (variablized_in_referent true r) → IsIn y mine) → ReferentSlot g setting r
  referent_slots x None i a b = tt
  referent_slots x (Some t) i a b = λ h. (b (of_identifier t) (identifier_slot t h), a t (inl refl))

  has_slots : (x : Wish) → IsIn x c.results → HasSlots g setting x
  has_slots x i =
      let at_id = variablized_in_symbol true x.id in
      let at_attr = variablized_in_symbol true x.attr in
      let at_value = variablized_in_symbol true x.value in
      let at_referent = variablized_in_referent true x.referent in
      let can = moment.results x i in
      record {
        id = λ h. (wish_slot x (of_identifier x.id) i (in_left (of_identifier x.id) at_id (at_attr ++ (at_value ++ at_referent)) (identifier_slot x.id h)), said_in x x.id i (inl refl));
        attr = λ h. (
          wish_slot x (of_identifier x.attr) i (in_right (of_identifier x.attr) at_id (at_attr ++ (at_value ++ at_referent)) (in_left (of_identifier x.attr) at_attr (at_value ++ at_referent) (identifier_slot x.attr h))),
          said_in x x.attr i (inr (inl refl)),
        );
        value = λ h. (
          wish_slot x (of_identifier x.value) i
              (in_right (of_identifier x.value) at_id (at_attr ++ (at_value ++ at_referent)) (in_right (of_identifier x.value) at_attr (at_value ++ at_referent) (in_left (of_identifier x.value) at_value at_referent (identifier_slot x.value h)))),
          said_in x x.value i (inr (inr (inl refl))),
        );
        referent = referent_slots x x.referent i (λ t j. said_in x t i (inr (inr (inr j))))
            (λ y j. wish_slot x y i (in_right y at_id (at_attr ++ (at_value ++ at_referent)) (in_right y at_attr (at_value ++ at_referent) (in_right y at_value at_referent j))));
        fits = can.referent;
        identifier = can.identifier;
      }

  -- ---- symbols looked up

  module _ (n : Naming) (named : Named g n) where
    abbrev to_n : Sym → Sym
    to_n = look g setting n

    look_kind : (t : Sym) → (is_identifier t ≡ true → IsIn (of_identifier t) mine) → is_identifier (to_n t) ≡ is_identifier t
    look_kind (Word x) h = refl
    look_kind (Int z) h = refl
    look_kind (Ident l m) h = go (symbol_of (number_of mine (Ident l m)) n.bindings) refl
      where
        of : (t : Sym) → StandsFor g n.letters l m t → is_identifier t ≡ true
        of t (inl e) = ap is_identifier e.1
        of t (inr e) = ap is_identifier e.1

        go : (o : Option Sym) → symbol_of (number_of mine (Ident l m)) n.bindings ≡ o → is_identifier (looked_up g setting (Ident l m) o) ≡ true
        go (Some t) q = of t (named.new l m t (h refl) q)
        go None q = refl

    look_bound : (t : Sym) → IsIn t bound → to_n t ≡ t
    look_bound t i = go (is_identifier t)
      where
        go : (b : Bool) → cond b (looked_up g setting t (symbol_of (number_of mine t) n.bindings)) t ≡ t
        go true = ap (looked_up g setting t) (named.known t i)
        go false = refl

    same_attr : (t : Sym) → (is_identifier t ≡ true → IsIn (of_identifier t) mine) → symbol_eq (to_n t) operator_word ≡ symbol_eq t operator_word
    same_attr t h = go (is_identifier t) refl
      where
        go : (b : Bool) → is_identifier t ≡ b → symbol_eq (cond b (looked_up g setting t (symbol_of (number_of mine t) n.bindings)) t) operator_word ≡ symbol_eq t operator_word
        go true q =
            operator_apart (looked_up g setting t (symbol_of (number_of mine t) n.bindings))
            (ap (λ b. is_identifier (cond b (looked_up g setting t (symbol_of (number_of mine t) n.bindings)) t)) (sym q) ∙ look_kind t h ∙ q)
            ∙ sym (operator_apart t q)
        go false q = refl

    -- an identifier of a result is a goal exactly where that is one for which it stands
    same_goal : (x : Wish) (t : Sym) → IsIn x c.results → IsIn t (symbols_of_wish x) → is_identifier t ≡ true → IsIn (of_identifier t) mine → is_goal goals (to_n t) ≡ is_goal goals t
    same_goal x (Word y) i j h slot = refl
    same_goal x (Int z) i j h slot = refl
    same_goal x (Ident l m) i j h slot = by (is_made_by c (Ident l m)) refl
      where
        none : (b : Bool) (a : ℕ) → is_goal goals (Ident l a) ≡ b → last_of letters l < a → b ≡ false
        none true a q less = let few : a ≤ last_of letters l = moment.goals_given l a q in absurd (omega arith)
        none false a q less = refl

        of : (t : Sym) → StandsFor g n.letters l m t → is_goal goals (Ident l m) ≡ false → is_goal goals t ≡ is_goal goals (Ident l m)
        of t (inl e) f = ap (is_goal goals) e.1
        of t (inr e) f = ap (is_goal goals) e.1 ∙ none (is_goal goals (Ident l e.0)) e.0 refl e.2 ∙ sym f

        made : (o : Option Sym) → symbol_of (number_of mine (Ident l m)) n.bindings ≡ o → is_goal goals (Ident l m) ≡ false → is_goal goals (looked_up g setting (Ident l m) o) ≡ is_goal goals (Ident l m)
        made (Some t) q f = of t (named.new l m t slot q) f
        made None q f = refl

        by : (b : Bool) → is_made_by c (Ident l m) ≡ b → is_goal goals (to_n (Ident l m)) ≡ is_goal goals (Ident l m)
        by true q = made (symbol_of (number_of mine (Ident l m)) n.bindings) refl (moment.no_goal (Ident l m) q)
        by false q = ap (is_goal goals) (look_bound (Ident l m) (not_made_bound x (Ident l m) i j h q))

    same_referent : (kd : PrefKind) (r : Option Sym) → ReferentSlot g setting r → is_referent kd (referent_with to_n r) ≡ is_referent kd r
    same_referent kd None h = refl
    same_referent kd (Some t) h = ap (λ b. b || is_kind kd kind.Numeric) (look_kind t (λ q. (h q).0))

    same_range : (r : Option Sym) → ReferentSlot g setting r → within_range (referent_with to_n r) ≡ within_range r
    same_range None h = refl
    same_range (Some (Word x)) h = refl
    same_range (Some (Int z)) h = refl
    same_range (Some (Ident l m)) h = go (symbol_of (number_of mine (Ident l m)) n.bindings) refl
      where
        of : (t : Sym) → StandsFor g n.letters l m t → within_range (Some t) ≡ true
        of t (inl e) = ap (λ x. within_range (Some x)) e.1
        of t (inr e) = ap (λ x. within_range (Some x)) e.1

        go : (o : Option Sym) → symbol_of (number_of mine (Ident l m)) n.bindings ≡ o → within_range (Some (looked_up g setting (Ident l m) o)) ≡ true
        go None q = refl
        go (Some t) q = of t (named.new l m t (h refl).0 q)

  allowed : (x : Wish) → IsIn x c.results → Allowed g setting goals x
  allowed x i n named =
      let can = moment.results x i in
      let slot = has_slots x i in
      let parts = judged_parts goals x can.allowed in
      let at_slot : is_operator_slot goals (look g setting n x.id) (look g setting n x.attr) ≡ is_operator_slot goals x.id x.attr =
      λ j. same_attr n named x.attr (λ q. (slot.attr q).0) j && same_goal n named x x.id i (inl refl) can.identifier (slot.id can.identifier).0 j in
      judged_by goals (wish_with (look g setting n) x)
      (for_operator goals x (wish_with (look g setting n) x) at_slot (look_kind n named x.value (λ q. (slot.value q).0)) (same_referent n named x.kind x.referent slot.referent) refl ∙ parts.0)
      (ap (λ b. not (is_kind x.kind kind.Numeric) || b) (same_range n named x.referent slot.referent) ∙ parts.1)

  -- ---- the naming at the start

  abbrev start : Naming
  start = record { bindings = bindings_for mine bound; words = words; letters = letters; vars = map (word_in words) (names_from [] mine); totals = [] }

  if_some : (b : Bool) (x t : Sym) → cond b (Some x) None ≡ Some t → (b ≡ true) × (x ≡ t)
  if_some true x t h = (refl, cc)
  if_some false x t h = absurd (cc)

  start_is : (l m : ℕ) (t : Sym) → IsIn (of_identifier (Ident l m)) mine → symbol_of (number_of mine (Ident l m)) (bindings_for mine bound) ≡ Some t → IsIn (Ident l m) bound × (Ident l m ≡ t)
  start_is l m t i q =
      let found = if_some (has_symbol bound (Ident l m)) (Ident l m) t (sym (symbol_for mine bound (Ident l m) setting.seen_slots i) ∙ q) in
      (has_in bound (Ident l m) found.0, found.1)

  named_start : Named g start
  named_start = record {
    words = refl;
    vars = refl;
    long = moment.long;
    grow = λ l. omega arith;
    known = λ t i. known_for mine bound t setting.seen_slots i;
    new = λ l m t i q. let f = start_is l m t i q in inl (f.0, sym f.1);
    apart = λ l m a b t i j p q. (start_is l m t i p).1 ∙ sym (start_is a b t j q).1;
  }

  -- ---- the results

  abbrev nothing_made : MadeSoFar
  nothing_made = record { wishes = []; text = []; halted = false; dropped = []; naming = start }

  all_made : Makes g setting goals 1 c.results nothing_made
  all_made = makes g setting goals 1 c.results nothing_made named_start has_slots allowed

  abbrev last : Naming
  last = all_made.last

  abbrev came_to : Sym → Sym
  came_to t = cond (is_made_by c t && has_symbol said t) (look g setting last t) t

  said_slot : (t : Sym) → IsIn t said → is_identifier t ≡ true → IsIn (of_identifier t) mine
  said_slot t i h =
      let found = in_flat_map symbols_of_wish t c.results i in
      let slot = has_slots found.0 found.1 in by found.0 slot found.2
    where
      by_referent : (r : Option Sym) → ReferentSlot g setting r → IsIn t (symbols_of_referent r) → IsIn (of_identifier t) mine
      by_referent None e j = absurd j
      by_referent (Some u) e (inl q) = subst (λ x. IsIn (of_identifier x) mine) q (e (ap is_identifier q ∙ h)).0
      by_referent (Some u) e (inr j) = absurd j

      by : (x : Wish) → HasSlots g setting x → IsIn t (symbols_of_wish x) → IsIn (of_identifier t) mine
      by x slot (inl q) = subst (λ x. IsIn (of_identifier x) mine) q (slot.id (ap is_identifier q ∙ h)).0
      by x slot (inr (inl q)) = subst (λ x. IsIn (of_identifier x) mine) q (slot.attr (ap is_identifier q ∙ h)).0
      by x slot (inr (inr (inl q))) = subst (λ x. IsIn (of_identifier x) mine) q (slot.value (ap is_identifier q ∙ h)).0
      by x slot (inr (inr (inr j))) = by_referent x.referent slot.referent j

  -- what stands in the results comes to what it is looked up as
  came_as_looked : (t : Sym) → IsIn t said → look g setting last t ≡ came_to t
  came_as_looked t i = go (is_made_by c t) (is_identifier t) refl refl
    where
      found : (x : Wish) × IsIn x c.results × IsIn t (symbols_of_wish x)
      found = in_flat_map symbols_of_wish t c.results i

      unmade : (b : Bool) → is_identifier t ≡ b → is_made_by c t ≡ false → look g setting last t ≡ t
      unmade true q m = look_bound last all_made.named t (not_made_bound found.0 t found.1 found.2 q m)
      unmade false q m = ap (λ b. cond b (looked_up g setting t (symbol_of (number_of mine t) last.bindings)) t) q

      go : (a b : Bool) → is_made_by c t ≡ a → is_identifier t ≡ b → look g setting last t ≡ came_to t
      go true b m q =
          sym (ap (λ x. cond (x && has_symbol said t) (look g setting last t) t) m
          ∙ ap (λ x. cond x (look g setting last t) t) (any_in (symbol_eq t) t said i (same_itself t)))
      go false b m q = unmade b q m ∙ sym (ap (λ x. cond (x && has_symbol said t) (look g setting last t) t) m)

  letter_kept : (t : Sym) → is_identifier t ≡ true → HasLetterOf t (came_to t)
  letter_kept (Word x) h = absurd (cc)
  letter_kept (Int z) h = absurd (cc)
  letter_kept (Ident l m) h = go (is_made_by c (Ident l m)) (has_symbol said (Ident l m)) refl
    where
      of : (t : Sym) → StandsFor g last.letters l m t → (n : ℕ) × (t ≡ Ident l n)
      of t (inl e) = (m, e.1)
      of t (inr e) = (e.0, e.1)

      by : IsIn (of_identifier (Ident l m)) mine → (o : Option Sym) → symbol_of (number_of mine (Ident l m)) last.bindings ≡ o → (n : ℕ) × (looked_up g setting (Ident l m) o ≡ Ident l n)
      by slot (Some t) q = of t (all_made.named.new l m t slot q)
      by slot None q = (m, refl)

      go : (a b : Bool) → has_symbol said (Ident l m) ≡ b → (n : ℕ) × (cond (a && b) (look g setting last (Ident l m)) (Ident l m) ≡ Ident l n)
      go true true q = by (said_slot (Ident l m) (has_in said (Ident l m) q) refl) (symbol_of (number_of mine (Ident l m)) last.bindings) refl
      go true false q = (m, refl)
      go false b q = (m, refl)

  look_apart : (t u : Sym) → IsIn t said → IsIn u said → look g setting last t ≡ look g setting last u → t ≡ u
  look_apart (Ident l m) (Ident a b) i j h =
      let x = all_made.bound (Ident l m) i refl in
      let y = all_made.bound (Ident a b) j refl in
      let same : x.0 ≡ y.0 = sym (ap (looked_up g setting (Ident l m)) x.1) ∙ h ∙ ap (looked_up g setting (Ident a b)) y.1 in
      all_made.named.apart l m a b x.0 (said_slot (Ident l m) i refl) (said_slot (Ident a b) j refl) x.1 (y.1 ∙ ap Some (sym same))
  look_apart (Ident l m) (Word x) i j h = let q = sym (look_kind last all_made.named (Ident l m) (λ q. said_slot (Ident l m) i q)) ∙ ap is_identifier h in absurd (cc)
  look_apart (Ident l m) (Int z) i j h = let q = sym (look_kind last all_made.named (Ident l m) (λ q. said_slot (Ident l m) i q)) ∙ ap is_identifier h in absurd (cc)
  look_apart (Word x) (Ident l m) i j h = let q = sym (look_kind last all_made.named (Ident l m) (λ q. said_slot (Ident l m) j q)) ∙ ap is_identifier (sym h) in absurd (cc)
  look_apart (Int z) (Ident l m) i j h = let q = sym (look_kind last all_made.named (Ident l m) (λ q. said_slot (Ident l m) j q)) ∙ ap is_identifier (sym h) in absurd (cc)
  look_apart (Word x) (Word y) i j h = h
  look_apart (Word x) (Int z) i j h = h
  look_apart (Int z) (Word x) i j h = h
  look_apart (Int z) (Int y) i j h = h

  made_identifier : (t : Sym) → is_made_by c t ≡ true → is_identifier t ≡ true
  made_identifier t h =
      let new = any_some (λ f. is_new_in f t) (firings_of c) (both_true (list_any (λ f. is_new_in f t) (firings_of c)) _ h).0 in
      (both_true (is_identifier t) _ new.2).0

  results_alike : AreAlike (is_made_by c) c.results (map (wish_with (look g setting last)) c.results)
  results_alike = record {
    to = came_to;
    stays = λ t h. ap (λ x. cond (x && has_symbol said t) (look g setting last t) t) h;
    letter = λ t h. letter_kept t (made_identifier t h);
    apart = λ t u i j h.
        let a = has_in said t i in
        let b = has_in said u j in look_apart t u a b (came_as_looked t a ∙ h ∙ sym (came_as_looked u b));
    same = map_same (look g setting last) came_to c.results came_as_looked;
  }

  -- ---- the firing's bindings

  as_match : (r : Row) (rs : List Row) → IsIn r rs → match.IsIn r rs
  as_match r [] i = i
  as_match r (x ∷ rs) (inl q) = inl q
  as_match r (x ∷ rs) (inr i) = inr (as_match r rs i)

  results_made : MakesResults c (made_at_grounds words letters goals c depth name number)
  unfolding general_form
  results_made =
      let p = (chunk_of words c depth name number).production in
      let r = at_grounds words c depth w s lawful k in
      let told = tells_bindings p number w r (as_match r (rows p.conditions w) (row_there words c depth w s lawful k)) in
      let binds = sym (each_symbol [] [] taken) in
      let bindings : bindings_of p (instance_at_grounds words c number) ≡ bindings_for mine bound =
      (λ i. bindings_of p (record { rule = number; tags = map (λ (e : Element). e.tag) taken; binds = sym (binds_are mine bound ∙ binds) i })) ∙ told in
      subst (MakesResults c)
      (sym ((λ i. made_by goals p.actions (record { bindings = bindings i; words = words; letters = letters; vars = p.vars; totals = [] })) ∙ all_made.is))
      (record { wishes = results_alike; dropped = refl; text = refl; halted = refl })

pub chunks_make_results : ChunksMakeResults
chunks_make_results words letters goals c depth number name rules w s lawful moment h =
    results_made words letters goals c depth number name w s lawful moment (is_chunked words c depth rules w s h)
