-- The kind and the match goal of a learned firing, from the elements of its tags in any order.
use Rattle.std.proofs.Common.{◌≡◌, inl, inr, refl, sym, ◌∙◌, ap, ap₂, arith, subst, ℕ, suc, ◌==◌, Bool, true, false, ◌&&◌, ◌||◌, cond, List, [], ◌∷◌, ◌++◌, map, Option, Some, None}
use Rattle.std.specs.List.{list_any}
use Rattle.soar_sym.specs.Equality.{symbol_eq}
use Rattle.soar_sym.specs.declared.symbol.Sym.{Sym}
use Rattle.soar_rule.specs.Productions.{ProductionOf}
use Rattle.soar_wm.specs.declared.element.Element.{Element}
use Rattle.defs_match.specs.Testing.{Bindings}
use Rattle.defs_soar.specs.declared.goal.Goal.{Goal}
use Rattle.defs_soar.specs.Goals.{goal_ids}
use Rattle.defs_soar.specs.Laws.{IsIn}
use Rattle.defs_soar.specs.Pending.{elements_of_tags}
use Rattle.defs_soar.specs.Sorted.{has_symbol}
use Rattle.defs_soar.specs.Support.{applies_operator, depth_from, goal_at_depth, kind_by, match_depth, operator_kind, operator_selected, selected_at}
use Rattle.learning_laws.proofs.Lists.{any_in, any_some, filter_keeps, filter_within, in_map, in_mapped, same_itself, same_number, symbol_same}
use Rattle.settling_laws.proofs.LevelLemmas.{one_truth}
use Rattle.learned_firings.specs.Deciding.{AreThere, deciding, is_told_before, tells_selected, with_seen}

-- ---- the elements of tags are those with these tags

module _ (elements memory : List Element) (there : AreThere elements memory) where
  abbrev found : List Element
  found = elements_of_tags memory (map (λ e. e.tag) elements)

  pub found_in : (e : Element) → IsIn e found → IsIn e elements
  found_in e i =
      let within = filter_within (λ (x : Element). list_any (λ tag. tag == x.tag) (map (λ (y : Element). y.tag) elements)) memory e i in
      let tag = any_some (λ (tag : ℕ). tag == e.tag) (map (λ (y : Element). y.tag) elements) within.1 in
      let at = in_map (λ (y : Element). y.tag) tag.0 elements tag.1 in
      let same : at.0.tag ≡ e.tag = at.2 ∙ same_number tag.0 e.tag tag.2 in
      subst (λ x. IsIn x elements) (there.tags at.0 e (there.within at.0 at.1) within.0 same) at.1

  pub in_found : (e : Element) → IsIn e elements → IsIn e found
  in_found e i =
      filter_keeps (λ (x : Element). list_any (λ tag. tag == x.tag) (map (λ (y : Element). y.tag) elements)) memory e (there.within e i)
      (any_in (λ (tag : ℕ). tag == e.tag) e.tag (map (λ (y : Element). y.tag) elements) (in_mapped (λ (y : Element). y.tag) e elements i) (own e.tag))
    where
      own : (n : ℕ) → (n == n) ≡ true
      own n = grind arith

-- ---- lists with the same members

abbrev pub AreMembers : List Element → List Element → Type 0
AreMembers xs ys = (e : Element) → IsIn e xs → IsIn e ys

any_members : (p : Element → Bool) (xs ys : List Element) → AreMembers xs ys → AreMembers ys xs → list_any p xs ≡ list_any p ys
any_members p xs ys h k =
    one_truth (list_any p xs) (list_any p ys)
    (λ q. let x = any_some p xs q in any_in p x.0 ys (h x.0 x.1) x.2)
    (λ q. let y = any_some p ys q in any_in p y.0 xs (k y.0 y.1) y.2)

-- depths hang on the goals that elements are about
depth_same : (n : ℕ) (ids : List Sym) (xs ys : List Element) → ((s : Sym) → list_any (λ e. symbol_eq e.id s) xs ≡ list_any (λ e. symbol_eq e.id s) ys) → depth_from n ids xs ≡ depth_from n ids ys
depth_same n [] xs ys h = refl
depth_same n (id ∷ ids) xs ys h =
    ap₂ (λ (below : ℕ) (b : Bool). cond (below == 0) (cond b n 0) below) (depth_same (suc n) ids xs ys h) (h id)

pub match_same : (goals : List Goal) (elements memory : List Element) → AreThere elements memory → match_depth goals (elements_of_tags memory (map (λ e. e.tag) elements)) ≡ match_depth goals elements
match_same goals elements memory there =
    depth_same 1 (goal_ids goals) (found elements memory there) elements
    (λ s. any_members (λ e. symbol_eq e.id s) (found elements memory there) elements (found_in elements memory there) (in_found elements memory there))

-- ---- the elements that decide

and_second : (a b : Bool) → (a && b) ≡ true → b ≡ true
and_second true b q = q
and_second false b q = absurd (cc)

and_first : (a b : Bool) → (a && b) ≡ true → a ≡ true
and_first true b q = refl
and_first false b q = q

pub deciding_in : (seen : List Sym) (elements : List Element) (e : Element) → IsIn e (deciding seen elements) → IsIn e elements
deciding_in seen [] e i = i
deciding_in seen (x ∷ elements) e i = go (is_told_before seen x) i (deciding_in (with_seen seen x) elements e)
  where
    go : (b : Bool) → IsIn e (cond b [] (x ∷ []) ++ deciding (with_seen seen x) elements) → (IsIn e (deciding (with_seen seen x) elements) → IsIn e elements) → IsIn e (x ∷ elements)
    go true j later = inr (later j)
    go false (inl q) later = inl q
    go false (inr j) later = inr (later j)

has_last : (seen : List Sym) (s t : Sym) → has_symbol (seen ++ t ∷ []) s ≡ (has_symbol seen s || symbol_eq s t)
has_last [] s t = go (symbol_eq s t)
  where
    go : (b : Bool) → (b || false) ≡ b
    go true = refl
    go false = refl
has_last (x ∷ seen) s t = go (symbol_eq s x) (has_last seen s t)
  where
    go : (b : Bool) → has_symbol (seen ++ t ∷ []) s ≡ (has_symbol seen s || symbol_eq s t) → (b || has_symbol (seen ++ t ∷ []) s) ≡ ((b || has_symbol seen s) || symbol_eq s t)
    go true q = refl
    go false q = q

-- an element for a goal, among those that decide or seen before
abbrev any_at : Sym → List Element → Bool
any_at s elements = list_any (λ e. symbol_eq e.id s) elements

abbrev either_at : Sym → List Sym → List Element → Bool
either_at s seen elements = has_symbol seen s || any_at s elements

turned : (a b : Sym) → symbol_eq a b ≡ symbol_eq b a
turned a b =
    one_truth (symbol_eq a b) (symbol_eq b a) (λ q. ap (λ x. symbol_eq x a) (sym (symbol_same a b q)) ∙ same_itself a) (λ q. ap (λ x. symbol_eq x b) (sym (symbol_same b a q)) ∙ same_itself b)

goals_kept : (s : Sym) (seen : List Sym) (elements : List Element) → either_at s seen (deciding seen elements) ≡ either_at s seen elements
goals_kept s seen [] = refl
goals_kept s seen (x ∷ elements) = go (tells_selected x) (has_symbol seen x.id) refl (goals_kept s seen elements) (goals_kept s (seen ++ x.id ∷ []) elements)
  where
    shift : (a b c : Bool) → (a || (b || c)) ≡ ((a || b) || c)
    shift true b c = refl
    shift false b c = refl

    swap : (a b c : Bool) → ((a || b) || c) ≡ (a || (b || c))
    swap true b c = refl
    swap false b c = refl

    -- what is seen already counts for nothing more
    seen_counts : (b : Bool) → has_symbol seen x.id ≡ true → symbol_eq x.id s ≡ b → (c : Bool) → (has_symbol seen s || (b || c)) ≡ (has_symbol seen s || c)
    seen_counts false h q c = refl
    seen_counts true h q c = let there : has_symbol seen s ≡ true = ap (has_symbol seen) (sym (symbol_same x.id s q)) ∙ h in ap (λ a. a || (true || c)) there ∙ sym (ap (λ a. a || c) there)

    go : (a b : Bool) → has_symbol seen x.id ≡ b → either_at s seen (deciding seen elements) ≡ either_at s seen elements
        → either_at s (seen ++ x.id ∷ []) (deciding (seen ++ x.id ∷ []) elements) ≡ either_at s (seen ++ x.id ∷ []) elements
        → (has_symbol seen s || any_at s (cond (a && b) [] (x ∷ []) ++ deciding (cond a (seen ++ x.id ∷ []) seen) elements)) ≡ (has_symbol seen s || (symbol_eq x.id s || any_at s elements))
    go false b q plain more = swap_in (has_symbol seen s) (symbol_eq x.id s) (any_at s (deciding seen elements)) (any_at s elements) plain
      where
        swap_in : (a b c d : Bool) → (a || c) ≡ (a || d) → (a || (b || c)) ≡ (a || (b || d))
        swap_in true b c d e = refl
        swap_in false true c d e = refl
        swap_in false false c d e = e
    go true true q plain more =
        last_in (has_symbol seen s) (symbol_eq x.id s) (any_at s (deciding (seen ++ x.id ∷ []) elements)) (any_at s elements) (seen_counts (symbol_eq x.id s) q refl (any_at s (deciding (seen ++ x.id ∷ []) elements))) lasts
      where
        lasts : ((has_symbol seen s || symbol_eq x.id s) || any_at s (deciding (seen ++ x.id ∷ []) elements)) ≡ ((has_symbol seen s || symbol_eq x.id s) || any_at s elements)
        lasts = ap (λ b. (has_symbol seen s || b) || any_at s (deciding (seen ++ x.id ∷ []) elements)) (turned x.id s) ∙ ap (λ b. b || any_at s (deciding (seen ++ x.id ∷ []) elements)) (sym (has_last seen s x.id))
            ∙ more ∙ ap (λ b. b || any_at s elements) (has_last seen s x.id) ∙ ap (λ b. (has_symbol seen s || b) || any_at s elements) (turned s x.id)

        last_in : (a b c d : Bool) → (a || (b || c)) ≡ (a || c) → ((a || b) || c) ≡ ((a || b) || d) → (a || c) ≡ (a || (b || d))
        last_in true b c d e f = refl
        last_in false b c d e f = sym e ∙ f
    go true false q plain more =
        shift (has_symbol seen s) (symbol_eq x.id s) (any_at s (deciding (seen ++ x.id ∷ []) elements)) ∙ lasts ∙ swap (has_symbol seen s) (symbol_eq x.id s) (any_at s elements)
      where
        lasts : ((has_symbol seen s || symbol_eq x.id s) || any_at s (deciding (seen ++ x.id ∷ []) elements)) ≡ ((has_symbol seen s || symbol_eq x.id s) || any_at s elements)
        lasts = ap (λ b. (has_symbol seen s || b) || any_at s (deciding (seen ++ x.id ∷ []) elements)) (turned x.id s) ∙ ap (λ b. b || any_at s (deciding (seen ++ x.id ∷ []) elements)) (sym (has_last seen s x.id))
            ∙ more ∙ ap (λ b. b || any_at s elements) (has_last seen s x.id) ∙ ap (λ b. (has_symbol seen s || b) || any_at s elements) (turned s x.id)

-- ---- the selected operator of a goal

abbrev selects : Sym → Element → Bool
selects goal e = symbol_eq e.id goal && tells_selected e

-- the first element that tells the operator
record IsFirst (goal : Sym) (elements : List Element) (operator : Sym) : Type 0 where
  first : Element
  is_there : IsIn first elements
  tells : selects goal first ≡ true
  value_is : first.value ≡ operator

first_of : (goal : Sym) (elements : List Element) (operator : Sym) → operator_selected goal elements ≡ Some operator → IsFirst goal elements operator
first_of goal [] operator q = absurd (cc)
first_of goal (x ∷ elements) operator q = go (selects goal x) refl q (first_of goal elements operator)
  where
    go : (b : Bool) → selects goal x ≡ b → cond b (Some x.value) (operator_selected goal elements) ≡ Some operator → (operator_selected goal elements ≡ Some operator → IsFirst goal elements operator)
        → IsFirst goal (x ∷ elements) operator
    go true e r later = record { first = x; is_there = inl refl; tells = e; value_is = cc }
    go false e r later = let f = later r in record { first = f.first; is_there = inr f.is_there; tells = f.tells; value_is = f.value_is }

none_selects : (goal : Sym) (elements : List Element) → operator_selected goal elements ≡ None → (e : Element) → IsIn e elements → selects goal e ≡ false
none_selects goal [] q e i = absurd i
none_selects goal (x ∷ elements) q e i = go (selects goal x) refl q i (none_selects goal elements)
  where
    go : (b : Bool) → selects goal x ≡ b → cond b (Some x.value) (operator_selected goal elements) ≡ None → IsIn e (x ∷ elements) → (operator_selected goal elements ≡ None → (e : Element) → IsIn e elements → selects goal e ≡ false)
        → selects goal e ≡ false
    go true p r j later = absurd (cc)
    go false p r (inl k) later = ap (selects goal) (sym k) ∙ p
    go false p r (inr k) later = later r e k

-- where one element at most tells it, the order does not count
one_tells : (goal : Sym) (xs ys : List Element) → AreMembers xs ys → AreMembers ys xs → ((e f : Element) → IsIn e xs → IsIn f xs → selects goal e ≡ true → selects goal f ≡ true → e ≡ f)
    → operator_selected goal xs ≡ operator_selected goal ys
one_tells goal xs ys h k one = go (operator_selected goal xs) refl (operator_selected goal ys) refl
  where
    go : (o : Option Sym) → operator_selected goal xs ≡ o → (p : Option Sym) → operator_selected goal ys ≡ p → o ≡ p
    go None q None r = refl
    go None q (Some t) r = let f = first_of goal ys t r in let no : true ≡ false = sym f.tells ∙ none_selects goal xs q f.first (k f.first f.is_there) in absurd (cc)
    go (Some s) q None r = let f = first_of goal xs s q in let no : true ≡ false = sym f.tells ∙ none_selects goal ys r f.first (h f.first f.is_there) in absurd (cc)
    go (Some s) q (Some t) r =
        let e = first_of goal xs s q in
        let f = first_of goal ys t r in
        let same = one e.first f.first e.is_there (k f.first f.is_there) e.tells f.tells in
        ap Some (sym e.value_is ∙ ap (λ (x : Element). x.value) same ∙ f.value_is)

-- none that decides is for a goal that was seen
none_seen : (seen : List Sym) (elements : List Element) (e : Element) → IsIn e (deciding seen elements) → tells_selected e ≡ true → has_symbol seen e.id ≡ false
none_seen seen [] e i t = absurd i
none_seen seen (x ∷ elements) e i t = go (tells_selected x) refl (has_symbol seen x.id) refl i (none_seen seen elements e) (none_seen (seen ++ x.id ∷ []) elements e)
  where
    before : has_symbol (seen ++ x.id ∷ []) e.id ≡ false → has_symbol seen e.id ≡ false
    before q = by (has_symbol seen e.id) (sym (has_last seen e.id x.id) ∙ q)
      where
        by : (b : Bool) → (b || symbol_eq e.id x.id) ≡ false → b ≡ false
        by true r = r
        by false r = refl

    go : (a : Bool) → tells_selected x ≡ a → (b : Bool) → has_symbol seen x.id ≡ b → IsIn e (cond (a && b) [] (x ∷ []) ++ deciding (cond a (seen ++ x.id ∷ []) seen) elements)
        → (IsIn e (deciding seen elements) → tells_selected e ≡ true → has_symbol seen e.id ≡ false)
        → (IsIn e (deciding (seen ++ x.id ∷ []) elements) → tells_selected e ≡ true → has_symbol (seen ++ x.id ∷ []) e.id ≡ false) → has_symbol seen e.id ≡ false
    go true p true q j plain more = before (more j t)
    go true p false q (inl k) plain more = ap (λ (y : Element). has_symbol seen y.id) (sym k) ∙ q
    go true p false q (inr k) plain more = before (more k t)
    go false p b q (inl k) plain more = absurd (let no : true ≡ false = sym t ∙ ap tells_selected (sym k) ∙ p in cc)
    go false p b q (inr k) plain more = plain k t

-- so one that decides at most tells the operator of a goal
one_decides : (goal : Sym) (seen : List Sym) (elements : List Element) (e f : Element) → IsIn e (deciding seen elements) → IsIn f (deciding seen elements) → selects goal e ≡ true → selects goal f ≡ true → e ≡ f
one_decides goal seen [] e f i j p q = absurd i
one_decides goal seen (x ∷ elements) e f i j p q = go (tells_selected x) refl (has_symbol seen x.id) i j (one_decides goal seen elements e f) (one_decides goal (seen ++ x.id ∷ []) elements e f)
  where
    same_goal : (y z : Element) → selects goal y ≡ true → selects goal z ≡ true → y.id ≡ z.id
    same_goal y z a b = symbol_same y.id goal (and_first (symbol_eq y.id goal) (tells_selected y) a) ∙ sym (symbol_same z.id goal (and_first (symbol_eq z.id goal) (tells_selected z) b))

    -- x does, and another behind it
    clash : (y : Element) → IsIn y (deciding (seen ++ x.id ∷ []) elements) → selects goal x ≡ true → selects goal y ≡ true → ⊥
    clash y k a b =
        let none = none_seen (seen ++ x.id ∷ []) elements y k (and_second (symbol_eq y.id goal) (tells_selected y) b) in
        let there : has_symbol (seen ++ x.id ∷ []) y.id ≡ true =
        has_last seen y.id x.id ∙ ap (λ c. has_symbol seen y.id || c) (ap (λ z. symbol_eq z x.id) (same_goal y x b a) ∙ same_itself x.id) ∙ either (has_symbol seen y.id) in
        let no : true ≡ false = sym there ∙ none in absurd (cc)
      where
        either : (c : Bool) → (c || true) ≡ true
        either true = refl
        either false = refl

    not_told : (y : Element) → tells_selected x ≡ false → x ≡ y → selects goal y ≡ true → ⊥
    not_told y t k a = let no : true ≡ false = sym (and_second (symbol_eq y.id goal) (tells_selected y) a) ∙ ap tells_selected (sym k) ∙ t in absurd (cc)

    go : (a : Bool) → tells_selected x ≡ a → (b : Bool) → IsIn e (cond (a && b) [] (x ∷ []) ++ deciding (cond a (seen ++ x.id ∷ []) seen) elements)
        → IsIn f (cond (a && b) [] (x ∷ []) ++ deciding (cond a (seen ++ x.id ∷ []) seen) elements)
        → (IsIn e (deciding seen elements) → IsIn f (deciding seen elements) → selects goal e ≡ true → selects goal f ≡ true → e ≡ f)
        → (IsIn e (deciding (seen ++ x.id ∷ []) elements) → IsIn f (deciding (seen ++ x.id ∷ []) elements) → selects goal e ≡ true → selects goal f ≡ true → e ≡ f) → e ≡ f
    go true t true k l plain more = more k l p q
    go true t false (inl k) (inl l) plain more = sym k ∙ l
    go true t false (inl k) (inr l) plain more = absurd (clash f l (ap (selects goal) k ∙ p) q)
    go true t false (inr k) (inl l) plain more = absurd (clash e k (ap (selects goal) l ∙ q) p)
    go true t false (inr k) (inr l) plain more = more k l p q
    go false t b (inl k) l plain more = absurd (not_told e t k p)
    go false t b (inr k) (inl l) plain more = absurd (not_told f t l q)
    go false t b (inr k) (inr l) plain more = plain k l p q

-- and the first for a goal stays
first_decides : (goal : Sym) (seen : List Sym) (elements : List Element) → has_symbol seen goal ≡ false → operator_selected goal (deciding seen elements) ≡ operator_selected goal elements
first_decides goal seen [] new = refl
first_decides goal seen (x ∷ elements) new = go (tells_selected x) refl (has_symbol seen x.id) refl (symbol_eq x.id goal) refl (first_decides goal seen elements new) (first_decides goal (seen ++ x.id ∷ []) elements)
  where
    still_new : symbol_eq x.id goal ≡ false → has_symbol (seen ++ x.id ∷ []) goal ≡ false
    still_new q = has_last seen goal x.id ∙ ap (λ c. c || symbol_eq goal x.id) new ∙ turned goal x.id ∙ q

    go : (a : Bool) → tells_selected x ≡ a → (b : Bool) → has_symbol seen x.id ≡ b → (c : Bool) → symbol_eq x.id goal ≡ c → operator_selected goal (deciding seen elements) ≡ operator_selected goal elements
        → (has_symbol (seen ++ x.id ∷ []) goal ≡ false → operator_selected goal (deciding (seen ++ x.id ∷ []) elements) ≡ operator_selected goal elements)
        → operator_selected goal (cond (a && b) [] (x ∷ []) ++ deciding (cond a (seen ++ x.id ∷ []) seen) elements) ≡ cond (selects goal x) (Some x.value) (operator_selected goal elements)
    go true t true k true q plain more = let no : true ≡ false = sym k ∙ ap (has_symbol seen) (symbol_same x.id goal q) ∙ new in absurd (cc)
    go true t true k false q plain more = more (still_new q) ∙ sym (ap (λ c. cond (c && tells_selected x) (Some x.value) (operator_selected goal elements)) q)
    go true t false k true q plain more =
        let sel : selects goal x ≡ true = ap (λ c. c && tells_selected x) q ∙ t in
        ap (λ c. cond c (Some x.value) (operator_selected goal (deciding (seen ++ x.id ∷ []) elements))) sel ∙ sym (ap (λ c. cond c (Some x.value) (operator_selected goal elements)) sel)
    go true t false k false q plain more = ap (λ o. cond (selects goal x) (Some x.value) o) (more (still_new q))
    go false t b k c q plain more = ap (λ o. cond (selects goal x) (Some x.value) o) plain

-- ---- the kind

module _ (elements memory : List Element) (there : AreThere elements memory) where
  abbrev decides : List Element
  decides = deciding [] elements

  decides_there : AreThere decides memory
  decides_there = record { within = λ e i. there.within e (deciding_in [] elements e i); tags = there.tags }

  abbrev told : List Element
  told = elements_of_tags memory (map (λ e. e.tag) decides)

  depth_told : (goals : List Goal) → match_depth goals told ≡ match_depth goals elements
  depth_told goals =
      depth_same 1 (goal_ids goals) told elements
      (λ s. any_members (λ e. symbol_eq e.id s) told decides (found_in decides memory decides_there) (in_found decides memory decides_there) ∙ goals_kept s [] elements)

  operator_told : (goal : Sym) → operator_selected goal told ≡ operator_selected goal elements
  operator_told goal =
      one_tells goal told decides (found_in decides memory decides_there) (in_found decides memory decides_there)
      (λ e f i j p q. one_decides goal [] elements e f (found_in decides memory decides_there e i) (found_in decides memory decides_there f j) p q)
      ∙ first_decides goal [] elements refl

  selected_told : (o : Option Sym) → selected_at told o ≡ selected_at elements o
  selected_told None = refl
  selected_told (Some goal) = operator_told goal

  -- the kind by these tags is that by the elements in their order
  pub kind_told : (goals : List Goal) (bindings : Bindings) (production : ProductionOf) → operator_kind goals told bindings production ≡ operator_kind goals elements bindings production
  kind_told goals bindings production =
      ap (λ o. kind_by production.support (applies_operator goals production bindings o))
      (selected_told (goal_at_depth (match_depth goals told) goals) ∙ ap (λ (n : ℕ). selected_at elements (goal_at_depth n goals)) (depth_told goals))
