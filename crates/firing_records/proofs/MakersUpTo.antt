-- No maker that a firing's uses name is beyond the firings of rows and the makers of selections.
use Rattle.std.proofs.Common.{◌≡◌, ◌≤◌, ◌⊎◌, inl, inr, refl, sym, ◌∙◌, subst, ℕ, nat_lt, min, Bool, true, false, ◌||◌, cond, arith, List, [], ◌∷◌, ◌++◌, map, flat_map, filter, Option, Some, None}
use Rattle.soar_sym.specs.Equality.{symbol_eq}
use Rattle.soar_sym.specs.declared.symbol.Sym.{Sym}
use Rattle.soar_wm.specs.declared.element.Element.{Element}
use Rattle.soar_wm.specs.WorkingMemory.{triple_of}
use Rattle.defs_match.specs.Rules.{RuleOf}
use Rattle.defs_match.specs.declared.instance.Instance.{Instance}
use Rattle.defs_soar.specs.declared.firing.How.{How}
use Rattle.defs_soar.specs.declared.firing.How.TheVariants as how
use Rattle.defs_soar.specs.declared.firing.Used.{Used}
use Rattle.defs_soar.specs.declared.goal.Goal.{Goal}
use Rattle.defs_soar.specs.declared.goal.Item.{Item}
use Rattle.defs_soar.specs.declared.goal.Selection.{Selection}
use Rattle.defs_soar.specs.declared.preference.Preference.{Preference}
use Rattle.defs_soar.specs.declared.preference.Wish.{Wish}
use Rattle.defs_soar.specs.Architecture.{item_word}
use Rattle.defs_soar.specs.Explanation.{maker_named}
use Rattle.defs_soar.specs.Goals.{goal_elements}
use Rattle.defs_soar.specs.History.{Reach}
use Rattle.defs_soar.specs.Laws.{IsIn}
use Rattle.defs_soar.specs.Levels.{level_in}
use Rattle.defs_soar.specs.Pending.{depth_of, firable_of}
use Rattle.defs_soar.specs.Uses.{all_uses, elements_matched, is_above, item_in, item_uses, least_from, least_number, made_uses, maker_of, makes_element, marked_element, own_uses, selection_told, used_as, uses_of}
use Rattle.defs_soar.specs.Values.{has_triple_among}
use Rattle.firing_records.specs.Recorded.{Standing, reach_of, recorded_as}
use Rattle.firing_records.proofs.SelectionLemmas.{or_told, told_next}

-- ---- lists

in_append : {A : Type 0} (x : A) (xs ys : List A) → IsIn x (xs ++ ys) → IsIn x xs ⊎ IsIn x ys
in_append x [] ys h = inr h
in_append x (y ∷ xs) ys (inl e) = inl (inl e)
in_append x (y ∷ xs) ys (inr h) = elim (in_append x xs ys h) [ inl a ↦ inl (inr a) | inr b ↦ inr b ]

in_flat_map : {A B : Type 0} (f : A → List B) (y : B) (xs : List A) → IsIn y (flat_map f xs) → (x : A) × IsIn x xs × IsIn y (f x)
in_flat_map f y [] h = absurd h
in_flat_map f y (x ∷ xs) h =
    elim (in_append y (f x) (flat_map f xs) h) [
      | inl a ↦ (x, inl refl, a)
      | inr b ↦ let found = in_flat_map f y xs b in (found.0, inr found.1, found.2)
    ]

-- ---- selections

one_selected : (g : Goal) (e : Element) (s : Selection) → selection_told (g ∷ []) e ≡ Some s → g.selected ≡ Some s
one_selected g e s h = by _ g.selected h
  where
    by : (b : Bool) (o : Option Selection) → cond b o None ≡ Some s → o ≡ Some s
    by true o q = q
    by false o q = absurd (cc)

-- a selection that is told is one of a goal
selecting : (goals : List Goal) (e : Element) (s : Selection) → selection_told goals e ≡ Some s → (g : Goal) × IsIn g goals × (g.selected ≡ Some s)
selecting [] e s h = absurd (cc)
selecting (g ∷ goals) e s h = by (selection_told (g ∷ []) e) refl (sym (told_next g goals e) ∙ h) (selecting goals e s)
  where
    by : (o : Option Selection) → selection_told (g ∷ []) e ≡ o → or_told o (selection_told goals e) ≡ Some s → (selection_told goals e ≡ Some s → (x : Goal) × IsIn x goals × (x.selected ≡ Some s))
        → (x : Goal) × IsIn x (g ∷ goals) × (x.selected ≡ Some s)
    by (Some t) q k later = (g, inl refl, one_selected g e s (q ∙ k))
    by None q k later = let found = later k in (found.0, inr found.1, found.2)

-- ---- the makers of an element

least_below : (k : ℕ) (ns : List ℕ) → least_from k ns ≤ k
least_below k [] = omega arith
least_below k (m ∷ ns) = omega (arith, least_below (min k m) ns)

maker_up_to : (n : ℕ) (e : Element) (rows : List Preference) → ((row : Preference) → IsIn row rows → row.firing ≤ n) → maker_of rows e ≤ n
maker_up_to n e [] h = omega arith
maker_up_to n e (row ∷ rows) h = by (makes_element e row) (maker_up_to n e rows (λ r i. h r (inr i)))
  where
    makers : List ℕ
    makers = map (λ (r : Preference). r.firing) (filter (makes_element e) rows)

    by : (b : Bool) → least_number makers ≤ n → least_number (map (λ (r : Preference). r.firing) (cond b (row ∷ filter (makes_element e) rows) (filter (makes_element e) rows))) ≤ n
    by true later = omega (arith, least_below row.firing makers, h row (inl refl))
    by false later = later

module _ (n : ℕ) (before : Reach) (rows : List Preference) (of_rows : (row : Preference) → IsIn row rows → row.firing ≤ n)
    (of_goals : (g : Goal) (s : Selection) → IsIn g before.goals → g.selected ≡ Some s → s.maker ≤ n) where
  abbrev AreUpTo : List Used → Type 0
  AreUpTo us = (u : Used) → IsIn u us → (m : ℕ) → IsIn m (maker_named u) → m ≤ n

  none_more : AreUpTo []
  none_more u i m j = absurd i

  -- a use that names no maker
  unmade : (e : Element) (way : How) (us : List Used) → ((m : ℕ) → IsIn m (maker_named (used_as e way)) → ⊥) → AreUpTo us → AreUpTo (used_as e way ∷ us)
  unmade e way us none later u (inl q) m j = absurd (none m (subst (λ v. IsIn m (maker_named v)) (sym q) j))
  unmade e way us none later u (inr i) m j = later u i m j

  -- a use that names this maker
  made : (e : Element) (k : ℕ) → k ≤ n → AreUpTo (used_as e (how.Made k) ∷ [])
  made e k h u (inl q) m j = elim (subst (λ v. IsIn m (maker_named v)) (sym q) j) [ inl p ↦ subst (λ x. x ≤ n) p h | inr z ↦ absurd z ]
  made e k h u (inr z) m j = absurd z

  of_item : (superstate : Sym) (e : Element) (o : Option Item) → AreUpTo (item_uses superstate e o)
  of_item superstate e None = unmade e how.Architecture [] (λ m j. j) none_more
  of_item superstate e (Some item) =
      unmade e (how.Item item.tag) (used_as (marked_element superstate item.value item.tag) how.Upper ∷ []) (λ m j. j)
      (unmade (marked_element superstate item.value item.tag) how.Upper [] (λ m j. j) none_more)

  of_own : (superstate : Sym) (goals : List Goal) (e : Element) → AreUpTo (own_uses superstate goals e)
  of_own superstate [] e = unmade e how.Architecture [] (λ m j. j) none_more
  of_own superstate (g ∷ goals) e = go (symbol_eq g.id e.id) (symbol_eq e.attr item_word) (of_own g.id goals e)
    where
      go : (a b : Bool) → AreUpTo (own_uses g.id goals e) → AreUpTo (cond a (cond b (item_uses superstate e (item_in g.items e.value)) (used_as e how.Architecture ∷ [])) (own_uses g.id goals e))
      go true true later = of_item superstate e (item_in g.items e.value)
      go true false later = unmade e how.Architecture [] (λ m j. j) none_more
      go false b later = later

  of_made : (e : Element) (o : Option Selection) → selection_told before.goals e ≡ o → AreUpTo (made_uses rows e o)
  of_made e None told = made e (maker_of rows e) (maker_up_to n e rows of_rows)
  of_made e (Some s) told =
      let g = selecting before.goals e s told in
      unmade e (how.Selected s.tag) (used_as (marked_element e.id e.value s.tag) (how.Made s.maker) ∷ []) (λ m j. j)
      (made (marked_element e.id e.value s.tag) s.maker (of_goals g.0 s g.1 g.2))

  of_uses : (depth : ℕ) (e : Element) → AreUpTo (uses_of before rows depth e)
  of_uses depth e = go (nat_lt depth 2 || is_above (level_in before.goals before.reached e.id) depth) (has_triple_among (goal_elements before.goals) (triple_of e))
    where
      go : (a b : Bool) → AreUpTo (cond a (used_as e how.Upper ∷ []) (cond b (own_uses e.id before.goals e) (made_uses rows e (selection_told before.goals e))))
      go true b = unmade e how.Upper [] (λ m j. j) none_more
      go false true = of_own e.id before.goals e
      go false false = of_made e (selection_told before.goals e) refl

  -- no maker is beyond n where no row's firing and no selection's maker is
  pub makers_up_to : (depth : ℕ) (elements : List Element) (m : ℕ) → IsIn m (flat_map maker_named (all_uses before rows depth elements)) → m ≤ n
  makers_up_to depth elements m i =
      let u = in_flat_map maker_named m (all_uses before rows depth elements) i in
      let e = in_flat_map (uses_of before rows depth) u.0 elements u.1 in
      of_uses depth e.0 u.0 e.2 m u.2

-- the same of a firing as it is recorded
pub makers_recorded : (n : ℕ) (s : Standing) → ((row : Preference) → IsIn row s.rows → row.firing ≤ n)
    → ((g : Goal) (t : Selection) → IsIn g s.goals → g.selected ≡ Some t → t.maker ≤ n)
    → (goals : List Sym) (rule : RuleOf) (i : Instance) (number : ℕ) (wishes : List Wish) (m : ℕ) → IsIn m (flat_map maker_named (recorded_as goals s rule i number wishes).firing.used) → m ≤ n
makers_recorded n s of_rows of_goals goals rule i number wishes m h =
    makers_up_to n (reach_of s) s.rows of_rows of_goals (depth_of s.goals (firable_of s.elements rule i)) (elements_matched s.elements i.tags) m h
