-- What a firing used was made by roots: the firings of rows, and the makers of selections.
use Rattle.std.proofs.Common.{◌≡◌, refl, sym, ◌∙◌, subst, ℕ, nat_lt, Bool, true, false, ◌||◌, ◌==◌, cond, inl, inr, arith, List, [], ◌∷◌, Option, Some, None}
use Rattle.soar_sym.specs.Equality.{symbol_eq}
use Rattle.soar_sym.specs.declared.symbol.Sym.{Sym}
use Rattle.soar_wm.specs.declared.element.Element.{Element}
use Rattle.soar_wm.specs.WorkingMemory.{triple_of}
use Rattle.defs_soar.specs.declared.firing.How.{How}
use Rattle.defs_soar.specs.declared.firing.How.TheVariants as how
use Rattle.defs_soar.specs.declared.firing.Used.{Used}
use Rattle.defs_soar.specs.declared.goal.Goal.{Goal}
use Rattle.defs_soar.specs.declared.goal.Item.{Item}
use Rattle.defs_soar.specs.declared.goal.Selection.{Selection}
use Rattle.defs_soar.specs.declared.preference.Preference.{Preference}
use Rattle.defs_soar.specs.Architecture.{item_word}
use Rattle.defs_soar.specs.Explanation.{maker_named}
use Rattle.defs_soar.specs.Goals.{goal_elements}
use Rattle.defs_soar.specs.Laws.{IsIn}
use Rattle.defs_soar.specs.Levels.{is_level_one, level_in}
use Rattle.defs_soar.specs.Uses.{all_uses, is_above, item_in, item_uses, made_uses, marked_element, own_uses, selection_told, used_as, uses_of}
use Rattle.defs_soar.specs.Values.{has_triple_among}
use Rattle.defs_soar.specs.WaveAtHand.{BeforeWave}
use Rattle.learning_laws.specs.Waves.{IsSettled}
use Rattle.learning_laws.proofs.Lists.{in_flat_map}
use Rattle.learning_laws.proofs.UseLaws.{maker_makes, selecting}

module _ (m : BeforeWave) (next depth : ℕ) (settled : IsSettled m next) (P : ℕ → Type 0) (of_rows : (row : Preference) → IsIn row m.rows → P row.firing)
    (of_goals : (g : Goal) (s : Selection) → IsIn g m.reach.goals → g.selected ≡ Some s → P s.maker) where
  abbrev AreMakers : List Used → Type 0
  AreMakers us = (u : Used) → IsIn u us → (n : ℕ) → IsIn n (maker_named u) → P n

  -- a use that names no maker
  none_named : (e : Element) (way : How) (us : List Used) → ((n : ℕ) → IsIn n (maker_named (used_as e way)) → ⊥) → AreMakers us → AreMakers (used_as e way ∷ us)
  none_named e way us none later u (inl q) n j = absurd (none n (subst (λ v. IsIn n (maker_named v)) (sym q) j))
  none_named e way us none later u (inr i) n j = later u i n j

  nothing : AreMakers []
  nothing u i n j = absurd i

  items_make : (superstate : Sym) (e : Element) (o : Option Item) → AreMakers (item_uses superstate e o)
  items_make superstate e None = none_named e how.Architecture [] (λ n j. j) nothing
  items_make superstate e (Some item) =
      none_named e (how.Item item.tag) (used_as (marked_element superstate item.value item.tag) how.Upper ∷ []) (λ n j. j)
      (none_named (marked_element superstate item.value item.tag) how.Upper [] (λ n j. j) nothing)

  own_make : (superstate : Sym) (goals : List Goal) (e : Element) → AreMakers (own_uses superstate goals e)
  own_make superstate [] e = none_named e how.Architecture [] (λ n j. j) nothing
  own_make superstate (g ∷ goals) e = go (symbol_eq g.id e.id) (symbol_eq e.attr item_word) (own_make g.id goals e)
    where
      go : (a b : Bool) → AreMakers (own_uses g.id goals e) → AreMakers (cond a (cond b (item_uses superstate e (item_in g.items e.value)) (used_as e how.Architecture ∷ [])) (own_uses g.id goals e))
      go true true later = items_make superstate e (item_in g.items e.value)
      go true false later = none_named e how.Architecture [] (λ n j. j) nothing
      go false b later = later

  made_make : (e : Element) → IsIn e m.elements → is_level_one (level_in m.reach.goals m.reach.reached e.id) ≡ false → has_triple_among (goal_elements m.reach.goals) (triple_of e) ≡ false → (o : Option Selection)
      → selection_told m.reach.goals e ≡ o → AreMakers (made_uses m.rows e o)
  made_make e i below own None s u (inl q) n j =
      let row = maker_makes m.rows e (settled.held e i (record { below = below; others = own; unselected = s })) in
      elim (subst (λ v. IsIn n (maker_named v)) (sym q) j) [ inl p ↦ subst P (row.3 ∙ p) (of_rows row.0 row.1) | inr z ↦ absurd z ]
  made_make e i below own None s u (inr z) n j = absurd z
  made_make e i below own (Some s) told u (inl q) n j = absurd (subst (λ v. IsIn n (maker_named v)) (sym q) j)
  made_make e i below own (Some s) told u (inr (inl q)) n j =
      let k = selecting m.reach.goals e s told in
      elim (subst (λ v. IsIn n (maker_named v)) (sym q) j) [ inl p ↦ subst P p (of_goals k.goal s k.there k.selected) | inr z ↦ absurd z ]
  made_make e i below own (Some s) told u (inr (inr z)) n j = absurd z

  uses_make : (e : Element) → IsIn e m.elements → AreMakers (uses_of m.reach m.rows depth e)
  uses_make e i = go (nat_lt depth 2 || is_above (level_in m.reach.goals m.reach.reached e.id) depth) refl (has_triple_among (goal_elements m.reach.goals) (triple_of e)) refl
    where
      deep : (o : Option ℕ) → (nat_lt depth 2 || is_above o depth) ≡ false → is_level_one o ≡ false
      deep None q = refl
      deep (Some level) q = of (nat_lt depth 2) (nat_lt level depth) refl refl q
        where
          of : (a b : Bool) → nat_lt depth 2 ≡ a → nat_lt level depth ≡ b → (a || b) ≡ false → (level == 1) ≡ false
          of true b x y z = absurd (cc)
          of false true x y z = absurd (cc)
          of false false x y z = grind arith

      go : (a : Bool) → (nat_lt depth 2 || is_above (level_in m.reach.goals m.reach.reached e.id) depth) ≡ a → (b : Bool) → has_triple_among (goal_elements m.reach.goals) (triple_of e) ≡ b
          → AreMakers (cond a (used_as e how.Upper ∷ []) (cond b (own_uses e.id m.reach.goals e) (made_uses m.rows e (selection_told m.reach.goals e))))
      go true p b q = none_named e how.Upper [] (λ n j. j) nothing
      go false p true q = own_make e.id m.reach.goals e
      go false p false q = made_make e i (deep (level_in m.reach.goals m.reach.reached e.id) p) q (selection_told m.reach.goals e) refl

  -- of elements that are there
  pub makers_are_roots : (elements : List Element) → ((e : Element) → IsIn e elements → IsIn e m.elements) → AreMakers (all_uses m.reach m.rows depth elements)
  makers_are_roots elements within u i n j = let e = in_flat_map (uses_of m.reach m.rows depth) u elements i in uses_make e.0 (within e.0 e.1) u e.2 n j
