-- What a firing used stands on the history.
use Rattle.std.proofs.Common.{◌≡◌, refl, sym, ◌∙◌, ap, subst, ℕ, ◌<◌, min, nat_lt, Bool, true, false, ◌&&◌, ◌||◌, ◌==◌, cond, inl, inr, ◌⊎◌, arith, List, [], ◌∷◌, map, filter, Option, Some, None}
use Rattle.std.specs.Prelude.{not}
use Rattle.std.specs.List.{list_any}
use Rattle.soar_sym.specs.Equality.{mark_eq, symbol_eq}
use Rattle.soar_sym.specs.declared.symbol.Sym.{Sym}
use Rattle.soar_wm.specs.declared.element.Element.{Element}
use Rattle.soar_wm.specs.WorkingMemory.{triple_of}
use Rattle.defs_soar.specs.declared.firing.How.TheVariants as how
use Rattle.defs_soar.specs.declared.firing.Used.{Used}
use Rattle.defs_soar.specs.declared.goal.Goal.{Goal}
use Rattle.defs_soar.specs.declared.goal.Item.{Item}
use Rattle.defs_soar.specs.declared.goal.Selection.{Selection}
use Rattle.defs_soar.specs.declared.preference.PrefKind.TheVariants as kind
use Rattle.defs_soar.specs.declared.preference.Preference.{Preference}
use Rattle.defs_soar.specs.Architecture.{item_word, operator_word}
use Rattle.defs_soar.specs.Goals.{goal_elements, goal_ids, is_goal}
use Rattle.defs_soar.specs.History.{FiringOf}
use Rattle.defs_soar.specs.Laws.{IsIn}
use Rattle.defs_soar.specs.Levels.{is_level_one, level_in}
use Rattle.defs_soar.specs.Uses.{is_above, item_in, item_uses, least_from, least_number, made_uses, maker_of, makes_element, marked_element, own_uses, selection_told, used_as, uses_of}
use Rattle.defs_soar.specs.Values.{has_triple_among, is_kind}
use Rattle.defs_soar.specs.WaveAtHand.{BeforeWave}
use Rattle.learning_laws.specs.Record.{IsMadeEarlier, UseIsLawful}
use Rattle.learning_laws.specs.Replay.{is_operator_of_goal, wish_makes}
use Rattle.learning_laws.specs.Waves.{IsMadeIn, IsSettled, UsesAreLawful}
use Rattle.learning_laws.proofs.Lists.{and_true, any_in, any_some, both_true, filter_keeps, filter_within, in_mapped, in_flat_map, in_flat_mapped, in_map, same_itself, symbol_same}

-- ---- the least maker is a maker

least_among : (n : ℕ) (ms : List ℕ) → IsIn (least_from n ms) (n ∷ ms)
least_among n [] = inl refl
least_among n (m ∷ ms) = go (least_among (min n m) ms) (either n m)
  where
    either : (n m : ℕ) → (min n m ≡ n) ⊎ (min n m ≡ m)
    either n m = grind arith

    go : IsIn (least_from (min n m) ms) (min n m ∷ ms) → (min n m ≡ n) ⊎ (min n m ≡ m) → IsIn (least_from (min n m) ms) (n ∷ m ∷ ms)
    go (inl e) (inl q) = inl (sym q ∙ e)
    go (inl e) (inr q) = inr (inl (sym q ∙ e))
    go (inr i) q = inr (inr i)

least_is : (ns : List ℕ) (n : ℕ) → IsIn n ns → IsIn (least_number ns) ns
least_is [] n i = absurd i
least_is (m ∷ ns) n i = least_among m ns

pub maker_makes : (rows : List Preference) (e : Element) → list_any (makes_element e) rows ≡ true → (row : Preference) × IsIn row rows × (makes_element e row ≡ true) × (row.firing ≡ maker_of rows e)
maker_makes rows e h =
    let some = any_some (makes_element e) rows h in
    let numbers : List ℕ = map (λ row. row.firing) (filter (makes_element e) rows) in
    let found = in_map (λ (row : Preference). row.firing) (maker_of rows e) (filter (makes_element e) rows)
    (least_is numbers some.0.firing (mapped some.0 (kept some.0 some.1 some.2))) in
    let among = filter_within (makes_element e) rows found.0 found.1 in (found.0, among.0, among.1, found.2)
  where
    mapped : (row : Preference) → IsIn row (filter (makes_element e) rows) → IsIn row.firing (map (λ (row : Preference). row.firing) (filter (makes_element e) rows))
    mapped row i = in_mapped (λ (row : Preference). row.firing) row (filter (makes_element e) rows) i

    kept : (row : Preference) → IsIn row rows → makes_element e row ≡ true → IsIn row (filter (makes_element e) rows)
    kept row i q = filter_keeps (makes_element e) rows row i q

-- a row that makes the element has a wish that makes it
pub row_wish_makes : (e : Element) (row : Preference) → makes_element e row ≡ true → mark_eq e.accept (is_operator_of_goal e) ≡ true → wish_makes e row.wish ≡ true
row_wish_makes e row h m =
    let a = both_true (symbol_eq row.wish.id e.id) (symbol_eq row.wish.attr e.attr && (symbol_eq row.wish.value e.value && (is_kind row.wish.kind kind.Accept || (e.accept && is_kind row.wish.kind kind.Require)))) h in
    let b = both_true (symbol_eq row.wish.attr e.attr) (symbol_eq row.wish.value e.value && (is_kind row.wish.kind kind.Accept || (e.accept && is_kind row.wish.kind kind.Require))) a.1 in
    let c = both_true (symbol_eq row.wish.value e.value) (is_kind row.wish.kind kind.Accept || (e.accept && is_kind row.wish.kind kind.Require)) b.1 in
    and_true (is_kind row.wish.kind kind.Accept || is_kind row.wish.kind kind.Require) (symbol_eq row.wish.id e.id && (symbol_eq row.wish.attr e.attr && (symbol_eq row.wish.value e.value && mark_eq e.accept (is_operator_of_goal e))))
    (either (is_kind row.wish.kind kind.Accept) e.accept (is_kind row.wish.kind kind.Require) c.1)
    (and_true (symbol_eq row.wish.id e.id) (symbol_eq row.wish.attr e.attr && (symbol_eq row.wish.value e.value && mark_eq e.accept (is_operator_of_goal e))) a.0
    (and_true (symbol_eq row.wish.attr e.attr) (symbol_eq row.wish.value e.value && mark_eq e.accept (is_operator_of_goal e)) b.0
    (and_true (symbol_eq row.wish.value e.value) (mark_eq e.accept (is_operator_of_goal e)) c.0 m)))
  where
    either : (a b c : Bool) → (a || (b && c)) ≡ true → (a || c) ≡ true
    either true b c q = refl
    either false true c q = q
    either false false c q = absurd (cc)

-- ---- selections

-- one of the goals has this selection, which the element tells
pub record Selecting (goals : List Goal) (e : Element) (s : Selection) : Type 0 where
  pub goal : Goal
  pub there : IsIn goal goals
  pub id : goal.id ≡ e.id
  pub attr : e.attr ≡ operator_word
  pub selected : goal.selected ≡ Some s
  pub value : s.operator ≡ e.value

later_selecting : (x : Goal) (goals : List Goal) (e : Element) (s : Selection) → Selecting goals e s → Selecting (x ∷ goals) e s
later_selecting x goals e s k = record { goal = k.goal; there = inr k.there; id = k.id; attr = k.attr; selected = k.selected; value = k.value }

pub selecting : (goals : List Goal) (e : Element) (s : Selection) → selection_told goals e ≡ Some s → Selecting goals e s
selecting [] e s h = absurd (cc)
selecting (x ∷ goals) e s h = by (x.selected) refl (selecting goals e s)
  where
    at : (o : Option Selection) → x.selected ≡ o → selection_told (record x { selected = o } ∷ goals) e ≡ Some s
    at o q = ap (λ (p : Option Selection). selection_told (record x { selected = p } ∷ goals) e) (sym q) ∙ h

    none : (a b c : Bool) → cond (a && (b && (c && false))) None (selection_told goals e) ≡ Some s → selection_told goals e ≡ Some s
    none true true true q = q
    none true true false q = q
    none true false c q = q
    none false b c q = q

    found : (t : Selection) → x.selected ≡ Some t → (a b c d : Bool) → symbol_eq x.id e.id ≡ a → symbol_eq e.attr operator_word ≡ b → symbol_eq t.operator e.value ≡ d
        → cond (a && (b && (c && d))) (Some t) (selection_told goals e) ≡ Some s → (selection_told goals e ≡ Some s → Selecting goals e s) → Selecting (x ∷ goals) e s
    found t q true true true true p r u k later =
        let same : t ≡ s = cc in
        record {
          goal = x;
          there = inl refl;
          id = symbol_same x.id e.id p;
          attr = symbol_same e.attr operator_word r;
          selected = q ∙ ap Some same;
          value = ap (λ (y : Selection). y.operator) (sym same) ∙ symbol_same t.operator e.value u;
        }
    found t q true true true false p r u k later = later_selecting x goals e s (later k)
    found t q true true false d p r u k later = later_selecting x goals e s (later k)
    found t q true false c d p r u k later = later_selecting x goals e s (later k)
    found t q false b c d p r u k later = later_selecting x goals e s (later k)

    by : (o : Option Selection) → x.selected ≡ o → (selection_told goals e ≡ Some s → Selecting goals e s) → Selecting (x ∷ goals) e s
    by None q later = later_selecting x goals e s (later (none (symbol_eq x.id e.id) (symbol_eq e.attr operator_word) (not e.accept) (at None q)))
    by (Some t) q later = found t q (symbol_eq x.id e.id) (symbol_eq e.attr operator_word) (not e.accept) (symbol_eq t.operator e.value) refl refl refl (at (Some t) q) later

-- the marked element of the goal is that of the element
pub marked_is : (goals : List Goal) (e : Element) (s : Selection) (k : Selecting goals e s) → marked_element k.goal.id s.operator s.tag ≡ marked_element e.id e.value s.tag
marked_is goals e s k = λ j. marked_element (k.id j) (k.value j) s.tag

is_goal_of : (goals : List Goal) (g : Goal) → IsIn g goals → is_goal goals g.id ≡ true
is_goal_of goals g i = any_in (symbol_eq g.id) g.id (goal_ids goals) (in_mapped (λ (x : Goal). x.id) g goals i) (same_itself g.id)

-- ---- one element

item_found : (items : List Item) (s : Sym) (item : Item) → item_in items s ≡ Some item → item.value ≡ s
item_found [] s item h = absurd (cc)
item_found (x ∷ items) s item h = go (symbol_eq x.value s) refl h (item_found items s item)
  where
    go : (b : Bool) → symbol_eq x.value s ≡ b → cond b (Some x) (item_in items s) ≡ Some item → (item_in items s ≡ Some item → item.value ≡ s) → item.value ≡ s
    go true q k later = let same : x ≡ item = cc in ap (λ (y : Item). y.value) (sym same) ∙ symbol_same x.value s q
    go false q k later = later k

module _ (m : BeforeWave) (next depth : ℕ) (f : FiringOf) (settled : IsSettled m next) (number : f.number ≡ next) where
  earlier : (n : ℕ) (e : Element) → IsMadeIn m.firings n e → IsMadeEarlier m.firings f.number n e
  earlier n e made =
      let less : made.firing.number < next = settled.numbers made.firing made.is_there in
      record {
        firing = made.firing;
        is_there = made.is_there;
        number_is = made.number_is;
        earlier = subst (λ x. n < x) (sym number) (subst (λ x. x < next) made.number_is less);
        makes = made.makes;
      }

  abbrev Stands : List Used → Type 0
  Stands us = ((u : Used) → IsIn u us → IsIn u f.used) → (u : Used) → IsIn u us → UseIsLawful m.firings f u

  item_stands : (superstate : Sym) (e : Element) (o : Option Item) → ((item : Item) → o ≡ Some item → item.value ≡ e.value) → Stands (item_uses superstate e o)
  item_stands superstate e None v all u (inl q) = subst (UseIsLawful m.firings f) q tt
  item_stands superstate e None v all u (inr i) = absurd i
  item_stands superstate e (Some item) v all u (inl q) =
      subst (UseIsLawful m.firings f) q
      (record { named = marked_element superstate item.value item.tag; is_used = all (used_as (marked_element superstate item.value item.tag) how.Upper) (inr (inl refl)); tag_is = refl; value_is = v item refl; marked = refl })
  item_stands superstate e (Some item) v all u (inr (inl q)) = subst (UseIsLawful m.firings f) q tt
  item_stands superstate e (Some item) v all u (inr (inr i)) = absurd i

  one_architecture : (e : Element) → Stands (used_as e how.Architecture ∷ [])
  one_architecture e all u (inl q) = subst (UseIsLawful m.firings f) q tt
  one_architecture e all u (inr i) = absurd i

  own_stands : (superstate : Sym) (goals : List Goal) (e : Element) → Stands (own_uses superstate goals e)
  own_stands superstate [] e = one_architecture e
  own_stands superstate (g ∷ goals) e = go (symbol_eq g.id e.id) (symbol_eq e.attr item_word) (own_stands g.id goals e)
    where
      go : (a b : Bool) → Stands (own_uses g.id goals e) → Stands (cond a (cond b (item_uses superstate e (item_in g.items e.value)) (used_as e how.Architecture ∷ [])) (own_uses g.id goals e))
      go true true later = item_stands superstate e (item_in g.items e.value) (λ item q. item_found g.items e.value item q)
      go true false later = one_architecture e
      go false b later = later

  made_stands : (e : Element) → IsIn e m.elements → is_level_one (level_in m.reach.goals m.reach.reached e.id) ≡ false → has_triple_among (goal_elements m.reach.goals) (triple_of e) ≡ false → (o : Option Selection) → selection_told m.reach.goals e ≡ o → Stands (made_uses m.rows e o)
  made_stands e i below own None s all u (inl q) =
      let row = maker_makes m.rows e (settled.held e i (record { below = below; others = own; unselected = s })) in
      let by = settled.rows row.0 row.1 in
      subst (UseIsLawful m.firings f) q
      (earlier (maker_of m.rows e) e
      (record { firing = by.0; is_there = by.1; number_is = by.2 ∙ row.3; makes = any_in (wish_makes e) row.0.wish by.0.made by.3 (row_wish_makes e row.0 row.2 (settled.marks e i (record { below = below; others = own; unselected = s }))) }))
  made_stands e i below own None s all u (inr j) = absurd j
  made_stands e i below own (Some s) told all u (inl q) =
      let k = selecting m.reach.goals e s told in
      let flag : e.of_state ≡ true = settled.flags e i ∙ ap (is_goal m.reach.goals) (sym k.id) ∙ is_goal_of m.reach.goals k.goal k.there in
      let same : marked_element e.id e.value s.tag ≡ record e { accept = true; tag = s.tag } =
      λ j. record { tag = s.tag; id = e.id; attr = sym k.attr j; value = e.value; accept = true; of_state = sym flag j } in
      subst (UseIsLawful m.firings f) q
      (record {
        number = s.maker;
        is_used = subst (λ x. IsIn (used_as x (how.Made s.maker)) f.used) same (all (used_as (marked_element e.id e.value s.tag) (how.Made s.maker)) (inr (inl refl)));
      })
  made_stands e i below own (Some s) told all u (inr (inl q)) =
      let k = selecting m.reach.goals e s told in
      let by = subst (IsMadeIn m.firings s.maker) (marked_is m.reach.goals e s k) (settled.selections k.goal s k.there k.selected) in
      subst (UseIsLawful m.firings f) q (earlier s.maker (marked_element e.id e.value s.tag) by)
  made_stands e i below own (Some s) told all u (inr (inr j)) = absurd j

  uses_stand : (e : Element) → IsIn e m.elements → Stands (uses_of m.reach m.rows depth e)
  uses_stand e i = go (nat_lt depth 2 || is_above (level_in m.reach.goals m.reach.reached e.id) depth) refl (has_triple_among (goal_elements m.reach.goals) (triple_of e)) refl
    where
      upper : Stands (used_as e how.Upper ∷ [])
      upper all u (inl q) = subst (UseIsLawful m.firings f) q tt
      upper all u (inr j) = absurd j

      deep : (o : Option ℕ) → (nat_lt depth 2 || is_above o depth) ≡ false → is_level_one o ≡ false
      deep None q = refl
      deep (Some level) q = of (nat_lt depth 2) (nat_lt level depth) refl refl q
        where
          of : (a b : Bool) → nat_lt depth 2 ≡ a → nat_lt level depth ≡ b → (a || b) ≡ false → (level == 1) ≡ false
          of true b x y z = absurd (cc)
          of false true x y z = absurd (cc)
          of false false x y z = grind arith

      go : (a : Bool) → (nat_lt depth 2 || is_above (level_in m.reach.goals m.reach.reached e.id) depth) ≡ a → (b : Bool) → has_triple_among (goal_elements m.reach.goals) (triple_of e) ≡ b
          → Stands (cond a (used_as e how.Upper ∷ []) (cond b (own_uses e.id m.reach.goals e) (made_uses m.rows e (selection_told m.reach.goals e))))
      go true p b q = upper
      go false p true q = own_stands e.id m.reach.goals e
      go false p false q = made_stands e i (deep (level_in m.reach.goals m.reach.reached e.id) p) q (selection_told m.reach.goals e) refl

pub uses_are_lawful : UsesAreLawful
uses_are_lawful m next depth elements f settled within number used u i =
    let found = in_flat_map (uses_of m.reach m.rows depth) u elements (subst (λ l. IsIn u l) used i) in
    uses_stand m next depth f settled number found.0 (within found.0 found.1)
    (λ v j. subst (λ l. IsIn v l) (sym used) (in_flat_mapped (uses_of m.reach m.rows depth) found.0 v elements found.1 j)) u found.2
