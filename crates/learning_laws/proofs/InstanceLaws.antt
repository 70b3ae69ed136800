-- The rule of an instance of the conflict set passes on the elements of the instance, and gives its bindings.
use Rattle.std.proofs.Common.{◌≡◌, refl, sym, ◌∙◌, ap, subst, ℕ, Bool, true, false, ◌||◌, ◌==◌, nat_lt, cond, inl, inr, ◌⊎◌, arith, List, [], ◌∷◌, ◌++◌, map, flat_map, Option, Some, None, option_and_then, append_assoc}
use Rattle.std.proofs.lemmas.List.{append-nil}
use Rattle.soar_sym.specs.Equality.{symbol_eq}
use Rattle.soar_sym.specs.declared.symbol.Sym.{Sym}
use Rattle.soar_rule.specs.declared.cond.Pattern.{Pattern}
use Rattle.soar_rule.specs.Conditions.{positive, negated, conjunctive, Conditions, no_more, condition_and}
use Rattle.soar_wm.specs.declared.element.Element.{Element}
use Rattle.soar_wm.specs.WorkingMemory.{element_of, triple_of}
use Rattle.defs_match.specs.Conflict.{bindings_of, instance_of, instances_of}
use Rattle.defs_match.specs.Laws as match
use Rattle.defs_match.specs.Rows.{Row, bindings_at, by_element, empty_row, extend, only_without, rows, rows_with, rows_from, takes_marks, with_matched}
use Rattle.defs_match.specs.Rules.{RuleOf}
use Rattle.defs_match.specs.Testing.{Bindings}
use Rattle.defs_match.specs.declared.instance.Instance.{Instance}
use Rattle.defs_match.proofs.BindingLemmas.{tells_bindings}
use Rattle.defs_soar.specs.declared.firing.How.TheVariants as how
use Rattle.defs_soar.specs.declared.firing.Used.{Used}
use Rattle.defs_soar.specs.declared.goal.Goal.{Goal}
use Rattle.defs_soar.specs.declared.goal.Item.{Item}
use Rattle.defs_soar.specs.declared.goal.Selection.{Selection}
use Rattle.defs_soar.specs.declared.preference.Preference.{Preference}
use Rattle.defs_soar.specs.Architecture.{item_word}
use Rattle.defs_soar.specs.Goals.{goal_elements}
use Rattle.defs_soar.specs.Levels.{level_in}
use Rattle.defs_soar.specs.Values.{has_triple_among}
use Rattle.defs_soar.specs.History.{Reach}
use Rattle.defs_soar.specs.Laws.{IsIn}
use Rattle.defs_soar.specs.Uses.{all_uses, elements_matched, is_above, item_in, item_uses, made_uses, own_uses, selection_told, used_as, uses_of}
use Rattle.learning_laws.specs.Replay.{if_taken, passed_on}
use Rattle.learning_laws.proofs.Lists.{in_flat_map, in_flat_mapped, in_left, in_map, in_mapped}

-- ---- rows and their elements

more_rows : (cs : Conditions) (w : List Element) (us vs : List Row) (x : Row) → ((y : Row) → IsIn y us → IsIn y vs) → IsIn x (rows_from cs w us) → IsIn x (rows_from cs w vs)
more_rows no_more w us vs x m k = m x k
more_rows (condition_and d ds) w us vs x m k =
    more_rows ds w (flat_map (rows_with d w) us) (flat_map (rows_with d w) vs) x
    (λ y j. let f = in_flat_map (rows_with d w) y us j in in_flat_mapped (rows_with d w) f.0 y vs (m f.0 f.1) f.2) k

from_one : (cs : Conditions) (w : List Element) (rs : List Row) (x : Row) → IsIn x (rows_from cs w rs) → (s : Row) × IsIn s rs × IsIn x (rows_from cs w (s ∷ []))
from_one no_more w rs x h = (x, h, inl refl)
from_one (condition_and c cs) w rs x h =
    let deep = from_one cs w (flat_map (rows_with c w) rs) x h in
    let from = in_flat_map (rows_with c w) deep.0 rs deep.1 in (
      from.0,
      from.1,
      more_rows cs w (deep.0 ∷ []) (rows_with c w from.0 ++ []) x
          (λ y i. elim i [ inl e ↦ subst (λ z. IsIn z (rows_with c w from.0 ++ [])) e (in_left deep.0 (rows_with c w from.0) [] from.2) | inr j ↦ absurd j ]) deep.2,
    )

-- a row of a pattern is that of an element that it takes
record Takes (p : Pattern) (w : List Element) (r x : Row) : Type 0 where
  element : Element
  there : IsIn element w
  marks : takes_marks p element ≡ true
  tags : x.tags ≡ r.tags ++ element.tag ∷ []
  passes : bindings_at p element r.bindings ≡ Some x.bindings

takes_one : (p : Pattern) (w : List Element) (r x : Row) → IsIn x (extend p w r) → Takes p w r x
takes_one p w r x i = let f = in_flat_map (by_element p r) x w i in by f.0 f.1 (takes_marks p f.0) refl (bindings_at p f.0 r.bindings) refl f.2
  where
    by : (e : Element) → IsIn e w → (t : Bool) → takes_marks p e ≡ t → (o : Option Bindings) → bindings_at p e r.bindings ≡ o → IsIn x (cond t (with_matched r e o) []) → Takes p w r x
    by e j true m (Some bs) q (inl s) =
        record { element = e; there = j; marks = m; tags = ap (λ (y : Row). y.tags) (sym s); passes = q ∙ ap (λ (y : Row). Some y.bindings) s }
    by e j true m (Some bs) q (inr k) = absurd k
    by e j true m None q k = absurd k
    by e j false m o q k = absurd k

kept_only : (r x : Row) (rs : List Row) → IsIn x (only_without r rs) → r ≡ x
kept_only r x [] (inl e) = e
kept_only r x [] (inr i) = absurd i
kept_only r x (s ∷ rs) i = absurd i

-- the elements of a row, on which the conditions pass
pub record Passes (cs : Conditions) (w : List Element) (r x : Row) : Type 0 where
  pub elements : List Element
  pub there : (e : Element) → IsIn e elements → IsIn e w
  pub tags : x.tags ≡ r.tags ++ map (λ e. e.tag) elements
  pub passed : passed_on cs elements r.bindings ≡ Some x.bindings

same_passes : (cs : Conditions) (w : List Element) (r s x : Row) → r ≡ s → Passes cs w s x → Passes cs w r x
same_passes cs w r s x e h = subst (λ y. Passes cs w y x) (sym e) h

pub row_passes : (cs : Conditions) (w : List Element) (r x : Row) → IsIn x (rows_from cs w (r ∷ [])) → Passes cs w r x
row_passes no_more w r x (inl e) =
    record { elements = []; there = λ e i. absurd i; tags = ap (λ (y : Row). y.tags) (sym e) ∙ sym (append-nil r.tags); passed = ap (λ (y : Row). Some y.bindings) e }
row_passes no_more w r x (inr i) = absurd i
row_passes (condition_and (positive p) cs) w r x i =
    let s = from_one cs w (extend p w r ++ []) x i in
    let one = takes_one p w r s.0 (subst (λ l. IsIn s.0 l) (append-nil (extend p w r)) s.1) in
    let rest = row_passes cs w s.0 x s.2 in
    record {
      elements = one.element ∷ rest.elements;
      there = λ e j. elim j [ inl q ↦ subst (λ y. IsIn y w) q one.there | inr k ↦ rest.there e k ];
      tags = rest.tags ∙ ap (λ l. l ++ map (λ (e : Element). e.tag) rest.elements) one.tags ∙ append_assoc r.tags (one.element.tag ∷ []) (map (λ (e : Element). e.tag) rest.elements);
      passed = ap (λ b. option_and_then (passed_on cs rest.elements) (if_taken b (bindings_at p one.element r.bindings))) one.marks
          ∙ ap (option_and_then (passed_on cs rest.elements)) one.passes ∙ rest.passed;
    }
row_passes (condition_and (negated p) cs) w r x i =
    let s = from_one cs w (only_without r (extend p w r) ++ []) x i in
    let same = kept_only r s.0 (extend p w r) (subst (λ l. IsIn s.0 l) (append-nil (only_without r (extend p w r))) s.1) in
    let rest = same_passes cs w r s.0 x same (row_passes cs w s.0 x s.2) in
    record { elements = rest.elements; there = rest.there; tags = rest.tags; passed = rest.passed }
row_passes (condition_and (conjunctive inside) cs) w r x i =
    let s = from_one cs w (only_without r (rows_from inside w (r ∷ [])) ++ []) x i in
    let same = kept_only r s.0 (rows_from inside w (r ∷ [])) (subst (λ l. IsIn s.0 l) (append-nil (only_without r (rows_from inside w (r ∷ [])))) s.1) in
    let rest = same_passes cs w r s.0 x same (row_passes cs w s.0 x s.2) in
    record { elements = rest.elements; there = rest.there; tags = rest.tags; passed = rest.passed }

-- ---- elements by their tags

abbrev pub TagsAre : List Element → List Element → Type 0
TagsAre elements among = (e f : Element) → IsIn e elements → IsIn f among → e.tag ≡ f.tag → e ≡ f

pub found_by : (among : List Element) (e : Element) → ((f : Element) → IsIn f among → e.tag ≡ f.tag → e ≡ f) → IsIn e among → element_of e.tag among ≡ Some e
found_by [] e tell i = absurd i
found_by (f ∷ among) e tell i = go (f.tag == e.tag) refl i (found_by among e (λ g j q. tell g (inr j) q))
  where
    go : (b : Bool) → (f.tag == e.tag) ≡ b → (f ≡ e) ⊎ IsIn e among → (IsIn e among → element_of e.tag among ≡ Some e) → cond b (Some f) (element_of e.tag among) ≡ Some e
    go true q j later = let t : e.tag ≡ f.tag = grind arith in ap Some (sym (tell f (inl refl) t))
    go false q (inl s) later = let t : f.tag ≡ e.tag = ap (λ (x : Element). x.tag) s in absurd (grind arith)
    go false q (inr j) later = later j

pub matched_again : (elements among : List Element) → ((e : Element) → IsIn e elements → IsIn e among) → TagsAre elements among → elements_matched among (map (λ e. e.tag) elements) ≡ elements
matched_again [] among h tell = refl
matched_again (e ∷ elements) among h tell =
    let rest = matched_again elements among (λ f i. h f (inr i)) (λ f g i j q. tell f g (inr i) j q) in
    let first = found_by among e (λ f j q. tell e f (inl refl) j q) (h e (inl refl)) in
    ap (λ (o : Option Element). elim o [ Some x ↦ x ∷ [] | None ↦ [] ] ++ elements_matched among (map (λ (x : Element). x.tag) elements)) first ∙ ap (λ l. e ∷ l) rest

-- ---- instances

as_match : (r : Row) (rs : List Row) → IsIn r rs → match.IsIn r rs
as_match r [] i = i
as_match r (x ∷ rs) (inl q) = inl q
as_match r (x ∷ rs) (inr i) = inr (as_match r rs i)

-- its rule passes on its elements, and gives its bindings
pub record InstancePasses (rule : RuleOf) (w : List Element) (i : Instance) : Type 0 where
  pub elements : List Element
  pub there : (e : Element) → IsIn e elements → IsIn e w
  pub tags : i.tags ≡ map (λ e. e.tag) elements
  pub passes : passed_on rule.production.conditions elements [] ≡ Some (bindings_of rule.production i)

pub instance_passes : (rule : RuleOf) (w : List Element) (i : Instance) → IsIn i (instances_of w rule) → InstancePasses rule w i
instance_passes rule w i j =
    let row = in_map (instance_of rule.number) i (rows rule.production.conditions w) j in
    let h = row_passes rule.production.conditions w empty_row row.0 row.1 in
    let told = tells_bindings rule.production rule.number w row.0 (as_match row.0 (rows rule.production.conditions w) row.1) in
    record {
      elements = h.elements;
      there = h.there;
      tags = ap (λ (x : Instance). x.tags) (sym row.2) ∙ h.tags;
      passes = h.passed ∙ ap Some (sym told ∙ ap (bindings_of rule.production) row.2);
    }

-- ---- used elements

-- each element of an instance is among those that the firing used
item_first : (superstate : Sym) (e : Element) (o : Option Item) → IsIn e (map (λ (u : Used). u.element) (item_uses superstate e o))
item_first superstate e (Some item) = inl refl
item_first superstate e None = inl refl

own_first : (superstate : Sym) (goals : List Goal) (e : Element) → IsIn e (map (λ (u : Used). u.element) (own_uses superstate goals e))
own_first superstate [] e = inl refl
own_first superstate (goal ∷ goals) e = go (own_first goal.id goals e) (symbol_eq goal.id e.id) (symbol_eq e.attr item_word)
  where
    go : IsIn e (map (λ (u : Used). u.element) (own_uses goal.id goals e)) → (a b : Bool) → IsIn e (map (λ (u : Used). u.element) (cond a (cond b (item_uses superstate e (item_in goal.items e.value)) (used_as e how.Architecture ∷ [])) (own_uses goal.id goals e)))
    go later true true = item_first superstate e (item_in goal.items e.value)
    go later true false = inl refl
    go later false b = later

made_first : (rows : List Preference) (e : Element) (o : Option Selection) → IsIn e (map (λ (u : Used). u.element) (made_uses rows e o))
made_first rows e (Some selection) = inl refl
made_first rows e None = inl refl

use_first : (before : Reach) (rows : List Preference) (depth : ℕ) (e : Element) → IsIn e (map (λ (u : Used). u.element) (uses_of before rows depth e))
use_first before rows depth e =
    go (nat_lt depth 2 || is_above (level_in before.goals before.reached e.id) depth) (has_triple_among (goal_elements before.goals) (triple_of e))
  where
    go : (a b : Bool) → IsIn e (map (λ (u : Used). u.element) (cond a (used_as e how.Upper ∷ []) (cond b (own_uses e.id before.goals e) (made_uses rows e (selection_told before.goals e)))))
    go true b = inl refl
    go false true = own_first e.id before.goals e
    go false false = made_first rows e (selection_told before.goals e)

pub each_used : (before : Reach) (rows : List Preference) (depth : ℕ) (elements : List Element) (e : Element) → IsIn e elements → IsIn e (map (λ (u : Used). u.element) (all_uses before rows depth elements))
each_used before rows depth elements e i =
    let found = in_map (λ (u : Used). u.element) e (uses_of before rows depth e) (use_first before rows depth e) in
    subst (λ x. IsIn x (map (λ (u : Used). u.element) (all_uses before rows depth elements))) found.2
    (in_mapped (λ (u : Used). u.element) found.0 (all_uses before rows depth elements) (in_flat_mapped (uses_of before rows depth) e found.0 elements i found.1))

-- A firing of an instance of the conflict set, recorded with the uses of its elements, has its rule pass on its elements and give its bindings.
pub recorded_passes : (before : Reach) (prefs : List Preference) (depth : ℕ) (rule : RuleOf) (w : List Element) (i : Instance)
    → IsIn i (instances_of w rule) → TagsAre w w → TagsAre w (map (λ (u : Used). u.element) (all_uses before prefs depth (elements_matched w i.tags)))
    → passed_on rule.production.conditions (elements_matched (map (λ (u : Used). u.element) (all_uses before prefs depth (elements_matched w i.tags))) i.tags) [] ≡ Some (bindings_of rule.production i)
recorded_passes before prefs depth rule w i j tell tell_used =
    let h = instance_passes rule w i j in
    let matched : elements_matched w i.tags ≡ h.elements = ap (elements_matched w) h.tags ∙ matched_again h.elements w h.there (λ e f k l q. tell e f (h.there e k) l q) in
    let used : List Element = map (λ (u : Used). u.element) (all_uses before prefs depth (elements_matched w i.tags)) in
    let again : elements_matched used i.tags ≡ h.elements =
    ap (elements_matched used) h.tags
    ∙ matched_again h.elements used (λ e k. each_used before prefs depth (elements_matched w i.tags) e (subst (λ l. IsIn e l) (sym matched) k)) (λ e f k l q. tell_used e f (h.there e k) l q) in
    ap (λ l. passed_on rule.production.conditions l []) again ∙ h.passes
