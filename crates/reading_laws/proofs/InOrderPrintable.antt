-- A production that was printed in another order can be printed, numbered in the order of its text.
use Rattle.std.specs.Prelude.{codes, flat_map, map, take, IsUtf8}
use Rattle.std.specs.Str.{bytes_eq}
use Rattle.std.proofs.Common.{◌≡◌, refl, sym, ◌∙◌, ap, true, false, [], ◌∷◌, ◌++◌, List, ℕ, zero, suc, Bool, ◌||◌, ◌==◌, ◌<◌, ◌≤◌, Some, length, arith}
use Rattle.std.proofs.lemmas.Bool.{eqb-false}
use Rattle.std.proofs.lemmas.List.{length-map}
use Rattle.std.proofs.lemmas.Slice.Eq.{bytes_eq-Decides}
use Rattle.soar_sym.specs.Words.{Texts, text_of}
use Rattle.soar_sym.specs.declared.symbol.Sym.{Sym}
use Rattle.soar_rule.specs.declared.production.Kind.TheVariants as kind
use Rattle.soar_rule.specs.Canonical.{place_among}
use Rattle.soar_rule.specs.Conditions.{Conditions}
use Rattle.soar_rule.specs.Productions.{ProductionOf}
use Rattle.soar_rule.specs.Reordering.{Reordered}
use Rattle.soar_rule.specs.Variables.{is_among, variables_of_conditions, variables_of_action}
use Rattle.soar_rule.proofs.VariableLemmas.{among_joined}
use Rattle.rule_laws.proofs.RenumberedVariables.{joined, conditions_variables, actions_variables}
use Rattle.defs_read.specs.FreshNames.{has_name, place_of_name}
use Rattle.defs_read.specs.PrintingConditions.{name_at, bare_text}
use Rattle.reading_laws.specs.Lawful.{AllOf, IfThere}
use Rattle.soar_rule.specs.Alike.{variables_in}
use Rattle.reading_laws.specs.Printable.{IsWord, IsNaming, IsSome, AreConditions, IsPrintedAction, AreDistinct, met_after, IsPrintable}
use Rattle.reading_laws.proofs.InOrderLaws.{order_of, order_among, placed}
use Rattle.reading_laws.proofs.NameLaws.{name_of, place_met}
use Rattle.rule_laws.proofs.OccurrenceLaws.{NoneTwice, none_twice, stands_first, few_below}
use Rattle.reading_laws.proofs.PlaceLaws.{numbered_from, met_below}
use Rattle.reading_laws.proofs.RenumberedPrintable.{some_printable, conditions_printable, actions_printable}
use Rattle.reading_laws.proofs.ReorderedLaws.{some_again, printable_again, among_again}

-- ---- what can be printed but for the order of its numbers

pub record IsNamed (words : Texts) (q : ProductionOf) : Type 0 where
  pub state : text_of words 0 ≡ codes "state"
  pub name : IsWord words q.name
  pub doc : IfThere IsUtf8 q.doc
  pub kind : q.kind ≡ kind.Justification → ⊥
  pub names : AllOf (IsNaming words) q.vars
  pub distinct : AreDistinct (map (bare_text words) q.vars)
  pub some : IsSome q.conditions
  pub conditions : AreConditions q.conditions words
  pub actions : AllOf (IsPrintedAction words) q.actions
  pub below : (v : ℕ) → is_among (variables_in q) v ≡ true → v < length q.vars

pub reordered_named : (words : Texts) (p : ProductionOf) (cs : Conditions) → IsPrintable words p → Reordered p.conditions cs → IsNamed words (record p { conditions = cs })
reordered_named words p cs h same =
    record {
      state = h.state;
      name = h.name;
      doc = h.doc;
      kind = h.kind;
      names = h.names;
      distinct = h.distinct;
      some = some_again same h.some;
      conditions = printable_again words same h.conditions;
      actions = h.actions;
      below = λ v e. (met_below 0 (length p.vars) (variables_in p) h.numbered).1 v (same_variables v ∙ e);
    }
  where
    same_variables : (v : ℕ) → is_among (variables_in p) v ≡ is_among (variables_of_conditions cs ++ flat_map variables_of_action p.actions) v
    same_variables v =
        among_joined (variables_of_conditions p.conditions) (flat_map variables_of_action p.actions) v
        ∙ ap (λ b. b || is_among (flat_map variables_of_action p.actions) v) (among_again v same)
        ∙ sym (among_joined (variables_of_conditions cs) (flat_map variables_of_action p.actions) v)

-- ---- names

last_among : (v w : ℕ) (vs : List ℕ) → is_among vs v ≡ true → is_among (w ∷ vs) v ≡ true
last_among v w vs e = by (v == w)
  where
    by : (b : Bool) → (b || is_among vs v) ≡ true
    by true = refl
    by false = e

-- what holds of each name holds of that of a variable
name_holds : (Holds : Sym → Type 0) (vars : List Sym) (v : ℕ) → v < length vars → AllOf Holds vars → Holds (name_at vars v)
name_holds Holds [] v l h = absurd (omega arith)
name_holds Holds (s ∷ vars) zero l h = h.0
name_holds Holds (s ∷ vars) (suc v) l h = name_holds Holds vars v (omega arith) h.1

names_hold : (Holds : Sym → Type 0) (vars : List Sym) (vs : List ℕ) → ((v : ℕ) → is_among vs v ≡ true → v < length vars) → AllOf Holds vars → AllOf Holds (map (name_at vars) vs)
names_hold Holds vars [] below h = tt
names_hold Holds vars (v ∷ vs) below h = (name_holds Holds vars v (below v (stands_first v vs)) h, names_hold Holds vars vs (λ w e. below w (last_among w v vs e)) h)

-- two variables of one name are one
one_name : (words : Texts) (vars : List Sym) (v w : ℕ) → AreDistinct (map (bare_text words) vars) → v < length vars → w < length vars
    → bare_text words (name_at vars v) ≡ bare_text words (name_at vars w) → v ≡ w
one_name words vars v w distinct l m e =
    let count : length (map (bare_text words) vars) ≡ length vars = length-map vars (bare_text words) in
    let texts : Texts = map (bare_text words) vars in
    sym (place_met texts v (length texts) distinct (omega arith) (omega arith))
    ∙ ap (place_of_name (take (length texts) texts)) (sym (name_of words vars v (omega arith)) ∙ e ∙ name_of words vars w (omega arith))
    ∙ place_met texts w (length texts) distinct (omega arith) (omega arith)

module _ (words : Texts) (vars : List Sym) (distinct : AreDistinct (map (bare_text words) vars)) where
  other_names : (v : ℕ) (vs : List ℕ) → v < length vars → ((w : ℕ) → is_among vs w ≡ true → w < length vars) → is_among vs v ≡ false
      → has_name (map (bare_text words) (map (name_at vars) vs)) (bare_text words (name_at vars v)) ≡ false
  other_names v [] l below e = refl
  other_names v (w ∷ vs) l below e = by (v == w) (bytes_eq (bare_text words (name_at vars v)) (bare_text words (name_at vars w))) refl refl e (other_names v vs l (λ u f. below u (last_among u w vs f)))
    where
      by : (b c : Bool) → (v == w) ≡ b → bytes_eq (bare_text words (name_at vars v)) (bare_text words (name_at vars w)) ≡ c → (b || is_among vs v) ≡ false
          → (is_among vs v ≡ false → has_name (map (bare_text words) (map (name_at vars) vs)) (bare_text words (name_at vars v)) ≡ false)
          → (c || has_name (map (bare_text words) (map (name_at vars) vs)) (bare_text words (name_at vars v))) ≡ false
      by true c f g h later = absurd (cc)
      by false true f g h later =
          absurd (eqb-false v w f (one_name words vars v w distinct l (below w (stands_first w vs)) ((bytes_eq-Decides (bare_text words (name_at vars v)) (bare_text words (name_at vars w))).0 g)))
      by false false f g h later = later h

  still_distinct : (vs : List ℕ) → ((w : ℕ) → is_among vs w ≡ true → w < length vars) → NoneTwice vs → AreDistinct (map (bare_text words) (map (name_at vars) vs))
  still_distinct [] below once = tt
  still_distinct (v ∷ vs) below once =
      let later : (w : ℕ) → is_among vs w ≡ true → w < length vars = λ w e. below w (last_among w v vs e) in
      (other_names v vs (below v (stands_first v vs)) later once.0, still_distinct vs later once.1)

-- ---- numbered in the order of its text

module _ (words : Texts) (q : ProductionOf) (h : IsNamed words q) where
  order_below : (v : ℕ) → is_among (order_of q) v ≡ true → v < length q.vars
  order_below v e = h.below v (sym (order_among q v) ∙ e)

  pub no_more_variables : length (placed q).vars ≤ length q.vars
  no_more_variables =
      let count = length-map (order_of q) (name_at q.vars) in
      let few = few_below (length q.vars) (order_of q) (none_twice [] (variables_in q) tt) order_below in
      omega arith

  variables_placed : variables_in (placed q) ≡ map (place_among (order_of q)) (variables_in q)
  variables_placed =
      joined (place_among (order_of q)) (variables_of_conditions (placed q).conditions) (flat_map variables_of_action (placed q).actions)
      (variables_of_conditions q.conditions) (flat_map variables_of_action q.actions)
      (conditions_variables (place_among (order_of q)) q.conditions) (actions_variables (place_among (order_of q)) q.actions)

  pub placed_printable : IsPrintable words (placed q)
  placed_printable =
      record {
        state = h.state;
        name = h.name;
        doc = h.doc;
        kind = h.kind;
        names = names_hold (IsNaming words) q.vars (order_of q) order_below h.names;
        distinct = still_distinct words q.vars h.distinct (order_of q) order_below (none_twice [] (variables_in q) tt);
        some = some_printable words (place_among (order_of q)) q.conditions h.some;
        conditions = conditions_printable words (place_among (order_of q)) q.conditions h.conditions;
        actions = actions_printable words (place_among (order_of q)) q.actions h.actions;
        numbered = ap (met_after 0) variables_placed ∙ numbered_from (order_of q) [] (variables_in q) refl ∙ ap Some (sym (length-map (order_of q) (name_at q.vars)));
      }
