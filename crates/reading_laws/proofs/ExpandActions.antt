-- The tree of printed actions means the actions again.
use Rattle.std.specs.Prelude.{flat_map, map}
use Rattle.std.proofs.Common.{◌≡◌, refl, ap, [], ◌∷◌, ◌++◌, List, ℕ}
use Rattle.soar_rule.specs.declared.cond.Atom.TheVariants.{Const, Var}
use Rattle.soar_rule.specs.Productions.{ValueOf, atom_value, call_value, ValuesOf, no_values, value_and, values_of as all_values, PreferenceOf, accepts, rejects, requires_it, prohibits, is_best, is_worst, is_indifferent, is_better_than, is_worse_than, is_indifferent_to, ActionOf, makes, writes, halts}
use Rattle.soar_rule.specs.Variables.{variables_of_value, variables_of_values, variables_of_atom, referent_value, of_referent, variables_of_action}
use Rattle.defs_read.specs.ActionExpansion.{value_of, values_of, list_of, referring, preference_of, wishes_actions, items_actions, action_path, makes_actions, action_of, actions_of}
use Rattle.defs_read.specs.FieldExpansion.{atom_of}
use Rattle.defs_read.specs.FreshNames.{expanded, then_expand}
use Rattle.defs_read.specs.Grammar.{a_variable, ItemTree, AttributeMake}
use Rattle.reading_laws.specs.Lawful.{AllOf}
use Rattle.reading_laws.specs.Printable.{IsValue, AreValues, IsPreference, IsPrintedAction}
use Rattle.reading_laws.specs.TreeBack.{name_back, single_back, term_back, terms_back, wish_back, action_back}
use Rattle.reading_laws.proofs.ExpandFields.{Setting, Back, back_gives, back_then, back_same, back_made, variable_back, single_again}

-- ---- values

mutual
  value_again : (v : ValueOf) (c : Setting) → IsValue v c.n.words → Back c (λ f. value_of (term_back v c.n) c.read f) v (variables_of_value v)
  value_again (atom_value a) c h = back_made c (atom_of c.read (single_back c.n a)) a (variables_of_atom a) atom_value (single_again c a h)
  value_again (call_value function vs) c h = back_made c (λ f. values_of (terms_back vs c.n) c.read f) vs (variables_of_values vs) (call_value function) (values_again vs c h.1)

  values_again : (vs : ValuesOf) (c : Setting) → AreValues vs c.n.words → Back c (λ f. values_of (terms_back vs c.n) c.read f) vs (variables_of_values vs)
  values_again no_values c h = back_gives c no_values
  values_again (value_and v vs) c h =
      back_then c (λ f. value_of (term_back v c.n) c.read f) v (variables_of_value v) (λ x g. then_expand (values_of (terms_back vs c.n) c.read g) (λ xs h. expanded (value_and x xs) h)) (value_and v vs) (variables_of_values vs) (value_again v c h.0)
      (back_made c (λ f. values_of (terms_back vs c.n) c.read f) vs (variables_of_values vs) (value_and v) (values_again vs c h.1))

-- ---- preferences

preference_again : (c : Setting) (p : PreferenceOf) → IsPreference c.n.words p → Back c (preference_of c.read (wish_back c.n p)) p (of_referent variables_of_value (referent_value p))
preference_again c accepts h = back_gives c accepts
preference_again c rejects h = back_gives c rejects
preference_again c requires_it h = back_gives c requires_it
preference_again c prohibits h = back_gives c prohibits
preference_again c is_best h = back_gives c is_best
preference_again c is_worst h = back_gives c is_worst
preference_again c is_indifferent h = back_gives c is_indifferent
preference_again c (is_better_than v) h = back_made c (λ f. value_of (term_back v c.n) c.read f) v (variables_of_value v) (referring 1) (value_again v c h)
preference_again c (is_worse_than v) h = back_made c (λ f. value_of (term_back v c.n) c.read f) v (variables_of_value v) (referring 0) (value_again v c h)
preference_again c (is_indifferent_to v) h = back_made c (λ f. value_of (term_back v c.n) c.read f) v (variables_of_value v) (referring 6) (value_again v c h)

-- ---- actions

make_again : (c : Setting) (v : ℕ) (attr value : ValueOf) (p : PreferenceOf) → IsValue attr c.n.words → IsValue value c.n.words → IsPreference c.n.words p
    → Back c (action_of c.read (action_back c.n (makes (Var v) attr value p))) (makes (Var v) attr value p ∷ []) (variables_of_action (makes (Var v) attr value p))
make_again c v attr value p h_attr h_value h_p =
    back_then c (atom_of c.read (a_variable (name_back c.n v))) (Var v) (v ∷ []) (λ id g. makes_actions c.read id (made ∷ []) g) (makes (Var v) attr value p ∷ []) (variables_of_value attr ++ (variables_of_value value ++ referred)) (variable_back c v)
    (back_made c (λ f. action_path c.read (Var v) (term_back attr c.n) [] (item ∷ []) f) (makes (Var v) attr value p ∷ []) (variables_of_value attr ++ (variables_of_value value ++ referred)) (λ here. here ++ [])
    (back_then c (λ f. value_of (term_back attr c.n) c.read f) attr (variables_of_value attr) (λ x g. items_actions c.read (Var v) x (item ∷ []) g) (makes (Var v) attr value p ∷ []) (variables_of_value value ++ referred) (value_again attr c h_attr)
    (back_then c (λ f. value_of (term_back value c.n) c.read f) value (variables_of_value value) (λ x g. then_expand (wishes_actions c.read (Var v) attr x (wish_back c.n p ∷ []) g) (λ here h. expanded (here ++ []) h)) (makes (Var v) attr value p ∷ []) referred
    (value_again value c h_value)
    (back_made c (λ f. wishes_actions c.read (Var v) attr value (wish_back c.n p ∷ []) f) (makes (Var v) attr value p ∷ []) referred (λ here. here ++ [])
    (back_made c (preference_of c.read (wish_back c.n p)) p referred (λ q. makes (Var v) attr value q ∷ []) (preference_again c p h_p))))))
  where
    referred : List ℕ
    referred = of_referent variables_of_value (referent_value p)

    item : ItemTree
    item = record { value = term_back value c.n; wishes = wish_back c.n p ∷ [] }

    made : AttributeMake
    made = record { attribute = term_back attr c.n; path = []; item = item; items = [] }

each_value : (c : Setting) (values : List ValueOf) → AllOf (λ v. IsValue v c.n.words) values → AreValues (all_values values) c.n.words
each_value c [] h = tt
each_value c (v ∷ values) h = (h.0, each_value c values h.1)

all_listed : (values : List ValueOf) → list_of (all_values values) ≡ values
all_listed [] = refl
all_listed (v ∷ values) = ap (λ l. v ∷ l) (all_listed values)

all_variables : (values : List ValueOf) → variables_of_values (all_values values) ≡ flat_map variables_of_value values
all_variables [] = refl
all_variables (v ∷ values) = ap (λ l. variables_of_value v ++ l) (all_variables values)

action_again : (c : Setting) (a : ActionOf) → IsPrintedAction c.n.words a → Back c (action_of c.read (action_back c.n a)) (a ∷ []) (variables_of_action a)
action_again c (makes (Var v) attr value p) h = make_again c v attr value p h.1 h.2 h.3
action_again c (makes (Const s) attr value p) h = absurd h.0
action_again c (writes values) h =
    back_same c (action_of c.read (action_back c.n (writes values))) (writes (list_of (all_values values)) ∷ []) (writes values ∷ []) (variables_of_values (all_values values)) (flat_map variables_of_value values)
    (ap (λ l. writes l ∷ []) (all_listed values)) (all_variables values)
    (back_made c (λ f. values_of (terms_back (all_values values) c.n) c.read f) (all_values values) (variables_of_values (all_values values)) (λ vs. writes (list_of vs) ∷ []) (values_again (all_values values) c (each_value c values h)))
action_again c halts h = back_gives c (halts ∷ [])

pub actions_again : (c : Setting) (actions : List ActionOf) → AllOf (IsPrintedAction c.n.words) actions → Back c (actions_of c.read (map (action_back c.n) actions)) actions (flat_map variables_of_action actions)
actions_again c [] h = back_gives c []
actions_again c (a ∷ actions) h =
    back_then c (action_of c.read (action_back c.n a)) (a ∷ []) (variables_of_action a) (λ here g. then_expand (actions_of c.read (map (action_back c.n) actions) g) (λ more h. expanded (here ++ more) h)) (a ∷ actions) (flat_map variables_of_action actions)
    (action_again c a h.0) (back_made c (actions_of c.read (map (action_back c.n) actions)) actions (flat_map variables_of_action actions) (λ more. (a ∷ []) ++ more) (actions_again c actions h.1))
