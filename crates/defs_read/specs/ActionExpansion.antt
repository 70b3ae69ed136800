-- From the trees of actions to one triple for each action (Soar manual, chapter 3, production syntax).
use Rattle.std.specs.Prelude.{ℕ, ◌==◌, List, [], ◌∷◌, ◌++◌, Option, Some, None, if◌then◌else◌}
use Rattle.soar_sym.specs.Words.{Texts}
use Rattle.soar_rule.specs.declared.cond.Atom.{Atom}
use Rattle.soar_rule.specs.Productions.{ValueOf, atom_value, call_value, ValuesOf, no_values, value_and, PreferenceOf, accepts, rejects, requires_it, prohibits, is_best, is_worst, is_indifferent, is_better_than, is_worse_than, is_indifferent_to, ActionOf, makes, writes, halts}
use Rattle.defs_read.specs.FieldExpansion.{atom_of}
use Rattle.defs_read.specs.FreshNames.{Fresh, Expanded, expanded, then_expand, fresh_variable}
use Rattle.defs_read.specs.Grammar.{a_variable, Term, simple, called, Terms, no_terms, term_and, WishTree, accepting, rejecting, requiring, prohibiting, comparing, ItemTree, AttributeMake, ActionTree, making, writing, halting}

abbrev mutual
  pub value_of : Term → Texts → Fresh → Expanded ValueOf
  value_of (simple s) words f = then_expand (atom_of words s f) (λ a g. expanded (atom_value a) g)
  value_of (called function ts) words f = then_expand (values_of ts words f) (λ vs g. expanded (call_value function vs) g)

  pub values_of : Terms → Texts → Fresh → Expanded ValuesOf
  values_of no_terms words f = expanded no_values f
  values_of (term_and t ts) words f = then_expand (value_of t words f) (λ v g. then_expand (values_of ts words g) (λ vs h. expanded (value_and v vs) h))

abbrev pub list_of : ValuesOf → List ValueOf
list_of no_values = []
list_of (value_and v vs) = v ∷ list_of vs

-- `>`, `<` and `=`
abbrev pub alone : ℕ → PreferenceOf
alone k = if k == 0 then is_worst else if k == 1 then is_best else is_indifferent

abbrev pub referring : ℕ → ValueOf → PreferenceOf
referring k v = if k == 0 then is_worse_than v else if k == 1 then is_better_than v else is_indifferent_to v

abbrev pub compared : Texts → ℕ → Option Term → Fresh → Expanded PreferenceOf
compared words k None f = expanded (alone k) f
compared words k (Some t) f = then_expand (value_of t words f) (λ v g. expanded (referring k v) g)

abbrev pub preference_of : Texts → WishTree → Fresh → Expanded PreferenceOf
preference_of words accepting f = expanded accepts f
preference_of words rejecting f = expanded rejects f
preference_of words requiring f = expanded requires_it f
preference_of words prohibiting f = expanded prohibits f
preference_of words (comparing c) f = compared words c.sign c.referent f

abbrev pub wishes_actions : Texts → Atom → ValueOf → ValueOf → List WishTree → Fresh → Expanded (List ActionOf)
wishes_actions words id attr value [] f = expanded [] f
wishes_actions words id attr value (w ∷ wishes) f =
    then_expand (preference_of words w f) (λ p g. then_expand (wishes_actions words id attr value wishes g) (λ more h. expanded (makes id attr value p ∷ more) h))

-- an item without a preference is acceptable
abbrev pub wished_actions : Texts → Atom → ValueOf → ValueOf → List WishTree → Fresh → Expanded (List ActionOf)
wished_actions words id attr value [] f = expanded (makes id attr value accepts ∷ []) f
wished_actions words id attr value (w ∷ wishes) f = wishes_actions words id attr value (w ∷ wishes) f

abbrev pub items_actions : Texts → Atom → ValueOf → List ItemTree → Fresh → Expanded (List ActionOf)
items_actions words id attr [] f = expanded [] f
items_actions words id attr (i ∷ items) f =
    then_expand (value_of i.value words f) (λ v g. then_expand (wished_actions words id attr v i.wishes g) (λ here h.
    then_expand (items_actions words id attr items h) (λ more last. expanded (here ++ more) last)))

-- a path makes fresh variables on the way
abbrev pub action_path : Texts → Atom → Term → List Term → List ItemTree → Fresh → Expanded (List ActionOf)
action_path words id attribute [] items f = then_expand (value_of attribute words f) (λ attr g. items_actions words id attr items g)
action_path words id attribute (next ∷ path) items f =
    then_expand (value_of attribute words f) (λ attr g. then_expand (fresh_variable g) (λ v h.
    then_expand (action_path words v next path items h) (λ more last. expanded (makes id attr (atom_value v) accepts ∷ more) last)))

abbrev pub makes_actions : Texts → Atom → List AttributeMake → Fresh → Expanded (List ActionOf)
makes_actions words id [] f = expanded [] f
makes_actions words id (m ∷ ms) f =
    then_expand (action_path words id m.attribute m.path (m.item ∷ m.items) f) (λ here g. then_expand (makes_actions words id ms g) (λ more h. expanded (here ++ more) h))

abbrev pub action_of : Texts → ActionTree → Fresh → Expanded (List ActionOf)
action_of words (making m) f = then_expand (atom_of words (a_variable m.variable) f) (λ id g. makes_actions words id (m.make ∷ m.makes) g)
action_of words (writing ts) f = then_expand (values_of ts words f) (λ vs g. expanded (writes (list_of vs) ∷ []) g)
action_of words halting f = expanded (halts ∷ []) f

abbrev pub actions_of : Texts → List ActionTree → Fresh → Expanded (List ActionOf)
actions_of words [] f = expanded [] f
actions_of words (a ∷ actions) f = then_expand (action_of words a f) (λ here g. then_expand (actions_of words actions g) (λ more h. expanded (here ++ more) h))
