-- The actions that trees mean can be printed: over paths, and whole actions.
use Rattle.std.specs.Prelude.{flat_map}
use Rattle.std.proofs.Common.{◌≡◌, refl, sym, ◌∙◌, ap, subst, [], ◌∷◌, ◌++◌, List, ℕ, ◌<◌, length, append_assoc, append-nil}
use Rattle.soar_sym.specs.Words.{Texts}
use Rattle.soar_rule.specs.declared.cond.Atom.{Atom}
use Rattle.soar_rule.specs.Productions.{atom_value, ValuesOf, no_values, value_and, accepts, ActionOf, makes, writes, halts}
use Rattle.soar_rule.specs.Variables.{variables_of_value, variables_of_values, variables_of_action}
use Rattle.defs_text.specs.Lexing.{mark}
use Rattle.defs_read.specs.ActionExpansion.{value_of, values_of, list_of, items_actions, action_path, makes_actions, action_of, actions_of}
use Rattle.defs_read.specs.FieldExpansion.{atom_of}
use Rattle.defs_read.specs.FreshNames.{Fresh, expanded, then_expand, fresh_variable}
use Rattle.defs_read.specs.Grammar.{a_variable, Term, ItemTree, AttributeMake, ActionTree, making, writing, halting}
use Rattle.defs_read.specs.Spelling.{spelled_term, spelled_terms, spelled_item, spelled_term_step, spelled_make, spelled_action}
use Rattle.reading_laws.specs.Lawful.{AllOf, count_of, IsTerm, IsItem, IsMake, IsAction}
use Rattle.reading_laws.specs.Printable.{IsValue, AreValues, IsPrintedAction}
use Rattle.reading_laws.proofs.FineLaws.{Source, Fine, Given, IsVar, all_joined, named_given, fresh_given}
use Rattle.reading_laws.proofs.GivenActions.{IsValueOf, AreValuesOf, AreDone, AreBehind, one_made, both_done, value_given, values_given, items_given}
use Rattle.reading_laws.proofs.GivenConditions.{AreMet, given_behind, met_now, still_met}
use Rattle.reading_laws.proofs.GivenFields.{Later, IsOf, AreOf, all_front, all_behind, given_said, given_plain, given_made, given_then, var_is}

-- over a path
path_given : (s : Source) (after : Texts) (id : Atom) (i : List ℕ) (attribute : Term) (path : List Term) (t : ItemTree) (items : List ItemTree) (f : Fresh) → Later s.known after → IsVar id i → AreMet (length f.names) i
    → IsTerm attribute → AllOf IsTerm path → AllOf IsItem (t ∷ items) → AreOf s (spelled_term attribute) → AreOf s (flat_map spelled_term_step path) → AreOf s (flat_map spelled_item (t ∷ items)) → Fine s f
    → Given s f (action_path s.known id attribute path (t ∷ items) f) (AreBehind after i)
path_given s after id i attribute [] t items f later h_id met l_attr l_path l_items h_attr h_path h_items fine =
    let e = value_of attribute s.known f in
    let x = value_given attribute s after f later l_attr h_attr fine in
    given_then s f e (λ attr g. items_actions s.known id attr (t ∷ items) g) (IsValueOf after) (AreBehind after i) x
    (given_said s e.names (items_actions s.known id e.value (t ∷ items) e.names) (AreBehind after (i ++ x.vs)) (λ actions ws. AreBehind after i actions (x.vs ++ ws)) (λ actions ws k. subst (AreDone after actions) (append_assoc i x.vs ws) k)
    (items_given s after id e.value i x.vs t items e.names later h_id x.is (all_joined (λ v. v < length e.names.names) i x.vs (still_met s f e (IsValueOf after) i x met) (met_now s f e (IsValueOf after) x)) l_items h_items x.fine))
path_given s after id i attribute (next ∷ path) t items f later h_id met l_attr l_path l_items h_attr h_path h_items fine =
    let e = value_of attribute s.known f in
    let x = value_given attribute s after f later l_attr h_attr fine in
    let v = fresh_variable e.names in
    let y = fresh_given s e.names x.fine in
    let first = makes id e.value (atom_value v.value) accepts in
    let one = one_made after id e.value (atom_value v.value) accepts i x.vs y.vs [] h_id x.is (var_is after v.value y.vs y.is) (tt, refl) in
    given_then s f e (λ attr g. then_expand (fresh_variable g) (λ v h. then_expand (action_path s.known v next path (t ∷ items) h) (λ more last. expanded (makes id attr (atom_value v) accepts ∷ more) last))) (IsValueOf after) (AreBehind after i) x
    (given_then s e.names v (λ v h. then_expand (action_path s.known v next path (t ∷ items) h) (λ more last. expanded (makes id e.value (atom_value v) accepts ∷ more) last)) IsVar (λ actions ws. AreBehind after i actions (x.vs ++ ws)) y
    (given_made s v.names (action_path s.known v.value next path (t ∷ items) v.names) (λ more. first ∷ more) (AreDone after) (λ more ws. AreBehind after i more (x.vs ++ (y.vs ++ ws)))
    (λ more ws k. subst (AreDone after (first ∷ more)) (front x.vs y.vs ws) (both_done after (first ∷ []) more ((i ++ (x.vs ++ y.vs)) ++ []) ws one k.each k.variables))
    (given_behind s v.names (action_path s.known v.value next path (t ∷ items) v.names) y.vs (AreBehind after y.vs) (AreDone after) (met_now s e.names v IsVar y) (λ more vs k. k)
    (path_given s after v.value y.vs next path t items v.names later y.is (met_now s e.names v IsVar y) l_path.0 l_path.1 l_items (all_front (IsOf s) (spelled_term next) (flat_map spelled_term_step path) h_path.1)
    (all_behind (IsOf s) (spelled_term next) (flat_map spelled_term_step path) h_path.1) h_items y.fine))))
  where
    front : (a b c : List ℕ) → ((i ++ (a ++ b)) ++ []) ++ c ≡ i ++ (a ++ (b ++ c))
    front a b c = ap (λ l. l ++ c) (append-nil (i ++ (a ++ b))) ∙ append_assoc i (a ++ b) c ∙ ap (λ l. i ++ l) (append_assoc a b c)

make_given : (s : Source) (after : Texts) (id : Atom) (i : List ℕ) (m : AttributeMake) (f : Fresh) → Later s.known after → IsVar id i → AreMet (length f.names) i → IsMake m → AreOf s (spelled_make m) → Fine s f
    → Given s f (action_path s.known id m.attribute m.path (m.item ∷ m.items) f) (AreBehind after i)
make_given s after id i m f later h_id met lawful h fine =
    let a = all_behind (IsOf s) (spelled_term m.attribute) (flat_map spelled_term_step m.path ++ (spelled_item m.item ++ flat_map spelled_item m.items)) h.1 in
    path_given s after id i m.attribute m.path m.item m.items f later h_id met lawful.0 lawful.1 (lawful.2, lawful.3) (all_front (IsOf s) (spelled_term m.attribute) (flat_map spelled_term_step m.path ++ (spelled_item m.item ++ flat_map spelled_item m.items)) h.1)
    (all_front (IsOf s) (flat_map spelled_term_step m.path) (spelled_item m.item ++ flat_map spelled_item m.items) a) (all_behind (IsOf s) (flat_map spelled_term_step m.path) (spelled_item m.item ++ flat_map spelled_item m.items) a) fine

makes_given : (s : Source) (after : Texts) (id : Atom) (i : List ℕ) (m : AttributeMake) (ms : List AttributeMake) (f : Fresh) → Later s.known after → IsVar id i → AreMet (length f.names) i → AllOf IsMake (m ∷ ms)
    → AreOf s (flat_map spelled_make (m ∷ ms)) → Fine s f → Given s f (makes_actions s.known id (m ∷ ms) f) (AreBehind after i)
makes_given s after id i m [] f later h_id met lawful h fine =
    given_made s f (action_path s.known id m.attribute m.path (m.item ∷ m.items) f) (λ here. here ++ []) (AreBehind after i) (AreBehind after i) (λ here vs k. subst (λ l. AreDone after l (i ++ vs)) (sym (append-nil here)) k)
    (make_given s after id i m f later h_id met lawful.0 (all_front (IsOf s) (spelled_make m) [] h) fine)
makes_given s after id i m (u ∷ ms) f later h_id met lawful h fine =
    let e = action_path s.known id m.attribute m.path (m.item ∷ m.items) f in
    let x = make_given s after id i m f later h_id met lawful.0 (all_front (IsOf s) (spelled_make m) (flat_map spelled_make (u ∷ ms)) h) fine in
    let now = still_met s f e (AreBehind after i) i x met in
    given_then s f e (λ here g. then_expand (makes_actions s.known id (u ∷ ms) g) (λ more h. expanded (here ++ more) h)) (AreBehind after i) (AreBehind after i) x
    (given_made s e.names (makes_actions s.known id (u ∷ ms) e.names) (λ more. e.value ++ more) (AreDone after) (λ more ws. AreBehind after i more (x.vs ++ ws))
    (λ more ws k. subst (AreDone after (e.value ++ more)) (append_assoc i x.vs ws) (both_done after e.value more (i ++ x.vs) ws x.is k.each k.variables))
    (given_behind s e.names (makes_actions s.known id (u ∷ ms) e.names) i (AreBehind after i) (AreDone after) now (λ more vs k. k)
    (makes_given s after id i u ms e.names later h_id now lawful.1 (all_behind (IsOf s) (spelled_make m) (flat_map spelled_make (u ∷ ms)) h) x.fine)))

-- ---- whole actions

each_written : (after : Texts) (values : ValuesOf) → AreValues values after → AllOf (λ v. IsValue v after) (list_of values)
each_written after no_values h = tt
each_written after (value_and v others) h = (h.0, each_written after others h.1)

written_variables : (values : ValuesOf) → flat_map variables_of_value (list_of values) ≡ variables_of_values values
written_variables no_values = refl
written_variables (value_and v others) = ap (λ l. variables_of_value v ++ l) (written_variables others)

action_given : (s : Source) (after : Texts) (a : ActionTree) (f : Fresh) → Later s.known after → IsAction a → AreOf s (spelled_action a) → Fine s f → Given s f (action_of s.known a f) (AreDone after)
action_given s after (making m) f later lawful h fine =
    let e = atom_of s.known (a_variable m.variable) f in
    let x = named_given s f m.variable fine h.1.0 in
    given_then s f e (λ id g. makes_actions s.known id (m.make ∷ m.makes) g) IsVar (AreDone after) x
    (makes_given s after e.value x.vs m.make m.makes e.names later x.is (met_now s f e IsVar x) lawful
    (all_joined (IsOf s) (spelled_make m.make) (flat_map spelled_make m.makes) (all_front (IsOf s) (spelled_make m.make) (flat_map spelled_make m.makes ++ (mark 41 ∷ [])) h.1.1)
    (all_front (IsOf s) (flat_map spelled_make m.makes) (mark 41 ∷ []) (all_behind (IsOf s) (spelled_make m.make) (flat_map spelled_make m.makes ++ (mark 41 ∷ [])) h.1.1))) x.fine)
action_given s after (writing ts) f later lawful h fine =
    given_made s f (values_of ts s.known f) (λ vs. writes (list_of vs) ∷ []) (AreValuesOf after (count_of ts)) (AreDone after)
    (λ values vs k. record { some = tt; each = (each_written after values k.each, tt); variables = append-nil (flat_map variables_of_value (list_of values)) ∙ written_variables values ∙ k.variables })
    (values_given ts s after f later lawful (all_front (IsOf s) (spelled_terms ts) (mark 41 ∷ []) h.1.1) fine)
action_given s after halting f later lawful h fine = given_plain s f (halts ∷ []) (AreDone after) fine (record { some = tt; each = (tt, tt); variables = refl })

-- actions, of which there may be none
pub record AreActions (after : Texts) (actions : List ActionOf) (vs : List ℕ) : Type 0 where
  pub each : AllOf (IsPrintedAction after) actions
  pub variables : flat_map variables_of_action actions ≡ vs

pub actions_given : (s : Source) (after : Texts) (trees : List ActionTree) (f : Fresh) → Later s.known after → AllOf IsAction trees → AreOf s (flat_map spelled_action trees) → Fine s f → Given s f (actions_of s.known trees f) (AreActions after)
actions_given s after [] f later lawful h fine = given_plain s f [] (AreActions after) fine (record { each = tt; variables = refl })
actions_given s after (a ∷ trees) f later lawful h fine =
    let e = action_of s.known a f in
    let x = action_given s after a f later lawful.0 (all_front (IsOf s) (spelled_action a) (flat_map spelled_action trees) h) fine in
    given_then s f e (λ here g. then_expand (actions_of s.known trees g) (λ more h. expanded (here ++ more) h)) (AreDone after) (AreActions after) x
    (given_made s e.names (actions_of s.known trees e.names) (λ more. e.value ++ more) (AreActions after) (λ actions ws. AreActions after actions (x.vs ++ ws))
    (λ more ws k. let both = both_done after e.value more x.vs ws x.is k.each k.variables in record { each = both.each; variables = both.variables })
    (actions_given s after trees e.names later lawful.1 (all_behind (IsOf s) (spelled_action a) (flat_map spelled_action trees) h) x.fine))
