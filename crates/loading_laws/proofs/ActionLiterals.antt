-- The constants of the actions that trees mean are words and numbers.
use Rattle.std.proofs.Common.{◌≡◌, refl, sym, ap, subst, ℕ, ◌≤◌, ◌==◌, Bool, true, false, cond, List, [], ◌∷◌, ◌++◌, length, flat_map, Option, Some, None}
use Rattle.soar_sym.specs.Words.{Texts}
use Rattle.soar_rule.specs.declared.cond.Atom.{Atom}
use Rattle.soar_rule.specs.Productions.{ActionOf, makes, atom_value, PreferenceOf, accepts, is_better_than, is_indifferent, is_indifferent_to, is_worse_than, is_best, is_worst, ValueOf, ValuesOf, no_values, value_and}
use Rattle.soar_rule.specs.Symbols.{constants_of_action, constants_of_atom, constants_of_referent, constants_of_value, constants_of_values}
use Rattle.soar_rule.specs.Variables.{referent_value}
use Rattle.defs_read.specs.ActionExpansion.{action_of, action_path, actions_of, alone, compared, items_actions, list_of, makes_actions, preference_of, referring, value_of, values_of, wished_actions, wishes_actions}
use Rattle.defs_read.specs.FieldExpansion.{atom_of}
use Rattle.defs_read.specs.FreshNames.{Fresh, fresh_variable}
use Rattle.defs_read.specs.Grammar.{ActionTree, making, writing, halting, a_variable, AttributeMake, ItemTree, Term, simple, called, Terms, no_terms, term_and, WishTree, accepting, rejecting, requiring, prohibiting, comparing}
use Rattle.loading_laws.specs.Literals.{AreLiteral}
use Rattle.loading_laws.proofs.ConditionLiterals.{atom_literal}
use Rattle.loading_laws.proofs.LiteralLists.{both, none}

list_constants : (vs : ValuesOf) → flat_map constants_of_value (list_of vs) ≡ constants_of_values vs
list_constants no_values = refl
list_constants (value_and v vs) = ap (λ l. constants_of_value v ++ l) (list_constants vs)

module _ (words : Texts) (some : 6 ≤ length words) where
  abbrev HasValue : ValueOf → Type 0
  HasValue v = AreLiteral words (constants_of_value v)

  mutual
    term_literal : (t : Term) (f : Fresh) → HasValue (value_of t words f).value
    term_literal (simple x) f = atom_literal words some x f
    term_literal (called function ts) f = terms_literal ts f

    terms_literal : (ts : Terms) (f : Fresh) → AreLiteral words (constants_of_values (values_of ts words f).value)
    terms_literal no_terms f = none words
    terms_literal (term_and t ts) f =
        let e = value_of t words f in
        both words (constants_of_value e.value) (constants_of_values (values_of ts words e.names).value) (term_literal t f) (terms_literal ts e.names)

  -- ---- preferences

  abbrev HasPreference : PreferenceOf → Type 0
  HasPreference p = AreLiteral words (constants_of_referent (referent_value p))

  alone_literal : (k : ℕ) → HasPreference (alone k)
  alone_literal k = go (k == 0) (k == 1)
    where
      go : (a b : Bool) → HasPreference (cond a is_worst (cond b is_best is_indifferent))
      go true b = none words
      go false true = none words
      go false false = none words

  referring_literal : (k : ℕ) (v : ValueOf) → HasValue v → HasPreference (referring k v)
  referring_literal k v h = go (k == 0) (k == 1)
    where
      go : (a b : Bool) → HasPreference (cond a (is_worse_than v) (cond b (is_better_than v) (is_indifferent_to v)))
      go true b = h
      go false true = h
      go false false = h

  compared_literal : (k : ℕ) (o : Option Term) (f : Fresh) → HasPreference (compared words k o f).value
  compared_literal k None f = alone_literal k
  compared_literal k (Some t) f = referring_literal k (value_of t words f).value (term_literal t f)

  preference_literal : (w : WishTree) (f : Fresh) → HasPreference (preference_of words w f).value
  preference_literal accepting f = none words
  preference_literal rejecting f = none words
  preference_literal requiring f = none words
  preference_literal prohibiting f = none words
  preference_literal (comparing c) f = compared_literal c.sign c.referent f

  -- ---- actions

  -- the constants of each action are so
  abbrev AreOfWords : List ActionOf → Type 0
  AreOfWords [] = Unit {0}
  AreOfWords (a ∷ actions) = AreLiteral words (constants_of_action a) × AreOfWords actions

  and_more : (xs ys : List ActionOf) → AreOfWords xs → AreOfWords ys → AreOfWords (xs ++ ys)
  and_more [] ys h k = k
  and_more (x ∷ xs) ys h k = (h.0, and_more xs ys h.1 k)

  pub all_literal : (actions : List ActionOf) → AreOfWords actions → AreLiteral words (flat_map constants_of_action actions)
  all_literal [] h = none words
  all_literal (a ∷ actions) h = both words (constants_of_action a) (flat_map constants_of_action actions) h.0 (all_literal actions h.1)

  abbrev HasAtom : Atom → Type 0
  HasAtom a = AreLiteral words (constants_of_atom a)

  make_literal : (id : Atom) (attr value : ValueOf) (p : PreferenceOf) → HasAtom id → HasValue attr → HasValue value → HasPreference p → AreLiteral words (constants_of_action (makes id attr value p))
  make_literal id attr value p h k l m =
      both words (constants_of_atom id) (constants_of_value attr ++ (constants_of_value value ++ constants_of_referent (referent_value p))) h
      (both words (constants_of_value attr) (constants_of_value value ++ constants_of_referent (referent_value p)) k (both words (constants_of_value value) (constants_of_referent (referent_value p)) l m))

  wishes_literal : (id : Atom) (attr value : ValueOf) (wishes : List WishTree) (f : Fresh) → HasAtom id → HasValue attr → HasValue value → AreOfWords (wishes_actions words id attr value wishes f).value
  wishes_literal id attr value [] f h k l = tt
  wishes_literal id attr value (w ∷ wishes) f h k l =
      let e = preference_of words w f in (make_literal id attr value e.value h k l (preference_literal w f), wishes_literal id attr value wishes e.names h k l)

  wished_literal : (id : Atom) (attr value : ValueOf) (wishes : List WishTree) (f : Fresh) → HasAtom id → HasValue attr → HasValue value → AreOfWords (wished_actions words id attr value wishes f).value
  wished_literal id attr value [] f h k l = (make_literal id attr value accepts h k l (none words), tt)
  wished_literal id attr value (w ∷ wishes) f h k l = wishes_literal id attr value (w ∷ wishes) f h k l

  items_literal : (id : Atom) (attr : ValueOf) (items : List ItemTree) (f : Fresh) → HasAtom id → HasValue attr → AreOfWords (items_actions words id attr items f).value
  items_literal id attr [] f h k = tt
  items_literal id attr (i ∷ items) f h k =
      let e = value_of i.value words f in
      let here = wished_actions words id attr e.value i.wishes e.names in
      and_more here.value (items_actions words id attr items here.names).value (wished_literal id attr e.value i.wishes e.names h k (term_literal i.value f)) (items_literal id attr items here.names h k)

  path_literal : (id : Atom) (attribute : Term) (path : List Term) (items : List ItemTree) (f : Fresh) → HasAtom id → AreOfWords (action_path words id attribute path items f).value
  path_literal id attribute [] items f h = let e = value_of attribute words f in items_literal id e.value items e.names h (term_literal attribute f)
  path_literal id attribute (next ∷ path) items f h =
      let e = value_of attribute words f in
      let v = fresh_variable e.names in (
        make_literal id e.value (atom_value v.value) accepts h (term_literal attribute f) (none words) (none words),
        path_literal v.value next path items v.names (none words),
      )

  makes_literal : (id : Atom) (ms : List AttributeMake) (f : Fresh) → HasAtom id → AreOfWords (makes_actions words id ms f).value
  makes_literal id [] f h = tt
  makes_literal id (m ∷ ms) f h =
      let e = action_path words id m.attribute m.path (m.item ∷ m.items) f in
      and_more e.value (makes_actions words id ms e.names).value (path_literal id m.attribute m.path (m.item ∷ m.items) f h) (makes_literal id ms e.names h)

  action_literal : (a : ActionTree) (f : Fresh) → AreOfWords (action_of words a f).value
  action_literal (making m) f =
      let e = atom_of words (a_variable m.variable) f in makes_literal e.value (m.make ∷ m.makes) e.names (none words)
  action_literal (writing ts) f = (subst (AreLiteral words) (sym (list_constants (values_of ts words f).value)) (terms_literal ts f), tt)
  action_literal halting f = (none words, tt)

  pub actions_literal : (actions : List ActionTree) (f : Fresh) → AreOfWords (actions_of words actions f).value
  actions_literal [] f = tt
  actions_literal (a ∷ actions) f =
      let e = action_of words a f in and_more e.value (actions_of words actions e.names).value (action_literal a f) (actions_literal actions e.names)
