-- What comes of actions fits.
use Rattle.std.proofs.Common.{◌≡◌, ℕ, ◌<◌, ◌≤◌, ◌==◌, Bool, true, false, cond, List, [], ◌∷◌, ◌++◌, length, Option, Some, None, refl, arith}
use Rattle.std.specs.List.{list_all}
use Rattle.soar_sym.specs.Words.{Texts}
use Rattle.soar_rule.specs.declared.cond.Atom.{Atom}
use Rattle.soar_rule.specs.Productions.{ValueOf, atom_value, ValuesOf, no_values, value_and, PreferenceOf, accepts, is_best, is_worst, is_indifferent, is_better_than, is_worse_than, is_indifferent_to, ActionOf, makes}
use Rattle.defs_read.specs.ActionExpansion.{value_of, values_of, list_of, alone, referring, compared, preference_of, wishes_actions, wished_actions, items_actions, action_path, makes_actions, action_of, actions_of}
use Rattle.defs_read.specs.FieldExpansion.{atom_of}
use Rattle.defs_read.specs.FreshNames.{Fresh, Expanded, fresh_variable}
use Rattle.defs_read.specs.Grammar.{a_variable, Term, simple, called, Terms, no_terms, term_and, WishTree, accepting, rejecting, requiring, prohibiting, comparing, ItemTree, AttributeMake, ActionTree, making, writing, halting}
use Rattle.soar_read.proofs.FieldFits.{atom_of_fits, fresh_fits}
use Rattle.soar_read.proofs.FitLemmas.{atom_fits, value_fits, values_fit, preference_fits, action_fits, atom_stays, value_stays, action_stays, all_stay, count, Fits, all_append}
use Rattle.read_parts.proofs.TextLemmas.{and-true, both-true}

abbrev pub acts_fit : ℕ → ℕ → List ActionOf → Bool
acts_fit known n actions = list_all (action_fits known n) actions

-- ---- values and preferences

mutual
  value_of_fits : (t : Term) (words : Texts) (f : Fresh) → 0 < length words → Fits (value_fits (length words)) (count f) (value_of t words f)
  value_of_fits (simple s) words f room = let one : Fits (atom_fits (length words)) (count f) (atom_of words s f) = atom_of_fits words s f room in record { more = one.more; fit = one.fit }
  value_of_fits (called function ts) words f room = let one : Fits (values_fit (length words)) (count f) (values_of ts words f) = values_of_fit ts words f room in record { more = one.more; fit = one.fit }

  values_of_fit : (ts : Terms) (words : Texts) (f : Fresh) → 0 < length words → Fits (values_fit (length words)) (count f) (values_of ts words f)
  values_of_fit no_terms words f room = record { more = omega arith; fit = refl }
  values_of_fit (term_and t ts) words f room =
      let known : ℕ = length words in
      let e : Expanded ValueOf = value_of t words f in
      let one : Fits (value_fits known) (count f) e = value_of_fits t words f room in
      let rest : Expanded ValuesOf = values_of ts words e.names in
      let more : Fits (values_fit known) (count e.names) rest = values_of_fit ts words e.names room in
      record { more = omega (arith, one.more, more.more); fit = both-true (value_stays known (count e.names) (count rest.names) e.value more.more one.fit) more.fit }

list_fits : (known n : ℕ) (vs : ValuesOf) → values_fit known n vs ≡ true → list_all (value_fits known n) (list_of vs) ≡ true
list_fits known n no_values fit = refl
list_fits known n (value_and v vs) fit = let both : (value_fits known n v ≡ true) × (values_fit known n vs ≡ true) = and-true fit in both-true both.0 (list_fits known n vs both.1)

alone_fits : (known n k : ℕ) → preference_fits known n (alone k) ≡ true
alone_fits known n k = by (k == 0) (k == 1)
  where
    by : (p q : Bool) → preference_fits known n (cond p is_worst (cond q is_best is_indifferent)) ≡ true
    by true q = refl
    by false true = refl
    by false false = refl

referring_fits : (known n k : ℕ) (v : ValueOf) → value_fits known n v ≡ true → preference_fits known n (referring k v) ≡ true
referring_fits known n k v fits = by (k == 0) (k == 1)
  where
    by : (p q : Bool) → preference_fits known n (cond p (is_worse_than v) (cond q (is_better_than v) (is_indifferent_to v))) ≡ true
    by true q = fits
    by false true = fits
    by false false = fits

compared_fits : (words : Texts) (k : ℕ) (t : Option Term) (f : Fresh) → 0 < length words → Fits (preference_fits (length words)) (count f) (compared words k t f)
compared_fits words k None f room = record { more = omega arith; fit = alone_fits (length words) (count f) k }
compared_fits words k (Some t) f room =
    let e : Expanded ValueOf = value_of t words f in
    let one : Fits (value_fits (length words)) (count f) e = value_of_fits t words f room in
    record { more = one.more; fit = referring_fits (length words) (count e.names) k e.value one.fit }

preference_of_fits : (words : Texts) (w : WishTree) (f : Fresh) → 0 < length words → Fits (preference_fits (length words)) (count f) (preference_of words w f)
preference_of_fits words accepting f room = record { more = omega arith; fit = refl }
preference_of_fits words rejecting f room = record { more = omega arith; fit = refl }
preference_of_fits words requiring f room = record { more = omega arith; fit = refl }
preference_of_fits words prohibiting f room = record { more = omega arith; fit = refl }
preference_of_fits words (comparing c) f room = compared_fits words c.sign c.referent f room

-- ---- actions

-- some actions and others behind them
behind_fit : (known n : ℕ) (e rest : Expanded (List ActionOf)) → Fits (acts_fit known) n e → Fits (acts_fit known) (count e.names) rest → (n ≤ count rest.names) × (acts_fit known (count rest.names) (e.value ++ rest.value) ≡ true)
behind_fit known n e rest one more =
    (omega (arith, one.more, more.more), all_append (action_fits known (count rest.names)) e.value rest.value (all_stay (action_fits known) (action_stays known) (count e.names) (count rest.names) e.value more.more one.fit) more.fit)

wishes_fit : (words : Texts) (id : Atom) (attr value : ValueOf) (ws : List WishTree) (f : Fresh) → 0 < length words
    → atom_fits (length words) (count f) id ≡ true → value_fits (length words) (count f) attr ≡ true → value_fits (length words) (count f) value ≡ true
    → Fits (acts_fit (length words)) (count f) (wishes_actions words id attr value ws f)
wishes_fit words id attr value [] f room p q r = record { more = omega arith; fit = refl }
wishes_fit words id attr value (w ∷ ws) f room p q r =
    let known : ℕ = length words in
    let e : Expanded PreferenceOf = preference_of words w f in
    let one : Fits (preference_fits known) (count f) e = preference_of_fits words w f room in
    let rest : Expanded (List ActionOf) = wishes_actions words id attr value ws e.names in
    let here : action_fits known (count e.names) (makes id attr value e.value) ≡ true =
    both-true (atom_stays known (count f) (count e.names) id one.more p) (both-true (value_stays known (count f) (count e.names) attr one.more q) (both-true (value_stays known (count f) (count e.names) value one.more r) one.fit)) in
    let more : Fits (acts_fit known) (count e.names) rest =
    wishes_fit words id attr value ws e.names room (atom_stays known (count f) (count e.names) id one.more p) (value_stays known (count f) (count e.names) attr one.more q) (value_stays known (count f) (count e.names) value one.more r) in
    record { more = omega (arith, one.more, more.more); fit = both-true (action_stays known (count e.names) (count rest.names) (makes id attr value e.value) more.more here) more.fit }

wished_fit : (words : Texts) (id : Atom) (attr value : ValueOf) (ws : List WishTree) (f : Fresh) → 0 < length words
    → atom_fits (length words) (count f) id ≡ true → value_fits (length words) (count f) attr ≡ true → value_fits (length words) (count f) value ≡ true
    → Fits (acts_fit (length words)) (count f) (wished_actions words id attr value ws f)
wished_fit words id attr value [] f room p q r = record { more = omega arith; fit = both-true (both-true p (both-true q (both-true r refl))) refl }
wished_fit words id attr value (w ∷ ws) f room p q r = wishes_fit words id attr value (w ∷ ws) f room p q r

items_fit : (words : Texts) (id : Atom) (attr : ValueOf) (items : List ItemTree) (f : Fresh) → 0 < length words
    → atom_fits (length words) (count f) id ≡ true → value_fits (length words) (count f) attr ≡ true → Fits (acts_fit (length words)) (count f) (items_actions words id attr items f)
items_fit words id attr [] f room p q = record { more = omega arith; fit = refl }
items_fit words id attr (i ∷ items) f room p q =
    let known : ℕ = length words in
    let v : Expanded ValueOf = value_of i.value words f in
    let one : Fits (value_fits known) (count f) v = value_of_fits i.value words f room in
    let e : Expanded (List ActionOf) = wished_actions words id attr v.value i.wishes v.names in
    let p2 : atom_fits known (count v.names) id ≡ true = atom_stays known (count f) (count v.names) id one.more p in
    let q2 : value_fits known (count v.names) attr ≡ true = value_stays known (count f) (count v.names) attr one.more q in
    let two : Fits (acts_fit known) (count v.names) e = wished_fit words id attr v.value i.wishes v.names room p2 q2 one.fit in
    let rest : Expanded (List ActionOf) = items_actions words id attr items e.names in
    let more : Fits (acts_fit known) (count e.names) rest = items_fit words id attr items e.names room (atom_stays known (count v.names) (count e.names) id two.more p2) (value_stays known (count v.names) (count e.names) attr two.more q2) in
    let both : (count v.names ≤ count rest.names) × (acts_fit known (count rest.names) (e.value ++ rest.value) ≡ true) = behind_fit known (count v.names) e rest two more in
    record { more = omega (arith, one.more, both.0); fit = both.1 }

path_fits : (words : Texts) (id : Atom) (attribute : Term) (path : List Term) (items : List ItemTree) (f : Fresh) → 0 < length words
    → atom_fits (length words) (count f) id ≡ true → Fits (acts_fit (length words)) (count f) (action_path words id attribute path items f)
path_fits words id attribute [] items f room p =
    let known : ℕ = length words in
    let e : Expanded ValueOf = value_of attribute words f in
    let one : Fits (value_fits known) (count f) e = value_of_fits attribute words f room in
    let more : Fits (acts_fit known) (count e.names) (items_actions words id e.value items e.names) = items_fit words id e.value items e.names room (atom_stays known (count f) (count e.names) id one.more p) one.fit in
    record { more = omega (arith, one.more, more.more); fit = more.fit }
path_fits words id attribute (next ∷ path) items f room p =
    let known : ℕ = length words in
    let e : Expanded ValueOf = value_of attribute words f in
    let one : Fits (value_fits known) (count f) e = value_of_fits attribute words f room in
    let v : Expanded Atom = fresh_variable e.names in
    let two : Fits (atom_fits known) (count e.names) v = fresh_fits words e.names in
    let rest : Expanded (List ActionOf) = action_path words v.value next path items v.names in
    let more : Fits (acts_fit known) (count v.names) rest = path_fits words v.value next path items v.names room two.fit in
    let far : count f ≤ count v.names = omega (arith, one.more, two.more) in
    let here : action_fits known (count v.names) (makes id e.value (atom_value v.value) accepts) ≡ true =
    both-true (atom_stays known (count f) (count v.names) id far p) (both-true (value_stays known (count e.names) (count v.names) e.value two.more one.fit) (both-true two.fit refl)) in
    record { more = omega (arith, far, more.more); fit = both-true (action_stays known (count v.names) (count rest.names) (makes id e.value (atom_value v.value) accepts) more.more here) more.fit }

makes_fit : (words : Texts) (id : Atom) (ms : List AttributeMake) (f : Fresh) → 0 < length words
    → atom_fits (length words) (count f) id ≡ true → Fits (acts_fit (length words)) (count f) (makes_actions words id ms f)
makes_fit words id [] f room p = record { more = omega arith; fit = refl }
makes_fit words id (m ∷ ms) f room p =
    let known : ℕ = length words in
    let e : Expanded (List ActionOf) = action_path words id m.attribute m.path (m.item ∷ m.items) f in
    let one : Fits (acts_fit known) (count f) e = path_fits words id m.attribute m.path (m.item ∷ m.items) f room p in
    let rest : Expanded (List ActionOf) = makes_actions words id ms e.names in
    let more : Fits (acts_fit known) (count e.names) rest = makes_fit words id ms e.names room (atom_stays known (count f) (count e.names) id one.more p) in
    let both : (count f ≤ count rest.names) × (acts_fit known (count rest.names) (e.value ++ rest.value) ≡ true) = behind_fit known (count f) e rest one more in
    record { more = both.0; fit = both.1 }

action_of_fits : (words : Texts) (a : ActionTree) (f : Fresh) → 0 < length words → Fits (acts_fit (length words)) (count f) (action_of words a f)
action_of_fits words (making m) f room =
    let known : ℕ = length words in
    let e : Expanded Atom = atom_of words (a_variable m.variable) f in
    let one : Fits (atom_fits known) (count f) e = atom_of_fits words (a_variable m.variable) f room in
    let more : Fits (acts_fit known) (count e.names) (makes_actions words e.value (m.make ∷ m.makes) e.names) = makes_fit words e.value (m.make ∷ m.makes) e.names room one.fit in
    record { more = omega (arith, one.more, more.more); fit = more.fit }
action_of_fits words (writing ts) f room =
    let e : Expanded ValuesOf = values_of ts words f in
    let one : Fits (values_fit (length words)) (count f) e = values_of_fit ts words f room in
    record { more = one.more; fit = both-true (list_fits (length words) (count e.names) e.value one.fit) refl }
action_of_fits words halting f room = record { more = omega arith; fit = refl }

pub actions_of_fit : (words : Texts) (trees : List ActionTree) (f : Fresh) → 0 < length words → Fits (acts_fit (length words)) (count f) (actions_of words trees f)
actions_of_fit words [] f room = record { more = omega arith; fit = refl }
actions_of_fit words (a ∷ trees) f room =
    let known : ℕ = length words in
    let e : Expanded (List ActionOf) = action_of words a f in
    let one : Fits (acts_fit known) (count f) e = action_of_fits words a f room in
    let rest : Expanded (List ActionOf) = actions_of words trees e.names in
    let more : Fits (acts_fit known) (count e.names) rest = actions_of_fit words trees e.names room in
    let both : (count f ≤ count rest.names) × (acts_fit known (count rest.names) (e.value ++ rest.value) ≡ true) = behind_fit known (count f) e rest one more in
    record { more = both.0; fit = both.1 }
