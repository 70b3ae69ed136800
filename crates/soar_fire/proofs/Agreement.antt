-- The code stops at the first limit; the definition goes on, and the first limit that it notes is that one.
use Rattle.std.proofs.Common.{◌≡◌, ℕ, ◌+◌, suc, Bool, true, false, cond, List, [], ◌∷◌, ◌++◌, length, Option, Some, None, Result, Ok, Err, refl, sym, ap, subst, ◌∙◌}
use Rattle.std.specs.Prelude.{nat_lt, if◌then◌else◌}
use Rattle.soar_sym.specs.Letters.{last_of, with_last}
use Rattle.soar_sym.specs.Words.{Texts, with_text}
use Rattle.soar_sym.specs.declared.symbol.Sym.{Sym}
use Rattle.soar_sym.specs.declared.symbol.Sym.TheVariants.{Ident}
use Rattle.soar_rule.specs.declared.cond.Atom.{Atom}
use Rattle.soar_rule.specs.declared.cond.Atom.TheVariants.{Const, Var}
use Rattle.soar_rule.specs.Productions.{ValueOf, atom_value, call_value, ValuesOf, no_values, value_and, values_of, PreferenceOf, ActionOf, makes, writes, halts}
use Rattle.defs_text.specs.Numbered.{word_in}
use Rattle.defs_match.specs.Testing.{symbol_of}
use Rattle.defs_soar.specs.declared.firing.DropCause.{DropCause}
use Rattle.defs_soar.specs.declared.firing.DropCause.TheVariants as cause
use Rattle.defs_soar.specs.declared.firing.Made.{Made}
use Rattle.defs_soar.specs.declared.goal.Goal.{Goal}
use Rattle.defs_soar.specs.declared.limit.Which.{Which}
use Rattle.defs_soar.specs.declared.limit.Which.TheVariants as which
use Rattle.defs_soar.specs.declared.preference.Wish.{Wish}
use Rattle.defs_soar.specs.Functions.{Computed, gives, spells, fails, computed, joined, plain_text}
use Rattle.defs_soar.specs.Limits.{Total, identifiers_to, words_to, first_passed, passed_by, or_limit}
use Rattle.defs_soar.specs.Firing as meaning
use Rattle.defs_soar.specs.Naming.{Naming, Evaluated, then_with, done, evaluated, evaluated_all, as_evaluated, atom_of_action, variable_value}
use Rattle.defs_soar.specs.Naming as meaning_of_naming
use Rattle.defs_soar.specs.Firing.{MadeSoFar, evaluated_referent, referent_of, kind_of, judged, wished, values_of_list, texts_of}
use Rattle.defs_soar.specs.Values.{is_identifier}
use Rattle.soar_fire.specs.ActionOutcomes.{referent_outcome, identifier_only, wish_outcome, or_dropped, with_wish, with_writing, action_outcome, actions_outcome}
use Rattle.soar_fire.specs.Outcomes.{Standing, standing, Outcome, reached, stopped, then_on, found, new_identifier, bound_or_new, atom_outcome, word_of_text, computed_outcome, call_outcome, value_outcome, values_outcome}

-- ---- limits

passed_alone : (x : Option Which) → or_limit x None ≡ x
passed_alone None = refl
passed_alone (Some w) = refl

-- one draw more, where no limit was passed
passed_next : (totals : List Total) (d : Total) → first_passed totals ≡ None → first_passed (totals ++ d ∷ []) ≡ passed_by d
passed_next [] d h = passed_alone (passed_by d)
passed_next (x ∷ totals) d h = by (passed_by x) h (passed_next totals d)
  where
    by : (o : Option Which) → or_limit o (first_passed totals) ≡ None → (first_passed totals ≡ None → first_passed (totals ++ d ∷ []) ≡ passed_by d) → or_limit o (first_passed (totals ++ d ∷ [])) ≡ passed_by d
    by None none next = next none
    by (Some w) none next = absurd (cc)

-- the first limit that was passed stays the first
passed_kept : (totals : List Total) (d : Total) (w : Which) → first_passed totals ≡ Some w → first_passed (totals ++ d ∷ []) ≡ Some w
passed_kept [] d w h = absurd (cc)
passed_kept (x ∷ totals) d w h = by (passed_by x) h (passed_kept totals d w)
  where
    by : (o : Option Which) → or_limit o (first_passed totals) ≡ Some w → (first_passed totals ≡ Some w → first_passed (totals ++ d ∷ []) ≡ Some w) → or_limit o (first_passed (totals ++ d ∷ [])) ≡ Some w
    by None some kept = kept some
    by (Some v) some kept = some

-- ---- a step after a limit

keeps_then : {A B : Type 0} (e : Evaluated A) (f : A → Naming → Evaluated B) (w : Which) → first_passed e.naming.totals ≡ Some w → ((a : A) (n : Naming) → first_passed n.totals ≡ Some w → first_passed (f a n).naming.totals ≡ Some w) → first_passed (then_with e f).naming.totals ≡ Some w
keeps_then {A = A} e f w h kept = by (e.value)
  where
    by : (r : Result A DropCause) → first_passed (then_with (record e { value = r }) f).naming.totals ≡ Some w
    by (Ok a) = kept a e.naming h
    by (Err why) = h

keeps_variable : (v : ℕ) (n : Naming) (o : Option Sym) (w : Which) → first_passed n.totals ≡ Some w → first_passed (variable_value v n o).naming.totals ≡ Some w
keeps_variable v n (Some s) w h = h
keeps_variable v n None w h = passed_kept n.totals _ w h

keeps_atom : (a : Atom) (n : Naming) (w : Which) → first_passed n.totals ≡ Some w → first_passed (atom_of_action a n).naming.totals ≡ Some w
keeps_atom (Const s) n w h = h
keeps_atom (Var v) n w h = keeps_variable v n (symbol_of v n.bindings) w h

keeps_computed : (n : Naming) (c : Computed) (w : Which) → first_passed n.totals ≡ Some w → first_passed (as_evaluated n c).naming.totals ≡ Some w
keeps_computed n (gives s) w h = h
keeps_computed n (spells text) w h = passed_kept n.totals _ w h
keeps_computed n (fails e) w h = h

mutual
  keeps_value : (v : ValueOf) (n : Naming) (w : Which) → first_passed n.totals ≡ Some w → first_passed (evaluated v n).naming.totals ≡ Some w
  keeps_value (atom_value a) n w h = keeps_atom a n w h
  keeps_value (call_value f values) n w h =
      keeps_then (evaluated_all values n) (λ symbols after. as_evaluated after (computed after.words f symbols)) w (keeps_values values n w h) (λ symbols after k. keeps_computed after (computed after.words f symbols) w k)

  keeps_values : (vs : ValuesOf) (n : Naming) (w : Which) → first_passed n.totals ≡ Some w → first_passed (evaluated_all vs n).naming.totals ≡ Some w
  keeps_values no_values n w h = h
  keeps_values (value_and v values) n w h =
      keeps_then (evaluated v n) (λ s after. then_with (evaluated_all values after) (λ symbols last. done (s ∷ symbols) last)) w (keeps_value v n w h)
      (λ s after k. keeps_then (evaluated_all values after) (λ symbols last. done (s ∷ symbols) last) w (keeps_values values after w k) (λ symbols last m. m))

keeps_referent : (o : Option ValueOf) (n : Naming) (w : Which) → first_passed n.totals ≡ Some w → first_passed (evaluated_referent o n).naming.totals ≡ Some w
keeps_referent None n w h = h
keeps_referent (Some v) n w h = keeps_then (evaluated v n) (λ s after. done (Some s) after) w (keeps_value v n w h) (λ s after k. k)

-- the steps of a wish, from the last to the first
abbrev judging : List Goal → PreferenceOf → Sym → Sym → Sym → Option Sym → Naming → Evaluated Wish
judging goals p i a v r n = record { value = judged goals (record { id = i; attr = a; value = v; kind = kind_of p r; referent = r }); naming = n }

abbrev with_value : List Goal → PreferenceOf → Sym → Sym → Sym → Naming → Evaluated Wish
with_value goals p i a v n = then_with (evaluated_referent (referent_of p) n) (judging goals p i a v)

abbrev with_attr : List Goal → ValueOf → PreferenceOf → Sym → Sym → Naming → Evaluated Wish
with_attr goals value p i a n = then_with (evaluated value n) (with_value goals p i a)

abbrev with_id : List Goal → ValueOf → ValueOf → PreferenceOf → Sym → Naming → Evaluated Wish
with_id goals attr value p i n = then_with (evaluated attr n) (with_attr goals value p i)

abbrev if_identifier : Sym → Naming → Evaluated Sym
if_identifier s n = record { value = if is_identifier s then Ok s else Err cause.NotAnIdentifier; naming = n }

keeps_with_value : (goals : List Goal) (p : PreferenceOf) (i a v : Sym) (n : Naming) (w : Which) → first_passed n.totals ≡ Some w → first_passed (with_value goals p i a v n).naming.totals ≡ Some w
keeps_with_value goals p i a v n w h = keeps_then (evaluated_referent (referent_of p) n) (judging goals p i a v) w (keeps_referent (referent_of p) n w h) (λ r last k. k)

keeps_with_attr : (goals : List Goal) (value : ValueOf) (p : PreferenceOf) (i a : Sym) (n : Naming) (w : Which) → first_passed n.totals ≡ Some w → first_passed (with_attr goals value p i a n).naming.totals ≡ Some w
keeps_with_attr goals value p i a n w h = keeps_then (evaluated value n) (with_value goals p i a) w (keeps_value value n w h) (λ v last k. keeps_with_value goals p i a v last w k)

keeps_with_id : (goals : List Goal) (attr value : ValueOf) (p : PreferenceOf) (i : Sym) (n : Naming) (w : Which) → first_passed n.totals ≡ Some w → first_passed (with_id goals attr value p i n).naming.totals ≡ Some w
keeps_with_id goals attr value p i n w h = keeps_then (evaluated attr n) (with_attr goals value p i) w (keeps_value attr n w h) (λ a last k. keeps_with_attr goals value p i a last w k)

keeps_wish : (goals : List Goal) (id : Atom) (attr value : ValueOf) (p : PreferenceOf) (n : Naming) (w : Which) → first_passed n.totals ≡ Some w → first_passed (wished goals id attr value p n).naming.totals ≡ Some w
keeps_wish goals id attr value p n w h =
    keeps_then (then_with (atom_of_action id n) if_identifier) (with_id goals attr value p) w
    (keeps_then (atom_of_action id n) if_identifier w (keeps_atom id n w h) (λ s last k. k))
    (λ i last k. keeps_with_id goals attr value p i last w k)

keeps_with_wish : (place : ℕ) (made : MadeSoFar) (e : Evaluated Wish) (w : Which) → first_passed e.naming.totals ≡ Some w → first_passed (meaning.with_wish place made e).naming.totals ≡ Some w
keeps_with_wish place made e w h = by (e.value)
  where
    by : (r : Result Wish DropCause) → first_passed (meaning.with_wish place made (record e { value = r })).naming.totals ≡ Some w
    by (Ok a) = h
    by (Err why) = h

keeps_with_writing : (place : ℕ) (made : MadeSoFar) (e : Evaluated (List Sym)) (w : Which) → first_passed e.naming.totals ≡ Some w → first_passed (meaning.with_writing place made e).naming.totals ≡ Some w
keeps_with_writing place made e w h = by (e.value)
  where
    by : (r : Result (List Sym) DropCause) → first_passed (meaning.with_writing place made (record e { value = r })).naming.totals ≡ Some w
    by (Ok a) = h
    by (Err why) = h

keeps_action : (goals : List Goal) (place : ℕ) (a : ActionOf) (made : MadeSoFar) (w : Which) → first_passed made.naming.totals ≡ Some w → first_passed (meaning.with_action goals place a made).naming.totals ≡ Some w
keeps_action goals place (makes id attr value p) made w h = keeps_with_wish place made (wished goals id attr value p made.naming) w (keeps_wish goals id attr value p made.naming w h)
keeps_action goals place (writes values) made w h = keeps_with_writing place made (evaluated_all (values_of_list values) made.naming) w (keeps_values (values_of_list values) made.naming w h)
keeps_action goals place halts made w h = h

keeps_actions : (goals : List Goal) (place : ℕ) (actions : List ActionOf) (made : MadeSoFar) (w : Which) → first_passed made.naming.totals ≡ Some w → first_passed (meaning.with_actions goals place actions made).naming.totals ≡ Some w
keeps_actions goals place [] made w h = h
keeps_actions goals place (a ∷ actions) made w h = keeps_actions goals (suc place) actions (meaning.with_action goals place a made) w (keeps_action goals place a made w h)

-- ---- steps within the limits

abbrev pub naming_at : Standing → List Sym → List Total → Naming
naming_at s vars totals = record { bindings = s.bindings; words = s.words; letters = s.letters; vars = vars; totals = totals }

-- what the definition comes to where the code comes to the outcome
abbrev Agrees : {A : Type 0} → List Sym → Outcome A → Evaluated A → Type 0
Agrees vars (stopped w) e = first_passed e.naming.totals ≡ Some w
Agrees vars (reached r s) e = (totals : List Total) × (first_passed totals ≡ None) × (e ≡ record { value = r; naming = naming_at s vars totals })

agrees_then : {A B : Type 0} (vars : List Sym) (o : Outcome A) (e : Evaluated A) (g : A → Standing → Outcome B) (f : A → Naming → Evaluated B)
    → Agrees vars o e
    → ((a : A) (s : Standing) (totals : List Total) → first_passed totals ≡ None → Agrees vars (g a s) (f a (naming_at s vars totals)))
    → ((w : Which) (a : A) (n : Naming) → first_passed n.totals ≡ Some w → first_passed (f a n).naming.totals ≡ Some w)
    → Agrees vars (then_on o g) (then_with e f)
agrees_then vars (stopped w) e g f h next kept = keeps_then e f w h (kept w)
agrees_then vars (reached (Ok a) s) e g f h next kept = subst (λ x. Agrees vars (g a s) (then_with x f)) (sym h.2) (next a s h.0 h.1)
agrees_then vars (reached (Err why) s) e g f h next kept = (h.0, h.1, ap (λ x. then_with x f) h.2)

agrees_new : (vars : List Sym) (v letter : ℕ) (s : Standing) (totals : List Total) → first_passed totals ≡ None → Agrees vars (new_identifier v letter s) (meaning_of_naming.new_identifier v letter (naming_at s vars totals))
agrees_new vars v letter s totals h = by (nat_lt 4294967295 (last_of s.letters letter + 1)) refl
  where
    number : ℕ
    number = last_of s.letters letter + 1

    by : (b : Bool) → nat_lt 4294967295 number ≡ b
        → Agrees vars (cond b (stopped which.Identifiers) (found (Ident letter number) (standing (s.bindings ++ (v, Ident letter number) ∷ []) s.words (with_last s.letters letter number)))) (meaning_of_naming.new_identifier v letter (naming_at s vars totals))
    by true over = passed_next totals (identifiers_to number) h ∙ ap (λ b. cond b (Some which.Identifiers) None) over
    by false within = (totals ++ identifiers_to number ∷ [], passed_next totals (identifiers_to number) h ∙ ap (λ b. cond b (Some which.Identifiers) None) within, refl)

agrees_bound : (vars : List Sym) (v : ℕ) (s : Standing) (totals : List Total) (o : Option Sym) → first_passed totals ≡ None → Agrees vars (bound_or_new vars v s o) (variable_value v (naming_at s vars totals) o)
agrees_bound vars v s totals (Some x) h = (totals, h, refl)
agrees_bound vars v s totals None h = agrees_new vars v _ s totals h

agrees_atom : (vars : List Sym) (a : Atom) (s : Standing) (totals : List Total) → first_passed totals ≡ None → Agrees vars (atom_outcome vars a s) (atom_of_action a (naming_at s vars totals))
agrees_atom vars (Const x) s totals h = (totals, h, refl)
agrees_atom vars (Var v) s totals h = agrees_bound vars v s totals (symbol_of v s.bindings) h

agrees_word : (vars : List Sym) (text : List ℕ) (s : Standing) (totals : List Total) → first_passed totals ≡ None → Agrees vars (word_of_text text s) (as_evaluated (naming_at s vars totals) (spells text))
agrees_word vars text s totals h = by (nat_lt 4294967295 (length (with_text s.words text))) refl
  where
    by : (b : Bool) → nat_lt 4294967295 (length (with_text s.words text)) ≡ b
        → Agrees vars (cond b (stopped which.Words) (found (word_in (with_text s.words text) text) (standing s.bindings (with_text s.words text) s.letters))) (as_evaluated (naming_at s vars totals) (spells text))
    by true over = passed_next totals (words_to (length (with_text s.words text))) h ∙ ap (λ b. cond b (Some which.Words) None) over
    by false within = (totals ++ words_to (length (with_text s.words text)) ∷ [], passed_next totals (words_to (length (with_text s.words text))) h ∙ ap (λ b. cond b (Some which.Words) None) within, refl)

agrees_computed : (vars : List Sym) (c : Computed) (s : Standing) (totals : List Total) → first_passed totals ≡ None → Agrees vars (computed_outcome s c) (as_evaluated (naming_at s vars totals) c)
agrees_computed vars (gives x) s totals h = (totals, h, refl)
agrees_computed vars (spells text) s totals h = agrees_word vars text s totals h
agrees_computed vars (fails why) s totals h = (totals, h, refl)

mutual
  agrees_value : (vars : List Sym) (v : ValueOf) (s : Standing) (totals : List Total) → first_passed totals ≡ None → Agrees vars (value_outcome vars v s) (evaluated v (naming_at s vars totals))
  agrees_value vars (atom_value a) s totals h = agrees_atom vars a s totals h
  agrees_value vars (call_value f values) s totals h =
      agrees_then vars (values_outcome vars values s) (evaluated_all values (naming_at s vars totals)) (call_outcome f) (λ symbols after. as_evaluated after (computed after.words f symbols))
      (agrees_values vars values s totals h)
      (λ symbols s1 d1 h1. agrees_computed vars (computed s1.words f symbols) s1 d1 h1)
      (λ w symbols after k. keeps_computed after (computed after.words f symbols) w k)

  agrees_values : (vars : List Sym) (vs : ValuesOf) (s : Standing) (totals : List Total) → first_passed totals ≡ None → Agrees vars (values_outcome vars vs s) (evaluated_all vs (naming_at s vars totals))
  agrees_values vars no_values s totals h = (totals, h, refl)
  agrees_values vars (value_and v values) s totals h =
      agrees_then vars (value_outcome vars v s) (evaluated v (naming_at s vars totals))
      (λ symbol after. then_on (values_outcome vars values after) (λ symbols last. found (symbol ∷ symbols) last))
      (λ symbol after. then_with (evaluated_all values after) (λ symbols last. done (symbol ∷ symbols) last))
      (agrees_value vars v s totals h)
      (λ symbol s1 d1 h1. agrees_then vars (values_outcome vars values s1) (evaluated_all values (naming_at s1 vars d1)) (λ symbols last. found (symbol ∷ symbols) last) (λ symbols last. done (symbol ∷ symbols) last)
      (agrees_values vars values s1 d1 h1) (λ symbols s2 d2 h2. (d2, h2, refl)) (λ w symbols last k. k))
      (λ w symbol after k. keeps_then (evaluated_all values after) (λ symbols last. done (symbol ∷ symbols) last) w (keeps_values values after w k) (λ symbols last m. m))

agrees_referent : (vars : List Sym) (o : Option ValueOf) (s : Standing) (totals : List Total) → first_passed totals ≡ None → Agrees vars (referent_outcome vars o s) (evaluated_referent o (naming_at s vars totals))
agrees_referent vars None s totals h = (totals, h, refl)
agrees_referent vars (Some v) s totals h =
    agrees_then vars (value_outcome vars v s) (evaluated v (naming_at s vars totals)) (λ symbol after. found (Some symbol) after) (λ symbol after. done (Some symbol) after)
    (agrees_value vars v s totals h) (λ symbol s1 d1 h1. (d1, h1, refl)) (λ w symbol after k. k)

-- the same steps as outcomes
abbrev judging_outcome : List Goal → PreferenceOf → Sym → Sym → Sym → Option Sym → Standing → Outcome Wish
judging_outcome goals p i a v r s = reached (judged goals (record { id = i; attr = a; value = v; kind = kind_of p r; referent = r })) s

abbrev value_then : List Sym → List Goal → PreferenceOf → Sym → Sym → Sym → Standing → Outcome Wish
value_then vars goals p i a v s = then_on (referent_outcome vars (referent_of p) s) (judging_outcome goals p i a v)

abbrev attr_then : List Sym → List Goal → ValueOf → PreferenceOf → Sym → Sym → Standing → Outcome Wish
attr_then vars goals value p i a s = then_on (value_outcome vars value s) (value_then vars goals p i a)

abbrev id_then : List Sym → List Goal → ValueOf → ValueOf → PreferenceOf → Sym → Standing → Outcome Wish
id_then vars goals attr value p i s = then_on (value_outcome vars attr s) (attr_then vars goals value p i)

agrees_with_value : (vars : List Sym) (goals : List Goal) (p : PreferenceOf) (i a v : Sym) (s : Standing) (totals : List Total) → first_passed totals ≡ None
    → Agrees vars (value_then vars goals p i a v s) (with_value goals p i a v (naming_at s vars totals))
agrees_with_value vars goals p i a v s totals h =
    agrees_then vars (referent_outcome vars (referent_of p) s) (evaluated_referent (referent_of p) (naming_at s vars totals)) (judging_outcome goals p i a v) (judging goals p i a v)
    (agrees_referent vars (referent_of p) s totals h) (λ r last d k. (d, k, refl)) (λ w r last k. k)

agrees_with_attr : (vars : List Sym) (goals : List Goal) (value : ValueOf) (p : PreferenceOf) (i a : Sym) (s : Standing) (totals : List Total) → first_passed totals ≡ None
    → Agrees vars (attr_then vars goals value p i a s) (with_attr goals value p i a (naming_at s vars totals))
agrees_with_attr vars goals value p i a s totals h =
    agrees_then vars (value_outcome vars value s) (evaluated value (naming_at s vars totals)) (value_then vars goals p i a) (with_value goals p i a)
    (agrees_value vars value s totals h) (λ v last d k. agrees_with_value vars goals p i a v last d k) (λ w v last k. keeps_with_value goals p i a v last w k)

agrees_with_id : (vars : List Sym) (goals : List Goal) (attr value : ValueOf) (p : PreferenceOf) (i : Sym) (s : Standing) (totals : List Total) → first_passed totals ≡ None
    → Agrees vars (id_then vars goals attr value p i s) (with_id goals attr value p i (naming_at s vars totals))
agrees_with_id vars goals attr value p i s totals h =
    agrees_then vars (value_outcome vars attr s) (evaluated attr (naming_at s vars totals)) (attr_then vars goals value p i) (with_attr goals value p i)
    (agrees_value vars attr s totals h) (λ a last d k. agrees_with_attr vars goals value p i a last d k) (λ w a last k. keeps_with_attr goals value p i a last w k)

agrees_wish : (vars : List Sym) (goals : List Goal) (id : Atom) (attr value : ValueOf) (p : PreferenceOf) (s : Standing) (totals : List Total) → first_passed totals ≡ None
    → Agrees vars (wish_outcome vars goals id attr value p s) (wished goals id attr value p (naming_at s vars totals))
agrees_wish vars goals id attr value p s totals h =
    agrees_then vars (then_on (atom_outcome vars id s) identifier_only) (then_with (atom_of_action id (naming_at s vars totals)) if_identifier) (id_then vars goals attr value p) (with_id goals attr value p)
    (agrees_then vars (atom_outcome vars id s) (atom_of_action id (naming_at s vars totals)) identifier_only if_identifier (agrees_atom vars id s totals h) (λ symbol last d k. (d, k, refl)) (λ w symbol last k. k))
    (λ i last d k. agrees_with_id vars goals attr value p i last d k) (λ w i last k. keeps_with_id goals attr value p i last w k)

-- ---- actions

abbrev pub made_at : Made → Naming → MadeSoFar
made_at made n = record { wishes = made.wishes; text = made.texts; halted = made.halted; dropped = made.dropped; naming = n }

abbrev pub AgreesMade : List Sym → Outcome Made → MadeSoFar → Type 0
AgreesMade vars (stopped w) m = first_passed m.naming.totals ≡ Some w
AgreesMade vars (reached (Ok made) s) m = (totals : List Total) × (first_passed totals ≡ None) × (m ≡ made_at made (naming_at s vars totals))
AgreesMade vars (reached (Err why) s) m = ⊥

agrees_or_wish : (vars : List Sym) (place : ℕ) (made : Made) (n : Naming) (o : Outcome Wish) (e : Evaluated Wish) → Agrees vars o e → AgreesMade vars (or_dropped place made (with_wish made) o) (meaning.with_wish place (made_at made n) e)
agrees_or_wish vars place made n (stopped w) e h = keeps_with_wish place (made_at made n) e w h
agrees_or_wish vars place made n (reached (Ok a) s) e h = (h.0, h.1, ap (meaning.with_wish place (made_at made n)) h.2)
agrees_or_wish vars place made n (reached (Err why) s) e h = (h.0, h.1, ap (meaning.with_wish place (made_at made n)) h.2)

texts_are : (words : Texts) (symbols : List Sym) → texts_of words symbols ≡ joined words symbols
texts_are words [] = refl
texts_are words (s ∷ symbols) = ap (λ rest. plain_text words s ++ rest) (texts_are words symbols)

agrees_or_writing : (vars : List Sym) (place : ℕ) (made : Made) (n : Naming) (o : Outcome (List Sym)) (e : Evaluated (List Sym)) → Agrees vars o e → AgreesMade vars (or_dropped place made (with_writing made) o) (meaning.with_writing place (made_at made n) e)
agrees_or_writing vars place made n (stopped w) e h = keeps_with_writing place (made_at made n) e w h
agrees_or_writing vars place made n (reached (Ok symbols) s) e h =
    (h.0, h.1, ap (meaning.with_writing place (made_at made n)) h.2 ∙ ap (λ text. made_at (record made { texts = made.texts ++ text }) (naming_at s vars h.0)) (texts_are s.words symbols))
agrees_or_writing vars place made n (reached (Err why) s) e h = (h.0, h.1, ap (meaning.with_writing place (made_at made n)) h.2)

values_are : (values : List ValueOf) → values_of_list values ≡ values_of values
values_are [] = refl
values_are (v ∷ values) = ap (value_and v) (values_are values)

agrees_action : (vars : List Sym) (goals : List Goal) (place : ℕ) (a : ActionOf) (made : Made) (s : Standing) (totals : List Total) → first_passed totals ≡ None
    → AgreesMade vars (action_outcome vars goals place a made s) (meaning.with_action goals place a (made_at made (naming_at s vars totals)))
agrees_action vars goals place (makes id attr value p) made s totals h =
    agrees_or_wish vars place made (naming_at s vars totals) (wish_outcome vars goals id attr value p s) (wished goals id attr value p (naming_at s vars totals)) (agrees_wish vars goals id attr value p s totals h)
agrees_action vars goals place (writes values) made s totals h =
    subst (λ vs. AgreesMade vars (or_dropped place made (with_writing made) (values_outcome vars vs s)) (meaning.with_action goals place (writes values) (made_at made (naming_at s vars totals)))) (values_are values)
    (agrees_or_writing vars place made (naming_at s vars totals) (values_outcome vars (values_of_list values) s) (evaluated_all (values_of_list values) (naming_at s vars totals)) (agrees_values vars (values_of_list values) s totals h))
agrees_action vars goals place halts made s totals h = (totals, h, refl)

pub agrees_actions : (vars : List Sym) (goals : List Goal) (place : ℕ) (actions : List ActionOf) (made : Made) (s : Standing) (totals : List Total) → first_passed totals ≡ None
    → AgreesMade vars (actions_outcome vars goals place actions made s) (meaning.with_actions goals place actions (made_at made (naming_at s vars totals)))
agrees_actions vars goals place [] made s totals h = (totals, h, refl)
agrees_actions vars goals place (a ∷ actions) made s totals h =
    by (action_outcome vars goals place a made s) (agrees_action vars goals place a made s totals h) (λ later last d k. agrees_actions vars goals (suc place) actions later last d k)
  where
    by : (o : Outcome Made) → AgreesMade vars o (meaning.with_action goals place a (made_at made (naming_at s vars totals)))
        → ((later : Made) (last : Standing) (d : List Total) → first_passed d ≡ None → AgreesMade vars (actions_outcome vars goals (suc place) actions later last) (meaning.with_actions goals (suc place) actions (made_at later (naming_at last vars d))))
        → AgreesMade vars (then_on o (λ later last. actions_outcome vars goals (suc place) actions later last)) (meaning.with_actions goals (suc place) actions (meaning.with_action goals place a (made_at made (naming_at s vars totals))))
    by (stopped w) is next = keeps_actions goals (suc place) actions (meaning.with_action goals place a (made_at made (naming_at s vars totals))) w is
    by (reached (Ok later) last) is next =
        subst (λ m. AgreesMade vars (actions_outcome vars goals (suc place) actions later last) (meaning.with_actions goals (suc place) actions m)) (sym is.2) (next later last is.0 is.1)
    by (reached (Err why) last) is next = absurd is
