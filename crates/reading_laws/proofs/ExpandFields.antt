-- The tree of a printed field means the field again.
use Rattle.std.specs.Prelude.{codes, if◌then◌else◌, flat_map, map, take}
use Rattle.std.proofs.Common.{◌≡◌, refl, sym, ◌∙◌, ap, ap₂, subst, true, false, [], ◌∷◌, ◌++◌, List, ℕ, suc, Bool, ◌==◌, ◌<◌, ◌≤◌, Some, None, length, nat_lt, arith}
use Rattle.std.proofs.lemmas.Bool.Decides.{nat_tests}
use Rattle.soar_sym.specs.Words.{Texts, text_of}
use Rattle.soar_sym.specs.declared.symbol.Sym.{Sym}
use Rattle.soar_sym.specs.declared.symbol.Sym.TheVariants.{Ident, Word, Int}
use Rattle.soar_rule.specs.declared.cond.Atom.{Atom}
use Rattle.soar_rule.specs.declared.cond.Atom.TheVariants.{Const, Var}
use Rattle.soar_rule.specs.declared.cond.Relation.{Relation}
use Rattle.soar_rule.specs.declared.cond.Relation.TheVariants.{Differ, Less, Greater, AtMost, AtLeast, SameKind}
use Rattle.soar_rule.specs.declared.cond.Test.{Test}
use Rattle.soar_rule.specs.declared.cond.Test.TheVariants.{Plain, Rel, OneOf}
use Rattle.soar_rule.specs.declared.cond.Field.{Field}
use Rattle.soar_rule.specs.Variables.{variables_of_atom, variables_of_test, variables_of_field}
use Rattle.defs_text.specs.Numbered.{word_in}
use Rattle.defs_read.specs.FieldExpansion.{symbol_of, atom_of, test_by, test_of, tests_of, simples_of, field_of}
use Rattle.defs_read.specs.FreshNames.{Fresh, with_name, place_of_name, Expanded, expanded, then_expand}
use Rattle.defs_read.specs.Grammar.{Simple, a_variable}
use Rattle.defs_read.specs.PrintingConditions.{Naming, bare_text}
use Rattle.defs_read.specs.Sayings.{IsWordPlaced}
use Rattle.reading_laws.specs.Lawful.{AllOf}
use Rattle.reading_laws.specs.Printable.{IsConstant, IsAtom, IsAny, IsTest, IsPrintedField, AreDistinct, met_after}
use Rattle.reading_laws.specs.TreeBack.{constant_back, name_back, single_back, sign_back, test_back, state_barred, id_test_back, tests_back, field_back, id_back}
use Rattle.reading_laws.proofs.NameLaws.{text_at, name_of, met_before, not_met, place_met, one_more, met_split, met_grows}

-- ---- the way back, from a number of names to another

-- the names of the variables, the table of the reading, and the names in the text
pub record Setting : Type 0 where
  pub n : Naming
  pub read : Texts
  pub used : Texts
  pub distinct : AreDistinct (map (bare_text n.words) n.vars)
  pub again : (s : Sym) → IsWordPlaced n.words s → word_in read (bare_text n.words s) ≡ s
  pub state : text_of n.words 0 ≡ codes "state"

abbrev pub names_of : Setting → Texts
names_of c = map (bare_text c.n.words) c.n.vars

-- so many names were met
abbrev pub with_met : Setting → ℕ → Fresh
with_met c k = record { used = c.used; names = take k (names_of c); fresh = []; next = 1 }

-- the expansion gives this, and goes on from the names that were met to those that are met with these variables
abbrev pub Back : {A : Type 0} → Setting → (Fresh → Expanded A) → A → List ℕ → Type 0
Back c e x vs = (k m : ℕ) → met_after k vs ≡ Some m → m ≤ length (names_of c) → e (with_met c k) ≡ expanded x (with_met c m)

pub back_gives : {A : Type 0} (c : Setting) (x : A) → Back c (λ f. expanded x f) x []
back_gives c x = λ k m e l. let same : k ≡ m = cc in ap (λ j. expanded x (with_met c j)) same

pub back_then : {A B : Type 0} (c : Setting) (e : Fresh → Expanded A) (x : A) (a : List ℕ) (r : A → Fresh → Expanded B) (y : B) (b : List ℕ)
    → Back c e x a → Back c (r x) y b → Back c (λ f. then_expand (e f) r) y (a ++ b)
back_then c e x a r y b first second = λ k m h l.
    let s = met_split k m a b h in
    let g = met_grows s.0 m b s.2 in
    ap (λ z. then_expand z r) (first k s.0 s.1 (omega arith)) ∙ second s.0 m s.2 l

pub back_same : {A : Type 0} (c : Setting) (e : Fresh → Expanded A) (x y : A) (a b : List ℕ) → x ≡ y → a ≡ b → Back c e x a → Back c e y b
back_same c e x y a b p q h = subst (Back c e y) q (subst (λ z. Back c e z a) p h)

-- and then something is made of it
pub back_made : {A B : Type 0} (c : Setting) (e : Fresh → Expanded A) (x : A) (a : List ℕ) (make : A → B) → Back c e x a → Back c (λ f. then_expand (e f) (λ z g. expanded (make z) g)) (make x) a
back_made c e x a make h = λ k m g l. ap (λ z. then_expand z (λ z g. expanded (make z) g)) (h k m g l)

-- ---- variables

-- what stays of a name that is met, and what is new of the next
met_already : (c : Setting) (v k : ℕ) → v < k → k ≤ length (names_of c) → with_name (text_at (names_of c) v) (with_met c k) ≡ with_met c k
met_already c v k h l =
    ap (λ t. if t then with_met c k else record { used = c.used; names = take k (names_of c) ++ (text_at (names_of c) v ∷ []); fresh = []; next = 1 }) (met_before (names_of c) v k h l)

met_next : (c : Setting) (k : ℕ) → k < length (names_of c) → with_name (text_at (names_of c) k) (with_met c k) ≡ with_met c (suc k)
met_next c k h =
    ap (λ t. if t then with_met c k else record { used = c.used; names = take k (names_of c) ++ (text_at (names_of c) k ∷ []); fresh = []; next = 1 }) (not_met (names_of c) k c.distinct h)
    ∙ ap (λ l. let f : Fresh = record { used = c.used; names = l; fresh = []; next = 1 } in f) (one_more (names_of c) k h)

named_so : (c : Setting) (v j : ℕ) (f : Fresh) → f ≡ with_met c j → v < j → j ≤ length (names_of c)
    → expanded (Var (place_of_name f.names (text_at (names_of c) v))) f ≡ expanded (Var v) (with_met c j)
named_so c v j f e h l =
    ap (λ g. expanded (Var (place_of_name g.names (text_at (names_of c) v))) g) e ∙ ap (λ p. expanded (Var p) (with_met c j)) (place_met (names_of c) v j c.distinct h l)

-- a name, where it was met or is the next
named_again : (c : Setting) (v k m : ℕ) → met_after k (v ∷ []) ≡ Some m → m ≤ length (names_of c)
    → atom_of c.read (a_variable (text_at (names_of c) v)) (with_met c k) ≡ expanded (Var v) (with_met c m)
named_again c v k m e l = go (nat_lt v k) (v == k) refl refl e
  where
    go : (s t : Bool) → nat_lt v k ≡ s → (v == k) ≡ t → (if s then Some k else if t then Some (suc k) else None) ≡ Some m
        → atom_of c.read (a_variable (text_at (names_of c) v)) (with_met c k) ≡ expanded (Var v) (with_met c m)
    go true t f g h =
        let same : k ≡ m = cc in let below : v < k = grind (arith, nat_tests) in
        named_so c v k (with_name (text_at (names_of c) v) (with_met c k)) (met_already c v k below (omega arith)) below (omega arith) ∙ ap (λ j. expanded (Var v) (with_met c j)) same
    go false true f g h =
        let same : suc k ≡ m = cc in let equal : v ≡ k = grind (arith, nat_tests) in
        named_so c v (suc k) (with_name (text_at (names_of c) v) (with_met c k)) (ap (λ j. with_name (text_at (names_of c) j) (with_met c k)) equal ∙ met_next c k (omega arith)) (omega arith) (omega arith)
        ∙ ap (λ j. expanded (Var v) (with_met c j)) same
    go false false f g h = absurd (cc)

below_met : (v k m : ℕ) → met_after k (v ∷ []) ≡ Some m → v < m
below_met v k m e = go (nat_lt v k) (v == k) refl refl e
  where
    go : (s t : Bool) → nat_lt v k ≡ s → (v == k) ≡ t → (if s then Some k else if t then Some (suc k) else None) ≡ Some m → v < m
    go true t f g h = let same : k ≡ m = cc in let below : v < k = grind (arith, nat_tests) in omega arith
    go false true f g h = let same : suc k ≡ m = cc in let equal : v ≡ k = grind (arith, nat_tests) in omega arith
    go false false f g h = absurd (cc)

pub variable_back : (c : Setting) (v : ℕ) → Back c (atom_of c.read (a_variable (name_back c.n v))) (Var v) (v ∷ [])
variable_back c v = λ k m e l.
    let h = below_met v k m e in
    ap (λ name. atom_of c.read (a_variable name) (with_met c k)) (name_of c.n.words c.n.vars v (omega arith)) ∙ named_again c v k m e l

-- ---- fields

constant_again : (c : Setting) (s : Sym) → IsConstant c.n.words s → symbol_of c.read (constant_back c.n.words s) ≡ s
constant_again c (Word w) h = c.again (Word w) h.0
constant_again c (Int value) h = refl
constant_again c (Ident letter count) h = absurd h

constants_again : (c : Setting) (symbols : List Sym) → AllOf (IsConstant c.n.words) symbols → map (symbol_of c.read) (map (constant_back c.n.words) symbols) ≡ symbols
constants_again c [] h = refl
constants_again c (s ∷ symbols) h = ap₂ (λ (x : Sym) (xs : List Sym). x ∷ xs) (constant_again c s h.0) (constants_again c symbols h.1)

pub single_again : (c : Setting) (a : Atom) → IsAtom c.n.words a → Back c (atom_of c.read (single_back c.n a)) a (variables_of_atom a)
single_again c (Const s) h = back_same c (λ f. expanded (Const (symbol_of c.read (constant_back c.n.words s))) f) (Const (symbol_of c.read (constant_back c.n.words s))) (Const s) [] [] (ap Const (constant_again c s h)) refl
    (back_gives c (Const (symbol_of c.read (constant_back c.n.words s))))
single_again c (Var v) h = variable_back c v

related : (r : Relation) (a : Atom) → test_by (Some (sign_back r)) a ≡ Rel r a
related Differ a = refl
related Less a = refl
related Greater a = refl
related AtMost a = refl
related AtLeast a = refl
related SameKind a = refl

plain_variables : (a : Atom) → variables_of_atom a ≡ variables_of_test (Plain a)
plain_variables (Const s) = refl
plain_variables (Var v) = refl

test_again : (c : Setting) (t : Test) → IsTest c.n.words t → Back c (test_of c.read (test_back c.n t)) t (variables_of_test t)
test_again c (Plain a) h =
    back_same c (test_of c.read (test_back c.n (Plain a))) (Plain a) (Plain a) (variables_of_atom a) (variables_of_test (Plain a)) refl (plain_variables a)
    (back_made c (atom_of c.read (single_back c.n a)) a (variables_of_atom a) (test_by None) (single_again c a h))
test_again c (Rel r a) h =
    back_same c (test_of c.read (test_back c.n (Rel r a))) (test_by (Some (sign_back r)) a) (Rel r a) (variables_of_atom a) (variables_of_test (Rel r a)) (related r a) refl
    (back_made c (atom_of c.read (single_back c.n a)) a (variables_of_atom a) (test_by (Some (sign_back r))) (single_again c a h))
test_again c (OneOf symbols) h = go symbols h.0 h.1
  where
    go : (symbols : List Sym) → IsAny symbols → AllOf (IsConstant c.n.words) symbols → Back c (test_of c.read (test_back c.n (OneOf symbols))) (OneOf symbols) []
    go [] any all = absurd any
    go (s ∷ symbols) any all =
        back_same c (test_of c.read (test_back c.n (OneOf (s ∷ symbols)))) (OneOf (map (symbol_of c.read) (map (constant_back c.n.words) (s ∷ symbols)))) (OneOf (s ∷ symbols)) [] [] (ap OneOf (constants_again c (s ∷ symbols) all)) refl
        (back_gives c (OneOf (map (symbol_of c.read) (map (constant_back c.n.words) (s ∷ symbols)))))

-- the word `state`, in bars where it stands for itself
id_test_again : (c : Setting) (t : Test) → IsTest c.n.words t → Back c (test_of c.read (id_test_back c.n t)) t (variables_of_test t)
id_test_again c (Plain (Const (Word w))) h = go (w == 0) refl
  where
    go : (b : Bool) → (w == 0) ≡ b → Back c (test_of c.read (if b then state_barred else test_back c.n (Plain (Const (Word w))))) (Plain (Const (Word w))) []
    go true e =
        let first : w ≡ 0 = grind (arith, nat_tests) in
        let same : word_in c.read (codes "state") ≡ Word w = ap (word_in c.read) (sym c.state ∙ ap (text_of c.n.words) (sym first)) ∙ c.again (Word w) h.0 in
        back_same c (test_of c.read state_barred) (Plain (Const (word_in c.read (codes "state")))) (Plain (Const (Word w))) [] [] (ap (λ s. Plain (Const s)) same) refl (back_gives c (Plain (Const (word_in c.read (codes "state")))))
    go false e = test_again c (Plain (Const (Word w))) h
id_test_again c (Plain (Const (Int value))) h = test_again c (Plain (Const (Int value))) h
id_test_again c (Plain (Const (Ident letter count))) h = absurd h
id_test_again c (Plain (Var v)) h = test_again c (Plain (Var v)) h
id_test_again c (Rel r a) h = test_again c (Rel r a) h
id_test_again c (OneOf symbols) h = test_again c (OneOf symbols) h

tests_again : (c : Setting) (back : Test → Simple) (ok : Test → Type 0) → ((t : Test) → ok t → Back c (test_of c.read (back t)) t (variables_of_test t))
    → (ts : List Test) → AllOf ok ts → Back c (tests_of c.read (map back ts)) ts (flat_map variables_of_test ts)
tests_again c back ok each [] all = back_gives c []
tests_again c back ok each (t ∷ ts) all =
    back_then c (test_of c.read (back t)) t (variables_of_test t) (λ x g. then_expand (tests_of c.read (map back ts) g) (λ xs h. expanded (x ∷ xs) h)) (t ∷ ts) (flat_map variables_of_test ts) (each t all.0)
    (back_made c (tests_of c.read (map back ts)) ts (flat_map variables_of_test ts) (λ xs. t ∷ xs) (tests_again c back ok each ts all.1))

simples_again : (back : Test → Simple) (ts : List Test) → IsAny ts → simples_of (tests_back (map back ts)) ≡ map back ts
simples_again back [] any = absurd any
simples_again back (t ∷ []) any = refl
simples_again back (t ∷ u ∷ ts) any = refl

field_by : (c : Setting) (back : Test → Simple) (ok : Test → Type 0) → ((t : Test) → ok t → Back c (test_of c.read (back t)) t (variables_of_test t))
    → (f : Field) → IsAny f.tests → AllOf ok f.tests → Back c (field_of c.read (tests_back (map back f.tests))) f (variables_of_field f)
field_by c back ok each f any all =
    back_made c (λ g. tests_of c.read (simples_of (tests_back (map back f.tests))) g) f.tests (variables_of_field f) (λ ts. let x : Field = record { tests = ts } in x)
    (subst (λ l. Back c (tests_of c.read l) f.tests (variables_of_field f)) (sym (simples_again back f.tests any)) (tests_again c back ok each f.tests all))

pub field_again : (c : Setting) (f : Field) → IsPrintedField c.n.words f → Back c (field_of c.read (field_back c.n f)) f (variables_of_field f)
field_again c f h = field_by c (test_back c.n) (IsTest c.n.words) (test_again c) f h.0 h.1

pub id_again : (c : Setting) (f : Field) → IsPrintedField c.n.words f → Back c (field_of c.read (id_back c.n f)) f (variables_of_field f)
id_again c f h = field_by c (id_test_back c.n) (IsTest c.n.words) (id_test_again c) f h.0 h.1
