-- The fields that trees mean can be printed.
use Rattle.std.specs.Prelude.{if◌then◌else◌, flat_map, map, unwrap_or, slice_get, nat_lt, IsUtf8}
use Rattle.std.specs.List.{position_from}
use Rattle.std.specs.Str.{bytes_eq}
use Rattle.std.proofs.Common.{◌≡◌, refl, sym, ◌∙◌, ap, ap₂, subst, true, false, [], ◌∷◌, ◌++◌, List, ℕ, suc, Bool, ◌&&◌, ◌==◌, ◌+◌, ◌<◌, Option, Some, None, cond, length, arith, append-nil}
use Rattle.std.proofs.lemmas.Bool.Decides.{nat_tests}
use Rattle.std.proofs.lemmas.Slice.Eq.{bytes_eq-Decides}
use Rattle.soar_sym.specs.Words.{Texts, place_of, text_of}
use Rattle.soar_sym.specs.declared.symbol.Sym.TheVariants.{Word}
use Rattle.soar_rule.specs.declared.cond.Atom.{Atom}
use Rattle.soar_rule.specs.declared.cond.Atom.TheVariants.{Const}
use Rattle.soar_rule.specs.declared.cond.Relation.TheVariants.{Differ, Less, Greater, AtMost, AtLeast, SameKind}
use Rattle.soar_rule.specs.declared.cond.Test.{Test}
use Rattle.soar_rule.specs.declared.cond.Test.TheVariants.{Plain, Rel, OneOf}
use Rattle.soar_rule.specs.declared.cond.Field.{Field}
use Rattle.soar_rule.specs.Variables.{variables_of_atom, variables_of_test, variables_of_field}
use Rattle.defs_text.specs.Lexing.{Saying, variable_named, integer, word_of, documentation}
use Rattle.defs_text.specs.Runs.{fits_integer}
use Rattle.defs_read.specs.FieldExpansion.{symbol_of, atom_of, test_by_sign, test_by, test_of, tests_of, simples_of, field_of}
use Rattle.defs_read.specs.FreshNames.{Fresh, Expanded, expanded, then_expand}
use Rattle.defs_read.specs.Grammar.{Constant, named, number, Single, a_variable, a_constant, Simple, one_of, tested, FieldTree, braced, single}
use Rattle.defs_read.specs.Sayings.{IsWordPlaced, is_place}
use Rattle.defs_read.specs.Spelling.{Tokens, spelled_constant, spelled_single, spelled_simple, spelled_field}
use Rattle.reading_laws.specs.Lawful.{AllOf}
use Rattle.reading_laws.specs.Printable.{IsConstant, IsAtom, IsAny, IsTest, IsPrintedField, met_after}
use Rattle.reading_laws.proofs.FineLaws.{HasPlace, Source, Fine, IsGiven, Given, IsVar, named_given}

-- ---- words of a table

placed_at : (text : List ℕ) (i n : ℕ) (words : Texts) → position_from (bytes_eq text) i words ≡ Some n → (k : ℕ) × (n ≡ i + k) × (k < length words) × (slice_get words k ≡ Some text)
placed_at text i n [] e = absurd (cc)
placed_at text i n (x ∷ words) e = go (bytes_eq text x) refl e (λ h. placed_at text (i + 1) n words h)
  where
    go : (t : Bool) → bytes_eq text x ≡ t → cond t (Some i) (position_from (bytes_eq text) (i + 1) words) ≡ Some n
        → (position_from (bytes_eq text) (i + 1) words ≡ Some n → (k : ℕ) × (n ≡ i + 1 + k) × (k < length words) × (slice_get words k ≡ Some text))
        → (k : ℕ) × (n ≡ i + k) × (k < suc (length words)) × (slice_get (x ∷ words) k ≡ Some text)
    go true f h later = let same : i ≡ n = cc in (0, omega arith, omega arith, ap Some (sym ((bytes_eq-Decides text x).0 f)))
    go false f h later = let p = later h in (suc p.0, omega (arith, p.1), omega (arith, p.2), p.3)

-- a text that has a place is a known word
pub word_placed : (words : Texts) (text : List ℕ) (n : ℕ) → place_of words text ≡ Some n → IsWordPlaced words (Word n) × (text_of words n ≡ text)
word_placed words text n e = (ap₂ (λ (a b : Bool). a && b) below place, found)
  where
    p : (k : ℕ) × (n ≡ 0 + k) × (k < length words) × (slice_get words k ≡ Some text)
    p = placed_at text 0 n words e

    same : n ≡ p.0
    same = omega (arith, p.1)

    found : text_of words n ≡ text
    found = ap (λ o. unwrap_or o []) (ap (slice_get words) same ∙ p.3)

    below : nat_lt n (length words) ≡ true
    below = let l : n < length words = omega (arith, p.1, p.2) in grind (arith, nat_tests)

    place : is_place words n ≡ true
    place = ap (λ o. elim o as (λ _. Bool) [ Some m ↦ m == n | None ↦ false ]) (ap (place_of words) found ∙ e) ∙ (let t : (n == n) ≡ true = grind (arith, nat_tests) in t)

-- ---- tokens whose words the table has

-- the later table has each text at its place
abbrev pub Later : Texts → Texts → Type 0
Later known after = (text : List ℕ) (n : ℕ) → place_of known text ≡ Some n → place_of after text ≡ Some n

-- a token of the text, whose words the table has
abbrev pub IsOf : Source → Saying → Type 0
IsOf s (variable_named name) = IsGiven s name
IsOf s (word_of text bare) = IsUtf8 text × HasPlace s.known text
IsOf s (integer z) = fits_integer z ≡ true
IsOf s (documentation text) = IsUtf8 text
IsOf s other = Unit {0}

abbrev pub AreOf : Source → Tokens → Type 0
AreOf s tokens = AllOf (IsOf s) tokens

pub all_front : {A : Type 0} (ok : A → Type 0) (xs ys : List A) → AllOf ok (xs ++ ys) → AllOf ok xs
all_front ok [] ys h = tt
all_front ok (x ∷ xs) ys h = (h.0, all_front ok xs ys h.1)

pub all_behind : {A : Type 0} (ok : A → Type 0) (xs ys : List A) → AllOf ok (xs ++ ys) → AllOf ok ys
all_behind ok [] ys h = h
all_behind ok (x ∷ xs) ys h = all_behind ok xs ys h.1

-- of each part of a row
pub all_each : {A B : Type 0} (ok : B → Type 0) (spell : A → List B) (xs : List A) → AllOf ok (flat_map spell xs) → AllOf (λ x. AllOf ok (spell x)) xs
all_each ok spell [] h = tt
all_each ok spell (x ∷ xs) h = (all_front ok (spell x) (flat_map spell xs) h, all_each ok spell xs (all_behind ok (spell x) (flat_map spell xs) h))

-- ---- what is given

pub given_said : {A : Type 0} (s : Source) (f : Fresh) (e : Expanded A) (ok other : A → List ℕ → Type 0) → ((a : A) (vs : List ℕ) → ok a vs → other a vs) → Given s f e ok → Given s f e other
given_said s f e ok other h x = record { vs = x.vs; is = h e.value x.vs x.is; met = x.met; fine = x.fine }

-- something that has no variable
pub given_plain : {A : Type 0} (s : Source) (f : Fresh) (a : A) (ok : A → List ℕ → Type 0) → Fine s f → ok a [] → Given s f (expanded a f) ok
given_plain s f a ok fine h = record { vs = []; is = h; met = refl; fine = fine }

pub given_made : {A B : Type 0} (s : Source) (f : Fresh) (e : Expanded A) (make : A → B) (ok : A → List ℕ → Type 0) (other : B → List ℕ → Type 0) → ((a : A) (vs : List ℕ) → ok a vs → other (make a) vs) → Given s f e ok
    → Given s f (then_expand e (λ a g. expanded (make a) g)) other
given_made s f e make ok other h x = record { vs = x.vs; is = h e.value x.vs x.is; met = x.met; fine = x.fine }

pub met_joined : (k j m : ℕ) (a b : List ℕ) → met_after k a ≡ Some j → met_after j b ≡ Some m → met_after k (a ++ b) ≡ Some m
met_joined k j m [] b e f = let same : k ≡ j = cc in ap (λ i. met_after i b) same ∙ f
met_joined k j m (v ∷ a) b e f = go (nat_lt v k) (v == k) (λ h. met_joined k j m a b h f) (λ h. met_joined (suc k) j m a b h f) e
  where
    go : (s t : Bool) → (met_after k a ≡ Some j → met_after k (a ++ b) ≡ Some m) → (met_after (suc k) a ≡ Some j → met_after (suc k) (a ++ b) ≡ Some m)
        → (if s then met_after k a else if t then met_after (suc k) a else None) ≡ Some j → (if s then met_after k (a ++ b) else if t then met_after (suc k) (a ++ b) else None) ≡ Some m
    go true t old new h = old h
    go false true old new h = new h
    go false false old new h = absurd (cc)

-- one thing, and then another
pub given_then : {A B : Type 0} (s : Source) (f : Fresh) (e : Expanded A) (r : A → Fresh → Expanded B) (ok : A → List ℕ → Type 0) (other : B → List ℕ → Type 0)
    → (x : Given s f e ok) → Given s e.names (r e.value e.names) (λ b ws. other b (x.vs ++ ws)) → Given s f (then_expand e r) other
given_then s f e r ok other x y = record {
  vs = x.vs ++ y.vs;
  is = y.is;
  met = met_joined (length f.names) (length e.names.names) (length (r e.value e.names).names.names) x.vs y.vs x.met y.met;
  fine = y.fine;
}

-- ---- fields

pub constant_given : (s : Source) (after : Texts) (c : Constant) → Later s.known after → IsOf s (spelled_constant c) → IsConstant after (symbol_of s.known c)
constant_given s after (named text bare) later h =
    let k = word_placed after text h.1.0 (later text h.1.0 h.1.1) in
    subst (λ o. IsConstant after (Word (unwrap_or o 0))) (sym h.1.1) (k.0, subst IsUtf8 (sym k.1) h.0)
constant_given s after (number z) later h = h

abbrev pub IsAtomOf : Texts → Atom → List ℕ → Type 0
IsAtomOf after a vs = IsAtom after a × (variables_of_atom a ≡ vs)

pub var_is : (after : Texts) (a : Atom) (vs : List ℕ) → IsVar a vs → IsAtomOf after a vs
var_is after a vs h = (subst (IsAtom after) (sym h.1) tt, ap variables_of_atom h.1 ∙ sym h.2)

pub single_given : (s : Source) (after : Texts) (x : Single) (f : Fresh) → Later s.known after → IsOf s (spelled_single x) → Fine s f → Given s f (atom_of s.known x f) (IsAtomOf after)
single_given s after (a_variable name) f later h fine = given_said s f (atom_of s.known (a_variable name) f) IsVar (IsAtomOf after) (var_is after) (named_given s f name fine h)
single_given s after (a_constant c) f later h fine = given_plain s f (Const (symbol_of s.known c)) (IsAtomOf after) fine (constant_given s after c later h, refl)

abbrev pub IsTestOf : Texts → Test → List ℕ → Type 0
IsTestOf after t vs = IsTest after t × (variables_of_test t ≡ vs)

plain_is : (after : Texts) (a : Atom) (vs : List ℕ) → IsAtomOf after a vs → IsTestOf after (Plain a) vs
plain_is after a vs h = (h.0, append-nil (variables_of_atom a) ∙ h.1)

signed_is : (after : Texts) (k : ℕ) (a : Atom) (vs : List ℕ) → IsAtomOf after a vs → IsTestOf after (test_by_sign k a) vs
signed_is after k a vs h = go (k == 0) (k == 1) (k == 2) (k == 3) (k == 4) (k == 5)
  where
    go : (b0 b1 b2 b3 b4 b5 : Bool)
        → IsTestOf after (if b0 then Rel Less a else if b1 then Rel Greater a else if b2 then Rel AtMost a else if b3 then Rel AtLeast a else if b4 then Rel Differ a else if b5 then Rel SameKind a else Plain a) vs
    go true b1 b2 b3 b4 b5 = h
    go false true b2 b3 b4 b5 = h
    go false false true b3 b4 b5 = h
    go false false false true b4 b5 = h
    go false false false false true b5 = h
    go false false false false false true = h
    go false false false false false false = plain_is after a vs h

tested_is : (after : Texts) (o : Option ℕ) (a : Atom) (vs : List ℕ) → IsAtomOf after a vs → IsTestOf after (test_by o a) vs
tested_is after None a vs h = plain_is after a vs h
tested_is after (Some k) a vs h = signed_is after k a vs h

constants_given : (s : Source) (after : Texts) (cs : List Constant) → Later s.known after → AreOf s (flat_map (λ c. spelled_constant c ∷ []) cs) → AllOf (IsConstant after) (map (symbol_of s.known) cs)
constants_given s after [] later h = tt
constants_given s after (c ∷ cs) later h = (constant_given s after c later h.0, constants_given s after cs later h.1)

test_given : (s : Source) (after : Texts) (x : Simple) (f : Fresh) → Later s.known after → AreOf s (spelled_simple x) → Fine s f → Given s f (test_of s.known x f) (IsTestOf after)
test_given s after (one_of a) f later h fine =
    given_plain s f (OneOf (symbol_of s.known a.first ∷ map (symbol_of s.known) a.others)) (IsTestOf after) fine
    ((tt, (constant_given s after a.first later h.1.0, constants_given s after a.others later (all_front (IsOf s) (flat_map (λ c. spelled_constant c ∷ []) a.others) _ h.1.1))), refl)
test_given s after (tested t) f later h fine =
    given_made s f (atom_of s.known t.single f) (test_by t.relation) (IsAtomOf after) (IsTestOf after) (tested_is after t.relation)
    (single_given s after t.single f later (behind t.relation h) fine)
  where
    behind : (o : Option ℕ) → AreOf s (spelled_simple (tested (record { relation = o; single = t.single }))) → IsOf s (spelled_single t.single)
    behind None k = k.0
    behind (Some n) k = k.1.0

abbrev AreTestsOf : Texts → List Test → List ℕ → Type 0
AreTestsOf after ts vs = AllOf (IsTest after) ts × (flat_map variables_of_test ts ≡ vs)

tests_given : (s : Source) (after : Texts) (xs : List Simple) (f : Fresh) → Later s.known after → AllOf (λ x. AreOf s (spelled_simple x)) xs → Fine s f → Given s f (tests_of s.known xs f) (AreTestsOf after)
tests_given s after [] f later h fine = given_plain s f [] (AreTestsOf after) fine (tt, refl)
tests_given s after (x ∷ xs) f later h fine =
    let first = test_given s after x f later h.0 fine in
    let e = test_of s.known x f in
    given_then s f e (λ t g. then_expand (tests_of s.known xs g) (λ ts h. expanded (t ∷ ts) h)) (IsTestOf after) (AreTestsOf after) first
    (given_made s e.names (tests_of s.known xs e.names) (λ ts. e.value ∷ ts) (AreTestsOf after) (λ ts ws. AreTestsOf after ts (first.vs ++ ws))
    (λ ts ws k. ((first.is.0, k.0), ap₂ (λ (a b : List ℕ). a ++ b) first.is.1 k.1)) (tests_given s after xs e.names later h.1 first.fine))

abbrev pub IsFieldOf : Texts → Field → List ℕ → Type 0
IsFieldOf after field vs = IsPrintedField after field × (variables_of_field field ≡ vs)

simples_are : (s : Source) (tree : FieldTree) → AreOf s (spelled_field tree) → AllOf (λ x. AreOf s (spelled_simple x)) (simples_of tree)
simples_are s (braced b) h =
    let rest = all_behind (IsOf s) (spelled_simple b.first) _ h.1 in
    (all_front (IsOf s) (spelled_simple b.first) _ h.1, all_each (IsOf s) spelled_simple b.others (all_front (IsOf s) (flat_map spelled_simple b.others) _ rest))
simples_are s (single x) h = (h, tt)

-- as many tests as there are trees
some_tests : (s : Source) (tree : FieldTree) (f : Fresh) → IsAny (tests_of s.known (simples_of tree) f).value
some_tests s (braced b) f = tt
some_tests s (single x) f = tt

pub field_given : (s : Source) (after : Texts) (tree : FieldTree) (f : Fresh) → Later s.known after → AreOf s (spelled_field tree) → Fine s f → Given s f (field_of s.known tree f) (IsFieldOf after)
field_given s after tree f later h fine =
    let x = tests_given s after (simples_of tree) f later (simples_are s tree h) fine in
    record { vs = x.vs; is = ((some_tests s tree f, x.is.0), x.is.1); met = x.met; fine = x.fine }
