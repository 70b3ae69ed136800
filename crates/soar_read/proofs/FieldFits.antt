-- What comes of fields fits.
use Rattle.std.proofs.Common.{◌≡◌, ℕ, suc, ◌<◌, ◌==◌, ◌||◌, Bool, true, false, cond, nat_lt, List, [], ◌∷◌, ◌++◌, length, map, Option, Some, None, refl, arith}
use Rattle.std.specs.Prelude.{unwrap_or}
use Rattle.std.specs.List.{list_all}
use Rattle.std.specs.Str.{bytes_eq}
use Rattle.std.proofs.lemmas.Bool.{lt-ltb}
use Rattle.std.proofs.lemmas.List.{length_push}
use Rattle.soar_sym.specs.Words.{Texts, place_of}
use Rattle.soar_rule.specs.declared.cond.Atom.{Atom}
use Rattle.soar_rule.specs.declared.cond.Atom.TheVariants.{Var}
use Rattle.soar_rule.specs.declared.cond.Relation.TheVariants.{Differ, Less, Greater, AtMost, AtLeast, SameKind}
use Rattle.soar_rule.specs.declared.cond.Test.{Test}
use Rattle.soar_rule.specs.declared.cond.Test.TheVariants.{Plain, Rel}
use Rattle.defs_text.specs.Numbered.{word_in}
use Rattle.defs_read.specs.FieldExpansion.{symbol_of, atom_of, test_by_sign, test_by, test_of, tests_of, simples_of, field_of, plain_field}
use Rattle.defs_read.specs.FreshNames.{Fresh, Expanded, expanded, has_name, place_of_name, fresh_variable, free_number, new_name}
use Rattle.defs_read.specs.Grammar.{Constant, named, number, Single, a_variable, a_constant, Simple, one_of, tested, FieldTree}
use Rattle.soar_read.proofs.FitLemmas.{symbol_fits, atom_fits, test_fits, field_fits, test_stays, count, Fits}
use Rattle.read_parts.proofs.NameLemmas.{same-bytes, place_last}
use Rattle.read_parts.proofs.TextLemmas.{both-true, place_within}

-- ---- constants and variables

word_fits : (words : Texts) (text : List ℕ) → 0 < length words → symbol_fits (length words) (word_in words text) ≡ true
word_fits words text room = by (place_of words text) refl
  where
    by : (o : Option ℕ) → place_of words text ≡ o → nat_lt (unwrap_or o 0) (length words) ≡ true
    by None at = lt-ltb 0 (length words) room
    by (Some n) at = lt-ltb n (length words) (place_within words text n at)

pub symbol_of_fits : (words : Texts) (c : Constant) → 0 < length words → symbol_fits (length words) (symbol_of words c) ≡ true
symbol_of_fits words (named text bare) room = word_fits words text room
symbol_of_fits words (number z) room = refl

symbols_fit : (words : Texts) (cs : List Constant) → 0 < length words → list_all (symbol_fits (length words)) (map (symbol_of words) cs) ≡ true
symbols_fit words [] room = refl
symbols_fit words (c ∷ cs) room = both-true (symbol_of_fits words c room) (symbols_fit words cs room)

place_below : (names : Texts) (name : List ℕ) → has_name names name ≡ true → place_of_name names name < length names
place_below [] name there = absurd (cc)
place_below (other ∷ names) name there = by (bytes_eq other name) (bytes_eq name other) (same-bytes other name) there (place_below names name)
  where
    by : (a b : Bool) → a ≡ b → (b || has_name names name) ≡ true → (has_name names name ≡ true → place_of_name names name < length names)
        → cond a 0 (suc (place_of_name names name)) < suc (length names)
    by true b same there later = omega arith
    by false true same there later = absurd (cc)
    by false false same there later = omega (arith, later there)

pub atom_of_fits : (words : Texts) (s : Single) (f : Fresh) → 0 < length words → Fits (atom_fits (length words)) (count f) (atom_of words s f)
atom_of_fits words (a_variable name) f room = by (has_name f.names name) refl
  where
    by : (b : Bool) → has_name f.names name ≡ b
        → Fits (atom_fits (length words)) (count f) (let g = cond b f (record f { names = f.names ++ name ∷ [] }) in expanded (Var (place_of_name g.names name)) g)
    by true there = record { more = omega arith; fit = lt-ltb (place_of_name f.names name) (length f.names) (place_below f.names name there) }
    by false none = record {
      more = omega (arith, length_push f.names name);
      fit = lt-ltb (place_of_name (f.names ++ name ∷ []) name) (length (f.names ++ name ∷ [])) (omega (arith, length_push f.names name, place_last f.names name none));
    }
atom_of_fits words (a_constant c) f room = record { more = omega arith; fit = symbol_of_fits words c room }

pub fresh_fits : (words : Texts) (f : Fresh) → Fits (atom_fits (length words)) (count f) (fresh_variable f)
fresh_fits words f =
    let name : List ℕ = new_name (free_number (length f.used) f.used f.next) in
    record { more = omega (arith, length_push f.names name); fit = lt-ltb (length f.names) (length (f.names ++ name ∷ [])) (omega (arith, length_push f.names name)) }

-- ---- tests

sign_fits : (known bound k : ℕ) (a : Atom) → atom_fits known bound a ≡ true → test_fits known bound (test_by_sign k a) ≡ true
sign_fits known bound k a fits = by (k == 0) (k == 1) (k == 2) (k == 3) (k == 4) (k == 5)
  where
    by : (p q r s t u : Bool) → test_fits known bound (cond p (Rel Less a) (cond q (Rel Greater a) (cond r (Rel AtMost a) (cond s (Rel AtLeast a) (cond t (Rel Differ a) (cond u (Rel SameKind a) (Plain a))))))) ≡ true
    by true q r s t u = fits
    by false true r s t u = fits
    by false false true s t u = fits
    by false false false true t u = fits
    by false false false false true u = fits
    by false false false false false true = fits
    by false false false false false false = fits

relation_fits : (known bound : ℕ) (r : Option ℕ) (a : Atom) → atom_fits known bound a ≡ true → test_fits known bound (test_by r a) ≡ true
relation_fits known bound None a fits = fits
relation_fits known bound (Some k) a fits = sign_fits known bound k a fits

test_of_fits : (words : Texts) (s : Simple) (f : Fresh) → 0 < length words → Fits (test_fits (length words)) (count f) (test_of words s f)
test_of_fits words (one_of a) f room = record { more = omega arith; fit = both-true (symbol_of_fits words a.first room) (symbols_fit words a.others room) }
test_of_fits words (tested t) f room =
    let atom : Fits (atom_fits (length words)) (count f) (atom_of words t.single f) = atom_of_fits words t.single f room in
    let e : Expanded Atom = atom_of words t.single f in
    record { more = atom.more; fit = relation_fits (length words) (count e.names) t.relation e.value atom.fit }

pub tests_of_fit : (words : Texts) (ss : List Simple) (f : Fresh) → 0 < length words → Fits (λ n ts. list_all (test_fits (length words) n) ts) (count f) (tests_of words ss f)
tests_of_fit words [] f room = record { more = omega arith; fit = refl }
tests_of_fit words (s ∷ ss) f room =
    let e : Expanded Test = test_of words s f in
    let rest : Expanded (List Test) = tests_of words ss e.names in
    let one : Fits (test_fits (length words)) (count f) e = test_of_fits words s f room in
    let more : Fits (λ n ts. list_all (test_fits (length words) n) ts) (count e.names) rest = tests_of_fit words ss e.names room in
    record { more = omega (arith, one.more, more.more); fit = both-true (test_stays (length words) (count e.names) (count rest.names) e.value more.more one.fit) more.fit }

pub field_of_fits : (words : Texts) (tree : FieldTree) (f : Fresh) → 0 < length words → Fits (field_fits (length words)) (count f) (field_of words tree f)
field_of_fits words tree f room = let tests : Fits (λ n ts. list_all (test_fits (length words) n) ts) (count f) (tests_of words (simples_of tree) f) = tests_of_fit words (simples_of tree) f room in record { more = tests.more; fit = tests.fit }

pub plain_fits : (known bound : ℕ) (a : Atom) → atom_fits known bound a ≡ true → field_fits known bound (plain_field a) ≡ true
plain_fits known bound a fits = both-true fits refl
