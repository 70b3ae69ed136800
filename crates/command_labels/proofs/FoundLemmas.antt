-- Names and what is noted of them, while labels come at the end.
use Rattle.std.proofs.Common.{◌≡◌, ◌∙◌, refl, sym, ap, ap₂, ℕ, suc, zero, ◌+◌, ◌≤◌, Bool, true, false, cond, List, [], ◌∷◌, ◌++◌, length, map, Option, Some, None, is_some, option_map, Result, Ok, Err, OnOk, OnErr, IfSome, String, Global, string_bytes, subst, true≢false, add-zero, arith}
use Rattle.std.specs.Prelude.{IsTrue, if◌then◌else◌}
use Rattle.std.specs.List.{insert}
use Rattle.std.specs.Map.{lookup}
use Rattle.std.specs.Cmp.Lexicographic.{nat_list_eq_equiv}
use Rattle.std.specs.Str.{bytes_eq}
use Rattle.std.proofs.Props.{props}
use Rattle.std.proofs.lemmas.Slice.Eq.{bytes_eq-Decides}
use Rattle.std.proofs.lemmas.Bool.Decides.{nat_tests}
use Rattle.std.proofs.lemmas.List.{length-append, length-map, map-append}
use Rattle.std.proofs.lemmas.List.Edits.{insert_end, length-insert}
use Rattle.soar_sym.specs.Words.{Texts, IsKnown}
use Rattle.soar_sym.specs.declared.symbol.Sym.{Sym}
use Rattle.soar_sym.specs.declared.symbol.Sym.TheVariants.{Ident, Word, Int}
use Rattle.defs_run.specs.Inputs.{or_else}
use Rattle.defs_run.specs.Sessions.{Label, label_in}
use Rattle.command_labels.specs.Found.{Entries, ArePlaced, FindsFirst, IsAdded, IsKept, IsNoted, all_of, label_of, label_seen, symbol_of, symbol_under, with_again}
use Rattle.command_labels.specs.Lettered.{is_lettered}
use Rattle.command_labels.specs.declared.label.Again.{Again}
use Rattle.command_labels.specs.declared.label.Label.{Label as LabelKept}
use Rattle.command_labels.specs.declared.label.Meant.{Meant}

-- ---- the symbol of a label is known to each table

lettered_known : (words : Texts) (s : Sym) → IsTrue (is_lettered s) → IsKnown words s
lettered_known words (Ident letter number) h = grind (arith, nat_tests, h)
lettered_known words (Word n) h = absurd (true≢false (sym h))
lettered_known words (Int z) h = absurd (true≢false (sym h))

pub label_known : (words : Texts) (labels : List LabelKept) (name : List ℕ) → IfSome (label_in (map label_seen labels) name) (IsKnown words)
label_known words [] name = tt
label_known words (l ∷ labels) name = by (bytes_eq l.name name) (label_known words labels name)
  where
    by : (b : Bool) → IfSome (label_in (map label_seen labels) name) (IsKnown words) → IfSome (if b then Some l.symbol else label_in (map label_seen labels) name) (IsKnown words)
    by true later = lettered_known words l.symbol l.lettered
    by false later = later

-- ---- the symbols of names

more_labels : (labels : List Label) (l : Label) (name : List ℕ) → label_in (labels ++ l ∷ []) name ≡ or_else (label_in labels name) (symbol_under l.name l.symbol name)
more_labels [] l name = refl
more_labels (first ∷ labels) l name = by (bytes_eq first.name name) (more_labels labels l name)
  where
    by : (b : Bool) → label_in (labels ++ l ∷ []) name ≡ or_else (label_in labels name) (symbol_under l.name l.symbol name)
        → (if b then Some first.symbol else label_in (labels ++ l ∷ []) name) ≡ or_else (if b then Some first.symbol else label_in labels name) (symbol_under l.name l.symbol name)
    by true later = refl
    by false later = later

-- the first of each name is noted still
finds_more : (labels all : List LabelKept) (old new : Entries) (label : LabelKept) → FindsFirst labels old → all ≡ labels ++ label ∷ []
    → ((name : List ℕ) → symbol_of new name ≡ or_else (symbol_of old name) (symbol_under label.name label.symbol name)) → FindsFirst all new
finds_more labels all old new label finds are noted name =
    noted name
    ∙ ap (λ o. or_else o (symbol_under label.name label.symbol name)) (finds name)
    ∙ sym (more_labels (map label_seen labels) (label_seen label) name)
    ∙ ap (λ ls. label_in ls name) (sym (map-append label_seen labels (label ∷ [])))
    ∙ ap (λ ls. label_in (map label_seen ls) name) (sym are)

-- where a name has a symbol, one more label of it changes nothing
known_stays : (entries : Entries) (own : List ℕ) (symbol : Sym) → is_some (symbol_of entries own) ≡ true
    → (name : List ℕ) → symbol_of entries name ≡ or_else (symbol_of entries name) (symbol_under own symbol name)
known_stays entries own symbol there name = by (bytes_eq own name) refl
  where
    kept : (o : Option Sym) → is_some o ≡ true → o ≡ or_else o (Some symbol)
    kept None h = absurd (true≢false (sym h))
    kept (Some s) h = refl

    rest : (o : Option Sym) → o ≡ or_else o None
    rest None = refl
    rest (Some s) = refl

    by : (b : Bool) → bytes_eq own name ≡ b → symbol_of entries name ≡ or_else (symbol_of entries name) (if b then Some symbol else None)
    by true e = kept (symbol_of entries name) (ap (λ n. is_some (symbol_of entries n)) (sym ((bytes_eq-Decides own name).0 e)) ∙ there)
    by false e = rest (symbol_of entries name)

-- ---- labels at their places

one_less : (m n : ℕ) → suc m ≤ suc n → m ≤ n
one_less m n h = omega (arith, h)

-- where one is put in, the last one stays last
insert_before : (labels : List LabelKept) (i : ℕ) (l last : LabelKept) → i ≤ length labels → insert (labels ++ last ∷ []) i l ≡ insert labels i l ++ last ∷ []
insert_before [] zero l last h = refl
insert_before [] (suc i) l last h = absurd (omega (arith, h))
insert_before (x ∷ labels) zero l last h = refl
insert_before (x ∷ labels) (suc i) l last h = ap (λ ls. x ∷ ls) (insert_before labels i l last (one_less i (length labels) h))

pushed : (count : ℕ) (labels : List LabelKept) (again : List Again) (l : LabelKept) → length labels ≡ count → ArePlaced count again
    → with_again (labels ++ l ∷ []) again ≡ with_again labels again ++ l ∷ []
pushed count labels [] l long placed = refl
pushed count labels (a ∷ again) l long placed =
    let inside : a.place ≤ length labels = omega (arith, placed.0, long) in
    ap (λ ls. with_again ls again) (insert_before labels a.place a.label l inside)
    ∙ pushed (count + 1) (insert labels a.place a.label) again l (length-insert labels a.place a.label inside ∙ ap (λ n. n + 1) long) placed.1

shifted : (m n : ℕ) → m + 1 + n ≡ m + suc n
shifted m n = omega arith

how_long : (count : ℕ) (labels : List LabelKept) (again : List Again) → length labels ≡ count → ArePlaced count again
    → length (with_again labels again) ≡ count + length again
how_long count labels [] long placed = long ∙ sym (add-zero count)
how_long count labels (a ∷ again) long placed =
    let inside : a.place ≤ length labels = omega (arith, placed.0, long) in
    how_long (count + 1) (insert labels a.place a.label) again (length-insert labels a.place a.label inside ∙ ap (λ n. n + 1) long) placed.1
    ∙ shifted count (length again)

put_last : (labels : List LabelKept) (again : List Again) (a : Again) → with_again labels (again ++ a ∷ []) ≡ insert (with_again labels again) a.place a.label
put_last labels [] a = refl
put_last labels (b ∷ again) a = put_last (insert labels b.place b.label) again a

placed_more : (count : ℕ) (again : List Again) → ArePlaced count again → ArePlaced (count + 1) again
placed_more count [] placed = tt
placed_more count (a ∷ again) placed = (omega (arith, placed.0), placed_more (count + 1) again placed.1)

placed_last : (count : ℕ) (again : List Again) (a : Again) → a.place ≡ count + length again → ArePlaced count again → ArePlaced count (again ++ a ∷ [])
placed_last count [] a is placed = (behind a.place count (is ∙ add-zero count), tt)
  where
    behind : (m n : ℕ) → m ≡ n → m ≤ n
    behind m n h = omega (arith, h)
placed_last count (b ∷ again) a is placed = (placed.0, placed_last (count + 1) again a (is ∙ sym (shifted count (length again))) placed.1)

-- ---- one label more

-- of a new name
pub one_noted : (old new : Entries) (again : List Again) (label : LabelKept) → IsKept old again → IsNoted old new label → IsAdded new again (all_of old again) label
one_noted old new again label kept noted =
    let count : length (map label_of old) ≡ length old = length-map old label_of in
    let all : all_of new again ≡ all_of old again ++ label ∷ [] = ap (λ ls. with_again ls again) noted.labels ∙ pushed (length old) (map label_of old) again label count kept.placed in
    record {
      kept = record {
        placed = subst (λ n. ArePlaced n again) (sym noted.count) (placed_more (length old) again kept.placed);
        first = finds_more (all_of old again) (all_of new again) old new label kept.first all noted.symbols;
      };
      all = all;
    }

-- of a name that had come before
pub one_again : (entries : Entries) (again : List Again) (a : Again) → IsKept entries again → a.place ≡ length entries + length again → is_some (symbol_of entries a.label.name) ≡ true
    → IsAdded entries (again ++ a ∷ []) (all_of entries again) a.label
one_again entries again a kept is there =
    let count : length (map label_of entries) ≡ length entries = length-map entries label_of in
    let place : a.place ≡ length (all_of entries again) = is ∙ sym (how_long (length entries) (map label_of entries) again count kept.placed) in
    let all : all_of entries (again ++ a ∷ []) ≡ all_of entries again ++ a.label ∷ []
    = put_last (map label_of entries) again a ∙ ap (λ n. insert (all_of entries again) n a.label) place ∙ insert_end (all_of entries again) a.label in
    record {
      kept = record {
        placed = placed_last (length entries) again a is kept.placed;
        first = finds_more (all_of entries again) (all_of entries (again ++ a ∷ [])) entries entries a.label kept.first all (known_stays entries a.label.name a.label.symbol there);
      };
      all = all;
    }

-- ---- noting

abbrev made : List ℕ → (s : Sym) → IsTrue (is_lettered s) → LabelKept
made name s p = record { name = name; symbol = s; lettered = p }

same_proof : (s : Sym) (p q : IsTrue (is_lettered s)) → p ≡ q
same_proof s = one (is_lettered s)
  where
    one : (b : Bool) → IsProp (IsTrue b)
    one b = hlevel props

-- labels of the same name and symbol are one
same_label : (name : List ℕ) (s t : Sym) (p : IsTrue (is_lettered s)) (q : IsTrue (is_lettered t)) → s ≡ t → made name s p ≡ made name t q
same_label name s t p q is = subst (λ x. (r : IsTrue (is_lettered x)) → made name s p ≡ made name x r) is (λ r. ap (made name s) (same_proof s p r)) q

more_entries : (entries : Entries) (k : String Global) (m : Meant) (name : List ℕ)
    → symbol_of (entries ++ (k, m) ∷ []) name ≡ or_else (symbol_of entries name) (symbol_under (string_bytes k) m.symbol name)
more_entries [] k m name = by (bytes_eq name (string_bytes k)) ∙ ap (λ b. cond b (Some m.symbol) None) (nat_list_eq_equiv.symm name (string_bytes k))
  where
    by : (b : Bool) → option_map (λ (x : Meant). x.symbol) (cond b (Some m) None) ≡ cond b (Some m.symbol) None
    by true = refl
    by false = refl
more_entries (e ∷ entries) k m name = by (bytes_eq name (string_bytes e.0)) (more_entries entries k m name)
  where
    later_one : Option Meant
    later_one = lookup (λ x. bytes_eq name (string_bytes x)) (entries ++ (k, m) ∷ [])

    earlier_one : Option Meant
    earlier_one = lookup (λ x. bytes_eq name (string_bytes x)) entries

    by : (b : Bool) → option_map (λ (x : Meant). x.symbol) later_one ≡ or_else (option_map (λ (x : Meant). x.symbol) earlier_one) (symbol_under (string_bytes k) m.symbol name)
        → option_map (λ (x : Meant). x.symbol) (cond b (Some e.1) later_one) ≡ or_else (option_map (λ (x : Meant). x.symbol) (cond b (Some e.1) earlier_one)) (symbol_under (string_bytes k) m.symbol name)
    by true later = refl
    by false later = later

-- a new name goes last
pub noted_last : (old new : Entries) (k : String Global) (m : Meant) (label : LabelKept) → new ≡ old ++ (k, m) ∷ [] → string_bytes k ≡ label.name → m.symbol ≡ label.symbol → IsNoted old new label
noted_last old new k m label are name symbol = record {
  labels = ap (map label_of) are ∙ map-append label_of old ((k, m) ∷ []) ∙ ap (λ l. map label_of old ++ l ∷ []) same;
  count = ap length are ∙ length-append old ((k, m) ∷ []);
  symbols = λ other.
      ap (λ es. symbol_of es other) are ∙ more_entries old k m other
      ∙ ap₂ (λ n s. or_else (symbol_of old other) (symbol_under n s other)) name symbol;
}
  where
    same : label_of (k, m) ≡ label
    same = ap (λ n. made n m.symbol m.lettered) name ∙ same_label label.name m.symbol label.symbol m.lettered label.lettered symbol

pub unnamed : (o : Option Meant) → option_map (λ (m : Meant). m.symbol) o ≡ None → o ≡ None
unnamed None h = refl
unnamed (Some m) h = absurd (true≢false (ap is_some h))

-- ---- whatever a call answers

module _ {E : Type 0} (entries new : Entries) (again : List Again) (label : LabelKept) (kept : IsKept entries again) where
  pub still_kept : (r : Result (Unit {0}) E) → OnOk r (IsNoted entries new label) → OnErr r (new ≡ entries) → IsKept new again
  still_kept (Ok x) noted same = (one_noted entries new again label kept noted).kept
  still_kept (Err e) noted same = subst (λ es. IsKept es again) (sym same) kept

  pub one_more : (r : Result (Unit {0}) E) → OnOk r (IsNoted entries new label) → OnOk r (all_of new again ≡ all_of entries again ++ label ∷ [])
  one_more (Ok x) noted = (one_noted entries new again label kept noted).all
  one_more (Err e) noted = tt
