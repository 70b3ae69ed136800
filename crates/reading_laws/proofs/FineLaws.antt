-- What the names that were met keep, as a tree is expanded.
use Rattle.std.specs.Prelude.{if◌then◌else◌, nat_lt}
use Rattle.std.specs.List.{list_any, position_from}
use Rattle.std.specs.Str.{bytes_eq}
use Rattle.std.proofs.Common.{◌≡◌, refl, sym, ◌∙◌, ap, subst, true, false, [], ◌∷◌, ◌++◌, List, ℕ, suc, Bool, ◌||◌, ◌==◌, ◌⊎◌, inl, inr, ◌+◌, ◌*◌, ◌<◌, ◌≤◌, ◌^◌, Some, None, cond, length, length-append, arith}
use Rattle.std.proofs.Math.Nat.{suc-mul, mul-le-mul_right}
use Rattle.std.proofs.lemmas.Bool.Decides.{nat_tests}
use Rattle.std.proofs.lemmas.Slice.Eq.{bytes_eq-Decides}
use Rattle.soar_sym.specs.Words.{Texts, has_text, with_text, with_texts, place_of}
use Rattle.soar_rule.specs.declared.cond.Atom.{Atom}
use Rattle.soar_rule.specs.declared.cond.Atom.TheVariants.{Var}
use Rattle.defs_read.specs.FieldExpansion.{atom_of}
use Rattle.defs_read.specs.FreshNames.{Fresh, has_name, place_of_name, new_name, free_number, Expanded, expanded, fresh_variable}
use Rattle.defs_read.specs.Grammar.{a_variable}
use Rattle.reading_laws.specs.Lawful.{AllOf}
use Rattle.reading_laws.specs.Printable.{IsName, AreDistinct, met_after}
use Rattle.reading_laws.proofs.FreshLaws.{new_is_name, other_new, free_from, free_within, free_is_free}
use Rattle.reading_laws.proofs.WordLaws.{same_bytes, kept_by_one, kept_by_all}
use Rattle.reading_laws.proofs.NameLaws.{neither}

-- ---- lists

pub all_joined : {A : Type 0} (ok : A → Type 0) (xs ys : List A) → AllOf ok xs → AllOf ok ys → AllOf ok (xs ++ ys)
all_joined ok [] ys f g = g
all_joined ok (x ∷ xs) ys f g = (f.0, all_joined ok xs ys f.1 g)

pub all_said : {A : Type 0} (ok other : A → Type 0) (xs : List A) → ((x : A) → ok x → other x) → AllOf ok xs → AllOf other xs
all_said ok other [] f g = tt
all_said ok other (x ∷ xs) f g = (f x g.0, all_said ok other xs f g.1)

differ : false ≡ true → ⊥
differ e = cc

pub same_either_way : (x y : List ℕ) → bytes_eq x y ≡ bytes_eq y x
same_either_way x y = go (bytes_eq x y) (bytes_eq y x) refl refl
  where
    go : (s t : Bool) → bytes_eq x y ≡ s → bytes_eq y x ≡ t → s ≡ t
    go true true e f = refl
    go false false e f = refl
    go true false e f = absurd (differ (sym f ∙ (bytes_eq-Decides y x).1 (sym ((bytes_eq-Decides x y).0 e))))
    go false true e f = absurd (differ (sym e ∙ (bytes_eq-Decides x y).1 (sym ((bytes_eq-Decides y x).0 f))))

-- ---- places

-- the text stands in the table
abbrev pub HasPlace : Texts → List ℕ → Type 0
HasPlace words text = (n : ℕ) × (place_of words text ≡ Some n)

has_more : (names : Texts) (name asked : List ℕ) → has_name (names ++ (name ∷ [])) asked ≡ (has_name names asked || bytes_eq asked name)
has_more [] name asked = go (bytes_eq asked name)
  where
    go : (t : Bool) → (t || false) ≡ t
    go true = refl
    go false = refl
has_more (other ∷ names) name asked = ap (λ t. bytes_eq asked other || t) (has_more names name asked) ∙ go (bytes_eq asked other)
  where
    go : (t : Bool) → (t || (has_name names asked || bytes_eq asked name)) ≡ ((t || has_name names asked) || bytes_eq asked name)
    go true = refl
    go false = refl

-- one name more at the end
distinct_more : (names : Texts) (name : List ℕ) → AreDistinct names → has_name names name ≡ false → AreDistinct (names ++ (name ∷ []))
distinct_more [] name d e = (refl, tt)
distinct_more (other ∷ names) name d e =
    let n = neither (bytes_eq name other) (has_name names name) e in
    (has_more names name other ∙ ap (λ t. t || bytes_eq other name) d.0 ∙ same_either_way other name ∙ n.0, distinct_more names name d.1 n.1)

place_in : (names : Texts) (name : List ℕ) → has_name names name ≡ true → place_of_name names name < length names
place_in [] name e = absurd (cc)
place_in (other ∷ names) name e = go (bytes_eq other name) (ap (λ t. t || has_name names name) (same_either_way other name) ∙ e) (λ h. place_in names name h)
  where
    go : (t : Bool) → (t || has_name names name) ≡ true → (has_name names name ≡ true → place_of_name names name < length names) → (if t then 0 else suc (place_of_name names name)) < suc (length names)
    go true h later = omega arith
    go false h later = let l = later h in omega arith

place_new : (names : Texts) (name : List ℕ) → has_name names name ≡ false → place_of_name (names ++ (name ∷ [])) name ≡ length names
place_new [] name e = ap (λ t. if t then 0 else 1) (same_bytes name)
place_new (other ∷ names) name e =
    let n = neither (bytes_eq name other) (has_name names name) e in
    ap (λ t. if t then 0 else suc (place_of_name (names ++ (name ∷ [])) name)) (same_either_way other name ∙ n.0) ∙ ap suc (place_new names name n.1)

-- what passes a test has a place, also at the end
placed : (test : List ℕ → Bool) (i : ℕ) (words : Texts) → list_any test words ≡ true → (n : ℕ) × (position_from test i words ≡ Some n)
placed test i [] e = absurd (cc)
placed test i (x ∷ words) e = go (test x) (λ h. placed test (i + 1) words h) e
  where
    go : (t : Bool) → (list_any test words ≡ true → (n : ℕ) × (position_from test (i + 1) words ≡ Some n)) → (t || list_any test words) ≡ true → (n : ℕ) × (cond t (Some i) (position_from test (i + 1) words) ≡ Some n)
    go true later h = (i, refl)
    go false later h = later h

pub place_with : (words : Texts) (text : List ℕ) → HasPlace (with_text words text) text
place_with words text = go (has_text words text) refl
  where
    go : (t : Bool) → has_text words text ≡ t → HasPlace (if t then words else words ++ text ∷ []) text
    go true e = placed (bytes_eq text) 0 words e
    go false e = placed (bytes_eq text) 0 (words ++ text ∷ []) (has_more words text text ∙ ap (λ t. has_name words text || t) (same_bytes text) ∙ or_true (has_name words text))
      where
        or_true : (t : Bool) → (t || true) ≡ true
        or_true true = refl
        or_true false = refl

texts_more : (words texts : Texts) (text : List ℕ) → with_texts words (texts ++ (text ∷ [])) ≡ with_text (with_texts words texts) text
texts_more words [] text = refl
texts_more words (other ∷ texts) text = texts_more (with_text words other) texts text

-- ---- what is kept

-- the names in a text, the table with its words, and how many variables there may be
pub record Source : Type 0 where
  pub used : Texts
  pub known : Texts
  pub most : ℕ
  pub room : most * suc (length used) < 2 ^ 64

-- a name stands in the text, or is new with a number below this
abbrev IsFrom : Texts → ℕ → List ℕ → Type 0
IsFrom used next name = (has_name used name ≡ true) ⊎ ((k : ℕ) × (k < next) × (name ≡ new_name k))

-- no two names are one, and each can be written, unless there are too many
pub record Fine (s : Source) (f : Fresh) : Type 0 where
  pub same : f.used ≡ s.used
  pub few : length f.fresh ≤ length f.names
  pub next : f.next ≤ suc (length f.fresh * suc (length s.used))
  pub placed : AllOf (HasPlace (with_texts s.known f.fresh)) f.names
  pub numbered : AllOf (IsFrom s.used f.next) f.names
  pub distinct : length f.names ≤ s.most → AreDistinct f.names
  pub writable : length f.names ≤ s.most → AllOf IsName f.names

-- a variable of the text
pub record IsGiven (s : Source) (name : List ℕ) : Type 0 where
  pub writable : IsName name
  pub used : has_name s.used name ≡ true
  pub placed : HasPlace s.known name

-- what an expansion gives, and the variables of it
pub record Given {A : Type 0} (s : Source) (f : Fresh) (e : Expanded A) (ok : A → List ℕ → Type 0) : Type 0 where
  pub vs : List ℕ
  pub is : ok e.value vs
  pub met : met_after (length f.names) vs ≡ Some (length e.names.names)
  pub fine : Fine s e.names

-- the variable is the next one
next_met : (k : ℕ) → met_after k (k ∷ []) ≡ Some (suc k)
next_met k = ap (λ t. if t then Some k else if k == k then Some (suc k) else None) below ∙ ap (λ t. if t then Some (suc k) else None) equal
  where
    below : nat_lt k k ≡ false
    below = grind (arith, nat_tests)

    equal : (k == k) ≡ true
    equal = grind (arith, nat_tests)

old_met : (v k : ℕ) → v < k → met_after k (v ∷ []) ≡ Some k
old_met v k h = ap (λ t. if t then Some k else if v == k then Some (suc k) else None) (let e : nat_lt v k ≡ true = grind (arith, nat_tests) in e)

one_longer : (names : Texts) (name : List ℕ) → length (names ++ (name ∷ [])) ≡ suc (length names)
one_longer names name = let e : length (names ++ (name ∷ [])) ≡ length names + 1 = length-append names (name ∷ []) in omega arith

abbrev pub IsVar : Atom → List ℕ → Type 0
IsVar a vs = (v : ℕ) × (a ≡ Var v) × (vs ≡ v ∷ [])

pub named_given : (s : Source) (f : Fresh) (name : List ℕ) → Fine s f → IsGiven s name → Given s f (atom_of s.known (a_variable name) f) IsVar
named_given s f name fine g = go (has_name f.names name) refl
  where
    -- the names once this one was met
    with : Bool → Fresh
    with t = if t then f else record f { names = f.names ++ name ∷ [] }

    go : (t : Bool) → has_name f.names name ≡ t → Given s f (expanded (Var (place_of_name (with t).names name)) (with t)) IsVar
    go true e =
        record {
          vs = place_of_name f.names name ∷ [];
          is = (place_of_name f.names name, refl, refl);
          met = old_met (place_of_name f.names name) (length f.names) (place_in f.names name e);
          fine = fine;
        }
    go false e =
        record {
          vs = length f.names ∷ [];
          is = (length f.names, ap Var (place_new f.names name e), refl);
          met = next_met (length f.names) ∙ ap Some (sym (one_longer f.names name));
          fine = record {
            same = fine.same;
            few = omega (arith, fine.few, one_longer f.names name);
            next = fine.next;
            placed = all_joined (HasPlace (with_texts s.known f.fresh)) f.names (name ∷ []) fine.placed ((g.placed.0, kept_by_all s.known f.fresh name g.placed.0 g.placed.1), tt);
            numbered = all_joined (IsFrom s.used f.next) f.names (name ∷ []) fine.numbered (inl g.used, tt);
            distinct = λ l. distinct_more f.names name (fine.distinct (omega (arith, one_longer f.names name, l))) e;
            writable = λ l. all_joined IsName f.names (name ∷ []) (fine.writable (omega (arith, one_longer f.names name, l))) (g.writable, tt);
          };
        }

-- another name than each of these, where it is free and its number is higher
never_from : (used names : Texts) (n next : ℕ) → next ≤ n → n < 2 ^ 64 → has_name used (new_name n) ≡ false → AllOf (IsFrom used next) names → has_name names (new_name n) ≡ false
never_from used [] n next l small free all = refl
never_from used (name ∷ names) n next l small free all = ap (λ t. t || has_name names (new_name n)) (apart all.0) ∙ never_from used names n next l small free all.1
  where
    apart : IsFrom used next name → bytes_eq (new_name n) name ≡ false
    apart (inl there) = go (bytes_eq (new_name n) name) refl
      where
        go : (t : Bool) → bytes_eq (new_name n) name ≡ t → bytes_eq (new_name n) name ≡ false
        go true e = absurd (differ (sym free ∙ ap (has_name used) ((bytes_eq-Decides (new_name n) name).0 e) ∙ there))
        go false e = e
    apart (inr x) = ap (bytes_eq (new_name n)) x.2 ∙ other_new x.0 n (omega (arith, x.1)) small

pub fresh_given : (s : Source) (f : Fresh) → Fine s f → Given s f (fresh_variable f) IsVar
fresh_given s f fine =
    record {
      vs = length f.names ∷ [];
      is = (length f.names, refl, refl);
      met = next_met (length f.names) ∙ ap Some (sym (one_longer f.names name));
      fine = record {
        same = fine.same;
        few = omega (arith, fine.few, one_longer f.names name, one_longer f.fresh name);
        next = omega (arith, last, product, one_longer f.fresh name, grown);
        placed = all_joined (HasPlace table) f.names (name ∷ []) (all_said (HasPlace (with_texts s.known f.fresh)) (HasPlace table) f.names kept fine.placed) (new_place, tt);
        numbered = all_joined (IsFrom s.used (suc n)) f.names (name ∷ []) (all_said (IsFrom s.used f.next) (IsFrom s.used (suc n)) f.names later fine.numbered) (inr (n, omega arith, refl), tt);
        distinct = λ l. distinct_more f.names name (fine.distinct (omega (arith, one_longer f.names name, l))) (never_from s.used f.names n f.next from (small l) (free l) fine.numbered);
        writable = λ l. all_joined IsName f.names (name ∷ []) (fine.writable (omega (arith, one_longer f.names name, l))) (new_is_name n (small l), tt);
      };
    }
  where
    n : ℕ
    n = free_number (length f.used) f.used f.next

    name : List ℕ
    name = new_name n

    table : Texts
    table = with_texts s.known (f.fresh ++ (name ∷ []))

    from : f.next ≤ n
    from = free_from (length f.used) f.used f.next

    last : n ≤ f.next + length s.used
    last = omega (arith, free_within (length f.used) f.used f.next, ap (λ u. length u) fine.same)

    product : suc (length f.fresh) * suc (length s.used) ≡ length f.fresh * suc (length s.used) + suc (length s.used)
    product = suc-mul (length f.fresh) (suc (length s.used))

    grown : length (f.fresh ++ (name ∷ [])) * suc (length s.used) ≡ suc (length f.fresh) * suc (length s.used)
    grown = ap (λ l. l * suc (length s.used)) (one_longer f.fresh name)

    bound : length (f.names ++ (name ∷ [])) ≤ s.most → f.next + length s.used < 2 ^ 64
    bound l =
        let whole : suc (length f.fresh) * suc (length s.used) ≤ s.most * suc (length s.used) = mul-le-mul_right (suc (length s.used)) (omega (arith, l, fine.few, one_longer f.names name)) in
        omega (arith, whole, product, fine.next, s.room)

    small : length (f.names ++ (name ∷ [])) ≤ s.most → n < 2 ^ 64
    small l = omega (arith, bound l, last)

    free : length (f.names ++ (name ∷ [])) ≤ s.most → has_name s.used name ≡ false
    free l = ap (λ u. has_name u name) (sym fine.same) ∙ free_is_free (length f.used) f.used f.next (omega arith) (omega (arith, bound l, ap (λ u. length u) fine.same))

    kept : (text : List ℕ) → HasPlace (with_texts s.known f.fresh) text → HasPlace table text
    kept text h = subst (λ t. HasPlace t text) (sym (texts_more s.known f.fresh name)) (h.0, kept_by_one (with_texts s.known f.fresh) text name h.0 h.1)

    new_place : HasPlace table name
    new_place = subst (λ t. HasPlace t name) (sym (texts_more s.known f.fresh name)) (place_with (with_texts s.known f.fresh) name)

    later : (text : List ℕ) → IsFrom s.used f.next text → IsFrom s.used (suc n) text
    later text (inl there) = inl there
    later text (inr x) = inr (x.0, omega (arith, x.1, from), x.2)
