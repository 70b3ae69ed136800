-- The words of a text, as they are gathered.
use Rattle.std.proofs.Common.{◌≡◌, ℕ, ◌==◌, ◌||◌, ◌++◌, Bool, true, false, cond, List, [], ◌∷◌, filter, refl, sym, ap, ◌∙◌}
use Rattle.std.specs.List.{list_any, list_all}
use Rattle.std.specs.Str.{bytes_eq}
use Rattle.std.proofs.lemmas.Bool.{eqb-true, false≢true}
use Rattle.std.proofs.lemmas.List.{map-append}
use Rattle.std.proofs.lemmas.Slice.Eq.{bytes_eq-Decides}
use Rattle.indexmap.specs.IndexSet.{insert_key}
use Rattle.soar_sym.specs.Words.{Texts, text_of}
use Rattle.defs_read.specs.FreshNames.{has_name}
use Rattle.read_parts.specs.Using.{is_variable, AreUses}
use Rattle.read_parts.specs.Words.{has_word, are_words_known, is_own, texts_of, begins_dollar}
use Rattle.read_parts.specs.declared.uses.Uses.{Uses}
use Rattle.read_parts.proofs.TextLemmas.{and-true, both-true}

-- ---- tests of lists

-- what holds of each holds of the number among them
pub all_among : (p : ℕ → Bool) (n : ℕ) (xs : List ℕ) → list_any (λ x. n == x) xs ≡ true → list_all p xs ≡ true → p n ≡ true
all_among p n [] any all = absurd (cc)
all_among p n (x ∷ xs) any all = by (n == x) refl any (λ h. all_among p n xs h (and-true all).1)
  where
    by : (b : Bool) → (n == x) ≡ b → (b || list_any (λ y. n == y) xs) ≡ true → (list_any (λ y. n == y) xs ≡ true → p n ≡ true) → p n ≡ true
    by true e h later = ap p (eqb-true n x e) ∙ (and-true all).0
    by false e h later = later h

pub all_mapped : {X : Type 0} (p q : X → Bool) → ((x : X) → p x ≡ true → q x ≡ true) → (xs : List X) → list_all p xs ≡ true → list_all q xs ≡ true
all_mapped p q more [] all = refl
all_mapped p q more (x ∷ xs) all = both-true (more x (and-true all).0) (all_mapped p q more xs (and-true all).1)

pub all_push : {X : Type 0} (p : X → Bool) (xs : List X) (x : X) → list_all p xs ≡ true → p x ≡ true → list_all p (xs ++ x ∷ []) ≡ true
all_push p [] x all one = both-true one refl
all_push p (y ∷ xs) x all one = both-true (and-true all).0 (all_push p xs x (and-true all).1 one)

pub all_inserted : {X : Type 0} (eq : X → X → Bool) (p : X → Bool) (keys : List X) (k : X) → list_all p keys ≡ true → p k ≡ true → list_all p (insert_key eq keys k) ≡ true
all_inserted eq p keys k all one = by (list_any (eq k) keys)
  where
    by : (b : Bool) → list_all p (cond b keys (keys ++ k ∷ [])) ≡ true
    by true = all
    by false = all_push p keys k all one

any_more : {X : Type 0} (p : X → Bool) (xs ys : List X) → list_any p xs ≡ true → list_any p (xs ++ ys) ≡ true
any_more p [] ys h = absurd (cc)
any_more p (x ∷ xs) ys h = by (p x) h (any_more p xs ys)
  where
    by : (b : Bool) → (b || list_any p xs) ≡ true → (list_any p xs ≡ true → list_any p (xs ++ ys) ≡ true) → (b || list_any p (xs ++ ys)) ≡ true
    by true h later = refl
    by false h later = later h

any_last : {X : Type 0} (p : X → Bool) (xs : List X) (x : X) → p x ≡ true → list_any p (xs ++ x ∷ []) ≡ true
any_last p [] x h = ap (λ b. b || false) h
any_last p (y ∷ xs) x h = by (p y) (any_last p xs x h)
  where
    by : (b : Bool) → list_any p (xs ++ x ∷ []) ≡ true → (b || list_any p (xs ++ x ∷ [])) ≡ true
    by true later = refl
    by false later = later

-- ---- a variable more

filter_push : {X : Type 0} (p : X → Bool) (xs : List X) (x : X) → filter p (xs ++ x ∷ []) ≡ cond (p x) (filter p xs ++ x ∷ []) (filter p xs)
filter_push p [] x = by (p x)
  where
    by : (b : Bool) → cond b (x ∷ []) [] ≡ cond b ([] ++ x ∷ []) []
    by true = refl
    by false = refl
filter_push p (y ∷ xs) x = by (p y) (p x) (filter_push p xs x)
  where
    by : (a b : Bool) → filter p (xs ++ x ∷ []) ≡ cond b (filter p xs ++ x ∷ []) (filter p xs)
        → cond a (y ∷ filter p (xs ++ x ∷ [])) (filter p (xs ++ x ∷ [])) ≡ cond b (cond a (y ∷ filter p xs) (filter p xs) ++ x ∷ []) (cond a (y ∷ filter p xs) (filter p xs))
    by true true e = ap (λ zs. y ∷ zs) e
    by true false e = ap (λ zs. y ∷ zs) e
    by false true e = e
    by false false e = e

variable_kept : (words : Texts) (used : List ℕ) (w k : ℕ) → is_variable words used k ≡ true → is_variable words (used ++ w ∷ []) k ≡ true
variable_kept words used w k h =
    let both : (is_own words k ≡ true) × (has_name (texts_of words used) (text_of words k) ≡ true) = and-true h in
    both-true both.0 (ap (λ texts. has_name texts (text_of words k)) (map-append (text_of words) used (w ∷ [])) ∙ any_more (bytes_eq (text_of words k)) (texts_of words used) (text_of words w ∷ []) both.1)

variable_added : (words : Texts) (used : List ℕ) (w : ℕ) → is_own words w ≡ true → is_variable words (used ++ w ∷ []) w ≡ true
variable_added words used w own =
    both-true own (ap (λ texts. has_name texts (text_of words w)) (map-append (text_of words) used (w ∷ []))
    ∙ any_last (bytes_eq (text_of words w)) (texts_of words used) (text_of words w) ((bytes_eq-Decides (text_of words w) (text_of words w)).1 refl))

variables_more : (words : Texts) (eq : ℕ → ℕ → Bool) (keys used : List ℕ) (w : ℕ) → list_all (is_variable words used) keys ≡ true → is_own words w ≡ true
    → list_all (is_variable words (used ++ w ∷ [])) (insert_key eq keys w) ≡ true
variables_more words eq keys used w all own =
    all_inserted eq (is_variable words (used ++ w ∷ [])) keys w (all_mapped (is_variable words used) (is_variable words (used ++ w ∷ [])) (variable_kept words used w) keys all) (variable_added words used w own)

pub record HasVariable (words : Texts) (old new : Uses) (eq : ℕ → ℕ → Bool) (w : ℕ) : Type 0 where
  pub own : is_own words w ≡ true
  pub variables : new.variables.keys ≡ insert_key eq old.variables.keys w
  pub used : new.used ≡ old.used ++ w ∷ []

pub with_dollar : (words : Texts) (old new : Uses) (eq : ℕ → ℕ → Bool) (w : ℕ) → AreUses words old → HasVariable words old new eq w → begins_dollar (text_of words w) ≡ true → new.dollars ≡ old.dollars ++ w ∷ [] → AreUses words new
with_dollar words old new eq w are has dollar dollars = record {
  variables = ap (list_all (is_variable words new.used)) has.variables ∙ ap (λ used. list_all (is_variable words used) (insert_key eq old.variables.keys w)) has.used ∙ variables_more words eq old.variables.keys old.used w are.variables has.own;
  known = ap (are_words_known words) has.used ∙ all_push (has_word words) old.used w are.known (and-true has.own).0;
  dollars = dollars ∙ ap (λ ds. ds ++ w ∷ []) are.dollars ∙ sym (ap (filter (λ v. begins_dollar (text_of words v))) has.used ∙ filter_push (λ v. begins_dollar (text_of words v)) old.used w ∙ ap (λ b. cond b (filter (λ v. begins_dollar (text_of words v)) old.used ++ w ∷ []) (filter (λ v. begins_dollar (text_of words v)) old.used)) dollar);
}

pub without_dollar : (words : Texts) (old new : Uses) (eq : ℕ → ℕ → Bool) (w : ℕ) → AreUses words old → HasVariable words old new eq w → begins_dollar (text_of words w) ≡ false → new.dollars ≡ old.dollars → AreUses words new
without_dollar words old new eq w are has dollar dollars = record {
  variables = ap (list_all (is_variable words new.used)) has.variables ∙ ap (λ used. list_all (is_variable words used) (insert_key eq old.variables.keys w)) has.used ∙ variables_more words eq old.variables.keys old.used w are.variables has.own;
  known = ap (are_words_known words) has.used ∙ all_push (has_word words) old.used w are.known (and-true has.own).0;
  dollars = dollars ∙ are.dollars ∙ sym (ap (filter (λ v. begins_dollar (text_of words v))) has.used ∙ filter_push (λ v. begins_dollar (text_of words v)) old.used w ∙ ap (λ b. cond b (filter (λ v. begins_dollar (text_of words v)) old.used ++ w ∷ []) (filter (λ v. begins_dollar (text_of words v)) old.used)) dollar);
}

-- ---- the words whose texts begin with `$`

pub all_filtered : {X : Type 0} (p q : X → Bool) (xs : List X) → list_all p xs ≡ true → list_all p (filter q xs) ≡ true
all_filtered p q [] all = refl
all_filtered p q (x ∷ xs) all = by (q x) (and-true all).0 (all_filtered p q xs (and-true all).1)
  where
    by : (b : Bool) → p x ≡ true → list_all p (filter q xs) ≡ true → list_all p (cond b (x ∷ filter q xs) (filter q xs)) ≡ true
    by true one rest = both-true one rest
    by false one rest = rest

-- only among them is a text that begins so
pub dollars_enough : (words : Texts) (used : List ℕ) (name : List ℕ) → begins_dollar name ≡ true
    → has_name (texts_of words (filter (λ w. begins_dollar (text_of words w)) used)) name ≡ has_name (texts_of words used) name
dollars_enough words [] name dollar = refl
dollars_enough words (w ∷ used) name dollar = by (begins_dollar (text_of words w)) refl (bytes_eq name (text_of words w)) refl (dollars_enough words used name dollar)
  where
    by : (b : Bool) → begins_dollar (text_of words w) ≡ b → (e : Bool) → bytes_eq name (text_of words w) ≡ e
        → has_name (texts_of words (filter (λ v. begins_dollar (text_of words v)) used)) name ≡ has_name (texts_of words used) name
        → has_name (texts_of words (cond b (w ∷ filter (λ v. begins_dollar (text_of words v)) used) (filter (λ v. begins_dollar (text_of words v)) used))) name ≡ (bytes_eq name (text_of words w) || has_name (texts_of words used) name)
    by true begins e same later = ap (λ b. bytes_eq name (text_of words w) || b) later
    by false begins false same later = later ∙ ap (λ b. b || has_name (texts_of words used) name) (sym same)
    by false begins true same later = absurd (false≢true (sym begins ∙ ap begins_dollar (sym ((bytes_eq-Decides name (text_of words w)).0 same)) ∙ dollar))
