-- The names that an expansion keeps, and the definition's.
use Rattle.std.proofs.Common.{◌≡◌, ℕ, suc, ◌+◌, ◌-◌, ◌<◌, ◌≤◌, ◌==◌, ◌||◌, Bool, true, false, cond, not, nat_lt, List, [], ◌∷◌, ◌++◌, length, map, flat_map, refl, sym, ap, ◌∙◌, arith, add-one, append-nil}
use Rattle.std.specs.List.{list_any, list_all, position_or_len}
use Rattle.std.specs.Str.{bytes_eq}
use Rattle.std.proofs.lemmas.Bool.{false≢true, ltb-true, lt-ltb, eqb-true}
use Rattle.std.proofs.lemmas.Grind.{flat_map-append}
use Rattle.std.proofs.lemmas.List.{length-map, map_push}
use Rattle.std.proofs.lemmas.Slice.Eq.{bytes_eq-Decides}
use Rattle.indexmap.specs.IndexSet.{insert_key}
use Rattle.soar_sym.specs.Words.{text_of}
use Rattle.soar_rule.specs.declared.cond.Atom.{Atom}
use Rattle.soar_rule.specs.declared.cond.Atom.TheVariants.{Var}
use Rattle.defs_read.specs.FieldExpansion.{atom_of}
use Rattle.defs_read.specs.FreshNames.{Fresh, Expanded, expanded, has_name, place_of_name, new_name, free_number, fresh_variable}
use Rattle.defs_read.specs.Grammar.{a_variable}
use Rattle.read_parts.specs.Naming.{name_eq, name_text, new_text, used_texts, fresh_seen, is_kept, are_kept}
use Rattle.read_parts.specs.Using.{is_variable}
use Rattle.read_parts.specs.Words.{is_own}
use Rattle.read_parts.specs.declared.names.Name.{Name}
use Rattle.read_parts.specs.declared.names.Name.TheVariants.{Given, New}
use Rattle.read_parts.specs.declared.names.Names.{Names}
use Rattle.read_parts.specs.declared.source.Source.{Source}
use Rattle.read_parts.proofs.TextLemmas.{and-true, both-true, same_own}
use Rattle.read_parts.proofs.UseLemmas.{all_inserted, all_mapped}

-- ---- the place of a name

pub same-bytes : (a b : List ℕ) → bytes_eq a b ≡ bytes_eq b a
same-bytes a b = by (bytes_eq a b) (bytes_eq b a) refl refl
  where
    by : (x y : Bool) → bytes_eq a b ≡ x → bytes_eq b a ≡ y → x ≡ y
    by true true p q = refl
    by false false p q = refl
    by true false p q = absurd (false≢true (sym q ∙ (bytes_eq-Decides b a).1 (sym ((bytes_eq-Decides a b).0 p))))
    by false true p q = absurd (false≢true (sym p ∙ (bytes_eq-Decides a b).1 (sym ((bytes_eq-Decides b a).0 q))))

-- the texts are one only where the names are
same_name : (source : Source) (next w : ℕ) (n : Name) → is_kept source next (Given w) ≡ true → is_kept source next n ≡ true
    → bytes_eq (text_of source.table.now w) (name_text source.table.now n) ≡ name_eq (Given w) n
same_name source next w (Given v) used kept = same_own source.table.now w v (and-true used).0 (and-true kept).0
same_name source next w (New k) used kept = by (bytes_eq (text_of source.table.now w) (new_name k)) refl
  where
    by : (b : Bool) → bytes_eq (text_of source.table.now w) (new_name k) ≡ b → b ≡ false
    by false e = refl
    by true e =
        let there : has_name (used_texts source) (text_of source.table.now w) ≡ true = (and-true {a = is_own source.table.now w} {b = has_name (used_texts source) (text_of source.table.now w)} used).1 in
        let free : not (has_name (used_texts source) (new_name k)) ≡ true = (and-true {a = nat_lt k next} {b = not (has_name (used_texts source) (new_name k))} kept).1 in
        absurd (false≢true (ap not (sym (sym (ap (has_name (used_texts source)) ((bytes_eq-Decides (text_of source.table.now w) (new_name k)).0 e)) ∙ there)) ∙ free))

name_place : (source : Source) (next w : ℕ) (keys : List Name) → is_kept source next (Given w) ≡ true → list_all (is_kept source next) keys ≡ true
    → place_of_name (map (name_text source.table.now) keys) (text_of source.table.now w) ≡ position_or_len (name_eq (Given w)) keys
name_place source next w [] used kept = refl
name_place source next w (n ∷ keys) used kept =
    let both : (is_kept source next n ≡ true) × (list_all (is_kept source next) keys ≡ true) = and-true kept in
    let head : bytes_eq (name_text source.table.now n) (text_of source.table.now w) ≡ name_eq (Given w) n = same-bytes (name_text source.table.now n) (text_of source.table.now w) ∙ same_name source next w n used both.0 in
    by (bytes_eq (name_text source.table.now n) (text_of source.table.now w)) (name_eq (Given w) n) head (name_place source next w keys used both.1)
  where
    by : (a b : Bool) → a ≡ b → place_of_name (map (name_text source.table.now) keys) (text_of source.table.now w) ≡ position_or_len (name_eq (Given w)) keys
        → cond a 0 (suc (place_of_name (map (name_text source.table.now) keys) (text_of source.table.now w))) ≡ cond (not b) (1 + position_or_len (name_eq (Given w)) keys) 0
    by true true e later = refl
    by false false e later = omega (arith, later)
    by true false e later = absurd (cc)
    by false true e later = absurd (cc)

name_there : (source : Source) (next w : ℕ) (keys : List Name) → is_kept source next (Given w) ≡ true → list_all (is_kept source next) keys ≡ true
    → has_name (map (name_text source.table.now) keys) (text_of source.table.now w) ≡ list_any (name_eq (Given w)) keys
name_there source next w [] used kept = refl
name_there source next w (n ∷ keys) used kept =
    let both : (is_kept source next n ≡ true) × (list_all (is_kept source next) keys ≡ true) = and-true kept in
    ap (λ b. b || has_name (map (name_text source.table.now) keys) (text_of source.table.now w)) (same_name source next w n used both.0)
    ∙ ap (λ b. name_eq (Given w) n || b) (name_there source next w keys used both.1)

pub place_last : (names : List (List ℕ)) (text : List ℕ) → has_name names text ≡ false → place_of_name (names ++ text ∷ []) text ≡ length names
place_last [] text none = ap (λ b. cond b 0 1) ((bytes_eq-Decides text text).1 refl)
place_last (name ∷ names) text none = by (bytes_eq text name) refl none (place_last names text)
  where
    by : (b : Bool) → bytes_eq text name ≡ b → (bytes_eq text name || has_name names text) ≡ false → (has_name names text ≡ false → place_of_name (names ++ text ∷ []) text ≡ length names)
        → place_of_name (name ∷ (names ++ text ∷ [])) text ≡ suc (length names)
    by true e none later = absurd (cc)
    by false e none later = ap (λ b. cond b 0 (suc (place_of_name (names ++ text ∷ []) text))) (same-bytes name text ∙ e) ∙ ap suc (later (sym (ap (λ b. b || has_name names text) e) ∙ none))

pub position_none : {X : Type 0} (p : X → Bool) (xs : List X) → list_any p xs ≡ false → position_or_len p xs ≡ length xs
position_none p [] none = refl
position_none p (x ∷ xs) none = by (p x) none (position_none p xs)
  where
    by : (b : Bool) → (b || list_any p xs) ≡ false → (list_any p xs ≡ false → position_or_len p xs ≡ length xs) → cond (not b) (1 + position_or_len p xs) 0 ≡ suc (length xs)
    by true none later = absurd (cc)
    by false none later = omega (arith, later none)

-- ---- the variables of names

fresh_from : Source → List Name → ℕ → Fresh
fresh_from source keys next = record { used = used_texts source; names = map (name_text source.table.now) keys; fresh = flat_map new_text keys; next = next }

-- a name of the text
pub named_after : (source : Source) (names new : Names) (w : ℕ) → is_variable source.table.now source.uses.now.used w ≡ true → are_kept source names ≡ true
    → new.list.keys ≡ insert_key name_eq names.list.keys (Given w) → new.next ≡ names.next
    → atom_of source.table.now (a_variable (text_of source.table.now w)) (fresh_seen source names) ≡ expanded (Var (position_or_len (name_eq (Given w)) names.list.keys)) (fresh_seen source new)
unfolding fresh_from
named_after source names new w used kept keys next =
    by (list_any (name_eq (Given w)) names.list.keys) refl (name_there source names.next w names.list.keys used kept) (name_place source names.next w names.list.keys used kept)
    ∙ ap (λ f. expanded (Var (position_or_len (name_eq (Given w)) names.list.keys)) f) (ap (λ n. fresh_from source (insert_key name_eq names.list.keys (Given w)) n) (sym next) ∙ ap (λ ks. fresh_from source ks new.next) (sym keys))
  where
    text : List ℕ
    text = text_of source.table.now w

    texts : List (List ℕ)
    texts = map (name_text source.table.now) names.list.keys

    grown : Fresh
    grown = record (fresh_seen source names) { names = texts ++ text ∷ [] }

    by : (b : Bool) → list_any (name_eq (Given w)) names.list.keys ≡ b
        → has_name (map (name_text source.table.now) names.list.keys) (text_of source.table.now w) ≡ list_any (name_eq (Given w)) names.list.keys
        → place_of_name (map (name_text source.table.now) names.list.keys) (text_of source.table.now w) ≡ position_or_len (name_eq (Given w)) names.list.keys
        → atom_of source.table.now (a_variable (text_of source.table.now w)) (fresh_seen source names)
        ≡ expanded (Var (position_or_len (name_eq (Given w)) names.list.keys)) (fresh_from source (insert_key name_eq names.list.keys (Given w)) names.next)
    by true e there place =
        ap (λ b. let g = cond b (fresh_seen source names) (grown) in expanded (Var (place_of_name g.names text)) g) (there ∙ e)
        ∙ ap (λ n. expanded (Var n) (fresh_seen source names)) place
        ∙ ap (λ b. expanded (Var (position_or_len (name_eq (Given w)) names.list.keys)) (fresh_from source (cond b names.list.keys (names.list.keys ++ Given w ∷ [])) names.next)) (sym e)
    by false e there place =
        ap (λ b. let g = cond b (fresh_seen source names) (grown) in expanded (Var (place_of_name g.names text)) g) (there ∙ e)
        ∙ ap (λ n. expanded (Var n) grown) (place_last texts text (there ∙ e) ∙ length-map names.list.keys (name_text source.table.now) ∙ sym (position_none (name_eq (Given w)) names.list.keys e))
        ∙ ap (λ ts. expanded (Var (position_or_len (name_eq (Given w)) names.list.keys)) (record (fresh_seen source names) { names = ts })) (sym (map_push (name_text source.table.now) names.list.keys (Given w)))
        ∙ ap (λ ts. expanded (Var (position_or_len (name_eq (Given w)) names.list.keys)) (record { used = used_texts source; names = map (name_text source.table.now) (names.list.keys ++ Given w ∷ []); fresh = ts; next = names.next }))
        (sym (flat_map-append new_text names.list.keys (Given w ∷ []) ∙ append-nil (flat_map new_text names.list.keys)))
        ∙ ap (λ b. expanded (Var (position_or_len (name_eq (Given w)) names.list.keys)) (fresh_from source (cond b names.list.keys (names.list.keys ++ Given w ∷ [])) names.next)) (sym e)

pub named_kept : (source : Source) (names new : Names) (w : ℕ) → is_variable source.table.now source.uses.now.used w ≡ true → are_kept source names ≡ true
    → new.list.keys ≡ insert_key name_eq names.list.keys (Given w) → new.next ≡ names.next → are_kept source new ≡ true
named_kept source names new w used kept keys next =
    ap (λ n. list_all (is_kept source n) new.list.keys) next ∙ ap (list_all (is_kept source names.next)) keys ∙ all_inserted name_eq (is_kept source names.next) names.list.keys (Given w) kept used

-- ---- new names

pub free_next : (used : List (List ℕ)) (m i : ℕ) (n : ℕ) → i < m → has_name used (new_name n) ≡ true → free_number (m - i) used n ≡ free_number (m - (i + 1)) used (n + 1)
free_next used m i n less there =
    let k : m - i ≡ suc (m - (i + 1)) = omega arith in
    ap (λ j. free_number j used n) k ∙ step (m - (i + 1))
  where
    step : (k : ℕ) → free_number (suc k) used n ≡ free_number k used (n + 1)
    step k = ap (λ (b : Bool). elim b [ true ↦ free_number k used (suc n) | false ↦ n ]) there ∙ ap (free_number k used) (sym (add-one n))

pub free_here : (used : List (List ℕ)) (m i : ℕ) (n : ℕ) → i < m → has_name used (new_name n) ≡ false → free_number (m - i) used n ≡ n
free_here used m i n less free =
    let k : m - i ≡ suc (m - (i + 1)) = omega arith in
    ap (λ j. free_number j used n) k ∙ ap (λ (b : Bool). elim b [ true ↦ free_number (m - (i + 1)) used (suc n) | false ↦ n ]) free

pub free_last : (used : List (List ℕ)) (m i : ℕ) (n : ℕ) → m < i + 1 → free_number (m - i) used n ≡ n
free_last used m i n over = let k : m - i ≡ 0 = omega arith in ap (λ j. free_number j used n) k

-- a new name stands among the others nowhere
new_missing : (source : Source) (next n : ℕ) (keys : List Name) → list_all (is_kept source next) keys ≡ true → next ≤ n → list_any (name_eq (New n)) keys ≡ false
new_missing source next n [] kept later = refl
new_missing source next n (Given w ∷ keys) kept later = new_missing source next n keys (and-true {a = is_kept source next (Given w)} {b = list_all (is_kept source next) keys} kept).1 later
new_missing source next n (New m ∷ keys) kept later =
    by (n == m) refl (new_missing source next n keys (and-true {a = is_kept source next (New m)} {b = list_all (is_kept source next) keys} kept).1 later)
    (ltb-true m next (and-true {a = nat_lt m next} {b = not (has_name (used_texts source) (new_name m))} (and-true {a = is_kept source next (New m)} {b = list_all (is_kept source next) keys} kept).0).0)
  where
    by : (b : Bool) → (n == m) ≡ b → list_any (name_eq (New n)) keys ≡ false → m < next → (b || list_any (name_eq (New n)) keys) ≡ false
    by false e none less = none
    by true e none less = absurd (omega (arith, eqb-true n m e))

kept_later : (source : Source) (next later : ℕ) (n : Name) → next ≤ later → is_kept source next n ≡ true → is_kept source later n ≡ true
kept_later source next later (Given w) more kept = kept
kept_later source next later (New n) more kept =
    let both : (nat_lt n next ≡ true) × (not (has_name (used_texts source) (new_name n)) ≡ true) = and-true {a = nat_lt n next} {b = not (has_name (used_texts source) (new_name n))} kept in
    both-true (lt-ltb n later (omega (arith, ltb-true n next both.0))) both.1

pub fresh_after : (source : Source) (names new : Names) (n : ℕ) → are_kept source names ≡ true → names.next ≤ n → n ≡ free_number (length (used_texts source)) (used_texts source) names.next
    → new.list.keys ≡ insert_key name_eq names.list.keys (New n) → new.next ≡ n + 1
    → fresh_variable (fresh_seen source names) ≡ expanded (Var (position_or_len (name_eq (New n)) names.list.keys)) (fresh_seen source new)
unfolding fresh_from
fresh_after source names new n kept later number keys next =
    ap found (sym number)
    ∙ ap (λ p. expanded (Var p) grown) (length-map names.list.keys (name_text source.table.now) ∙ sym (position_none (name_eq (New n)) names.list.keys missing))
    ∙ ap (λ f. expanded (Var place) f) (ap (λ ts. record { used = used_texts source; names = ts; fresh = flat_map new_text names.list.keys ++ new_name n ∷ []; next = suc n }) (sym (map_push (name_text source.table.now) names.list.keys (New n)))
    ∙ ap (λ ts. record { used = used_texts source; names = map (name_text source.table.now) (names.list.keys ++ New n ∷ []); fresh = ts; next = suc n }) (sym (flat_map-append new_text names.list.keys (New n ∷ [])))
    ∙ ap (fresh_from source (names.list.keys ++ New n ∷ [])) (sym (add-one n) ∙ sym next)
    ∙ ap (λ ks. fresh_from source ks new.next) (sym (keys ∙ ap (λ b. cond b names.list.keys (names.list.keys ++ New n ∷ [])) missing)))
  where
    place : ℕ
    place = position_or_len (name_eq (New n)) names.list.keys

    missing : list_any (name_eq (New n)) names.list.keys ≡ false
    missing = new_missing source names.next n names.list.keys kept later

    found : ℕ → Expanded Atom
    found m = expanded (Var (length (map (name_text source.table.now) names.list.keys)))
        (record { used = used_texts source; names = map (name_text source.table.now) names.list.keys ++ new_name m ∷ []; fresh = flat_map new_text names.list.keys ++ new_name m ∷ []; next = suc m })

    grown : Fresh
    grown = record { used = used_texts source; names = map (name_text source.table.now) names.list.keys ++ new_name n ∷ []; fresh = flat_map new_text names.list.keys ++ new_name n ∷ []; next = suc n }

pub fresh_kept : (source : Source) (names new : Names) (n : ℕ) → are_kept source names ≡ true → names.next ≤ n → has_name (used_texts source) (new_name n) ≡ false
    → new.list.keys ≡ insert_key name_eq names.list.keys (New n) → new.next ≡ n + 1 → are_kept source new ≡ true
fresh_kept source names new n kept later free keys next =
    ap (λ m. list_all (is_kept source m) new.list.keys) next ∙ ap (list_all (is_kept source (n + 1))) keys
    ∙ all_inserted name_eq (is_kept source (n + 1)) names.list.keys (New n) (all_mapped (is_kept source names.next) (is_kept source (n + 1)) (λ m. kept_later source names.next (n + 1) m (omega (arith, later))) names.list.keys kept)
    (both-true (lt-ltb n (n + 1) (omega arith)) (ap not free))
