-- What is read can be printed and read back.
use Rattle.std.specs.Prelude.{flat_map, map, codes, unwrap_or, IsUtf8}
use Rattle.std.specs.Str.{bytes_eq}
use Rattle.std.proofs.Common.{◌≡◌, refl, sym, ◌∙◌, ap, ap₂, subst, true, false, [], ◌∷◌, ◌++◌, List, ℕ, zero, suc, Bool, ◌||◌, ◌*◌, ◌+◌, ◌-◌, ◌<◌, ◌≤◌, ◌^◌, Option, Some, None, length, length-append, arith}
use Rattle.std.proofs.lemmas.Nat.{mul-le}
use Rattle.soar_sym.specs.Words.{Texts, architecture, with_text, with_texts, place_of, text_of}
use Rattle.soar_sym.specs.declared.symbol.Sym.TheVariants.{Word}
use Rattle.soar_rule.specs.declared.production.Kind.{Kind}
use Rattle.soar_rule.specs.declared.production.Kind.TheVariants as kind
use Rattle.soar_rule.specs.Conditions.{Condition, all_of}
use Rattle.soar_rule.specs.Productions.{ActionOf}
use Rattle.soar_rule.specs.Variables.{variables_of_conditions, variables_of_action}
use Rattle.defs_text.specs.Lexing.{Saying, mark, arrow, open_set, close_set, sign, variable_named, integer, word_of, documentation, Spelled, Piece, token, nothing, fault, front_at, piece_of, with_token, Lexed, lexed_from, lexed}
use Rattle.defs_text.specs.Numbered.{word_in, texts_before, token_texts, words_after}
use Rattle.defs_read.specs.ActionExpansion.{actions_of}
use Rattle.defs_read.specs.ConditionExpansion.{part_conditions, parts_conditions}
use Rattle.defs_read.specs.Expansion.{name_in, names_in, with_kind, kind_of, production_of}
use Rattle.defs_read.specs.FreshNames.{Fresh, has_name, Expanded}
use Rattle.defs_read.specs.Grammar.{named, part_and, Flag, operator_support, instance_support, is_default, is_chunk, Tree}
use Rattle.defs_read.specs.PrintingConditions.{bare_text}
use Rattle.defs_read.specs.Sayings.{IsWordPlaced}
use Rattle.defs_read.specs.Spelling.{bare_word, spelled_option, spelled_part, spelled_parts, spelled_action, flag_text, spelling}
use Rattle.reading_laws.specs.Lawful.{AllOf, IfThere}
use Rattle.reading_laws.specs.Printable.{IsWord, IsName, IsNaming, IsAny, AreDistinct, met_after}
use Rattle.reading_laws.specs.Refusals.{IsSpelled}
use Rattle.reading_laws.specs.Sound.{IsSound, AreSound}
use Rattle.reading_laws.specs.WayBack.{tokens_in, ReadIsPrintable}
use Rattle.reading_laws.proofs.ExactLaws.{read_is_spelled}
use Rattle.reading_laws.proofs.FineLaws.{HasPlace, Source, Fine, Given, all_joined, all_said, place_with}
use Rattle.reading_laws.proofs.GivenConditions.{AreListed, conditions_of, variables_of, some_of, part_given, parts_given}
use Rattle.reading_laws.proofs.GivenFields.{Later, IsOf, AreOf, all_front, all_behind, word_placed, constant_given, met_joined}
use Rattle.reading_laws.proofs.GivenMakes.{AreActions, actions_given}
use Rattle.reading_laws.proofs.SoundLaws.{run_is_utf8, texts_are_sound}
use Rattle.reading_laws.proofs.WordLaws.{same_bytes, kept_by_all}

-- ---- tokens of a text

-- a token takes a byte at least
few_tokens : (skip place : ℕ) (bytes : List ℕ) → length (lexed_from skip place bytes).tokens ≤ length bytes
few_tokens skip place [] = omega arith
few_tokens (suc skip) place (b ∷ bytes) = let l = few_tokens skip (suc place) bytes in omega arith
few_tokens zero place (b ∷ bytes) = go (piece_of (front_at b) place b bytes) (λ skip. few_tokens skip (suc place) bytes)
  where
    go : (p : Piece) → ((skip : ℕ) → length (lexed_from skip (suc place) bytes).tokens ≤ length bytes)
        → length (elim p as (λ _. Lexed) [
          | token says count ↦ with_token (record { says = says; start = place; end = place + count }) (lexed_from (count - 1) (suc place) bytes)
          | nothing count ↦ lexed_from (count - 1) (suc place) bytes
          | fault e ↦ record { tokens = []; fault = Some e }
        ]).tokens ≤ suc (length bytes)
    go (token says count) later = let l = later (count - 1) in omega arith
    go (nothing count) later = let l = later (count - 1) in omega arith
    go (fault e) later = omega arith

lexed_few : (text : List ℕ) → length (lexed text).tokens ≤ length text
unfolding lexed
lexed_few text = few_tokens 0 0 text

few_names : (tokens : List Spelled) → length (names_in (map (λ t. t.says) tokens)) ≤ length tokens
few_names [] = omega arith
few_names (t ∷ tokens) = let one = few t.says in omega (arith, one, few_names tokens, length-append (name_in t.says) (names_in (map (λ t. t.says) tokens)))
  where
    few : (says : Saying) → length (name_in says) ≤ 1
    few (variable_named name) = omega arith
    few _ = omega arith

-- texts that were read have their places
all_placed : (words texts : Texts) → AllOf (HasPlace (with_texts words texts)) texts
all_placed words [] = tt
all_placed words (text ∷ texts) =
    let p = place_with words text in ((p.0, kept_by_all (with_text words text) texts text p.0 p.1), all_placed (with_text words text) texts)

all_there : (names : Texts) → AllOf (λ name. has_name names name ≡ true) names
all_there [] = tt
all_there (x ∷ names) =
    (ap (λ t. t || has_name names x) (same_bytes x), all_said (λ name. has_name names name ≡ true) (λ name. has_name (x ∷ names) name ≡ true) names (λ name e. ap (λ t. bytes_eq name x || t) e ∙ or_true (bytes_eq name x)) (all_there names))
  where
    or_true : (t : Bool) → (t || true) ≡ true
    or_true true = refl
    or_true false = refl

tokens_of : (s : Source) (tokens : List Spelled) → AreSound (map (λ t. t.says) tokens) → AllOf (HasPlace s.known) (token_texts tokens) → AllOf (λ name. has_name s.used name ≡ true) (names_in (map (λ t. t.says) tokens)) → AreOf s (map (λ t. t.says) tokens)
tokens_of s [] sound placed used = tt
tokens_of s (t ∷ tokens) sound placed used = go t.says sound.0 placed used (λ p u. tokens_of s tokens sound.1 p u)
  where
    go : (says : Saying) → IsSound says → AllOf (HasPlace s.known) (texts_before says (token_texts tokens)) → AllOf (λ name. has_name s.used name ≡ true) (name_in says ++ names_in (map (λ t. t.says) tokens))
        → (AllOf (HasPlace s.known) (token_texts tokens) → AllOf (λ name. has_name s.used name ≡ true) (names_in (map (λ t. t.says) tokens)) → AreOf s (map (λ t. t.says) tokens))
        → IsOf s says × AreOf s (map (λ t. t.says) tokens)
    go (variable_named name) h p u later = (record { writable = h; used = u.0; placed = p.0 }, later p.1 u.1)
    go (word_of text bare) h p u later = ((h, p.0), later p.1 u)
    go (mark b) h p u later = (tt, later p u)
    go arrow h p u later = (tt, later p u)
    go open_set h p u later = (tt, later p u)
    go close_set h p u later = (tt, later p u)
    go (sign k) h p u later = (tt, later p u)
    go (integer z) h p u later = (h, later p u)
    go (documentation text) h p u later = (h, later p u)

-- ---- names

naming_of : (after : Texts) (name : List ℕ) → HasPlace after name → IsWordPlaced after (word_in after name) × (bare_text after (word_in after name) ≡ name)
naming_of after name p = subst (λ o. IsWordPlaced after (Word (unwrap_or o 0)) × (text_of after (unwrap_or o 0) ≡ name)) (sym p.1) (word_placed after name p.0 p.1)

namings_are : (after names : Texts) → AllOf (HasPlace after) names → AllOf IsName names → AllOf (IsNaming after) (map (word_in after) names)
namings_are after [] p h = tt
namings_are after (name ∷ names) p h = let n = naming_of after name p.0 in ((n.0, subst IsName (sym n.1) h.0), namings_are after names p.1 h.1)

texts_are : (after names : Texts) → AllOf (HasPlace after) names → map (bare_text after) (map (word_in after) names) ≡ names
texts_are after [] p = refl
texts_are after (name ∷ names) p = ap₂ (λ (x : List ℕ) (xs : Texts). x ∷ xs) (naming_of after name p.0).1 (texts_are after names p.1)

count_words : (after names : Texts) → length (map (word_in after) names) ≡ length names
count_words after [] = refl
count_words after (name ∷ names) = ap (λ n. suc n) (count_words after names)

-- ---- kinds

no_justification : (k : Kind) (flags : List Flag) → (k ≡ kind.Justification → ⊥) → kind_of k flags ≡ kind.Justification → ⊥
no_justification k [] h e = h e
no_justification k (f ∷ flags) h e = no_justification (with_kind k f) flags (kept f) e
  where
    kept : (f : Flag) → with_kind k f ≡ kind.Justification → ⊥
    kept operator_support g = h g
    kept instance_support g = h g
    kept is_default g = absurd (cc)
    kept is_chunk g = absurd (cc)

-- ---- the whole

doc_is : (s : Source) (doc : Option (List ℕ)) → AreOf s (spelled_option (λ text. documentation text ∷ []) doc) → IfThere IsUtf8 doc
doc_is s None h = tt
doc_is s (Some text) h = h.0

some_joined : (xs ys : List Condition) → IsAny xs → IsAny (xs ++ ys)
some_joined [] ys h = absurd h
some_joined (x ∷ xs) ys h = tt

in_room : (n u : ℕ) → n < 2 ^ 32 → u < 2 ^ 32 → n * suc u < 2 ^ 64
in_room n u h k = let l : n * suc u ≤ (2 ^ 32 - 1) * 2 ^ 32 = mul-le n (suc u) (2 ^ 32 - 1) (2 ^ 32) (omega arith) (omega arith) in omega arith

-- the parts of a tree whose tokens are of the text
pub record Parted (s : Source) (t : Tree) : Type 0 where
  pub name : IsOf s (word_of t.name t.bare)
  pub doc : AreOf s (spelled_option (λ text. documentation text ∷ []) t.doc)
  pub conditions : AreOf s (spelled_parts (part_and t.part t.parts))
  pub actions : AreOf s (flat_map spelled_action t.actions)

parted : (s : Source) (t : Tree) → AreOf s (spelling t) → Parted s t
parted s t h =
    let flags = flat_map (λ f. bare_word (flag_text f) ∷ []) t.flags in
    let end = arrow ∷ (flat_map spelled_action t.actions ++ (mark 125 ∷ [])) in
    let a = h.1.1.1 in
    let b = all_behind (IsOf s) (spelled_option (λ text. documentation text ∷ []) t.doc) (flags ++ (spelled_part t.part ++ (spelled_parts t.parts ++ end))) a in
    let c = all_behind (IsOf s) flags (spelled_part t.part ++ (spelled_parts t.parts ++ end)) b in
    let d = all_behind (IsOf s) (spelled_part t.part) (spelled_parts t.parts ++ end) c in
    record {
      name = h.1.1.0;
      doc = all_front (IsOf s) (spelled_option (λ text. documentation text ∷ []) t.doc) (flags ++ (spelled_part t.part ++ (spelled_parts t.parts ++ end))) a;
      conditions = all_joined (IsOf s) (spelled_part t.part) (spelled_parts t.parts) (all_front (IsOf s) (spelled_part t.part) (spelled_parts t.parts ++ end) c) (all_front (IsOf s) (spelled_parts t.parts) end d);
      actions = all_front (IsOf s) (flat_map spelled_action t.actions) (mark 125 ∷ []) (all_behind (IsOf s) (spelled_parts t.parts) end d).1;
    }

pub read_is_printable : ReadIsPrintable
unfolding production_of
read_is_printable words more text tree grown small e few =
    record {
      state = (word_placed after (codes "state") 0 (later (codes "state") 0 (in_known (codes "state") 0 refl))).1;
      name = constant_given s after (named tree.name tree.bare) later parts.name;
      doc = doc_is s tree.doc parts.doc;
      kind = no_justification kind.User tree.flags (λ h. absurd (cc));
      names = namings_are after f.names y.fine.placed (y.fine.writable (omega arith));
      distinct = subst AreDistinct (sym (texts_are after f.names y.fine.placed)) (y.fine.distinct (omega arith));
      some = some_of conditions.value (some_joined first.value _ (part_given tree.part s after start later super (all_front (IsOf s) (spelled_part tree.part) (spelled_parts tree.parts) parts.conditions) fine).is.some);
      conditions = conditions_of after conditions.value x.is.each;
      actions = y.is.each;
      numbered = numbered;
    }
  where
    l : Lexed
    l = lexed text

    known : Texts
    known = words_after words l.tokens

    start : Fresh
    start = record { used = names_in (tokens_in l); names = []; fresh = []; next = 1 }

    first : Expanded (List Condition)
    first = part_conditions tree.part known start

    conditions : Expanded (List Condition)
    conditions = parts_conditions (part_and tree.part tree.parts) known start

    actions : Expanded (List ActionOf)
    actions = actions_of known tree.actions conditions.names

    f : Fresh
    f = actions.names

    after : Texts
    after = with_texts known f.fresh

    count : length (map (word_in after) f.names) ≡ length f.names
    count = count_words after f.names

    room : length f.names * suc (length (names_in (tokens_in l))) < 2 ^ 64
    room = in_room (length f.names) (length (names_in (tokens_in l))) (omega (arith, few, count)) (omega (arith, few_names l.tokens, lexed_few text, small))

    s : Source
    s = record { used = names_in (tokens_in l); known = known; most = length f.names; room = room }

    later : Later known after
    later = λ word n h. kept_by_all known f.fresh word n h

    in_known : (word : List ℕ) (n : ℕ) → place_of (architecture ++ more) word ≡ Some n → place_of known word ≡ Some n
    in_known word n h = kept_by_all words (token_texts l.tokens) word n (ap (λ w. place_of w word) grown ∙ h)

    super : IsWord after (Word 5)
    super =
        let k = word_placed after (codes "superstate") 5 (later (codes "superstate") 5 (in_known (codes "superstate") 5 refl)) in
        (k.0, subst IsUtf8 (sym k.1) (run_is_utf8 (codes "superstate") refl))

    fine : Fine s start
    fine = record { same = refl; few = omega arith; next = omega arith; placed = tt; numbered = tt; distinct = λ h. tt; writable = λ h. tt }

    spelled : IsSpelled tree (tokens_in l)
    spelled = read_is_spelled (tokens_in l) tree e

    parts : Parted s tree
    parts = parted s tree (subst (AreOf s) (sym spelled.spelled) (tokens_of s l.tokens (texts_are_sound text) (all_placed words (token_texts l.tokens)) (all_there (names_in (tokens_in l)))))

    x : Given s start conditions (AreListed after)
    x = parts_given (part_and tree.part tree.parts) s after start later super parts.conditions fine

    y : Given s conditions.names actions (AreActions after)
    y = actions_given s after tree.actions conditions.names later spelled.lawful.3 parts.actions x.fine

    numbered : met_after 0 (variables_of_conditions (all_of conditions.value) ++ flat_map variables_of_action actions.value) ≡ Some (length (map (word_in after) f.names))
    numbered =
        ap₂ (λ (a b : List ℕ). met_after 0 (a ++ b)) (variables_of conditions.value ∙ x.is.variables) y.is.variables
        ∙ met_joined 0 (length conditions.names.names) (length f.names) x.vs y.vs x.met y.met ∙ ap Some (sym count)
