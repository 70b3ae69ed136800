-- The names of new variables join the table, one after another.
use Rattle.std.proofs.Common.{◌≡◌, ℕ, ◌+◌, ◌-◌, ◌^◌, ◌<◌, true, List, [], ◌∷◌, ◌++◌, length, map, flat_map, take, drop, get_or, Option, Some, None, Err, refl, sym, ap, subst, ◌∙◌, arith, append-nil}
use Rattle.std.specs.Option.{option_map}
use Rattle.std.specs.List.{list_all}
use Rattle.std.proofs.lemmas.Grind.{flat_map-append}
use Rattle.std.proofs.lemmas.List.{map_push, take-append-drop, drop_more, take_more}
use Rattle.soar_sym.specs.declared.symbol.Sym.{Sym}
use Rattle.soar_sym.specs.declared.symbol.Sym.TheVariants.{Word}
use Rattle.soar_sym.specs.Words.{Texts, place_of, text_of, with_texts, word_of}
use Rattle.defs_text.specs.Numbered.{word_in}
use Rattle.soar_read.specs.Answers.{Grown}
use Rattle.soar_read.specs.Joining.{is_own_name, IsWordOf, Joins, AreWordsOf, AllJoin}
use Rattle.read_parts.specs.Naming.{name_text, new_text}
use Rattle.soar_read.specs.declared.fault.ReadFault.{ReadFault}
use Rattle.soar_read.specs.declared.fault.ReadFault.TheVariants as fault
use Rattle.read_parts.specs.declared.names.Name.{Name}
use Rattle.read_parts.specs.declared.names.Name.TheVariants.{Given, New}
use Rattle.soar_read.proofs.GrownLemmas.{grown_all, grown_then, grown_length, texts_after, word_is, word_stays}
use Rattle.read_parts.proofs.TextLemmas.{and-true, place_of_own}

-- ---- words that are kept

has_word_later : (words later : Texts) (text : List ℕ) (s : Sym) → Grown words later → word_of words text ≡ Some s → word_of later text ≡ Some s
has_word_later words later text s grown is = by (place_of words text) refl is
  where
    by : (o : Option ℕ) → place_of words text ≡ o → option_map Word o ≡ Some s → word_of later text ≡ Some s
    by None at e = absurd (cc)
    by (Some n) at e = ap (option_map Word) (word_stays words later text n at grown) ∙ e

words_later : (words later : Texts) (texts : Texts) (symbols : List Sym) → Grown words later → map (word_of words) texts ≡ map Some symbols → map (word_of later) texts ≡ map Some symbols
words_later words later [] [] grown are = refl
words_later words later [] (s ∷ symbols) grown are = absurd (cc)
words_later words later (t ∷ texts) [] grown are = absurd (cc)
words_later words later (t ∷ texts) (s ∷ symbols) grown are =
    let head : word_of words t ≡ Some s = cc in
    let tail : map (word_of words) texts ≡ map Some symbols = cc in
    ap (λ o. o ∷ map (word_of later) texts) (has_word_later words later t s grown head) ∙ ap (λ os. Some s ∷ os) (words_later words later texts symbols grown tail)

pub words_in : (words : Texts) (texts : Texts) (symbols : List Sym) → map (word_of words) texts ≡ map Some symbols → symbols ≡ map (word_in words) texts
words_in words [] [] are = refl
words_in words [] (s ∷ symbols) are = absurd (cc)
words_in words (t ∷ texts) [] are = absurd (cc)
words_in words (t ∷ texts) (s ∷ symbols) are =
    let head : word_of words t ≡ Some s = cc in
    let tail : map (word_of words) texts ≡ map Some symbols = cc in
    ap (λ r. r ∷ symbols) (word_is words t s head) ∙ ap (λ rs. word_in words t ∷ rs) (words_in words texts symbols tail)

-- ---- one name more

-- what is joined so far
pub record Joined (old now : Texts) (names : List Name) (symbols : List Sym) : Type 0 where
  pub table : now ≡ with_texts old (flat_map new_text names)
  pub words : AreWordsOf old now names symbols

pub joined_none : (old : Texts) → Joined old old [] []
joined_none old = record { table = refl; words = refl }

word_of_name : (old new : Texts) (name : Name) (s : Sym) → is_own_name old name ≡ true → Grown old new → IsWordOf new name s → word_of new (name_text old name) ≡ Some s
word_of_name old new (Given w) s own grown is = ap (option_map Word) (word_stays old new (text_of old w) w (place_of_own old w own) grown) ∙ ap Some (sym is)
word_of_name old new (New n) s own grown is = is

pub joined_grown : (old now : Texts) (names : List Name) (symbols : List Sym) → Joined old now names symbols → Grown old now
joined_grown old now names symbols joined = subst (Grown old) (sym joined.table) (grown_all old (flat_map new_text names))

one_more : (old mid : Texts) (names : List Name) (name : Name) → mid ≡ with_texts old (flat_map new_text names) → with_texts mid (new_text name) ≡ with_texts old (flat_map new_text (names ++ name ∷ []))
one_more old mid names name table =
    ap (λ ws. with_texts ws (new_text name)) table ∙ sym (texts_after old (flat_map new_text names) (new_text name))
    ∙ ap (with_texts old) (sym (flat_map-append new_text names (name ∷ []) ∙ ap (λ ts. flat_map new_text names ++ ts) (append-nil (new_text name))))

pub joined_more : (old mid new : Texts) (names : List Name) (symbols : List Sym) (name : Name) (s : Sym) → Joined old mid names symbols → is_own_name old name ≡ true
    → (new ≡ with_texts mid (new_text name)) × IsWordOf new name s → Joined old new (names ++ name ∷ []) (symbols ++ s ∷ [])
joined_more old mid new names symbols name s joined own step =
    let grown : Grown mid new = subst (Grown mid) (sym step.0) (grown_all mid (new_text name)) in
    let all : Grown old new = grown_then old mid new (joined_grown old mid names symbols joined) grown in
    record {
      table = step.0 ∙ one_more old mid names name joined.table;
      words = ap (map (word_of new)) (map_push (name_text old) names name) ∙ map_push (word_of new) (map (name_text old) names) (name_text old name)
          ∙ ap (λ os. os ++ word_of new (name_text old name) ∷ []) (words_later mid new (map (name_text old) names) symbols grown joined.words)
          ∙ ap (λ o. map Some symbols ++ o ∷ []) (word_of_name old new name s own all step.1)
          ∙ sym (map_push Some symbols s);
    }

-- where one name is too much, all of them are
pub joined_spent : (old mid : Texts) (before after : List Name) (symbols : List Sym) (name : Name) → Joined old mid before symbols → 2 ^ 32 - 1 < length (with_texts mid (new_text name))
    → 2 ^ 32 - 1 < length (with_texts old (flat_map new_text (before ++ name ∷ after)))
joined_spent old mid before after symbols name joined spent =
    let here : with_texts mid (new_text name) ≡ with_texts old (flat_map new_text (before ++ name ∷ [])) = one_more old mid before name joined.table in
    let all : with_texts old (flat_map new_text (before ++ name ∷ after)) ≡ with_texts (with_texts mid (new_text name)) (flat_map new_text after) =
    ap (with_texts old) (flat_map-append new_text before (name ∷ after)) ∙ texts_after old (flat_map new_text before) (new_text name ++ flat_map new_text after)
    ∙ ap (λ ws. with_texts ws (new_text name ++ flat_map new_text after)) (sym joined.table) ∙ texts_after mid (new_text name) (flat_map new_text after) in
    omega (arith, spent, ap length all, grown_length (with_texts mid (new_text name)) (with_texts (with_texts mid (new_text name)) (flat_map new_text after)) (grown_all (with_texts mid (new_text name)) (flat_map new_text after)))

-- ---- the turns of the loop

split_at : (names : List Name) (i : ℕ) (d : Name) → i < length names → names ≡ take i names ++ get_or names i d ∷ drop (i + 1) names
split_at names i d within = sym (take-append-drop i names) ∙ ap (λ rest. take i names ++ rest) (drop_more names i d within)

pub turn : (old mid new : Texts) (names : List Name) (symbols later : List Sym) (i : ℕ) (s : Sym) → i < length names → list_all (is_own_name old) (drop i names) ≡ true → Joined old mid (take i names) symbols
    → (new ≡ with_texts mid (new_text (get_or names i (Given 0)))) × IsWordOf new (get_or names i (Given 0)) s → later ≡ symbols ++ s ∷ []
    → (list_all (is_own_name old) (drop (i + 1) names) ≡ true) × Joined old new (take (i + 1) names) later
turn old mid new names symbols later i s within own joined step pushed =
    let name : Name = get_or names i (Given 0) in
    let both : (is_own_name old name ≡ true) × (list_all (is_own_name old) (drop (i + 1) names) ≡ true) = and-true (sym (ap (list_all (is_own_name old)) (drop_more names i (Given 0) within)) ∙ own) in
    let all : Joined old new (take i names ++ name ∷ []) (symbols ++ s ∷ []) = joined_more old mid new (take i names) symbols name s joined both.0 step in
    let P : List Name → Type 0 = λ ns. Joined old new ns later in
    let Q : List Sym → Type 0 = λ ss. Joined old new (take i names ++ name ∷ []) ss in
    (both.1, subst P (sym (take_more names i (Given 0) within)) (subst Q (sym pushed) all))

failed_at : (old mid new : Texts) (before after : List Name) (symbols : List Sym) (name : Name) (e : ReadFault) → Joined old mid before symbols → Joins mid new name (Err e) → AllJoin old new (before ++ name ∷ after) (Err e)
failed_at old mid new before after symbols name fault.WordsSpent joined fails =
    (subst (Grown old) (sym fails.0) (joined_grown old mid before symbols joined), joined_spent old mid before after symbols name joined fails.1)
failed_at old mid new before after symbols name fault.NoMemory joined fails = subst (Grown old) (sym fails) (joined_grown old mid before symbols joined)
failed_at old mid new before after symbols name (fault.SyntaxFault place kind) joined fails = fails

pub failed : (old mid new : Texts) (names : List Name) (symbols : List Sym) (i : ℕ) (e : ReadFault) → i < length names → Joined old mid (take i names) symbols → Joins mid new (get_or names i (Given 0)) (Err e) → AllJoin old new names (Err e)
failed old mid new names symbols i e within joined fails =
    let P : List Name → Type 0 = λ ns. AllJoin old new ns (Err e) in
    subst P (sym (split_at names i (Given 0) within)) (failed_at old mid new (take i names) (drop (i + 1) names) symbols (get_or names i (Given 0)) e joined fails)

-- want of memory for the list
pub unlisted : (old mid new : Texts) (names : List Name) (symbols : List Sym) (i : ℕ) → Joined old mid (take i names) symbols → new ≡ with_texts mid (new_text (get_or names i (Given 0))) → Grown old new
unlisted old mid new names symbols i joined table =
    grown_then old mid new (joined_grown old mid (take i names) symbols joined) (subst (Grown mid) (sym table) (grown_all mid (new_text (get_or names i (Given 0)))))
