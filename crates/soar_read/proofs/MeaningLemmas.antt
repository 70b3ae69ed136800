-- What a tree means, from what its parts came to.
use Rattle.std.proofs.Common.{◌≡◌, ℕ, ◌<◌, ◌≤◌, ◌-◌, ◌^◌, ◌&&◌, not, nat_lt, Bool, true, List, ◌++◌, length, map, flat_map, Some, Err, refl, sym, ap, subst, ◌∙◌, arith}
use Rattle.std.specs.List.{list_all}
use Rattle.std.proofs.lemmas.List.{length-map}
use Rattle.soar_sym.specs.declared.symbol.Sym.{Sym}
use Rattle.soar_sym.specs.Words.{Texts, text_of, with_texts, word_of, IsKnown}
use Rattle.soar_rule.specs.Below.{conds_below, actions_below}
use Rattle.soar_rule.specs.Conditions.{Condition, all_of, condition}
use Rattle.soar_rule.specs.Productions.{ActionOf, action_seen}
use Rattle.soar_rule.specs.Symbols.{AreKnown, symbols_of, constants_of_conditions, constants_of_action}
use Rattle.defs_text.specs.Numbered.{word_in}
use Rattle.defs_text.specs.declared.token.Token.{Token}
use Rattle.defs_read.specs.Expansion.{names_in, production_of}
use Rattle.defs_read.specs.FreshNames.{Fresh, Expanded, expanded, has_name, new_name}
use Rattle.defs_read.specs.Grammar.{part_and}
use Rattle.defs_read.specs.Reading.{parts_of}
use Rattle.defs_read.specs.Sayings.{sayings, word_text}
use Rattle.tree_parts.specs.Seen.{action_seen as tree_action_seen, part_seen, tree_seen}
use Rattle.tree_parts.specs.declared.production.Tree.{Tree}
use Rattle.soar_read.specs.Answers.{meaning}
use Rattle.soar_read.specs.Joining.{is_own_name, AreWordsOf, AllJoin}
use Rattle.soar_read.specs.Meaning.{no_names, conditions_from, actions_from, meaning_from, completed, IsHead, IsMeant}
use Rattle.read_parts.specs.Naming.{name_text, new_text}
use Rattle.read_parts.specs.Using.{is_variable}
use Rattle.read_parts.specs.Words.{is_own, texts_of}
use Rattle.soar_read.specs.declared.fault.ReadFault.{ReadFault}
use Rattle.soar_read.specs.declared.fault.ReadFault.TheVariants as fault
use Rattle.read_parts.specs.declared.names.Name.{Name}
use Rattle.read_parts.specs.declared.names.Name.TheVariants.{Given, New}
use Rattle.read_parts.specs.declared.names.Names.{Names}
use Rattle.soar_read.specs.declared.production.Body.{Body}
use Rattle.soar_read.proofs.ActionFits.{acts_fit, actions_of_fit}
use Rattle.soar_read.proofs.BelowLemmas.{conds_are_below, actions_are_below}
use Rattle.soar_read.proofs.ConditionFits.{conds_fit, parts_conditions_fit}
use Rattle.soar_read.proofs.FitLemmas.{condition_fits, condition_stays, all_stay, all_conditions, count, Fits}
use Rattle.soar_read.proofs.GrownLemmas.{grown_all, grown_length}
use Rattle.soar_read.proofs.JoinLemmas.{words_in}
use Rattle.soar_read.proofs.KnownLemmas.{Holds, known_append, conditions_known, actions_known, word_known, names_known}
use Rattle.read_parts.proofs.TextLemmas.{and-true}
use Rattle.read_parts.proofs.UseLemmas.{all_mapped}

-- ---- the meaning of tokens

-- by the names of their variables
pub meaning_by_names : (words used : Texts) (tokens : List Token) (tree : Tree) → used ≡ names_in (sayings words tokens) → meaning words tokens (tree_seen words tree) ≡ meaning_from words used tree
unfolding production_of
meaning_by_names words used tokens tree is = ap (λ names. meaning_from words names tree) (sym is)

-- ---- numbers and words

-- what the conditions come to, and the actions behind them
pub record BodyFits (words used : Texts) (tree : Tree) : Type 0 where
  pub conds : conds_fit (length words) (count (actions_from words used tree).names) (conditions_from words used tree).value ≡ true
  pub actions : acts_fit (length words) (count (actions_from words used tree).names) (actions_from words used tree).value ≡ true

pub body_fits : (words used : Texts) (tree : Tree) → 5 < length words → BodyFits words used tree
body_fits words used tree room =
    let known : ℕ = length words in
    let e : Expanded (List Condition) = conditions_from words used tree in
    let one : Fits (conds_fit known) 0 e = parts_conditions_fit (part_and (part_seen words tree.part) (parts_of (map (part_seen words) tree.parts))) words (no_names used) room in
    let more : Fits (acts_fit known) (count e.names) (actions_from words used tree) = actions_of_fit words (map (tree_action_seen words) tree.actions) e.names (omega (arith, room)) in
    record {
      conds = all_stay (condition_fits known) (condition_stays known) (count e.names) (count (actions_from words used tree).names) e.value more.more one.fit;
      actions = more.fit;
    }

-- the symbols of what a tree means are words of the table that it leaves
pub meaning_known : (words used : Texts) (tree : Tree) → 5 < length words → AreKnown (meaning_from words used tree).words (symbols_of (meaning_from words used tree).production)
meaning_known words used tree room =
    let known : ℕ = length words in
    let a : Expanded (List ActionOf) = actions_from words used tree in
    let cs : List Condition = (conditions_from words used tree).value in
    let after : Texts = with_texts words a.names.fresh in
    let grown : length words ≤ length after = grown_length words after (grown_all words a.names.fresh) in
    let holds : Holds after known = record { many = grown } in
    let fits : BodyFits words used tree = body_fits words used tree room in (
      named after words tree.name grown room,
      known_append after (map (word_in after) a.names.names) (constants_of_conditions (all_of cs) ++ flat_map constants_of_action a.value) (names_known after a.names.names (omega (arith, room, grown)))
          (known_append after (constants_of_conditions (all_of cs)) (flat_map constants_of_action a.value)
          (conditions_known after known (count a.names) (all_of cs) holds (all_conditions known (count a.names) cs fits.conds))
          (actions_known after known (count a.names) a.value holds fits.actions)),
    )
  where
    named : (after old : Texts) (name : Sym) → length old ≤ length after → 5 < length old → IsKnown after (word_in old (word_text old name))
    named after old name grown room = omega (arith, grown, word_known old (word_text old name) (omega (arith, room)))

-- ---- the parts together

-- the names that are kept, over these words
abbrev names_over : Texts → List ℕ → Names → Fresh
names_over words used names = record { used = texts_of words used; names = map (name_text words) names.list.keys; fresh = flat_map new_text names.list.keys; next = names.next }

abbrev kept_over : Texts → List ℕ → ℕ → Name → Bool
kept_over words used next (Given w) = is_variable words used w
kept_over words used next (New n) = nat_lt n next && not (has_name (texts_of words used) (new_name n))

-- what the parts of a tree came to
pub record IsBody (words : Texts) (used : List ℕ) (tree : Tree) (body : Body) : Type 0 where
  pub head : IsHead words tree body
  pub conditions : (conditions_from words (texts_of words used) tree).value ≡ map condition body.conds
  pub actions : actions_from words (texts_of words used) tree ≡ expanded (map action_seen body.actions) (names_over words used body.names)
  pub kept : list_all (kept_over words used body.names.next) body.names.list.keys ≡ true

pub own_names : (words : Texts) (used : List ℕ) (tree : Tree) (body : Body) → IsBody words used tree body → list_all (is_own_name words) body.names.list.keys ≡ true
own_names words used tree body is = all_mapped (kept_over words used body.names.next) (is_own_name words) own body.names.list.keys is.kept
  where
    own : (name : Name) → kept_over words used body.names.next name ≡ true → is_own_name words name ≡ true
    own (Given w) kept = (and-true {a = is_own words w} {b = has_name (texts_of words used) (text_of words w)} kept).0
    own (New n) kept = refl

count_words : (old new : Texts) (names : List Name) (vars : List Sym) → AreWordsOf old new names vars → length vars ≡ length (map (name_text old) names)
count_words old new names vars are = sym (length-map vars Some) ∙ sym (ap length are) ∙ length-map (map (name_text old) names) (word_of new)

count_names : (words : Texts) (used : List ℕ) (tree : Tree) (body : Body) (new : Texts) (vars : List Sym) → IsBody words used tree body → AreWordsOf words new body.names.list.keys vars
    → count (actions_from words (texts_of words used) tree).names ≡ length vars
count_names words used tree body new vars is are = ap (λ e. count e.names) is.actions ∙ sym (count_words words new body.names.list.keys vars are)

pub conds_closed : (words : Texts) (used : List ℕ) (tree : Tree) (body : Body) (new : Texts) (vars : List Sym) → IsBody words used tree body → 5 < length words → AreWordsOf words new body.names.list.keys vars
    → conds_below (length vars) body.conds ≡ true
conds_closed words used tree body new vars is room are =
    let known : ℕ = length words in
    let fits : BodyFits words (texts_of words used) tree = body_fits words (texts_of words used) tree room in
    conds_are_below known (length vars) body.conds
    (ap (λ n. conds_fit known n (map condition body.conds)) (sym (count_names words used tree body new vars is are)) ∙ ap (conds_fit known (count (actions_from words (texts_of words used) tree).names)) (sym is.conditions) ∙ fits.conds)

pub actions_closed : (words : Texts) (used : List ℕ) (tree : Tree) (body : Body) (new : Texts) (vars : List Sym) → IsBody words used tree body → 5 < length words → AreWordsOf words new body.names.list.keys vars
    → actions_below (length vars) body.actions ≡ true
actions_closed words used tree body new vars is room are =
    let known : ℕ = length words in
    let fits : BodyFits words (texts_of words used) tree = body_fits words (texts_of words used) tree room in
    actions_are_below known (length vars) body.actions
    (ap (λ n. acts_fit known n (map action_seen body.actions)) (sym (count_names words used tree body new vars is are)) ∙ ap (acts_fit known (count (actions_from words (texts_of words used) tree).names)) (sym (ap (λ e. e.value) is.actions)) ∙ fits.actions)

-- the words after a tree
words_are : (words : Texts) (used : List ℕ) (tree : Tree) (body : Body) → IsBody words used tree body → with_texts words (flat_map new_text body.names.list.keys) ≡ (meaning_from words (texts_of words used) tree).words
words_are words used tree body is = sym (ap (λ e. with_texts words e.names.fresh) is.actions)

pub meant : (words : Texts) (used : List ℕ) (tree : Tree) (body : Body) (new : Texts) (vars : List Sym) → IsBody words used tree body
    → (new ≡ with_texts words (flat_map new_text body.names.list.keys)) × AreWordsOf words new body.names.list.keys vars
    → (completed body vars ≡ (meaning_from words (texts_of words used) tree).production) × (new ≡ (meaning_from words (texts_of words used) tree).words)
meant words used tree body new vars is joined =
    let conds : map condition body.conds ≡ (conditions_from words (texts_of words used) tree).value = sym is.conditions in
    let acts : map action_seen body.actions ≡ (actions_from words (texts_of words used) tree).value = sym (ap (λ e. e.value) is.actions) in
    let names : vars ≡ map (word_in (with_texts words (actions_from words (texts_of words used) tree).names.fresh)) (actions_from words (texts_of words used) tree).names.names =
    words_in new (map (name_text words) body.names.list.keys) vars joined.1
    ∙ ap (λ ws. map (word_in ws) (map (name_text words) body.names.list.keys)) joined.0
    ∙ sym (ap (λ e. map (word_in (with_texts words e.names.fresh)) e.names.names) is.actions) in (
      (λ k. record {
        name = is.head.name k;
        doc = is.head.doc k;
        kind = is.head.kind k;
        support = is.head.support k;
        vars = names k;
        conditions = all_of (conds k);
        actions = acts k;
      }),
      joined.0 ∙ words_are words used tree body is,
    )

pub not_meant : (words : Texts) (used : List ℕ) (tree : Tree) (body : Body) (new : Texts) (e : ReadFault) → IsBody words used tree body
    → AllJoin words new body.names.list.keys (Err e) → IsMeant words new (meaning_from words (texts_of words used) tree) (Err e)
not_meant words used tree body new fault.WordsSpent is fails =
    let P : Texts → Type 0 = λ ws. 2 ^ 32 - 1 < length ws in
    (subst P (words_are words used tree body is) fails.1, fails.0)
not_meant words used tree body new fault.NoMemory is fails = fails
not_meant words used tree body new (fault.SyntaxFault place kind) is fails = fails
