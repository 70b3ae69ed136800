-- What was read of a command, and what the answers say of it.
use Rattle.std.proofs.Common.{◌≡◌, ℕ, ◌-◌, ◌^◌, ◌<◌, ◌≤◌, List, length, map, Option, Some, None, Result, Ok, Err, refl, sym, ap, subst, ◌∙◌, arith}
use Rattle.soar_sym.specs.Words.{Texts}
use Rattle.soar_rule.specs.Checking.{Fault as CheckFault, ordered}
use Rattle.soar_rule.specs.Productions.{ProductionOf, production_seen}
use Rattle.soar_rule.specs.declared.production.Production.{Production}
use Rattle.defs_text.specs.Lexing.{Fault, Lexed, Spelled}
use Rattle.defs_text.specs.Numbered.{numbered, words_after}
use Rattle.defs_text.specs.declared.token.Token.{Token}
use Rattle.defs_read.specs.Expansion.{ProductionRead, production_of}
use Rattle.defs_read.specs.Grammar.{Tree}
use Rattle.defs_read.specs.Readers.{Stop}
use Rattle.defs_read.specs.ReadingActions.{tree_of}
use Rattle.defs_read.specs.Sayings.{sayings}
use Rattle.soar_lex.specs.Answers.{Gained, Grown}
use Rattle.soar_lex.proofs.WordLemmas.{grown_length, grown_same}
use Rattle.soar_read.specs.Answers.{IsRead, ReadAs, RefusedAs, SpentAs, meaning, stop_of, place_left as place_behind}
use Rattle.soar_read.specs.declared.fault.ReadFault.{ReadFault}
use Rattle.soar_read.specs.declared.fault.ReadFault.TheVariants as read
use Rattle.soar_read.specs.declared.fault.SyntaxKind.{SyntaxKind}
use Rattle.soar_read.specs.declared.fault.SyntaxKind.TheVariants as kind
use Rattle.defs_run.specs.Orders.{Order, load, Refusal}
use Rattle.defs_run.specs.Stages.{Reading}
use Rattle.defs_run.specs.WholeReading.{Judge, checked, of_check, of_lexing, of_ordered, of_stop, place_left, read_tokens, read_tree, unless_faulty}
use Rattle.defs_run.specs.declared.form.Order.{Order as OrderRead}
use Rattle.soar_cmd.specs.Answers.{GrowsOnly, IsCommandRead, IsJudged, fault_of, refusal_of}
use Rattle.command_orders.specs.Asked.{FormOf, read_order}
use Rattle.command_orders.specs.Known.{AreSpelledIn}
use Rattle.soar_cmd.specs.declared.fault.CmdFault.{CmdFault}
use Rattle.soar_cmd.specs.declared.fault.CmdFault.TheVariants as fault
use Rattle.soar_cmd.specs.declared.fault.Shown.TheVariants as shown
use Rattle.soar_cmd.proofs.SpelledLemmas.{place_same, production_grown, sayings_are}

-- ---- an order or a refusal, read with a table

pub judged_read : (words : Texts) (order : Result Order Refusal) (result : Result OrderRead CmdFault) → IsJudged words order result
    → IsCommandRead words (record { words = words; order = order }) result
judged_read words order (Ok given) is = (refl, is)
judged_read words order (Err (fault.Refused number what)) is = (refl, is.0, is.1)
judged_read words order (Err fault.WordsSpent) is = absurd is
judged_read words order (Err fault.NoMemory) is = tt

-- ---- a text that was cut into tokens

-- what is read of a text, by its fault
abbrev read_by_fault : Texts → (Texts → List Spelled → Reading) → Lexed → Option Fault → Reading
read_by_fault words f l o = elim o as (λ _. Reading) [ Some e ↦ record { words = words; order = Err (of_lexing e) } | None ↦ f words l.tokens ]

-- a whole text
pub whole_read : (old between new : Texts) (f : Texts → List Spelled → Reading) (l : Lexed) (result : Result OrderRead CmdFault) → l.fault ≡ None → Gained old between l
    → IsCommandRead new (f between l.tokens) result → IsCommandRead new (unless_faulty old l f) result
whole_read old between new f l result none gained is =
    subst (λ (r : Reading). IsCommandRead new r result)
    (ap (λ words. f words l.tokens) gained.words ∙ ap (read_by_fault (words_after old l.tokens) f l) (sym none)) is

-- a text with a fault
pub faulty_read : (old new : Texts) (f : Texts → List Spelled → Reading) (l : Lexed) (e : Fault) (number place : ℕ) → (l.fault ≡ Some e) × Gained old new l
    → of_lexing e ≡ refusal_of new number (shown.Place place) → IsCommandRead new (unless_faulty old l f) (Err (fault.Refused number (shown.Place place)))
faulty_read old new f l e number place cut is =
    let faulty : IsCommandRead new (record { words = words_after old l.tokens; order = Err (of_lexing e) }) (Err (fault.Refused number (shown.Place place))) =
    (sym cut.1.words, ap Err is, tt) in
    subst (λ (r : Reading). IsCommandRead new r (Err (fault.Refused number (shown.Place place)))) (ap (read_by_fault (words_after old l.tokens) f l) (sym cut.0)) faulty

faulty_more : (words : Texts) (l : Lexed) (f : Texts → List Spelled → Reading) → GrowsOnly f → length (words_after words l.tokens) ≤ length (unless_faulty words l f).words
faulty_more words l f grows = by l.fault
  where
    by : (o : Option Fault) → length (words_after words l.tokens) ≤ length (read_by_fault (words_after words l.tokens) f l o).words
    by (Some e) = omega arith
    by None = grows (words_after words l.tokens) l.tokens

-- a text with more words than a table holds
pub spent_read : (old : Texts) (l : Lexed) (f : Texts → List Spelled → Reading) → GrowsOnly f → 2 ^ 32 - 1 < length (words_after old l.tokens)
    → 2 ^ 32 - 1 < length (unless_faulty old l f).words
spent_read old l f grows many = omega (arith, many, faulty_more old l f grows)

-- ---- what is read leaves the table with the words that it had

pub order_grows : (form : FormOf) (text : List ℕ) → GrowsOnly (read_order form text)
order_grows form text = λ words tokens. omega arith

pub tokens_grow : (judge : Judge) → GrowsOnly (read_tokens judge)
tokens_grow judge = λ words tokens. by words tokens (tree_of (map (λ t. t.says) tokens))
  where
    by : (words : Texts) (tokens : List Spelled) (o : Result Tree (Stop × ℕ)) → length words ≤ length (read_tree judge words tokens o).words
    by words tokens (Ok tree) =
        grown_length words (production_of words (map (λ t. t.says) tokens) tree).words (production_grown words (map (λ t. t.says) tokens) tree)
    by words tokens (Err why) = omega arith

-- ---- productions

-- what the tokens of a tree are read as
abbrev judged_as : Judge → ProductionRead → Reading
judged_as judge r = record { words = r.words; order = judge r.words r.production }

spelled_tree : (words : Texts) (spelled : List Spelled) (tokens : List Token) (tree : Tree) → tokens ≡ map (numbered words) spelled → AreSpelledIn words spelled
    → tree_of (sayings words tokens) ≡ Ok tree → read_tokens checked words spelled ≡ judged_as checked (meaning words tokens tree)
spelled_tree words spelled tokens tree are have is =
    let says : sayings words tokens ≡ map (λ t. t.says) spelled = ap (sayings words) are ∙ sayings_are words spelled have in
    ap (read_tree checked words spelled) (ap tree_of (sym says) ∙ is) ∙ ap (λ ss. judged_as checked (production_of words ss tree)) (sym says)

-- tokens that spell a production
pub production_read : (old new : Texts) (tokens : List Token) (spelled : List Spelled) (production : Production) (result : Result OrderRead CmdFault)
    → tokens ≡ map (numbered old) spelled → AreSpelledIn old spelled → ReadAs old new tokens production
    → IsJudged new (checked new (production_seen production)) result → IsCommandRead new (read_tokens checked old spelled) result
production_read old new tokens spelled production result are have as_spelled is =
    let r : ProductionRead = meaning old tokens as_spelled.tree in
    let as_read : judged_as checked r ≡ record { words = new; order = checked new (production_seen production) } =
    ap (λ words. record { words = words; order = checked words r.production }) (sym as_spelled.words) ∙ ap (λ (p : ProductionOf). record { words = new; order = checked new p }) (sym as_spelled.means) in
    subst (λ (reading : Reading). IsCommandRead new reading result) (sym (spelled_tree old spelled tokens as_spelled.tree are have as_spelled.spelled ∙ as_read))
    (judged_read new (checked new (production_seen production)) result is)

-- tokens that spell none
pub refused_read : (old new : Texts) (tokens : List Token) (spelled : List Spelled) (place : ℕ) (why : SyntaxKind) (result : Result OrderRead CmdFault)
    → tokens ≡ map (numbered old) spelled → AreSpelledIn old spelled → RefusedAs old new tokens place why
    → IsJudged new (Err (of_stop (stop_of why) place)) result → IsCommandRead new (read_tokens checked old spelled) result
refused_read old new tokens spelled place why result are have refused is =
    let says : sayings old tokens ≡ map (λ t. t.says) spelled = ap (sayings old) are ∙ sayings_are old spelled have in
    let at : place_left 0 spelled refused.left ≡ place = sym (refused.place_is ∙ (ap (λ ts. place_behind 0 ts refused.left) are ∙ place_same old 0 spelled refused.left)) in
    let as_read : read_tokens checked old spelled ≡ record { words = new; order = Err (of_stop (stop_of why) place) } =
    ap (read_tree checked old spelled) (ap tree_of (sym says) ∙ refused.stops)
    ∙ (ap (λ n. record { words = old; order = Err (of_stop (stop_of why) n) }) at ∙ ap (λ words. record { words = words; order = Err (of_stop (stop_of why) place) }) (sym refused.words)) in
    subst (λ (reading : Reading). IsCommandRead new reading result) (sym as_read) (judged_read new (Err (of_stop (stop_of why) place)) result is)

-- tokens whose new words are more than a table holds
pub production_spent : (old new : Texts) (tokens : List Token) (spelled : List Spelled) → tokens ≡ map (numbered old) spelled → AreSpelledIn old spelled
    → SpentAs old new tokens → 2 ^ 32 - 1 < length (read_tokens checked old spelled).words
production_spent old new tokens spelled are have spent =
    omega (arith, spent.spent, ap (λ (r : Reading). length r.words) (spelled_tree old spelled tokens spent.tree are have spent.spelled))

-- tokens that are not read
pub fault_read : (old new : Texts) (tokens : List Token) (spelled : List Spelled) (why : ReadFault) (result : CmdFault) → tokens ≡ map (numbered old) spelled → AreSpelledIn old spelled
    → IsRead old new tokens (Err why) → result ≡ fault_of why → IsCommandRead new (read_tokens checked old spelled) (Err result)
fault_read old new tokens spelled (read.SyntaxFault place kind.Unexpected) result are have is gives =
    subst (λ (f : CmdFault). IsCommandRead new (read_tokens checked old spelled) (Err f)) (sym gives)
    (refused_read old new tokens spelled place kind.Unexpected (Err (fault.Refused 16 (shown.Place place))) are have is (refl, tt))
fault_read old new tokens spelled (read.SyntaxFault place kind.Deep) result are have is gives =
    subst (λ (f : CmdFault). IsCommandRead new (read_tokens checked old spelled) (Err f)) (sym gives)
    (refused_read old new tokens spelled place kind.Deep (Err (fault.Refused 17 (shown.Place place))) are have is (refl, tt))
fault_read old new tokens spelled read.WordsSpent result are have is gives =
    subst (λ (f : CmdFault). IsCommandRead new (read_tokens checked old spelled) (Err f)) (sym gives) (production_spent old new tokens spelled are have is)
fault_read old new tokens spelled read.NoMemory result are have is gives =
    subst (λ (f : CmdFault). IsCommandRead new (read_tokens checked old spelled) (Err f)) (sym gives) tt

-- their words are gained, if any
pub fault_grown : (old new : Texts) (tokens : List Token) (why : ReadFault) → IsRead old new tokens (Err why) → Grown old new
fault_grown old new tokens (read.SyntaxFault place kind) is = subst (Grown old) (sym is.words) (grown_same old)
fault_grown old new tokens read.WordsSpent is = is.grown
fault_grown old new tokens read.NoMemory is = is

-- ---- faults of productions

-- one in match order
pub ordered_judged : (words : Texts) (p q : ProductionOf) (result : Result OrderRead CmdFault) → ordered p ≡ Ok q → IsJudged words (Ok (load q)) result → IsJudged words (checked words p) result
ordered_judged words p q result is judges = subst (λ (order : Result Order Refusal). IsJudged words order result) (sym (ap (of_ordered words p) is)) judges

-- one with a fault
pub faulty_judged : (words : Texts) (p : ProductionOf) (why : CheckFault) (result : Result OrderRead CmdFault) → ordered p ≡ Err why
    → IsJudged words (Err (of_check words p.vars why)) result → IsJudged words (checked words p) result
faulty_judged words p why result is judges = subst (λ (order : Result Order Refusal). IsJudged words order result) (sym (ap (of_ordered words p) is)) judges
