-- Commands are read lawfully: the table grows, and the order may be carried out.
use Rattle.std.proofs.Common.{◌≡◌, refl, subst, ℕ, ◌+◌, ◌≤◌, ◌<◌, Bool, true, false, cond, arith, List, [], ◌∷◌, drop, length, map, Option, Some, None, Result, Ok, Err}
use Rattle.std.specs.Prelude.{codes, nat_lt}
use Rattle.std.specs.Str.{bytes_eq}
use Rattle.std.specs.Str.Lossy.{utf8_valid_len}
use Rattle.soar_sym.specs.Words.{Texts, with_text, with_texts}
use Rattle.soar_rule.specs.Checking.{Fault, ordered}
use Rattle.soar_rule.specs.Productions.{ProductionOf}
use Rattle.defs_text.specs.Lexing.{Lexed, lexed, Spelled}
use Rattle.defs_text.specs.Lexing as lexing
use Rattle.defs_text.specs.Numbered.{token_texts, words_after}
use Rattle.defs_text.specs.Runs.{is_empty}
use Rattle.defs_read.specs.ActionExpansion.{actions_of}
use Rattle.defs_read.specs.ConditionExpansion.{parts_conditions}
use Rattle.defs_read.specs.Expansion.{names_in, production_of}
use Rattle.defs_read.specs.Grammar.{part_and, Tree}
use Rattle.defs_read.specs.Readers.{Stop}
use Rattle.defs_read.specs.ReadingActions.{tree_of}
use Rattle.defs_read.specs.Spelling.{Tokens}
use Rattle.defs_run.specs.Arguments.{Argument, argument_in}
use Rattle.defs_run.specs.CommandForms.{Form, form_in, forms}
use Rattle.defs_run.specs.Commands.{first_run}
use Rattle.defs_run.specs.Orders.{at_byte, Order, Refusal, source, unknown_command, wrong_words}
use Rattle.defs_run.specs.Present.{built_order, is_built, read_present}
use Rattle.defs_run.specs.RandomReading.{random_lexed, random_order}
use Rattle.defs_run.specs.Stages.{Reading}
use Rattle.defs_run.specs.WholeReading.{by_form, checked, file_name, name_start, of_lexing, of_ordered, or_wrong, read_arguments, read_source, read_sp, read_tokens, read_tree, read_whole, unless_faulty}
use Rattle.learning_laws.specs.Lawful.{Grown}
use Rattle.learning_laws.specs.LawfulAgents.{EachOnce}
use Rattle.learning_laws.proofs.NamingLaws.{once_read}
use Rattle.learning_laws.proofs.TableGrowth.{grown_twice, not_grown}
use Rattle.loading_laws.specs.Literals.{IsOfWords}
use Rattle.loading_laws.specs.Orders.{IsLawfulOrder, PresentReadsLawfully, WholeReadsLawfully}
use Rattle.loading_laws.proofs.LiteralLists.{grown_by_texts}
use Rattle.loading_laws.proofs.OrderForms.{form_lawful, IfFormLawful, IfLawful, random_lawful}
use Rattle.loading_laws.proofs.ReadLiterals.{checked_may_be_loaded, longer, read_is_of_words}

-- ---- tables

-- more words, each text once
pub record IsTableAfter (words more : Texts) : Type 0 where
  pub grown : Grown words more
  pub once : EachOnce words → EachOnce more

as_before : (words : Texts) → IsTableAfter words words
as_before words = record { grown = not_grown words; once = λ h. h }

then_after : (a b c : Texts) → IsTableAfter a b → IsTableAfter b c → IsTableAfter a c
then_after a b c h k = record { grown = grown_twice a b c h.grown k.grown; once = λ o. k.once (h.once o) }

after_texts : (words texts : Texts) → IsTableAfter words (with_texts words texts)
after_texts words texts = record { grown = grown_by_texts words texts; once = once words texts }
  where
    once : (words texts : Texts) → EachOnce words → EachOnce (with_texts words texts)
    once words [] h = h
    once words (text ∷ texts) h = once (with_text words text) texts (once_read words text h)

after_tree : (words : Texts) (tokens : Tokens) (t : Tree) → IsTableAfter words (production_of words tokens t).words
unfolding production_of
after_tree words tokens t =
    let conditions = parts_conditions (part_and t.part t.parts) words (record { used = names_in tokens; names = []; fresh = []; next = 1 }) in
    after_texts words (actions_of words t.actions conditions.names).names.fresh

-- ---- readings

abbrev OrderIsLawful : Texts → Result Order Refusal → Type 0
OrderIsLawful words (Ok order) = IsLawfulOrder words order
OrderIsLawful words (Err why) = Unit {0}

record IsLawfulReading (words : Texts) (r : Reading) : Type 0 where
  table : IsTableAfter words r.words
  order : 24 ≤ length words → OrderIsLawful r.words r.order

refused : (words : Texts) (why : Refusal) → IsLawfulReading words (record { words = words; order = Err why })
refused words why = record { table = as_before words; order = λ some. tt }

-- what is read of a longer table
read_after : (a b : Texts) (r : Reading) → IsTableAfter a b → IsLawfulReading b r → IsLawfulReading a r
read_after a b r h k = record {
  table = then_after a b r.words h k.table;
  order = λ some. let l : length a ≤ length b = longer a b h.grown in k.order (omega arith);
}

or_wrong_lawful : (words : Texts) (o : Option Order) → IfLawful words o → OrderIsLawful words (or_wrong o)
or_wrong_lawful words (Some order) h = h
or_wrong_lawful words None h = tt

faulty_lawful : (words : Texts) (l : Lexed) (f : Texts → List Spelled → Reading) → ((read : Texts) (tokens : List Spelled) → IsLawfulReading read (f read tokens)) → IsLawfulReading words (unless_faulty words l f)
faulty_lawful words l f each = read_after words read (unless_faulty words l f) (after_texts words (token_texts l.tokens)) (go l.fault)
  where
    read : Texts
    read = words_after words l.tokens

    go : (o : Option lexing.Fault) → IsLawfulReading read (elim o as (λ x. Reading) [ Some e ↦ record { words = read; order = Err (of_lexing e) } | None ↦ f read l.tokens ])
    go (Some e) = refused read (of_lexing e)
    go None = each read l.tokens

-- ---- productions

checked_lawful : (words : Texts) (p : ProductionOf) → IsOfWords words p → OrderIsLawful words (checked words p)
checked_lawful words p h = go (ordered p) refl
  where
    go : (r : Result ProductionOf Fault) → ordered p ≡ r → OrderIsLawful words (of_ordered words p r)
    go (Ok q) e = checked_may_be_loaded words p q h e
    go (Err why) e = tt

tree_lawful : (words : Texts) (tokens : List Spelled) (r : Result Tree (Stop × ℕ)) → IsLawfulReading words (read_tree checked words tokens r)
tree_lawful words tokens (Err stop) = record { table = as_before words; order = λ some. tt }
tree_lawful words tokens (Ok tree) =
    let says = map (λ (t : Spelled). t.says) tokens in
    record {
      table = after_tree words says tree;
      order = λ some. checked_lawful (production_of words says tree).words (production_of words says tree).production (read_is_of_words words says tree some);
    }

sp_lawful : (words : Texts) (text : List ℕ) → IsLawfulReading words (read_sp checked words text)
sp_lawful words text = faulty_lawful words (lexed text) (read_tokens checked) (λ read tokens. tree_lawful read tokens (tree_of (map (λ (t : Spelled). t.says) tokens)))

-- ---- the others

source_lawful : (words : Texts) (text : List ℕ) → IsLawfulReading words (read_source words text)
source_lawful words text = record { table = as_before words; order = λ some. go (file_name text) (nat_lt (utf8_valid_len (file_name text)) (length (file_name text))) (is_empty (file_name text)) }
  where
    go : (name : List ℕ) (a b : Bool)
        → OrderIsLawful words (cond a (Err (at_byte 12 (codes "bad byte") (name_start text + utf8_valid_len name))) (cond b (Err wrong_words) (Ok (source name))))
    go name true b = tt
    go name false true = tt
    go name false false = tt

arguments_lawful : (words : Texts) (text : List ℕ) (l : Lexed) (f : Texts → List Argument → Option Order) → ((read : Texts) (arguments : List Argument) → 0 < length read → IfLawful read (f read arguments))
    → IsLawfulReading words (read_arguments words text l f)
arguments_lawful words text l f each =
    faulty_lawful words l (λ read tokens. record { words = read; order = or_wrong (f read (drop 1 (map (argument_in text) tokens))) }) (λ read tokens. record {
      table = as_before read;
      order = λ some. or_wrong_lawful read (f read (drop 1 (map (argument_in text) tokens))) (each read (drop 1 (map (argument_in text) tokens)) (omega arith));
    })

by_form_lawful : (words : Texts) (text : List ℕ) (o : Option Form) → IfFormLawful o → IsLawfulReading words (by_form words text o)
by_form_lawful words text None h = record { table = as_before words; order = λ some. tt }
by_form_lawful words text (Some f) h = arguments_lawful words text (lexed text) f.order h

whole_lawful : (words : Texts) (text : List ℕ) → IsLawfulReading words (read_whole words text)
unfolding read_whole
whole_lawful words text = go (bytes_eq (first_run text) (codes "sp")) (bytes_eq (first_run text) (codes "source")) (bytes_eq (first_run text) (codes "random"))
  where
    go : (a b c : Bool)
        → IsLawfulReading words (cond a (read_sp checked words text) (cond b (read_source words text) (cond c (read_arguments words text (random_lexed 0 0 text) (λ read. random_order)) (by_form words text (form_in forms (first_run text))))))
    go true b c = sp_lawful words text
    go false true c = source_lawful words text
    go false false true = arguments_lawful words text (random_lexed 0 0 text) (λ read. random_order) (λ read arguments some. random_lawful read some arguments)
    go false false false = by_form_lawful words text (form_in forms (first_run text)) (form_lawful (first_run text))

-- ---- stages

order_of : (words : Texts) (r : Result Order Refusal) (order : Order) → r ≡ Ok order → OrderIsLawful words r → IsLawfulOrder words order
order_of words r order q h = subst (OrderIsLawful words) q h

pub whole_reads_lawfully : WholeReadsLawfully
whole_reads_lawfully = record {
  grown = λ words text. (whole_lawful words text).table.grown;
  once = λ words text. (whole_lawful words text).table.once;
  orders = λ words text order some q. order_of (read_whole words text).words (read_whole words text).order order q ((whole_lawful words text).order some);
}

-- what is built was read
built_lawful : (words : Texts) (r : Result Order Refusal) → OrderIsLawful words r → OrderIsLawful words (built_order r)
built_lawful words (Err why) h = tt
built_lawful words (Ok order) h = go (is_built order)
  where
    go : (b : Bool) → OrderIsLawful words (cond b (Ok order) (Err unknown_command))
    go true = h
    go false = tt

pub present_reads_lawfully : PresentReadsLawfully
present_reads_lawfully = record {
  grown = λ words text. (whole_lawful words text).table.grown;
  once = λ words text. (whole_lawful words text).table.once;
  orders = λ words text order some q.
      order_of (read_present words text).words (read_present words text).order order q (built_lawful (read_whole words text).words (read_whole words text).order ((whole_lawful words text).order some));
}
