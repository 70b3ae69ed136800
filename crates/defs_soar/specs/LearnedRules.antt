-- What the outcome of learning does to the wave at hand, and the names of learned rules (Soar manual, chapter 4, chunking; names and numbers are this engine's).
--
-- The names of the candidate's variables join the table first. A learned rule is named `chunk*N` or `justification*N`, each kind counted by itself,
-- past names that are loaded.
use Rattle.std.specs.Prelude.{ℕ, zero, suc, Bool, true, false, List, [], ◌∷◌, ◌++◌, flat_map, filter, length, Some, None, if◌then◌else◌, codes}
use Rattle.std.specs.Fmt.{decimal}
use Rattle.std.specs.List.{list_any}
use Rattle.std.specs.Str.{bytes_eq}
use Rattle.soar_sym.specs.Words.{Texts, with_text}
use Rattle.soar_sym.specs.declared.symbol.Sym.{Sym}
use Rattle.soar_rule.specs.Productions.{ProductionOf}
use Rattle.defs_match.specs.Element.{Element}
use Rattle.defs_text.specs.Numbered.{word_in}
use Rattle.defs_match.specs.Rules.{RuleOf}
use Rattle.defs_soar.specs.declared.learning.Cause.{Cause}
use Rattle.defs_soar.specs.declared.learning.Learning.{Learning}
use Rattle.defs_soar.specs.Agents.{Settings}
use Rattle.defs_soar.specs.Candidate.{general_form, literal_form, named_form, all_grounds}
use Rattle.defs_soar.specs.ConditionOrder.{Ordered, ordered_grounds}
use Rattle.defs_soar.specs.Events.{learns, justifies, has_no_grounds, reuses, has_lost, is_blocked}
use Rattle.defs_soar.specs.History.{ChainOf}
use Rattle.defs_soar.specs.LearnedFirings.{ExplainedFiring, without_rule, with_learned}
use Rattle.defs_soar.specs.Limits.{words_to, counts_to}
use Rattle.defs_soar.specs.Naming.{text_of_name}
use Rattle.defs_soar.specs.Outcome.{Outcome, lost, blocked, groundless, justified, reused, chunked, outcome_of, has_grounds}
use Rattle.defs_soar.specs.Results.{with_each_symbol}
use Rattle.defs_soar.specs.Ungrounded.{symbols_of_element, ungrounded}
use Rattle.defs_soar.specs.Values.{is_identifier}
use Rattle.defs_soar.specs.WaveAtHand.{BeforeWave, Wave}

-- ---- names of learned rules

abbrev pub is_loaded : Texts → List RuleOf → List ℕ → Bool
is_loaded words rules text = list_any (λ rule. bytes_eq (text_of_name words rule.production.name) text) rules

abbrev pub learned_name : List ℕ → ℕ → List ℕ
learned_name front n = front ++ decimal n

-- the next number whose name is not loaded; as many as there are rules can be in the way
abbrev pub free_number : ℕ → Texts → List RuleOf → List ℕ → ℕ → ℕ
free_number zero words rules front n = n
free_number (suc k) words rules front n =
    elim (is_loaded words rules (learned_name front n)) [ true ↦ free_number k words rules front (suc n) | false ↦ n ]

-- ---- what an outcome does to the wave

-- the elements of conditions, and the identifiers that variables in them are bound to, in that order
abbrev pub identifiers_of : List Element → List Sym
identifiers_of elements = with_each_symbol [] (filter is_identifier (flat_map symbols_of_element elements))

abbrev pub with_joined_word : List ℕ → Wave → Wave
with_joined_word text w =
    record w { names = record w.names { words = with_text w.names.words text }; totals = w.totals ++ words_to (length (with_text w.names.words text)) ∷ [] }

abbrev pub with_number_total : ℕ → Wave → Wave
with_number_total n w = record w { totals = w.totals ++ counts_to n ∷ [] }

abbrev pub chunk_front : List ℕ
chunk_front = codes "chunk*"

abbrev pub justification_front : List ℕ
justification_front = codes "justification*"

abbrev pub with_chunk : BeforeWave → ExplainedFiring → ProductionOf → Ordered → Wave → Wave
with_chunk m l production o w =
    let n = free_number (length w.program.rules) w.names.words w.program.rules chunk_front (suc w.program.chunks) in
    let text = learned_name chunk_front n in
    let named = with_joined_word text (with_number_total n w) in
    let counted = record named { program = record named.program { chunks = n }; learned = suc named.learned } in
    let name = word_in named.names.words text in
    with_learned m l (record production { name = name }) o.taken (identifiers_of o.taken) (λ number tags. learns number name l.explained.number tags) counted

abbrev pub with_justification : BeforeWave → ExplainedFiring → ProductionOf → Ordered → Cause → Wave → Wave
with_justification m l production o why w =
    let n = free_number (length w.program.rules) w.names.words w.program.rules justification_front (suc w.program.justifications) in
    let text = learned_name justification_front n in
    let named = with_joined_word text (with_number_total n w) in
    let counted = record named { program = record named.program { justifications = n } } in
    let name = word_in named.names.words text in
    with_learned m l (record production { name = name }) (all_grounds o) [] (λ number tags. justifies number name l.explained.number tags why) counted

-- the names of the candidate's variables join the table: those of the general form, or of the literal one where there is no general one
abbrev pub names_joining : Texts → ChainOf → ℕ → List (List ℕ)
names_joining words c depth =
    if has_grounds c then elim (ungrounded words c depth) [ None ↦ (general_form words c depth).names | Some s ↦ (literal_form words c depth).names ] else []

abbrev pub by_outcome : BeforeWave → ExplainedFiring → Wave → Outcome → Wave
by_outcome m l w (lost tag) = without_rule l (has_lost l.explained.number tag) w
by_outcome m l w (blocked b) = without_rule l (is_blocked l.explained.number b.negation b.tag) w
by_outcome m l w groundless = without_rule l (has_no_grounds l.explained.number) w
by_outcome m l w (reused name) = without_rule l (reuses name l.explained.number) w
by_outcome m l w (justified why) =
    with_justification m l (named_form w.names.words (literal_form w.names.words l.chain l.explained.depth)) (ordered_grounds w.names.words l.chain.grounds) why w
by_outcome m l w chunked =
    with_chunk m l (named_form w.names.words (general_form w.names.words l.chain l.explained.depth)) (ordered_grounds w.names.words l.chain.grounds) w

abbrev pub with_names : List (List ℕ) → Wave → Wave
with_names [] w = w
with_names (text ∷ texts) w = with_names texts (with_joined_word text w)

abbrev pub as_learning : Settings → ℕ → Learning
as_learning s learned = record { on = s.learning; local_negations = s.local_negations; learned = learned }

abbrev pub after_explanation : BeforeWave → ExplainedFiring → Wave → Wave
after_explanation m l w =
    let read = with_names (names_joining w.names.words l.chain l.explained.depth) w in
    by_outcome m l read (outcome_of read.names.words l.chain l.explained.depth read.program.rules m.elements (as_learning m.settings read.learned))
