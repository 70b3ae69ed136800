-- The order that a read command asks for, as the definitions have it.
use Rattle.std.specs.Prelude.{ℕ, Bool, true, false, ◌||◌, List, [], ◌∷◌, map, drop, Option, Some, None, option_map, if◌then◌else◌, codes}
use Rattle.std.specs.Str.{bytes_eq}
use Rattle.soar_sym.specs.Words.{Texts}
use Rattle.soar_rule.specs.Productions.{production_seen}
use Rattle.defs_text.specs.Lexing.{Spelled}
use Rattle.defs_text.specs.Numbered.{word_in}
use Rattle.defs_text.specs.Symbols.{is_identifier_form}
use Rattle.defs_run.specs.Arguments.{Argument, argument_in, identifier_of, is_small_form}
use Rattle.defs_run.specs.CommandForms.{alone, chunk_order, input_order, matches_order, name_order, number_order, printing_order, selection_order, slot_order, tag_order, triple_order}
use Rattle.defs_run.specs.Orders.{Operand, is_symbol, is_label, Order, load, excise, source, add_wme, remove_wme, queue, random, run_cycles, watch, matches, matches_of, preferences, print_id, print_name, print_memory, print_rules, print_chunks, chunk, local_negations, select_by, max_elaborations, explain, stats, init_soar, quit}
use Rattle.defs_run.specs.Stages.{Reading}
use Rattle.defs_run.specs.WholeReading.{or_wrong}
use Rattle.defs_run.specs.declared.form.Addition.{Addition}
use Rattle.defs_run.specs.declared.form.Operand.{Operand as OperandRead}
use Rattle.defs_run.specs.declared.form.Operand.TheVariants as operand
use Rattle.defs_run.specs.declared.form.Order.{Order as OrderRead}
use Rattle.defs_run.specs.declared.form.Order.TheVariants as read
use Rattle.command_orders.specs.declared.form.Form.{Form as FormRead}
use Rattle.command_orders.specs.declared.form.Form.TheVariants as form

abbrev pub operand_seen : OperandRead → Operand
operand_seen (operand.Symbol symbol) = is_symbol symbol
operand_seen (operand.Label name) = is_label name

-- what is asked for with the three of an element
abbrev pub asked_with : (Operand → Operand → Operand → Order) → Addition → Order
asked_with ask addition = ask (operand_seen addition.id) (operand_seen addition.attr) (operand_seen addition.value)

abbrev pub addition_seen : Addition → Order
addition_seen addition = asked_with add_wme addition

abbrev pub order_seen : OrderRead → Order
order_seen (read.Load production) = load (production_seen production)
order_seen (read.Excise name) = excise name
order_seen (read.Source name) = source name
order_seen (read.Add addition) = addition_seen addition
order_seen (read.Remove tag) = remove_wme tag
order_seen (read.Queue adds addition) = asked_with (queue adds) addition
order_seen (read.Random words) = random words
order_seen (read.Run count) = run_cycles count
order_seen (read.Watch level) = watch level
order_seen read.Matches = matches
order_seen (read.MatchesOf name) = matches_of name
order_seen (read.Preferences id attr) = preferences (operand_seen id) (operand_seen attr)
order_seen (read.Print id) = print_id (operand_seen id)
order_seen (read.Show name) = print_name name
order_seen read.PrintMemory = print_memory
order_seen read.PrintRules = print_rules
order_seen read.PrintChunks = print_chunks
order_seen (read.Chunk on) = chunk on
order_seen (read.LocalNegations on) = local_negations on
order_seen (read.SelectBy mode) = select_by mode
order_seen (read.MaxElaborations count) = max_elaborations count
order_seen (read.Explain name) = explain name
order_seen read.Stats = stats
order_seen read.InitSoar = init_soar
order_seen read.Quit = quit

-- what a command of a form may ask for, by the arguments behind its word
abbrev pub FormOf : Type 0
FormOf = Texts → List Argument → Option Order

abbrev pub form_seen : FormRead → FormOf
form_seen form.Excise = λ words. name_order words excise
form_seen form.Add = λ words. triple_order words add_wme
form_seen form.Remove = λ words. tag_order
form_seen form.Input = input_order
form_seen form.Run = λ words. number_order 1 1000000 run_cycles
form_seen form.Watch = λ words. number_order 0 5 watch
form_seen form.Matches = matches_order
form_seen form.Preferences = slot_order
form_seen form.Print = printing_order
form_seen form.Chunk = λ words. chunk_order
form_seen form.Selection = λ words. selection_order
form_seen form.Elaborations = λ words. number_order 1 10000 max_elaborations
form_seen form.Explain = λ words. name_order words explain
form_seen form.Stats = λ words. alone stats
form_seen form.InitSoar = λ words. alone init_soar
form_seen form.Quit = λ words. alone quit

-- `add` or `remove`, as whether something is added
abbrev pub adds_by : List ℕ → Option Bool
adds_by text = if bytes_eq text (codes "add") then Some true else if bytes_eq text (codes "remove") then Some false else None

-- whether to learn
abbrev pub learning_by : List ℕ → Option Order
learning_by text = if bytes_eq text (codes "always") then Some (chunk true) else if bytes_eq text (codes "never") then Some (chunk false) else None

-- whether to learn from what was missing
abbrev pub switch_by : List ℕ → Option Order
switch_by text = if bytes_eq text (codes "on") then Some (local_negations true) else if bytes_eq text (codes "off") then Some (local_negations false) else None

-- ---- what is printed

-- all elements, rules or chunks
abbrev pub listing_by : List ℕ → Option Order
listing_by text =
    if bytes_eq text (codes "--wm") then Some print_memory
    else if bytes_eq text (codes "--rules") then Some print_rules
    else if bytes_eq text (codes "--chunks") then Some print_chunks else None

-- the elements of an identifier, whose letter may be small, or the production of a name
abbrev pub shown_by : Texts → List ℕ → Order
shown_by words text =
    if is_identifier_form text || is_small_form text then print_id (is_symbol (identifier_of text)) else print_name (word_in words text)

-- ---- orders of tokens

abbrev pub order_by : FormOf → Texts → List ℕ → List Spelled → Option Order
order_by f words text tokens = f words (drop 1 (map (argument_in text) tokens))

abbrev pub read_order : FormOf → List ℕ → Texts → List Spelled → Reading
read_order f text words tokens = record { words = words; order = or_wrong (order_by f words text tokens) }

-- ---- random words

-- the numbers, where each is one
abbrev pub all_numbers : List (Option ℕ) → Option (List ℕ)
all_numbers [] = Some []
all_numbers (Some n ∷ numbers) = option_map (λ ns. n ∷ ns) (all_numbers numbers)
all_numbers (None ∷ numbers) = None

-- those of tokens, of which the first is the command's word
abbrev pub numbers_order : List (Option ℕ) → Option Order
numbers_order [] = None
numbers_order (word ∷ []) = None
numbers_order (word ∷ n ∷ numbers) = option_map random (all_numbers (n ∷ numbers))
