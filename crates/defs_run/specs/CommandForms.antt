-- The forms of the commands that have arguments, once all are built (the forms are this engine's).
use Rattle.std.specs.Prelude.{ℕ, true, false, ◌&&◌, nat_le, List, [], ◌∷◌, Option, Some, None, option_and_then, option_map, if◌then◌else◌, codes}
use Rattle.std.specs.Str.{bytes_eq}
use Rattle.soar_sym.specs.Words.{Texts}
use Rattle.soar_sym.specs.declared.symbol.Sym.{Sym}
use Rattle.defs_soar.specs.declared.choice.Mode.TheVariants as mode
use Rattle.defs_run.specs.Arguments.{Argument, bare, label, number, caret, operand_of, attribute_of, id_of, name_of}
use Rattle.defs_run.specs.Orders.{Operand, Order, excise, add_wme, remove_wme, queue, run_cycles, watch, matches, matches_of, preferences, print_id, print_name, print_memory, print_rules, print_chunks, chunk, local_negations, select_by, max_elaborations, explain, stats, init_soar, quit}

abbrev pub number_order : ℕ → ℕ → (ℕ → Order) → List Argument → Option Order
number_order low high f (number n ∷ []) = if nat_le low n && nat_le n high then Some (f n) else None
number_order low high f other = None

abbrev pub tag_order : List Argument → Option Order
tag_order (number n ∷ []) = Some (remove_wme n)
tag_order other = None

abbrev pub name_order : Texts → (Sym → Order) → List Argument → Option Order
name_order words f (a ∷ []) = option_map f (name_of words a)
name_order words f other = None

abbrev pub alone : Order → List Argument → Option Order
alone order [] = Some order
alone order (a ∷ arguments) = None

-- `ID ^ATTR VALUE`
abbrev pub triple_order : Texts → (Operand → Operand → Operand → Order) → List Argument → Option Order
triple_order words f (i ∷ caret ∷ a ∷ v ∷ []) =
    option_and_then (λ id. option_and_then (λ attr. option_map (f id attr) (operand_of words v)) (attribute_of words a)) (id_of i)
triple_order words f other = None

abbrev pub input_order : Texts → List Argument → Option Order
input_order words (bare text ∷ arguments) =
    if bytes_eq text (codes "add") then triple_order words (queue true) arguments
    else if bytes_eq text (codes "remove") then triple_order words (queue false) arguments else None
input_order words other = None

abbrev pub slot_order : Texts → List Argument → Option Order
slot_order words (i ∷ a ∷ []) = option_and_then (λ id. option_map (preferences id) (attribute_of words a)) (id_of i)
slot_order words other = None

abbrev pub matches_order : Texts → List Argument → Option Order
matches_order words [] = Some matches
matches_order words (a ∷ arguments) = name_order words matches_of (a ∷ arguments)

abbrev pub print_order : Texts → Argument → Option Order
print_order words (bare text) =
    if bytes_eq text (codes "--wm") then Some print_memory
    else if bytes_eq text (codes "--rules") then Some print_rules
    else if bytes_eq text (codes "--chunks") then Some print_chunks
    else elim (id_of (bare text)) [ Some id ↦ Some (print_id id) | None ↦ option_map print_name (name_of words (bare text)) ]
print_order words (label name) = option_map print_id (id_of (label name))
print_order words other = option_map print_name (name_of words other)

abbrev pub printing_order : Texts → List Argument → Option Order
printing_order words (a ∷ []) = print_order words a
printing_order words other = None

abbrev pub switch_order : List Argument → Option Order
switch_order (bare text ∷ []) =
    if bytes_eq text (codes "on") then Some (local_negations true) else if bytes_eq text (codes "off") then Some (local_negations false) else None
switch_order other = None

abbrev pub chunk_order : List Argument → Option Order
chunk_order (bare text ∷ []) =
    if bytes_eq text (codes "always") then Some (chunk true) else if bytes_eq text (codes "never") then Some (chunk false) else None
chunk_order (bare text ∷ a ∷ arguments) = if bytes_eq text (codes "allow-local-negations") then switch_order (a ∷ arguments) else None
chunk_order other = None

-- `epsilon-greedy P Q`: P at most Q, and Q from 1 to 1,000,000
abbrev pub epsilon_order : List ℕ → ℕ → ℕ → Option Order
epsilon_order text p q =
    if bytes_eq text (codes "epsilon-greedy") && (nat_le p q && (nat_le 1 q && nat_le q 1000000)) then Some (select_by (mode.EpsilonGreedy p q)) else None

abbrev pub mode_order : List ℕ → Option Order
mode_order text =
    if bytes_eq text (codes "first") then Some (select_by mode.First)
    else if bytes_eq text (codes "last") then Some (select_by mode.Last)
    else if bytes_eq text (codes "softmax") then Some (select_by mode.Softmax) else None

abbrev pub selection_order : List Argument → Option Order
selection_order (bare text ∷ []) = mode_order text
selection_order (bare text ∷ number p ∷ number q ∷ []) = epsilon_order text p q
selection_order other = None

-- a command's word with what it asks for
pub record Form : Type 0 where
  pub word : List ℕ
  pub order : Texts → List Argument → Option Order

abbrev pub form : List ℕ → (Texts → List Argument → Option Order) → Form
form word order = record { word = word; order = order }

abbrev pub forms : List Form
forms =
    form (codes "excise") (λ words. name_order words excise)
    ∷ form (codes "add-wme") (λ words. triple_order words add_wme)
    ∷ form (codes "remove-wme") (λ words. tag_order)
    ∷ form (codes "input") input_order
    ∷ form (codes "run") (λ words. number_order 1 1000000 run_cycles)
    ∷ form (codes "watch") (λ words. number_order 0 5 watch)
    ∷ form (codes "matches") matches_order
    ∷ form (codes "preferences") slot_order
    ∷ form (codes "print") printing_order
    ∷ form (codes "chunk") (λ words. chunk_order)
    ∷ form (codes "indifferent-selection") (λ words. selection_order)
    ∷ form (codes "max-elaborations") (λ words. number_order 1 10000 max_elaborations)
    ∷ form (codes "explain") (λ words. name_order words explain)
    ∷ form (codes "stats") (λ words. alone stats)
    ∷ form (codes "init-soar") (λ words. alone init_soar)
    ∷ form (codes "quit") (λ words. alone quit)
    ∷ []

abbrev pub form_in : List Form → List ℕ → Option Form
form_in [] word = None
form_in (f ∷ fs) word = if bytes_eq f.word word then Some f else form_in fs word
