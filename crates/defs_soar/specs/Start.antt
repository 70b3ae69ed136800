-- The first state of an agent, and what starting anew keeps.
use Rattle.std.specs.Prelude.{ℕ, Bool, true, false, not, List, [], ◌∷◌, filter, replicate}
use Rattle.std.specs.List.{list_any}
use Rattle.std.specs.Prelude.{◌==◌}
use Rattle.soar_sym.specs.Letters.{with_last}
use Rattle.soar_sym.specs.Words.{architecture}
use Rattle.soar_sym.specs.declared.symbol.Sym.{Sym}
use Rattle.defs_match.specs.Element.{Element}
use Rattle.defs_soar.specs.declared.choice.Mode.TheVariants as mode
use Rattle.defs_soar.specs.declared.goal.Impasse.TheVariants as impasse
use Rattle.defs_soar.specs.Agents.{Agent, Holding, Program, Counts, Settings}
use Rattle.defs_soar.specs.Architecture.{link_letter, state_letter, top_state, io_identifier, input_identifier, output_identifier, io_word, input_link_word, output_link_word, superstate_word, nil_word, type_word, state_word}
use Rattle.defs_soar.specs.Decision.{new_goal}
use Rattle.defs_soar.specs.Pending.{is_justification}

abbrev pub start_element : ℕ → Sym → Sym → Sym → Bool → Element
start_element tag id attr value of_state = record { tag = tag; id = id; attr = attr; value = value; accept = false; of_state = of_state }

-- (I1 ^input-link I2), (I1 ^output-link I3), (S1 ^io I1), (S1 ^superstate nil), (S1 ^type state)
abbrev pub first_elements : List Element
first_elements =
    start_element 1 io_identifier input_link_word input_identifier false
    ∷ start_element 2 io_identifier output_link_word output_identifier false
    ∷ start_element 3 top_state io_word io_identifier true
    ∷ start_element 4 top_state superstate_word nil_word true
    ∷ start_element 5 top_state type_word state_word true
    ∷ []

-- the last numbers are 3 of letter I and 1 of letter S
abbrev pub first_letters : List ℕ
first_letters = with_last (with_last (replicate 26 0) link_letter 3) state_letter 1

abbrev pub first_holding : Holding
first_holding = record { elements = first_elements; goals = new_goal top_state impasse.Top [] ∷ []; rows = []; inputs = []; live = [] }

abbrev pub no_counts : Counts
no_counts = record { cycles = 0; waves = 0; firings = 0; retractions = 0; learned = 0 }

abbrev pub first_settings : ℕ → Settings
first_settings watch = record { learning = false; local_negations = false; mode = mode.Softmax; max_elaborations = 100; watch = watch }

-- at a watch level
abbrev pub first_agent : ℕ → Agent
first_agent watch = record {
  names = record { words = architecture; letters = first_letters; last_tag = 5 };
  holding = first_holding;
  queues = record { input = []; random = [] };
  program = record { rules = []; last_rule = 0; chains = []; chunks = 0; justifications = 0 };
  counts = no_counts;
  settings = first_settings watch;
  history = [];
  output = [];
  halted = false;
}

-- ---- starting anew

-- productions stay with their explanations, but justifications go
abbrev pub without_justifications : Program → Program
without_justifications program =
    let kept = filter (λ rule. not (is_justification rule.production.kind)) program.rules in
    record program { rules = kept; chains = filter (λ learnt. list_any (λ rule. rule.number == learnt.rule) kept) program.chains }

-- words, productions, settings and the numbers of rules and names stay
abbrev pub restarted : Agent → Agent
restarted a = record a {
  names = record { words = a.names.words; letters = first_letters; last_tag = 5 };
  holding = first_holding;
  queues = record { input = []; random = [] };
  program = without_justifications a.program;
  counts = no_counts;
  history = [];
  output = [];
  halted = false;
}
