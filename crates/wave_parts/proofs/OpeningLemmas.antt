-- Starting anew: what lasts of an agent, beside a first state.
use Rattle.std.proofs.Common.{rules, ℕ, ◌≡◌, ◌≤◌, List, [], ◌∷◌, ◌++◌, map, flat_map, length, refl, sym, ap, subst, arith}
use Rattle.soar_sym.specs.Words.{Texts}
use Rattle.soar_sym.specs.declared.symbol.Triple.{Triple}
use Rattle.soar_wm.specs.declared.element.Element.{Element}
use Rattle.defs_soar.specs.History.{FiringOf}
use Rattle.defs_soar.specs.declared.goal.Goal.{Goal}
use Rattle.defs_soar.specs.declared.preference.Preference.{Preference}
use Rattle.defs_soar.specs.Agents.{Agent, LiveFiring, Program, Settings}
use Rattle.defs_soar.specs.Standing.{makers_of_goal}
use Rattle.defs_soar.specs.Start.{first_agent, first_elements, restarted, without_justifications}
use Rattle.agent_laws.specs.Records.{IsPartOf}
use Rattle.program_laws.specs.Knowing.{AreNamed}
use Rattle.input_queue.specs.declared.queued.Queued.{Queued}
use Rattle.input_queue.specs.Seen.{triple_queued}
use Rattle.soar_record.specs.Recorded.{recorded}
use Rattle.soar_settle.specs.Known.{AreElementsKnown, AreRowsKnown, AreTriplesKnown}
use Rattle.wave_parts.specs.Openings.{IsBare, begun_anew, top_goals}
use Rattle.wave_parts.specs.Programs.{program_of}
use Rattle.wave_parts.specs.Seen.{IsSound}
use Rattle.wave_parts.specs.Settings.{settings_seen}
use Rattle.wave_parts.specs.Stands.{Stands}
use Rattle.wave_parts.specs.declared.parts.Parts.{Parts as PartsKept}
use Rattle.wave_parts.proofs.KeptUpLemmas.{first_goals_known}

pub anew_stands : (first old : PartsKept) (s : Agent) (watch : ℕ) → Stands first (first_agent watch) → old.table ≡ s.names.words → program_of old ≡ without_justifications s.program → settings_seen old.settings ≡ s.settings
    → Stands (begun_anew first old) (restarted s)
anew_stands first old s watch f words program settings = record {
  words = words;
  letters = f.letters;
  elements = f.elements;
  last_tag = f.last_tag;
  goals = f.goals;
  rows = f.rows;
  inputs = f.inputs;
  live = refl;
  queues = f.queues;
  rules = ap (λ (p : Program). p.rules) program;
  last_rule = ap (λ (p : Program). p.last_rule) program;
  chains = ap (λ (p : Program). p.chains) program;
  learned_numbers = (ap (λ (p : Program). p.chunks) program, ap (λ (p : Program). p.justifications) program);
  counts = f.counts;
  settings = settings;
  output = f.output;
  halted = f.halted;
  remembers = record {
    is_record = subst (λ (ls : List LiveFiring). IsPartOf (recorded first.past) [] (map (λ (l : LiveFiring). l.number) ls ++ (map (λ (row : Preference). row.firing) first.prefs.rows ++ flat_map makers_of_goal first.goals))) f.live f.remembers.is_record;
    makers_kept = f.remembers.makers_kept;
    numbers_given = f.remembers.numbers_given;
    makers_earlier = f.remembers.makers_earlier;
    depends_are = f.remembers.depends_are;
    goals_numbered = f.remembers.goals_numbered;
  };
}

first_elements_known : (words : Texts) → 24 ≤ length words → AreElementsKnown words first_elements
first_elements_known words enough = search rules

pub anew_is_sound : (first old : PartsKept) → IsSound first → IsBare first → IsSound old → IsSound (begun_anew first old)
anew_is_sound first old f bare o = record {
  goals_some = f.goals_some;
  goals_few = f.goals_few;
  goals_known = first_goals_known old.table first.letters first.goals bare.goals bare.letters;
  depends_fit = f.depends_fit;
  doubted = f.doubted;
  element_limit = f.element_limit;
  row_limit = f.row_limit;
  few_rows = f.few_rows;
  rows_in_range = f.rows_in_range;
  rows_of_firings = f.rows_of_firings;
  makers_of_firings = f.makers_of_firings;
  recorded_up_to = f.recorded_up_to;
  makers_earlier = f.makers_earlier;
  first_words = o.first_words;
  top_numbered = f.top_numbered;
  numbered = o.numbered;
  numbers_given = o.numbers_given;
  rules_known = o.rules_known;
  elements_known = subst (λ (es : List Element). AreElementsKnown old.table es) (sym bare.elements) (first_elements_known old.table o.first_words);
  rows_known = subst (λ (rows : List Preference). AreRowsKnown old.table rows) (sym bare.rows) tt;
  inputs_known = subst (λ (ts : List Triple). AreTriplesKnown old.table ts) (sym bare.inputs) tt;
  queue_known = subst (λ (q : List Queued). AreTriplesKnown old.table (map triple_queued q)) (sym bare.queue) tt;
  output_known = subst (λ (ts : List Triple). AreTriplesKnown old.table ts) (sym bare.output) tt;
  live_known = tt;
  live_given = λ l is. absurd is;
  past_named = subst (λ (fs : List FiringOf). AreNamed old.table fs) (sym bare.past) (λ f is. absurd is);
  chains_known = o.chains_known;
  chains_kept = o.chains_kept;
  kept_up = f.kept_up;
  kept_ids = f.kept_ids;
}
