use Rattle.std.proofs.Common.{rules, ◌∙◌, [], drop, map, refl, ap, subst, sym}
use Rattle.defs_soar.specs.Goals.{goal_ids}
use Rattle.defs_soar.specs.Standing.{dependencies_from}
use Rattle.dependency_tables.specs.Tables.{tables_of}
use Rattle.goal_trimming.proofs.LostLemmas.{none_doubted}
use Rattle.live_firings.specs.Living.{Firings, live_seen}
use Rattle.wave_parts.specs.Seen.{AreLiveGiven, AreLiveKnown}
use Rattle.wave_parts.proofs.KeptUpLemmas.{first_goals_known, first_kept_up}
use Rattle.wave_parts.proofs.StandsLemmas.{none_kept, none_recorded}
use Rattle.wave_parts.proofs.parts.Parts.of_opening.Goals as goal

pub returns-clause-stands : goal.returns-clause-stands
returns-clause-stands c =
    let o = c.requires.opening in
    record {
      words = c.requires.table;
      letters = c.first_letters.ensures;
      elements = ap (λ m. m.elements) o.memory;
      last_tag = ap (λ m. m.last) o.memory;
      goals = o.goals;
      rows = ap (λ p. p.rows) o.prefs;
      inputs = search rules;
      live = ap (λ (f : Firings). map live_seen f.list) c.new-8.ensures;
      queues = search rules;
      rules = search rules;
      last_rule = search rules;
      chains = search rules;
      learned_numbers = search rules;
      counts = search rules;
      settings = search rules;
      output = search rules;
      halted = search rules;
      remembers = record {
        is_record = none_recorded c.args.opening.past c.new-8.result.list c.args.opening.prefs.rows c.args.opening.goals o.past (ap (λ (f : Firings). f.list) c.new-8.ensures) (ap (λ p. p.rows) o.prefs) o.goals;
        makers_kept = none_kept c.args.opening.past o.past;
        numbers_given = λ f is. absurd is;
        makers_earlier = λ f is. absurd is;
        depends_are = c.new-3.ensures ∙ ap (λ gs. tables_of (dependencies_from [] 2 (drop 1 gs))) (sym o.goals);
        goals_numbered = λ p goal is. absurd is;
      };
    }

pub returns-clause-sound : goal.returns-clause-sound
returns-clause-sound c =
    let o = c.requires.opening in
    record {
      goals_some = search rules;
      goals_few = search rules;
      goals_known = first_goals_known c.args.table c.first_letters.result c.args.opening.goals o.goals c.first_letters.ensures;
      depends_fit = search rules;
      doubted = none_doubted c.new-3.result c.args.opening.memory.elements c.args.opening.kept.triples c.new-10.result c.new-3.ensures;
      element_limit = ap (λ m. m.limit) o.memory;
      row_limit = ap (λ p. p.limit) o.prefs;
      few_rows = search rules;
      rows_in_range = search rules;
      rows_of_firings = search rules;
      makers_of_firings = search rules;
      recorded_up_to = search rules;
      makers_earlier = search rules;
      first_words = search rules;
      top_numbered = search rules;
      numbered = search rules;
      numbers_given = search rules;
      rules_known = search rules;
      elements_known = search rules;
      rows_known = search rules;
      inputs_known = search rules;
      queue_known = search rules;
      output_known = search rules;
      live_known = subst (λ (f : Firings). AreLiveKnown c.args.table (map live_seen f.list)) (sym c.new-8.ensures) tt;
      live_given = subst (λ (f : Firings). AreLiveGiven 0 (map live_seen f.list)) (sym c.new-8.ensures) (λ l is. absurd is);
      past_named = search rules;
      chains_known = search rules;
      chains_kept = search rules;
      kept_up = first_kept_up c.rest_is_kept.ensures c.args.opening.goals c.args.opening.goals c.args.opening.prefs c.new-4.result c.new-5.result c.args.opening.kept c.args.opening.memory o.goals refl o.prefs c.new-4.ensures o.rest o.memory;
      kept_ids = o.rest.own.ids;
    }
