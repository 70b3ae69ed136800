-- The lines of lists, over the parts of an agent that they tell.
use Rattle.std.specs.Prelude.{ℕ, Bool, List, map, filter, flat_map, codes}
use Rattle.soar_sym.specs.Words.{Texts}
use Rattle.defs_text.specs.Symbols.{symbol_text}
use Rattle.defs_match.specs.Rules.{RuleOf}
use Rattle.defs_read.specs.Printing.{production_text}
use Rattle.defs_run.specs.Listing.{is_chunk, or_text, preference_line, rows_in_order}
use Rattle.defs_soar.specs.declared.preference.Preference.{Preference}

-- ---- productions

abbrev pub rule_line : Texts → RuleOf → List ℕ
rule_line words rule = symbol_text words rule.production.name

-- the names of these rules: `rule_lines` of Listing is this over an agent's words and rules, by computation
abbrev pub rule_lines : Texts → List RuleOf → List (List ℕ)
rule_lines words rules = or_text (codes "no rules") (map (rule_line words) rules)

-- ---- learned productions

abbrev pub is_chunk_rule : RuleOf → Bool
is_chunk_rule rule = is_chunk rule.production.kind

abbrev pub chunks_among : List RuleOf → List RuleOf
chunks_among rules = filter is_chunk_rule rules

abbrev pub rule_production : Texts → RuleOf → List (List ℕ)
rule_production words rule = production_text words rule.production

abbrev pub chunk_texts : Texts → List RuleOf → List (List ℕ)
chunk_texts words rules = flat_map (rule_production words) (chunks_among rules)

-- the chunks among these rules: `chunk_lines` of Listing is this over an agent's words and rules, by computation
abbrev pub chunk_lines : Texts → List RuleOf → List (List ℕ)
chunk_lines words rules = or_text (codes "no chunks") (chunk_texts words rules)

-- ---- preferences

-- these rows as they stand
abbrev pub row_lines : Texts → List Preference → List (List ℕ)
row_lines words rows = or_text (codes "no preferences") (map (preference_line words) rows)

-- the rows of a slot: `preference_lines` of Listing is this over an agent's words and `slot_of` its rows, by computation
abbrev pub preference_lines : Texts → List Preference → List (List ℕ)
preference_lines words rows = row_lines words (rows_in_order words rows)
