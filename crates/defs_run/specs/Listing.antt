-- What commands that look at the agent say.
use Rattle.std.specs.Prelude.{ℕ, Bool, true, false, ◌==◌, List, [], ◌∷◌, ◌++◌, map, flat_map, filter, length, Option, Some, None, if◌then◌else◌, codes}
use Rattle.std.specs.Fmt.{decimal}
use Rattle.std.specs.declared.cmp.Ordering.{Ordering}
use Rattle.std.specs.declared.cmp.Ordering.TheVariants.{Less, Equal, Greater}
use Rattle.std.specs.Ordering.{nat_cmp, ordering_then, is_lt}
use Rattle.soar_sym.specs.Order.{symbol_cmp}
use Rattle.soar_sym.specs.Words.{Texts}
use Rattle.soar_sym.specs.declared.symbol.Sym.{Sym}
use Rattle.soar_sym.specs.declared.symbol.Sym.TheVariants.{Int}
use Rattle.soar_rule.specs.declared.production.Kind.{Kind}
use Rattle.soar_rule.specs.declared.production.Kind.TheVariants as kind
use Rattle.soar_wm.specs.declared.element.Element.{Element}
use Rattle.defs_text.specs.Symbols.{symbol_text, instance_text}
use Rattle.defs_match.specs.Conflict.{instances_of, conflict}
use Rattle.defs_match.specs.Rules.{RuleOf}
use Rattle.defs_match.specs.declared.instance.Instance.{Instance}
use Rattle.defs_read.specs.Printing.{production_text}
use Rattle.defs_soar.specs.declared.preference.Preference.{Preference}
use Rattle.defs_soar.specs.Agents.{Agent}
use Rattle.defs_soar.specs.Preferences.{slot_of}
use Rattle.defs_soar.specs.Texts.{tagged_text, wish_text}
use Rattle.defs_soar.specs.Values.{kind_place}
use Rattle.std.specs.Prelude.{pos}

-- what is said where there is nothing to list
abbrev pub or_text : List ℕ → List (List ℕ) → List (List ℕ)
or_text text [] = text ∷ []
or_text text (l ∷ lines) = l ∷ lines

-- ---- matches

abbrev pub rule_name : List RuleOf → ℕ → Sym
rule_name [] number = Int (pos 0)
rule_name (rule ∷ rules) number = if rule.number == number then rule.production.name else rule_name rules number

abbrev pub instance_line : Agent → Instance → List ℕ
instance_line a i = instance_text a.names.words (rule_name a.program.rules i.rule) i.tags

abbrev pub no_matches : List ℕ
no_matches = codes "no matches"

abbrev pub conflict_lines : Agent → List (List ℕ)
conflict_lines a = or_text no_matches (map (instance_line a) (conflict a.program.rules a.holding.elements))

abbrev pub conflict_lines_of : Agent → RuleOf → List (List ℕ)
conflict_lines_of a rule = or_text no_matches (map (instance_line a) (instances_of a.holding.elements rule))

-- ---- preferences

-- the order of referents: none before any
abbrev pub referent_cmp : Texts → Option Sym → Option Sym → Ordering
referent_cmp words None None = Equal
referent_cmp words None (Some s) = Less
referent_cmp words (Some s) None = Greater
referent_cmp words (Some s) (Some t) = symbol_cmp words s t

-- by value, kind, referent and firing
abbrev pub row_cmp : Texts → Preference → Preference → Ordering
row_cmp words p q =
    ordering_then (symbol_cmp words p.wish.value q.wish.value)
    (ordering_then (nat_cmp (kind_place p.wish.kind) (kind_place q.wish.kind))
    (ordering_then (referent_cmp words p.wish.referent q.wish.referent) (nat_cmp p.firing q.firing)))

-- a row more at its place, behind those that are not greater
abbrev pub with_row_at : Texts → Preference → List Preference → List Preference
with_row_at words p [] = p ∷ []
with_row_at words p (q ∷ rows) = if is_lt (row_cmp words q p) then q ∷ with_row_at words p rows else p ∷ q ∷ rows

abbrev pub rows_in_order : Texts → List Preference → List Preference
rows_in_order words [] = []
rows_in_order words (p ∷ rows) = with_row_at words p (rows_in_order words rows)

abbrev pub support_text : Preference → List ℕ
support_text p = if p.operator_support then codes " o" else codes " i"

abbrev pub preference_line : Texts → Preference → List ℕ
preference_line words p = wish_text words p.wish ++ (support_text p ++ (codes " fire " ++ decimal p.firing))

abbrev pub preference_lines : Agent → Sym → Sym → List (List ℕ)
preference_lines a id attr =
    or_text (codes "no preferences") (map (preference_line a.names.words) (rows_in_order a.names.words (slot_of a.holding.rows id attr)))

-- ---- elements

abbrev pub element_lines : Texts → List Element → List (List ℕ)
element_lines words elements = or_text (codes "no elements") (map (tagged_text words) elements)

-- ---- productions

abbrev pub production_lines : Agent → RuleOf → List (List ℕ)
production_lines a rule = production_text a.names.words rule.production

abbrev pub rule_lines : Agent → List (List ℕ)
rule_lines a = or_text (codes "no rules") (map (λ rule. symbol_text a.names.words rule.production.name) a.program.rules)

abbrev pub is_chunk : Kind → Bool
is_chunk kind.Chunk = true
is_chunk other = false

abbrev pub chunks_of : Agent → List RuleOf
chunks_of a = filter (λ rule. is_chunk rule.production.kind) a.program.rules

abbrev pub chunk_lines : Agent → List (List ℕ)
chunk_lines a = or_text (codes "no chunks") (flat_map (production_lines a) (chunks_of a))

-- ---- counts

abbrev pub counted : List ℕ → ℕ → List ℕ → List ℕ
counted name n rest = name ++ (32 ∷ (decimal n ++ rest))

abbrev pub stats_line : Agent → List ℕ
stats_line a =
    counted (codes "cycles") a.counts.cycles (counted (codes " waves") a.counts.waves (counted (codes " firings") a.counts.firings
    (counted (codes " retractions") a.counts.retractions (counted (codes " productions") (length a.program.rules)
    (counted (codes " elements") (length a.holding.elements) (counted (codes " preferences") (length a.holding.rows)
    (counted (codes " live") (length a.holding.live) (counted (codes " chunks") (length (chunks_of a)) []))))))))
