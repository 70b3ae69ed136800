-- How triples are looked at. No public clause cites this.
use Rattle.std.specs.Prelude.{◌≡◌, ◌+◌, Bool, ◌||◌, List}
use Rattle.soar_sym.specs.declared.symbol.Sym.{Sym}
use Rattle.soar_sym.specs.declared.symbol.Triple.{Triple}
use Rattle.defs_soar.specs.declared.goal.Goal.{Goal}
use Rattle.defs_soar.specs.declared.preference.Preference.{Preference}
use Rattle.defs_soar.specs.Values.{has_triple_among}
use Rattle.settling_laws.specs.Changes.{rows_hold}
use Rattle.level_change.specs.Counts.{edge_count}
use Rattle.kept_triples.specs.declared.looking.Difference.{Difference}

abbrev pub with_mark : Triple → Bool → Triple
with_mark t mark = record { id = t.id; attr = t.attr; value = t.value; accept = mark }

-- something holds the triple up, where these are the goals' own
abbrev pub is_held_now : List Triple → List Goal → List Preference → List Triple → Triple → Bool
is_held_now own goals rows inputs t = has_triple_among own t || (has_triple_among inputs t || rows_hold goals rows t)

-- what went more and what came more makes the difference of the triples, link by link
abbrev pub Balances : List Triple → Difference → List Triple → Difference → Type 0
Balances old before new after =
    (x y : Sym) → edge_count new x y + edge_count after.gone x y + edge_count before.come x y ≡ edge_count old x y + edge_count before.gone x y + edge_count after.come x y
