-- The values of calls.
use Rattle.std.proofs.Common.{◌≡◌, List, map, refl, sym, ap, ◌∙◌}
use Rattle.soar_sym.specs.Words.{Texts}
use Rattle.soar_rule.specs.declared.action.Func.{Func}
use Rattle.soar_rule.specs.declared.action.Value.{Value, fold-roll-Value}
use Rattle.soar_rule.specs.declared.action.Value.TheOpen as ValueOpen
use Rattle.soar_rule.specs.declared.action.Value.TheVariants as value
use Rattle.soar_rule.specs.Productions.{ValueOf, ValuesOf, no_values, value_and, call_value, values_of, value_step, value_seen}
use Rattle.defs_read.specs.ActionExpansion.{list_of, value_of, values_of as values_from}
use Rattle.defs_read.specs.FreshNames.{Fresh, Expanded, expanded, then_expand}
use Rattle.defs_read.specs.Grammar.{Term, called}
use Rattle.defs_read.specs.ReadingValues.{terms_of}
use Rattle.tree_parts.specs.Seen.{term_step, term_seen}
use Rattle.tree_parts.specs.declared.action.Term.{Term as TermRead, fold-roll-Term}
use Rattle.tree_parts.specs.declared.action.Term.TheOpen as TermOpen
use Rattle.tree_parts.specs.declared.action.Term.TheVariants as term
use Rattle.read_parts.specs.Expanding.{listed}

all_listed : (vs : ValuesOf) → values_of (list_of vs) ≡ vs
all_listed no_values = refl
all_listed (value_and v vs) = ap (value_and v) (all_listed vs)

-- a call whose values are these
called_after : (function : Func) (e : Expanded ValuesOf) (values : List ValueOf) (f : Fresh) → listed e ≡ expanded values f
    → then_expand e (λ vs g. expanded (call_value function vs) g) ≡ expanded (call_value function (values_of values)) f
called_after function e values f is =
    ap (λ vs. expanded (call_value function vs) e.names) (sym (all_listed e.value))
    ∙ ap (λ r. expanded (call_value function (values_of r.value)) r.names) is

term_call : (words : Texts) (f : Func) (terms : List TermRead) → term_seen words (term.Call f terms) ≡ called f (terms_of (map (term_seen words) terms))
term_call words f terms = ap (term_seen words) (sym (term.rolls-Call f terms)) ∙ fold-roll-Term Term (term_step words) (TermOpen.Call f terms)

value_call : (f : Func) (values : List Value) → value_seen (value.Call f values) ≡ call_value f (values_of (map value_seen values))
value_call f values = ap value_seen (sym (value.rolls-Call f values)) ∙ fold-roll-Value ValueOf value_step (ValueOpen.Call f values)

-- what a call's values make of the call
pub call_after : (words : Texts) (function : Func) (terms : List TermRead) (values : List Value) (f g : Fresh)
    → listed (values_from (terms_of (map (term_seen words) terms)) words f) ≡ expanded (map value_seen values) g
    → value_of (term_seen words (term.Call function terms)) words f ≡ expanded (value_seen (value.Call function values)) g
call_after words function terms values f g is =
    ap (λ t. value_of t words f) (term_call words function terms)
    ∙ called_after function (values_from (terms_of (map (term_seen words) terms)) words f) (map value_seen values) g is
    ∙ ap (λ v. expanded v g) (sym (value_call function values))
