-- The rule that an explanation gives, in its two forms (Soar manual, chapter 4, chunking; order and names are this engine's).
--
-- The grounds are its positive conditions, with the tests taken over; then come negations; the results are its actions.
-- In the general form identifiers are variables: a chunk. In the literal form they stay: a justification.
use Rattle.std.specs.Prelude.{ℕ, suc, ◌+◌, Bool, true, false, pos, List, [], ◌∷◌, ◌++◌, map, flat_map, Option, Some, None, if◌then◌else◌}
use Rattle.soar_sym.specs.Words.{Texts}
use Rattle.soar_sym.specs.declared.symbol.Sym.{Sym}
use Rattle.soar_sym.specs.declared.symbol.Sym.TheVariants.{Int}
use Rattle.soar_rule.specs.declared.cond.Atom.{Atom}
use Rattle.soar_rule.specs.declared.cond.Atom.TheVariants.{Const, Var}
use Rattle.soar_rule.specs.declared.cond.Field.{Field}
use Rattle.soar_rule.specs.declared.cond.Test.{Test}
use Rattle.soar_rule.specs.declared.cond.Test.TheVariants.{Plain}
use Rattle.soar_rule.specs.declared.production.Kind.{Kind}
use Rattle.soar_rule.specs.declared.production.Kind.TheVariants.{Chunk, Justification}
use Rattle.soar_rule.specs.declared.production.Support.TheVariants.{Unset}
use Rattle.soar_rule.specs.Conditions.{Condition, positive, Conditions, all_of}
use Rattle.soar_rule.specs.Productions.{atom_value, ValueOf, PreferenceOf, accepts, rejects, requires_it, prohibits, is_best, is_worst, is_indifferent, is_better_than, is_worse_than, is_indifferent_to, ActionOf, makes, ProductionOf}
use Rattle.soar_rule.specs.Renaming.{conditions_with, action_with}
use Rattle.defs_match.specs.Element.{Element}
use Rattle.defs_text.specs.Numbered.{word_in}
use Rattle.defs_soar.specs.declared.preference.PrefKind.{PrefKind}
use Rattle.defs_soar.specs.declared.preference.PrefKind.TheVariants as kind
use Rattle.defs_soar.specs.declared.preference.Wish.{Wish}
use Rattle.defs_soar.specs.Architecture.{nil_word}
use Rattle.defs_soar.specs.CarriedTests.{Placed, carried_tests, placed_tests, tests_at}
use Rattle.defs_soar.specs.ConditionOrder.{Ordered, ordered_grounds}
use Rattle.defs_soar.specs.History.{ChainOf}
use Rattle.defs_soar.specs.Negations.{negations_taken_over}
use Rattle.defs_soar.specs.Variablized.{Variablized, variablized_eq, variablized_in_atom, variablized_in_conditions, variablized_in_wish, each_variablized_once, names_from}

-- ---- conditions and actions over symbols, in which only negations have variables, of their own

abbrev pub plain_and : Sym → List Test → Field
plain_and s tests = record { tests = Plain (Const s) ∷ tests }

-- a ground as the condition whose first field has this place
abbrev pub condition_of : List Placed → ℕ → Element → Condition
condition_of placed first e =
    positive (record {
      state = e.of_state;
      id = plain_and e.id (tests_at placed first);
      attr = plain_and e.attr (tests_at placed (first + 1));
      value = plain_and e.value (tests_at placed (first + 2));
      accept = e.accept;
    })

abbrev pub conditions_from : List Placed → ℕ → List Element → List Condition
conditions_from placed first [] = []
conditions_from placed first (e ∷ elements) = condition_of placed first e ∷ conditions_from placed (first + 3) elements

-- the conditions of these grounds, with the carried tests, and then the negations
abbrev pub conditions_of : ChainOf → ℕ → List Element → Conditions
conditions_of c depth elements =
    all_of (conditions_from (placed_tests elements (carried_tests c depth)) 0 elements ++ negations_taken_over c depth)

abbrev pub symbol_value : Sym → ValueOf
symbol_value s = atom_value (Const s)

abbrev pub referent_symbol : Option Sym → ValueOf
referent_symbol (Some s) = symbol_value s
referent_symbol None = symbol_value nil_word

abbrev pub preference_of : PrefKind → Option Sym → PreferenceOf
preference_of kind.Accept r = accepts
preference_of kind.Require r = requires_it
preference_of kind.Reject r = rejects
preference_of kind.Prohibit r = prohibits
preference_of kind.Better r = is_better_than (referent_symbol r)
preference_of kind.Worse r = is_worse_than (referent_symbol r)
preference_of kind.Best r = is_best
preference_of kind.Worst r = is_worst
preference_of kind.Indifferent r = is_indifferent
preference_of kind.Numeric r = is_indifferent_to (referent_symbol r)
preference_of kind.IndifferentTo r = is_indifferent_to (referent_symbol r)

abbrev pub action_of : Wish → ActionOf
action_of w = makes (Const w.id) (symbol_value w.attr) (symbol_value w.value) (preference_of w.kind w.referent)

-- ---- the two forms

abbrev pub variablized_place : ℕ → List Variablized → Variablized → ℕ
variablized_place n [] s = n
variablized_place n (t ∷ variablized) s = if variablized_eq s t then n else variablized_place (suc n) variablized s

abbrev pub as_variable : List Variablized → Atom → List Variablized → Atom
as_variable variablized a [] = a
as_variable variablized a (s ∷ others) = Var (variablized_place 0 variablized s)

abbrev pub with_variables : Bool → List Variablized → Atom → Atom
with_variables general variablized a = as_variable variablized a (variablized_in_atom general a)

-- a production without a name yet, and the texts of its variables
pub record Form : Type 0 where
  pub production : ProductionOf
  pub names : List (List ℕ)

abbrev pub form_of : Bool → Kind → ChainOf → Conditions → Form
form_of general k c conditions =
    let variablized = each_variablized_once [] (variablized_in_conditions general conditions ++ flat_map (variablized_in_wish general) c.results) in
    record {
      production = record {
        name = Int (pos 0);
        doc = None;
        kind = k;
        support = Unset;
        vars = [];
        conditions = conditions_with (with_variables general variablized) conditions;
        actions = map (λ w. action_with (with_variables general variablized) (action_of w)) c.results;
      };
      names = names_from [] variablized;
    }

-- the grounds in the order of the conditions; in the literal form those that the order does not reach follow by tag
abbrev pub all_grounds : Ordered → List Element
all_grounds o = o.taken ++ o.left

-- identifiers as variables
unfoldable pub general_form : Texts → ChainOf → ℕ → Form
general_form words c depth = form_of true Chunk c (conditions_of c depth (ordered_grounds words c.grounds).taken)

-- identifiers as constants
unfoldable pub literal_form : Texts → ChainOf → ℕ → Form
literal_form words c depth = form_of false Justification c (conditions_of c depth (all_grounds (ordered_grounds words c.grounds)))

abbrev pub words_of_names : Texts → List (List ℕ) → List Sym
words_of_names words names = map (word_in words) names

-- the form once its variables' names are in the table
abbrev pub named_form : Texts → Form → ProductionOf
named_form words form = record form.production { vars = words_of_names words form.names }
