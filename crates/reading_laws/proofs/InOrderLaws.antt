-- A production numbered in the order of its text differs in names alone, and has the same text.
use Rattle.std.specs.Prelude.{codes, flat_map, map}
use Rattle.std.proofs.Common.{◌≡◌, refl, ◌∙◌, [], ◌∷◌, ◌++◌, List, ℕ}
use Rattle.soar_sym.specs.Words.{Texts}
use Rattle.soar_sym.specs.declared.symbol.Sym.{Sym}
use Rattle.soar_rule.specs.declared.cond.Atom.{Atom}
use Rattle.soar_rule.specs.declared.cond.Atom.TheVariants.{Const, Var}
use Rattle.soar_rule.specs.Alike.{variable_with, DifferInNames}
use Rattle.soar_rule.specs.Canonical.{in_order_of_occurrence, place_among, renumbered}
use Rattle.soar_rule.specs.Productions.{ProductionOf}
use Rattle.soar_rule.specs.Renaming.{conditions_with, action_with}
use Rattle.soar_rule.specs.Variables.{is_among, variables_of_conditions, variables_of_action}
use Rattle.defs_read.specs.Printing.{doc_lines, kind_lines, support_lines, indented, production_text, lines_text}
use Rattle.defs_read.specs.PrintingConditions.{name_at}
use Rattle.defs_text.specs.Symbols.{symbol_text}
use Rattle.reading_laws.specs.InOrder.{in_text_order}
use Rattle.soar_rule.specs.Alike.{variables_in}
use Rattle.reading_laws.specs.WayBack.{printed}
use Rattle.rule_laws.proofs.OccurrenceLaws.{each_among}
use Rattle.rule_laws.proofs.OccurrencePlaces.{place_apart}
use Rattle.reading_laws.proofs.PlaceLaws.{place_name}
use Rattle.reading_laws.proofs.RenumberedText.{AreNamed, named_front, named_back, lines_again, actions_again}

-- ---- numbered by place

abbrev pub order_of : ProductionOf → List ℕ
order_of q = in_order_of_occurrence q.conditions q.actions

-- each variable has its place among the first occurrences as its number
abbrev pub placed : ProductionOf → ProductionOf
placed q =
    record q {
      vars = map (name_at q.vars) (order_of q);
      conditions = conditions_with (variable_with (place_among (order_of q))) q.conditions;
      actions = map (action_with (variable_with (place_among (order_of q)))) q.actions;
    }

same_atom : (order : List ℕ) (a : Atom) → renumbered order a ≡ variable_with (place_among order) a
same_atom order (Const s) = refl
same_atom order (Var v) = refl

pub in_order_placed : (q : ProductionOf) → in_text_order q ≡ placed q
in_order_placed q =
    λ i. record q {
      vars = map (name_at q.vars) (order_of q);
      conditions = conditions_with (λ a. same_atom (order_of q) a i) q.conditions;
      actions = map (action_with (λ a. same_atom (order_of q) a i)) q.actions;
    }

-- the variables in order are those of the text
pub order_among : (q : ProductionOf) (v : ℕ) → is_among (order_of q) v ≡ is_among (variables_in q) v
order_among q v = each_among [] (variables_in q) v

pub placed_alike : (q : ProductionOf) → DifferInNames q (placed q)
placed_alike q =
    record {
      number = place_among (order_of q);
      apart = λ v w e f. place_apart (order_of q) v w (order_among q v ∙ e) (order_among q w ∙ f);
      support = refl;
      conditions = refl;
      actions = refl;
    }

pub printed_placed : (words : Texts) (q : ProductionOf) → printed words (placed q) ≡ printed words q
unfolding production_text
printed_placed words q =
    let others : List Sym = map (name_at q.vars) (order_of q) in
    let place : ℕ → ℕ = place_among (order_of q) in
    let named : AreNamed words q.vars others place (variables_in q) = λ v e. place_name q.vars (order_of q) v (order_among q v ∙ e) in
    let lines = lines_again words q.vars others place q.conditions (named_front words q.vars others place (variables_of_conditions q.conditions) (flat_map variables_of_action q.actions) named) in
    let actions = actions_again words q.vars others place q.actions (named_back words q.vars others place (variables_of_conditions q.conditions) (flat_map variables_of_action q.actions) named) in
    λ i. lines_text ((codes "sp {" ++ symbol_text words q.name) ∷ (map indented (doc_lines q.doc ++ (kind_lines q.kind ++ (support_lines q.support ++ (lines i ++ (codes "-->" ∷ actions i))))) ++ (codes "}" ∷ [])))
