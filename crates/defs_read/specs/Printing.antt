-- A production as text, which is read back to it (the form is this engine's).
use Rattle.std.specs.Prelude.{ℕ, List, [], ◌∷◌, ◌++◌, map, Option, Some, None, codes}
use Rattle.soar_sym.specs.Words.{Texts}
use Rattle.soar_rule.specs.declared.action.Func.{Func}
use Rattle.soar_rule.specs.declared.action.Func.TheVariants as func
use Rattle.soar_rule.specs.declared.production.Kind.{Kind}
use Rattle.soar_rule.specs.declared.production.Kind.TheVariants as kind
use Rattle.soar_rule.specs.declared.production.Support.{Support}
use Rattle.soar_rule.specs.declared.production.Support.TheVariants as support
use Rattle.soar_rule.specs.Productions.{ValueOf, atom_value, call_value, ValuesOf, no_values, value_and, values_of, PreferenceOf, accepts, rejects, requires_it, prohibits, is_best, is_worst, is_indifferent, is_better_than, is_worse_than, is_indifferent_to, ActionOf, makes, writes, halts, ProductionOf}
use Rattle.defs_text.specs.Quotes.{escaped}
use Rattle.defs_text.specs.Symbols.{symbol_text}
use Rattle.defs_read.specs.PrintingConditions.{Naming, atom_text, condition_lines}

-- ---- actions

abbrev pub function_text : Func → List ℕ
function_text func.Plus = codes "+"
function_text func.Times = codes "*"
function_text func.Minus = codes "-"
function_text func.Div = codes "div"
function_text func.Mod = codes "mod"
function_text func.Abs = codes "abs"
function_text func.Min = codes "min"
function_text func.Max = codes "max"
function_text func.Concat = codes "concat"
function_text func.IfEq = codes "ifeq"
function_text func.StrLen = codes "strlen"
function_text func.Crlf = codes "crlf"

abbrev mutual
  pub value_text : ValueOf → Naming → List ℕ
  value_text (atom_value a) n = atom_text n a
  value_text (call_value f arguments) n = codes "(" ++ (function_text f ++ (values_text arguments n ++ codes ")"))

  -- each behind a blank
  pub values_text : ValuesOf → Naming → List ℕ
  values_text no_values n = []
  values_text (value_and v others) n = 32 ∷ (value_text v n ++ values_text others n)

abbrev pub preference_text : Naming → PreferenceOf → List ℕ
preference_text n accepts = codes "+"
preference_text n rejects = codes "-"
preference_text n requires_it = codes "!"
preference_text n prohibits = codes "~"
preference_text n is_best = codes ">"
preference_text n is_worst = codes "<"
preference_text n is_indifferent = codes "="
preference_text n (is_better_than v) = codes "> " ++ value_text v n
preference_text n (is_worse_than v) = codes "< " ++ value_text v n
preference_text n (is_indifferent_to v) = codes "= " ++ value_text v n

abbrev pub action_text : Naming → ActionOf → List ℕ
action_text n (makes id attr value p) =
    codes "(" ++ (atom_text n id ++ (codes " ^" ++ (value_text attr n ++ (32 ∷ (value_text value n ++ (32 ∷ (preference_text n p ++ codes ")")))))))
action_text n (writes written) = codes "(write" ++ (values_text (values_of written) n ++ codes ")")
action_text n halts = codes "(halt)"

-- ---- the whole

abbrev pub doc_lines : Option (List ℕ) → List (List ℕ)
doc_lines None = []
doc_lines (Some text) = (34 ∷ (escaped 34 text ++ (34 ∷ []))) ∷ []

abbrev pub kind_lines : Kind → List (List ℕ)
kind_lines kind.User = []
kind_lines kind.Default = codes ":default" ∷ []
kind_lines kind.Chunk = codes ":chunk" ∷ []
kind_lines kind.Justification = codes ":justification" ∷ []

abbrev pub support_lines : Support → List (List ℕ)
support_lines support.Unset = []
support_lines support.Operator = codes ":o-support" ∷ []
support_lines support.Instance = codes ":i-support" ∷ []

-- four spaces before each line between the first and the last
abbrev pub indented : List ℕ → List ℕ
indented text = codes "    " ++ text

abbrev pub inner_lines : Naming → ProductionOf → List (List ℕ)
inner_lines n p =
    doc_lines p.doc ++ (kind_lines p.kind ++ (support_lines p.support ++ (condition_lines p.conditions n ++ (codes "-->" ∷ map (action_text n) p.actions))))

unfoldable pub production_text : Texts → ProductionOf → List (List ℕ)
production_text words p =
    (codes "sp {" ++ symbol_text words p.name) ∷ (map indented (inner_lines (record { words = words; vars = p.vars }) p) ++ (codes "}" ∷ []))

-- lines as they are written, each with a newline behind it
abbrev pub lines_text : List (List ℕ) → List ℕ
lines_text [] = []
lines_text (line ∷ lines) = line ++ (10 ∷ lines_text lines)
