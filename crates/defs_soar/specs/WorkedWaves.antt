-- Small cases of waves and phases, worked out by hand.
use Rattle.std.specs.Prelude.{◌≡◌, ℕ, true, false, ℤ, pos, List, [], ◌∷◌, ◌++◌, map, length, None, nat_lt, filter}
use Rattle.soar_sym.specs.declared.symbol.Triple.{Triple}
use Rattle.soar_sym.specs.declared.symbol.Sym.TheVariants.{Ident, Word, Int}
use Rattle.soar_rule.specs.declared.cond.Atom.TheVariants.{Const, Var}
use Rattle.soar_rule.specs.declared.action.Func.TheVariants as func
use Rattle.soar_rule.specs.declared.production.Kind.TheVariants.{User}
use Rattle.soar_rule.specs.declared.production.Support.TheVariants as support
use Rattle.defs_match.specs.Element.{Element}
use Rattle.soar_rule.specs.declared.cond.Test.TheVariants.{Plain}
use Rattle.defs_match.specs.WorkingMemory.{triple_of}
use Rattle.soar_rule.specs.Conditions.{positive, no_more, condition_and}
use Rattle.soar_rule.specs.Productions.{atom_value, call_value, values_of, accepts, makes}
use Rattle.defs_match.specs.Rules.{RuleOf}
use Rattle.defs_soar.specs.Agents.{Agent}
use Rattle.defs_soar.specs.Cycle.{held_with}
use Rattle.defs_soar.specs.Learning.{with_learning}
use Rattle.defs_soar.specs.Phases.{phase}
use Rattle.defs_soar.specs.Resettling.{resettled}
use Rattle.defs_soar.specs.Start.{first_agent}
use Rattle.defs_soar.specs.Worked.{s1, top_goal}
use Rattle.defs_soar.specs.WorkedFirings.{letters_at_start, words_at_firing, var, const}

abbrev pub of_s1 : ℕ → ℕ → ℤ → Element
of_s1 tag attr value = record { tag = tag; id = s1; attr = Word attr; value = Int value; accept = false; of_state = true }

abbrev pub start_elements : List Element
start_elements =
    record { tag = 1; id = Ident 73 1; attr = Word 3; value = Ident 73 2; accept = false; of_state = false }
    ∷ record { tag = 2; id = Ident 73 1; attr = Word 4; value = Ident 73 3; accept = false; of_state = false }
    ∷ record { tag = 3; id = s1; attr = Word 2; value = Ident 73 1; accept = false; of_state = true }
    ∷ record { tag = 4; id = s1; attr = Word 5; value = Word 1; accept = false; of_state = true }
    ∷ record { tag = 5; id = s1; attr = Word 6; value = Word 0; accept = false; of_state = true } ∷ []

-- `(state <s> ^FROM <x>)` makes `(<s> ^TO <x>)`
abbrev pub copying : ℕ → ℕ → ℕ → RuleOf
copying number from to =
    record {
      number = number;
      production = record {
        name = Word 24;
        doc = None;
        kind = User;
        support = support.Unset;
        vars = Word 24 ∷ Word 25 ∷ [];
        conditions = condition_and (positive (record {
          state = true;
          id = record { tests = Plain (Var 0) ∷ [] };
          attr = record { tests = Plain (Const (Word from)) ∷ [] };
          value = record { tests = Plain (Var 1) ∷ [] };
          accept = false;
        })) no_more;
        actions = makes (Var 0) (const to) (var 1) accepts ∷ [];
      };
    }

-- an agent with these rules, elements beyond those of the start, and inputs
abbrev pub agent_with : List RuleOf → List Element → ℕ → Agent
agent_with rules more last =
    let a = first_agent 1 in
    record a {
      names = record { words = words_at_firing; letters = letters_at_start; last_tag = last };
      holding = record a.holding { elements = start_elements ++ more; goals = top_goal ∷ []; inputs = map triple_of more };
      program = record a.program { rules = rules; last_rule = length rules };
    }

abbrev pub at_most : ℕ → Agent → Agent
at_most n a = record a { settings = record a.settings { max_elaborations = n } }

abbrev pub proposed : Agent → Agent
proposed a = (phase with_learning true a).course.agent

-- one rule copies what another made, in a wave of its own; without the input both fall, in one wave each
abbrev pub two_copies : Agent
two_copies = proposed (agent_with (copying 1 24 25 ∷ copying 2 25 26 ∷ []) (of_s1 6 24 (pos 1) ∷ []) 6)

abbrev pub with_inputs : List Triple → Agent → Agent
with_inputs inputs a = (resettled a (held_with a inputs)).agent

abbrev pub without_input : Agent → Agent
without_input a = with_inputs [] a

abbrev pub last_tags : Agent → List ℕ
last_tags a = map (λ e. e.tag) (filter (λ e. nat_lt 5 e.tag) a.holding.elements)

abbrev pub Copies : Type 0
Copies =
    (last_tags two_copies ≡ 6 ∷ 7 ∷ 8 ∷ []) × (two_copies.counts.waves ≡ 2) × (two_copies.counts.firings ≡ 2)
    × (last_tags (proposed (without_input two_copies)) ≡ []) × ((proposed (without_input two_copies)).counts.retractions ≡ 2)

-- support passes from one instance to another in one wave: the element keeps its tag
abbrev pub PassesOn : Type 0
PassesOn =
    let first = proposed (agent_with (copying 1 24 26 ∷ copying 2 25 26 ∷ []) (of_s1 6 24 (pos 1) ∷ []) 6) in
    let swapped = with_inputs (triple_of (of_s1 0 25 (pos 1)) ∷ []) first in
    (last_tags first ≡ 6 ∷ 7 ∷ []) × (last_tags (proposed swapped) ≡ 7 ∷ 8 ∷ [])

-- a rule that feeds itself with a new value each time is cut after as many waves as are allowed
abbrev pub counting : RuleOf
counting = record (copying 1 24 24) {
  production = record (copying 1 24 24).production {
    actions = makes (Var 0) (const 24) (call_value func.Plus (values_of (var 1 ∷ atom_value (Const (Int (pos 1))) ∷ []))) accepts ∷ [];
  };
}

abbrev pub IsCut : Type 0
IsCut = let p = phase with_learning true (at_most 3 (agent_with (counting ∷ []) (of_s1 6 24 (pos 0) ∷ []) 6)) in (p.is_cut ≡ true) × (p.course.agent.counts.waves ≡ 3)
