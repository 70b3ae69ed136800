-- The chains of loaded rules.
use Rattle.std.specs.Prelude.{◌≡◌, ℕ, false, List, [], ◌∷◌, flat_map, Option}
use Rattle.std.specs.List.{All, list_any}
use Rattle.soar_rule.specs.Canonical.{canonical}
use Rattle.soar_rule.specs.Productions.{production_seen}
use Rattle.defs_match.specs.Contents.{is_numbered}
use Rattle.defs_match.specs.Rules.{RuleOf, rule_seen}
use Rattle.defs_match.specs.declared.instance.Instance.{Instance}
use Rattle.node_table.specs.declared.node.NodeKey.{NodeKey}
use Rattle.rete_net.specs.declared.chain.Chain.{Chain}
use Rattle.rete_net.specs.Leading.{Leads}

abbrev pub rule_of : Chain → RuleOf
rule_of c = rule_seen c.rule

-- Its nodes lead from the root to its last node, by the conditions of its rule, whose variables are numbered by first occurrence.
abbrev pub IsServed : (ℕ → Option NodeKey) → Chain → Type 0
IsServed keys c = Leads keys (canonical (production_seen c.rule.production)).conditions 0 c.nodes c.last

abbrev pub AllServed : (ℕ → Option NodeKey) → List Chain → Type 0
AllServed keys chains = All (IsServed keys) chains

-- the nodes of all chains, each as often as it was asked for
abbrev pub nodes_of : List Chain → List ℕ
nodes_of chains = flat_map (λ c. c.nodes) chains

-- no two rules have one number
abbrev pub AreApart : List RuleOf → Type 0
AreApart [] = Unit {0}
AreApart (r ∷ rules) = (list_any (is_numbered r.number) rules ≡ false) × AreApart rules

-- an instance under the number of a rule
abbrev pub numbered : ℕ → Instance → Instance
numbered number i = record i { rule = number }

-- chains by number
abbrev pub Entries : Type 0
Entries = List (ℕ × Chain)

-- each stands under the number of its rule
abbrev pub AreNumbered : Entries → Type 0
AreNumbered [] = Unit {0}
AreNumbered (e ∷ entries) = (e.1.rule.number ≡ e.0) × AreNumbered entries
