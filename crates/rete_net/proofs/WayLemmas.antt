-- Nodes that lead from the root by conditions tell a way with these conditions.
use Rattle.std.proofs.Common.{◌≡◌, refl, sym, ◌∙◌, ap, subst, ℕ, List, Option}
use Rattle.soar_rule.specs.Conditions.{Condition, positive, negated, conjunctive, Conditions, no_more, condition_and}
use Rattle.defs_match.specs.Laws.{followed_by}
use Rattle.node_table.specs.declared.node.NodeKey.{NodeKey}
use Rattle.rete_beta.specs.Ways.{Way, by_join, by_negation, conditions_of, IsWay}
use Rattle.rete_net.specs.Leading.{LeadsBy, Leads}

followed_none : (cs : Conditions) → followed_by cs no_more ≡ cs
followed_none no_more = refl
followed_none (condition_and c cs) = ap (condition_and c) (followed_none cs)

followed_next : (before : Conditions) (c : Condition) (cs : Conditions) → followed_by (followed_by before (condition_and c no_more)) cs ≡ followed_by before (condition_and c cs)
followed_next no_more c cs = refl
followed_next (condition_and d before) c cs = ap (condition_and d) (followed_next before c cs)

mutual
  by_way : (c : Condition) (keys : ℕ → Option NodeKey) (m : ℕ) (l : List ℕ) (n : ℕ) (up : Way) → IsWay keys up m → LeadsBy keys c m l n
      → (way : Way) × IsWay keys way n × (conditions_of way ≡ followed_by (conditions_of up) (condition_and c no_more))
  by_way (positive p) keys m l n up is h = (by_join p up, (m, h.1, is), refl)
  by_way (negated p) keys m l n up is h = (by_negation (negated p) up (by_join p up), (m, h.0, h.3, is, (m, h.2, is), tt, refl), refl)
  by_way (conjunctive cs) keys m l n up is h =
      let within = leads_way cs keys m h.1 h.0 up is h.3 in
      (by_negation (conjunctive cs) up within.0, (m, h.0, h.4, is, within.1, tt, within.2), refl)

  pub leads_way : (cs : Conditions) (keys : ℕ → Option NodeKey) (m : ℕ) (l : List ℕ) (n : ℕ) (up : Way) → IsWay keys up m → Leads keys cs m l n
      → (way : Way) × IsWay keys way n × (conditions_of way ≡ followed_by (conditions_of up) cs)
  leads_way no_more keys m l n up is h = (up, subst (IsWay keys up) (sym h.1) is, sym (followed_none (conditions_of up)))
  leads_way (condition_and c cs) keys m l n up is h =
      let first = by_way c keys m h.1 h.0 up is h.4 in
      let later = leads_way cs keys h.0 h.2 n first.0 first.1 h.5 in
      (later.0, later.1, later.2 ∙ ap (λ ds. followed_by ds cs) first.2 ∙ followed_next (conditions_of up) c cs)
