-- The rows of the last node of a chain tell the instances of its rule.
use Rattle.std.proofs.Common.{◌≡◌, refl, ◌∙◌, ap, ◌⊎◌, inl, inr, sym, subst, ℕ, List, [], ◌∷◌, map, Option, Some, None, is_some, IsSome}
use Rattle.soar_rule.specs.Conditions.{Conditions}
use Rattle.soar_rule.specs.Productions.{production_seen}
use Rattle.soar_wm.specs.declared.element.Element.{Element}
use Rattle.defs_match.specs.Conflict.{instance_of, instances_of}
use Rattle.defs_match.specs.Laws.{IsIn}
use Rattle.defs_match.specs.Rows.{Row, rows}
use Rattle.defs_match.specs.declared.instance.Instance.{Instance}
use Rattle.match_changes.specs.Told.{IsTheOne}
use Rattle.match_changes.specs.declared.key.MatchKey.{MatchKey}
use Rattle.node_memory.proofs.ChangeLemmas.{in_map, in_map_back}
use Rattle.net_laws.specs.Laws.{CanonicalFormsMatch}
use Rattle.rete_beta.specs.Joins.{Asked}
use Rattle.rete_beta.specs.Told.{IsRowOf}
use Rattle.rete_beta.specs.Ways.{Way, at_root, conditions_of, IsWay}
use Rattle.rete_net.specs.declared.chain.Chain.{Chain}
use Rattle.rete_net.specs.Chains.{IsServed, numbered, rule_of}
use Rattle.rete_net.specs.Requests.{AreGrounded, HasRoot, key_in}
use Rattle.rete_net.specs.Telling.{match_key}
use Rattle.rete_net.proofs.DropLemmas.{asked_at}
use Rattle.rete_net.proofs.GroundLemmas.{grounded_in}
use Rattle.rete_net.proofs.LeadLemmas.{leads_grounded}
use Rattle.rete_net.proofs.LoadLemmas.{led_by}
use Rattle.rete_net.proofs.WayLemmas.{leads_way}

-- the last node is live
pub last_live : (nodes : ℕ → Option Asked) (c : Chain) → HasRoot nodes → IsServed (key_in nodes) c → IsSome (nodes c.last)
last_live nodes c root served = by grounded.1
  where
    grounded : AreGrounded (key_in nodes) (λ u. u ≡ 0) c.nodes × (IsIn c.last c.nodes ⊎ (c.last ≡ 0))
    grounded = leads_grounded (led_by c) (key_in nodes) (λ u. u ≡ 0) 0 c.nodes c.last refl served

    by : IsIn c.last c.nodes ⊎ (c.last ≡ 0) → IsSome (nodes c.last)
    by (inl i) =
        let reads = grounded_in (key_in nodes) (λ u. u ≡ 0) c.nodes c.last grounded.0 i in
        ap is_some (asked_at nodes c.last reads.0 reads.1).1
    by (inr e) = subst (λ k. IsSome (nodes k)) (sym e) root.live

all_numbered : (number : ℕ) (rs : List Row) → map (numbered number) (map (instance_of 0) rs) ≡ map (instance_of number) rs
all_numbered number [] = refl
all_numbered number (r ∷ rs) = ap (λ (l : List Instance). instance_of number r ∷ l) (all_numbered number rs)

-- on the way to its last node stand conditions whose rows tell the instances of its rule
pub way_tells : CanonicalFormsMatch → (nodes : ℕ → Option Asked) (c : Chain) → HasRoot nodes → IsServed (key_in nodes) c
    → (way : Way) × IsWay (key_in nodes) way c.last × ((w : List Element) → map (instance_of c.rule.number) (rows (conditions_of way) w) ≡ instances_of w (rule_of c))
way_tells law nodes c root served =
    let number : ℕ = c.rule.number in
    let way = leads_way (led_by c) (key_in nodes) 0 c.nodes c.last at_root root.bare served in
    (way.0, way.1, λ w. ap (λ (cs : Conditions). map (instance_of number) (rows cs w)) way.2 ∙ law (production_seen c.rule.production) number w)

pub tokens_tell : CanonicalFormsMatch → (nodes : ℕ → Option Asked) (c : Chain) (w : List Element) (tokens : List Instance) → HasRoot nodes → IsServed (key_in nodes) c
    → ((way : Way) → IsWay (key_in nodes) way c.last → tokens ≡ map (instance_of 0) (rows (conditions_of way) w))
    → map (numbered c.rule.number) tokens ≡ instances_of w (rule_of c)
tokens_tell law nodes c w tokens root served told =
    let way = way_tells law nodes c root served in
    ap (map (numbered c.rule.number)) (told way.0 way.1) ∙ all_numbered c.rule.number (rows (conditions_of way.0) w) ∙ way.2 w

-- the instance of these tags, by the row of these tags
module _ (law : CanonicalFormsMatch) (nodes : ℕ → Option Asked) (c : Chain) (w : List Element) (tags : List ℕ) (root : HasRoot nodes) (served : IsServed (key_in nodes) c) where
  way : (way : Way) × IsWay (key_in nodes) way c.last × ((w : List Element) → map (instance_of c.rule.number) (rows (conditions_of way) w) ≡ instances_of w (rule_of c))
  way = way_tells law nodes c root served

  pub none_there : (o : Option Instance) → o ≡ None → ((way : Way) → IsWay (key_in nodes) way c.last → IsRowOf (rows (conditions_of way) w) tags o) → IsTheOne (instances_of w (rule_of c)) (match_key c.rule.number tags) None
  none_there o is told i there same =
      let x = in_map (instance_of c.rule.number) i (rows (conditions_of way.0) w) (subst (λ (l : List Instance). IsIn i l) (sym (way.2 w)) there) in
      subst (IsRowOf (rows (conditions_of way.0) w) tags) is (told way.0 way.1) x.0 x.1 (ap (λ (j : Instance). j.tags) x.2 ∙ ap (λ (k : MatchKey). k.tags) same)

  pub one_there : (o : Option Instance) (i : Instance) → o ≡ Some i → ((way : Way) → IsWay (key_in nodes) way c.last → IsRowOf (rows (conditions_of way) w) tags o)
      → IsTheOne (instances_of w (rule_of c)) (match_key c.rule.number tags) (Some (numbered c.rule.number i))
  one_there o i is told =
      let x = subst (IsRowOf (rows (conditions_of way.0) w) tags) is (told way.0 way.1) in
      let same : instance_of c.rule.number x.0 ≡ numbered c.rule.number i = ap (numbered c.rule.number) (sym x.3) in (
        subst (λ (l : List Instance). IsIn (numbered c.rule.number i) l) (way.2 w)
            (subst (λ (j : Instance). IsIn j (map (instance_of c.rule.number) (rows (conditions_of way.0) w))) same (in_map_back (instance_of c.rule.number) x.0 (rows (conditions_of way.0) w) x.1)),
        ap (match_key c.rule.number) (ap (λ (j : Instance). j.tags) x.3 ∙ x.2),
      )
