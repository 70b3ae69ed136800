-- What a change tells of the conflict set.
use Rattle.std.proofs.Common.{◌≡◌, ◌↔◌, ◌⊎◌, inl, inr, refl, sym, ◌∙◌, ap, subst, ℕ, Bool, true, false, cond, nat_lt, List, [], ◌∷◌, map, flat_map, Option, Some, None, IsSome}
use Rattle.std.specs.BTreeMap.{is_at}
use Rattle.std.specs.Map.{lookup, values_of}
use Rattle.std.specs.Ordering.{nat_cmp}
use Rattle.std.proofs.lemmas.Option.{same_Some}
use Rattle.soar_wm.specs.declared.element.Element.{Element}
use Rattle.defs_match.specs.Conflict.{conflict, instance_of, instances_of}
use Rattle.defs_match.specs.Contents.{with_rule}
use Rattle.defs_match.specs.Laws.{IsIn}
use Rattle.defs_match.specs.Rows.{Row, rows}
use Rattle.defs_match.specs.Rules.{RuleOf}
use Rattle.defs_match.specs.declared.instance.Instance.{Instance}
use Rattle.match_changes.specs.Told.{AreTold, IsTheOne, key_of}
use Rattle.match_changes.specs.declared.key.MatchKey.{MatchKey}
use Rattle.net_laws.specs.Laws.{CanonicalFormsMatch}
use Rattle.node_memory.proofs.ChangeLemmas.{in_flat_map, in_flat_map_back, in_map, in_map_back}
use Rattle.node_agenda.specs.declared.turns.Turn.{Turn}
use Rattle.node_agenda.specs.declared.turns.TurnKey.{TurnKey}
use Rattle.node_agenda.proofs.TurnLemmas.{in_under}
use Rattle.rete_beta.specs.Joins.{JoinsOf, node_at, told_at}
use Rattle.rete_beta.specs.Told.{IsTold, tags_told}
use Rattle.rete_beta.specs.Ways.{conditions_of}
use Rattle.rete_net.specs.declared.chain.Chain.{Chain}
use Rattle.rete_net.specs.Chains.{AllServed, AreApart, AreNumbered, Entries, IsServed, rule_of}
use Rattle.rete_net.specs.Ends.{AreEnds, end_of, ending_at}
use Rattle.rete_net.specs.Requests.{HasRoot, key_in}
use Rattle.rete_net.specs.Telling.{keys_at, keys_by, keys_for, keys_told, match_key}
use Rattle.rete_net.proofs.EndLemmas.{chain_found, found_chain}
use Rattle.rete_net.proofs.LoadLemmas.{all_in}
use Rattle.rete_net.proofs.ReadLemmas.{last_live, way_tells}

-- ---- whose instance it is

its_rule : (w : List Element) (q : RuleOf) (i : Instance) → IsIn i (instances_of w q) → q.number ≡ i.rule
its_rule w q i there = (let x = in_map (instance_of q.number) i (rows q.production.conditions w) there in ap (λ (j : Instance). j.rule) x.2)

-- the chain of an instance
chain_of : (chains : List Chain) (w : List Element) (i : Instance) → IsIn i (conflict (map rule_of chains) w) → (c : Chain) × IsIn c chains × IsIn i (instances_of w (rule_of c))
chain_of chains w i there =
    let q = in_flat_map (instances_of w) i (map rule_of chains) there in
    let c = in_map rule_of q.0 chains q.1 in
    (c.0, c.1, subst (λ (r : RuleOf). IsIn i (instances_of w r)) (sym c.2) q.2)

in_conflict : (chains : List Chain) (w : List Element) (i : Instance) (c : Chain) → IsIn c chains → IsIn i (instances_of w (rule_of c)) → IsIn i (conflict (map rule_of chains) w)
in_conflict chains w i c there is = in_flat_map_back (instances_of w) (rule_of c) i (map rule_of chains) (in_map_back rule_of c chains there) is

-- ---- an element comes or goes

-- what a node that was served told is told of each rule that ends at it
key_told : (j : JoinsOf) (ends : List TurnKey) (served : List ℕ) (n number : ℕ) (tags : List ℕ) → IsIn n served → IsIn (end_of n number) ends → IsIn tags (tags_told (told_at j n)) → IsIn (match_key number tags) (keys_told j ends served)
key_told j ends served n number tags there ending told =
    let turn : Turn = record { made = number; node = n } in
    in_flat_map_back (keys_at j ends) n (match_key number tags) served there
    (in_flat_map_back (λ (t : Turn). keys_by t.made (tags_told (told_at j n))) turn (match_key number tags) (ending_at n ends) ((in_under n ends turn).1 ending) (in_map_back (match_key number) tags (tags_told (told_at j n)) told))

module _ (law : CanonicalFormsMatch) (old new : JoinsOf) (ends : List TurnKey) (served : List ℕ) (told : IsTold old new served) (root : HasRoot (node_at old)) (c : Chain) (is : IsServed (key_in (node_at old)) c) (ending : IsIn (end_of c.last c.rule.number) ends) where
  -- the instances of a rule stay, but for those of keys that are told
  rule_told : (i : Instance) → (IsIn (key_of i) (keys_told new ends served) → ⊥) → IsIn i (instances_of old.elements (rule_of c)) ↔ IsIn i (instances_of new.elements (rule_of c))
  rule_told i none =
      let way = way_tells law (node_at old) c root is in
      let number : ℕ = c.rule.number in
      let before = rows (conditions_of way.0) old.elements in
      let after = rows (conditions_of way.0) new.elements in
      let each = told c.last way.0 (last_live (node_at old) c root is) way.1 in
      let stays = λ (x : Row) (same : instance_of number x ≡ i). each x (λ h. none
      (subst (λ (k : MatchKey). IsIn k (keys_told new ends served)) (ap key_of same) (key_told new ends served c.last number x.tags h.0 ending h.1))) in (
        (λ there.
            let x = in_map (instance_of number) i before (subst (λ (l : List Instance). IsIn i l) (sym (way.2 old.elements)) there) in
            subst (λ (l : List Instance). IsIn i l) (way.2 new.elements) (subst (λ (j : Instance). IsIn j (map (instance_of number) after)) x.2 (in_map_back (instance_of number) x.0 after ((stays x.0 x.2).0 x.1)))),
        (λ there.
            let x = in_map (instance_of number) i after (subst (λ (l : List Instance). IsIn i l) (sym (way.2 new.elements)) there) in
            subst (λ (l : List Instance). IsIn i l) (way.2 old.elements) (subst (λ (j : Instance). IsIn j (map (instance_of number) before)) x.2 (in_map_back (instance_of number) x.0 before ((stays x.0 x.2).1 x.1)))),
      )

pub elements_told : CanonicalFormsMatch → (chains : List Chain) (ends : List TurnKey) (old new : JoinsOf) (served : List ℕ) → HasRoot (node_at old) → AllServed (key_in (node_at old)) chains → AreEnds chains ends → IsTold old new served
    → AreTold (conflict (map rule_of chains) old.elements) (conflict (map rule_of chains) new.elements) (keys_told new ends served)
elements_told law chains ends old new served root all are told i none = (
  (λ there. (let c = chain_of chains old.elements i there in in_conflict chains new.elements i c.0 c.1 ((each c.0 c.1).0 c.2))),
  (λ there. (let c = chain_of chains new.elements i there in in_conflict chains old.elements i c.0 c.1 ((each c.0 c.1).1 c.2))),
)
  where
    each : (c : Chain) → IsIn c chains → IsIn i (instances_of old.elements (rule_of c)) ↔ IsIn i (instances_of new.elements (rule_of c))
    each c there =
        rule_told law old new ends served told root c (all_in (IsServed (key_in (node_at old))) chains c all there) ((are (end_of c.last c.rule.number)).1 (c, there, refl)) i none

-- the same, by what the calls answer
pub change_told : CanonicalFormsMatch → (es ds : Entries) (ends : List TurnKey) (old new : JoinsOf) (served slice : List ℕ) (told : List MatchKey) → HasRoot (node_at old) → AllServed (key_in (node_at old)) (values_of es)
    → ds ≡ es → AreEnds (values_of ds) ends → IsTold old new served → slice ≡ served → told ≡ keys_told new ends slice
    → AreTold (conflict (map rule_of (values_of es)) old.elements) (conflict (map rule_of (values_of ds)) new.elements) told
change_told law es ds ends old new served slice told root all same are is on keys =
    subst (AreTold (conflict (map rule_of (values_of es)) old.elements) (conflict (map rule_of (values_of ds)) new.elements)) (sym (keys ∙ ap (keys_told new ends) on))
    (subst (λ (l : Entries). AreTold (conflict (map rule_of (values_of es)) old.elements) (conflict (map rule_of (values_of l)) new.elements) (keys_told new ends served)) (sym same)
    (elements_told law (values_of es) ends old new served root all (subst (λ (l : Entries). AreEnds (values_of l) ends) same are) is))

-- ---- a rule comes

in_with_rule : (rules : List RuleOf) (r q : RuleOf) → IsIn q (with_rule rules r) ↔ ((r ≡ q) ⊎ IsIn q rules)
in_with_rule [] r q = ((λ h. h), λ h. h)
in_with_rule (p ∷ rules) r q = by (nat_lt r.number p.number) (in_with_rule rules r q)
  where
    by : (b : Bool) → IsIn q (with_rule rules r) ↔ ((r ≡ q) ⊎ IsIn q rules) → IsIn q (cond b (r ∷ p ∷ rules) (p ∷ with_rule rules r)) ↔ ((r ≡ q) ⊎ IsIn q (p ∷ rules))
    by true later = ((λ h. h), λ h. h)
    by false later = (
      (λ h. elim h [ inl e ↦ inr (inl e) | inr i ↦ elim (later.0 i) [ inl e ↦ inl e | inr k ↦ inr (inr k) ] ]),
      (λ h. elim h [ inl e ↦ inr (later.1 (inl e)) | inr i ↦ elim i [ inl e ↦ inl e | inr k ↦ inr (later.1 (inr k)) ] ]),
    )

-- the keys of the instances of a rule that is new tell the change
pub rule_comes : (old new : List RuleOf) (r : RuleOf) (v w : List Element) (keys : List MatchKey) → new ≡ with_rule old r → v ≡ w → ((i : Instance) → IsIn i (conflict new v) → i.rule ≡ r.number → IsIn (key_of i) keys)
    → AreTold (conflict old w) (conflict new v) keys
rule_comes old new r v w keys is same all i none = (
  (λ there.
      let q = in_flat_map (instances_of w) i old there in
      subst (λ (u : List Element). IsIn i (conflict new u)) (sym same) (in_flat_map_back (instances_of w) q.0 i new (subst (λ (l : List RuleOf). IsIn q.0 l) (sym is) ((in_with_rule old r q.0).1 (inr q.1))) q.2)),
  (λ there.
      let q = in_flat_map (instances_of v) i new there in
      elim ((in_with_rule old r q.0).0 (subst (λ (l : List RuleOf). IsIn q.0 l) is q.1)) [
        | inl e ↦ absurd (none (all i there (sym (ap (λ (p : RuleOf). p.number) e ∙ its_rule v q.0 i q.2))))
        | inr k ↦ in_flat_map_back (instances_of w) q.0 i old k (subst (λ (u : List Element). IsIn i (instances_of u q.0)) same q.2)
      ]),
)

-- ---- the instances of the rule of a number

module _ (es : Entries) (w : List Element) (number : ℕ) (numbered : AreNumbered es) (apart : AreApart (map rule_of (values_of es))) where
  under : (i : Instance) → IsIn i (conflict (map rule_of (values_of es)) w) → i.rule ≡ number → (c : Chain) × (lookup (is_at (nat_cmp number)) es ≡ Some c) × IsIn i (instances_of w (rule_of c))
  under i there is =
      let c = chain_of (values_of es) w i there in
      (c.0, chain_found es number c.0 numbered apart c.1 (its_rule w (rule_of c.0) i c.2 ∙ is), c.2)

  -- they are all those of its chain
  pub keys_found : (c : Chain) (keys : List MatchKey) → Some c ≡ lookup (is_at (nat_cmp number)) es → keys ≡ map key_of (instances_of w (rule_of c))
      → (i : Instance) → IsIn i (conflict (map rule_of (values_of es)) w) → i.rule ≡ number → IsIn (key_of i) keys
  keys_found c keys at are i there is =
      let u = under i there is in
      let same : u.0 ≡ c = same_Some u.0 c (sym u.1 ∙ sym at) in
      subst (λ (l : List MatchKey). IsIn (key_of i) l) (sym are) (in_map_back key_of i (instances_of w (rule_of c)) (subst (λ (d : Chain). IsIn i (instances_of w (rule_of d))) same u.2))

  -- without a chain there are none
  pub none_under : None ≡ lookup (is_at (nat_cmp number)) es → (i : Instance) → IsIn i (conflict (map rule_of (values_of es)) w) → i.rule ≡ number → ⊥
  none_under at i there is = (let u = under i there is in let bad : None ≡ Some u.0 = at ∙ u.1 in cc)

  -- the one of a key is that of its chain
  pub the_one : (c : Chain) (tags : List ℕ) (found : Option Instance) → Some c ≡ lookup (is_at (nat_cmp number)) es → IsTheOne (instances_of w (rule_of c)) (match_key c.rule.number tags) found
      → IsTheOne (conflict (map rule_of (values_of es)) w) (match_key number tags) found
  the_one c tags None at one = λ i there same.
      let u = under i there (ap (λ (k : MatchKey). k.rule) same) in
      let is : u.0 ≡ c = same_Some u.0 c (sym u.1 ∙ sym at) in
      one i (subst (λ (d : Chain). IsIn i (instances_of w (rule_of d))) is u.2) (same ∙ ap (λ n. match_key n tags) (sym (found_chain es number c numbered at).1))
  the_one c tags (Some i) at one = (in_conflict (values_of es) w i c (found_chain es number c numbered at).0 one.0, one.1 ∙ ap (λ n. match_key n tags) (found_chain es number c numbered at).1)
