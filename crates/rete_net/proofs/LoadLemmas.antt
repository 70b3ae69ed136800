-- Chains and the requests for their nodes, as rules come and go.
use Rattle.std.proofs.Common.{◌≡◌, ◌≢◌, refl, sym, ◌∙◌, ap, subst, ◌⊎◌, inl, inr, ℕ, zero, suc, ◌+◌, ◌<◌, false, length, List, [], ◌∷◌, ◌++◌, map, insert, remove, take, drop, drop-cons, take-append-drop, get_or, append_assoc, All, Option, Some, None, is_some, IsSome, option_and_then, Result, Ok, Err, OnOk, arith}
use Rattle.std.specs.BTreeMap.{insert_entry, is_at}
use Rattle.std.specs.List.{list_any}
use Rattle.std.specs.Map.{lookup, remove_entry, values_of}
use Rattle.std.specs.Ordering.{nat_cmp}
use Rattle.std.proofs.lemmas.List.Elements.{All-append, All-take, All-drop}
use Rattle.std.proofs.lemmas.Option.{same_Some}
use Rattle.soar_rule.specs.Canonical.{canonical}
use Rattle.soar_rule.specs.Conditions.{Conditions}
use Rattle.soar_rule.specs.Productions.{production_seen}
use Rattle.defs_match.specs.Contents.{is_numbered, with_rule, without_rule}
use Rattle.defs_match.specs.Laws.{IsIn}
use Rattle.defs_match.specs.Rules.{rule_seen}
use Rattle.defs_match.specs.declared.rule.Rule.{Rule}
use Rattle.node_table.specs.declared.node.NodeKey.{NodeKey}
use Rattle.node_table.specs.Nodes.{uppers}
use Rattle.rete_beta.specs.Joins.{Asked, AreNodes}
use Rattle.rete_net.specs.declared.chain.Chain.{Chain}
use Rattle.rete_net.specs.Chains.{AreApart, AreNumbered, Entries, IsServed, nodes_of, rule_of}
use Rattle.rete_net.specs.Loads.{IsWhole}
use Rattle.rete_net.specs.Requests.{CanDropAll, DropsAll, Grows, Reads, key_in, requests_of, times}
use Rattle.rete_net.proofs.AskLemmas.{stays_keyed, stays_rooted}
use Rattle.rete_net.proofs.CountLemmas.{in_at, in_times, times_in, times_both, times_first, times_own, times_other, in_either, in_front, in_back, same_or_not}
use Rattle.rete_net.proofs.GroundLemmas.{grounded_in}
use Rattle.rete_net.proofs.LeadLemmas.{leads_kept, leads_grounded}
use Rattle.rete_net.proofs.RuleLemmas.{apart_with, apart_without, numbered_with, numbered_without, place_with, place_without, rules_in, rules_with, rules_without, with_chain, without_chain}

-- the conditions that lead to the nodes of a chain
abbrev pub led_by : Chain → Conditions
led_by c = (canonical (production_seen c.rule.production)).conditions

-- ---- nodes of chains

nodes_both : (xs ys : List Chain) → nodes_of (xs ++ ys) ≡ nodes_of xs ++ nodes_of ys
nodes_both [] ys = refl
nodes_both (c ∷ xs) ys = ap (λ (l : List ℕ). c.nodes ++ l) (nodes_both xs ys) ∙ sym (append_assoc c.nodes (nodes_of xs) (nodes_of ys))

times_parts : (k : ℕ) (xs ys : List Chain) → times k (nodes_of (xs ++ ys)) ≡ times k (nodes_of xs) + times k (nodes_of ys)
times_parts k xs ys = ap (times k) (nodes_both xs ys) ∙ times_both k (nodes_of xs) (nodes_of ys)

times_one : (k : ℕ) (c : Chain) (ys : List Chain) → times k (nodes_of (c ∷ ys)) ≡ times k c.nodes + times k (nodes_of ys)
times_one k c ys = times_both k c.nodes (nodes_of ys)

pub times_inserted : (k : ℕ) (cs : List Chain) (i : ℕ) (c : Chain) → times k (nodes_of (insert cs i c)) ≡ times k (nodes_of cs) + times k c.nodes
times_inserted k cs i c =
    let whole = ap (λ xs. times k (nodes_of xs)) (take-append-drop i cs) in
    omega (arith, times_parts k (take i cs) (c ∷ drop i cs), times_one k c (drop i cs), times_parts k (take i cs) (drop i cs), whole)

pub around : (cs : List Chain) (i : ℕ) (c : Chain) → i < length cs → c ≡ get_or cs i c → cs ≡ take i cs ++ c ∷ drop (suc i) cs
around cs i c within is =
    sym (take-append-drop i cs) ∙ ap (λ (l : List Chain). take i cs ++ l) (drop-cons cs i c within ∙ ap (λ (x : Chain). x ∷ drop (suc i) cs) (sym is))

pub times_removed : (k : ℕ) (cs : List Chain) (i : ℕ) (c : Chain) → i < length cs → c ≡ get_or cs i c → times k (nodes_of (remove cs i)) + times k c.nodes ≡ times k (nodes_of cs)
times_removed k cs i c within is =
    let whole = ap (λ xs. times k (nodes_of xs)) (around cs i c within is) in
    omega (arith, times_parts k (take i cs) (c ∷ drop (suc i) cs), times_one k c (drop (suc i) cs), times_parts k (take i cs) (drop (suc i) cs), whole)

-- a node that the chains ask for stands in one of them
pub chain_with : (k : ℕ) (cs : List Chain) → IsIn k (nodes_of cs) → (c : Chain) × IsIn c cs × IsIn k c.nodes
chain_with k [] i = absurd i
chain_with k (c ∷ cs) i =
    elim (in_either k c.nodes (nodes_of cs) i) [
      | inl here ↦ (c, inl refl, here)
      | inr there ↦ let found = chain_with k cs there in (found.0, inr found.1, found.2)
    ]

nodes_in : (k : ℕ) (c : Chain) (cs : List Chain) → IsIn c cs → IsIn k c.nodes → IsIn k (nodes_of cs)
nodes_in k c [] i j = absurd i
nodes_in k c (d ∷ cs) (inl e) j = in_front k d.nodes (nodes_of cs) (subst (λ (x : Chain). IsIn k x.nodes) (sym e) j)
nodes_in k c (d ∷ cs) (inr i) j = in_back k d.nodes (nodes_of cs) (nodes_in k c cs i j)

-- ---- what holds of all

all_one : (P : Chain → Type 0) (c : Chain) → P c → All P (c ∷ [])
all_one P c h zero d l = h
all_one P c h (suc k) d l = absurd (omega (arith, l))

pub all_in : (P : Chain → Type 0) (cs : List Chain) (c : Chain) → All P cs → IsIn c cs → P c
all_in P [] c all i = absurd i
all_in P (d ∷ cs) c all (inl e) = subst P e (all 0 d (omega arith))
all_in P (d ∷ cs) c all (inr i) = all_in P cs c (λ k x l. all (suc k) x (omega (arith, l))) i

all_inserted : (P : Chain → Type 0) (cs : List Chain) (i : ℕ) (c : Chain) → All P cs → P c → All P (insert cs i c)
all_inserted P cs i c all h = All-append P (take i cs) (c ∷ drop i cs) (All-take P i cs all) (All-append P (c ∷ []) (drop i cs) (all_one P c h) (All-drop P i cs all))

all_removed : (P : Chain → Type 0) (cs : List Chain) (i : ℕ) → All P cs → All P (remove cs i)
all_removed P cs i all = All-append P (take i cs) (drop (suc i) cs) (All-take P i cs all) (All-drop P (suc i) cs all)

all_kept : (P Q : Chain → Type 0) (cs : List Chain) → ((c : Chain) → IsIn c cs → P c → Q c) → All P cs → All Q cs
all_kept P Q cs f all k d l = f (get_or cs k d) (in_at cs k d l) (all k d l)

-- ---- a rule comes

whole_loaded : (cs : List Chain) (i : ℕ) (old new : ℕ → Option Asked) (c : Chain) → IsWhole cs old → Grows old new c.nodes → IsServed (key_in new) c → AreApart (map rule_of (insert cs i c)) → IsWhole (insert cs i c) new
whole_loaded cs i old new c whole grows served apart = record {
  root = stays_rooted old new c.nodes grows whole.root;
  requests = λ k. omega (arith, grows.requests k, whole.requests k, times_first k 0 (nodes_of cs), times_first k 0 (nodes_of (insert cs i c)), times_inserted k cs i c);
  served =
      all_inserted (IsServed (key_in new)) cs i c
      (all_kept (IsServed (key_in old)) (IsServed (key_in new)) cs
      (λ d _ h. leads_kept (led_by d) (key_in old) (key_in new) 0 d.nodes d.last (λ k _ key. stays_keyed old new c.nodes k key grows) h) whole.served)
      served;
  apart = apart;
}

pub whole_with : (es : Entries) (old new : ℕ → Option Asked) (c : Chain) → AreNumbered es → IsWhole (values_of es) old → Grows old new c.nodes → IsServed (key_in new) c
    → list_any (is_numbered c.rule.number) (rules_in es) ≡ false → IsWhole (values_of (with_chain es c)) new
whole_with es old new c numbered whole grows served fresh =
    let place = place_with es c numbered fresh in
    let apart : AreApart (rules_in (with_chain es c)) = subst AreApart (sym (rules_with es c numbered fresh)) (apart_with (rules_in es) (rule_of c) whole.apart fresh) in
    subst (λ cs. IsWhole cs new) (sym place.1)
    (whole_loaded (values_of es) place.0 old new c whole grows served (subst (λ cs. AreApart (map rule_of cs)) place.1 apart))

-- the same, by what the calls answer
module _ (es ds : Entries) (c : Chain) (number : ℕ) (is : c.rule.number ≡ number) (inserted : ds ≡ insert_entry nat_cmp es number c) (numbered : AreNumbered es)
    (fresh : list_any (is_numbered number) (map rule_of (values_of es)) ≡ false) where
  is_with : ds ≡ with_chain es c
  is_with = inserted ∙ ap (λ n. insert_entry nat_cmp es n c) (sym is)

  new_here : list_any (is_numbered c.rule.number) (rules_in es) ≡ false
  new_here = ap (λ n. list_any (is_numbered n) (rules_in es)) is ∙ fresh

  pub numbered_inserted : AreNumbered ds
  numbered_inserted = subst AreNumbered (sym is_with) (numbered_with es c numbered)

  pub whole_inserted : (old new : ℕ → Option Asked) → IsWhole (values_of es) old → Grows old new c.nodes → IsServed (key_in new) c → IsWhole (values_of ds) new
  whole_inserted old new whole grows served = subst (λ l. IsWhole (values_of l) new) (sym is_with) (whole_with es old new c numbered whole grows served new_here)

  pub rules_inserted : (r : Rule) → c.rule ≡ r → map rule_of (values_of ds) ≡ with_rule (map rule_of (values_of es)) (rule_seen r)
  rules_inserted r same = ap rules_in is_with ∙ rules_with es c numbered new_here ∙ ap (λ (q : Rule). with_rule (rules_in es) (rule_seen q)) same

-- ---- a rule goes

module _ (cs : List Chain) (i : ℕ) (c : Chain) (nodes : ℕ → Option Asked) (whole : IsWhole cs nodes) (within : i < length cs) (is : c ≡ get_or cs i c) where
  -- the root once, the other chains, and this one
  counted : (k : ℕ) → requests_of (nodes k) ≡ times k (0 ∷ []) + times k (nodes_of (remove cs i)) + times k c.nodes
  counted k = omega (arith, whole.requests k, times_first k 0 (nodes_of cs), times_removed k cs i c within is)

  its_nodes : IsServed (key_in nodes) c
  its_nodes = subst (IsServed (key_in nodes)) (sym is) (whole.served i c within)

  more_elsewhere : (k : ℕ) → IsIn k (nodes_of (remove cs i)) → times k c.nodes < requests_of (nodes k)
  more_elsewhere k there = let some = in_times k (nodes_of (remove cs i)) there in omega (arith, some, counted k)

  keyless : (key : NodeKey) → key_in nodes 0 ≡ Some key → ⊥
  keyless key e = let bare = whole.root.bare in absurd (cc)

  same_key : (k : ℕ) (own key : NodeKey) → key_in nodes k ≡ Some own → key_in nodes k ≡ Some key → own ≡ key
  same_key k own key e f = same_Some own key (sym e ∙ f)

  -- what a node of another chain reads
  reads_there : (d : Chain) (k : ℕ) → IsIn d (remove cs i) → IsIn k d.nodes → Reads (key_in nodes) (λ u. IsIn u d.nodes ⊎ (u ≡ 0)) k
  reads_there d k at there =
      let served = all_in (IsServed (key_in nodes)) (remove cs i) d (all_removed (IsServed (key_in nodes)) cs i whole.served) at in
      grounded_in (key_in nodes) (λ v. v ≡ 0) d.nodes k (leads_grounded (led_by d) (key_in nodes) (λ v. v ≡ 0) 0 d.nodes d.last refl served).0 there

  elsewhere_in : (d : Chain) (own key : NodeKey) (u : ℕ) → own ≡ key → IsIn d (remove cs i) → ((v : ℕ) → IsIn v (uppers own) → IsIn v d.nodes ⊎ (v ≡ 0)) → IsIn u (uppers key)
      → (u ≡ 0) ⊎ (times u c.nodes < requests_of (nodes u))
  elsewhere_in d own key u same at reads there =
      elim (reads u (subst (λ x. IsIn u (uppers x)) (sym same) there)) [ inl among ↦ inr (more_elsewhere u (nodes_in u d (remove cs i) at among)) | inr e ↦ inl e ]

  -- who is asked for by another chain reads what that chain asks for
  elsewhere : (k : ℕ) (key : NodeKey) (u : ℕ) → key_in nodes k ≡ Some key → times k c.nodes < requests_of (nodes k) → IsIn u (uppers key) → (u ≡ 0) ⊎ (times u c.nodes < requests_of (nodes u))
  elsewhere k key u keyed more reads =
      let found = chain_with k (remove cs i) (times_in k (nodes_of (remove cs i)) (omega (arith, more, counted k, times_other k 0 apart))) in
      let own = reads_there found.0 k found.1 found.2 in
      elsewhere_in found.0 own.0 key u (same_key k own.0 key own.1 keyed) found.1 own.2 reads
    where
      apart : k ≢ 0
      apart e = keyless key (subst (λ j. key_in nodes j ≡ Some key) e keyed)

  can_unload : CanDropAll nodes c.nodes
  can_unload = record {
    enough = λ k. omega (arith, counted k);
    grounded = (leads_grounded (led_by c) (key_in nodes) (λ u. u ≡ 0) 0 c.nodes c.last refl its_nodes).0;
    bare = whole.root.bare;
    elsewhere = elsewhere;
  }

  whole_unloaded : (new : ℕ → Option Asked) → DropsAll nodes new c.nodes → AreApart (map rule_of (remove cs i)) → IsWhole (remove cs i) new
  whole_unloaded new drops apart = record {
    root = record {
      live = some_requests (new 0) (omega (arith, drops.requests 0, counted 0, times_own 0));
      bare = drops.keys 0 (omega (arith, counted 0, times_own 0)) ∙ whole.root.bare;
    };
    requests = λ k. omega (arith, drops.requests k, counted k, times_first k 0 (nodes_of (remove cs i)));
    served =
        all_kept (IsServed (key_in nodes)) (IsServed (key_in new)) (remove cs i)
        (λ d at h. leads_kept (led_by d) (key_in nodes) (key_in new) 0 d.nodes d.last (λ k there key keyed. drops.keys k (more_elsewhere k (nodes_in k d (remove cs i) at there)) ∙ keyed) h)
        (all_removed (IsServed (key_in nodes)) cs i whole.served);
    apart = apart;
  }
    where
      some_requests : (o : Option Asked) → 0 < requests_of o → IsSome o
      some_requests None h = absurd (omega (arith, h))
      some_requests (Some a) h = refl

-- the same, by what the calls answer
module _ (es : Entries) (number : ℕ) (c : Chain) (nodes : ℕ → Option Asked) (there : Some c ≡ lookup (is_at (nat_cmp number)) es) (numbered : AreNumbered es) (whole : IsWhole (values_of es) nodes) where
  place : (i : ℕ) × (i < length (values_of es)) × (c ≡ get_or (values_of es) i c) × (values_of (without_chain es number) ≡ remove (values_of es) i)
  place = place_without es number c there

  pub can_remove : CanDropAll nodes c.nodes
  can_remove = can_unload (values_of es) place.0 c nodes whole place.1 place.2

  module _ (ds : Entries) (removed : ds ≡ remove_entry (is_at (nat_cmp number)) es) where
    still_apart : AreApart (rules_in (without_chain es number))
    still_apart = subst AreApart (sym (rules_without es number numbered whole.apart)) (apart_without (rules_in es) number whole.apart)

    pub numbered_removed : AreNumbered ds
    numbered_removed = subst AreNumbered (sym removed) (numbered_without es number numbered)

    pub whole_removed : (new : ℕ → Option Asked) → DropsAll nodes new c.nodes → IsWhole (values_of ds) new
    whole_removed new drops =
        subst (λ l. IsWhole l new) (sym (ap values_of removed ∙ place.3))
        (whole_unloaded (values_of es) place.0 c nodes whole place.1 place.2 new drops (subst (λ cs. AreApart (map rule_of cs)) place.3 still_apart))

pub rules_removed : (es ds : Entries) (number : ℕ) (nodes : ℕ → Option Asked) → AreNumbered es → IsWhole (values_of es) nodes → ds ≡ remove_entry (is_at (nat_cmp number)) es
    → map rule_of (values_of ds) ≡ without_rule (map rule_of (values_of es)) number
rules_removed es ds number nodes numbered whole removed = ap rules_in removed ∙ rules_without es number numbered whole.apart

-- ---- what follows

-- each live node but the root is asked for by a chain
pub needed : (cs : List Chain) (nodes : ℕ → Option Asked) → IsWhole cs nodes → AreNodes nodes → (k : ℕ) → IsSome (nodes k) → k ≢ 0 → (c : Chain) × IsIn c cs × IsIn k c.nodes
needed cs nodes whole are k live apart =
    chain_with k cs (times_in k (nodes_of cs) (let some = asked (nodes k) refl live in omega (arith, some, whole.requests k, times_first k 0 (nodes_of cs), times_other k 0 apart)))
  where
    asked : (o : Option Asked) → nodes k ≡ o → IsSome o → 0 < requests_of (nodes k)
    asked None e h = absurd (cc)
    asked (Some a) e h = let some = are.asked k a e in let is = ap requests_of e in omega (arith, some, is)

pub whole_same : (cs : List Chain) (old new : ℕ → Option Asked) → ((k : ℕ) → new k ≡ old k) → IsWhole cs old → IsWhole cs new
whole_same cs old new same whole = subst (IsWhole cs) (λ i k. sym (same k) i) whole

pub whole_start : (nodes : ℕ → Option Asked) → nodes 0 ≡ Some (record { key = None; requests = 1 }) → ((k : ℕ) → k ≢ 0 → nodes k ≡ None) → IsWhole [] nodes
whole_start nodes root others = record {
  root = record { live = ap is_some root; bare = ap (option_and_then (λ (a : Asked). a.key)) root };
  requests = λ k. by k (same_or_not k 0);
  served = λ k d l. absurd (omega (arith, l));
  apart = tt;
}
  where
    by : (k : ℕ) → (k ≡ 0) ⊎ (k ≢ 0) → requests_of (nodes k) ≡ times k (0 ∷ [])
    by k (inl e) = subst (λ j. requests_of (nodes j) ≡ times j (0 ∷ [])) (sym e) (ap requests_of root ∙ sym (times_own 0))
    by k (inr ne) = ap requests_of (others k ne) ∙ sym (times_other k 0 ne)

-- what holds in one case, from what holds in it twice
pub on_ok_both : {T E P Q S : Type 0} (r : Result T E) → (P → Q → S) → OnOk r P → OnOk r Q → OnOk r S
on_ok_both (Ok x) f p q = f p q
on_ok_both (Err e) f p q = tt

pub all_later : (P : Chain → Type 0) (c : Chain) (cs : List Chain) → All P (c ∷ cs) → All P cs
all_later P c cs all k d l = all (suc k) d (omega (arith, l))
