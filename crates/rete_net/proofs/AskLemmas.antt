-- Asking for nodes, one after another.
use Rattle.std.proofs.Common.{◌≡◌, ◌≢◌, refl, sym, ◌∙◌, ap, ap₂, subst, inl, inr, ◌⊎◌, ℕ, ◌+◌, ◌<◌, List, [], ◌∷◌, ◌++◌, append_assoc, append-nil, length, get_or, take, take-suc, add-one, map, Option, Some, None, is_some, IsSome, option_and_then, arith}
use Rattle.soar_rule.specs.declared.cond.Cond.{Cond}
use Rattle.soar_rule.specs.declared.cond.Pattern.{Pattern}
use Rattle.soar_rule.specs.Conditions.{Condition, negated, conjunctive, Conditions, no_more, condition_and, condition, conditions, all_of}
use Rattle.defs_match.specs.Laws.{followed_by}
use Rattle.node_table.specs.declared.node.Step.{Step}
use Rattle.node_table.specs.declared.node.Step.TheVariants.{Join, Negation}
use Rattle.node_table.specs.declared.node.NodeKey.{NodeKey}
use Rattle.rete_beta.specs.Joins.{Asked, Asks, asked_more, key_of}
use Rattle.rete_beta.specs.Networks.{key_made}
use Rattle.rete_net.specs.Leading.{IsMade, LeadsBy, Leads}
use Rattle.rete_net.specs.Requests.{AsksFor, Grows, HasRoot, key_in, requests_of, times}
use Rattle.rete_net.proofs.CountLemmas.{times_both, times_own, times_other, same_or_not}
use Rattle.rete_net.proofs.LeadLemmas.{leads_kept, leads_more}

-- ---- one node

key_more : (key : NodeKey) (o : Option Asked) → ((a : Asked) → o ≡ Some a → a.key ≡ Some key) → (asked_more key o).key ≡ Some key
key_more key None own = refl
key_more key (Some a) own = own a refl

requests_more : (key : NodeKey) (o : Option Asked) → requests_of (Some (asked_more key o)) ≡ requests_of o + 1
requests_more key None = omega arith
requests_more key (Some a) = refl

grows_one : (old new : ℕ → Option Asked) (key : NodeKey) (n : ℕ) → Asks old new key n → Grows old new (n ∷ [])
grows_one old new key n asks = record {
  stays = λ k a at. stays k a at (same_or_not k n);
  requests = λ k. requests k (same_or_not k n);
}
  where
    stays : (k : ℕ) (a : Asked) → old k ≡ Some a → (k ≡ n) ⊎ (k ≢ n) → (b : Asked) × (new k ≡ Some b) × (b.key ≡ a.key)
    stays k a at (inl e) = (
      asked_more key (Some a),
      ap new e ∙ asks.here ∙ ap (λ o. Some (asked_more key o)) (ap old (sym e) ∙ at),
      refl,
    )
    stays k a at (inr ne) = (a, asks.others k ne ∙ at, refl)

    requests : (k : ℕ) → (k ≡ n) ⊎ (k ≢ n) → requests_of (new k) ≡ requests_of (old k) + times k (n ∷ [])
    requests k (inl e) =
        let here : requests_of (new n) ≡ requests_of (old n) + 1 = ap requests_of asks.here ∙ requests_more key (old n) in
        subst (λ j. requests_of (new j) ≡ requests_of (old j) + times j (n ∷ [])) (sym e) (here ∙ ap (λ t. requests_of (old n) + t) (sym (times_own n)))
    requests k (inr ne) = let none = times_other k n ne in ap requests_of (asks.others k ne) ∙ omega (arith, none)

pub asks_one : (old new : ℕ → Option Asked) (parent : ℕ) (step : Step) (before after : List ℕ) (n : ℕ) → Asks old new (key_made parent step) n → after ≡ before ++ n ∷ []
    → AsksFor (IsMade parent step) old new before after n
asks_one old new parent step before after n asks longer = record {
  more = n ∷ [];
  longer = longer;
  grows = grows_one old new (key_made parent step) n asks;
  live = ap is_some asks.here;
  made = (refl, ap (option_and_then key_of) asks.here ∙ key_more (key_made parent step) (old n) asks.own);
}

-- ---- those that were there

some_at : (o : Option Asked) → IsSome o → (a : Asked) × (o ≡ Some a)
some_at None h = absurd (cc)
some_at (Some a) h = (a, refl)

pub stays_live : (old new : ℕ → Option Asked) (more : List ℕ) (k : ℕ) → Grows old new more → IsSome (old k) → IsSome (new k)
stays_live old new more k g live = let a = some_at (old k) live in ap is_some (g.stays k a.0 a.1).1

pub stays_keyed : (old new : ℕ → Option Asked) (more : List ℕ) (k : ℕ) (key : NodeKey) → Grows old new more → key_in old k ≡ Some key → key_in new k ≡ Some key
stays_keyed old new more k key g keyed = by (old k) refl
  where
    by : (o : Option Asked) → old k ≡ o → key_in new k ≡ Some key
    by None e = let none = ap (option_and_then key_of) e in absurd (cc)
    by (Some a) e =
        let b = g.stays k a e in
        ap (option_and_then key_of) b.1 ∙ b.2 ∙ sym (ap (option_and_then key_of) e) ∙ keyed

pub stays_rooted : (old new : ℕ → Option Asked) (more : List ℕ) → Grows old new more → HasRoot old → HasRoot new
stays_rooted old new more g root =
    let a = some_at (old 0) root.live in
    let b = g.stays 0 a.0 a.1 in
    record {
      live = ap is_some b.1;
      bare = ap (option_and_then key_of) b.1 ∙ b.2 ∙ sym (ap (option_and_then key_of) a.1) ∙ root.bare;
    }

grows_both : (a b c : ℕ → Option Asked) (xs ys : List ℕ) → Grows a b xs → Grows b c ys → Grows a c (xs ++ ys)
grows_both a b c xs ys g h = record {
  stays = λ k x at.
      let y = g.stays k x at in
      let z = h.stays k y.0 y.1 in
      (z.0, z.1, z.2 ∙ y.2);
  requests = λ k. omega (arith, g.requests k, h.requests k, times_both k xs ys);
}

-- ---- one after another

module _ (a b c : ℕ → Option Asked) (before middle after : List ℕ) where
  longer_both : (xs ys : List ℕ) → middle ≡ before ++ xs → after ≡ middle ++ ys → after ≡ before ++ (xs ++ ys)
  longer_both xs ys e f = f ∙ ap (λ (l : List ℕ). l ++ ys) e ∙ append_assoc before xs ys

  pub asks_negated : (parent i n : ℕ) (p : Pattern) → AsksFor (IsMade parent (Join p)) a b before middle i → AsksFor (IsMade parent (Negation i)) b c middle after n
      → AsksFor (λ keys l m. LeadsBy keys (negated p) parent l m) a c before after n
  asks_negated parent i n p f s = record {
    more = f.more ++ s.more;
    longer = longer_both f.more s.more f.longer s.longer;
    grows = grows_both a b c f.more s.more f.grows s.grows;
    live = s.live;
    made = (
      i,
      ap₂ (λ (x y : List ℕ). x ++ y) f.made.0 s.made.0,
      stays_keyed b c s.more i (key_made parent (Join p)) s.grows f.made.1,
      s.made.1,
    );
  }

  pub asks_conjunctive : (parent i n : ℕ) (cs : Conditions) → AsksFor (λ keys l m. Leads keys cs parent l m) a b before middle i → AsksFor (IsMade parent (Negation i)) b c middle after n
      → AsksFor (λ keys l m. LeadsBy keys (conjunctive cs) parent l m) a c before after n
  asks_conjunctive parent i n cs f s = record {
    more = f.more ++ s.more;
    longer = longer_both f.more s.more f.longer s.longer;
    grows = grows_both a b c f.more s.more f.grows s.grows;
    live = s.live;
    made = (
      i,
      f.more,
      ap (λ (l : List ℕ). f.more ++ l) s.made.0,
      leads_kept cs (key_in b) (key_in c) parent f.more i (λ k _ key. stays_keyed b c s.more k key s.grows) f.made,
      s.made.1,
    );
  }

  pub asks_more : (parent k n : ℕ) (cs : Conditions) (d : Condition) → AsksFor (λ keys l m. Leads keys cs parent l m) a b before middle k
      → AsksFor (λ keys l m. LeadsBy keys d k l m) b c middle after n
      → AsksFor (λ keys l m. Leads keys (followed_by cs (condition_and d no_more)) parent l m) a c before after n
  asks_more parent k n cs d f s = record {
    more = f.more ++ s.more;
    longer = longer_both f.more s.more f.longer s.longer;
    grows = grows_both a b c f.more s.more f.grows s.grows;
    live = s.live;
    made =
        leads_more cs (key_in c) d parent k n f.more s.more
        (leads_kept cs (key_in b) (key_in c) parent f.more k (λ j _ key. stays_keyed b c s.more j key s.grows) f.made) s.made;
  }

pub asks_nothing : (nodes : ℕ → Option Asked) (parent : ℕ) (before : List ℕ) → IsSome (nodes parent) → AsksFor (λ keys l m. Leads keys no_more parent l m) nodes nodes before before parent
asks_nothing nodes parent before live = record {
  more = [];
  longer = sym (append-nil before);
  grows = record {
    stays = λ k a at. (a, at, refl);
    requests = λ k. omega arith;
  };
  live = live;
  made = (refl, refl);
}

-- ---- the conditions of a list

all_then : (cs : List Condition) (c : Condition) → all_of (cs ++ c ∷ []) ≡ followed_by (all_of cs) (condition_and c no_more)
all_then [] c = refl
all_then (d ∷ cs) c = ap (condition_and d) (all_then cs c)

map_then : (cs : List Cond) (c : Cond) → map condition (cs ++ c ∷ []) ≡ map condition cs ++ condition c ∷ []
map_then [] c = refl
map_then (d ∷ cs) c = ap (λ (l : List Condition). condition d ∷ l) (map_then cs c)

-- the conditions up to an item, and the item
pub conditions_next : (cs : List Cond) (i : ℕ) (c : Cond) → i < length cs → c ≡ get_or cs i c → conditions (take (i + 1) cs) ≡ followed_by (conditions (take i cs)) (condition_and (condition c) no_more)
conditions_next cs i c within is =
    let next : take (i + 1) cs ≡ take i cs ++ c ∷ [] = ap (λ n. take n cs) (add-one i) ∙ take-suc cs i c within ∙ ap (λ (x : Cond). take i cs ++ x ∷ []) (sym is) in
    ap conditions next ∙ ap all_of (map_then (take i cs) c) ∙ all_then (map condition (take i cs)) (condition c)

-- all conditions of a rule, from the root
pub asks_whole : (old new : ℕ → Option Asked) (cs ds : Conditions) (before nodes : List ℕ) (n : ℕ) → before ≡ [] → cs ≡ ds → AsksFor (λ keys l m. Leads keys cs 0 l m) old new before nodes n
    → Leads (key_in new) ds 0 nodes n × Grows old new nodes
asks_whole old new cs ds before nodes n none is asks =
    let all : asks.more ≡ nodes = sym (asks.longer ∙ ap (λ (l : List ℕ). l ++ asks.more) none) in (
      subst (λ l. Leads (key_in new) ds 0 l n) all (subst (λ es. Leads (key_in new) es 0 asks.more n) is asks.made),
      subst (Grows old new) all asks.grows,
    )
