-- A network as nodes are asked for and dropped.
use Rattle.std.proofs.Common.{◌≡◌, ◌≢◌, ◌↔◌, inl, inr, refl, sym, ap, ◌∙◌, Bool, true, false, cond, nat_lt, ℕ, zero, ◌-◌, ◌<◌, List, Option, Some, None, slice_index_or, arith}
use Rattle.std.proofs.lemmas.Option.{same_Some}
use Rattle.std.proofs.lemmas.Bool.{cases_eq, ltb-true}
use Rattle.std.specs.Prelude.{option_and_then}
use Rattle.std.specs.Option.{option_map}
use Rattle.soar_wm.specs.declared.element.Element.{Element}
use Rattle.defs_match.specs.Laws.{IsIn}
use Rattle.rete_alpha.specs.Alphas.{AlphaOf}
use Rattle.node_table.specs.declared.node.NodeKey.{NodeKey}
use Rattle.node_table.specs.declared.node.Node.{Node}
use Rattle.node_table.specs.Nodes.{key_at, key_of, one_more, one_less, IsNumbered}
use Rattle.node_table.specs.Content.{IsTable, AllHold}
use Rattle.node_table.specs.Hearing.{AllHear}
use Rattle.node_table.specs.Asked.{asker}
use Rattle.node_table.specs.Making.{IsWhole, Adds, Seen, seen, seen_at}
use Rattle.node_table.proofs.NumberLemmas.{numbered_same}
use Rattle.node_table.proofs.AskedLemmas.{kept_asked}
use Rattle.node_table.proofs.CountLemmas.{table_counted, hold_counted, hear_counted}
use Rattle.node_table.proofs.HearLemmas.{hear_part}
use Rattle.node_table.proofs.GrowLemmas.{table_less, part_holds}
use Rattle.node_agenda.specs.declared.turns.TurnKey.{TurnKey}
use Rattle.rete_beta.specs.Joins.{Asked, Asks, asked_more, asked_less, CanDrop, Drops}
use Rattle.node_agenda.specs.Agenda.{turn_of}
use Rattle.node_agenda.specs.Links.{links_by, links_of, takers_by, takers_of, IsSpread, Relinks}
use Rattle.node_agenda.proofs.SpreadLemmas.{spread_same, spread_less, links_own, takers_own}
use Rattle.node_agenda.proofs.RelinkLemmas.{spread_relinked}
use Rattle.rete_beta.specs.Networks.{asked_of, asked_in, has_more}

-- ---- what a node is asked for

abbrev pub asked_by : Seen → Asked
asked_by s = record { key = s.key; requests = s.requests }

-- it is part of what is seen of it
pub asked_seen : (nodes : ℕ → Option Node) (k : ℕ) → asked_in nodes k ≡ option_map asked_by (seen_at nodes k)
asked_seen nodes k = by (nodes k)
  where
    by : (o : Option Node) → option_map asked_of o ≡ option_map asked_by (option_map seen o)
    by None = refl
    by (Some node) = refl

key_seen : (nodes : ℕ → Option Node) (k : ℕ) (a : Asked) (key : NodeKey) → asked_in nodes k ≡ Some a → a.key ≡ Some key → key_at nodes k ≡ Some key
key_seen nodes k a key is keyed = by (nodes k) is
  where
    by : (o : Option Node) → option_map asked_of o ≡ Some a → option_and_then key_of o ≡ Some key
    by None h = absurd (cc)
    by (Some node) h = ap (λ (x : Asked). x.key) (same_Some (asked_of node) a h) ∙ keyed

-- ---- a node comes

-- a key that had no number
pub asks_new : (number : NodeKey → Option ℕ) (old new : ℕ → Option Node) (key : NodeKey) (a time n : ℕ) → IsNumbered number (key_at old) → number key ≡ None → Adds old new key a time n → Asks (asked_in old) (asked_in new) key n
asks_new number old new key a time n numbered none adds =
    let vacant : asked_in old n ≡ None = ap (option_map asked_of) adds.vacant in
    record {
      equal = λ m x is keyed.
          let one : number key ≡ Some m = (numbered key m).1 (key_seen old m x key is keyed) in
          let bad : None ≡ Some m = sym none ∙ one in
          absurd (cc);
      own = λ x is. (let bad : None ≡ Some x = sym vacant ∙ is in absurd (cc));
      here = asked_seen new n ∙ ap (option_map asked_by) adds.here ∙ ap (λ (o : Option Asked). Some (asked_more key o)) (sym vacant);
      others = λ k ne. asked_seen new k ∙ ap (option_map asked_by) (adds.others k ne) ∙ sym (asked_seen old k);
    }

-- the keys of who hears of what, with those of a node that comes
module _ (old new : ℕ → Option Node) (key : NodeKey) (a time n : ℕ) (keys0 keys1 : List TurnKey) (adds : Adds old new key a time n) where
  its : (node : Node) × (new n ≡ Some node)
  its = by (new n) refl adds.here
    where
      by : (o : Option Node) → new n ≡ o → option_map seen o ≡ Some (record { key = Some key; made = time; stamp = 0; alpha = a; hears = adds.hears; requests = 1 }) → (node : Node) × (new n ≡ Some node)
      by None is h = absurd (cc)
      by (Some node) is h = (node, is)

  pub links_more : IsSpread links_of (seen_at old) keys0 → ((node : Node) → new n ≡ Some node → Relinks false node.hears.rows (links_by node.key (turn_of node n)) keys0 keys1) → IsSpread links_of (seen_at new) keys1
  links_more s all =
      spread_relinked links_of links_own (seen_at old) (seen_at new) n false its.0.hears.rows (links_by its.0.key (turn_of its.0 n)) keys0 keys1 s (ap (λ (o : Option Node). links_of (option_map seen o) n) adds.vacant)
      (ap (λ (o : Option Node). links_of (option_map seen o) n) its.1) (λ k ne. ap (λ (o : Option Seen). links_of o k) (adds.others k ne)) (all its.0 its.1)

  pub takers_more : IsSpread takers_of (seen_at old) keys0 → ((node : Node) → new n ≡ Some node → Relinks false node.hears.elements (takers_by (asker node) (turn_of node n)) keys0 keys1) → IsSpread takers_of (seen_at new) keys1
  takers_more s all =
      spread_relinked takers_of takers_own (seen_at old) (seen_at new) n false its.0.hears.elements (takers_by (asker its.0) (turn_of its.0 n)) keys0 keys1 s (ap (λ (o : Option Node). takers_of (option_map seen o) n) adds.vacant)
      (ap (λ (o : Option Node). takers_of (option_map seen o) n) its.1) (λ k ne. ap (λ (o : Option Seen). takers_of o k) (adds.others k ne)) (all its.0 its.1)

pub stamps_more : (old new : ℕ → Option Node) (key : NodeKey) (a time n stamp : ℕ) → Adds old new key a time n → (root : Seen) → seen_at old 0 ≡ Some root → ((k : ℕ) (s : Seen) → seen_at old k ≡ Some s → s.stamp < stamp)
    → (k : ℕ) (s : Seen) → seen_at new k ≡ Some s → s.stamp < stamp
stamps_more old new key a time n stamp adds root at before k s there = elim (cases_eq k n) [
  | inl e ↦ (
      let own : 0 ≡ s.stamp = ap (λ (x : Seen). x.stamp) (same_Some (record { key = Some key; made = time; stamp = 0; alpha = a; hears = adds.hears; requests = 1 }) s (sym adds.here ∙ ap (seen_at new) (sym e) ∙ there)) in
      let some : root.stamp < stamp = before 0 root at in
      omega (arith, own, some))
  | inr ne ↦ before k s (sym (adds.others k ne) ∙ there)
]

pub root_more : (old new : ℕ → Option Node) (key : NodeKey) (a time n : ℕ) → Adds old new key a time n → (root : Seen) × (seen_at old 0 ≡ Some root) × (root.key ≡ None) → (root : Seen) × (seen_at new 0 ≡ Some root) × (root.key ≡ None)
root_more old new key a time n adds root =
    let apart : zero ≢ n = λ e. (let none : seen_at old 0 ≡ None = ap (λ (i : ℕ). seen_at old i) e ∙ ap (option_map seen) adds.vacant in let bad : Some root.0 ≡ None = sym root.1 ∙ none in cc) in
    (root.0, adds.others 0 apart ∙ root.1, root.2)

-- ---- one request more, or one less of several

module _ (xs ys : List (Option Node)) (n : ℕ) (node now : Node) (here : slice_index_or xs n None ≡ Some node) (is : slice_index_or ys n None ≡ Some now) (same : now ≡ record node { requests = now.requests })
    (others : (k : ℕ) → k ≢ n → slice_index_or ys k None ≡ slice_index_or xs k None) where
  -- what does not depend on the count
  pub counted_same : {A : Type 0} (g : Option Node → A) → ((x : Node) (r : ℕ) → g (Some (record x { requests = r })) ≡ g (Some x)) → (k : ℕ) → g (slice_index_or ys k None) ≡ g (slice_index_or xs k None)
  counted_same g keeps k = elim (cases_eq k n) [
    | inl e ↦ ap (λ (i : ℕ). g (slice_index_or ys i None)) e ∙ ap g is ∙ ap (λ (x : Node). g (Some x)) same ∙ keeps node now.requests ∙ ap g (sym here) ∙ ap (λ (i : ℕ). g (slice_index_or xs i None)) (sym e)
    | inr ne ↦ ap g (others k ne)
  ]

  pub links_counted : (keys : List TurnKey) → IsSpread links_of (seen_at (λ k. slice_index_or xs k None)) keys → IsSpread links_of (seen_at (λ k. slice_index_or ys k None)) keys
  links_counted keys s =
      spread_same links_of (seen_at (λ k. slice_index_or xs k None)) (seen_at (λ k. slice_index_or ys k None)) keys (λ k. counted_same (λ o. links_of (option_map seen o) k) (λ x r. refl) k) s

  pub takers_counted : (keys : List TurnKey) → IsSpread takers_of (seen_at (λ k. slice_index_or xs k None)) keys → IsSpread takers_of (seen_at (λ k. slice_index_or ys k None)) keys
  takers_counted keys s =
      spread_same takers_of (seen_at (λ k. slice_index_or xs k None)) (seen_at (λ k. slice_index_or ys k None)) keys (λ k. counted_same (λ o. takers_of (option_map seen o) k) (λ x r. refl) k) s

  stamp_at : (k : ℕ) → option_map (λ (x : Node). x.stamp) (slice_index_or ys k None) ≡ option_map (λ (x : Node). x.stamp) (slice_index_or xs k None)
  stamp_at k = counted_same (λ o. option_map (λ (x : Node). x.stamp) o) (λ x r. refl) k

  pub stamps_counted : (stamp : ℕ) → ((k : ℕ) (s : Seen) → seen_at (λ k. slice_index_or xs k None) k ≡ Some s → s.stamp < stamp) → (k : ℕ) (s : Seen) → seen_at (λ k. slice_index_or ys k None) k ≡ Some s → s.stamp < stamp
  stamps_counted stamp before k s there = by (slice_index_or ys k None) refl (slice_index_or xs k None) refl there
    where
      by : (o : Option Node) → slice_index_or ys k None ≡ o → (p : Option Node) → slice_index_or xs k None ≡ p → option_map seen o ≡ Some s → s.stamp < stamp
      by None at p was h = absurd (cc)
      by (Some x) at None was h =
          (let bad : Some x.stamp ≡ None = sym (ap (option_map (λ (y : Node). y.stamp)) at) ∙ stamp_at k ∙ ap (option_map (λ (y : Node). y.stamp)) was in absurd (cc))
      by (Some x) at (Some y) was h =
          let one : x.stamp ≡ y.stamp = same_Some x.stamp y.stamp (sym (ap (option_map (λ (z : Node). z.stamp)) at) ∙ stamp_at k ∙ ap (option_map (λ (z : Node). z.stamp)) was) in
          let own : x.stamp ≡ s.stamp = ap (λ (z : Seen). z.stamp) (same_Some (seen x) s h) in
          let less : y.stamp < stamp = before k (seen y) (ap (option_map seen) was) in
          omega (arith, one, own, less)

  pub root_counted : (root : Seen) × (seen_at (λ k. slice_index_or xs k None) 0 ≡ Some root) × (root.key ≡ None) → (root : Seen) × (seen_at (λ k. slice_index_or ys k None) 0 ≡ Some root) × (root.key ≡ None)
  root_counted root = elim (cases_eq zero n) [
    | inl e ↦ (
        let at : slice_index_or ys 0 None ≡ Some now = ap (λ (i : ℕ). slice_index_or ys i None) e ∙ is in
        let was : slice_index_or xs 0 None ≡ Some node = ap (λ (i : ℕ). slice_index_or xs i None) e ∙ here in
        let mine : seen node ≡ root.0 = same_Some (seen node) root.0 (sym (ap (option_map seen) was) ∙ root.1) in
        (seen now, ap (option_map seen) at, ap (λ (x : Node). x.key) same ∙ ap (λ (x : Seen). x.key) mine ∙ root.2))
    | inr ne ↦ (root.0, ap (option_map seen) (others 0 ne) ∙ root.1, root.2)
  ]

  pub whole_counted : (number number1 : NodeKey → Option ℕ) (alpha : AlphaOf) (end : ℕ) → zero < now.requests → IsWhole number xs alpha end → IsNumbered number1 (key_at (λ k. slice_index_or ys k None)) → IsWhole number1 ys alpha end
  whole_counted number number1 alpha end some whole numbered = record {
    numbered = numbered;
    table = table_counted (λ k. slice_index_or xs k None) (λ k. slice_index_or ys k None) n end whole.table node now here is same some others;
    asked = kept_asked xs ys alpha n whole.asked (ap (option_and_then asker) is ∙ ap asker same ∙ sym (ap (option_and_then asker) here)) others;
  }

  pub numbered_counted : (number : NodeKey → Option ℕ) → IsNumbered number (key_at (λ k. slice_index_or xs k None)) → IsNumbered number (key_at (λ k. slice_index_or ys k None))
  numbered_counted number numbered = numbered_same number (key_at (λ k. slice_index_or xs k None)) (key_at (λ k. slice_index_or ys k None)) numbered (λ k. counted_same (λ o. option_and_then key_of o) (λ x r. refl) k)

  pub hear_kept : (end : ℕ) (w : List Element) → IsTable (λ k. slice_index_or xs k None) end → zero < now.requests → AllHear (λ k. slice_index_or xs k None) w → AllHear (λ k. slice_index_or ys k None) w
  hear_kept end w table some all = hear_counted (λ k. slice_index_or xs k None) (λ k. slice_index_or ys k None) n end table node now here is same some others w all

  pub holds_counted : (end : ℕ) (w : List Element) → IsTable (λ k. slice_index_or xs k None) end → zero < now.requests → AllHold (λ k. slice_index_or xs k None) w → AllHold (λ k. slice_index_or ys k None) w
  holds_counted end w table some all = hold_counted (λ k. slice_index_or xs k None) (λ k. slice_index_or ys k None) n end table node now here is same some others w all

-- a key that has a number
pub asks_again : (number : NodeKey → Option ℕ) (old new : ℕ → Option Node) (key : NodeKey) (n : ℕ) (node : Node) → IsNumbered number (key_at old) → old n ≡ Some node → node.key ≡ Some key → new n ≡ Some (one_more node) → ((k : ℕ) → k ≢ n → new k ≡ old k)
    → Asks (asked_in old) (asked_in new) key n
asks_again number old new key n node numbered here keyed is others =
    let at : key_at old n ≡ Some key = ap (option_and_then key_of) here ∙ keyed in
    let own : asked_in old n ≡ Some (asked_of node) = ap (option_map asked_of) here in
    record {
      equal = λ m x there alike. same_Some m n (sym ((numbered key m).1 (key_seen old m x key there alike)) ∙ (numbered key n).1 at);
      own = λ x there. ap (λ (a : Asked). a.key) (sym (same_Some (asked_of node) x (sym own ∙ there))) ∙ keyed;
      here = ap (option_map asked_of) is ∙ ap (λ (o : Option Asked). Some (asked_more key o)) (sym own);
      others = λ k ne. ap (option_map asked_of) (others k ne);
    }

pub node_keyed : (nodes : ℕ → Option Node) (n : ℕ) (key : NodeKey) → key_at nodes n ≡ Some key → (node : Node) × (nodes n ≡ Some node) × (node.key ≡ Some key)
node_keyed nodes n key h = by (nodes n) refl h
  where
    by : (o : Option Node) → nodes n ≡ o → option_and_then key_of o ≡ Some key → (node : Node) × (nodes n ≡ Some node) × (node.key ≡ Some key)
    by None is h = absurd (cc)
    by (Some node) is h = (node, is, h)

pub node_asked : (nodes : ℕ → Option Node) (n : ℕ) (a : Asked) → asked_in nodes n ≡ Some a → (node : Node) × (nodes n ≡ Some node) × (asked_of node ≡ a)
node_asked nodes n a h = by (nodes n) refl h
  where
    by : (o : Option Node) → nodes n ≡ o → option_map asked_of o ≡ Some a → (node : Node) × (nodes n ≡ Some node) × (asked_of node ≡ a)
    by None is h = absurd (cc)
    by (Some node) is h = (node, is, same_Some (asked_of node) a h)

-- ---- one request less

less_asked : (o : Option Node) → option_map asked_of (one_less o) ≡ asked_less (option_map asked_of o)
less_asked None = refl
less_asked (Some node) = by (nat_lt 1 node.requests)
  where
    by : (b : Bool) → option_map asked_of (cond b (Some (record node { requests = node.requests - 1 })) None) ≡ cond b (Some (record { key = node.key; requests = node.requests - 1 })) None
    by true = refl
    by false = refl

pub drops_of : (old new : ℕ → Option Node) (n : ℕ) → new n ≡ one_less (old n) → ((k : ℕ) → k ≢ n → new k ≡ old k) → Drops (asked_in old) (asked_in new) n
drops_of old new n is others = record {
  here = ap (option_map asked_of) is ∙ less_asked (old n);
  others = λ k ne. ap (option_map asked_of) (others k ne);
}

-- of several
pub one_of_several : (o : Option Node) (node : Node) → o ≡ Some node → has_more o ≡ true → (one_less o ≡ Some (record node { requests = node.requests - 1 })) × (zero < node.requests - 1)
one_of_several o node is more =
    let many : nat_lt 1 node.requests ≡ true = sym (ap has_more is) ∙ more in (
      ap one_less is ∙ ap (λ (b : Bool). cond b (Some (record node { requests = node.requests - 1 })) None) many,
      (let lt : 1 < node.requests = ltb-true 1 node.requests many in omega (arith, lt)),
    )

-- the last
pub last_goes : (o : Option Node) (node : Node) → o ≡ Some node → has_more o ≡ false → (one_less o ≡ None) × (nat_lt 1 node.requests ≡ false)
last_goes o node is last =
    let none : nat_lt 1 node.requests ≡ false = sym (ap has_more is) ∙ last in
    (ap one_less is ∙ ap (λ (b : Bool). cond b (Some (record node { requests = node.requests - 1 })) None) none, none)

module _ (xs ys : List (Option Node)) (n end : ℕ) (table : IsTable (λ k. slice_index_or xs k None) end) (can : CanDrop (asked_in (λ k. slice_index_or xs k None)) n) (last : has_more (slice_index_or xs n None) ≡ false)
    (is : slice_index_or ys n None ≡ one_less (slice_index_or xs n None)) (others : (k : ℕ) → k ≢ n → slice_index_or ys k None ≡ slice_index_or xs k None) where
  gone : slice_index_or ys n None ≡ None
  gone =
      let own = node_asked (λ k. slice_index_or xs k None) n can.asked can.here in
      is ∙ (last_goes (slice_index_or xs n None) own.0 own.1 last).0

  less : IsTable (λ k. slice_index_or ys k None) end × ((k : ℕ) (node : Node) → slice_index_or ys k None ≡ Some node → slice_index_or xs k None ≡ Some node)
  less =
      let own = node_asked (λ k. slice_index_or xs k None) n can.asked can.here in
      let one = (last_goes (slice_index_or xs n None) own.0 own.1 last).1 in
      let final : nat_lt 1 can.asked.requests ≡ false = ap (λ (a : Asked). nat_lt 1 a.requests) (sym own.2) ∙ one in
      table_less (λ k. slice_index_or xs k None) (λ k. slice_index_or ys k None) end n table gone others
      (λ k node key there keyed i. can.last final k (asked_of node) key (ap (option_map asked_of) there) keyed i)

  pub table_dropped : IsTable (λ k. slice_index_or ys k None) end
  table_dropped = less.0

  pub holds_dropped : (w : List Element) → AllHold (λ k. slice_index_or xs k None) w → AllHold (λ k. slice_index_or ys k None) w
  holds_dropped w all = part_holds (λ k. slice_index_or ys k None) (λ k. slice_index_or xs k None) end less.0 less.1 w all

  pub hear_dropped : (w : List Element) → AllHear (λ k. slice_index_or xs k None) w → AllHear (λ k. slice_index_or ys k None) w
  hear_dropped w all = hear_part (λ k. slice_index_or xs k None) (λ k. slice_index_or ys k None) w less.1 all

  pub links_dropped : (keys0 keys1 : List TurnKey) → IsSpread links_of (seen_at (λ k. slice_index_or xs k None)) keys0
      → ((c : TurnKey) → IsIn c keys1 ↔ (IsIn c keys0 × (IsIn c (links_of (seen_at (λ k. slice_index_or xs k None) n) n) → ⊥))) → IsSpread links_of (seen_at (λ k. slice_index_or ys k None)) keys1
  links_dropped keys0 keys1 s all =
      spread_less links_of links_own (seen_at (λ k. slice_index_or xs k None)) (seen_at (λ k. slice_index_or ys k None)) n keys0 keys1 s (ap (λ (o : Option Node). links_of (option_map seen o) n) gone)
      (λ k ne. ap (λ (o : Option Node). links_of (option_map seen o) k) (others k ne)) all

  pub takers_dropped : (keys0 keys1 : List TurnKey) → IsSpread takers_of (seen_at (λ k. slice_index_or xs k None)) keys0
      → ((c : TurnKey) → IsIn c keys1 ↔ (IsIn c keys0 × (IsIn c (takers_of (seen_at (λ k. slice_index_or xs k None) n) n) → ⊥))) → IsSpread takers_of (seen_at (λ k. slice_index_or ys k None)) keys1
  takers_dropped keys0 keys1 s all =
      spread_less takers_of takers_own (seen_at (λ k. slice_index_or xs k None)) (seen_at (λ k. slice_index_or ys k None)) n keys0 keys1 s (ap (λ (o : Option Node). takers_of (option_map seen o) n) gone)
      (λ k ne. ap (λ (o : Option Node). takers_of (option_map seen o) k) (others k ne)) all

  pub stamps_dropped : (stamp : ℕ) → ((k : ℕ) (s : Seen) → seen_at (λ k. slice_index_or xs k None) k ≡ Some s → s.stamp < stamp) → (k : ℕ) (s : Seen) → seen_at (λ k. slice_index_or ys k None) k ≡ Some s → s.stamp < stamp
  stamps_dropped stamp before k s there = by (slice_index_or ys k None) refl there
    where
      by : (o : Option Node) → slice_index_or ys k None ≡ o → option_map seen o ≡ Some s → s.stamp < stamp
      by None at h = absurd (cc)
      by (Some x) at h = before k s (ap (option_map seen) (less.1 k x at) ∙ h)

  pub root_dropped : (root : Seen) × (seen_at (λ k. slice_index_or xs k None) 0 ≡ Some root) × (root.key ≡ None) → (root : Seen) × (seen_at (λ k. slice_index_or ys k None) 0 ≡ Some root) × (root.key ≡ None)
  root_dropped root =
      let own = node_asked (λ k. slice_index_or xs k None) n can.asked can.here in
      let apart : zero ≢ n = λ e. (
      let same : root.0 ≡ seen own.0 = same_Some root.0 (seen own.0) (sym root.1 ∙ ap (λ (i : ℕ). option_map seen (slice_index_or xs i None)) e ∙ ap (option_map seen) own.1) in
      let bad : None ≡ Some can.key = sym root.2 ∙ ap (λ (x : Seen). x.key) same ∙ ap (λ (a : Asked). a.key) own.2 ∙ can.keyed in
      cc) in
      (root.0, ap (option_map seen) (others 0 apart) ∙ root.1, root.2)
