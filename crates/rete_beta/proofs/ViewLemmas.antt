-- What callers see of nodes.
use Rattle.std.proofs.Common.{◌≡◌, refl, sym, ap, subst, ◌∙◌, false, cond, ℕ, zero, suc, ◌+◌, ◌<◌, count_by, is_some, List, [], ◌∷◌, map, Option, Some, None, slice_index_or, Result, Ok, Err, IfOk}
use Rattle.std.specs.Prelude.{option_and_then, IsSome}
use Rattle.std.specs.List.{fold}
use Rattle.std.specs.Option.{option_map}
use Rattle.std.proofs.lemmas.Option.{same_Some}
use Rattle.node_table.specs.declared.node.NodeKey.{NodeKey}
use Rattle.node_table.specs.declared.node.Node.{Node}
use Rattle.node_table.specs.Nodes.{IsNumbered, key_at as table_key, key_of as table_key_of}
use Rattle.node_table.specs.Content.{IsTable}
use Rattle.rete_beta.specs.Joins.{JoinsOf, Asked, node_at, key_at, key_of, AreNodes, Asks, Drops, SameNodes, CanDrop, IsStart}
use Rattle.rete_beta.specs.Networks.{asked_of, asked_in, SameAsked, StartsWith}
use Rattle.rete_beta.proofs.NetworkLemmas.{node_asked}

pub view_at : (slots : List (Option Node)) (k : ℕ) → slice_index_or (map (option_map asked_of) slots) k None ≡ option_map asked_of (slice_index_or slots k None)
view_at [] k = refl
view_at (o ∷ slots) zero = refl
view_at (o ∷ slots) (suc k) = view_at slots k

-- a view whose nodes are those of slots
pub shows : (v : JoinsOf) (slots : List (Option Node)) → v.nodes ≡ map (option_map asked_of) slots → node_at v ≡ asked_in (λ n. slice_index_or slots n None)
shows v slots is = λ i k. (ap (λ (l : List (Option Asked)). slice_index_or l k None) is ∙ view_at slots k) i

pub live_in : (v : JoinsOf) (slots : List (Option Node)) (n : ℕ) → v.nodes ≡ map (option_map asked_of) slots → IsSome (node_at v n) → IsSome (slice_index_or slots n None)
live_in v slots n is live = by (slice_index_or slots n None) (subst (λ (f : ℕ → Option Asked). IsSome (f n)) (shows v slots is) live)
  where
    by : (o : Option Node) → IsSome (option_map asked_of o) → IsSome o
    by None h = h
    by (Some node) h = refl

-- keys are those of the table
pub keys_in : (v : JoinsOf) (slots : List (Option Node)) → v.nodes ≡ map (option_map asked_of) slots → key_at v ≡ table_key (λ n. slice_index_or slots n None)
keys_in v slots is = λ i k. (ap (λ (f : ℕ → Option Asked). option_and_then key_of (f k)) (shows v slots is) ∙ by (slice_index_or slots k None)) i
  where
    by : (o : Option Node) → option_and_then key_of (option_map asked_of o) ≡ option_and_then table_key_of o
    by None = refl
    by (Some node) = refl

pub are_nodes : (number : NodeKey → Option ℕ) (slots : List (Option Node)) (end : ℕ) → IsNumbered number (table_key (λ n. slice_index_or slots n None)) → IsTable (λ n. slice_index_or slots n None) end → AreNodes (asked_in (λ n. slice_index_or slots n None))
are_nodes number slots end numbered table = record {
  differ = λ m n a b key at bt ak bk.
      let x = node_asked (λ i. slice_index_or slots i None) m a at in
      let y = node_asked (λ i. slice_index_or slots i None) n b bt in
      let one = (numbered key m).1 (ap (option_and_then table_key_of) x.1 ∙ ap (λ (z : Asked). z.key) x.2 ∙ ak) in
      let two = (numbered key n).1 (ap (option_and_then table_key_of) y.1 ∙ ap (λ (z : Asked). z.key) y.2 ∙ bk) in
      same_Some m n (sym one ∙ two);
  asked = λ n a at.
      let x = node_asked (λ i. slice_index_or slots i None) n a at in
      subst (λ (z : Asked). 0 < z.requests) x.2 (table.asked n x.0 x.1);
}

pub if_ok : {T E : Type 0} {P Q : T → Type 0} → ((x : T) → P x → Q x) → (r : Result T E) → IfOk r P → IfOk r Q
if_ok f (Ok x) p = f x p
if_ok f (Err e) p = tt

-- as many are live in the view, behind a number
counted_in : (n : ℕ) (slots : List (Option Node)) → fold (λ a o. a + cond (is_some o) 1 0) n (map (option_map asked_of) slots) ≡ fold (λ a o. a + cond (is_some o) 1 0) n slots
counted_in n [] = refl
counted_in n (None ∷ slots) = counted_in (n + 0) slots
counted_in n (Some node ∷ slots) = counted_in (n + 1) slots

pub count_in : (slots : List (Option Node)) → count_by is_some (map (option_map asked_of) slots) ≡ count_by is_some slots
count_in slots = counted_in 0 slots

-- ---- what is said of the table is said of the view

module _ (v0 v1 : JoinsOf) (xs ys : List (Option Node)) (e0 : v0.nodes ≡ map (option_map asked_of) xs) (e1 : v1.nodes ≡ map (option_map asked_of) ys) where
  pub asks_shown : (key : NodeKey) (n : ℕ) → Asks (asked_in (λ k. slice_index_or xs k None)) (asked_in (λ k. slice_index_or ys k None)) key n → Asks (node_at v0) (node_at v1) key n
  asks_shown key n h =
      subst (λ (f : ℕ → Option Asked). Asks f (node_at v1) key n) (sym (shows v0 xs e0))
      (subst (λ (g : ℕ → Option Asked). Asks (asked_in (λ k. slice_index_or xs k None)) g key n) (sym (shows v1 ys e1)) h)

  pub drops_shown : (n : ℕ) → Drops (asked_in (λ k. slice_index_or xs k None)) (asked_in (λ k. slice_index_or ys k None)) n → Drops (node_at v0) (node_at v1) n
  drops_shown n h =
      subst (λ (f : ℕ → Option Asked). Drops f (node_at v1) n) (sym (shows v0 xs e0))
      (subst (λ (g : ℕ → Option Asked). Drops (asked_in (λ k. slice_index_or xs k None)) g n) (sym (shows v1 ys e1)) h)

  pub same_shown : SameAsked (λ k. slice_index_or xs k None) (λ k. slice_index_or ys k None) → SameNodes v0 v1
  same_shown h k = ap (λ (f : ℕ → Option Asked). f k) (shows v1 ys e1) ∙ h k ∙ sym (ap (λ (f : ℕ → Option Asked). f k) (shows v0 xs e0))

pub can_drop : (v : JoinsOf) (xs : List (Option Node)) (n : ℕ) → v.nodes ≡ map (option_map asked_of) xs → CanDrop (node_at v) n → CanDrop (asked_in (λ k. slice_index_or xs k None)) n
can_drop v xs n e h = subst (λ (f : ℕ → Option Asked). CanDrop f n) (shows v xs e) h

pub starts_shown : (v : JoinsOf) (xs : List (Option Node)) → v.nodes ≡ map (option_map asked_of) xs → v.elements ≡ [] → v.failed ≡ false → StartsWith (λ k. slice_index_or xs k None) → IsStart v
starts_shown v xs e none works s = record {
  root = ap (λ (f : ℕ → Option Asked). f 0) (shows v xs e) ∙ s.root;
  others = λ k ne. ap (λ (f : ℕ → Option Asked). f k) (shows v xs e) ∙ ap (option_map asked_of) (s.others k ne);
  elements = none;
  works = works;
}

-- live nodes differ, and each has a request
pub nodes_shown : (v : JoinsOf) (xs : List (Option Node)) → v.nodes ≡ map (option_map asked_of) xs → AreNodes (asked_in (λ k. slice_index_or xs k None)) → AreNodes (node_at v)
nodes_shown v xs e h = subst (λ (f : ℕ → Option Asked). AreNodes f) (sym (shows v xs e)) h
