-- A new node, from its parent made ready to its request for its pattern.
use Rattle.std.proofs.Common.{◌≡◌, ◌≢◌, inl, inr, refl, sym, ap, ap₂, subst, ◌∙◌, Bool, true, false, cond, ◌==◌, eqb-true, eq-eqb, ℕ, ◌+◌, List, Option, Some, None, slice_index_or}
use Rattle.std.proofs.lemmas.Bool.{cases_eq}
use Rattle.std.specs.Prelude.{IsSome, IfSome, option_and_then}
use Rattle.std.specs.Option.{option_map}
use Rattle.defs_match.specs.Laws.{IsIn, ElementsDiffer}
use Rattle.soar_wm.specs.declared.element.Element.{Element}
use Rattle.rete_alpha.specs.Alphas.{AlphaOf}
use Rattle.node_memory.specs.Held.{SameElements}
use Rattle.node_table.specs.declared.node.Step.{Step}
use Rattle.node_table.specs.declared.node.Step.TheVariants.{Join, Negation}
use Rattle.node_table.specs.declared.node.NodeKey.{NodeKey}
use Rattle.node_table.specs.declared.node.Node.{Node}
use Rattle.node_table.specs.Nodes.{key_at, inner_of, uppers, IsNumbered}
use Rattle.node_table.specs.Content.{IsTable, AllHold}
use Rattle.node_table.specs.Asked.{asker, asker_by, asker_of, IsAsked}
use Rattle.node_table.specs.Making.{IsReady, IsParent, IsBelowIt, IsWhole, AsksFor, Adds, Seen, seen, seen_at}
use Rattle.node_table.proofs.NumberLemmas.{numbered_same}
use Rattle.node_table.specs.Hearing.{MayHear, AllHear}
use Rattle.node_table.proofs.MakingLemmas.{keys_kept, table_kept, hold_kept, hear_kept}
use Rattle.node_table.proofs.AskedLemmas.{asks_at, kept_asked, came_asked}
use Rattle.node_table.proofs.GrowLemmas.{table_more, more_hold, more_hear}

pub live_at : {A : Type 0} (o : Option A) → IsSome o → (x : A) × (o ≡ Some x)
live_at None h = absurd (cc)
live_at (Some x) h = (x, refl)

pub if_live : {A : Type 0} (P : A → Type 0) (o : Option A) → ((x : A) → o ≡ Some x → P x) → IfSome o P
if_live P None f = tt
if_live P (Some x) f = f x refl

pub set_here : {A : Type 0} (old new : ℕ → Option A) (n : ℕ) (x : A) → ((k : ℕ) → new k ≡ cond (k == n) (Some x) (old k)) → new n ≡ Some x
set_here old new n x h = h n ∙ ap (λ (b : Bool). cond b (Some x) (old n)) (eq-eqb n n refl)

pub set_others : {A : Type 0} (old new : ℕ → Option A) (n : ℕ) (x : A) → ((k : ℕ) → new k ≡ cond (k == n) (Some x) (old k)) → (k : ℕ) → k ≢ n → new k ≡ old k
set_others {A} old new n x h k ne = h k ∙ by (k == n) refl
  where
    by : (b : Bool) → (k == n) ≡ b → cond b (Some x) (old k) ≡ old k
    by true is = absurd (ne (eqb-true k n is))
    by false is = refl

-- a step asks for its pattern, if it has one
step_asked : (step : Step) (xs ys : List (Option Node)) (old new : AlphaOf) (n number : ℕ) → IsAsked xs old → asks_at xs n ≡ None → asks_at ys n ≡ asker_of number step
    → ((k : ℕ) → k ≢ n → slice_index_or ys k None ≡ slice_index_or xs k None) → AsksFor old new step number → IsAsked ys new
step_asked (Join p) xs ys old new n number asked vacant here others asks = came_asked xs ys old new n (number, p) asked vacant here others asks
step_asked (Negation m) xs ys old new n number asked vacant here others asks = subst (IsAsked ys) (sym asks) (kept_asked xs ys old n asked (here ∙ sym vacant) others)

pub asks_elements : (step : Step) (old new : AlphaOf) (number : ℕ) → AsksFor old new step number → new.elements ≡ old.elements
asks_elements (Join p) old new number asks = asks.elements
asks_elements (Negation m) old new number asks = ap (λ (a : AlphaOf). a.elements) asks

abbrev pub at : List (Option Node) → ℕ → Option Node
at xs n = slice_index_or xs n None

module _ (number : NodeKey → Option ℕ) (xs mid : List (Option Node)) (alpha : AlphaOf) (end : ℕ) (key : NodeKey) (whole : IsWhole number xs alpha end) (live : (m : ℕ) → IsIn m (inner_of key.step) → IsSome (at xs m)) (p0 now : Node) (here : at xs key.parent ≡ Some p0) (is : at mid key.parent ≡ Some now) (ready : IsReady p0 now key.step) (others : (k : ℕ) → k ≢ key.parent → at mid k ≡ at xs k) where
  pub ready_table : IsTable (at mid) end
  ready_table = table_kept (at xs) (at mid) key.parent end key.step whole.table p0 now here is ready others

  pub ready_numbered : IsNumbered number (key_at (at mid))
  ready_numbered = numbered_same number (key_at (at xs)) (key_at (at mid)) whole.numbered (λ k. ap (λ (f : ℕ → Option NodeKey). f k) (keys_kept (at xs) (at mid) key.parent end key.step whole.table p0 now here is ready others))

  live_inner : (m : ℕ) → IsIn m (inner_of key.step) → (u : Node) × (at mid m ≡ Some u)
  live_inner m i = elim (cases_eq m key.parent) [
    | inl e ↦ (now, ap (at mid) e ∙ is)
    | inr ne ↦ (let u = live_at (at xs m) (live m i) in (u.0, others m ne ∙ u.1))
  ]

  live_mid : (m : ℕ) → IsIn m (uppers key) → (u : Node) × (at mid m ≡ Some u)
  live_mid m (inl e) = (now, ap (at mid) (sym e) ∙ is)
  live_mid m (inr i) = live_inner m i

  pub ready_parent : IsParent (at mid) key
  ready_parent = record { parent = now; above = is; joined = ready.joined; indexed = ready.indexed; inner = live_inner }

  pub ready_asked : IsAsked mid alpha
  ready_asked = kept_asked xs mid alpha key.parent whole.asked (ap (option_and_then asker) is ∙ ap asker ready.same ∙ sym (ap (option_and_then asker) here)) others

  seen_kept : (k : ℕ) → seen_at (at mid) k ≡ seen_at (at xs) k
  seen_kept k = elim (cases_eq k key.parent) [
    | inl e ↦ ap (seen_at (at mid)) e ∙ ap (option_map seen) is ∙ ap (λ (x : Node). Some (seen x)) ready.same ∙ sym (ap (option_map seen) here) ∙ ap (seen_at (at xs)) (sym e)
    | inr ne ↦ ap (option_map seen) (others k ne)
  ]

  module _ (number1 : NodeKey → Option ℕ) (ys : List (Option Node)) (alpha1 : AlphaOf) (index : List Element) (a n : ℕ) (node : Node) (vacant : at mid n ≡ None) (set : (k : ℕ) → at ys k ≡ cond (k == n) (Some node) (at mid k)) (numbered : IsNumbered number1 (key_at (at ys))) (asked : AsksFor alpha alpha1 key.step a) (new : IsBelowIt (at mid) key index a end now node) where
    there : at ys n ≡ Some node
    there = set_here (at mid) (at ys) n node set

    rest : (k : ℕ) → k ≢ n → at ys k ≡ at mid k
    rest = set_others (at mid) (at ys) n node set

    pub made_whole : IsWhole number1 ys alpha1 (end + 1)
    made_whole = record {
      numbered = numbered;
      table = table_more (at mid) (at ys) end n ready_table node now key vacant there rest new.keyed is live_mid new.tags new.made new.requests ready.joined new.indexed;
      asked = step_asked key.step mid ys alpha alpha1 n a ready_asked (ap (option_and_then asker) vacant) (ap (option_and_then asker) there ∙ ap₂ asker_by new.alpha new.keyed) rest asked;
    }

    pub made_adds : Adds (at xs) (at ys) key a end n
    made_adds = record {
      hears = node.hears;
      vacant = (let ne : n ≢ key.parent = λ e. (let none : at mid key.parent ≡ None = ap (at mid) (sym e) ∙ vacant in cc) in sym (others n ne) ∙ vacant);
      here =
          let told : seen node ≡ record { key = Some key; made = end; stamp = 0; alpha = a; hears = node.hears; requests = 1 } = λ i. record { key = new.keyed i; made = new.made i; stamp = new.stamp i; alpha = new.alpha i; hears = node.hears; requests = new.requests i } in
          ap (option_map seen) there ∙ ap (λ (s : Seen). let o : Option Seen = Some s in o) told;
      others = λ k ne. ap (option_map seen) (rest k ne) ∙ seen_kept k;
    }

    pub made_holds : (w : List Element) → AllHold (at xs) w → SameElements index w → ElementsDiffer w → AllHold (at ys) w
    made_holds w all same differ =
        more_hold (at mid) (at ys) end n ready_table node now key vacant there rest new.keyed is live_mid new.tags new.made new.requests ready.joined new.indexed index w
        (hold_kept (at xs) (at mid) key.parent end key.step whole.table p0 now here is ready others w all) same differ new.filled

    pub made_hears : (w : List Element) → AllHear (at xs) w → MayHear (at mid) key w node.hears.rows node.hears.elements → AllHear (at ys) w
    made_hears w all enough =
        more_hear (at mid) (at ys) end n ready_table node now key vacant there rest new.keyed is live_mid new.tags new.made new.requests ready.joined new.indexed w
        (hear_kept (at xs) (at mid) key.parent end key.step whole.table p0 now here is ready others w all) enough
