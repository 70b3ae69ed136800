-- What a request that is taken back leaves of the requests for patterns.
use Rattle.std.proofs.Common.{◌≡◌, ◌≢◌, refl, sym, ap, subst, ◌∙◌, Bool, true, false, cond, ◌-◌, ◌==◌, eqb-true, eq-eqb, nat_lt, ℕ, List, Option, Some, None, slice_index_or}
use Rattle.std.proofs.lemmas.Option.{same_Some}
use Rattle.std.specs.Prelude.{option_and_then}
use Rattle.std.specs.Option.{option_map}
use Rattle.rete_alpha.specs.Alphas.{AlphaOf, IsLive, Releases}
use Rattle.node_table.specs.declared.node.Node.{Node}
use Rattle.node_table.specs.Nodes.{one_less}
use Rattle.node_table.specs.Asked.{Asker, asker, IsAsked}
use Rattle.node_table.specs.Dropping.{freed, number_of}
use Rattle.node_table.proofs.AskedLemmas.{kept_asked, is_live, dropped_asked}

-- what goes free is what was asked for
freed_own : (o : Option Node) (number : ℕ) → freed o ≡ Some number → (q : Asker) × (option_and_then asker o ≡ Some q) × (q.0 ≡ number) × (option_and_then asker (one_less o) ≡ None)
freed_own None number h = absurd (cc)
freed_own (Some node) number h = by (nat_lt 1 node.requests) (asker node) refl h
  where
    by : (b : Bool) (o : Option Asker) → asker node ≡ o → cond b None (option_map number_of o) ≡ Some number
        → (q : Asker) × (asker node ≡ Some q) × (q.0 ≡ number) × (option_and_then asker (cond b (Some (record node { requests = node.requests - 1 })) None) ≡ None)
    by true o is h = absurd (cc)
    by false None is h = absurd (cc)
    by false (Some q) is h = (q, is, same_Some q.0 number h, refl)

none_freed : (o : Option Node) → freed o ≡ None → option_and_then asker (one_less o) ≡ option_and_then asker o
none_freed None h = refl
none_freed (Some node) h = by (nat_lt 1 node.requests) (asker node) refl h
  where
    by : (b : Bool) (o : Option Asker) → asker node ≡ o → cond b None (option_map number_of o) ≡ None → option_and_then asker (cond b (Some (record node { requests = node.requests - 1 })) None) ≡ asker node
    by true o is h = refl
    by false None is h = sym is
    by false (Some q) is h = absurd (cc)

pub freed_live : (xs : List (Option Node)) (alpha : AlphaOf) (n number : ℕ) → IsAsked xs alpha → freed (slice_index_or xs n None) ≡ Some number → IsLive alpha number
freed_live xs alpha n number asked h =
    let own = freed_own (slice_index_or xs n None) number h in
    subst (IsLive alpha) own.2 (is_live xs alpha n own.0 asked own.1)

pub freed_asked : (xs ys : List (Option Node)) (old new : AlphaOf) (n number : ℕ) → IsAsked xs old → freed (slice_index_or xs n None) ≡ Some number → slice_index_or ys n None ≡ one_less (slice_index_or xs n None)
    → ((k : ℕ) → k ≢ n → slice_index_or ys k None ≡ slice_index_or xs k None) → Releases old new number → IsAsked ys new
freed_asked xs ys old new n number asked h here others releases =
    let own = freed_own (slice_index_or xs n None) number h in
    dropped_asked xs ys old new n own.0 asked own.1 (ap (option_and_then asker) here ∙ own.3) others (subst (Releases old new) (sym own.2) releases)

pub counted_asked : (xs ys : List (Option Node)) (alpha : AlphaOf) (n : ℕ) → IsAsked xs alpha → freed (slice_index_or xs n None) ≡ None → slice_index_or ys n None ≡ one_less (slice_index_or xs n None)
    → ((k : ℕ) → k ≢ n → slice_index_or ys k None ≡ slice_index_or xs k None) → IsAsked ys alpha
counted_asked xs ys alpha n asked h here others = kept_asked xs ys alpha n asked (ap (option_and_then asker) here ∙ none_freed (slice_index_or xs n None) h) others

-- ---- one number of all

pub cond_here : {A : Type 0} (old new : ℕ → A) (f : A → A) (n : ℕ) → ((k : ℕ) → new k ≡ cond (k == n) (f (old k)) (old k)) → new n ≡ f (old n)
cond_here old new f n h = h n ∙ ap (λ (b : Bool). cond b (f (old n)) (old n)) (eq-eqb n n refl)

pub cond_others : {A : Type 0} (old new : ℕ → A) (f : A → A) (n : ℕ) → ((k : ℕ) → new k ≡ cond (k == n) (f (old k)) (old k)) → (k : ℕ) → k ≢ n → new k ≡ old k
cond_others {A} old new f n h k ne = h k ∙ by (k == n) refl
  where
    by : (b : Bool) → (k == n) ≡ b → cond b (f (old k)) (old k) ≡ old k
    by true is = absurd (ne (eqb-true k n is))
    by false is = refl
