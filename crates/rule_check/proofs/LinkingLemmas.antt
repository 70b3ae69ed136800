-- Variables that are joined step by step.
use Rattle.std.proofs.Common.{◌≡◌, ℕ, ◌<◌, ◌≤◌, ◌+◌, zero, suc, Bool, true, false, ◌||◌, ◌==◌, List, [], ◌∷◌, ◌++◌, length, get_or, take, map, refl, sym, ap, subst, ◌∙◌, append_assoc, arith}
use Rattle.std.proofs.lemmas.Bool.{eqb-true}
use Rattle.std.proofs.lemmas.List.{map_more}
use Rattle.soar_rule.specs.Checking.{linked_by, linked_by_all}
use Rattle.soar_rule.specs.Productions.{ActionOf, action_seen}
use Rattle.soar_rule.specs.Repeat.{repeated}
use Rattle.soar_rule.specs.Variables.{is_among}
use Rattle.soar_rule.specs.declared.action.Action.{Action}
use Rattle.soar_rule.proofs.VariableLemmas.{among_joined}
use Rattle.rule_check.specs.Marking.{AreMarked, Joined, is_marked}
use Rattle.rule_check.proofs.MarkLemmas.{or_false}

-- one that was among them joins
pub joined_again : (marks : List Bool) (number : ℕ) → is_marked marks number ≡ true → Joined marks marks (number ∷ [])
joined_again marks number has variables marked v = marked v ∙ by (v == number) refl ∙ sym (among_joined variables (number ∷ []) v)
  where
    by : (b : Bool) → (v == number) ≡ b → is_among variables v ≡ is_among variables v || (b || false)
    by true e =
        let is : is_among variables v ≡ true = ap (is_among variables) (eqb-true v number e) ∙ sym (marked number) ∙ has in
        is ∙ sym (ap (λ b. b || true) is)
    by false e = or_false (is_among variables v)

pub joined_then : (old mid new : List Bool) (vs ws : List ℕ) → Joined old mid vs → Joined mid new ws → Joined old new (vs ++ ws)
joined_then old mid new vs ws first next variables marked = subst (AreMarked new) (append_assoc variables vs ws) (next (variables ++ vs) (first variables marked))

-- one action more
linked_by_joined : (actions : List ActionOf) (a : ActionOf) (known : List ℕ) → linked_by_all (actions ++ a ∷ []) known ≡ linked_by (linked_by_all actions known) a
linked_by_joined [] a known = refl
linked_by_joined (b ∷ actions) a known = linked_by_joined actions a (linked_by known b)

pub linked_by_more : (actions : List Action) (i : ℕ) (a : Action) (known : List ℕ) → i < length actions → a ≡ get_or actions i a
    → linked_by (linked_by_all (map action_seen (take i actions)) known) (action_seen a) ≡ linked_by_all (map action_seen (take (i + 1) actions)) known
linked_by_more actions i a known within at =
    ap (λ b. linked_by (linked_by_all (map action_seen (take i actions)) known) (action_seen b)) at
    ∙ sym (linked_by_joined (map action_seen (take i actions)) (action_seen (get_or actions i a)) known)
    ∙ ap (λ seen. linked_by_all seen known) (sym (map_more action_seen actions i a within))

-- one round more
pub repeated_more : {A : Type 0} (n : ℕ) (step : A → A) (a : A) → step (repeated n step a) ≡ repeated (suc n) step a
repeated_more zero step a = refl
repeated_more (suc n) step a = repeated_more n step (step a)

-- after a round that joins nothing no later round joins any
module _ (step : List ℕ → List ℕ) (marks : List Bool) (same : (known : List ℕ) → AreMarked marks known → AreMarked marks (step known)) where
  settled : (n : ℕ) (known : List ℕ) → AreMarked marks known → AreMarked marks (repeated n step known)
  settled zero known marked = marked
  settled (suc n) known marked = settled n (step known) (same known marked)

  pub settled_after : (i n : ℕ) (known : List ℕ) → i ≤ n → AreMarked marks (repeated i step known) → AreMarked marks (repeated n step known)
  settled_after zero n known within marked = settled n known marked
  settled_after (suc i) zero known within marked = absurd (omega (arith, within))
  settled_after (suc i) (suc n) known within marked = settled_after i n (step known) (omega arith) marked
