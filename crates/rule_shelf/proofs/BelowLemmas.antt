-- The last of the rules, and the numbers that are above all others.
use Rattle.std.proofs.Common.{◌≡◌, ◌<◌, ℕ, zero, suc, nat_lt, IsTrue, false, List, [], ◌∷◌, map, length, subst, sym, ◌-◌, ◌↔◌, Some, arith}
use Rattle.std.specs.List.{All}
use Rattle.std.specs.Map.{keys_of, values_of}
use Rattle.std.specs.Ordering.{is_lt, nat_cmp}
use Rattle.std.specs.Prelude.{slice_get}
use Rattle.defs_match.specs.Rules.{rule_seen}
use Rattle.defs_match.specs.declared.rule.Rule.{Rule}
use Rattle.rule_shelf.specs.Marks.{AreNumbered, Entries}
use Rattle.rule_shelf.specs.Shelf.{AreBelow}
use Rattle.rule_shelf.proofs.EntryLemmas.{rules_in}

under : (last n k number : ℕ) → is_lt (nat_cmp last n) ≡ false → k ≡ n → last < number → k < number
under last n k number h same less = grind arith

-- no number is above the last one
all_below : (es : Entries) (last number : ℕ) → AreNumbered es → All (λ n. is_lt (nat_cmp last n) ≡ false) (keys_of es) → last < number → AreBelow number (rules_in es)
all_below [] last number numbered all less = tt
all_below (e ∷ es) last number numbered all less = (
  under last e.0 e.1.number number (all 0 0 (omega arith)) numbered.0 less,
  all_below es last number numbered.1 (λ k d h. all (suc k) d (omega (arith, h))) less,
)

first_below : (e : ℕ × Rule) (last number : ℕ) (rule : Rule) → e.1.number ≡ e.0 → e.1.number < number → Some e ≡ Some (last, rule) → last < number
first_below e last number rule same less is = let at : e.0 ≡ last = cc in omega (arith, same, less, at)

last_below : (es : Entries) (at last number : ℕ) (rule : Rule) → AreNumbered es → AreBelow number (rules_in es) → slice_get es at ≡ Some (last, rule) → last < number
last_below [] at last number rule numbered below is = absurd (cc)
last_below (e ∷ es) zero last number rule numbered below is = first_below e last number rule numbered.0 below.0 is
last_below (e ∷ es) (suc at) last number rule numbered below is = last_below es at last number rule numbered.1 below.1 is

less_of : (m n : ℕ) → IsTrue (nat_lt m n) → m < n
less_of m n h = grind arith

told_less : (m n : ℕ) → m < n → IsTrue (nat_lt m n)
told_less m n h = grind arith

pub below_last : (es : Entries) (rules : List Rule) (last number : ℕ) (rule : Rule) → AreNumbered es → values_of es ≡ rules → All (λ n. is_lt (nat_cmp last n) ≡ false) (keys_of es)
    → slice_get es (length es - 1) ≡ Some (last, rule) → IsTrue (nat_lt last number) ↔ AreBelow number (map rule_seen rules)
below_last es rules last number rule numbered view all is = (
  λ less. subst (λ rs. AreBelow number (map rule_seen rs)) view (all_below es last number numbered all (less_of last number less)),
  λ below. told_less last number (last_below es (length es - 1) last number rule numbered (subst (λ rs. AreBelow number (map rule_seen rs)) (sym view) below) is),
)
