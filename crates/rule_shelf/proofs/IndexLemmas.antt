-- What the index tells, as rules come and go.
use Rattle.std.proofs.Common.{◌≡◌, refl, sym, ◌∙◌, ap, ℕ, ◌^◌, ◌<◌, ◌==◌, Bool, true, false, ◌&&◌, cond, List, [], ◌∷◌, ◌++◌, Some, None}
use Rattle.std.specs.BTreeMap.{is_at}
use Rattle.std.specs.BTreeSet.{insert_key}
use Rattle.std.specs.Ordering.{nat_cmp}
use Rattle.std.specs.Set.{remove_key}
use Rattle.soar_sym.specs.Equality.{symbol_eq}
use Rattle.soar_sym.specs.declared.symbol.Sym.{Sym}
use Rattle.soar_wm.proofs.KeyLemmas.{nat_is}
use Rattle.body_marks.specs.Fingerprint.{fingerprint}
use Rattle.defs_match.specs.Contents.{rule_numbered, without_rule}
use Rattle.defs_match.specs.Rules.{RuleOf}
use Rattle.rule_shelf.specs.declared.index.Index.{Index}
use Rattle.rule_shelf.specs.Marks.{has, has_print, is_of, is_print, place_cmp, print_cmp, Forgets, IsIndexed, IsSame, Notes}
use Rattle.rule_shelf.specs.Shelf.{AreBelow, is_justified}
use Rattle.rule_shelf.proofs.KeyLemmas.{place_is, print_is, same_place, same_print}
use Rattle.rule_shelf.proofs.RuleLemmas.{below_pushed, below_without, justified_back, justified_pushed, justified_without, none_numbered, numbered_pushed, numbered_without, rising_pushed, rising_without}

-- a number that stood nowhere is put under a name, and taken from it again
pub taken_back : (name : Sym) (number : ℕ) (old middle new : List (Sym × ℕ)) → has old (name, number) ≡ false
    → ((q : Sym × ℕ) → has middle q ≡ cond (is_at (place_cmp (name, number)) q) true (has old q))
    → ((q : Sym × ℕ) → has new q ≡ cond (is_at (place_cmp (name, number)) q) false (has middle q)) → (q : Sym × ℕ) → has new q ≡ has old q
taken_back name number old middle new fresh up down q = down q ∙ ap (λ b. cond (is_at (place_cmp (name, number)) q) false b) (up q) ∙ by (is_at (place_cmp (name, number)) q) refl
  where
    by : (b : Bool) → is_at (place_cmp (name, number)) q ≡ b → cond b false (cond b true (has old q)) ≡ has old q
    by true h = sym fresh ∙ ap (has old) (place_is (name, number) q h)
    by false h = refl

print_back : (print number : ℕ) (old middle new : List (ℕ × ℕ)) → has_print old (print, number) ≡ false
    → ((q : ℕ × ℕ) → has_print middle q ≡ cond (is_at (print_cmp (print, number)) q) true (has_print old q))
    → ((q : ℕ × ℕ) → has_print new q ≡ cond (is_at (print_cmp (print, number)) q) false (has_print middle q)) → (q : ℕ × ℕ) → has_print new q ≡ has_print old q
print_back print number old middle new fresh up down q = down q ∙ ap (λ b. cond (is_at (print_cmp (print, number)) q) false b) (up q) ∙ by (is_at (print_cmp (print, number)) q) refl
  where
    by : (b : Bool) → is_at (print_cmp (print, number)) q ≡ b → cond b false (cond b true (has_print old q)) ≡ has_print old q
    by true h = sym fresh ∙ ap (has_print old) (print_is (print, number) q h)
    by false h = refl

-- ---- a rule comes behind all others

pub stands_nowhere : (rules : List RuleOf) (index : Index) (name : Sym) (number : ℕ) → IsIndexed rules index → AreBelow number rules → has index.names.keys (name, number) ≡ false
stands_nowhere rules index name number indexed below = indexed.named (name, number) ∙ ap (is_of name) (none_numbered number rules below)

pub prints_nowhere : (rules : List RuleOf) (index : Index) (print number : ℕ) → IsIndexed rules index → AreBelow number rules → has_print index.prints.keys (print, number) ≡ false
prints_nowhere rules index print number indexed below = indexed.printed (print, number) ∙ ap (is_print print) (none_numbered number rules below)

pub noted : (rules : List RuleOf) (r : RuleOf) (old new : Index) → IsIndexed rules old → AreBelow r.number rules → r.number < 2 ^ 64
    → Notes r.production.name r.number (fingerprint r.production) (is_justified r) old new → IsIndexed (rules ++ r ∷ []) new
noted rules r old new indexed below small notes = record {
  rising = rising_pushed rules r indexed.rising below;
  small = below_pushed (2 ^ 64) rules r indexed.small small;
  named = λ q.
      notes.named q ∙ ap (λ b. cond b true (has old.names.keys q)) (same_place (r.production.name, r.number) q)
      ∙ ap (λ b. cond (symbol_eq r.production.name q.0 && (r.number == q.1)) true b) (indexed.named q) ∙ by q (r.number == q.1) refl
      ∙ sym (ap (is_of q.0) (numbered_pushed q.1 rules r below));
  printed = λ q.
      notes.printed q ∙ ap (λ b. cond b true (has_print old.prints.keys q)) (same_print (fingerprint r.production, r.number) q)
      ∙ ap (λ b. cond ((fingerprint r.production == q.0) && (r.number == q.1)) true b) (indexed.printed q) ∙ by_print q (r.number == q.1) refl
      ∙ sym (ap (is_print q.0) (numbered_pushed q.1 rules r below));
  told = notes.told ∙ ap (λ ks. cond (is_justified r) (insert_key nat_cmp ks r.number) ks) indexed.told ∙ justified_pushed rules r below;
}
  where
    here : (b : Bool) → cond (b && true) true false ≡ b
    here true = refl
    here false = refl

    there : (b c : Bool) → cond (b && false) true c ≡ c
    there true c = refl
    there false c = refl

    by : (q : Sym × ℕ) (b : Bool) → (r.number == q.1) ≡ b → cond (symbol_eq r.production.name q.0 && b) true (is_of q.0 (rule_numbered q.1 rules)) ≡ is_of q.0 (cond b (Some r) (rule_numbered q.1 rules))
    by q true h =
        ap (λ o. cond (symbol_eq r.production.name q.0 && true) true (is_of q.0 o)) (sym (ap (λ n. rule_numbered n rules) (nat_is r.number q.1 h)) ∙ none_numbered r.number rules below)
        ∙ here (symbol_eq r.production.name q.0)
    by q false h = there (symbol_eq r.production.name q.0) (is_of q.0 (rule_numbered q.1 rules))

    by_print : (q : ℕ × ℕ) (b : Bool) → (r.number == q.1) ≡ b
        → cond ((fingerprint r.production == q.0) && b) true (is_print q.0 (rule_numbered q.1 rules)) ≡ is_print q.0 (cond b (Some r) (rule_numbered q.1 rules))
    by_print q true h =
        ap (λ o. cond ((fingerprint r.production == q.0) && true) true (is_print q.0 o)) (sym (ap (λ n. rule_numbered n rules) (nat_is r.number q.1 h)) ∙ none_numbered r.number rules below)
        ∙ here (fingerprint r.production == q.0)
    by_print q false h = there (fingerprint r.production == q.0) (is_print q.0 (rule_numbered q.1 rules))

pub still_indexed : (rules : List RuleOf) (old new : Index) → IsIndexed rules old → IsSame old new → IsIndexed rules new
still_indexed rules old new indexed same = record {
  rising = indexed.rising;
  small = indexed.small;
  named = λ q. same.named q ∙ indexed.named q;
  printed = λ q. same.printed q ∙ indexed.printed q;
  told = same.told ∙ indexed.told;
}

pub put_back : (rules : List RuleOf) (name : Sym) (number print : ℕ) (justified : Bool) (old middle new : Index) → IsIndexed rules old → AreBelow number rules → Notes name number print justified old middle
    → Forgets name number print middle new → IsIndexed rules new
put_back rules name number print justified old middle new indexed below notes forgets = record {
  rising = indexed.rising;
  small = indexed.small;
  named = λ q.
      taken_back name number old.names.keys middle.names.keys new.names.keys (stands_nowhere rules old name number indexed below) notes.named forgets.named q ∙ indexed.named q;
  printed = λ q.
      print_back print number old.prints.keys middle.prints.keys new.prints.keys (prints_nowhere rules old print number indexed below) notes.printed forgets.printed q ∙ indexed.printed q;
  told =
      forgets.told ∙ ap (remove_key (is_at (nat_cmp number))) (notes.told ∙ ap (λ ks. cond justified (insert_key nat_cmp ks number) ks) indexed.told)
      ∙ justified_back rules number justified below;
}

-- ---- a rule goes

pub forgotten : (rules : List RuleOf) (r : RuleOf) (number : ℕ) (old new : Index) → IsIndexed rules old → rule_numbered number rules ≡ Some r
    → Forgets r.production.name number (fingerprint r.production) old new → IsIndexed (without_rule rules number) new
forgotten rules r number old new indexed there forgets = record {
  rising = rising_without rules number indexed.rising;
  small = below_without (2 ^ 64) rules number indexed.small;
  named = λ q.
      forgets.named q ∙ ap (λ b. cond b false (has old.names.keys q)) (same_place (r.production.name, number) q)
      ∙ ap (λ b. cond (symbol_eq r.production.name q.0 && (number == q.1)) false b) (indexed.named q) ∙ by q (number == q.1) refl
      ∙ sym (ap (is_of q.0) (numbered_without q.1 rules number));
  printed = λ q.
      forgets.printed q ∙ ap (λ b. cond b false (has_print old.prints.keys q)) (same_print (fingerprint r.production, number) q)
      ∙ ap (λ b. cond ((fingerprint r.production == q.0) && (number == q.1)) false b) (indexed.printed q) ∙ by_print q (number == q.1) refl
      ∙ sym (ap (is_print q.0) (numbered_without q.1 rules number));
  told = forgets.told ∙ ap (remove_key (is_at (nat_cmp number))) indexed.told ∙ justified_without rules number indexed.rising;
}
  where
    here : (b : Bool) → cond (b && true) false b ≡ false
    here true = refl
    here false = refl

    elsewhere : (b c : Bool) → cond (b && false) false c ≡ c
    elsewhere true c = refl
    elsewhere false c = refl

    by : (q : Sym × ℕ) (b : Bool) → (number == q.1) ≡ b → cond (symbol_eq r.production.name q.0 && b) false (is_of q.0 (rule_numbered q.1 rules)) ≡ is_of q.0 (cond b None (rule_numbered q.1 rules))
    by q true h =
        ap (λ o. cond (symbol_eq r.production.name q.0 && true) false (is_of q.0 o)) (sym (ap (λ n. rule_numbered n rules) (nat_is number q.1 h)) ∙ there) ∙ here (symbol_eq r.production.name q.0)
    by q false h = elsewhere (symbol_eq r.production.name q.0) (is_of q.0 (rule_numbered q.1 rules))

    by_print : (q : ℕ × ℕ) (b : Bool) → (number == q.1) ≡ b
        → cond ((fingerprint r.production == q.0) && b) false (is_print q.0 (rule_numbered q.1 rules)) ≡ is_print q.0 (cond b None (rule_numbered q.1 rules))
    by_print q true h =
        ap (λ o. cond ((fingerprint r.production == q.0) && true) false (is_print q.0 o)) (sym (ap (λ n. rule_numbered n rules) (nat_is number q.1 h)) ∙ there) ∙ here (fingerprint r.production == q.0)
    by_print q false h = elsewhere (fingerprint r.production == q.0) (is_print q.0 (rule_numbered q.1 rules))
