-- Rules of another fingerprint have another body.
use Rattle.std.proofs.Common.{◌≡◌, refl, sym, ◌∙◌, ap, ap₂, ℕ, ◌<◌, ◌==◌, Bool, true, false, cond, List, [], ◌∷◌, map, filter, Option, Some, None, arith}
use Rattle.soar_sym.specs.declared.symbol.Sym.{Sym}
use Rattle.soar_rule.specs.Canonical.{canonical}
use Rattle.soar_rule.specs.Equality.{same_body}
use Rattle.soar_rule.specs.Productions.{ProductionOf}
use Rattle.body_marks.specs.Fingerprint.{fingerprint}
use Rattle.body_marks.proofs.AlikeLaws.{same_fingerprint}
use Rattle.defs_match.specs.Contents.{rule_numbered}
use Rattle.defs_match.specs.Rules.{RuleOf}
use Rattle.defs_soar.specs.Outcome.{rule_like}
use Rattle.defs_soar.specs.Ungrounded.{or_else}
use Rattle.rule_shelf.specs.Shelf.{alike_numbers, IsRising}
use Rattle.rule_shelf.proofs.PrintLemmas.{alike_above, KeysAbove}
use Rattle.chunk_learn.specs.Alike.{like_numbered, like_rule}
use Rattle.chunk_learn.specs.Told.{like_form}
use Rattle.chunk_learn.proofs.ToldLemmas.{like_is}

-- numbers above that of the first rule are looked for behind it
behind_first : (form : ProductionOf) (e : RuleOf) (rules : List RuleOf) (ns : List ℕ) → KeysAbove e.number ns → like_numbered form (e ∷ rules) ns ≡ like_numbered form rules ns
behind_first form e rules [] above = refl
behind_first form e rules (n ∷ ns) above =
    ap (λ b. or_else (like_rule form (cond b (Some e) (rule_numbered n rules))) (like_numbered form (e ∷ rules) ns)) (apart e.number above.0)
    ∙ ap (or_else (like_rule form (rule_numbered n rules))) (behind_first form e rules ns above.1)
  where
    apart : (m : ℕ) → m < n → (m == n) ≡ false
    apart m less = grind arith

itself : (n : ℕ) → (n == n) ≡ true
itself n = grind arith

-- a rule with the same body has the same fingerprint
other_body : (p q : ProductionOf) → (fingerprint q == fingerprint p) ≡ false → same_body (canonical p) (canonical q) ≡ false
other_body p q other = by (same_body (canonical p) (canonical q)) refl
  where
    equal : (m n : ℕ) → m ≡ n → (n == m) ≡ true
    equal m n h = grind arith

    by : (b : Bool) → same_body (canonical p) (canonical q) ≡ b → b ≡ false
    by true same = (let bad : false ≡ true = sym other ∙ equal (fingerprint p) (fingerprint q) (same_fingerprint p q same) in absurd (cc))
    by false same = refl

like_alike : (p : ProductionOf) (rules : List RuleOf) → IsRising rules → like_numbered (canonical p) rules (alike_numbers (fingerprint p) rules) ≡ like_form (canonical p) rules
like_alike p [] rising = refl
like_alike p (e ∷ rules) rising =
    by (fingerprint e.production == fingerprint p) refl
    (behind_first (canonical p) e rules (alike_numbers (fingerprint p) rules) (alike_above (fingerprint p) e.number rules rising.0) ∙ like_alike p rules rising.1)
  where
    among : List RuleOf
    among = filter (λ (rule : RuleOf). fingerprint rule.production == fingerprint p) rules

    first : (s : Bool) (o : Option Sym) → or_else (cond s (Some e.production.name) None) o ≡ cond s (Some e.production.name) o
    first true o = refl
    first false o = refl

    by : (b : Bool) → (fingerprint e.production == fingerprint p) ≡ b
        → like_numbered (canonical p) (e ∷ rules) (alike_numbers (fingerprint p) rules) ≡ like_form (canonical p) rules
        → like_numbered (canonical p) (e ∷ rules) (map (λ (rule : RuleOf). rule.number) (cond b (e ∷ among) among))
        ≡ cond (same_body (canonical p) (canonical e.production)) (Some e.production.name) (like_form (canonical p) rules)
    by true is later =
        ap (λ b. or_else (like_rule (canonical p) (cond b (Some e) (rule_numbered e.number rules))) (like_numbered (canonical p) (e ∷ rules) (alike_numbers (fingerprint p) rules))) (itself e.number)
        ∙ first (same_body (canonical p) (canonical e.production)) (like_numbered (canonical p) (e ∷ rules) (alike_numbers (fingerprint p) rules))
        ∙ ap (cond (same_body (canonical p) (canonical e.production)) (Some e.production.name)) later
    by false is later = later ∙ sym (ap (λ s. cond s (Some e.production.name) (like_form (canonical p) rules)) (other_body p e.production is))

-- what is found among those of the fingerprint is the first of all
pub found_alike : (p form : ProductionOf) (print : ℕ) (rules : List RuleOf) (name : Option Sym) → form ≡ canonical p → print ≡ fingerprint p → IsRising rules
    → name ≡ like_numbered form rules (alike_numbers print rules) → name ≡ rule_like p rules
found_alike p form print rules name is_form is_print rising found =
    found ∙ ap₂ (λ f n. like_numbered f rules (alike_numbers n rules)) is_form is_print ∙ like_alike p rules rising ∙ sym (like_is p rules)
