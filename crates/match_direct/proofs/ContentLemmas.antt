-- Putting in and taking out at a place is what the definitions say of a list.
use Rattle.std.proofs.Common.{◌≡◌, refl, ◌∙◌, ap, Bool, true, false, cond, not, ◌==◌, nat_lt, ℕ, suc, ◌+◌, ◌≤◌, length, List, [], ◌∷◌, map, filter, insert, remove, arith}
use Rattle.soar_wm.specs.declared.element.Element.{Element}
use Rattle.soar_wm.specs.WorkingMemory.{has_tag, without_tag}
use Rattle.defs_match.specs.Contents.{with_element, with_rule, without_rule}
use Rattle.defs_match.specs.declared.rule.Rule.{Rule}
use Rattle.defs_match.specs.Rules.{rule_seen}
use Rattle.match_direct.specs.Contents.{place_for_tag, place_of_tag, place_for_number}

one_more : (n : ℕ) → 1 + n ≡ suc n
one_more n = omega arith

insert_later : {A : Type 0} (x y : A) (xs : List A) (n : ℕ) → insert (y ∷ xs) (1 + n) x ≡ y ∷ insert xs n x
insert_later x y xs n = ap (λ m. insert (y ∷ xs) m x) (one_more n)

pub inserted_element : (es : List Element) (e : Element) → insert es (place_for_tag e.tag es) e ≡ with_element es e
inserted_element [] e = refl
inserted_element (f ∷ es) e = by (nat_lt e.tag f.tag) (inserted_element es e)
  where
    by : (b : Bool) → insert es (place_for_tag e.tag es) e ≡ with_element es e
        → insert (f ∷ es) (cond (not b) (1 + place_for_tag e.tag es) 0) e ≡ cond b (e ∷ f ∷ es) (f ∷ with_element es e)
    by true later = refl
    by false later = insert_later e f es (place_for_tag e.tag es) ∙ ap (λ l. f ∷ l) later

remove_later : {A : Type 0} (y : A) (xs : List A) (n : ℕ) → remove (y ∷ xs) (1 + n) ≡ y ∷ remove xs n
remove_later y xs n = ap (remove (y ∷ xs)) (one_more n)

pub removed_element : (es : List Element) (tag : ℕ) → remove es (place_of_tag tag es) ≡ without_tag tag es
removed_element [] tag = refl
removed_element (f ∷ es) tag = by (has_tag tag f) (removed_element es tag)
  where
    by : (b : Bool) → remove es (place_of_tag tag es) ≡ without_tag tag es
        → remove (f ∷ es) (cond (not b) (1 + place_of_tag tag es) 0) ≡ cond b es (f ∷ without_tag tag es)
    by true later = refl
    by false later = remove_later f es (place_of_tag tag es) ∙ ap (λ l. f ∷ l) later

-- where the tag is not there, its place is the end
pub kept_elements : (es : List Element) (tag : ℕ) → length es ≤ place_of_tag tag es → es ≡ without_tag tag es
kept_elements [] tag h = refl
kept_elements (f ∷ es) tag h = by (has_tag tag f) (kept_elements es tag) h
  where
    by : (b : Bool) → (length es ≤ place_of_tag tag es → es ≡ without_tag tag es)
        → suc (length es) ≤ cond (not b) (1 + place_of_tag tag es) 0 → f ∷ es ≡ cond b es (f ∷ without_tag tag es)
    by true later h = absurd (omega (arith, h))
    by false later h = ap (λ l. f ∷ l) (later (omega (arith, h)))

pub inserted_rule : (rs : List Rule) (r : Rule) → map rule_seen (insert rs (place_for_number r.number rs) r) ≡ with_rule (map rule_seen rs) (rule_seen r)
inserted_rule [] r = refl
inserted_rule (q ∷ rs) r = by (nat_lt r.number q.number) (inserted_rule rs r)
  where
    by : (b : Bool) → map rule_seen (insert rs (place_for_number r.number rs) r) ≡ with_rule (map rule_seen rs) (rule_seen r)
        → map rule_seen (insert (q ∷ rs) (cond (not b) (1 + place_for_number r.number rs) 0) r)
        ≡ cond b (rule_seen r ∷ rule_seen q ∷ map rule_seen rs) (rule_seen q ∷ with_rule (map rule_seen rs) (rule_seen r))
    by true later = refl
    by false later = ap (map rule_seen) (insert_later r q rs (place_for_number r.number rs)) ∙ ap (λ l. rule_seen q ∷ l) later

pub rules_without : (rs : List Rule) (number : ℕ) → map rule_seen (filter (λ (r : Rule). not (r.number == number)) rs) ≡ without_rule (map rule_seen rs) number
rules_without [] number = refl
rules_without (q ∷ rs) number = by (not (q.number == number)) (rules_without rs number)
  where
    by : (b : Bool) → map rule_seen (filter (λ (r : Rule). not (r.number == number)) rs) ≡ without_rule (map rule_seen rs) number
        → map rule_seen (cond b (q ∷ filter (λ (r : Rule). not (r.number == number)) rs) (filter (λ (r : Rule). not (r.number == number)) rs))
        ≡ cond b (rule_seen q ∷ without_rule (map rule_seen rs) number) (without_rule (map rule_seen rs) number)
    by true later = ap (λ l. rule_seen q ∷ l) later
    by false later = later
