-- A matcher lets go of the rules that went, by number, and takes in those that came.
use Rattle.std.proofs.Common.{◌≡◌, ℕ, suc, ◌<◌, ◌≤◌, Bool, true, false, not, ◌||◌, cond, nat_lt, List, [], ◌∷◌, ◌++◌, map, filter, inl, inr, refl, sym, ap, subst, ◌∙◌, arith, append_assoc, append-nil}
use Rattle.std.specs.List.{list_any}
use Rattle.soar_rule.specs.AsItStands.{can_be_matched}
use Rattle.defs_match.specs.Contents.{is_numbered, with_rule, without_rule}
use Rattle.defs_match.specs.Rules.{RuleOf, rule_seen}
use Rattle.defs_soar.specs.Laws.{IsIn}
use Rattle.matching_laws.proofs.TagLemmas.{below_apart, itself}
use Rattle.pending_work.specs.Firables.{AreNumbered, IsBelowRules}
use Rattle.decision_parts.specs.Taught.{AreNext}
use Rattle.decision_parts.specs.Seen.{AreUpTo, IsSound}
use Rattle.decision_parts.specs.Teaching.{AreRetaught, is_numbered_among, numbers_among, without_numbers}
use Rattle.decision_parts.specs.Parts.{Parts as PartsKept}
use Rattle.cycle_parts.specs.Retelling.{AreEachNew, AreHeld, AreNewAbove, with_above, with_each_above, with_each_rule, without_each_rule}
use Rattle.cycle_parts.proofs.NumberLemmas.{none_numbered, or_true, with_last_rule, without_none}
use Rattle.cycle_parts.proofs.RuleLemmas.{up_to_filter, up_to_last}

-- ---- rules that go

other_stays : (rule : RuleOf) (rules : List RuleOf) (number : ℕ) → rule.number < number → without_rule (rule ∷ rules) number ≡ rule ∷ without_rule rules number
other_stays rule rules number less =
    ap (λ b. cond (not b) (rule ∷ without_rule rules number) (without_rule rules number)) (below_apart rule.number number less)

first_goes : (rule : RuleOf) (rules : List RuleOf) → IsBelowRules rule.number rules → without_rule (rule ∷ rules) rule.number ≡ rules
first_goes rule rules below =
    ap (λ b. cond (not b) (rule ∷ without_rule rules rule.number) (without_rule rules rule.number)) (itself rule.number) ∙ without_none rule.number rules below

abbrev AreAbove : ℕ → List ℕ → Type 0
AreAbove number [] = Unit {0}
AreAbove number (n ∷ numbers) = (number < n) × AreAbove number numbers

-- behind a rule with a lower number all goes as without it
held_behind : (rule : RuleOf) (numbers : List ℕ) (rules : List RuleOf) → AreAbove rule.number numbers → AreHeld rules numbers → AreHeld (rule ∷ rules) numbers
held_behind rule [] rules above held = tt
held_behind rule (n ∷ numbers) rules above held = (
  ap (λ b. is_numbered n rule || b) held.0 ∙ or_true (is_numbered n rule),
  subst (λ left. AreHeld left numbers) (sym (other_stays rule rules n above.0)) (held_behind rule numbers (without_rule rules n) above.1 held.1),
)

left_behind : (rule : RuleOf) (numbers : List ℕ) (rules : List RuleOf) → AreAbove rule.number numbers → without_each_rule (rule ∷ rules) numbers ≡ rule ∷ without_each_rule rules numbers
left_behind rule [] rules above = refl
left_behind rule (n ∷ numbers) rules above =
    ap (λ left. without_each_rule left numbers) (other_stays rule rules n above.0) ∙ left_behind rule numbers (without_rule rules n) above.1

abbrev numbers_by : (RuleOf → Bool) → List RuleOf → List ℕ
numbers_by p rules = map (λ (rule : RuleOf). rule.number) (filter p rules)

above_all : (p : RuleOf → Bool) (number : ℕ) (rules : List RuleOf) → IsBelowRules number rules → AreAbove number (numbers_by p rules)
above_all p number [] below = tt
above_all p number (rule ∷ rules) below = by (p rule) (above_all p number rules below.1)
  where
    by : (b : Bool) → AreAbove number (numbers_by p rules) → AreAbove number (map (λ (r : RuleOf). r.number) (cond b (rule ∷ filter p rules) (filter p rules)))
    by true later = (below.0, later)
    by false later = later

held_by : (p : RuleOf → Bool) (rules : List RuleOf) → AreNumbered rules → AreHeld rules (numbers_by p rules)
held_by p [] numbered = tt
held_by p (rule ∷ rules) numbered = by (p rule) (held_by p rules numbered.1)
  where
    by : (b : Bool) → AreHeld rules (numbers_by p rules) → AreHeld (rule ∷ rules) (map (λ (r : RuleOf). r.number) (cond b (rule ∷ filter p rules) (filter p rules)))
    by true later = (
      ap (λ b. b || list_any (is_numbered rule.number) rules) (itself rule.number),
      subst (λ left. AreHeld left (numbers_by p rules)) (sym (first_goes rule rules numbered.0)) later,
    )
    by false later = held_behind rule (numbers_by p rules) rules (above_all p rule.number rules numbered.0) later

left_by : (p : RuleOf → Bool) (rules : List RuleOf) → AreNumbered rules → without_each_rule rules (numbers_by p rules) ≡ filter (λ rule. not (p rule)) rules
left_by p [] numbered = refl
left_by p (rule ∷ rules) numbered = by (p rule) (left_by p rules numbered.1)
  where
    by : (b : Bool) → without_each_rule rules (numbers_by p rules) ≡ filter (λ r. not (p r)) rules
        → without_each_rule (rule ∷ rules) (map (λ (r : RuleOf). r.number) (cond b (rule ∷ filter p rules) (filter p rules)))
        ≡ cond (not b) (rule ∷ filter (λ r. not (p r)) rules) (filter (λ r. not (p r)) rules)
    by true later = ap (λ left. without_each_rule left (numbers_by p rules)) (first_goes rule rules numbered.0) ∙ later
    by false later = left_behind rule (numbers_by p rules) rules (above_all p rule.number rules numbered.0) ∙ ap (λ left. rule ∷ left) later

-- the numbers of rules that are there
pub spent_are_held : (spent : List ℕ) (rules : List RuleOf) → AreNumbered rules → spent ≡ numbers_among spent rules → AreHeld rules spent
spent_are_held spent rules numbered are = subst (AreHeld rules) (sym are) (held_by (is_numbered_among spent) rules numbered)

pub spent_are_gone : (spent : List ℕ) (rules : List RuleOf) → AreNumbered rules → spent ≡ numbers_among spent rules → without_each_rule rules spent ≡ without_numbers spent rules
spent_are_gone spent rules numbered are = ap (without_each_rule rules) are ∙ left_by (is_numbered_among spent) rules numbered

-- ---- rules that come

not_above : (last : ℕ) (held : List RuleOf) (rule : RuleOf) → rule.number ≤ last → with_above last held rule ≡ held
not_above last held rule few = let low : nat_lt last rule.number ≡ false = grind arith in ap (λ b. cond b (with_rule held rule) held) low

is_above : (last : ℕ) (held : List RuleOf) (rule : RuleOf) → last < rule.number → with_above last held rule ≡ with_rule held rule
is_above last held rule less = let high : nat_lt last rule.number ≡ true = grind arith in ap (λ b. cond b (with_rule held rule) held) high

-- those above the last, and no others
pub later_whole : (last : ℕ) (held rules : List RuleOf) → with_each_rule held (filter (λ rule. nat_lt last rule.number) rules) ≡ with_each_above last held rules
later_whole last held [] = refl
later_whole last held (rule ∷ rules) = by (nat_lt last rule.number) (later_whole last (with_rule held rule) rules) (later_whole last held rules)
  where
    later : List RuleOf
    later = filter (λ r. nat_lt last r.number) rules

    by : (b : Bool) → with_each_rule (with_rule held rule) later ≡ with_each_above last (with_rule held rule) rules → with_each_rule held later ≡ with_each_above last held rules
        → with_each_rule held (cond b (rule ∷ later) later) ≡ with_each_above last (cond b (with_rule held rule) held) rules
    by true taken passed = taken
    by false taken passed = passed

pub later_new : (last : ℕ) (held rules : List RuleOf) → AreNewAbove last held rules → AreEachNew held (filter (λ rule. nat_lt last rule.number) rules)
later_new last held [] new = tt
later_new last held (rule ∷ rules) new = by (nat_lt last rule.number) refl (λ h. later_new last h rules) new.1
  where
    later : List RuleOf
    later = filter (λ r. nat_lt last r.number) rules

    by : (b : Bool) → nat_lt last rule.number ≡ b → ((h : List RuleOf) → AreNewAbove last h rules → AreEachNew h later) → AreNewAbove last (cond b (with_rule held rule) held) rules
        → AreEachNew held (cond b (rule ∷ later) later)
    by true is behind rest = (new.0 (grind arith), behind (with_rule held rule) rest)
    by false is behind rest = behind held rest

-- those up to the last are passed over
front_whole : (last : ℕ) (held kept more : List RuleOf) → AreUpTo last kept → with_each_above last held (kept ++ more) ≡ with_each_above last held more
front_whole last held [] more few = refl
front_whole last held (rule ∷ kept) more few =
    ap (λ h. with_each_above last h (kept ++ more)) (not_above last held rule few.0) ∙ front_whole last held kept more few.1

front_new : (last : ℕ) (held kept more : List RuleOf) → AreUpTo last kept → AreNewAbove last held more → AreNewAbove last held (kept ++ more)
front_new last held [] more few new = new
front_new last held (rule ∷ kept) more few new = (
  λ less. absurd (omega (arith, few.0, less)),
  subst (λ h. AreNewAbove last h (kept ++ more)) (sym (not_above last held rule few.0)) (front_new last held kept more few.1 new),
)

-- the next rule joins behind the others
joins : (last n : ℕ) (held : List RuleOf) (rule : RuleOf) → last ≤ n → AreUpTo n held → rule.number ≡ suc n → with_above last held rule ≡ held ++ rule ∷ []
joins last n held rule few given next = is_above last held rule (omega (arith, next, few)) ∙ with_last_rule n held rule given (omega (arith, next))

given_next : (n : ℕ) (held : List RuleOf) (rule : RuleOf) → AreUpTo n held → rule.number ≡ suc n → AreUpTo (suc n) (held ++ rule ∷ [])
given_next n held rule given next = subst (λ m. AreUpTo m (held ++ rule ∷ [])) next (up_to_last n held rule given (omega (arith, next)))

more_whole : (last n end : ℕ) (held taught : List RuleOf) → last ≤ n → AreUpTo n held → AreNext n taught end → with_each_above last held taught ≡ held ++ taught
more_whole last n end held [] few given next = sym (append-nil held)
more_whole last n end held (rule ∷ taught) few given next =
    ap (λ h. with_each_above last h taught) (joins last n held rule few given next.0)
    ∙ more_whole last (suc n) end (held ++ rule ∷ []) taught (omega (arith, few)) (given_next n held rule given next.0) next.1
    ∙ append_assoc held (rule ∷ []) taught

more_new : (last n end : ℕ) (held taught : List RuleOf) → last ≤ n → AreUpTo n held → AreNext n taught end → ((rule : RuleOf) → IsIn rule taught → can_be_matched rule.production ≡ true) → AreNewAbove last held taught
more_new last n end held [] few given next matchable = tt
more_new last n end held (rule ∷ taught) few given next matchable = (
  λ less. record { new_number = none_numbered n rule.number held given (omega (arith, next.0)); matchable = matchable rule (inl refl) },
  subst (λ h. AreNewAbove last h taught) (sym (joins last n held rule few given next.0))
      (more_new last (suc n) end (held ++ rule ∷ []) taught (omega (arith, few)) (given_next n held rule given next.0) next.1 (λ r is. matchable r (inr is))),
)

-- ---- a wave

kept_given : (a : PartsKept) (spent : List ℕ) → IsSound a → AreUpTo a.last_rule (without_numbers spent (map rule_seen a.rules))
kept_given a spent sound = up_to_filter (λ rule. not (is_numbered_among spent rule)) a.last_rule (map rule_seen a.rules) sound.numbers_given

-- once the spent ones went
pub taught_are_new : (old new : PartsKept) (spent : List ℕ) (held : List RuleOf) → IsSound old → AreRetaught old new spent → held ≡ without_each_rule (map rule_seen old.rules) spent
    → AreNewAbove old.last_rule held (map rule_seen new.rules)
taught_are_new old new spent held sound taught is =
    let kept = without_numbers spent (map rule_seen old.rules) in
    let left : held ≡ kept = is ∙ spent_are_gone spent (map rule_seen old.rules) sound.numbered taught.spent_are in
    let given = kept_given old spent sound in
    subst (λ h. AreNewAbove old.last_rule h (map rule_seen new.rules)) (sym left)
    (subst (AreNewAbove old.last_rule kept) (sym taught.rules_are)
    (front_new old.last_rule kept kept taught.taught given
    (more_new old.last_rule old.last_rule new.last_rule kept taught.taught (omega arith) given taught.numbers taught.matchable)))

pub all_are_told : (old new : PartsKept) (spent : List ℕ) (held : List RuleOf) → IsSound old → AreRetaught old new spent → held ≡ without_each_rule (map rule_seen old.rules) spent
    → with_each_above old.last_rule held (map rule_seen new.rules) ≡ map rule_seen new.rules
all_are_told old new spent held sound taught is =
    let kept = without_numbers spent (map rule_seen old.rules) in
    let left : held ≡ kept = is ∙ spent_are_gone spent (map rule_seen old.rules) sound.numbered taught.spent_are in
    let given = kept_given old spent sound in
    ap (λ h. with_each_above old.last_rule h (map rule_seen new.rules)) left
    ∙ ap (with_each_above old.last_rule kept) taught.rules_are
    ∙ front_whole old.last_rule kept kept taught.taught given
    ∙ more_whole old.last_rule old.last_rule new.last_rule kept taught.taught (omega arith) given taught.numbers
    ∙ sym taught.rules_are
