-- The rules after a wave: those that were there without what is spent, and those that joined.
use Rattle.std.proofs.Common.{◌≡◌, ◌∙◌, ℕ, ◌≤◌, ◌<◌, ◌==◌, ◌&&◌, ◌||◌, Bool, true, false, not, cond, List, [], ◌∷◌, ◌++◌, map, filter, append-nil, inl, inr, refl, sym, ap, subst, arith}
use Rattle.std.specs.List.{list_any}
use Rattle.defs_match.specs.Rules.{RuleOf, rule_seen}
use Rattle.defs_soar.specs.Agents.{LiveFiring, Program}
use Rattle.defs_soar.specs.Laws.{IsIn}
use Rattle.defs_soar.specs.Pending.{pending_in}
use Rattle.defs_soar.specs.Waves.{is_spent, without_spent}
use Rattle.live_firings.specs.Living.{live_seen}
use Rattle.pending_work.specs.declared.work.Work.{Work}
use Rattle.program_laws.specs.Taught.{AreNext}
use Rattle.settling_laws.proofs.MemberLemmas.{filter_within}
use Rattle.wave_parts.specs.Carrying.{IsPendingIn}
use Rattle.wave_parts.specs.Programs.{is_justified, numbers_where, program_of}
use Rattle.wave_parts.specs.Seen.{AreLiveGiven, IsSound}
use Rattle.wave_parts.specs.Teaching.{AreRetaught, without_numbers}
use Rattle.wave_parts.specs.Working.{HaveJoined}
use Rattle.wave_parts.specs.declared.parts.Parts.{Parts as PartsKept}
use Rattle.wave_parts.proofs.TeachingLemmas.{filter_alike, numbers_left, without_where}
use Rattle.wave_parts.proofs.WorkedSoundLemmas.{next_above}

-- ---- what is retracted was live

pending_live : (proposing : Bool) (a : PartsKept) (l : LiveFiring) → IsIn l (pending_in proposing (map rule_seen a.rules) a.memory.elements a.goals (map live_seen a.live.list)).retracted → IsIn l (map live_seen a.live.list)
unfolding pending_in
pending_live proposing a l is = filter_within _ (map live_seen a.live.list) l (filter_within _ _ l is)

pub retracted_given : (old : PartsKept) (work : Work) → IsSound old → IsPendingIn old work → AreLiveGiven old.last_rule (map live_seen work.retracted)
retracted_given old work sound pending l is =
    sound.live_given l (pending_live pending.0 old l (subst (IsIn l) pending.1.retracted_are is))

-- ---- what joined is not spent

lesser_number : (n m : ℕ) → n < m → (n == m) ≡ false
lesser_number n m h = grind arith

none_of_rule : (last number : ℕ) (gone : List LiveFiring) → AreLiveGiven last gone → last < number → list_any (λ l. l.instance.rule == number) gone ≡ false
none_of_rule last number [] given above = refl
none_of_rule last number (l ∷ gone) given above =
    let low : l.instance.rule ≤ last = given l (inl refl) in
    ap (λ b. b || list_any (λ (k : LiveFiring). k.instance.rule == number) gone) (lesser_number l.instance.rule number (omega (arith, low, above)))
    ∙ none_of_rule last number gone (λ k is. given k (inr is)) above

and_none : (b c : Bool) → c ≡ false → (b && c) ≡ false
and_none true c h = h
and_none false c h = refl

not_spent : (old : PartsKept) (gone : List LiveFiring) (taught : List RuleOf) (last : ℕ) → AreLiveGiven old.last_rule gone → AreNext old.last_rule taught last
    → (rule : RuleOf) → IsIn rule taught → is_spent gone rule ≡ false
not_spent old gone taught last given next rule is =
    and_none (is_justified rule) (list_any (λ (l : LiveFiring). l.instance.rule == rule.number) gone)
    (none_of_rule old.last_rule rule.number gone given (next_above old.last_rule taught last rule next is))

-- ---- lists

filter_both : (p : RuleOf → Bool) (xs ys : List RuleOf) → filter p (xs ++ ys) ≡ filter p xs ++ filter p ys
filter_both p [] ys = refl
filter_both p (x ∷ xs) ys = by (p x) (filter_both p xs ys)
  where
    by : (b : Bool) → filter p (xs ++ ys) ≡ filter p xs ++ filter p ys → cond b (x ∷ filter p (xs ++ ys)) (filter p (xs ++ ys)) ≡ cond b (x ∷ filter p xs) (filter p xs) ++ filter p ys
    by true later = ap (λ l. x ∷ l) later
    by false later = later

all_kept : (xs : List RuleOf) → filter (λ _. true) xs ≡ xs
all_kept [] = refl
all_kept (x ∷ xs) = ap (λ l. x ∷ l) (all_kept xs)

none_kept : (xs : List RuleOf) → filter (λ _. false) xs ≡ []
none_kept [] = refl
none_kept (x ∷ xs) = none_kept xs

-- ---- the rules

module _ (old worked : PartsKept) (gone : List LiveFiring) (sound : IsSound old) (joined : HaveJoined old worked) (given : AreLiveGiven old.last_rule gone) where
  abbrev rules : List RuleOf
  rules = map rule_seen old.rules

  taught_stay : filter (λ rule. not (is_spent gone rule)) joined.taught ≡ joined.taught
  taught_stay =
      filter_alike (λ rule. not (is_spent gone rule)) (λ _. true) joined.taught
      (λ rule is. ap not (not_spent old gone joined.taught worked.last_rule given joined.numbers rule is))
      ∙ all_kept joined.taught

  none_spent : filter (is_spent gone) joined.taught ≡ []
  none_spent =
      filter_alike (is_spent gone) (λ _. false) joined.taught (not_spent old gone joined.taught worked.last_rule given joined.numbers) ∙ none_kept joined.taught

  -- what is spent was there before the wave
  spent_before : (numbers : List ℕ) → numbers ≡ numbers_where (is_spent gone) (map rule_seen worked.rules) → numbers ≡ numbers_where (is_spent gone) rules
  spent_before numbers is =
      is ∙ ap (λ rs. map (λ (rule : RuleOf). rule.number) (filter (is_spent gone) rs)) joined.rules_are
      ∙ ap (map (λ (rule : RuleOf). rule.number))
      (filter_both (is_spent gone) rules joined.taught ∙ ap (λ l. filter (is_spent gone) rules ++ l) none_spent ∙ append-nil (filter (is_spent gone) rules))

  pub retaught : (dropped new : PartsKept) (numbers : List ℕ) → numbers ≡ numbers_where (is_spent gone) (map rule_seen worked.rules)
      → program_of dropped ≡ without_spent gone (program_of worked) → new.rules ≡ dropped.rules → new.last_rule ≡ dropped.last_rule → AreRetaught old new numbers
  retaught dropped new numbers is program same last =
      let here : numbers ≡ numbers_where (is_spent gone) rules = spent_before numbers is in
      record {
        spent_are = numbers_left (is_spent gone) rules numbers sound.numbered here;
        taught = joined.taught;
        rules_are =
            ap (map rule_seen) same ∙ ap (λ (p : Program). p.rules) program
            ∙ ap (filter (λ rule. not (is_spent gone rule))) joined.rules_are
            ∙ filter_both (λ rule. not (is_spent gone rule)) rules joined.taught
            ∙ (λ k. (sym (without_where (is_spent gone) rules sound.numbered) ∙ ap (λ ns. without_numbers ns rules) (sym here)) k ++ taught_stay k);
        numbers = subst (λ n. AreNext old.last_rule joined.taught n) (sym (last ∙ ap (λ (p : Program). p.last_rule) program)) joined.numbers;
        matchable = joined.matchable;
      }
