-- What a candidate tells of the outcome is the outcome.
use Rattle.std.proofs.Common.{◌≡◌, refl, ◌∙◌, sym, ap, ℕ, nat_lt, Bool, true, false, cond, List, [], ◌∷◌, Option, Some, None, unwrap_or}
use Rattle.std.proofs.lemmas.List.{length-map}
use Rattle.soar_sym.specs.Words.{Texts}
use Rattle.soar_sym.specs.declared.symbol.Sym.{Sym}
use Rattle.soar_rule.specs.Canonical.{canonical}
use Rattle.soar_rule.specs.Equality.{same_body}
use Rattle.soar_rule.specs.Productions.{ProductionOf}
use Rattle.soar_rule.specs.Sizes.{size_of_all}
use Rattle.soar_wm.specs.declared.element.Element.{Element}
use Rattle.defs_match.specs.Rules.{RuleOf}
use Rattle.defs_text.specs.Numbered.{word_in}
use Rattle.defs_soar.specs.declared.learning.Candidate.{Candidate}
use Rattle.defs_soar.specs.declared.learning.Cause.{Cause}
use Rattle.defs_soar.specs.declared.learning.Cause.TheVariants as cause
use Rattle.defs_soar.specs.declared.learning.Learning.{Learning}
use Rattle.defs_soar.specs.Candidate.{Form, general_form, literal_form, named_form}
use Rattle.defs_soar.specs.CandidateOf.{CandidateOf, LearnedOf, candidate_seen, learned_by, first_cause}
use Rattle.defs_soar.specs.ChainIdentifiers.{firings_of}
use Rattle.defs_soar.specs.History.{ChainOf}
use Rattle.defs_soar.specs.Negations.{negations_taken_over}
use Rattle.defs_soar.specs.Outcome.{groundless, justified, chunked, has_grounds, rule_like, too_large, whether_off, as_cause, unless_reused, unless_justified, unless_blocked, unless_lost, outcome_of}
use Rattle.defs_soar.specs.Stale.{Blocking, blocked_from, tag_lost}
use Rattle.defs_soar.specs.Ungrounded.{or_else, ungrounded}
use Rattle.chunk_learn.specs.Candidates.{IsCandidate, IsOfDepth, candidate_now, depth_of_last}
use Rattle.chunk_learn.specs.Told.{too_large_in, cause_of_use, local_cause, cause_told, like_form, learned_from, unless_justified_told, unless_blocked_told, unless_lost_told, outcome_told}

-- ---- rules

pub like_is : (p : ProductionOf) (rules : List RuleOf) → rule_like p rules ≡ like_form (canonical p) rules
like_is p [] = refl
like_is p (rule ∷ rules) = ap (cond (same_body (canonical p) (canonical rule.production)) (Some rule.production.name)) (like_is p rules)

-- the names of variables do not count
named_same : (words : Texts) (form : Form) → canonical (named_form words form) ≡ canonical form.production
unfolding canonical
named_same words form = refl

named_like : (words : Texts) (form : Form) (rules : List RuleOf) → rule_like (named_form words form) rules ≡ rule_like form.production rules
named_like words form rules = like_is (named_form words form) rules ∙ (ap (λ q. like_form q rules) (named_same words form) ∙ sym (like_is form.production rules))

-- ---- sizes

named_size : (words : Texts) (form : Form) → too_large_in (named_form words form) ≡ too_large form
named_size words form =
    ap (λ n. cond (nat_lt 1000 (size_of_all form.production.conditions)) (Some (size_of_all form.production.conditions)) (cond (nat_lt 2000 n) (Some n) None))
    (length-map form.names (word_in words))

-- ---- the cases, from the last

module _ (words : Texts) (c : ChainOf) (depth : ℕ) (rules : List RuleOf) (s : Learning) (why : Option Cause) where
  abbrev general_of : Option Sym → Option ProductionOf
  general_of u = elim u [ None ↦ Some (named_form words (general_form words c depth)) | Some symbol ↦ None ]

  -- the candidate, by the identifier without a variable
  abbrev candidate_by : Option Sym → CandidateOf
  candidate_by u = record { general = general_of u; literal = Some (named_form words (literal_form words c depth)); cause = why; ungrounded = u }

  abbrev cause_by : Option Cause → Option Cause
  cause_by late = or_else (whether_off s) (or_else (local_cause c depth s) (or_else (cause_of_use c) late))

  -- the same is learned, where this is the cause
  abbrev IsLearned : Option Sym → Option Cause → Type 0
  IsLearned u w =
      learned_from (candidate_by u) (unless_justified_told (candidate_by u) rules s w) ≡ Some (learned_by words c depth (unless_justified words c depth rules s w))

  at_most : (b : Bool) → learned_from (candidate_by None) (cond b chunked (justified (cause.TooMany 50))) ≡ Some (learned_by words c depth (cond b chunked (justified (cause.TooMany 50))))
  at_most true = refl
  at_most false = refl

  reuse : (r : Option Sym) → learned_from (candidate_by None) (unless_reused s r) ≡ Some (learned_by words c depth (unless_reused s r))
  reuse (Some name) = refl
  reuse None = at_most (nat_lt s.learned 50)

  grounded : (w : Option Cause) → IsLearned None w
  grounded (Some w) = refl
  grounded None =
      ap (λ r. learned_from (candidate_by None) (unless_reused s r)) (named_like words (general_form words c depth) rules)
      ∙ reuse (rule_like (general_form words c depth).production rules)

  -- a cause comes in the end
  caused : (symbol : Sym) (late : Cause) (off near uses : Option Cause) → IsLearned (Some symbol) (or_else off (or_else near (or_else uses (Some late))))
  caused symbol late (Some w) near uses = refl
  caused symbol late None (Some w) uses = refl
  caused symbol late None None (Some w) = refl
  caused symbol late None None None = refl

  abbrev cause_for : Option Sym → Option Cause
  cause_for u = cause_by (or_else (as_cause cause.Ungrounded u) (as_cause cause.TooLarge (too_large (general_form words c depth))))

  by_ungrounded : (u : Option Sym)
      → learned_from (candidate_by u) (unless_justified_told (candidate_by u) rules s (cause_told (candidate_by u) c depth s))
      ≡ Some (learned_by words c depth (unless_justified words c depth rules s (cause_for u)))
  by_ungrounded (Some symbol) = caused symbol (cause.Ungrounded symbol) (whether_off s) (local_cause c depth s) (cause_of_use c)
  by_ungrounded None =
      ap (λ n. learned_from (candidate_by None) (unless_justified_told (candidate_by None) rules s (cause_by (as_cause cause.TooLarge n)))) (named_size words (general_form words c depth))
      ∙ grounded (cause_for None)

  -- the candidate, by whether there are grounds
  abbrev candidate_if : Bool → Option Sym → CandidateOf
  candidate_if g u = record { general = cond g (general_of u) None; literal = cond g (Some (named_form words (literal_form words c depth))) None; cause = why; ungrounded = u }

  by_grounds : (g : Bool) (u : Option Sym)
      → learned_from (candidate_if g u) (cond g (unless_justified_told (candidate_if g u) rules s (cause_told (candidate_if g u) c depth s)) groundless)
      ≡ Some (learned_by words c depth (cond g (unless_justified words c depth rules s (cause_for u)) groundless))
  by_grounds true u = by_ungrounded u
  by_grounds false u = refl

by_blocking : (words : Texts) (c : ChainOf) (depth : ℕ) (rules : List RuleOf) (s : Learning) (o : Option Blocking)
    → learned_from (candidate_now words c depth) (unless_blocked_told (candidate_now words c depth) c depth rules s o)
    ≡ Some (learned_by words c depth (unless_blocked words c depth rules s o))
by_blocking words c depth rules s (Some b) = refl
by_blocking words c depth rules s None = by_grounds words c depth rules s (first_cause words c depth) (has_grounds c) (ungrounded words c depth)

by_tag : (words : Texts) (c : ChainOf) (depth : ℕ) (rules : List RuleOf) (elements : List Element) (s : Learning) (o : Option ℕ)
    → learned_from (candidate_now words c depth) (unless_lost_told (candidate_now words c depth) c depth rules elements s o)
    ≡ Some (learned_by words c depth (unless_lost words c depth rules elements s o))
by_tag words c depth rules elements s (Some tag) = refl
by_tag words c depth rules elements s None = by_blocking words c depth rules s (blocked_from 1 elements (negations_taken_over c depth))

told_is : (words : Texts) (c : ChainOf) (depth : ℕ) (rules : List RuleOf) (elements : List Element) (s : Learning)
    → learned_from (candidate_now words c depth) (outcome_told (candidate_now words c depth) c depth rules elements s)
    ≡ Some (learned_by words c depth (outcome_of words c depth rules elements s))
unfolding outcome_of
told_is words c depth rules elements s = by_tag words c depth rules elements s (tag_lost elements c.grounds)

-- ---- as the code has it

same_inside : (x y : LearnedOf) → Some x ≡ Some y → x ≡ y
same_inside x y h = ap (λ o. unwrap_or o x) h

pub is_learned : (words : Texts) (c : ChainOf) (depth : ℕ) (found : Candidate) (rules : List RuleOf) (elements : List Element) (s : Learning) (l : LearnedOf) (d : ChainOf) (n : ℕ)
    → IsOfDepth c depth → IsCandidate words c depth found → d ≡ c → n ≡ depth_of_last 0 (firings_of c)
    → learned_from (candidate_seen found) (outcome_told (candidate_seen found) d n rules elements s) ≡ Some l
    → l ≡ learned_by words c depth (outcome_of words c depth rules elements s)
is_learned words c depth found rules elements s l d n deep is same depth_is told =
    let n_is : n ≡ depth = depth_is ∙ deep.last in
    same_inside l (learned_by words c depth (outcome_of words c depth rules elements s))
    (sym told
    ∙ ((λ i. learned_from (is.candidate i) (outcome_told (is.candidate i) (same i) (n_is i) rules elements s))
    ∙ told_is words c depth rules elements s))
