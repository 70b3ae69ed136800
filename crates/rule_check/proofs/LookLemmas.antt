-- One condition more of a look through conditions.
use Rattle.std.proofs.Common.{◌≡◌, ℕ, zero, suc, ◌+◌, ◌<◌, Bool, true, false, ◌||◌, List, [], ◌∷◌, length, drop, get_or, refl, sym, ap, ◌∙◌, arith, add-one}
use Rattle.std.proofs.lemmas.Bool.{or_left, or_right}
use Rattle.std.specs.Prelude.{Option, Some, None, if◌then◌else◌}
use Rattle.soar_rule.specs.declared.cond.Cond.{Cond}
use Rattle.soar_rule.specs.Conditions.{Condition, positive, negated, conjunctive, Conditions, condition_and, condition, conditions}
use Rattle.soar_rule.specs.MatchOrder.{or_else, missing_in, is_linked, Readiness, is_ready, lacks, is_unlinked, unless_missing, is_positive, Taken, with_condition, count_of, readiness, one_taken, first_lack}
use Rattle.soar_rule.specs.Checking.{place_left}
use Rattle.soar_rule.specs.Variables.{is_among, bound_by, plain_outside}
use Rattle.soar_rule.proofs.VariableLemmas.{among_joined}
use Rattle.rule_check.specs.declared.level.Left.{Left}
use Rattle.rule_check.specs.Levels.{left_from, nothing_left, with_left, ready_of}
use Rattle.rule_check.specs.Taking.{left_here}
use Rattle.rule_check.proofs.AgreeLemmas.{one_or_rest, lack_or_rest}
use Rattle.rule_check.proofs.ItemLemmas.{drop_item}

-- ---- what is left

or_none : {A : Type 0} (a : Option A) → or_else a None ≡ a
or_none (Some x) = refl
or_none None = refl

or_assoc : {A : Type 0} (a b c : Option A) → or_else (or_else a b) c ≡ or_else a (or_else b c)
or_assoc (Some x) b c = refl
or_assoc None b c = refl

abbrev pub left_with : Option ℕ → Option ℕ → Option ℕ → Left
left_with a b at = record { positive = a; negation = b; place = at }

pub with_nothing : (left : Left) → with_left left nothing_left ≡ left
with_nothing left =
    ap (λ a. left_with a (or_else left.negation None) (or_else left.place None)) (or_none left.positive)
    ∙ ap (λ a. left_with left.positive a (or_else left.place None)) (or_none left.negation)
    ∙ ap (left_with left.positive left.negation) (or_none left.place)

pub with_assoc : (a b c : Left) → with_left (with_left a b) c ≡ with_left a (with_left b c)
with_assoc a b c =
    ap (λ o. left_with o (or_else (or_else a.negation b.negation) c.negation) (or_else (or_else a.place b.place) c.place)) (or_assoc a.positive b.positive c.positive)
    ∙ ap (λ o. left_with (or_else a.positive (or_else b.positive c.positive)) o (or_else (or_else a.place b.place) c.place)) (or_assoc a.negation b.negation c.negation)
    ∙ ap (left_with (or_else a.positive (or_else b.positive c.positive)) (or_else a.negation (or_else b.negation c.negation))) (or_assoc a.place b.place c.place)

-- what a positive condition, or a negation, adds to what is left
positive_step : (taken : Bool) (r : Readiness) (place : ℕ) (lack other : Option ℕ) (at : Option ℕ)
    → left_with (lack_or_rest (taken || false) r lack) (lack_or_rest (taken || true) r other) (if taken then at else Some (suc place)) ≡ with_left (left_here taken true place r) (left_with lack other at)
positive_step true r place lack other at = refl
positive_step false (is_ready c) place lack other at = ap (λ n. left_with lack other (Some n)) (sym (add-one place))
positive_step false (lacks v) place lack other at = ap (λ n. left_with (Some v) other (Some n)) (sym (add-one place))
positive_step false is_unlinked place lack other at = ap (λ n. left_with lack other (Some n)) (sym (add-one place))

negation_step : (taken : Bool) (r : Readiness) (place : ℕ) (lack other : Option ℕ) (at : Option ℕ)
    → left_with (lack_or_rest (taken || true) r lack) (lack_or_rest (taken || false) r other) at ≡ with_left (left_here taken false place r) (left_with lack other at)
negation_step true r place lack other at = refl
negation_step false (is_ready c) place lack other at = refl
negation_step false (lacks v) place lack other at = refl
negation_step false is_unlinked place lack other at = refl

left_step : (c : Condition) (cs : Conditions) (inside : Bool) (outside : List ℕ) (place : ℕ) (t : Taken)
    → left_from (condition_and c cs) inside outside place t ≡ with_left (left_here (is_among t.places place) (is_positive c) place (readiness c inside outside t.bound)) (left_from cs inside outside (suc place) t)
left_step (positive p) cs inside outside place t =
    positive_step (is_among t.places place) (readiness (positive p) inside outside t.bound) place (first_lack cs true inside outside (suc place) t) (first_lack cs false inside outside (suc place) t) (place_left cs (suc place) t)
left_step (negated p) cs inside outside place t =
    negation_step (is_among t.places place) (readiness (negated p) inside outside t.bound) place (first_lack cs true inside outside (suc place) t) (first_lack cs false inside outside (suc place) t) (place_left cs (suc place) t)
left_step (conjunctive ds) cs inside outside place t =
    negation_step (is_among t.places place) (readiness (conjunctive ds) inside outside t.bound) place (first_lack cs true inside outside (suc place) t) (first_lack cs false inside outside (suc place) t) (place_left cs (suc place) t)

-- ---- a condition that is passed, or taken

passed : (taken : Bool) (r : Readiness) (place : ℕ) (t rest : Taken) → (taken ≡ false → ready_of r ≡ None) → one_or_rest taken r place t rest ≡ rest
passed true r place t rest none = refl
passed false (is_ready c) place t rest none = let impossible : Some c ≡ None = none refl in cc
passed false (lacks v) place t rest none = refl
passed false is_unlinked place t rest none = refl

-- a place of the list, and what is left and taken from there on
module _ (conds : List Cond) (inside : Bool) (outside : List ℕ) (t : Taken) (place : ℕ) (c : Cond) (within : place < length conds) (at : c ≡ get_or conds place c) where
  pub left_item : left_from (conditions (drop place conds)) inside outside place t
      ≡ with_left (left_here (is_among t.places place) (is_positive (condition c)) place (readiness (condition c) inside outside t.bound)) (left_from (conditions (drop (place + 1) conds)) inside outside (place + 1) t)
  left_item =
      ap (λ cs. left_from (conditions cs) inside outside place t) (drop_item conds place c within at)
      ∙ left_step (condition c) (conditions (drop (place + 1) conds)) inside outside place t
      ∙ ap (λ n. with_left (left_here (is_among t.places place) (is_positive (condition c)) place (readiness (condition c) inside outside t.bound)) (left_from (conditions (drop (place + 1) conds)) inside outside n t)) (sym (add-one place))

  pub passed_item : (is_among t.places place ≡ false → ready_of (readiness (condition c) inside outside t.bound) ≡ None)
      → one_taken (conditions (drop place conds)) inside outside place t ≡ one_taken (conditions (drop (place + 1) conds)) inside outside (place + 1) t
  passed_item none =
      ap (λ cs. one_taken (conditions cs) inside outside place t) (drop_item conds place c within at)
      ∙ passed (is_among t.places place) (readiness (condition c) inside outside t.bound) place t (one_taken (conditions (drop (place + 1) conds)) inside outside (suc place) t) none
      ∙ ap (λ n. one_taken (conditions (drop (place + 1) conds)) inside outside n t) (sym (add-one place))

  pub taken_item : (d : Condition) → is_among t.places place ≡ false → readiness (condition c) inside outside t.bound ≡ is_ready d → one_taken (conditions (drop place conds)) inside outside place t ≡ with_condition place d t
  taken_item d free ready =
      ap (λ cs. one_taken (conditions cs) inside outside place t) (drop_item conds place c within at)
      ∙ ap (λ taken. one_or_rest taken (readiness (condition c) inside outside t.bound) place t (one_taken (conditions (drop (place + 1) conds)) inside outside (suc place) t)) free
      ∙ ap (λ r. one_or_rest false r place t (one_taken (conditions (drop (place + 1) conds)) inside outside (suc place) t)) ready

-- ---- what a condition binds

pub unless_ready : (missing : Option ℕ) (c d : Condition) → unless_missing missing c ≡ is_ready d → c ≡ d
unless_ready None c d ready = cc
unless_ready (Some v) c d ready = cc

pub linked_ready : (linked : Bool) (missing : Option ℕ) (c d : Condition) → (if linked then unless_missing missing c else is_unlinked) ≡ is_ready d → c ≡ d
linked_ready true missing c d ready = unless_ready missing c d ready
linked_ready false missing c d ready = cc

-- a condition that is ready binds what it bound before
pub ready_binds : (c d : Condition) (inside : Bool) (outside bound : List ℕ) → readiness c inside outside bound ≡ is_ready d → bound_by d ≡ bound_by c
ready_binds (positive p) d inside outside bound ready = sym (ap bound_by (linked_ready (inside || is_linked bound p) (missing_in bound p) (positive p) d ready))
ready_binds (negated p) d inside outside bound ready = sym (ap bound_by (unless_ready _ (negated p) d ready))
ready_binds (conjunctive cs) d inside outside bound ready = sym (ap bound_by (unless_ready _ _ d ready))

-- and that is plain in a positive condition of the list
pub binds_within : (conds : List Cond) (place : ℕ) (c : Cond) → place < length conds → c ≡ get_or conds place c → (v : ℕ) → is_among (bound_by (condition c)) v ≡ true → is_among (plain_outside (conditions conds)) v ≡ true
binds_within [] place c within at v bound = absurd (omega arith)
binds_within (d ∷ conds) zero c within at v bound =
    among_joined (bound_by (condition d)) (plain_outside (conditions conds)) v
    ∙ or_left (is_among (bound_by (condition d)) v) (is_among (plain_outside (conditions conds)) v) (ap (λ e. is_among (bound_by (condition e)) v) (sym at) ∙ bound)
binds_within (d ∷ conds) (suc place) c within at v bound =
    among_joined (bound_by (condition d)) (plain_outside (conditions conds)) v
    ∙ or_right (is_among (bound_by (condition d)) v) (is_among (plain_outside (conditions conds)) v) (binds_within conds place c (omega arith) at v bound)

pub count_all : (conds : List Cond) → count_of (conditions conds) ≡ length conds
count_all [] = refl
count_all (c ∷ conds) = ap suc (count_all conds)
