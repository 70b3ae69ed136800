-- Productions that were read and checked: they are no justifications, and the table has the words of their conditions in any order.
use Rattle.std.proofs.Common.{◌≡◌, ℕ, zero, suc, ◌||◌, Bool, true, false, List, [], ◌∷◌, ◌++◌, flat_map, Option, Some, None, Ok, refl, sym, subst}
use Rattle.std.specs.Prelude.{if◌then◌else◌}
use Rattle.soar_sym.specs.Words.{Texts}
use Rattle.soar_sym.specs.declared.symbol.Sym.{Sym}
use Rattle.soar_rule.specs.Checking.{Fault, fault_of, unless_fault, ordered}
use Rattle.soar_rule.specs.Conditions.{Condition, positive, negated, conjunctive, Conditions, no_more, condition_and, all_of}
use Rattle.soar_rule.specs.MatchOrder.{missing_in, is_linked, Readiness, is_ready, lacks, is_unlinked, Taken, nothing_taken, with_condition, unless_missing, count_of, readiness, one_taken, taken_in_order}
use Rattle.soar_rule.specs.Productions.{ProductionOf}
use Rattle.soar_rule.specs.Repeat.{repeated}
use Rattle.soar_rule.specs.Symbols.{AreKnown, constants_of_condition, constants_of_conditions, constants_of, constants_of_action, symbols_of}
use Rattle.soar_rule.specs.Variables.{is_among, plain_outside}
use Rattle.soar_rule.specs.declared.production.Kind.{Kind}
use Rattle.soar_rule.specs.declared.production.Kind.TheVariants as kind
use Rattle.defs_read.specs.Expansion.{with_kind, kind_of, production_of}
use Rattle.defs_read.specs.Grammar.{Flag, operator_support, instance_support, is_default, is_chunk, Tree}
use Rattle.defs_read.specs.Spelling.{Tokens}
use Rattle.defs_soar.specs.Pending.{is_justification}

-- ---- what is read is no justification

flag_unlearned : (k : Kind) (f : Flag) → is_justification k ≡ false → is_justification (with_kind k f) ≡ false
flag_unlearned k operator_support is = is
flag_unlearned k instance_support is = is
flag_unlearned k is_default is = refl
flag_unlearned k is_chunk is = refl

flags_unlearned : (k : Kind) (flags : List Flag) → is_justification k ≡ false → is_justification (kind_of k flags) ≡ false
flags_unlearned k [] is = is
flags_unlearned k (f ∷ flags) is = flags_unlearned (with_kind k f) flags (flag_unlearned k f is)

pub read_unlearned : (words : Texts) (tokens : Tokens) (tree : Tree) → is_justification (production_of words tokens tree).production.kind ≡ false
unfolding production_of
read_unlearned words tokens tree = flags_unlearned kind.User tree.flags refl

-- ---- symbols in a row

known_front : (words : Texts) (xs ys : List Sym) → AreKnown words (xs ++ ys) → AreKnown words xs
known_front words [] ys known = tt
known_front words (x ∷ xs) ys known = (known.0, known_front words xs ys known.1)

known_rest : (words : Texts) (xs ys : List Sym) → AreKnown words (xs ++ ys) → AreKnown words ys
known_rest words [] ys known = known
known_rest words (x ∷ xs) ys known = known_rest words xs ys known.1

known_both : (words : Texts) (xs ys : List Sym) → AreKnown words xs → AreKnown words ys → AreKnown words (xs ++ ys)
known_both words [] ys this that = that
known_both words (x ∷ xs) ys this that = (this.0, known_both words xs ys this.1 that)

pub names_known : (words : Texts) (p : ProductionOf) → AreKnown words (symbols_of p) → AreKnown words p.vars
names_known words p known = known_front words p.vars (constants_of p) known.1

-- ---- the conditions that are taken

-- the table has the constants of a condition, of conditions, of those taken
abbrev HasCondition : Texts → Condition → Type 0
HasCondition words c = AreKnown words (constants_of_condition c)

abbrev HasConditions : Texts → Conditions → Type 0
HasConditions words cs = AreKnown words (constants_of_conditions cs)

abbrev HasTaken : Texts → Taken → Type 0
HasTaken words taken = HasConditions words (all_of taken.order)

abbrev HasReady : Texts → Readiness → Type 0
HasReady words (is_ready c) = HasCondition words c
HasReady words (lacks v) = Unit {0}
HasReady words is_unlinked = Unit {0}

repeated_kept : {A : Type 0} (P : A → Type 0) (n : ℕ) (step : A → A) (a : A) → ((b : A) → P b → P (step b)) → P a → P (repeated n step a)
repeated_kept P zero step a kept have = have
repeated_kept P (suc n) step a kept have = repeated_kept P n step (step a) kept (kept a have)

has_with : (words : Texts) (order : List Condition) (c : Condition) → HasConditions words (all_of order) → HasCondition words c → HasConditions words (all_of (order ++ c ∷ []))
has_with words [] c have one = known_both words (constants_of_condition c) [] one tt
has_with words (d ∷ order) c have one =
    let rest : List Sym = constants_of_conditions (all_of order) in
    known_both words (constants_of_condition d) (constants_of_conditions (all_of (order ++ c ∷ []))) (known_front words (constants_of_condition d) rest have)
    (has_with words order c (known_rest words (constants_of_condition d) rest have) one)

has_unless : (words : Texts) (missing : Option ℕ) (c : Condition) → HasCondition words c → HasReady words (unless_missing missing c)
has_unless words None c have = have
has_unless words (Some v) c have = tt

has_if : (words : Texts) (b : Bool) (r : Readiness) → HasReady words r → HasReady words (if b then r else is_unlinked)
has_if words true r have = have
has_if words false r have = tt

-- a condition is taken, or the later ones are looked at
has_next : (words : Texts) (b : Bool) (r : Readiness) (place : ℕ) (taken later : Taken) → HasReady words r → HasTaken words taken → HasTaken words later
    → HasTaken words (if b then later else elim r as (λ _. Taken) [ is_ready c ↦ with_condition place c taken | lacks v ↦ later | is_unlinked ↦ later ])
has_next words true r place taken later ready have rest = rest
has_next words false (is_ready c) place taken later ready have rest = has_with words taken.order c have ready
has_next words false (lacks v) place taken later ready have rest = rest
has_next words false is_unlinked place taken later ready have rest = rest

mutual
  has_readiness : (words : Texts) (c : Condition) (inside : Bool) (outside bound : List ℕ) → HasCondition words c → HasReady words (readiness c inside outside bound)
  has_readiness words (positive p) inside outside bound have =
      has_if words (inside || is_linked bound p) (unless_missing (missing_in bound p) (positive p)) (has_unless words (missing_in bound p) (positive p) have)
  has_readiness words (negated p) inside outside bound have = has_unless words _ (negated p) have
  has_readiness words (conjunctive cs) inside outside bound have =
      has_unless words _ (conjunctive (all_of (repeated (count_of cs) (λ t. one_taken cs true (plain_outside cs) 0 t) (nothing_taken bound)).order))
      (repeated_kept (HasTaken words) (count_of cs) (λ t. one_taken cs true (plain_outside cs) 0 t) (nothing_taken bound) (λ t kept. has_taken words cs true (plain_outside cs) 0 t have kept) tt)

  has_taken : (words : Texts) (cs : Conditions) (inside : Bool) (outside : List ℕ) (place : ℕ) (taken : Taken) → HasConditions words cs → HasTaken words taken → HasTaken words (one_taken cs inside outside place taken)
  has_taken words no_more inside outside place taken have kept = kept
  has_taken words (condition_and c cs) inside outside place taken have kept =
      has_next words (is_among taken.places place) (readiness c inside outside taken.bound) place taken (one_taken cs inside outside (suc place) taken)
      (has_readiness words c inside outside taken.bound (known_front words (constants_of_condition c) (constants_of_conditions cs) have)) kept
      (has_taken words cs inside outside (suc place) taken (known_rest words (constants_of_condition c) (constants_of_conditions cs) have) kept)

has_order : (words : Texts) (cs : Conditions) → HasConditions words cs → HasTaken words (taken_in_order cs)
unfolding taken_in_order
has_order words cs have =
    repeated_kept (HasTaken words) (count_of cs) (λ t. one_taken cs false (plain_outside cs) 0 t) (nothing_taken []) (λ t kept. has_taken words cs false (plain_outside cs) 0 t have kept) tt

-- ---- what was checked

abbrev in_order : ProductionOf → ProductionOf
in_order p = record p { conditions = all_of (taken_in_order p.conditions).order }

ordered_is : (p q : ProductionOf) → ordered p ≡ Ok q → q ≡ in_order p
unfolding ordered
ordered_is p q is = by (fault_of p (taken_in_order p.conditions)) is
  where
    by : (o : Option Fault) → unless_fault o (in_order p) ≡ Ok q → q ≡ in_order p
    by None e = cc
    by (Some fault) e = absurd (cc)

pub ordered_unlearned : (p q : ProductionOf) → ordered p ≡ Ok q → is_justification p.kind ≡ false → is_justification q.kind ≡ false
ordered_unlearned p q is none = subst (λ (r : ProductionOf). is_justification r.kind ≡ false) (sym (ordered_is p q is)) none

pub ordered_known : (words : Texts) (p q : ProductionOf) → ordered p ≡ Ok q → AreKnown words (symbols_of p) → AreKnown words (symbols_of q)
ordered_known words p q is known =
    let before : List Sym = constants_of_conditions p.conditions in
    let after : List Sym = constants_of_conditions (in_order p).conditions in
    let made : List Sym = flat_map constants_of_action p.actions in
    let constants : AreKnown words (before ++ made) = known_rest words p.vars (before ++ made) known.1 in
    subst (λ (r : ProductionOf). AreKnown words (symbols_of r)) (sym (ordered_is p q is)) (
      known.0,
      known_both words p.vars (after ++ made) (known_front words p.vars (before ++ made) known.1)
          (known_both words after made (has_order words p.conditions (known_front words before made constants)) (known_rest words before made constants)),
    )
