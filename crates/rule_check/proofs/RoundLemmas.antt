-- Taking the first condition that is ready, again and again.
use Rattle.std.proofs.Common.{◌≡◌, ℕ, zero, suc, ◌<◌, Bool, true, false, ◌||◌, ◌==◌, List, [], ◌∷◌, ◌++◌, map, length, set, replicate, refl, sym, ap, subst, ◌∙◌, arith}
use Rattle.std.proofs.Math.ListN.{length-set, length-replicate}
use Rattle.std.proofs.lemmas.Bool.{eqb-true, eqb-false}
use Rattle.std.proofs.lemmas.Grind.{get_or-set_at}
use Rattle.std.proofs.lemmas.List.{get_or-set_other}
use Rattle.std.specs.Prelude.{Some, if◌then◌else◌}
use Rattle.soar_rule.specs.declared.cond.Cond.{Cond}
use Rattle.soar_rule.specs.Conditions.{Condition, positive, negated, conjunctive, Conditions, no_more, condition_and, condition, conditions}
use Rattle.soar_rule.specs.MatchOrder.{Taken, nothing_taken, with_condition, count_of, one_taken, first_lack}
use Rattle.soar_rule.specs.Checking.{place_left}
use Rattle.soar_rule.specs.Repeat.{repeated}
use Rattle.soar_rule.specs.Variables.{is_among, bound_by, plain_outside, variables_of_conditions}
use Rattle.soar_rule.proofs.VariableLemmas.{among_joined}
use Rattle.rule_check.specs.declared.level.Left.{Left}
use Rattle.rule_check.specs.declared.level.Level.{Level}
use Rattle.rule_check.specs.declared.level.Standing.{Standing}
use Rattle.rule_check.specs.declared.level.Standing.TheVariants as standing
use Rattle.rule_check.specs.declared.taking.InOrder.{InOrder}
use Rattle.rule_check.specs.Agreeing.{AllHave, SameMembers, Agree}
use Rattle.rule_check.specs.Levels.{IsKnown, IsLevel, is_taken, standing_at, open_count, taken_seen, left_from}
use Rattle.rule_check.specs.Marking.{AreMarked, Joined, is_marked}
use Rattle.rule_check.specs.Members.{members}
use Rattle.rule_check.specs.Taking.{KeepsTaken, IsFirstReady, ordered_from, IsOrdered}
use Rattle.rule_check.proofs.AgreeLemmas.{repeated_agrees, one_taken_agrees, first_lack_agrees}
use Rattle.rule_check.proofs.LastingLemmas.{GrowsWithin, KeepsBound, readiness_lasts, waits_last}
use Rattle.rule_check.proofs.LevelLemmas.{taken_place, open_taken, all_open, open_at, none_taken, seen_kept}
use Rattle.rule_check.proofs.LookLemmas.{count_all, left_with}
use Rattle.rule_check.proofs.MemberLemmas.{marked_among, members_marked}

-- ---- states that agree everywhere

abbrev pub Anything : ℕ → Type 0
Anything v = Unit {0}

have_anything : (vs : List ℕ) → AllHave Anything vs
have_anything [] = tt
have_anything (v ∷ vs) = (tt, have_anything vs)

agree_same : (t : Taken) → Agree Anything t t
agree_same t = record { places = λ n. refl; order = refl; bound = λ v has. refl }

agree_back : (t u : Taken) → Agree Anything t u → Agree Anything u t
agree_back t u agree = record { places = λ n. sym (agree.places n); order = sym agree.order; bound = λ v has. sym (agree.bound v has) }

agree_then : (s t u : Taken) → Agree Anything s t → Agree Anything t u → Agree Anything s u
agree_then s t u one two = record { places = λ n. one.places n ∙ two.places n; order = one.order ∙ two.order; bound = λ v has. one.bound v has ∙ two.bound v has }

abbrev pub step_of : Conditions → Bool → Taken → Taken
step_of cs inside t = one_taken cs inside (plain_outside cs) 0 t

step_agrees : (cs : Conditions) (inside : Bool) (outside : List ℕ) → SameMembers outside (plain_outside cs) → (t u : Taken) → Agree Anything t u → Agree Anything (one_taken cs inside outside 0 t) (step_of cs inside u)
step_agrees cs inside outside around t u agree = one_taken_agrees Anything cs (have_anything (variables_of_conditions cs)) inside outside (plain_outside cs) around 0 t u agree

steps_agree : (cs : Conditions) (inside : Bool) (n : ℕ) (t u : Taken) → Agree Anything t u → Agree Anything (repeated n (step_of cs inside) t) (repeated n (step_of cs inside) u)
steps_agree cs inside n t u agree = repeated_agrees Anything (step_of cs inside) (step_of cs inside) (λ t u h. step_agrees cs inside (plain_outside cs) (λ v. refl) t u h) n t u agree

-- a step that changes nothing may be done again
still : (cs : Conditions) (inside : Bool) (t : Taken) → Agree Anything (step_of cs inside t) t → (n : ℕ) → Agree Anything (repeated n (step_of cs inside) t) t
still cs inside t same zero = agree_same t
still cs inside t same (suc n) =
    agree_then (repeated n (step_of cs inside) (step_of cs inside t)) (repeated n (step_of cs inside) t) t (steps_agree cs inside n (step_of cs inside t) t same) (still cs inside t same n)

around_of : (marks : List Bool) (vs : List ℕ) → AreMarked marks vs → SameMembers (members marks) vs
around_of marks vs marked v = sym (marked_among marks v) ∙ marked v

-- ---- the start

pub starts : (level : Level) (n : ℕ) (bound : List Bool) (variables : List ℕ) → level.standings ≡ replicate n standing.Open → level.conds ≡ [] → level.bound.marks ≡ bound → AreMarked bound variables
    → Agree Anything (taken_seen level) (nothing_taken variables)
starts level n bound variables standings conds marks marked = record {
  places = λ place. taken_place level.standings place ∙ ap (λ ss. is_taken (standing_at ss place)) standings ∙ none_taken n place;
  order = ap (map condition) conds;
  bound = λ v has. ap (λ ms. is_among (members ms) v) marks ∙ around_of bound variables marked v;
}

pub starts_all : (conds : List Cond) (inside : Bool) (level : Level) (bound : List Bool) (variables : List ℕ) → level.standings ≡ replicate (length conds) standing.Open → level.conds ≡ [] → level.bound.marks ≡ bound
    → AreMarked bound variables → Agree Anything (repeated (open_count (map is_taken level.standings)) (step_of (conditions conds) inside) (taken_seen level)) (ordered_from (conditions conds) inside variables)
starts_all conds inside level bound variables standings taken marks marked =
    subst (λ n. Agree Anything (repeated n (step_of (conditions conds) inside) (taken_seen level)) (ordered_from (conditions conds) inside variables))
    (count_all conds ∙ sym (all_open (length conds)) ∙ ap (λ ss. open_count (map is_taken ss)) (sym standings))
    (steps_agree (conditions conds) inside (count_of (conditions conds)) (taken_seen level) (nothing_taken variables) (starts level (length conds) bound variables standings taken marks marked))

pub starts_level : (conds : List Cond) (inside : Bool) (outside : List ℕ) (level : Level) → level.standings ≡ replicate (length conds) standing.Open → IsLevel conds inside outside level
starts_level conds inside outside level standings = record {
  whole = ap length standings ∙ length-replicate (length conds) standing.Open;
  known = λ place c within at. subst (λ s. IsKnown (condition c) inside outside (members level.bound.marks) s) (sym (ap (λ ss. standing_at ss place) standings ∙ open_at (length conds) place)) tt;
}

-- ---- a round

known_lasts : (c : Condition) (inside : Bool) (outside bound also : List ℕ) → GrowsWithin outside bound also → KeepsBound bound also → (s : Standing) → IsKnown c inside outside bound s → IsKnown c inside outside also s
known_lasts c inside outside bound also within keeps standing.Open known = tt
known_lasts c inside outside bound also within keeps standing.Taken known = tt
known_lasts c inside outside bound also within keeps (standing.Lacks v) known = (
  sym (readiness_lasts c inside outside bound also within keeps known.1) ∙ known.0,
  waits_last c outside bound also within keeps known.1,
)

-- what is known at a place, after one was taken
standing_after : (standings : List Standing) (place other : ℕ) (P : Standing → Type 0) → place < length standings → P standing.Taken → P (standing_at standings other) → P (standing_at (set standings place standing.Taken) other)
standing_after standings place other P within taken kept = by (other == place) refl
  where
    by : (b : Bool) → (other == place) ≡ b → P (standing_at (set standings place standing.Taken) other)
    by true e = subst P (sym (get_or-set_at standings place other standing.Taken standing.Open (eqb-true other place e) within)) taken
    by false e = subst P (sym (get_or-set_other standings place other standing.Taken standing.Open (eqb-false other place e))) kept

place_after : (standings : List Standing) (place other : ℕ) → place < length standings → (other == place) || is_taken (standing_at standings other) ≡ is_taken (standing_at (set standings place standing.Taken) other)
place_after standings place other within = by (other == place) refl
  where
    by : (b : Bool) → (other == place) ≡ b → b || is_taken (standing_at standings other) ≡ is_taken (standing_at (set standings place standing.Taken) other)
    by true e = ap is_taken (sym (get_or-set_at standings place other standing.Taken standing.Open (eqb-true other place e) within))
    by false e = ap is_taken (sym (get_or-set_other standings place other standing.Taken standing.Open (eqb-false other place e)))

map_pushed : (conds : List Cond) (c : Cond) → map condition conds ++ condition c ∷ [] ≡ map condition (conds ++ c ∷ [])
map_pushed [] c = refl
map_pushed (d ∷ conds) c = ap (λ cs. condition d ∷ cs) (map_pushed conds c)

or_one : (a b : Bool) → a ≡ true → (a || b) ≡ true
or_one true b one = refl
or_one false b one = cc

or_no : (a b : Bool) → b ≡ false → a ≡ (a || b)
or_no true b none = refl
or_no false b none = sym none

not_within : (a b : Bool) → (a ≡ true → b ≡ true) → b ≡ false → a ≡ false
not_within true b both none = let impossible : b ≡ true = both refl in cc
not_within false b both none = refl

pub within_level : (conds : List Cond) (inside : Bool) (outside : List ℕ) (t : Taken) (level : Level) (place : ℕ) (c : Condition) → IsFirstReady (conditions conds) inside outside t place c → IsLevel conds inside outside level
    → place < length level.standings
within_level conds inside outside t level place c first is =
    let counted : count_of (conditions conds) ≡ length conds = count_all conds in
    let whole : length level.standings ≡ length conds = is.whole in
    let below : place < count_of (conditions conds) = first.within in
    omega arith

-- a look finds the condition at a place ready, and it is taken
module _ (conds : List Cond) (inside : Bool) (outside : List Bool) (around : AreMarked outside (plain_outside (conditions conds))) (before mid after : Level) (place : ℕ) (d : Cond)
    (kept : KeepsTaken before mid) (first : IsFirstReady (conditions conds) inside (members outside) (taken_seen before) place (condition d)) (level : IsLevel conds inside (members outside) mid)
    (standings : after.standings ≡ set mid.standings place standing.Taken) (taken : after.conds ≡ mid.conds ++ d ∷ []) (joined : Joined mid.bound.marks after.bound.marks (bound_by (condition d))) where
  within : place < length mid.standings
  within = within_level conds inside (members outside) (taken_seen before) mid place (condition d) first level

  bound_after : (v : ℕ) → is_among (members mid.bound.marks) v || is_among (bound_by (condition d)) v ≡ is_among (members after.bound.marks) v
  bound_after v =
      sym (among_joined (members mid.bound.marks) (bound_by (condition d)) v)
      ∙ sym (joined (members mid.bound.marks) (members_marked mid.bound.marks) v)
      ∙ marked_among after.bound.marks v

  grows : GrowsWithin (members outside) (members mid.bound.marks) (members after.bound.marks)
  grows v free =
      or_no (is_among (members mid.bound.marks) v) (is_among (bound_by (condition d)) v)
      (not_within (is_among (bound_by (condition d)) v) (is_among (plain_outside (conditions conds)) v) (first.bound v) (sym (around_of outside (plain_outside (conditions conds)) around v) ∙ free))
      ∙ bound_after v

  keeps : KeepsBound (members mid.bound.marks) (members after.bound.marks)
  keeps v bound = sym (bound_after v) ∙ or_one (is_among (members mid.bound.marks) v) (is_among (bound_by (condition d)) v) bound

  pub round_level : IsLevel conds inside (members outside) after
  round_level = record {
    whole = ap length standings ∙ length-set mid.standings place standing.Taken ∙ level.whole;
    known = λ other c before_end at.
        subst (λ ss. IsKnown (condition c) inside (members outside) (members after.bound.marks) (standing_at ss other)) (sym standings)
        (standing_after mid.standings place other (IsKnown (condition c) inside (members outside) (members after.bound.marks)) within tt
        (known_lasts (condition c) inside (members outside) (members mid.bound.marks) (members after.bound.marks) grows keeps (standing_at mid.standings other) (level.known other c before_end at)));
  }

  free_place : is_taken (standing_at mid.standings place) ≡ false
  free_place = sym (taken_place mid.standings place) ∙ ap (λ marks. is_among (members marks) place) kept.taken ∙ first.free

  round_counts : open_count (map is_taken before.standings) ≡ suc (open_count (map is_taken after.standings))
  round_counts =
      sym (ap open_count kept.taken)
      ∙ open_taken mid.standings place within free_place
      ∙ ap (λ ss. suc (open_count (map is_taken ss))) (sym standings)

  pub round_smaller : open_count (map is_taken after.standings) < open_count (map is_taken before.standings)
  round_smaller = let counts = round_counts in omega (arith, counts)

  takes : Agree Anything (with_condition place (condition d) (taken_seen mid)) (taken_seen after)
  takes = record {
    places = λ other.
        ap (λ b. (other == place) || b) (taken_place mid.standings other)
        ∙ place_after mid.standings place other within
        ∙ ap (λ ss. is_taken (standing_at ss other)) (sym standings)
        ∙ sym (taken_place after.standings other);
    order = map_pushed mid.conds d ∙ ap (map condition) (sym taken);
    bound = λ v has. among_joined (members mid.bound.marks) (bound_by (condition d)) v ∙ bound_after v;
  }

  pub round_agrees : (t : Taken) → Agree Anything (repeated (open_count (map is_taken before.standings)) (step_of (conditions conds) inside) (taken_seen before)) t
      → Agree Anything (repeated (open_count (map is_taken after.standings)) (step_of (conditions conds) inside) (taken_seen after)) t
  round_agrees t agree =
      let cs = conditions conds in
      let n = open_count (map is_taken after.standings) in
      let once : Agree Anything (with_condition place (condition d) (taken_seen before)) (step_of cs inside (taken_seen before)) =
      subst (λ u. Agree Anything u (step_of cs inside (taken_seen before))) first.step
      (step_agrees cs inside (members outside) (around_of outside (plain_outside cs) around) (taken_seen before) (taken_seen before) (agree_same (taken_seen before))) in
      let so : Agree Anything (taken_seen after) (with_condition place (condition d) (taken_seen before)) =
      subst (λ u. Agree Anything (taken_seen after) (with_condition place (condition d) u)) (seen_kept before mid kept) (agree_back (with_condition place (condition d) (taken_seen mid)) (taken_seen after) takes) in
      let one = agree_then (taken_seen after) (with_condition place (condition d) (taken_seen before)) (step_of cs inside (taken_seen before)) so once in
      agree_then (repeated n (step_of cs inside) (taken_seen after)) (repeated n (step_of cs inside) (step_of cs inside (taken_seen before))) t
      (steps_agree cs inside n (taken_seen after) (step_of cs inside (taken_seen before)) one)
      (subst (λ k. Agree Anything (repeated k (step_of cs inside) (taken_seen before)) t) round_counts agree)

-- ---- the end

places_agree : (cs : Conditions) (place : ℕ) (t u : Taken) → SameMembers t.places u.places → place_left cs place t ≡ place_left cs place u
places_agree no_more place t u same = refl
places_agree (condition_and (positive p) cs) place t u same = ap (λ b. if b then place_left cs (suc place) t else Some (suc place)) (same place) ∙ ap (λ at. if is_among u.places place then at else Some (suc place)) (places_agree cs (suc place) t u same)
places_agree (condition_and (negated p) cs) place t u same = places_agree cs (suc place) t u same
places_agree (condition_and (conjunctive ds) cs) place t u same = places_agree cs (suc place) t u same

left_agrees : (cs : Conditions) (inside : Bool) (outside : List ℕ) → SameMembers outside (plain_outside cs) → (t u : Taken) → Agree Anything t u → left_from cs inside outside 0 t ≡ left_from cs inside (plain_outside cs) 0 u
left_agrees cs inside outside around t u agree =
    let all = have_anything (variables_of_conditions cs) in
    ap (λ a. left_with a (first_lack cs false inside outside 0 t) (place_left cs 0 t)) (first_lack_agrees Anything cs all true inside outside (plain_outside cs) around 0 t u agree)
    ∙ ap (λ a. left_with (first_lack cs true inside (plain_outside cs) 0 u) a (place_left cs 0 t)) (first_lack_agrees Anything cs all false inside outside (plain_outside cs) around 0 t u agree)
    ∙ ap (left_with (first_lack cs true inside (plain_outside cs) 0 u) (first_lack cs false inside (plain_outside cs) 0 u)) (places_agree cs 0 t u agree.places)

-- a look finds nothing ready
pub ends : (conds : List Cond) (inside : Bool) (outside : List Bool) → AreMarked outside (plain_outside (conditions conds)) → (before after : Level) (left : Left) → KeepsTaken before after
    → one_taken (conditions conds) inside (members outside) 0 (taken_seen before) ≡ taken_seen before → left ≡ left_from (conditions conds) inside (members outside) 0 (taken_seen before)
    → (variables : List ℕ) → Agree Anything (repeated (open_count (map is_taken before.standings)) (step_of (conditions conds) inside) (taken_seen before)) (ordered_from (conditions conds) inside variables)
    → (order : InOrder) → order.conds ≡ after.conds → order.bound ≡ after.bound → order.left ≡ left → IsOrdered (conditions conds) inside variables order
ends conds inside outside around before after left kept step lefts variables agree order taken bound same =
    let cs = conditions conds in
    let t = taken_seen before in
    let n = open_count (map is_taken before.standings) in
    let around_list = around_of outside (plain_outside cs) around in
    let none : Agree Anything (step_of cs inside t) t =
    agree_back t (step_of cs inside t) (subst (λ u. Agree Anything u (step_of cs inside t)) step (step_agrees cs inside (members outside) around_list t t (agree_same t))) in
    let whole = agree_then t (repeated n (step_of cs inside) t) (ordered_from cs inside variables) (agree_back (repeated n (step_of cs inside) t) t (still cs inside t none n)) agree in
    record {
      taken = ap (map condition) (taken ∙ kept.conds) ∙ whole.order;
      marked = λ v. ap (λ b. is_marked b.marks v) (bound ∙ kept.bound) ∙ marked_among before.bound.marks v ∙ whole.bound v tt;
      left = same ∙ lefts ∙ left_agrees cs inside (members outside) around_list t (ordered_from cs inside variables) whole;
    }
