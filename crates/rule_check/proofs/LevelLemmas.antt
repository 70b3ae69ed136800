-- Which conditions are taken, by what is known of them.
use Rattle.std.proofs.Common.{◌≡◌, ℕ, zero, suc, ◌<◌, Bool, true, false, List, [], ◌∷◌, map, length, set, replicate, refl, sym, ap, ◌∙◌, arith}
use Rattle.std.specs.Prelude.{if◌then◌else◌}
use Rattle.soar_rule.specs.Conditions.{condition}
use Rattle.soar_rule.specs.Variables.{is_among}
use Rattle.rule_check.specs.declared.level.Level.{Level}
use Rattle.rule_check.specs.declared.level.Standing.{Standing}
use Rattle.rule_check.specs.declared.level.Standing.TheVariants as standing
use Rattle.rule_check.specs.Levels.{is_taken, standing_at, open_count, taken_seen}
use Rattle.rule_check.specs.Marking.{is_marked}
use Rattle.rule_check.specs.Members.{members}
use Rattle.rule_check.specs.Taking.{KeepsTaken}
use Rattle.rule_check.proofs.MemberLemmas.{marked_among}

mark_at : (standings : List Standing) (place : ℕ) → is_marked (map is_taken standings) place ≡ is_taken (standing_at standings place)
mark_at [] place = refl
mark_at (s ∷ standings) zero = refl
mark_at (s ∷ standings) (suc place) = mark_at standings place

pub taken_place : (standings : List Standing) (place : ℕ) → is_among (members (map is_taken standings)) place ≡ is_taken (standing_at standings place)
taken_place standings place = sym (marked_among (map is_taken standings) place) ∙ mark_at standings place

-- one fewer is open where one is taken
pub open_taken : (standings : List Standing) (place : ℕ) → place < length standings → is_taken (standing_at standings place) ≡ false
    → open_count (map is_taken standings) ≡ suc (open_count (map is_taken (set standings place standing.Taken)))
open_taken [] place within free = absurd (omega arith)
open_taken (s ∷ standings) zero within free = ap (λ taken. if taken then open_count (map is_taken standings) else suc (open_count (map is_taken standings))) free
open_taken (s ∷ standings) (suc place) within free = by (is_taken s) (open_taken standings place (omega arith) free)
  where
    by : (taken : Bool) → open_count (map is_taken standings) ≡ suc (open_count (map is_taken (set standings place standing.Taken)))
        → (if taken then open_count (map is_taken standings) else suc (open_count (map is_taken standings)))
        ≡ suc (if taken then open_count (map is_taken (set standings place standing.Taken)) else suc (open_count (map is_taken (set standings place standing.Taken))))
    by true rest = rest
    by false rest = ap suc rest

pub all_open : (n : ℕ) → open_count (map is_taken (replicate n standing.Open)) ≡ n
all_open zero = refl
all_open (suc n) = ap suc (all_open n)

pub open_at : (n place : ℕ) → standing_at (replicate n standing.Open) place ≡ standing.Open
open_at zero place = refl
open_at (suc n) zero = refl
open_at (suc n) (suc place) = open_at n place

pub none_taken : (n place : ℕ) → is_taken (standing_at (replicate n standing.Open) place) ≡ false
none_taken n place = ap is_taken (open_at n place)

pub seen_kept : (old new : Level) → KeepsTaken old new → taken_seen new ≡ taken_seen old
seen_kept old new kept =
    ap (λ marks. record { places = members marks; order = map condition new.conds; bound = members new.bound.marks }) kept.taken
    ∙ ap (λ conds. record { places = members (map is_taken old.standings); order = map condition conds; bound = members new.bound.marks }) kept.conds
    ∙ ap (λ bound. record { places = members (map is_taken old.standings); order = map condition old.conds; bound = members bound.marks }) kept.bound
