-- Whether a total passes its limit.
use Rattle.std.proofs.Common.{◌≡◌, ℕ, ◌<◌, ◌≤◌, ◌∙◌, Bool, true, false, nat_lt, List, ◌∷◌, ◌++◌, Option, Some, None, cond, refl, sym, ap, arith}
use Rattle.defs_soar.specs.declared.limit.Which.{Which}
use Rattle.defs_soar.specs.Limits.{Total, limit_of, limit_passed, or_limit, passed_by, first_passed}
use Rattle.wave_firings.proofs.FiringAgreement.{passed_in_turn}

is_above : (limit n : ℕ) → limit < n → nat_lt limit n ≡ true
is_above limit n h = grind arith

is_not_above : (limit n : ℕ) → n ≤ limit → nat_lt limit n ≡ false
is_not_above limit n h = grind arith

from_not_above : (limit n : ℕ) → nat_lt limit n ≡ false → n ≤ limit
from_not_above limit n h = grind arith

pub passes_over : (n : ℕ) (which : Which) → limit_of which < n → limit_passed n which ≡ Some which
passes_over n which h = ap (λ b. cond b (Some which) None) (is_above (limit_of which) n h)

pub passes_not : (n : ℕ) (which : Which) → n ≤ limit_of which → limit_passed n which ≡ None
passes_not n which h = ap (λ b. cond b (Some which) None) (is_not_above (limit_of which) n h)

pub within_limit : (n : ℕ) (which : Which) → limit_passed n which ≡ None → n ≤ limit_of which
within_limit n which h = from_not_above (limit_of which) n (by (nat_lt (limit_of which) n) refl h)
  where
    by : (b : Bool) → nat_lt (limit_of which) n ≡ b → cond b (Some which) None ≡ None → nat_lt (limit_of which) n ≡ false
    by true e none = absurd (cc)
    by false e none = e

-- ---- in turn

pub passed_here : (d : Total) (totals : List Total) (which : Which) → passed_by d ≡ Some which → first_passed (d ∷ totals) ≡ Some which
passed_here d totals which h = ap (λ o. or_limit o (first_passed totals)) h

pub passed_later : (d : Total) (totals : List Total) → passed_by d ≡ None → first_passed (d ∷ totals) ≡ first_passed totals
passed_later d totals h = ap (λ o. or_limit o (first_passed totals)) h

pub passed_front : (firsts seconds : List Total) (which : Which) → first_passed firsts ≡ Some which → first_passed (firsts ++ seconds) ≡ Some which
passed_front firsts seconds which h = passed_in_turn firsts seconds ∙ ap (λ o. or_limit o (first_passed seconds)) h

pub passed_behind : (firsts seconds : List Total) → first_passed firsts ≡ None → first_passed (firsts ++ seconds) ≡ first_passed seconds
passed_behind firsts seconds h = passed_in_turn firsts seconds ∙ ap (λ o. or_limit o (first_passed seconds)) h

none_before : (a b : Option Which) → or_limit a b ≡ None → a ≡ None
none_before None b h = refl
none_before (Some which) b h = absurd (cc)

none_after : (a b : Option Which) → or_limit a b ≡ None → b ≡ None
none_after None b h = h
none_after (Some which) b h = absurd (cc)

pub within_here : (d : Total) (totals : List Total) → first_passed (d ∷ totals) ≡ None → passed_by d ≡ None
within_here d totals h = none_before (passed_by d) (first_passed totals) h

pub within_behind : (firsts seconds : List Total) → first_passed (firsts ++ seconds) ≡ None → first_passed seconds ≡ None
within_behind firsts seconds h = none_after (first_passed firsts) (first_passed seconds) (sym (passed_in_turn firsts seconds) ∙ h)
