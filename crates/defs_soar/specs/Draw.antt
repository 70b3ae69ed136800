-- Which candidate a draw takes (Soar manual, chapter 9, indifferent selection; whole numbers in place of floating point).
use Rattle.std.specs.Prelude.{ℕ, ◌+◌, ◌-◌, ◌/◌, ◌%◌, Bool, ◌&&◌, nat_lt, ℤ, pos, negsuc, ◌+ℤ◌, int_lt, int_le, List, [], ◌∷◌, length, if◌then◌else◌}
use Rattle.std.specs.List.{list_all}
use Rattle.defs_soar.specs.declared.choice.Mode.{Mode}
use Rattle.defs_soar.specs.declared.choice.Mode.TheVariants as mode
use Rattle.defs_soar.specs.declared.choice.Scored.{Scored}

abbrev pub total_of : List Scored → ℤ
total_of [] = pos 0
total_of (s ∷ left) = s.sum +ℤ total_of left

abbrev pub as_natural : ℤ → ℕ
as_natural (pos n) = n
as_natural (negsuc n) = 0

-- all sums are at least 0, and their total is positive
abbrev pub have_weights : List Scored → Bool
have_weights left = list_all (λ s. int_le (pos 0) s.sum) left && int_lt (pos 0) (total_of left)

-- the first candidate whose running sum exceeds a number
abbrev pub first_above : ℕ → ℤ → List Scored → ℕ
first_above number so_far [] = 0
first_above number so_far (s ∷ left) = if int_lt (pos number) (so_far +ℤ s.sum) then 0 else 1 + first_above number (so_far +ℤ s.sum) left

abbrev pub softmax : List Scored → ℕ → ℕ
softmax left word = if have_weights left then first_above (word % as_natural (total_of left)) (pos 0) left else word % length left

-- the greatest sum from a candidate on
abbrev pub greatest_from : ℤ → List Scored → ℤ
greatest_from z [] = z
greatest_from z (s ∷ left) = greatest_from (if int_lt z s.sum then s.sum else z) left

abbrev pub first_with : ℤ → List Scored → ℕ
first_with z [] = 0
first_with z (s ∷ left) = if int_lt s.sum z then 1 + first_with z left else 0

-- the first candidate with the greatest sum
abbrev pub greatest : List Scored → ℕ
greatest [] = 0
greatest (s ∷ left) = first_with (greatest_from s.sum left) (s ∷ left)

abbrev pub epsilon_greedy : ℕ → ℕ → List Scored → ℕ → ℕ
epsilon_greedy p q left word = if nat_lt (word % q) p then (word / q) % length left else greatest left

-- the place, from 0, of the candidate that is drawn
abbrev pub drawn : Mode → List Scored → ℕ → ℕ
drawn mode.First left word = 0
drawn mode.Last left word = length left - 1
drawn mode.Softmax left word = softmax left word
drawn (mode.EpsilonGreedy p q) left word = epsilon_greedy p q left word
