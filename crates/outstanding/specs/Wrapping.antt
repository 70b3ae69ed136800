-- A matcher that is asked what is outstanding, as callers see it.
use Rattle.std.specs.Prelude.{Bool, false, refl}
use Rattle.std.specs.Coded.{Coded, code_by, coded×, coded_bool}

-- the matcher, and whether memory was refused beside it
pub record Wrapped (M : Type 0) : Type 0 where
  pub matcher : M
  pub failed : Bool

abbrev pub wrapped_code : {M : Type 0} → Coded M → Coded (Wrapped M)
wrapped_code {M = M} code = code_by (M × Bool) (coded× code coded_bool) (λ w. (w.matcher, w.failed)) (λ p. record { matcher = p.0; failed = p.1 }) (λ _. refl)

-- nothing was refused beside it
abbrev pub wrapped : {M : Type 0} → M → Wrapped M
wrapped matcher = record { matcher = matcher; failed = false }
