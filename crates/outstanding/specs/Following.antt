-- What the live firings that come and go make of what is kept.
use Rattle.std.specs.Prelude.{◌≡◌, ℕ, ◌+◌, ◌-◌, Bool, false, [], List, refl}
use Rattle.std.specs.Coded.{Coded, code_by, coded×, coded_bool, coded_list, coded_ℕ}
use Rattle.std.specs.Map.{lookup}
use Rattle.std.specs.Option.{unwrap_or}
use Rattle.match_changes.specs.declared.key.MatchKey.{MatchKey}
use Rattle.open_instances.specs.Keys.{alike, count_in, times}
use Rattle.open_instances.specs.Meeting.{StaysLooked}
use Rattle.open_instances.specs.declared.kept.Kept.{Kept}

-- firings of keys come
pub record MeetsAll (keys : List MatchKey) (old new : Kept) : Type 0 where
  pub stays : StaysLooked old new
  pub counted : (q : MatchKey) → count_in new.counts q ≡ count_in old.counts q + times q keys

-- firings of keys go
pub record LosesAll (keys : List MatchKey) (old new : Kept) : Type 0 where
  pub stays : StaysLooked old new
  pub counted : (q : MatchKey) → count_in new.counts q ≡ count_in old.counts q - times q keys

-- ---- a matcher that is followed, as callers see it

-- the matcher, whether memory was refused beside it, and how often each key is counted
pub record Follower (M : Type 0) : Type 0 where
  pub matcher : M
  pub failed : Bool
  pub counts : List (MatchKey × ℕ)

abbrev key_code : Coded MatchKey
key_code = code_by (ℕ × List ℕ) (coded× coded_ℕ (coded_list coded_ℕ)) (λ k. (k.rule, k.tags)) (λ p. record { rule = p.0; tags = p.1 }) (λ _. refl)

abbrev pub follower_code : {M : Type 0} → Coded M → Coded (Follower M)
follower_code {M = M} code =
    code_by (M × (Bool × List (MatchKey × ℕ))) (coded× code (coded× coded_bool (coded_list (coded× key_code coded_ℕ)))) (λ f. (f.matcher, (f.failed, f.counts))) (λ p. record { matcher = p.0; failed = p.1.0; counts = p.1.1 })
    (λ _. refl)

-- nothing was refused beside it, and nothing is counted
abbrev pub followed : {M : Type 0} → M → Follower M
followed matcher = record { matcher = matcher; failed = false; counts = [] }

-- each key is counted as often as it is among these
abbrev pub AreCounted : List (MatchKey × ℕ) → List MatchKey → Type 0
AreCounted counts keys = (q : MatchKey) → unwrap_or (lookup (λ k. alike q k) counts) 0 ≡ times q keys
