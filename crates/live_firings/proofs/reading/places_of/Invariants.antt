use Rattle.std.proofs.Common.{◌≡◌, ◌==◌, ◌||◌, ℕ}
use Rattle.std.specs.List.{list_any}
use Rattle.live_firings.specs.Store.{of_match}
use Rattle.live_firings.proofs.reading.places_of.Given as goal

abbrev pub invariant-keys : goal.invariant-keys
invariant-keys l =
    (p : ℕ) → (list_any (λ n. n == p) l.places.keys || list_any (λ k. list_any (λ e. e.0.1 == p) (of_match k l.matches.entries)) l.key-iterator) ≡ list_any (λ k. list_any (λ e. e.0.1 == p) (of_match k l.matches.entries)) l.keys.keys
