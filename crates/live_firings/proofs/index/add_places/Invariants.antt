use Rattle.std.proofs.Common.{◌≡◌, ◌==◌, ◌||◌, ℕ}
use Rattle.std.specs.List.{list_any}
use Rattle.live_firings.specs.Store.{of_match}
use Rattle.live_firings.proofs.index.add_places.Given as goal

abbrev pub invariant-places : goal.invariant-places
invariant-places l =
    (p : ℕ) → (list_any (λ n. n == p) l.places.keys || list_any (λ e. e.0.1 == p) l.stand-iterator) ≡ (list_any (λ n. n == p) l.initial.places.keys || list_any (λ e. e.0.1 == p) (of_match l.fn.key l.fn.matches.entries))
