-- The live firings that stay after a wave, and where none stays.
use Rattle.std.proofs.Common.{◌≡◌, ℕ, Bool, true, false, nat_lt, not, cond, List, [], ◌∷◌, ◌++◌, map, length, refl, sym, ◌∙◌, ap, arith}
use Rattle.std.proofs.lemmas.List.{length-map, map-append, nil_from_length}
use Rattle.defs_soar.specs.Agents.{LiveFiring}
use Rattle.live_firings.specs.Living.{Firings, live_above, live_seen, without_numbers}
use Rattle.live_firings.specs.declared.live.Live.{Live}
use Rattle.wave_parts.specs.Living.{has_left, still_live}

-- without the firings that left
seen_kept : (gone : List ℕ) (live : List Live) → map live_seen (without_numbers gone live) ≡ still_live gone (map live_seen live)
seen_kept gone [] = refl
seen_kept gone (l ∷ live) = by (not (has_left gone (live_seen l))) (seen_kept gone live)
  where
    by : (b : Bool) → map live_seen (without_numbers gone live) ≡ still_live gone (map live_seen live)
        → map live_seen (cond b (l ∷ without_numbers gone live) (without_numbers gone live)) ≡ cond b (live_seen l ∷ still_live gone (map live_seen live)) (still_live gone (map live_seen live))
    by true h = ap (λ ls. live_seen l ∷ ls) h
    by false h = h

-- and with those of the wave
pub renewed : (gone : List ℕ) (old mid new fired : List Live) → mid ≡ without_numbers gone old → new ≡ mid ++ fired
    → map live_seen new ≡ still_live gone (map live_seen old) ++ map live_seen fired
renewed gone old mid new fired left more =
    ap (map live_seen) more ∙ map-append live_seen mid fired ∙ ap (λ (ls : List LiveFiring). ls ++ map live_seen fired) (ap (map live_seen) left ∙ seen_kept gone old)

-- ---- none

no_depth : (n : ℕ) → nat_lt n 0 ≡ false
no_depth n = grind arith

none_above : (live : List LiveFiring) → live_above 0 live ≡ []
none_above [] = refl
none_above (l ∷ live) = ap (λ b. cond b (l ∷ live_above 0 live) (live_above 0 live)) (no_depth l.depth) ∙ none_above live

none_seen : (live : List Live) → map live_seen live ≡ [] → live ≡ []
none_seen live none = nil_from_length live (sym (length-map live live_seen) ∙ ap length none)

-- without those of all goals none is live, and what was told stays
pub none_live : (old new : Firings) → map live_seen new.list ≡ live_above 0 (map live_seen old.list) → new.told ≡ old.told → new ≡ record { list = []; told = old.told }
none_live old new above told = λ k. record { list = none_seen new.list (above ∙ none_above (map live_seen old.list)) k; told = told k }
