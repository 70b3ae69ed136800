-- Following the live firings that come and go keeps what is kept.
use Rattle.std.proofs.Common.{◌≡◌, sym, ap, ◌∙◌, Bool, true, false, cond, ℕ, ◌+◌, ◌-◌, List, [], ◌∷◌, ◌++◌, arith}
use Rattle.live_firings.specs.declared.live.Live.{Live}
use Rattle.live_firings.specs.Living.{AreNews, keys_of}
use Rattle.match_changes.specs.declared.key.MatchKey.{MatchKey}
use Rattle.open_instances.specs.Keeping.{Counts}
use Rattle.open_instances.specs.Keys.{alike, count_in, times}
use Rattle.open_instances.specs.Meeting.{Loses, Meets}
use Rattle.open_instances.specs.declared.kept.Kept.{Kept}
use Rattle.open_instances.proofs.KeyLemmas.{times_append}
use Rattle.outstanding.specs.Following.{LosesAll, MeetsAll}

-- ---- one after the other

pub meets_none : (old : Kept) → MeetsAll [] old old
meets_none old = record { stays = λ instances was. was; counted = λ q. none (count_in old.counts q) }
  where
    none : (n : ℕ) → n ≡ n + 0
    none n = omega arith

pub meets_on : (keys : List MatchKey) (key : MatchKey) (old mid new : Kept) → MeetsAll keys old mid → Meets key mid new → MeetsAll (keys ++ key ∷ []) old new
meets_on keys key old mid new p r = record {
  stays = λ instances was. r.stays instances (p.stays instances was);
  counted = λ q. r.counted q ∙ by q (alike key q) ∙ ap (λ n. count_in old.counts q + n) (sym (times_append q keys (key ∷ [])));
}
  where
    by : (q : MatchKey) (b : Bool) → cond b (count_in mid.counts q + 1) (count_in mid.counts q) ≡ count_in old.counts q + (times q keys + ((let n : ℕ = cond b 1 0 in n) + 0))
    by q true = (let m = p.counted q in omega (arith, m))
    by q false = (let m = p.counted q in omega (arith, m))

pub loses_none : (old : Kept) → LosesAll [] old old
loses_none old = record { stays = λ instances was. was; counted = λ q. none (count_in old.counts q) }
  where
    none : (n : ℕ) → n ≡ n - 0
    none n = omega arith

pub loses_on : (keys : List MatchKey) (key : MatchKey) (old mid new : Kept) → LosesAll keys old mid → Loses key mid new → LosesAll (keys ++ key ∷ []) old new
loses_on keys key old mid new p r = record {
  stays = λ instances was. r.stays instances (p.stays instances was);
  counted = λ q. r.counted q ∙ by q (alike key q) ∙ ap (λ n. count_in old.counts q - n) (sym (times_append q keys (key ∷ [])));
}
  where
    by : (q : MatchKey) (b : Bool) → cond b (count_in mid.counts q - 1) (count_in mid.counts q) ≡ count_in old.counts q - (times q keys + ((let n : ℕ = cond b 1 0 in n) + 0))
    by q true = (let m = p.counted q in omega (arith, m))
    by q false = (let m = p.counted q in omega (arith, m))

-- ---- all

pub follows : (told live : List Live) (came gone : List MatchKey) (old mid new : Kept) → AreNews told live came gone → Counts old.counts (keys_of told) → MeetsAll came old mid → LosesAll gone mid new → Counts new.counts (keys_of live)
follows told live came gone old mid new news was met lost q =
    (let a = lost.counted q in let b = met.counted q in let c = was q in let d = news q in omega (arith, a, b, c, d))
