-- What is kept stays so as the conflict set changes.
use Rattle.std.proofs.Common.{◌≡◌, inl, inr, refl, sym, ap, ◌∙◌, subst, Bool, true, false, cond, ◌||◌, nat_lt, ℕ, List, [], ◌∷◌, Option, Some, None, unwrap_or}
use Rattle.std.specs.BTreeMap as map
use Rattle.std.specs.BTreeMap.{BTreeMap}
use Rattle.std.specs.BTreeSet as set
use Rattle.std.specs.BTreeSet.{BTreeSet}
use Rattle.std.specs.HashMap as table
use Rattle.std.specs.List.{list_any}
use Rattle.std.specs.Map.{keys_of, lookup}
use Rattle.defs_match.specs.Laws.{IsIn}
use Rattle.defs_match.specs.declared.instance.Instance.{Instance}
use Rattle.match_changes.specs.Told.{AreTold, IsTheOne, key_of}
use Rattle.match_changes.specs.declared.key.MatchKey.{MatchKey}
use Rattle.open_instances.specs.Keeping.{AreLooked, AreLookedBut, Fits, IsLookedIn, gone_of, open_of}
use Rattle.open_instances.specs.Keys.{alike, count_in, key_cmp}
use Rattle.open_instances.specs.Noted as noted
use Rattle.open_instances.specs.Noted.{NotedKeys}
use Rattle.open_instances.specs.declared.kept.Kept.{Kept}
use Rattle.open_instances.proofs.KeyLemmas.{alike_back, alike_by, alike_same, in_any}

neither : (a b : Bool) → (a || b) ≡ false → (a ≡ false) × (b ≡ false)
neither true b h = absurd (cc)
neither false b h = (refl, h)

-- ---- what was told

not_told : (q : MatchKey) (keys : List MatchKey) → list_any (λ k. alike k q) keys ≡ false → IsIn q keys → ⊥
not_told q keys h i = (let bad : true ≡ false = sym (in_any q keys i) ∙ h in cc)

stays_one : (before after : List Instance) (keys : List MatchKey) (q : MatchKey) (found : Option Instance) → AreTold before after keys
    → (IsIn q keys → ⊥) → IsTheOne before q found → IsTheOne after q found
stays_one before after keys q None told apart one = λ i h e. one i ((told i (λ k. apart (subst (λ r. IsIn r keys) e k))).1 h) e
stays_one before after keys q (Some i) told apart one = ((told i (λ k. apart (subst (λ r. IsIn r keys) one.1 k))).0 one.0, one.1)

pub told_fits : (old : Kept) (touched : NotedKeys) (keys : List MatchKey)
    → ((q : MatchKey) → noted.contains key_cmp touched q ≡ (list_any (λ k. alike k q) keys || noted.contains key_cmp old.touched q))
    → (before after : List Instance) → AreTold before after keys → Fits before old → Fits after (record old { touched = touched })
told_fits old touched keys grown before after told fits fresh = looked
  where
    kept : AreLooked before old
    kept = fits fresh

    looked : AreLooked after (record old { touched = touched })
    looked q h =
        let apart = neither (list_any (λ k. alike k q) keys) (noted.contains key_cmp old.touched q) (sym (grown q) ∙ h) in
        let was : IsLookedIn before old q = kept q apart.1 in
        record { found = was.found; is = stays_one before after keys q was.found told (not_told q keys apart.0) was.is; open_is = was.open_is; gone_is = was.gone_is }

-- ---- all anew

any_in : (is : List Instance) (q : MatchKey) (i : Instance) → IsIn i is → key_of i ≡ q → list_any (λ i. alike (key_of i) q) is ≡ true
any_in [] q i h e = absurd h
any_in (x ∷ is) q i (inl h) e = ap (λ b. b || list_any (λ i. alike (key_of i) q) is) (alike_by (key_of x) q (ap key_of h ∙ e))
any_in (x ∷ is) q i (inr h) e = by (alike (key_of x) q) (list_any (λ i. alike (key_of i) q) is) (any_in is q i h e)
  where
    by : (a b : Bool) → b ≡ true → (a || b) ≡ true
    by true b h = refl
    by false b h = h

none_counted : (q : MatchKey) (es : List (MatchKey × ℕ)) → list_any (λ k. alike k q) (keys_of es) ≡ false → lookup (λ k. map.is_at (key_cmp q) k) es ≡ None
none_counted q [] h = refl
none_counted q (e ∷ es) h =
    let apart = neither (alike e.0 q) (list_any (λ k. alike k q) (keys_of es)) h in
    ap (λ b. cond b (Some e.1) (lookup (λ k. map.is_at (key_cmp q) k) es)) (alike_back q e.0 ∙ apart.0) ∙ none_counted q es apart.1

pub renewed : (instances : List Instance) (kept : Kept) → kept.free.entries ≡ [] → kept.gone.keys ≡ []
    → ((q : MatchKey) → noted.contains key_cmp kept.touched q ≡ (list_any (λ i. alike (key_of i) q) instances || list_any (λ k. alike k q) (table.keys kept.counts))) → AreLooked instances kept
renewed instances kept free gone touched q h = record {
  found = None;
  is = λ i k e. (let bad : true ≡ false = sym (any_in instances q i k e) ∙ apart.0 in cc);
  open_is = ap (λ es. lookup (λ k. map.is_at (key_cmp q) k) es) free ∙ ap (λ n. open_of (nat_lt 0 n) None) (sym none);
  gone_is = ap (λ ks. list_any (λ k. map.is_at (key_cmp q) k) ks) gone ∙ ap (λ n. gone_of (nat_lt 0 n) None) (sym none);
}
  where
    apart : (list_any (λ i. alike (key_of i) q) instances ≡ false) × (list_any (λ k. alike k q) (table.keys kept.counts) ≡ false)
    apart = neither (list_any (λ i. alike (key_of i) q) instances) (list_any (λ k. alike k q) (table.keys kept.counts)) (sym (touched q) ∙ h)

    none : count_in kept.counts q ≡ 0
    none = ap (λ o. unwrap_or o 0) (none_counted q kept.counts.entries apart.1)

-- ---- a key that is looked at

pub looked_at : (old : Kept) (gone : BTreeSet MatchKey) (free : BTreeMap MatchKey Instance) (key : MatchKey) (found : Option Instance)
    → ((q : MatchKey) → set.contains key_cmp gone q ≡ cond (alike key q) (gone_of (nat_lt 0 (count_in old.counts key)) found) (set.contains key_cmp old.gone q))
    → ((q : MatchKey) → map.get key_cmp free q ≡ cond (alike key q) (open_of (nat_lt 0 (count_in old.counts key)) found) (map.get key_cmp old.free q))
    → (instances : List Instance) → IsTheOne instances key found → AreLookedBut key instances old → AreLooked instances (record old { free = free; gone = gone })
looked_at old gone free key found gone_is open_is instances one but = looked
  where
    here : (q : MatchKey) → alike key q ≡ true → IsLookedIn instances (record old { free = free; gone = gone }) q
    here q e =
        let same = alike_same key q e in
        record {
          found = found;
          is = subst (λ k. IsTheOne instances k found) same one;
          open_is = open_is q ∙ ap (λ b. cond b (open_of (nat_lt 0 (count_in old.counts key)) found) (map.get key_cmp old.free q)) e ∙ ap (λ k. open_of (nat_lt 0 (count_in old.counts k)) found) same;
          gone_is = gone_is q ∙ ap (λ b. cond b (gone_of (nat_lt 0 (count_in old.counts key)) found) (set.contains key_cmp old.gone q)) e ∙ ap (λ k. gone_of (nat_lt 0 (count_in old.counts k)) found) same;
        }

    there : (q : MatchKey) → alike key q ≡ false → IsLookedIn instances old q → IsLookedIn instances (record old { free = free; gone = gone }) q
    there q e was = record {
      found = was.found;
      is = was.is;
      open_is = open_is q ∙ ap (λ b. cond b (open_of (nat_lt 0 (count_in old.counts key)) found) (map.get key_cmp old.free q)) e ∙ was.open_is;
      gone_is = gone_is q ∙ ap (λ b. cond b (gone_of (nat_lt 0 (count_in old.counts key)) found) (set.contains key_cmp old.gone q)) e ∙ was.gone_is;
    }

    looked : AreLooked instances (record old { free = free; gone = gone })
    looked q h = by (alike key q) refl
      where
        by : (b : Bool) → alike key q ≡ b → IsLookedIn instances (record old { free = free; gone = gone }) q
        by true e = here q e
        by false e = there q e (but q h e)
