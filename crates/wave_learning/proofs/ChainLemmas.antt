-- The explanation of a firing ends with it.
use Rattle.std.proofs.Common.{◌≡◌, refl, ◌∙◌, ap, ap₂, subst, ℕ, ◌≤◌, ◌<◌, ◌==◌, Bool, true, false, cond, inl, inr, arith, List, [], ◌∷◌, ◌++◌, map, flat_map, filter}
use Rattle.std.proofs.lemmas.Grind.{flat_map-append}
use Rattle.std.specs.Prelude.{not}
use Rattle.soar_wm.specs.declared.element.Element.{Element}
use Rattle.chunk_back.specs.Makers.{MakersAreEarlier}
use Rattle.defs_soar.specs.declared.preference.Wish.{Wish}
use Rattle.defs_soar.specs.ChainIdentifiers.{firing_in, firings_of}
use Rattle.defs_soar.specs.Explanation.{TagNaming, as_item_step, as_select_step, architecture_of, by_tag, chain_of, explaining, firing_of, firing_steps, is_seen, item_of, namings_in_order, selection_of}
use Rattle.defs_soar.specs.History.{FiringOf, architecture_step, fire_step}
use Rattle.defs_soar.specs.Laws.{IsIn}
use Rattle.agent_laws.proofs.ReachLaws.{explaining_has_roots, explaining_rises, explaining_within}
use Rattle.learning_laws.proofs.ExplainNumbers.{AllAbove, Rising}
use Rattle.learning_laws.proofs.Lists.{filter_within, same_number}
use Rattle.chunk_learn.specs.Candidates.{depth_of_last}

-- ---- the firings among the steps

none_architecture : (es : List Element) → flat_map firing_in (map architecture_step es) ≡ []
none_architecture [] = refl
none_architecture (e ∷ es) = none_architecture es

none_items : (ns : List TagNaming) → flat_map firing_in (map as_item_step ns) ≡ []
none_items [] = refl
none_items (n ∷ ns) = none_items ns

none_selected : (ns : List TagNaming) → flat_map firing_in (map as_select_step ns) ≡ []
none_selected [] = refl
none_selected (n ∷ ns) = none_selected ns

firings_told : (seen : List TagNaming) (fs : List FiringOf) → flat_map firing_in (firing_steps seen fs) ≡ fs
firings_told seen [] = refl
firings_told seen (f ∷ fs) =
    let new = filter (λ n. not (is_seen seen n)) (namings_in_order (flat_map selection_of f.used)) in
    flat_map-append firing_in (map as_select_step new) (fire_step f ∷ firing_steps (seen ++ new) fs)
    ∙ ap₂ (λ (xs ys : List FiringOf). xs ++ (f ∷ ys)) (none_selected new) (firings_told (seen ++ new) fs)

firings_are : (all : List FiringOf) (roots : List ℕ) (results : List Wish) → firings_of (chain_of all roots results) ≡ flat_map (firing_of all) (explaining all roots)
firings_are all roots results =
    let fs = flat_map (firing_of all) (explaining all roots) in
    let uses = flat_map (λ (f : FiringOf). f.used) fs in
    let items = namings_in_order (flat_map item_of uses) in
    flat_map-append firing_in (map architecture_step (by_tag (flat_map architecture_of uses))) (map as_item_step items ++ firing_steps [] fs)
    ∙ ap₂ (λ (xs ys : List FiringOf). xs ++ ys) (none_architecture (by_tag (flat_map architecture_of uses)))
    (flat_map-append firing_in (map as_item_step items) (firing_steps [] fs) ∙ ap₂ (λ (xs ys : List FiringOf). xs ++ ys) (none_items items) (firings_told [] fs))

-- ---- the last of them

last_then : (depth : ℕ) (xs ys : List FiringOf) → depth_of_last depth (xs ++ ys) ≡ depth_of_last (depth_of_last depth xs) ys
last_then depth [] ys = refl
last_then depth (f ∷ xs) ys = last_then f.depth xs ys

found_both : (past more : List FiringOf) (n : ℕ) → firing_of (past ++ more) n ≡ firing_of past n ++ firing_of more n
found_both [] more n = refl
found_both (g ∷ past) more n = go (g.number == n) (found_both past more n)
  where
    go : (b : Bool) → firing_of (past ++ more) n ≡ firing_of past n ++ firing_of more n → cond b (g ∷ firing_of (past ++ more) n) (firing_of (past ++ more) n) ≡ cond b (g ∷ firing_of past n) (firing_of past n) ++ firing_of more n
    go true q = ap (λ l. g ∷ l) q
    go false q = q

module _ (past : List FiringOf) (f : FiringOf) (new : firing_of past f.number ≡ []) (earlier : MakersAreEarlier (past ++ f ∷ [])) where
  abbrev all : List FiringOf
  all = past ++ f ∷ []

  own : firing_of all f.number ≡ f ∷ []
  own = found_both past (f ∷ []) f.number ∙ ap (λ l. l ++ firing_of (f ∷ []) f.number) new ∙ go (f.number == f.number) refl
    where
      go : (b : Bool) → (f.number == f.number) ≡ b → cond b (f ∷ []) [] ≡ f ∷ []
      go true q = refl
      go false q = absurd (grind arith)

  none_above : (ns : List ℕ) → AllAbove f.number ns → ((n : ℕ) → IsIn n ns → n ≤ f.number) → ns ≡ []
  none_above [] above low = refl
  none_above (n ∷ ns) above low = let less : f.number < n = above.0 in let few : n ≤ f.number = low n (inl refl) in absurd (omega arith)

  last_is : (depth : ℕ) (ns : List ℕ) → Rising ns → ((n : ℕ) → IsIn n ns → n ≤ f.number) → IsIn f.number ns → depth_of_last depth (flat_map (firing_of all) ns) ≡ f.depth
  last_is depth [] rising low i = absurd i
  last_is depth (n ∷ ns) rising low (inr i) =
      last_then depth (firing_of all n) (flat_map (firing_of all) ns) ∙ last_is (depth_of_last depth (firing_of all n)) ns rising.1 (λ m j. low m (inr j)) i
  last_is depth (n ∷ ns) rising low (inl q) =
      let rest : ns ≡ [] = none_above ns (subst (λ m. AllAbove m ns) q rising.0) (λ m j. low m (inr j)) in
      ap₂ (λ (m : ℕ) (ms : List ℕ). depth_of_last depth (firing_of all m ++ flat_map (firing_of all) ms)) q rest ∙ ap (λ l. depth_of_last depth (l ++ [])) own

  -- where no root is above it
  pub ends_with_it : (roots : List ℕ) (results : List Wish) → ((n : ℕ) → IsIn n roots → n ≤ f.number) → IsIn f.number roots → depth_of_last 0 (firings_of (chain_of all roots results)) ≡ f.depth
  ends_with_it roots results low has =
      ap (depth_of_last 0) (firings_are all roots results)
      ∙ last_is 0 (explaining all roots) (explaining_rises all roots)
      (explaining_within all (λ n. n ≤ f.number) roots low
      (λ n g few i m j.
      let at = filter_within (λ (x : FiringOf). x.number == n) all g i in
      let less : m < g.number = earlier g at.0 m j in
      let same : g.number ≡ n = same_number g.number n at.1 in
      let high : n ≤ f.number = few in omega arith))
      (explaining_has_roots all roots f.number has)
