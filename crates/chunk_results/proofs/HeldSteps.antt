-- Steps of finding what hangs on results.
use Rattle.std.proofs.Common.{◌≡◌, ◌∙◌, sym, ap, ℕ, ◌+◌, ◌*◌, ◌-◌, ◌<◌, ◌≤◌, arith, Bool, subst, List, [], ◌∷◌, ◌++◌, length, drop, get_or, filter, flat_map}
use Rattle.std.proofs.lemmas.List.{drop_more}
use Rattle.std.proofs.lemmas.List.Elements.{filter-append}
use Rattle.std.proofs.lemmas.Grind.{flat_map-append}
use Rattle.soar_sym.specs.declared.symbol.Sym.{Sym}
use Rattle.defs_soar.specs.declared.preference.Wish.{Wish}
use Rattle.defs_soar.specs.Results.{named_by, with_each_symbol}
use Rattle.defs_soar.specs.Sorted.{has_symbol}
use Rattle.level_graph.specs.Listed.{LinkList, listed}
use Rattle.chunk_results.proofs.EachLemmas.{each_after, each_longer, each_weighs, filter_has, listed_within, unseen}
use Rattle.level_laws.proofs.ReachedLemmas.{and_parts}

module _ (hangs : Sym → Bool) where
  -- ---- one list after another

  both : (xs ys order : List Sym) → with_each_symbol (with_each_symbol order (filter hangs xs)) (filter hangs ys) ≡ with_each_symbol order (filter hangs (xs ++ ys))
  both xs ys order = sym (ap (with_each_symbol order) (filter-append hangs xs ys) ∙ each_after (filter hangs xs) (filter hangs ys) order)

  module _ (r : Wish → Bool) (wishes : List Wish) (i : ℕ) (d : Wish) (less : i < length wishes) where
    abbrev from : List Wish → List Sym
    from ws = flat_map named_by (filter r ws)

    from_both : (w : Wish) (ws : List Wish) → from (w ∷ ws) ≡ from (w ∷ []) ++ from ws
    from_both w ws = ap (flat_map named_by) (filter-append r (w ∷ []) ws) ∙ flat_map-append named_by (filter r (w ∷ [])) (filter r ws)

    pub wish_step : (order : List Sym)
        → with_each_symbol (with_each_symbol order (filter hangs (flat_map named_by (filter r (get_or wishes i d ∷ []))))) (filter hangs (flat_map named_by (filter r (drop (i + 1) wishes))))
        ≡ with_each_symbol order (filter hangs (flat_map named_by (filter r (drop i wishes))))
    wish_step order =
        both (from (get_or wishes i d ∷ [])) (from (drop (i + 1) wishes)) order
        ∙ ap (λ l. with_each_symbol order (filter hangs l)) (sym (ap from (drop_more wishes i d less) ∙ from_both (get_or wishes i d) (drop (i + 1) wishes)))

  -- what is found from one symbol weighs no more than it took from what is not found
  links_weigh : (links : LinkList) (x : Sym) (order : List Sym)
      → 2 * unseen (flat_map (λ l. l.1) links) (with_each_symbol order (filter hangs (listed links x))) + length (with_each_symbol order (filter hangs (listed links x))) ≤ 2 * unseen (flat_map (λ l. l.1) links) order + length order
  links_weigh links x order =
      each_weighs (filter hangs (listed links x)) (flat_map (λ l. l.1) links) order (λ s h. listed_within links x s (and_parts (hangs s) (has_symbol (listed links x) s) (sym (filter_has hangs (listed links x) s) ∙ h)).1)

  -- so a step is one less to go
  pub step_less : (links : LinkList) (x : Sym) (order new : List Sym) (at : ℕ) → new ≡ with_each_symbol order (filter hangs (listed links x)) → at < length order
      → 2 * unseen (flat_map (λ l. l.1) links) new + (length new - (at + 1)) < 2 * unseen (flat_map (λ l. l.1) links) order + (length order - at)
  step_less links x order new at e less =
      subst (λ n. 2 * unseen (flat_map (λ l. l.1) links) n + (length n - (at + 1)) < 2 * unseen (flat_map (λ l. l.1) links) order + (length order - at)) (sym e)
      (omega (arith, links_weigh links x order, each_longer (filter hangs (listed links x)) order, less))
