-- Once all that may be lost is forgotten, levels can spread anew.
use Rattle.std.proofs.Common.{◌≡◌, ℕ, zero, suc, ◌+◌, ◌-◌, ◌<◌, ◌||◌, Bool, true, false, List, [], ◌∷◌, map, Option, Some, None, is_some, option_map, refl, sym, ap, ◌∙◌, ◌⊎◌, inl, inr, arith}
use Rattle.soar_sym.specs.Equality.{symbol_eq}
use Rattle.soar_sym.specs.declared.symbol.Sym.{Sym}
use Rattle.soar_sym.specs.declared.symbol.Sym.TheVariants.{Word}
use Rattle.soar_sym.specs.declared.symbol.Triple.{Triple}
use Rattle.defs_soar.specs.Levels.{or_reached}
use Rattle.defs_soar.specs.Sorted.{has_symbol}
use Rattle.level_laws.specs.Labels.{has_edge, Labels, as_told, depth_of_goal, GoalsHaveDepths}
use Rattle.level_laws.proofs.ReachedLemmas.{or_first, or_second}
use Rattle.level_laws.proofs.LabelLemmas.{at_place}
use Rattle.level_graph.specs.Spreading.{Spreads}
use Rattle.level_change.specs.declared.forgetting.Had.{Had}
use Rattle.level_change.specs.Anew.{CanSpread}
use Rattle.level_change.specs.Counts.{edge_count, IsChanged}
use Rattle.level_change.specs.Edges.{with_all, without_all}
use Rattle.level_change.specs.Forgetting.{StaysGoal, Waits, Forgetting, has_had, and_had}
use Rattle.level_change.specs.declared.store.Store.{Store}
use Rattle.level_change.specs.Links.{is_linked, if_any, IsCounted, turned}
use Rattle.level_change.specs.Passing.{and_edges, no_links}
use Rattle.level_change.specs.Seeds.{seeds_in}
use Rattle.level_change.proofs.ForgetLemmas.{forgetting_is_safe, forgets_of}
use Rattle.level_change.proofs.SeedLemmas.{seeds_cut, seeds_goal}
use Rattle.level_change.proofs.StandLemmas.{any_edge}

-- ---- counts

pub recounted : (held gone come after : List Triple) → IsChanged held gone come after → (x y : Sym) → without_all gone (with_all come (edge_count held)) x y ≡ edge_count after x y
recounted held gone come after changed x y = by (edge_count held x y) (edge_count gone x y) (edge_count come x y) (edge_count after x y) (changed x y)
  where
    by : (h g c a : ℕ) → a + g ≡ h + c → h + c - g ≡ a
    by h g c a e = omega (arith, e)

some_of : (n : ℕ) → 0 < n → is_some (if_any n) ≡ true
some_of zero h = absurd (omega (arith, h))
some_of (suc n) h = refl

any_of : (n : ℕ) → is_some (if_any n) ≡ true → 0 < n
any_of zero h = cc
any_of (suc n) h = omega arith

by_counts : (a g h c : ℕ) → a + g ≡ h + c → 0 < h → (0 < a) ⊎ (0 < g)
by_counts zero g h c e p = inr (omega (arith, e, p))
by_counts (suc a) g h c e p = inl (omega arith)

-- a link is still there, or a triple that is gone led so
pub still_or_gone : (held gone come after : List Triple) (old new : Store) → IsChanged held gone come after → IsCounted (edge_count held) old.base.entries old.late.entries → IsCounted (edge_count after) new.base.entries new.late.entries
    → (x y : Sym) → is_linked old x y ≡ true → (is_linked new x y ≡ true) ⊎ (has_edge gone x y ≡ true)
still_or_gone held gone come after old new changed was is x y link =
    elim (by_counts (edge_count after x y) (edge_count gone x y) (edge_count held x y) (edge_count come x y) (changed x y) (any_of (edge_count held x y) (ap is_some (sym (was x y)) ∙ link))) [
      | inl p ↦ inl (ap is_some (is x y) ∙ some_of (edge_count after x y) p)
      | inr p ↦ inr (sym (any_edge gone x y) ∙ some_of (edge_count gone x y) p)
    ]

-- a link was there, or a triple that came leads so
pub came_or_was : (held gone come after : List Triple) (old new : Store) → IsChanged held gone come after → IsCounted (edge_count held) old.base.entries old.late.entries → IsCounted (edge_count after) new.base.entries new.late.entries
    → (x y : Sym) → is_linked new x y ≡ true → (has_edge come x y ≡ true) ⊎ (is_linked old x y ≡ true)
came_or_was held gone come after old new changed was is x y link =
    elim (by_counts (edge_count come x y) (edge_count held x y) (edge_count after x y) (edge_count gone x y) (flip (edge_count after x y) (edge_count gone x y) (edge_count held x y) (edge_count come x y) (changed x y)) (any_of (edge_count after x y) (ap is_some (sym (is x y)) ∙ link))) [
      | inl p ↦ inl (sym (any_edge come x y) ∙ some_of (edge_count come x y) p)
      | inr p ↦ inr (ap is_some (was x y) ∙ some_of (edge_count held x y) p)
    ]
  where
    flip : (a g h c : ℕ) → a + g ≡ h + c → c + h ≡ a + g
    flip a g h c e = omega (arith, e)

pub both_ways : (triples : List Triple) (out into : Store) → IsCounted (edge_count triples) out.base.entries out.late.entries → IsCounted (turned (edge_count triples)) into.base.entries into.late.entries → (x y : Sym) → is_linked out x y ≡ is_linked into y x
both_ways triples out into a b x y = ap is_some (a x y ∙ sym (b y x))

-- ---- the symbols of what was forgotten

pub had_symbols : (had : List Had) (s : Sym) → has_symbol (map (λ h. h.id) had) s ≡ has_had had s
had_symbols [] s = refl
had_symbols (h ∷ had) s = ap (λ b. symbol_eq s h.id || b) (had_symbols had s)

-- ---- levels

none_some : (n : ℕ) (x : Option ℕ) → x ≡ None → x ≡ Some n → true ≡ false
none_some n x a b = absurd (let e : None ≡ Some n = sym a ∙ b in cc)

no_depth : (s : Sym) (goals : List Sym) (x : Option ℕ) → depth_of_goal goals s ≡ x → has_symbol goals s ≡ false → depth_of_goal goals s ≡ None
no_depth s goals None e h = e
no_depth s goals (Some d) e h = absurd (let f : true ≡ false = sym (at_place s 1 d goals e) ∙ h in cc)

or_none : (x : Option ℕ) → or_reached x None ≡ x
or_none None = refl
or_none (Some n) = refl

pub can_spread : (old_links links : Store) (old : List Sym) (first now : Labels) (gone come : List Triple) (goals : List Sym) (had : List Had) → Spreads (is_linked old_links) old first []
    → ((x y : Sym) → is_linked old_links x y ≡ true → (is_linked links x y ≡ true) ⊎ (has_edge gone x y ≡ true))
    → ((x y : Sym) → is_linked links x y ≡ true → (has_edge come x y ≡ true) ⊎ (is_linked old_links x y ≡ true))
    → ((x : Sym) → Forgetting (is_linked links) old first now had [] x [])
    → ((s : Sym) (n : ℕ) → has_symbol (seeds_in first links old gone goals) s ≡ true → first s ≡ Some n → has_had had s ≡ true)
    → CanSpread (is_linked links) goals now (and_edges come (and_had had no_links))
can_spread old_links links old first now gone come goals had sp still came forgetting seeds kept waiting depths changed =
    forgetting_is_safe (is_linked old_links) old first (is_linked links) goals (has_had had) kept waiting (and_edges come (and_had had no_links)) sp
    (forgets_of (is_linked old_links) old first now (is_linked links) goals had start (forgetting start) by_link by_goal)
    (record { goals = told; gone = gone_now; rest = rest }) waits
  where
    start : Sym
    start = Word 0

    by_goal : (s : Sym) (n : ℕ) → first s ≡ Some n → StaysGoal old goals s ⊎ (has_had had s ≡ true)
    by_goal s n at = elim (seeds_goal first links old gone goals s) [ inl stays ↦ inl stays | inr h ↦ inr (seeds s n h at) ]

    cut : (a b : Sym) (n : ℕ) → has_edge gone a b ≡ true → first a ≡ Some n → first b ≡ Some n → has_symbol old b ≡ false → (l : Bool) → is_linked links a b ≡ l → (is_linked links a b ≡ true) ⊎ (has_had had b ≡ true)
    cut a b n edge at_a at_b ng true e = inl e
    cut a b n edge at_a at_b ng false e = inr (seeds b n (seeds_cut first links old gone goals a b n edge e ng at_a at_b) at_b)

    by_link : (a b : Sym) (n : ℕ) → is_linked old_links a b ≡ true → first a ≡ Some n → first b ≡ Some n → has_symbol old b ≡ false → (is_linked links a b ≡ true) ⊎ (has_had had b ≡ true)
    by_link a b n link at_a at_b ng = elim (still a b link) [ inl new ↦ inl new | inr edge ↦ cut a b n edge at_a at_b ng (is_linked links a b) refl ]

    -- what has a level now, had it
    was : (s : Sym) (n : ℕ) → now s ≡ Some n → (b : Bool) → has_had had s ≡ b → (first s ≡ Some n) × StaysGoal old goals s
    was s n at true e = absurd (let c : true ≡ false = none_some n (now s) ((forgetting s).none s e) at in cc)
    was s n at false e =
        let had_it : first s ≡ Some n = sym ((forgetting s).same s e) ∙ at in
        (had_it, elim (by_goal s n had_it) [ inl stays ↦ stays | inr h ↦ absurd (let c : true ≡ false = sym h ∙ e in cc) ])

    told_by : (g : Sym) (d : ℕ) → depth_of_goal goals g ≡ Some d → (x : Option ℕ) → now g ≡ x → or_reached x (Some (as_told d)) ≡ Some (as_told d)
    told_by g d place None e = refl
    told_by g d place (Some m) e =
        let w = was g m e (has_had had g) refl in
        sym w.0 ∙ sp.depths g d (sym w.1 ∙ place)

    told : GoalsHaveDepths goals kept
    told g d place = depths g ∙ ap (λ o. or_reached (now g) (option_map as_told o)) place ∙ told_by g d place (now g) refl

    no_goal : (s : Sym) → has_symbol goals s ≡ false → kept s ≡ now s
    no_goal s ng = depths s ∙ ap (λ o. or_reached (now s) (option_map as_told o)) (no_depth s goals (depth_of_goal goals s) refl ng) ∙ or_none (now s)

    gone_now : (s : Sym) → has_symbol goals s ≡ false → has_had had s ≡ true → kept s ≡ None
    gone_now s ng h = no_goal s ng ∙ (forgetting s).none s h

    rest : (s : Sym) → has_symbol goals s ≡ false → has_had had s ≡ false → kept s ≡ first s
    rest s ng h = no_goal s ng ∙ (forgetting s).same s h

    old_link : (x y : Sym) (n : ℕ) → is_linked old_links x y ≡ true → kept x ≡ Some n → (w : Bool) → has_symbol waiting x ≡ w → (h : Bool) → has_had had y ≡ h
        → (has_symbol waiting x ≡ true) ⊎ ((and_edges come (and_had had no_links) x y ≡ true) ⊎ ((is_linked old_links x y ≡ true) × (has_had had y ≡ false) × (StaysGoal old goals x)))
    old_link x y n link at true e h f = inl e
    old_link x y n link at false e true f = inr (inl (or_second (has_edge come x y) (and_had had no_links x y) (or_first (has_had had y) false f)))
    old_link x y n link at false e false f = inr (inr (link, f, (was x n (sym (changed x e) ∙ at) (has_had had x) refl).1))

    waits : Waits (is_linked old_links) old (is_linked links) goals (has_had had) kept waiting (and_edges come (and_had had no_links))
    waits x y n link at ng =
        elim (came x y link) [
          | inl edge ↦ inr (inl (or_first (has_edge come x y) (and_had had no_links x y) edge))
          | inr there ↦ old_link x y n there at (has_symbol waiting x) refl (has_had had y) refl
        ]
