-- What a goal depends on, as the history grows.
use Rattle.std.proofs.Common.{◌≡◌, refl, sym, ◌∙◌, ap, ap₂, subst, ℕ, ◌≤◌, ◌<◌, Bool, true, false, ◌==◌, cond, inl, inr, arith, List, [], ◌∷◌, ◌++◌, map, flat_map, filter, append_assoc}
use Rattle.std.proofs.lemmas.List.{append-nil}
use Rattle.soar_sym.specs.declared.symbol.Sym.{Sym}
use Rattle.defs_soar.specs.declared.firing.How.{How}
use Rattle.defs_soar.specs.declared.firing.How.TheVariants as how
use Rattle.defs_soar.specs.declared.firing.Used.{Used}
use Rattle.defs_soar.specs.Dependencies.{counts_for, dependency_set, had_level_below, higher_grounds}
use Rattle.defs_soar.specs.Explanation.{explaining, firing_of, maker_named}
use Rattle.defs_soar.specs.History.{ChainOf, FiringOf, RecordedFiring}
use Rattle.defs_soar.specs.Laws.{IsIn}
use Rattle.defs_soar.specs.WaveAtHand.{all_fresh}
use Rattle.learning_laws.specs.LawfulAgents.{firings_of_agent}
use Rattle.learning_laws.specs.Record.{UseIsLawful}
use Rattle.learning_laws.proofs.Lists.{filter_within, in_flat_map, in_left, in_map, in_mapped, same_number}
use Rattle.learning_laws.proofs.WorkLaws.{map_both}
use Rattle.agent_laws.specs.Dependence.{AreLater, DependenciesGrow, DependenciesInTurn, firings_in, MakersAreEarlier, pasts_of, tags_added, tags_in_turn, TagsByRecord, WavesAddDependencies}
use Rattle.agent_laws.proofs.ReachLaws.{explaining_within}
use Rattle.agent_laws.proofs.RecordLaws.{chains_by_record, same_chain}

abbrev grounds_below : ℕ → RecordedFiring → ChainOf → List ℕ
grounds_below depth past chain = map (λ e. e.tag) (filter (λ e. had_level_below past.before depth e.id) chain.grounds)

pub tags_by_record : TagsByRecord
tags_by_record kept firings depth past h = ap (grounds_below depth past) (chains_by_record kept firings (past.firing.number ∷ []) [] h)

-- ---- firings of lesser numbers alone explain a firing

only_earlier : (firings : List FiringOf) (number : ℕ) → MakersAreEarlier firings → (n : ℕ) → IsIn n (explaining firings (number ∷ [])) → n ≤ number
only_earlier firings number earlier =
    explaining_within firings (λ n. n ≤ number) (number ∷ []) (λ n i. elim i [ inl e ↦ omega arith | inr z ↦ absurd z ])
    (λ n f l i m j.
    let k = filter_within (λ f. f.number == n) firings f i in
    let e : f.number ≡ n = same_number f.number n k.1 in
    let less : m < f.number = earlier f k.0 m j in omega arith)

-- later firings are of no number up to one
pub none_of : (n : ℕ) (new : List FiringOf) → ((f : FiringOf) → IsIn f new → n < f.number) → firing_of new n ≡ []
none_of n [] h = refl
none_of n (f ∷ new) h = go (f.number == n) refl (none_of n new (λ g i. h g (inr i)))
  where
    go : (b : Bool) → (f.number == n) ≡ b → firing_of new n ≡ [] → cond b (f ∷ firing_of new n) (firing_of new n) ≡ []
    go true q later = let less : n < f.number = h f (inl refl) in let e : f.number ≡ n = same_number f.number n q in absurd (omega arith)
    go false q later = later

pub filter_both : {A : Type 0} (p : A → Bool) (xs ys : List A) → filter p (xs ++ ys) ≡ filter p xs ++ filter p ys
filter_both p [] ys = refl
filter_both {A} p (x ∷ xs) ys = go (p x) (filter_both p xs ys)
  where
    go : (b : Bool) → filter p (xs ++ ys) ≡ filter p xs ++ filter p ys → ◌≡◌ {A = List A} (cond b (x ∷ filter p (xs ++ ys)) (filter p (xs ++ ys))) (cond b (x ∷ filter p xs) (filter p xs) ++ filter p ys)
    go true later = ap (λ l. x ∷ l) later
    go false later = later

flat_both : {A B : Type 0} (f : A → List B) (xs ys : List A) → flat_map f (xs ++ ys) ≡ flat_map f xs ++ flat_map f ys
flat_both f [] ys = refl
flat_both f (x ∷ xs) ys = ap (λ l. f x ++ l) (flat_both f xs ys) ∙ sym (append_assoc (f x) (flat_map f xs) (flat_map f ys))

flat_same : {A B : Type 0} (f g : A → List B) (xs : List A) → ((x : A) → IsIn x xs → f x ≡ g x) → flat_map f xs ≡ flat_map g xs
flat_same f g [] h = refl
flat_same f g (x ∷ xs) h = ap₂ (λ a b. a ++ b) (h x (inl refl)) (flat_same f g xs (λ y i. h y (inr i)))

module _ (old new : List RecordedFiring) (earlier : MakersAreEarlier (firings_in old)) (later : AreLater old new) where
  -- what an old firing reaches is the same with the new ones
  agree : (p : RecordedFiring) → IsIn p old → (n : ℕ) → IsIn n (explaining (firings_in old) (p.firing.number ∷ [])) → firing_of (firings_in (old ++ new)) n ≡ firing_of (firings_in old) n
  agree p i n j =
      let low : n ≤ p.firing.number = only_earlier (firings_in old) p.firing.number earlier n j in
      ap (λ fs. firing_of fs n) (map_both (λ (past : RecordedFiring). past.firing) old new)
      ∙ filter_both (λ f. f.number == n) (firings_in old) (firings_in new)
      ∙ ap (λ fs. firing_of (firings_in old) n ++ fs) (none_of n (firings_in new) (λ f k. let q = in_map (λ (past : RecordedFiring). past.firing) f new k in let less : p.firing.number < q.0.firing.number = later p q.0 i q.1 in subst (λ (g : FiringOf). n < g.number) q.2 (omega arith)))
      ∙ append-nil (firing_of (firings_in old) n)

  same_tags : (depth : ℕ) (p : RecordedFiring) → IsIn p old → higher_grounds (firings_in (old ++ new)) depth p ≡ higher_grounds (firings_in old) depth p
  same_tags depth p i = ap (grounds_below depth p) (same_chain (firings_in old) (firings_in (old ++ new)) (p.firing.number ∷ []) (agree p i) [])

  pub grows : (goal : Sym) (depth : ℕ) → dependency_set (old ++ new) goal depth ≡ dependency_set old goal depth ++ tags_added (old ++ new) new goal depth
  unfolding dependency_set
  grows goal depth =
      ap (flat_map (higher_grounds (firings_in (old ++ new)) depth)) (filter_both (counts_for goal depth) old new)
      ∙ flat_both (higher_grounds (firings_in (old ++ new)) depth) (filter (counts_for goal depth) old) (filter (counts_for goal depth) new)
      ∙ ap (λ l. l ++ tags_added (old ++ new) new goal depth)
      (flat_same (higher_grounds (firings_in (old ++ new)) depth) (higher_grounds (firings_in old) depth) (filter (counts_for goal depth) old)
      (λ p i. same_tags depth p (filter_within (counts_for goal depth) old p i).0))

pub dependencies_grow : DependenciesGrow
dependencies_grow old new goal depth earlier later = grows old new earlier later goal depth

-- ---- in turn

earlier_front : (xs ys : List RecordedFiring) → MakersAreEarlier (firings_in (xs ++ ys)) → MakersAreEarlier (firings_in xs)
earlier_front xs ys h f i n j = h f (subst (λ fs. IsIn f fs) (sym (map_both (λ (past : RecordedFiring). past.firing) xs ys)) (in_left f (firings_in xs) (firings_in ys) i)) n j

pub dependencies_in_turn : DependenciesInTurn
dependencies_in_turn old [] goal depth earlier turn = ap (λ h. dependency_set h goal depth) (append-nil old) ∙ sym (append-nil (dependency_set old goal depth))
dependencies_in_turn old (p ∷ new) goal depth earlier turn =
    ap (λ h. dependency_set h goal depth) (sym split)
    ∙ dependencies_in_turn (old ++ p ∷ []) new goal depth (subst (λ h. MakersAreEarlier (firings_in h)) (sym split) earlier) turn.1
    ∙ ap (λ l. l ++ tags_in_turn (old ++ p ∷ []) new goal depth) (grows old (p ∷ []) (earlier_front old (p ∷ new) earlier) turn.0 goal depth)
    ∙ append_assoc (dependency_set old goal depth) (tags_added (old ++ p ∷ []) (p ∷ []) goal depth) (tags_in_turn (old ++ p ∷ []) new goal depth)
  where
    split : (old ++ p ∷ []) ++ new ≡ old ++ p ∷ new
    split = append_assoc old (p ∷ []) new

-- ---- in a wave of a lawful agent

earlier_used : (firings : List FiringOf) (f : FiringOf) (u : Used) (n : ℕ) → UseIsLawful firings f u → IsIn n (maker_named u) → n < f.number
earlier_used firings f u n h i = go u.how h i
  where
    go : (way : How) → UseIsLawful firings f (record u { how = way }) → IsIn n (maker_named (record u { how = way })) → n < f.number
    go how.Upper k j = absurd j
    go how.Architecture k j = absurd j
    go (how.Item tag) k j = absurd j
    go (how.Selected tag) k j = absurd j
    go (how.Made m) k (inl e) = subst (λ x. x < f.number) e k.earlier
    go (how.Made m) k (inr z) = absurd z

pub waves_add_dependencies : WavesAddDependencies
waves_add_dependencies a gone w goal depth h k =
    grows a.history (pasts_of a gone w)
    (λ f i n j. let u = in_flat_map maker_named n f.used j in earlier_used (firings_of_agent a) f u.0 n (h.founded.history.uses f i u.0 u.1) u.2)
    (λ p q i j.
    let x = in_map _ q (all_fresh w.entries) j in
    let low : p.firing.number ≤ a.counts.firings = h.founded.history.last_is p.firing (in_mapped (λ (past : RecordedFiring). past.firing) p a.history i) in
    let high : a.counts.firings < x.0.firing.number = k.later x.0 x.1 in
    let e : x.0.firing.number ≡ q.firing.number = ap (λ (past : RecordedFiring). past.firing.number) x.2 in omega arith)
    goal depth
