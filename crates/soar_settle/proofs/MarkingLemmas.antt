-- One kept triple more marks one element more, or none.
use Rattle.std.proofs.Common.{◌≡◌, ℕ, zero, suc, ◌+◌, ◌<◌, Bool, true, false, cond, not, ◌&&◌, ◌||◌, List, [], ◌∷◌, ◌++◌, length, get_or, set, take, replicate, map, filter, None, Some, refl, sym, subst, ap, ap₂, ◌∙◌, arith}
use Rattle.std.proofs.lemmas.List.{append-nil, take_more}
use Rattle.std.proofs.lemmas.List.Elements.{filter-append}
use Rattle.std.proofs.lemmas.List.Folds.{list_any-append, list_any_at}
use Rattle.soar_wm.specs.declared.element.Element.{Element}
use Rattle.soar_wm.specs.WorkingMemory.{IsDistinct, Lacks, has_triple, tag_of, triple_of}
use Rattle.soar_sym.specs.Equality.{mark_eq}
use Rattle.soar_sym.specs.declared.symbol.Triple.{Triple}
use Rattle.defs_soar.specs.declared.goal.Goal.{Goal}
use Rattle.defs_soar.specs.Settling.{new_triples, stays}
use Rattle.defs_soar.specs.Values.{has_triple_among, triple_eq}
use Rattle.level_graph.proofs.SymbolLemmas.{symbol_self}
use Rattle.soar_settle.specs.Marks.{HasTripleAt, StandsAt, is_flagged, no_element, stands, unmet}
use Rattle.soar_settle.proofs.KeyLemmas.{triple_turned}
use Rattle.soar_settle.proofs.TripleOrderLemmas.{no_triple, triple_same}

-- ---- tests

neither : (a b : Bool) → (a || b) ≡ false → (a ≡ false) × (b ≡ false)
neither true b h = cc
neither false b h = (refl, h)

or_false : (a : Bool) → (a || false) ≡ a
or_false true = refl
or_false false = refl

and_false : (a : Bool) → (a && false) ≡ false
and_false true = refl
and_false false = refl

apart : true ≡ false → ⊥
apart h = cc

mark_self : (b : Bool) → mark_eq b b ≡ true
mark_self true = refl
mark_self false = refl

triple_self : (t : Triple) → triple_eq t t ≡ true
triple_self t = λ k. symbol_self t.id k && (symbol_self t.attr k && (symbol_self t.value k && mark_self t.accept k))

-- ---- triples that no element has

pub lacks_missing : (t : Triple) (elements : List Element) → tag_of t elements ≡ None → Lacks t elements
lacks_missing t [] none = tt
lacks_missing t (e ∷ elements) none = by (has_triple t e) refl none (lacks_missing t elements)
  where
    by : (b : Bool) → has_triple t e ≡ b → cond b (Some e.tag) (tag_of t elements) ≡ None → (tag_of t elements ≡ None → Lacks t elements) → Lacks t (e ∷ elements)
    by true h none later = absurd (cc)
    by false h none later = (h, later none)

lacks_at : (t : Triple) (elements : List Element) (at : ℕ) → Lacks t elements → at < length elements → has_triple t (get_or elements at no_element) ≡ false
lacks_at t [] at lacks less = absurd (omega (arith, less))
lacks_at t (e ∷ elements) zero lacks less = lacks.0
lacks_at t (e ∷ elements) (suc at) lacks less = lacks_at t elements at lacks.1 (omega (arith, less))

module _ (goals : List Goal) where
  pub none_stands : (t : Triple) (elements : List Element) → Lacks t elements → stands goals elements t ≡ false
  none_stands t [] lacks = refl
  none_stands t (e ∷ elements) lacks = ap₂ (λ a b. (a && is_flagged goals e) || b) lacks.0 (none_stands t elements lacks.1)

  -- the others lack the triple that an element has
  others_lack : (t : Triple) (e : Element) (elements : List Element) → has_triple t e ≡ true → Lacks (triple_of e) elements → Lacks t elements
  others_lack t e elements has lacks = subst (λ u. Lacks u elements) (triple_same (triple_of e) t has) lacks

  -- the flag of the one element that has the triple is wrong
  pub none_flagged : (t : Triple) (elements : List Element) (at : ℕ) → HasTripleAt t elements at → is_flagged goals (get_or elements at no_element) ≡ false → IsDistinct elements
      → stands goals elements t ≡ false
  none_flagged t [] at is flag distinct = absurd (omega (arith, is.within))
  none_flagged t (e ∷ elements) zero is flag distinct =
      ap₂ (λ a b. (has_triple t e && a) || b) flag (none_stands t elements (others_lack t e elements is.has distinct.0))
      ∙ ap (λ a. a || false) (and_false (has_triple t e))
  none_flagged t (e ∷ elements) (suc at) is flag distinct =
      by (has_triple t e) refl (none_flagged t elements at (record { within = omega (arith, is.within); has = is.has }) flag distinct.1)
    where
      by : (b : Bool) → has_triple t e ≡ b → stands goals elements t ≡ false → ((b && is_flagged goals e) || stands goals elements t) ≡ false
      by true h later = absurd (apart (sym is.has ∙ lacks_at t elements at (others_lack t e elements h distinct.0) (omega (arith, is.within))))
      by false h later = later

  pub one_stands : (t : Triple) (elements : List Element) (at : ℕ) → StandsAt goals t elements at → stands goals elements t ≡ true
  one_stands t elements at is =
      list_any_at (λ e. has_triple t e && is_flagged goals e) elements at no_element is.has_is.within (ap₂ (λ a b. a && b) is.has_is.has is.flagged)

  -- ---- marks

  pub none_stay : (elements : List Element) → replicate (length elements) false ≡ map (stays goals []) elements
  none_stay [] = refl
  none_stay (e ∷ elements) = ap (λ l. false ∷ l) (none_stay elements)

  stays_more : (kept : List Triple) (t : Triple) (e : Element) → stays goals (kept ++ t ∷ []) e ≡ (stays goals kept e || (has_triple t e && is_flagged goals e))
  stays_more kept t e =
      ap (λ b. b && is_flagged goals e) (list_any-append (triple_eq (triple_of e)) kept (t ∷ []))
      ∙ by (has_triple_among kept (triple_of e)) (has_triple t e) (is_flagged goals e)
    where
      by : (a b c : Bool) → ((a || (b || false)) && c) ≡ ((a && c) || (b && c))
      by true true true = refl
      by true true false = refl
      by true false true = refl
      by true false false = refl
      by false true c = sym (or_false (true && c)) ∙ or_false (true && c)
      by false false c = refl

  pub none_marked : (kept : List Triple) (t : Triple) (elements : List Element) → stands goals elements t ≡ false
      → map (stays goals (kept ++ t ∷ [])) elements ≡ map (stays goals kept) elements
  none_marked kept t [] none = refl
  none_marked kept t (e ∷ elements) none =
      let parts = neither (has_triple t e && is_flagged goals e) (stands goals elements t) none in
      ap₂ (λ b l. b ∷ l) (stays_more kept t e ∙ ap (λ b. stays goals kept e || b) parts.0 ∙ or_false (stays goals kept e)) (none_marked kept t elements parts.1)

  one_marked : (kept : List Triple) (t : Triple) (elements : List Element) (at : ℕ) → HasTripleAt t elements at → is_flagged goals (get_or elements at no_element) ≡ true → IsDistinct elements
      → set (map (stays goals kept) elements) at true ≡ map (stays goals (kept ++ t ∷ [])) elements
  one_marked kept t [] at is flag distinct = absurd (omega (arith, is.within))
  one_marked kept t (e ∷ elements) zero is flag distinct =
      ap₂ (λ b l. b ∷ l)
      (sym (stays_more kept t e ∙ ap₂ (λ a b. stays goals kept e || (a && b)) is.has flag ∙ by (stays goals kept e)))
      (sym (none_marked kept t elements (none_stands t elements (others_lack t e elements is.has distinct.0))))
    where
      by : (a : Bool) → (a || true) ≡ true
      by true = refl
      by false = refl
  one_marked kept t (e ∷ elements) (suc at) is flag distinct =
      ap₂ (λ b l. b ∷ l)
      (sym (stays_more kept t e ∙ ap (λ a. stays goals kept e || (a && is_flagged goals e)) differs ∙ or_false (stays goals kept e)))
      (one_marked kept t elements at (record { within = omega (arith, is.within); has = is.has }) flag distinct.1)
    where
      by : (b : Bool) → has_triple t e ≡ b → b ≡ false
      by true h = absurd (apart (sym is.has ∙ lacks_at t elements at (others_lack t e elements h distinct.0) (omega (arith, is.within))))
      by false h = refl

      differs : has_triple t e ≡ false
      differs = by (has_triple t e) refl

  -- ---- one triple more

  none_so_far : (kept : List Triple) (t : Triple) (elements : List Element) → stands goals elements t ≡ false
      → unmet goals elements kept ++ t ∷ [] ≡ unmet goals elements (kept ++ t ∷ [])
  none_so_far kept t elements none = sym (
      filter-append (λ u. not (stands goals elements u)) kept (t ∷ [])
      ∙ ap (λ b. unmet goals elements kept ++ cond (not b) (t ∷ []) []) none)

  one_so_far : (kept : List Triple) (t : Triple) (elements : List Element) (at : ℕ) → StandsAt goals t elements at → IsDistinct elements
      → (set (map (stays goals kept) elements) at true ≡ map (stays goals (kept ++ t ∷ [])) elements) × (unmet goals elements kept ≡ unmet goals elements (kept ++ t ∷ []))
  one_so_far kept t elements at is distinct = (
    one_marked kept t elements at is.has_is is.flagged distinct,
    sym (
        filter-append (λ u. not (stands goals elements u)) kept (t ∷ [])
        ∙ ap (λ b. unmet goals elements kept ++ cond (not b) (t ∷ []) []) (one_stands t elements at is)
        ∙ append-nil (unmet goals elements kept)),
  )

  -- ---- a step of the loop

  module _ (kept : List Triple) (elements : List Element) (i : ℕ) (less : i < length kept) where
    abbrev pub t : Triple
    t = get_or kept i no_triple

    more : take (i + 1) kept ≡ take i kept ++ t ∷ []
    more = take_more kept i no_triple less

    pub none_next : stands goals elements t ≡ false
        → (map (stays goals (take i kept)) elements ≡ map (stays goals (take (i + 1) kept)) elements) × (unmet goals elements (take i kept) ++ t ∷ [] ≡ unmet goals elements (take (i + 1) kept))
    none_next none = (
      sym (ap (λ l. map (stays goals l) elements) more ∙ none_marked (take i kept) t elements none),
      none_so_far (take i kept) t elements none ∙ sym (ap (unmet goals elements) more),
    )

    pub one_next : (at : ℕ) → StandsAt goals t elements at → IsDistinct elements
        → (set (map (stays goals (take i kept)) elements) at true ≡ map (stays goals (take (i + 1) kept)) elements) × (unmet goals elements (take i kept) ≡ unmet goals elements (take (i + 1) kept))
    one_next at is distinct =
        let both = one_so_far (take i kept) t elements at is distinct in
        (both.0 ∙ sym (ap (λ l. map (stays goals l) elements) more), both.1 ∙ sym (ap (unmet goals elements) more))

  -- ---- what is new

  met : (kept : List Triple) (t : Triple) (elements : List Element) → has_triple_among kept t ≡ true
      → has_triple_among (map triple_of (filter (stays goals kept) elements)) t ≡ stands goals elements t
  met kept t [] among = refl
  met kept t (e ∷ elements) among = by (has_triple t e) refl (met kept t elements among)
    where
      rest : List Triple
      rest = map triple_of (filter (stays goals kept) elements)

      turned : triple_eq t (triple_of e) ≡ has_triple t e
      turned = triple_turned t (triple_of e)

      here : (b c : Bool) → (c ≡ true) → has_triple_among (map triple_of (cond (c && b) (e ∷ filter (stays goals kept) elements) (filter (stays goals kept) elements))) t
          ≡ cond b (triple_eq t (triple_of e) || has_triple_among rest t) (has_triple_among rest t)
      here true true h = refl
      here false true h = refl
      here b false h = absurd (cc)

      there : (b : Bool) → triple_eq t (triple_of e) ≡ false → has_triple_among (map triple_of (cond b (e ∷ filter (stays goals kept) elements) (filter (stays goals kept) elements))) t ≡ has_triple_among rest t
      there true h = ap (λ a. a || has_triple_among rest t) h
      there false h = refl

      flagged : (f : Bool) → triple_eq t (triple_of e) ≡ true → has_triple_among rest t ≡ stands goals elements t
          → cond f (triple_eq t (triple_of e) || has_triple_among rest t) (has_triple_among rest t) ≡ ((true && f) || stands goals elements t)
      flagged true h later = ap (λ a. a || has_triple_among rest t) h
      flagged false h later = later

      by : (b : Bool) → has_triple t e ≡ b → has_triple_among rest t ≡ stands goals elements t
          → has_triple_among (map triple_of (cond (stays goals kept e) (e ∷ filter (stays goals kept) elements) (filter (stays goals kept) elements))) t
          ≡ ((b && is_flagged goals e) || stands goals elements t)
      by true h later =
          here (is_flagged goals e) (has_triple_among kept (triple_of e)) (ap (has_triple_among kept) (triple_same (triple_of e) t h) ∙ among)
          ∙ flagged (is_flagged goals e) (turned ∙ h) later
      by false h later = there (stays goals kept e) (turned ∙ h) ∙ later

  of_members : (p q : Triple → Bool) (triples : List Triple) → ((t : Triple) → has_triple_among triples t ≡ true → p t ≡ q t) → filter p triples ≡ filter q triples
  of_members p q [] same = refl
  of_members p q (t ∷ triples) same =
      ap₂ (λ b l. cond b (t ∷ l) l) (same t (ap (λ b. b || has_triple_among triples t) (triple_self t)))
      (of_members p q triples (λ u h. same u (more (triple_eq u t) (has_triple_among triples u) h)))
    where
      more : (a b : Bool) → b ≡ true → (a || b) ≡ true
      more true b h = refl
      more false b h = h

  pub unmet_are_new : (kept : List Triple) (elements : List Element) → unmet goals elements kept ≡ new_triples (filter (stays goals kept) elements) kept
  unmet_are_new kept elements =
      of_members (λ t. not (stands goals elements t)) (λ t. not (has_triple_among (map triple_of (filter (stays goals kept) elements)) t)) kept
      (λ t among. ap not (sym (met kept t elements among)))

-- ---- what goes, place by place

module _ (p : Element → Bool) where
  mark_at : (elements : List Element) (at : ℕ) (b : Bool) → at < length elements → get_or (map p elements) at b ≡ p (get_or elements at no_element)
  mark_at [] at b less = absurd (omega (arith, less))
  mark_at (e ∷ elements) zero b less = refl
  mark_at (e ∷ elements) (suc at) b less = mark_at elements at b (omega (arith, less))

  abbrev pub left_out : List Element → List Element
  left_out elements = filter (λ e. not (p e)) elements

  module _ (marks : List Bool) (elements : List Element) (at : ℕ) (b : Bool) (are : marks ≡ map p elements) (less : at < length elements) where
    one_more : (c : Bool) → get_or marks at b ≡ c → left_out (take (at + 1) elements) ≡ left_out (take at elements) ++ cond (not c) (get_or elements at no_element ∷ []) []
    one_more c is =
        ap left_out (take_more elements at no_element less)
        ∙ filter-append (λ e. not (p e)) (take at elements) (get_or elements at no_element ∷ [])
        ∙ ap (λ x. left_out (take at elements) ++ cond (not x) (get_or elements at no_element ∷ []) []) (sym (ap (λ l. get_or l at b) are ∙ mark_at elements at b less) ∙ is)

    pub stays_next : get_or marks at b ≡ true → left_out (take at elements) ≡ left_out (take (at + 1) elements)
    stays_next is = sym (one_more true is ∙ append-nil (left_out (take at elements)))

    pub goes_next : get_or marks at b ≡ false → left_out (take at elements) ++ get_or elements at no_element ∷ [] ≡ left_out (take (at + 1) elements)
    goes_next is = sym (one_more false is)
