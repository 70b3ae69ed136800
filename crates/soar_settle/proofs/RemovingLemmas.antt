-- Taking away by tag, one after the other, leaves what is to stay; and what two lists of elements do not share.
use Rattle.std.proofs.Common.{◌≡◌, ℕ, suc, ◌<◌, ◌≤◌, ◌==◌, Bool, true, false, cond, not, ◌||◌, List, [], ◌∷◌, ◌++◌, length, filter, refl, ◌∙◌, ap, ap₂, arith}
use Rattle.std.specs.List.{list_any}
use Rattle.std.proofs.lemmas.List.Elements.{filter-append}
use Rattle.soar_sym.specs.declared.symbol.Triple.{Triple}
use Rattle.soar_wm.specs.declared.element.Element.{Element}
use Rattle.soar_wm.specs.WorkingMemory.{IsBelow, IsGiven, IsRising, without_tag}
use Rattle.defs_soar.specs.declared.goal.Goal.{Goal}
use Rattle.defs_soar.specs.Resettling.{without_elements}
use Rattle.defs_soar.specs.Settling.{element_of_triple, tagged}
use Rattle.soar_settle.specs.Tagging.{without_each}

-- ---- tags

itself : (n : ℕ) → (n == n) ≡ true
itself n = grind arith

below_apart : (m n : ℕ) → m < n → (m == n) ≡ false
below_apart m n h = grind arith

above_apart : (m n : ℕ) → n < m → (m == n) ≡ false
above_apart m n h = grind arith

none_above : (tag : ℕ) (elements : List Element) → IsBelow tag elements → list_any (λ o. o.tag == tag) elements ≡ false
none_above tag [] below = refl
none_above tag (e ∷ elements) below = ap₂ (λ a b. a || b) (above_apart e.tag tag below.0) (none_above tag elements below.1)

none_given : (last tag : ℕ) (elements : List Element) → IsGiven last elements → last < tag → list_any (λ o. o.tag == tag) elements ≡ false
none_given last tag [] given less = refl
none_given last tag (e ∷ elements) given less = ap₂ (λ a b. a || b) (below_apart e.tag tag (omega (arith, given.1, less))) (none_given last tag elements given.2 less)

below_filter : (p : Element → Bool) (tag : ℕ) (elements : List Element) → IsBelow tag elements → IsBelow tag (filter p elements)
below_filter p tag [] below = tt
below_filter p tag (e ∷ elements) below = by (p e) (below_filter p tag elements below.1)
  where
    by : (b : Bool) → IsBelow tag (filter p elements) → IsBelow tag (cond b (e ∷ filter p elements) (filter p elements))
    by true later = (below.0, later)
    by false later = later

below_append : (tag : ℕ) (elements others : List Element) → IsBelow tag elements → IsBelow tag others → IsBelow tag (elements ++ others)
below_append tag [] others below also = also
below_append tag (e ∷ elements) others below also = (below.0, below_append tag elements others below.1 also)

below_tagged : (goals : List Goal) (tag last : ℕ) (triples : List Triple) → tag ≤ last → IsBelow tag (tagged goals last triples)
below_tagged goals tag last [] h = tt
below_tagged goals tag last (t ∷ triples) h = (omega (arith, h), below_tagged goals tag (suc last) triples (omega (arith, h)))

-- ---- what goes

first_kept : (e : Element) (elements others : List Element) → IsBelow e.tag others → without_each (e ∷ elements) others ≡ e ∷ without_each elements others
first_kept e elements [] below = refl
first_kept e elements (o ∷ others) below =
    ap (λ b. without_each (cond b elements (e ∷ without_tag o.tag elements)) others) (below_apart e.tag o.tag below.0)
    ∙ first_kept e (without_tag o.tag elements) others below.1

pub without_each-filter : (p : Element → Bool) (elements : List Element) → IsRising elements
    → without_each elements (filter (λ e. not (p e)) elements) ≡ filter p elements
without_each-filter p [] rising = refl
without_each-filter p (e ∷ elements) rising = by (p e) (without_each-filter p elements rising.1)
  where
    by : (b : Bool) → without_each elements (filter (λ o. not (p o)) elements) ≡ filter p elements
        → without_each (e ∷ elements) (cond (not b) (e ∷ filter (λ o. not (p o)) elements) (filter (λ o. not (p o)) elements)) ≡ cond b (e ∷ filter p elements) (filter p elements)
    by true later = first_kept e elements (filter (λ o. not (p o)) elements) (below_filter (λ o. not (p o)) e.tag elements rising.0) ∙ ap (λ l. e ∷ l) later
    by false later = ap (λ b. without_each (cond b elements (e ∷ without_tag e.tag elements)) (filter (λ o. not (p o)) elements)) (itself e.tag) ∙ later

passed_over : (o : Element) (others elements : List Element) → IsBelow o.tag elements → without_elements (o ∷ others) elements ≡ without_elements others elements
passed_over o others [] below = refl
passed_over o others (e ∷ elements) below =
    ap (λ b. cond (not (b || list_any (λ f. f.tag == e.tag) others)) (e ∷ without_elements (o ∷ others) elements) (without_elements (o ∷ others) elements))
    (below_apart o.tag e.tag below.0)
    ∙ ap (λ l. cond (not (list_any (λ f. f.tag == e.tag) others)) (e ∷ l) l) (passed_over o others elements below.1)

pub gone_elements : (p : Element → Bool) (goals : List Goal) (last : ℕ) (triples : List Triple) (elements : List Element) → IsRising elements → IsGiven last elements
    → without_elements (filter p elements ++ tagged goals last triples) elements ≡ filter (λ e. not (p e)) elements
gone_elements p goals last triples [] rising given = refl
gone_elements p goals last triples (e ∷ elements) rising given = by (p e) (gone_elements p goals last triples elements rising.1 given.2)
  where
    by : (b : Bool) → without_elements (filter p elements ++ tagged goals last triples) elements ≡ filter (λ o. not (p o)) elements
        → without_elements (cond b (e ∷ filter p elements) (filter p elements) ++ tagged goals last triples) (e ∷ elements)
        ≡ cond (not b) (e ∷ filter (λ o. not (p o)) elements) (filter (λ o. not (p o)) elements)
    by true later =
        let rest : List Element = filter p elements ++ tagged goals last triples in
        ap (λ b. cond (not (b || list_any (λ o. o.tag == e.tag) rest)) (e ∷ without_elements (e ∷ rest) elements) (without_elements (e ∷ rest) elements)) (itself e.tag)
        ∙ passed_over e rest elements rising.0 ∙ later
    by false later =
        let rest : List Element = filter p elements ++ tagged goals last triples in
        let below : IsBelow e.tag rest = below_append e.tag (filter p elements) (tagged goals last triples) (below_filter p e.tag elements rising.0) (below_tagged goals e.tag last triples given.1) in
        ap (λ b. cond (not b) (e ∷ without_elements rest elements) (without_elements rest elements)) (none_above e.tag rest below) ∙ ap (λ l. e ∷ l) later

-- ---- what comes

none_with_more : (o : Element) (others elements : List Element) → without_elements others elements ≡ [] → without_elements (o ∷ others) elements ≡ []
none_with_more o others [] none = refl
none_with_more o others (e ∷ elements) none = by (o.tag == e.tag) (list_any (λ f. f.tag == e.tag) others) none (none_with_more o others elements)
  where
    by : (a b : Bool) → cond (not b) (e ∷ without_elements others elements) (without_elements others elements) ≡ []
        → (without_elements others elements ≡ [] → without_elements (o ∷ others) elements ≡ [])
        → cond (not (a || b)) (e ∷ without_elements (o ∷ others) elements) (without_elements (o ∷ others) elements) ≡ []
    by true true none later = later none
    by false true none later = later none
    by a false none later = absurd (cc)

none_of_old : (p : Element → Bool) (elements : List Element) → without_elements elements (filter p elements) ≡ []
none_of_old p [] = refl
none_of_old p (e ∷ elements) = by (p e) (none_with_more e elements (filter p elements) (none_of_old p elements))
  where
    by : (b : Bool) → without_elements (e ∷ elements) (filter p elements) ≡ []
        → without_elements (e ∷ elements) (cond b (e ∷ filter p elements) (filter p elements)) ≡ []
    by true none =
        ap (λ b. cond (not (b || list_any (λ o. o.tag == e.tag) elements)) (e ∷ without_elements (e ∷ elements) (filter p elements)) (without_elements (e ∷ elements) (filter p elements))) (itself e.tag)
        ∙ none
    by false none = none

all_of_tagged : (goals : List Goal) (given_last last : ℕ) (triples : List Triple) (elements : List Element) → IsGiven given_last elements → given_last ≤ last
    → without_elements elements (tagged goals last triples) ≡ tagged goals last triples
all_of_tagged goals given_last last [] elements given h = refl
all_of_tagged goals given_last last (t ∷ triples) elements given h =
    let rest : List Element = tagged goals (suc last) triples in
    ap (λ b. cond (not b) (element_of_triple goals (suc last) t ∷ without_elements elements rest) (without_elements elements rest)) (none_given given_last (suc last) elements given (omega (arith, h)))
    ∙ ap (λ l. element_of_triple goals (suc last) t ∷ l) (all_of_tagged goals given_last (suc last) triples elements given (omega (arith, h)))

pub new_elements : (p : Element → Bool) (goals : List Goal) (last : ℕ) (triples : List Triple) (elements : List Element) → IsGiven last elements
    → without_elements elements (filter p elements ++ tagged goals last triples) ≡ tagged goals last triples
new_elements p goals last triples elements given =
    filter-append (λ e. not (list_any (λ o. o.tag == e.tag) elements)) (filter p elements) (tagged goals last triples)
    ∙ ap₂ (λ a b. a ++ b) (none_of_old p elements) (all_of_tagged goals last last triples elements given (omega arith))

pub length-tagged : (goals : List Goal) (last : ℕ) (triples : List Triple) → length (tagged goals last triples) ≡ length triples
length-tagged goals last [] = refl
length-tagged goals last (t ∷ triples) = ap suc (length-tagged goals (suc last) triples)
