-- Elements that stay, and triples that are new under the next tags behind them, are a lawful working memory.
use Rattle.std.proofs.Common.{◌≡◌, ℕ, suc, ◌+◌, ◌<◌, ◌≤◌, nat_lt, Bool, true, false, cond, ◌&&◌, List, [], ◌∷◌, ◌++◌, filter, length, Option, Some, None, refl, sym, subst, ◌∙◌, append_assoc, arith}
use Rattle.std.proofs.lemmas.Bool.Decides.{nat_tests}
use Rattle.std.proofs.lemmas.List.{append-nil}
use Rattle.soar_sym.specs.Equality.{mark_eq}
use Rattle.soar_sym.specs.Words.{Texts}
use Rattle.soar_sym.specs.declared.symbol.Triple.{Triple}
use Rattle.soar_wm.specs.declared.element.Element.{Element}
use Rattle.soar_wm.specs.WorkingMemory.{IsBelow, IsDistinct, IsGiven, IsLawful, IsRising, Lacks, WorkingMemory, has_triple, triple_of}
use Rattle.defs_soar.specs.declared.goal.Goal.{Goal}
use Rattle.defs_soar.specs.declared.limit.Which.{Which}
use Rattle.defs_soar.specs.declared.limit.Which.TheVariants as which
use Rattle.defs_soar.specs.Limits.{limit_passed, or_limit}
use Rattle.defs_soar.specs.Settling.{element_of_triple, stays, tagged}
use Rattle.level_laws.proofs.SymbolLemmas.{symbol_turned}
use Rattle.soar_settle.specs.Plans.{coming, staying}
use Rattle.soar_settle.specs.Settles.{after_of, last_of}
use Rattle.soar_settle.specs.Tagging.{AreAddable}
use Rattle.soar_settle.proofs.AddingLemmas.{new_are_addable}
use Rattle.soar_settle.proofs.MarkingLemmas.{lacks_missing}
use Rattle.soar_settle.proofs.TaggingLemmas.{last_is}
use Rattle.matching_laws.specs.Telling.{RetaggedIsLawful}
use Rattle.matching_laws.proofs.TagLemmas.{below_filter, given_after, given_filter}

-- ---- what stays

rising_filter : (p : Element → Bool) (elements : List Element) → IsRising elements → IsRising (filter p elements)
rising_filter p [] rising = tt
rising_filter p (e ∷ elements) rising = by (p e) (rising_filter p elements rising.1)
  where
    by : (b : Bool) → IsRising (filter p elements) → IsRising (cond b (e ∷ filter p elements) (filter p elements))
    by true later = (below_filter p e.tag elements rising.0, later)
    by false later = later

lacks_filter : (p : Element → Bool) (t : Triple) (elements : List Element) → Lacks t elements → Lacks t (filter p elements)
lacks_filter p t [] lacks = tt
lacks_filter p t (e ∷ elements) lacks = by (p e) (lacks_filter p t elements lacks.1)
  where
    by : (b : Bool) → Lacks t (filter p elements) → Lacks t (cond b (e ∷ filter p elements) (filter p elements))
    by true later = (lacks.0, later)
    by false later = later

distinct_filter : (p : Element → Bool) (elements : List Element) → IsDistinct elements → IsDistinct (filter p elements)
distinct_filter p [] distinct = tt
distinct_filter p (e ∷ elements) distinct = by (p e) (distinct_filter p elements distinct.1)
  where
    by : (b : Bool) → IsDistinct (filter p elements) → IsDistinct (cond b (e ∷ filter p elements) (filter p elements))
    by true later = (lacks_filter p (triple_of e) elements distinct.0, later)
    by false later = later

-- ---- one element more at the end

below_after : (tag : ℕ) (elements : List Element) (e : Element) → IsBelow tag elements → tag < e.tag → IsBelow tag (elements ++ e ∷ [])
below_after tag [] e below less = (less, tt)
below_after tag (f ∷ elements) e below less = (below.0, below_after tag elements e below.1 less)

rising_after : (last : ℕ) (elements : List Element) (e : Element) → IsRising elements → IsGiven last elements → last < e.tag → IsRising (elements ++ e ∷ [])
rising_after last [] e rising given less = (tt, tt)
rising_after last (f ∷ elements) e rising given less =
    (below_after f.tag elements e rising.0 (omega (arith, given.1, less)), rising_after last elements e rising.1 given.2 less)

lacks_after : (t : Triple) (elements : List Element) (e : Element) → Lacks t elements → has_triple t e ≡ false → Lacks t (elements ++ e ∷ [])
lacks_after t [] e lacks differs = (differs, tt)
lacks_after t (f ∷ elements) e lacks differs = (lacks.0, lacks_after t elements e lacks.1 differs)

mark_turned : (a b : Bool) → mark_eq a b ≡ mark_eq b a
mark_turned true true = refl
mark_turned true false = refl
mark_turned false true = refl
mark_turned false false = refl

has_turned : (e f : Element) → has_triple (triple_of f) e ≡ has_triple (triple_of e) f
has_turned e f =
    λ k. symbol_turned e.id f.id k && (symbol_turned e.attr f.attr k && (symbol_turned e.value f.value k && mark_turned e.accept f.accept k))

distinct_after : (elements : List Element) (e : Element) → IsDistinct elements → Lacks (triple_of e) elements → IsDistinct (elements ++ e ∷ [])
distinct_after [] e distinct lacks = (tt, tt)
distinct_after (f ∷ elements) e distinct lacks =
    (lacks_after (triple_of f) elements e distinct.0 (has_turned e f ∙ lacks.0), distinct_after elements e distinct.1 lacks.1)

-- ---- what came

-- tags rise up to the last, and no triple stands twice
record IsInOrder (last : ℕ) (elements : List Element) : Type 0 where
  rising : IsRising elements
  given : IsGiven last elements
  distinct : IsDistinct elements

order_after : (last : ℕ) (elements : List Element) (e : Element) → IsInOrder last elements → e.tag ≡ suc last → Lacks (triple_of e) elements
    → IsInOrder (suc last) (elements ++ e ∷ [])
order_after last elements e is tag_is lacks = record {
  rising = rising_after last elements e is.rising is.given (omega (arith, tag_is));
  given = given_after last (suc last) elements e is.given (omega arith) (omega (arith, tag_is)) (omega (arith, tag_is));
  distinct = distinct_after elements e is.distinct lacks;
}

tagged_in_order : (goals : List Goal) (last most : ℕ) (elements : List Element) (triples : List Triple) → IsInOrder last elements → AreAddable goals last elements triples
    → most ≡ last + length triples → IsInOrder most (elements ++ tagged goals last triples)
tagged_in_order goals last most elements [] is addable most_is =
    let same : last ≡ most = omega (arith, most_is) in
    let P : ℕ → Type 0 = λ n. IsInOrder n (elements ++ []) in subst P same (subst (IsInOrder last) (sym (append-nil elements)) is)
tagged_in_order goals last most elements (t ∷ triples) is addable most_is =
    let e : Element = element_of_triple goals (suc last) t in
    subst (IsInOrder most) (append_assoc elements (e ∷ []) (tagged goals (suc last) triples))
    (tagged_in_order goals (suc last) most (elements ++ e ∷ []) triples (order_after last elements e is refl (lacks_missing t elements addable.0)) addable.1
    (omega (arith, most_is)))

-- ---- a step

few_left : (n : ℕ) (other : Option Which) → or_limit (limit_passed n which.Elements) other ≡ None → n ≤ 4000000
few_left n other none = by (nat_lt 4000000 n) refl none
  where
    by : (b : Bool) → nat_lt 4000000 n ≡ b → or_limit (cond b (Some which.Elements) None) other ≡ None → n ≤ 4000000
    by true above none = absurd (cc)
    by false above none = grind (arith, nat_tests)

in_order_afterwards : (words : Texts) (goals : List Goal) (kept : List Triple) (m : WorkingMemory) → IsLawful m
    → IsInOrder (last_of (after_of words goals kept m) m) (after_of words goals kept m)
in_order_afterwards words goals kept m lawful =
    tagged_in_order goals m.last (last_of (after_of words goals kept m) m) (staying goals kept m) (coming words goals kept m)
    (record {
      rising = rising_filter (stays goals kept) m.elements lawful.rising;
      given = given_filter (stays goals kept) m.last m.elements lawful.given;
      distinct = distinct_filter (stays goals kept) m.elements lawful.distinct;
    })
    (new_are_addable words goals m.last (staying goals kept m) kept) (last_is words goals kept m lawful)

pub retagged_is_lawful : RetaggedIsLawful
retagged_is_lawful words goals kept old new changes lawful limit retagged =
    let is = in_order_afterwards words goals kept old lawful in
    let few = few_left (length (after_of words goals kept old)) _ retagged.within in
    subst IsLawful (sym retagged.memory_is) (record { rising = is.rising; given = is.given; distinct = is.distinct; few = omega (arith, few, limit) })
