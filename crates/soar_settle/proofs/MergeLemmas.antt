-- Two lists in order make one, and it is that of all triples.
use Rattle.std.proofs.Common.{◌≡◌, ◌∙◌, refl, sym, ap, ap₂, Bool, true, false, cond, ◌||◌, inl, inr, List, [], ◌∷◌, ◌++◌, Ordering, Less, Equal, Greater, is_lt}
use Rattle.std.proofs.lemmas.List.Folds.{list_any-append}
use Rattle.std.specs.Ordering.{match_ordering, ordering_reverse}
use Rattle.soar_sym.specs.Order.{triple_cmp}
use Rattle.soar_sym.specs.Words.{IsTable, Texts}
use Rattle.soar_sym.specs.declared.symbol.Triple.{Triple}
use Rattle.defs_soar.specs.Sorted.{in_order, with_triple_at}
use Rattle.defs_soar.specs.Values.{has_triple_among, triple_eq}
use Rattle.soar_prefs.proofs.ChangeLemmas.{table_tells_apart}
use Rattle.soar_prefs.proofs.OrderLemmas.{order_is_of_members}
use Rattle.soar_settle.specs.Known.{AreTriplesKnown}
use Rattle.soar_settle.specs.Merging.{IsFirst, IsSorting, Rises, is_rising, left, merged, moved}
use Rattle.soar_settle.specs.Tagging.{IsTripleKnown}
use Rattle.soar_settle.proofs.KnownLemmas.{known_each, known_in}
use Rattle.soar_settle.proofs.MemberLemmas.{has_member, member_has}
use Rattle.soar_settle.proofs.TripleOrderLemmas.{first_before, rises_already, triples_total}

-- ---- in order

module _ (words : Texts) where
  turned : (t u : Triple) → triple_cmp words t u ≡ Greater → triple_cmp words u t ≡ Less
  turned t u h = (triples_total words).antisymm u t ∙ ap ordering_reverse h

  first_append : (s : Triple) (a b : List Triple) → IsFirst words s a → IsFirst words s b → IsFirst words s (a ++ b)
  first_append s [] b h k = k
  first_append s (t ∷ a) b h k = (h.0, first_append s a b h.1 k)

  first_moved : (s t : Triple) (b : List Triple) → IsFirst words s b → IsFirst words s (moved words t b)
  first_moved s t [] h = tt
  first_moved s t (u ∷ b) h = by (triple_cmp words t u) (first_moved s t b h.1)
    where
      by : (o : Ordering) → IsFirst words s (moved words t b) → IsFirst words s (match_ordering o [] (moved words t b) (u ∷ moved words t b))
      by Less later = tt
      by Equal later = later
      by Greater later = (h.0, later)

  first_left : (s t : Triple) (b : List Triple) → IsFirst words s b → IsFirst words s (left words t b)
  first_left s t [] h = tt
  first_left s t (u ∷ b) h = by (triple_cmp words t u) (first_left s t b h.1)
    where
      by : (o : Ordering) → IsFirst words s (left words t b) → IsFirst words s (match_ordering o (u ∷ b) (left words t b) (left words t b))
      by Less later = h
      by Equal later = later
      by Greater later = later

  left_after : (t : Triple) (b : List Triple) → Rises words b → IsFirst words t (left words t b)
  left_after t [] h = tt
  left_after t (u ∷ b) h = by (triple_cmp words t u) refl (left_after t b h.1)
    where
      by : (o : Ordering) → triple_cmp words t u ≡ o → IsFirst words t (left words t b) → IsFirst words t (match_ordering o (u ∷ b) (left words t b) (left words t b))
      by Less p later = (p, first_before words t u b p h.0)
      by Equal p later = later
      by Greater p later = later

  left_rises : (t : Triple) (b : List Triple) → Rises words b → Rises words (left words t b)
  left_rises t [] h = tt
  left_rises t (u ∷ b) h = by (triple_cmp words t u) (left_rises t b h.1)
    where
      by : (o : Ordering) → Rises words (left words t b) → Rises words (match_ordering o (u ∷ b) (left words t b) (left words t b))
      by Less later = h
      by Equal later = later
      by Greater later = later

  moved_rises : (t : Triple) (b rest : List Triple) → Rises words b → IsFirst words t rest → Rises words rest → Rises words (moved words t b ++ t ∷ rest)
  moved_rises t [] rest h f r = (f, r)
  moved_rises t (u ∷ b) rest h f r = by (triple_cmp words t u) refl (moved_rises t b rest h.1 f r)
    where
      by : (o : Ordering) → triple_cmp words t u ≡ o → Rises words (moved words t b ++ t ∷ rest)
          → Rises words (match_ordering o [] (moved words t b) (u ∷ moved words t b) ++ t ∷ rest)
      by Less p later = (f, r)
      by Equal p later = later
      by Greater p later =
          let before = turned t u p in
          (first_append u (moved words t b) (t ∷ rest) (first_moved u t b h.0) (before, first_before words u t rest before f), later)

  first_merged : (s : Triple) (a b : List Triple) → IsFirst words s a → IsFirst words s b → IsFirst words s (merged words a b)
  first_merged s [] b h k = k
  first_merged s (t ∷ a) b h k =
      first_append s (moved words t b) (t ∷ merged words a (left words t b)) (first_moved s t b k) (h.0, first_merged s a (left words t b) h.1 (first_left s t b k))

  rises_merged : (a b : List Triple) → Rises words a → Rises words b → Rises words (merged words a b)
  rises_merged [] b h k = k
  rises_merged (t ∷ a) b h k =
      moved_rises t b (merged words a (left words t b)) k
      (first_merged t a (left words t b) h.0 (left_after t b k)) (rises_merged a (left words t b) h.1 (left_rises t b k))

  -- ---- which they are

  absorbed : (p q rest : Bool) → q ≡ p → (p || rest) ≡ (p || (q || rest))
  absorbed true q rest h = refl
  absorbed false q rest h = sym (ap (λ x. x || rest) h)

  passed : (u m t l h : Bool) → (m || (t || l)) ≡ (t || h) → ((u || m) || (t || l)) ≡ (t || (u || h))
  passed true m true l h k = refl
  passed true m false l h k = refl
  passed false m true l h k = k
  passed false m false l h k = k

  joined : (m t a l h : Bool) → (m || (t || l)) ≡ (t || h) → (m || (t || (a || l))) ≡ ((t || a) || h)
  joined true true a l h k = refl
  joined true false true l h k = refl
  joined true false false l h k = k
  joined false true a l h k = refl
  joined false false true l h k = refl
  joined false false false l h k = k

  known_left : (t : Triple) (b : List Triple) → AreTriplesKnown words b → AreTriplesKnown words (left words t b)
  known_left t [] known = tt
  known_left t (u ∷ b) known = by (triple_cmp words t u) (known_left t b known.1)
    where
      by : (o : Ordering) → AreTriplesKnown words (left words t b) → AreTriplesKnown words (match_ordering o (u ∷ b) (left words t b) (left words t b))
      by Less later = known
      by Equal later = later
      by Greater later = later

  module _ (table : IsTable words) where
    tied : (t u : Triple) → IsTripleKnown words t → IsTripleKnown words u → triple_cmp words t u ≡ Equal → t ≡ u
    tied t u known also h =
        table_tells_apart words (t ∷ u ∷ []) table (λ v i. known_in words (t ∷ u ∷ []) v (known, (also, tt)) i) t u (inl refl) (inr (inl refl)) h

    has_parted : (t : Triple) (b : List Triple) (x : Triple) → IsTripleKnown words t → AreTriplesKnown words b
        → (has_triple_among (moved words t b) x || (triple_eq x t || has_triple_among (left words t b) x)) ≡ (triple_eq x t || has_triple_among b x)
    has_parted t [] x known also = refl
    has_parted t (u ∷ b) x known also = by (triple_cmp words t u) refl (has_parted t b x known also.1)
      where
        by : (o : Ordering) → triple_cmp words t u ≡ o
            → (has_triple_among (moved words t b) x || (triple_eq x t || has_triple_among (left words t b) x)) ≡ (triple_eq x t || has_triple_among b x)
            → (has_triple_among (match_ordering o [] (moved words t b) (u ∷ moved words t b)) x || (triple_eq x t || has_triple_among (match_ordering o (u ∷ b) (left words t b) (left words t b)) x))
            ≡ (triple_eq x t || (triple_eq x u || has_triple_among b x))
        by Less p later = refl
        by Equal p later = later ∙ absorbed (triple_eq x t) (triple_eq x u) (has_triple_among b x) (ap (triple_eq x) (sym (tied t u known also.0 p)))
        by Greater p later =
            passed (triple_eq x u) (has_triple_among (moved words t b) x) (triple_eq x t) (has_triple_among (left words t b) x) (has_triple_among b x) later

    has_merged : (a b : List Triple) (x : Triple) → AreTriplesKnown words a → AreTriplesKnown words b
        → has_triple_among (merged words a b) x ≡ (has_triple_among a x || has_triple_among b x)
    has_merged [] b x known also = refl
    has_merged (t ∷ a) b x known also =
        list_any-append (triple_eq x) (moved words t b) (t ∷ merged words a (left words t b))
        ∙ ap (λ r. has_triple_among (moved words t b) x || (triple_eq x t || r)) (has_merged a (left words t b) x known.1 (known_left t b also))
        ∙ joined (has_triple_among (moved words t b) x) (triple_eq x t) (has_triple_among a x) (has_triple_among (left words t b) x) (has_triple_among b x)
        (has_parted t b x known.0 also)

    -- ---- all of them

    pub known_sorted : (triples sorted : List Triple) → IsSorting words triples sorted → AreTriplesKnown words triples → AreTriplesKnown words sorted
    known_sorted triples sorted is known =
        known_each words sorted (λ t i. known_in words triples t known (has_member triples t (sym (is.same t) ∙ member_has sorted t i)))

    pub sorting_merged : (triples front back first second : List Triple) → front ++ back ≡ triples → IsSorting words front first → IsSorting words back second
        → AreTriplesKnown words front → AreTriplesKnown words back → IsSorting words triples (merged words first second)
    sorting_merged triples front back first second parts is also known later = record {
      rises = rises_merged first second is.rises also.rises;
      same = λ x.
          has_merged first second x (known_sorted front first is known) (known_sorted back second also later)
          ∙ ap₂ (λ p q. p || q) (is.same x) (also.same x)
          ∙ sym (list_any-append (triple_eq x) front back) ∙ ap (λ l. has_triple_among l x) parts;
    }

    first_stays : (t : Triple) (triples : List Triple) → IsFirst words t triples → with_triple_at words triples t ≡ t ∷ triples
    first_stays t [] h = refl
    first_stays t (u ∷ triples) h =
        ap (λ o. cond (is_lt o) (t ∷ u ∷ triples) (cond (is_lt (triple_cmp words u t)) (u ∷ with_triple_at words triples t) (u ∷ triples))) h.0

    rises_stay : (triples : List Triple) → Rises words triples → in_order words triples ≡ triples
    rises_stay [] h = refl
    rises_stay (t ∷ triples) h = ap (λ l. with_triple_at words l t) (rises_stay triples h.1) ∙ first_stays t triples h.0

    pub sorting_is_order : (triples sorted : List Triple) → IsSorting words triples sorted → AreTriplesKnown words triples → sorted ≡ in_order words triples
    sorting_is_order triples sorted is known =
        sym (rises_stay sorted is.rises)
        ∙ order_is_of_members words sorted triples
        (table_tells_apart words sorted table (λ t i. known_in words sorted t (known_sorted triples sorted is known) i)) is.same

-- ---- triples that are in order already

pub rising_sorted : (words : Texts) (triples : List Triple) → is_rising words triples ≡ true → IsSorting words triples triples
rising_sorted words triples rising = record { rises = rises_already words triples rising; same = λ t. refl }
