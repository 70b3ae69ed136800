-- The explanation of a firing after a lawful history is lawful.
use Rattle.std.proofs.Common.{◌≡◌, refl, sym, ◌∙◌, ap, subst, ℕ, ◌<◌, nat_lt, Bool, true, false, ◌&&◌, cond, inl, inr, ◌⊎◌, arith, List, [], ◌∷◌, ◌++◌, map, filter}
use Rattle.std.specs.Ordering.{is_lt}
use Rattle.soar_sym.specs.Order.{triple_cmp}
use Rattle.soar_sym.specs.Words.{Texts}
use Rattle.soar_wm.specs.declared.element.Element.{Element}
use Rattle.defs_soar.specs.declared.firing.How.{How}
use Rattle.defs_soar.specs.declared.firing.How.TheVariants as how
use Rattle.defs_soar.specs.declared.firing.Used.{Used}
use Rattle.defs_soar.specs.declared.preference.PrefKind.TheVariants as kind
use Rattle.defs_soar.specs.declared.preference.Preference.{Preference}
use Rattle.defs_soar.specs.declared.preference.Wish.{Wish}
use Rattle.defs_soar.specs.History.{FiringOf}
use Rattle.defs_soar.specs.Laws.{IsIn}
use Rattle.defs_soar.specs.Learning.{explained_on}
use Rattle.defs_soar.specs.Results.{accepted_for, closure_of, each_triple_once, hanging_on, is_result, result_row, results_of, row_triple, rows_seen, with_closure_row}
use Rattle.defs_soar.specs.Sorted.{has_symbol}
use Rattle.defs_soar.specs.Values.{is_kind, same_triple}
use Rattle.defs_soar.specs.WaveAtHand.{BeforeWave}
use Rattle.learning_laws.specs.Lawful.{IsLawful, IsLawfulFiring}
use Rattle.learning_laws.specs.LearningSteps.{IsExplained, ExplainedAreLawful}
use Rattle.learning_laws.specs.Record.{AreRoots, AreWishesOf, IsLawfulRecord, IsMadeEarlier, UseIsLawful}
use Rattle.learning_laws.proofs.ExplainLaws.{explanations_are_lawful}
use Rattle.learning_laws.proofs.Lists.{filter_within, in_append, in_left, in_map, in_mapped, in_right}
use Rattle.learning_laws.proofs.UseLaws.{uses_are_lawful}

-- ---- rows of results

from_closure : (words : Texts) (row : Preference) (rows : List Preference) (x : Preference) → IsIn x (with_closure_row words row rows) → (row ≡ x) ⊎ IsIn x rows
from_closure words row [] x (inl e) = inl e
from_closure words row [] x (inr i) = absurd i
from_closure words row (other ∷ rows) x i =
    go (same_triple row other) (nat_lt row.firing other.firing) (is_lt (triple_cmp words (row_triple row) (row_triple other))) i (from_closure words row rows x)
  where
    go : (a b c : Bool) → IsIn x (cond a (cond b row other ∷ rows) (cond c (row ∷ other ∷ rows) (other ∷ with_closure_row words row rows)))
        → (IsIn x (with_closure_row words row rows) → (row ≡ x) ⊎ IsIn x rows) → (row ≡ x) ⊎ IsIn x (other ∷ rows)
    go true true c (inl e) later = inl e
    go true false c (inl e) later = inr (inl e)
    go true b c (inr j) later = inr (inr j)
    go false b true (inl e) later = inl e
    go false b true (inr j) later = inr j
    go false b false (inl e) later = inr (inl e)
    go false b false (inr j) later = elim (later j) [ inl e ↦ inl e | inr k ↦ inr (inr k) ]

pub from_each_triple : (words : Texts) (rows : List Preference) (x : Preference) → IsIn x (each_triple_once words rows) → IsIn x rows
from_each_triple words [] x i = i
from_each_triple words (row ∷ rows) x i = elim (from_closure words row (each_triple_once words rows) x i) [ inl e ↦ inl e | inr j ↦ inr (from_each_triple words rows x j) ]

-- a result is a row that was there, or one of the firing's own wishes
from_results : (m : BeforeWave) (order : Texts) (f : FiringOf) (x : Preference) → IsIn x (results_of order m.reach m.rows f) → IsIn x m.rows ⊎ ((w : Wish) × IsIn w f.made × (result_row f w ≡ x))
unfolding results_of
from_results m order f x i =
    elim (in_append x (map (result_row f) (filter (is_result m.reach f.depth) f.made)) (closure_of order m.reach m.rows f) i) [
      | inl j ↦ let own = in_map (result_row f) x (filter (is_result m.reach f.depth) f.made) j in inr (own.0, (filter_within (is_result m.reach f.depth) f.made own.0 own.1).0, own.2)
      | inr j ↦
          let seen = rows_seen m.rows f in
          let ids = hanging_on m.reach f seen (filter (is_result m.reach f.depth) f.made) in
          let among = (filter_within (λ row. is_kind row.wish.kind kind.Accept && has_symbol ids row.wish.id) seen x (from_each_triple order (accepted_for seen ids) x j)).0 in
          elim (in_append x m.rows (map (result_row f) f.made) among) [
            | inl k ↦ inl k
            | inr k ↦ let own = in_map (result_row f) x f.made k in inr (own.0, own.1, own.2)
          ]
    ]

module _ (m : BeforeWave) (words order : Texts) (f : FiringOf) (elements : List Element) (h : IsExplained m words f elements) where
  abbrev firings : List FiringOf
  firings = m.firings ++ f ∷ []

  this_one : IsIn f firings
  this_one = in_right f m.firings (f ∷ []) (inl refl)

  -- the maker of a row is in the history, and made its wish
  row_made : (x : Preference) → IsIn x (results_of order m.reach m.rows f) → (g : FiringOf) × IsIn g firings × (g.number ≡ x.firing) × IsIn x.wish g.made
  row_made x i =
      elim (from_results m order f x i) [
        | inl j ↦ let by = h.settled.rows x j in (by.0, in_left by.0 m.firings (f ∷ []) by.1, by.2, by.3)
        | inr j ↦ (f, this_one, ap (λ (y : Preference). y.firing) j.2, subst (λ y. IsIn y f.made) (ap (λ (y : Preference). y.wish) j.2) j.1)
      ]

  earlier_still : (before number : ℕ) (e : Element) → IsMadeEarlier m.firings before number e → IsMadeEarlier firings before number e
  earlier_still before number e made =
      record { firing = made.firing; is_there = in_left made.firing m.firings (f ∷ []) made.is_there; number_is = made.number_is; earlier = made.earlier; makes = made.makes }

  use_still : (g : FiringOf) (e : Element) (k : How) → UseIsLawful m.firings g (record { element = e; how = k }) → UseIsLawful firings g (record { element = e; how = k })
  use_still g e how.Upper l = l
  use_still g e how.Architecture l = l
  use_still g e (how.Item tag) l = l
  use_still g e (how.Selected tag) l = l
  use_still g e (how.Made number) l = earlier_still g.number number e l

  pub all_lawful : IsLawfulRecord words firings m.elements
  all_lawful = record {
    each = λ g i. elim (in_append g m.firings (f ∷ []) i) [
      | inl j ↦ h.history.each g j
      | inr j ↦ elim j [ inl q ↦ subst (λ x. IsLawfulFiring words x) q h.lawful | inr k ↦ absurd k ]
    ];
    numbers = λ g k i j q. numbers g k (in_append g m.firings (f ∷ []) i) (in_append k m.firings (f ∷ []) j) q;
    uses = λ g i u j. uses g (in_append g m.firings (f ∷ []) i) u j;
    tags = h.tags;
    now = h.now;
    ids = h.ids;
  }
    where
      old_less : (g k : FiringOf) → IsIn g m.firings → IsIn k (f ∷ []) → g.number ≡ k.number → ⊥
      old_less g k i (inl e) q =
          let less : g.number < f.number = h.settled.numbers g i in
          let same : f.number ≡ k.number = ap (λ (x : FiringOf). x.number) e in absurd (omega arith)
      old_less g k i (inr j) q = j

      numbers : (g k : FiringOf) → IsIn g m.firings ⊎ IsIn g (f ∷ []) → IsIn k m.firings ⊎ IsIn k (f ∷ []) → g.number ≡ k.number → g ≡ k
      numbers g k (inl i) (inl j) q = h.history.numbers g k i j q
      numbers g k (inl i) (inr j) q = absurd (old_less g k i j q)
      numbers g k (inr i) (inl j) q = absurd (old_less k g j i (sym q))
      numbers g k (inr (inl a)) (inr (inl b)) q = sym a ∙ b
      numbers g k (inr (inr a)) j q = absurd a
      numbers g k (inr (inl a)) (inr (inr b)) q = absurd b

      uses : (g : FiringOf) → IsIn g m.firings ⊎ IsIn g (f ∷ []) → (u : Used) → IsIn u g.used → UseIsLawful firings g u
      uses g (inl i) u j = use_still g u.element u.how (h.history.uses g i u j)
      uses g (inr (inl e)) u j =
          subst (λ x. UseIsLawful firings x u) e
          (use_still f u.element u.how (uses_are_lawful m f.number f.depth elements f h.settled h.within refl h.used u (subst (λ (x : FiringOf). IsIn u x.used) (sym e) j)))
      uses g (inr (inr i)) u j = absurd i

  abbrev rows : List Preference
  rows = results_of order m.reach m.rows f

  pub are_roots : AreRoots firings (f.number ∷ map (λ row. row.firing) rows)
  are_roots n (inl q) = (f, this_one, q)
  are_roots n (inr i) =
      let row = in_map (λ (row : Preference). row.firing) n rows i in
      let by = row_made row.0 row.1 in (by.0, by.1, by.2 ∙ row.2)

  pub are_wishes : AreWishesOf firings (f.number ∷ map (λ row. row.firing) rows) (map (λ row. row.wish) rows)
  are_wishes x i =
      let row = in_map (λ (row : Preference). row.wish) x rows i in
      let by = row_made row.0 row.1 in (
        by.0,
        by.1,
        inr (subst (λ n. IsIn n (map (λ (row : Preference). row.firing) rows)) (sym by.2) (in_mapped (λ (row : Preference). row.firing) row.0 rows row.1)),
        subst (λ y. IsIn y by.0.made) row.2 by.3,
      )

  explained_is_lawful : IsLawful words (explained_on m f rows).chain m.elements
  explained_is_lawful = explanations_are_lawful words firings m.elements all_lawful (f.number ∷ map (λ row. row.firing) rows) are_roots (map (λ row. row.wish) rows) are_wishes

pub explained_are_lawful : ExplainedAreLawful
explained_are_lawful m words order f elements h = explained_is_lawful m words order f elements h
