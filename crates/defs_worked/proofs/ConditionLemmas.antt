-- The grounds taken, in the order of a learned rule's conditions, have identifiers with a variable, and are grounds.
use Rattle.std.proofs.Common.{◌≡◌, refl, subst, Bool, true, false, ◌⊎◌, inl, inr, List, [], ◌∷◌, ◌++◌, length, filter, cond, ◌==◌, not}
use Rattle.std.specs.List.{list_all}
use Rattle.std.specs.Ordering.{is_lt}
use Rattle.soar_sym.specs.Equality.{symbol_eq}
use Rattle.soar_sym.specs.Words.{Texts}
use Rattle.soar_sym.specs.declared.symbol.Sym.{Sym}
use Rattle.soar_wm.specs.declared.element.Element.{Element}
use Rattle.defs_soar.specs.ConditionOrder.{Ordered, ground_cmp, least_ground, one_ground_more, ordered_grounds, states_of, with_ground, with_next, with_place}
use Rattle.defs_soar.specs.Laws.{IsIn, TakenAreGrounds, TakenAreReached}
use Rattle.defs_soar.specs.Sorted.{has_symbol}
use Rattle.defs_soar.specs.Values.{is_identifier}
use Rattle.settling_laws.proofs.MemberLemmas.{all_and_last, any_more, filter_passes, filter_within, in_append}
use Rattle.settling_laws.proofs.RepeatLemmas.{repeated_keeps}

-- the least is one of them
least_among : (words : Texts) (places : List Sym) (e : Element) (grounds : List Element) → IsIn (least_ground words places e grounds) (e ∷ grounds)
least_among words places e [] = inl refl
least_among words places e (f ∷ grounds) =
    go (is_lt (ground_cmp words places f e))
    (least_among words places (cond (is_lt (ground_cmp words places f e)) f e) grounds)
  where
    go : (b : Bool) → IsIn (least_ground words places (cond b f e) grounds) (cond b f e ∷ grounds) → IsIn (least_ground words places (cond b f e) grounds) (e ∷ f ∷ grounds)
    go true i = inr i
    go false (inl q) = inl q
    go false (inr i) = inr (inr i)

-- ---- identifiers with a variable

place_kept : (places : List Sym) (more s : Sym) → has_symbol places s ≡ true → has_symbol (with_place places more) s ≡ true
place_kept places more s h = go (is_identifier more) (has_symbol places more)
  where
    go : (b c : Bool) → has_symbol (cond b (cond c places (places ++ more ∷ [])) places) s ≡ true
    go true true = h
    go true false = any_more (symbol_eq s) places (more ∷ []) h
    go false c = h

abbrev places_with : List Sym → Element → List Sym
places_with places e = with_place (with_place (with_place places e.id) e.attr) e.value

places_kept : (places : List Sym) (e : Element) (s : Sym) → has_symbol places s ≡ true → has_symbol (places_with places e) s ≡ true
places_kept places e s h =
    place_kept (with_place (with_place places e.id) e.attr) e.value s (place_kept (with_place places e.id) e.attr s (place_kept places e.id s h))

abbrev AreReached : Ordered → Type 0
AreReached o = list_all (λ e. has_symbol o.places e.id) o.taken ≡ true

reached_then : (o : Ordered) (e : Element) → has_symbol o.places e.id ≡ true → AreReached o → AreReached (with_ground o e)
reached_then o e h all =
    all_and_last (λ f. has_symbol o.places f.id) (λ f. has_symbol (places_with o.places e) f.id) (λ f k. places_kept o.places e f.id k) o.taken e all
    (places_kept o.places e e.id h)

reached_step : (words : Texts) (o : Ordered) → AreReached o → AreReached (one_ground_more words o)
reached_step words o all =
    go (filter (λ e. has_symbol o.places e.id) o.left) (λ e i. filter_passes (λ f. has_symbol o.places f.id) o.left e i)
  where
    go : (reachable : List Element) → ((e : Element) → IsIn e reachable → has_symbol o.places e.id ≡ true) → AreReached (with_next words o reachable)
    go [] each = all
    go (e ∷ reachable) each =
        let next = least_ground words o.places e reachable in reached_then o next (each next (least_among words o.places e reachable)) all

pub taken_are_reached : TakenAreReached
unfolding ordered_grounds
taken_are_reached words grounds =
    repeated_keeps AreReached (one_ground_more words) (reached_step words) (length grounds)
    (record { taken = []; left = grounds; places = states_of words grounds }) refl

-- ---- grounds

record AreGrounds (grounds : List Element) (o : Ordered) : Type 0 where
  taken : (e : Element) → IsIn e o.taken → IsIn e grounds
  left : (e : Element) → IsIn e o.left → IsIn e grounds

grounds_then : (grounds : List Element) (o : Ordered) (e : Element) → IsIn e o.left → AreGrounds grounds o → AreGrounds grounds (with_ground o e)
grounds_then grounds o e h all = record {
  taken = λ f i. taken f (in_append f o.taken (e ∷ []) i);
  left = λ f i. all.left f (filter_within (λ g. not (g.tag == e.tag)) o.left f i);
}
  where
    taken : (f : Element) → IsIn f o.taken ⊎ IsIn f (e ∷ []) → IsIn f grounds
    taken f (inl i) = all.taken f i
    taken f (inr (inl q)) = subst (λ g. IsIn g grounds) q (all.left e h)
    taken f (inr (inr i)) = absurd i

grounds_step : (words : Texts) (grounds : List Element) (o : Ordered) → AreGrounds grounds o → AreGrounds grounds (one_ground_more words o)
grounds_step words grounds o all =
    go (filter (λ e. has_symbol o.places e.id) o.left) (λ e i. filter_within (λ f. has_symbol o.places f.id) o.left e i)
  where
    go : (reachable : List Element) → ((e : Element) → IsIn e reachable → IsIn e o.left) → AreGrounds grounds (with_next words o reachable)
    go [] each = all
    go (e ∷ reachable) each =
        let next = least_ground words o.places e reachable in grounds_then grounds o next (each next (least_among words o.places e reachable)) all

pub taken_are_grounds : TakenAreGrounds
unfolding ordered_grounds
taken_are_grounds words grounds =
    (repeated_keeps (AreGrounds grounds) (one_ground_more words) (grounds_step words grounds) (length grounds)
    (record { taken = []; left = grounds; places = states_of words grounds }) (record { taken = λ e i. absurd i; left = λ e i. i })).taken
