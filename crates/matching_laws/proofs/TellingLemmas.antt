-- What went can be taken out tag by tag, and what came is taken in at the end.
use Rattle.std.proofs.Common.{◌≡◌, ℕ, suc, ◌<◌, ◌≤◌, nat_lt, Bool, true, false, cond, not, ◌||◌, List, [], ◌∷◌, ◌++◌, filter, Some, None, refl, sym, subst, ap, ap₂, ◌∙◌, append_assoc, arith}
use Rattle.std.proofs.lemmas.List.{append-nil}
use Rattle.std.specs.List.{list_any}
use Rattle.soar_sym.specs.Words.{Texts}
use Rattle.soar_sym.specs.declared.symbol.Triple.{Triple}
use Rattle.soar_wm.specs.declared.element.Element.{Element}
use Rattle.soar_wm.specs.WorkingMemory.{IsBelow, IsGiven, IsLawful, IsRising, WorkingMemory, has_tag, has_triple, tag_of, without_tag}
use Rattle.defs_match.specs.Contents.{IsNewElement, with_element}
use Rattle.defs_soar.specs.declared.goal.Goal.{Goal}
use Rattle.defs_soar.specs.Settling.{element_of_triple, stays, tagged}
use Rattle.soar_settle.specs.Plans.{coming, staying}
use Rattle.soar_settle.specs.Tagging.{AreAddable, without_each}
use Rattle.soar_settle.proofs.AddingLemmas.{new_are_addable}
use Rattle.soar_settle.proofs.TaggingLemmas.{gone_are, left_are, new_are}
use Rattle.matching_laws.specs.Telling.{AreInsertable, AreRemovable, ChangesAreTold, with_each}
use Rattle.matching_laws.proofs.TagLemmas.{below_apart, below_filter, given_after, given_filter, itself}

-- ---- what went

or_true : (a b : Bool) → b ≡ true → (a || b) ≡ true
or_true true b h = refl
or_true false b h = h

-- an element in front, of a lower tag, is never taken
removable_behind : (e : Element) (elements gone : List Element) → IsBelow e.tag gone → AreRemovable elements gone → AreRemovable (e ∷ elements) gone
removable_behind e elements [] below removable = tt
removable_behind e elements (o ∷ gone) below removable = (
  or_true (has_tag o.tag e) (list_any (has_tag o.tag) elements) removable.0,
  subst (λ (b : Bool). AreRemovable (cond b elements (e ∷ without_tag o.tag elements)) gone) (sym (below_apart e.tag o.tag below.0))
      (removable_behind e (without_tag o.tag elements) gone below.1 removable.1),
)

going_are_removable : (p : Element → Bool) (elements : List Element) → IsRising elements → AreRemovable elements (filter (λ e. not (p e)) elements)
going_are_removable p [] rising = tt
going_are_removable p (e ∷ elements) rising = by (p e) (going_are_removable p elements rising.1)
  where
    going : List Element
    going = filter (λ o. not (p o)) elements

    by : (b : Bool) → AreRemovable elements going → AreRemovable (e ∷ elements) (cond (not b) (e ∷ going) going)
    by true later = removable_behind e elements going (below_filter (λ o. not (p o)) e.tag elements rising.0) later
    by false later = (
      ap (λ b. b || list_any (has_tag e.tag) elements) (itself e.tag),
      subst (λ (b : Bool). AreRemovable (cond b elements (e ∷ without_tag e.tag elements)) going) (sym (itself e.tag)) later,
    )

-- ---- what came

not_below : (m n : ℕ) → n ≤ m → nat_lt m n ≡ false
not_below m n h = grind arith

-- above all tags, the place is the end
with_last : (last : ℕ) (elements : List Element) (e : Element) → IsGiven last elements → last < e.tag → with_element elements e ≡ elements ++ e ∷ []
with_last last [] e given less = refl
with_last last (f ∷ elements) e given less =
    ap (λ b. cond b (e ∷ f ∷ elements) (f ∷ with_element elements e)) (not_below e.tag f.tag (omega (arith, given.1, less)))
    ∙ ap (λ l. f ∷ l) (with_last last elements e given.2 less)

tag_is_new : (last tag : ℕ) (elements : List Element) → IsGiven last elements → last < tag → list_any (has_tag tag) elements ≡ false
tag_is_new last tag [] given less = refl
tag_is_new last tag (e ∷ elements) given less =
    ap₂ (λ a b. a || b) (below_apart e.tag tag (omega (arith, given.1, less))) (tag_is_new last tag elements given.2 less)

triple_is_new : (t : Triple) (elements : List Element) → tag_of t elements ≡ None → list_any (has_triple t) elements ≡ false
triple_is_new t [] none = refl
triple_is_new t (e ∷ elements) none = by (has_triple t e) none (triple_is_new t elements)
  where
    by : (b : Bool) → cond b (Some e.tag) (tag_of t elements) ≡ None → (tag_of t elements ≡ None → list_any (has_triple t) elements ≡ false)
        → (b || list_any (has_triple t) elements) ≡ false
    by true none later = absurd (cc)
    by false none later = later none

-- the elements come one by one, each behind all that are there
record Comes (elements new : List Element) : Type 0 where
  insertable : AreInsertable elements new
  whole : with_each elements new ≡ elements ++ new

one_more : (elements : List Element) (e : Element) (new : List Element) → with_element elements e ≡ elements ++ e ∷ [] → IsNewElement elements e
    → Comes (elements ++ e ∷ []) new → Comes elements (e ∷ new)
one_more elements e new last is_new later = record {
  insertable = (is_new, subst (λ (l : List Element). AreInsertable l new) (sym last) later.insertable);
  whole = ap (λ l. with_each l new) last ∙ later.whole ∙ append_assoc elements (e ∷ []) new;
}

tagged_come : (goals : List Goal) (last : ℕ) (elements : List Element) (triples : List Triple) → IsGiven last elements → AreAddable goals last elements triples
    → Comes elements (tagged goals last triples)
tagged_come goals last elements [] given addable = record { insertable = tt; whole = sym (append-nil elements) }
tagged_come goals last elements (t ∷ triples) given addable =
    let e : Element = element_of_triple goals (suc last) t in
    one_more elements e (tagged goals (suc last) triples) (with_last last elements e given (omega arith))
    (record { new_tag = tag_is_new last (suc last) elements given (omega arith); new_triple = triple_is_new t elements addable.0 })
    (tagged_come goals (suc last) (elements ++ e ∷ []) triples (given_after last (suc last) elements e given (omega arith) (omega arith) (omega arith)) addable.1)

-- ---- a step

staying_come : (words : Texts) (goals : List Goal) (kept : List Triple) (m : WorkingMemory) → IsLawful m
    → Comes (staying goals kept m) (tagged goals m.last (coming words goals kept m))
staying_come words goals kept m lawful =
    tagged_come goals m.last (staying goals kept m) (coming words goals kept m) (given_filter (stays goals kept) m.last m.elements lawful.given)
    (new_are_addable words goals m.last (staying goals kept m) kept)

pub changes_are_told : ChangesAreTold
changes_are_told words goals kept old new changes lawful retagged =
    let gone : changes.gone ≡ filter (λ e. not (stays goals kept e)) old.elements = retagged.gone_are ∙ gone_are words goals kept old lawful in
    let come : changes.new ≡ tagged goals old.last (coming words goals kept old) = retagged.new_are ∙ new_are words goals kept old lawful in
    let left : without_each old.elements changes.gone ≡ staying goals kept old = ap (without_each old.elements) gone ∙ left_are words goals kept old lawful in
    let told = staying_come words goals kept old lawful in record {
      removable = subst (AreRemovable old.elements) (sym gone) (going_are_removable (stays goals kept) old.elements lawful.rising);
      insertable = subst (λ (l : List Element). AreInsertable l changes.new) (sym left) (subst (AreInsertable (staying goals kept old)) (sym come) told.insertable);
      whole = ap₂ with_each left come ∙ told.whole ∙ sym (ap (λ (m : WorkingMemory). m.elements) retagged.memory_is);
    }
