-- Kept triples that are the same leave the same elements.
use Rattle.std.proofs.Common.{◌≡◌, ◌∙◌, refl, sym, ap, subst, ℕ, suc, true, ◌&&◌, not, ◌⊎◌, inl, inr, List, [], ◌∷◌, ◌++◌, filter, map, Result, Ok, Err}
use Rattle.std.specs.Result.{OnOk}
use Rattle.soar_sym.specs.Equality.{mark_eq}
use Rattle.soar_sym.specs.Words.{IsTable, Texts}
use Rattle.soar_sym.specs.declared.symbol.Triple.{Triple}
use Rattle.soar_wm.specs.declared.element.Element.{Element}
use Rattle.soar_wm.specs.WorkingMemory.{WorkingMemory, triple_of}
use Rattle.defs_soar.specs.declared.goal.Goal.{Goal}
use Rattle.defs_soar.specs.Goals.{goal_ids, is_goal}
use Rattle.defs_soar.specs.Laws.{IsIn}
use Rattle.defs_soar.specs.Settling.{new_triples, stays, tagged}
use Rattle.defs_soar.specs.Sorted.{has_symbol, in_order}
use Rattle.defs_soar.specs.Values.{has_triple_among}
use Rattle.settling_laws.proofs.ChangeLemmas.{table_tells_apart}
use Rattle.settling_laws.proofs.MemberLemmas.{filter_passes, filter_within, in_append}
use Rattle.settling_laws.proofs.OrderLemmas.{has_filtered, order_is_of_members}
use Rattle.soar_settle.specs.declared.changes.Changes.{Changes}
use Rattle.soar_settle.specs.declared.stop.Stop.{Stop}
use Rattle.soar_settle.specs.declared.stop.Stop.TheVariants as stop
use Rattle.soar_settle.specs.Tagging.{IsTripleKnown}
use Rattle.soar_settle.specs.Settles.{Retagged, Retags, after_of, passed_by}
use Rattle.touched_tags.proofs.MemberLemmas.{member_has}
use Rattle.soar_settle.proofs.TripleOrderLemmas.{both}
use Rattle.touched_tags.proofs.MemoryLemmas.{mark_same}

module _ (words : Texts) (goals : List Goal) (a b : List Triple) (m : WorkingMemory) (table : IsTable words)
    (known : (t : Triple) → has_triple_among a t ≡ true → IsTripleKnown words t) (same : (t : Triple) → has_triple_among b t ≡ has_triple_among a t) where
  same_stay : filter (stays goals a) m.elements ≡ filter (stays goals b) m.elements
  same_stay = ap (λ p. filter p m.elements) (λ i e. sym (same (triple_of e)) i && mark_eq e.of_state (is_goal goals e.id))

  abbrev new_of : List Triple → List Triple
  new_of kept = new_triples (filter (stays goals kept) m.elements) kept

  same_new : (t : Triple) → has_triple_among (new_of a) t ≡ has_triple_among (new_of b) t
  same_new t =
      has_filtered (λ u. not (has_triple_among (map triple_of (filter (stays goals a) m.elements)) u)) a t
      ∙ (λ i. sym (same t) i && not (has_triple_among (map triple_of (same_stay i)) t))
      ∙ sym (has_filtered (λ u. not (has_triple_among (map triple_of (filter (stays goals b) m.elements)) u)) b t)

  is_known : (t : Triple) → IsIn t (new_of a) → IsTripleKnown words t
  is_known t i = known t (member_has a t (filter_within (λ u. not (has_triple_among (map triple_of (filter (stays goals a) m.elements)) u)) a t i))

  same_order : in_order words (new_of a) ≡ in_order words (new_of b)
  same_order = order_is_of_members words (new_of a) (new_of b) (table_tells_apart words (new_of a) table is_known) same_new

  pub same_after : after_of words goals a m ≡ after_of words goals b m
  same_after = λ i. same_stay i ++ tagged goals m.last (same_order i)

pub same_retags : (words : Texts) (goals : List Goal) (a b : List Triple) (old new : WorkingMemory) (r : Result Changes Stop) → after_of words goals a old ≡ after_of words goals b old
    → Retags words goals a old new r → Retags words goals b old new r
same_retags words goals a b old new (Ok changes) same h = let P : List Element → Type 0 = λ after. Retagged after old new changes in subst P same h
same_retags words goals a b old new (Err (stop.Limit which)) same h = (ap (λ after. passed_by after old) (sym same) ∙ h.0, h.1)
same_retags words goals a b old new (Err stop.NoMemory) same h = tt

-- ---- flags

tagged_flags : (goals : List Goal) (last : ℕ) (triples : List Triple) (e : Element) → IsIn e (tagged goals last triples) → e.of_state ≡ is_goal goals e.id
tagged_flags goals last [] e i = absurd i
tagged_flags goals last (t ∷ triples) e (inl q) = subst (λ f. f.of_state ≡ is_goal goals f.id) q refl
tagged_flags goals last (t ∷ triples) e (inr i) = tagged_flags goals (suc last) triples e i

after_flags : (words : Texts) (goals : List Goal) (kept : List Triple) (m : WorkingMemory) (e : Element) → IsIn e (after_of words goals kept m) → e.of_state ≡ is_goal goals e.id
after_flags words goals kept m e i = by (in_append e (filter (stays goals kept) m.elements) (tagged goals m.last (in_order words (new_triples (filter (stays goals kept) m.elements) kept))) i)
  where
    by : IsIn e (filter (stays goals kept) m.elements) ⊎ IsIn e (tagged goals m.last (in_order words (new_triples (filter (stays goals kept) m.elements) kept))) → e.of_state ≡ is_goal goals e.id
    by (inl j) =
        mark_same e.of_state (is_goal goals e.id)
        (both (has_triple_among kept (triple_of e)) (mark_eq e.of_state (is_goal goals e.id)) (filter_passes (stays goals kept) m.elements e j)).1
    by (inr j) = tagged_flags goals m.last (in_order words (new_triples (filter (stays goals kept) m.elements) kept)) e j

pub flags_of : (words : Texts) (goals : List Goal) (kept : List Triple) (old new : WorkingMemory) (r : Result Changes Stop) → Retags words goals kept old new r
    → OnOk r ((e : Element) → IsIn e new.elements → e.of_state ≡ has_symbol (goal_ids goals) e.id)
flags_of words goals kept old new (Ok changes) h = λ e i. after_flags words goals kept old e (subst (λ (m : WorkingMemory). IsIn e m.elements) h.memory_is i)
flags_of words goals kept old new (Err (stop.Limit which)) h = tt
flags_of words goals kept old new (Err stop.NoMemory) h = tt
