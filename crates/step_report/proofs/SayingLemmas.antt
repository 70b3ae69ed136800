-- Events that are said one after the other. Crates above cite this file.
use Rattle.std.proofs.Common.{◌≡◌, ℕ, ◌+◌, ◌<◌, Bool, List, [], ◌∷◌, ◌++◌, length, map, flat_map, take, get_or, refl, sym, ap, subst, ◌∙◌, append_assoc, append-nil, add-one}
use Rattle.std.proofs.Math.Seq.{take-suc}
use Rattle.std.proofs.lemmas.List.{map-append}
use Rattle.std.proofs.lemmas.Grind.{flat_map-append}
use Rattle.soar_sym.specs.Words.{Texts}
use Rattle.defs_soar.specs.Events.{Event}
use Rattle.defs_soar.specs.Trace.{Written, followed_by, is_mid_after, pieces_of, rendered}
use Rattle.defs_soar.specs.Waves.{text_events}
use Rattle.wave_entries.specs.Details.{SaysAt}
use Rattle.trace_laws.proofs.EventLemmas.{pieces_in_turn}
use Rattle.trace_laws.proofs.LevelLemmas.{written_in_turn}
use Rattle.step_report.specs.Saying.{SaysEvents, SaysInTurn}

-- ---- two lists

abbrev written : ℕ → Texts → Bool → List Event → Written
written watch words mid events = rendered watch mid (pieces_of words events)

written_both : (watch : ℕ) (words : Texts) (mid : Bool) (first second : List Event)
    → written watch words mid (first ++ second) ≡ followed_by (written watch words mid first) (written watch words (written watch words mid first).mid_line second)
written_both watch words mid first second =
    ap (rendered watch mid) (pieces_in_turn words first second) ∙ written_in_turn watch mid (pieces_of words first) (pieces_of words second)

pub says_both : SaysInTurn
says_both watch words first second mid middle_mid last_mid before middle after one two =
    let w : Written = written watch words mid first in
    let both = written_both watch words mid first second in
    let text : after ≡ before ++ (w.text ++ (written watch words w.mid_line second).text) =
    two.0 ∙ ap (λ (m : Bool). middle ++ (written watch words m second).text) one.1
    ∙ ap (λ (t : List ℕ). t ++ (written watch words w.mid_line second).text) one.0
    ∙ append_assoc before w.text (written watch words w.mid_line second).text in
    let ends : last_mid ≡ (written watch words w.mid_line second).mid_line = two.1 ∙ ap (λ (m : Bool). (written watch words m second).mid_line) one.1 in
    (text ∙ sym (ap (λ (u : Written). before ++ u.text) both), ends ∙ sym (ap (λ (u : Written). u.mid_line) both))

-- ---- none, one, and a text

pub says_none : (watch : ℕ) (words : Texts) (mid : Bool) (before : List ℕ) → SaysEvents watch words [] mid before mid before
unfolding pieces_of
says_none watch words mid before = (sym (append-nil before), refl)

pub says_one : (watch : ℕ) (words : Texts) (e : Event) (mid new_mid : Bool) (before after : List ℕ)
    → SaysAt watch words e mid before new_mid after → SaysEvents watch words (e ∷ []) mid before new_mid after
unfolding pieces_of
says_one watch words e mid new_mid before after h = h

-- a text is written at every level
pub says_text : (watch : ℕ) (words : Texts) (text : List ℕ) (mid new_mid : Bool) (before after : List ℕ)
    → after ≡ before ++ text → new_mid ≡ is_mid_after mid text → SaysEvents watch words (text_events text) mid before new_mid after
unfolding pieces_of
says_text watch words [] mid new_mid before after is ends = (is, ends)
says_text watch words (b ∷ bytes) mid new_mid before after is ends = (is ∙ ap (λ text. before ++ text) (sym (append-nil (b ∷ bytes))), ends)

-- ---- the item at hand, behind those before it

module _ {A : Type 0} (watch : ℕ) (words : Texts) (items : List A) (i : ℕ) (x : A) (within : i < length items) (at : x ≡ get_or items i x)
    (mid middle_mid last_mid : Bool) (before middle after : List ℕ) where
  one_more : take (i + 1) items ≡ take i items ++ x ∷ []
  one_more = ap (λ n. take n items) (add-one i) ∙ take-suc items i x within ∙ ap (λ y. take i items ++ y ∷ []) (sym at)

  says_next : (events : List A → List Event) (here : List Event) → ((first : List A) → events (first ++ x ∷ []) ≡ events first ++ here)
      → SaysEvents watch words (events (take i items)) mid before middle_mid middle → SaysEvents watch words here middle_mid middle last_mid after
      → SaysEvents watch words (events (take (i + 1) items)) mid before last_mid after
  says_next events here more one two =
      subst (λ es. SaysEvents watch words es mid before last_mid after) (sym (ap events one_more ∙ more (take i items)))
      (says_both watch words (events (take i items)) here mid middle_mid last_mid before middle after one two)

  pub says_mapped : (f : A → Event) → SaysEvents watch words (map f (take i items)) mid before middle_mid middle → SaysEvents watch words (f x ∷ []) middle_mid middle last_mid after
      → SaysEvents watch words (map f (take (i + 1) items)) mid before last_mid after
  says_mapped f one two = says_next (map f) (f x ∷ []) (λ first. map-append f first (x ∷ [])) one two

  pub says_mapped_twice : {B : Type 0} (f : B → Event) (g : A → B) → SaysEvents watch words (map f (map g (take i items))) mid before middle_mid middle
      → SaysEvents watch words (f (g x) ∷ []) middle_mid middle last_mid after
      → SaysEvents watch words (map f (map g (take (i + 1) items))) mid before last_mid after
  says_mapped_twice f g one two =
      says_next (λ xs. map f (map g xs)) (f (g x) ∷ []) (λ first. ap (map f) (map-append g first (x ∷ [])) ∙ map-append f (map g first) (g x ∷ [])) one two

  pub says_flat : (f : A → List Event) → SaysEvents watch words (flat_map f (take i items)) mid before middle_mid middle → SaysEvents watch words (f x) middle_mid middle last_mid after
      → SaysEvents watch words (flat_map f (take (i + 1) items)) mid before last_mid after
  says_flat f one two =
      says_next (flat_map f) (f x) (λ first. flat_map-append f first (x ∷ []) ∙ ap (λ events. flat_map f first ++ events) (append-nil (f x))) one two
