-- The indices as a node hears of other than it did.
use Rattle.std.proofs.Common.{◌≡◌, ◌≢◌, inl, inr, sym, ap, subst, ◌∙◌, Bool, true, false, ℕ, List, Option, Some}
use Rattle.std.proofs.lemmas.Bool.{cases_eq}
use Rattle.std.specs.Option.{option_map}
use Rattle.defs_match.specs.Laws.{IsIn}
use Rattle.soar_wm.specs.declared.element.Element.{Element}
use Rattle.node_table.specs.declared.node.Hears.{Hears}
use Rattle.node_table.specs.declared.node.Node.{Node}
use Rattle.node_table.specs.Serving.{IsKeyed, ServedAt}
use Rattle.node_table.specs.Asked.{asker, asker_by}
use Rattle.node_table.specs.Making.{Seen, seen, seen_at}
use Rattle.node_table.proofs.StandLemmas.{now, now_here, now_served}
use Rattle.node_agenda.specs.declared.turns.TurnKey.{TurnKey}
use Rattle.node_agenda.specs.Agenda.{turn_of}
use Rattle.node_agenda.specs.Links.{links_by, links_of, takers_by, takers_of, where_heard, IsSpread, AreLinked, Relinks}
use Rattle.node_agenda.proofs.SpreadLemmas.{NamesOwn, spread_same, spread_more, spread_less, links_own, takers_own}

-- one node's own keys are there where it is to hear, and no others' change
pub spread_relinked : (f : Option Seen → ℕ → List TurnKey) → NamesOwn f → (old new : ℕ → Option Seen) (n : ℕ) (was is : Bool) (own keys0 keys1 : List TurnKey) → IsSpread f old keys0
    → f (old n) n ≡ where_heard was own → f (new n) n ≡ where_heard is own → ((k : ℕ) → k ≢ n → f (new k) k ≡ f (old k) k) → Relinks was is own keys0 keys1 → IsSpread f new keys1
spread_relinked f names old new n true true own keys0 keys1 s before after others r =
    subst (IsSpread f new) (sym r) (spread_same f old new keys0 (λ k. elim (cases_eq k n) [
      | inl e ↦ subst (λ (i : ℕ). f (new i) i ≡ f (old i) i) (sym e) (after ∙ sym before)
      | inr ne ↦ others k ne
    ]) s)
spread_relinked f names old new n false false own keys0 keys1 s before after others r =
    subst (IsSpread f new) (sym r) (spread_same f old new keys0 (λ k. elim (cases_eq k n) [
      | inl e ↦ subst (λ (i : ℕ). f (new i) i ≡ f (old i) i) (sym e) (after ∙ sym before)
      | inr ne ↦ others k ne
    ]) s)
spread_relinked f names old new n false true own keys0 keys1 s before after others r =
    spread_more f names old new n keys0 keys1 s before others (λ c. (
      (λ i. elim ((r c).0 i) [ inl k ↦ inl (subst (λ (l : List TurnKey). IsIn c l) (sym after) k) | inr k ↦ inr k ]),
      (λ h. (r c).1 (elim h [ inl k ↦ inl (subst (λ (l : List TurnKey). IsIn c l) after k) | inr k ↦ inr k ])),
    ))
spread_relinked f names old new n true false own keys0 keys1 s before after others r =
    spread_less f names old new n keys0 keys1 s after others (λ c. (
      (λ i. (let k = (r c).0 i in (k.0, λ h. k.1 (subst (λ (l : List TurnKey). IsIn c l) before h)))),
      (λ h. (r c).1 (h.0, λ i. h.1 (subst (λ (l : List TurnKey). IsIn c l) (sym before) i))),
    ))

-- a node that was served
module _ (old new : ℕ → Option Node) (n stamp : ℕ) (index : List Element) (come goes : Option Element) (s : ServedAt old new n stamp index come goes) (j : IsKeyed old n) where
  pub linked_on : (was : Hears) (below takers below1 takers1 : List TurnKey) → ((node : Node) → old n ≡ Some node → was ≡ node.hears) → AreLinked old below takers
      → ((node : Node) → new n ≡ Some node → Relinks was.rows node.hears.rows (links_by node.key (turn_of node n)) below below1)
      → ((node : Node) → new n ≡ Some node → Relinks was.elements node.hears.elements (takers_by (asker node) (turn_of node n)) takers takers1)
      → AreLinked new below1 takers1
  linked_on was below takers below1 takers1 is linked links_ takers_ =
      record {
        rows = spread_relinked links_of links_own (seen_at old) (seen_at new) n was.rows its.hears.rows (links_by its.key (turn_of its n)) below below1 linked.rows
            (ap (λ (o : Option Node). links_of (option_map seen o) n) j.here ∙ (λ i. where_heard ((heard i).rows) (links_by (key i) (record { made = made i; node = n }))))
            (ap (λ (o : Option Node). links_of (option_map seen o) n) here) (λ k ne. ap (λ (o : Option Node). links_of (option_map seen o) k) (s.others k ne)) (links_ its here);
        elements = spread_relinked takers_of takers_own (seen_at old) (seen_at new) n was.elements its.hears.elements (takers_by (asker its) (turn_of its n)) takers takers1 linked.elements
            (ap (λ (o : Option Node). takers_of (option_map seen o) n) j.here ∙ (λ i. where_heard ((heard i).elements) (takers_by (asker_by (alpha i) (key i)) (record { made = made i; node = n }))))
            (ap (λ (o : Option Node). takers_of (option_map seen o) n) here) (λ k ne. ap (λ (o : Option Node). takers_of (option_map seen o) k) (s.others k ne)) (takers_ its here);
      }
    where
      its : Node
      its = now old new n stamp index come goes s j

      here : new n ≡ Some its
      here = now_here old new n stamp index come goes s j

      heard : j.node.hears ≡ was
      heard = sym (is j.node j.here)

      key : j.node.key ≡ its.key
      key = sym (now_served old new n stamp index come goes s j).key

      made : j.node.made ≡ its.made
      made = sym (now_served old new n stamp index come goes s j).made

      alpha : j.node.alpha ≡ its.alpha
      alpha = sym (now_served old new n stamp index come goes s j).alpha
