use Rattle.std.proofs.Common.{◌≡◌, ◌∙◌, ap, sym, true, false, None, arith}
use Rattle.std.specs.Map.{lookup}
use Rattle.std.specs.Ordering.{is_eq, nat_cmp}
use Rattle.defs_soar.specs.Explanation.{at_its_tag}
use Rattle.chunk_back.specs.Keyed.{elements_in}
use Rattle.chunk_back.proofs.KeyedLemmas.{is_none, tag_known, tag_new, tagged_new}
use Rattle.chunk_back.proofs.tagged.Tagged.add.Goals as goal

pub invariant_of-self : goal.invariant_of-self
invariant_of-self c =
    let absent : c.contains_key.result ≡ false = grind (arith, c.if-not-contains_key.true) in
    let none : lookup (λ q. is_eq (nat_cmp c.args.element.tag q)) c.self.inside.elements.entries ≡ None = is_none (lookup (λ q. is_eq (nat_cmp c.args.element.tag q)) c.self.inside.elements.entries) (sym c.contains_key.ensures ∙ absent) in
    tagged_new c.args.element c.self.inside.elements.entries c.insert.new.self.entries c.self.invariant none c.in_ok-insert.ensures.entries c.in_ok-insert.ensures.ordered

pub returns-in_ok-insert : goal.returns-in_ok-insert
returns-in_ok-insert c =
    let absent : c.contains_key.result ≡ false = grind (arith, c.if-not-contains_key.true) in
    let none : lookup (λ q. is_eq (nat_cmp c.args.element.tag q)) c.self.inside.elements.entries ≡ None = is_none (lookup (λ q. is_eq (nat_cmp c.args.element.tag q)) c.self.inside.elements.entries) (sym c.contains_key.ensures ∙ absent) in
    ap elements_in c.in_ok-insert.ensures.entries ∙ tag_new c.args.element c.self.inside.elements.entries c.self.invariant none ∙ ap (at_its_tag c.args.element) c.self.view_is

pub returns-else-not-contains_key : goal.returns-else-not-contains_key
returns-else-not-contains_key c =
    let there : c.contains_key.result ≡ true = grind (arith, c.if-not-contains_key.false) in
    sym c.self.view_is ∙ sym (tag_known c.args.element c.self.inside.elements.entries c.self.invariant (sym c.contains_key.ensures ∙ there)) ∙ ap (at_its_tag c.args.element) c.self.view_is
