use Rattle.std.proofs.Common.{◌≡◌, ◌∙◌, ap, sym, true, false, None, arith}
use Rattle.defs_soar.specs.Explanation.{with_naming}
use Rattle.chunk_back.specs.Namings.{as_naming, namings_in}
use Rattle.chunk_back.proofs.KeyedLemmas.{is_none}
use Rattle.chunk_back.proofs.NamingLemmas.{found_naming, naming_known, naming_new, namings_new}
use Rattle.chunk_back.proofs.naming.Namings.add.Goals as goal

pub invariant_of-self : goal.invariant_of-self
invariant_of-self c =
    let absent : c.contains_key.result ≡ false = grind (arith, c.if-not-contains_key.true) in
    let none : found_naming (as_naming c.args.naming) c.self.inside.namings.entries ≡ None = is_none (found_naming (as_naming c.args.naming) c.self.inside.namings.entries) (sym c.contains_key.ensures ∙ absent) in
    namings_new c.args.naming c.self.inside.namings.entries c.insert.new.self.entries c.self.invariant none c.in_ok-insert.ensures.entries c.in_ok-insert.ensures.ordered

pub returns-in_ok-insert : goal.returns-in_ok-insert
returns-in_ok-insert c =
    let absent : c.contains_key.result ≡ false = grind (arith, c.if-not-contains_key.true) in
    let none : found_naming (as_naming c.args.naming) c.self.inside.namings.entries ≡ None = is_none (found_naming (as_naming c.args.naming) c.self.inside.namings.entries) (sym c.contains_key.ensures ∙ absent) in
    ap namings_in c.in_ok-insert.ensures.entries ∙ naming_new c.args.naming c.self.inside.namings.entries c.self.invariant none ∙ ap (with_naming (as_naming c.args.naming)) c.self.view_is

pub returns-else-not-contains_key : goal.returns-else-not-contains_key
returns-else-not-contains_key c =
    let there : c.contains_key.result ≡ true = grind (arith, c.if-not-contains_key.false) in
    sym c.self.view_is ∙ sym (naming_known c.args.naming c.self.inside.namings.entries c.self.invariant (sym c.contains_key.ensures ∙ there)) ∙ ap (with_naming (as_naming c.args.naming)) c.self.view_is
