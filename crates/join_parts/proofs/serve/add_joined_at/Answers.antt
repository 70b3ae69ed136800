use Rattle.std.proofs.Common.{◌≡◌, ◌↔◌, ◌∙◌, ◌++◌, sym, ap, subst, List, Option, Some, None}
use Rattle.std.specs.Ordering.{nat_cmp}
use Rattle.std.specs.Cmp.Lexicographic.{slice_cmp}
use Rattle.std.specs.BTreeMap.{get}
use Rattle.std.proofs.lemmas.Result.{on_ok_weaker}
use Rattle.soar_sym.specs.declared.symbol.Sym.{Sym}
use Rattle.defs_match.specs.Laws.{IsIn}
use Rattle.defs_match.specs.Rows.{Row}
use Rattle.node_memory.specs.declared.symbols.Joined.{Joined}
use Rattle.node_memory.specs.Changes.{join_one}
use Rattle.node_memory.specs.Memories.{has, symbols_in}
use Rattle.join_parts.proofs.ServeLemmas.{of_value}
use Rattle.join_parts.proofs.serve.add_joined_at.Goals as goal

pub rows_with-requires-clause-joined : goal.rows_with-requires-clause-joined
rows_with-requires-clause-joined c = subst (λ (j : Joined). IsIn j c.args.memory.now.joined.items) (sym c.joined_of-joined.ensures) c.requires.joined

pub returns : goal.returns
returns c =
    let found = get (slice_cmp nat_cmp) c.args.memory.now.rows in
    on_ok_weaker c.add_by_one-2.result
    (λ is. of_value c.args.p.now c.args.e.now found c.args.id c.in_ok-known.known.items c.in_ok-free.free.items c.args.out.now.items c.add_by_one.new.out.items c.add_by_one-2.new.out.items
    (λ x. subst (λ (j : Joined). IsIn x c.in_ok-known.known.items ↔ (has found x × (symbols_in j x.bindings ≡ record { id = c.args.id; value = Some c.args.e.now.value }))) c.joined_of-joined.ensures (c.in_ok-known.ensures x))
    (λ x. subst (λ (j : Joined). IsIn x c.in_ok-free.free.items ↔ (has found x × (symbols_in j x.bindings ≡ record { id = c.args.id; value = None }))) c.joined_of-joined.ensures (c.in_ok-free.ensures x))
    (c.in_ok-add_by_one.ensures ∙ ap (λ rs. c.args.out.now.items ++ join_one c.args.p.now c.args.e.now rs) c.as_slice.ensures.value)
    (is ∙ ap (λ rs. c.add_by_one.new.out.items ++ join_one c.args.p.now c.args.e.now rs) c.as_slice-2.ensures.value)) c.add_by_one-2.ensures
