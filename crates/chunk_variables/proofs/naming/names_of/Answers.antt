use Rattle.std.proofs.Common.{◌∙◌, ◌++◌, ◌+◌, [], List, ℕ, ap, get_or, map, refl, take}
use Rattle.defs_soar.specs.Variablized.{names_from}
use Rattle.chunk_variables.specs.declared.variables.Variablized.TheVariants.{Identifier}
use Rattle.chunk_variables.specs.Seen.{variablized_seen}
use Rattle.chunk_variables.proofs.NamingLemmas.{counted_first, counted_more, named_more, seen_before}
use Rattle.chunk_variables.proofs.naming.names_of.Goals as goal

pub items-init : goal.items-init
items-init c = record {
  counted = counted_first c.new-letters.result c.new-letters.ensures;
  named = ap (λ (names : List (List ℕ)). names ++ names_from [] (map variablized_seen c.args.items.now)) c.new-names.ensures;
}

pub items-preserved : goal.items-preserved
items-preserved c =
    let items = c.args.items.now in
    let none = Identifier 0 0 in
    let item = get_or items c.items.item-index none in
    record {
      counted = counted_more c.items.letters c.next_name.new.letters (map variablized_seen (take c.items.item-index items)) (map variablized_seen (take (c.items.item-index + 1) items)) item
          c.items.invariant.counted c.in_ok-next_name.ensures.capital.0 c.in_ok-next_name.ensures.capital.1 c.in_ok-next_name.ensures.letters
          (seen_before items c.items.item-index item none c.items-test.true refl);
      named = named_more items c.items.item-index item none c.items.letters c.items.names c.push.new.self c.in_ok-next_name.field-0 c.items-test.true refl c.items.invariant.counted
          c.in_ok-next_name.ensures.capital.0 c.in_ok-next_name.ensures.capital.1 c.in_ok-next_name.ensures.name c.in_ok-push.ensures.ok
          ∙ c.items.invariant.named;
    }
