use Rattle.std.proofs.Common.{◌∙◌, sym, ap}
use Rattle.std.specs.Prelude.{option_and_then}
use Rattle.std.specs.BTreeMap as numbers_of
use Rattle.slab.specs.Slab.{get}
use Rattle.node_table.specs.Nodes.{key_cmp, key_at, key_of}
use Rattle.node_table.proofs.NumberLemmas.{numbered_last, numbered_unkeyed}
use Rattle.node_table.proofs.KeyLemmas.{alike, alike_same, alike_itself}
use Rattle.node_table.proofs.requests.remove_node.Goals as goal

pub returns-in-Some-key-clause-numbered : goal.returns-in-Some-key-clause-numbered
returns-in-Some-key-clause-numbered c =
    numbered_last alike alike_same alike_itself (numbers_of.get key_cmp c.args.numbers.now) (numbers_of.get key_cmp c.remove.new.self) (key_at (get c.args.nodes.now)) (key_at (get c.try_remove.new.self)) c.args.n c.in-Some-key.key
    c.requires.numbered (ap (option_and_then key_of) (sym c.in-Some.ensures.value) ∙ c.in-Some-key.is) c.remove.ensures.updates.0 (ap (option_and_then key_of) c.in-Some.ensures.updates.changed)
    (λ k ne. ap (option_and_then key_of) (c.in-Some.ensures.updates.others k ne))

pub returns-clause-numbered : goal.returns-clause-numbered
returns-clause-numbered c =
    numbered_unkeyed (numbers_of.get key_cmp c.args.numbers.now) (key_at (get c.args.nodes.now)) (key_at (get c.try_remove.new.self)) c.args.n c.requires.numbered (ap (option_and_then key_of) (sym c.in-Some.ensures.value) ∙ c.in_default-key.is)
    (ap (option_and_then key_of) c.in-Some.ensures.updates.changed) (λ k ne. ap (option_and_then key_of) (c.in-Some.ensures.updates.others k ne))
