use Rattle.std.proofs.Common.{◌∙◌, ap, ℕ, List}
use Rattle.std.specs.Map.{lookup}
use Rattle.std.specs.Ordering.{is_eq}
use Rattle.std.specs.BTreeMap as numbers_of
use Rattle.std.specs.Prelude.{option_and_then}
use Rattle.slab.specs.Slab.{get}
use Rattle.node_table.specs.Nodes.{key_cmp, key_at, key_of, KeyOf}
use Rattle.node_table.proofs.NumberLemmas.{numbered_first, numbered_same, numbered_by, undone}
use Rattle.node_table.proofs.KeyLemmas.{alike, alike_same, alike_itself}
use Rattle.node_table.proofs.requests.ask_first.Goals as goal

pub returns-in-Ok-clause-numbered : goal.returns-in-Ok-clause-numbered
returns-in-Ok-clause-numbered c =
    numbered_first alike alike_same alike_itself (numbers_of.get key_cmp c.args.numbers.now) (numbers_of.get key_cmp c.put_number.new.numbers) (key_at (get c.args.nodes.now)) (key_at (get c.insert.new.self)) c.in_ok-n.n c.args.key
    c.requires.numbered c.requires.new (ap (option_and_then key_of) c.in_ok-n.ensures.was_vacant) c.in-Ok.ensures.ok (ap (option_and_then key_of) c.in_ok-n.ensures.updates.changed ∙ c.requires.own)
    (λ k ne. ap (option_and_then key_of) (c.in_ok-n.ensures.updates.others k ne))

pub returns-in-Err-clause-err : goal.returns-in-Err-clause-err
returns-in-Err-clause-err c =
    undone (get c.args.nodes.now) (get c.insert.new.self) (get c.try_remove.new.self) c.in_ok-n.n c.in_ok-n.ensures.was_vacant c.in_ok-n.ensures.updates.others c.try_remove.ensures.updates.changed c.try_remove.ensures.updates.others

pub returns-in-Err-clause-numbered : goal.returns-in-Err-clause-numbered
returns-in-Err-clause-numbered c =
    numbered_same (numbers_of.get key_cmp c.put_number.new.numbers) (key_at (get c.args.nodes.now)) (key_at (get c.try_remove.new.self))
    (numbered_by (numbers_of.get key_cmp c.args.numbers.now) (numbers_of.get key_cmp c.put_number.new.numbers) (key_at (get c.args.nodes.now)) c.requires.numbered
    (λ k. ap (λ (es : List (KeyOf × ℕ)). lookup (λ q. is_eq (key_cmp k q)) es) c.in-Err.ensures.err))
    (λ n. ap (option_and_then key_of) (undone (get c.args.nodes.now) (get c.insert.new.self) (get c.try_remove.new.self) c.in_ok-n.n c.in_ok-n.ensures.was_vacant c.in_ok-n.ensures.updates.others c.try_remove.ensures.updates.changed c.try_remove.ensures.updates.others n))
