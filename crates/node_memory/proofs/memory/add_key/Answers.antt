use Rattle.std.proofs.Common.{◌≡◌, ◌↔◌, ◌⊎◌, ◌∙◌, ap₂, subst}
use Rattle.defs_match.specs.Laws.{IsIn}
use Rattle.node_memory.specs.declared.symbols.SymbolKey.{SymbolKey}
use Rattle.node_memory.specs.Memories.{key_for}
use Rattle.node_memory.proofs.memory.add_key.Goals as goal

pub returns : goal.returns
returns c k =
    let same : c.key_of.result ≡ key_for c.args.joined c.args.row.now = c.key_of.ensures ∙ ap₂ (λ t bs. key_for c.args.joined (record { tags = t; bindings = bs })) (c.in_ok-tags.ensures ∙ c.tags.ensures) c.bindings.ensures in
    subst (λ (h : SymbolKey). IsIn k c.add.new.self ↔ ((h ≡ k) ⊎ IsIn k c.args.index.now)) same (c.in_ok-add.ensures.ok k)
