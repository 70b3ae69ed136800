use Rattle.std.proofs.Common.{◌≡◌, ◌++◌, drop}
use Rattle.defs_text.specs.Symbols.{tags_text}
use Rattle.soar_show.proofs.instance.push_tags.Given as goal

abbrev pub invariant-tags : goal.invariant-tags
invariant-tags l = l.out ++ tags_text (drop l.tag-index l.tags) ≡ l.initial.out ++ tags_text l.tags
