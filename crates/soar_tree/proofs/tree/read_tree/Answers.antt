-- tokens behind a production
use Rattle.std.proofs.Common.{◌≡◌, refl, ◌∙◌, ap, List, [], ◌∷◌, Ok, Err, length, rules}
use Rattle.std.proofs.lemmas.List.{length-map}
use Rattle.soar_sym.specs.Words.{Texts}
use Rattle.defs_text.specs.declared.token.Token.{Token}
use Rattle.defs_read.specs.Grammar.{Tree}
use Rattle.defs_read.specs.Readers.{unexpected, then_read, at_end}
use Rattle.defs_read.specs.ReadingActions.{production_at, tree_of}
use Rattle.defs_read.specs.ReadingTokens.{ReadOf}
use Rattle.defs_read.specs.Sayings.{saying_of, sayings}
use Rattle.tree_parts.specs.Seen.{tree_seen}
use Rattle.soar_tree.proofs.tree.read_tree.Goals as goal

left_over : (words : Texts) (tokens rest : List Token) (tree : Tree) → production_at (sayings words tokens) ≡ Ok (tree, sayings words rest) → (rest ≡ [] → ⊥)
    → tree_of (sayings words tokens) ≡ Err (unexpected, length rest)
unfolding tree_of
left_over words tokens [] tree e some = absurd (some refl)
left_over words tokens (t ∷ rest) tree e some =
    ap (λ (r : ReadOf Tree). elim (then_read r at_end) [ Ok r ↦ Ok r.0 | Err e ↦ Err e ]) e ∙ ap (λ n. Err (unexpected, n)) (length-map (t ∷ rest) (λ t. saying_of words t.kind))

pub returns-else-is_empty-clause-tree : goal.returns-else-is_empty-clause-tree
returns-else-is_empty-clause-tree c =
    left_over c.args.table.now c.args.tokens.now c.in_ok-tree.rest.now (tree_seen c.args.table.now c.in_ok-tree.tree) c.in_ok-tree.ensures.gives (search rules)
