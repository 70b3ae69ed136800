-- How the end of a production is read.
use Rattle.std.proofs.Common.{◌≡◌, refl, List, map, Ok, Err}
use Rattle.soar_sym.specs.Words.{Texts}
use Rattle.defs_read.specs.Grammar.{ActionTree, Part, Tree}
use Rattle.defs_read.specs.Reading.{parts_of}
use Rattle.defs_read.specs.ReadingActions.{action_at}
use Rattle.defs_read.specs.ReadingTokens.{ReadOf, is_arrow, is_mark}
use Rattle.defs_read.specs.Readers.{many, then_read, token}
use Rattle.defs_read.specs.Sayings.{word_text}
use Rattle.defs_read.specs.Spelling.{Tokens}
use Rattle.tree_parts.specs.Seen.{flag_seen}
use Rattle.soar_tree.specs.Reading.{actions_behind, ending_at}
use Rattle.soar_tree.specs.declared.production.Head.{Head}

-- the tree of these parts
abbrev pub tree_with : Texts → Head → Part → List Part → List ActionTree → Tree
tree_with words head part parts actions =
    record { name = word_text words head.name; bare = head.bare; doc = head.doc; flags = map flag_seen head.flags; part = part; parts = parts_of parts; actions = actions }

pub behind_ending : (words : Texts) (head : Head) (part : Part) (parts : List Part) (ts : Tokens)
    → actions_behind words head part parts ts ≡ then_read (ending_at ts) (λ actions rest. Ok (tree_with words head part parts actions, rest))
behind_ending words head part parts ts = behind (token is_arrow ts)
  where
    closed : (actions : List ActionTree) (r : ReadOf (record {}))
        → then_read r (λ _ rest. Ok (tree_with words head part parts actions, rest)) ≡ then_read (then_read r (λ _ rest. Ok (actions, rest))) (λ actions rest. Ok (tree_with words head part parts actions, rest))
    closed actions (Ok r) = refl
    closed actions (Err e) = refl

    made : (r : ReadOf (List ActionTree))
        → then_read r (λ actions rest. then_read (token (is_mark 125) rest) (λ _ rest. Ok (tree_with words head part parts actions, rest)))
        ≡ then_read (then_read r (λ actions rest. then_read (token (is_mark 125) rest) (λ _ rest. Ok (actions, rest)))) (λ actions rest. Ok (tree_with words head part parts actions, rest))
    made (Ok r) = closed r.0 (token (is_mark 125) r.1)
    made (Err e) = refl

    behind : (r : ReadOf (record {}))
        → then_read r (λ _ rest. then_read (many (is_mark 40) (action_at 63) rest) (λ actions rest. then_read (token (is_mark 125) rest) (λ _ rest. Ok (tree_with words head part parts actions, rest))))
        ≡ then_read (then_read r (λ _ rest. then_read (many (is_mark 40) (action_at 63) rest) (λ actions rest. then_read (token (is_mark 125) rest) (λ _ rest. Ok (actions, rest))))) (λ actions rest. Ok (tree_with words head part parts actions, rest))
    behind (Ok r) = made (many (is_mark 40) (action_at 63) r.1)
    behind (Err e) = refl
