-- What the private readers answer. No public clause cites this module.
use Rattle.std.specs.Prelude.{true, false, List, length, map, Ok, Err}
use Rattle.soar_sym.specs.Words.{Texts}
use Rattle.defs_read.specs.Grammar.{ActionTree, Part, Tree}
use Rattle.defs_read.specs.Readers.{unexpected, deep, begins, then_read, token, many}
use Rattle.defs_read.specs.Reading.{begins_part, opens, part_at, parts_of}
use Rattle.defs_read.specs.ReadingActions.{action_at, most_open}
use Rattle.defs_read.specs.ReadingTokens.{is_arrow, is_mark, ReadOf}
use Rattle.defs_read.specs.Sayings.{word_text}
use Rattle.defs_read.specs.Spelling.{Tokens}
use Rattle.tree_parts.specs.Seen.{flag_seen}
use Rattle.soar_tree.specs.declared.production.Head.{Head}

-- no condition, where no more brackets may be open
abbrev pub nothing_at : Tokens → ReadOf Part
nothing_at ts = elim (begins opens ts) [ true ↦ Err (deep, length ts) | false ↦ Err (unexpected, length ts) ]

-- the arrow, the actions and the last brace
abbrev pub ending_at : Tokens → ReadOf (List ActionTree)
ending_at ts =
    then_read (token is_arrow ts) (λ _ rest. then_read (many (is_mark 40) (action_at 63) rest) (λ actions rest. then_read (token (is_mark 125) rest) (λ _ rest. Ok (actions, rest))))

-- the same, behind these conditions
abbrev pub actions_behind : Texts → Head → Part → List Part → Tokens → ReadOf Tree
actions_behind words head part parts ts =
    then_read (token is_arrow ts) (λ _ rest. then_read (many (is_mark 40) (action_at 63) rest) (λ actions rest. then_read (token (is_mark 125) rest) (λ _ rest.
    Ok (record { name = word_text words head.name; bare = head.bare; doc = head.doc; flags = map flag_seen head.flags; part = part; parts = parts_of parts; actions = actions }, rest))))

-- the conditions and what follows, behind name, documentation and flags
abbrev pub conditions_behind : Texts → Head → Tokens → ReadOf Tree
conditions_behind words head ts =
    then_read (part_at most_open ts) (λ part rest. then_read (many begins_part (part_at most_open) rest) (λ parts rest. actions_behind words head part parts rest))
