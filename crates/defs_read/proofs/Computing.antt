-- What is opened where a reading is computed.
use Rattle.std.specs.Prelude.{ℕ}
use Rattle.std.specs.Char.{encode_utf8}
use Rattle.std.specs.Fmt.{digits}
use Rattle.std.specs.Str.{is_utf8, chars}
use Rattle.std.specs.Str.Lossy.{utf8_valid_len}
use Rattle.defs_text.specs.Lexing.{lexed}
use Rattle.defs_read.specs.Reading.{part_at}
use Rattle.defs_read.specs.ReadingActions.{tree_of}
use Rattle.defs_read.specs.ReadingValues.{term_at}

unfoldable pub computing : ℕ
unfolding encode_utf8 digits is_utf8 chars utf8_valid_len lexed tree_of part_at term_at
computing = 0
