use Rattle.std.proofs.Common.{◌≡◌, true, drop}
use Rattle.defs_read.specs.FreshNames.{has_name}
use Rattle.read_parts.specs.Words.{are_words_known, texts_of}
use Rattle.read_parts.proofs.names.has_text.Given as goal

abbrev pub invariant-words : goal.invariant-words
invariant-words l = record {
  known : are_words_known l.table (drop l.word-index l.words) ≡ true;
  rest : has_name (texts_of l.table (drop l.word-index l.words)) l.text ≡ has_name (texts_of l.table l.words) l.text;
}
