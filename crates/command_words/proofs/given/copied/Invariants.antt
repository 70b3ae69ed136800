use Rattle.std.proofs.Common.{◌≡◌, ◌++◌, drop, map}
use Rattle.command_words.proofs.given.copied.Given as goal

abbrev pub invariant-loop-name : goal.invariant-loop-name
invariant-loop-name l = l.files ++ map (λ name. name.now) (drop l.name-index l.names) ≡ map (λ name. name.now) l.names
