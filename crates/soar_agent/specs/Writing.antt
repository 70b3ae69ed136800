-- What a command writes, its steps up to a limit and the line of the limit.
use Rattle.std.specs.Prelude.{Bool, List, [], ℕ, ◌++◌, Option, Some, None}
use Rattle.defs_soar.specs.declared.limit.Which.{Which}
use Rattle.defs_soar.specs.Limits.{limit_text}
use Rattle.defs_soar.specs.Trace.{Written, line_text}
use Rattle.defs_run.specs.Sessions.{Session, Reply}
use Rattle.soar_agent.specs.Telling.{front_told, limit_told}

-- what its steps write up to a limit; lines keep the level that was set before it
abbrev pub front_of : Session → Reply → Written
front_of s reply = front_told s.agent.settings.watch s.mid_line reply.told

-- the line of a limit, where one was passed
abbrev pub limit_line : Bool → Option Which → List ℕ
limit_line mid None = []
limit_line mid (Some limit) = line_text mid (limit_text limit)

-- what a command writes
abbrev pub step_text : Session → Reply → List ℕ
step_text s reply = (front_of s reply).text ++ limit_line (front_of s reply).mid_line (limit_told reply.told)
