-- Starting anew.
use Rattle.std.specs.Prelude.{[]}
use Rattle.defs_soar.specs.Start.{restarted}
use Rattle.defs_run.specs.Sessions.{Session, Reply, quiet}

-- the labels go
abbrev pub restarts : Session → Reply
restarts s = quiet (record s { agent = restarted s.agent; labels = [] })
