use Rattle.std.proofs.Common.{◌≡◌, ◌<◌, ap, arith, length}
use Rattle.std.proofs.lemmas.List.{length-map}
use Rattle.soar_record.specs.Recorded.{firings_in}
use Rattle.soar_record.proofs.RecordLemmas.{above}
use Rattle.soar_record.proofs.record.Record.is_due.Goals as goal

pub returns : goal.returns
returns c due =
    let entries = c.self.inside.firings.entries in
    let as_many : length (firings_in entries) ≡ length entries = length-map entries (λ e. e.1) in
    let seen : length (firings_in entries) ≡ length c.args.self.now = ap length c.self.view_is in
    let more : 1000 < c.len.result = above 1000 c.self.inside.bound c.len.result c.self.invariant.least due in
    omega (arith, more, as_many, seen, c.len.ensures)
