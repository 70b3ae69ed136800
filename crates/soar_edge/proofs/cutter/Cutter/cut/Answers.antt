use Rattle.std.proofs.Common.{arith, length-drop}
use Rattle.soar_sym.specs.declared.error.NoMemory.{NoMemory}
use Rattle.soar_edge.proofs.CutLemmas.{whole_stands, long_stands, past_stays, told_unfinished}
use Rattle.soar_edge.proofs.cutter.Cutter.cut.Goals as goal

pub command-requires : goal.command-requires
command-requires c = omega (arith, c.requires.within, c.in-Ends.ensures.within, length-drop c.args.size c.args.self.now.bytes)

pub returns-in_ok-command-in-Ends-clause-cut : goal.returns-in_ok-command-in-Ends-clause-cut
returns-in_ok-command-in-Ends-clause-cut c =
    rw (c.pass-in-Ends.ensures, c.pass.ensures, c.in_ok-command-in-Ends.ensures.line, c.in_ok-command-in-Ends.ensures.text)
    (whole_stands c.args.self.now c.args.size c.in-Ends.count c.requires c.in-Ends.ensures)

pub returns-in-GoesOn-clause-cut : goal.returns-in-GoesOn-clause-cut
returns-in-GoesOn-clause-cut c =
    told_unfinished NoMemory c.args.self.now c.pass-in-GoesOn.new.self c.args.size c.in-GoesOn.scan c.unfinished.result c.requires c.in-GoesOn.ensures c.pass-in-GoesOn.ensures c.unfinished.ensures

pub returns-in-TooLong-clause-cut : goal.returns-in-TooLong-clause-cut
returns-in-TooLong-clause-cut c =
    rw c.pass-in-TooLong.ensures
    (long_stands c.args.self.now c.args.size c.in-TooLong.scan c.requires c.in-TooLong.ensures, past_stays c.args.self.now c.args.size c.requires.skips)
