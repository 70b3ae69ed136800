use Rattle.std.proofs.Common.{◌∙◌, length, ap, subst}
use Rattle.soar_sym.specs.declared.error.NoMemory.{NoMemory}
use Rattle.soar_edge.specs.Holding.{past}
use Rattle.soar_edge.specs.Leading.{Skips, IsOpenComment, LeadsTo}
use Rattle.soar_edge.proofs.CutLemmas.{told_nothing, told_comment, shortened}
use Rattle.soar_edge.proofs.cutter.Cutter.next_command.Goals as goal

pub returns-in-Nothing-clause-cut : goal.returns-in-Nothing-clause-cut
returns-in-Nothing-clause-cut c =
    let old = c.args.self.now in
    let skips = subst (λ bytes. Skips bytes (length bytes)) c.rest.ensures c.in-Nothing.ensures in
    let moved = c.pass.ensures ∙ ap (λ bytes. past old (length bytes)) c.rest-in-Nothing.ensures in
    told_nothing NoMemory old c.pass.new.self c.nothing_left.result skips moved c.nothing_left.ensures

pub returns-in-Comment-clause-cut : goal.returns-in-Comment-clause-cut
returns-in-Comment-clause-cut c =
    let size = c.in-Comment.size in
    let lead = subst (λ bytes. LeadsTo IsOpenComment bytes size) c.rest.ensures c.in-Comment.ensures in
    told_comment NoMemory c.args.self.now c.shorten.new.self size c.nothing_left-in-Comment.result lead (c.shorten.ensures ∙ ap shortened c.pass-in-Comment.ensures) c.nothing_left-in-Comment.ensures
