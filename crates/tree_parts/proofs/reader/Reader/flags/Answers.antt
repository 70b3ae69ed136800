-- the loop that reads flags
use Rattle.std.proofs.Common.{refl, sym, ◌∙◌, subst, true, false}
use Rattle.defs_read.specs.Readers.{begins, taken}
use Rattle.defs_read.specs.Reading.{as_flag, may_follow, with_flag}
use Rattle.tree_parts.specs.Seen.{flag_seen}
use Rattle.tree_parts.specs.Underway.{Underway}
use Rattle.tree_parts.proofs.LoopLaws.{pushed, ended, stopped}
use Rattle.tree_parts.proofs.reader.Reader.flags.Goals as goal

pub flags-preserved : goal.flags-preserved
flags-preserved c =
    subst
    (λ s. Underway (λ s ts. begins (may_follow s) ts) with_flag (taken as_flag) (record { support = false; kind = false }) flag_seen (λ flag. true) c.args.self.now c.args.tokens.now
    s c.push.new.self c.in-Ok.after.now)
    (sym c.with-seen.ensures)
    (pushed c.flags.invariant c.push.new.self c.in-Ok.flag c.in-Ok.after.now c.in_ok-push-in-Ok.ensures.ok (sym c.flag_follows.ensures ∙ c.flags-test.true)
    c.in-Ok.ensures.gives refl c.in-Ok.ensures.rest)

pub returns-in-Err-clause-gives : goal.returns-in-Err-clause-gives
returns-in-Err-clause-gives c = stopped c.flags.invariant c.in-Err.stop (sym c.flag_follows.ensures ∙ c.flags-test.true) c.in-Err.ensures.gives

pub returns-clause-gives : goal.returns-clause-gives
returns-clause-gives c = ended c.flags.invariant (sym c.flag_follows.ensures ∙ c.flags-test.false)
