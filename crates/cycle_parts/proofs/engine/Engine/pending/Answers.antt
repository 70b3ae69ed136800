use Rattle.std.proofs.Common.{◌≡◌, Bool, IfOk, map, sym, subst}
use Rattle.defs_match.specs.Rules.{rule_seen}
use Rattle.defs_soar.specs.Pending.{is_none}
use Rattle.pending_work.specs.Firables.{IsPending}
use Rattle.pending_work.specs.Working.{is_nothing}
use Rattle.decision_parts.specs.Seen.{IsSound, pending_of}
use Rattle.decision_parts.specs.Parts.{Parts as PartsKept}
use Rattle.cycle_parts.proofs.ToldLemmas.{open_in, told_alone, told_sound}
use Rattle.cycle_parts.proofs.engine.Engine.pending.Goals as goal

pub pending-requires-clause-sound : goal.pending-requires-clause-sound
pending-requires-clause-sound g c =
    let a = c.args.self.now.parts in
    subst IsSound (sym (told_alone a c.outstanding.new.live c.outstanding.ensures.list)) (told_sound a c.outstanding.new.live.told c.requires.sound)

pub pending-requires-clause-left : goal.pending-requires-clause-left
pending-requires-clause-left g c =
    let a = c.args.self.now.parts in
    open_in (g.M.Matcher.rules c.args.self.now.matcher) (map rule_seen a.rules) (g.M.Matcher.elements c.args.self.now.matcher) a.memory.elements a.live.list c.outstanding.new.live.list c.in_ok-left.left
    c.requires.bond.rules_are c.requires.bond.elements_are c.outstanding.ensures.list c.in_ok-left.ensures.unfired c.in_ok-left.ensures.unmatched

pub returns-in_err-left-clause-parts : goal.returns-in_err-left-clause-parts
returns-in_err-left-clause-parts g c = told_alone c.args.self.now.parts c.outstanding.new.live c.outstanding.ensures.list

pub returns-clause-parts : goal.returns-clause-parts
returns-clause-parts g c = told_alone c.args.self.now.parts c.outstanding.new.live c.outstanding.ensures.list

pub returns-clause-work : goal.returns-clause-work
returns-clause-work g c =
    let a = c.args.self.now.parts in
    subst (λ (on : Bool). IfOk c.pending.result (λ work. IsPending (map rule_seen a.rules) a.memory.elements work (pending_of on a))) c.is_proposing.ensures
    (subst (λ (p : PartsKept). IfOk c.pending.result (λ work. IsPending (map rule_seen p.rules) p.memory.elements work (pending_of c.is_proposing.result p)))
    (told_alone a c.outstanding.new.live c.outstanding.ensures.list) c.pending.ensures.work)

pub returns-clause-none : goal.returns-clause-none
returns-clause-none g c =
    let a = c.args.self.now.parts in
    subst (λ (on : Bool). IfOk c.pending.result (λ work. is_nothing work ≡ is_none (pending_of on a))) c.is_proposing.ensures
    (subst (λ (p : PartsKept). IfOk c.pending.result (λ work. is_nothing work ≡ is_none (pending_of c.is_proposing.result p)))
    (told_alone a c.outstanding.new.live c.outstanding.ensures.list) c.pending.ensures.none)
