use Rattle.std.proofs.Common.{map, IfOk, subst, sym}
use Rattle.std.proofs.lemmas.Result.{IfOk-weaker}
use Rattle.defs_match.specs.Rules.{rule_seen}
use Rattle.defs_soar.specs.Pending.{pending_in}
use Rattle.live_firings.specs.Living.{live_seen}
use Rattle.pending_work.specs.Firables.{IsPending}
use Rattle.wave_parts.specs.Seen.{AreLiveKnown, pending_of}
use Rattle.wave_parts.proofs.AnsweredLemmas.{same_answer}
use Rattle.wave_parts.proofs.NamedLemmas.{pending_named}
use Rattle.wave_parts.proofs.parts.Parts.pending.Goals as goal

pub returns : goal.returns
returns c =
    let a = c.args.self.now in
    let rules = map rule_seen a.rules in
    let work : IfOk c.pending.result (λ work. IsPending rules a.memory.elements work (pending_of c.args.proposing a)) =
    subst (λ gs. IfOk c.pending.result (λ work. IsPending rules a.memory.elements work (pending_in c.args.proposing rules a.memory.elements gs (map live_seen a.live.list))))
    c.list.ensures.goals (c.pending.ensures.work a.live.list c.requires.left) in
    record {
      work = work;
      none = same_answer rules a.memory.elements (pending_of c.args.proposing a) c.pending.result work c.pending.ensures.bound;
      bound = c.pending.ensures.bound;
      known = IfOk-weaker c.pending.result _ _ (λ work known. known a.table c.requires.sound.elements_known) c.pending.ensures.known;
      names =
          IfOk-weaker c.pending.result _ _
          (λ work (is : IsPending rules a.memory.elements work (pending_of c.args.proposing a)).
          subst (AreLiveKnown a.table) (sym is.retracted_are) (pending_named a.table c.args.proposing rules a.memory.elements a.goals (map live_seen a.live.list) c.requires.sound.live_known))
          work;
    }
