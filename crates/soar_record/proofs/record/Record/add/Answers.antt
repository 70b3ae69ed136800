use Rattle.std.proofs.Common.{◌≡◌, ◌∙◌, ap, sym, subst, ◌++◌, ◌∷◌, [], nat_eq}
use Rattle.defs_soar.specs.Explanation.{firing_of}
use Rattle.indexmap.proofs.CallerLemmas.{insert_entry-new}
use Rattle.soar_record.specs.Recorded.{recorded, firings_in, IsNumbered}
use Rattle.soar_record.proofs.RecordLemmas.{firings_more, none_found, one_more, recorded_more}
use Rattle.soar_record.proofs.record.Record.add.Goals as goal

pub invariant_of-self-2 : goal.invariant_of-self-2
invariant_of-self-2 c =
    let new : firing_of (recorded (firings_in c.self.inside.firings.entries)) c.args.firing.number ≡ [] = ap (λ fs. firing_of (recorded fs) c.args.firing.number) c.self.view_is ∙ c.requires in
    let entries : c.insert.new.self.entries ≡ c.self.inside.firings.entries ++ (c.args.firing.number, c.args.firing) ∷ [] =
    (rw c.deref.ensures at c.in_ok-insert.ensures.entries) ∙ insert_entry-new nat_eq c.self.inside.firings c.args.firing.number c.args.firing (none_found c.args.firing.number c.self.inside.firings.entries c.self.invariant.numbered.own_numbers new) in
    record { numbered = subst IsNumbered (sym entries) (one_more c.self.inside.firings.entries c.args.firing c.self.invariant.numbered new); least = c.self.invariant.least }

pub returns-clause-ok : goal.returns-clause-ok
returns-clause-ok c =
    let new : firing_of (recorded (firings_in c.self.inside.firings.entries)) c.args.firing.number ≡ [] = ap (λ fs. firing_of (recorded fs) c.args.firing.number) c.self.view_is ∙ c.requires in
    let entries : c.insert.new.self.entries ≡ c.self.inside.firings.entries ++ (c.args.firing.number, c.args.firing) ∷ [] =
    (rw c.deref.ensures at c.in_ok-insert.ensures.entries) ∙ insert_entry-new nat_eq c.self.inside.firings c.args.firing.number c.args.firing (none_found c.args.firing.number c.self.inside.firings.entries c.self.invariant.numbered.own_numbers new) in
    ap firings_in entries ∙ firings_more c.self.inside.firings.entries ((c.args.firing.number, c.args.firing) ∷ []) ∙ ap (λ fs. fs ++ c.args.firing ∷ []) c.self.view_is

pub returns-clause-recorded : goal.returns-clause-recorded
returns-clause-recorded c = ap recorded (returns-clause-ok c) ∙ recorded_more c.args.self.now (c.args.firing ∷ [])
