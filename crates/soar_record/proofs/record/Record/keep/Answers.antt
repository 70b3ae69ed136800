use Rattle.std.proofs.Common.{◌≡◌, ◌∙◌, ap, rules, sym, subst, arith}
use Rattle.indexmap.proofs.CallerLemmas.{filter-RetainsPairs}
use Rattle.soar_record.specs.Recorded.{firings_in, IsNumbered, of_numbers, recorded}
use Rattle.soar_record.proofs.KeepingLemmas.{entries_kept, firings_kept, is_kept, still_numbered}
use Rattle.soar_record.proofs.record.Record.keep.Goals as goal

pub invariant_of-self : goal.invariant_of-self
invariant_of-self c =
    let keys = c.args.numbers.now.keys in
    let left : c.retain.new.self.entries ≡ entries_kept keys c.self.inside.firings.entries = filter-RetainsPairs _ (is_kept keys) _ (λ k v b w g call. search rules) _ _ c.retain.ensures.filtered in
    record { numbered = subst IsNumbered (sym left) (still_numbered keys c.self.inside.firings.entries c.self.invariant.numbered); least = omega (arith, c.max-self-inside.ensures) }

pub returns : goal.returns
returns c =
    let keys = c.args.numbers.now.keys in
    let left : c.retain.new.self.entries ≡ entries_kept keys c.self.inside.firings.entries = filter-RetainsPairs _ (is_kept keys) _ (λ k v b w g call. search rules) _ _ c.retain.ensures.filtered in
    ap (λ entries. recorded (firings_in entries)) left ∙ firings_kept keys c.self.inside.firings.entries c.self.invariant.numbered.own_numbers ∙ ap (λ fs. of_numbers keys (recorded fs)) c.self.view_is
