use Rattle.std.proofs.Common.{◌≡◌, ◌∙◌, ap, List, ℕ, Bool, ◌&&◌, nat_lt}
use Rattle.soar_sym.specs.declared.symbol.Sym.{Sym}
use Rattle.soar_rule.specs.Variables.{bound_variables}
use Rattle.defs_match.specs.Conflict.{paired}
use Rattle.defs_match.specs.Rules.{rule_seen}
use Rattle.defs_soar.specs.Support.{operator_kind as kind_of}
use Rattle.wave_entries.specs.Recorded.{RecordedAs, recorded_as, recorded_seen, standing}
use Rattle.learned_firings.proofs.FiringLemmas.{as_recorded, kind_kept, kind_left, learned_is}
use Rattle.learned_firings.proofs.firing.learned_firing.Goals as goal
use Rattle.learned_firings.proofs.firing.learned_firing.Goals.{then-deref-explained, else-deref-explained}

pub returns : goal.returns
returns c =
    let words = c.args.table.now in
    let s = standing c.args.before.now in
    let rule = rule_seen c.args.rule.now in
    let variables = bound_variables rule.production.conditions in
    let elements = c.args.elements.now in
    let made = c.args.made.now in
    let kind : Bool = c.in_ok-kind.kind in
    let goals : List Sym = c.in_ok-goals.goals in
    let r : RecordedAs = recorded_seen c.in_ok-learned.learned in
    let is_kind = c.in_ok-kind.ensures ∙ ap (λ (binds : List Sym). kind_of s.goals elements (paired variables binds) rule.production) c.as_slice.ensures in
    let told : c.if-deref-explained.learned ≡ (nat_lt r.firing.depth c.args.explained && kind) = elim c.if-deref-explained.branch [
      | then-deref-explained w ↦ kind_kept r.firing.depth c.args.explained c.if-deref-explained.learned kind (rw c.deref.ensures at w.if-deref-explained.true) w.learned-is
      | else-deref-explained w ↦ kind_left r.firing.depth c.args.explained c.if-deref-explained.learned kind (rw c.deref.ensures at w.if-deref-explained.false) (rw c.deref.ensures at w.learned-is)
    ] in
    ap (λ (b : Bool). record r { operator_kind = b }) told
    ∙ ap (λ (x : RecordedAs). as_recorded words s c.args.explained c.args.number rule elements c.args.binds made c.requires.there x kind) c.in_ok-learned.ensures
    ∙ ap
    (λ (tags : List ℕ). as_recorded words s c.args.explained c.args.number rule elements c.args.binds made c.requires.there
    (recorded_as goals s rule (record { rule = rule.number; tags = tags; binds = c.args.binds }) c.args.number made) kind)
    c.in_ok-tags_of.ensures
    ∙ learned_is words s c.args.explained c.args.number rule elements c.args.binds made c.requires.there goals kind c.in_ok-goals.ensures is_kind
