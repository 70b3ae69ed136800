use Rattle.std.proofs.Common.{◌∙◌, inl, inr, sym, subst, ap, List}
use Rattle.defs_match.specs.Laws.{IsIn}
use Rattle.node_agenda.specs.declared.turns.Turn.{Turn}
use Rattle.node_agenda.specs.Turns.{with_turns}
use Rattle.node_agenda.proofs.TurnLemmas.{in_under, in_turns}
use Rattle.node_agenda.proofs.agenda.add_under.Goals as goal

pub returns : goal.returns
returns c t =
    let old = c.args.agenda.now.keys in
    let seen = c.as_slice.ensures.value ∙ c.in_ok-turns.ensures in
    let after = c.in_ok-add_turns.ensures ∙ ap (λ (ts : List Turn). with_turns ts old) seen in
    let all = in_turns t _ old in
    let own = in_under c.args.number c.args.index.now t in (
      (λ i. elim (all.0 (subst (λ (ts : List Turn). IsIn t ts) after i)) [ inl k ↦ inl (own.0 k) | inr k ↦ inr k ]),
      (λ h. subst (λ (ts : List Turn). IsIn t ts) (sym after) (elim h [ inl k ↦ all.1 (inl (own.1 k)) | inr k ↦ all.1 (inr k) ])),
    )
