use Rattle.std.proofs.Common.{◌≡◌, ◌∙◌, inl, inr, sym, ap, true, false, Some, None}
use Rattle.std.proofs.lemmas.Option.{same_Some}
use Rattle.node_agenda.specs.Agenda.{is_changed}
use Rattle.node_agenda.proofs.agenda.go_on.Goals as goal

pub returns-in_default : goal.returns-in_default
returns-in_default c = record {
  kept = λ t i. i;
  children = λ m is changed t i. (let bad : None ≡ Some m = sym (sym c.in_default.ensures) ∙ is in absurd (cc));
  from = λ t i. inr i;
}

pub returns-then-not-is_changed : goal.returns-then-not-is_changed
returns-then-not-is_changed c = record {
  kept = λ t i. i;
  children = λ m is changed t i.
      let same : c.in-Some.node.now ≡ m = same_Some c.in-Some.node.now m (c.in-Some.ensures ∙ is) in
      let bad : true ≡ false = sym changed ∙ ap is_changed (sym same) ∙ sym c.if-not-is_changed.ensures in
      absurd (cc);
  from = λ t i. inr i;
}

pub returns : goal.returns
returns c = record {
  kept = λ t i. (c.in_ok-add_under.ensures t).1 (inr i);
  children = λ m is changed t i. (c.in_ok-add_under.ensures t).1 (inl i);
  from = λ t i. (c.in_ok-add_under.ensures t).0 i;
}
