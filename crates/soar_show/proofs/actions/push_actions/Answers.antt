use Rattle.std.proofs.Common.{◌++◌, flat_map, map, sym, ap, refl, ◌∙◌, append_assoc, arith}
use Rattle.std.proofs.lemmas.Str.{encode_ascii}
use Rattle.soar_rule.specs.Productions.{action_seen}
use Rattle.soar_rule.specs.Symbols.{constants_of_action}
use Rattle.defs_read.specs.Printing.{action_text}
use Rattle.soar_show.specs.Lines.{inner_text}
use Rattle.soar_show.proofs.KnownLemmas.{knows_item, knows_later}
use Rattle.soar_show.proofs.ListLemmas.{drop_item}
use Rattle.soar_show.proofs.actions.push_actions.Goals as goal

pub push_action-requires : goal.push_action-requires
push_action-requires c =
    knows_item (λ x. constants_of_action (action_seen x)) (λ xs. flat_map constants_of_action (map action_seen xs)) (λ x xs. refl) _ c.args.actions.now c.actions.action-index c.action-item.result c.actions-test.true c.action-item.is c.actions.invariant.known

pub actions-preserved : goal.actions-preserved
actions-preserved c =
    let next = drop_item c.args.actions.now c.actions.action-index c.action-item.result c.actions-test.true c.action-item.is in
    record {
      known = knows_later (λ x. constants_of_action (action_seen x)) (λ xs. flat_map constants_of_action (map action_seen xs)) (λ x xs. refl) _ c.args.actions.now c.actions.action-index c.action-item.result c.actions-test.true c.action-item.is c.actions.invariant.known;
      text =
          (rw (c.in_ok-push.ensures.ok, c.in_ok-push_action.ensures, c.in_ok-push_str.ensures.ok)
          (simp (append_assoc, encode_ascii 10 (omega arith)) (sym (ap (λ actions. c.actions.out ++ inner_text (map (action_text c.args.names.now) (map action_seen actions))) next))))
          ∙ c.actions.invariant.text;
    }
