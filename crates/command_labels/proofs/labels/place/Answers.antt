use Rattle.std.proofs.Common.{◌≡◌, ◌∙◌, ◌+◌, length, ap₂, subst, sym}
use Rattle.command_labels.specs.Found.{all_of, IsAdded}
use Rattle.command_labels.specs.declared.label.Again.{Again}
use Rattle.command_labels.proofs.FoundLemmas.{one_again}
use Rattle.command_labels.proofs.labels.place.Goals as goal

pub returns-clause-ok : goal.returns-clause-ok
returns-clause-ok c =
    let entries = c.args.first.now.entries in
    let again = c.args.again.now in
    let last : Again = record { place = c.in-Some.place; label = c.args.label } in
    let place : c.in-Some.place ≡ length entries + length again = c.in-Some.ensures.1 ∙ ap₂ (λ m n. m + n) c.len.ensures.len c.len-2.ensures in
    subst (λ l. IsAdded entries l (all_of entries again) c.args.label) (sym c.in_ok-push.ensures.ok) (one_again entries again last c.requires.kept place c.requires.known)
