-- What was checked is printed as a text that is read to it, and what is read there is checked already.
use Rattle.std.proofs.Common.{◌≡◌, refl, sym, ◌∙◌, subst, true, false, Bool, None, Ok, length}
use Rattle.soar_sym.specs.Words.{Texts}
use Rattle.soar_rule.specs.Checking.{too_deep, fault_if, ordered}
use Rattle.soar_rule.specs.Laws.{CheckedStays, CheckedIsWhole, RenumberedStays}
use Rattle.soar_rule.specs.MatchOrder.{taken_in_order}
use Rattle.soar_rule.specs.Productions.{ProductionOf}
use Rattle.soar_rule.specs.Sizes.{is_too_deep}
use Rattle.rule_laws.proofs.CheckedParts.{each_none, checked_as}
use Rattle.defs_text.specs.Lexing.{lexed}
use Rattle.reading_laws.specs.WayBack.{printed, ReadsBack, IsBack, CheckedIsRead}
use Rattle.reading_laws.proofs.BackLaws.{printed_is_read}
use Rattle.reading_laws.proofs.BracketLaws.{brackets_few}
use Rattle.reading_laws.proofs.InOrderLaws.{placed, in_order_placed, placed_alike, printed_placed}
use Rattle.reading_laws.proofs.InOrderPrintable.{IsNamed, reordered_named, no_more_variables, placed_printable}

-- what was checked is not too deep
shallow : (p q : ProductionOf) → ordered p ≡ Ok q → is_too_deep p ≡ false
shallow p q e = by (is_too_deep p) (each_none p.conditions p.actions (length p.vars) (taken_in_order p.conditions) (checked_as p q e).0).depth
  where
    by : (b : Bool) → fault_if b too_deep ≡ None → b ≡ false
    by true f = absurd (cc)
    by false f = refl

-- only the conditions have another order
pub only_order : (p q : ProductionOf) → ordered p ≡ Ok q → record p { conditions = q.conditions } ≡ q
only_order p q e =
    let same = (checked_as p q e).1 in
    (λ i. record p { conditions = (same i).conditions }) ∙ sym same

placed_back : (words : Texts) (q : ProductionOf) → IsNamed words q → ordered (placed q) ≡ Ok (placed q) → IsBack words q
placed_back words q h e =
    record {
      read =
          subst (λ r. ReadsBack words r (lexed (printed words q))) (sym (in_order_placed q))
          (subst (λ text. ReadsBack words (placed q) (lexed text)) (printed_placed words q)
          (printed_is_read words (placed q) (placed_printable words q h) (brackets_few words (placed q) (shallow (placed q) (placed q) e))));
      checked = subst (λ r. ordered r ≡ Ok r) (sym (in_order_placed q)) e;
    }

pub checked_is_read : CheckedStays → CheckedIsWhole → RenumberedStays → CheckedIsRead
checked_is_read stays whole renumbered words p q printable e =
    let named = subst (IsNamed words) (only_order p q e) (reordered_named words p q.conditions printable (whole p q e)) in
    placed_back words q named (renumbered q (placed q) (placed_alike q) (no_more_variables words q named) (stays p q e))
