use Rattle.std.proofs.Common.{refl, sym}
use Rattle.command_orders.proofs.form.settings_form_of.Goals as goal

pub returns-else-is_word-7 : goal.returns-else-is_word-7
returns-else-is_word-7 c = rw (sym c.if-is_word.ensures) (rw (sym c.if-is_word-2.ensures) (rw (sym c.if-is_word-3.ensures) (rw (sym c.if-is_word-4.ensures) (rw (sym c.if-is_word-5.ensures) (rw (sym c.if-is_word-6.ensures) (rw (sym c.if-is_word-7.ensures) refl))))))
