use Rattle.std.proofs.Common.{sym}
use Rattle.command_orders.proofs.form.form_of.Goals as goal

pub returns-else-is_word-9 : goal.returns-else-is_word-9
returns-else-is_word-9 c = rw (sym c.if-is_word.ensures) (rw (sym c.if-is_word-2.ensures) (rw (sym c.if-is_word-3.ensures) (rw (sym c.if-is_word-4.ensures) (rw (sym c.if-is_word-5.ensures) (rw (sym c.if-is_word-6.ensures) (rw (sym c.if-is_word-7.ensures) (rw (sym c.if-is_word-8.ensures) (rw (sym c.if-is_word-9.ensures) (c.settings_form_of.ensures)))))))))
