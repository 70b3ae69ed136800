use Rattle.std.proofs.Common.{◌≡◌, ◌∙◌, ◌++◌, ◌∷◌, [], List, ℕ, sym, ap, append_assoc}
use Rattle.std.specs.Prelude.{if◌then◌else◌}
use Rattle.soar_rule.specs.Productions.{production_seen}
use Rattle.defs_read.specs.Printing.{lines_text, production_text}
use Rattle.defs_soar.specs.Trace.{Written}
use Rattle.session_parts.proofs.SaidLemmas.{production_said}
use Rattle.session_parts.proofs.said.say_production.Goals as goal

pub returns : goal.returns
returns c =
    let lines : List ℕ = lines_text (production_text c.args.table.now (production_seen c.args.production.now)) in
    let newline : List ℕ = if c.args.mid_line.now then 10 ∷ [] else [] in
    let said = production_said c.args.table.now c.args.mid_line.now (production_seen c.args.production.now) in
    let text : c.show_production.new.out ≡ c.args.out.now ++ (newline ++ lines) =
    c.in_ok-show_production.ensures.ok ∙ (ap (λ text. text ++ lines) c.in_ok-begin_line.ensures ∙ append_assoc c.args.out.now newline lines) in
    (text ∙ sym (ap (λ (w : Written). c.args.out.now ++ w.text) said), sym (ap (λ (w : Written). w.mid_line) said))
