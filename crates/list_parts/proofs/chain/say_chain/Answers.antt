use Rattle.std.proofs.Common.{◌≡◌, ◌∙◌, ◌++◌, ◌∷◌, [], List, ℕ, sym, ap, append_assoc}
use Rattle.std.specs.Prelude.{if◌then◌else◌}
use Rattle.defs_soar.specs.History.{chain_seen}
use Rattle.defs_soar.specs.Texts.{chain_lines}
use Rattle.defs_soar.specs.Trace.{Written}
use Rattle.list_parts.proofs.ChainLemmas.{chain_said, ended}
use Rattle.list_parts.proofs.chain.say_chain.Goals as goal

pub returns : goal.returns
returns c =
    let lines : List ℕ = ended (chain_lines c.args.table.now c.args.name (chain_seen c.args.chain.now)) in
    let newline : List ℕ = if c.args.mid_line.now then 10 ∷ [] else [] in
    let said = chain_said c.args.table.now c.args.mid_line.now c.args.name (chain_seen c.args.chain.now) in
    let text : c.show_chain.new.out ≡ c.args.out.now ++ (newline ++ lines) =
    c.in_ok-show_chain.ensures.ok ∙ (ap (λ text. text ++ lines) c.in_ok-begin_line.ensures ∙ append_assoc c.args.out.now newline lines) in
    (text ∙ sym (ap (λ (w : Written). c.args.out.now ++ w.text) said), sym (ap (λ (w : Written). w.mid_line) said))
