use Rattle.std.proofs.Common.{◌≡◌, ◌∙◌, List, ℕ, ap}
use Rattle.soar_sym.specs.Words.{Texts}
use Rattle.defs_soar.specs.Preferences.{slot_of}
use Rattle.defs_soar.specs.declared.preference.Preference.{Preference}
use Rattle.soar_prefs.specs.Memory.{PreferenceMemory}
use Rattle.list_parts.specs.Lists.{preference_lines}
use Rattle.soar_cycle.specs.Parts.{Parts}
use Rattle.soar_agent.proofs.ReplyLemmas.{says_lines}
use Rattle.soar_agent.proofs.state.Session.list_slot_of.Goals as goal

pub returns-clause-reply : goal.returns-clause-reply
returns-clause-reply g c = λ history remembers.
    let a : Parts = c.args.self.now.agent.parts in
    let lines : Texts → List Preference → List (List ℕ) = λ words rows. preference_lines words (slot_of rows c.args.slot.id c.args.slot.attr) in
    let same : lines c.symbols.result.now c.prefs.result.now.rows ≡ lines a.table a.prefs.rows =
    ap (λ (words : Texts). lines words c.prefs.result.now.rows) c.symbols.ensures ∙ ap (λ (p : PreferenceMemory). lines a.table p.rows) c.prefs.ensures in
    says_lines c.args.self.now c.set_mid_line.new.self (lines c.symbols.result.now c.prefs.result.now.rows) (lines a.table a.prefs.rows) c.mid_line-mid_line.result c.list_preferences.new.mid_line
    history c.args.out.now c.list_preferences.new.out remembers c.requires c.set_mid_line.ensures same c.mid_line-mid_line.ensures c.in_ok-list_preferences.ensures.ok
