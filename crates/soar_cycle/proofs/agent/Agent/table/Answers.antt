use Rattle.std.proofs.Common.{rules}
use Rattle.soar_cycle.proofs.TableLemmas.{sound_with_table}
use Rattle.soar_cycle.proofs.agent.Agent.table.Goals as goal

pub returns : goal.returns
returns g c = (search rules, record { writes_back = search rules; value = search rules; sound = λ words grown once sound. sound_with_table c.args.self.now words grown once sound })
