use Rattle.std.proofs.Common.{◌∙◌, ap}
use Rattle.std.proofs.lemmas.Result.{on_ok_weaker}
use Rattle.live_firings.specs.Living.{Firings}
use Rattle.wave_parts.proofs.LivingLemmas.{renewed}
use Rattle.wave_parts.proofs.living.renew_live.Goals as goal

pub returns-clause-list : goal.returns-clause-list
returns-clause-list c =
    on_ok_weaker c.append.result
    (λ more. renewed c.args.gone.now c.args.live.now.list c.drop_numbers.new.self.list c.append.new.live.list c.args.fired (ap (λ (f : Firings). f.list) c.drop_numbers.ensures) more)
    c.append.ensures.list

pub returns-clause-told : goal.returns-clause-told
returns-clause-told c = c.append.ensures.told ∙ ap (λ (f : Firings). f.told) c.drop_numbers.ensures
