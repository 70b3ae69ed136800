use Rattle.std.proofs.Common.{◌≡◌, []}
use Rattle.std.proofs.lemmas.Result.{IfOk-weaker}
use Rattle.defs_soar.specs.Start.{first_agent}
use Rattle.wave_parts.specs.Openings.{IsBare}
use Rattle.wave_parts.specs.Lawful.{IsOfLawful}
use Rattle.wave_parts.specs.Stands.{Stands}
use Rattle.wave_parts.proofs.parts.Parts.new.Goals as goal

pub returns : goal.returns
returns c = record {
  stands = c.first.ensures.stands;
  sound = c.first.ensures.sound;
  lawful =
      IfOk-weaker c.first.result (λ parts. Stands parts (first_agent c.args.watch)) (λ parts. IsOfLawful parts)
      (λ parts h. record { agent = first_agent c.args.watch; stands = h; lawful = c.agents_stay_lawful.ensures.first c.args.watch })
      c.first.ensures.stands;
  live = IfOk-weaker c.first.result (λ parts. IsBare parts) (λ parts. parts.live ≡ record { list = []; told = [] }) (λ parts bare. bare.live) c.first.ensures.bare;
}
