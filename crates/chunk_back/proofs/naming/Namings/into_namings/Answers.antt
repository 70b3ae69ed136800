use Rattle.std.proofs.Common.{◌∙◌, ap, map}
use Rattle.chunk_back.specs.Namings.{as_naming}
use Rattle.chunk_back.proofs.NamingLemmas.{values_seen}
use Rattle.chunk_back.proofs.naming.Namings.into_namings.Goals as goal

pub returns : goal.returns
returns c = ap (map as_naming) c.in_ok-values.ensures ∙ values_seen c.self.inside.namings.entries ∙ c.self.view_is
