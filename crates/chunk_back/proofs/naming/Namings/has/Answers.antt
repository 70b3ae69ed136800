use Rattle.std.proofs.Common.{◌∙◌, ap}
use Rattle.defs_soar.specs.Explanation.{is_seen}
use Rattle.chunk_back.specs.Namings.{as_naming}
use Rattle.chunk_back.proofs.NamingLemmas.{is_found}
use Rattle.chunk_back.proofs.naming.Namings.has.Goals as goal

pub returns : goal.returns
returns c =
    c.contains_key.ensures ∙ is_found (as_naming c.args.naming.now) c.self.inside.namings.entries c.self.invariant.own_keys ∙ ap (λ ns. is_seen ns (as_naming c.args.naming.now)) c.self.view_is
