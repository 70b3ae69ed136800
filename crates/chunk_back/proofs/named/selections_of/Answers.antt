use Rattle.std.proofs.Common.{◌∙◌, ap, flat_map, List}
use Rattle.defs_soar.specs.Explanation.{selection_of, TagNaming}
use Rattle.chunk_back.specs.Parts.{with_namings}
use Rattle.chunk_back.proofs.PartLemmas.{in_order_alone}
use Rattle.chunk_back.proofs.named.selections_of.Goals as goal

pub returns : goal.returns
returns c =
    c.in_ok-selections.ensures ∙ c.in_ok-add_used.ensures ∙ ap (λ (none : List TagNaming). with_namings (flat_map selection_of c.args.used.now) none) c.new-selections.ensures ∙ in_order_alone (flat_map selection_of c.args.used.now)
