use Rattle.std.proofs.Common.{◌∙◌, ap}
use Rattle.std.specs.List.{list_any}
use Rattle.std.specs.Map.{values_of}
use Rattle.defs_soar.specs.Values.{is_kind}
use Rattle.soar_prefs.specs.Store.{is_of}
use Rattle.soar_prefs.specs.declared.key.Key.TheVariants.{Triple}
use Rattle.soar_prefs.proofs.RangeLemmas.{triple_rows, any_within}
use Rattle.soar_prefs.proofs.store.Store.has_kind.Goals as goal

pub returns : goal.returns
returns c =
    c.has_kind.ensures.found
    ∙ ap (list_any (λ q. is_kind q.wish.kind c.args.kind)) (triple_rows _ _ _ c.args.triple.id c.args.triple.attr c.args.triple.value c.requires c.has_kind.ensures.ordered)
    ∙ any_within (is_of (Triple c.args.triple.id c.args.triple.attr c.args.triple.value)) (λ q. is_kind q.wish.kind c.args.kind) (values_of c.args.self.now.rows.entries)
