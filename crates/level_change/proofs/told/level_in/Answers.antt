use Rattle.std.proofs.Common.{rules, ◌≡◌, ◌∙◌, ap, unwrap_or}
use Rattle.std.specs.Map.{lookup}
use Rattle.level_change.specs.Links.{id_eq}
use Rattle.level_change.proofs.LevelLemmas.{level_is}
use Rattle.level_change.proofs.told.level_in.Goals as goal

pub returns-in-Some : goal.returns-in-Some
returns-in-Some c = ap (λ o. unwrap_or o (lookup (id_eq c.args.id) c.args.levels.now.entries)) c.in-Some.ensures.value ∙ level_is c.args.levels.now.entries c.args.told.now.entries c.args.id

pub returns-in-None : goal.returns-in-None
returns-in-None c =
    let kept : c.copied.result ≡ lookup (id_eq c.args.id) c.args.levels.now.entries = search rules in
    kept ∙ ap (λ o. unwrap_or o (lookup (id_eq c.args.id) c.args.levels.now.entries)) c.in-None.ensures.value ∙ level_is c.args.levels.now.entries c.args.told.now.entries c.args.id
