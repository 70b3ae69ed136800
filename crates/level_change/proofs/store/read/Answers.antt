use Rattle.std.proofs.Common.{rules, ◌≡◌, ◌∙◌, ap, unwrap_or}
use Rattle.std.specs.Map.{lookup}
use Rattle.std.specs.Ordering.{is_eq}
use Rattle.level_change.specs.Links.{place_cmp}
use Rattle.level_change.proofs.LinkLemmas.{value_is}
use Rattle.level_change.proofs.store.read.Goals as goal

pub returns-in-Some : goal.returns-in-Some
returns-in-Some c = ap (λ o. unwrap_or o (lookup (λ k. is_eq (place_cmp c.args.place k)) c.args.base.now.entries)) c.in-Some.ensures.value ∙ value_is c.args.base.now.entries c.args.late.now.entries c.args.place

pub returns-in-None : goal.returns-in-None
returns-in-None c =
    let kept : c.copied.result ≡ lookup (λ k. is_eq (place_cmp c.args.place k)) c.args.base.now.entries = search rules in
    kept ∙ ap (λ o. unwrap_or o (lookup (λ k. is_eq (place_cmp c.args.place k)) c.args.base.now.entries)) c.in-None.ensures.value ∙ value_is c.args.base.now.entries c.args.late.now.entries c.args.place
