use Rattle.std.proofs.Common.{List, ℕ, Some, Ok, Err, ◌∙◌, sym, ap, subst}
use Rattle.soar_edge.specs.Files.{Fetches, file_of}
use Rattle.soar_edge.specs.declared.filed.Filed.{Filed}
use Rattle.command_runs.specs.Following.{Comes}
use Rattle.command_runs.proofs.FlowLemmas.{of_some}
use Rattle.command_runs.proofs.OpeningLemmas.{at_more, misses_file, missing_calm, missing_told, one_more, opens, same_shelf}
use Rattle.command_runs.proofs.opening.fetch_file.Goals as goal

pub returns-in-Ok-clause-step : goal.returns-in-Ok-clause-step
returns-in-Ok-clause-step g c = λ stock told fails comes r at inside.
    let file = of_some (λ (files : List Filed). Fetches files c.as_str.result.now (Ok c.in-Ok.bytes)) (g.F.Shelf.files c.args.files.now) stock told c.in-Ok.ensures.file in
    opens _ c.args.progress.now _ inside fails stock c.args.source.now c.args.line r (record { name = c.args.name; bytes = c.in-Ok.bytes }) c.requires.count comes at
    (ap (file_of stock) (sym c.as_str.ensures) ∙ file.0) file.1

pub returns-in-Err-Missing-clause-step : goal.returns-in-Err-Missing-clause-step
returns-in-Err-Missing-clause-step g c = λ stock told fails comes r at inside.
    let none = missing_told stock c.as_str.result.now c.in-Err-Missing.field-0 c.in-Err-Missing.field-0-is
    (of_some (λ (files : List Filed). Fetches files c.as_str.result.now (Err c.in-Err-Missing.field-0)) (g.F.Shelf.files c.args.files.now) stock told c.in-Err-Missing.ensures.file) in
    misses_file _ _ c.args.progress.now _ _ _ inside fails stock _ _ c.args.name r _ c.requires.count (subst (Comes fails) c.refuse_step.ensures.fetched comes) at
    (ap (file_of stock) (sym c.as_str.ensures) ∙ none) (c.refuse_step.ensures.refused fails (Some inside) (one_more r) (at_more _ c.args.progress.now r at))

pub returns-in-Err-Missing-clause-shelf : goal.returns-in-Err-Missing-clause-shelf
returns-in-Err-Missing-clause-shelf g c =
    same_shelf _ _ _ (missing_calm (List ℕ) _ _ c.in-Err-Missing.field-0 c.in-Err-Missing.field-0-is c.in-Err-Missing.ensures.cause.cause) c.refuse_step.ensures.shelf
