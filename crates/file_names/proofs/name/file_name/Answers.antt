use Rattle.std.proofs.Common.{◌≡◌, ◌∙◌, List, ℕ, ap, sym, subst}
use Rattle.std.specs.Str.{IsUtf8}
use Rattle.defs_run.specs.WholeReading.{file_name, source_order}
use Rattle.file_names.proofs.NameLemmas.{text_named}
use Rattle.file_names.proofs.name.file_name.Goals as goal

pub returns-in-Ok-2-clause-name : goal.returns-in-Ok-2-clause-name
returns-in-Ok-2-clause-name c =
    let text : List ℕ = c.args.text.now in
    let same : c.in-Ok.name.now ≡ file_name text = c.in-Ok.ensures.cases.0 ∙ c.name_bytes-name.ensures.name in
    ap (source_order text) (sym same) ∙ text_named text c.in-Ok.name.now (subst IsUtf8 (sym c.in-Ok.ensures.cases.0) c.in-Ok.ensures.cases.1) (sym c.if-is_empty.ensures)
