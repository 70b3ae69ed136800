use Rattle.std.proofs.Common.{◌∙◌, false, map, ap}
use Rattle.soar_rule.specs.Conditions.{condition}
use Rattle.soar_rule.specs.declared.production.Kind.TheVariants.{Justification}
use Rattle.carried_tests.specs.Seen.{carried_seen}
use Rattle.chunk_make.proofs.FormLemmas.{literal_is}
use Rattle.chunk_make.proofs.forms.literal_form.Goals as goal
use Rattle.chunk_make.specs.Findings.{form_over}
use Rattle.defs_soar.specs.History.{chain_seen}

pub returns : goal.returns
returns c = λ words h.
    let chain = chain_seen c.args.told.now.chain.now in
    let found = c.args.found.now in
    c.in_ok-form.ensures Justification
    ∙ ap (form_over false Justification chain (map carried_seen found.tests.items) (map condition found.negations)) (c.as_slice.ensures ∙ c.in_ok-grounds.ensures)
    ∙ literal_is words chain c.args.told.now.depth found h
