use Rattle.std.proofs.Common.{◌∙◌, true, map, ap}
use Rattle.soar_rule.specs.Conditions.{condition}
use Rattle.soar_rule.specs.declared.production.Kind.TheVariants.{Chunk}
use Rattle.carried_tests.specs.Seen.{carried_seen}
use Rattle.chunk_make.proofs.FormLemmas.{general_is}
use Rattle.chunk_make.proofs.forms.general_form.Goals as goal
use Rattle.chunk_make.specs.Findings.{form_over}
use Rattle.defs_soar.specs.History.{chain_seen}

pub returns : goal.returns
returns c = λ words h.
    let chain = chain_seen c.args.told.now.chain.now in
    let found = c.args.found.now in
    c.in_ok-form.ensures Chunk
    ∙ ap (form_over true Chunk chain (map carried_seen found.tests.items) (map condition found.negations)) c.as_slice.ensures
    ∙ general_is words chain c.args.told.now.depth found h
