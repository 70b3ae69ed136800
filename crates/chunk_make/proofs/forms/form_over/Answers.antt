use Rattle.std.proofs.Common.{◌≡◌, ◌++◌, ◌∙◌, List, map, ap, sym}
use Rattle.soar_rule.specs.Conditions.{Condition, all_of, condition}
use Rattle.carried_tests.specs.Seen.{carried_seen, placed_seen}
use Rattle.carried_tests.specs.declared.carrying.CarriedTest.{CarriedTest}
use Rattle.chunk_make.proofs.forms.form_over.Goals as goal
use Rattle.defs_soar.specs.Candidate.{conditions_from, form_of}
use Rattle.defs_soar.specs.CarriedTests.{placed_tests}
use Rattle.defs_soar.specs.History.{chain_seen}

pub returns : goal.returns
returns c = λ kind.
    let found = c.args.found.now in
    let elements = c.args.elements.now in
    let placed : map placed_seen c.as_slice-2.result.now ≡ placed_tests elements (map carried_seen found.tests.items) =
    ap (map placed_seen) c.as_slice-2.ensures.value ∙ c.in_ok-placed.ensures ∙ ap (λ (tests : List CarriedTest). placed_tests elements (map carried_seen tests)) c.as_slice.ensures.value in
    let joined : conditions_from (map placed_seen c.as_slice-2.result.now) 0 elements ++ map condition c.as_slice-3.result.now
    ≡ conditions_from (placed_tests elements (map carried_seen found.tests.items)) 0 elements ++ map condition found.negations =
    λ i. conditions_from (placed i) 0 elements ++ map condition (c.as_slice-3.ensures i) in
    c.in_ok-form.ensures kind (chain_seen c.args.told.now.chain.now) (sym c.as_slice-5.ensures)
    ∙ ap (λ (conds : List Condition). form_of c.args.general kind (chain_seen c.args.told.now.chain.now) (all_of conds)) (ap (map condition) c.as_slice-4.ensures ∙ c.in_ok-conds.ensures ∙ joined)
