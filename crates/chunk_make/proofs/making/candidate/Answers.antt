use Rattle.std.proofs.Common.{◌≡◌, ◌∙◌, ap, ap₂, subst, sym}
use Rattle.soar_sym.specs.Words.{Texts}
use Rattle.chunk_make.proofs.DraftLemmas.{candidate_is, joining_is, names_known}
use Rattle.chunk_make.proofs.making.candidate.Goals as goal
use Rattle.chunk_make.specs.Drafts.{AreNamesKnown, candidate_from, DraftOf, forms_of, forms_seen, FormsOf, joining}
use Rattle.defs_soar.specs.CandidateOf.{words_after, words_of_candidate}
use Rattle.defs_soar.specs.History.{chain_seen}

pub finished-requires : goal.finished-requires
finished-requires c =
    let words = c.args.table.now in
    let chain = chain_seen c.args.chain.now in
    let forms : forms_seen c.in_ok-draft.draft.forms ≡ forms_of words chain c.args.depth = ap (λ (d : DraftOf). d.forms) c.in_ok-draft.ensures in
    subst (λ (table : Texts). AreNamesKnown table (forms_seen c.in_ok-draft.draft.forms)) (sym c.in_ok-join_names.ensures.words)
    (subst (λ (f : FormsOf). AreNamesKnown (words_after words (joining f)) f) (sym forms) (names_known words chain c.args.depth))

pub returns-clause-candidate : goal.returns-clause-candidate
returns-clause-candidate c =
    let words = c.args.table.now in
    let chain = chain_seen c.args.chain.now in
    let joined : c.join_names.new.table ≡ words_of_candidate words chain c.args.depth =
    c.in_ok-join_names.ensures.words ∙ ap (λ (d : DraftOf). words_after words (joining d.forms)) c.in_ok-draft.ensures ∙ ap (words_after words) (joining_is words chain c.args.depth) in
    c.in_ok-candidate.ensures.candidate ∙ ap₂ candidate_from joined c.in_ok-draft.ensures ∙ candidate_is words chain c.args.depth
