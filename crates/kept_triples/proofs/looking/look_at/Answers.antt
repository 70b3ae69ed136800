use Rattle.std.proofs.Common.{◌≡◌, ◌∙◌, Bool, true, false, cond, ap}
use Rattle.std.proofs.lemmas.Result.{on_ok_weaker}
use Rattle.soar_sym.specs.declared.symbol.Triple.{Triple}
use Rattle.defs_soar.specs.Values.{has_triple_among, triple_eq}
use Rattle.kept_triples.specs.Looking.{is_held_now, with_mark}
use Rattle.kept_triples.proofs.LookLemmas.{both_set}
use Rattle.kept_triples.proofs.looking.look_at.Goals as goal

pub returns-clause-members : goal.returns-clause-members
returns-clause-members c =
    let now : Triple → Bool = is_held_now c.args.own.now.triples c.args.goals.now c.args.prefs.now.rows c.args.inputs.now in
    let u = c.args.triple in
    let old = c.args.held.now in
    let mid = c.renew.new.held in
    let plain : c.is_held-is_plain_held.result ≡ now (with_mark u false) = c.is_held-is_plain_held.ensures ∙ ap now c.with_mark-plain.ensures in
    let marked : c.is_held-is_marked_held.result ≡ now (with_mark u true) = c.is_held-is_marked_held.ensures ∙ ap now c.with_mark-marked.ensures in
    on_ok_weaker c.renew-2.result
    (λ second. both_set now old mid c.renew-2.new.held u
    (λ t. c.in_ok-renew.ensures.members t ∙ (λ k. cond (triple_eq t (c.with_mark-plain.ensures k)) (plain k) (has_triple_among old t)))
    (λ t. second t ∙ (λ k. cond (triple_eq t (c.with_mark-marked.ensures k)) (marked k) (has_triple_among mid t))))
    c.renew-2.ensures.members
