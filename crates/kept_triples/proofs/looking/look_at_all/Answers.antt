use Rattle.std.proofs.Common.{◌+◌, ◌∙◌, ◌∷◌, Bool, cond, drop, get_or, sym, ap}
use Rattle.std.proofs.lemmas.List.{drop_more}
use Rattle.soar_sym.specs.declared.symbol.Triple.{Triple}
use Rattle.defs_soar.specs.Values.{has_triple_among}
use Rattle.soar_settle.specs.Memory.{has_plain}
use Rattle.kept_triples.specs.Looking.{is_held_now}
use Rattle.kept_triples.proofs.BalanceLemmas.{balance_then}
use Rattle.kept_triples.proofs.LookLemmas.{IsLooked, one_looked}
use Rattle.kept_triples.proofs.SetLemmas.{no_triple}
use Rattle.kept_triples.proofs.looking.look_at_all.Goals as goal

pub changed-preserved : goal.changed-preserved
changed-preserved c =
    let now : Triple → Bool = is_held_now c.args.own.now.triples c.args.goals.now c.args.prefs.now.rows c.args.inputs.now in
    let all = c.args.changed.now in
    let i = c.changed.triple-index in
    let start = c.args.held.now in
    let old = c.changed.held in
    let new = c.look_at.new.held in
    let triple = get_or all i no_triple in
    let left = drop (i + 1) all in
    let had : IsLooked now start all old (triple ∷ left) =
    λ t. ap (λ l. cond (has_plain l t) (now t) (has_triple_among old t)) (sym (drop_more all i no_triple c.changed-test.true)) ∙ c.changed.invariant.members t
    in
    record {
      members = one_looked now start all old new left triple had c.in_ok-look_at.ensures.members;
      counts = balance_then start old new c.args.difference.now c.changed.difference c.look_at.new.difference c.changed.invariant.counts c.in_ok-look_at.ensures.counts;
    }
