use Rattle.std.proofs.Common.{◌∙◌, ap, cond}
use Rattle.std.specs.BTreeMap as map
use Rattle.std.specs.BTreeSet as set
use Rattle.std.proofs.lemmas.Result.{on_ok_weaker}
use Rattle.open_instances.specs.Keeping.{gone_of, open_of}
use Rattle.open_instances.specs.Keys.{alike, key_cmp}
use Rattle.open_instances.proofs.KeptLemmas.{looked_at}
use Rattle.open_instances.proofs.looking.look_at.Goals as goal

pub returns-clause-kept : goal.returns-clause-kept
returns-clause-kept c =
    on_ok_weaker c.set_open.result
    (λ opened. looked_at c.args.kept.now c.set_gone.new.gone c.set_open.new.free c.args.key c.args.found
    (λ q. c.in_ok-set_gone.ensures q ∙ ap (λ b. cond (alike c.args.key q) b (set.contains key_cmp c.args.kept.now.gone q)) (c.is_gone.ensures ∙ ap (λ l. gone_of l c.args.found) c.is_live-live.ensures))
    (λ q. opened q ∙ ap (λ o. cond (alike c.args.key q) o (map.get key_cmp c.args.kept.now.free q)) (c.open_of.ensures ∙ ap (λ l. open_of l c.args.found) c.is_live-live.ensures)))
    c.set_open.ensures
