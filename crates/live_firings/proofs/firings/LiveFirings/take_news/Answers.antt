use Rattle.std.proofs.Common.{◌∙◌, sym, ap, subst, map}
use Rattle.std.specs.Map.{values_of}
use Rattle.live_firings.specs.Living.{AreNews, Firings, keys_of}
use Rattle.live_firings.specs.Store.{from_mark, match_of}
use Rattle.live_firings.proofs.ToldLemmas.{news}
use Rattle.live_firings.proofs.firings.LiveFirings.take_news.Goals as goal

pub returns-clause-news : goal.returns-clause-news
returns-clause-news c =
    let old = c.args.self.now in
    let store = c.self.inside.store in
    let came = keys_of (values_of (from_mark store.mark store.rows.entries)) in
    subst (λ came. AreNews old.told old.list came c.in_ok-gone.gone) (sym c.in_ok-came.ensures)
    (subst (λ gone. AreNews old.told old.list came gone) (sym (c.in_ok-gone.ensures ∙ ap (map (λ g. match_of g.1)) c.as_slice.ensures.value))
    (subst (λ (f : Firings). AreNews f.told f.list came (map (λ g. match_of g.1) store.gone.items)) c.self.view_is (news store.mark store.gone.items store.rows.entries)))
