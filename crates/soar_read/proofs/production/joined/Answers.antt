use Rattle.std.proofs.Common.{◌≡◌, flat_map, ap, sym, subst, ◌∙◌, List}
use Rattle.std.specs.List.{list_all}
use Rattle.soar_sym.specs.Words.{Texts, with_texts}
use Rattle.soar_rule.specs.Productions.{ProductionOf}
use Rattle.soar_rule.specs.Symbols.{AreKnown, symbols_of}
use Rattle.soar_read.specs.Joining.{is_own_name, AreWordsOf}
use Rattle.soar_read.specs.Meaning.{meaning_from}
use Rattle.read_parts.specs.Naming.{new_text}
use Rattle.read_parts.specs.Words.{texts_of}
use Rattle.read_parts.specs.declared.names.Name.{Name}
use Rattle.soar_read.proofs.MeaningLemmas.{IsBody, own_names, conds_closed, actions_closed, meant, meaning_known}
use Rattle.soar_read.proofs.production.joined.Goals as goal

pub join_all-requires : goal.join_all-requires
join_all-requires c =
    let is : IsBody c.args.table.now c.args.uses.now.used c.args.tree.now c.in_ok-body.body =
    record { head = c.in_ok-body.ensures.head; conditions = c.in_ok-body.ensures.conditions; actions = c.in_ok-body.ensures.actions; kept = c.in_ok-body.ensures.kept } in
    ap (list_all (is_own_name c.args.table.now)) c.as_slice.ensures.keys ∙ own_names c.args.table.now c.args.uses.now.used c.args.tree.now c.in_ok-body.body is

pub complete-requires-clause-conds : goal.complete-requires-clause-conds
complete-requires-clause-conds c =
    let is : IsBody c.args.table.now c.args.uses.now.used c.args.tree.now c.in_ok-body.body =
    record { head = c.in_ok-body.ensures.head; conditions = c.in_ok-body.ensures.conditions; actions = c.in_ok-body.ensures.actions; kept = c.in_ok-body.ensures.kept } in
    let P : List Name → Type 0 = λ names. AreWordsOf c.args.table.now c.join_all.new.table names c.in_ok-vars.vars in
    conds_closed c.args.table.now c.args.uses.now.used c.args.tree.now c.in_ok-body.body c.join_all.new.table c.in_ok-vars.vars is c.requires.room (subst P c.as_slice.ensures.keys c.in_ok-vars.ensures.1)

pub complete-requires-clause-actions : goal.complete-requires-clause-actions
complete-requires-clause-actions c =
    let is : IsBody c.args.table.now c.args.uses.now.used c.args.tree.now c.in_ok-body.body =
    record { head = c.in_ok-body.ensures.head; conditions = c.in_ok-body.ensures.conditions; actions = c.in_ok-body.ensures.actions; kept = c.in_ok-body.ensures.kept } in
    let P : List Name → Type 0 = λ names. AreWordsOf c.args.table.now c.join_all.new.table names c.in_ok-vars.vars in
    actions_closed c.args.table.now c.args.uses.now.used c.args.tree.now c.in_ok-body.body c.join_all.new.table c.in_ok-vars.vars is c.requires.room (subst P c.as_slice.ensures.keys c.in_ok-vars.ensures.1)

pub returns-clause-meant : goal.returns-clause-meant
returns-clause-meant c =
    let is : IsBody c.args.table.now c.args.uses.now.used c.args.tree.now c.in_ok-body.body =
    record { head = c.in_ok-body.ensures.head; conditions = c.in_ok-body.ensures.conditions; actions = c.in_ok-body.ensures.actions; kept = c.in_ok-body.ensures.kept } in
    let P : List Name → Type 0 = λ names. (c.join_all.new.table ≡ with_texts c.args.table.now (flat_map new_text names)) × AreWordsOf c.args.table.now c.join_all.new.table names c.in_ok-vars.vars in
    let both = meant c.args.table.now c.args.uses.now.used c.args.tree.now c.in_ok-body.body c.join_all.new.table c.in_ok-vars.vars is (subst P c.as_slice.ensures.keys c.in_ok-vars.ensures) in
    (c.complete.ensures ∙ both.0, both.1)

pub returns-clause-known : goal.returns-clause-known
returns-clause-known c =
    let is : IsBody c.args.table.now c.args.uses.now.used c.args.tree.now c.in_ok-body.body =
    record { head = c.in_ok-body.ensures.head; conditions = c.in_ok-body.ensures.conditions; actions = c.in_ok-body.ensures.actions; kept = c.in_ok-body.ensures.kept } in
    let P : List Name → Type 0 = λ names. (c.join_all.new.table ≡ with_texts c.args.table.now (flat_map new_text names)) × AreWordsOf c.args.table.now c.join_all.new.table names c.in_ok-vars.vars in
    let both = meant c.args.table.now c.args.uses.now.used c.args.tree.now c.in_ok-body.body c.join_all.new.table c.in_ok-vars.vars is (subst P c.as_slice.ensures.keys c.in_ok-vars.ensures) in
    let Q : ProductionOf → Type 0 = λ p. AreKnown c.join_all.new.table (symbols_of p) in
    let R : Texts → Type 0 = λ words. AreKnown words (symbols_of (meaning_from c.args.table.now (texts_of c.args.table.now c.args.uses.now.used) c.args.tree.now).production) in
    subst Q (sym (c.complete.ensures ∙ both.0)) (subst R (sym both.1) (meaning_known c.args.table.now (texts_of c.args.table.now c.args.uses.now.used) c.args.tree.now c.requires.room))
