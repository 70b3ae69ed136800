-- What is read and checked is of words and numbers.
use Rattle.std.proofs.Common.{sym, subst, ◌≤◌, ◌∙◌, ap, arith, [], ◌++◌, length, map, flat_map, length-append}
use Rattle.soar_sym.specs.Words.{Texts, with_texts}
use Rattle.soar_rule.specs.Conditions.{Condition, Conditions, all_of}
use Rattle.soar_rule.specs.Productions.{ProductionOf}
use Rattle.soar_rule.specs.Reordering.{TakenOut, first, later, ReorderedInside, the_same, within, Reordered, nothing, taking}
use Rattle.soar_rule.specs.Symbols.{constants_of, constants_of_action, constants_of_condition, constants_of_conditions}
use Rattle.rule_laws.proofs.CheckedParts.{checked_as}
use Rattle.rule_laws.proofs.CheckedStays.{checked_stays}
use Rattle.rule_laws.proofs.WholeLaws.{checked_is_whole}
use Rattle.defs_text.specs.Numbered.{word_in}
use Rattle.defs_read.specs.ActionExpansion.{actions_of}
use Rattle.defs_read.specs.ConditionExpansion.{parts_conditions}
use Rattle.defs_read.specs.Expansion.{names_in, production_of}
use Rattle.defs_read.specs.FreshNames.{Fresh}
use Rattle.defs_read.specs.Grammar.{part_and}
use Rattle.learning_laws.specs.Lawful.{Grown}
use Rattle.learning_laws.proofs.FireLaws.{literal_more}
use Rattle.loading_laws.specs.Literals.{AreLiteral, CheckedMayBeLoaded, IsOfWords, ReadIsOfWords}
use Rattle.loading_laws.proofs.ActionLiterals.{actions_literal}
use Rattle.loading_laws.proofs.ActionLiterals as made
use Rattle.loading_laws.proofs.ConditionLiterals.{parts_literal}
use Rattle.loading_laws.proofs.ConditionLiterals as met
use Rattle.loading_laws.proofs.LiteralLists.{behind, both, front, grown_by_texts, none, words_literal}

-- ---- read

pub longer : (words more : Texts) → Grown words more → length words ≤ length more
longer words more g = omega (arith, ap length g.1 ∙ length-append words g.0)

pub read_is_of_words : ReadIsOfWords
unfolding production_of
read_is_of_words words tokens t h =
    let start : Fresh = record { used = names_in tokens; names = []; fresh = []; next = 1 } in
    let conditions = parts_conditions (part_and t.part t.parts) words start in
    let actions = actions_of words t.actions conditions.names in
    let after = with_texts words actions.names.fresh in
    let grown = grown_by_texts words actions.names.fresh in
    let old : AreLiteral words (constants_of_conditions (all_of conditions.value) ++ flat_map constants_of_action actions.value) =
    both words (constants_of_conditions (all_of conditions.value)) (flat_map constants_of_action actions.value)
    (met.all_literal words (omega arith) conditions.value (parts_literal words (omega arith) (part_and t.part t.parts) start))
    (made.all_literal words (omega arith) actions.value (actions_literal words (omega arith) t.actions conditions.names)) in
    let some : length words ≤ length after = longer words after grown in
    both after (map (word_in after) actions.names.names) (constants_of_conditions (all_of conditions.value) ++ flat_map constants_of_action actions.value)
    (words_literal after actions.names.names (omega arith)) (λ s i. literal_more words after s grown (old s i))

-- ---- checked

module _ (words : Texts) where
  out_literal : {c : Condition} {cs rest : Conditions} → TakenOut c cs rest → AreLiteral words (constants_of_conditions cs)
      → AreLiteral words (constants_of_condition c) × AreLiteral words (constants_of_conditions rest)
  out_literal (first c cs) h = (front words (constants_of_condition c) (constants_of_conditions cs) h, behind words (constants_of_condition c) (constants_of_conditions cs) h)
  out_literal (later c d cs rest out) h =
      let r = out_literal out (behind words (constants_of_condition d) (constants_of_conditions cs) h) in
      (r.0, both words (constants_of_condition d) (constants_of_conditions rest) (front words (constants_of_condition d) (constants_of_conditions cs) h) r.1)

  mutual
    inside_literal : {c d : Condition} → ReorderedInside c d → AreLiteral words (constants_of_condition c) → AreLiteral words (constants_of_condition d)
    inside_literal (the_same c) h = h
    inside_literal (within cs ds same) h = again_literal same h

    again_literal : {cs ds : Conditions} → Reordered cs ds → AreLiteral words (constants_of_conditions cs) → AreLiteral words (constants_of_conditions ds)
    again_literal nothing h = none words
    again_literal (taking c d cs rest ds out inside others) h =
        let r = out_literal out h in both words (constants_of_condition d) (constants_of_conditions ds) (inside_literal inside r.0) (again_literal others r.1)

  checked_literal : (p : ProductionOf) (cs : Conditions) → Reordered p.conditions cs → IsOfWords words p → IsOfWords words (record p { conditions = cs })
  checked_literal p cs same h =
      let rest = behind words p.vars (constants_of p) h in
      let made = flat_map constants_of_action p.actions in
      both words p.vars (constants_of_conditions cs ++ made) (front words p.vars (constants_of p) h)
      (both words (constants_of_conditions cs) made (again_literal same (front words (constants_of_conditions p.conditions) made rest)) (behind words (constants_of_conditions p.conditions) made rest))

pub checked_may_be_loaded : CheckedMayBeLoaded
checked_may_be_loaded words p q h checked = record {
  checked = checked_stays p q checked;
  literal =
      let same = (checked_as p q checked).1 in
      subst (IsOfWords words) (sym same) (checked_literal words p _ (subst (λ (r : ProductionOf). Reordered p.conditions r.conditions) same (checked_is_whole p q checked)) h);
}
