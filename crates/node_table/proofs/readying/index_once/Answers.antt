use Rattle.std.proofs.Common.{◌∙◌, ◌∷◌, [], ap, inl, refl, sym, subst, List}
use Rattle.std.specs.List.{list_any}
use Rattle.defs_match.specs.Laws.{IsIn}
use Rattle.node_memory.specs.declared.symbols.Joined.{Joined}
use Rattle.node_memory.specs.Symbols.{joined_eq}
use Rattle.node_memory.proofs.ChangeLemmas.{in_left, in_right}
use Rattle.node_table.proofs.MakingLemmas.{any_in, only_first}
use Rattle.node_table.proofs.readying.index_once.Goals as goal

pub returns-then-is_among : goal.returns-then-is_among
returns-then-is_among c = record {
  same = refl;
  rows = refl;
  kept = λ v i. i;
  joined = only_first c.args.step.now c.args.joined c.args.node.now.memory.joined.items c.requires.first
      (any_in c.args.joined c.args.node.now.memory.joined.items (ap (λ (js : List Joined). list_any (λ j. joined_eq j c.args.joined) js) (sym c.as_slice.ensures.value) ∙ sym c.if-is_among.ensures));
  indexed = c.requires.indexed;
}

pub returns : goal.returns
returns c =
    let old = c.args.node.now.memory.joined.items in
    let more = c.in_ok-index_by.ensures.joined in
    record {
      same = refl;
      rows = c.in_ok-index_by.ensures.rows;
      kept = λ v i. subst (λ (js : List Joined). IsIn v js) (sym more) (in_left v old (c.args.joined ∷ []) i);
      joined = only_first c.args.step.now c.args.joined c.index_by.new.memory.joined.items c.requires.first (subst (λ (js : List Joined). IsIn c.args.joined js) (sym more) (in_right c.args.joined old (c.args.joined ∷ []) (inl refl)));
      indexed = c.in_ok-index_by.ensures.indexed;
    }
