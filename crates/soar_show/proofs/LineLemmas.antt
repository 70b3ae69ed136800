-- Conditions with gaps between them, and the lines of a production.
use Rattle.std.proofs.Common.{◌≡◌, ℕ, List, [], ◌∷◌, ◌++◌, map, sym, refl, ap, ◌∙◌, append_assoc}
use Rattle.std.specs.Prelude.{codes}
use Rattle.std.proofs.lemmas.List.{append-nil, map-append}
use Rattle.soar_rule.specs.declared.cond.Cond.{Cond}
use Rattle.soar_rule.specs.Conditions.{condition, conditions}
use Rattle.soar_sym.specs.Words.{Texts}
use Rattle.soar_rule.specs.Productions.{ProductionOf}
use Rattle.defs_text.specs.Symbols.{symbol_text}
use Rattle.defs_read.specs.Printing.{action_text, doc_lines, indented, inner_lines, kind_lines, lines_text, production_text, support_lines}
use Rattle.defs_read.specs.PrintingConditions.{Naming, condition_lines, condition_text, inside_text}
use Rattle.soar_show.specs.Lines.{inner_text, with_gaps}

-- no gap before the first
pub inside_with_gaps : (cs : List Cond) (n : Naming) → with_gaps [] cs n ≡ inside_text (conditions cs) n
inside_with_gaps [] n = refl
inside_with_gaps (c ∷ []) n = append-nil (condition_text (condition c) n)
inside_with_gaps (c ∷ d ∷ cs) n = ap (λ rest. condition_text (condition c) n ++ (32 ∷ rest)) (inside_with_gaps (d ∷ cs) n)

-- ---- lines

lines_append : (xs ys : List (List ℕ)) → lines_text (xs ++ ys) ≡ lines_text xs ++ lines_text ys
lines_append [] ys = refl
lines_append (x ∷ xs) ys = ap (λ rest. x ++ (10 ∷ rest)) (lines_append xs ys) ∙ sym (append_assoc x (10 ∷ lines_text xs) (lines_text ys))

inner_append : (xs ys : List (List ℕ)) → inner_text (xs ++ ys) ≡ inner_text xs ++ inner_text ys
inner_append xs ys = ap lines_text (map-append indented xs ys) ∙ lines_append (map indented xs) (map indented ys)

-- documentation, kind, support, conditions and actions, in turn
inner_parts : (doc kind support conds actions : List (List ℕ))
    → inner_text (doc ++ (kind ++ (support ++ (conds ++ (codes "-->" ∷ actions)))))
    ≡ inner_text doc ++ (inner_text kind ++ (inner_text support ++ (inner_text conds ++ (codes "    -->\n" ++ inner_text actions))))
inner_parts doc kind support conds actions =
    inner_append doc _ ∙ ap (λ text. inner_text doc ++ text)
    (inner_append kind _ ∙ ap (λ text. inner_text kind ++ text)
    (inner_append support _ ∙ ap (λ text. inner_text support ++ text) (inner_append conds (codes "-->" ∷ actions))))

regroup : (head doc kind support conds arrow actions end : List ℕ)
    → head ++ (10 ∷ ((doc ++ (kind ++ (support ++ (conds ++ (arrow ++ actions))))) ++ end))
    ≡ (head ++ 10 ∷ []) ++ (doc ++ (kind ++ (support ++ (conds ++ (arrow ++ (actions ++ end))))))
regroup head doc kind support conds arrow actions end = simp append_assoc

-- the whole, part by part
pub production_lines : (words : Texts) (p : ProductionOf)
    → lines_text (production_text words p)
    ≡ ((codes "sp {" ++ symbol_text words p.name) ++ codes "\n")
    ++ (inner_text (doc_lines p.doc) ++ (inner_text (kind_lines p.kind) ++ (inner_text (support_lines p.support)
    ++ (inner_text (condition_lines p.conditions (record { words = words; vars = p.vars }))
    ++ (codes "    -->\n" ++ (inner_text (map (action_text (record { words = words; vars = p.vars })) p.actions) ++ codes "}\n"))))))
unfolding production_text
production_lines words p =
    let n : Naming = record { words = words; vars = p.vars } in
    ap (λ rest. (codes "sp {" ++ symbol_text words p.name) ++ (10 ∷ rest))
    (lines_append (map indented (inner_lines n p)) (codes "}" ∷ [])
    ∙ ap (λ text. text ++ codes "}\n") (inner_parts (doc_lines p.doc) (kind_lines p.kind) (support_lines p.support) (condition_lines p.conditions n) (map (action_text n) p.actions)))
    ∙ regroup (codes "sp {" ++ symbol_text words p.name) (inner_text (doc_lines p.doc)) (inner_text (kind_lines p.kind)) (inner_text (support_lines p.support)) (inner_text (condition_lines p.conditions n)) (codes "    -->\n") (inner_text (map (action_text n) p.actions)) (codes "}\n")
