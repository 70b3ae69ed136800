-- The lines of an explanation, and what is written of them.
use Rattle.std.proofs.Common.{◌≡◌, ℕ, List, [], ◌∷◌, ◌++◌, map, flat_map, refl, ap, ◌∙◌, append_assoc, append-nil, codes}
use Rattle.std.proofs.lemmas.Grind.{flat_map-append}
use Rattle.soar_sym.specs.Words.{Texts}
use Rattle.soar_sym.specs.declared.symbol.Sym.{Sym}
use Rattle.defs_text.specs.Symbols.{symbol_text}
use Rattle.defs_soar.specs.History.{StepOf, architecture_step, item_step, select_step, fire_step, ChainOf}
use Rattle.defs_soar.specs.Texts.{by_text, chain_lines, firing_text, step_lines, tagged_text, wish_text}
use Rattle.chain_texts.specs.Lines.{chain_text, grounds_text, marked_line, step_text}

-- each line with a newline behind it
abbrev pub written : List (List ℕ) → List ℕ
written lines = flat_map (λ line. line ++ 10 ∷ []) lines

written_both : (first second : List (List ℕ)) → written (first ++ second) ≡ written first ++ written second
written_both first second = flat_map-append (λ line. line ++ 10 ∷ []) first second

-- a line that is one text behind another
marked_one : (mark text : List ℕ) → (mark ++ text) ++ 10 ∷ [] ≡ marked_line mark text
marked_one mark text = append_assoc mark text (10 ∷ [])

written_map : {A : Type 0} (mark : List ℕ) (text : A → List ℕ) (xs : List A)
    → written (map (λ x. mark ++ text x) xs) ≡ flat_map (λ x. marked_line mark (text x)) xs
written_map mark text [] = refl
written_map mark text (x ∷ xs) =
    ap (λ line. line ++ written (map (λ y. mark ++ text y) xs)) (marked_one mark (text x))
    ∙ ap (λ rest. marked_line mark (text x) ++ rest) (written_map mark text xs)

written_flat : {A : Type 0} (lines : A → List (List ℕ)) (text : A → List ℕ) → ((x : A) → written (lines x) ≡ text x)
    → (xs : List A) → written (flat_map lines xs) ≡ flat_map text xs
written_flat lines text each [] = refl
written_flat lines text each (x ∷ xs) =
    written_both (lines x) (flat_map lines xs) ∙ ap (λ front. front ++ written (flat_map lines xs)) (each x)
    ∙ ap (λ rest. text x ++ rest) (written_flat lines text each xs)

one_line : (mark text : List ℕ) → written ((mark ++ text) ∷ []) ≡ marked_line mark text
one_line mark text = append-nil ((mark ++ text) ++ 10 ∷ []) ∙ marked_one mark text

step_written : (words : Texts) (s : StepOf) → written (step_lines words s) ≡ step_text words s
step_written words (architecture_step e) = one_line (codes "architecture ") (tagged_text words e)
step_written words (item_step e tag) = one_line (codes "item ") (by_text words e tag)
step_written words (select_step e tag) = one_line (codes "select ") (by_text words e tag)
step_written words (fire_step f) =
    let line = firing_text words f.number f.name f.instance in
    append_assoc line (10 ∷ []) (written (map (λ w. codes "  " ++ wish_text words w) f.made))
    ∙ ap (λ rest. line ++ (10 ∷ rest)) (written_map (codes "  ") (wish_text words) f.made)

-- the whole
pub chain_written : (words : Texts) (name : Sym) (c : ChainOf) → flat_map (λ line. line ++ 10 ∷ []) (chain_lines words name c) ≡ chain_text words name c
unfolding chain_lines
chain_written words name c =
    let grounds = map (λ e. codes "ground " ++ tagged_text words e) c.grounds in
    let steps = flat_map (step_lines words) c.steps in
    let results = map (λ w. codes "result " ++ wish_text words w) c.results in
    ap (λ head. head ++ written (grounds ++ (steps ++ (results ++ codes "end" ∷ [])))) (append_assoc (codes "explain ") (symbol_text words name) (10 ∷ []))
    ∙ ap (λ rest. (codes "explain " ++ (symbol_text words name ++ codes "\n")) ++ rest)
    (written_both grounds (steps ++ (results ++ codes "end" ∷ []))
    ∙ ap (λ front. front ++ written (steps ++ (results ++ codes "end" ∷ []))) (written_map (codes "ground ") (tagged_text words) c.grounds)
    ∙ ap (λ rest. grounds_text words c.grounds ++ rest)
    (written_both steps (results ++ codes "end" ∷ [])
    ∙ ap (λ front. front ++ written (results ++ codes "end" ∷ [])) (written_flat (step_lines words) (step_text words) (step_written words) c.steps)
    ∙ ap (λ rest. flat_map (step_text words) c.steps ++ rest)
    (written_both results (codes "end" ∷ [])
    ∙ ap (λ front. front ++ codes "end\n") (written_map (codes "result ") (wish_text words) c.results))))
