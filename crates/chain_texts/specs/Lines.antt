-- The lines of an explanation as they are written, each with its newline.
use Rattle.std.specs.Prelude.{ℕ, List, [], ◌∷◌, ◌++◌, flat_map, codes}
use Rattle.soar_sym.specs.Words.{Texts}
use Rattle.soar_sym.specs.declared.symbol.Sym.{Sym}
use Rattle.soar_wm.specs.declared.element.Element.{Element}
use Rattle.defs_text.specs.Symbols.{symbol_text}
use Rattle.defs_soar.specs.declared.preference.Wish.{Wish}
use Rattle.defs_soar.specs.History.{StepOf, architecture_step, item_step, select_step, fire_step, ChainOf}
use Rattle.defs_soar.specs.Texts.{by_text, firing_text, tagged_text, wish_text}

-- a text behind a mark
abbrev pub marked_line : List ℕ → List ℕ → List ℕ
marked_line mark text = mark ++ (text ++ 10 ∷ [])

abbrev pub grounds_text : Texts → List Element → List ℕ
grounds_text words elements = flat_map (λ e. marked_line (codes "ground ") (tagged_text words e)) elements

abbrev pub wishes_text : Texts → List ℕ → List Wish → List ℕ
wishes_text words mark wishes = flat_map (λ w. marked_line mark (wish_text words w)) wishes

abbrev pub step_text : Texts → StepOf → List ℕ
step_text words (architecture_step e) = marked_line (codes "architecture ") (tagged_text words e)
step_text words (item_step e tag) = marked_line (codes "item ") (by_text words e tag)
step_text words (select_step e tag) = marked_line (codes "select ") (by_text words e tag)
step_text words (fire_step f) = firing_text words f.number f.name f.instance ++ (10 ∷ wishes_text words (codes "  ") f.made)

-- the whole, the lines of `chain_lines`
abbrev pub chain_text : Texts → Sym → ChainOf → List ℕ
chain_text words name c =
    (codes "explain " ++ (symbol_text words name ++ codes "\n"))
    ++ (grounds_text words c.grounds ++ (flat_map (step_text words) c.steps ++ (wishes_text words (codes "result ") c.results ++ codes "end\n")))
