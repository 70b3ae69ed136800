-- The lines of an explanation, which begin on a line of their own.
use Rattle.std.proofs.Common.{◌≡◌, ℕ, Bool, true, false, List, [], ◌∷◌, ◌++◌, refl, ap, map, flat_map}
use Rattle.std.specs.Prelude.{if◌then◌else◌, codes}
use Rattle.soar_sym.specs.Words.{Texts}
use Rattle.soar_sym.specs.declared.symbol.Sym.{Sym}
use Rattle.defs_text.specs.Symbols.{symbol_text}
use Rattle.defs_soar.specs.History.{ChainOf}
use Rattle.defs_soar.specs.Texts.{chain_lines, step_lines, tagged_text, wish_text}
use Rattle.defs_soar.specs.Trace.{Written, followed_by, line_text, rendered}
use Rattle.defs_run.specs.Sessions.{as_lines}

abbrev whole : List ℕ → Written
whole text = record { text = text; mid_line = false }

-- each line with a newline behind it
abbrev pub ended : List (List ℕ) → List ℕ
ended lines = flat_map (λ line. line ++ 10 ∷ []) lines

lines_behind : (lines : List (List ℕ)) → rendered 1 false (as_lines lines) ≡ whole (ended lines)
lines_behind [] = refl
lines_behind (line ∷ lines) = ap (followed_by (whole (line ++ (10 ∷ [])))) (lines_behind lines)

lines_from : (mid : Bool) (line : List ℕ) (lines : List (List ℕ)) → rendered 1 mid (as_lines (line ∷ lines)) ≡ whole ((if mid then 10 ∷ [] else []) ++ ended (line ∷ lines))
lines_from true line lines = ap (followed_by (whole (line_text true line))) (lines_behind lines)
lines_from false line lines = lines_behind (line ∷ lines)

pub chain_said : (words : Texts) (mid : Bool) (name : Sym) (c : ChainOf)
    → rendered 1 mid (as_lines (chain_lines words name c)) ≡ record { text = (if mid then 10 ∷ [] else []) ++ ended (chain_lines words name c); mid_line = false }
unfolding chain_lines
chain_said words mid name c =
    lines_from mid (codes "explain " ++ symbol_text words name)
    (map (λ e. codes "ground " ++ tagged_text words e) c.grounds
    ++ (flat_map (step_lines words) c.steps ++ (map (λ w. codes "result " ++ wish_text words w) c.results ++ (codes "end" ∷ []))))
