-- Elements, preferences and explanations as text (the texts are this engine's).
use Rattle.std.specs.Prelude.{ℕ, List, [], ◌∷◌, ◌++◌, map, flat_map, Option, Some, None, if◌then◌else◌, codes}
use Rattle.std.specs.Fmt.{decimal}
use Rattle.soar_sym.specs.Words.{Texts}
use Rattle.soar_sym.specs.declared.symbol.Sym.{Sym}
use Rattle.soar_sym.specs.declared.symbol.Triple.{Triple}
use Rattle.defs_match.specs.Element.{Element}
use Rattle.defs_match.specs.WorkingMemory.{triple_of}
use Rattle.defs_text.specs.Symbols.{symbol_text, instance_text}
use Rattle.defs_match.specs.declared.instance.Instance.{Instance}
use Rattle.defs_soar.specs.declared.preference.PrefKind.{PrefKind}
use Rattle.defs_soar.specs.declared.preference.PrefKind.TheVariants as kind
use Rattle.defs_soar.specs.declared.preference.Wish.{Wish}
use Rattle.defs_soar.specs.History.{StepOf, architecture_step, item_step, select_step, fire_step, ChainOf}

-- ---- elements

-- `id ^attr value`
abbrev pub front_text : Texts → Sym → Sym → Sym → List ℕ
front_text words id attr value = symbol_text words id ++ (codes " ^" ++ (symbol_text words attr ++ (32 ∷ symbol_text words value)))

-- `(S1 ^a b)`, and with the mark `(S1 ^operator O1 +)`
abbrev pub triple_text : Texts → Triple → List ℕ
triple_text words t = codes "(" ++ (front_text words t.id t.attr t.value ++ (if t.accept then codes " +)" else codes ")"))

abbrev pub element_text : Texts → Element → List ℕ
element_text words e = triple_text words (triple_of e)

-- `6: (S1 ^a b)`
abbrev pub tagged_text : Texts → Element → List ℕ
tagged_text words e = decimal e.tag ++ (codes ": " ++ element_text words e)

-- ---- preferences

abbrev pub referent_text : Texts → Option Sym → List ℕ
referent_text words None = []
referent_text words (Some s) = 32 ∷ symbol_text words s

abbrev pub sign_text : Texts → PrefKind → Option Sym → List ℕ
sign_text words kind.Accept r = codes "+"
sign_text words kind.Require r = codes "!"
sign_text words kind.Reject r = codes "-"
sign_text words kind.Prohibit r = codes "~"
sign_text words kind.Better r = codes ">" ++ referent_text words r
sign_text words kind.Worse r = codes "<" ++ referent_text words r
sign_text words kind.Best r = codes ">"
sign_text words kind.Worst r = codes "<"
sign_text words kind.Indifferent r = codes "="
sign_text words kind.Numeric r = codes "=" ++ referent_text words r
sign_text words kind.IndifferentTo r = codes "=" ++ referent_text words r

-- `(S1 ^operator O1 > O2)`
abbrev pub wish_text : Texts → Wish → List ℕ
wish_text words w = codes "(" ++ (front_text words w.id w.attr w.value ++ (32 ∷ (sign_text words w.kind w.referent ++ codes ")")))

-- ---- explanations, line by line

-- `fire 3 eval: 14 15`
abbrev pub firing_text : Texts → ℕ → Sym → Instance → List ℕ
firing_text words number name i = codes "fire " ++ (decimal number ++ (32 ∷ instance_text words name i.tags))

abbrev pub by_text : Texts → Element → ℕ → List ℕ
by_text words e tag = tagged_text words e ++ (codes " by " ++ decimal tag)

abbrev pub step_lines : Texts → StepOf → List (List ℕ)
step_lines words (architecture_step e) = (codes "architecture " ++ tagged_text words e) ∷ []
step_lines words (item_step e tag) = (codes "item " ++ by_text words e tag) ∷ []
step_lines words (select_step e tag) = (codes "select " ++ by_text words e tag) ∷ []
step_lines words (fire_step f) = firing_text words f.number f.name f.instance ∷ map (λ w. codes "  " ++ wish_text words w) f.made

-- the explanation of the rule of a name
unfoldable pub chain_lines : Texts → Sym → ChainOf → List (List ℕ)
chain_lines words name c =
    (codes "explain " ++ symbol_text words name)
    ∷ (map (λ e. codes "ground " ++ tagged_text words e) c.grounds
    ++ (flat_map (step_lines words) c.steps ++ (map (λ w. codes "result " ++ wish_text words w) c.results ++ (codes "end" ∷ []))))
