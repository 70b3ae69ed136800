-- none of the names
use Rattle.std.proofs.Common.{◌≡◌, refl, sym, ℕ, Bool, true, false, List, [], ◌∷◌, Some, None}
use Rattle.std.specs.Bool.{if◌then◌else◌}
use Rattle.std.specs.Str.{bytes_eq}
use Rattle.std.proofs.lemmas.Slice.Eq.{bytes_eq-Decides}
use Rattle.soar_rule.specs.declared.action.Func.{Func}
use Rattle.defs_read.specs.Printing.{function_text}
use Rattle.defs_read.specs.ReadingValues.{function_in, functions}
use Rattle.tree_parts.proofs.reader.word.function_named.Goals as goal

-- a text is the name of none of these
abbrev NamesNone : List Func → List ℕ → Type 0
NamesNone [] text = Unit {0}
NamesNone (f ∷ fs) text = (text ≡ function_text f → ⊥) × NamesNone fs text

none_named : (fs : List Func) (text : List ℕ) → NamesNone fs text → None ≡ function_in fs text
none_named [] text h = refl
none_named (f ∷ fs) text h = go (bytes_eq (function_text f) text) refl (none_named fs text h.1)
  where
    go : (b : Bool) → bytes_eq (function_text f) text ≡ b → None ≡ function_in fs text → None ≡ (if b then Some f else function_in fs text)
    go true d later = absurd (h.0 (sym ((bytes_eq-Decides (function_text f) text).0 d)))
    go false d later = later

pub returns-in_default : goal.returns-in_default
returns-in_default c =
    let h = c.in_default in
    none_named functions c.args.text.now
    (h.not-text, (h.not-div, (h.not-mod, (h.not-abs, (h.not-min, (h.not-max, (h.not-concat, (h.not-ifeq, (h.not-strlen, (h.not-crlf, tt))))))))))
