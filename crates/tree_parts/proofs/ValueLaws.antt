-- The loop that reads the values of a function, and when a table has the words of a call.
use Rattle.std.proofs.Common.{◌≡◌, refl, sym, ◌∙◌, ap, subst, ℕ, suc, Bool, true, List, [], ◌∷◌, ◌++◌, Ok, length, arith}
use Rattle.std.specs.List.{list_all}
use Rattle.std.proofs.lemmas.List.{length-append}
use Rattle.std.proofs.lemmas.List.Folds.{list_all-map}
use Rattle.soar_sym.specs.Words.{Texts}
use Rattle.soar_rule.specs.declared.action.Func.{Func}
use Rattle.defs_text.specs.declared.token.Token.{Token}
use Rattle.defs_read.specs.ReadingValues.{one_further, term_at, wants}
use Rattle.defs_read.specs.Sayings.{AreTokensKnown, sayings}
use Rattle.tree_parts.specs.declared.action.Term.{Term, fold-roll-Term}
use Rattle.tree_parts.specs.declared.action.Term.TheVariants.{Call, rolls-Call}
use Rattle.tree_parts.specs.declared.action.Term.TheOpen as F
use Rattle.tree_parts.specs.Known.{term_step, is_term_known}
use Rattle.tree_parts.specs.Reading.{IsLater}
use Rattle.tree_parts.specs.Seen.{term_seen}
use Rattle.tree_parts.specs.Underway.{Underway}
use Rattle.tree_parts.proofs.LoopLaws.{begun, pushed}

pub known_call : (words : Texts) (f : Func) (values : List Term) → is_term_known words (Call f values) ≡ list_all (is_term_known words) values
known_call words f values =
    ap (is_term_known words) (sym (rolls-Call f values)) ∙ fold-roll-Term Bool (term_step words) (F.Call f values) ∙ list_all-map (λ known. known) (is_term_known words) values

-- the values so far, and those that are read from the rest: how many there are tells whether one more is read
abbrev pub ArgumentsUnderway : Func → ℕ → Texts → List Token → List Term → List Token → Type 0
ArgumentsUnderway f d words tokens values rest =
    Underway (wants f) one_further (term_at d) 0 (term_seen words) (is_term_known words) words tokens (length values) values rest

pub arguments_begun : (f : Func) (d : ℕ) (words : Texts) (tokens : List Token) (values : List Term) → values ≡ [] → AreTokensKnown words tokens → ArgumentsUnderway f d words tokens values tokens
arguments_begun f d words tokens values e k = subst (λ l. ArgumentsUnderway f d words tokens l tokens) (sym e) (begun [] refl k)

pub arguments_pushed : (f : Func) (d : ℕ) (words : Texts) (tokens : List Token) (values : List Term) (rest : List Token) → ArgumentsUnderway f d words tokens values rest
    → (all : List Term) (v : Term) (after : List Token) → all ≡ values ++ (v ∷ []) → wants f (length values) (sayings words rest) ≡ true
    → term_at d (sayings words rest) ≡ Ok (term_seen words v, sayings words after) → is_term_known words v ≡ true → IsLater words rest after
    → ArgumentsUnderway f d words tokens all after
arguments_pushed f d words tokens values rest u all v after e w r k later =
    subst (λ n. Underway (wants f) one_further (term_at d) 0 (term_seen words) (is_term_known words) words tokens n all after) longer (pushed u all v after e w r k later)
  where
    longer : suc (length values) ≡ length all
    longer = let h : length all ≡ length (values ++ (v ∷ [])) = ap length e in let k = length-append values (v ∷ []) in omega arith
