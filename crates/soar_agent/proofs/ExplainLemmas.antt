-- The symbols that the explanation of a rule shows are known.
use Rattle.std.proofs.Common.{◌≡◌, ℕ, ◌==◌, Bool, true, false, inl, inr, List, [], ◌∷◌, Some, refl, subst}
use Rattle.std.specs.Prelude.{if◌then◌else◌}
use Rattle.soar_sym.specs.Words.{Texts}
use Rattle.soar_rule.specs.Symbols.{AreKnown}
use Rattle.chain_texts.specs.Shown.{shown_symbols}
use Rattle.defs_soar.specs.Agents.{Learnt}
use Rattle.defs_soar.specs.History.{ChainOf}
use Rattle.defs_run.specs.Carrying.{chain_of_rule}
use Rattle.soar_cycle.specs.Knowing.{AreChainsKnown}

pub chain_known : (words : Texts) (chains : List Learnt) (number : ℕ) (found : ChainOf) → AreChainsKnown words chains → chain_of_rule chains number ≡ Some found → AreKnown words (shown_symbols found)
chain_known words [] number found known is = absurd (cc)
chain_known words (l ∷ chains) number found known is = by (l.rule == number) is (chain_known words chains number found (λ m i. known m (inr i)))
  where
    by : (b : Bool) → (if b then Some l.chain else chain_of_rule chains number) ≡ Some found → (chain_of_rule chains number ≡ Some found → AreKnown words (shown_symbols found)) → AreKnown words (shown_symbols found)
    by true is later = let same : l.chain ≡ found = cc in subst (λ c. AreKnown words (shown_symbols c)) same (known l (inl refl))
    by false is later = later is
