-- Of known symbols, each element, preference and step shows known ones. Crates above may cite this file.
use Rattle.std.proofs.Common.{zero, suc, List, [], ◌∷◌, ◌++◌, map, flat_map, Option, Some, None, subst, arith}
use Rattle.std.proofs.lemmas.List.Folds.{flat_map-map}
use Rattle.std.specs.List.{All}
use Rattle.soar_sym.specs.Words.{Texts}
use Rattle.soar_sym.specs.declared.symbol.Sym.{Sym}
use Rattle.soar_rule.specs.Symbols.{AreKnown}
use Rattle.soar_wm.specs.declared.element.Element.{Element}
use Rattle.soar_wm.specs.WorkingMemory.{triple_of}
use Rattle.defs_soar.specs.declared.chain.Chain.{Chain}
use Rattle.defs_soar.specs.declared.chain.Step.{Step}
use Rattle.defs_soar.specs.declared.preference.PrefKind.{PrefKind}
use Rattle.defs_soar.specs.declared.preference.PrefKind.TheVariants as kind
use Rattle.defs_soar.specs.declared.preference.Wish.{Wish}
use Rattle.defs_soar.specs.Dependencies.{symbols_of_referent, symbols_of_wish}
use Rattle.defs_soar.specs.History.{StepOf, architecture_step, item_step, select_step, fire_step, chain_seen, step_seen}
use Rattle.defs_soar.specs.Ungrounded.{symbols_of_element}
use Rattle.trace_laws.specs.Events.{IsOptionKnown, IsSignKnown, IsTripleKnown, IsWishKnown}
use Rattle.soar_show.specs.Known.{Knows}
use Rattle.soar_show.proofs.KnownLemmas.{knows_back, knows_front}
use Rattle.chain_texts.specs.Shown.{AreLinesKnown, IsStepKnown, shown_symbols, symbols_of_step}

module _ (words : Texts) where
  -- ---- preferences

  referent_known : (r : Option Sym) → AreKnown words (symbols_of_referent r) → IsOptionKnown words r
  referent_known None h = tt
  referent_known (Some s) h = h.0

  sign_known : (k : PrefKind) (r : Option Sym) → IsOptionKnown words r → IsSignKnown words k r
  sign_known kind.Accept r h = tt
  sign_known kind.Require r h = tt
  sign_known kind.Reject r h = tt
  sign_known kind.Prohibit r h = tt
  sign_known kind.Better r h = h
  sign_known kind.Worse r h = h
  sign_known kind.Best r h = tt
  sign_known kind.Worst r h = tt
  sign_known kind.Indifferent r h = tt
  sign_known kind.Numeric r h = h
  sign_known kind.IndifferentTo r h = h

  pub wish_known : (w : Wish) → AreKnown words (symbols_of_wish w) → IsWishKnown words w
  wish_known w h = record {
    id = h.0;
    attr = h.1.0;
    value = h.1.1.0;
    sign = sign_known w.kind w.referent (referent_known w.referent h.1.1.1);
  }

  element_known : (e : Element) → Knows words (symbols_of_element e) → IsTripleKnown words (triple_of e)
  element_known e h = (h.are_known.0, h.are_known.1.0, h.are_known.1.1.0)

  -- ---- lists

  all_known : {A : Type 0} (P : A → Type 0) (of : A → List Sym) → ((x : A) → Knows words (of x) → P x) → (xs : List A) → Knows words (flat_map of xs) → All P xs
  all_known P of each [] h k d within = absurd (omega (arith, within))
  all_known P of each (x ∷ xs) h zero d within = each x (knows_front words (of x) (flat_map of xs) h)
  all_known P of each (x ∷ xs) h (suc k) d within = all_known P of each xs (knows_back words (of x) (flat_map of xs) h) k d (omega (arith, within))

  wishes_known : (ws : List Wish) → Knows words (flat_map symbols_of_wish ws) → All (IsWishKnown words) ws
  wishes_known ws h = all_known (IsWishKnown words) symbols_of_wish (λ w k. wish_known w k.are_known) ws h

  -- ---- an explanation

  step_known : (s : StepOf) → Knows words (symbols_of_step s) → IsStepKnown words s
  step_known (architecture_step e) h = element_known e h
  step_known (item_step e tag) h = element_known e h
  step_known (select_step e tag) h = element_known e h
  step_known (fire_step f) h = (h.are_known.0, wishes_known f.made (record { are_known = h.are_known.1 }))

  steps_known : (steps : List Step) → Knows words (flat_map symbols_of_step (map step_seen steps)) → All (λ s. IsStepKnown words (step_seen s)) steps
  steps_known steps h =
      all_known (λ s. IsStepKnown words (step_seen s)) (λ s. symbols_of_step (step_seen s)) (λ s k. step_known (step_seen s) k) steps
      (subst (Knows words) (flat_map-map symbols_of_step step_seen steps) h)

  pub chain_known : (c : Chain) → AreKnown words (shown_symbols (chain_seen c)) → AreLinesKnown words c
  chain_known c known =
      let h : Knows words (shown_symbols (chain_seen c)) = record { are_known = known } in
      let grounds = flat_map symbols_of_element c.grounds in
      let steps = flat_map symbols_of_step (map step_seen c.steps) in
      let results = flat_map symbols_of_wish c.results in
      let rest = knows_back words grounds (steps ++ results) h in
      record {
        grounds = all_known (λ e. IsTripleKnown words (triple_of e)) symbols_of_element element_known c.grounds (knows_front words grounds (steps ++ results) h);
        steps = steps_known c.steps (knows_front words steps results rest);
        results = wishes_known c.results (knows_back words steps results rest);
      }
