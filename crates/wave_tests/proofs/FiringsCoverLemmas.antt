-- From nothing to goals with inputs, what is named covers all that changed.
use Rattle.std.proofs.Common.{◌≡◌, ◌∙◌, ap, refl, sym, Bool, true, false, ◌||◌, not, cond, ◌&&◌, List, [], ◌∷◌, ◌++◌, append_assoc, append-nil, flat_map, subst}
use Rattle.soar_sym.specs.declared.symbol.Sym.{Sym}
use Rattle.soar_sym.specs.declared.symbol.Triple.{Triple}
use Rattle.defs_soar.specs.declared.goal.Goal.{Goal}
use Rattle.defs_soar.specs.Goals.{goal_elements, is_operator_slot, selected_element}
use Rattle.defs_soar.specs.Held.{held}
use Rattle.settling_laws.specs.Changes.{own_triples, rows_hold}
use Rattle.soar_prefs.specs.Memory.{has_plain}
use Rattle.kept_triples.specs.Kept.{HoldsTriples, IsCovered, KeptOf}
use Rattle.kept_triples.proofs.LookLemmas.{noted}
use Rattle.settle_changes.proofs.PlainLemmas.{plainly_absent}

neither : (a b : Bool) → (a || b) ≡ false → (a ≡ false) × (b ≡ false)
neither true b h = absurd (cc)
neither false b h = (refl, h)

no_rows : (goals : List Goal) (t : Triple) → rows_hold goals [] t ≡ false
no_rows goals t = by (is_operator_slot goals t.id t.attr) t.accept
  where
    by : (a b : Bool) → cond a (b && false) (not b && false) ≡ false
    by true true = refl
    by true false = refl
    by false true = refl
    by false false = refl

pub covered : (goals : List Goal) (others changed : List Triple) → changed ≡ own_triples goals ++ others → IsCovered [] [] [] goals [] others changed
covered goals others changed is t none =
    let parts = neither (has_plain (own_triples goals) t) (has_plain others t) (sym (noted (own_triples goals) others t) ∙ ap (λ (l : List Triple). has_plain l t) (sym is) ∙ none) in
    record {
      own = sym (plainly_absent (own_triples goals) t parts.0);
      input = sym (plainly_absent others t parts.1);
      rows = no_rows [] t ∙ sym (no_rows goals t);
    }

pub held_are : (goals : List Goal) (others : List Triple) → held [] goals others ≡ own_triples goals ++ others
held_are goals others =
    ap (λ (l : List Triple). goal_elements goals ++ (flat_map selected_element goals ++ l)) (append-nil others) ∙ sym (append_assoc (goal_elements goals) (flat_map selected_element goals) others)

-- whose own elements there are is not asked
pub still_holds : (old new : KeptOf) (own : List Triple) (ids : List Sym) → HoldsTriples [] [] [] old → new ≡ record old { own = own; ids = ids } → HoldsTriples [] [] [] new
still_holds old new own ids h is = subst (λ (k : KeptOf). HoldsTriples [] [] [] k) (sym is) (record { members = h.members; graph = h.graph })
