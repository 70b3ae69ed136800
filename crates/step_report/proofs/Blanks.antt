-- The items that stand for those past the end of a list.
use Rattle.std.proofs.Common.{◌≡◌, ℕ, ◌<◌, zero, suc, false, List, [], ◌∷◌, length, get_or, None, refl, arith}
use Rattle.soar_sym.specs.declared.symbol.Sym.TheVariants.{Ident}
use Rattle.soar_sym.specs.declared.symbol.Triple.{Triple}
use Rattle.soar_wm.specs.declared.element.Element.{Element}
use Rattle.defs_soar.specs.declared.firing.DropCause.TheVariants as drop_cause
use Rattle.defs_soar.specs.declared.firing.Dropped.{Dropped}
use Rattle.defs_soar.specs.declared.preference.PrefKind.TheVariants as kind
use Rattle.wave_entries.specs.HeldByVariants as held_by
use Rattle.wave_entries.specs.declared.entry.HeldWish.{HeldWish}
use Rattle.step_report.specs.declared.settled.Removed.{Removed}

abbrev pub no_wish : HeldWish
no_wish = record {
  wish = record { id = Ident 0 0; attr = Ident 0 0; value = Ident 0 0; kind = kind.Accept; referent = None };
  by = held_by.Instance;
}

abbrev pub no_drop : Dropped
no_drop = record { action = 0; cause = drop_cause.Overflow }

abbrev pub no_removed : Removed
no_removed = record { goal = Ident 0 0; depth = 0 }

abbrev pub no_element : Element
no_element = record { tag = 0; id = Ident 0 0; attr = Ident 0 0; value = Ident 0 0; accept = false; of_state = false }

abbrev pub no_triple : Triple
no_triple = record { id = Ident 0 0; attr = Ident 0 0; value = Ident 0 0; accept = false }

-- an item that is there may stand for those past the end
pub at_place : {A : Type 0} (items : List A) (i : ℕ) (d : A) → i < length items → get_or items i d ≡ get_or items i (get_or items i d)
at_place [] i d within = absurd (omega (arith, within))
at_place (x ∷ items) zero d within = refl
at_place (x ∷ items) (suc i) d within = at_place items i d (omega (arith, within))
