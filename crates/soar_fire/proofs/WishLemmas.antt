-- The symbols of a wish are in the table.
use Rattle.std.proofs.Common.{◌≡◌, Option, Some, None, IfSome, Result, Ok, Err, IfOk, sym, subst}
use Rattle.soar_sym.specs.Words.{Texts, IsKnown}
use Rattle.soar_sym.specs.declared.symbol.Sym.{Sym}
use Rattle.soar_rule.specs.declared.cond.Atom.{Atom}
use Rattle.soar_rule.specs.Productions.{ValueOf, PreferenceOf, makes}
use Rattle.soar_rule.specs.Symbols.{constants_of_action, constants_of_atom, constants_of_value, constants_of_referent}
use Rattle.soar_rule.specs.Variables.{referent_value}
use Rattle.defs_soar.specs.declared.preference.Wish.{Wish}
use Rattle.defs_soar.specs.declared.preference.PrefKind.{PrefKind}
use Rattle.defs_soar.specs.declared.firing.DropCause.{DropCause}
use Rattle.soar_fire.specs.Known.{Knows, symbols_of_wish}
use Rattle.soar_fire.proofs.KnownLemmas.{knows_front, knows_back}

pub attr_constants : (words : Texts) (id : Atom) (attr value : ValueOf) (p : PreferenceOf) → Knows words (constants_of_action (makes id attr value p)) → Knows words (constants_of_value attr)
attr_constants words id attr value p h = knows_front words (constants_of_value attr) _ (knows_back words (constants_of_atom id) _ h)

pub value_constants : (words : Texts) (id : Atom) (attr value : ValueOf) (p : PreferenceOf) → Knows words (constants_of_action (makes id attr value p)) → Knows words (constants_of_value value)
value_constants words id attr value p h = knows_front words (constants_of_value value) _ (knows_back words (constants_of_value attr) _ (knows_back words (constants_of_atom id) _ h))

pub referent_constants : (words : Texts) (id : Atom) (attr value : ValueOf) (p : PreferenceOf) → Knows words (constants_of_action (makes id attr value p)) → Knows words (constants_of_referent (referent_value p))
referent_constants words id attr value p h = knows_back words (constants_of_value value) _ (knows_back words (constants_of_value attr) _ (knows_back words (constants_of_atom id) _ h))

pub wish_known : (words : Texts) (id attr value : Sym) (k : PrefKind) (referent : Option Sym) → IsKnown words id → IsKnown words attr → IsKnown words value → IfSome referent (λ s. IsKnown words s)
    → Knows words (symbols_of_wish (record { id = id; attr = attr; value = value; kind = k; referent = referent }))
wish_known words id attr value k None i a v r = record { are_known = (i, (a, (v, tt))) }
wish_known words id attr value k (Some s) i a v r = record { are_known = (i, (a, (v, (r, tt)))) }

pub judged_known : (words : Texts) (w : Wish) (r : Result Wish DropCause) → IfOk r (λ u. u ≡ w) → Knows words (symbols_of_wish w) → IfOk r (λ u. Knows words (symbols_of_wish u))
judged_known words w (Ok u) same h = subst (λ x. Knows words (symbols_of_wish x)) (sym same) h
judged_known words w (Err e) same h = tt
