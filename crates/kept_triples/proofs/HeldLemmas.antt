-- What is held then, and its levels.
use Rattle.std.proofs.Common.{◌≡◌, Bool, true, false, cond, ◌&&◌, ◌||◌, inl, inr, List, [], ◌∷◌, ap, refl, sym, ◌∙◌}
use Rattle.soar_sym.specs.Equality.{mark_eq}
use Rattle.soar_sym.specs.declared.symbol.Triple.{Triple}
use Rattle.defs_soar.specs.declared.goal.Goal.{Goal}
use Rattle.defs_soar.specs.declared.preference.Preference.{Preference}
use Rattle.defs_soar.specs.Held.{held}
use Rattle.defs_soar.specs.Laws.{IsIn}
use Rattle.defs_soar.specs.Values.{has_triple_among, triple_eq}
use Rattle.settling_laws.specs.Changes.{own_triples, rows_hold, HasLinks}
use Rattle.settling_laws.proofs.WhenLemmas.{triple_is_held_when}
use Rattle.soar_settle.specs.Memory.{has_plain}
use Rattle.level_change.proofs.SymbolLemmas.{symbol_self}
use Rattle.kept_triples.specs.Kept.{IsCovered}
use Rattle.kept_triples.specs.Looking.{is_held_now}
use Rattle.kept_triples.proofs.KeyLemmas.{triple_is}

-- ---- what is held

now_is : (own : List Triple) (goals : List Goal) (rows : List Preference) (inputs : List Triple) → own ≡ own_triples goals
    → (t : Triple) → is_held_now own goals rows inputs t ≡ has_triple_among (held rows goals inputs) t
now_is own goals rows inputs is t =
    ap (λ l. has_triple_among l t || (has_triple_among inputs t || rows_hold goals rows t)) is ∙ sym (triple_is_held_when rows goals inputs t)

-- what nothing changed of is held as before
same_held : (goals0 : List Goal) (rows0 : List Preference) (inputs0 : List Triple) (goals : List Goal) (rows : List Preference) (inputs changed : List Triple)
    → IsCovered goals0 rows0 inputs0 goals rows inputs changed → (t : Triple) → has_plain changed t ≡ false
    → has_triple_among (held rows0 goals0 inputs0) t ≡ has_triple_among (held rows goals inputs) t
same_held goals0 rows0 inputs0 goals rows inputs changed covered t none =
    let same = covered t none in
    triple_is_held_when rows0 goals0 inputs0 t
    ∙ (λ k. same.own k || (same.input k || same.rows k))
    ∙ sym (triple_is_held_when rows goals inputs t)

pub held_after : (goals0 : List Goal) (rows0 : List Preference) (inputs0 : List Triple) (goals : List Goal) (rows : List Preference) (inputs changed own old new : List Triple)
    → own ≡ own_triples goals → ((t : Triple) → has_triple_among old t ≡ has_triple_among (held rows0 goals0 inputs0) t)
    → IsCovered goals0 rows0 inputs0 goals rows inputs changed
    → ((t : Triple) → has_triple_among new t ≡ cond (has_plain changed t) (is_held_now own goals rows inputs t) (has_triple_among old t))
    → (t : Triple) → has_triple_among new t ≡ has_triple_among (held rows goals inputs) t
held_after goals0 rows0 inputs0 goals rows inputs changed own old new is had covered up t = up t ∙ by (has_plain changed t) refl
  where
    by : (b : Bool) → has_plain changed t ≡ b → cond b (is_held_now own goals rows inputs t) (has_triple_among old t) ≡ has_triple_among (held rows goals inputs) t
    by true e = now_is own goals rows inputs is t
    by false e = had t ∙ same_held goals0 rows0 inputs0 goals rows inputs changed covered t e

-- ---- links

mark_self : (b : Bool) → mark_eq b b ≡ true
mark_self true = refl
mark_self false = refl

triple_self : (t : Triple) → triple_eq t t ≡ true
triple_self t = λ k. symbol_self t.id k && (symbol_self t.attr k && (symbol_self t.value k && mark_self t.accept k))

is_in : (triples : List Triple) (t : Triple) → has_triple_among triples t ≡ true → IsIn t triples
is_in [] t h = absurd (cc)
is_in (u ∷ triples) t h = by (triple_eq t u) refl h (is_in triples t)
  where
    by : (b : Bool) → triple_eq t u ≡ b → (b || has_triple_among triples t) ≡ true → (has_triple_among triples t ≡ true → IsIn t triples) → IsIn t (u ∷ triples)
    by true e h later = inl (sym (triple_is t u e))
    by false e h later = inr (later h)

has_it : (triples : List Triple) (t : Triple) → IsIn t triples → has_triple_among triples t ≡ true
has_it [] t i = absurd i
has_it (u ∷ triples) t (inl e) = ap (λ b. b || has_triple_among triples t) (ap (triple_eq t) e ∙ triple_self t)
has_it (u ∷ triples) t (inr i) = by (triple_eq t u) (has_it triples t i)
  where
    by : (b : Bool) → has_triple_among triples t ≡ true → (b || has_triple_among triples t) ≡ true
    by true h = refl
    by false h = h

-- the same triples have the same links
pub same_links : (a b : List Triple) → ((t : Triple) → has_triple_among a t ≡ has_triple_among b t) → HasLinks a b
same_links a b same t i identifier = is_in b t (sym (same t) ∙ has_it a t i)
