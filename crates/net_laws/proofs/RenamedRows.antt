-- Conditions whose variables have other numbers have the same rows, with the bindings under these numbers.
use Rattle.std.specs.Prelude.{map, flat_map}
use Rattle.std.specs.Option.{option_map}
use Rattle.std.proofs.Common.{◌≡◌, refl, sym, ◌∙◌, ap, ap₂, ℕ, Bool, true, false, ◌&&◌, cond, List, [], ◌∷◌, ◌++◌, Option, Some, None, option_and_then}
use Rattle.std.proofs.lemmas.List.{map-append}
use Rattle.soar_sym.specs.Equality.{symbol_eq}
use Rattle.soar_sym.specs.declared.symbol.Sym.{Sym}
use Rattle.soar_rule.specs.declared.cond.Atom.{Atom}
use Rattle.soar_rule.specs.declared.cond.Atom.TheVariants.{Const, Var}
use Rattle.soar_rule.specs.declared.cond.Pattern.{Pattern}
use Rattle.soar_rule.specs.declared.cond.Test.{Test}
use Rattle.soar_rule.specs.declared.cond.Test.TheVariants.{Plain, Rel, OneOf}
use Rattle.soar_rule.specs.Alike.{variable_with}
use Rattle.soar_rule.specs.Conditions.{Condition, positive, negated, conjunctive, Conditions, no_more, condition_and}
use Rattle.soar_rule.specs.Renaming.{test_with, pattern_with, condition_with, conditions_with}
use Rattle.soar_wm.specs.declared.element.Element.{Element}
use Rattle.defs_match.specs.Conflict.{instance_of}
use Rattle.defs_match.specs.Rows.{Row, takes_marks, bindings_at, with_matched, by_element, extend, only_without, rows_with, rows_from}
use Rattle.defs_match.specs.Testing.{Bindings, symbol_of, bind, after_plain, symbol_at, contains_symbol, stands_to, others_pass, passes}
use Rattle.rule_laws.proofs.RenumberedLists.{same_number}

-- ---- rows under other numbers

abbrev pub bindings_by : (ℕ → ℕ) → Bindings → Bindings
bindings_by g bs = map (λ b. (g b.0, b.1)) bs

abbrev pub row_by : (ℕ → ℕ) → Row → Row
row_by g r = record { tags = r.tags; bindings = bindings_by g r.bindings }

-- an instance does not tell numbers of variables
symbols_kept : (g : ℕ → ℕ) (bs : Bindings) → map (λ b. b.1) (bindings_by g bs) ≡ map (λ b. b.1) bs
symbols_kept g [] = refl
symbols_kept g (b ∷ bs) = ap (λ (l : List Sym). b.1 ∷ l) (symbols_kept g bs)

pub instances_kept : (g : ℕ → ℕ) (number : ℕ) (rs : List Row) → map (instance_of number) (map (row_by g) rs) ≡ map (instance_of number) rs
instances_kept g number [] = refl
instances_kept g number (r ∷ rs) =
    let own : instance_of number (row_by g r) ≡ instance_of number r = λ i. record (instance_of number r) { binds = symbols_kept g r.bindings i } in
    λ i. own i ∷ instances_kept g number rs i

-- ---- where no two variables get one number

module _ (g : ℕ → ℕ) (apart : (v w : ℕ) → g v ≡ g w → v ≡ w) where
  symbol_again : (v : ℕ) (bs : Bindings) → symbol_of (g v) (bindings_by g bs) ≡ symbol_of v bs
  symbol_again v [] = refl
  symbol_again v (b ∷ bs) = ap₂ (λ e o. cond e (Some b.1) o) (same_number g apart b.0 v) (symbol_again v bs)

  if_over : (e : Bool) (o : Option Bindings) → cond e (option_map (bindings_by g) o) None ≡ option_map (bindings_by g) (cond e o None)
  if_over true o = refl
  if_over false o = refl

  then_over : (after before : Bindings → Option Bindings) → ((bs : Bindings) → after (bindings_by g bs) ≡ option_map (bindings_by g) (before bs)) → (o : Option Bindings)
      → option_and_then after (option_map (bindings_by g) o) ≡ option_map (bindings_by g) (option_and_then before o)
  then_over after before each None = refl
  then_over after before each (Some bs) = each bs

  -- ---- fields

  bind_again : (v : ℕ) (s : Sym) (bs : Bindings) (o : Option Sym) → bind (g v) s (bindings_by g bs) o ≡ option_map (bindings_by g) (bind v s bs o)
  bind_again v s bs None = ap Some (sym (map-append (λ (b : ℕ × Sym). (g b.0, b.1)) bs ((v, s) ∷ [])))
  bind_again v s bs (Some t) = if_over (symbol_eq s t) (Some bs)

  plain_again : (ts : List Test) (s : Sym) (bs : Bindings) → after_plain (map (test_with (variable_with g)) ts) s (bindings_by g bs) ≡ option_map (bindings_by g) (after_plain ts s bs)
  plain_again [] s bs = refl
  plain_again (Plain (Const c) ∷ ts) s bs = ap (λ o. cond (symbol_eq s c) o None) (plain_again ts s bs) ∙ if_over (symbol_eq s c) (after_plain ts s bs)
  plain_again (Plain (Var v) ∷ ts) s bs =
      ap (λ o. option_and_then (after_plain (map (test_with (variable_with g)) ts) s) (bind (g v) s (bindings_by g bs) o)) (symbol_again v bs)
      ∙ ap (option_and_then (after_plain (map (test_with (variable_with g)) ts) s)) (bind_again v s bs (symbol_of v bs))
      ∙ then_over (after_plain (map (test_with (variable_with g)) ts) s) (after_plain ts s) (λ mid. plain_again ts s mid) (bind v s bs (symbol_of v bs))
  plain_again (Rel r a ∷ ts) s bs = plain_again ts s bs
  plain_again (OneOf symbols ∷ ts) s bs = plain_again ts s bs

  atom_again : (a : Atom) (bs : Bindings) → symbol_at (variable_with g a) (bindings_by g bs) ≡ symbol_at a bs
  atom_again (Const c) bs = refl
  atom_again (Var v) bs = symbol_again v bs

  others_again : (ts : List Test) (s : Sym) (bs : Bindings) → others_pass (map (test_with (variable_with g)) ts) s (bindings_by g bs) ≡ others_pass ts s bs
  others_again [] s bs = refl
  others_again (Plain a ∷ ts) s bs = others_again ts s bs
  others_again (Rel r a ∷ ts) s bs = ap₂ (λ o b. stands_to r s o && b) (atom_again a bs) (others_again ts s bs)
  others_again (OneOf symbols ∷ ts) s bs = ap (λ b. contains_symbol symbols s && b) (others_again ts s bs)

  checked_again : (ts : List Test) (s : Sym) (bs : Bindings)
      → cond (others_pass (map (test_with (variable_with g)) ts) s (bindings_by g bs)) (Some (bindings_by g bs)) None ≡ option_map (bindings_by g) (cond (others_pass ts s bs) (Some bs) None)
  checked_again ts s bs = ap (λ e. cond e (Some (bindings_by g bs)) None) (others_again ts s bs) ∙ if_over (others_pass ts s bs) (Some bs)

  passes_again : (ts : List Test) (s : Sym) (bs : Bindings) → passes (map (test_with (variable_with g)) ts) s (bindings_by g bs) ≡ option_map (bindings_by g) (passes ts s bs)
  passes_again ts s bs =
      ap (option_and_then (λ after. cond (others_pass (map (test_with (variable_with g)) ts) s after) (Some after) None)) (plain_again ts s bs)
      ∙ then_over (λ after. cond (others_pass (map (test_with (variable_with g)) ts) s after) (Some after) None) (λ after. cond (others_pass ts s after) (Some after) None)
      (checked_again ts s) (after_plain ts s bs)

  -- a field, behind those before it
  next_again : (ts : List Test) (s : Sym) (after before : Option Bindings) → after ≡ option_map (bindings_by g) before
      → option_and_then (passes (map (test_with (variable_with g)) ts) s) after ≡ option_map (bindings_by g) (option_and_then (passes ts s) before)
  next_again ts s after before e =
      ap (option_and_then (passes (map (test_with (variable_with g)) ts) s)) e
      ∙ then_over (passes (map (test_with (variable_with g)) ts) s) (passes ts s) (passes_again ts s) before

  -- ---- elements

  bindings_again : (p : Pattern) (e : Element) (bs : Bindings) → bindings_at (pattern_with (variable_with g) p) e (bindings_by g bs) ≡ option_map (bindings_by g) (bindings_at p e bs)
  bindings_again p e bs =
      let in_id : Option Bindings = passes (map (test_with (variable_with g)) p.id.tests) e.id (bindings_by g bs) in
      next_again p.value.tests e.value (option_and_then (passes (map (test_with (variable_with g)) p.attr.tests) e.attr) in_id) (option_and_then (passes p.attr.tests e.attr) (passes p.id.tests e.id bs))
      (next_again p.attr.tests e.attr in_id (passes p.id.tests e.id bs) (passes_again p.id.tests e.id bs))

  matched_again : (r : Row) (e : Element) (o : Option Bindings) → with_matched (row_by g r) e (option_map (bindings_by g) o) ≡ map (row_by g) (with_matched r e o)
  matched_again r e None = refl
  matched_again r e (Some bs) = refl

  if_again : (b : Bool) (xs rs : List Row) → xs ≡ map (row_by g) rs → cond b xs [] ≡ map (row_by g) (cond b rs [])
  if_again true xs rs e = e
  if_again false xs rs e = refl

  element_again : (p : Pattern) (r : Row) (e : Element) → by_element (pattern_with (variable_with g) p) (row_by g r) e ≡ map (row_by g) (by_element p r e)
  element_again p r e =
      if_again (takes_marks p e) (with_matched (row_by g r) e (bindings_at (pattern_with (variable_with g) p) e (bindings_by g r.bindings))) (with_matched r e (bindings_at p e r.bindings))
      (ap (with_matched (row_by g r) e) (bindings_again p e r.bindings) ∙ matched_again r e (bindings_at p e r.bindings))

  -- ---- rows

  both_again : (xs ys rs ss : List Row) → xs ≡ map (row_by g) rs → ys ≡ map (row_by g) ss → xs ++ ys ≡ map (row_by g) (rs ++ ss)
  both_again xs ys rs ss e f = ap₂ (λ (a b : List Row). a ++ b) e f ∙ sym (map-append (row_by g) rs ss)

  extend_again : (p : Pattern) (w : List Element) (r : Row) → extend (pattern_with (variable_with g) p) w (row_by g r) ≡ map (row_by g) (extend p w r)
  extend_again p [] r = refl
  extend_again p (e ∷ w) r =
      both_again (by_element (pattern_with (variable_with g) p) (row_by g r) e) (extend (pattern_with (variable_with g) p) w (row_by g r)) (by_element p r e) (extend p w r)
      (element_again p r e) (extend_again p w r)

  only_again : (r : Row) (xs rs : List Row) → xs ≡ map (row_by g) rs → only_without (row_by g r) xs ≡ map (row_by g) (only_without r rs)
  only_again r xs rs e = ap (only_without (row_by g r)) e ∙ by rs
    where
      by : (rs : List Row) → only_without (row_by g r) (map (row_by g) rs) ≡ map (row_by g) (only_without r rs)
      by [] = refl
      by (s ∷ rs) = refl

  each_again : (after before : Row → List Row) → ((r : Row) → after (row_by g r) ≡ map (row_by g) (before r)) → (rs : List Row)
      → flat_map after (map (row_by g) rs) ≡ map (row_by g) (flat_map before rs)
  each_again after before each [] = refl
  each_again after before each (r ∷ rs) =
      both_again (after (row_by g r)) (flat_map after (map (row_by g) rs)) (before r) (flat_map before rs) (each r) (each_again after before each rs)

  mutual
    with_again : (c : Condition) (w : List Element) (r : Row) → rows_with (condition_with (variable_with g) c) w (row_by g r) ≡ map (row_by g) (rows_with c w r)
    with_again (positive p) w r = extend_again p w r
    with_again (negated p) w r = only_again r (extend (pattern_with (variable_with g) p) w (row_by g r)) (extend p w r) (extend_again p w r)
    with_again (conjunctive cs) w r =
        only_again r (rows_from (conditions_with (variable_with g) cs) w (row_by g r ∷ [])) (rows_from cs w (r ∷ [])) (from_again cs w (r ∷ []))

    pub from_again : (cs : Conditions) (w : List Element) (rs : List Row) → rows_from (conditions_with (variable_with g) cs) w (map (row_by g) rs) ≡ map (row_by g) (rows_from cs w rs)
    from_again no_more w rs = refl
    from_again (condition_and c cs) w rs =
        ap (rows_from (conditions_with (variable_with g) cs) w) (each_again (rows_with (condition_with (variable_with g) c) w) (rows_with c w) (λ r. with_again c w r) rs)
        ∙ from_again cs w (flat_map (rows_with c w) rs)
