-- What the rows of conditions bind: the variables that the conditions bind, each to a symbol of an element.
use Rattle.std.proofs.Common.{◌≡◌, refl, ◌∙◌, ap, true, false, [], ◌∷◌, List, ℕ, ◌==◌, ◌||◌, ◌++◌, Bool, flat_map, map, cond, Option, Some, None, option_and_then, arith}
use Rattle.soar_sym.specs.Equality.{symbol_eq}
use Rattle.soar_sym.specs.declared.symbol.Sym.{Sym}
use Rattle.soar_rule.specs.declared.cond.Atom.TheVariants.{Const, Var}
use Rattle.soar_rule.specs.declared.cond.Test.{Test}
use Rattle.soar_rule.specs.declared.cond.Test.TheVariants.{Plain, Rel, OneOf}
use Rattle.soar_rule.specs.declared.cond.Pattern.{Pattern}
use Rattle.soar_rule.specs.Conditions.{Condition, positive, negated, conjunctive, Conditions, no_more, condition_and}
use Rattle.soar_rule.specs.Variables.{is_among, with_each, plain_in_test, plain_in, plain_of_pattern, bound_by, bound_variables, plain_outside}
use Rattle.soar_wm.specs.declared.element.Element.{Element}
use Rattle.defs_match.specs.Rows.{rows, rows_with, rows_from, Row, extend, by_element, with_matched, bindings_at, takes_marks, only_without, empty_row}
use Rattle.defs_match.specs.Testing.{Bindings, symbol_of, bind, after_plain, others_pass, passes}

abbrev pub variables_in : Bindings → List ℕ
variables_in bs = map (λ b. b.0) bs

eq_flip : (m n : ℕ) → (m == n) ≡ (n == m)
eq_flip m n = grind arith

-- a variable is among those of the bindings where it has a symbol
abbrev Has : Bool → Option Sym → Type 0
Has b None = b ≡ false
Has b (Some s) = b ≡ true

has_first : (b rest : Bool) (s : Sym) (o : Option Sym) → Has rest o → Has (b || rest) (cond b (Some s) o)
has_first true rest s o h = refl
has_first false rest s o h = h

has_symbol : (v : ℕ) (bs : Bindings) → Has (is_among (variables_in bs) v) (symbol_of v bs)
has_symbol v [] = refl
has_symbol v (b ∷ bs) = rw (eq_flip v b.0) (has_first (b.0 == v) (is_among (variables_in bs) v) b.1 (symbol_of v bs) (has_symbol v bs))

abbrev with_one : List ℕ → ℕ → List ℕ
with_one vs v = cond (is_among vs v) vs (vs ++ v ∷ [])

each_append : (seen vs ws : List ℕ) → with_each seen (vs ++ ws) ≡ with_each (with_each seen vs) ws
each_append seen [] ws = refl
each_append seen (v ∷ vs) ws = each_append (with_one seen v) vs ws

-- Holds may be any fact about symbols, and is known of those of the elements
module _ (Holds : Sym → Type 0) where
  abbrev pub HoldOf : Bindings → Type 0
  HoldOf [] = Unit {0}
  HoldOf (b ∷ bs) = Holds b.1 × HoldOf bs

  -- bindings of these variables, to such symbols
  pub record Binds (vs : List ℕ) (bs : Bindings) : Type 0 where
    pub variables : variables_in bs ≡ vs
    pub symbols : HoldOf bs

  -- the same, where there are any bindings
  abbrev MayBind : List ℕ → Option Bindings → Type 0
  MayBind vs None = Unit {0}
  MayBind vs (Some bs) = Binds vs bs

  -- ---- fields

  variables_push : (bs : Bindings) (v : ℕ) (s : Sym) → variables_in (bs ++ (v, s) ∷ []) ≡ variables_in bs ++ v ∷ []
  variables_push [] v s = refl
  variables_push (b ∷ bs) v s = ap (λ l. b.0 ∷ l) (variables_push bs v s)

  symbols_push : (bs : Bindings) (v : ℕ) (s : Sym) → HoldOf bs → Holds s → HoldOf (bs ++ (v, s) ∷ [])
  symbols_push [] v s h k = (k, tt)
  symbols_push (b ∷ bs) v s h k = (h.0, symbols_push bs v s h.1 k)

  if_binds : (b : Bool) (o : Option Bindings) (vs : List ℕ) → MayBind vs o → MayBind vs (cond b o None)
  if_binds true o vs h = h
  if_binds false o vs h = tt

  -- a step from any bindings of the variables before, after those that came
  then_binds : (f : Bindings → Option Bindings) (o : Option Bindings) (before after : List ℕ)
      → MayBind before o → ((bs : Bindings) → Binds before bs → MayBind after (f bs)) → MayBind after (option_and_then f o)
  then_binds f None before after h step = tt
  then_binds f (Some bs) before after h step = step bs h

  bind_binds : (v : ℕ) (s : Sym) (bs : Bindings) (vs : List ℕ) (b : Bool) (o : Option Sym) → Has b o → Holds s → Binds vs bs
      → MayBind (cond b vs (vs ++ v ∷ [])) (bind v s bs o)
  bind_binds v s bs vs b None h k g =
      rw h (record { variables = variables_push bs v s ∙ ap (λ l. l ++ v ∷ []) g.variables; symbols = symbols_push bs v s g.symbols k })
  bind_binds v s bs vs b (Some t) h k g = rw h (if_binds (symbol_eq s t) (Some bs) vs g)

  variable_binds : (v : ℕ) (s : Sym) (bs : Bindings) (vs : List ℕ) → Holds s → Binds vs bs → MayBind (with_one vs v) (bind v s bs (symbol_of v bs))
  variable_binds v s bs vs k g =
      let own : List ℕ = variables_in bs in
      rw (← g.variables)
      (bind_binds v s bs own (is_among own v) (symbol_of v bs) (has_symbol v bs) k (record { variables = refl; symbols = g.symbols }))

  plain_binds : (ts : List Test) (s : Sym) (bs : Bindings) (vs : List ℕ) → Holds s → Binds vs bs
      → MayBind (with_each vs (flat_map plain_in_test ts)) (after_plain ts s bs)
  plain_binds [] s bs vs k g = g
  plain_binds (Plain (Const c) ∷ ts) s bs vs k g = if_binds (symbol_eq s c) (after_plain ts s bs) (with_each vs (flat_map plain_in_test ts)) (plain_binds ts s bs vs k g)
  plain_binds (Plain (Var v) ∷ ts) s bs vs k g =
      then_binds (after_plain ts s) (bind v s bs (symbol_of v bs)) (with_one vs v) (with_each (with_one vs v) (flat_map plain_in_test ts))
      (variable_binds v s bs vs k g) (λ mid m. plain_binds ts s mid (with_one vs v) k m)
  plain_binds (Rel r a ∷ ts) s bs vs k g = plain_binds ts s bs vs k g
  plain_binds (OneOf cs ∷ ts) s bs vs k g = plain_binds ts s bs vs k g

  passes_binds : (ts : List Test) (s : Sym) (bs : Bindings) (vs : List ℕ) → Holds s → Binds vs bs
      → MayBind (with_each vs (flat_map plain_in_test ts)) (passes ts s bs)
  passes_binds ts s bs vs k g =
      let after : List ℕ = with_each vs (flat_map plain_in_test ts) in
      then_binds (λ bs. cond (others_pass ts s bs) (Some bs) None) (after_plain ts s bs) after after
      (plain_binds ts s bs vs k g) (λ mid m. if_binds (others_pass ts s mid) (Some mid) after m)

  -- ---- elements

  abbrev pub HoldIn : List Element → Type 0
  HoldIn [] = Unit {0}
  HoldIn (e ∷ elements) = (Holds e.id × Holds e.attr × Holds e.value) × HoldIn elements

  element_binds : (p : Pattern) (e : Element) (bs : Bindings) (vs : List ℕ) → Holds e.id × Holds e.attr × Holds e.value → Binds vs bs
      → MayBind (with_each vs (plain_of_pattern p)) (bindings_at p e bs)
  element_binds p e bs vs k g =
      let in_id = with_each vs (plain_in p.id) in
      let in_attr = with_each in_id (plain_in p.attr) in
      let in_value = with_each in_attr (plain_in p.value) in
      rw (each_append vs (plain_in p.id) (plain_in p.attr ++ plain_in p.value), each_append in_id (plain_in p.attr) (plain_in p.value))
      (then_binds (passes p.value.tests e.value) (option_and_then (passes p.attr.tests e.attr) (passes p.id.tests e.id bs)) in_attr in_value
      (then_binds (passes p.attr.tests e.attr) (passes p.id.tests e.id bs) in_id in_attr
      (passes_binds p.id.tests e.id bs vs k.0 g)
      (λ mid m. passes_binds p.attr.tests e.attr mid in_id k.1 m))
      (λ mid m. passes_binds p.value.tests e.value mid in_attr k.2 m))

  -- ---- rows

  abbrev pub RowsBind : List ℕ → List Row → Type 0
  RowsBind vs [] = Unit {0}
  RowsBind vs (r ∷ rs) = Binds vs r.bindings × RowsBind vs rs

  append_bind : (vs : List ℕ) (rs ss : List Row) → RowsBind vs rs → RowsBind vs ss → RowsBind vs (rs ++ ss)
  append_bind vs [] ss h k = k
  append_bind vs (r ∷ rs) ss h k = (h.0, append_bind vs rs ss h.1 k)

  flat_map_binds : (f : Row → List Row) (before after : List ℕ) → ((r : Row) → Binds before r.bindings → RowsBind after (f r))
      → (rs : List Row) → RowsBind before rs → RowsBind after (flat_map f rs)
  flat_map_binds f before after each [] h = tt
  flat_map_binds f before after each (r ∷ rs) h = append_bind after (f r) (flat_map f rs) (each r h.0) (flat_map_binds f before after each rs h.1)

  with_binds : (r : Row) (e : Element) (vs : List ℕ) (b : Bool) (o : Option Bindings) → MayBind vs o → RowsBind vs (cond b (with_matched r e o) [])
  with_binds r e vs false o h = tt
  with_binds r e vs true None h = tt
  with_binds r e vs true (Some bs) h = (h, tt)

  extend_binds : (p : Pattern) (w : List Element) (r : Row) (vs : List ℕ) → HoldIn w → Binds vs r.bindings
      → RowsBind (with_each vs (plain_of_pattern p)) (extend p w r)
  extend_binds p [] r vs k g = tt
  extend_binds p (e ∷ w) r vs k g =
      append_bind (with_each vs (plain_of_pattern p)) (by_element p r e) (extend p w r)
      (with_binds r e (with_each vs (plain_of_pattern p)) (takes_marks p e) (bindings_at p e r.bindings) (element_binds p e r.bindings vs k.0 g))
      (extend_binds p w r vs k.1 g)

  only_binds : (r : Row) (rs : List Row) (vs : List ℕ) → Binds vs r.bindings → RowsBind vs (only_without r rs)
  only_binds r [] vs g = (g, tt)
  only_binds r (s ∷ rs) vs g = tt

  after_binds : (c : Condition) (w : List Element) (r : Row) (vs : List ℕ) → HoldIn w → Binds vs r.bindings
      → RowsBind (with_each vs (bound_by c)) (rows_with c w r)
  after_binds (positive p) w r vs k g = extend_binds p w r vs k g
  after_binds (negated p) w r vs k g = only_binds r (extend p w r) vs g
  after_binds (conjunctive cs) w r vs k g = only_binds r (rows_from cs w (r ∷ [])) vs g

  from_binds : (cs : Conditions) (w : List Element) (rs : List Row) (vs : List ℕ) → HoldIn w → RowsBind vs rs
      → RowsBind (with_each vs (plain_outside cs)) (rows_from cs w rs)
  from_binds no_more w rs vs k g = g
  from_binds (condition_and c cs) w rs vs k g =
      let next = with_each vs (bound_by c) in
      rw (each_append vs (bound_by c) (plain_outside cs))
      (from_binds cs w (flat_map (rows_with c w) rs) next k
      (flat_map_binds (rows_with c w) vs next (λ r h. after_binds c w r vs k h) rs g))

  pub rows_bind : (cs : Conditions) (w : List Element) → HoldIn w → RowsBind (bound_variables cs) (rows cs w)
  rows_bind cs w k = from_binds cs w (empty_row ∷ []) [] k (record { variables = refl; symbols = tt }, tt)
