-- The rows that one element makes of a memory, by its index.
use Rattle.std.proofs.Common.{◌≡◌, ◌↔◌, ◌⊎◌, inl, inr, refl, sym, ap, subst, ◌∙◌, Bool, true, false, ℕ, List, [], ◌∷◌, ◌++◌, Option, Some, None}
use Rattle.soar_sym.specs.Equality.{symbol_eq}
use Rattle.soar_sym.specs.declared.symbol.Sym.{Sym}
use Rattle.soar_rule.specs.declared.cond.Atom.TheVariants.{Const, Var}
use Rattle.soar_rule.specs.declared.cond.Test.{Test}
use Rattle.soar_rule.specs.declared.cond.Test.TheVariants.{Plain, Rel, OneOf}
use Rattle.soar_rule.specs.declared.cond.Pattern.{Pattern}
use Rattle.soar_wm.specs.declared.element.Element.{Element}
use Rattle.defs_match.specs.Laws.{IsIn}
use Rattle.defs_match.specs.Testing.{Bindings}
use Rattle.defs_match.specs.Rows.{Row, by_element}
use Rattle.soar_sym.proofs.KeyLemmas.{symbol_same}
use Rattle.join_parts.specs.Known.{known, first_variable, joined_of}
use Rattle.node_memory.specs.Changes.{join_one, below, tags_of}
use Rattle.node_memory.specs.declared.symbols.Symbols.{Symbols}
use Rattle.node_memory.specs.Memories.{Found, has, symbol_in, symbols_in}
use Rattle.join_parts.specs.Joins.{IsOne, IsOneAt, IsOfOne, GoesFrom}
use Rattle.node_memory.proofs.ChangeLemmas.{in_append, in_left, in_right, in_map, in_map_back, in_flat_map, in_flat_map_back}
use Rattle.join_parts.proofs.KnownLemmas.{other_id, other_value}

-- ---- the rows that one element makes

in_one : (p : Pattern) (e : Element) (rs : List Row) (x : Row) → IsIn x (join_one p e rs) → (r : Row) × IsIn r rs × IsIn x (by_element p r e)
in_one p e rs x h = in_flat_map (λ r. by_element p r e) x rs h

one_in : (p : Pattern) (e : Element) (rs : List Row) (x r : Row) → IsIn r rs → IsIn x (by_element p r e) → IsIn x (join_one p e rs)
one_in p e rs x r i k = in_flat_map_back (λ r. by_element p r e) r x rs i k

-- a variable that is the first test of a field tells what it must be
known_by : (ts : List Test) (s : Sym) (bs : Bindings) → symbol_in (first_variable ts) bs ≡ Some s → known ts bs ≡ Some s
known_by [] s bs h = absurd (cc)
known_by (Rel r a ∷ ts) s bs h = absurd (cc)
known_by (OneOf cs ∷ ts) s bs h = absurd (cc)
known_by (Plain (Const d) ∷ ts) s bs h = absurd (cc)
known_by (Plain (Var v) ∷ ts) s bs h = h

both_stand : (p : Pattern) (bs : Bindings) (id value : Option Sym) → symbol_in (first_variable p.id.tests) bs ≡ id → symbol_in (first_variable p.value.tests) bs ≡ value
    → symbols_in (joined_of p) bs ≡ record { id = id; value = value }
both_stand p bs id value a b = λ i. record { id = a i; value = b i }

-- the rows of an identifier, found by the value too
pub of_value : (p : Pattern) (e : Element) (found : Found) (id : Option Sym) (rs free out0 out1 out2 : List Row)
    → ((x : Row) → IsIn x rs ↔ (has found x × (symbols_in (joined_of p) x.bindings ≡ record { id = id; value = Some e.value })))
    → ((x : Row) → IsIn x free ↔ (has found x × (symbols_in (joined_of p) x.bindings ≡ record { id = id; value = None })))
    → out1 ≡ out0 ++ join_one p e rs → out2 ≡ out1 ++ join_one p e free → (x : Row) → IsIn x out2 ↔ (IsIn x out0 ⊎ IsOneAt p e id found x)
of_value p e found id rs free out0 out1 out2 with_value without is1 is2 x = (to, from)
  where
    to : IsIn x out2 → IsIn x out0 ⊎ IsOneAt p e id found x
    to h = elim (in_append x out1 (join_one p e free) (subst (λ (l : List Row). IsIn x l) is2 h)) [
      | inr i ↦ (let r = in_one p e free x i in let s = (without r.0).0 r.1 in inr (r.0, s.0, ap (λ (t : Symbols). t.id) s.1, r.2))
      | inl i ↦ elim (in_append x out0 (join_one p e rs) (subst (λ (l : List Row). IsIn x l) is1 i)) [
        | inl j ↦ inl j
        | inr j ↦ (let r = in_one p e rs x j in let s = (with_value r.0).0 r.1 in inr (r.0, s.0, ap (λ (t : Symbols). t.id) s.1, r.2))
      ]
    ]

    in_out1 : IsIn x out0 ⊎ IsIn x (join_one p e rs) → IsIn x out2
    in_out1 h = subst (λ (l : List Row). IsIn x l) (sym is2) (in_left x out1 (join_one p e free) (subst (λ (l : List Row). IsIn x l) (sym is1) (elim h [ inl i ↦ in_left x out0 (join_one p e rs) i | inr i ↦ in_right x out0 (join_one p e rs) i ])))

    by : (r : Row) → has found r → symbol_in (first_variable p.id.tests) r.bindings ≡ id → IsIn x (by_element p r e) → (o : Option Sym) → symbol_in (first_variable p.value.tests) r.bindings ≡ o → IsIn x out2
    by r there stands made None at =
        subst (λ (l : List Row). IsIn x l) (sym is2) (in_right x out1 (join_one p e free) (one_in p e free x r ((without r).1 (there, both_stand p r.bindings id None stands at)) made))
    by r there stands made (Some s) at = split (symbol_eq s e.value) refl
      where
        split : (c : Bool) → symbol_eq s e.value ≡ c → IsIn x out2
        split true same = in_out1 (inr (one_in p e rs x r ((with_value r).1 (there, both_stand p r.bindings id (Some e.value) stands (at ∙ (λ i. Some (symbol_same s e.value same i))))) made))
        split false differ = absurd (subst (λ (l : List Row). IsIn x l) (other_value p r s e (known_by p.value.tests s r.bindings at) differ) made)

    from : IsIn x out0 ⊎ IsOneAt p e id found x → IsIn x out2
    from h = elim h [ inl i ↦ in_out1 (inl i) | inr r ↦ by r.0 r.1 r.2 r.3 (symbol_in (first_variable p.value.tests) r.0.bindings) refl ]

-- the rows of the element's identifier, and those in which none is bound
pub of_id : (p : Pattern) (e : Element) (found : Found) (out0 out1 out2 : List Row) (x : Row) → IsIn x out1 ↔ (IsIn x out0 ⊎ IsOneAt p e (Some e.id) found x)
    → IsIn x out2 ↔ (IsIn x out1 ⊎ IsOneAt p e None found x) → IsIn x out2 ↔ (IsIn x out0 ⊎ IsOne p e found x)
of_id p e found out0 out1 out2 x first second = (to, from)
  where
    to : IsIn x out2 → IsIn x out0 ⊎ IsOne p e found x
    to h = elim (second.0 h) [
      | inl i ↦ elim (first.0 i) [ inl j ↦ inl j | inr r ↦ inr (r.0, r.1, r.3) ]
      | inr r ↦ inr (r.0, r.1, r.3)
    ]

    by : (r : Row) → has found r → IsIn x (by_element p r e) → (o : Option Sym) → symbol_in (first_variable p.id.tests) r.bindings ≡ o → IsIn x out2
    by r there made None at = second.1 (inr (r, there, at, made))
    by r there made (Some s) at = split (symbol_eq s e.id) refl
      where
        split : (c : Bool) → symbol_eq s e.id ≡ c → IsIn x out2
        split true same = second.1 (inl (first.1 (inr (r, there, at ∙ (λ i. Some (symbol_same s e.id same i)), made))))
        split false differ = absurd (subst (λ (l : List Row). IsIn x l) (other_id p r s e (known_by p.id.tests s r.bindings at) differ) made)

    from : IsIn x out0 ⊎ IsOne p e found x → IsIn x out2
    from h = elim h [ inl i ↦ second.1 (inl (first.1 (inl i))) | inr r ↦ by r.0 r.1 r.2 (symbol_in (first_variable p.id.tests) r.0.bindings) refl ]

-- the tags that go
pub goes_from : (p : Pattern) (found : Found) (keys rows_gone tags : List (List ℕ)) (goes : Option Element) (lost : List Row) → ((x : Row) → IsIn x lost ↔ IsOfOne p goes found x)
    → tags ≡ below keys rows_gone ++ tags_of lost → GoesFrom p found keys rows_gone goes tags
goes_from p found keys rows_gone tags goes lost made is t = (
  (λ h. elim (in_append t (below keys rows_gone) (tags_of lost) (subst (λ (l : List (List ℕ)). IsIn t l) is h)) [
    | inl i ↦ inl i
    | inr i ↦ (let x = in_map (λ (r : Row). r.tags) t lost i in inr (x.0, (made x.0).0 x.1, x.2))
  ]),
  (λ h. subst (λ (l : List (List ℕ)). IsIn t l) (sym is) (elim h [
    | inl i ↦ in_left t (below keys rows_gone) (tags_of lost) i
    | inr x ↦ in_right t (below keys rows_gone) (tags_of lost) (subst (λ (u : List ℕ). IsIn u (tags_of lost)) x.2 (in_map_back (λ (r : Row). r.tags) x.0 lost ((made x.0).1 x.1)))
  ])),
)
