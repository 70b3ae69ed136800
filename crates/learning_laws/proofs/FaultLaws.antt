-- A learned rule's actions, sizes and preferences have no fault.
use Rattle.std.proofs.Common.{◌≡◌, refl, sym, ◌∙◌, ap, subst, ℕ, zero, suc, max, nat_lt, Bool, true, false, ◌&&◌, ◌||◌, cond, inl, inr, ◌⊎◌, List, [], ◌∷◌, ◌++◌, map, flat_map, Option, Some, None, Ok}
use Rattle.std.specs.Prelude.{not}
use Rattle.std.specs.List.{list_any}
use Rattle.soar_sym.specs.Equality.{symbol_eq}
use Rattle.soar_sym.specs.declared.symbol.Sym.{Sym}
use Rattle.soar_rule.specs.declared.cond.Atom.{Atom}
use Rattle.soar_rule.specs.declared.cond.Atom.TheVariants.{Const}
use Rattle.soar_rule.specs.Checking.{called_variables, first_unbound, is_bad, is_ordinary_attribute, is_ordinary_preference, linked_by, linked_by_all, lone_variable}
use Rattle.soar_rule.specs.MatchOrder.{first_unknown, or_else}
use Rattle.soar_rule.specs.Productions.{ActionOf, atom_value, makes}
use Rattle.soar_rule.specs.Renaming.{action_with, preference_with, value_with}
use Rattle.soar_rule.specs.Repeat.{repeated, until_same}
use Rattle.soar_rule.specs.Sizes.{calls_in, calls_of, calls_of_referent}
use Rattle.soar_rule.specs.Variables.{is_among, of_referent, referent_value, variables_of_atom}
use Rattle.defs_soar.specs.declared.preference.PrefKind.{PrefKind}
use Rattle.defs_soar.specs.declared.preference.PrefKind.TheVariants as kind
use Rattle.defs_soar.specs.declared.preference.Wish.{Wish}
use Rattle.defs_soar.specs.declared.goal.Goal.{Goal}
use Rattle.defs_soar.specs.Architecture.{operator_word}
use Rattle.defs_soar.specs.Firing.{fits_operator, is_ordinary_kind, judged}
use Rattle.defs_soar.specs.Goals.{is_goal}
use Rattle.defs_soar.specs.Candidate.{action_of, preference_of, referent_symbol, with_variables}
use Rattle.defs_soar.specs.Dependencies.{symbols_of_referent}
use Rattle.defs_soar.specs.Laws.{IsIn}
use Rattle.defs_soar.specs.Levels.{same_length}
use Rattle.defs_soar.specs.Results.{with_each_symbol}
use Rattle.defs_soar.specs.Variablized.{Variablized}
use Rattle.defs_soar.specs.Sorted.{has_symbol}
use Rattle.defs_soar.specs.Ungrounded.{led_to_by}
use Rattle.defs_soar.specs.Values.{is_identifier}
use Rattle.learning_laws.specs.BeforeWave.{RefFits}
use Rattle.learning_laws.proofs.GroundedLaws.{has_in}
use Rattle.learning_laws.proofs.Lists.{in_append, in_left, in_right, in_flat_map, symbol_same}
use Rattle.learning_laws.proofs.ResultLaws.{judged_parts}
use Rattle.learning_laws.proofs.Shifting.{AllIn, in_among, none_unknown}
use Rattle.learning_laws.proofs.SlotLaws.{as_constant, as_identifier, number_of}

-- ---- what results lead to is linked

-- the numbers of the identifiers among these are linked
abbrev pub LinkedIn : List Variablized → List Sym → List ℕ → Type 0
LinkedIn variablized known linked = (t : Sym) → IsIn t known → is_identifier t ≡ true → IsIn (number_of variablized t) linked

each_from : (seen symbols : List Sym) (t : Sym) → IsIn t (with_each_symbol seen symbols) → IsIn t seen ⊎ IsIn t symbols
each_from seen [] t i = inl i
each_from seen (s ∷ symbols) t i = go (has_symbol seen s) (each_from (cond (has_symbol seen s) seen (seen ++ s ∷ [])) symbols t i)
  where
    go : (b : Bool) → IsIn t (cond b seen (seen ++ s ∷ [])) ⊎ IsIn t symbols → IsIn t seen ⊎ IsIn t (s ∷ symbols)
    go true (inl j) = inl j
    go true (inr j) = inr (inr j)
    go false (inl j) = elim (in_append t seen (s ∷ []) j) [ inl k ↦ inl k | inr k ↦ elim k [ inl e ↦ inr (inl e) | inr l ↦ absurd l ] ]
    go false (inr j) = inr (inr j)

module _ (variablized : List Variablized) where
  abbrev F : Atom → Atom
  F = with_variables true variablized

  abbrev act : Wish → ActionOf
  act w = action_with F (action_of w)

  abbrev links : Wish → List ℕ
  links w = lone_variable (atom_value (F (Const w.value))) ++ of_referent lone_variable (referent_value (preference_with F (preference_of w.kind w.referent)))

  linked_at : (w : Wish) (linked : List ℕ) → is_identifier w.id ≡ true → linked_by linked (act w) ≡ cond (is_among linked (number_of variablized w.id)) (linked ++ links w) linked
  linked_at w linked h =
      ap (λ a. linked_by linked (makes a (atom_value (F (Const w.attr))) (atom_value (F (Const w.value))) (preference_with F (preference_of w.kind w.referent)))) (as_identifier variablized w.id h)

  linked_grows : (w : Wish) (linked : List ℕ) → is_identifier w.id ≡ true → AllIn linked (linked_by linked (act w))
  linked_grows w linked h v i = subst (λ l. IsIn v l) (sym (linked_at w linked h)) (go (is_among linked (number_of variablized w.id)))
    where
      go : (b : Bool) → IsIn v (cond b (linked ++ links w) linked)
      go true = in_left v linked (links w) i
      go false = i

  abbrev pub Identified : List Wish → Type 0
  Identified ws = (w : Wish) → IsIn w ws → (is_identifier w.id ≡ true) × RefFits w.kind w.referent

  all_grow : (ws : List Wish) (linked : List ℕ) → Identified ws → AllIn linked (linked_by_all (map act ws) linked)
  all_grow [] linked h v i = i
  all_grow (w ∷ ws) linked h v i = all_grow ws (linked_by linked (act w)) (λ x j. h x (inr j)) v (linked_grows w linked (h w (inl refl)).0 v i)

  pub repeated_grow : (n : ℕ) (ws : List Wish) (linked : List ℕ) → Identified ws → AllIn linked (repeated n (linked_by_all (map act ws)) linked)
  repeated_grow zero ws linked h v i = i
  repeated_grow (suc n) ws linked h v i = repeated_grow n ws (linked_by_all (map act ws) linked) h v (all_grow ws linked h v i)

  number_in : (t : Sym) → is_identifier t ≡ true → IsIn (number_of variablized t) (variables_of_atom (F (Const t)))
  number_in t h = subst (λ a. IsIn (number_of variablized t) (variables_of_atom a)) (sym (as_identifier variablized t h)) (inl refl)

  in_one : (t s : Sym) → IsIn t (s ∷ []) → is_identifier t ≡ true → IsIn (number_of variablized t) (variables_of_atom (F (Const s)))
  in_one t s (inl e) h = subst (λ x. IsIn (number_of variablized t) (variables_of_atom (F (Const x)))) (sym e) (number_in t h)
  in_one t s (inr j) h = absurd j

  referent_links : (k : PrefKind) (r : Option Sym) (t : Sym) → RefFits k r → IsIn t (symbols_of_referent r) → is_identifier t ≡ true
      → IsIn (number_of variablized t) (of_referent lone_variable (referent_value (preference_with F (preference_of k r))))
  referent_links k None t f i h = absurd i
  referent_links kind.Better (Some s) t f i h = in_one t s i h
  referent_links kind.Worse (Some s) t f i h = in_one t s i h
  referent_links kind.Numeric (Some s) t f i h = in_one t s i h
  referent_links kind.IndifferentTo (Some s) t f i h = in_one t s i h
  referent_links kind.Accept (Some s) t f i h = absurd f
  referent_links kind.Require (Some s) t f i h = absurd f
  referent_links kind.Reject (Some s) t f i h = absurd f
  referent_links kind.Prohibit (Some s) t f i h = absurd f
  referent_links kind.Best (Some s) t f i h = absurd f
  referent_links kind.Worst (Some s) t f i h = absurd f
  referent_links kind.Indifferent (Some s) t f i h = absurd f

  wish_links : (w : Wish) (t : Sym) → RefFits w.kind w.referent → IsIn t (w.value ∷ symbols_of_referent w.referent) → is_identifier t ≡ true → IsIn (number_of variablized t) (links w)
  wish_links w t f (inl e) h =
      in_left (number_of variablized t) (variables_of_atom (F (Const w.value))) (of_referent lone_variable (referent_value (preference_with F (preference_of w.kind w.referent)))) (in_one t w.value (inl e) h)
  wish_links w t f (inr j) h =
      in_right (number_of variablized t) (variables_of_atom (F (Const w.value))) (of_referent lone_variable (referent_value (preference_with F (preference_of w.kind w.referent)))) (referent_links w.kind w.referent t f j h)

  -- what a wish leads to is linked where its identifier is
  step_links : (ws : List Wish) (linked : List ℕ) (w : Wish) (t : Sym) → Identified ws → IsIn w ws → IsIn (number_of variablized w.id) linked → IsIn t (w.value ∷ symbols_of_referent w.referent) → is_identifier t ≡ true
      → IsIn (number_of variablized t) (linked_by_all (map act ws) linked)
  step_links [] linked w t h i k j q = absurd i
  step_links (x ∷ ws) linked w t h (inr i) k j q =
      step_links ws (linked_by linked (act x)) w t (λ y l. h y (inr l)) i (linked_grows x linked (h x (inl refl)).0 (number_of variablized w.id) k) j q
  step_links (x ∷ ws) linked w t h (inl e) k j q =
      all_grow ws (linked_by linked (act x)) (λ y l. h y (inr l)) (number_of variablized t)
      (subst (λ (y : Wish). IsIn (number_of variablized t) (linked_by linked (act y))) (sym e)
      (subst (λ l. IsIn (number_of variablized t) l) (sym (linked_at w linked good.0 ∙ ap (λ b. cond b (linked ++ links w) linked) (in_among linked (number_of variablized w.id) k)))
      (in_right (number_of variablized t) linked (links w) (wish_links w t good.1 j q))))
    where
      good : (is_identifier w.id ≡ true) × RefFits w.kind w.referent
      good = h w (inl e)

  led_step : (ws : List Wish) (known : List Sym) (linked : List ℕ) → Identified ws → LinkedIn variablized known linked → LinkedIn variablized (led_to_by ws known) (linked_by_all (map act ws) linked)
  led_step ws known linked h k t i q =
      elim (each_from known (flat_map (λ w. cond (has_symbol known w.id) (w.value ∷ symbols_of_referent w.referent) []) ws) t i) [
        | inl j ↦ all_grow ws linked h (number_of variablized t) (k t j q)
        | inr j ↦ let found = in_flat_map (λ w. cond (has_symbol known w.id) (w.value ∷ symbols_of_referent w.referent) []) t ws j in of found.0 found.1 (has_symbol known found.0.id) refl found.2
      ]
    where
      of : (w : Wish) → IsIn w ws → (b : Bool) → has_symbol known w.id ≡ b → IsIn t (cond b (w.value ∷ symbols_of_referent w.referent) []) → IsIn (number_of variablized t) (linked_by_all (map act ws) linked)
      of w i true e j = step_links ws linked w t h i (k w.id (has_in known w.id e) (h w i).0) j q
      of w i false e j = absurd j

  pub led_links : (n : ℕ) (ws : List Wish) (known : List Sym) (linked : List ℕ) → Identified ws → LinkedIn variablized known linked
      → LinkedIn variablized (until_same same_length n (led_to_by ws) known) (repeated n (linked_by_all (map act ws)) linked)
  led_links zero ws known linked h k = k
  led_links (suc n) ws known linked h k =
      go (same_length known (led_to_by ws known)) (led_links n ws (led_to_by ws known) (linked_by_all (map act ws) linked) h (led_step ws known linked h k))
    where
      go : (b : Bool) → LinkedIn variablized (until_same same_length n (led_to_by ws) (led_to_by ws known)) (repeated n (linked_by_all (map act ws)) (linked_by_all (map act ws) linked))
          → LinkedIn variablized (elim b [ true ↦ known | false ↦ until_same same_length n (led_to_by ws) (led_to_by ws known) ]) (repeated n (linked_by_all (map act ws)) (linked_by_all (map act ws) linked))
      go true later = λ t i q. repeated_grow (suc n) ws linked h (number_of variablized t) (k t i q)
      go false later = later

  -- ---- no action has a fault

  called_none : (r : Option Sym) → called_variables (value_with F (referent_symbol r)) ≡ []
  called_none (Some s) = refl
  called_none None = refl

  no_called : (k : PrefKind) (r : Option Sym) → of_referent called_variables (referent_value (preference_with F (preference_of k r))) ≡ []
  no_called kind.Better r = called_none r
  no_called kind.Worse r = called_none r
  no_called kind.Numeric r = called_none r
  no_called kind.IndifferentTo r = called_none r
  no_called kind.Accept r = refl
  no_called kind.Require r = refl
  no_called kind.Reject r = refl
  no_called kind.Prohibit r = refl
  no_called kind.Best r = refl
  no_called kind.Worst r = refl
  no_called kind.Indifferent r = refl

  within_one : (s : Sym) (known : List ℕ) → (is_identifier s ≡ true → IsIn (number_of variablized s) known) → AllIn (variables_of_atom (F (Const s))) known
  within_one s known h v i = go (is_identifier s) refl
    where
      one : IsIn v (number_of variablized s ∷ []) → IsIn (number_of variablized s) known → IsIn v known
      one (inl e) k = subst (λ x. IsIn x known) e k
      one (inr j) k = absurd j

      go : (b : Bool) → is_identifier s ≡ b → IsIn v known
      go true q = one (subst (λ a. IsIn v (variables_of_atom a)) (as_identifier variablized s q) i) (h q)
      go false q = absurd (subst (λ a. IsIn v (variables_of_atom a)) (as_constant variablized s q) i)

  pub none_unbound : (ws : List Wish) (bound linked : List ℕ)
      → ((w : Wish) → IsIn w ws → (is_identifier w.id ≡ true → IsIn (number_of variablized w.id) linked) × (is_identifier w.attr ≡ true → IsIn (number_of variablized w.attr) bound))
      → first_unbound bound linked (map act ws) ≡ None
  none_unbound [] bound linked h = refl
  none_unbound (w ∷ ws) bound linked h =
      let here = h w (inl refl) in
      let id = none_unknown linked (variables_of_atom (F (Const w.id))) (within_one w.id linked here.0) in
      let rest : List ℕ = variables_of_atom (F (Const w.attr)) ++ of_referent called_variables (referent_value (preference_with F (preference_of w.kind w.referent))) in
      let attr = none_unknown bound rest
      (λ v i. elim (in_append v (variables_of_atom (F (Const w.attr))) (of_referent called_variables (referent_value (preference_with F (preference_of w.kind w.referent)))) i) [
        | inl j ↦ within_one w.attr bound here.1 v j
        | inr j ↦ absurd (subst (λ l. IsIn v l) (no_called w.kind w.referent) j)
      ]) in
      none_of (first_unknown linked (variables_of_atom (F (Const w.id)))) (first_unknown bound rest) (first_unbound bound linked (map act ws)) id attr
      (none_unbound ws bound linked (λ x i. h x (inr i)))
    where
      none_of : (a b c : Option ℕ) → a ≡ None → b ≡ None → c ≡ None → or_else (or_else a b) c ≡ None
      none_of a b c p q r = cc

  -- ---- calls

  calls_none : (r : Option Sym) → calls_in (value_with F (referent_symbol r)) ≡ 0
  calls_none (Some s) = refl
  calls_none None = refl

  no_calls : (k : PrefKind) (r : Option Sym) → calls_of_referent (referent_value (preference_with F (preference_of k r))) ≡ 0
  no_calls kind.Better r = calls_none r
  no_calls kind.Worse r = calls_none r
  no_calls kind.Numeric r = calls_none r
  no_calls kind.IndifferentTo r = calls_none r
  no_calls kind.Accept r = refl
  no_calls kind.Require r = refl
  no_calls kind.Reject r = refl
  no_calls kind.Prohibit r = refl
  no_calls kind.Best r = refl
  no_calls kind.Worst r = refl
  no_calls kind.Indifferent r = refl

  pub none_deep : (ws : List Wish) → list_any (λ a. nat_lt 8 (calls_of a)) (map act ws) ≡ false
  none_deep [] = refl
  none_deep (w ∷ ws) = ap (λ n. nat_lt 8 (max 0 (max 0 n)) || list_any (λ a. nat_lt 8 (calls_of a)) (map act ws)) (no_calls w.kind w.referent) ∙ none_deep ws

  -- ---- preferences

  ordinary : (k : PrefKind) (r : Option Sym) → is_ordinary_kind k ≡ true → is_ordinary_preference (preference_with F (preference_of k r)) ≡ true
  ordinary kind.Accept r h = refl
  ordinary kind.Reject r h = refl
  ordinary kind.Require r h = absurd (cc)
  ordinary kind.Prohibit r h = absurd (cc)
  ordinary kind.Better r h = absurd (cc)
  ordinary kind.Worse r h = absurd (cc)
  ordinary kind.Best r h = absurd (cc)
  ordinary kind.Worst r h = absurd (cc)
  ordinary kind.Indifferent r h = absurd (cc)
  ordinary kind.Numeric r h = absurd (cc)
  ordinary kind.IndifferentTo r h = absurd (cc)

  operator_attribute : (s : Sym) → symbol_eq s operator_word ≡ true → is_ordinary_attribute (atom_value (F (Const s))) ≡ false
  operator_attribute s h = ap (λ x. is_ordinary_attribute (atom_value (F (Const x)))) (symbol_same s operator_word h)

  not_bad : (goals : List Goal) (w : Wish) → judged goals w ≡ Ok w → is_bad (act w) ≡ false
  not_bad goals w h = go (symbol_eq w.attr operator_word) refl (is_goal goals w.id) (judged_parts goals w h).0
    where
      right : (a b : Bool) → b ≡ true → (a && not b) ≡ false
      right true b k = ap not k
      right false b k = refl

      plain : is_ordinary_kind w.kind ≡ true → is_bad (act w) ≡ false
      plain k = right (is_ordinary_attribute (atom_value (F (Const w.attr)))) (is_ordinary_preference (preference_with F (preference_of w.kind w.referent))) (ordinary w.kind w.referent k)

      go : (a : Bool) → symbol_eq w.attr operator_word ≡ a → (b : Bool) → cond (a && b) (fits_operator w) (is_ordinary_kind w.kind) ≡ true → is_bad (act w) ≡ false
      go true q b k = ap (λ x. x && not (is_ordinary_preference (preference_with F (preference_of w.kind w.referent)))) (operator_attribute w.attr q)
      go false q b k = plain k

  pub none_bad : (goals : List Goal) (ws : List Wish) → ((w : Wish) → IsIn w ws → judged goals w ≡ Ok w) → list_any is_bad (map act ws) ≡ false
  none_bad goals [] h = refl
  none_bad goals (w ∷ ws) h = ap (λ b. b || list_any is_bad (map act ws)) (not_bad goals w (h w (inl refl))) ∙ none_bad goals ws (λ x i. h x (inr i))
