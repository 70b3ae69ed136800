-- A field of a learned rule's condition passes on the symbol of its ground, and binds what it holds.
use Rattle.std.proofs.Common.{◌≡◌, refl, sym, ◌∙◌, ap, subst, Bool, true, false, ◌||◌, ◌==◌, cond, inl, inr, arith, List, [], ◌∷◌, ◌++◌, map, Some, None, option_and_then}
use Rattle.soar_sym.specs.Equality.{symbol_eq}
use Rattle.soar_sym.specs.declared.symbol.Sym.{Sym}
use Rattle.soar_rule.specs.declared.cond.Atom.TheVariants.{Const}
use Rattle.soar_rule.specs.declared.cond.Test.{Test}
use Rattle.soar_rule.specs.declared.cond.Test.TheVariants.{Plain, Rel}
use Rattle.soar_rule.specs.Renaming.{test_with}
use Rattle.defs_match.specs.Testing.{Bindings, symbol_of, bind, after_plain, symbol_at, stands, stands_to, others_pass, passes}
use Rattle.defs_soar.specs.Candidate.{with_variables}
use Rattle.defs_soar.specs.CarriedTests.{Placed}
use Rattle.defs_soar.specs.ConditionOrder.{with_place}
use Rattle.defs_soar.specs.Laws.{IsIn}
use Rattle.defs_soar.specs.Variablized.{Variablized, of_identifier}
use Rattle.defs_soar.specs.Sorted.{has_symbol}
use Rattle.defs_soar.specs.Values.{is_identifier}
use Rattle.learning_laws.proofs.Lists.{any_in, and_true, same_itself, symbol_same}
use Rattle.learning_laws.proofs.Moving.{first_plain, plain_step}
use Rattle.learning_laws.proofs.SlotLaws.{number_of, number_apart, as_identifier, as_constant}

-- the variables of identifiers, with these
abbrev pub bindings_for : List Variablized → List Sym → Bindings
bindings_for variablized [] = []
bindings_for variablized (s ∷ symbols) = (number_of variablized s, s) ∷ bindings_for variablized symbols

pub bindings_push : (variablized : List Variablized) (symbols : List Sym) (s : Sym) → bindings_for variablized (symbols ++ s ∷ []) ≡ bindings_for variablized symbols ++ (number_of variablized s, s) ∷ []
bindings_push variablized [] s = refl
bindings_push variablized (t ∷ symbols) s = ap (λ l. (number_of variablized t, t) ∷ l) (bindings_push variablized symbols s)

abbrev pub HaveSlots : List Variablized → List Sym → Type 0
HaveSlots variablized symbols = (s : Sym) → IsIn s symbols → IsIn (of_identifier s) variablized

-- what the variable of an identifier stands for
pub symbol_for : (variablized : List Variablized) (symbols : List Sym) (s : Sym) → HaveSlots variablized symbols → IsIn (of_identifier s) variablized
    → symbol_of (number_of variablized s) (bindings_for variablized symbols) ≡ cond (has_symbol symbols s) (Some s) None
symbol_for variablized [] s h i = refl
symbol_for variablized (t ∷ symbols) s h i = go (number_of variablized t == number_of variablized s) (symbol_eq s t) refl refl (symbol_for variablized symbols s (λ x j. h x (inr j)) i)
  where
    go : (a b : Bool) → (number_of variablized t == number_of variablized s) ≡ a → symbol_eq s t ≡ b
        → symbol_of (number_of variablized s) (bindings_for variablized symbols) ≡ cond (has_symbol symbols s) (Some s) None
        → cond a (Some t) (symbol_of (number_of variablized s) (bindings_for variablized symbols)) ≡ cond (b || has_symbol symbols s) (Some s) None
    go true true p q later = ap Some (sym (symbol_same s t q))
    go true false p q later =
        let same : t ≡ s = number_apart variablized t s (h t (inl refl)) i (grind arith) in
        let k : symbol_eq s t ≡ true = ap (symbol_eq s) same ∙ same_itself s in absurd (cc)
    go false true p q later =
        let same : s ≡ t = symbol_same s t q in
        let k : (number_of variablized t == number_of variablized s) ≡ true = subst (λ x. (number_of variablized t == number_of variablized x) ≡ true) (sym same) (grind arith) in absurd (cc)
    go false false p q later = later

pub known_for : (variablized : List Variablized) (symbols : List Sym) (s : Sym) → HaveSlots variablized symbols → IsIn s symbols
    → symbol_of (number_of variablized s) (bindings_for variablized symbols) ≡ Some s
known_for variablized symbols s h i = symbol_for variablized symbols s h (h s i) ∙ ap (λ b. cond b (Some s) None) (any_in (symbol_eq s) s symbols i (same_itself s))

-- ---- the plain test

-- a ground's symbol binds its variable where it has one
pub plain_binds : (variablized : List Variablized) (symbols : List Sym) (s : Sym) → HaveSlots variablized symbols → (is_identifier s ≡ true → IsIn (of_identifier s) variablized)
    → plain_step (with_variables true variablized (Const s)) s (bindings_for variablized symbols) ≡ Some (bindings_for variablized (with_place symbols s))
plain_binds variablized symbols s h i = go (is_identifier s) refl
  where
    at_variable : (b : Bool) → has_symbol symbols s ≡ b → symbol_of (number_of variablized s) (bindings_for variablized symbols) ≡ cond b (Some s) None
        → bind (number_of variablized s) s (bindings_for variablized symbols) (symbol_of (number_of variablized s) (bindings_for variablized symbols)) ≡ Some (bindings_for variablized (cond b symbols (symbols ++ s ∷ [])))
    at_variable true q k = ap (bind (number_of variablized s) s (bindings_for variablized symbols)) k ∙ ap (λ b. cond b (Some (bindings_for variablized symbols)) None) (same_itself s)
    at_variable false q k = ap (bind (number_of variablized s) s (bindings_for variablized symbols)) k ∙ ap Some (sym (bindings_push variablized symbols s))

    go : (b : Bool) → is_identifier s ≡ b
        → plain_step (with_variables true variablized (Const s)) s (bindings_for variablized symbols) ≡ Some (bindings_for variablized (cond b (cond (has_symbol symbols s) symbols (symbols ++ s ∷ [])) symbols))
    go true q =
        ap (λ a. plain_step a s (bindings_for variablized symbols)) (as_identifier variablized s q)
        ∙ at_variable (has_symbol symbols s) refl (symbol_for variablized symbols s h (i q))
    go false q =
        ap (λ a. plain_step a s (bindings_for variablized symbols)) (as_constant variablized s q) ∙ ap (λ b. cond b (Some (bindings_for variablized symbols)) None) (same_itself s)

-- ---- the tests that are carried there

-- it holds between the symbol of the field and its right side, which has its variable by then
pub record Holds (symbols : List Sym) (s : Sym) (p : Placed) : Type 0 where
  pub stands : stands p.relation s p.right ≡ true
  pub bound : is_identifier p.right ≡ true → IsIn p.right symbols

abbrev pub as_test : Placed → Test
as_test p = Rel p.relation (Const p.right)

abbrev pub AllHold : List Sym → Sym → List Placed → Type 0
AllHold symbols s placed = (p : Placed) → IsIn p placed → Holds symbols s p

module _ (variablized : List Variablized) (symbols : List Sym) (s : Sym) (h : HaveSlots variablized symbols) where
  right_is : (t : Sym) → (is_identifier t ≡ true → IsIn t symbols) → symbol_at (with_variables true variablized (Const t)) (bindings_for variablized symbols) ≡ Some t
  right_is t i = go (is_identifier t) refl
    where
      go : (b : Bool) → is_identifier t ≡ b → symbol_at (with_variables true variablized (Const t)) (bindings_for variablized symbols) ≡ Some t
      go true q = ap (λ a. symbol_at a (bindings_for variablized symbols)) (as_identifier variablized t q) ∙ known_for variablized symbols t h (i q)
      go false q = ap (λ a. symbol_at a (bindings_for variablized symbols)) (as_constant variablized t q)

  no_plain : (placed : List Placed) (bs : Bindings) → after_plain (map (test_with (with_variables true variablized)) (map as_test placed)) s bs ≡ Some bs
  no_plain [] bs = refl
  no_plain (p ∷ placed) bs = no_plain placed bs

  tests_hold : (placed : List Placed) → AllHold symbols s placed → others_pass (map (test_with (with_variables true variablized)) (map as_test placed)) s (bindings_for variablized symbols) ≡ true
  tests_hold [] k = refl
  tests_hold (p ∷ placed) k =
      let holds = k p (inl refl) in
      and_true (stands_to p.relation s (symbol_at (with_variables true variablized (Const p.right)) (bindings_for variablized symbols)))
      (others_pass (map (test_with (with_variables true variablized)) (map as_test placed)) s (bindings_for variablized symbols))
      (ap (stands_to p.relation s) (right_is p.right holds.bound) ∙ holds.stands)
      (tests_hold placed (λ q j. k q (inr j)))

-- the whole field
pub field_passes : (variablized : List Variablized) (symbols : List Sym) (s : Sym) (placed : List Placed) → HaveSlots variablized symbols → HaveSlots variablized (with_place symbols s)
    → (is_identifier s ≡ true → IsIn (of_identifier s) variablized) → AllHold (with_place symbols s) s placed
    → passes (map (test_with (with_variables true variablized)) (Plain (Const s) ∷ map as_test placed)) s (bindings_for variablized symbols) ≡ Some (bindings_for variablized (with_place symbols s))
field_passes variablized symbols s placed h k i holds =
    let tests : List Test = map (test_with (with_variables true variablized)) (map as_test placed) in
    let a = with_variables true variablized (Const s) in
    ap (option_and_then (λ after. cond (others_pass tests s after) (Some after) None))
    (first_plain a tests s (bindings_for variablized symbols) ∙ ap (option_and_then (after_plain tests s)) (plain_binds variablized symbols s h i)
    ∙ no_plain variablized (with_place symbols s) s k placed (bindings_for variablized (with_place symbols s)))
    ∙ ap (λ b. cond b (Some (bindings_for variablized (with_place symbols s))) None) (tests_hold variablized (with_place symbols s) s k placed holds)
