-- What is forgotten first covers what lost its link, and the goals that come, go or move.
use Rattle.std.proofs.Common.{◌≡◌, ℕ, suc, ◌==◌, ◌&&◌, ◌||◌, not, Bool, true, false, cond, List, [], ◌∷◌, ◌++◌, map, filter, Option, Some, None, option_map, refl, sym, ap, ◌∙◌, ◌⊎◌, inl, inr, arith}
use Rattle.std.proofs.lemmas.List.Folds.{list_any-append}
use Rattle.soar_sym.specs.Equality.{symbol_eq}
use Rattle.soar_sym.specs.declared.symbol.Sym.{Sym}
use Rattle.soar_sym.specs.declared.symbol.Triple.{Triple}
use Rattle.defs_soar.specs.Levels.{first_place}
use Rattle.defs_soar.specs.Sorted.{has_symbol}
use Rattle.level_laws.specs.Labels.{leads, has_edge, Labels}
use Rattle.level_laws.proofs.SymbolLemmas.{symbol_same, symbol_self}
use Rattle.level_laws.proofs.ReachedLemmas.{or_first, or_second, and_both, leads_parts}
use Rattle.level_laws.proofs.LabelLemmas.{at_place}
use Rattle.level_change.specs.Forgetting.{StaysGoal, has_level}
use Rattle.level_change.specs.declared.store.Store.{Store}
use Rattle.level_change.specs.Links.{is_linked}
use Rattle.level_change.specs.Seeds.{at_level, is_cut, place_of, same_place, has_other_place, seeds_in}

kept_in : (p : Sym → Bool) (xs : List Sym) (s : Sym) → has_symbol xs s ≡ true → p s ≡ true → has_symbol (filter p xs) s ≡ true
kept_in p [] s h k = cc
kept_in p (x ∷ xs) s h k = by (symbol_eq s x) refl (p x) refl h (λ g. kept_in p xs s g k)
  where
    by : (b : Bool) → symbol_eq s x ≡ b → (c : Bool) → p x ≡ c → (b || has_symbol xs s) ≡ true → (has_symbol xs s ≡ true → has_symbol (filter p xs) s ≡ true) → has_symbol (cond c (x ∷ filter p xs) (filter p xs)) s ≡ true
    by true e true f g rest = or_first (symbol_eq s x) (has_symbol (filter p xs) s) e
    by true e false f g rest = absurd (let c : true ≡ false = sym k ∙ ap p (symbol_same s x e) ∙ f in cc)
    by false e true f g rest = or_second (symbol_eq s x) (has_symbol (filter p xs) s) (rest g)
    by false e false f g rest = rest g

in_first : (xs ys : List Sym) (s : Sym) → has_symbol xs s ≡ true → has_symbol (xs ++ ys) s ≡ true
in_first xs ys s h = list_any-append (symbol_eq s) xs ys ∙ or_first (has_symbol xs s) (has_symbol ys s) h

in_second : (xs ys : List Sym) (s : Sym) → has_symbol ys s ≡ true → has_symbol (xs ++ ys) s ≡ true
in_second xs ys s h = list_any-append (symbol_eq s) xs ys ∙ or_second (has_symbol xs s) (has_symbol ys s) h

level_self : (n : ℕ) → (n == n) ≡ true
level_self n = grind arith

is_cut_off : (told : Labels) (links : Store) (goals : List Sym) (t : Triple) (n : ℕ) → is_linked links t.id t.value ≡ false → has_symbol goals t.value ≡ false → told t.id ≡ Some n → told t.value ≡ Some n → is_cut told links goals t ≡ true
is_cut_off told links goals t n none ng at_id at_value =
    and_both (not (is_linked links t.id t.value)) (not (has_symbol goals t.value) && at_level (told t.id) (told t.value)) (ap not none)
    (and_both (not (has_symbol goals t.value)) (at_level (told t.id) (told t.value)) (ap not ng) (ap (λ o. at_level o (told t.value)) at_id ∙ ap (λ o. has_level o n) at_value ∙ level_self n))

cut_has : (told : Labels) (links : Store) (goals : List Sym) (gone : List Triple) (a b : Sym) (n : ℕ) → has_edge gone a b ≡ true → is_linked links a b ≡ false → has_symbol goals b ≡ false → told a ≡ Some n → told b ≡ Some n
    → has_symbol (map (λ t. t.value) (filter (is_cut told links goals) gone)) b ≡ true
cut_has told links goals [] a b n edge none ng at_a at_b = cc
cut_has told links goals (t ∷ gone) a b n edge none ng at_a at_b =
    by (leads a b t) refl (is_cut told links goals t) refl edge (λ e. cut_has told links goals gone a b n e none ng at_a at_b)
  where
    rest_of : List Sym
    rest_of = map (λ t. t.value) (filter (is_cut told links goals) gone)

    cut : leads a b t ≡ true → is_cut told links goals t ≡ true
    cut e =
        let p = leads_parts a b t e in
        is_cut_off told links goals t n (ap (λ z. is_linked links z t.value) (sym p.0) ∙ ap (is_linked links a) (sym p.1) ∙ none) (ap (has_symbol goals) (sym p.1) ∙ ng) (ap told (sym p.0) ∙ at_a) (ap told (sym p.1) ∙ at_b)

    by : (l : Bool) → leads a b t ≡ l → (c : Bool) → is_cut told links goals t ≡ c → (l || has_edge gone a b) ≡ true → (has_edge gone a b ≡ true → has_symbol rest_of b ≡ true)
        → has_symbol (map (λ t. t.value) (cond c (t ∷ filter (is_cut told links goals) gone) (filter (is_cut told links goals) gone))) b ≡ true
    by true e true f g rest = or_first (symbol_eq b t.value) (has_symbol rest_of b) (symbol_is b t.value (leads_parts a b t e).1)
      where
        symbol_is : (x y : Sym) → x ≡ y → symbol_eq x y ≡ true
        symbol_is x y e = ap (symbol_eq x) (sym e) ∙ symbol_self x
    by true e false f g rest = absurd (let c : true ≡ false = sym (cut e) ∙ f in cc)
    by false e true f g rest = or_second (symbol_eq b t.value) (has_symbol rest_of b) (rest g)
    by false e false f g rest = rest g

-- what lost the link that gave its level
pub seeds_cut : (told : Labels) (links : Store) (old : List Sym) (gone : List Triple) (new : List Sym) (a b : Sym) (n : ℕ) → has_edge gone a b ≡ true → is_linked links a b ≡ false → has_symbol old b ≡ false → told a ≡ Some n → told b ≡ Some n
    → has_symbol (seeds_in told links old gone new) b ≡ true
seeds_cut told links old gone new a b n edge none ng at_a at_b =
    in_first (map (λ t. t.value) (filter (is_cut told links old) gone)) (filter (has_other_place old new) old ++ filter (has_other_place old new) new) b (cut_has told links old gone a b n edge none ng at_a at_b)

-- ---- goals

one_up : (s : Sym) (n : ℕ) (xs : List Sym) → first_place (symbol_eq s) (suc n) xs ≡ option_map suc (first_place (symbol_eq s) n xs)
one_up s n [] = refl
one_up s n (x ∷ xs) = by (symbol_eq s x) (one_up s (suc n) xs)
  where
    by : (b : Bool) → first_place (symbol_eq s) (suc (suc n)) xs ≡ option_map suc (first_place (symbol_eq s) (suc n) xs)
        → cond b (Some (suc n)) (first_place (symbol_eq s) (suc (suc n)) xs) ≡ option_map suc (cond b (Some n) (first_place (symbol_eq s) (suc n) xs))
    by true h = refl
    by false h = h

nat_same : (m n : ℕ) → (m == n) ≡ true → Some m ≡ Some n
nat_same m n h = grind arith

place_same : (x y : Option ℕ) → same_place x y ≡ true → x ≡ y
place_same None None h = refl
place_same None (Some n) h = cc
place_same (Some m) None h = cc
place_same (Some m) (Some n) h = nat_same m n h

stays : (old new : List Sym) (s : Sym) → has_other_place old new s ≡ false → StaysGoal old new s
stays old new s h = one_up s 0 new ∙ ap (option_map suc) (sym (place_same (place_of old s) (place_of new s) (not_not (same_place (place_of old s) (place_of new s)) h))) ∙ sym (one_up s 0 old)
  where
    not_not : (b : Bool) → not b ≡ false → b ≡ true
    not_not true h = refl
    not_not false h = cc

placed : (old new : List Sym) (s : Sym) (x y : Option ℕ) → place_of old s ≡ x → place_of new s ≡ y → not (same_place x y) ≡ true → (has_symbol old s ≡ true) ⊎ (has_symbol new s ≡ true)
placed old new s None None e f h = cc
placed old new s None (Some n) e f h = inr (at_place s 0 n new f)
placed old new s (Some m) y e f h = inl (at_place s 0 m old e)

-- a goal that comes, goes or moves, or stays where it is
pub seeds_goal : (told : Labels) (links : Store) (old : List Sym) (gone : List Triple) (new : List Sym) (s : Sym) → StaysGoal old new s ⊎ (has_symbol (seeds_in told links old gone new) s ≡ true)
seeds_goal told links old gone new s = by (has_other_place old new s) refl
  where
    cut : List Sym
    cut = map (λ t. t.value) (filter (is_cut told links old) gone)

    by : (b : Bool) → has_other_place old new s ≡ b → StaysGoal old new s ⊎ (has_symbol (seeds_in told links old gone new) s ≡ true)
    by false e = inl (stays old new s e)
    by true e =
        inr (in_second cut (filter (has_other_place old new) old ++ filter (has_other_place old new) new) s (elim (placed old new s (place_of old s) (place_of new s) refl refl e) [
          | inl h ↦ in_first (filter (has_other_place old new) old) (filter (has_other_place old new) new) s (kept_in (has_other_place old new) old s h e)
          | inr h ↦ in_second (filter (has_other_place old new) old) (filter (has_other_place old new) new) s (kept_in (has_other_place old new) new s h e)
        ]))
