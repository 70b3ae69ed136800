-- A record as its firings: what stands under a number, and one firing more.
use Rattle.std.proofs.Common.{◌≡◌, refl, sym, ◌∙◌, ap, subst, ℕ, nat_eq, Bool, true, false, ◌==◌, ◌≤◌, ◌<◌, nat_lt, cond, arith, List, [], ◌∷◌, ◌++◌, Option, Some, None}
use Rattle.std.proofs.Math.Dec.{eqb→eq}
use Rattle.std.specs.Bool.{passes}
use Rattle.std.specs.List.{slice_get}
use Rattle.std.specs.Map.{lookup}
use Rattle.std.specs.Option.{option_map}
use Rattle.defs_soar.specs.declared.firing.Firing.{Firing}
use Rattle.defs_soar.specs.Explanation.{firing_of}
use Rattle.defs_soar.specs.History.{FiringOf, firing_seen}
use Rattle.defs_soar.specs.Standing.{AreFrom}
use Rattle.soar_record.specs.Recorded.{recorded, firings_in, HaveOwnNumbers, IsNumbered}

-- more than a bound that is itself no less than another
pub above : (least bound n : ℕ) → least ≤ bound → nat_lt bound n ≡ true → least < n
above least bound n low h = grind arith

-- what is looked up under a number is the first firing of that number
pub found : (n : ℕ) (entries : List (ℕ × Firing)) → HaveOwnNumbers entries → option_map firing_seen (lookup (nat_eq n) entries) ≡ slice_get (firing_of (recorded (firings_in entries)) n) 0
found n [] h = refl
found n (e ∷ entries) h = go (nat_eq n e.0) refl (e.1.number == n) refl (found n entries h.1)
  where
    rest : List FiringOf
    rest = firing_of (recorded (firings_in entries)) n

    go : (a : Bool) → nat_eq n e.0 ≡ a → (b : Bool) → (e.1.number == n) ≡ b → option_map firing_seen (lookup (nat_eq n) entries) ≡ slice_get (firing_of (recorded (firings_in entries)) n) 0
        → option_map firing_seen (cond a (Some e.1) (lookup (nat_eq n) entries)) ≡ slice_get (cond b (firing_seen e.1 ∷ firing_of (recorded (firings_in entries)) n) (firing_of (recorded (firings_in entries)) n)) 0
    go true p true q later = refl
    go false p false q later = later
    go true p false q later = let own : e.0 ≡ e.1.number = h.0 in absurd (grind arith)
    go false p true q later = let own : e.0 ≡ e.1.number = h.0 in absurd (grind arith)

-- under a number that no firing has, nothing stands
pub none_found : (n : ℕ) (entries : List (ℕ × Firing)) → HaveOwnNumbers entries → firing_of (recorded (firings_in entries)) n ≡ [] → lookup (nat_eq n) entries ≡ None
none_found n entries h none = go (lookup (nat_eq n) entries) (found n entries h ∙ ap (λ fs. slice_get fs 0) none)
  where
    go : (o : Option Firing) → option_map firing_seen o ≡ None → o ≡ None
    go None e = refl
    go (Some f) e = absurd (cc)

-- ---- one firing more

pub firings_more : (entries more : List (ℕ × Firing)) → firings_in (entries ++ more) ≡ firings_in entries ++ firings_in more
firings_more [] more = refl
firings_more (e ∷ entries) more = ap (λ fs. e.1 ∷ fs) (firings_more entries more)

pub recorded_more : (fs gs : List Firing) → recorded (fs ++ gs) ≡ recorded fs ++ recorded gs
recorded_more [] gs = refl
recorded_more (f ∷ fs) gs = ap (λ l. firing_seen f ∷ l) (recorded_more fs gs)

own_more : (entries : List (ℕ × Firing)) (f : Firing) → HaveOwnNumbers entries → HaveOwnNumbers (entries ++ (f.number, f) ∷ [])
own_more [] f h = (refl, tt)
own_more (e ∷ entries) f h = (h.0, own_more entries f h.1)

firing_of_more : (fs gs : List FiringOf) (n : ℕ) → firing_of (fs ++ gs) n ≡ firing_of fs n ++ firing_of gs n
firing_of_more [] gs n = refl
firing_of_more (f ∷ fs) gs n = go (f.number == n) (firing_of_more fs gs n)
  where
    go : (b : Bool) → firing_of (fs ++ gs) n ≡ firing_of fs n ++ firing_of gs n → cond b (f ∷ firing_of (fs ++ gs) n) (firing_of (fs ++ gs) n) ≡ cond b (f ∷ firing_of fs n) (firing_of fs n) ++ firing_of gs n
    go true later = ap (λ l. f ∷ l) later
    go false later = later

-- a firing that has a number of its own joins those that stand once
module _ (history : List FiringOf) (f : FiringOf) (new : firing_of history f.number ≡ []) where
  same_number : (m n : ℕ) → (m == n) ≡ true → m ≡ n
  same_number m n e = eqb→eq m n (passes (m == n) e)

  found_itself : firing_of (history ++ f ∷ []) f.number ≡ f ∷ []
  found_itself = firing_of_more history (f ∷ []) f.number ∙ ap (λ l. l ++ firing_of (f ∷ []) f.number) new ∙ go (f.number == f.number) refl
    where
      go : (b : Bool) → (f.number == f.number) ≡ b → cond b (f ∷ []) [] ≡ f ∷ []
      go true q = refl
      go false q = absurd (grind arith)

  found_other : (g : FiringOf) → firing_of history g.number ≡ g ∷ [] → firing_of (history ++ f ∷ []) g.number ≡ g ∷ []
  found_other g h = firing_of_more history (f ∷ []) g.number ∙ ap (λ l. l ++ firing_of (f ∷ []) g.number) h ∙ go (f.number == g.number) refl
    where
      go : (b : Bool) → (f.number == g.number) ≡ b → (g ∷ []) ++ cond b (f ∷ []) [] ≡ g ∷ []
      go false q = refl
      go true q = let none : g ∷ [] ≡ [] = sym h ∙ ap (firing_of history) (sym (same_number f.number g.number q)) ∙ new in absurd (cc)

  pub all_found : (kept : List FiringOf) → AreFrom history kept → AreFrom (history ++ f ∷ []) (kept ++ f ∷ [])
  all_found [] h = (found_itself, tt)
  all_found (g ∷ kept) h = (found_other g h.0, all_found kept h.1)

pub one_more : (entries : List (ℕ × Firing)) (f : Firing) → IsNumbered entries → firing_of (recorded (firings_in entries)) f.number ≡ [] → IsNumbered (entries ++ (f.number, f) ∷ [])
one_more entries f h new = record {
  own_numbers = own_more entries f h.own_numbers;
  once = subst (λ (l : List FiringOf). AreFrom l l) (sym same) (all_found before (firing_seen f) new before h.once);
}
  where
    before : List FiringOf
    before = recorded (firings_in entries)

    same : recorded (firings_in (entries ++ (f.number, f) ∷ [])) ≡ recorded (firings_in entries) ++ firing_seen f ∷ []
    same = ap recorded (firings_more entries ((f.number, f) ∷ [])) ∙ recorded_more (firings_in entries) (f ∷ [])
