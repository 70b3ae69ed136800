-- The steps of firings, with the selections that were told before.
use Rattle.std.proofs.Common.{◌≡◌, refl, sym, ◌∙◌, ap, ap₂, Bool, true, false, ◌==◌, ◌&&◌, ◌||◌, not, cond, List, [], ◌∷◌, ◌++◌, map, flat_map, filter, append_assoc, Result, Ok, Err}
use Rattle.std.specs.Result.{OnOk}
use Rattle.defs_soar.specs.Explanation.{as_select_step, firing_steps, is_naming_before, is_seen, naming_eq, namings_in_order, selection_of, TagNaming, with_naming}
use Rattle.defs_soar.specs.declared.chain.Step.{Step}
use Rattle.defs_soar.specs.declared.chain.Step.TheVariants as step
use Rattle.defs_soar.specs.declared.firing.Firing.{Firing}
use Rattle.defs_soar.specs.History.{fire_step, firing_seen, FiringOf, step_seen, StepOf}
use Rattle.chunk_back.specs.Parts.{with_namings}
use Rattle.chunk_back.specs.Steps.{new_selections, steps_of_firing}
use Rattle.chunk_back.proofs.Lists.{same_number}

both_true : (a b : Bool) → (a && b) ≡ true → (a ≡ true) × (b ≡ true)
both_true true true h = (refl, refl)
both_true true false h = absurd (cc)
both_true false b h = absurd (cc)

-- namings of the same tags are told apart from others alike
same_right : (a b n : TagNaming) → naming_eq a b ≡ true → naming_eq n a ≡ naming_eq n b
same_right a b n h =
    let k = both_true (a.element.tag == b.element.tag) (a.named == b.named) h in
    ap₂ (λ t m. (n.element.tag == t) && (n.named == m)) (same_number a.element.tag b.element.tag k.0) (same_number a.named b.named k.1)

same_left : (a b n : TagNaming) → naming_eq a b ≡ true → naming_eq a n ≡ naming_eq b n
same_left a b n h =
    let k = both_true (a.element.tag == b.element.tag) (a.named == b.named) h in
    ap₂ (λ t m. (t == n.element.tag) && (m == n.named)) (same_number a.element.tag b.element.tag k.0) (same_number a.named b.named k.1)

seen_alike : (seen : List TagNaming) (a b : TagNaming) → naming_eq a b ≡ true → is_seen seen a ≡ is_seen seen b
seen_alike [] a b h = refl
seen_alike (s ∷ seen) a b h = ap₂ (λ x y. x || y) (same_left a b s h) (seen_alike seen a b h)

-- ---- what is seen with more

twice : (x y : Bool) → (x || y) ≡ (x || (x || y))
twice true y = refl
twice false y = refl

turned : (x y z : Bool) → (x || (y || z)) ≡ (y || (x || z))
turned true true z = refl
turned true false z = refl
turned false true z = refl
turned false false z = refl

seen_with : (a : TagNaming) (seen : List TagNaming) (n : TagNaming) → is_seen (with_naming a seen) n ≡ (naming_eq n a || is_seen seen n)
seen_with a [] n = refl
seen_with a (b ∷ seen) n = go (naming_eq a b) refl (is_naming_before a b) (seen_with a seen n)
  where
    go : (x : Bool) → naming_eq a b ≡ x → (y : Bool) → is_seen (with_naming a seen) n ≡ (naming_eq n a || is_seen seen n)
        → is_seen (cond x (b ∷ seen) (cond y (a ∷ b ∷ seen) (b ∷ with_naming a seen))) n ≡ (naming_eq n a || (naming_eq n b || is_seen seen n))
    go true p y later = twice (naming_eq n b) (is_seen seen n) ∙ ap (λ x. x || (naming_eq n b || is_seen seen n)) (sym (same_right a b n p))
    go false p true later = refl
    go false p false later = ap (λ x. naming_eq n b || x) later ∙ turned (naming_eq n b) (naming_eq n a) (is_seen seen n)

or_assoc : (x y z : Bool) → (x || (y || z)) ≡ ((x || y) || z)
or_assoc true y z = refl
or_assoc false y z = refl

seen_with_all : (more seen : List TagNaming) (n : TagNaming) → is_seen (with_namings more seen) n ≡ (is_seen more n || is_seen seen n)
seen_with_all [] seen n = refl
seen_with_all (a ∷ more) seen n =
    seen_with a (with_namings more seen) n ∙ ap (λ x. naming_eq n a || x) (seen_with_all more seen n) ∙ or_assoc (naming_eq n a) (is_seen more n) (is_seen seen n)

seen_behind : (seen more : List TagNaming) (n : TagNaming) → is_seen (seen ++ more) n ≡ (is_seen seen n || is_seen more n)
seen_behind [] more n = refl
seen_behind (s ∷ seen) more n = ap (λ x. naming_eq n s || x) (seen_behind seen more n) ∙ or_assoc (naming_eq n s) (is_seen seen n) (is_seen more n)

-- with those that are new as many are seen as with all
new_are_enough : (seen more : List TagNaming) (n : TagNaming) → (is_seen seen n || is_seen (filter (λ m. not (is_seen seen m)) more) n) ≡ (is_seen seen n || is_seen more n)
new_are_enough seen [] n = refl
new_are_enough seen (m ∷ more) n = go (is_seen seen m) refl (naming_eq n m) refl (is_seen seen n) refl (new_are_enough seen more n)
  where
    rest : List TagNaming
    rest = filter (λ k. not (is_seen seen k)) more

    go : (x : Bool) → is_seen seen m ≡ x → (y : Bool) → naming_eq n m ≡ y → (z : Bool) → is_seen seen n ≡ z
        → (z || is_seen (filter (λ k. not (is_seen seen k)) more) n) ≡ (z || is_seen more n)
        → (z || is_seen (cond (not x) (m ∷ filter (λ k. not (is_seen seen k)) more) (filter (λ k. not (is_seen seen k)) more)) n) ≡ (z || (y || is_seen more n))
    go x p y q true r later = refl
    go true p true q false r later = let e : is_seen seen n ≡ is_seen seen m = seen_alike seen n m q in absurd (cc)
    go true p false q false r later = later
    go false p y q false r later = ap₂ (λ u v. u || v) q later

-- ---- the steps depend on what is seen alone

filter_same : (p q : TagNaming → Bool) → ((n : TagNaming) → p n ≡ q n) → (ns : List TagNaming) → filter p ns ≡ filter q ns
filter_same p q h [] = refl
filter_same p q h (n ∷ ns) = ap₂ (λ b l. cond b (n ∷ l) l) (h n) (filter_same p q h ns)

pub steps_same : (a b : List TagNaming) → ((n : TagNaming) → is_seen a n ≡ is_seen b n) → (fs : List FiringOf) → firing_steps a fs ≡ firing_steps b fs
steps_same a b h [] = refl
steps_same a b h (f ∷ fs) = ap₂ (λ (ns : List TagNaming) (steps : List StepOf). map as_select_step ns ++ (fire_step f ∷ steps)) same (steps_same (a ++ new_selections a f) (b ++ new_selections b f) more fs)
  where
    same : new_selections a f ≡ new_selections b f
    same = filter_same (λ n. not (is_seen a n)) (λ n. not (is_seen b n)) (λ n. ap not (h n)) (namings_in_order (flat_map selection_of f.used))

    more : (n : TagNaming) → is_seen (a ++ new_selections a f) n ≡ is_seen (b ++ new_selections b f) n
    more n = seen_behind a (new_selections a f) n ∙ ap₂ (λ x (ns : List TagNaming). x || is_seen ns n) (h n) same ∙ sym (seen_behind b (new_selections b f) n)

or_turned : (x y : Bool) → (x || y) ≡ (y || x)
or_turned true true = refl
or_turned true false = refl
or_turned false true = refl
or_turned false false = refl

-- the steps of a firing, and of others where its selections are seen
pub steps_then : (seen : List TagNaming) (f : FiringOf) (fs : List FiringOf)
    → firing_steps seen (f ∷ fs) ≡ (map as_select_step (new_selections seen f) ++ fire_step f ∷ []) ++ firing_steps (with_namings (namings_in_order (flat_map selection_of f.used)) seen) fs
steps_then seen f fs =
    ap (λ (steps : List StepOf). map as_select_step (new_selections seen f) ++ (fire_step f ∷ steps)) (steps_same (seen ++ new_selections seen f) (with_namings all seen) alike fs)
    ∙ sym (append_assoc (map as_select_step (new_selections seen f)) (fire_step f ∷ []) (firing_steps (with_namings all seen) fs))
  where
    all : List TagNaming
    all = namings_in_order (flat_map selection_of f.used)

    alike : (n : TagNaming) → is_seen (seen ++ new_selections seen f) n ≡ is_seen (with_namings (namings_in_order (flat_map selection_of f.used)) seen) n
    alike n = seen_behind seen (new_selections seen f) n ∙ new_are_enough seen all n ∙ or_turned (is_seen seen n) (is_seen all n) ∙ sym (seen_with_all all seen n)

-- ---- as the code adds them

steps_more : (steps : List Step) (s : Step) → map step_seen (steps ++ s ∷ []) ≡ map step_seen steps ++ step_seen s ∷ []
steps_more [] s = refl
steps_more (t ∷ steps) s = ap (λ (l : List StepOf). step_seen t ∷ l) (steps_more steps s)

pub firing_added : (old told new : List Step) (seen : List TagNaming) (f copy : Firing) → map step_seen told ≡ map step_seen old ++ map as_select_step (new_selections seen (firing_seen f)) → new ≡ told ++ step.Fire copy ∷ [] → copy ≡ f
    → map step_seen new ≡ map step_seen old ++ steps_of_firing seen (firing_seen f)
firing_added old told new seen f copy selections is same =
    ap (map step_seen) is ∙ steps_more told (step.Fire copy) ∙ ap₂ (λ (l : List StepOf) (g : Firing). l ++ fire_step (firing_seen g) ∷ []) selections same
    ∙ append_assoc (map step_seen old) (map as_select_step (new_selections seen (firing_seen f))) (fire_step (firing_seen f) ∷ [])

-- what a firing adds, with what others will add
pub then_others : (old new : List Step) (seen after : List TagNaming) (f : FiringOf) → map step_seen new ≡ map step_seen old ++ steps_of_firing seen f → after ≡ with_namings (namings_in_order (flat_map selection_of f.used)) seen
    → (others : List FiringOf) → map step_seen new ++ firing_steps after others ≡ map step_seen old ++ firing_steps seen (f ∷ others)
then_others old new seen after f steps is others =
    ap₂ (λ (l : List StepOf) (ns : List TagNaming). l ++ firing_steps ns others) steps is
    ∙ append_assoc (map step_seen old) (steps_of_firing seen f) (firing_steps (with_namings (namings_in_order (flat_map selection_of f.used)) seen) others)
    ∙ ap (λ (l : List StepOf). map step_seen old ++ l) (sym (steps_then seen f others))

pub both_ok : {A E : Type 0} (r : Result A E) (P Q C : Type 0) → OnOk r P → OnOk r Q → (P → Q → C) → OnOk r C
both_ok (Ok a) P Q C p q h = h p q
both_ok (Err e) P Q C p q h = tt
