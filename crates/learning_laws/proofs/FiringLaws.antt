-- The firing of an instance is recorded lawfully.
use Rattle.std.proofs.Common.{◌≡◌, refl, sym, ◌∙◌, ap, subst, ℕ, zero, suc, ◌≤◌, ◌<◌, Bool, true, false, ◌==◌, cond, inl, inr, ◌⊎◌, arith, List, [], ◌∷◌, ◌++◌, length, map, flat_map, Option, Some, None}
use Rattle.std.specs.Ordering.{is_lt}
use Rattle.soar_sym.specs.Equality.{symbol_eq}
use Rattle.soar_sym.specs.Letters.{last_of}
use Rattle.soar_sym.specs.Order.{symbol_cmp}
use Rattle.soar_sym.specs.Words.{IsKnown, Texts}
use Rattle.soar_sym.specs.declared.symbol.Sym.{Sym}
use Rattle.soar_sym.specs.declared.symbol.Sym.TheVariants.{Ident, Word, Int}
use Rattle.soar_rule.specs.Symbols.{constants_of, constants_of_action, constants_of_conditions}
use Rattle.soar_rule.specs.Variables.{bound_variables}
use Rattle.defs_match.specs.Conflict.{bindings_of, paired}
use Rattle.defs_match.specs.Rules.{RuleOf}
use Rattle.defs_match.specs.Testing.{symbol_of}
use Rattle.defs_match.specs.declared.instance.Instance.{Instance}
use Rattle.defs_soar.specs.declared.goal.Goal.{Goal}
use Rattle.defs_soar.specs.declared.preference.Wish.{Wish}
use Rattle.defs_soar.specs.Dependencies.{is_new_in}
use Rattle.defs_soar.specs.Firing.{made_by, MadeSoFar}
use Rattle.defs_soar.specs.Goals.{goal_ids, is_goal}
use Rattle.defs_soar.specs.Laws.{IsIn}
use Rattle.defs_soar.specs.Naming.{name_at, Naming}
use Rattle.defs_soar.specs.WaveFirings.{made_in}
use Rattle.defs_soar.specs.Pending.{depth_of, firable_of}
use Rattle.defs_soar.specs.Sorted.{has_symbol, with_symbol}
use Rattle.defs_soar.specs.WaveAtHand.{goals_among}
use Rattle.learning_laws.specs.Replay.{AreAlike, as_goal, HasLetterOf, referent_with, wish_with}
use Rattle.learning_laws.specs.Waves.{firing_at, FiringsAreLawful}
use Rattle.learning_laws.proofs.GoalsLaws.{Agree, AgreesOn, made_alike}
use Rattle.learning_laws.proofs.GrowthLaws.{made_later}
use Rattle.learning_laws.proofs.TableGrowth.{grown_twice, HasWord}
use Rattle.learning_laws.proofs.GroundedLaws.{has_in, with_symbol_of}
use Rattle.learning_laws.proofs.InstanceLaws.{recorded_passes}
use Rattle.learning_laws.proofs.Lists.{any_in, in_left, in_right, same_itself, symbol_same}

-- ---- the goals that a firing records

same_ids : (symbols : List Sym) → goal_ids (map as_goal symbols) ≡ symbols
same_ids [] = refl
same_ids (s ∷ symbols) = ap (λ l. s ∷ l) (same_ids symbols)

with_this : (words : Texts) (symbols : List Sym) (s : Sym) → IsIn s (with_symbol words symbols s)
with_this words [] s = inl refl
with_this words (t ∷ symbols) s = go (symbol_eq s t) refl (is_lt (symbol_cmp words s t)) (with_this words symbols s)
  where
    go : (a : Bool) → symbol_eq s t ≡ a → (b : Bool) → IsIn s (with_symbol words symbols s) → IsIn s (cond a (t ∷ symbols) (cond b (s ∷ t ∷ symbols) (t ∷ with_symbol words symbols s)))
    go true q b later = inl (sym (symbol_same s t q))
    go false q true later = inl refl
    go false q false later = inr later

with_others : (words : Texts) (symbols : List Sym) (s u : Sym) → IsIn u symbols → IsIn u (with_symbol words symbols s)
with_others words [] s u i = absurd i
with_others words (t ∷ symbols) s u i = go (symbol_eq s t) (is_lt (symbol_cmp words s t)) i (with_others words symbols s u)
  where
    go : (a b : Bool) → (t ≡ u) ⊎ IsIn u symbols → (IsIn u symbols → IsIn u (with_symbol words symbols s)) → IsIn u (cond a (t ∷ symbols) (cond b (s ∷ t ∷ symbols) (t ∷ with_symbol words symbols s)))
    go true b j later = j
    go false true j later = inr j
    go false false (inl e) later = inl e
    go false false (inr j) later = inr (later j)

among_goals : (words : Texts) (goals : List Goal) (symbols : List Sym) (u : Sym) → IsIn u (goals_among words goals symbols) → is_goal goals u ≡ true
among_goals words goals [] u i = absurd i
among_goals words goals (s ∷ symbols) u i = go (has_symbol (goal_ids goals) s) refl i (among_goals words goals symbols u)
  where
    go : (b : Bool) → has_symbol (goal_ids goals) s ≡ b → IsIn u (cond b (with_symbol words (goals_among words goals symbols) s) (goals_among words goals symbols))
        → (IsIn u (goals_among words goals symbols) → is_goal goals u ≡ true) → is_goal goals u ≡ true
    go true q j later = elim (with_symbol_of words (goals_among words goals symbols) s u j) [ inl e ↦ ap (is_goal goals) (sym e) ∙ q | inr k ↦ later k ]
    go false q j later = later j

goals_in : (words : Texts) (goals : List Goal) (symbols : List Sym) (u : Sym) → IsIn u symbols → is_goal goals u ≡ true → IsIn u (goals_among words goals symbols)
goals_in words goals [] u i h = absurd i
goals_in words goals (s ∷ symbols) u i h = go (has_symbol (goal_ids goals) s) refl i (goals_in words goals symbols u)
  where
    go : (b : Bool) → has_symbol (goal_ids goals) s ≡ b → (s ≡ u) ⊎ IsIn u symbols → (IsIn u symbols → is_goal goals u ≡ true → IsIn u (goals_among words goals symbols))
        → IsIn u (cond b (with_symbol words (goals_among words goals symbols) s) (goals_among words goals symbols))
    go true q (inl e) later = subst (λ x. IsIn x (with_symbol words (goals_among words goals symbols) s)) e (with_this words (goals_among words goals symbols) s)
    go true q (inr j) later = with_others words (goals_among words goals symbols) s u (later j h)
    go false q (inl e) later = let k = sym q ∙ ap (is_goal goals) e ∙ h in absurd (cc)
    go false q (inr j) later = later j h

-- it is a recorded goal exactly where it is a goal
record_agrees : (words : Texts) (goals : List Goal) (symbols : List Sym) (u : Sym) → (is_goal goals u ≡ true → IsIn u symbols) → Agree (map as_goal (goals_among words goals symbols)) goals u
record_agrees words goals symbols u h =
    ap (λ l. has_symbol l u) (same_ids (goals_among words goals symbols)) ∙ go (has_symbol (goals_among words goals symbols) u) refl (is_goal goals u) refl
  where
    go : (a : Bool) → has_symbol (goals_among words goals symbols) u ≡ a → (b : Bool) → is_goal goals u ≡ b → a ≡ b
    go true q true r = refl
    go true q false r = let k = sym r ∙ among_goals words goals symbols u (has_in (goals_among words goals symbols) u q) in absurd (cc)
    go false q true r = let k = sym q ∙ any_in (symbol_eq u) u (goals_among words goals symbols) (goals_in words goals symbols u (h r) r) (same_itself u) in absurd (cc)
    go false q false r = refl

-- ---- wishes as they were

pub as_it_is : (s : Sym) → HasLetterOf s s
as_it_is (Ident l n) = (n, refl)
as_it_is (Word x) = refl
as_it_is (Int z) = refl

same_wishes : (wishes : List Wish) → wishes ≡ map (wish_with (λ s. s)) wishes
same_wishes [] = refl
same_wishes (x ∷ wishes) =
    let rest = same_wishes wishes in
    let referent = same_referent x.referent in λ i. record { id = x.id; attr = x.attr; value = x.value; kind = x.kind; referent = referent i } ∷ rest i
  where
    same_referent : (r : Option Sym) → r ≡ referent_with (λ s. s) r
    same_referent (Some s) = refl
    same_referent None = refl

pub alike_as_is : (free : Sym → Bool) (wishes others : List Wish) → others ≡ wishes → AreAlike free wishes others
alike_as_is free wishes others q = record { to = λ s. s; stays = λ s h. refl; letter = λ s h. as_it_is s; apart = λ s t i j e. e; same = q ∙ same_wishes wishes }

pub from_paired : (vs : List ℕ) (symbols : List Sym) (v : ℕ) (s : Sym) → symbol_of v (paired vs symbols) ≡ Some s → IsIn s symbols
from_paired [] symbols v s h = absurd (cc)
from_paired (u ∷ vs) [] v s h = absurd (cc)
from_paired (u ∷ vs) (t ∷ symbols) v s h = go (u == v) h (from_paired vs symbols v s)
  where
    go : (b : Bool) → cond b (Some t) (symbol_of v (paired vs symbols)) ≡ Some s → (symbol_of v (paired vs symbols) ≡ Some s → IsIn s symbols) → IsIn s (t ∷ symbols)
    go true k later = inl (cc)
    go false k later = inr (later k)

-- ---- firings

module _ (order : Texts) (goals : List Goal) (rule : RuleOf) (i : Instance) (words : Texts) (letters : List ℕ)
    (given : (l n : ℕ) → is_goal goals (Ident l n) ≡ true → n ≤ last_of letters l) (long : length letters ≡ 26) where
  abbrev symbols : List Sym
  symbols = i.binds ++ constants_of rule.production

  abbrev recorded : List Goal
  recorded = map as_goal (goals_among order goals symbols)

  abbrev pub start : Naming
  start = record { bindings = bindings_of rule.production i; words = words; letters = letters; vars = rule.production.vars; totals = [] }

  not_given : (l k : ℕ) → last_of letters l < k → is_goal goals (Ident l k) ≡ true → IsIn (Ident l k) symbols
  not_given l k less q = let few : k ≤ last_of letters l = given l k q in absurd (omega arith)

  start_agrees : AgreesOn recorded goals start
  start_agrees = record {
    bound = λ v s q. record_agrees order goals symbols s (λ g. in_left s i.binds (constants_of rule.production) (from_paired (bound_variables rule.production.conditions) i.binds v s q));
    new = λ l k less. record_agrees order goals symbols (Ident l k) (not_given l k less);
    long = long;
  }

  constants_agree : (t : Sym) → IsIn t (flat_map constants_of_action rule.production.actions) → Agree recorded goals t
  constants_agree t j =
      record_agrees order goals symbols t
      (λ g. in_right t i.binds (constants_of rule.production) (in_right t (constants_of_conditions rule.production.conditions) (flat_map constants_of_action rule.production.actions) j))

  -- a firing makes with the goals that it records what it makes with all
  pub recorded_alike : made_by recorded rule.production.actions start ≡ made_by goals rule.production.actions start
  recorded_alike = made_alike recorded goals rule.production.actions start start_agrees constants_agree

-- ---- words

pub has_word : (words : Texts) (s : Sym) → IsKnown words s → HasWord words s
has_word words (Word n) h = h
has_word words (Ident l n) h = tt
has_word words (Int z) h = tt

pub name_known : (words : Texts) (vars : List Sym) (v : ℕ) → 0 < length words → ((s : Sym) → IsIn s vars → IsKnown words s) → HasWord words (name_at vars v)
name_known words [] v some h = some
name_known words (x ∷ vars) zero some h = has_word words x (h x (inl refl))
name_known words (x ∷ vars) (suc v) some h = name_known words vars v some (λ s i. h s (inr i))

pub firings_are_lawful : FiringsAreLawful
firings_are_lawful m w rule i words h = record {
  passes = recorded_passes m.reach m.rows (depth_of m.reach.goals (firable_of m.elements rule i)) rule m.elements i h.matches h.tags h.named;
  makes = λ later g. record {
    letters = w.names.letters;
    alike = alike_as_is (is_new_in (firing_at m w rule i)) (firing_at m w rule i).made _
        (ap (λ (x : MadeSoFar). x.wishes) (recorded_alike w.names.words m.reach.goals rule i later w.names.letters h.goals h.long)
        ∙ made_later m.reach.goals rule.production.actions (bindings_of rule.production i) w.names.words later w.names.letters rule.production.vars
        (λ v. name_known w.names.words rule.production.vars v h.some_word h.vars_known)
        (λ v s q. has_word w.names.words s (h.binds_known s (from_paired (bound_variables rule.production.conditions) i.binds v s q)))
        (λ s j. has_word w.names.words s (h.constants_known s (in_right s (constants_of_conditions rule.production.conditions) (flat_map constants_of_action rule.production.actions) j)))
        (grown_twice (made_in w m (firable_of m.elements rule i)).naming.words words later h.table g));
  };
}
