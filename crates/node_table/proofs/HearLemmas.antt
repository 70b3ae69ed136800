-- What a node hears of is enough.
use Rattle.std.proofs.Common.{◌≡◌, inl, inr, refl, sym, ap, subst, ◌∙◌, Bool, true, false, not, ◌||◌, cond, length, ℕ, List, [], ◌∷◌, map, filter, Option, Some, None, slice_index_or}
use Rattle.std.specs.Prelude.{IsTrue, option_and_then}
use Rattle.std.specs.Map.{lookup}
use Rattle.std.specs.Ordering.{nat_cmp, is_eq}
use Rattle.std.specs.Cmp.Lexicographic.{slice_cmp}
use Rattle.defs_match.specs.Laws.{IsIn}
use Rattle.defs_match.specs.Testing.{Bindings}
use Rattle.soar_rule.specs.declared.cond.Pattern.{Pattern}
use Rattle.soar_wm.specs.declared.element.Element.{Element}
use Rattle.rete_alpha.specs.Alphas.{AlphaOf, Asked, asked_at, asked_more}
use Rattle.rete_alpha.specs.Taking.{takes, tags_taken}
use Rattle.rete_alpha.specs.declared.pattern.ConstPattern.{ConstPattern}
use Rattle.join_parts.specs.Known.{constants_of}
use Rattle.node_memory.specs.declared.memory.Memory.{Memory}
use Rattle.node_memory.specs.Held.{Holds}
use Rattle.node_table.specs.declared.node.Step.{Step}
use Rattle.node_table.specs.declared.node.Step.TheVariants.{Join, Negation}
use Rattle.node_table.specs.declared.node.NodeKey.{NodeKey}
use Rattle.node_table.specs.declared.node.Hears.{Hears}
use Rattle.node_table.specs.declared.node.Node.{Node}
use Rattle.node_table.specs.Serving.{found}
use Rattle.node_table.specs.Asked.{asker, asker_by, asker_of, IsAsked}
use Rattle.node_table.specs.Making.{AsksFor}
use Rattle.node_table.specs.Hearing.{hears_some, HasNoRows, IsBarren, MayHear, AllHear, IsAskedFor, AllAsk}

-- ---- no rows

no_entries : {A : Type 0} (xs : List A) → length xs ≡ 0 → xs ≡ []
no_entries [] h = refl
no_entries (x ∷ xs) h = absurd (cc)

pub empty_holds : (m : Memory) → length m.rows.entries ≡ 0 → Holds (found m) []
empty_holds m none x = (
  (λ h. (let bad : None ≡ Some x.bindings = sym (ap (λ (es : List ((List ℕ) × Bindings)). lookup (λ q. is_eq (slice_cmp nat_cmp x.tags q)) es) (no_entries m.rows.entries none)) ∙ h in absurd (cc))),
  (λ i. absurd i),
)

-- a memory of the same entries
pub none_same : (a b : Memory) → b.rows.entries ≡ a.rows.entries → Holds (found a) [] → Holds (found b) []
none_same a b same none x = (
  (λ h. (none x).0 (sym (ap (λ (es : List ((List ℕ) × Bindings)). lookup (λ q. is_eq (slice_cmp nat_cmp x.tags q)) es) same) ∙ h)),
  (λ i. absurd i),
)

-- ---- no members

taken_apart : (p : ConstPattern) (d : Element) (w : List Element) → tags_taken p (d ∷ w) ≡ [] → (takes p d ≡ false) × (tags_taken p w ≡ [])
taken_apart p d w h = by (takes p d) refl h
  where
    by : (b : Bool) → takes p d ≡ b → map (λ (e : Element). e.tag) (cond b (d ∷ filter (takes p) w) (filter (takes p) w)) ≡ [] → (takes p d ≡ false) × (tags_taken p w ≡ [])
    by true is h = absurd (cc)
    by false is h = (is, h)

pub none_taken : (p : ConstPattern) (w : List Element) → tags_taken p w ≡ [] → (e : Element) → IsIn e w → takes p e ≡ false
none_taken p [] h e i = absurd i
none_taken p (d ∷ w) h e (inl same) = subst (λ (x : Element). takes p x ≡ false) same (taken_apart p d w h).0
none_taken p (d ∷ w) h e (inr i) = none_taken p w (taken_apart p d w h).1 e i

-- a pattern memory without members
pub members_none : (step : Step) (alpha : AlphaOf) (n : ℕ) (p : Pattern) → step ≡ Join p → IsAskedFor alpha step n → (members : List ℕ) → ((asked : Asked) → asked_at alpha n ≡ Some asked → members ≡ tags_taken asked.pattern alpha.elements) → members ≡ []
    → IsBarren step alpha.elements
members_none step alpha n p is asked members told none =
    let r = subst (λ (s : Step). IsAskedFor alpha s n) is asked in
    subst (λ (s : Step). IsBarren s alpha.elements) (sym is) (none_taken (constants_of p) alpha.elements (ap (λ (q : ConstPattern). tags_taken q alpha.elements) (sym r.2) ∙ sym (told r.0 r.1) ∙ none))

-- ---- requests

-- a step that has asked
pub asked_for : (step : Step) (old new : AlphaOf) (n : ℕ) → AsksFor old new step n → IsAskedFor new step n
asked_for (Negation m) old new n asks = tt
asked_for (Join p) old new n asks = (asked_more (constants_of p) (asked_at old n), asks.here, by (asked_at old n) refl)
  where
    by : (o : Option Asked) → asked_at old n ≡ o → (asked_more (constants_of p) o).pattern ≡ constants_of p
    by None is = refl
    by (Some a) is = asks.own a is

pub all_ask : (slots : List (Option Node)) (alpha : AlphaOf) → IsAsked slots alpha → AllAsk (λ n. slice_index_or slots n None) alpha
all_ask slots alpha asked n node key here keyed = by key.step refl
  where
    by : (step : Step) → key.step ≡ step → IsAskedFor alpha step node.alpha
    by (Negation m) is = tt
    by (Join p) is = asked.patterned n (node.alpha, p) (ap (option_and_then asker) here ∙ ap (asker_by node.alpha) keyed ∙ ap (asker_of node.alpha) is)

-- ---- what is heard

pub is_so : (b : Bool) → not b ≡ false → IsTrue b
is_so true h = refl
is_so false h = absurd (cc)

pub not_both : (a b : Bool) → (a ≡ true → b ≡ true) → b ≡ false → a ≡ false
not_both false b f is = refl
not_both true b f is = (let t : b ≡ true = f refl in absurd (cc))

pub may_hear : (nodes : ℕ → Option Node) (key : NodeKey) (w : List Element) (h : Hears) → (h.elements ≡ false → HasNoRows nodes key.parent) → (h.rows ≡ false → IsBarren key.step w) → hears_some h ≡ true → MayHear nodes key w h.rows h.elements
may_hear nodes key w h = by h.rows h.elements
  where
    by : (r e : Bool) → (e ≡ false → HasNoRows nodes key.parent) → (r ≡ false → IsBarren key.step w) → (r || e) ≡ true → MayHear nodes key w r e
    by true true none barren some = tt
    by true false none barren some = none refl
    by false true none barren some = barren refl
    by false false none barren some = absurd (cc)

pub some_heard : (nodes : ℕ → Option Node) (key : NodeKey) (w : List Element) (r e : Bool) → MayHear nodes key w r e → (r || e) ≡ true
some_heard nodes key w true e h = refl
some_heard nodes key w false true h = refl
some_heard nodes key w false false h = absurd h

-- other nodes, whose parent has no rows where it had none
pub hear_moves : (old new : ℕ → Option Node) (key : NodeKey) (w : List Element) (r e : Bool) → (HasNoRows old key.parent → HasNoRows new key.parent) → MayHear old key w r e → MayHear new key w r e
hear_moves old new key w true true f h = tt
hear_moves old new key w true false f h = f h
hear_moves old new key w false true f h = h
hear_moves old new key w false false f h = absurd h

-- what of a node what it hears depends on
pub record HearsAlike (old new : Node) : Type 0 where
  pub key : new.key ≡ old.key
  pub hears : new.hears ≡ old.hears
  pub none : Holds (found old.memory) [] → Holds (found new.memory) []

pub itself_alike : (node : Node) → HearsAlike node node
itself_alike node = record { key = refl; hears = refl; none = λ h. h }

pub hear_alike : (old new : ℕ → Option Node) (w : List Element) → ((k : ℕ) (m : Node) → new k ≡ Some m → (o : Node) × (old k ≡ Some o) × HearsAlike o m) → AllHear old w → AllHear new w
hear_alike old new w was all k m key there keyed =
    let o = was k m there in
    subst (λ (h : Hears). MayHear new key w h.rows h.elements) (sym o.2.hears)
    (hear_moves old new key w o.0.hears.rows o.0.hears.elements (λ none u up. (let v = was key.parent u up in v.2.none (none v.0 v.1))) (all k o.0 key o.1 (sym o.2.key ∙ keyed)))

-- a part of the nodes
pub hear_part : (old new : ℕ → Option Node) (w : List Element) → ((k : ℕ) (m : Node) → new k ≡ Some m → old k ≡ Some m) → AllHear old w → AllHear new w
hear_part old new w within all = hear_alike old new w (λ k m there. (m, within k m there, itself_alike m)) all
