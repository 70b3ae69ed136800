-- A condition waits for no variable: that depends only on which variables there are.
use Rattle.std.proofs.Common.{◌≡◌, ℕ, Bool, true, false, ◌&&◌, ◌||◌, ◌==◌, List, [], ◌∷◌, Some, None, refl, sym, ◌∙◌, ap}
use Rattle.std.specs.Prelude.{not, if◌then◌else◌}
use Rattle.std.proofs.lemmas.Bool.{eqb-true}
use Rattle.soar_rule.specs.MatchOrder.{waits_for}
use Rattle.soar_rule.specs.Variables.{is_among}
use Rattle.rule_laws.proofs.LeftLaws.{among_more, among_this}

-- the lists have the same variables
abbrev pub SameVariables : List ℕ → List ℕ → Type 0
SameVariables vs ws = (v : ℕ) → is_among vs v ≡ is_among ws v

-- it is plain outside and not bound yet
abbrev holds_back : List ℕ → List ℕ → ℕ → Bool
holds_back outside bound v = is_among outside v && not (is_among bound v)

waits_more :
    (outside bound : List ℕ) (v : ℕ) (vs : List ℕ) → waits_for outside bound (v ∷ vs) ≡ None →
    (holds_back outside bound v ≡ false) × (waits_for outside bound vs ≡ None)
waits_more outside bound v vs e = by (holds_back outside bound v) refl
  where
    by : (b : Bool) → holds_back outside bound v ≡ b → (holds_back outside bound v ≡ false) × (waits_for outside bound vs ≡ None)
    by true h = absurd (cc)
    by false h = (h, (cc))

waits_none : (outside bound vs : List ℕ) → waits_for outside bound vs ≡ None → (v : ℕ) → is_among vs v ≡ true → holds_back outside bound v ≡ false
waits_none outside bound [] e v a = absurd (cc)
waits_none outside bound (w ∷ vs) e v a = by (v == w) refl (waits_none outside bound vs (waits_more outside bound w vs e).1 v)
  where
    by : (b : Bool) → (v == w) ≡ b → (is_among vs v ≡ true → holds_back outside bound v ≡ false) → holds_back outside bound v ≡ false
    by true s i = ap (holds_back outside bound) (eqb-true v w s) ∙ (waits_more outside bound w vs e).0
    by false s i = i (sym (ap (λ b. b || is_among vs v) s) ∙ a)

none_waits : (outside bound vs : List ℕ) → ((v : ℕ) → is_among vs v ≡ true → holds_back outside bound v ≡ false) → waits_for outside bound vs ≡ None
none_waits outside bound [] h = refl
none_waits outside bound (w ∷ vs) h =
    ap (λ b. if b then Some w else waits_for outside bound vs) (h w (among_this w vs)) ∙ none_waits outside bound vs (λ v a. h v (among_more w v vs a))

pub waits_alike :
    (outside other bound vs ws : List ℕ) → SameVariables outside other → SameVariables vs ws → waits_for outside bound vs ≡ None → waits_for other bound ws ≡ None
waits_alike outside other bound vs ws o s e =
    none_waits other bound ws (λ v a. ap (λ b. b && not (is_among bound v)) (sym (o v)) ∙ waits_none outside bound vs e v (s v ∙ a))
