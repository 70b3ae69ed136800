-- Changes leave all other triples as they were.
use Rattle.std.proofs.Common.{◌≡◌, Bool, true, false, ◌&&◌, ◌||◌, not, cond, List, [], ◌∷◌, ◌++◌, map, filter, refl, sym, ap, ◌∙◌}
use Rattle.soar_sym.specs.Equality.{symbol_eq, mark_eq}
use Rattle.soar_sym.specs.declared.symbol.Triple.{Triple}
use Rattle.soar_sym.proofs.KeyLemmas.{triple_turned, triple_same}
use Rattle.defs_soar.specs.Cycle.{with_change, with_changes}
use Rattle.defs_soar.specs.Values.{has_triple_among, triple_eq}
use Rattle.input_memory.specs.Plain.{has_plain}
use Rattle.input_queue.specs.declared.queued.Queued.{Queued}
use Rattle.input_queue.specs.Seen.{queued_seen, triple_queued}

-- a triple that differs apart from its mark differs
apart : (u t : Triple) → (symbol_eq u.id t.id && (symbol_eq u.attr t.attr && symbol_eq u.value t.value)) ≡ false → triple_eq t u ≡ false
apart u t other = triple_turned t u ∙ longer (symbol_eq u.id t.id) (symbol_eq u.attr t.attr) (symbol_eq u.value t.value) (mark_eq u.accept t.accept) other
  where
    longer : (a b c d : Bool) → (a && (b && c)) ≡ false → (a && (b && (c && d))) ≡ false
    longer true true c d h = ap (λ x. x && d) h
    longer true false c d h = refl
    longer false b c d h = refl

any_push : (t u : Triple) (ts : List Triple) → triple_eq t u ≡ false → has_triple_among (ts ++ u ∷ []) t ≡ has_triple_among ts t
any_push t u [] other = ap (λ b. b || false) other
any_push t u (v ∷ ts) other = ap (λ b. triple_eq t v || b) (any_push t u ts other)

any_left : (t u : Triple) (ts : List Triple) → triple_eq t u ≡ false → has_triple_among (filter (λ v. not (triple_eq v u)) ts) t ≡ has_triple_among ts t
any_left t u [] other = refl
any_left t u (v ∷ ts) other = by (triple_eq v u) refl (any_left t u ts other)
  where
    rest : List Triple
    rest = filter (λ w. not (triple_eq w u)) ts

    by : (b : Bool) → triple_eq v u ≡ b → has_triple_among rest t ≡ has_triple_among ts t → has_triple_among (cond (not b) (v ∷ rest) rest) t ≡ has_triple_among (v ∷ ts) t
    by true same h = h ∙ sym (ap (λ b. b || has_triple_among ts t) (ap (triple_eq t) (triple_same v u same) ∙ other))
    by false same h = ap (λ b. triple_eq t v || b) h

other_change : (t : Triple) (inputs : List Triple) (q : Queued) → triple_eq t q.triple ≡ false → has_triple_among (with_change inputs (queued_seen q)) t ≡ has_triple_among inputs t
other_change t inputs q other = by q.adds (has_triple_among inputs q.triple)
  where
    by : (adds there : Bool) → has_triple_among (cond adds (cond there inputs (inputs ++ q.triple ∷ [])) (filter (λ v. not (triple_eq v q.triple)) inputs)) t ≡ has_triple_among inputs t
    by true true = refl
    by true false = any_push t q.triple inputs other
    by false there = any_left t q.triple inputs other

other_changes : (t : Triple) (inputs : List Triple) (queue : List Queued) → has_plain (map triple_queued queue) t ≡ false → has_triple_among (with_changes inputs (map queued_seen queue)) t ≡ has_triple_among inputs t
other_changes t inputs [] none = refl
other_changes t inputs (q ∷ queue) none =
    other_changes t (with_change inputs (queued_seen q)) queue (right _ _ none) ∙ other_change t inputs q (apart q.triple t (left _ _ none))
  where
    left : (a b : Bool) → (a || b) ≡ false → a ≡ false
    left true b h = h
    left false b h = refl

    right : (a b : Bool) → (a || b) ≡ false → b ≡ false
    right true b h = cc
    right false b h = h

-- what is the changed inputs
pub covers_changed : (inputs : List Triple) (queue : List Queued) (changed : List Triple) → changed ≡ with_changes inputs (map queued_seen queue)
    → (t : Triple) → has_plain (map triple_queued queue) t ≡ false → has_triple_among changed t ≡ has_triple_among inputs t
covers_changed inputs queue changed is t none = ap (λ ts. has_triple_among ts t) is ∙ other_changes t inputs queue none
