-- One condition more, in what is looked up and in what is left.
use Rattle.std.proofs.Common.{◌≡◌, refl, ◌∙◌, sym, ap, subst, ℕ, ◌+◌, ◌<◌, ◌≤◌, Bool, true, false, ◌&&◌, cond, List, [], ◌∷◌, ◌++◌, map, take, drop, length, get_or, Option, Some, None, arith}
use Rattle.std.proofs.lemmas.List.{at_drop_all, at_drop_more, map_more}
use Rattle.soar_sym.specs.declared.symbol.Sym.{Sym}
use Rattle.soar_rule.specs.declared.cond.Cond.{Cond}
use Rattle.soar_rule.specs.declared.cond.Cond.TheFolds.{fold-roll-Cond}
use Rattle.soar_rule.specs.declared.cond.Cond.TheOpen as layer
use Rattle.soar_rule.specs.declared.cond.Cond.TheVariants.{Pos, Neg, rolls-Pos, rolls-Neg}
use Rattle.soar_rule.specs.declared.cond.Pattern.{Pattern}
use Rattle.soar_rule.specs.Conditions.{Condition, positive, negated, conjunctive, Conditions, condition_and, condition, condition_step, conditions}
use Rattle.soar_wm.specs.declared.element.Element.{Element}
use Rattle.defs_soar.specs.Ungrounded.{or_else}
use Rattle.chunk_replay.specs.LookedUp.{LookUp, field_symbol, is_plain_in, known_after, left_of, pass, pattern_passes, pattern_symbol, symbol_in, IsRefused, IsTaken, Stands}

or_assoc : (a b c : Option Sym) → or_else a (or_else b c) ≡ or_else (or_else a b) c
or_assoc (Some s) b c = refl
or_assoc None b c = refl

or_none : (o : Option Sym) → or_else o None ≡ o
or_none None = refl
or_none (Some s) = refl

nothing_left : (e : Element) (elements : List Element) → [] ≡ e ∷ elements → ⊥
nothing_left e elements h = let q : 0 ≡ length (e ∷ elements) = ap length h in omega (arith, q)

-- ---- a positive condition more

abbrev ended : List Condition → Condition → List Condition
ended cs d = cs ++ d ∷ []

left_taken : (cs : List Condition) (p : Pattern) (elements : List Element) (e : Element) (behind : List Element) → left_of cs elements ≡ e ∷ behind
    → left_of (ended cs (positive p)) elements ≡ behind
left_taken [] p elements e behind h = ap (left_of (positive p ∷ [])) h
left_taken (positive q ∷ cs) p [] e behind h = absurd (nothing_left e behind h)
left_taken (positive q ∷ cs) p (f ∷ elements) e behind h = left_taken cs p elements e behind h
left_taken (negated q ∷ cs) p elements e behind h = left_taken cs p elements e behind h
left_taken (conjunctive inside ∷ cs) p elements e behind h = left_taken cs p elements e behind h

known_taken : (cs : List Condition) (p : Pattern) (elements : List Element) (e : Element) (behind : List Element) (v : ℕ) → left_of cs elements ≡ e ∷ behind
    → symbol_in (ended cs (positive p)) elements v ≡ or_else (symbol_in cs elements v) (pattern_symbol p e v)
known_taken [] p elements e behind v h = ap (λ l. symbol_in (positive p ∷ []) l v) h ∙ or_none (pattern_symbol p e v)
known_taken (positive q ∷ cs) p [] e behind v h = absurd (nothing_left e behind h)
known_taken (positive q ∷ cs) p (f ∷ elements) e behind v h =
    ap (or_else (pattern_symbol q f v)) (known_taken cs p elements e behind v h) ∙ or_assoc (pattern_symbol q f v) (symbol_in cs elements v) (pattern_symbol p e v)
known_taken (negated q ∷ cs) p elements e behind v h = known_taken cs p elements e behind v h
known_taken (conjunctive inside ∷ cs) p elements e behind v h = known_taken cs p elements e behind v h

-- field by field, or by the condition
by_fields : (o : Option Sym) (a b : Bool) (s t : Sym) (u : Option Sym)
    → or_else o (cond a (Some s) (cond b (Some t) u)) ≡ or_else (or_else (or_else o (cond a (Some s) None)) (cond b (Some t) None)) u
by_fields (Some r) a b s t u = refl
by_fields None true b s t u = refl
by_fields None false true s t u = refl
by_fields None false false s t u = refl

after_taken : (cs : List Condition) (p : Pattern) (elements : List Element) (e : Element) (behind : List Element) → left_of cs elements ≡ e ∷ behind
    → symbol_in (ended cs (positive p)) elements ≡ known_after (symbol_in cs elements) p e
after_taken cs p elements e behind h =
    λ i v. (known_taken cs p elements e behind v h
    ∙ by_fields (symbol_in cs elements v) (is_plain_in v p.id.tests) (is_plain_in v p.attr.tests) e.id e.attr (field_symbol p.value.tests e.value v)) i

-- ---- a negation more

-- a condition that takes no element
pub record Skips (d : Condition) : Type 0 where
  pub takes : (elements : List Element) → left_of (d ∷ []) elements ≡ elements
  pub tells : (elements : List Element) (v : ℕ) → symbol_in (d ∷ []) elements v ≡ None
  pub goes : (k : LookUp) (cs : Conditions) (elements : List Element) → pass k (condition_and d cs) elements ≡ pass k cs elements

negated_skips : (p : Pattern) → Skips (negated p)
negated_skips p = record { takes = λ elements. refl; tells = λ elements v. refl; goes = λ k cs elements. refl }

conjunctive_skips : (inside : Conditions) → Skips (conjunctive inside)
conjunctive_skips inside = record { takes = λ elements. refl; tells = λ elements v. refl; goes = λ k cs elements. refl }

left_skipped : (d : Condition) → Skips d → (cs : List Condition) (elements : List Element) → left_of (ended cs d) elements ≡ left_of cs elements
left_skipped d s [] elements = s.takes elements
left_skipped d s (positive q ∷ cs) [] = refl
left_skipped d s (positive q ∷ cs) (f ∷ elements) = left_skipped d s cs elements
left_skipped d s (negated q ∷ cs) elements = left_skipped d s cs elements
left_skipped d s (conjunctive inside ∷ cs) elements = left_skipped d s cs elements

known_skipped : (d : Condition) → Skips d → (cs : List Condition) (elements : List Element) (v : ℕ) → symbol_in (ended cs d) elements v ≡ symbol_in cs elements v
known_skipped d s [] elements v = s.tells elements v
known_skipped d s (positive q ∷ cs) [] v = refl
known_skipped d s (positive q ∷ cs) (f ∷ elements) v = ap (or_else (pattern_symbol q f v)) (known_skipped d s cs elements v)
known_skipped d s (negated q ∷ cs) elements v = known_skipped d s cs elements v
known_skipped d s (conjunctive inside ∷ cs) elements v = known_skipped d s cs elements v

-- ---- what the code's conditions are seen as

pub positive_seen : (p : Pattern) → condition (Pos p) ≡ positive p
positive_seen p = ap condition (sym (rolls-Pos p)) ∙ fold-roll-Cond Condition condition_step (layer.Pos p)

pub negated_seen : (p : Pattern) → condition (Neg p) ≡ negated p
negated_seen p = ap condition (sym (rolls-Neg p)) ∙ fold-roll-Cond Condition condition_step (layer.Neg p)

-- ---- the loop over conditions

-- the whole passes where the next condition and the rest do
next_passes : (conds : List Cond) (place : ℕ) (d : Cond) (known : LookUp) (left : List Element) → place < length conds
    → pass known (conditions (drop place conds)) left ≡ pass known (condition_and (condition (get_or conds place d)) (conditions (drop (place + 1) conds))) left
next_passes conds place d known left within = at_drop_more (λ l. pass known (conditions l) left) conds place d within

pub stands_taken : (conds : List Cond) (place : ℕ) (d : Cond) (elements left behind : List Element) (whole : Bool) (p : Pattern) → place < length conds
    → condition (get_or conds place d) ≡ positive p → Stands conds place elements left whole → IsTaken (symbol_in (map condition (take place conds)) elements) p left behind → Stands conds (place + 1) elements behind whole
stands_taken conds place d elements left behind whole p within kind s t =
    let before : List Condition = map condition (take place conds) in
    let rest : Conditions = conditions (drop (place + 1) conds) in
    let more : map condition (take (place + 1) conds) ≡ ended before (positive p) = map_more condition conds place d within ∙ ap (ended before) kind in
    let at : left_of before elements ≡ t.taken ∷ behind = sym s.is ∙ t.first in
    let known : symbol_in (map condition (take (place + 1) conds)) elements ≡ known_after (symbol_in before elements) p t.taken =
    ap (λ l. symbol_in l elements) more ∙ after_taken before p elements t.taken behind at in
    record {
      is = sym (ap (λ l. left_of l elements) more ∙ left_taken before p elements t.taken behind at);
      passes =
          ap (λ k. pass k rest behind) known
          ∙ (ap (λ b. b && pass (known_after (symbol_in before elements) p t.taken) rest behind) (sym t.passes)
          ∙ (ap (pass (symbol_in before elements) (condition_and (positive p) rest)) (sym t.first)
          ∙ (ap (λ c. pass (symbol_in before elements) (condition_and c rest) left) (sym kind)
          ∙ (sym (next_passes conds place d (symbol_in before elements) left within) ∙ s.passes))));
    }

stands_skipped : (conds : List Cond) (place : ℕ) (d : Cond) (elements left : List Element) (whole : Bool) → place < length conds → Skips (condition (get_or conds place d))
    → Stands conds place elements left whole → Stands conds (place + 1) elements left whole
stands_skipped conds place d elements left whole within skips s =
    let before : List Condition = map condition (take place conds) in
    let this : Condition = condition (get_or conds place d) in
    let rest : Conditions = conditions (drop (place + 1) conds) in
    let more : map condition (take (place + 1) conds) ≡ ended before this = map_more condition conds place d within in
    let known : symbol_in (map condition (take (place + 1) conds)) elements ≡ symbol_in before elements =
    ap (λ l. symbol_in l elements) more ∙ (λ i v. known_skipped this skips before elements v i) in
    record {
      is = s.is ∙ sym (ap (λ l. left_of l elements) more ∙ left_skipped this skips before elements);
      passes =
          ap (λ k. pass k rest left) known
          ∙ (sym (skips.goes (symbol_in before elements) rest left) ∙ (sym (next_passes conds place d (symbol_in before elements) left within) ∙ s.passes));
    }

pub stands_negated : (conds : List Cond) (place : ℕ) (d : Cond) (elements left : List Element) (whole : Bool) (p : Pattern) → place < length conds → condition (get_or conds place d) ≡ negated p
    → Stands conds place elements left whole → Stands conds (place + 1) elements left whole
stands_negated conds place d elements left whole p within kind s = stands_skipped conds place d elements left whole within (subst Skips (sym kind) (negated_skips p)) s

pub stands_conjunctive : (conds : List Cond) (place : ℕ) (d : Cond) (elements left : List Element) (whole : Bool) (inside : Conditions) → place < length conds
    → condition (get_or conds place d) ≡ conjunctive inside → Stands conds place elements left whole → Stands conds (place + 1) elements left whole
stands_conjunctive conds place d elements left whole inside within kind s =
    stands_skipped conds place d elements left whole within (subst Skips (sym kind) (conjunctive_skips inside)) s

pub stands_refused : (conds : List Cond) (place : ℕ) (d : Cond) (elements left : List Element) (whole : Bool) (p : Pattern) → place < length conds
    → condition (get_or conds place d) ≡ positive p → Stands conds place elements left whole → IsRefused (symbol_in (map condition (take place conds)) elements) p left → false ≡ whole
stands_refused conds place d elements left whole p within kind s refused =
    let known : LookUp = symbol_in (map condition (take place conds)) elements in
    let rest : Conditions = conditions (drop (place + 1) conds) in
    sym (refused rest) ∙ (ap (λ c. pass known (condition_and c rest) left) (sym kind) ∙ (sym (next_passes conds place d known left within) ∙ s.passes))

-- after the last condition no element may be left
ends : (conds : List Cond) (place : ℕ) (elements left : List Element) (whole : Bool) → length conds ≤ place → Stands conds place elements left whole
    → pass (symbol_in (map condition (take place conds)) elements) (conditions []) left ≡ whole
ends conds place elements left whole within s =
    sym (at_drop_all (λ l. pass (symbol_in (map condition (take place conds)) elements) (conditions l) left) conds place within) ∙ s.passes

pub ends_empty : (conds : List Cond) (place : ℕ) (elements left : List Element) (whole : Bool) → length conds ≤ place → Stands conds place elements left whole
    → left ≡ [] → true ≡ whole
ends_empty conds place elements left whole within s none =
    ap (pass (symbol_in (map condition (take place conds)) elements) (conditions [])) (sym none) ∙ ends conds place elements left whole within s

pub ends_longer : (conds : List Cond) (place : ℕ) (elements left : List Element) (whole : Bool) → length conds ≤ place → Stands conds place elements left whole
    → (e : Element) (behind : List Element) → left ≡ e ∷ behind → false ≡ whole
ends_longer conds place elements left whole within s e behind one =
    ap (pass (symbol_in (map condition (take place conds)) elements) (conditions [])) (sym one) ∙ ends conds place elements left whole within s

-- ---- the next element

pub none_refused : (known : LookUp) (p : Pattern) (left : List Element) → left ≡ [] → IsRefused known p left
none_refused known p left none = λ cs. ap (pass known (condition_and (positive p) cs)) none

pub one_refused : (known : LookUp) (p : Pattern) (left : List Element) (e : Element) (behind : List Element) → left ≡ e ∷ behind → pattern_passes known p e ≡ false → IsRefused known p left
one_refused known p left e behind one h =
    λ cs. ap (pass known (condition_and (positive p) cs)) one ∙ ap (λ b. b && pass (known_after known p e) cs behind) h
