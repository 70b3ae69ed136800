-- What went and what came, link by link.
use Rattle.std.proofs.Common.{◌≡◌, ℕ, suc, ◌+◌, Bool, true, false, cond, List, [], ◌∷◌, ◌++◌, length, filter, ap, refl, sym, ◌∙◌, arith}
use Rattle.soar_sym.specs.declared.symbol.Sym.{Sym}
use Rattle.soar_sym.specs.declared.symbol.Triple.{Triple}
use Rattle.level_change.specs.Labels.{leads}
use Rattle.level_change.specs.Counts.{edge_count, IsChanged}
use Rattle.kept_triples.specs.Counts.{how_many}
use Rattle.kept_triples.specs.Looking.{Balances}
use Rattle.kept_triples.specs.declared.looking.Difference.{Difference}

-- links are counted as triples that lead so
pub edges_are : (triples : List Triple) (x y : Sym) → edge_count triples x y ≡ how_many (leads x y) triples
edges_are [] x y = refl
edges_are (t ∷ triples) x y = by (leads x y t) (edges_are triples x y)
  where
    by : (b : Bool) → edge_count triples x y ≡ how_many (leads x y) triples
        → cond b (suc (edge_count triples x y)) (edge_count triples x y) ≡ length (cond b (t ∷ filter (leads x y) triples) (filter (leads x y) triples))
    by true h = ap suc h
    by false h = h

-- how many there are of a triple alone
abbrev one : Triple → Sym → Sym → ℕ
one t x y = edge_count (t ∷ []) x y

edges_first : (t : Triple) (triples : List Triple) (x y : Sym) → edge_count (t ∷ triples) x y ≡ one t x y + edge_count triples x y
edges_first t triples x y = by (leads x y t)
  where
    by : (b : Bool) → cond b (suc (edge_count triples x y)) (edge_count triples x y) ≡ cond b 1 0 + edge_count triples x y
    by true = omega arith
    by false = omega arith

pub edges_last : (triples : List Triple) (t : Triple) (x y : Sym) → edge_count (triples ++ t ∷ []) x y ≡ one t x y + edge_count triples x y
edges_last [] t x y = edges_first t [] x y
edges_last (u ∷ triples) t x y = by (leads x y u) (edges_last triples t x y)
  where
    by : (b : Bool) → edge_count (triples ++ t ∷ []) x y ≡ one t x y + edge_count triples x y
        → cond b (suc (edge_count (triples ++ t ∷ []) x y)) (edge_count (triples ++ t ∷ []) x y) ≡ one t x y + cond b (suc (edge_count triples x y)) (edge_count triples x y)
    by true h = omega (arith, h)
    by false h = h

-- nothing went or came
pub stays : (old new : List Triple) (d : Difference) → ((p : Triple → Bool) → how_many p new ≡ how_many p old) → Balances old d new d
stays old new d same x y =
    let set : edge_count new x y ≡ edge_count old x y = edges_are new x y ∙ same (leads x y) ∙ sym (edges_are old x y) in
    ap (λ n. n + edge_count d.gone x y + edge_count d.come x y) set

-- one triple came
pub one_came : (old new : List Triple) (before after : Difference) (t : Triple) → ((p : Triple → Bool) → how_many p new ≡ how_many p (t ∷ old))
    → after.gone ≡ before.gone → after.come ≡ before.come ++ t ∷ [] → Balances old before new after
one_came old new before after t more gone come x y =
    let set : edge_count new x y ≡ one t x y + edge_count old x y = edges_are new x y ∙ more (leads x y) ∙ sym (edges_are (t ∷ old) x y) ∙ edges_first t old x y in
    let went : edge_count after.gone x y ≡ edge_count before.gone x y = ap (λ l. edge_count l x y) gone in
    let came : edge_count after.come x y ≡ one t x y + edge_count before.come x y = ap (λ l. edge_count l x y) come ∙ edges_last before.come t x y in
    omega (arith, set, went, came)

-- one triple went
pub one_went : (old new : List Triple) (before after : Difference) (t : Triple) → ((p : Triple → Bool) → how_many p (t ∷ new) ≡ how_many p old)
    → after.gone ≡ before.gone ++ t ∷ [] → after.come ≡ before.come → Balances old before new after
one_went old new before after t less gone come x y =
    let set : one t x y + edge_count new x y ≡ edge_count old x y = sym (edges_first t new x y) ∙ edges_are (t ∷ new) x y ∙ less (leads x y) ∙ sym (edges_are old x y) in
    let went : edge_count after.gone x y ≡ one t x y + edge_count before.gone x y = ap (λ l. edge_count l x y) gone ∙ edges_last before.gone t x y in
    let came : edge_count after.come x y ≡ edge_count before.come x y = ap (λ l. edge_count l x y) come in
    omega (arith, set, went, came)

pub balance_then : (a b c : List Triple) (d e f : Difference) → Balances a d b e → Balances b e c f → Balances a d c f
balance_then a b c d e f first second x y = omega (arith, first x y, second x y)

pub changed_by : (old new gone come : List Triple) (before after : Difference) → Balances old before new after → before.gone ≡ [] → before.come ≡ []
    → gone ≡ after.gone → come ≡ after.come → IsChanged old gone come new
changed_by old new gone come before after balance no_gone no_come went came x y =
    let a : edge_count before.gone x y ≡ 0 = ap (λ l. edge_count l x y) no_gone in
    let b : edge_count before.come x y ≡ 0 = ap (λ l. edge_count l x y) no_come in
    let d : edge_count gone x y ≡ edge_count after.gone x y = ap (λ l. edge_count l x y) went in
    let e : edge_count come x y ≡ edge_count after.come x y = ap (λ l. edge_count l x y) came in
    omega (arith, balance x y, a, b, d, e)
