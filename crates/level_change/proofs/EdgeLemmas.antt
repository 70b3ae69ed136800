-- Numbers of links, triple by triple.
use Rattle.std.proofs.Common.{◌≡◌, ℕ, suc, ◌+◌, ◌-◌, ◌<◌, ◌&&◌, Bool, true, false, cond, List, [], ◌∷◌, ◌++◌, length, take, get_or, refl, sym, ap, ◌∙◌, arith}
use Rattle.std.proofs.lemmas.List.{take_more}
use Rattle.soar_sym.specs.Equality as plain
use Rattle.soar_sym.specs.Equality.{symbol_eq}
use Rattle.soar_sym.specs.declared.symbol.Sym.{Sym}
use Rattle.soar_sym.specs.declared.symbol.Sym.TheVariants.{Ident, Word, Int}
use Rattle.soar_sym.specs.declared.symbol.Triple.{Triple}
use Rattle.defs_soar.specs.Values.{is_identifier}
use Rattle.level_laws.specs.Labels.{leads}
use Rattle.level_laws.proofs.SymbolLemmas.{symbol_turned}
use Rattle.level_change.specs.Counts.{edge_count}
use Rattle.level_change.specs.Edges.{with_triple, without_triple, with_all, without_all}
use Rattle.level_change.specs.Links.{Facts, Late, Counts, if_any, IsCounted, turned, raised, lowered}

pub same_test : (s : Sym) → is_identifier s ≡ plain.is_identifier s
same_test (Ident letter number) = refl
same_test (Word word) = refl
same_test (Int value) = refl

pub counted_as : (c d : Counts) (base : Facts) (late : Late) → ((x y : Sym) → c x y ≡ d x y) → IsCounted c base late → IsCounted d base late
counted_as c d base late same counted x y = counted x y ∙ ap if_any (same x y)

leads_is : (t : Triple) (x y : Sym) → is_identifier t.value ≡ true → leads x y t ≡ (symbol_eq t.id x && symbol_eq t.value y)
leads_is t x y h =
    ap (λ b. symbol_eq x t.id && (symbol_eq y t.value && b)) h ∙ by (symbol_eq x t.id) (symbol_eq y t.value) ∙ ap (λ b. b && symbol_eq y t.value) (symbol_turned x t.id) ∙ ap (λ b. symbol_eq t.id x && b) (symbol_turned y t.value)
  where
    by : (a b : Bool) → (a && (b && true)) ≡ (a && b)
    by true true = refl
    by true false = refl
    by false b = refl

leads_not : (t : Triple) (x y : Sym) → is_identifier t.value ≡ false → leads x y t ≡ false
leads_not t x y h = ap (λ b. symbol_eq x t.id && (symbol_eq y t.value && b)) h ∙ by (symbol_eq x t.id) (symbol_eq y t.value)
  where
    by : (a b : Bool) → (a && (b && false)) ≡ false
    by true true = refl
    by true false = refl
    by false b = refl

and_turned : (a b : Bool) → (a && b) ≡ (b && a)
and_turned true true = refl
and_turned true false = refl
and_turned false true = refl
and_turned false false = refl

pub raised_out : (t : Triple) (counts : Counts) → is_identifier t.value ≡ true → (x y : Sym) → raised t.id t.value counts x y ≡ with_triple t counts x y
raised_out t counts h x y = ap (λ b. cond b (suc (counts x y)) (counts x y)) (sym (leads_is t x y h))

pub raised_into : (t : Triple) (counts : Counts) → is_identifier t.value ≡ true → (y x : Sym) → raised t.value t.id (turned counts) y x ≡ turned (with_triple t counts) y x
raised_into t counts h y x = ap (λ b. cond b (suc (counts x y)) (counts x y)) (and_turned (symbol_eq t.value y) (symbol_eq t.id x) ∙ sym (leads_is t x y h))

pub lowered_out : (t : Triple) (counts : Counts) → is_identifier t.value ≡ true → (x y : Sym) → lowered t.id t.value counts x y ≡ without_triple t counts x y
lowered_out t counts h x y = ap (λ b. cond b (counts x y - 1) (counts x y)) (sym (leads_is t x y h))

pub lowered_into : (t : Triple) (counts : Counts) → is_identifier t.value ≡ true → (y x : Sym) → lowered t.value t.id (turned counts) y x ≡ turned (without_triple t counts) y x
lowered_into t counts h y x = ap (λ b. cond b (counts x y - 1) (counts x y)) (and_turned (symbol_eq t.value y) (symbol_eq t.id x) ∙ sym (leads_is t x y h))

pub same_with : (t : Triple) (counts : Counts) → is_identifier t.value ≡ false → (x y : Sym) → counts x y ≡ with_triple t counts x y
same_with t counts h x y = ap (λ b. cond b (suc (counts x y)) (counts x y)) (sym (leads_not t x y h))

pub same_without : (t : Triple) (counts : Counts) → is_identifier t.value ≡ false → (x y : Sym) → counts x y ≡ without_triple t counts x y
same_without t counts h x y = ap (λ b. cond b (counts x y - 1) (counts x y)) (sym (leads_not t x y h))

more_edges : (ts : List Triple) (t : Triple) (x y : Sym) → edge_count (ts ++ t ∷ []) x y ≡ cond (leads x y t) (suc (edge_count ts x y)) (edge_count ts x y)
more_edges [] t x y = refl
more_edges (u ∷ ts) t x y = ap (λ n. cond (leads x y u) (suc n) n) (more_edges ts t x y) ∙ by (leads x y u) (leads x y t)
  where
    by : (a b : Bool) → cond a (suc (cond b (suc (edge_count ts x y)) (edge_count ts x y))) (cond b (suc (edge_count ts x y)) (edge_count ts x y))
        ≡ cond b (suc (cond a (suc (edge_count ts x y)) (edge_count ts x y))) (cond a (suc (edge_count ts x y)) (edge_count ts x y))
    by true true = refl
    by true false = refl
    by false true = refl
    by false false = refl

taken : (ts : List Triple) (i : ℕ) (d : Triple) → i < length ts → (x y : Sym) → edge_count (take (i + 1) ts) x y ≡ cond (leads x y (get_or ts i d)) (suc (edge_count (take i ts) x y)) (edge_count (take i ts) x y)
taken ts i d lt x y = ap (λ l. edge_count l x y) (take_more ts i d lt) ∙ more_edges (take i ts) (get_or ts i d) x y

pub with_step : (ts : List Triple) (i : ℕ) (d : Triple) → i < length ts → (counts : Counts) (x y : Sym) → with_triple (get_or ts i d) (with_all (take i ts) counts) x y ≡ with_all (take (i + 1) ts) counts x y
with_step ts i d lt counts x y = by (leads x y (get_or ts i d)) (counts x y) (edge_count (take i ts) x y) ∙ ap (λ n. counts x y + n) (sym (taken ts i d lt x y))
  where
    by : (b : Bool) (m n : ℕ) → cond b (suc (m + n)) (m + n) ≡ m + cond b (suc n) n
    by true m n = omega arith
    by false m n = refl

pub without_step : (ts : List Triple) (i : ℕ) (d : Triple) → i < length ts → (counts : Counts) (x y : Sym) → without_triple (get_or ts i d) (without_all (take i ts) counts) x y ≡ without_all (take (i + 1) ts) counts x y
without_step ts i d lt counts x y = by (leads x y (get_or ts i d)) (counts x y) (edge_count (take i ts) x y) ∙ ap (λ n. counts x y - n) (sym (taken ts i d lt x y))
  where
    by : (b : Bool) (m n : ℕ) → cond b (m - n - 1) (m - n) ≡ m - cond b (suc n) n
    by true m n = omega arith
    by false m n = refl

pub with_none : (counts : Counts) (x y : Sym) → counts x y ≡ with_all [] counts x y
with_none counts x y = plus_zero (counts x y)
  where
    plus_zero : (n : ℕ) → n ≡ n + 0
    plus_zero n = omega arith

pub without_none : (counts : Counts) (x y : Sym) → counts x y ≡ without_all [] counts x y
without_none counts x y = less_zero (counts x y)
  where
    less_zero : (n : ℕ) → n ≡ n - 0
    less_zero n = omega arith
