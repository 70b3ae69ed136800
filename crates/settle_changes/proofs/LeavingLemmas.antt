-- What leaves identifier by identifier, or all at once.
use Rattle.std.proofs.Common.{◌≡◌, refl, sym, ◌∙◌, Bool, true, false, ◌&&◌, ◌||◌, not, List, [], ◌∷◌, filter}
use Rattle.std.proofs.lemmas.List.Folds.{list_any-append}
use Rattle.soar_sym.specs.Equality.{symbol_eq}
use Rattle.soar_sym.specs.declared.symbol.Sym.{Sym}
use Rattle.soar_sym.specs.declared.symbol.Triple.{Triple}
use Rattle.defs_soar.specs.declared.preference.Preference.{Preference}
use Rattle.defs_soar.specs.Preferences.{without_id}
use Rattle.defs_soar.specs.Sorted.{has_symbol}
use Rattle.defs_soar.specs.Values.{has_triple_among}
use Rattle.settling_laws.specs.Changes.{has_value}
use Rattle.settling_laws.proofs.FilterLemmas.{filter_all, filter_narrower}
use Rattle.settling_laws.proofs.MemberLemmas.{filter_passes}
use Rattle.settling_laws.proofs.OrderLemmas.{has_filtered}
use Rattle.soar_prefs.specs.Memory.{has_plain}
use Rattle.settle_changes.specs.Leaving.{inputs_gone, inputs_without, rows_without}
use Rattle.settle_changes.proofs.PlainLemmas.{filter_alike, neither_of, plainly_absent}

-- first those of one identifier, then those of others
one_more : {A : Type 0} (key : A → Sym) (id : Sym) (ids : List Sym) (xs : List A)
    → filter (λ x. not (has_symbol ids (key x))) (filter (λ x. not (symbol_eq (key x) id)) xs) ≡ filter (λ x. not (has_symbol (id ∷ ids) (key x))) xs
one_more key id ids xs =
    filter_alike (λ x. not (has_symbol ids (key x))) (λ x. not (has_symbol (id ∷ ids) (key x))) (filter (λ x. not (symbol_eq (key x) id)) xs)
    (λ x i. by (symbol_eq (key x) id) (has_symbol ids (key x)) (filter_passes (λ x. not (symbol_eq (key x) id)) xs x i))
    ∙ filter_narrower (λ x. not (has_symbol (id ∷ ids) (key x))) (λ x. not (symbol_eq (key x) id)) (λ x h. first (symbol_eq (key x) id) (has_symbol ids (key x)) h) xs
  where
    by : (a b : Bool) → not a ≡ true → not b ≡ not (a || b)
    by true b h = absurd (cc)
    by false b h = refl

    first : (a b : Bool) → not (a || b) ≡ true → not a ≡ true
    first true b h = absurd (cc)
    first false b h = refl

pub inputs_at_once : (ids : List Sym) (inputs : List Triple) → inputs_without inputs ids ≡ filter (λ t. not (has_symbol ids t.id)) inputs
inputs_at_once [] inputs = sym (filter_all (λ t. not (has_symbol [] t.id)) inputs (λ t i. refl))
inputs_at_once (id ∷ ids) inputs = inputs_at_once ids (filter (λ t. not (symbol_eq t.id id)) inputs) ∙ one_more (λ (t : Triple). t.id) id ids inputs

pub rows_at_once : (ids : List Sym) (rows : List Preference) → rows_without rows ids ≡ filter (λ row. not (has_symbol ids row.wish.id)) rows
rows_at_once [] rows = sym (filter_all (λ row. not (has_symbol [] row.wish.id)) rows (λ row i. refl))
rows_at_once (id ∷ ids) rows = rows_at_once ids (without_id rows id) ∙ one_more (λ (row : Preference). row.wish.id) id ids rows

-- an input that is none of those that went is there as before
pub gone_are_named : (ids : List Sym) (inputs : List Triple) (t : Triple) → has_plain (inputs_gone inputs ids) t ≡ false
    → has_triple_among inputs t ≡ has_triple_among (inputs_without inputs ids) t
gone_are_named [] inputs t h = refl
gone_are_named (id ∷ ids) inputs t h =
    let parts =
    neither_of (has_plain (filter (λ u. symbol_eq u.id id) inputs) t) (has_plain (inputs_gone (filter (λ u. not (symbol_eq u.id id)) inputs) ids) t)
    (
    sym (list_any-append (has_value t.id t.attr t.value) (filter (λ u. symbol_eq u.id id) inputs) (inputs_gone (filter (λ u. not (symbol_eq u.id id)) inputs) ids)) ∙ h
    ) in
    by (has_triple_among inputs t) (symbol_eq t.id id)
    (sym (has_filtered (λ u. symbol_eq u.id id) inputs t) ∙ plainly_absent (filter (λ u. symbol_eq u.id id) inputs) t parts.0)
    ∙ sym (has_filtered (λ u. not (symbol_eq u.id id)) inputs t)
    ∙ gone_are_named ids (filter (λ u. not (symbol_eq u.id id)) inputs) t parts.1
  where
    by : (a b : Bool) → (a && b) ≡ false → a ≡ (a && not b)
    by true true h = absurd (cc)
    by true false h = refl
    by false b h = refl
