use Rattle.std.proofs.Common.{◌≡◌, ◌∙◌, ◌&&◌, Bool, true, false, refl, sym, ap}
use Rattle.std.specs.List.{list_any}
use Rattle.std.specs.Map.{values_of}
use Rattle.defs_soar.specs.Values.{wish_eq}
use Rattle.defs_soar.specs.declared.preference.Wish.{Wish}
use Rattle.soar_sym.specs.Equality.{symbol_eq}
use Rattle.soar_prefs.specs.Store.{is_of}
use Rattle.soar_prefs.specs.declared.key.Key.TheVariants.{Triple}
use Rattle.soar_prefs.proofs.RangeLemmas.{triple_rows, any_of}
use Rattle.soar_prefs.proofs.store.Store.is_kept_already.Goals as goal

-- a row of the wish is of its triple
of_triple : (s i a v rest : Bool) → (s && (i && (a && (v && rest)))) ≡ true → (i && (a && v)) ≡ true
of_triple true true true true rest h = refl
of_triple true true true false rest h = cc
of_triple true true false v rest h = cc
of_triple true false a v rest h = cc
of_triple false i a v rest h = cc

pub returns-then-row : goal.returns-then-row
returns-then-row c =
    let wish : Wish = c.args.row.now.wish in
    c.has_wish.ensures.found ∙ ap (list_any (λ q. q.operator_support && wish_eq q.wish wish)) (triple_rows _ _ _ wish.id wish.attr wish.value c.requires c.has_wish.ensures.ordered)
    ∙ any_of (is_of (Triple wish.id wish.attr wish.value)) (λ q. q.operator_support && wish_eq q.wish wish)
    (λ row h. of_triple row.operator_support (symbol_eq row.wish.id wish.id) (symbol_eq row.wish.attr wish.attr) (symbol_eq row.wish.value wish.value) _ h) (values_of c.args.self.now.rows.entries)
    ∙ sym (ap (λ b. b && list_any (λ q. q.operator_support && wish_eq q.wish wish) (values_of c.args.self.now.rows.entries)) c.if-row.true)
