-- What a map of marks has at a symbol.
use Rattle.std.proofs.Common.{◌≡◌, ℕ, ◌+◌, ◌||◌, Bool, true, false, cond, [], ◌∷◌, Option, Some, None, is_some, refl, sym, ap, ◌∙◌, arith}
use Rattle.std.specs.Map.{lookup, set_value}
use Rattle.soar_sym.specs.Equality.{symbol_eq}
use Rattle.soar_sym.specs.declared.symbol.Sym.{Sym}
use Rattle.level_laws.proofs.SymbolLemmas.{symbol_same, symbol_turned}
use Rattle.level_graph.specs.Marks.{MarkList, mark_at, has_mark, weight, weight_of}

abbrev pub Tests : (Sym → Bool) → Sym → Type 0
Tests test id = (k : Sym) → test k ≡ symbol_eq id k

abbrev pub flat : Option (Option ℕ) → Option ℕ
flat None = None
flat (Some x) = x

pub flat_lookup : (test : Sym → Bool) (id : Sym) → Tests test id → (es : MarkList) → flat (lookup test es) ≡ mark_at es id
flat_lookup test id is [] = refl
flat_lookup test id is (e ∷ es) = ap (λ b. flat (cond b (Some e.1) (lookup test es))) (is e.0) ∙ by (symbol_eq id e.0) (flat_lookup test id is es)
  where
    by : (b : Bool) → flat (lookup test es) ≡ mark_at es id → flat (cond b (Some e.1) (lookup test es)) ≡ cond b e.1 (mark_at es id)
    by true h = refl
    by false h = h

pub some_lookup : (test : Sym → Bool) (id : Sym) → Tests test id → (es : MarkList) → is_some (lookup test es) ≡ has_mark es id
some_lookup test id is [] = refl
some_lookup test id is (e ∷ es) = ap (λ b. is_some (cond b (Some e.1) (lookup test es))) (is e.0) ∙ by (symbol_eq id e.0) (some_lookup test id is es)
  where
    by : (b : Bool) → is_some (lookup test es) ≡ has_mark es id → is_some (cond b (Some e.1) (lookup test es)) ≡ (b || has_mark es id)
    by true h = refl
    by false h = h

pub no_mark : (es : MarkList) (id : Sym) → has_mark es id ≡ false → mark_at es id ≡ None
no_mark [] id h = refl
no_mark (e ∷ es) id h = by (symbol_eq id e.0) h (no_mark es id)
  where
    by : (b : Bool) → (b || has_mark es id) ≡ false → (has_mark es id ≡ false → mark_at es id ≡ None) → cond b e.1 (mark_at es id) ≡ None
    by true g rest = cc
    by false g rest = rest g

pub set_marks : (test : Sym → Bool) (id : Sym) → Tests test id → (es : MarkList) (w : Option ℕ) → has_mark es id ≡ true → (s : Sym) → mark_at (set_value test es w) s ≡ cond (symbol_eq id s) w (mark_at es s)
set_marks test id is [] w h s = cc
set_marks test id is (e ∷ es) w h s =
    ap (λ b. mark_at (cond b ((e.0, w) ∷ es) (e ∷ set_value test es w)) s) (is e.0) ∙ by (symbol_eq id e.0) refl h (λ g. set_marks test id is es w g s) (symbol_eq s e.0) refl
  where
    by : (b : Bool) → symbol_eq id e.0 ≡ b → (b || has_mark es id) ≡ true → (has_mark es id ≡ true → mark_at (set_value test es w) s ≡ cond (symbol_eq id s) w (mark_at es s))
        → (c : Bool) → symbol_eq s e.0 ≡ c → mark_at (cond b ((e.0, w) ∷ es) (e ∷ set_value test es w)) s ≡ cond (symbol_eq id s) w (cond c e.1 (mark_at es s))
    by true f g rest true k =
        let there : symbol_eq id s ≡ true = ap (symbol_eq id) (symbol_same s e.0 k) ∙ f in
        ap (λ b. cond b w (mark_at es s)) k ∙ sym (ap (λ b. cond b w e.1) there)
    by true f g rest false k =
        let apart : symbol_eq id s ≡ false = ap (λ x. symbol_eq x s) (symbol_same id e.0 f) ∙ symbol_turned e.0 s ∙ k in
        ap (λ b. cond b w (mark_at es s)) k ∙ sym (ap (λ b. cond b w (mark_at es s)) apart)
    by false f g rest true k =
        let apart : symbol_eq id s ≡ false = ap (symbol_eq id) (symbol_same s e.0 k) ∙ f in
        ap (λ b. cond b e.1 (mark_at (set_value test es w) s)) k ∙ sym (ap (λ b. cond b w e.1) apart)
    by false f g rest false k = ap (λ b. cond b e.1 (mark_at (set_value test es w) s)) k ∙ rest g

pub set_places : (test : Sym → Bool) (es : MarkList) (w : Option ℕ) (s : Sym) → has_mark (set_value test es w) s ≡ has_mark es s
set_places test [] w s = refl
set_places test (e ∷ es) w s = by (test e.0) (set_places test es w s)
  where
    by : (b : Bool) → has_mark (set_value test es w) s ≡ has_mark es s → has_mark (cond b ((e.0, w) ∷ es) (e ∷ set_value test es w)) s ≡ (symbol_eq s e.0 || has_mark es s)
    by true h = refl
    by false h = ap (λ b. symbol_eq s e.0 || b) h

pub set_weight : (test : Sym → Bool) (id : Sym) → Tests test id → (es : MarkList) (w : Option ℕ) → has_mark es id ≡ true → weight (set_value test es w) + weight_of (mark_at es id) ≡ weight es + weight_of w
set_weight test id is [] w h = cc
set_weight test id is (e ∷ es) w h =
    ap (λ b. weight (cond b ((e.0, w) ∷ es) (e ∷ set_value test es w)) + weight_of (cond (symbol_eq id e.0) e.1 (mark_at es id))) (is e.0)
    ∙ by (symbol_eq id e.0) h (set_weight test id is es w)
  where
    by : (b : Bool) → (b || has_mark es id) ≡ true → (has_mark es id ≡ true → weight (set_value test es w) + weight_of (mark_at es id) ≡ weight es + weight_of w)
        → weight (cond b ((e.0, w) ∷ es) (e ∷ set_value test es w)) + weight_of (cond b e.1 (mark_at es id)) ≡ weight_of e.1 + weight es + weight_of w
    by true g rest = omega arith
    by false g rest = omega (arith, rest g)

-- an entry that was not there
pub added_marks : (old new : MarkList) (id : Sym) → has_mark old id ≡ false → (s : Sym) (x y : Option (Option ℕ)) → flat x ≡ mark_at new s → flat y ≡ mark_at old s → x ≡ cond (symbol_eq id s) (Some None) y → mark_at new s ≡ mark_at old s
added_marks old new id none s x y ex ey up = by (symbol_eq id s) refl up
  where
    by : (b : Bool) → symbol_eq id s ≡ b → x ≡ cond b (Some None) y → mark_at new s ≡ mark_at old s
    by true same u = sym ex ∙ ap flat u ∙ sym (ap (mark_at old) (sym (symbol_same id s same)) ∙ no_mark old id none)
    by false same u = sym ex ∙ ap flat u ∙ ey

pub added_places : (id s : Sym) (x y : Option (Option ℕ)) → x ≡ cond (symbol_eq id s) (Some None) y → is_some x ≡ (symbol_eq id s || is_some y)
added_places id s x y up = ap is_some up ∙ by (symbol_eq id s)
  where
    by : (b : Bool) → is_some (cond b (Some None) y) ≡ (b || is_some y)
    by true = refl
    by false = refl
