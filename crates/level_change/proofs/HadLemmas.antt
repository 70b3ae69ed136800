-- Forgetting, one symbol after the other.
use Rattle.std.proofs.Common.{◌≡◌, ℕ, ◌&&◌, not, Bool, true, false, cond, List, [], ◌∷◌, ◌++◌, Option, Some, None, refl, sym, ap, ◌∙◌, ◌⊎◌, inl, inr, arith}
use Rattle.soar_sym.specs.Equality.{symbol_eq}
use Rattle.soar_sym.specs.declared.symbol.Sym.{Sym}
use Rattle.defs_soar.specs.Sorted.{has_symbol}
use Rattle.level_laws.specs.Labels.{Links, Labels}
use Rattle.level_laws.proofs.SymbolLemmas.{symbol_same, symbol_self}
use Rattle.level_laws.proofs.ReachedLemmas.{or_split, or_first, or_second}
use Rattle.level_change.specs.declared.forgetting.Had.{Had}
use Rattle.level_change.specs.Forgetting.{has_had, WereTold, Forgetting, has_level}

pub had_keeps : (xs : List Had) (h : Had) (s : Sym) → has_had xs s ≡ true → has_had (xs ++ h ∷ []) s ≡ true
had_keeps [] h s e = cc
had_keeps (x ∷ xs) h s e =
    elim (or_split (symbol_eq s x.id) (has_had xs s) e) [
      | inl f ↦ or_first (symbol_eq s x.id) (has_had (xs ++ h ∷ []) s) f
      | inr f ↦ or_second (symbol_eq s x.id) (has_had (xs ++ h ∷ []) s) (had_keeps xs h s f)
    ]

pub had_last : (xs : List Had) (h : Had) → has_had (xs ++ h ∷ []) h.id ≡ true
had_last [] h = or_first (symbol_eq h.id h.id) false (symbol_self h.id)
had_last (x ∷ xs) h = or_second (symbol_eq h.id x.id) (has_had (xs ++ h ∷ []) h.id) (had_last xs h)

pub had_split : (xs : List Had) (h : Had) (s : Sym) → has_had (xs ++ h ∷ []) s ≡ true → (has_had xs s ≡ true) ⊎ (s ≡ h.id)
had_split [] h s e = elim (or_split (symbol_eq s h.id) false e) [ inl f ↦ inr (symbol_same s h.id f) | inr f ↦ cc ]
had_split (x ∷ xs) h s e =
    elim (or_split (symbol_eq s x.id) (has_had (xs ++ h ∷ []) s) e) [
      | inl f ↦ inl (or_first (symbol_eq s x.id) (has_had xs s) f)
      | inr f ↦ elim (had_split xs h s f) [
        | inl g ↦ inl (or_second (symbol_eq s x.id) (has_had xs s) g)
        | inr g ↦ inr g
      ]
    ]

pub told_more : (told : Labels) (xs : List Had) (h : Had) → WereTold told xs → told h.id ≡ Some h.level → WereTold told (xs ++ h ∷ [])
told_more told [] h w e = (e, tt)
told_more told (x ∷ xs) h w e = (w.0, told_more told xs h w.1 e)

told_front : (told : Labels) (xs : List Had) (h : Had) → WereTold told (xs ++ h ∷ []) → WereTold told xs × (told h.id ≡ Some h.level)
told_front told [] h w = (tt, w.0)
told_front told (x ∷ xs) h w = let r = told_front told xs h w.1 in ((w.0, r.0), r.1)

pub level_is : (x : Option ℕ) (n : ℕ) → has_level x n ≡ true → x ≡ Some n
level_is None n h = cc
level_is (Some m) n h = grind arith

level_self : (n : ℕ) → has_level (Some n) n ≡ true
level_self n = grind arith

none_level : (x : Option ℕ) (n : ℕ) → x ≡ Some n → x ≡ None → true ≡ false
none_level x n a b = absurd (let e : Some n ≡ None = sym a ∙ b in cc)

-- one value is forgotten
pub forget_one : (links : Links) (goals : List Sym) (told now next : Labels) (had waiting : List Had) (x v : Sym) (n : ℕ) (left : List Sym) (h : Had) → h.id ≡ v → h.level ≡ n
    → Forgetting links goals told now had waiting x (v ∷ left) → has_level (now v) n ≡ true → ((s : Sym) → next s ≡ cond (symbol_eq v s) None (now s))
    → Forgetting links goals told next (had ++ h ∷ []) (waiting ++ h ∷ []) x left
forget_one links goals told now next had waiting x v n left h is_v is_n f up set = record { none = none; same = same; were = told_more told had h f.were was; wait = told_more told waiting h f.wait was; next = on }
  where
    now_v : now v ≡ Some n
    now_v = level_is (now v) n up

    not_had : (b : Bool) → has_had had v ≡ b → told v ≡ Some n
    not_had true e = absurd (let g : true ≡ false = none_level (now v) n now_v (f.none v e) in cc)
    not_had false e = sym (f.same v e) ∙ now_v

    was : told h.id ≡ Some h.level
    was = ap told is_v ∙ not_had (has_had had v) refl ∙ ap Some (sym is_n)

    set_at : (s : Sym) (b : Bool) → symbol_eq v s ≡ b → next s ≡ cond b None (now s)
    set_at s b e = set s ∙ ap (λ b. cond b None (now s)) e

    none_by : (s : Sym) (b : Bool) → symbol_eq v s ≡ b → has_had (had ++ h ∷ []) s ≡ true → next s ≡ None
    none_by s true e k = set_at s true e
    none_by s false e k =
        elim (had_split had h s k) [
          | inl g ↦ set_at s false e ∙ f.none s g
          | inr g ↦ absurd (let c : true ≡ false = sym (symbol_self v) ∙ ap (symbol_eq v) (sym (g ∙ is_v)) ∙ e in cc)
        ]

    none : (s : Sym) → has_had (had ++ h ∷ []) s ≡ true → next s ≡ None
    none s k = none_by s (symbol_eq v s) refl k

    before : (s : Sym) (b : Bool) → has_had had s ≡ b → has_had (had ++ h ∷ []) s ≡ false → has_had had s ≡ false
    before s true e k = absurd (let c : true ≡ false = sym (had_keeps had h s e) ∙ k in cc)
    before s false e k = e

    same_by : (s : Sym) (b : Bool) → symbol_eq v s ≡ b → has_had (had ++ h ∷ []) s ≡ false → next s ≡ told s
    same_by s true e k = absurd (let c : true ≡ false = sym (had_last had h) ∙ ap (has_had (had ++ h ∷ [])) (is_v ∙ symbol_same v s e) ∙ k in cc)
    same_by s false e k = set_at s false e ∙ f.same s (before s (has_had had s) refl k)

    same : (s : Sym) → has_had (had ++ h ∷ []) s ≡ false → next s ≡ told s
    same s k = same_by s (symbol_eq v s) refl k

    on : (a y : Sym) (m : ℕ) → links a y ≡ true → told a ≡ Some m → told y ≡ Some m → has_symbol goals y ≡ false → has_had (had ++ h ∷ []) a ≡ true
        → (has_had (had ++ h ∷ []) y ≡ true) ⊎ ((has_had (waiting ++ h ∷ []) a ≡ true) ⊎ ((a ≡ x) × (has_symbol left y ≡ true)))
    on a y m link at at_y ng k =
        elim (had_split had h a k) [
          | inr g ↦ inr (inl (ap (has_had (waiting ++ h ∷ [])) g ∙ had_last waiting h))
          | inl g ↦ elim (f.next a y m link at at_y ng g) [
            | inl l ↦ inl (had_keeps had h y l)
            | inr (inl l) ↦ inr (inl (had_keeps waiting h a l))
            | inr (inr l) ↦ elim (or_split (symbol_eq y v) (has_symbol left y) l.1) [
              | inl e ↦ inl (ap (has_had (had ++ h ∷ [])) (symbol_same y v e ∙ sym is_v) ∙ had_last had h)
              | inr e ↦ inr (inr (l.0, e))
            ]
          ]
        ]

-- one value stays: it is a goal, or has another level
pub forget_not : (links : Links) (goals : List Sym) (told now : Labels) (had waiting : List Had) (x v : Sym) (n : ℕ) (left : List Sym) → told x ≡ Some n
    → Forgetting links goals told now had waiting x (v ∷ left) → (has_level (now v) n && not (has_symbol goals v)) ≡ false → Forgetting links goals told now had waiting x left
forget_not links goals told now had waiting x v n left at_x f skip = record { none = f.none; same = f.same; were = f.were; wait = f.wait; next = on }
  where
    had_it : told v ≡ Some n → (b : Bool) → has_had had v ≡ b → (l : Bool) → has_level (now v) n ≡ l → (g : Bool) → has_symbol goals v ≡ g → g ≡ false → (l && not g) ≡ false → has_had had v ≡ true
    had_it at true e l el g eg ng k = e
    had_it at false e true el true eg ng k = absurd cc
    had_it at false e true el false eg ng k = absurd cc
    had_it at false e false el g eg ng k = absurd (let c : true ≡ false = sym (level_self n) ∙ ap (λ z. has_level z n) (sym (f.same v e ∙ at)) ∙ el in cc)

    on : (a y : Sym) (m : ℕ) → links a y ≡ true → told a ≡ Some m → told y ≡ Some m → has_symbol goals y ≡ false → has_had had a ≡ true
        → (has_had had y ≡ true) ⊎ ((has_had waiting a ≡ true) ⊎ ((a ≡ x) × (has_symbol left y ≡ true)))
    on a y m link at at_y ng k =
        elim (f.next a y m link at at_y ng k) [
          | inl l ↦ inl l
          | inr (inl l) ↦ inr (inl l)
          | inr (inr l) ↦ elim (or_split (symbol_eq y v) (has_symbol left y) l.1) [
            | inl e ↦
                let y_v = symbol_same y v e in
                let level : told v ≡ Some n = ap told (sym y_v) ∙ at_y ∙ sym at ∙ ap told l.0 ∙ at_x in
                inl (ap (has_had had) y_v ∙ had_it level (has_had had v) refl (has_level (now v) n) refl (has_symbol goals v) refl (ap (has_symbol goals) (sym y_v) ∙ ng) skip)
            | inr e ↦ inr (inr (l.0, e))
          ]
        ]

-- one symbol is taken from what waits
pub forget_next : (links : Links) (goals : List Sym) (told now : Labels) (had rest : List Had) (h : Had) (x : Sym) (values : List Sym) → ((y : Sym) → links h.id y ≡ has_symbol values y)
    → Forgetting links goals told now had (rest ++ h ∷ []) x [] → (told h.id ≡ Some h.level) × Forgetting links goals told now had rest h.id values
forget_next links goals told now had rest h x values listed f = ((told_front told rest h f.wait).1, record { none = f.none; same = f.same; were = f.were; wait = (told_front told rest h f.wait).0; next = on })
  where
    on : (a y : Sym) (m : ℕ) → links a y ≡ true → told a ≡ Some m → told y ≡ Some m → has_symbol goals y ≡ false → has_had had a ≡ true
        → (has_had had y ≡ true) ⊎ ((has_had rest a ≡ true) ⊎ ((a ≡ h.id) × (has_symbol values y ≡ true)))
    on a y m link at at_y ng k =
        elim (f.next a y m link at at_y ng k) [
          | inl l ↦ inl l
          | inr (inl l) ↦ elim (had_split rest h a l) [
            | inl g ↦ inr (inl g)
            | inr g ↦ inr (inr (g, sym (listed y) ∙ ap (λ z. links z y) (sym g) ∙ link))
          ]
          | inr (inr l) ↦ absurd (let c : false ≡ true = l.1 in cc)
        ]

pub forget_done : (links : Links) (goals : List Sym) (told now : Labels) (had waiting : List Had) (x y : Sym) → Forgetting links goals told now had waiting x [] → Forgetting links goals told now had waiting y []
forget_done links goals told now had waiting x y f = record { none = f.none; same = f.same; were = f.were; wait = f.wait; next = on }
  where
    on : (a b : Sym) (m : ℕ) → links a b ≡ true → told a ≡ Some m → told b ≡ Some m → has_symbol goals b ≡ false → has_had had a ≡ true
        → (has_had had b ≡ true) ⊎ ((has_had waiting a ≡ true) ⊎ ((a ≡ y) × (has_symbol [] b ≡ true)))
    on a b m link at at_b ng k =
        elim (f.next a b m link at at_b ng k) [
          | inl l ↦ inl l
          | inr (inl l) ↦ inr (inl l)
          | inr (inr l) ↦ absurd (let c : false ≡ true = l.1 in cc)
        ]
