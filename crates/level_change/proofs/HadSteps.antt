-- One step of forgetting, as it goes over the values, and of clearing.
use Rattle.std.proofs.Common.{◌≡◌, ℕ, ◌+◌, ◌*◌, ◌<◌, ◌≤◌, ◌&&◌, not, Bool, true, false, cond, List, [], ◌∷◌, ◌++◌, length, take, drop, get_or, Option, Some, None, refl, sym, ap, subst, ◌∙◌, ◌⊎◌, inl, inr}
use Rattle.std.proofs.lemmas.List.{at_drop_more, take_more}
use Rattle.soar_sym.specs.Equality.{symbol_eq}
use Rattle.soar_sym.specs.declared.symbol.Sym.{Sym}
use Rattle.soar_sym.specs.declared.symbol.Sym.TheVariants.{Ident}
use Rattle.defs_soar.specs.Sorted.{has_symbol}
use Rattle.level_laws.specs.Labels.{Links, Labels}
use Rattle.level_laws.proofs.SymbolLemmas.{symbol_same, symbol_self}
use Rattle.level_laws.proofs.ReachedLemmas.{last_of}
use Rattle.level_graph.proofs.PassSteps.{has_at}
use Rattle.level_change.specs.declared.forgetting.Had.{Had}
use Rattle.level_change.specs.Forgetting.{Forgetting, Cleared, has_level, has_had}
use Rattle.level_change.specs.declared.store.Store.{Store}
use Rattle.level_change.specs.Passing.{AreLinked, totals, one_if_told}
use Rattle.level_change.proofs.HadLemmas.{forget_one, forget_not, had_keeps, had_last, had_split, told_more, level_is}
use Rattle.level_change.proofs.TotalLemmas.{fewer}

abbrev pub Fore : List Sym → List Sym → ℕ → Labels → List Had → List Had → ℕ → Labels → List Had → List Had → Type 0
Fore goals values n old old_had old_waiting i told had waiting =
    ((links : Links) (first : Labels) (x : Sym) → first x ≡ Some n → Forgetting links goals first old old_had old_waiting x values → Forgetting links goals first told had waiting x (drop i values))
    × ((links : Store) (x : Sym) → AreLinked links x values → 2 * totals one_if_told told links + length waiting ≤ 2 * totals one_if_told old links + length old_waiting)
    × ((s : Sym) → has_had old_had s ≡ true → has_had had s ≡ true)

pub fore_over : (goals values : List Sym) (n : ℕ) (old : Labels) (old_had old_waiting : List Had) (i : ℕ) (told : Labels) (had waiting : List Had) → Fore goals values n old old_had old_waiting i told had waiting
    → i < length values → (has_level (told (get_or values i (Ident 0 0))) n && not (has_symbol goals (get_or values i (Ident 0 0)))) ≡ false → Fore goals values n old old_had old_waiting (i + 1) told had waiting
fore_over goals values n old old_had old_waiting i told had waiting h lt skip = (
  (λ links first x at f. forget_not links goals first told had waiting x (get_or values i (Ident 0 0)) n (drop (i + 1) values) at
      (subst (Forgetting links goals first told had waiting x) (at_drop_more (λ l. l) values i (Ident 0 0) lt) (h.0 links first x at f)) skip),
  h.1,
  h.2,
)

pub fore_to : (goals values : List Sym) (n : ℕ) (old : Labels) (old_had old_waiting : List Had) (i : ℕ) (told : Labels) (had waiting : List Had) (next : Labels) (it : Had) → it.id ≡ get_or values i (Ident 0 0) → it.level ≡ n
    → Fore goals values n old old_had old_waiting i told had waiting → i < length values → has_level (told (get_or values i (Ident 0 0))) n ≡ true
    → ((s : Sym) → next s ≡ cond (symbol_eq (get_or values i (Ident 0 0)) s) None (told s))
    → Fore goals values n old old_had old_waiting (i + 1) next (had ++ it ∷ []) (waiting ++ it ∷ [])
fore_to goals values n old old_had old_waiting i told had waiting next it is_v is_n h lt up set =
    let v : Sym = get_or values i (Ident 0 0) in (
      (λ links first x at f. forget_one links goals first told next had waiting x v n (drop (i + 1) values) it is_v is_n
          (subst (Forgetting links goals first told had waiting x) (at_drop_more (λ l. l) values i (Ident 0 0) lt) (h.0 links first x at f)) up set),
      (λ links x are. fewer told next v n set (level_is (told v) n up) links x (are v (has_at values i (Ident 0 0) lt)) waiting it (2 * totals one_if_told old links + length old_waiting) (h.1 links x are)),
      (λ s k. had_keeps had it s (h.2 s k)),
    )

-- ---- clearing

none_not : (n : ℕ) (x : Option ℕ) → x ≡ None → x ≡ Some n → true ≡ false
none_not n x a b = absurd (let e : None ≡ Some n = sym a ∙ b in cc)

pub cleared_none : (told : Labels) → Cleared told told [] []
cleared_none told = record { none = λ s h. cc; same = λ s h. refl; were = tt; all = λ s n h at. cc }

is_taken : (seeds : List Sym) (i : ℕ) (s : Sym) → i < length seeds → has_symbol (take (i + 1) seeds) s ≡ true → (has_symbol (take i seeds) s ≡ true) ⊎ (s ≡ get_or seeds i (Ident 0 0))
is_taken seeds i s lt h = last_of (take i seeds) (get_or seeds i (Ident 0 0)) s (ap (λ l. has_symbol l s) (sym (take_more seeds i (Ident 0 0) lt)) ∙ h)

-- a seed without a level, or one that is cleared already
pub clear_past : (told now : Labels) (had : List Had) (seeds : List Sym) (i : ℕ) → i < length seeds → Cleared told now had (take i seeds) → now (get_or seeds i (Ident 0 0)) ≡ None → Cleared told now had (take (i + 1) seeds)
clear_past told now had seeds i lt c none = record { none = c.none; same = c.same; were = c.were; all = all }
  where
    by : (s : Sym) (n : ℕ) → told s ≡ Some n → s ≡ get_or seeds i (Ident 0 0) → (b : Bool) → has_had had s ≡ b → has_had had s ≡ true
    by s n at is true e = e
    by s n at is false e = absurd (let c : true ≡ false = none_not n (now s) (ap now is ∙ none) (c.same s e ∙ at) in cc)

    all : (s : Sym) (n : ℕ) → has_symbol (take (i + 1) seeds) s ≡ true → told s ≡ Some n → has_had had s ≡ true
    all s n h at = elim (is_taken seeds i s lt h) [ inl before ↦ c.all s n before at | inr is ↦ by s n at is (has_had had s) refl ]

pub clear_one : (told now next : Labels) (had : List Had) (seeds : List Sym) (i n : ℕ) (it : Had) → i < length seeds → it.id ≡ get_or seeds i (Ident 0 0) → it.level ≡ n → Cleared told now had (take i seeds)
    → now (get_or seeds i (Ident 0 0)) ≡ Some n → ((s : Sym) → next s ≡ cond (symbol_eq (get_or seeds i (Ident 0 0)) s) None (now s)) → Cleared told next (had ++ it ∷ []) (take (i + 1) seeds)
clear_one told now next had seeds i n it lt is_v is_n c at set = record { none = none; same = same; were = told_more told had it c.were was; all = all }
  where
    v : Sym
    v = get_or seeds i (Ident 0 0)

    set_at : (s : Sym) (b : Bool) → symbol_eq v s ≡ b → next s ≡ cond b None (now s)
    set_at s b e = set s ∙ ap (λ b. cond b None (now s)) e

    told_v : (b : Bool) → has_had had v ≡ b → told v ≡ Some n
    told_v true e = absurd (let g : true ≡ false = none_not n (now v) (c.none v e) at in cc)
    told_v false e = sym (c.same v e) ∙ at

    was : told it.id ≡ Some it.level
    was = ap told is_v ∙ told_v (has_had had v) refl ∙ ap Some (sym is_n)

    none_by : (s : Sym) (b : Bool) → symbol_eq v s ≡ b → has_had (had ++ it ∷ []) s ≡ true → next s ≡ None
    none_by s true e k = set_at s true e
    none_by s false e k =
        elim (had_split had it s k) [
          | inl g ↦ set_at s false e ∙ c.none s g
          | inr g ↦ absurd (let c : true ≡ false = sym (symbol_self v) ∙ ap (symbol_eq v) (sym (g ∙ is_v)) ∙ e in cc)
        ]

    none : (s : Sym) → has_had (had ++ it ∷ []) s ≡ true → next s ≡ None
    none s k = none_by s (symbol_eq v s) refl k

    before : (s : Sym) (b : Bool) → has_had had s ≡ b → has_had (had ++ it ∷ []) s ≡ false → has_had had s ≡ false
    before s true e k = absurd (let c : true ≡ false = sym (had_keeps had it s e) ∙ k in cc)
    before s false e k = e

    same_by : (s : Sym) (b : Bool) → symbol_eq v s ≡ b → has_had (had ++ it ∷ []) s ≡ false → next s ≡ told s
    same_by s true e k = absurd (let c : true ≡ false = sym (had_last had it) ∙ ap (has_had (had ++ it ∷ [])) (is_v ∙ symbol_same v s e) ∙ k in cc)
    same_by s false e k = set_at s false e ∙ c.same s (before s (has_had had s) refl k)

    same : (s : Sym) → has_had (had ++ it ∷ []) s ≡ false → next s ≡ told s
    same s k = same_by s (symbol_eq v s) refl k

    all : (s : Sym) (m : ℕ) → has_symbol (take (i + 1) seeds) s ≡ true → told s ≡ Some m → has_had (had ++ it ∷ []) s ≡ true
    all s m h at_s =
        elim (is_taken seeds i s lt h) [
          | inl before ↦ had_keeps had it s (c.all s m before at_s)
          | inr is ↦ ap (has_had (had ++ it ∷ [])) (is ∙ sym is_v) ∙ had_last had it
        ]

-- what is cleared is forgotten, and what follows waits
pub forgets_first : (links : Links) (goals : List Sym) (told now : Labels) (had : List Had) (seeds : List Sym) (x : Sym) → Cleared told now had seeds → Forgetting links goals told now had had x []
forgets_first links goals told now had seeds x c = record { none = c.none; same = c.same; were = c.were; wait = c.were; next = λ a y m link at at_y ng h. inr (inl h) }
