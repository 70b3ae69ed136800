-- Behind a bare preference no value stands, since it would have been read as the referent.
use Rattle.std.proofs.Common.{◌≡◌, refl, sym, ◌∙◌, ap, subst, true, false, [], ◌∷◌, List, ℕ, zero, suc, Bool, Option, Some, None, Ok, length}
use Rattle.defs_text.specs.Lexing.{Saying}
use Rattle.defs_read.specs.Grammar.{Term, Compared, WishTree, accepting, rejecting, requiring, prohibiting, comparing, ItemTree}
use Rattle.defs_read.specs.Readers.{Read, then_read, begins, taken, taken_by, several_within, many, optional}
use Rattle.defs_read.specs.ReadingValues.{begins_term, term_at}
use Rattle.defs_read.specs.ReadingActions.{is_comparing, as_comparing, compared_at, as_mark_wish, begins_wish, wish_at, item_at}
use Rattle.defs_read.specs.Spelling.{Tokens}
use Rattle.reading_laws.specs.Lawful.{is_bare_wish, ends_bare}
use Rattle.reading_laws.proofs.ReaderLaws.{tree_in, rest_in, then_gives}
use Rattle.reading_laws.proofs.WishLaws.{IsMarkWish, mark_means}

-- behind a bare preference, what is left begins no value
abbrev pub Near : Bool → Tokens → Type 0
Near bare ts = bare ≡ true → begins begins_term ts ≡ false

pub differ : false ≡ true → ⊥
differ e = cc

compared_near : (d : ℕ) (ts : Tokens) (c : Compared) (rest : Tokens) → compared_at d ts ≡ Ok (c, rest) → Near (is_bare_wish (comparing c)) rest
compared_near d ts c rest e =
    let o = then_gives (taken as_comparing ts) (λ k rest. then_read (optional begins_term (term_at d) rest) (λ r rest. Ok (record { sign = k; referent = r }, rest))) (c, rest) e in
    let p = then_gives (optional begins_term (term_at d) o.0.1) (λ r rest. Ok (record { sign = o.0.0; referent = r }, rest)) (c, rest) o.2 in
    choose o.0.0 o.0.1 p.0 (begins begins_term o.0.1) refl p.1 p.2
  where
    with_referent : (k : ℕ) (t : Term) (left : Tokens) → ◌≡◌ {A = Read Saying Compared} (Ok (record { sign = k; referent = Some t }, left)) (Ok (c, rest)) → Near (is_bare_wish (comparing c)) rest
    with_referent k t left e = let same : ◌≡◌ {A = Compared} (record { sign = k; referent = Some t }) c = ap (λ r. tree_in r c) e in λ h. absurd (differ (ap (λ (x : Compared). is_bare_wish (comparing x)) same ∙ h))

    choose : (k : ℕ) (ts : Tokens) (x : Option Term × Tokens) (b : Bool) → begins begins_term ts ≡ b
        → ◌≡◌ {A = Read Saying (Option Term)} (elim b [ true ↦ then_read (term_at d ts) (λ a rest. Ok (Some a, rest)) | false ↦ Ok (None, ts) ]) (Ok x) → ◌≡◌ {A = Read Saying Compared} (Ok (record { sign = k; referent = x.0 }, x.1)) (Ok (c, rest))
        → Near (is_bare_wish (comparing c)) rest
    choose k ts x true f g e =
        let o = then_gives (term_at d ts) (λ a rest. Ok (Some a, rest)) x g in let some : Some o.0.0 ≡ x.0 = ap (λ r. tree_in r x.0) o.2 in
        with_referent k o.0.0 x.1 (ap (λ r. let z : Read Saying Compared = Ok (record { sign = k; referent = r }, x.1) in z) some ∙ e)
    choose k ts x false f g e = let left : ts ≡ x.1 = ap rest_in g in let more : x.1 ≡ rest = ap rest_in e in λ h. ap (begins begins_term) (sym (left ∙ more)) ∙ f

wish_near : (d : ℕ) (ts : Tokens) (w : WishTree) (rest : Tokens) → wish_at d ts ≡ Ok (w, rest) → Near (is_bare_wish w) rest
wish_near d ts w rest e = choose (begins is_comparing ts) e
  where
    plain : (v : WishTree) → IsMarkWish v → is_bare_wish v ≡ false
    plain accepting h = refl
    plain rejecting h = refl
    plain requiring h = refl
    plain prohibiting h = refl
    plain (comparing c) h = absurd h

    marked : (ts : Tokens) → taken as_mark_wish ts ≡ Ok (w, rest) → is_bare_wish w ≡ false
    marked [] e = absurd (cc)
    marked (t ∷ ts) e = go (as_mark_wish t) refl e
      where
        go : (o : Option WishTree) → as_mark_wish t ≡ o → taken_by o t ts ≡ Ok (w, rest) → is_bare_wish w ≡ false
        go None f e = absurd (cc)
        go (Some v) f e = let same : v ≡ w = ap (λ r. tree_in r w) e in ap is_bare_wish (sym same) ∙ plain v (mark_means t v f).1

    choose : (b : Bool) → ◌≡◌ {A = Read Saying WishTree} (elim b [ true ↦ then_read (compared_at d ts) (λ c rest. Ok (comparing c, rest)) | false ↦ taken as_mark_wish ts ]) (Ok (w, rest)) → Near (is_bare_wish w) rest
    choose true e =
        let o = then_gives (compared_at d ts) (λ c rest. Ok (comparing c, rest)) (w, rest) e in let same : comparing o.0.0 ≡ w = ap (λ r. tree_in r w) o.2 in let left : o.0.1 ≡ rest = ap rest_in o.2 in
        subst (λ v. Near (is_bare_wish v) rest) same (subst (Near (is_bare_wish (comparing o.0.0))) left (compared_near d ts o.0.0 o.0.1 o.1))
    choose false e = λ h. absurd (differ (sym (marked ts e) ∙ h))

-- the same of what is answered
near_same : (bare : Bool) (ws vs : List WishTree) (left rest : Tokens) → ◌≡◌ {A = Read Saying (List WishTree)} (Ok (vs, left)) (Ok (ws, rest)) → Near (ends_bare bare vs) left → Near (ends_bare bare ws) rest
near_same bare ws vs left rest e h = subst (λ l. Near (ends_bare bare l) rest) (ap (λ r. tree_in r ws) e) (subst (Near (ends_bare bare vs)) (ap rest_in e) h)

abbrev wishes_within : ℕ → ℕ → Tokens → Read Saying (List WishTree)
wishes_within d n ts = several_within {S = record {}} n (λ _ ts. begins begins_wish ts) (λ s a. s) (wish_at d) (record {}) ts

wishes_near : (d n : ℕ) (bare : Bool) (ts : Tokens) (ws : List WishTree) (rest : Tokens) → Near bare ts → wishes_within d n ts ≡ Ok (ws, rest) → Near (ends_bare bare ws) rest
wishes_near d zero bare ts ws rest h e = near_same bare ws [] ts rest e h
wishes_near d (suc n) bare ts ws rest h e = choose (wishes_near d n) (begins begins_wish ts) e
  where
    Further : Type 0
    Further = (bare : Bool) (ts : Tokens) (ws : List WishTree) (rest : Tokens) → Near bare ts → wishes_within d n ts ≡ Ok (ws, rest) → Near (ends_bare bare ws) rest

    choose : Further → (b : Bool)
        → ◌≡◌ {A = Read Saying (List WishTree)} (elim b [ true ↦ then_read (wish_at d ts) (λ a rest. then_read (wishes_within d n rest) (λ more others. Ok (a ∷ more, others))) | false ↦ Ok ([], ts) ]) (Ok (ws, rest))
        → Near (ends_bare bare ws) rest
    choose later true e =
        let o = then_gives (wish_at d ts) (λ a rest. then_read (wishes_within d n rest) (λ more others. Ok (a ∷ more, others))) (ws, rest) e in
        let p = then_gives (wishes_within d n o.0.1) (λ more others. Ok (o.0.0 ∷ more, others)) (ws, rest) o.2 in
        near_same bare ws (o.0.0 ∷ p.0.0) p.0.1 rest p.2 (later (is_bare_wish o.0.0) o.0.1 p.0.0 p.0.1 (wish_near d ts o.0.0 o.0.1 o.1) p.1)
    choose later false e = near_same bare ws [] ts rest e h

item_same : (i k : ItemTree) (left rest : Tokens) → ◌≡◌ {A = Read Saying ItemTree} (Ok (k, left)) (Ok (i, rest)) → Near (ends_bare false k.wishes) left → Near (ends_bare false i.wishes) rest
item_same i k left rest e h = subst (λ (x : ItemTree). Near (ends_bare false x.wishes) rest) (ap (λ r. tree_in r i) e) (subst (Near (ends_bare false k.wishes)) (ap rest_in e) h)

pub item_near : (d : ℕ) (ts : Tokens) (i : ItemTree) (rest : Tokens) → item_at d ts ≡ Ok (i, rest) → Near (ends_bare false i.wishes) rest
item_near d ts i rest e =
    let o = then_gives (term_at d ts) (λ v rest. then_read (many begins_wish (wish_at d) rest) (λ ws rest. Ok (record { value = v; wishes = ws }, rest))) (i, rest) e in
    let p = then_gives (many begins_wish (wish_at d) o.0.1) (λ ws rest. Ok (record { value = o.0.0; wishes = ws }, rest)) (i, rest) o.2 in
    item_same i (record { value = o.0.0; wishes = p.0.0 }) p.0.1 rest p.2 (wishes_near d (suc (length o.0.1)) false o.0.1 p.0.0 p.0.1 (λ h. absurd (differ h)) p.1)
