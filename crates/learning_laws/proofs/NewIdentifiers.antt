-- How a learned rule's firing names what it makes: what the conditions bind stays, and what is new gets a new number of its letter.
use Rattle.std.proofs.Common.{◌≡◌, ◌≢◌, refl, sym, ◌∙◌, ap, subst, ℕ, ◌+◌, ◌-◌, ◌≤◌, ◌<◌, Bool, true, false, ◌==◌, cond, inl, inr, ◌⊎◌, arith, List, [], ◌∷◌, ◌++◌, length, get_or, set, Option, Some, None, Ok}
use Rattle.std.proofs.lemmas.List.{length-set, get_or-set_same, get_or-set_other}
use Rattle.soar_sym.specs.Letters.{last_of, with_last}
use Rattle.soar_sym.specs.Words.{Texts}
use Rattle.soar_sym.specs.declared.symbol.Sym.{Sym}
use Rattle.soar_sym.specs.declared.symbol.Sym.TheVariants.{Ident, Word, Int}
use Rattle.soar_rule.specs.declared.cond.Atom.TheVariants.{Const}
use Rattle.defs_match.specs.Testing.{Bindings, symbol_of}
use Rattle.defs_soar.specs.Candidate.{with_variables}
use Rattle.defs_soar.specs.Laws.{IsIn}
use Rattle.defs_soar.specs.Naming.{Naming, atom_of_action, letter_from, text_of_name, name_at, variable_value, with_new}
use Rattle.defs_soar.specs.Variablized.{Variablized, of_identifier}
use Rattle.defs_soar.specs.Values.{is_identifier}
use Rattle.learning_laws.proofs.FieldLaws.{HaveSlots}
use Rattle.learning_laws.proofs.Moving.{push_known, push_unknown, same_here}
use Rattle.learning_laws.proofs.SlotLaws.{number_apart, number_of}

-- what is found after one more binding was there, or is the new one
pub found_more : (v w : ℕ) (bs : Bindings) (x t : Sym) → symbol_of v (bs ++ (w, x) ∷ []) ≡ Some t → (symbol_of v bs ≡ Some t) ⊎ ((w ≡ v) × (x ≡ t))
found_more v w bs x t h = go (symbol_of v bs) refl
  where
    new : (b : Bool) → (w == v) ≡ b → cond b (Some x) None ≡ Some t → (w ≡ v) × (x ≡ t)
    new true q k = (grind arith, cc)
    new false q k = absurd (cc)

    go : (o : Option Sym) → symbol_of v bs ≡ o → (symbol_of v bs ≡ Some t) ⊎ ((w ≡ v) × (x ≡ t))
    go (Some u) q = let k = sym (push_known v bs ((w, x) ∷ []) u q) ∙ h in inl (q ∙ k)
    go None q = inr (new (w == v) refl (sym (push_unknown v bs ((w, x) ∷ []) q) ∙ h))

ident_letter : (l m a b : ℕ) → Ident l a ≡ Ident m b → (l ≡ m) × (a ≡ b)
ident_letter l m a b h = (grind arith, grind arith)

-- ---- letters

pub last_new : (letters : List ℕ) (l n : ℕ) → length letters ≡ 26 → l ≤ 90 → last_of (with_last letters l n) l ≡ n
last_new letters l n h k = get_or-set_same letters (l - 65) n 0 (omega arith)

pub last_other : (letters : List ℕ) (l m n : ℕ) → (m - 65 ≢ l - 65) → last_of (with_last letters l n) m ≡ last_of letters m
last_other letters l m n h = get_or-set_other letters (l - 65) (m - 65) n 0 h

pub last_grows : (letters : List ℕ) (l m n : ℕ) → length letters ≡ 26 → l ≤ 90 → last_of letters l ≤ n → last_of letters m ≤ last_of (with_last letters l n) m
last_grows letters l m n h k g = go (m - 65 == l - 65) refl
  where
    go : (b : Bool) → (m - 65 == l - 65) ≡ b → last_of letters m ≤ last_of (with_last letters l n) m
    go true q =
        let same : m - 65 ≡ l - 65 = grind arith in
        let there : get_or (set letters (l - 65) n) (m - 65) 0 ≡ n = ap (λ i. get_or (set letters (l - 65) n) i 0) same ∙ get_or-set_same letters (l - 65) n 0 (omega arith) in
        let old : get_or letters (m - 65) 0 ≡ get_or letters (l - 65) 0 = ap (λ i. get_or letters i 0) same in
        let bound : get_or letters (l - 65) 0 ≤ n = g in omega arith
    go false q = let same = last_other letters l m n (λ e. absurd (grind arith)) in omega arith

-- ---- the naming of a learned rule's firing

-- the variables and their names, what the conditions bind, what the wishes speak of, and the last number of each letter before
pub record Setting : Type 0 where
  pub variablized : List Variablized
  pub seen : List Sym
  pub wished : List Sym
  pub vars : List Sym
  pub words : Texts
  pub base : List ℕ

pub record IsSetting (g : Setting) : Type 0 where
  pub seen_slots : HaveSlots g.variablized g.seen
  pub letter : (l n : ℕ) → IsIn (of_identifier (Ident l n)) g.variablized → IsIn (Ident l n) g.wished → letter_from (text_of_name g.words (name_at g.vars (number_of g.variablized (Ident l n)))) ≡ l
  pub range : (l n : ℕ) → IsIn (Ident l n) g.wished → l ≤ 90
  pub given : (l n : ℕ) → IsIn (Ident l n) g.seen → n ≤ last_of g.base l

-- an identifier's variable stands for it where the conditions bind it, and else for a new one of its letter
abbrev pub StandsFor : Setting → List ℕ → ℕ → ℕ → Sym → Type 0
StandsFor g letters l k t = (IsIn (Ident l k) g.seen × (t ≡ Ident l k)) ⊎ ((m : ℕ) × (t ≡ Ident l m) × (last_of g.base l < m) × (m ≤ last_of letters l))

pub record Named (g : Setting) (n : Naming) : Type 0 where
  pub words : n.words ≡ g.words
  pub vars : n.vars ≡ g.vars
  pub long : length n.letters ≡ 26
  pub grow : (l : ℕ) → last_of g.base l ≤ last_of n.letters l
  pub known : (s : Sym) → IsIn s g.seen → symbol_of (number_of g.variablized s) n.bindings ≡ Some s
  pub new : (l k : ℕ) (t : Sym) → IsIn (of_identifier (Ident l k)) g.variablized → symbol_of (number_of g.variablized (Ident l k)) n.bindings ≡ Some t → StandsFor g n.letters l k t
  pub apart : (l k m j : ℕ) (t : Sym) → IsIn (of_identifier (Ident l k)) g.variablized → IsIn (of_identifier (Ident m j)) g.variablized
      → symbol_of (number_of g.variablized (Ident l k)) n.bindings ≡ Some t → symbol_of (number_of g.variablized (Ident m j)) n.bindings ≡ Some t → Ident l k ≡ Ident m j

abbrev pub Extends : Naming → Naming → Type 0
Extends n after = (v : ℕ) (t : Sym) → symbol_of v n.bindings ≡ Some t → symbol_of v after.bindings ≡ Some t

module _ (g : Setting) (ok : IsSetting g) where
  stands_on : (letters more : List ℕ) (l k : ℕ) (t : Sym) → last_of letters l ≤ last_of more l → StandsFor g letters l k t → StandsFor g more l k t
  stands_on letters more l k t h (inl e) = inl e
  stands_on letters more l k t h (inr e) = let least : e.0 ≤ last_of letters l = e.3 in inr (e.0, e.1, e.2, omega arith)

  -- a new identifier is none that was there
  not_new : (letters : List ℕ) (l m k : ℕ) → last_of g.base m ≤ last_of letters m → StandsFor g letters l k (Ident m (last_of letters m + 1)) → ⊥
  not_new letters l m k grow (inl e) =
      let q = ident_letter m l (last_of letters m + 1) k e.1 in
      let small : k ≤ last_of g.base l = ok.given l k e.0 in
      let same : last_of g.base l ≡ last_of g.base m = ap (last_of g.base) (sym q.0) in
      let number : last_of letters m + 1 ≡ k = q.1 in absurd (omega arith)
  not_new letters l m k grow (inr e) =
      let q = ident_letter m l (last_of letters m + 1) e.0 e.1 in
      let few : e.0 ≤ last_of letters l = e.3 in
      let same : last_of letters l ≡ last_of letters m = ap (last_of letters) (sym q.0) in
      let number : last_of letters m + 1 ≡ e.0 = q.1 in absurd (omega arith)

  module _ (n : Naming) (h : Named g n) (l k : ℕ) (i : IsIn (of_identifier (Ident l k)) g.variablized) (said : IsIn (Ident l k) g.wished) where
    abbrev number : ℕ
    number = last_of n.letters l + 1

    abbrev after : Naming
    after = with_new (number_of g.variablized (Ident l k)) l number n

    letters_grow : (m : ℕ) → last_of n.letters m ≤ last_of after.letters m
    letters_grow m = last_grows n.letters l m number h.long (ok.range l k said) (omega arith)

    named_new : Named g after
    named_new = record {
      words = h.words;
      vars = h.vars;
      long = length-set n.letters (l - 65) number ∙ h.long;
      grow = λ m. let a : last_of g.base m ≤ last_of n.letters m = h.grow m in let b : last_of n.letters m ≤ last_of after.letters m = letters_grow m in omega arith;
      known = λ s j. push_known (number_of g.variablized s) n.bindings ((number_of g.variablized (Ident l k), Ident l number) ∷ []) s (h.known s j);
      new = λ m j t slot f. new m j t slot (found_more (number_of g.variablized (Ident m j)) (number_of g.variablized (Ident l k)) n.bindings (Ident l number) t f);
      apart = λ a b m j t x y f e.
          apart a b m j t x y (found_more (number_of g.variablized (Ident a b)) (number_of g.variablized (Ident l k)) n.bindings (Ident l number) t f)
          (found_more (number_of g.variablized (Ident m j)) (number_of g.variablized (Ident l k)) n.bindings (Ident l number) t e);
    }
      where
        here : (m j : ℕ) → IsIn (of_identifier (Ident m j)) g.variablized → number_of g.variablized (Ident l k) ≡ number_of g.variablized (Ident m j) → Ident l k ≡ Ident m j
        here m j slot q = number_apart g.variablized (Ident l k) (Ident m j) i slot q

        new : (m j : ℕ) (t : Sym) → IsIn (of_identifier (Ident m j)) g.variablized
            → (symbol_of (number_of g.variablized (Ident m j)) n.bindings ≡ Some t) ⊎ ((number_of g.variablized (Ident l k) ≡ number_of g.variablized (Ident m j)) × (Ident l number ≡ t)) → StandsFor g after.letters m j t
        new m j t slot (inl f) = stands_on n.letters after.letters m j t (letters_grow m) (h.new m j t slot f)
        new m j t slot (inr f) =
            let q = ident_letter l m k j (here m j slot f.0) in
            let less : last_of g.base l ≤ last_of n.letters l = h.grow l in
            let there : last_of after.letters l ≡ number = last_new n.letters l number h.long (ok.range l k said) in
            subst (λ x. StandsFor g after.letters x j t) q.0 (inr (number, sym f.1, omega arith, omega arith))

        mixed : (a b m j : ℕ) (t : Sym) → IsIn (of_identifier (Ident a b)) g.variablized → symbol_of (number_of g.variablized (Ident a b)) n.bindings ≡ Some t → Ident l number ≡ t → ⊥
        mixed a b m j t x f q = not_new n.letters a l b (h.grow l) (subst (λ y. StandsFor g n.letters a b y) (sym q) (h.new a b t x f))

        apart : (a b m j : ℕ) (t : Sym) → IsIn (of_identifier (Ident a b)) g.variablized → IsIn (of_identifier (Ident m j)) g.variablized
            → (symbol_of (number_of g.variablized (Ident a b)) n.bindings ≡ Some t) ⊎ ((number_of g.variablized (Ident l k) ≡ number_of g.variablized (Ident a b)) × (Ident l number ≡ t))
            → (symbol_of (number_of g.variablized (Ident m j)) n.bindings ≡ Some t) ⊎ ((number_of g.variablized (Ident l k) ≡ number_of g.variablized (Ident m j)) × (Ident l number ≡ t)) → Ident a b ≡ Ident m j
        apart a b m j t x y (inl f) (inl e) = h.apart a b m j t x y f e
        apart a b m j t x y (inl f) (inr e) = absurd (mixed a b m j t x f e.1)
        apart a b m j t x y (inr f) (inl e) = absurd (mixed m j a b t y e f.1)
        apart a b m j t x y (inr f) (inr e) = sym (here a b x f.0) ∙ here m j y e.0

  -- ---- one symbol of an action

  pub record Evaluates (s : Sym) (n : Naming) : Type 0 where
    pub symbol : Sym
    pub after : Naming
    pub is : atom_of_action (with_variables true g.variablized (Const s)) n ≡ record { value = Ok symbol; naming = after }
    pub named : Named g after
    pub extends : Extends n after
    pub found : is_identifier s ≡ true → symbol_of (number_of g.variablized s) after.bindings ≡ Some symbol
    pub same : is_identifier s ≡ false → symbol ≡ s
    pub kind : is_identifier symbol ≡ is_identifier s

  identifier_of : (letters : List ℕ) (l k : ℕ) (t : Sym) → StandsFor g letters l k t → is_identifier t ≡ true
  identifier_of letters l k t (inl e) = ap is_identifier e.1
  identifier_of letters l k t (inr e) = ap is_identifier e.1

  pub evaluates : (s : Sym) (n : Naming) → Named g n → (is_identifier s ≡ true → IsIn (of_identifier s) g.variablized × IsIn s g.wished) → Evaluates s n
  evaluates (Word x) n h i = record { symbol = Word x; after = n; is = refl; named = h; extends = λ v t q. q; found = λ q. absurd (cc); same = λ q. refl; kind = refl }
  evaluates (Int z) n h i = record { symbol = Int z; after = n; is = refl; named = h; extends = λ v t q. q; found = λ q. absurd (cc); same = λ q. refl; kind = refl }
  evaluates (Ident l k) n h i = go (symbol_of (number_of g.variablized (Ident l k)) n.bindings) refl
    where
      go : (o : Option Sym) → symbol_of (number_of g.variablized (Ident l k)) n.bindings ≡ o → Evaluates (Ident l k) n
      go (Some t) q = record {
        symbol = t;
        after = n;
        is = ap (variable_value (number_of g.variablized (Ident l k)) n) q;
        named = h;
        extends = λ v t q. q;
        found = λ e. q;
        same = λ e. absurd (cc);
        kind = identifier_of n.letters l k t (h.new l k t (i refl).0 q);
      }
      go None q =
          let letter : letter_from (text_of_name n.words (name_at n.vars (number_of g.variablized (Ident l k)))) ≡ l =
          (λ j. letter_from (text_of_name (h.words j) (name_at (h.vars j) (number_of g.variablized (Ident l k))))) ∙ ok.letter l k (i refl).0 (i refl).1 in
          record {
            symbol = Ident l (last_of n.letters l + 1);
            after = with_new (number_of g.variablized (Ident l k)) l (last_of n.letters l + 1) n;
            is = ap (variable_value (number_of g.variablized (Ident l k)) n) q
                ∙ ap (λ x. record { value = Ok (Ident x (last_of n.letters x + 1)); naming = with_new (number_of g.variablized (Ident l k)) x (last_of n.letters x + 1) n }) letter;
            named = named_new n h l k (i refl).0 (i refl).1;
            extends = λ v t e. push_known v n.bindings ((number_of g.variablized (Ident l k), Ident l (last_of n.letters l + 1)) ∷ []) t e;
            found = λ e. push_unknown (number_of g.variablized (Ident l k)) n.bindings ((number_of g.variablized (Ident l k), Ident l (last_of n.letters l + 1)) ∷ []) q
                ∙ same_here (number_of g.variablized (Ident l k)) (Ident l (last_of n.letters l + 1));
            same = λ e. absurd (cc);
            kind = refl;
          }

  -- ---- what the symbols come to

  abbrev pub looked_up : Sym → Option Sym → Sym
  looked_up s (Some t) = t
  looked_up s None = s

  -- the symbol for which a symbol's variable stands
  abbrev pub look : Naming → Sym → Sym
  look n s = cond (is_identifier s) (looked_up s (symbol_of (number_of g.variablized s) n.bindings)) s

  pub looks : (s : Sym) (n last : Naming) (e : Evaluates s n) → Extends e.after last → e.symbol ≡ look last s
  looks s n last e x = go (is_identifier s) refl
    where
      go : (b : Bool) → is_identifier s ≡ b → e.symbol ≡ cond b (looked_up s (symbol_of (number_of g.variablized s) last.bindings)) s
      go true q = ap (looked_up s) (sym (x (number_of g.variablized s) e.symbol (e.found q)))
      go false q = e.same q
