-- Items of actions are read exactly.
use Rattle.std.specs.Prelude.{◌↔◌, ◌&&◌, not}
use Rattle.std.proofs.Common.{◌≡◌, refl, sym, ◌∙◌, ap, true, false, [], ◌∷◌, ◌++◌, List, ℕ, Bool, Option, Some, None, arith, flat_map}
use Rattle.defs_text.specs.Lexing.{Saying, mark, sign}
use Rattle.defs_read.specs.Grammar.{ItemTree}
use Rattle.defs_read.specs.Readers.{Read, begins, several, many}
use Rattle.defs_read.specs.ReadingValues.{begins_term}
use Rattle.defs_read.specs.ReadingActions.{begins_wish, item_at}
use Rattle.defs_read.specs.Spelling.{Tokens, spelled_term, spelled_wish, spelled_item}
use Rattle.reading_laws.specs.Lawful.{AllOf, IsWish, IsItem, ends_bare, AreApart}
use Rattle.reading_laws.specs.Brackets.{most, term_brackets, wish_brackets, item_brackets}
use Rattle.reading_laws.proofs.ReaderLaws.{Exact, said_exact, append_assoc}
use Rattle.reading_laws.proofs.SeveralLaws.{several_alike}
use Rattle.reading_laws.proofs.PieceLaws.{Spelled, piece_exact, last_exact, piece_done}
use Rattle.reading_laws.proofs.ChainLaws.{Lets, ChainOf, chain_exact}
use Rattle.reading_laws.proofs.LimitLaws.{Within, fits_both, fits_left, fits_right, all_within}
use Rattle.reading_laws.proofs.TermLaws.{term_exact}
use Rattle.reading_laws.proofs.CallLaws.{TermOk, term_begins}
use Rattle.reading_laws.proofs.WishLaws.{WishOk, EndsWishes, wishes_exact}
use Rattle.std.proofs.lemmas.Bool.Decides.{nat_tests}
use Rattle.reading_laws.proofs.NearLaws.{Near, differ, item_near}

-- ---- an item

abbrev pub ItemOk : Option ℕ → ItemTree → Type 0
ItemOk = Within IsItem item_brackets

whole_item : (m : Option ℕ) (i : ItemTree) → (TermOk m i.value × AllOf (WishOk m) i.wishes) ↔ ItemOk m i
whole_item m i = (there, back)
  where
    there : TermOk m i.value × AllOf (WishOk m) i.wishes → ItemOk m i
    there h = let w = (all_within IsWish wish_brackets m i.wishes).0 h.1 in ((h.0.0, w.0), fits_both m (term_brackets i.value) (most wish_brackets i.wishes) h.0.1 w.1)

    back : ItemOk m i → TermOk m i.value × AllOf (WishOk m) i.wishes
    back h =
        let w = fits_right m (term_brackets i.value) (most wish_brackets i.wishes) h.1 in
        ((h.0.0, fits_left m (term_brackets i.value) (most wish_brackets i.wishes) h.1), (all_within IsWish wish_brackets m i.wishes).1 (h.0.1, w))

-- what may follow an item
abbrev pub ItemStops : ItemTree → Tokens → Type 0
ItemStops i rest = EndsWishes (ends_bare false i.wishes) rest

pub item_exact : (d : ℕ) → Exact (Spelled spelled_item (ItemOk (Some d))) (Spelled spelled_item (ItemOk None)) ItemStops (item_at d)
item_exact d =
    piece_done spelled_item spelled_item (λ i. refl) (whole_item (Some d)) (whole_item None)
    (piece_exact {Of = λ i. Unit {0}} (λ (i : ItemTree). i.value) spelled_term (λ i. flat_map spelled_wish i.wishes) (term_exact d)
    (λ v. last_exact (λ (i : ItemTree). i.wishes) (flat_map spelled_wish) (λ ws. record { value = v; wishes = ws }) (wishes_exact d) (λ ws. (tt, refl)) (λ ws. refl)
    (λ i k. λ j. record { value = sym k.1 j; wishes = i.wishes }))
    (λ i rest l s. tt))

pub item_begins : (i : ItemTree) (rest : Tokens) → begins begins_term (spelled_item i ++ rest) ≡ true
item_begins i rest = ap (begins begins_term) (append_assoc (spelled_term i.value) (flat_map spelled_wish i.wishes) rest) ∙ term_begins i.value (flat_map spelled_wish i.wishes ++ rest)

-- ---- items in a row

abbrev pub Next : Bool → ItemTree → Bool
Next bare i = ends_bare false i.wishes

-- items that go on where none before them is bare
abbrev pub items_from : ℕ → Bool → Tokens → Read Saying (List ItemTree)
items_from d bare ts = several (λ bare ts. not bare && begins begins_term ts) Next (item_at d) bare ts

pub items_alike : (d : ℕ) (bare : Bool) (ts : Tokens) → Near bare ts → many begins_term (item_at d) ts ≡ items_from d bare ts
items_alike d bare ts h =
    sym (several_alike {R = record {}} (λ bare ts. not bare && begins begins_term ts) Next (λ _ ts. begins begins_term ts) (λ s a. s) (item_at d) (λ bare r ts. Near bare ts)
    (record { same = same; stays = λ bare r ts i rest h e. item_near d ts i rest e }) bare (record {}) ts h)
  where
    same : (bare : Bool) (r : record {}) (ts : Tokens) → Near bare ts → (not bare && begins begins_term ts) ≡ begins begins_term ts
    same true r ts h = sym (h refl)
    same false r ts h = refl

-- what ends the items: neither a preference nor a value
pub record EndsItems (rest : Tokens) : Type 0 where
  pub no_wish : begins begins_wish rest ≡ false
  pub no_value : begins begins_term rest ≡ false

-- what begins a value begins no preference
value_no_wish : (rest : Tokens) → begins begins_term rest ≡ true → begins begins_wish rest ≡ false
value_no_wish [] e = refl
value_no_wish (sign k ∷ rest) e = absurd (cc)
value_no_wish (mark b ∷ rest) e = grind (arith, nat_tests)
value_no_wish _ e = refl

abbrev pub ItemsOk : Option ℕ → Bool → List ItemTree → Type 0
ItemsOk m bare items = AllOf (ItemOk m) items × AreApart bare items

pub items_follow : (m : Option ℕ) (bare : Bool) (items : List ItemTree) (rest : Tokens) → ItemsOk m bare items → EndsItems rest → EndsWishes bare (flat_map spelled_item items ++ rest)
items_follow m bare [] rest l e = record { no_wish = e.no_wish; no_referent = λ h. e.no_value }
items_follow m bare (x ∷ xs) rest l e =
    let front = ap (begins begins_term) (append_assoc (spelled_item x) (flat_map spelled_item xs) rest) ∙ item_begins x (flat_map spelled_item xs ++ rest) in
    record { no_wish = value_no_wish ((spelled_item x ++ flat_map spelled_item xs) ++ rest) front; no_referent = λ h. absurd (differ (sym l.1.0 ∙ h)) }

pub items_exact : (d : ℕ) (bare : Bool) → Exact (Spelled (flat_map spelled_item) (ItemsOk (Some d) bare)) (Spelled (flat_map spelled_item) (ItemsOk None bare)) (λ items rest. EndsItems rest) (items_from d bare)
items_exact d bare =
    said_exact (items_from d bare) (λ is u z. record { spelled = z.spelled; lawful = (z.lawful.each, apart bare is z.lawful.lets_each) }) (λ is u z. record { spelled = z.spelled; lawful = record { each = z.lawful.0; lets_each = lets bare is z.lawful.1 } })
    (λ is u z. record { spelled = z.spelled; lawful = (z.lawful.each, apart bare is z.lawful.lets_each) }) (λ is u z. record { spelled = z.spelled; lawful = (wide is z.lawful.0, z.lawful.1) }) (λ is rest e. e)
    (chain_exact not Next (λ bare rest. EndsItems rest) begins_term spelled_item (ItemOk (Some d)) (ItemOk None) (item_at d) (item_exact d) (λ i rest l. item_begins i rest) follows stops bare)
  where
    plain : (b : Bool) → not b ≡ true → b ≡ false
    plain true e = absurd (cc)
    plain false e = refl

    apart : (bare : Bool) (is : List ItemTree) → Lets not Next bare is → AreApart bare is
    apart bare [] h = tt
    apart bare (i ∷ is) h = (plain bare h.0, apart (ends_bare false i.wishes) is h.1)

    lets : (bare : Bool) (is : List ItemTree) → AreApart bare is → Lets not Next bare is
    lets bare [] h = tt
    lets bare (i ∷ is) h = (ap not h.0, lets (ends_bare false i.wishes) is h.1)

    wide : (is : List ItemTree) → AllOf (ItemOk (Some d)) is → AllOf (ItemOk None) is
    wide [] h = tt
    wide (i ∷ is) h = ((h.0.0, tt), wide is h.1)

    stops : (s : Bool) (rest : Tokens) → EndsItems rest → (not s && begins begins_term rest) ≡ false
    stops true rest e = refl
    stops false rest e = e.no_value

    follows : (s : Bool) (i : ItemTree) (is : List ItemTree) (rest : Tokens) → ItemOk (Some d) i → ChainOf not Next (ItemOk (Some d)) (ends_bare false i.wishes) is → EndsItems rest → ItemStops i (flat_map spelled_item is ++ rest)
    follows s i is rest l m e = items_follow (Some d) (ends_bare false i.wishes) is rest (m.each, apart (ends_bare false i.wishes) is m.lets_each) e
