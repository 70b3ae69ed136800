-- What an action makes of an attribute is read exactly.
use Rattle.std.specs.Prelude.{◌↔◌, max}
use Rattle.std.proofs.Common.{◌≡◌, refl, sym, ◌∙◌, ap, subst, true, false, [], ◌∷◌, ◌++◌, List, ℕ, Option, Some, None, Ok, Err, arith, flat_map}
use Rattle.std.proofs.lemmas.Bool.Decides.{nat_tests}
use Rattle.defs_text.specs.Lexing.{Saying, mark, sign}
use Rattle.defs_read.specs.Grammar.{Term, ItemTree, AttributeMake}
use Rattle.defs_read.specs.Readers.{Read, then_read, begins, many}
use Rattle.defs_read.specs.ReadingTokens.{is_mark}
use Rattle.defs_read.specs.ReadingValues.{begins_term, term_at}
use Rattle.defs_read.specs.ReadingActions.{item_at, term_step_at, make_at}
use Rattle.defs_read.specs.Spelling.{Tokens, spelled_term, spelled_item, spelled_term_step, spelled_make}
use Rattle.reading_laws.specs.Lawful.{AllOf, IsTerm, IsItem, IsMake, ends_bare}
use Rattle.reading_laws.specs.Brackets.{most, term_brackets, item_brackets, make_brackets}
use Rattle.reading_laws.proofs.ReaderLaws.{Exact, Always, said_exact, equal_exact, append_assoc}
use Rattle.reading_laws.proofs.PieceLaws.{Spelled, piece_exact, last_exact, piece_done, many_exact}
use Rattle.reading_laws.proofs.LimitLaws.{Within, fits_both, fits_left, fits_right, all_within}
use Rattle.reading_laws.proofs.TokenLaws.{mark_part}
use Rattle.reading_laws.proofs.TermLaws.{term_exact}
use Rattle.reading_laws.proofs.CallLaws.{TermOk}
use Rattle.reading_laws.proofs.NearLaws.{item_near}
use Rattle.reading_laws.proofs.ItemLaws.{ItemOk, ItemsOk, EndsItems, item_exact, item_begins, items_from, items_alike, items_follow, items_exact}

-- ---- a path

step_exact : (d : ℕ) → Exact (Spelled spelled_term_step (TermOk (Some d))) (Spelled spelled_term_step (TermOk None)) Always (term_step_at d)
step_exact d =
    piece_done spelled_term_step spelled_term_step (λ t. refl) (λ t. (λ h. h.1, λ h. (tt, h))) (λ t. (λ h. h.1, λ h. (tt, h)))
    (piece_exact (λ (t : Term). record {}) (λ _. mark 46 ∷ []) spelled_term (mark_part 46)
    (λ _. said_exact (term_at d) (λ t u z. record { known = (tt, refl); spelled = z.spelled; lawful = z.lawful }) (λ t u z. record { spelled = z.spelled; lawful = z.lawful }) (λ t u z. record { known = (tt, refl); spelled = z.spelled; lawful = z.lawful })
    (λ t u z. record { known = z.known; spelled = z.spelled; lawful = (z.lawful.0, tt) }) (λ t rest s. s) (term_exact d))
    (λ t rest l s. tt))

path_exact : (d : ℕ) → Exact (Spelled (flat_map spelled_term_step) (AllOf (TermOk (Some d)))) (Spelled (flat_map spelled_term_step) (AllOf (TermOk None))) (λ ts rest. begins (is_mark 46) rest ≡ false) (many (is_mark 46) (term_step_at d))
path_exact d = many_exact (λ rest. begins (is_mark 46) rest ≡ false) (is_mark 46) spelled_term_step (TermOk (Some d)) (TermOk None) (term_step_at d) (step_exact d) (λ t rest l. refl) (λ a xs rest l m e. tt) (λ rest e. e)

-- what begins a value is no dot
value_no_dot : (rest : Tokens) → begins begins_term rest ≡ true → begins (is_mark 46) rest ≡ false
value_no_dot [] e = refl
value_no_dot (mark b ∷ rest) e = grind (arith, nat_tests)
value_no_dot (sign k ∷ rest) e = refl
value_no_dot _ e = refl

-- ---- an attribute with its values

abbrev pub MakeOk : Option ℕ → AttributeMake → Type 0
MakeOk = Within IsMake make_brackets

abbrev ItemTail : AttributeMake → Tokens
ItemTail m = spelled_item m.item ++ flat_map spelled_item m.items

abbrev MakeParts : Option ℕ → AttributeMake → Type 0
MakeParts m k = Unit {0} × (TermOk m k.attribute × (AllOf (TermOk m) k.path × (ItemOk m k.item × ItemsOk m (ends_bare false k.item.wishes) k.items)))

whole_make : (m : Option ℕ) (k : AttributeMake) → MakeParts m k ↔ MakeOk m k
whole_make m k = (there, back)
  where
    there : MakeParts m k → MakeOk m k
    there h =
        let p = (all_within IsTerm term_brackets m k.path).0 h.1.1.0 in let i = (all_within IsItem item_brackets m k.items).0 h.1.1.1.1.0 in (
          (h.1.0.0, p.0, h.1.1.1.0.0, i.0, h.1.1.1.1.1),
          fits_both m (term_brackets k.attribute) (max (most term_brackets k.path) (max (item_brackets k.item) (most item_brackets k.items))) h.1.0.1
              (fits_both m (most term_brackets k.path) (max (item_brackets k.item) (most item_brackets k.items)) p.1 (fits_both m (item_brackets k.item) (most item_brackets k.items) h.1.1.1.0.1 i.1)),
        )

    back : MakeOk m k → MakeParts m k
    back h =
        let one = fits_right m (term_brackets k.attribute) (max (most term_brackets k.path) (max (item_brackets k.item) (most item_brackets k.items))) h.1 in
        let two = fits_right m (most term_brackets k.path) (max (item_brackets k.item) (most item_brackets k.items)) one in
        let path = fits_left m (most term_brackets k.path) (max (item_brackets k.item) (most item_brackets k.items)) one in
        let items = fits_right m (item_brackets k.item) (most item_brackets k.items) two in (
          tt,
          (
            (h.0.0, fits_left m (term_brackets k.attribute) (max (most term_brackets k.path) (max (item_brackets k.item) (most item_brackets k.items))) h.1),
            (
              (all_within IsTerm term_brackets m k.path).1 (h.0.1, path),
              ((h.0.2, fits_left m (item_brackets k.item) (most item_brackets k.items) two), ((all_within IsItem item_brackets m k.items).1 (h.0.3, items), h.0.4)),
            ),
          ),
        )

make_again : (m : AttributeMake) (a : Term) (p : List Term) (i : ItemTree) → m.attribute ≡ a → m.path ≡ p → m.item ≡ i → ◌≡◌ {A = AttributeMake} (record { attribute = a; path = p; item = i; items = m.items }) m
make_again m a p i e f g = λ j. record { attribute = sym e j; path = sym f j; item = sym g j; items = m.items }

-- the items behind a path, as they are read, and with what one before them lets follow
abbrev items_many : ℕ → Term → List Term → Tokens → Read Saying AttributeMake
items_many d a p ts =
    then_read (item_at d ts) (λ item rest. then_read (many begins_term (item_at d) rest) (λ items rest. Ok (record { attribute = a; path = p; item = item; items = items }, rest)))

abbrev items_chain : ℕ → Term → List Term → Tokens → Read Saying AttributeMake
items_chain d a p ts =
    then_read (item_at d ts) (λ item rest. then_read (items_from d (ends_bare false item.wishes) rest) (λ items rest. Ok (record { attribute = a; path = p; item = item; items = items }, rest)))

items_same : (d : ℕ) (a : Term) (p : List Term) (ts : Tokens) → items_many d a p ts ≡ items_chain d a p ts
items_same d a p ts = go (item_at d ts) refl
  where
    go : (r : Read Saying ItemTree) → item_at d ts ≡ r → ◌≡◌ {A = Read Saying AttributeMake}
        (then_read r (λ item rest. then_read (many begins_term (item_at d) rest) (λ items rest. Ok (record { attribute = a; path = p; item = item; items = items }, rest))))
        (then_read r (λ item rest. then_read (items_from d (ends_bare false item.wishes) rest) (λ items rest. Ok (record { attribute = a; path = p; item = item; items = items }, rest))))
    go (Ok o) e = ap (λ q. then_read q (λ items rest. Ok (record { attribute = a; path = p; item = o.0; items = items }, rest))) (items_alike d (ends_bare false o.0.wishes) o.1 (item_near d ts o.0 o.1 e))
    go (Err o) e = refl

pub make_exact : (d : ℕ) → Exact (Spelled spelled_make (MakeOk (Some d))) (Spelled spelled_make (MakeOk None)) (λ m rest. EndsItems rest) (make_at d)
make_exact d =
    piece_done spelled_make spelled_make (λ m. refl) (whole_make (Some d)) (whole_make None)
    (piece_exact {Of = λ m. Unit {0}} (λ (m : AttributeMake). record {}) (λ _. mark 94 ∷ []) (λ m. spelled_term m.attribute ++ (flat_map spelled_term_step m.path ++ ItemTail m)) (mark_part 94)
    (λ _. piece_exact (λ (m : AttributeMake). m.attribute) spelled_term (λ m. flat_map spelled_term_step m.path ++ ItemTail m) (term_exact d)
    (λ attribute. piece_exact (λ (m : AttributeMake). m.path) (flat_map spelled_term_step) ItemTail (path_exact d)
    (λ path. equal_exact (items_chain d attribute path) (items_many d attribute path) (items_same d attribute path)
    (piece_exact {ok = λ m. ItemsOk (Some d) (ends_bare false m.item.wishes) m.items} {wide = λ m. ItemsOk None (ends_bare false m.item.wishes) m.items}
    (λ (m : AttributeMake). m.item) spelled_item (λ m. flat_map spelled_item m.items) (item_exact d)
    (λ item. said_exact (λ ts. then_read (items_from d (ends_bare false item.wishes) ts) (λ items rest. Ok (record { attribute = attribute; path = path; item = item; items = items }, rest)))
    (λ m u z. record { known = z.known; spelled = z.spelled; lawful = subst (λ (i : ItemTree). ItemsOk (Some d) (ends_bare false i.wishes) m.items) (sym z.known.1) z.lawful })
    (λ m u z. record { known = z.known; spelled = z.spelled; lawful = subst (λ (i : ItemTree). ItemsOk (Some d) (ends_bare false i.wishes) m.items) z.known.1 z.lawful })
    (λ m u z. record { known = z.known; spelled = z.spelled; lawful = subst (λ (i : ItemTree). ItemsOk None (ends_bare false i.wishes) m.items) (sym z.known.1) z.lawful })
    (λ m u z. record { known = z.known; spelled = z.spelled; lawful = ((items_exact d (ends_bare false m.item.wishes)).wide m.items (flat_map spelled_item m.items) (record { spelled = refl; lawful = z.lawful })).lawful })
    (λ m rest s. s)
    (last_exact (λ (m : AttributeMake). m.items) (flat_map spelled_item) (λ items. record { attribute = attribute; path = path; item = item; items = items }) (items_exact d (ends_bare false item.wishes))
    (λ items. ((((tt, refl), refl), refl), refl)) (λ items. refl) (λ m k. make_again m attribute path item k.0.0.1 k.0.1 k.1)))
    (λ m rest l s. items_follow (Some d) (ends_bare false m.item.wishes) m.items rest l s)))
    (λ m rest l s. value_no_dot (ItemTail m ++ rest) (ap (begins begins_term) (append_assoc (spelled_item m.item) (flat_map spelled_item m.items) rest) ∙ item_begins m.item (flat_map spelled_item m.items ++ rest))))
    (λ m rest l s. tt))
    (λ m rest l s. tt))

-- what ends them: nothing that goes on with one, and none more
pub record EndsMakes (rest : Tokens) : Type 0 where
  pub ends : EndsItems rest
  pub no_make : begins (is_mark 94) rest ≡ false

pub makes_follow : (ms : List AttributeMake) (rest : Tokens) → EndsMakes rest → EndsItems (flat_map spelled_make ms ++ rest)
makes_follow [] rest e = e.ends
makes_follow (m ∷ ms) rest e = record { no_wish = refl; no_value = refl }

pub makes_exact : (d : ℕ) → Exact (Spelled (flat_map spelled_make) (AllOf (MakeOk (Some d)))) (Spelled (flat_map spelled_make) (AllOf (MakeOk None))) (λ ms rest. EndsMakes rest) (many (is_mark 94) (make_at d))
makes_exact d = many_exact EndsMakes (is_mark 94) spelled_make (MakeOk (Some d)) (MakeOk None) (make_at d) (make_exact d) (λ m rest l. refl) (λ m ms rest l k e. makes_follow ms rest e) (λ rest e. e.no_make)
