-- Conditions are read exactly.
use Rattle.std.specs.Prelude.{◌↔◌, max, ◌||◌}
use Rattle.std.proofs.Common.{◌≡◌, refl, sym, ◌∙◌, ap, subst, true, false, [], ◌∷◌, ◌++◌, List, ℕ, zero, suc, Bool, Option, Some, None, inl, inr, Err, length, ◌<◌, arith, flat_map}
use Rattle.std.proofs.lemmas.Bool.Decides.{nat_tests}
use Rattle.defs_text.specs.Lexing.{Saying, mark, sign}
use Rattle.defs_read.specs.Grammar.{Group, Part, grouped, joined, Parts, no_parts, part_and}
use Rattle.defs_read.specs.Readers.{unexpected, deep, then_read, begins, many, flag}
use Rattle.defs_read.specs.ReadingTokens.{ReadOf, is_mark, is_sign}
use Rattle.defs_read.specs.Reading.{parts_of, opens, begins_part, joined_at, grouped_at, part_at, group_at}
use Rattle.defs_read.specs.Spelling.{Tokens, spelled_flag, spelled_group, spelled_part, spelled_parts}
use Rattle.reading_laws.specs.Lawful.{AllOf, IsPart, AreParts}
use Rattle.reading_laws.specs.Brackets.{group_brackets, part_brackets, parts_brackets}
use Rattle.reading_laws.proofs.ReaderLaws.{Viable, Outcome, ended, refused, Exact, Joined, Always, then_exact, said_exact}
use Rattle.reading_laws.proofs.ChoiceLaws.{Either, begins_looks, Begun, choice_exact, deep_exact}
use Rattle.reading_laws.proofs.PieceLaws.{Spelled, Piece, Any, piece_exact, last_exact, many_exact, Built, built_exact}
use Rattle.reading_laws.proofs.LimitLaws.{Fits, Within, fits_none, fits_both, fits_left, fits_right, outer, fits_outside, fits_inside}
use Rattle.reading_laws.proofs.TokenLaws.{mark_part, sign_flag}
use Rattle.reading_laws.proofs.ConditionLaws.{no_flag_if}
use Rattle.reading_laws.proofs.GroupLaws.{GroupOk, group_exact}

-- ---- a reader that refuses all

abbrev Never : {A : Type 0} → A → Tokens → Type 0
Never a u = ⊥

refuse_exact : {A : Type 0} {W : A → Tokens → Type 0} → ((a : A) × (u : Tokens) × W a u) → Exact Never W Always (λ ts. Err (unexpected, length ts))
refuse_exact {A} {W} s = record { outcome = outcome; whole = λ a u rest n m. absurd n; wide = λ a u n. absurd n; sample = s; steps = λ ts a rest e. absurd (cc) }
  where
    none : Viable W []
    none = record { tree = s.0; more = s.1; spells = s.2 }

    outcome : (ts : Tokens) → Outcome Never W (λ ts. Err (unexpected, length ts)) ts
    outcome [] = ended none refl
    outcome (t ∷ ts) = refused unexpected [] t ts refl none (λ d. absurd (cc)) (λ y. refl)

-- ---- conditions in a list, and as a tree

abbrev pub list_of : Parts → List Part
list_of no_parts = []
list_of (part_and p ps) = p ∷ list_of ps

pub parts_again : (ps : Parts) → parts_of (list_of ps) ≡ ps
parts_again no_parts = refl
parts_again (part_and p ps) = ap (part_and p) (parts_again ps)

pub list_again : (ps : List Part) → list_of (parts_of ps) ≡ ps
list_again [] = refl
list_again (p ∷ ps) = ap (λ l. p ∷ l) (list_again ps)

pub spelled_list : (ps : Parts) → flat_map spelled_part (list_of ps) ≡ spelled_parts ps
spelled_list no_parts = refl
spelled_list (part_and p ps) = ap (λ l. spelled_part p ++ l) (spelled_list ps)

abbrev pub PartOk : Option ℕ → Part → Type 0
PartOk = Within IsPart part_brackets

pub parts_within : (m : Option ℕ) (ps : Parts) → AllOf (PartOk m) (list_of ps) ↔ (AreParts ps × Fits m (parts_brackets ps))
parts_within m ps = (there ps, back ps)
  where
    there : (ps : Parts) → AllOf (PartOk m) (list_of ps) → AreParts ps × Fits m (parts_brackets ps)
    there no_parts h = (tt, fits_none m)
    there (part_and p ps) h = let l = there ps h.1 in ((h.0.0, l.0), fits_both m (part_brackets p) (parts_brackets ps) h.0.1 l.1)

    back : (ps : Parts) → AreParts ps × Fits m (parts_brackets ps) → AllOf (PartOk m) (list_of ps)
    back no_parts h = tt
    back (part_and p ps) h = ((h.0.0, fits_left m (part_brackets p) (parts_brackets ps) h.1), back ps (h.0.1, fits_right m (part_brackets p) (parts_brackets ps) h.1))

-- ---- what begins a condition

pub part_begins : (p : Part) (rest : Tokens) → begins begins_part (spelled_part p ++ rest) ≡ true
part_begins (grouped true g) rest = refl
part_begins (grouped false g) rest = refl
part_begins (joined true p ps) rest = refl
part_begins (joined false p ps) rest = refl

pub parts_exact : (d : ℕ) → Exact (Spelled spelled_part (PartOk (Some d))) (Spelled spelled_part (PartOk None)) Always (part_at d)
    → Exact (Spelled (flat_map spelled_part) (AllOf (PartOk (Some d)))) (Spelled (flat_map spelled_part) (AllOf (PartOk None))) (λ ps rest. begins begins_part rest ≡ false) (many begins_part (part_at d))
parts_exact d x = many_exact (λ rest. begins begins_part rest ≡ false) begins_part spelled_part (PartOk (Some d)) (PartOk None) (part_at d) x (λ p rest l. part_begins p rest) (λ a xs rest l m e. tt) (λ rest e. e)

-- ---- conditions in braces

-- such conditions, with the sign or without
abbrev AreJoined : Bool → Part → Type 0
AreJoined negative (grouped n g) = ⊥
AreJoined negative (joined n p ps) = n ≡ negative

abbrev first_of : Part → Part
first_of (grouped n g) = grouped n g
first_of (joined n p ps) = p

abbrev others_of : Part → List Part
others_of (grouped n g) = []
others_of (joined n p ps) = list_of ps

abbrev JoinedTail : Part → Tokens
JoinedTail c = mark 123 ∷ (spelled_part (first_of c) ++ (flat_map spelled_part (others_of c) ++ (mark 125 ∷ [])))

abbrev JoinedOk : Option ℕ → Part → Type 0
JoinedOk m c = Unit {0} × (PartOk m (first_of c) × (AllOf (PartOk m) (others_of c) × Unit {0}))

joined_again : (c : Part) (negative : Bool) (p : Part) (ps : List Part) → AreJoined negative c → first_of c ≡ p → others_of c ≡ ps → joined negative p (parts_of ps) ≡ c
joined_again (grouped n g) negative p ps h e f = absurd h
joined_again (joined n q qs) negative p ps h e f = λ i. joined (sym h i) (sym e i) ((ap parts_of (sym f) ∙ parts_again qs) i)

joined_exact : (d : ℕ) → Exact (Spelled spelled_part (PartOk (Some d))) (Spelled spelled_part (PartOk None)) Always (part_at d) → (negative : Bool)
    → Exact (Piece (AreJoined negative) JoinedTail (JoinedOk (Some d))) (Piece (AreJoined negative) JoinedTail (JoinedOk None)) Always (joined_at (part_at d) negative)
joined_exact d x negative =
    piece_exact {Of = AreJoined negative} (λ (c : Part). record {}) (λ _. mark 123 ∷ []) (λ c. spelled_part (first_of c) ++ (flat_map spelled_part (others_of c) ++ (mark 125 ∷ []))) (mark_part 123)
    (λ _. piece_exact first_of spelled_part (λ c. flat_map spelled_part (others_of c) ++ (mark 125 ∷ [])) x
    (λ p. piece_exact others_of (flat_map spelled_part) (λ c. mark 125 ∷ []) (parts_exact d x)
    (λ ps. last_exact (λ (c : Part). record {}) (λ _. mark 125 ∷ []) (λ _. joined negative p (parts_of ps)) (mark_part 125) (λ _. (((refl, refl), refl), list_again ps)) (λ _. refl)
    (λ c k. joined_again c negative p ps k.0.0.0 k.0.1 k.1))
    (λ c rest l s. refl))
    (λ c rest l s. tt))
    (λ c rest l s. tt)

-- ---- a body, behind the sign

abbrev spelled_body : Part → Tokens
spelled_body (grouped negative g) = spelled_group g
spelled_body (joined negative p ps) = mark 123 ∷ (spelled_part p ++ (spelled_parts ps ++ (mark 125 ∷ [])))

abbrev sign_of : Part → Bool
sign_of (grouped negative g) = negative
sign_of (joined negative p ps) = negative

pub record Body (ok : Part → Type 0) (negative : Bool) (p : Part) (u : Tokens) : Type 0 where
  pub sign : sign_of p ≡ negative
  pub spelled : u ≡ spelled_body p
  pub lawful : ok p

abbrev Inside : Option ℕ → Bool → Part → Tokens → Type 0
Inside m negative = Either (Built (grouped negative) (Spelled spelled_group (GroupOk m))) (Piece (AreJoined negative) JoinedTail (JoinedOk m))

body_there : (m : Option ℕ) (negative : Bool) (p : Part) (u : Tokens) → Inside m negative p u → Body (PartOk (outer m)) negative p u
body_there m negative p u (inl b) =
    subst (λ q. Body (PartOk (outer m)) negative q u) (sym b.same) (record { sign = refl; spelled = b.first.spelled; lawful = (b.first.lawful.0, fits_outside m (group_brackets b.part) b.first.lawful.1) })
body_there m negative (grouped n g) u (inr z) = absurd z.known
body_there m negative (joined n p ps) u (inr z) =
    let l = (parts_within m ps).0 z.lawful.1.1.0 in
    record {
      sign = z.known;
      spelled = z.spelled ∙ ap (λ k. mark 123 ∷ (spelled_part p ++ (k ++ (mark 125 ∷ [])))) (spelled_list ps);
      lawful = ((z.lawful.1.0.0, l.0), fits_outside m (max (part_brackets p) (parts_brackets ps)) (fits_both m (part_brackets p) (parts_brackets ps) z.lawful.1.0.1 l.1));
    }

body_back : (m : Option ℕ) (negative : Bool) (p : Part) (u : Tokens) → Body (PartOk (outer m)) negative p u → Inside m negative p u
body_back m negative (grouped n g) u z =
    inl (record { part = g; same = ap (λ b. grouped b g) z.sign; first = record { spelled = z.spelled; lawful = (z.lawful.0, fits_inside m (group_brackets g) z.lawful.1) } })
body_back m negative (joined n p ps) u z =
    let b = fits_inside m (max (part_brackets p) (parts_brackets ps)) z.lawful.1 in
    let one = fits_left m (part_brackets p) (parts_brackets ps) b in let others = fits_right m (part_brackets p) (parts_brackets ps) b in
    inr (record {
      known = z.sign;
      spelled = z.spelled ∙ ap (λ k. mark 123 ∷ (spelled_part p ++ (k ++ (mark 125 ∷ [])))) (sym (spelled_list ps));
      lawful = (tt, ((z.lawful.0.0, one), ((parts_within m ps).1 (z.lawful.0.1, others), tt)));
    })

body_wide : (m : Option ℕ) (negative : Bool) (p : Part) (u : Tokens) → Body (PartOk m) negative p u → Body (PartOk None) negative p u
body_wide m negative p u z = record { sign = z.sign; spelled = z.spelled; lawful = (z.lawful.0, tt) }

empty_group : Group
empty_group = record { state = false; field = None; tests = [] }

bodies_begin : (negative : Bool) → Begun opens (Body (PartOk None) negative)
unfolding empty_group
bodies_begin negative = record { each = each }
  where
    each : (t : Saying) → opens t ≡ true → Viable (Body (PartOk None) negative) (t ∷ [])
    each (mark b) e = go (is_mark 40 (mark b)) refl e
      where
        go : (o : Bool) → is_mark 40 (mark b) ≡ o → (o || is_mark 123 (mark b)) ≡ true → Viable (Body (PartOk None) negative) (mark b ∷ [])
        go true f h = let same : b ≡ 40 = grind (arith, nat_tests) in
            record { tree = grouped negative empty_group; more = mark 41 ∷ []; spells = record { sign = refl; spelled = ap (λ n. mark n ∷ (mark 41 ∷ [])) same; lawful = ((λ e f. absurd (cc), tt, tt), tt) } }
        go false f h = let same : b ≡ 123 = grind (arith, nat_tests) in
            record { tree = joined negative (grouped false empty_group) no_parts; more = mark 40 ∷ (mark 41 ∷ (mark 125 ∷ [])); spells = record { sign = refl; spelled = ap (λ n. mark n ∷ (mark 40 ∷ (mark 41 ∷ (mark 125 ∷ [])))) same; lawful = (((λ e f. absurd (cc), tt, tt), tt), tt) } }
    each (sign k) e = absurd (cc)
    each _ e = absurd (cc)

body_sample : (negative : Bool) → (p : Part) × (u : Tokens) × Body (PartOk None) negative p u
unfolding empty_group
body_sample negative = (grouped negative empty_group, mark 40 ∷ (mark 41 ∷ []), record { sign = refl; spelled = refl; lawful = ((λ e f. absurd (cc), tt, tt), tt) })

body_zero : (negative : Bool) → Exact (Body (PartOk (Some 0)) negative) (Body (PartOk None) negative) Always (λ rest. elim (begins opens rest) [ true ↦ Err (deep, length rest) | false ↦ Err (unexpected, length rest) ])
body_zero negative =
    said_exact (λ rest. elim (begins opens rest) [ true ↦ Err (deep, length rest) | false ↦ Err (unexpected, length rest) ]) (λ p u n. absurd n) back wide (body_wide (Some 0) negative) (λ p rest s. s)
    (deep_exact opens (λ ts. Err (unexpected, length ts)) (bodies_begin negative) (λ p u rest n s. absurd n) (refuse_exact (body_sample negative)))
  where
    some : (p : Part) → 0 < part_brackets p
    some (grouped n g) = omega arith
    some (joined n p ps) = omega arith

    back : (p : Part) (u : Tokens) → Body (PartOk (Some 0)) negative p u → ⊥
    back p u z = let a = some p in let b = z.lawful.1 in omega arith

    wide : (p : Part) (u : Tokens) → Either (Body (PartOk None) negative) (Body (PartOk None) negative) p u → Body (PartOk None) negative p u
    wide p u (inl z) = z
    wide p u (inr z) = z

body_more : (d : ℕ) → Exact (Spelled spelled_part (PartOk (Some d))) (Spelled spelled_part (PartOk None)) Always (part_at d) → (negative : Bool)
    → Exact (Body (PartOk (Some (suc d))) negative) (Body (PartOk None) negative) Always (λ rest. elim (begins (is_mark 40) rest) [ true ↦ grouped_at d negative rest | false ↦ joined_at (part_at d) negative rest ])
body_more d x negative =
    said_exact (λ rest. elim (begins (is_mark 40) rest) [ true ↦ grouped_at d negative rest | false ↦ joined_at (part_at d) negative rest ])
    (body_there (Some d) negative) (body_back (Some d) negative) (body_there None negative) (body_wide (Some (suc d)) negative) (λ p rest s. s)
    (choice_exact (begins (is_mark 40)) (grouped_at d negative) (joined_at (part_at d) negative) (begins_looks (is_mark 40))
    (record { first = λ p u rest b. ap (λ k. begins (is_mark 40) (k ++ rest)) b.first.spelled; second = λ p u rest z s. ap (λ k. begins (is_mark 40) (k ++ rest)) z.spelled })
    (built_exact Always (grouped negative) (group_at d) (group_exact d) (λ g rest s. tt)) (joined_exact d x negative))

-- ---- a condition

body_spelled : (p : Part) → spelled_part p ≡ spelled_flag (sign 8) (sign_of p) ++ spelled_body p
body_spelled (grouped negative g) = refl
body_spelled (joined negative p ps) = refl

body_no_sign : (p : Part) (rest : Tokens) → begins (is_sign 8) (spelled_body p ++ rest) ≡ false
body_no_sign (grouped negative g) rest = refl
body_no_sign (joined negative p ps) rest = refl

-- the sign, then the body
with_sign : {q : Bool → Tokens → ReadOf Part} (ok : Part → Type 0) → ((negative : Bool) → Exact (Body ok negative) (Body (PartOk None) negative) Always (q negative))
    → Exact (Spelled spelled_part ok) (Spelled spelled_part (PartOk None)) Always (λ ts. then_read (flag (is_sign 8) ts) q)
with_sign {q} ok x =
    said_exact (λ ts. then_read (flag (is_sign 8) ts) q) (there ok) back (there (PartOk None)) (λ p u z. record { spelled = z.spelled; lawful = ((x (sign_of p)).wide p (spelled_body p) (record { sign = refl; spelled = refl; lawful = z.lawful })).lawful }) (λ p rest s. s)
    (then_exact (flag (is_sign 8)) q (sign_flag 8) x (λ n p u w rest l z s. no_flag_if (is_sign 8) n (w ++ rest) (ap (λ k. begins (is_sign 8) (k ++ rest)) z.spelled ∙ body_no_sign p rest)))
  where
    there : (ok : Part → Type 0) (p : Part) (u : Tokens) → Joined (Spelled (spelled_flag (sign 8)) Any) (λ n. Body ok n) p u → Spelled spelled_part ok p u
    there ok p u j = record {
      spelled = j.whole ∙ ap (λ k. k ++ j.rest) j.first.spelled ∙ ap (λ k. spelled_flag (sign 8) j.part ++ k) j.second.spelled ∙ ap (λ b. spelled_flag (sign 8) b ++ spelled_body p) (sym j.second.sign) ∙ sym (body_spelled p);
      lawful = j.second.lawful;
    }

    back : (p : Part) (u : Tokens) → Spelled spelled_part ok p u → Joined (Spelled (spelled_flag (sign 8)) Any) (λ n. Body ok n) p u
    back p u z = record { part = sign_of p; front = spelled_flag (sign 8) (sign_of p); rest = spelled_body p; whole = z.spelled ∙ body_spelled p; first = record { spelled = refl; lawful = tt }; second = record { sign = refl; spelled = refl; lawful = z.lawful } }

-- A condition is read exactly, where so many brackets may open.
pub part_exact : (d : ℕ) → Exact (Spelled spelled_part (PartOk (Some d))) (Spelled spelled_part (PartOk None)) Always (part_at d)
unfolding part_at
part_exact zero = with_sign (PartOk (Some 0)) body_zero
part_exact (suc d) = with_sign (PartOk (Some (suc d))) (body_more d (part_exact d))
