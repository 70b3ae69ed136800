-- Readers of what is spelled piece by piece.
use Rattle.std.specs.Prelude.{◌↔◌}
use Rattle.std.proofs.Common.{◌≡◌, refl, sym, ◌∙◌, ap, subst, true, false, [], ◌∷◌, ◌++◌, List, Bool, Option, Some, None, ◌⊎◌, inl, inr, Ok, Err, length, ◌<◌, arith, flat_map}
use Rattle.defs_text.specs.Lexing.{Saying}
use Rattle.defs_read.specs.Readers.{unexpected, Read, then_read, begins, rest_of, token, taken, many, flag, optional}
use Rattle.defs_read.specs.Spelling.{Tokens, spelled_flag, spelled_option}
use Rattle.reading_laws.specs.Lawful.{AllOf, IfThere}
use Rattle.reading_laws.proofs.ReaderLaws.{Exact, Joined, Nothing, Always, gives, gives_exact, then_exact, said_exact, equal_exact, append_assoc, append_nil}
use Rattle.reading_laws.proofs.ChoiceLaws.{Only, Looks, begins_looks, Either, choice_exact, one_exact}
use Rattle.reading_laws.proofs.SeveralLaws.{Listed, several_exact, exact_shortens}

-- nothing is kept
abbrev pub Any : {A : Type 0} → A → Type 0
Any a = Unit {0}

-- the tokens of a tree, and what it must keep
pub record Spelled {A : Type 0} (sp : A → Tokens) (ok : A → Type 0) (a : A) (u : Tokens) : Type 0 where
  pub spelled : u ≡ sp a
  pub lawful : ok a

-- ---- a part of a tree, then the others

-- the tokens of the other parts, where those before are known
pub record Piece {C : Type 0} (Of : C → Type 0) (tail : C → Tokens) (ok : C → Type 0) (c : C) (u : Tokens) : Type 0 where
  pub known : Of c
  pub spelled : u ≡ tail c
  pub lawful : ok c

-- what follows may depend on the part
pub piece_exact_known : {A C : Type 0} {SA : A → Tokens → Type 0} {SC : C → Tokens → Type 0} {Of : C → Type 0} {okA wideA : A → Type 0} {ok wide : C → Type 0} {p : Tokens → Read Saying A} {q : A → Tokens → Read Saying C}
    (part : C → A) (sp : A → Tokens) (tail : C → Tokens)
    → Exact (Spelled sp okA) (Spelled sp wideA) SA p
    → ((a : A) → Exact (Piece (λ c. Of c × (part c ≡ a)) tail ok) (Piece (λ c. Of c × (part c ≡ a)) tail wide) SC (q a))
    → ((c : C) (rest : Tokens) → okA (part c) → ok c → SC c rest → SA (part c) (tail c ++ rest))
    → Exact (Piece Of (λ c. sp (part c) ++ tail c) (λ c. okA (part c) × ok c)) (Piece Of (λ c. sp (part c) ++ tail c) (λ c. wideA (part c) × wide c)) SC (λ ts. then_read (p ts) q)
piece_exact_known {A} {C} {SA} {SC} {Of} {okA} {wideA} {ok} {wide} {p} {q} part sp tail x y follows =
    said_exact (λ ts. then_read (p ts) q) (there okA ok) back (there wideA wide) wider (λ c rest s. s)
    (then_exact p q x y (λ a c u w rest l m s. subst (λ b. SA b (w ++ rest)) m.known.1 (subst (λ k. SA (part c) (k ++ rest)) (sym m.spelled) (follows c rest (subst okA (sym m.known.1) l.lawful) m.lawful s))))
  where
    there : (okA : A → Type 0) (ok : C → Type 0) (c : C) (u : Tokens) → Joined (Spelled sp okA) (λ a. Piece (λ c. Of c × (part c ≡ a)) tail ok) c u → Piece Of (λ c. sp (part c) ++ tail c) (λ c. okA (part c) × ok c) c u
    there okA ok c u j = record {
      known = j.second.known.0;
      spelled = j.whole ∙ ap (λ k. k ++ j.rest) j.first.spelled ∙ ap (λ k. sp j.part ++ k) j.second.spelled ∙ ap (λ a. sp a ++ tail c) (sym j.second.known.1);
      lawful = (subst okA (sym j.second.known.1) j.first.lawful, j.second.lawful);
    }

    back : (c : C) (u : Tokens) → Piece Of (λ c. sp (part c) ++ tail c) (λ c. okA (part c) × ok c) c u → Joined (Spelled sp okA) (λ a. Piece (λ c. Of c × (part c ≡ a)) tail ok) c u
    back c u x = record { part = part c; front = sp (part c); rest = tail c; whole = x.spelled; first = record { spelled = refl; lawful = x.lawful.0 }; second = record { known = (x.known, refl); spelled = refl; lawful = x.lawful.1 } }

    wider : (c : C) (u : Tokens) → Piece Of (λ c. sp (part c) ++ tail c) (λ c. okA (part c) × ok c) c u → Piece Of (λ c. sp (part c) ++ tail c) (λ c. wideA (part c) × wide c) c u
    wider c u z = record { known = z.known; spelled = z.spelled; lawful = ((x.wide (part c) (sp (part c)) (record { spelled = refl; lawful = z.lawful.0 })).lawful, ((y (part c)).wide c (tail c) (record { known = (z.known, refl); spelled = refl; lawful = z.lawful.1 })).lawful) }

-- the same, where what follows does not depend on the part
pub piece_exact : {A C : Type 0} {SA : A → Tokens → Type 0} {SC : C → Tokens → Type 0} {Of : C → Type 0} {okA wideA : A → Type 0} {ok wide : C → Type 0} {p : Tokens → Read Saying A} {q : A → Tokens → Read Saying C}
    (part : C → A) (sp : A → Tokens) (tail : C → Tokens)
    → Exact (Spelled sp okA) (Spelled sp wideA) SA p
    → ((a : A) → Exact (Piece (λ c. Of c × (part c ≡ a)) tail ok) (Piece (λ c. Of c × (part c ≡ a)) tail wide) SC (q a))
    → ((c : C) (rest : Tokens) → ok c → SC c rest → SA (part c) (tail c ++ rest))
    → Exact (Piece Of (λ c. sp (part c) ++ tail c) (λ c. okA (part c) × ok c)) (Piece Of (λ c. sp (part c) ++ tail c) (λ c. wideA (part c) × wide c)) SC (λ ts. then_read (p ts) q)
piece_exact part sp tail x y follows = piece_exact_known part sp tail x y (λ c rest k l s. follows c rest l s)

-- the last part
pub last_exact : {A C : Type 0} {SA : A → Tokens → Type 0} {Of : C → Type 0} {okA wideA : A → Type 0} {p : Tokens → Read Saying A} (part : C → A) (sp : A → Tokens) (build : A → C)
    → Exact (Spelled sp okA) (Spelled sp wideA) SA p → ((a : A) → Of (build a)) → ((a : A) → part (build a) ≡ a) → ((c : C) → Of c → build (part c) ≡ c)
    → Exact (Piece Of (λ c. sp (part c)) (λ c. okA (part c))) (Piece Of (λ c. sp (part c)) (λ c. wideA (part c))) (λ c rest. SA (part c) rest) (λ ts. then_read (p ts) (λ a rest. Ok (build a, rest)))
last_exact {A} {C} {SA} {Of} {okA} {wideA} {p} part sp build x known again only =
    said_exact (λ ts. then_read (p ts) (λ a rest. Ok (build a, rest))) (there okA) back (there wideA) (λ c u z. record { known = z.known; spelled = z.spelled; lawful = (x.wide (part c) (sp (part c)) (record { spelled = refl; lawful = z.lawful })).lawful }) (λ c rest s. s)
    (then_exact p (λ a. gives (build a)) x (λ a. stopped a) (λ a c u w rest l m s. subst (λ b. SA b (w ++ rest)) (ap part m.same ∙ again a) (subst (λ k. SA (part c) (k ++ rest)) (sym m.empty) s)))
  where
    stopped : (a : A) → Exact (Nothing (build a)) (Nothing (build a)) (λ c rest. SA (part c) rest) (gives (build a))
    stopped a = said_exact (gives (build a)) (λ c u n. n) (λ c u n. n) (λ c u n. n) (λ c u n. n) (λ c rest s. tt) (gives_exact (build a))

    there : (okA : A → Type 0) (c : C) (u : Tokens) → Joined (Spelled sp okA) (λ a. Nothing (build a)) c u → Piece Of (λ c. sp (part c)) (λ c. okA (part c)) c u
    there okA c u j = subst (λ d. Piece Of (λ c. sp (part c)) (λ c. okA (part c)) d u) (sym j.second.same) (record {
      known = known j.part;
      spelled = j.whole ∙ ap (λ k. j.front ++ k) j.second.empty ∙ append_nil j.front ∙ j.first.spelled ∙ ap sp (sym (again j.part));
      lawful = subst okA (sym (again j.part)) j.first.lawful;
    })

    back : (c : C) (u : Tokens) → Piece Of (λ c. sp (part c)) (λ c. okA (part c)) c u → Joined (Spelled sp okA) (λ a. Nothing (build a)) c u
    back c u z = record { part = part c; front = u; rest = []; whole = sym (append_nil u); first = record { spelled = z.spelled; lawful = z.lawful }; second = record { same = sym (only c z.known); empty = refl } }

-- ---- many

pub begins_some : (first : Saying → Bool) (u : Tokens) → begins first u ≡ true → 0 < length u
begins_some first [] e = absurd (cc)
begins_some first (t ∷ u) e = omega arith

pub many_exact : {A : Type 0} {SA : A → Tokens → Type 0} (Rest : Tokens → Type 0) (first : Saying → Bool) (sp : A → Tokens) (ok wide : A → Type 0) (read : Tokens → Read Saying A)
    → Exact (Spelled sp ok) (Spelled sp wide) SA read → ((a : A) (rest : Tokens) → wide a → begins first (sp a ++ rest) ≡ true)
    → ((a : A) (xs : List A) (rest : Tokens) → ok a → AllOf ok xs → Rest rest → SA a (flat_map sp xs ++ rest)) → ((rest : Tokens) → Rest rest → begins first rest ≡ false)
    → Exact (Spelled (flat_map sp) (AllOf ok)) (Spelled (flat_map sp) (AllOf wide)) (λ xs rest. Rest rest) (many first read)
many_exact {A} {SA} Rest first sp ok wide read x fronts follows stops =
    said_exact (many first read) (there ok (record {})) (back (record {})) (there wide (record {})) (λ xs u z. record { spelled = z.spelled; lawful = wider xs z.lawful }) (λ xs rest e. e)
    (several_exact {S = record {}} (λ s. Spelled sp ok) (λ s. Spelled sp wide) (λ s. Unit {0}) SA (λ _ rest. Rest rest) (λ _ ts. begins first ts) (λ s a. s) read (record {
      stops = λ s rest r. stops rest r;
      some = λ s a u l. some a u (x.wide a u l);
      shortens = exact_shortens read x.steps some;
      looks = λ s. begins_looks first;
      each = λ s ts e. x.outcome ts;
      reads = λ s a u rest l m. x.whole a u rest l m;
      enters = λ s a u rest l. ap (λ k. begins first (k ++ rest)) l.spelled ∙ fronts a rest (x.wide a u l).lawful;
      ends = λ s ts e. tt;
      wide = λ s a u l. x.wide a u l;
      finish = λ s. ([], [], (refl, tt));
      follows = λ s a xs u w rest v l e. let m = there ok s xs w l in subst (λ k. SA a (k ++ rest)) (sym m.spelled) (follows a xs rest v.lawful m.lawful e);
    }) (record {}))
  where
    some : (a : A) (u : Tokens) → Spelled sp wide a u → 0 < length u
    some a u l = subst (λ k. 0 < length k) (sym l.spelled) (subst (λ k. 0 < length k) (append_nil (sp a)) (begins_some first (sp a ++ []) (fronts a [] l.lawful)))

    there : (ok : A → Type 0) (s : record {}) (xs : List A) (u : Tokens) → Listed (λ s. Spelled sp ok) (λ s. Unit {0}) (λ s a. s) s xs u → Spelled (flat_map sp) (AllOf ok) xs u
    there ok s [] u h = record { spelled = h.0; lawful = tt }
    there ok s (y ∷ xs) u h = let l = there ok s xs h.1 h.4 in record { spelled = h.2 ∙ ap (λ k. k ++ h.1) h.3.spelled ∙ ap (λ k. sp y ++ k) l.spelled; lawful = (h.3.lawful, l.lawful) }

    back : (s : record {}) (xs : List A) (u : Tokens) → Spelled (flat_map sp) (AllOf ok) xs u → Listed (λ s. Spelled sp ok) (λ s. Unit {0}) (λ s a. s) s xs u
    back s [] u z = (z.spelled, tt)
    back s (y ∷ xs) u z = (sp y, flat_map sp xs, z.spelled, record { spelled = refl; lawful = z.lawful.0 }, back s xs (flat_map sp xs) (record { spelled = refl; lawful = z.lawful.1 }))

    wider : (xs : List A) → AllOf ok xs → AllOf wide xs
    wider [] h = tt
    wider (y ∷ xs) h = ((x.wide y (sp y) (record { spelled = refl; lawful = h.0 })).lawful, wider xs h.1)

-- ---- a token that may stand there, and a part that may

abbrev pub NoFlag : (Saying → Bool) → Bool → Tokens → Type 0
NoFlag is true rest = Unit {0}
NoFlag is false rest = begins is rest ≡ false

pub flag_exact : (is : Saying → Bool) (t : Saying) → is t ≡ true → ((c : Saying) → is c ≡ true → c ≡ t) → Exact (Spelled (spelled_flag t) Any) (Spelled (spelled_flag t) Any) (NoFlag is) (flag is)
flag_exact is t fits only =
    said_exact (flag is) there back there (λ b u z. z) (λ b rest s. s)
    (equal_exact (λ ts. elim (begins is ts) [ true ↦ then_read (token is ts) (λ _ rest. Ok (true, rest)) | false ↦ Ok (false, ts) ]) (flag is) (λ ts. same ts (begins is ts))
    (choice_exact {S = NoFlag is} (begins is) (λ ts. then_read (token is ts) (λ _ rest. Ok (true, rest))) (gives false) (begins_looks is)
    (record { first = λ b u rest j. ap (λ k. begins is (k ++ rest)) (j.whole ∙ ap (λ k. k ++ j.rest) j.first) ∙ fits; second = second })
    (said_exact (λ ts. then_read (token is ts) (λ _ rest. Ok (true, rest))) (λ b u j. j) (λ b u j. j) (λ b u j. j) (λ b u j. j) (λ b rest s. tt)
    (then_exact (token is) (λ _. gives true) (one_exact is t fits only) (λ _. gives_exact true) (λ a b u w rest l m s. tt)))
    (said_exact (gives false) (λ b u n. n) (λ b u n. n) (λ b u n. n) (λ b u n. n) (λ b rest s. tt) (gives_exact false))))
  where
    same : (ts : Tokens) (b : Bool) → ◌≡◌ {A = Read Saying Bool} (elim b [ true ↦ Ok (true, rest_of ts) | false ↦ Ok (false, ts) ])
        (elim b as (λ _. Read Saying Bool) [ true ↦ then_read (elim b as (λ _. Read Saying (record {})) [ true ↦ Ok (record {}, rest_of ts) | false ↦ Err (unexpected, length ts) ]) (λ _ rest. Ok (true, rest)) | false ↦ Ok (false, ts) ])
    same ts true = refl
    same ts false = refl

    there : (b : Bool) (u : Tokens) → Either (Joined (Only {A = record {}} (λ _. t)) (λ _. Nothing true)) (Nothing false) b u → Spelled (spelled_flag t) Any b u
    there b u (inl j) = record { spelled = j.whole ∙ ap (λ k. k ++ j.rest) j.first ∙ ap (λ k. t ∷ k) j.second.empty ∙ ap (spelled_flag t) (sym j.second.same); lawful = tt }
    there b u (inr n) = record { spelled = n.empty ∙ ap (spelled_flag t) (sym n.same); lawful = tt }

    back : (b : Bool) (u : Tokens) → Spelled (spelled_flag t) Any b u → Either (Joined (Only {A = record {}} (λ _. t)) (λ _. Nothing true)) (Nothing false) b u
    back true u z = inl (record { part = record {}; front = t ∷ []; rest = []; whole = z.spelled; first = refl; second = record { same = refl; empty = refl } })
    back false u z = inr (record { same = refl; empty = z.spelled })

    second : (b : Bool) (u rest : Tokens) → Nothing false b u → NoFlag is b rest → begins is (u ++ rest) ≡ false
    second b u rest n s = ap (λ k. begins is (k ++ rest)) n.empty ∙ subst (λ c. NoFlag is c rest) n.same s

abbrev pub NoFront : {A : Type 0} → (Saying → Bool) → (A → Tokens → Type 0) → Option A → Tokens → Type 0
NoFront first SA (Some a) rest = SA a rest
NoFront first SA None rest = begins first rest ≡ false

pub optional_exact : {A : Type 0} {SA : A → Tokens → Type 0} (first : Saying → Bool) (sp : A → Tokens) (ok wide : A → Type 0) (read : Tokens → Read Saying A)
    → Exact (Spelled sp ok) (Spelled sp wide) SA read → ((a : A) (rest : Tokens) → ok a → begins first (sp a ++ rest) ≡ true)
    → Exact (Spelled (spelled_option sp) (IfThere ok)) (Spelled (spelled_option sp) (IfThere wide)) (NoFront first SA) (optional first read)
optional_exact {A} {SA} first sp ok wide read x fronts =
    said_exact (optional first read) (there ok) (back ok) (there wide) wider (λ b rest s. s)
    (choice_exact {S = NoFront first SA} (begins first) (λ ts. then_read (read ts) (λ a rest. Ok (Some a, rest))) (gives None) (begins_looks first)
    (record { first = λ o u rest j. ap (λ k. begins first (k ++ rest)) (j.whole ∙ ap (λ k. k ++ j.rest) j.first.spelled) ∙ ap (begins first) (append_assoc (sp j.part) j.rest rest) ∙ fronts j.part (j.rest ++ rest) j.first.lawful; second = second })
    (then_exact read (λ a. gives (Some a)) x (λ a. said_exact (gives (Some a)) (λ b u n. n) (λ b u n. n) (λ b u n. n) (λ b u n. n) (λ b rest s. tt) (gives_exact (Some a)))
    (λ a o u w rest l m s. subst (λ k. SA a (k ++ rest)) (sym m.empty) (subst (λ p. NoFront first SA p rest) m.same s)))
    (said_exact (gives None) (λ b u n. n) (λ b u n. n) (λ b u n. n) (λ b u n. n) (λ b rest s. tt) (gives_exact None)))
  where
    there : (ok : A → Type 0) (o : Option A) (u : Tokens) → Either (Joined (Spelled sp ok) (λ a. Nothing (Some a))) (Nothing None) o u → Spelled (spelled_option sp) (IfThere ok) o u
    there ok o u (inl j) = subst (λ p. Spelled (spelled_option sp) (IfThere ok) p u) (sym j.second.same)
        (record { spelled = j.whole ∙ ap (λ k. j.front ++ k) j.second.empty ∙ append_nil j.front ∙ j.first.spelled; lawful = j.first.lawful })
    there ok o u (inr n) = subst (λ p. Spelled (spelled_option sp) (IfThere ok) p u) (sym n.same) (record { spelled = n.empty; lawful = tt })

    back : (ok : A → Type 0) (o : Option A) (u : Tokens) → Spelled (spelled_option sp) (IfThere ok) o u → Either (Joined (Spelled sp ok) (λ a. Nothing (Some a))) (Nothing None) o u
    back ok (Some a) u z = inl (record { part = a; front = u; rest = []; whole = sym (append_nil u); first = record { spelled = z.spelled; lawful = z.lawful }; second = record { same = refl; empty = refl } })
    back ok None u z = inr (record { same = refl; empty = z.spelled })

    wider : (o : Option A) (u : Tokens) → Spelled (spelled_option sp) (IfThere ok) o u → Spelled (spelled_option sp) (IfThere wide) o u
    wider (Some a) u z = record { spelled = z.spelled; lawful = (x.wide a u (record { spelled = z.spelled; lawful = z.lawful })).lawful }
    wider None u z = record { spelled = z.spelled; lawful = tt }

    second : (o : Option A) (u rest : Tokens) → Nothing None o u → NoFront first SA o rest → begins first (u ++ rest) ≡ false
    second o u rest n s = ap (λ k. begins first (k ++ rest)) n.empty ∙ subst (λ p. NoFront first SA p rest) n.same s

-- ---- a tree of one form or the other

-- each tree has one of two forms
pub record Forms {A B C : Type 0} (f : A → C) (g : B → C) : Type 0 where
  pub cases : (c : C) → ((a : A) × (c ≡ f a)) ⊎ ((b : B) × (c ≡ g b))

pub sum_exact : {A B C : Type 0} {SA : A → Tokens → Type 0} {SB : B → Tokens → Type 0} (SC : C → Tokens → Type 0) (test : Tokens → Bool) (f : A → C) (g : B → C)
    (spA : A → Tokens) (spB : B → Tokens) (spC : C → Tokens) (okA wideA : A → Type 0) (okB wideB : B → Type 0) (okC wideC : C → Type 0) (p : Tokens → Read Saying A) (q : Tokens → Read Saying B)
    → Looks test → Forms f g → ((a : A) → spC (f a) ≡ spA a) → ((b : B) → spC (g b) ≡ spB b)
    → ((a : A) → okC (f a) ↔ okA a) → ((b : B) → okC (g b) ↔ okB b) → ((a : A) → wideA a → wideC (f a)) → ((b : B) → wideB b → wideC (g b))
    → ((a : A) (rest : Tokens) → test (spA a ++ rest) ≡ true) → ((b : B) (rest : Tokens) → SC (g b) rest → test (spB b ++ rest) ≡ false)
    → ((a : A) (rest : Tokens) → SC (f a) rest → SA a rest) → ((b : B) (rest : Tokens) → SC (g b) rest → SB b rest)
    → Exact (Spelled spA okA) (Spelled spA wideA) SA p → Exact (Spelled spB okB) (Spelled spB wideB) SB q
    → Exact (Spelled spC okC) (Spelled spC wideC) SC (λ ts. elim (test ts) [ true ↦ then_read (p ts) (λ a rest. Ok (f a, rest)) | false ↦ then_read (q ts) (λ b rest. Ok (g b, rest)) ])
sum_exact {A} {B} {C} {SA} {SB} SC test f g spA spB spC okA wideA okB wideB okC wideC p q looks forms sa sb ka kb wa wb fa fb stopa stopb x y =
    said_exact (λ ts. elim (test ts) [ true ↦ then_read (p ts) (λ a rest. Ok (f a, rest)) | false ↦ then_read (q ts) (λ b rest. Ok (g b, rest)) ])
    (there okA okB okC (λ a. (ka a).1) (λ b. (kb b).1)) back (there wideA wideB wideC wa wb) wider (λ c rest s. s)
    (choice_exact {S = SC} test (λ ts. then_read (p ts) (λ a rest. Ok (f a, rest))) (λ ts. then_read (q ts) (λ b rest. Ok (g b, rest))) looks (record { first = first; second = second })
    (then_exact p (λ a. gives (f a)) x (λ a. said_exact (gives (f a)) (λ b u n. n) (λ b u n. n) (λ b u n. n) (λ b u n. n) (λ b rest s. tt) (gives_exact (f a)))
    (λ a c u w rest l m s. subst (λ k. SA a (k ++ rest)) (sym m.empty) (stopa a rest (subst (λ d. SC d rest) m.same s))))
    (then_exact q (λ b. gives (g b)) y (λ b. said_exact (gives (g b)) (λ b u n. n) (λ b u n. n) (λ b u n. n) (λ b u n. n) (λ b rest s. tt) (gives_exact (g b)))
    (λ b c u w rest l m s. subst (λ k. SB b (k ++ rest)) (sym m.empty) (stopb b rest (subst (λ d. SC d rest) m.same s)))))
  where
    there : (okA : A → Type 0) (okB : B → Type 0) (okC : C → Type 0) → ((a : A) → okA a → okC (f a)) → ((b : B) → okB b → okC (g b)) → (c : C) (u : Tokens)
        → Either (Joined (Spelled spA okA) (λ a. Nothing (f a))) (Joined (Spelled spB okB) (λ b. Nothing (g b))) c u → Spelled spC okC c u
    there okA okB okC ha hb c u (inl j) = subst (λ d. Spelled spC okC d u) (sym j.second.same)
        (record { spelled = j.whole ∙ ap (λ k. j.front ++ k) j.second.empty ∙ append_nil j.front ∙ j.first.spelled ∙ sym (sa j.part); lawful = ha j.part j.first.lawful })
    there okA okB okC ha hb c u (inr j) = subst (λ d. Spelled spC okC d u) (sym j.second.same)
        (record { spelled = j.whole ∙ ap (λ k. j.front ++ k) j.second.empty ∙ append_nil j.front ∙ j.first.spelled ∙ sym (sb j.part); lawful = hb j.part j.first.lawful })

    back : (c : C) (u : Tokens) → Spelled spC okC c u → Either (Joined (Spelled spA okA) (λ a. Nothing (f a))) (Joined (Spelled spB okB) (λ b. Nothing (g b))) c u
    back c u z = elim (forms.cases c) [
      | inl a ↦ inl (record { part = a.0; front = u; rest = []; whole = sym (append_nil u); first = record { spelled = z.spelled ∙ ap spC a.1 ∙ sa a.0; lawful = (ka a.0).0 (subst okC a.1 z.lawful) }; second = record { same = a.1; empty = refl } })
      | inr b ↦ inr (record { part = b.0; front = u; rest = []; whole = sym (append_nil u); first = record { spelled = z.spelled ∙ ap spC b.1 ∙ sb b.0; lawful = (kb b.0).0 (subst okC b.1 z.lawful) }; second = record { same = b.1; empty = refl } })
    ]

    wider : (c : C) (u : Tokens) → Spelled spC okC c u → Spelled spC wideC c u
    wider c u z = elim (forms.cases c) [
      | inl a ↦ record { spelled = z.spelled; lawful = subst wideC (sym a.1) (wa a.0 ((x.wide a.0 (spA a.0) (record { spelled = refl; lawful = (ka a.0).0 (subst okC a.1 z.lawful) })).lawful)) }
      | inr b ↦ record { spelled = z.spelled; lawful = subst wideC (sym b.1) (wb b.0 ((y.wide b.0 (spB b.0) (record { spelled = refl; lawful = (kb b.0).0 (subst okC b.1 z.lawful) })).lawful)) }
    ]

    first : (c : C) (u rest : Tokens) → Joined (Spelled spA okA) (λ a. Nothing (f a)) c u → test (u ++ rest) ≡ true
    first c u rest j = ap (λ k. test (k ++ rest)) (j.whole ∙ ap (λ k. k ++ j.rest) j.first.spelled) ∙ ap test (append_assoc (spA j.part) j.rest rest) ∙ fa j.part (j.rest ++ rest)

    second : (c : C) (u rest : Tokens) → Joined (Spelled spB okB) (λ b. Nothing (g b)) c u → SC c rest → test (u ++ rest) ≡ false
    second c u rest j s = ap (λ k. test (k ++ rest)) (j.whole ∙ ap (λ k. j.front ++ k) j.second.empty ∙ append_nil j.front ∙ j.first.spelled) ∙ fb j.part rest (subst (λ d. SC d rest) j.second.same s)

-- a token that stands for a part, as a part that is spelled
pub named_part : {A : Type 0} (as_part : Saying → Option A) (tok : A → Saying) → Exact (Only tok) (Only tok) Always (taken as_part) → Exact (Spelled (λ a. tok a ∷ []) Any) (Spelled (λ a. tok a ∷ []) Any) Always (taken as_part)
named_part as_part tok x = said_exact (taken as_part) (λ a u e. record { spelled = e; lawful = tt }) (λ a u z. z.spelled) (λ a u e. record { spelled = e; lawful = tt }) (λ a u z. z) (λ a rest s. s) x

pub fixed_part : (is : Saying → Bool) (t : Saying) → Exact (Only {A = record {}} (λ _. t)) (Only {A = record {}} (λ _. t)) Always (token is)
    → Exact (Spelled {A = record {}} (λ _. t ∷ []) Any) (Spelled {A = record {}} (λ _. t ∷ []) Any) Always (token is)
fixed_part is t x = said_exact (token is) (λ a u e. record { spelled = e; lawful = tt }) (λ a u z. z.spelled) (λ a u e. record { spelled = e; lawful = tt }) (λ a u z. z) (λ a rest s. s) x

-- all parts are there
pub piece_done : {C : Type 0} {S : C → Tokens → Type 0} {ok okS wide wideS : C → Type 0} {p : Tokens → Read Saying C} (tail sp : C → Tokens) → ((c : C) → tail c ≡ sp c) → ((c : C) → ok c ↔ okS c) → ((c : C) → wide c ↔ wideS c)
    → Exact (Piece (λ c. Unit {0}) tail ok) (Piece (λ c. Unit {0}) tail wide) S p → Exact (Spelled sp okS) (Spelled sp wideS) S p
piece_done {C} {S} {ok} {okS} {wide} {wideS} {p} tail sp same narrow broad x =
    said_exact p (λ c u z. record { spelled = z.spelled ∙ same c; lawful = (narrow c).0 z.lawful }) (λ c u z. record { known = tt; spelled = z.spelled ∙ sym (same c); lawful = (narrow c).1 z.lawful })
    (λ c u z. record { spelled = z.spelled ∙ same c; lawful = (broad c).0 z.lawful }) wider (λ c rest s. s) x
  where
    wider : (c : C) (u : Tokens) → Spelled sp okS c u → Spelled sp wideS c u
    wider c u z = record { spelled = z.spelled; lawful = (broad c).0 ((x.wide c (tail c) (record { known = tt; spelled = refl; lawful = (narrow c).1 z.lawful })).lawful) }

pub all_any : {A : Type 0} (xs : List A) → AllOf Any xs
all_any [] = tt
all_any (x ∷ xs) = (tt, all_any xs)

-- ---- a tree that holds another

pub record Built {A C : Type 0} (f : A → C) (L : A → Tokens → Type 0) (c : C) (u : Tokens) : Type 0 where
  pub part : A
  pub same : c ≡ f part
  pub first : L part u

pub built_exact : {A C : Type 0} {L W SA : A → Tokens → Type 0} (SC : C → Tokens → Type 0) (f : A → C) (p : Tokens → Read Saying A) → Exact L W SA p → ((a : A) (rest : Tokens) → SC (f a) rest → SA a rest)
    → Exact (Built f L) (Built f W) SC (λ ts. then_read (p ts) (λ a rest. Ok (f a, rest)))
built_exact {A} {C} {L} {W} {SA} SC f p x stops =
    said_exact (λ ts. then_read (p ts) (λ a rest. Ok (f a, rest))) (there L) back (there W) (λ c u b. record { part = b.part; same = b.same; first = x.wide b.part u b.first }) (λ c rest s. s)
    (then_exact p (λ a. gives (f a)) x (λ a. said_exact (gives (f a)) (λ c u n. n) (λ c u n. n) (λ c u n. n) (λ c u n. n) (λ c rest s. tt) (gives_exact (f a)))
    (λ a c u w rest l m s. subst (λ k. SA a (k ++ rest)) (sym m.empty) (stops a rest (subst (λ d. SC d rest) m.same s))))
  where
    there : (M : A → Tokens → Type 0) (c : C) (u : Tokens) → Joined M (λ a. Nothing (f a)) c u → Built f M c u
    there M c u j = record { part = j.part; same = j.second.same; first = subst (M j.part) (sym (j.whole ∙ ap (λ k. j.front ++ k) j.second.empty ∙ append_nil j.front)) j.first }

    back : (c : C) (u : Tokens) → Built f L c u → Joined L (λ a. Nothing (f a)) c u
    back c u b = record { part = b.part; front = u; rest = []; whole = sym (append_nil u); first = b.first; second = record { same = b.same; empty = refl } }
