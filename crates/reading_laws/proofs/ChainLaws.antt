-- Many, where what was read decides whether one more may stand, and what may follow.
use Rattle.std.proofs.Common.{◌≡◌, refl, sym, ◌∙◌, ap, subst, true, false, [], ◌∷◌, ◌++◌, List, Bool, ◌&&◌, length, ◌<◌, flat_map}
use Rattle.defs_read.specs.Readers.{Read, begins, several}
use Rattle.defs_text.specs.Lexing.{Saying}
use Rattle.defs_read.specs.Spelling.{Tokens}
use Rattle.reading_laws.specs.Lawful.{AllOf}
use Rattle.reading_laws.proofs.ReaderLaws.{Outcome, said_outcome, Exact, said_exact, append_nil}
use Rattle.reading_laws.proofs.SeveralLaws.{Listed, last, several_exact, exact_shortens}
use Rattle.reading_laws.proofs.PieceLaws.{Spelled, begins_some}

-- each stands where one more may
abbrev pub Lets : {S A : Type 0} → (S → Bool) → (S → A → S) → S → List A → Type 0
Lets lets next s [] = Unit {0}
Lets lets next s (x ∷ xs) = (lets s ≡ true) × Lets lets next (next s x) xs

pub record ChainOf {S A : Type 0} (lets : S → Bool) (next : S → A → S) (ok : A → Type 0) (s : S) (xs : List A) : Type 0 where
  pub each : AllOf ok xs
  pub lets_each : Lets lets next s xs

pub record Letting {S A : Type 0} (lets : S → Bool) (sp : A → Tokens) (ok : A → Type 0) (s : S) (a : A) (u : Tokens) : Type 0 where
  pub spelled : Spelled sp ok a u
  pub lets_one : lets s ≡ true

both : (a b : Bool) → (a && b) ≡ true → a ≡ true
both true b e = refl
both false b e = cc

pub chain_exact : {S A : Type 0} {SA : A → Tokens → Type 0} (lets : S → Bool) (next : S → A → S) (Halts : S → Tokens → Type 0) (first : Saying → Bool) (sp : A → Tokens) (ok wide : A → Type 0) (read : Tokens → Read Saying A)
    → Exact (Spelled sp ok) (Spelled sp wide) SA read → ((a : A) (rest : Tokens) → wide a → begins first (sp a ++ rest) ≡ true)
    → ((s : S) (a : A) (xs : List A) (rest : Tokens) → ok a → ChainOf lets next ok (next s a) xs → Halts (last next (next s a) xs) rest → SA a (flat_map sp xs ++ rest))
    → ((s : S) (rest : Tokens) → Halts s rest → (lets s && begins first rest) ≡ false) → (s : S)
    → Exact (Spelled (flat_map sp) (ChainOf lets next ok s)) (Spelled (flat_map sp) (ChainOf lets next wide s)) (λ xs rest. Halts (last next s xs) rest) (several (λ s ts. lets s && begins first ts) next read s)
chain_exact {S} {A} {SA} lets next Halts first sp ok wide read x fronts follows stops s =
    said_exact (several (λ s ts. lets s && begins first ts) next read s) (there ok s) (back s) (there wide s) (λ xs u z. record { spelled = z.spelled; lawful = record { each = wider xs z.lawful.each; lets_each = z.lawful.lets_each } }) (λ xs rest e. e)
    (several_exact (Letting lets sp ok) (Letting lets sp wide) (λ s. Unit {0}) SA Halts (λ s ts. lets s && begins first ts) next read (record {
      stops = stops;
      some = λ s a u l. some a u (x.wide a u l.spelled);
      shortens = exact_shortens read x.steps some;
      looks = λ s. record { same = λ t x y. refl };
      each = λ s ts e. said s ts (both (lets s) (begins first ts) e);
      reads = λ s a u rest l m. x.whole a u rest l.spelled m;
      enters = λ s a u rest l. ap (λ b. b && begins first (u ++ rest)) l.lets_one ∙ ap (λ k. begins first (k ++ rest)) l.spelled.spelled ∙ fronts a rest (x.wide a u l.spelled).lawful;
      ends = λ s ts e. tt;
      wide = λ s a u l. record { spelled = x.wide a u l.spelled; lets_one = l.lets_one };
      finish = λ s. ([], [], (refl, tt));
      follows = λ s a xs u w rest v l e. let m = there ok (next s a) xs w l in subst (λ k. SA a (k ++ rest)) (sym m.spelled) (follows s a xs rest v.spelled.lawful m.lawful e);
    }) s)
  where
    some : (a : A) (u : Tokens) → Spelled sp wide a u → 0 < length u
    some a u l = subst (λ k. 0 < length k) (sym l.spelled) (subst (λ k. 0 < length k) (append_nil (sp a)) (begins_some first (sp a ++ []) (fronts a [] l.lawful)))

    said : (s : S) (ts : Tokens) → lets s ≡ true → Outcome (Letting lets sp ok s) (Letting lets sp wide s) read ts
    said s ts e = said_outcome read ts (λ a u l. record { spelled = l; lets_one = e }) (λ a u l. record { spelled = l; lets_one = e }) (x.outcome ts)

    there : (ok : A → Type 0) (s : S) (xs : List A) (u : Tokens) → Listed (Letting lets sp ok) (λ s. Unit {0}) next s xs u → Spelled (flat_map sp) (ChainOf lets next ok s) xs u
    there ok s [] u h = record { spelled = h.0; lawful = record { each = tt; lets_each = tt } }
    there ok s (y ∷ xs) u h =
        let l = there ok (next s y) xs h.1 h.4 in
        record { spelled = h.2 ∙ ap (λ k. k ++ h.1) h.3.spelled.spelled ∙ ap (λ k. sp y ++ k) l.spelled; lawful = record { each = (h.3.spelled.lawful, l.lawful.each); lets_each = (h.3.lets_one, l.lawful.lets_each) } }

    back : (s : S) (xs : List A) (u : Tokens) → Spelled (flat_map sp) (ChainOf lets next ok s) xs u → Listed (Letting lets sp ok) (λ s. Unit {0}) next s xs u
    back s [] u z = (z.spelled, tt)
    back s (y ∷ xs) u z = (
      sp y,
      flat_map sp xs,
      z.spelled,
      record { spelled = record { spelled = refl; lawful = z.lawful.each.0 }; lets_one = z.lawful.lets_each.0 },
      back (next s y) xs (flat_map sp xs) (record { spelled = refl; lawful = record { each = z.lawful.each.1; lets_each = z.lawful.lets_each.1 } }),
    )

    wider : (xs : List A) → AllOf ok xs → AllOf wide xs
    wider [] h = tt
    wider (y ∷ xs) h = ((x.wide y (sp y) (record { spelled = refl; lawful = h.0 })).lawful, wider xs h.1)
