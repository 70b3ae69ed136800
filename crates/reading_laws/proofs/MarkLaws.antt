-- A token that may stand in front of what does not begin like it.
use Rattle.std.proofs.Common.{◌≡◌, refl, sym, ◌∙◌, ap, true, false, [], ◌∷◌, ◌++◌, Bool, inl, inr, Ok, Err, length, ◌<◌, arith}
use Rattle.defs_text.specs.Lexing.{Saying}
use Rattle.defs_read.specs.Readers.{unexpected, Read, then_read, begins, rest_of, token, flag}
use Rattle.defs_read.specs.Spelling.{Tokens}
use Rattle.reading_laws.proofs.ReaderLaws.{Viable, Took, Outcome, read_all, read_front, ended, refused, Exact, Joined, then_exact, said_outcome, equal_exact}
use Rattle.reading_laws.proofs.ChoiceLaws.{Only, Either, begins_looks, choice_true, choice_false, one_exact}

-- it is spelled so, and does not begin with such a token
pub record Unlike {A : Type 0} (is : Saying → Bool) (M : A → Tokens → Type 0) (a : A) (u : Tokens) : Type 0 where
  pub differs : begins is u ≡ false
  pub spelled : M a u

begins_on : (is : Saying → Bool) (u v : Tokens) → 0 < length u → begins is (u ++ v) ≡ begins is u
begins_on is [] v h = absurd (omega arith)
begins_on is (t ∷ u) v h = refl

-- with the token in front, or without it
abbrev pub Marked : {A : Type 0} → (Saying → Bool) → Saying → (Bool → A → Tokens → Type 0) → A → Tokens → Type 0
Marked is t M = Either (Joined (Only {A = record {}} (λ _. t)) (λ _. M true)) (Unlike is (M false))

pub marked_exact : {A : Type 0} {L W : Bool → A → Tokens → Type 0} {S : A → Tokens → Type 0} (is : Saying → Bool) (t : Saying) (q : Bool → Tokens → Read Saying A)
    → is t ≡ true → ((c : Saying) → is c ≡ true → c ≡ t) → ((b : Bool) → Exact (L b) (W b) S (q b)) → ((a : A) (u : Tokens) → L false a u → 0 < length u) → (a : A) (u : Tokens) → Unlike is (W false) a u
    → Exact (Marked is t L) (Marked is t W) S (λ ts. then_read (flag is ts) q)
marked_exact {A} {L} {W} {S} is t q fits only x some a u unlike =
    equal_exact (λ ts. elim (begins is ts) [ true ↦ then_read (token is ts) (λ _. q true) | false ↦ q false ts ]) (λ ts. then_read (flag is ts) q) (λ ts. same ts (begins is ts)) (record {
      outcome = λ ts. outcome ts (begins is ts) refl;
      whole = whole;
      wide = wide;
      sample = (a, u, inr unlike);
      steps = λ ts b rest e. steps ts b rest (begins is ts) refl e;
    })
  where
    same : (ts : Tokens) (b : Bool) → ◌≡◌ {A = Read Saying A} (then_read (elim b as (λ _. Read Saying Bool) [ true ↦ Ok (true, rest_of ts) | false ↦ Ok (false, ts) ]) q)
        (elim b as (λ _. Read Saying A) [ true ↦ then_read (elim b as (λ _. Read Saying (record {})) [ true ↦ Ok (record {}, rest_of ts) | false ↦ Err (unexpected, length ts) ]) (λ _. q true) | false ↦ q false ts ])
    same ts true = refl
    same ts false = refl

    marked : Exact (Joined (Only {A = record {}} (λ _. t)) (λ _. L true)) (Joined (Only {A = record {}} (λ _. t)) (λ _. W true)) S (λ ts. then_read (token is ts) (λ _. q true))
    marked = then_exact (token is) (λ _. q true) (one_exact is t fits only) (λ _. x true) (λ a b u w rest l m s. tt)

    steps : (ts : Tokens) (b : A) (rest : Tokens) (c : Bool) → begins is ts ≡ c → elim c as (λ _. Read Saying A) [ true ↦ then_read (token is ts) (λ _. q true) | false ↦ q false ts ] ≡ Ok (b, rest) → Took (Marked is t W) b ts rest
    steps ts b rest true f e = let m = marked.steps ts b rest e in (m.0, m.1, λ z. inl (m.2 z))
    steps ts b rest false f e = let m = (x false).steps ts b rest e in (m.0, m.1, λ z. inr (record { differs = refl; spelled = m.2 z }))

    none : Viable (Marked is t W) []
    none = record { tree = a; more = u; spells = inr unlike }

    differs : (w : Tokens) → begins is w ≡ false → Viable (W false) w → Viable (Marked is t W) w
    differs [] e v = none
    differs (c ∷ w) e v = record { tree = v.tree; more = v.more; spells = inr (record { differs = e; spelled = v.spells }) }

    front : (ts w : Tokens) (c : Saying) (v : Tokens) → ts ≡ w ++ (c ∷ v) → begins is ts ≡ false → begins is w ≡ false
    front ts [] c v d e = refl
    front ts (b ∷ w) c v d e = ap (begins is) (sym d) ∙ e

    further : (ts w : Tokens) (c : Saying) (v : Tokens) → ts ≡ w ++ (c ∷ v) → begins is ts ≡ false → begins is (w ++ (c ∷ [])) ≡ false
    further ts [] c v d e = ap (begins is) (sym d) ∙ e
    further ts (b ∷ w) c v d e = ap (begins is) (sym d) ∙ e

    plain : (ts : Tokens) → begins is ts ≡ false → Outcome (L false) (W false) (q false) ts → Outcome (Marked is t L) (Marked is t W) (q false) ts
    plain ts e (read_all b l f) = read_all b (inr (record { differs = e; spelled = l })) f
    plain ts e (read_front b w c v d l keep) = read_front b w c v d (inr (record { differs = front ts w c v d e; spelled = l })) keep
    plain ts e (ended via f) = ended (differs ts e via) f
    plain ts e (refused k w c v d via on keep) = refused k w c v d (differs w (front ts w c v d e) via) (λ h. differs (w ++ (c ∷ [])) (further ts w c v d e) (on h)) keep

    outcome : (ts : Tokens) → (b : Bool) → begins is ts ≡ b → Outcome (Marked is t L) (Marked is t W) (λ ts. elim (begins is ts) [ true ↦ then_read (token is ts) (λ _. q true) | false ↦ q false ts ]) ts
    outcome ts true e = choice_true (begins is) (λ ts. then_read (token is ts) (λ _. q true)) (q false) ts (begins_looks is) e (said_outcome (λ ts. then_read (token is ts) (λ _. q true)) ts (λ a u l. inl l) (λ a u l. inl l) (marked.outcome ts))
    outcome ts false e = choice_false (begins is) (λ ts. then_read (token is ts) (λ _. q true)) (q false) ts (begins_looks is) e (plain ts e ((x false).outcome ts))

    whole : (b : A) (w rest : Tokens) → Marked is t L b w → S b rest → elim (begins is (w ++ rest)) as (λ _. Read Saying A) [ true ↦ then_read (token is (w ++ rest)) (λ _. q true) | false ↦ q false (w ++ rest) ] ≡ Ok (b, rest)
    whole b w rest (inl j) s =
        ap (λ c. elim c as (λ _. Read Saying A) [ true ↦ then_read (token is (w ++ rest)) (λ _. q true) | false ↦ q false (w ++ rest) ]) (ap (λ k. begins is (k ++ rest)) (j.whole ∙ ap (λ k. k ++ j.rest) j.first) ∙ fits)
        ∙ marked.whole b w rest j s
    whole b w rest (inr z) s =
        ap (λ c. elim c as (λ _. Read Saying A) [ true ↦ then_read (token is (w ++ rest)) (λ _. q true) | false ↦ q false (w ++ rest) ]) (begins_on is w rest (some b w z.spelled) ∙ z.differs)
        ∙ (x false).whole b w rest z.spelled s

    wide : (b : A) (w : Tokens) → Marked is t L b w → Marked is t W b w
    wide b w (inl j) = inl (marked.wide b w j)
    wide b w (inr z) = inr (record { differs = z.differs; spelled = (x false).wide b w z.spelled })
