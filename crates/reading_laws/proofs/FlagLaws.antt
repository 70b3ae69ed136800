-- Flags are read exactly, each where none before it is about the same.
use Rattle.std.specs.Prelude.{not, if◌then◌else◌}
use Rattle.std.proofs.Common.{◌≡◌, refl, sym, ◌∙◌, ap, subst, true, false, [], ◌∷◌, ◌++◌, List, Bool, Option, Some, None, length, ◌<◌, arith, flat_map}
use Rattle.defs_text.specs.Lexing.{Saying}
use Rattle.defs_read.specs.Grammar.{Flag, operator_support, instance_support, is_default, is_chunk}
use Rattle.defs_read.specs.Readers.{begins, taken, taken_by}
use Rattle.defs_read.specs.ReadingTokens.{is_bare}
use Rattle.defs_read.specs.Reading.{Seen, as_flag, is_open_for, with_flag, may_follow, flags_at}
use Rattle.defs_read.specs.Spelling.{Tokens, bare_word, flag_text}
use Rattle.reading_laws.specs.Lawful.{AllOf, is_of_support, AreFlags}
use Rattle.reading_laws.proofs.ReaderLaws.{Outcome, read_all, read_front, Exact, Always, said_exact}
use Rattle.reading_laws.proofs.ChoiceLaws.{Only, Names, named_exact}
use Rattle.reading_laws.proofs.SeveralLaws.{Listed, last, Several, several_exact, exact_shortens}
use Rattle.reading_laws.proofs.PieceLaws.{Spelled}
use Rattle.reading_laws.proofs.TokenLaws.{bare_only}

-- ---- the words

abbrev pub spelled_one : Flag → Saying
spelled_one f = bare_word (flag_text f)

flag_names : Names as_flag spelled_one
flag_names = record { back = back; only = λ t f e. first t f (is_bare (flag_text operator_support) t) refl e }
  where
    back : (f : Flag) → as_flag (spelled_one f) ≡ Some f
    back operator_support = refl
    back instance_support = refl
    back is_default = refl
    back is_chunk = refl

    chosen : (t : Saying) (f g : Flag) → t ≡ spelled_one g → ◌≡◌ {A = Option Flag} (Some g) (Some f) → t ≡ spelled_one f
    chosen t f g e h = let same : g ≡ f = cc in e ∙ ap spelled_one same

    fourth : (t : Saying) (f : Flag) (b : Bool) → is_bare (flag_text is_chunk) t ≡ b → (if b then Some is_chunk else None) ≡ Some f → t ≡ spelled_one f
    fourth t f true e h = chosen t f is_chunk (bare_only (flag_text is_chunk) t e) h
    fourth t f false e h = absurd (cc)

    third : (t : Saying) (f : Flag) (b : Bool) → is_bare (flag_text is_default) t ≡ b → (if b then Some is_default else (if is_bare (flag_text is_chunk) t then Some is_chunk else None)) ≡ Some f → t ≡ spelled_one f
    third t f true e h = chosen t f is_default (bare_only (flag_text is_default) t e) h
    third t f false e h = fourth t f (is_bare (flag_text is_chunk) t) refl h

    second : (t : Saying) (f : Flag) (b : Bool) → is_bare (flag_text instance_support) t ≡ b
        → (if b then Some instance_support else (if is_bare (flag_text is_default) t then Some is_default else (if is_bare (flag_text is_chunk) t then Some is_chunk else None))) ≡ Some f → t ≡ spelled_one f
    second t f true e h = chosen t f instance_support (bare_only (flag_text instance_support) t e) h
    second t f false e h = third t f (is_bare (flag_text is_default) t) refl h

    first : (t : Saying) (f : Flag) (b : Bool) → is_bare (flag_text operator_support) t ≡ b
        → (if b then Some operator_support else (if is_bare (flag_text instance_support) t then Some instance_support else (if is_bare (flag_text is_default) t then Some is_default else (if is_bare (flag_text is_chunk) t then Some is_chunk else None)))) ≡ Some f
        → t ≡ spelled_one f
    first t f true e h = chosen t f operator_support (bare_only (flag_text operator_support) t e) h
    first t f false e h = second t f (is_bare (flag_text instance_support) t) refl h

flag_reads : Exact (Only spelled_one) (Only spelled_one) Always (taken as_flag)
flag_reads = named_exact as_flag spelled_one flag_names is_chunk

-- ---- flags in a row

pub record FlagIs (s : Seen) (f : Flag) (u : Tokens) : Type 0 where
  pub spelled : u ≡ spelled_one f ∷ []
  pub still : is_open_for s f ≡ true

flags_several : Several FlagIs FlagIs (λ s. Unit {0}) Always (λ s rest. begins (may_follow s) rest ≡ false) (λ s ts. begins (may_follow s) ts) with_flag (taken as_flag)
flags_several = record {
  some = λ s f u x. subst (λ l. 0 < length l) (sym x.spelled) (omega arith);
  shortens = exact_shortens {W = Only spelled_one} (taken as_flag) flag_reads.steps (λ f u e. subst (λ l. 0 < length l) (sym e) (omega arith));
  looks = λ s. record { same = λ t x y. refl };
  each = each;
  reads = λ s f u rest x m. flag_reads.whole f u rest x.spelled tt;
  enters = λ s f u rest x. ap (λ l. begins (may_follow s) (l ++ rest)) x.spelled ∙ ap (λ o. elim o as (λ _. Bool) [ Some f ↦ is_open_for s f | None ↦ false ]) (flag_names.back f) ∙ x.still;
  ends = λ s ts e. tt;
  wide = λ s f u x. x;
  finish = λ s. ([], [], (refl, tt));
  stops = λ s rest e. e;
  follows = λ s f fs u w rest x l e. tt;
}
  where
    each : (s : Seen) (ts : Tokens) → begins (may_follow s) ts ≡ true → Outcome (FlagIs s) (FlagIs s) (taken as_flag) ts
    each s [] e = absurd (cc)
    each s (t ∷ ts) e = go ts (as_flag t) refl e
      where
        go : (ts : Tokens) (o : Option Flag) → as_flag t ≡ o → elim o as (λ _. Bool) [ Some f ↦ is_open_for s f | None ↦ false ] ≡ true → Outcome (FlagIs s) (FlagIs s) (taken as_flag) (t ∷ ts)
        go [] (Some f) h k = read_all f (record { spelled = ap (λ c. c ∷ []) (flag_names.only t f h); still = k }) (ap (λ o. taken_by o t []) h)
        go (c ∷ ts) (Some f) h k = read_front f (t ∷ []) c ts refl (record { spelled = ap (λ c. c ∷ []) (flag_names.only t f h); still = k }) (λ y. ap (λ o. taken_by o t (c ∷ y)) h)
        go ts None h k = absurd (cc)

-- ---- at most one flag is about each

abbrev pub none_seen : Seen
none_seen = record { support = false; kind = false }

differ : false ≡ true → ⊥
differ e = cc

-- a flag that is open behind another was open before, and is about something else
still_open : (s : Seen) (f g : Flag) → is_open_for (with_flag s f) g ≡ true → (is_open_for s g ≡ true) × (is_of_support g ≡ not (is_of_support f))
still_open s operator_support operator_support h = absurd (differ h)
still_open s operator_support instance_support h = absurd (differ h)
still_open s operator_support is_default h = (h, refl)
still_open s operator_support is_chunk h = (h, refl)
still_open s instance_support operator_support h = absurd (differ h)
still_open s instance_support instance_support h = absurd (differ h)
still_open s instance_support is_default h = (h, refl)
still_open s instance_support is_chunk h = (h, refl)
still_open s is_default operator_support h = (h, refl)
still_open s is_default instance_support h = (h, refl)
still_open s is_default is_default h = absurd (differ h)
still_open s is_default is_chunk h = absurd (differ h)
still_open s is_chunk operator_support h = (h, refl)
still_open s is_chunk instance_support h = (h, refl)
still_open s is_chunk is_default h = absurd (differ h)
still_open s is_chunk is_chunk h = absurd (differ h)

stays_open : (s : Seen) (f g : Flag) → is_open_for s g ≡ true → is_of_support g ≡ not (is_of_support f) → is_open_for (with_flag s f) g ≡ true
stays_open s operator_support operator_support h e = sym e
stays_open s operator_support instance_support h e = sym e
stays_open s operator_support is_default h e = h
stays_open s operator_support is_chunk h e = h
stays_open s instance_support operator_support h e = sym e
stays_open s instance_support instance_support h e = sym e
stays_open s instance_support is_default h e = h
stays_open s instance_support is_chunk h e = h
stays_open s is_default operator_support h e = h
stays_open s is_default instance_support h e = h
stays_open s is_default is_default h e = e
stays_open s is_default is_chunk h e = e
stays_open s is_chunk operator_support h e = h
stays_open s is_chunk instance_support h e = h
stays_open s is_chunk is_default h e = e
stays_open s is_chunk is_chunk h e = e

-- each flag is open, and no two are about the same
pub record Apart (s : Seen) (fs : List Flag) : Type 0 where
  pub free : AllOf (λ g. is_open_for s g ≡ true) fs
  pub apart : AreFlags fs

both : (s : Seen) (f : Flag) (fs : List Flag) → AllOf (λ g. is_open_for (with_flag s f) g ≡ true) fs → AllOf (λ g. is_open_for s g ≡ true) fs × AllOf (λ g. is_of_support g ≡ not (is_of_support f)) fs
both s f [] h = (tt, tt)
both s f (g ∷ fs) h = let l = both s f fs h.1 in let o = still_open s f g h.0 in ((o.0, l.0), (o.1, l.1))

join : (s : Seen) (f : Flag) (fs : List Flag) → AllOf (λ g. is_open_for s g ≡ true) fs → AllOf (λ g. is_of_support g ≡ not (is_of_support f)) fs → AllOf (λ g. is_open_for (with_flag s f) g ≡ true) fs
join s f [] h k = tt
join s f (g ∷ fs) h k = (stays_open s f g h.0 k.0, join s f fs h.1 k.1)

flags_there : (s : Seen) (fs : List Flag) (u : Tokens) → Listed FlagIs (λ s. Unit {0}) with_flag s fs u → Spelled (flat_map (λ f. spelled_one f ∷ [])) (Apart s) fs u
flags_there s [] u h = record { spelled = h.0; lawful = record { free = tt; apart = tt } }
flags_there s (f ∷ fs) u h =
    let l = flags_there (with_flag s f) fs h.1 h.4 in let o = both s f fs l.lawful.free in
    record { spelled = h.2 ∙ ap (λ k. k ++ h.1) h.3.spelled ∙ ap (λ k. spelled_one f ∷ k) l.spelled; lawful = record { free = (h.3.still, o.0); apart = (o.1, l.lawful.apart) } }

flags_back : (s : Seen) (fs : List Flag) (u : Tokens) → Spelled (flat_map (λ f. spelled_one f ∷ [])) (Apart s) fs u → Listed FlagIs (λ s. Unit {0}) with_flag s fs u
flags_back s [] u z = (z.spelled, tt)
flags_back s (f ∷ fs) u z = (
  spelled_one f ∷ [],
  flat_map (λ f. spelled_one f ∷ []) fs,
  z.spelled,
  record { spelled = refl; still = z.lawful.free.0 },
  flags_back (with_flag s f) fs (flat_map (λ f. spelled_one f ∷ []) fs) (record { spelled = refl; lawful = record { free = join s f fs z.lawful.free.1 z.lawful.apart.0; apart = z.lawful.apart.1 } }),
)

all_open : (fs : List Flag) → AllOf (λ g. is_open_for none_seen g ≡ true) fs
all_open [] = tt
all_open (f ∷ fs) = (one f, all_open fs)
  where
    one : (f : Flag) → is_open_for none_seen f ≡ true
    one operator_support = refl
    one instance_support = refl
    one is_default = refl
    one is_chunk = refl

-- any flag
abbrev pub is_flag : Saying → Bool
is_flag t = elim (as_flag t) [ Some f ↦ true | None ↦ false ]

pub flags_exact : Exact (Spelled (flat_map (λ f. spelled_one f ∷ [])) AreFlags) (Spelled (flat_map (λ f. spelled_one f ∷ [])) AreFlags) (λ fs rest. begins is_flag rest ≡ false) flags_at
flags_exact =
    said_exact flags_at there back there (λ fs u z. z) (λ fs rest e. closed (last with_flag none_seen fs) rest e)
    (several_exact FlagIs FlagIs (λ s. Unit {0}) Always (λ s rest. begins (may_follow s) rest ≡ false) (λ s ts. begins (may_follow s) ts) with_flag (taken as_flag) flags_several none_seen)
  where
    there : (fs : List Flag) (u : Tokens) → Listed FlagIs (λ s. Unit {0}) with_flag none_seen fs u → Spelled (flat_map (λ f. spelled_one f ∷ [])) AreFlags fs u
    there fs u h = let l = flags_there none_seen fs u h in record { spelled = l.spelled; lawful = l.lawful.apart }

    back : (fs : List Flag) (u : Tokens) → Spelled (flat_map (λ f. spelled_one f ∷ [])) AreFlags fs u → Listed FlagIs (λ s. Unit {0}) with_flag none_seen fs u
    back fs u z = flags_back none_seen fs u (record { spelled = z.spelled; lawful = record { free = all_open fs; apart = z.lawful } })

    closed : (s : Seen) (rest : Tokens) → begins is_flag rest ≡ false → begins (may_follow s) rest ≡ false
    closed s [] e = refl
    closed s (t ∷ ts) e = go (as_flag t) e
      where
        go : (o : Option Flag) → elim o as (λ _. Bool) [ Some f ↦ true | None ↦ false ] ≡ false → elim o as (λ _. Bool) [ Some f ↦ is_open_for s f | None ↦ false ] ≡ false
        go (Some f) e = absurd (cc)
        go None e = refl
