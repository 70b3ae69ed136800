-- Bytes that are skipped: blanks, comments and the rest of a command.
use Rattle.std.proofs.Common.{◌≡◌, ℕ, zero, suc, ◌+◌, ◌-◌, suc-add, ◌<◌, ◌≤◌, ◌==◌, Bool, true, false, not, cond, nat_lt, List, [], ◌∷◌, ◌++◌, length, take, drop, get_or, Some, None, refl, sym, ap, subst, ◌∙◌, zero-add, add-zero, add_assoc, arith, position}
use Rattle.std.specs.List.{prefix_len, count_by}
use Rattle.std.proofs.Math.Seq.{take-add}
use Rattle.std.proofs.lemmas.Bool.Decides.{nat_tests}
use Rattle.std.proofs.lemmas.List.Recursion.{is_count_by}
use Rattle.std.proofs.lemmas.List.{drop-drop, drop_more}
use Rattle.soar_edge.specs.Cutting.{is_space, line_after, cuts_from, cut_of, extent_from, open_text, Cut}
use Rattle.soar_edge.specs.Scanning.{newlines}
use Rattle.soar_edge.specs.Leading.{Skips, BeginsCommand, IsOpenComment, LeadsTo}

-- a byte of a line, but for the newline that ends it
abbrev pub in_line : ℕ → Bool
in_line b = not (b == 10)

-- what is cut where a command begins
abbrev command : Bool → ℕ → List ℕ → List Cut
command closed number bytes = let e = extent_from closed open_text 0 bytes in cut_of closed number bytes e (elim bytes as (λ _. List Cut) [ [] ↦ [] | b ∷ rest ↦ cuts_from closed (e.size - 1) (line_after number b) rest ])

pub newlines_count : (bytes : List ℕ) → newlines bytes ≡ count_by (λ b. b == 10) bytes
newlines_count bytes = is_count_by newlines (λ b. b == 10) refl (λ b rest. refl) bytes

pub newlines-append : (front back : List ℕ) → newlines (front ++ back) ≡ newlines front + newlines back
newlines-append [] back = sym (zero-add (newlines back))
newlines-append (b ∷ front) back = by (b == 10) (newlines-append front back)
  where
    by : (t : Bool) → newlines (front ++ back) ≡ newlines front + newlines back → cond t (1 + newlines (front ++ back)) (newlines (front ++ back)) ≡ cond t (1 + newlines front) (newlines front) + newlines back
    by true rest = omega arith
    by false rest = rest

pub newlines-le : (bytes : List ℕ) → newlines bytes ≤ length bytes
newlines-le [] = omega arith
newlines-le (b ∷ bytes) = by (b == 10) (newlines-le bytes)
  where
    by : (t : Bool) → newlines bytes ≤ length bytes → cond t (1 + newlines bytes) (newlines bytes) ≤ suc (length bytes)
    by true rest = omega arith
    by false rest = omega arith

-- the line behind a byte
line_counts : (number b : ℕ) (bytes : List ℕ) → line_after number b + newlines bytes ≡ number + newlines (b ∷ bytes)
line_counts number b bytes = by (b == 10)
  where
    by : (t : Bool) → (cond t (suc number) number) + newlines bytes ≡ number + cond t (1 + newlines bytes) (newlines bytes)
    by true = omega arith
    by false = refl

-- bytes of what stands before are passed, and their newlines counted
pub cuts_skip : (closed : Bool) (size number : ℕ) (front more : List ℕ) → size ≤ length front
    → cuts_from closed size number (front ++ more) ≡ cuts_from closed 0 (number + newlines (take size front)) (drop size front ++ more)
cuts_skip closed zero number front more within = ap (λ n. cuts_from closed 0 n (front ++ more)) (omega arith)
cuts_skip closed (suc size) number [] more within = absurd (omega arith)
cuts_skip closed (suc size) number (b ∷ front) more within =
    cuts_skip closed size (line_after number b) front more (omega arith)
    ∙ ap (λ n. cuts_from closed 0 n (drop size front ++ more)) (line_counts number b (take size front))

-- bytes that are skipped behind others
pub skips_on : (bytes : List ℕ) (size more : ℕ) → size ≤ length bytes → Skips bytes size → Skips (drop size bytes) more → Skips bytes (size + more)
skips_on bytes size more within first second = λ ends number next.
    first ends number next
    ∙ second ends (number + newlines (take size bytes)) next
    ∙ ap (λ n. cuts_from ends 0 n (drop more (drop size bytes) ++ next)) (add_assoc number (newlines (take size bytes)) (newlines (take more (drop size bytes))) ∙ ap (λ n. number + n) (sym (newlines-append (take size bytes) (take more (drop size bytes))) ∙ ap newlines (sym (take-add size more bytes))))
    ∙ ap (λ rest. cuts_from ends 0 (number + newlines (take (size + more) bytes)) (rest ++ next)) (drop-drop more size bytes)

-- one blank
pub skips_space : (bytes : List ℕ) (size : ℕ) → size < length bytes → is_space (get_or bytes size 0) ≡ true → Skips bytes size → Skips bytes (size + 1)
skips_space bytes size within space first = skips_on bytes size 1 (omega arith) first (subst (λ rest. Skips rest 1) (sym (drop_more bytes size 0 within)) (one (get_or bytes size 0) (drop (size + 1) bytes) space))
  where
    one : (b : ℕ) (rest : List ℕ) → is_space b ≡ true → Skips (b ∷ rest) 1
    one b rest space = λ ends number next.
        ap (λ t. elim t as (λ _. List Cut) [ true ↦ cuts_from ends 0 (line_after number b) (rest ++ next) | false ↦ elim (b == 35) as (λ _. List Cut) [ true ↦ cuts_from ends (prefix_len in_line (rest ++ next)) number (rest ++ next) | false ↦ command ends number (b ∷ (rest ++ next)) ] ]) space
        ∙ ap (λ n. cuts_from ends 0 n (rest ++ next)) (sym (add-zero (line_after number b)) ∙ line_counts number b [])

-- a line goes as far in front of more bytes
line_ends : (bytes more : List ℕ) → prefix_len in_line bytes < length bytes → prefix_len in_line (bytes ++ more) ≡ prefix_len in_line bytes
line_ends [] more short = absurd (omega arith)
line_ends (b ∷ bytes) more short = by (in_line b) short (λ s. line_ends bytes more s)
  where
    by : (t : Bool) → cond t (1 + prefix_len in_line bytes) 0 < suc (length bytes) → (prefix_len in_line bytes < length bytes → prefix_len in_line (bytes ++ more) ≡ prefix_len in_line bytes)
        → cond t (1 + prefix_len in_line (bytes ++ more)) 0 ≡ cond t (1 + prefix_len in_line bytes) 0
    by true short rest = ap (λ n. 1 + n) (rest (omega arith))
    by false short rest = refl

no_newline : (bytes : List ℕ) → length bytes ≤ prefix_len in_line bytes → newlines bytes ≡ 0
no_newline [] long = refl
no_newline (b ∷ bytes) long = by (b == 10) long (λ l. no_newline bytes l)
  where
    by : (t : Bool) → suc (length bytes) ≤ cond (not t) (1 + prefix_len in_line bytes) 0 → (length bytes ≤ prefix_len in_line bytes → newlines bytes ≡ 0) → cond t (1 + newlines bytes) (newlines bytes) ≡ 0
    by true long rest = absurd (omega arith)
    by false long rest = rest (omega arith)

-- where the first newline stands
pub newline_at : (bytes : List ℕ) (size : ℕ) → position (λ b. b == 10) bytes ≡ Some size → (size ≡ prefix_len in_line bytes) × (size < length bytes)
newline_at bytes size at = by (nat_lt (prefix_len in_line bytes) (length bytes)) refl at
  where
    by : (t : Bool) → nat_lt (prefix_len in_line bytes) (length bytes) ≡ t → cond t (Some (prefix_len in_line bytes)) None ≡ Some size → (size ≡ prefix_len in_line bytes) × (size < length bytes)
    by true e at = grind (arith, nat_tests)
    by false e at = absurd (cc)

no_newline_at : (bytes : List ℕ) → position (λ b. b == 10) bytes ≡ None → newlines bytes ≡ 0
no_newline_at bytes at = by (nat_lt (prefix_len in_line bytes) (length bytes)) refl at
  where
    by : (t : Bool) → nat_lt (prefix_len in_line bytes) (length bytes) ≡ t → cond t (Some (prefix_len in_line bytes)) None ≡ None → newlines bytes ≡ 0
    by true e at = absurd (cc)
    by false e at = no_newline bytes (grind (arith, nat_tests))

-- a comment before its newline
comment_skips : (rest : List ℕ) (size : ℕ) → position (λ b. b == 10) (35 ∷ rest) ≡ Some size → Skips (35 ∷ rest) size
comment_skips rest size at =
    let found = newline_at (35 ∷ rest) size at in
    let more = prefix_len in_line rest in
    let long : size ≡ suc more = omega (arith, found.0) in
    let short : more < length rest = omega (arith, found.1) in
    subst (Skips (35 ∷ rest)) (sym long)
    (λ ends number next.
    ap (λ n. cuts_from ends n number (rest ++ next)) (line_ends rest next short)
    ∙ cuts_skip ends more number rest next (omega arith))

pub skips_comment : (bytes : List ℕ) (size more : ℕ) → size < length bytes → get_or bytes size 0 ≡ 35 → position (λ b. b == 10) (drop size bytes) ≡ Some more → Skips bytes size → Skips bytes (size + more)
skips_comment bytes size more within hash at first =
    let front : drop size bytes ≡ 35 ∷ drop (size + 1) bytes = drop_more bytes size 0 within ∙ ap (λ b. b ∷ drop (size + 1) bytes) hash in
    skips_on bytes size more (omega arith) first (subst (λ rest. Skips rest more) (sym front) (comment_skips (drop (size + 1) bytes) more (ap (position (λ b. b == 10)) (sym front) ∙ at)))

pub leads_to_comment : (bytes : List ℕ) (size : ℕ) → size < length bytes → get_or bytes size 0 ≡ 35 → position (λ b. b == 10) (drop size bytes) ≡ None → Skips bytes size → LeadsTo IsOpenComment bytes size
leads_to_comment bytes size within hash at first =
    let front : drop size bytes ≡ 35 ∷ drop (size + 1) bytes = drop_more bytes size 0 within ∙ ap (λ b. b ∷ drop (size + 1) bytes) hash in
    record {
      within = within;
      skips = first;
      next = subst IsOpenComment (sym front) (refl, no_newline_at (35 ∷ drop (size + 1) bytes) (ap (position (λ b. b == 10)) (sym front) ∙ at));
    }

pub leads_to_command : (bytes : List ℕ) (size : ℕ) → size < length bytes → (get_or bytes size 0 == 35) ≡ false → is_space (get_or bytes size 0) ≡ false → Skips bytes size → LeadsTo BeginsCommand bytes size
leads_to_command bytes size within no_hash no_space first = record {
  within = within;
  skips = first;
  next = subst BeginsCommand (sym (drop_more bytes size 0 within)) (no_space, no_hash);
}

-- all bytes before belong to a line that goes on
line_goes_on : (bytes more : List ℕ) → newlines bytes ≡ 0 → prefix_len in_line (bytes ++ more) ≡ length bytes + prefix_len in_line more
line_goes_on [] more none = sym (zero-add (prefix_len in_line more))
line_goes_on (b ∷ bytes) more none = by (b == 10) none (λ n. line_goes_on bytes more n)
  where
    by : (t : Bool) → cond t (1 + newlines bytes) (newlines bytes) ≡ 0 → (newlines bytes ≡ 0 → prefix_len in_line (bytes ++ more) ≡ length bytes + prefix_len in_line more)
        → cond (not t) (1 + prefix_len in_line (bytes ++ more)) 0 ≡ suc (length bytes) + prefix_len in_line more
    by true none rest = absurd (omega arith)
    by false none rest = omega (arith, rest none)

cuts_past : (closed : Bool) (size number : ℕ) (front more : List ℕ) → newlines front ≡ 0 → cuts_from closed (length front + size) number (front ++ more) ≡ cuts_from closed size number more
cuts_past closed size number [] more none = ap (λ n. cuts_from closed n number more) (zero-add size)
cuts_past closed size number (b ∷ front) more none =
    ap (λ n. cuts_from closed n number (b ∷ (front ++ more))) (suc-add (length front) size)
    ∙ by (b == 10) none (λ n. cuts_past closed size number front more n)
  where
    by : (t : Bool) → cond t (1 + newlines front) (newlines front) ≡ 0 → (newlines front ≡ 0 → cuts_from closed (length front + size) number (front ++ more) ≡ cuts_from closed size number more)
        → cuts_from closed (length front + size) (cond t (suc number) number) (front ++ more) ≡ cuts_from closed size number more
    by true none rest = absurd (omega arith)
    by false none rest = rest none

-- of a comment whose newline has not come the first byte says all
pub comment_stays : (rest more : List ℕ) (closed : Bool) (number : ℕ) → newlines rest ≡ 0 → cuts_from closed 0 number (35 ∷ (rest ++ more)) ≡ cuts_from closed 0 number (35 ∷ more)
comment_stays rest more closed number none =
    ap (λ n. cuts_from closed n number (rest ++ more)) (line_goes_on rest more none)
    ∙ cuts_past closed (prefix_len in_line more) number rest more none
