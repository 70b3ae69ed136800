-- Where the command in front ends, by a scan of its first bytes.
use Rattle.std.proofs.Common.{◌≡◌, ℕ, suc, ◌+◌, ◌<◌, ◌≤◌, ◌^◌, Bool, true, false, List, [], ◌∷◌, ◌++◌, length, take, drop, get_or, refl, sym, ap, subst, ◌∙◌, arith}
use Rattle.soar_edge.specs.Cutting.{Inside, open_text, after_byte, depth_after, is_end, ends_there, Extent, one_byte_more, extent_from}
use Rattle.soar_edge.specs.Scanning.{inside_of, Passes, IsScan}
use Rattle.soar_edge.specs.Reaching.{Reaches, GoesOn, IsLong}
use Rattle.soar_edge.specs.declared.scan.Scan.{Scan}
use Rattle.std.proofs.lemmas.List.{append-nil, append_assoc, take-append-drop, drop_all, drop_more, take_more, length-take-le}

-- an extent of so many bytes more
abbrev pub further : ℕ → Extent → Extent
further n e = record { size = n + e.size; ends = e.ends }

same_extent : (m n : ℕ) (ends : Bool) → m ≡ n → let a : Extent = record { size = m; ends = ends } in let b : Extent = record { size = n; ends = ends } in a ≡ b
same_extent m n ends e = λ k. record { size = e k; ends = ends }

-- past bytes that do not end it, an extent goes on
pub extent_past : (closed : Bool) (from : Inside) (depth : ℕ) (bytes : List ℕ) (to : Inside) (deep : ℕ) (more : List ℕ) → Passes from depth bytes to deep
    → extent_from closed from depth (bytes ++ more) ≡ further (length bytes) (extent_from closed to deep more)
extent_past closed from depth [] to deep more passes =
    let e = extent_from closed to deep more in
    ap (λ i. extent_from closed i depth more) passes.0 ∙ ap (λ d. extent_from closed to d more) passes.1 ∙ same_extent e.size (0 + e.size) e.ends (omega arith)
extent_past closed from depth (b ∷ bytes) to deep more passes =
    let rest = extent_from closed (after_byte from b) (depth_after from depth b) (bytes ++ more) in
    let e = extent_from closed to deep more in
    ap (λ t. elim t as (λ _. Extent) [ true ↦ record { size = 0; ends = true } | false ↦ one_byte_more rest ]) passes.0
    ∙ ap one_byte_more (extent_past closed (after_byte from b) (depth_after from depth b) bytes to deep more passes.1)
    ∙ same_extent (suc (length bytes + e.size)) (suc (length bytes) + e.size) e.ends (omega arith)

-- one byte further
pub passes_push : (from : Inside) (depth : ℕ) (bytes : List ℕ) (to : Inside) (deep b : ℕ) → Passes from depth bytes to deep → is_end to deep b ≡ false
    → Passes from depth (bytes ++ b ∷ []) (after_byte to b) (depth_after to deep b)
passes_push from depth [] to deep b passes goes =
    (ap (λ i. is_end i depth b) passes.0 ∙ ap (λ d. is_end to d b) passes.1 ∙ goes, (ap (λ i. after_byte i b) passes.0, ap (λ i. depth_after i depth b) passes.0 ∙ ap (λ d. depth_after to d b) passes.1))
passes_push from depth (c ∷ bytes) to deep b passes goes = (passes.0, passes_push (after_byte from c) (depth_after from depth c) bytes to deep b passes.1 goes)

-- a scan one byte further
pub is_scan_past : (front : List ℕ) (scan next : Scan) → IsScan front scan → scan.size < length front → scan.size < 2 ^ 20 + 1
    → is_end (inside_of scan.inside) scan.depth (get_or front scan.size 0) ≡ false
    → next.size ≡ scan.size + 1 → inside_of next.inside ≡ after_byte (inside_of scan.inside) (get_or front scan.size 0)
    → next.depth ≡ depth_after (inside_of scan.inside) scan.depth (get_or front scan.size 0) → next.depth ≤ next.size → IsScan front next
is_scan_past front scan next held more few goes size inside depth shallow = record {
  within = omega arith;
  few = omega arith;
  shallow = shallow;
  passes =
      let b = get_or front scan.size 0 in
      let longer : take next.size front ≡ take scan.size front ++ b ∷ [] = ap (λ n. take n front) size ∙ take_more front scan.size 0 more in
      let pushed = passes_push open_text 0 (take scan.size front) (inside_of scan.inside) scan.depth b held.passes goes in
      subst (λ bytes. Passes open_text 0 bytes (inside_of next.inside) next.depth) (sym longer)
      (subst (λ i. Passes open_text 0 (take scan.size front ++ b ∷ []) i next.depth) (sym inside)
      (subst (λ d. Passes open_text 0 (take scan.size front ++ b ∷ []) (after_byte (inside_of scan.inside) b) d) (sym depth) pushed));
}

-- the extent of a command that was scanned so far
pub extent_scanned : (front : List ℕ) (scan : Scan) (closed : Bool) (more : List ℕ) → IsScan front scan
    → extent_from closed open_text 0 (front ++ more) ≡ further scan.size (extent_from closed (inside_of scan.inside) scan.depth (drop scan.size front ++ more))
extent_scanned front scan closed more held =
    let split : front ++ more ≡ take scan.size front ++ (drop scan.size front ++ more) = ap (λ f. f ++ more) (sym (take-append-drop scan.size front)) ∙ append_assoc (take scan.size front) (drop scan.size front) more in
    let e = extent_from closed (inside_of scan.inside) scan.depth (drop scan.size front ++ more) in
    ap (extent_from closed open_text 0) split
    ∙ extent_past closed open_text 0 (take scan.size front) (inside_of scan.inside) scan.depth (drop scan.size front ++ more) held.passes
    ∙ same_extent (length (take scan.size front) + e.size) (scan.size + e.size) e.ends (ap (λ n. n + e.size) (length-take-le scan.size front held.within))

-- a byte ends it, whatever follows
pub reach_ends : (front : List ℕ) (scan : Scan) (closed : Bool) → IsScan front scan → scan.size < length front → scan.size ≤ 2 ^ 20
    → is_end (inside_of scan.inside) scan.depth (get_or front scan.size 0) ≡ true → Reaches front closed scan.size
reach_ends front scan closed held more few ends = record {
  within = omega arith;
  few = few;
  extent = λ last next follows.
      let b = get_or front scan.size 0 in
      let rest = drop (scan.size + 1) front in
      let goes = one_byte_more (extent_from last (after_byte (inside_of scan.inside) b) (depth_after (inside_of scan.inside) scan.depth b) (rest ++ next)) in
      extent_scanned front scan last next held
      ∙ ap (λ bytes. further scan.size (extent_from last (inside_of scan.inside) scan.depth (bytes ++ next))) (drop_more front scan.size 0 more)
      ∙ ap (λ t. further scan.size (elim t as (λ _. Extent) [ true ↦ record { size = 0; ends = true } | false ↦ goes ])) ends
      ∙ same_extent (scan.size + 0) scan.size true (omega arith);
}

-- the end of the stream ends it
pub reach_closed : (front : List ℕ) (scan : Scan) → IsScan front scan → length front ≤ scan.size → scan.size ≤ 2 ^ 20
    → ends_there (inside_of scan.inside) scan.depth ≡ true → Reaches front true scan.size
reach_closed front scan held all few ends = record {
  within = held.within;
  few = few;
  extent = λ last next follows.
      extent_scanned front scan last next held
      ∙ ap (λ bytes. further scan.size (extent_from last (inside_of scan.inside) scan.depth bytes)) (ap (λ bytes. bytes ++ next) (drop_all scan.size front all) ∙ follows.1)
      ∙ ap (λ l. further scan.size (extent_from l (inside_of scan.inside) scan.depth [])) follows.0
      ∙ ap (λ t. further scan.size (record { size = 0; ends = t })) ends
      ∙ same_extent (scan.size + 0) scan.size true (omega arith);
}

-- nothing ends it yet
pub reach_open : (front : List ℕ) (scan : Scan) (closed : Bool) → IsScan front scan → length front ≤ scan.size → scan.size ≤ 2 ^ 20
    → (closed ≡ true → ends_there (inside_of scan.inside) scan.depth ≡ false) → GoesOn front closed scan
reach_open front scan closed held all few ends = record {
  held = held;
  few = omega arith;
  extent = by closed ends;
}
  where
    to_end : (closed : Bool) → extent_from closed open_text 0 front ≡ further scan.size (extent_from closed (inside_of scan.inside) scan.depth [])
    to_end closed =
        ap (extent_from closed open_text 0) (sym (append-nil front))
        ∙ extent_scanned front scan closed [] held
        ∙ ap (λ bytes. further scan.size (extent_from closed (inside_of scan.inside) scan.depth bytes)) (append-nil (drop scan.size front) ∙ drop_all scan.size front all)

    by : (closed : Bool) → (closed ≡ true → ends_there (inside_of scan.inside) scan.depth ≡ false) → extent_from closed open_text 0 front ≡ record { size = length front; ends = false }
    by true ends =
        to_end true
        ∙ ap (λ t. further scan.size (record { size = 0; ends = t })) (ends refl)
        ∙ same_extent (scan.size + 0) (length front) false (omega (arith, held.within))
    by false ends = to_end false ∙ same_extent (scan.size + 0) (length front) false (omega (arith, held.within))

-- it has more than 1 MiB, whatever follows
pub reach_long : (front : List ℕ) (scan : Scan) → IsScan front scan → 2 ^ 20 < scan.size → IsLong front scan
reach_long front scan held many = record {
  held = held;
  size = λ last next.
      let e = extent_from last (inside_of scan.inside) scan.depth (drop scan.size front ++ next) in
      let size : (extent_from last open_text 0 (front ++ next)).size ≡ scan.size + e.size = ap (λ (e : Extent). e.size) (extent_scanned front scan last next held) in
      omega arith;
}
