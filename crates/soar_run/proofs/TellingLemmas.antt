-- The steps of a reply, as the definitions write them.
use Rattle.std.proofs.Common.{◌≡◌, ℕ, ◌++◌, cond, nat_le, Bool, true, false, List, [], ◌∷◌, Option, Some, None, refl, sym, ap, ◌∙◌, arith, append_assoc}
use Rattle.std.proofs.lemmas.Grind.{common_steps}
use Rattle.std.proofs.lemmas.List.{append-nil}
use Rattle.defs_soar.specs.declared.limit.Which.{Which}
use Rattle.defs_soar.specs.Limits.{or_limit, first_passed, limit_text}
use Rattle.defs_soar.specs.Trace.{line, Written, line_text, rendered, followed_by}
use Rattle.defs_run.specs.Runs.{Rendered, behind_written, at_limit, told_written}
use Rattle.defs_run.specs.Sessions.{Told}
use Rattle.soar_agent.specs.Telling.{front_told, limit_told}
use Rattle.soar_agent.specs.Writing.{limit_line}

-- the steps pass no limit
pub told_whole : (watch : ℕ) (mid : Bool) (told : List Told) → limit_told told ≡ None → told_written watch mid told ≡ record { written = front_told watch mid told; limit = None }
told_whole watch mid [] within = refl
told_whole watch mid (t ∷ told) within = by (first_passed t.totals) within (told_whole watch (rendered watch mid t.pieces).mid_line told)
  where
    first : Written
    first = rendered watch mid t.pieces

    by : (o : Option Which) → or_limit o (limit_told told) ≡ None
        → (limit_told told ≡ None → told_written watch first.mid_line told ≡ record { written = front_told watch first.mid_line told; limit = None })
        → (elim o as (λ _. Rendered) [ Some limit ↦ at_limit watch mid limit | None ↦ behind_written first (told_written watch first.mid_line told) ])
        ≡ record { written = elim o as (λ _. Written) [ Some limit ↦ record { text = []; mid_line = mid } | None ↦ followed_by first (front_told watch first.mid_line told) ]; limit = None }
    by None within later = ap (behind_written first) (later within)
    by (Some limit) within later = absurd (cc)

-- a line of the least level is written at each
low_line : (watch : ℕ) (mid : Bool) (text : List ℕ) → (rendered watch mid (line 0 text ∷ [])).text ≡ line_text mid text
low_line watch mid text =
    let least : nat_le 0 watch ≡ true = grind (arith, common_steps) in
    let written : Bool → Written = λ b. cond b (record { text = line_text mid text; mid_line = false }) (record { text = []; mid_line = mid }) in
    ap (λ b. (written b).text ++ []) least ∙ append-nil (line_text mid text)

-- the line of the limit that they pass follows what the steps before wrote
pub told_limited : (watch : ℕ) (mid : Bool) (told : List Told) (limit : Which) → limit_told told ≡ Some limit
    → ((told_written watch mid told).limit ≡ Some limit)
    × ((told_written watch mid told).written.text ≡ (front_told watch mid told).text ++ line_text (front_told watch mid told).mid_line (limit_text limit))
told_limited watch mid [] limit passed = absurd (cc)
told_limited watch mid (t ∷ told) limit passed = by (first_passed t.totals) passed (told_limited watch (rendered watch mid t.pieces).mid_line told limit)
  where
    first : Written
    first = rendered watch mid t.pieces

    rest : Rendered
    rest = told_written watch first.mid_line told

    front : Written
    front = front_told watch first.mid_line told

    whole : Option Which → Rendered
    whole o = elim o as (λ _. Rendered) [ Some l ↦ at_limit watch mid l | None ↦ behind_written first rest ]

    part : Option Which → Written
    part o = elim o as (λ _. Written) [ Some l ↦ record { text = []; mid_line = mid } | None ↦ followed_by first front ]

    by : (o : Option Which) → or_limit o (limit_told told) ≡ Some limit
        → (limit_told told ≡ Some limit → (rest.limit ≡ Some limit) × (rest.written.text ≡ front.text ++ line_text front.mid_line (limit_text limit)))
        → ((whole o).limit ≡ Some limit) × ((whole o).written.text ≡ (part o).text ++ line_text (part o).mid_line (limit_text limit))
    by None passed later =
        let it = later passed in
        (it.0, ap (λ text. first.text ++ text) it.1 ∙ sym (append_assoc first.text front.text _))
    by (Some l) passed later = (passed, low_line watch mid (limit_text l) ∙ ap (λ o. line_text mid (limit_text o)) (let e : l ≡ limit = cc in e))

-- the limit is that of the steps
pub told_limit : (watch : ℕ) (mid : Bool) (told : List Told) → (told_written watch mid told).limit ≡ limit_told told
told_limit watch mid told = by (limit_told told) refl
  where
    by : (o : Option Which) → limit_told told ≡ o → (told_written watch mid told).limit ≡ limit_told told
    by None within = ap (λ (r : Rendered). r.limit) (told_whole watch mid told within) ∙ sym within
    by (Some limit) passed = (told_limited watch mid told limit passed).0 ∙ sym passed

-- all that is written: the steps up to a limit, and the line of that
pub told_text : (watch : ℕ) (mid : Bool) (told : List Told)
    → (told_written watch mid told).written.text ≡ (front_told watch mid told).text ++ limit_line (front_told watch mid told).mid_line (limit_told told)
told_text watch mid told = by (limit_told told) refl
  where
    front : Written
    front = front_told watch mid told

    by : (o : Option Which) → limit_told told ≡ o → (told_written watch mid told).written.text ≡ front.text ++ limit_line front.mid_line (limit_told told)
    by None within = ap (λ (r : Rendered). r.written.text) (told_whole watch mid told within) ∙ sym (ap (λ o. front.text ++ limit_line front.mid_line o) within ∙ append-nil front.text)
    by (Some limit) passed = (told_limited watch mid told limit passed).1 ∙ sym (ap (λ o. front.text ++ limit_line front.mid_line o) passed)
