-- Lines behind lines.
use Rattle.std.proofs.Common.{◌≡◌, ◌∙◌, refl, ap, sym, ℕ, Bool, List, [], ◌∷◌, ◌++◌, map, append_assoc}
use Rattle.std.proofs.lemmas.List.{map-append}
use Rattle.soar_sym.specs.Words.{Texts}
use Rattle.defs_soar.specs.Events.{Event}
use Rattle.defs_soar.specs.Trace.{Piece, Written, followed_by, piece_of, piece_written, rendered}
use Rattle.trace_lines.specs.Saying.{SaysLines}

abbrev whole : Bool → List ℕ → Written
whole mid text = record { text = text; mid_line = mid }

rendered_behind : (mid : Bool) (first second : List Piece)
    → rendered 1 mid (first ++ second) ≡ followed_by (rendered 1 mid first) (rendered 1 (rendered 1 mid first).mid_line second)
rendered_behind mid [] second = refl
rendered_behind mid (p ∷ first) second =
    let w : Written = piece_written 1 mid p in
    let rest : Written = rendered 1 w.mid_line first in
    let last : Written = rendered 1 rest.mid_line second in
    ap (followed_by w) (rendered_behind w.mid_line first second)
    ∙ sym (ap (λ text. whole last.mid_line text) (append_assoc w.text rest.text last.text))

pub says_behind : (words : Texts) (first second : List Event) (mid middle_mid last_mid : Bool) (before middle after : List ℕ)
    → SaysLines words first mid before middle_mid middle → SaysLines words second middle_mid middle last_mid after
    → SaysLines words (first ++ second) mid before last_mid after
says_behind words first second mid middle_mid last_mid before middle after one two =
    let pieces : List Event → List Piece = map (piece_of words) in
    let w : Written = rendered 1 mid (pieces first) in
    let both : rendered 1 mid (pieces (first ++ second)) ≡ followed_by w (rendered 1 w.mid_line (pieces second)) =
    ap (rendered 1 mid) (map-append (piece_of words) first second) ∙ rendered_behind mid (pieces first) (pieces second) in
    let text : after ≡ before ++ (w.text ++ (rendered 1 w.mid_line (pieces second)).text) =
    two.0 ∙ ap (λ (m : Bool). middle ++ (rendered 1 m (pieces second)).text) one.1
    ∙ ap (λ (t : List ℕ). t ++ (rendered 1 w.mid_line (pieces second)).text) one.0
    ∙ append_assoc before w.text (rendered 1 w.mid_line (pieces second)).text in
    let ends : last_mid ≡ (rendered 1 w.mid_line (pieces second)).mid_line = two.1 ∙ ap (λ (m : Bool). (rendered 1 m (pieces second)).mid_line) one.1 in
    (text ∙ sym (ap (λ (u : Written). before ++ u.text) both), ends ∙ sym (ap (λ (u : Written). u.mid_line) both))
