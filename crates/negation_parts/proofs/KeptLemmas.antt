-- What a negation keeps are the rows of the conditions with it.
use Rattle.std.proofs.Common.{◌≡◌, ◌↔◌, inl, inr, refl, sym, subst, ◌∙◌, Bool, true, false, List, [], ◌∷◌, length, drop}
use Rattle.soar_wm.specs.declared.element.Element.{Element}
use Rattle.soar_rule.specs.Conditions.{Condition, positive, negated, conjunctive, Conditions, no_more, condition_and}
use Rattle.defs_match.specs.Laws.{IsIn, ElementsDiffer, IsNegation, NegationKeeps, followed_by, inside}
use Rattle.defs_match.specs.Rows.{Row, empty_row, extend, only_without, rows, rows_with, rows_from}
use Rattle.negation_parts.specs.Negations.{is_blocked, kept}
use Rattle.node_memory.proofs.ChangeLemmas.{in_flat_map, begins_told, begins_back}
use Rattle.negation_parts.proofs.NegationLemmas.{in_kept, in_kept_back, blocked_told, blocked_back}
use Rattle.join_parts.proofs.PrefixLemmas.{from_followed}

in_only : (r x : Row) (l : List Row) → IsIn x (only_without r l) → r ≡ x
in_only r x [] (inl e) = e
in_only r x [] (inr h) = absurd h
in_only r x (y ∷ l) h = absurd h

-- a negation adds no row
adds_none : (c : Condition) (w : List Element) (r x : Row) → IsNegation c → IsIn x (rows_with c w r) → r ≡ x
adds_none (positive p) w r x neg h = absurd neg
adds_none (negated p) w r x neg h = in_only r x (extend p w r) h
adds_none (conjunctive cs) w r x neg h = in_only r x (rows_from cs w (r ∷ [])) h

was_there : (cs : Conditions) (c : Condition) (w : List Element) (x : Row) → IsNegation c → IsIn x (rows (followed_by cs (condition_and c no_more)) w) → IsIn x (rows cs w)
was_there cs c w x neg h =
    let from = in_flat_map (rows_with c w) x (rows cs w) (subst (λ (l : List Row). IsIn x l) (from_followed cs (condition_and c no_more) w (empty_row ∷ [])) h) in
    subst (λ (r : Row). IsIn r (rows cs w)) (adds_none c w from.0 x neg from.2) from.1

pub kept_is : NegationKeeps → (cs : Conditions) (c : Condition) (w : List Element) → ElementsDiffer w → IsNegation c
    → (x : Row) → IsIn x (kept (rows (followed_by cs (inside c)) w) (rows cs w)) ↔ IsIn x (rows (followed_by cs (condition_and c no_more)) w)
kept_is law cs c w differ neg x = (
  (λ h.
      let k = in_kept (rows (followed_by cs (inside c)) w) (rows cs w) x h in
      (law cs c w x differ neg k.0).1 (λ z i starts.
      let bad : true ≡ false = sym (blocked_back (rows (followed_by cs (inside c)) w) x z i (begins_back x.tags z.tags starts.0 starts.1)) ∙ k.1 in cc)),
  (λ h.
      let there = was_there cs c w x neg h in
      in_kept_back (rows (followed_by cs (inside c)) w) (rows cs w) x there (free there h (is_blocked (rows (followed_by cs (inside c)) w) x.tags) refl)),
)
  where
    free : IsIn x (rows cs w) → IsIn x (rows (followed_by cs (condition_and c no_more)) w) → (b : Bool) → is_blocked (rows (followed_by cs (inside c)) w) x.tags ≡ b → is_blocked (rows (followed_by cs (inside c)) w) x.tags ≡ false
    free there h false is = is
    free there h true is =
        let z = blocked_told (rows (followed_by cs (inside c)) w) x is in
        absurd ((law cs c w x differ neg there).0 h z.0 z.1 (drop (length x.tags) z.0.tags, begins_told x.tags z.0.tags z.2))
