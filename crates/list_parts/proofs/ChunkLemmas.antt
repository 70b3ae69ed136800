-- The lines of chunks, and lines behind lines.
use Rattle.std.proofs.Common.{◌≡◌, ℕ, Bool, true, false, cond, List, [], ◌∷◌, ◌++◌, ◌||◌, ◌∙◌, refl, sym, ap, map, flat_map, append_assoc, append-nil, subst}
use Rattle.std.specs.List.{list_any}
use Rattle.soar_sym.specs.Words.{Texts}
use Rattle.defs_match.specs.Rules.{RuleOf, rule_seen}
use Rattle.defs_match.specs.declared.rule.Rule.{Rule}
use Rattle.defs_soar.specs.Trace.{Written, followed_by, line_text, rendered}
use Rattle.defs_run.specs.Listing.{or_text}
use Rattle.defs_run.specs.Sessions.{as_lines}
use Rattle.defs_read.specs.Printing.{production_text}
use Rattle.std.specs.Prelude.{codes}
use Rattle.session_parts.specs.Saying.{Says}
use Rattle.soar_settle.specs.Known.{AreRulesKnown}
use Rattle.list_parts.specs.Lists.{chunk_lines, chunk_texts, chunks_among, is_chunk_rule, rule_production}

-- ---- lines behind lines

abbrev written : Bool → List (List ℕ) → Written
written mid lines = rendered 1 mid (as_lines lines)

abbrev whole : Bool → List ℕ → Written
whole mid text = record { text = text; mid_line = mid }

written_both : (mid : Bool) (first second : List (List ℕ)) → written mid (first ++ second) ≡ followed_by (written mid first) (written (written mid first).mid_line second)
written_both mid [] second = refl
written_both mid (line ∷ first) second =
    let rest : Written = written false first in
    let last : Written = written rest.mid_line second in
    ap (followed_by (whole false (line_text mid line))) (written_both false first second)
    ∙ sym (ap (λ text. whole last.mid_line text) (append_assoc (line_text mid line) rest.text last.text))

-- what is still to be said once some was
pub rest_said : (first rest : List (List ℕ)) (mid new_mid : Bool) (before after : List ℕ) → Says first mid before new_mid after
    → (after ++ (written new_mid rest).text ≡ before ++ (written mid (first ++ rest)).text) × ((written new_mid rest).mid_line ≡ (written mid (first ++ rest)).mid_line)
rest_said first rest mid new_mid before after said =
    let w : Written = written mid first in
    let both : written mid (first ++ rest) ≡ followed_by w (written w.mid_line rest) = written_both mid first rest in (
      ap (λ (m : Bool). after ++ (written m rest).text) said.1
          ∙ ap (λ (t : List ℕ). t ++ (written w.mid_line rest).text) said.0
          ∙ append_assoc before w.text (written w.mid_line rest).text
          ∙ sym (ap (λ (u : Written). before ++ u.text) both),
      ap (λ (m : Bool). (written m rest).mid_line) said.1 ∙ sym (ap (λ (u : Written). u.mid_line) both),
    )

-- ---- whether there are any

none_left : (rules : List RuleOf) → list_any is_chunk_rule rules ≡ false → chunks_among rules ≡ []
none_left [] none = refl
none_left (rule ∷ rules) none = by (is_chunk_rule rule) none (none_left rules)
  where
    by : (b : Bool) → (b || list_any is_chunk_rule rules) ≡ false → (list_any is_chunk_rule rules ≡ false → chunks_among rules ≡ []) → cond b (rule ∷ chunks_among rules) (chunks_among rules) ≡ []
    by true none later = absurd (cc)
    by false none later = later none

pub no_lines : (words : Texts) (rules : List RuleOf) → list_any is_chunk_rule rules ≡ false → chunk_lines words rules ≡ codes "no chunks" ∷ []
no_lines words rules none = ap (λ (l : List RuleOf). or_text (codes "no chunks") (flat_map (rule_production words) l)) (none_left rules none)

-- a production has a line
has_line : (words : Texts) (rule : RuleOf) (lines : List (List ℕ)) → or_text (codes "no chunks") (rule_production words rule ++ lines) ≡ rule_production words rule ++ lines
unfolding production_text
has_line words rule lines = refl

pub some_lines : (words : Texts) (rules : List RuleOf) → list_any is_chunk_rule rules ≡ true → chunk_lines words rules ≡ chunk_texts words rules
some_lines words [] some = absurd (cc)
some_lines words (rule ∷ rules) some = by (is_chunk_rule rule) some (some_lines words rules)
  where
    texts : List RuleOf → List (List ℕ)
    texts l = flat_map (rule_production words) l

    by : (b : Bool) → (b || list_any is_chunk_rule rules) ≡ true
        → (list_any is_chunk_rule rules ≡ true → or_text (codes "no chunks") (texts (chunks_among rules)) ≡ texts (chunks_among rules))
        → or_text (codes "no chunks") (texts (cond b (rule ∷ chunks_among rules) (chunks_among rules))) ≡ texts (cond b (rule ∷ chunks_among rules) (chunks_among rules))
    by true some later = has_line words rule (texts (chunks_among rules))
    by false some later = later some

-- ---- one rule after another

pub first_texts : (words : Texts) (rule : RuleOf) (rules : List RuleOf) → chunk_texts words (rule ∷ rules) ≡ chunk_texts words (rule ∷ []) ++ chunk_texts words rules
first_texts words rule rules = by (is_chunk_rule rule)
  where
    texts : List RuleOf → List (List ℕ)
    texts l = flat_map (rule_production words) l

    by : (b : Bool) → texts (cond b (rule ∷ chunks_among rules) (chunks_among rules)) ≡ texts (cond b (rule ∷ []) []) ++ texts (chunks_among rules)
    by true = ap (λ (front : List (List ℕ)). front ++ texts (chunks_among rules)) (sym (append-nil (rule_production words rule)))
    by false = refl

-- the lines of a rule that is a chunk, and of one that is none
pub is_listed : (words : Texts) (rule : RuleOf) → is_chunk_rule rule ≡ true → chunk_texts words (rule ∷ []) ≡ production_text words rule.production
is_listed words rule is = ap (λ b. flat_map (rule_production words) (cond b (rule ∷ []) [])) is ∙ append-nil (rule_production words rule)

pub is_left : (words : Texts) (rule : RuleOf) → is_chunk_rule rule ≡ false → chunk_texts words (rule ∷ []) ≡ []
is_left words rule is = ap (λ b. flat_map (rule_production words) (cond b (rule ∷ []) [])) is

-- the next rule of a list, which is known
pub next_known : (words : Texts) (rules later : List Rule) (rule : Rule) → rules ≡ rule ∷ later → AreRulesKnown words (map rule_seen rules) → AreRulesKnown words (map rule_seen (rule ∷ later))
next_known words rules later rule is known = subst (λ (l : List Rule). AreRulesKnown words (map rule_seen l)) is known

-- what is still to be said once the next rule was
pub one_said : (words : Texts) (rules later : List Rule) (rule : Rule) (mid new_mid : Bool) (before after : List ℕ) → rules ≡ rule ∷ later
    → Says (chunk_texts words (rule_seen rule ∷ [])) mid before new_mid after
    → (after ++ (written new_mid (chunk_texts words (map rule_seen later))).text ≡ before ++ (written mid (chunk_texts words (map rule_seen rules))).text)
    × ((written new_mid (chunk_texts words (map rule_seen later))).mid_line ≡ (written mid (chunk_texts words (map rule_seen rules))).mid_line)
one_said words rules later rule mid new_mid before after is said =
    let one : List (List ℕ) = chunk_texts words (rule_seen rule ∷ []) in
    let rest : List (List ℕ) = chunk_texts words (map rule_seen later) in
    let texts : chunk_texts words (map rule_seen rules) ≡ one ++ rest =
    ap (λ (l : List Rule). chunk_texts words (map rule_seen l)) is ∙ first_texts words (rule_seen rule) (map rule_seen later) in
    let r = rest_said one rest mid new_mid before after said in
    (r.0 ∙ sym (ap (λ l. before ++ (written mid l).text) texts), r.1 ∙ sym (ap (λ l. (written mid l).mid_line) texts))
