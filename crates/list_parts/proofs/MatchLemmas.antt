-- The instances of one production out of a conflict set, as lines.
use Rattle.std.proofs.Common.{◌≡◌, ℕ, ◌==◌, Bool, true, false, cond, List, [], ◌∷◌, ◌++◌, ◌||◌, ◌∙◌, refl, sym, ap, map, filter}
use Rattle.std.specs.List.{list_any}
use Rattle.std.proofs.lemmas.List.{append-nil}
use Rattle.soar_sym.specs.Words.{Texts}
use Rattle.soar_wm.specs.declared.element.Element.{Element}
use Rattle.defs_match.specs.Conflict.{conflict, instance_of, instances_of}
use Rattle.defs_match.specs.Contents.{is_numbered}
use Rattle.defs_match.specs.Rows.{Row, rows}
use Rattle.defs_match.specs.Rules.{RuleOf}
use Rattle.defs_match.specs.declared.instance.Instance.{Instance}
use Rattle.defs_soar.specs.Agents.{Agent}
use Rattle.defs_soar.specs.Trace.{line_text}
use Rattle.defs_run.specs.Listing.{conflict_lines_of, instance_line, no_matches, or_text, rule_name}
use Rattle.session_parts.specs.Saying.{Says}
use Rattle.list_parts.specs.Matches.{HasMatches, is_of, match_line, matches_of, rule_match_lines}

-- ---- whether there are any

none_left : (number : ℕ) (instances : List Instance) → list_any (is_of number) instances ≡ false → matches_of number instances ≡ []
none_left number [] none = refl
none_left number (i ∷ instances) none = by (is_of number i) none (none_left number instances)
  where
    by : (b : Bool) → (b || list_any (is_of number) instances) ≡ false → (list_any (is_of number) instances ≡ false → matches_of number instances ≡ [])
        → cond b (i ∷ matches_of number instances) (matches_of number instances) ≡ []
    by true none later = absurd (cc)
    by false none later = later none

pub no_lines : (words : Texts) (rule : RuleOf) (instances : List Instance) → list_any (is_of rule.number) instances ≡ false
    → rule_match_lines words rule instances ≡ no_matches ∷ []
no_lines words rule instances none = ap (λ (l : List Instance). or_text no_matches (map (match_line words rule) l)) (none_left rule.number instances none)

pub some_lines : (words : Texts) (rule : RuleOf) (instances : List Instance) → list_any (is_of rule.number) instances ≡ true
    → rule_match_lines words rule instances ≡ map (match_line words rule) (matches_of rule.number instances)
some_lines words rule [] some = absurd (cc)
some_lines words rule (i ∷ instances) some = by (is_of rule.number i) some (some_lines words rule instances)
  where
    lines : List Instance → List (List ℕ)
    lines l = map (match_line words rule) l

    by : (b : Bool) → (b || list_any (is_of rule.number) instances) ≡ true
        → (list_any (is_of rule.number) instances ≡ true → or_text no_matches (lines (matches_of rule.number instances)) ≡ lines (matches_of rule.number instances))
        → or_text no_matches (lines (cond b (i ∷ matches_of rule.number instances) (matches_of rule.number instances))) ≡ lines (cond b (i ∷ matches_of rule.number instances) (matches_of rule.number instances))
    by true some later = refl
    by false some later = later some

-- ---- of an agent

filter_append : (p : Instance → Bool) (xs ys : List Instance) → filter p (xs ++ ys) ≡ filter p xs ++ filter p ys
filter_append p [] ys = refl
filter_append p (x ∷ xs) ys = by (p x) (filter_append p xs ys)
  where
    by : (b : Bool) → filter p (xs ++ ys) ≡ filter p xs ++ filter p ys
        → cond b (x ∷ filter p (xs ++ ys)) (filter p (xs ++ ys)) ≡ cond b (x ∷ filter p xs) (filter p xs) ++ filter p ys
    by true e = ap (λ (l : List Instance). x ∷ l) e
    by false e = e

-- all rows of a rule are of its number
of_rows : (number own : ℕ) (found : List Row) → matches_of number (map (instance_of own) found) ≡ cond (own == number) (map (instance_of own) found) []
of_rows number own found = by (own == number) refl found
  where
    by : (b : Bool) → (own == number) ≡ b → (found : List Row) → matches_of number (map (instance_of own) found) ≡ cond b (map (instance_of own) found) []
    by true e [] = refl
    by true e (row ∷ found) = ap (λ b. cond b (instance_of own row ∷ matches_of number (map (instance_of own) found)) (matches_of number (map (instance_of own) found))) e
        ∙ ap (λ (l : List Instance). instance_of own row ∷ l) (by true e found)
    by false e [] = refl
    by false e (row ∷ found) = ap (λ b. cond b (instance_of own row ∷ matches_of number (map (instance_of own) found)) (matches_of number (map (instance_of own) found))) e
        ∙ by false e found

of_rules : (number : ℕ) (elements : List Element) (rules : List RuleOf)
    → matches_of number (conflict rules elements) ≡ conflict (filter (is_numbered number) rules) elements
of_rules number elements [] = refl
of_rules number elements (rule ∷ rules) =
    filter_append (is_of number) (instances_of elements rule) (conflict rules elements)
    ∙ ap (λ (l : List Instance). l ++ matches_of number (conflict rules elements)) (of_rows number rule.number (rows rule.production.conditions elements))
    ∙ by (is_numbered number rule) (of_rules number elements rules)
  where
    by : (b : Bool) → matches_of number (conflict rules elements) ≡ conflict (filter (is_numbered number) rules) elements
        → cond b (instances_of elements rule) [] ++ matches_of number (conflict rules elements)
        ≡ conflict (cond b (rule ∷ filter (is_numbered number) rules) (filter (is_numbered number) rules)) elements
    by true e = ap (λ (l : List Instance). instances_of elements rule ++ l) e
    by false e = e

-- the name of the one rule of a number
one_name : (rules : List RuleOf) (number : ℕ) (rule : RuleOf) → filter (is_numbered number) rules ≡ rule ∷ [] → rule_name rules number ≡ rule.production.name
one_name [] number rule one = absurd (cc)
one_name (q ∷ rules) number rule one = by (is_numbered number q) one (one_name rules number rule)
  where
    by : (b : Bool) → cond b (q ∷ filter (is_numbered number) rules) (filter (is_numbered number) rules) ≡ rule ∷ []
        → (filter (is_numbered number) rules ≡ rule ∷ [] → rule_name rules number ≡ rule.production.name)
        → cond b q.production.name (rule_name rules number) ≡ rule.production.name
    by true one later = let same : q ≡ rule = cc in ap (λ (r : RuleOf). r.production.name) same
    by false one later = later one

lines_of_rows : (a : Agent) (rule : RuleOf) (found : List Row) → rule_name a.program.rules rule.number ≡ rule.production.name
    → map (match_line a.names.words rule) (map (instance_of rule.number) found) ≡ map (instance_line a) (map (instance_of rule.number) found)
lines_of_rows a rule [] name = refl
lines_of_rows a rule (row ∷ found) name = rw (name, lines_of_rows a rule found name) refl

pub lines_of_agent : (a : Agent) (words : Texts) (rule : RuleOf) (instances : List Instance) → HasMatches a words rule instances
    → rule_match_lines words rule instances ≡ conflict_lines_of a rule
lines_of_agent a words rule instances has =
    let elements : List Element = a.holding.elements in
    let lines : Texts → List Instance → List (List ℕ) = λ w l. or_text no_matches (map (match_line w rule) l) in
    let are : matches_of rule.number instances ≡ instances_of elements rule =
    has.all ∙ of_rules rule.number elements a.program.rules ∙ ap (λ (rs : List RuleOf). conflict rs elements) has.alone ∙ append-nil (instances_of elements rule) in
    ap (λ (w : Texts). lines w (matches_of rule.number instances)) (sym has.words_are)
    ∙ ap (lines a.names.words) are
    ∙ ap (or_text no_matches) (lines_of_rows a rule (rows rule.production.conditions elements) (one_name a.program.rules rule.number rule has.alone))

-- those of a number are all those among themselves
pub twice : (number : ℕ) (instances : List Instance) → matches_of number (matches_of number instances) ≡ matches_of number instances
twice number [] = refl
twice number (i ∷ instances) = by (i.rule == number) refl (twice number instances)
  where
    by : (b : Bool) → (i.rule == number) ≡ b → matches_of number (matches_of number instances) ≡ matches_of number instances
        → matches_of number (cond b (i ∷ matches_of number instances) (matches_of number instances)) ≡ cond b (i ∷ matches_of number instances) (matches_of number instances)
    by true is later = ap (λ c. cond c (i ∷ matches_of number (matches_of number instances)) (matches_of number (matches_of number instances))) is ∙ ap (λ (l : List Instance). i ∷ l) later
    by false is later = later

-- ---- one line

pub one_line : (line : List ℕ) (mid new_mid : Bool) (before after : List ℕ) → (after ≡ before ++ line_text mid line) × (new_mid ≡ false) → Says (line ∷ []) mid before new_mid after
one_line line mid new_mid before after said = (said.0 ∙ ap (λ (t : List ℕ). before ++ t) (sym (append-nil (line_text mid line))), said.1)
