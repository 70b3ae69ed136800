-- Rules in a map by number.
use Rattle.std.proofs.Common.{◌≡◌, refl, sym, ◌∙◌, ap, subst, ℕ, ◌^◌, ◌<◌, ◌==◌, nat_lt, Bool, true, false, ◌&&◌, not, cond, List, [], ◌∷◌, ◌++◌, map, filter, Some, option_map, arith}
use Rattle.std.specs.BTreeMap.{insert_entry, is_at}
use Rattle.std.specs.BTreeMap.Range.{entries_between}
use Rattle.std.specs.Map.{lookup, remove_entry, values_of}
use Rattle.std.specs.Ordering.{is_eq, is_lt, match_ordering, nat_cmp}
use Rattle.std.specs.declared.cmp.Ordering.TheVariants.{Greater}
use Rattle.std.specs.declared.ops.Bound.TheVariants.{Excluded, Unbounded}
use Rattle.std.proofs.lemmas.List.{map-append}
use Rattle.body_marks.specs.Fingerprint.{fingerprint}
use Rattle.soar_rule.specs.Productions.{production_seen}
use Rattle.defs_match.specs.Contents.{rule_numbered, without_rule}
use Rattle.defs_match.specs.Rules.{RuleOf, rule_seen}
use Rattle.defs_match.specs.declared.rule.Rule.{Rule}
use Rattle.rule_shelf.specs.declared.index.Index.{Index}
use Rattle.rule_shelf.specs.Marks.{AreNumbered, Entries, Forgets, IsIndexed, IsSame, IsShelf, Notes}
use Rattle.rule_shelf.specs.Shelf.{AreBelow, IsRising, is_justified}
use Rattle.rule_shelf.proofs.IndexLemmas.{forgotten, noted, put_back, still_indexed}
use Rattle.rule_shelf.proofs.RuleLemmas.{above_stay}

abbrev pub rules_in : Entries → List RuleOf
rules_in es = map rule_seen (values_of es)

-- ---- a rule comes behind all others

greater : (m n : ℕ) → n < m → nat_cmp m n ≡ Greater
greater m n h = grind arith

at_end : (es : Entries) (rule : Rule) → AreNumbered es → AreBelow rule.number (rules_in es) → insert_entry nat_cmp es rule.number rule ≡ es ++ (rule.number, rule) ∷ []
at_end [] rule numbered below = refl
at_end (e ∷ es) rule numbered below =
    ap (λ o. match_ordering o ((rule.number, rule) ∷ e ∷ es) ((e.0, rule) ∷ es) (e ∷ insert_entry nat_cmp es rule.number rule))
    (greater rule.number e.0 (subst (λ n. n < rule.number) numbered.0 below.0))
    ∙ ap (λ (l : Entries). e ∷ l) (at_end es rule numbered.1 below.1)

numbered_at_end : (es : Entries) (rule : Rule) → AreNumbered es → AreNumbered (es ++ (rule.number, rule) ∷ [])
numbered_at_end [] rule numbered = (refl, tt)
numbered_at_end (e ∷ es) rule numbered = (numbered.0, numbered_at_end es rule numbered.1)

rules_at_end : (es : Entries) (rule : Rule) → rules_in (es ++ (rule.number, rule) ∷ []) ≡ rules_in es ++ rule_seen rule ∷ []
rules_at_end [] rule = refl
rules_at_end (e ∷ es) rule = ap (λ (l : List RuleOf). rule_seen e.1 ∷ l) (rules_at_end es rule)

module _ (es ds : Entries) (old new : Index) (rule : Rule) (shelf : IsShelf es old) (below : AreBelow rule.number (rules_in es)) (pushed : ds ≡ insert_entry nat_cmp es rule.number rule) where
  is_pushed : ds ≡ es ++ (rule.number, rule) ∷ []
  is_pushed = pushed ∙ at_end es rule shelf.numbered below

  pub values_pushed : values_of ds ≡ values_of es ++ rule ∷ []
  values_pushed = ap values_of is_pushed ∙ map-append (λ e. e.1) es ((rule.number, rule) ∷ [])

  pub shelf_pushed : rule.number < 2 ^ 64 → Notes rule.production.name rule.number (fingerprint (production_seen rule.production)) (is_justified (rule_seen rule)) old new → IsShelf ds new
  shelf_pushed small notes =
      subst (λ l. IsShelf l new) (sym is_pushed)
      (record {
        numbered = numbered_at_end es rule shelf.numbered;
        indexed = subst (λ l. IsIndexed l new) (sym (rules_at_end es rule)) (noted (rules_in es) (rule_seen rule) old new shelf.indexed below small notes);
      })

pub shelf_same : (es : Entries) (old new : Index) → IsShelf es old → IsSame old new → IsShelf es new
shelf_same es old new shelf same = record { numbered = shelf.numbered; indexed = still_indexed (rules_in es) old new shelf.indexed same }

pub shelf_back : (es ds : Entries) (old middle new : Index) (rule : Rule) (print : ℕ) (justified : Bool) → IsShelf es old → AreBelow rule.number (rules_in es) → ds ≡ es
    → Notes rule.production.name rule.number print justified old middle → Forgets rule.production.name rule.number print middle new → IsShelf ds new
shelf_back es ds old middle new rule print justified shelf below same notes forgets =
    subst (λ l. IsShelf l new) (sym same)
    (record { numbered = shelf.numbered; indexed = put_back (rules_in es) rule.production.name rule.number print justified old middle new shelf.indexed below notes forgets })

-- ---- a rule is found

tested : (m n k : ℕ) → k ≡ n → is_eq (nat_cmp m n) ≡ (k == m)
tested m n k h = grind arith

pub found : (es : Entries) (number : ℕ) → AreNumbered es → option_map rule_seen (lookup (is_at (nat_cmp number)) es) ≡ rule_numbered number (rules_in es)
found [] number numbered = refl
found (e ∷ es) number numbered =
    by (is_eq (nat_cmp number e.0)) (found es number numbered.1) ∙ ap (λ b. cond b (Some (rule_seen e.1)) (rule_numbered number (rules_in es))) (tested number e.0 e.1.number numbered.0)
  where
    by : (b : Bool) → option_map rule_seen (lookup (is_at (nat_cmp number)) es) ≡ rule_numbered number (rules_in es)
        → option_map rule_seen (cond b (Some e.1) (lookup (is_at (nat_cmp number)) es)) ≡ cond b (Some (rule_seen e.1)) (rule_numbered number (rules_in es))
    by true h = refl
    by false h = h

is_later : (m n k : ℕ) → k ≡ n → (is_lt (nat_cmp m n) && true) ≡ nat_lt m k
is_later m n k h = grind arith

pub rules_after : (es : Entries) (number : ℕ) → AreNumbered es → rules_in (entries_between nat_cmp (Excluded number) Unbounded es) ≡ filter (λ rule. nat_lt number rule.number) (rules_in es)
rules_after [] number numbered = refl
rules_after (e ∷ es) number numbered =
    by (is_lt (nat_cmp number e.0) && true) (rules_after es number numbered.1) ∙ ap (λ b. cond b (rule_seen e.1 ∷ later) later) (is_later number e.0 e.1.number numbered.0)
  where
    later : List RuleOf
    later = filter (λ rule. nat_lt number rule.number) (rules_in es)

    by : (b : Bool) → rules_in (entries_between nat_cmp (Excluded number) Unbounded es) ≡ later
        → rules_in (cond b (e ∷ entries_between nat_cmp (Excluded number) Unbounded es) (entries_between nat_cmp (Excluded number) Unbounded es)) ≡ cond b (rule_seen e.1 ∷ later) later
    by true h = ap (λ (l : List RuleOf). rule_seen e.1 ∷ l) h
    by false h = h

-- ---- a rule goes

numbered_without : (es : Entries) (number : ℕ) → AreNumbered es → AreNumbered (remove_entry (is_at (nat_cmp number)) es)
numbered_without [] number numbered = tt
numbered_without (e ∷ es) number numbered = by (is_eq (nat_cmp number e.0)) (numbered_without es number numbered.1)
  where
    by : (b : Bool) → AreNumbered (remove_entry (is_at (nat_cmp number)) es) → AreNumbered (cond b es (e ∷ remove_entry (is_at (nat_cmp number)) es))
    by true later = numbered.1
    by false later = (numbered.0, later)

rules_without : (es : Entries) (number : ℕ) → AreNumbered es → IsRising (rules_in es) → rules_in (remove_entry (is_at (nat_cmp number)) es) ≡ without_rule (rules_in es) number
rules_without [] number numbered rising = refl
rules_without (e ∷ es) number numbered rising =
    by (is_eq (nat_cmp number e.0)) refl (rules_without es number numbered.1 rising.1)
    ∙ ap (λ b. cond (not b) (rule_seen e.1 ∷ without_rule (rules_in es) number) (without_rule (rules_in es) number)) (tested number e.0 e.1.number numbered.0)
  where
    one : (m n k : ℕ) → k ≡ n → is_eq (nat_cmp m n) ≡ true → m ≡ k
    one m n k h at = grind arith

    by : (b : Bool) → is_eq (nat_cmp number e.0) ≡ b → rules_in (remove_entry (is_at (nat_cmp number)) es) ≡ without_rule (rules_in es) number
        → rules_in (cond b es (e ∷ remove_entry (is_at (nat_cmp number)) es)) ≡ cond (not b) (rule_seen e.1 ∷ without_rule (rules_in es) number) (without_rule (rules_in es) number)
    by true is later = sym (ap (without_rule (rules_in es)) (one number e.0 e.1.number numbered.0 is) ∙ above_stay e.1.number (rules_in es) rising.0)
    by false is later = ap (λ (l : List RuleOf). rule_seen e.1 ∷ l) later

pub rules_gone : (es ds : Entries) (index : Index) (number : ℕ) → IsShelf es index → ds ≡ remove_entry (is_at (nat_cmp number)) es → map rule_seen (values_of ds) ≡ without_rule (rules_in es) number
rules_gone es ds index number shelf removed = ap rules_in removed ∙ rules_without es number shelf.numbered shelf.indexed.rising

pub shelf_gone : (es ds : Entries) (old new : Index) (number : ℕ) (rule : Rule) → IsShelf es old → Some rule ≡ lookup (is_at (nat_cmp number)) es → ds ≡ remove_entry (is_at (nat_cmp number)) es
    → Forgets rule.production.name number (fingerprint (production_seen rule.production)) old new → IsShelf ds new
shelf_gone es ds old new number rule shelf there removed forgets =
    subst (λ l. IsShelf l new) (sym removed)
    (record {
      numbered = numbered_without es number shelf.numbered;
      indexed =
          subst (λ l. IsIndexed l new) (sym (rules_without es number shelf.numbered shelf.indexed.rising))
          (forgotten (rules_in es) (rule_seen rule) number old new shelf.indexed (sym (ap (option_map rule_seen) there ∙ found es number shelf.numbered)) forgets);
    })
