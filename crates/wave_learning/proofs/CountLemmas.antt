-- A rule gets its name, which is counted.
use Rattle.std.proofs.Common.{◌≡◌, refl, sym, ◌∙◌, ap, ap₂, subst, ℕ, List, Option, None, Some, Err}
use Rattle.soar_sym.specs.Words.{Texts}
use Rattle.soar_sym.specs.declared.symbol.Sym.{Sym}
use Rattle.defs_text.specs.Numbered.{word_in}
use Rattle.defs_match.specs.Rules.{RuleOf}
use Rattle.defs_soar.specs.declared.learning.Cause.{Cause}
use Rattle.defs_soar.specs.declared.limit.Which.{Which}
use Rattle.defs_soar.specs.Limits.{first_passed}
use Rattle.learned_firings.specs.Naming.{IsNamed, Names}
use Rattle.learned_firings.specs.NameTotals.{number_after, totals_of_name}
use Rattle.learned_firings.specs.declared.names.LearnedName.{LearnedName}
use Rattle.soar_settle.specs.declared.stop.Stop.{Stop}
use Rattle.soar_settle.specs.declared.stop.Stop.TheVariants as stop
use Rattle.wave_learning.specs.Course.{Course, NewRuleOf, counted, front_of, last_of, name_of, named, named_as, number_of, reached, with_name, within_limits}
use Rattle.wave_learning.specs.Seen.{NamesRule}

-- the table does not matter to the counts
counts_apart : (why : Option Cause) (number : ℕ) (c : Course) (words : Texts) → record (counted why number c) { words = words } ≡ counted why number (record c { words = words })
counts_apart None number c words = refl
counts_apart (Some cause) number c words = refl

module _ (r : NewRuleOf) (c d : Course) (after : Texts) (it : LearnedName) (h : IsNamed c.words (front_of r.why) (number_of r.why c) after it) (is : d ≡ counted r.why it.number (record c { words = after })) where
  pub names_on : named r.why c ≡ reached d
  names_on =
      ap (λ (o : Option Which). within_limits o (named_as r.why c)) h.within
      ∙ ap reached
      (ap (λ (ws : Texts). record (counted r.why (number_of r.why c) c) { words = ws }) (sym h.words_are)
      ∙ counts_apart r.why (number_of r.why c) c after
      ∙ ap (λ (n : ℕ). counted r.why n (record c { words = after })) (sym h.number_is)
      ∙ sym is)

  counted_words : (why : Option Cause) (number : ℕ) → (counted why number (record c { words = after })).words ≡ after
  counted_words None number = refl
  counted_words (Some cause) number = refl

  pub name_is : it.name ≡ word_in d.words (name_of r.why c)
  name_is = h.name_is ∙ ap (λ (ws : Texts). word_in ws (name_of r.why c)) (sym (ap (λ (x : Course). x.words) is ∙ counted_words r.why it.number))

-- by what the code was given
module _ (r : NewRuleOf) (c : Course) (rules : List RuleOf) (front : List ℕ) (last : ℕ) (rules_are : rules ≡ c.program.rules) (front_is : front ≡ front_of r.why) (last_is : last ≡ last_of r.why c.program) where
  number_is : number_after c.words rules front last ≡ number_of r.why c
  number_is =
      ap (λ (rs : List RuleOf). number_after c.words rs front last) rules_are
      ∙ ap₂ (λ (f : List ℕ) (n : ℕ). number_after c.words c.program.rules f n) front_is last_is

  pub is_named : (after : Texts) (it : LearnedName) → IsNamed c.words front (number_after c.words rules front last) after it → IsNamed c.words (front_of r.why) (number_of r.why c) after it
  is_named after it h =
      subst (λ (n : ℕ). IsNamed c.words (front_of r.why) n after it) number_is (subst (λ (f : List ℕ). IsNamed c.words f (number_after c.words rules front last) after it) front_is h)

  pub names_end : (after : Texts) (d : Course) (end : Stop) → Names c.words rules front last after (Err end) → NamesRule r c d (Err end)
  names_end after d (stop.Limit limit) q =
      ap (λ (o : Option Which). within_limits o (named_as r.why c))
      (ap₂ (λ (f : List ℕ) (n : ℕ). first_passed (totals_of_name c.words f n)) (sym front_is) (sym number_is) ∙ q)
  names_end after d stop.NoMemory q = tt

  pub names_rule : (after : Texts) (d : Course) (it : LearnedName) → IsNamed c.words front (number_after c.words rules front last) after it → d ≡ counted r.why it.number (record c { words = after })
      → (named r.why c ≡ reached d) × (with_name r it.name ≡ with_name r (word_in d.words (name_of r.why c)))
  names_rule after d it h is =
      let k = is_named after it h in (names_on r c d after it k is, ap (λ (name : Sym). with_name r name) (name_is r c d after it k is))
