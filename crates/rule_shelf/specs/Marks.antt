-- How rules are found. No public clause cites this.
use Rattle.std.specs.Prelude.{◌≡◌, ℕ, ◌^◌, ◌==◌, Bool, true, false, cond, List, [], ◌∷◌, map, Option, Some, None}
use Rattle.std.specs.BTreeMap.{is_at}
use Rattle.std.specs.BTreeSet.{insert_key}
use Rattle.std.specs.List.{list_any}
use Rattle.std.specs.Map.{values_of}
use Rattle.std.specs.Ordering.{nat_cmp, ordering_then}
use Rattle.std.specs.Set.{remove_key}
use Rattle.std.specs.declared.cmp.Ordering.{Ordering}
use Rattle.soar_sym.specs.contracts.symbol.SymOrd.TheImpl as sym_order
use Rattle.soar_sym.specs.declared.symbol.Sym.{Sym}
use Rattle.body_marks.specs.Fingerprint.{fingerprint}
use Rattle.defs_match.specs.Contents.{rule_numbered}
use Rattle.defs_match.specs.Rules.{RuleOf, rule_seen}
use Rattle.defs_match.specs.declared.rule.Rule.{Rule}
use Rattle.defs_run.specs.Carrying.{is_named}
use Rattle.rule_shelf.specs.declared.index.Index.{Index}
use Rattle.rule_shelf.specs.Shelf.{AreBelow, IsRising, justification_numbers}

-- ---- names with numbers

abbrev pub place_cmp : Sym × ℕ → Sym × ℕ → Ordering
place_cmp p q = ordering_then (sym_order.ghosts.cmp p.0 q.0) (nat_cmp p.1 q.1)

-- whether the number stands under the name
abbrev pub has : List (Sym × ℕ) → Sym × ℕ → Bool
has names q = list_any (is_at (place_cmp q)) names

abbrev pub first_number : List (Sym × ℕ) → Option ℕ
first_number [] = None
first_number (q ∷ places) = Some q.1

-- ---- fingerprints with numbers

abbrev pub print_cmp : ℕ × ℕ → ℕ × ℕ → Ordering
print_cmp p q = ordering_then (nat_cmp p.0 q.0) (nat_cmp p.1 q.1)

-- whether the number stands under the fingerprint
abbrev pub has_print : List (ℕ × ℕ) → ℕ × ℕ → Bool
has_print prints q = list_any (is_at (print_cmp q)) prints

-- ---- what a call changes

-- the number stands under the name and the fingerprint, and among the justifications if it is one
pub record Notes (name : Sym) (number print : ℕ) (justified : Bool) (old new : Index) : Type 0 where
  pub named : (q : Sym × ℕ) → has new.names.keys q ≡ cond (is_at (place_cmp (name, number)) q) true (has old.names.keys q)
  pub printed : (q : ℕ × ℕ) → has_print new.prints.keys q ≡ cond (is_at (print_cmp (print, number)) q) true (has_print old.prints.keys q)
  pub told : new.justified.keys ≡ cond justified (insert_key nat_cmp old.justified.keys number) old.justified.keys

-- the number stands nowhere
pub record Forgets (name : Sym) (number print : ℕ) (old new : Index) : Type 0 where
  pub named : (q : Sym × ℕ) → has new.names.keys q ≡ cond (is_at (place_cmp (name, number)) q) false (has old.names.keys q)
  pub printed : (q : ℕ × ℕ) → has_print new.prints.keys q ≡ cond (is_at (print_cmp (print, number)) q) false (has_print old.prints.keys q)
  pub told : new.justified.keys ≡ remove_key (is_at (nat_cmp number)) old.justified.keys

pub record IsSame (old new : Index) : Type 0 where
  pub named : (q : Sym × ℕ) → has new.names.keys q ≡ has old.names.keys q
  pub printed : (q : ℕ × ℕ) → has_print new.prints.keys q ≡ has_print old.prints.keys q
  pub told : new.justified.keys ≡ old.justified.keys

-- ---- what holds of all rules

abbrev pub Entries : Type 0
Entries = List (ℕ × Rule)

-- each stands under its number
abbrev pub AreNumbered : Entries → Type 0
AreNumbered [] = Unit {0}
AreNumbered (e ∷ entries) = (e.1.number ≡ e.0) × AreNumbered entries

-- whether it is a rule of the name
abbrev pub is_of : Sym → Option RuleOf → Bool
is_of name None = false
is_of name (Some rule) = is_named name rule

-- whether it is a rule of the fingerprint
abbrev pub is_print : ℕ → Option RuleOf → Bool
is_print print None = false
is_print print (Some rule) = fingerprint rule.production == print

-- the number of a rule stands under its name and its fingerprint, and among the justifications if it is one, and no other does
pub record IsIndexed (rules : List RuleOf) (index : Index) : Type 0 where
  pub rising : IsRising rules
  pub small : AreBelow (2 ^ 64) rules
  pub named : (q : Sym × ℕ) → has index.names.keys q ≡ is_of q.0 (rule_numbered q.1 rules)
  pub printed : (q : ℕ × ℕ) → has_print index.prints.keys q ≡ is_print q.0 (rule_numbered q.1 rules)
  pub told : index.justified.keys ≡ justification_numbers rules

pub record IsShelf (entries : Entries) (index : Index) : Type 0 where
  pub numbered : AreNumbered entries
  pub indexed : IsIndexed (map rule_seen (values_of entries)) index
