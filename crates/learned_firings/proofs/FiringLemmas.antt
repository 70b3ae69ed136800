-- What is recorded of a learned rule's firing is what the definition has.
use Rattle.std.proofs.Common.{◌≡◌, ◌<◌, ◌≤◌, ℕ, nat_lt, Bool, true, false, ◌&&◌, List, ◌++◌, map, sym, ap, ◌∙◌, arith}
use Rattle.soar_sym.specs.Words.{Texts}
use Rattle.soar_sym.specs.declared.symbol.Sym.{Sym}
use Rattle.soar_rule.specs.Symbols.{constants_of}
use Rattle.soar_wm.specs.declared.element.Element.{Element}
use Rattle.defs_match.specs.Conflict.{bindings_of}
use Rattle.defs_match.specs.Rules.{RuleOf}
use Rattle.defs_match.specs.declared.instance.Instance.{Instance}
use Rattle.defs_soar.specs.declared.preference.Wish.{Wish}
use Rattle.defs_soar.specs.Support.{goal_at_depth, match_depth, operator_kind}
use Rattle.defs_soar.specs.Uses.{all_uses, elements_matched}
use Rattle.defs_soar.specs.WaveAtHand.{goals_among}
use Rattle.wave_entries.specs.Recorded.{RecordedAs, Standing, reach_of, recorded_as}
use Rattle.learning_laws.proofs.InstanceLaws.{matched_again}
use Rattle.learned_firings.specs.Deciding.{AreThere}
use Rattle.learned_firings.specs.Firings.{learned_as}
use Rattle.learned_firings.proofs.DecidingLemmas.{match_same}

-- ---- the kind that counts

pub kind_kept : (n m : ℕ) (b k : Bool) → n < m → b ≡ k → b ≡ (nat_lt n m && k)
kind_kept n m b k low q = let less : nat_lt n m ≡ true = grind arith in q ∙ sym (ap (λ x. x && k) less)

pub kind_left : (n m : ℕ) (b k : Bool) → m ≤ n → b ≡ nat_lt n m → b ≡ (nat_lt n m && k)
kind_left n m b k high q = let more : nat_lt n m ≡ false = grind arith in q ∙ more ∙ sym (ap (λ x. x && k) more)

-- ---- the firing

module _ (words : Texts) (s : Standing) (explained number : ℕ) (rule : RuleOf) (elements : List Element) (binds : List Sym) (made : List Wish) (there : AreThere elements s.elements) where
  abbrev instance : Instance
  instance = record { rule = rule.number; tags = map (λ (e : Element). e.tag) elements; binds = binds }

  -- by the depth and the elements
  abbrev by_depth : List Sym → ℕ → List Element → Bool → RecordedAs
  by_depth goals depth es kind = record {
    firing = record {
      number = number;
      name = rule.production.name;
      rule = rule;
      depth = depth;
      instance = instance;
      goals = goals;
      used = all_uses (reach_of s) s.rows depth es;
      made = made;
    };
    goal = goal_at_depth depth s.goals;
    operator_kind = nat_lt depth explained && kind;
  }

  abbrev pub as_recorded : RecordedAs → Bool → RecordedAs
  as_recorded r kind = record r { operator_kind = nat_lt r.firing.depth explained && kind }

  -- with its own kind
  pub learned_is : (goals : List Sym) (kind : Bool) → goals ≡ goals_among words s.goals (binds ++ constants_of rule.production)
      → kind ≡ operator_kind s.goals elements (bindings_of rule.production instance) rule.production
      → as_recorded (recorded_as goals s rule instance number made) kind ≡ learned_as words s explained number rule elements binds made
  learned_is goals kind goals_are kind_is =
      ap (λ (n : ℕ). by_depth goals n (elements_matched s.elements (map (λ (e : Element). e.tag) elements)) kind) (match_same s.goals elements s.elements there)
      ∙ ap (λ es. by_depth goals (match_depth s.goals elements) es kind) (matched_again elements s.elements there.within (λ e f i j q. there.tags e f (there.within e i) j q))
      ∙ ap (λ gs. by_depth gs (match_depth s.goals elements) elements kind) goals_are
      ∙ ap (λ k. by_depth (goals_among words s.goals (binds ++ constants_of rule.production)) (match_depth s.goals elements) elements k) kind_is
