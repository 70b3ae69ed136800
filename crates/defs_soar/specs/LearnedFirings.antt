-- A learned rule joins, and its firing takes results over (Soar manual, chapter 4, chunking; numbers are this engine's).
--
-- The rule fires at once, at the elements of its own conditions. The results are then its rows, and no longer those of the firing explained;
-- where no rule is learned they stay there, with instance support.
use Rattle.std.specs.Prelude.{ℕ, suc, Bool, ◌&&◌, ◌==◌, nat_lt, List, [], ◌∷◌, ◌++◌, map, if◌then◌else◌}
use Rattle.soar_sym.specs.Words.{Texts}
use Rattle.soar_sym.specs.declared.symbol.Sym.{Sym}
use Rattle.soar_rule.specs.Productions.{ProductionOf}
use Rattle.soar_rule.specs.Symbols.{constants_of}
use Rattle.defs_match.specs.Element.{Element}
use Rattle.defs_match.specs.Conflict.{bindings_of}
use Rattle.defs_match.specs.Rules.{RuleOf}
use Rattle.defs_soar.specs.declared.preference.Wish.{Wish}
use Rattle.defs_soar.specs.Events.{WishSupport, by_instance, by_learned, LearningEvent, learning}
use Rattle.defs_soar.specs.History.{FiringOf, ChainOf}
use Rattle.defs_soar.specs.Limits.{counts_to}
use Rattle.defs_soar.specs.Support.{match_depth, goal_at_depth, operator_kind}
use Rattle.defs_soar.specs.Uses.{all_uses}
use Rattle.defs_soar.specs.WaveAtHand.{SupportedWish, Fresh, Entry, fired, noted, BeforeWave, Wave, goals_among, supported_wish}

abbrev pub with_support_by : (Wish → Bool) → WishSupport → SupportedWish → SupportedWish
with_support_by p wish_support x = if p x.wish then record x { wish_support = wish_support } else x

abbrev pub with_supports_by : ℕ → (Wish → Bool) → WishSupport → Entry → Entry
with_supports_by number p wish_support (fired x) = if x.firing.number == number then fired (record x { wishes = map (with_support_by p wish_support) x.wishes }) else fired x
with_supports_by number p wish_support (noted learning_event) = noted learning_event

-- an explanation, with what it is found from
pub record ExplainedFiring : Type 0 where
  pub explained : FiringOf
  pub takes_over : Wish → Bool  -- the wishes that are its results
  pub chain : ChainOf

-- the results stay rows of their firing, with instance support
abbrev pub without_rule : ExplainedFiring → LearningEvent → Wave → Wave
without_rule l learning_event w = record w { entries = map (with_supports_by l.explained.number l.takes_over by_instance) w.entries ++ noted learning_event ∷ [] }

abbrev pub is_higher_firing : ExplainedFiring → ℕ → Bool
is_higher_firing l depth = nat_lt depth l.explained.depth

-- the learned rule's firing at the elements of its conditions
abbrev pub learned_firing : BeforeWave → Texts → ℕ → RuleOf → List Element → List Sym → List Wish → FiringOf
learned_firing m words number rule elements binds wishes =
    let depth = match_depth m.reach.goals elements in
    record {
      number = number;
      name = rule.production.name;
      rule = rule;
      depth = depth;
      instance = record { rule = rule.number; tags = map (λ e. e.tag) elements; binds = binds };
      goals = goals_among words m.reach.goals (binds ++ constants_of rule.production);
      used = all_uses m.reach m.rows depth elements;
      made = wishes;
    }

-- its support is that of its kind, where it is a firing of a higher goal
abbrev pub learned_kind : BeforeWave → ExplainedFiring → FiringOf → List Element → Bool
learned_kind m l f elements =
    is_higher_firing l f.depth && operator_kind m.reach.goals elements (bindings_of f.rule.production f.instance) f.rule.production

abbrev pub as_fresh : BeforeWave → ExplainedFiring → FiringOf → List Element → LearningEvent → Fresh
as_fresh m l f elements learning_event =
    let kind = learned_kind m l f elements in
    record {
      firing = f;
      goal = goal_at_depth f.depth m.reach.goals;
      operator_kind = kind;
      heading = learning learning_event;
      wishes = map (supported_wish m.reach.goals kind) f.made;
      dropped = [];
      text = [];
    }

-- a rule of this production joins, and its firing takes the results over
abbrev pub with_learned : BeforeWave → ExplainedFiring → ProductionOf → List Element → List Sym → (ℕ → List ℕ → LearningEvent) → Wave → Wave
with_learned m l production elements binds learning_event w =
    let number = suc w.program.last_rule in
    let rule : RuleOf = record { number = number; production = production } in
    let f = learned_firing m w.names.words (suc w.last_firing) rule elements binds l.chain.results in
    record w {
      program = record w.program { rules = w.program.rules ++ rule ∷ []; last_rule = number; chains = w.program.chains ++ record { rule = number; chain = l.chain } ∷ [] };
      last_firing = suc w.last_firing;
      entries = map (with_supports_by l.explained.number l.takes_over by_learned) w.entries ++ fired (as_fresh m l f elements (learning_event f.number f.instance.tags)) ∷ [];
      next = w.next ++ (if is_higher_firing l f.depth then f.number ∷ [] else []);
      totals = w.totals ++ counts_to number ∷ counts_to (suc w.last_firing) ∷ [];
    }
