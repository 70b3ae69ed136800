-- What a learned rule comes to.
use Rattle.std.specs.Prelude.{◌≡◌, ℕ, false, List, [], ◌∷◌, map, Ok}
use Rattle.soar_sym.specs.Words.{Texts}
use Rattle.soar_sym.specs.declared.symbol.Sym.{Sym}
use Rattle.soar_rule.specs.Checking.{ordered}
use Rattle.soar_rule.specs.Conditions.{Condition}
use Rattle.soar_rule.specs.Renaming.{condition_with}
use Rattle.soar_wm.specs.declared.element.Element.{Element}
use Rattle.defs_match.specs.Conflict.{bindings_of, conflict}
use Rattle.defs_match.specs.Rules.{RuleOf}
use Rattle.defs_match.specs.declared.instance.Instance.{Instance}
use Rattle.defs_soar.specs.declared.learning.Learning.{Learning}
use Rattle.defs_soar.specs.declared.goal.Goal.{Goal}
use Rattle.defs_soar.specs.Candidate.{general_form, named_form}
use Rattle.defs_soar.specs.ChainIdentifiers.{firings_of, is_made_by}
use Rattle.defs_soar.specs.ConditionOrder.{ordered_grounds}
use Rattle.defs_soar.specs.Firing.{MadeSoFar, made_by}
use Rattle.defs_soar.specs.declared.preference.Wish.{Wish}
use Rattle.defs_soar.specs.Explanation.{chain_of}
use Rattle.defs_soar.specs.History.{ChainOf, FiringOf}
use Rattle.defs_soar.specs.Laws.{IsIn}
use Rattle.defs_soar.specs.Negations.{bindings_in, bound_atom, negations_of, negations_taken_over, with_own_from}
use Rattle.defs_soar.specs.Outcome.{chunked, outcome_of}
use Rattle.defs_soar.specs.LearnedRules.{identifiers_of}
use Rattle.learning_laws.specs.BeforeWave.{IsBeforeWave}
use Rattle.learning_laws.specs.Record.{AreRoots, AreWishesOf, IsLawfulRecord}
use Rattle.learning_laws.specs.Ready.{FlagsAgree, NegationsReady}
use Rattle.learning_laws.specs.Replay.{AreAlike, Replays}
use Rattle.learning_laws.specs.Lawful.{IsLawful}

-- with local negations disallowed, the explanation of each chunk goes through again in the working memory before the wave
abbrev pub ChainsReplay : Type 0
ChainsReplay =
    (words : Texts) (c : ChainOf) (depth : ℕ) (rules : List RuleOf) (w : List Element) (s : Learning) → IsLawful words c w
    → s.local_negations ≡ false → outcome_of words c depth rules w s ≡ chunked → Replays words c w

-- the chunk under a name and a number, and its instance at its grounds, in the order of its conditions
abbrev pub chunk_of : Texts → ChainOf → ℕ → Sym → ℕ → RuleOf
chunk_of words c depth name number = record { number = number; production = record (named_form words (general_form words c depth)) { name = name } }

abbrev pub instance_at_grounds : Texts → ChainOf → ℕ → Instance
instance_at_grounds words c number =
    record { rule = number; tags = map (λ e. e.tag) (ordered_grounds words c.grounds).taken; binds = identifiers_of (ordered_grounds words c.grounds).taken }

-- the chunk alone has its instance at its grounds in that working memory
abbrev pub ChunksMatch : Type 0
ChunksMatch =
    (words : Texts) (c : ChainOf) (depth number : ℕ) (name : Sym) (rules : List RuleOf) (w : List Element) (s : Learning) → IsLawful words c w
    → outcome_of words c depth rules w s ≡ chunked → IsIn (instance_at_grounds words c number) (conflict (chunk_of words c depth name number ∷ []) w)

-- and these are all of its grounds
abbrev pub GroundsAreMatched : Type 0
GroundsAreMatched =
    (words : Texts) (c : ChainOf) (depth : ℕ) (rules : List RuleOf) (w : List Element) (s : Learning) → IsLawful words c w
    → outcome_of words c depth rules w s ≡ chunked → (e : Element) → IsIn e c.grounds → IsIn e (ordered_grounds words c.grounds).taken

-- what the chunk's firing at its grounds makes
abbrev pub made_at_grounds : Texts → List ℕ → List Goal → ChainOf → ℕ → Sym → ℕ → MadeSoFar
made_at_grounds words letters goals c depth name number =
    let p = (chunk_of words c depth name number).production in
    made_by goals p.actions (record { bindings = bindings_of p (instance_at_grounds words c number); words = words; letters = letters; vars = p.vars; totals = [] })

-- it makes the results in order, up to the numbers of the identifiers that the explanation made, and drops nothing
pub record MakesResults (c : ChainOf) (made : MadeSoFar) : Type 0 where
  pub wishes : AreAlike (is_made_by c) c.results made.wishes
  pub dropped : made.dropped ≡ []
  pub text : made.text ≡ []
  pub halted : made.halted ≡ false

abbrev pub ChunksMakeResults : Type 0
ChunksMakeResults =
    (words : Texts) (letters : List ℕ) (goals : List Goal) (c : ChainOf) (depth number : ℕ) (name : Sym) (rules : List RuleOf) (w : List Element) (s : Learning) → IsLawful words c w
    → IsBeforeWave words letters goals c depth → outcome_of words c depth rules w s ≡ chunked → MakesResults c (made_at_grounds words letters goals c depth name number)

-- the check gives the chunk back as it is
abbrev pub ChunksAreChecked : Type 0
ChunksAreChecked =
    (words : Texts) (letters : List ℕ) (goals : List Goal) (c : ChainOf) (depth number : ℕ) (name : Sym) (rules : List RuleOf) (w : List Element) (s : Learning) → IsLawful words c w
    → IsBeforeWave words letters goals c depth → NegationsReady c → FlagsAgree w → outcome_of words c depth rules w s ≡ chunked
    → ordered (chunk_of words c depth name number).production ≡ Ok (chunk_of words c depth name number).production

-- an explanation that is found in a lawful history is lawful
abbrev pub ExplanationsAreLawful : Type 0
ExplanationsAreLawful =
    (words : Texts) (firings : List FiringOf) (w : List Element) → IsLawfulRecord words firings w → (roots : List ℕ) → AreRoots firings roots → (results : List Wish)
    → AreWishesOf firings roots results → IsLawful words (chain_of firings roots results) w

-- with local negations disallowed, each negation of a firing is a condition of the chunk: with symbols for its bound variables, and numbers of its own for the others
abbrev pub NegationsAreConditions : Type 0
NegationsAreConditions =
    (words : Texts) (c : ChainOf) (depth : ℕ) (rules : List RuleOf) (w : List Element) (s : Learning) → s.local_negations ≡ false → outcome_of words c depth rules w s ≡ chunked
    → (f : FiringOf) (d : Condition) → IsIn f (firings_of c) → IsIn d (negations_of f)
    → (n : ℕ) × IsIn (with_own_from n (with_own_from 0 (condition_with (bound_atom (bindings_in f)) d))) (negations_taken_over c depth)
