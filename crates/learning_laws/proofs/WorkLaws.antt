-- A wave begins lawful, and the agent that a lawful wave leaves is lawful.
use Rattle.std.proofs.Common.{◌≡◌, refl, sym, ◌∙◌, ap, subst, ℕ, Bool, true, false, cond, inl, inr, ◌⊎◌, arith, List, [], ◌∷◌, ◌++◌, map, flat_map, filter}
use Rattle.std.proofs.lemmas.List.{append-nil}
use Rattle.std.specs.Prelude.{not}
use Rattle.defs_soar.specs.declared.preference.PrefKind.TheVariants as kind
use Rattle.defs_soar.specs.declared.preference.Preference.{Preference}
use Rattle.defs_soar.specs.declared.preference.Wish.{Wish}
use Rattle.defs_soar.specs.Agents.{Agent, LiveFiring}
use Rattle.defs_soar.specs.Events.{by_instance, by_learned, by_operator, WishSupport}
use Rattle.defs_soar.specs.History.{FiringOf, RecordedFiring}
use Rattle.defs_soar.specs.Laws.{IsIn}
use Rattle.defs_soar.specs.Preferences.{is_kept_already, rows_after, with_row, with_rows, without_firings}
use Rattle.defs_soar.specs.Resettling.{resettled}
use Rattle.defs_soar.specs.Trimming.{numbers_of, Remains}
use Rattle.defs_soar.specs.Values.{is_kind}
use Rattle.defs_soar.specs.WaveAtHand.{all_fresh, SupportedWish, Fresh, BeforeWave, Wave}
use Rattle.defs_soar.specs.WaveFirings.{before_wave}
use Rattle.defs_soar.specs.Waves.{after_work, counted, held_row, is_retracted, live_of, recorded_firing, rows_added, rows_of_fresh, without_spent}
use Rattle.learning_laws.specs.LawfulAgents.{firings_of_agent, IsFounded, IsLawfulAgent}
use Rattle.learning_laws.specs.LawfulSteps.{unsettled}
use Rattle.learning_laws.specs.LawfulWaves.{fresh_firings, IsLawfulWave, WavesBegin, WorkKeeps}
use Rattle.learning_laws.specs.BeforeWave.{CanBeMade}
use Rattle.learning_laws.proofs.Lists.{filter_within, in_append, in_flat_map, in_mapped, in_right}
use Rattle.learning_laws.proofs.SettledLaws.{settled_founded, settled_held}

pub waves_begin : WavesBegin
waves_begin a h = record {
  founded = subst (IsFounded a.names a.holding a.queues.input a.program.rules a.counts.firings) (sym (append-nil (firings_of_agent a))) h.founded;
  wishes = λ x i y j. absurd i;
  can = λ x i u j. absurd i;
  explains = λ x i. absurd i;
  counted = omega arith;
  later = λ x i. absurd i;
}

-- ---- rows

pub from_rows : (rows made : List Preference) (row : Preference) → IsIn row (with_rows rows made) → IsIn row rows ⊎ IsIn row made
from_rows rows [] row i = inl i
from_rows rows (r ∷ made) row i =
    elim (from_rows (with_row rows r) made row i) [
      | inl j ↦ elim (from_one (is_kept_already rows r) j) [ inl k ↦ inl k | inr e ↦ inr (inl e) ]
      | inr j ↦ inr (inr j)
    ]
  where
    from_one : (b : Bool) → IsIn row (cond b rows (rows ++ r ∷ [])) → IsIn row rows ⊎ (r ≡ row)
    from_one true j = inl j
    from_one false j = elim (in_append row rows (r ∷ []) j) [ inl k ↦ inl k | inr k ↦ elim k [ inl e ↦ inr e | inr l ↦ absurd l ] ]

-- a row of a firing of the wave
pub record IsFreshRow (w : Wave) (row : Preference) : Type 0 where
  pub fresh : Fresh
  pub there : IsIn fresh (all_fresh w.entries)
  pub number : fresh.firing.number ≡ row.firing
  pub wish_support : SupportedWish
  pub among : IsIn wish_support fresh.wishes
  pub wish : wish_support.wish ≡ row.wish

pub fresh_row : (w : Wave) (row : Preference) → IsIn row (flat_map rows_of_fresh (all_fresh w.entries)) → IsFreshRow w row
fresh_row w row i =
    let x = in_flat_map rows_of_fresh row (all_fresh w.entries) i in
    let y = in_flat_map (held_row x.0.firing.number) row x.0.wishes x.2 in
    let k = held (y.0.wish_support) y.0.wish x.0.firing.number y.2 in record { fresh = x.0; there = x.1; number = k.0; wish_support = y.0; among = y.1; wish = k.1 }
  where
    held : (f : WishSupport) (wish : Wish) (n : ℕ) → IsIn row (held_row n (record { wish = wish; wish_support = f })) → (n ≡ row.firing) × (wish ≡ row.wish)
    held by_instance wish n (inl e) = (ap (λ (r : Preference). r.firing) e, ap (λ (r : Preference). r.wish) e)
    held by_instance wish n (inr j) = absurd j
    held by_operator wish n (inl e) = (ap (λ (r : Preference). r.firing) e, ap (λ (r : Preference). r.wish) e)
    held by_operator wish n (inr j) = absurd j
    held by_learned wish n j = absurd j

pub pasts_are : (m : BeforeWave) (added : List Preference) (fresh : List Fresh) → map (λ (p : RecordedFiring). p.firing) (map (recorded_firing m added) fresh) ≡ map (λ (x : Fresh). x.firing) fresh
pasts_are m added [] = refl
pasts_are m added (x ∷ fresh) = ap (λ l. x.firing ∷ l) (pasts_are m added fresh)

pub map_both : {A B : Type 0} (f : A → B) (xs ys : List A) → map f (xs ++ ys) ≡ map f xs ++ map f ys
map_both f [] ys = refl
map_both f (x ∷ xs) ys = ap (λ l. f x ∷ l) (map_both f xs ys)

module _ (a : Agent) (gone : List LiveFiring) (w : Wave) (h : IsLawfulAgent a) (k : IsLawfulWave a w) where
  abbrev firings : List FiringOf
  firings = firings_of_agent a ++ fresh_firings w

  abbrev new : List Preference
  new = flat_map rows_of_fresh (all_fresh w.entries)

  abbrev held : Remains
  held = record {
    goals = a.holding.goals;
    rows = rows_after a.holding.rows (numbers_of gone) new;
    inputs = a.holding.inputs;
    live = filter (λ l. not (is_retracted gone l)) a.holding.live ++ map live_of (all_fresh w.entries);
    removed = [];
  }

  abbrev next : Agent
  next = record a { names = w.names; program = without_spent gone w.program; counts = counted a.counts w gone }

  each_row : (row : Preference) → IsIn row held.rows → IsIn row a.holding.rows ⊎ IsFreshRow w row
  each_row row i =
      elim (from_rows (without_firings a.holding.rows (numbers_of gone)) new row (filter_within _ (with_rows (without_firings a.holding.rows (numbers_of gone)) new) row i).0) [
        | inl j ↦ inl (filter_within _ a.holding.rows row j).0
        | inr j ↦ inr (fresh_row w row j)
      ]

  work_founded : IsFounded w.names (unsettled next held) a.queues.input (without_spent gone w.program).rules w.last_firing firings
  work_founded =
      let f = k.founded in
      record {
        symbols = record {
          letters = f.symbols.letters;
          words = f.symbols.words;
          once = f.symbols.once;
          links = f.symbols.links;
          goals = f.symbols.goals;
          inputs = f.symbols.inputs;
          queued = f.symbols.queued;
          of_rules = λ r i. f.symbols.of_rules r (filter_within _ w.program.rules r i).0;
          made = f.symbols.made;
        };
        elements = record {
          ever = f.elements.ever;
          tags = f.elements.tags;
          last = f.elements.last;
          ids = f.elements.ids;
          given = f.elements.given;
          present = f.elements.present;
          used = f.elements.used;
          items = f.elements.items;
          selected = f.elements.selected;
        };
        history = f.history;
        rows = λ row i. by_row row (each_row row i);
        accepted = λ row i q. accepted row q (each_row row i);
        selections = f.selections;
        stand = λ r i. f.stand r (filter_within _ w.program.rules r i).0;
      }
    where
      by_row : (row : Preference) → IsIn row a.holding.rows ⊎ IsFreshRow w row → (g : FiringOf) × IsIn g firings × (g.number ≡ row.firing) × IsIn row.wish g.made
      by_row row (inl j) = k.founded.rows row j
      by_row row (inr x) = (
        x.fresh.firing,
        in_right x.fresh.firing (firings_of_agent a) (fresh_firings w) (in_mapped (λ (y : Fresh). y.firing) x.fresh (all_fresh w.entries) x.there),
        x.number,
        subst (λ u. IsIn u x.fresh.firing.made) x.wish (k.wishes x.fresh x.there x.wish_support x.among),
      )

      accepted : (row : Preference) → is_kind row.wish.kind kind.Accept ≡ true → IsIn row a.holding.rows ⊎ IsFreshRow w row → CanBeMade a.holding.goals row.wish
      accepted row q (inl j) = k.founded.accepted row j q
      accepted row q (inr x) = subst (CanBeMade a.holding.goals) x.wish (k.can x.fresh x.there x.wish_support.wish (k.wishes x.fresh x.there x.wish_support x.among))

  recorded : firings_of_agent (after_work a gone w).agent ≡ firings
  recorded =
      map_both (λ (p : RecordedFiring). p.firing) a.history (map (recorded_firing (before_wave a) (rows_added (without_firings a.holding.rows (numbers_of gone)) new)) (all_fresh w.entries))
      ∙ ap (λ l. firings_of_agent a ++ l) (pasts_are (before_wave a) (rows_added (without_firings a.holding.rows (numbers_of gone)) new) (all_fresh w.entries))

  after_lawful : IsLawfulAgent (after_work a gone w).agent
  unfolding resettled
  after_lawful =
      let up = settled_held next held a.queues.input (without_spent gone w.program).rules w.last_firing firings work_founded firings in
      record {
        founded = subst (IsFounded (after_work a gone w).agent.names (after_work a gone w).agent.holding a.queues.input (without_spent gone w.program).rules w.last_firing) (sym recorded)
            (settled_founded next held a.queues.input (without_spent gone w.program).rules w.last_firing firings work_founded);
        held_up = record {
          held = λ e i made. up.held e i (record { below = made.below; others = made.others; unselected = made.unselected });
          marks = λ e i made. up.marks e i (record { below = made.below; others = made.others; unselected = made.unselected });
          flags = up.flags;
          candidates = up.candidates;
        };
      }

pub work_keeps : WorkKeeps
work_keeps a gone w h k = after_lawful a gone w h k
