-- Explanations from a part of the history.
use Rattle.std.proofs.Common.{◌≡◌, refl, sym, ◌∙◌, ap, ap₂, subst, ℕ, ◌==◌, inl, inr, List, [], ◌∷◌, ◌++◌, map, flat_map}
use Rattle.defs_soar.specs.declared.preference.Wish.{Wish}
use Rattle.defs_soar.specs.Explanation.{architecture_of, as_item_step, by_tag, chain_of, explaining, firing_of, firing_steps, item_of, namings_in_order, upper_of}
use Rattle.defs_soar.specs.History.{architecture_step, ChainOf, FiringOf}
use Rattle.defs_soar.specs.Laws.{IsIn}
use Rattle.defs_soar.specs.Standing.{AreFrom, firings_of_history, is_recorded, roots_of}
use Rattle.agent_laws.specs.Records.{ChainsByRecord, ChainsByRecordOfAgent, IsPartOf, NumbersByRecord, RootsReachMore}
use Rattle.agent_laws.proofs.ReachLaws.{explaining_has_makers, explaining_has_roots, explaining_rises, explaining_within, same_members}
use Rattle.learning_laws.proofs.Lists.{all_each, any_some, each_all, same_number}

-- ---- histories that agree on what explains

module _ (firings others : List FiringOf) (roots : List ℕ) (agree : (n : ℕ) → IsIn n (explaining firings roots) → firing_of others n ≡ firing_of firings n) where
  pub same_numbers : explaining others roots ≡ explaining firings roots
  same_numbers = same_members (explaining others roots) (explaining firings roots) (explaining_rises others roots) (explaining_rises firings roots)
      (explaining_within others (λ n. IsIn n (explaining firings roots)) roots (explaining_has_roots firings roots)
      (λ n f i j m k. explaining_has_makers firings roots n f m i (subst (IsIn f) (agree n i) j) k))
      (λ n i. (explaining_within firings (λ n. IsIn n (explaining firings roots) × IsIn n (explaining others roots)) roots
      (λ n j. (explaining_has_roots firings roots n j, explaining_has_roots others roots n j))
      (λ n f h j m k. (explaining_has_makers firings roots n f m h.0 j k, explaining_has_makers others roots n f m h.1 (subst (IsIn f) (sym (agree n h.0)) j) k)) n i).1)

  same_firings : (ns : List ℕ) → ((n : ℕ) → IsIn n ns → IsIn n (explaining firings roots)) → flat_map (firing_of others) ns ≡ flat_map (firing_of firings) ns
  same_firings [] h = refl
  same_firings (n ∷ ns) h = ap₂ (λ fs gs. fs ++ gs) (agree n (h n (inl refl))) (same_firings ns (λ m i. h m (inr i)))

  explained_same : flat_map (firing_of others) (explaining others roots) ≡ flat_map (firing_of firings) (explaining firings roots)
  explained_same = ap (flat_map (firing_of others)) same_numbers ∙ same_firings (explaining firings roots) (λ n i. i)

  abbrev chain_from : List Wish → List FiringOf → ChainOf
  chain_from results explained =
      let uses = flat_map (λ f. f.used) explained in
      record {
        grounds = by_tag (flat_map upper_of uses);
        steps = map architecture_step (by_tag (flat_map architecture_of uses)) ++ (map as_item_step (namings_in_order (flat_map item_of uses)) ++ firing_steps [] explained);
        results = results;
      }

  pub same_chain : (results : List Wish) → chain_of others roots results ≡ chain_of firings roots results
  same_chain results = ap (chain_from results) explained_same

-- ---- a part of the history

pub from_there : (history kept : List FiringOf) (f : FiringOf) → AreFrom history kept → IsIn f kept → firing_of history f.number ≡ f ∷ []
from_there history [] f h i = absurd i
from_there history (g ∷ kept) f h (inl e) = subst (λ (x : FiringOf). firing_of history x.number ≡ x ∷ []) e h.0
from_there history (g ∷ kept) f h (inr i) = from_there history kept f h.1 i

part_agrees : (kept firings : List FiringOf) (roots : List ℕ) → IsPartOf kept firings roots → (n : ℕ) → IsIn n (explaining firings roots) → firing_of kept n ≡ firing_of firings n
part_agrees kept firings roots h n i =
    let a = any_some (λ f. f.number == n) kept (each_all (is_recorded kept) n (explaining firings roots) h.reaches_all i) in
    subst (λ m. firing_of kept m ≡ firing_of firings m) (same_number a.0.number n a.2) (from_there kept kept a.0 h.apart a.1 ∙ sym (from_there firings kept a.0 h.from_history a.1))

pub numbers_by_record : NumbersByRecord
numbers_by_record kept firings roots h = same_numbers firings kept roots (part_agrees kept firings roots h)

pub chains_by_record : ChainsByRecord
chains_by_record kept firings roots results h = same_chain firings kept roots (part_agrees kept firings roots h) results

pub roots_reach_more : RootsReachMore
roots_reach_more firings roots more h =
    explaining_within firings (λ n. IsIn n (explaining firings more)) roots (λ n i. explaining_has_roots firings more n (h n i)) (λ n f i j m k. explaining_has_makers firings more n f m i j k)

pub chains_by_record_of_agent : ChainsByRecordOfAgent
chains_by_record_of_agent kept a roots results apart k h =
    chains_by_record kept (firings_of_history a) roots results (record {
      apart = apart;
      from_history = k.from_history;
      reaches_all = all_each (is_recorded kept) (explaining (firings_of_history a) roots) (λ n i. each_all (is_recorded kept) n (explaining (firings_of_history a) (roots_of a)) k.reaches_all (roots_reach_more (firings_of_history a) roots (roots_of a) h n i));
    })
