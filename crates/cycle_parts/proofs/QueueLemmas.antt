-- Parts with one change more that waits, or with more random words, stand for the state with these.
use Rattle.std.proofs.Common.{◌≡◌, ℕ, List, [], ◌∷◌, ◌++◌, map, refl, ap, ◌∙◌}
use Rattle.std.proofs.lemmas.List.{map-append}
use Rattle.defs_soar.specs.Agents.{Agent}
use Rattle.defs_soar.specs.History.{RecordedFiring}
use Rattle.input_queue.specs.Seen.{queued_seen}
use Rattle.input_queue.specs.declared.queued.Queued.{Queued}
use Rattle.decision_parts.specs.Seen.{Stepped, agent_of}
use Rattle.decision_parts.specs.Stands.{Stands}
use Rattle.decision_parts.specs.Parts.{Parts as PartsKept}
use Rattle.decision_parts.proofs.StandsLemmas.{of_each_state, remembers_same, stands_for}
use Rattle.cycle_parts.specs.Calls.{queue_step, random_step}
use Rattle.cycle_parts.proofs.SteppingLemmas.{stepped_at}

abbrev with_queue : PartsKept → List Queued → PartsKept
with_queue a queue = record a { queue = queue }

queued_is : (a : PartsKept) (queue : List Queued) (q : Queued) (history : List RecordedFiring) → queue ≡ a.queue ++ q ∷ []
    → agent_of (with_queue a queue) history ≡ (queue_step q.adds q.triple (agent_of a history)).agent
queued_is a queue q history are =
    let seen : map queued_seen queue ≡ map queued_seen a.queue ++ queued_seen q ∷ [] = ap (map queued_seen) are ∙ map-append queued_seen a.queue (q ∷ []) in
    λ k. record (agent_of a history) { queues = record (agent_of a history).queues { input = seen k } }

pub queues : (a : PartsKept) (queue : List Queued) (q : Queued) → queue ≡ a.queue ++ q ∷ [] → (s : Agent) → Stands a s → Stepped (with_queue a queue) (queue_step q.adds q.triple s)
queues a queue q are =
    of_each_state (λ (s : Agent). Stepped (with_queue a queue) (queue_step q.adds q.triple s)) a (λ history remembers.
    stepped_at (with_queue a queue) (queue_step q.adds q.triple (agent_of a history)) refl
    (stands_for (with_queue a queue) history (queue_step q.adds q.triple (agent_of a history)).agent (remembers_same a (with_queue a queue) history refl refl refl refl refl refl refl remembers)
    (queued_is a queue q history are)) refl)

abbrev with_random : PartsKept → List ℕ → PartsKept
with_random a random = record a { random = random }

pub more_random : (a : PartsKept) (random words : List ℕ) → random ≡ a.random ++ words → (s : Agent) → Stands a s → Stepped (with_random a random) (random_step words s)
more_random a random words are =
    of_each_state (λ (s : Agent). Stepped (with_random a random) (random_step words s)) a (λ history remembers.
    stepped_at (with_random a random) (random_step words (agent_of a history)) refl
    (stands_for (with_random a random) history (random_step words (agent_of a history)).agent (remembers_same a (with_random a random) history refl refl refl refl refl refl refl remembers)
    (ap (λ (all : List ℕ). record (agent_of a history) { queues = record (agent_of a history).queues { random = all } }) are)) refl)
