-- A session stays ready when its table gains the words of a command, and orders that were read are lawful. The words of what an agent holds.
use Rattle.std.proofs.Common.{◌≡◌, ℕ, ◌==◌, ◌≤◌, Bool, true, false, cond, List, [], ◌∷◌, length, Some, Ok, refl, sym, subst}
use Rattle.soar_sym.specs.Words.{Texts}
use Rattle.soar_rule.specs.Productions.{production_seen}
use Rattle.soar_rule.specs.declared.production.Production.{Production}
use Rattle.soar_wm.specs.declared.element.Element.{Element}
use Rattle.soar_wm.specs.WorkingMemory.{element_of, triple_of}
use Rattle.defs_soar.specs.History.{RecordedFiring}
use Rattle.defs_run.specs.Orders.{Order}
use Rattle.defs_run.specs.WholeReading.{read_whole}
use Rattle.defs_run.specs.declared.form.Order.{Order as OrderRead}
use Rattle.defs_run.specs.declared.form.Order.TheVariants as read
use Rattle.learning_laws.specs.Lawful.{Grown}
use Rattle.learning_laws.specs.LawfulAgents.{EachOnce}
use Rattle.loading_laws.specs.Orders.{IsLawfulOrder, ReadsLawfully}
use Rattle.soar_settle.specs.Known.{AreElementsKnown}
use Rattle.command_orders.specs.Asked.{order_seen}
use Rattle.soar_cycle.specs.Lawful.{IsOfLawful}
use Rattle.soar_cycle.specs.Remembers.{Remembers}
use Rattle.soar_cycle.specs.Seen.{IsSound}
use Rattle.soar_cycle.specs.Parts.{Parts as PartsKept}
use Rattle.soar_cycle.proofs.StandsLemmas.{remembers_same}
use Rattle.soar_cycle.specs.Calls.{IsTripleKnown, MayBeLoaded}
use Rattle.soar_cycle.specs.Agents.{AgentSeen, IsSoundAgent, with_table as agent_with_table}
use Rattle.soar_agent.specs.Carries.{with_table}
use Rattle.soar_agent.specs.States.{IsReady}
use Rattle.soar_agent.specs.declared.state.Session.{Session as SessionKept}

-- ---- words join the table, each text once

once_there : (p : PartsKept) → IsOfLawful p → EachOnce p.table
once_there p lawful = subst EachOnce (sym lawful.stands.words) lawful.lawful.founded.symbols.once

-- the table is that of a command that was read, and an agent that is lent it stays sound
pub ready_read : ReadsLawfully read_whole → {M : Type 0} (s : SessionKept M) (table words : Texts) (text : List ℕ)
    → ((later : Texts) → Grown s.agent.parts.table later → EachOnce later → IsSoundAgent s.agent → IsSoundAgent (agent_with_table s.agent later)) → table ≡ s.agent.parts.table
    → (read_whole table text).words ≡ words → IsReady s → IsReady (with_table words s)
ready_read reads s table words text stays same is ready =
    let old : Texts = s.agent.parts.table in
    let grown : Grown old words = subst (λ t. Grown t words) same (subst (Grown table) is (reads.grown table text)) in
    let once : EachOnce words = subst EachOnce is (reads.once table text (subst EachOnce (sym same) (once_there s.agent.parts ready.2))) in
    let both = stays words grown once (λ stands. (ready.1, ready.2)) ready.0 in (ready.0, both.0, both.1, ready.3)

-- what is remembered is in no word
pub remembers_read : (a : AgentSeen) (table : Texts) (history : List RecordedFiring) → Remembers a.parts history → Remembers (agent_with_table a table).parts history
remembers_read a table history r = remembers_same a.parts (agent_with_table a table).parts history refl refl refl refl refl refl refl r

-- ---- orders

-- an order that was read is lawful
pub order_read : ReadsLawfully read_whole → (p : PartsKept) (table words : Texts) (text : List ℕ) (order : Order) → table ≡ p.table → IsSound p → (read_whole table text).words ≡ words → (read_whole table text).order ≡ Ok order
    → IsLawfulOrder words order
order_read reads p table words text order same sound is ordered =
    subst (λ w. IsLawfulOrder w order) is (reads.orders table text order (subst (λ t. 24 ≤ length t) (sym same) sound.first_words) ordered)

pub may_be_loaded : (words : Texts) (order : OrderRead) (production : Production) → order ≡ read.Load production → IsLawfulOrder words (order_seen order) → MayBeLoaded words (production_seen production)
may_be_loaded words order production is lawful =
    let may = subst (λ o. IsLawfulOrder words (order_seen o)) is lawful in record { checked = may.checked; literal = may.literal }

-- ---- the element of a tag

pub element_known : (words : Texts) (tag : ℕ) (elements : List Element) (found : Element) → AreElementsKnown words elements → element_of tag elements ≡ Some found → IsTripleKnown words (triple_of found)
element_known words tag [] found known is = absurd (cc)
element_known words tag (e ∷ elements) found known is = by (e.tag == tag) is (element_known words tag elements found known.1)
  where
    by : (b : Bool) → cond b (Some e) (element_of tag elements) ≡ Some found → (element_of tag elements ≡ Some found → IsTripleKnown words (triple_of found)) → IsTripleKnown words (triple_of found)
    by true is later = let same : e ≡ found = cc in subst (λ (f : Element). IsTripleKnown words (triple_of f)) same known.0
    by false is later = later is
