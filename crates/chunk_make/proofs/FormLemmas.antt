-- Forms over what was found of a chain are its forms.
use Rattle.std.proofs.Common.{◌≡◌, ℕ, true, false, List, ◌++◌, map}
use Rattle.soar_sym.specs.Words.{Texts}
use Rattle.soar_rule.specs.Conditions.{Condition, condition}
use Rattle.soar_rule.specs.declared.production.Kind.TheVariants.{Chunk, Justification}
use Rattle.carried_tests.specs.Seen.{carried_seen}
use Rattle.chunk_grounds.specs.Ungrounded.{is_ungrounded}
use Rattle.chunk_make.specs.Drafts.{forms_by, forms_of}
use Rattle.chunk_make.specs.Findings.{AreFindings, form_over}
use Rattle.chunk_make.specs.declared.findings.Findings.{Findings}
use Rattle.defs_soar.specs.declared.chain.Chain.{Chain}
use Rattle.defs_soar.specs.Candidate.{Form, general_form, literal_form}
use Rattle.defs_soar.specs.CarriedTests.{Carried, carried_tests}
use Rattle.defs_soar.specs.ConditionOrder.{Ordered, ordered_grounds}
use Rattle.defs_soar.specs.History.{ChainOf, chain_seen}
use Rattle.defs_soar.specs.Negations.{negations_taken_over}
use Rattle.defs_soar.specs.Ungrounded.{ungrounded}

-- from the order, the tests and the negations that were found
pub missing_is : (words : Texts) (chain : Chain) (depth : ℕ) (order : Ordered) (tests : List Carried) (negations : List Condition)
    → order ≡ ordered_grounds words chain.grounds → tests ≡ carried_tests (chain_seen chain) depth → negations ≡ negations_taken_over (chain_seen chain) depth
    → is_ungrounded chain order.places tests negations ≡ ungrounded words (chain_seen chain) depth
missing_is words chain depth order tests negations p q r = λ i. is_ungrounded chain (p i).places (q i) (r i)

pub general_is : (words : Texts) (c : ChainOf) (depth : ℕ) (found : Findings) → AreFindings words c depth found
    → form_over true Chunk c (map carried_seen found.tests.items) (map condition found.negations) found.order.taken ≡ general_form words c depth
unfolding general_form
general_is words c depth found h = λ i. form_over true Chunk c (h.tests_are i) (h.negations_are i) (h.order_is i).taken

pub literal_is : (words : Texts) (c : ChainOf) (depth : ℕ) (found : Findings) → AreFindings words c depth found
    → form_over false Justification c (map carried_seen found.tests.items) (map condition found.negations) (found.order.taken ++ found.order.left) ≡ literal_form words c depth
unfolding literal_form
literal_is words c depth found h = λ i. form_over false Justification c (h.tests_are i) (h.negations_are i) ((h.order_is i).taken ++ (h.order_is i).left)

pub forms_are : (words : Texts) (c : ChainOf) (depth : ℕ) (found : Findings) (general literal : Form) → AreFindings words c depth found
    → general ≡ general_form words c depth → literal ≡ literal_form words c depth → forms_by found.grounded found.missing general literal ≡ forms_of words c depth
forms_are words c depth found general literal h p q = λ i. forms_by (h.grounded_is i) (h.missing_is i) (p i) (q i)
