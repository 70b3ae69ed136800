-- The refusal that each reason gives.
use Rattle.soar_sym.specs.Words.{Texts, IsKnown}
use Rattle.defs_run.specs.Orders.{Refusal, already_there, halted, no_element, no_file, no_production, not_a_learned_rule, not_an_input, not_of_the_top_state, reserved_attribute, sources_too_deep, too_many_files, unfinished_command, unknown_identifier}
use Rattle.soar_cmd.specs.Answers.{IsShownKnown, refusal_of}
use Rattle.session_parts.specs.declared.reasons.Reason.{Reason}
use Rattle.session_parts.specs.declared.reasons.Reason.TheVariants as reason

abbrev pub refusal_by : Texts → Reason → Refusal
refusal_by words (reason.Read number shown) = refusal_of words number shown
refusal_by words reason.Unfinished = unfinished_command
refusal_by words (reason.UnknownIdentifier text) = unknown_identifier text.now
refusal_by words (reason.NoProduction name) = no_production words name
refusal_by words (reason.NotALearnedRule name) = not_a_learned_rule words name
refusal_by words (reason.NoElement tag) = no_element tag
refusal_by words (reason.NotAnInput tag) = not_an_input tag
refusal_by words (reason.AlreadyThere tag) = already_there tag
refusal_by words reason.ReservedAttribute = reserved_attribute
refusal_by words reason.Halted = halted
refusal_by words reason.NotOfTheTopState = not_of_the_top_state
refusal_by words (reason.NoFile name) = no_file name.now
refusal_by words reason.SourcesTooDeep = sources_too_deep
refusal_by words reason.TooManyFiles = too_many_files

-- the table has the words that are shown
abbrev pub IsReasonKnown : Texts → Reason → Type 0
IsReasonKnown words (reason.Read number shown) = IsShownKnown words shown
IsReasonKnown words (reason.NoProduction name) = IsKnown words name
IsReasonKnown words (reason.NotALearnedRule name) = IsKnown words name
IsReasonKnown words other = Unit {0}
