-- A candidate over the table that the names of its variables joined: these change neither the order of the grounds nor the forms.
use Rattle.std.proofs.Common.{◌≡◌, refl, sym, ◌∙◌, ap, ℕ, true, false, cond, inl, inr, List, ◌∷◌, [], flat_map, Option, Some, None}
use Rattle.soar_sym.specs.Words.{Texts, with_text}
use Rattle.soar_sym.specs.declared.symbol.Sym.{Sym}
use Rattle.soar_rule.specs.Symbols.{constants_of_condition}
use Rattle.soar_rule.specs.declared.production.Kind.TheVariants.{Chunk, Justification}
use Rattle.chunk_learn.specs.Candidates.{candidate_now}
use Rattle.defs_soar.specs.declared.learning.Cause.{Cause}
use Rattle.defs_soar.specs.declared.learning.Cause.TheVariants as cause
use Rattle.defs_soar.specs.Candidate.{Form, all_grounds, conditions_of, form_of, general_form, literal_form, named_form}
use Rattle.defs_soar.specs.CandidateOf.{CandidateOf, candidate_of, unless_grounded, words_after, words_of_candidate}
use Rattle.defs_soar.specs.CarriedTests.{carried_tests}
use Rattle.defs_soar.specs.ChainIdentifiers.{firings_of}
use Rattle.defs_soar.specs.ConditionOrder.{Ordered, ordered_grounds}
use Rattle.defs_soar.specs.History.{ChainOf}
use Rattle.defs_soar.specs.Negations.{has_local_negation, negations_taken_over}
use Rattle.defs_soar.specs.Outcome.{as_cause, first_firing, has_grounds, too_large, uses_quiescence}
use Rattle.defs_soar.specs.Ungrounded.{first_without, led_to, or_else, symbols_of_carried, symbols_of_element, ungrounded, wrong_in_wishes}
use Rattle.learning_laws.specs.Lawful.{Grown}
use Rattle.learning_laws.proofs.Lists.{in_flat_mapped}
use Rattle.learning_laws.proofs.NameLaws.{order_alike}
use Rattle.learning_laws.proofs.TableGrowth.{grown_by_text, grown_twice, not_grown}
use Rattle.wave_learning.specs.Lawful.{AllIn}

pub after_grown : (texts : List (List ℕ)) (words : Texts) → Grown words (words_after words texts)
after_grown [] words = not_grown words
after_grown (text ∷ texts) words = grown_twice words (with_text words text) (words_after (with_text words text) texts) (grown_by_text words text) (after_grown texts (with_text words text))

module _ (words later : Texts) (c : ChainOf) (depth : ℕ) (grown : Grown words later) (known : AllIn words (flat_map symbols_of_element c.grounds)) where
  same_order : ordered_grounds later c.grounds ≡ ordered_grounds words c.grounds
  same_order =
      ap (λ (l : Texts). ordered_grounds l c.grounds) grown.1
      ∙ order_alike words grown.0 c.grounds
      (λ e i. record {
        id = known e.id (in_flat_mapped symbols_of_element e e.id c.grounds i (inl refl));
        attr = known e.attr (in_flat_mapped symbols_of_element e e.attr c.grounds i (inr (inl refl)));
        value = known e.value (in_flat_mapped symbols_of_element e e.value c.grounds i (inr (inr (inl refl))));
      })

  general_same : general_form later c depth ≡ general_form words c depth
  unfolding general_form
  general_same = ap (λ (o : Ordered). form_of true Chunk c (conditions_of c depth o.taken)) same_order

  literal_same : literal_form later c depth ≡ literal_form words c depth
  unfolding literal_form
  literal_same = ap (λ (o : Ordered). form_of false Justification c (conditions_of c depth (all_grounds o))) same_order

  abbrev ungrounded_by : List Sym → Option Sym
  ungrounded_by places =
      or_else (first_without places (flat_map symbols_of_element c.grounds))
      (or_else (first_without places (flat_map symbols_of_carried (carried_tests c depth)))
      (or_else (first_without places (flat_map constants_of_condition (negations_taken_over c depth))) (wrong_in_wishes c places (led_to places c.results) c.results)))

  ungrounded_same : ungrounded later c depth ≡ ungrounded words c depth
  ungrounded_same = ap (λ (o : Ordered). ungrounded_by o.places) same_order

  -- by the forms and the identifier without a variable, over a table
  abbrev cause_by : Form → Option Sym → Option Cause
  cause_by general missing =
      or_else (as_cause cause.LocalNegation (first_firing (has_local_negation c depth) (firings_of c)))
      (or_else (as_cause cause.Quiescence (first_firing uses_quiescence (firings_of c)))
      (or_else (unless_grounded c) (or_else (as_cause cause.Ungrounded missing) (as_cause cause.TooLarge (too_large general)))))

  abbrev candidate_by : Form → Form → Option Sym → Texts → CandidateOf
  candidate_by general literal missing table = record {
    general = cond (has_grounds c) (elim missing [ None ↦ Some (named_form table general) | Some s ↦ None ]) None;
    literal = cond (has_grounds c) (Some (named_form table literal)) None;
    cause = cause_by general missing;
    ungrounded = missing;
  }

  as_it_was : candidate_of words c depth ≡ candidate_by (general_form words c depth) (literal_form words c depth) (ungrounded words c depth) (words_of_candidate words c depth)
  unfolding candidate_of
  as_it_was = refl

  pub candidate_still : later ≡ words_of_candidate words c depth → candidate_of words c depth ≡ candidate_now later c depth
  candidate_still is =
      as_it_was
      ∙ ap (λ (t : Texts). candidate_by (general_form words c depth) (literal_form words c depth) (ungrounded words c depth) t) (sym is)
      ∙ ap (λ (g : Form). candidate_by g (literal_form words c depth) (ungrounded words c depth) later) (sym general_same)
      ∙ ap (λ (l : Form). candidate_by (general_form later c depth) l (ungrounded words c depth) later) (sym literal_same)
      ∙ ap (λ (u : Option Sym). candidate_by (general_form later c depth) (literal_form later c depth) u later) (sym ungrounded_same)
