-- What a session does between cycles keeps an agent lawful.
use Rattle.std.proofs.Common.{refl, subst, ℕ, ◌+◌, ◌-◌, ◌≤◌, ◌∙◌, arith}
use Rattle.std.proofs.lemmas.List.{append-nil, length-set}
use Rattle.soar_sym.specs.Letters.{last_of, with_last}
use Rattle.defs_soar.specs.Agents.{Agent, Names}
use Rattle.defs_soar.specs.WaveFirings.{first_wave}
use Rattle.learning_laws.specs.LawfulAgents.{firings_of_agent, IsFounded, IsLawfulAgent}
use Rattle.learning_laws.proofs.CheckedReady.{checked_negations_ready}
use Rattle.learning_laws.proofs.FireLaws.{HasMore}
use Rattle.learning_laws.proofs.LearnedRuleLaws.{more_names}
use Rattle.learning_laws.proofs.NewIdentifiers.{last_grows}
use Rattle.learning_laws.proofs.TableGrowth.{not_grown}
use Rattle.learning_laws.proofs.WorkLaws.{waves_begin}
use Rattle.session_laws.specs.Steps.{CheckedMayBeLoaded, HaltsKeep, IdentifiersKeep, SettingsKeep, WordsKeep}

itself : (n : ℕ) → n ≤ n
itself n = omega arith

-- more names: those of a wave that has just begun, without firings
pub names_more : (a : Agent) (names : Names) → HasMore a.names names → IsLawfulAgent a → IsLawfulAgent (record a { names = names })
names_more a names more h = record {
  founded = subst (IsFounded names a.holding a.queues.input a.program.rules a.counts.firings) (append-nil (firings_of_agent a)) (more_names a (first_wave a) names more (waves_begin a h)).founded;
  held_up = record { held = h.held_up.held; marks = h.held_up.marks; flags = h.held_up.flags; candidates = h.held_up.candidates };
}

pub words_keep : WordsKeep
words_keep a words h grown once =
    names_more a (record a.names { words = words }) (record {
      words = grown;
      letters = λ l. itself (last_of a.names.letters l);
      last_tag = refl;
      long = h.founded.symbols.letters;
      once = once;
    }) h

pub identifiers_keep : IdentifiersKeep
identifiers_keep a letter h low high =
    let number = last_of a.names.letters letter + 1 in
    names_more a (record a.names { letters = with_last a.names.letters letter number }) (record {
      words = not_grown a.names.words;
      letters = λ l. last_grows a.names.letters letter l number h.founded.symbols.letters high (omega arith);
      last_tag = refl;
      long = length-set a.names.letters (letter - 65) number ∙ h.founded.symbols.letters;
      once = h.founded.symbols.once;
    }) h

pub settings_keep : SettingsKeep
settings_keep a settings h = record {
  founded = h.founded;
  held_up = record {
    held = λ e i m. h.held_up.held e i (record { below = m.below; others = m.others; unselected = m.unselected });
    marks = λ e i m. h.held_up.marks e i (record { below = m.below; others = m.others; unselected = m.unselected });
    flags = h.held_up.flags;
    candidates = h.held_up.candidates;
  };
}

pub halts_keep : HaltsKeep
halts_keep a halted h = record {
  founded = h.founded;
  held_up = record { held = h.held_up.held; marks = h.held_up.marks; flags = h.held_up.flags; candidates = h.held_up.candidates };
}

pub checked_may_be_loaded : CheckedMayBeLoaded
checked_may_be_loaded a p number checked literal = record { stand = checked_negations_ready p checked; literal = λ unlearned. literal }
