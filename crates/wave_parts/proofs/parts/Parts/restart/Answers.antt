use Rattle.std.proofs.Common.{◌≡◌, ◌∙◌, ℕ, List, map, sym, ap, subst}
use Rattle.defs_match.specs.Rules.{rule_seen}
use Rattle.defs_soar.specs.Agents.{Agent as AgentOf}
use Rattle.defs_soar.specs.Start.{restarted, without_justifications}
use Rattle.wave_parts.specs.Seen.{IsSound}
use Rattle.wave_parts.specs.Settings.{settings_seen}
use Rattle.wave_parts.specs.Stands.{Stands}
use Rattle.wave_parts.specs.Teaching.{numbers_among, without_numbers}
use Rattle.wave_parts.specs.declared.parts.Parts.{Parts as PartsKept}
use Rattle.wave_parts.proofs.OpeningLemmas.{anew_is_sound, anew_stands}
use Rattle.wave_parts.proofs.StandsLemmas.{program_is}
use Rattle.wave_parts.proofs.parts.Parts.restart.Goals as goal

pub drop_justifications-requires-clause-numbers : goal.drop_justifications-requires-clause-numbers
drop_justifications-requires-clause-numbers c = c.as_slice.ensures ∙ c.in_ok-spent.ensures

pub returns-clause-restarted : goal.returns-clause-restarted
returns-clause-restarted c = λ s h.
    let program = c.drop_justifications.ensures.program ∙ ap without_justifications (program_is c.args.self.now s h) in
    let same = c.drop_justifications.ensures.same in
    subst (λ (a : PartsKept). Stands a (restarted s)) (sym c.begin_anew.ensures)
    (anew_stands c.in_ok-first.first c.drop_justifications.new.self s c.args.self.now.settings.watch c.in_ok-first.ensures.stands
    (ap (λ (a : PartsKept). a.table) same ∙ h.words) program (ap (λ (a : PartsKept). settings_seen a.settings) same ∙ h.settings))

pub returns-clause-kept : goal.returns-clause-kept
returns-clause-kept c =
    let same = c.drop_justifications.ensures.same in
    (ap (λ (a : PartsKept). a.table) c.begin_anew.ensures ∙ ap (λ (a : PartsKept). a.table) same, ap (λ (a : PartsKept). a.settings) c.begin_anew.ensures ∙ ap (λ (a : PartsKept). a.settings) same)

pub returns-clause-spent : goal.returns-clause-spent
returns-clause-spent c =
    let rules = map rule_seen c.args.self.now.rules in
    let given = c.as_slice.ensures in (
      subst (λ (ns : List ℕ). ns ≡ numbers_among ns rules) given c.drop_justifications.ensures.numbers,
      ap (λ (a : PartsKept). map rule_seen a.rules) c.begin_anew.ensures ∙ c.drop_justifications.ensures.rules ∙ ap (λ (ns : List ℕ). without_numbers ns rules) given,
    )

pub returns-clause-sound : goal.returns-clause-sound
returns-clause-sound c =
    subst IsSound (sym c.begin_anew.ensures) (anew_is_sound c.in_ok-first.first c.drop_justifications.new.self c.in_ok-first.ensures.sound c.in_ok-first.ensures.bare c.drop_justifications.ensures.sound)

pub returns-clause-live : goal.returns-clause-live
returns-clause-live c = ap (λ (a : PartsKept). a.live.told) c.begin_anew.ensures ∙ ap (λ (a : PartsKept). a.live.told) c.drop_justifications.ensures.same
