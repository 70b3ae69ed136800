-- Each chunk that is learned from a lawful explanation goes again.
use Rattle.std.proofs.Common.{refl, sym, ap, subst, suc, inl, [], ◌∷◌, length}
use Rattle.defs_soar.specs.LearnedRules.{as_learning, by_outcome, chunk_front, free_number, learned_name}
use Rattle.defs_soar.specs.WaveAtHand.{Wave}
use Rattle.defs_text.specs.Numbered.{word_in}
use Rattle.soar_sym.specs.Words.{with_text}
use Rattle.soar_sym.specs.declared.symbol.Sym.{Sym}
use Rattle.learning_laws.specs.LearningSteps.{ChunksAreLearned, LearnsChunk, named_wave}
use Rattle.learning_laws.proofs.CheckLaws.{chunks_are_checked}
use Rattle.learning_laws.proofs.ConflictLaws.{chunks_match}
use Rattle.learning_laws.proofs.Lists.{in_right}
use Rattle.learning_laws.proofs.ReplayLaws.{chains_replay}
use Rattle.learning_laws.proofs.ResultLaws.{chunks_make_results}

pub chunks_are_learned : ChunksAreLearned
chunks_are_learned m l w learning_event off h =
    let read : Wave = named_wave l w in
    let words = read.names.words in
    let text = learned_name chunk_front (free_number (length read.program.rules) read.names.words read.program.rules chunk_front (suc read.program.chunks)) in
    let name : Sym = word_in (with_text words text) text in
    let settings = as_learning m.settings read.learned in
    subst (LearnsChunk m l w) (sym (ap (by_outcome m l read) h))
    (record {
      name = name;
      number = suc read.program.last_rule;
      rule = in_right _ read.program.rules (_ ∷ []) (inl refl);
      chain = in_right _ read.program.chains (_ ∷ []) (inl refl);
      checked = chunks_are_checked words read.names.letters m.reach.goals l.chain l.explained.depth (suc read.program.last_rule) name read.program.rules m.elements settings learning_event.lawful learning_event.moment learning_event.negations learning_event.flags h;
      matches = chunks_match words l.chain l.explained.depth (suc read.program.last_rule) name read.program.rules m.elements settings learning_event.lawful h;
      results = chunks_make_results words read.names.letters m.reach.goals l.chain l.explained.depth (suc read.program.last_rule) name read.program.rules m.elements settings learning_event.lawful learning_event.moment h;
      replays = chains_replay words l.chain l.explained.depth read.program.rules m.elements settings learning_event.lawful off h;
    })
