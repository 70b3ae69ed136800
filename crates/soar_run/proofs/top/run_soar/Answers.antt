use Rattle.std.proofs.Common.{map, string_bytes, refl}
use Rattle.defs_run.specs.CommandLine.{options_of}
use Rattle.defs_run.specs.Whole.{whole_transcript}
use Rattle.command_runs.specs.Whole.{IsAsked}
use Rattle.command_words.specs.Seen.{options_seen}
use Rattle.soar_run.specs.Spoken.{StandsFor}
use Rattle.soar_run.proofs.TopLemmas.{answers_by, asked_so, complete_by, fetch_by, headline_by, long_by, options_told, prefix_by, read_by, session_told}
use Rattle.soar_run.proofs.top.run_soar.Goals as goal

pub returns-in-Ok-Some-clause-headline : goal.returns-in-Ok-Some-clause-headline
unfolding whole_transcript
returns-in-Ok-Some-clause-headline g c =
    headline_by (g.I.Source.left c.args.input.now) (g.F.Shelf.files c.args.files.now) (λ p. IsAsked (StandsFor c.in-Ok-Some.start.speaker.session) p c.in-Ok-Some.start.options.generate c.as_slice.result.now) (options_seen c.in-Ok-Some.start.options) (options_of (map string_bytes c.args.words.now.items)) (g.O.Sink.written c.args.out.now) (g.O.Sink.written c.run_whole.new.out) c.run_whole.result (record { source = g.I.Source.faults c.args.input.now; shelf = g.F.Shelf.faults c.args.files.now; sink = g.O.Sink.faults c.args.out.now }) (record { source = g.I.Source.faults c.run_whole.new.input; shelf = g.F.Shelf.faults c.run_whole.new.files; sink = g.O.Sink.faults c.run_whole.new.out })
    (options_told c.in-Ok-Some.field-0 c.in-Ok-Some.start _ c.in-Ok-Some.field-0-is c.in-Ok-Some.ensures.options) (asked_so (StandsFor c.in-Ok-Some.start.speaker.session) (options_seen c.in-Ok-Some.start.options) c.in-Ok-Some.start.options.generate c.as_slice.result.now refl c.as_slice.ensures (session_told c.in-Ok-Some.field-0 c.in-Ok-Some.start c.in-Ok-Some.field-0-is c.in-Ok-Some.ensures.stands)) c.run_whole.ensures.headline

pub returns-in-Ok-Some-clause-answers : goal.returns-in-Ok-Some-clause-answers
unfolding whole_transcript
returns-in-Ok-Some-clause-answers g c =
    answers_by (g.I.Source.left c.args.input.now) (g.I.Source.left c.run_whole.new.input) (g.F.Shelf.files c.args.files.now) (λ p. IsAsked (StandsFor c.in-Ok-Some.start.speaker.session) p c.in-Ok-Some.start.options.generate c.as_slice.result.now) (options_seen c.in-Ok-Some.start.options) (options_of (map string_bytes c.args.words.now.items)) (g.O.Sink.written c.args.out.now) (g.O.Sink.written c.run_whole.new.out) c.run_whole.result (record { source = g.I.Source.faults c.args.input.now; shelf = g.F.Shelf.faults c.args.files.now; sink = g.O.Sink.faults c.args.out.now }) (record { source = g.I.Source.faults c.run_whole.new.input; shelf = g.F.Shelf.faults c.run_whole.new.files; sink = g.O.Sink.faults c.run_whole.new.out })
    (options_told c.in-Ok-Some.field-0 c.in-Ok-Some.start _ c.in-Ok-Some.field-0-is c.in-Ok-Some.ensures.options) (asked_so (StandsFor c.in-Ok-Some.start.speaker.session) (options_seen c.in-Ok-Some.start.options) c.in-Ok-Some.start.options.generate c.as_slice.result.now refl c.as_slice.ensures (session_told c.in-Ok-Some.field-0 c.in-Ok-Some.start c.in-Ok-Some.field-0-is c.in-Ok-Some.ensures.stands)) c.run_whole.ensures.answers

pub returns-in-Ok-Some-clause-prefix : goal.returns-in-Ok-Some-clause-prefix
unfolding whole_transcript
returns-in-Ok-Some-clause-prefix g c =
    prefix_by (g.I.Source.left c.args.input.now) (g.F.Shelf.files c.args.files.now) (λ p. IsAsked (StandsFor c.in-Ok-Some.start.speaker.session) p c.in-Ok-Some.start.options.generate c.as_slice.result.now) (options_seen c.in-Ok-Some.start.options) (options_of (map string_bytes c.args.words.now.items)) (g.O.Sink.written c.args.out.now) (g.O.Sink.written c.run_whole.new.out)
    (options_told c.in-Ok-Some.field-0 c.in-Ok-Some.start _ c.in-Ok-Some.field-0-is c.in-Ok-Some.ensures.options) (asked_so (StandsFor c.in-Ok-Some.start.speaker.session) (options_seen c.in-Ok-Some.start.options) c.in-Ok-Some.start.options.generate c.as_slice.result.now refl c.as_slice.ensures (session_told c.in-Ok-Some.field-0 c.in-Ok-Some.start c.in-Ok-Some.field-0-is c.in-Ok-Some.ensures.stands)) c.run_whole.ensures.prefix

pub returns-in-Ok-Some-clause-before_fetch : goal.returns-in-Ok-Some-clause-before_fetch
returns-in-Ok-Some-clause-before_fetch g c =
    fetch_by (g.I.Source.left c.args.input.now) (g.F.Shelf.files c.args.files.now) (λ p. IsAsked (StandsFor c.in-Ok-Some.start.speaker.session) p c.in-Ok-Some.start.options.generate c.as_slice.result.now) (options_seen c.in-Ok-Some.start.options) (options_of (map string_bytes c.args.words.now.items)) (g.O.Sink.written c.args.out.now) (g.O.Sink.written c.run_whole.new.out) c.run_whole.result (g.F.Shelf.fetched c.args.files.now) (g.F.Shelf.fetched c.run_whole.new.files)
    (options_told c.in-Ok-Some.field-0 c.in-Ok-Some.start _ c.in-Ok-Some.field-0-is c.in-Ok-Some.ensures.options) (asked_so (StandsFor c.in-Ok-Some.start.speaker.session) (options_seen c.in-Ok-Some.start.options) c.in-Ok-Some.start.options.generate c.as_slice.result.now refl c.as_slice.ensures (session_told c.in-Ok-Some.field-0 c.in-Ok-Some.start c.in-Ok-Some.field-0-is c.in-Ok-Some.ensures.stands)) c.run_whole.ensures.before_fetch

pub returns-in-Ok-Some-clause-before_read : goal.returns-in-Ok-Some-clause-before_read
returns-in-Ok-Some-clause-before_read g c =
    read_by (g.I.Source.left c.args.input.now) (g.I.Source.left c.run_whole.new.input) (g.F.Shelf.files c.args.files.now) (λ p. IsAsked (StandsFor c.in-Ok-Some.start.speaker.session) p c.in-Ok-Some.start.options.generate c.as_slice.result.now) (options_seen c.in-Ok-Some.start.options) (options_of (map string_bytes c.args.words.now.items)) (g.O.Sink.written c.args.out.now) (g.O.Sink.written c.run_whole.new.out) c.run_whole.result
    (options_told c.in-Ok-Some.field-0 c.in-Ok-Some.start _ c.in-Ok-Some.field-0-is c.in-Ok-Some.ensures.options) (asked_so (StandsFor c.in-Ok-Some.start.speaker.session) (options_seen c.in-Ok-Some.start.options) c.in-Ok-Some.start.options.generate c.as_slice.result.now refl c.as_slice.ensures (session_told c.in-Ok-Some.field-0 c.in-Ok-Some.start c.in-Ok-Some.field-0-is c.in-Ok-Some.ensures.stands)) c.run_whole.ensures.before_read

pub returns-in-Ok-Some-clause-complete : goal.returns-in-Ok-Some-clause-complete
unfolding whole_transcript
returns-in-Ok-Some-clause-complete g c =
    complete_by (g.I.Source.left c.args.input.now) (g.F.Shelf.files c.args.files.now) (λ p. IsAsked (StandsFor c.in-Ok-Some.start.speaker.session) p c.in-Ok-Some.start.options.generate c.as_slice.result.now) (options_seen c.in-Ok-Some.start.options) (options_of (map string_bytes c.args.words.now.items)) c.run_whole.result (record { source = g.I.Source.faults c.args.input.now; shelf = g.F.Shelf.faults c.args.files.now; sink = g.O.Sink.faults c.args.out.now }) (record { source = g.I.Source.faults c.run_whole.new.input; shelf = g.F.Shelf.faults c.run_whole.new.files; sink = g.O.Sink.faults c.run_whole.new.out })
    (options_told c.in-Ok-Some.field-0 c.in-Ok-Some.start _ c.in-Ok-Some.field-0-is c.in-Ok-Some.ensures.options) (asked_so (StandsFor c.in-Ok-Some.start.speaker.session) (options_seen c.in-Ok-Some.start.options) c.in-Ok-Some.start.options.generate c.as_slice.result.now refl c.as_slice.ensures (session_told c.in-Ok-Some.field-0 c.in-Ok-Some.start c.in-Ok-Some.field-0-is c.in-Ok-Some.ensures.stands)) c.run_whole.ensures.complete

pub returns-in-Ok-Some-clause-too_long : goal.returns-in-Ok-Some-clause-too_long
returns-in-Ok-Some-clause-too_long g c =
    long_by (g.I.Source.left c.args.input.now) (g.F.Shelf.files c.args.files.now) (λ p. IsAsked (StandsFor c.in-Ok-Some.start.speaker.session) p c.in-Ok-Some.start.options.generate c.as_slice.result.now) (options_seen c.in-Ok-Some.start.options) (options_of (map string_bytes c.args.words.now.items)) c.run_whole.result
    (options_told c.in-Ok-Some.field-0 c.in-Ok-Some.start _ c.in-Ok-Some.field-0-is c.in-Ok-Some.ensures.options) (asked_so (StandsFor c.in-Ok-Some.start.speaker.session) (options_seen c.in-Ok-Some.start.options) c.in-Ok-Some.start.options.generate c.as_slice.result.now refl c.as_slice.ensures (session_told c.in-Ok-Some.field-0 c.in-Ok-Some.start c.in-Ok-Some.field-0-is c.in-Ok-Some.ensures.stands)) c.run_whole.ensures.too_long
