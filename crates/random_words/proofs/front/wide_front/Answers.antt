use Rattle.std.proofs.Common.{◌≡◌, ◌∙◌, ◌^◌, ◌≤◌, ℕ, true, List, pos, sym, ap, subst, length, arith}
use Rattle.defs_text.specs.Lexing.{integer, run_of, token}
use Rattle.defs_text.specs.Runs.{begins_digit, number_from}
use Rattle.random_words.proofs.FrontLemmas.{digits_first, wide_fits, wide_is, wide_stays}
use Rattle.random_words.proofs.front.wide_front.Goals as goal

pub returns-in-Some-clause-piece : goal.returns-in-Some-clause-piece
returns-in-Some-clause-piece c =
    let text : List ℕ = c.args.text.now in
    let digits : begins_digit (run_of text) ≡ true = ap begins_digit (sym c.front_run-run.ensures.run) ∙ c.in-Some.ensures.0 in
    let value : c.in-Some.value ≡ number_from 0 (run_of text) = c.in-Some.ensures.1 ∙ ap (number_from 0) c.front_run-run.ensures.run in (
      wide_fits c.args.place text c.in-Some.value (wide_is c.args.place c.args.place text c.requires).1 digits value (omega arith)
          ∙ ap (λ (run : List ℕ). token (integer (pos c.in-Some.value)) (length run)) (sym c.front_run-run.ensures.run),
      (digits_first text digits).0,
    )

pub returns-in-None-clause-piece : goal.returns-in-None-clause-piece
returns-in-None-clause-piece c =
    wide_stays c.args.place c.args.text.now (wide_is c.args.place c.args.place c.args.text.now c.requires).1
    (subst (λ (run : List ℕ). begins_digit run ≡ true → 2 ^ 64 ≤ number_from 0 run) c.front_run-run.ensures.run c.in-None.ensures)
