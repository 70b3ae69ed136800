-- The words of the command line, computed: clap, the reading of what is given, and the definition.
use Rattle.std.proofs.Common.{◌≡◌, refl, true, [], ◌∷◌, codes, option_map, List, Option, option_and_then}
use Rattle.clap.specs.Walk.{Text}
use Rattle.clap.specs.Faults.{is_simple_and_free}
use Rattle.clap.proofs.OnLiterals.{clap_on_literals}
use Rattle.command_words.specs.Command.{rows_found, words_command}
use Rattle.defs_run.specs.CommandLine.{Options, options_from, no_options}
use Rattle.command_words.specs.Given.{Given, between, given_from, given_in, nothing_given, numbers_read}

simple : is_simple_and_free words_command ≡ true
simple = refl

by_clap : List Text → Option Given
unfolding clap_on_literals
by_clap words = option_map given_in (rows_found words)

same : List Text → List (Option Options)
unfolding clap_on_literals by_clap
same words = option_and_then numbers_read (by_clap words) ∷ (option_and_then numbers_read (given_from (between nothing_given) words) ∷ (options_from no_options words ∷ []))

by_options : List Text → List (Option Options)
by_options words = let o = options_from no_options words in o ∷ (o ∷ (o ∷ []))

abbrev Agree : List Text → Type 0
Agree words = same words ≡ by_options words

row1 : Agree (codes "--watch" ∷ codes "2" ∷ [])
unfolding clap_on_literals by_clap same by_options
row1 = refl

row2 : Agree (codes "--watch=2" ∷ [])
unfolding clap_on_literals by_clap same by_options
row2 = refl

row3 : Agree (codes "--" ∷ codes "-x" ∷ [])
unfolding clap_on_literals by_clap same by_options
row3 = refl

row4 : Agree (codes "-" ∷ [])
unfolding clap_on_literals by_clap same by_options
row4 = refl

row5 : Agree (codes "-x" ∷ [])
unfolding clap_on_literals by_clap same by_options
row5 = refl

row6 : Agree (codes "--watch" ∷ [])
unfolding clap_on_literals by_clap same by_options
row6 = refl

row7 : Agree (codes "--watch" ∷ codes "--" ∷ [])
unfolding clap_on_literals by_clap same by_options
row7 = refl

row8 : Agree (codes "--watch" ∷ codes "--" ∷ codes "2" ∷ [])
unfolding clap_on_literals by_clap same by_options
row8 = refl

row9 : Agree (codes "--watch" ∷ codes "2" ∷ codes "--watch" ∷ codes "3" ∷ [])
unfolding clap_on_literals by_clap same by_options
row9 = refl

row10 : Agree (codes "--watch=2" ∷ codes "--watch=3" ∷ codes "a" ∷ [])
unfolding clap_on_literals by_clap same by_options
row10 = refl

row11 : Agree (codes "--watch" ∷ codes "2" ∷ codes "--watch" ∷ codes "3" ∷ codes "--" ∷ codes "b" ∷ [])
unfolding clap_on_literals by_clap same by_options
row11 = refl

row12 : Agree (codes "" ∷ [])
unfolding clap_on_literals by_clap same by_options
row12 = refl

row13 : Agree (codes "--generate=3" ∷ codes "a" ∷ [])
unfolding clap_on_literals by_clap same by_options
row13 = refl

row14 : Agree (codes "--generate" ∷ codes "3" ∷ codes "a" ∷ codes "--watch" ∷ codes "5" ∷ codes "b" ∷ [])
unfolding clap_on_literals by_clap same by_options
row14 = refl

row15 : Agree (codes "--watch" ∷ codes "--generate" ∷ codes "3" ∷ [])
unfolding clap_on_literals by_clap same by_options
row15 = refl

row16 : Agree (codes "--watch=" ∷ [])
unfolding clap_on_literals by_clap same by_options
row16 = refl

row17 : Agree (codes "--=3" ∷ [])
unfolding clap_on_literals by_clap same by_options
row17 = refl

row18 : Agree (codes "--watch=2=3" ∷ [])
unfolding clap_on_literals by_clap same by_options
row18 = refl

row19 : Agree (codes "--watch" ∷ codes "" ∷ [])
unfolding clap_on_literals by_clap same by_options
row19 = refl

row20 : Agree (codes "--watch" ∷ codes "-" ∷ [])
unfolding clap_on_literals by_clap same by_options
row20 = refl

row21 : Agree (codes "--watch" ∷ codes "-1" ∷ [])
unfolding clap_on_literals by_clap same by_options
row21 = refl

row22 : Agree (codes "--watch" ∷ codes "2" ∷ codes "--" ∷ codes "--" ∷ codes "--watch" ∷ [])
unfolding clap_on_literals by_clap same by_options
row22 = refl

row23 : Agree (codes "--watch" ∷ codes "6" ∷ codes "a" ∷ [])
unfolding clap_on_literals by_clap same by_options
row23 = refl

row24 : Agree (codes "a" ∷ codes "" ∷ codes "--generate=200000" ∷ codes "-" ∷ codes "b" ∷ codes "--" ∷ codes "-" ∷ [])
unfolding clap_on_literals by_clap same by_options
row24 = refl

row25 : Agree (codes "--wat" ∷ codes "2" ∷ [])
unfolding clap_on_literals by_clap same by_options
row25 = refl

row26 : Agree (codes "--watchx=2" ∷ [])
unfolding clap_on_literals by_clap same by_options
row26 = refl

row27 : Agree (codes "a" ∷ codes "-b" ∷ [])
unfolding clap_on_literals by_clap same by_options
row27 = refl

row28 : Agree (codes "--help" ∷ [])
unfolding clap_on_literals by_clap same by_options
row28 = refl

row29 : Agree (codes "--watch" ∷ codes "2" ∷ codes "--generate" ∷ codes "x" ∷ [])
unfolding clap_on_literals by_clap same by_options
row29 = refl
