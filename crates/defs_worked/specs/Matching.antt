-- Matching and printing: whole runs that were worked out by hand.
use Rattle.std.specs.Prelude.{codes}
use Rattle.soar_edge.specs.declared.status.Status.TheVariants as status
use Rattle.defs_worked.specs.Writes.{Writes}

-- one element matches two conditions of a rule, and gives one instance
abbrev pub OneElementTwoConditions : Type 0
OneElementTwoConditions = Writes (codes "sp {two (state <s> ^a <x>) (<s> ^a <y>) --> (<s> ^b <x>)}\nmatches\nadd-wme S1 ^a 1\nmatches\n")
    (codes "no matches\ntwo: 6 6\n") status.Done

-- two relations in one field: the same kind, and another symbol
abbrev pub SameKindAndDifferent : Type 0
SameKindAndDifferent = Writes (codes "sp {k (state <s> ^a <x> ^b { <y> <=> <x> <> <x> }) --> (<s> ^c 1)}\nadd-wme S1 ^a 1\nadd-wme S1 ^b 1\nadd-wme S1 ^b 2\nadd-wme S1 ^b w\nmatches\n")
    (codes "k: 6 8\n") status.Done

-- a negation in a negation in a negation, as its inner blocker comes and goes
abbrev pub NestedNegation : Type 0
NestedNegation = Writes (codes "sp {nest (state <s> ^superstate nil) -{(<s> ^a <x>) -{(<x> ^b <y>) -(<y> ^c 1)}} --> (<s> ^ok yes)}\nmatches\nadd-wme S1 ^a <x>\nmatches\nadd-wme <x> ^b <y>\nmatches\nadd-wme <y> ^c 1\nmatches\nremove-wme 8\nmatches\n")
    (codes "nest: 4\nno matches\nnest: 4\nno matches\nnest: 4\n") status.Done

-- one blocker leaves while another comes, and nothing fires
abbrev pub BlockerReplaced : Type 0
BlockerReplaced = Writes (codes "sp {clear (state <s> ^superstate nil) -(<s> ^blocked <x>) --> (<s> ^clear yes)}\nadd-wme S1 ^blocked 1\ninput remove S1 ^blocked 1\ninput add S1 ^blocked 2\nwatch 4\nrun 1\n")
    (codes "-- input\n- 6: (S1 ^blocked 1)\n+ 7: (S1 ^blocked 2)\n-- proposal\n-- decision\n1:   ==>S: S2 (state no-change)\n+ 8: (S2 ^attribute state)\n+ 9: (S2 ^choices none)\n+ 10: (S2 ^impasse no-change)\n+ 11: (S2 ^quiescence t)\n+ 12: (S2 ^superstate S1)\n+ 13: (S2 ^type state)\n-- application\n-- output\n") status.Done

-- a production with a path, a negation, a disjunction and a call, and its canonical text
abbrev pub ReadAndPrint : Type 0
ReadAndPrint = Writes (codes "sp {demo \"doc\" (state <s> ^io.input-link <il> -^done) (<il> ^temp {<t> > 30} ^mode << on auto >>) --> (<s> ^alarm <t> <a>) (<a> ^level (+ <t> 1))}\nprint demo\n")
    (codes "sp {demo\n    \"doc\"\n    (state <s> ^io <$1>)\n    (<$1> ^input-link <il>)\n    -(state <s> ^done <$2>)\n    (<il> ^temp { <t> > 30 })\n    (<il> ^mode << on auto >>)\n    -->\n    (<s> ^alarm <t> +)\n    (<s> ^alarm <a> +)\n    (<a> ^level (+ <t> 1) +)\n}\n") status.Done
