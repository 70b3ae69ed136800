-- Learning: whole runs that were worked out by hand.
use Rattle.std.specs.Prelude.{codes}
use Rattle.soar_edge.specs.declared.status.Status.TheVariants as status
use Rattle.defs_worked.specs.Writes.{Writes, WritesUnlearned}

-- a chunk from a tie, which spares the impasse the next time, and its explanation
abbrev pub LearnFromTie : Type 0
LearnFromTie = Writes (codes "chunk always\nsp {prop (state <s> ^superstate nil ^cand <n>) --> (<s> ^operator <o> +) (<o> ^value <n>)}\nsp {eval (state <s> ^impasse tie ^item <o> ^superstate <ss>) (<o> ^value <v>) --> (<ss> ^operator <o> = <v>)}\nadd-wme S1 ^cand 2\nadd-wme S1 ^cand 3\nrun 2\ninit-soar\nadd-wme S1 ^cand 2\nadd-wme S1 ^cand 3\nrun 1\nprint chunk*1\nexplain chunk*1\n")
    (codes "1:   ==>S: S2 (tie)\n2: O: O1\n1: O: O1\nsp {chunk*1\n    :chunk\n    (state <s1> ^operator <o1> +)\n    (<o1> ^value 2)\n    -->\n    (<s1> ^operator <o1> = 2)\n}\nexplain chunk*1\nground 8: (O1 ^value 2)\nground 10: (S1 ^operator O1 +)\narchitecture 14: (S2 ^impasse tie)\narchitecture 22: (S2 ^superstate S1)\nitem 15: (S2 ^item O1) by 10\nfire 3 eval: 14 15 22 8\n  (S1 ^operator O1 = 2)\nresult (S1 ^operator O1 = 2)\nend\n") status.Done

-- an item whose operator is gone gives no rule, and one beside it gives a chunk
abbrev pub StaleExplanation : Type 0
StaleExplanation = Writes (codes "sp {prop (state <s> ^superstate nil ^cand <n>) --> (<s> ^operator <o> +) (<o> ^name <n>)}\nsp {see (state <s> ^item <o> ^superstate <ss>) (<ss> ^go yes) --> (<ss> ^seen <o>)}\nadd-wme S1 ^cand x\nadd-wme S1 ^cand y\nrun 1\nchunk always\ninput remove S1 ^cand x\ninput add S1 ^go yes\nwatch 3\nrun 1\n")
    (codes "1:   ==>S: S2 (tie)\n-- input\n-- proposal\nretract 1 prop: 4 6\nfire 3 see: 15 22 24\nfire 4 see: 16 22 24\nstale 3 lost 10\nlearn 5 chunk*1 from 4: 24 11\n-- decision\nremove S2\n2: O: O2 (y)\n-- application\n-- output\n") status.Done

-- a local negation in an explanation gives justifications
abbrev pub JustifiedLocalNegation : Type 0
JustifiedLocalNegation = Writes (codes "chunk always\nsp {prop (state <s> ^superstate nil ^cand <n>) --> (<s> ^operator <o> +) (<o> ^value <n>)}\nsp {eval (state <s> ^impasse tie ^item <o> ^superstate <ss>) -(<s> ^stop yes) (<o> ^value <v>) --> (<ss> ^operator <o> = <v>)}\nadd-wme S1 ^cand 2\nadd-wme S1 ^cand 3\nwatch 3\nrun 1\n")
    (codes "-- input\n-- proposal\nfire 1 prop: 4 6\nfire 2 prop: 4 7\n-- decision\n1:   ==>S: S2 (tie)\n-- application\nfire 3 eval: 14 15 22 8\nfire 4 eval: 14 16 22 9\njustify 5 justification*1 from 3: 10 8 (local negation in 3)\njustify 6 justification*2 from 4: 11 9 (local negation in 4)\n-- output\n") status.Done

-- the same without that negation gives chunks
abbrev pub LearnedWithoutNegation : Type 0
LearnedWithoutNegation = Writes (codes "chunk always\nsp {prop (state <s> ^superstate nil ^cand <n>) --> (<s> ^operator <o> +) (<o> ^value <n>)}\nsp {eval (state <s> ^impasse tie ^item <o> ^superstate <ss>) (<o> ^value <v>) --> (<ss> ^operator <o> = <v>)}\nadd-wme S1 ^cand 2\nadd-wme S1 ^cand 3\nwatch 3\nrun 1\n")
    (codes "-- input\n-- proposal\nfire 1 prop: 4 6\nfire 2 prop: 4 7\n-- decision\n1:   ==>S: S2 (tie)\n-- application\nfire 3 eval: 14 15 22 8\nfire 4 eval: 14 16 22 9\nlearn 5 chunk*1 from 3: 10 8\nlearn 6 chunk*2 from 4: 11 9\n-- output\n") status.Done

-- with learning off there are justifications
abbrev pub JustifiedLearningOff : Type 0
JustifiedLearningOff = Writes (codes "sp {prop (state <s> ^superstate nil ^cand <n>) --> (<s> ^operator <o> +) (<o> ^value <n>)}\nsp {eval (state <s> ^impasse tie ^item <o> ^superstate <ss>) (<o> ^value <v>) --> (<ss> ^operator <o> = <v>)}\nadd-wme S1 ^cand 2\nadd-wme S1 ^cand 3\nwatch 3\nrun 1\n")
    (codes "-- input\n-- proposal\nfire 1 prop: 4 6\nfire 2 prop: 4 7\n-- decision\n1:   ==>S: S2 (tie)\n-- application\nfire 3 eval: 14 15 22 8\nfire 4 eval: 14 16 22 9\njustify 5 justification*1 from 3: 10 8 (off)\njustify 6 justification*2 from 4: 11 9 (off)\n-- output\n") status.Done

-- an explanation with an identifier that no condition leads to
abbrev pub UngroundedSubstate : Type 0
UngroundedSubstate = Writes (codes "sp {prop (state <s> ^superstate nil ^cand <n>) --> (<s> ^operator <o> +) (<o> ^name <n>)}\nsp {plain (state <s> ^impasse tie ^non-numeric <o> ^superstate <ss>) (<ss> ^go yes) --> (<ss> ^sub <s>)}\nchunk always\nadd-wme S1 ^cand x\nadd-wme S1 ^cand y\nadd-wme S1 ^go yes\nwatch 3\nrun 1\n")
    (codes "-- input\n-- proposal\nfire 1 prop: 4 6\nfire 2 prop: 4 7\n-- decision\n1:   ==>S: S2 (tie)\n-- application\nfire 3 plain: 15 19 23 8\nfire 4 plain: 15 20 23 8\njustify 5 justification*1 from 3: 8 (ungrounded S2)\njustify 6 justification*2 from 4: 8 (ungrounded S2)\n-- output\n") status.Done

-- the same with learning on
abbrev pub UngroundedBeforeRepair : Type 0
UngroundedBeforeRepair = Writes (codes "sp {prop (state <s> ^superstate nil ^cand <n>) --> (<s> ^operator <o> +) (<o> ^name <n>)}\nsp {plain (state <s> ^impasse tie ^non-numeric <o> ^superstate <ss>) (<ss> ^go yes) --> (<ss> ^plain <o>)}\nchunk always\nadd-wme S1 ^cand x\nadd-wme S1 ^cand y\nadd-wme S1 ^go yes\nwatch 3\nrun 1\n")
    (codes "-- input\n-- proposal\nfire 1 prop: 4 6\nfire 2 prop: 4 7\n-- decision\n1:   ==>S: S2 (tie)\n-- application\nfire 3 plain: 15 19 23 8\nfire 4 plain: 15 20 23 8\njustify 5 justification*1 from 3: 8 (ungrounded O1)\njustify 6 justification*2 from 4: 8 (ungrounded O2)\n-- output\n") status.Done

-- two firings made one element, and the explanation is that of the first
abbrev pub LeastMaker : Type 0
LeastMaker = Writes (codes "chunk always\nsp {one (state <s> ^superstate <ss>) (<ss> ^go yes) --> (<s> ^seen yes)}\nsp {two (state <s> ^superstate <ss>) (<ss> ^come yes) --> (<s> ^seen yes)}\nsp {back (state <s> ^seen yes ^superstate <ss>) --> (<ss> ^done yes)}\nadd-wme S1 ^go yes\nadd-wme S1 ^come yes\nrun 1\nprint chunk*1\n")
    (codes "1:   ==>S: S2 (state no-change)\nsp {chunk*1\n    :chunk\n    (state <s1> ^go yes)\n    -->\n    (<s1> ^done yes +)\n}\n") status.Done

-- a negation of an explanation is blocked by the time of the result
abbrev pub BlockedExplanation : Type 0
BlockedExplanation = Writes (codes "watch 3\nchunk always\nsp {look :o-support (state <s> ^superstate <ss>) (<ss> ^go yes) -(<ss> ^stop yes) --> (<s> ^seen yes)}\nsp {back (state <s> ^seen yes ^superstate <ss>) (<ss> ^now yes) --> (<ss> ^done yes)}\nadd-wme S1 ^go yes\nrun 1\nadd-wme S1 ^stop yes\nadd-wme S1 ^now yes\nrun 1\n")
    (codes "-- input\n-- proposal\n-- decision\n1:   ==>S: S2 (state no-change)\n-- application\nfire 1 look: 11 6\n-- output\n-- input\n-- proposal\nretract 1 look: 11 6\nfire 2 back: 13 11 15\nstale 2 blocked 1 by 14\n-- decision\n2:     ==>S: S3 (state no-change)\n-- application\n-- output\n") status.Done

-- a goal is not followed where results lead on, also where the rule binds no variable to it
abbrev pub GoalAmongResults : Type 0
GoalAmongResults = Writes (codes "sp {mk (state <s> ^superstate <ss>) (<ss> ^superstate nil) --> (<s> ^k <k>) (<k> ^back <s>)}\nsp {res (state <> x ^superstate <ss> ^k <k>) --> (<ss> ^res <k>)}\nrun 1\npreferences S2 k\n")
    (codes "1:   ==>S: S2 (state no-change)\n(S2 ^k K1 +) i fire 1\n") status.Done

-- what a substate's rule makes for the state above has instance support where nothing is learned, and what it makes for its own state keeps operator support
abbrev pub ResultWithoutLearning : Type 0
ResultWithoutLearning = WritesUnlearned (codes "sp {plan (state <s> ^superstate <ss>) (<ss> ^go yes) --> (<s> ^operator <o> +) (<o> ^name note)}\nsp {note (state <s> ^operator <o> ^superstate <ss>) (<o> ^name note) --> (<ss> ^done yes) (<s> ^done yes)}\nadd-wme S1 ^go yes\nrun 2\npreferences S1 done\npreferences S2 done\n")
    (codes "1:   ==>S: S2 (state no-change)\n2:   O: O1 (note)\n(S1 ^done yes +) i fire 2\n(S2 ^done yes +) o fire 2\n") status.Done

-- the same with learning, which hands the first to the firing of what is learned
abbrev pub ResultWithLearning : Type 0
ResultWithLearning = Writes (codes "sp {plan (state <s> ^superstate <ss>) (<ss> ^go yes) --> (<s> ^operator <o> +) (<o> ^name note)}\nsp {note (state <s> ^operator <o> ^superstate <ss>) (<o> ^name note) --> (<ss> ^done yes) (<s> ^done yes)}\nadd-wme S1 ^go yes\nrun 2\npreferences S1 done\npreferences S2 done\n")
    (codes "1:   ==>S: S2 (state no-change)\n2:   O: O1 (note)\n(S1 ^done yes +) i fire 3\n(S2 ^done yes +) o fire 2\n") status.Done
