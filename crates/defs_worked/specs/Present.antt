-- The program at its present stage: whole runs that were worked out by hand.
use Rattle.std.specs.Prelude.{◌≡◌, ℕ, List, [], ◌∷◌, codes}
use Rattle.soar_edge.specs.declared.status.Status.{Status}
use Rattle.soar_edge.specs.declared.status.Status.TheVariants as status
use Rattle.defs_run.specs.Present.{present_transcript}

-- without words and files
abbrev pub WritesNow : List ℕ → List ℕ → Status → Type 0
WritesNow input text answer = present_transcript [] [] input ≡ record { text = text; status = answer }

-- what a rule makes stays as long as its instance does
abbrev pub MadeAndGone : Type 0
MadeAndGone =
    WritesNow (codes "sp {p (state <s> ^a <x>) --> (<s> ^b <x>)}\nadd-wme S1 ^a 1\nrun 1\nprint S1\nremove-wme 6\nrun 1\nprint S1\n")
    (codes "1:   ==>S: S2 (state no-change)\n3: (S1 ^io I1)\n4: (S1 ^superstate nil)\n5: (S1 ^type state)\n6: (S1 ^a 1)\n7: (S1 ^b 1)\n2:     ==>S: S3 (state no-change)\n3: (S1 ^io I1)\n4: (S1 ^superstate nil)\n5: (S1 ^type state)\n")
    status.Done

-- words of no form, a production that was taken away, and elements that are not there or no inputs
abbrev pub WrongWordsNow : Type 0
WrongWordsNow =
    WritesNow (codes "add-wme S1 ^<a> x\nsp {n (state <s> ^a 1) --> (halt)}\nexcise n\nprint n\nprint Q9\nremove-wme 5\nremove-wme 99\nrun 0\nadd-wme S1 ^a 1\nadd-wme S1 ^a 1\n")
    (codes "error 30 -:1: wrong words\nerror 32 -:4: no production n\nerror 31 -:5: unknown identifier Q9\nerror 34 -:6: not an input element 5\nerror 33 -:7: no element 99\nerror 30 -:8: wrong words\nerror 35 -:10: already there as 6\n") status.Refusals

-- what belongs to learning is unknown, in its own form alone
abbrev pub LearningNow : Type 0
LearningNow =
    WritesNow (codes "chunk always\nchunk never\nexplain p\nprint --chunks\nprint --chunks now\nexplain S1\nchunk allow-local-negations on\n")
    (codes "error 10 -:1: unknown command\nerror 10 -:2: unknown command\nerror 10 -:3: unknown command\nerror 10 -:4: unknown command\nerror 30 -:5: wrong words\nerror 30 -:6: wrong words\n") status.Refusals

-- ---- reading and matching

abbrev pub EmptyInput : Type 0
EmptyInput = WritesNow [] [] status.Done

abbrev pub OneElementTwice : Type 0
OneElementTwice =
    WritesNow (codes "sp {two (state <s> ^a <x>) (<s> ^a <y>) --> (<s> ^b <x>)}\nmatches\nadd-wme S1 ^a 1\nmatches\n") (codes "no matches\ntwo: 6 6\n") status.Done

-- a production in the place of another of its name goes last, and names are printed as symbols are
abbrev pub ReplacedAndBarred : Type 0
ReplacedAndBarred =
    WritesNow (codes "sp {S1 (state <s> ^type state) --> }\nsp {|a b| (state <s> ^type state) --> }\nmatches\nsp {S1 (state <s> ^superstate nil) --> }\nmatches")
    (codes "|S1|: 5\n|a b|: 5\n|a b|: 5\n|S1|: 4\n") status.Done

-- a join over three elements, in order of the first tag, then the second
abbrev pub Joined : Type 0
Joined =
    WritesNow (codes " \nsp {j (state <s> ^a <x>) (<s> ^b <x>) --> (<s> ^c <y>) (<y> ^d 1)}\nadd-wme S1 ^b 2\nadd-wme S1 ^a 2\nadd-wme S1 ^a 1\nadd-wme S1 ^b 1\nadd-wme S1 ^b |2|\nmatches\n")
    (codes "j: 7 6\nj: 8 9\n") status.Done

-- a name that is not loaded; an unconnected group, a proposal, a comment, a float, an open brace
abbrev pub Forms : Type 0
Forms =
    WritesNow (codes "sp {a (state <s> ^a 1) (<t> ^b 2) --> }\nsp {a (state <s> ^a 1) --> (<s> ^operator 1)}\nmatches #\nmatches now\nadd-wme S1 ^a 1.5\nadd-wme S1 ^a S1 1\nadd-wme S1 ^a |S1|\nmatches{\nsp")
    (codes "error 22 -:1: unconnected condition 2\nno matches\nerror 32 -:4: no production now\nerror 13 -:5: floating-point number at byte 14\nerror 30 -:6: wrong words\nerror 11 -:8: unfinished command\n") status.Refusals

-- an arrow is missing, and a number is too wide
abbrev pub Syntax : Type 0
Syntax =
    WritesNow (codes "\n\nsp {e (state <s> ^a 1) (halt)}\nsp {w (state <s> ^a 9223372036854775808) --> (halt)}\n")
    (codes "error 16 -:3: unexpected token at byte 29\nerror 14 -:4: number too wide at byte 20\n") status.Refusals

-- a production over several lines, with a path, is printed one triple a line
abbrev pub Printed : Type 0
Printed =
    WritesNow (codes "sp {p # a path\n  (state <s> ^io.input-link <in>)\n  -->\n  (<s> ^in <in>)}\nprint p\nprint q\n")
    (codes "sp {p\n    (state <s> ^io <$1>)\n    (<$1> ^input-link <in>)\n    -->\n    (<s> ^in <in> +)\n}\nerror 32 -:6: no production q\n") status.Refusals

-- ---- tests, negations and labels

-- the second value is of the same kind as the first, and another
abbrev pub SameKindNow : Type 0
SameKindNow =
    WritesNow (codes "sp {k (state <s> ^a <x> ^b { <y> <=> <x> <> <x> }) --> (<s> ^c 1)}\nadd-wme S1 ^a 1\nadd-wme S1 ^b 1\nadd-wme S1 ^b 2\nadd-wme S1 ^b w\nmatches\n")
    (codes "k: 6 8\n") status.Done

-- a negation in a negation in a negation
abbrev pub NestedNow : Type 0
NestedNow =
    WritesNow (codes "sp {nest (state <s> ^superstate nil) -{(<s> ^a <x>) -{(<x> ^b <y>) -(<y> ^c 1)}} --> (<s> ^ok yes)}\nmatches\nadd-wme S1 ^a <x>\nmatches\nadd-wme <x> ^b <y>\nmatches\nadd-wme <y> ^c 1\nmatches\nremove-wme 8\nmatches\n")
    (codes "nest: 4\nno matches\nnest: 4\nno matches\nnest: 4\n") status.Done

-- six productions, each with another fault
abbrev pub RefusedNow : Type 0
RefusedNow =
    WritesNow (codes "sp {n (<s> ^a 1) --> (halt)}\nsp {u (state <s> ^a > <x>) --> (<s> ^b 1)}\nsp {c (state <s> ^a 1) (<z> ^b 2) --> (halt)}\nsp {b (state <s> ^a 1) --> (<s> ^b 1 !)}\nsp {e (state <s> ^a 1) (halt)}\nsp {w (state <s> ^a 9223372036854775808) --> (halt)}\n")
    (codes "error 20 -:1: no state condition\nerror 21 -:2: unbound variable <x>\nerror 22 -:3: unconnected condition 2\nerror 25 -:4: preference for an ordinary attribute\nerror 16 -:5: unexpected token at byte 29\nerror 14 -:6: number too wide at byte 20\n") status.Refusals

-- a label is made once it is used in a command that is not refused, and names its identifier from then on
abbrev pub Labelled : Type 0
Labelled =
    WritesNow (codes "add-wme <n> ^a 1\nadd-wme S1 ^a <n>\nadd-wme S1 ^b <m>\nadd-wme <n> ^next <m>\nadd-wme S1 ^a <n>\nadd-wme S1 ^operator <k>\nadd-wme S1 ^c <k>\nadd-wme N1 ^operator w\nadd-wme S1 ^c Q3\nprint <n>\nprint <new>\nremove-wme 6\nadd-wme <n> ^a 1\n")
    (codes "error 31 -:1: unknown identifier <n>\nerror 35 -:5: already there as 6\nerror 36 -:6: reserved attribute\nerror 31 -:9: unknown identifier Q3\n8: (N1 ^next M1)\n10: (N1 ^operator w)\nno elements\nerror 31 -:13: unknown identifier N1\n") status.Refusals

-- conditions are loaded in match order, those inside a negation too
abbrev pub InMatchOrder : Type 0
InMatchOrder =
    WritesNow (codes "sp {o (<x> ^b > <y>) -{(<y> ^d <z>) (<x> ^c <z>)} (<s> ^a <x>) (state <s> ^n <y>) --> (<s> ^ok <x>)}\nprint o\n")
    (codes "sp {o\n    (state <s> ^n <y>)\n    (<s> ^a <x>)\n    (<x> ^b > <y>)\n    -{(<y> ^d <z>) (<x> ^c <z>)}\n    -->\n    (<s> ^ok <x> +)\n}\n") status.Done

-- a file of the command line that is not there, and then the input
abbrev pub FileMissingNow : Type 0
FileMissingNow = present_transcript (codes "a" ∷ []) [] (codes "matches\n") ≡ record { text = codes "error 40 -:0: no file a\nno matches\n"; status = status.Refusals }

-- a file that is sourced, and quits
abbrev pub QuitInFileNow : Type 0
QuitInFileNow =
    present_transcript [] (record { name = codes "b c"; bytes = codes "print Q7\nquit\nmatches\n" } ∷ []) (codes "source b c # there\nmatches\n")
    ≡ record { text = codes "error 31 b c:1: unknown identifier Q7\n"; status = status.Refusals }

-- ---- operators, input and output

-- a counter: what an operator makes proposes the next one, which the next cycle selects; the first substate goes with the first selection
abbrev pub CountedNow : Type 0
CountedNow =
    WritesNow
    (codes "sp {init :o-support (state <s> ^superstate nil) --> (<s> ^n 0)}\nsp {count*propose (state <s> ^superstate nil ^n <x>) --> (<s> ^operator <o> +) (<o> ^name count ^from <x>)}\nsp {count*apply (state <s> ^operator <o> ^n <x>) (<o> ^name count ^from <x>) --> (<s> ^n <x> - (+ <x> 1))}\nrun 4\nprint S1\n")
    (codes "1:   ==>S: S2 (state no-change)\n2: O: O1 (count)\n3: O: O2 (count)\n4: O: O3 (count)\n3: (S1 ^io I1)\n4: (S1 ^superstate nil)\n5: (S1 ^type state)\n26: (S1 ^operator O3)\n27: (S1 ^n 3)\n30: (S1 ^operator O4 +)\n")
    status.Done

-- what the output link shows is told after the substate
abbrev pub ShownNow : Type 0
ShownNow = WritesNow (codes "sp {o (state <s> ^superstate nil ^io.output-link <ol>) --> (<ol> ^say hi)}\nrun 1\n") (codes "1:   ==>S: S2 (state no-change)\nout + (I3 ^say hi)\n") status.Done

-- a text is ended before a line, and a halted agent does not run
abbrev pub HaltedNow : Type 0
HaltedNow =
    WritesNow
    (codes "sp {hello*propose\n   (state <s> ^type state)\n   -->\n   (<s> ^operator <o> +)\n   (<o> ^name hello-world)\n}\nsp {hello*apply\n   (state <s> ^operator <o>)\n   (<o> ^name hello-world)\n   -->\n   (write |Hello World|)\n   (halt)\n}\nrun 1\nrun 1\n")
    (codes "1: O: O1 (hello-world)\nHello World\nhalt\nerror 37 -:15: halted\n") status.Refusals

-- what is queued, and refusals of that; a random word is below 2^64
abbrev pub QueuedNow : Type 0
QueuedNow =
    WritesNow
    (codes "input add S1 ^a <n>\ninput add <n> ^b 1\ninput remove <n> ^b 1\nprint S1\nrun 1\nprint S1\nprint <n>\ninput add S1 ^operator x\ninput add S1 ^a Q1\ninput add S1\nrandom\nrandom 18446744073709551615\nrandom 18446744073709551616\nrandom -1\n")
    (codes "3: (S1 ^io I1)\n4: (S1 ^superstate nil)\n5: (S1 ^type state)\n1:   ==>S: S2 (state no-change)\n3: (S1 ^io I1)\n4: (S1 ^superstate nil)\n5: (S1 ^type state)\n6: (S1 ^a N1)\nno elements\nerror 36 -:8: reserved attribute\nerror 31 -:9: unknown identifier Q1\nerror 30 -:10: wrong words\nerror 30 -:11: wrong words\nerror 14 -:13: number too wide at byte 7\nerror 30 -:14: wrong words\n")
    status.Refusals

-- ---- impasses and substates

-- each of two operators is better than the other, and both are items of the substate
abbrev pub ConflictNow : Type 0
ConflictNow =
    WritesNow (codes "sp {prop (state <s> ^superstate nil ^cand <n>) --> (<s> ^operator <o> +) (<o> ^name <n>)}\nsp {cycle (state <s> ^operator <a> + ^operator <b> +) (<a> ^name x) (<b> ^name y) --> (<s> ^operator <a> > <b>) (<s> ^operator <b> > <a>)}\nadd-wme S1 ^cand x\nadd-wme S1 ^cand y\nrun 1\nprint S2\n")
    (codes "1:   ==>S: S2 (conflict)\n12: (S2 ^attribute operator)\n13: (S2 ^choices multiple)\n14: (S2 ^impasse conflict)\n15: (S2 ^item O1)\n16: (S2 ^item O2)\n17: (S2 ^quiescence t)\n18: (S2 ^superstate S1)\n19: (S2 ^type state)\n") status.Done

-- an operator that is required and prohibited
abbrev pub ConstraintNow : Type 0
ConstraintNow =
    WritesNow (codes "sp {c (state <s> ^superstate nil) --> (<s> ^operator <o> + ! ~)}\nrun 1\n")
    (codes "1:   ==>S: S2 (constraint-failure)\n") status.Done

-- the selected operator stays, and nothing came of it
abbrev pub KeptNow : Type 0
KeptNow =
    WritesNow (codes "sp {wait (state <s> ^superstate nil) --> (<s> ^operator <o> +) (<o> ^name wait)}\nrun 2\nprint S2\n")
    (codes "1: O: O1 (wait)\n2:   ==>S: S2 (operator no-change)\n9: (S2 ^attribute operator)\n10: (S2 ^choices none)\n11: (S2 ^impasse no-change)\n12: (S2 ^quiescence t)\n13: (S2 ^superstate S1)\n14: (S2 ^type state)\n") status.Done

-- a tie gets a further item by input: its substate stays, and so does the one below
abbrev pub TieRenewedNow : Type 0
TieRenewedNow =
    WritesNow (codes "sp {prop (state <s> ^superstate nil ^cand <n>) --> (<s> ^operator <o> +) (<o> ^name <n>)}\nadd-wme S1 ^cand x\nadd-wme S1 ^cand y\nrun 1\ninput add S1 ^cand z\nrun 1\nprint S2\n")
    (codes "1:   ==>S: S2 (tie)\n2:     ==>S: S3 (state no-change)\n12: (S2 ^attribute operator)\n13: (S2 ^choices multiple)\n14: (S2 ^impasse tie)\n15: (S2 ^item O1)\n16: (S2 ^item O2)\n18: (S2 ^non-numeric O1)\n19: (S2 ^non-numeric O2)\n21: (S2 ^quiescence t)\n22: (S2 ^superstate S1)\n23: (S2 ^type state)\n27: (S2 ^item O3)\n28: (S2 ^item-count 3)\n29: (S2 ^non-numeric O3)\n30: (S2 ^non-numeric-count 3)\n") status.Done

-- two substates go with an element on which the higher one depends
abbrev pub DependencyGoneNow : Type 0
DependencyGoneNow =
    WritesNow (codes "sp {sub*propose (state <s> ^superstate <ss>) (<ss> ^flag on) --> (<s> ^operator <o> +) (<o> ^name note)}\nsp {sub*apply (state <s> ^operator <o>) (<o> ^name note) --> (<s> ^noted yes)}\nadd-wme S1 ^flag on\nrun 3\ninput remove S1 ^flag on\nrun 1\n")
    (codes "1:   ==>S: S2 (state no-change)\n2:   O: O1 (note)\n3:     ==>S: S3 (operator no-change)\n4:   ==>S: S4 (state no-change)\n") status.Done
