-- Operators and impasses: whole runs that were worked out by hand.
use Rattle.std.specs.Prelude.{[], ◌∷◌, codes}
use Rattle.soar_edge.specs.declared.status.Status.TheVariants as status
use Rattle.defs_worked.specs.Writes.{Writes, WritesWith}

-- an operator is proposed, applied, and the agent halts
abbrev pub HelloWorld : Type 0
HelloWorld = Writes (codes "sp {hello*propose\n   (state <s> ^type state)\n   -->\n   (<s> ^operator <o> +)\n   (<o> ^name hello-world)\n}\nsp {hello*apply\n   (state <s> ^operator <o>)\n   (<o> ^name hello-world)\n   -->\n   (write |Hello World|)\n   (halt)\n}\nrun 1\n")
    (codes "1: O: O1 (hello-world)\nHello World\nhalt\n") status.Done

-- the same with every line of the trace
abbrev pub HelloWorldFullTrace : Type 0
HelloWorldFullTrace = WritesWith (codes "--watch" ∷ codes "5" ∷ []) [] (codes "sp {hello*propose\n   (state <s> ^type state)\n   -->\n   (<s> ^operator <o> +)\n   (<o> ^name hello-world)\n}\nsp {hello*apply\n   (state <s> ^operator <o>)\n   (<o> ^name hello-world)\n   -->\n   (write |Hello World|)\n   (halt)\n}\nrun 1\n")
    (codes "-- input\n-- proposal\nfire 1 hello*propose: 5\n  (S1 ^operator O1 +) i\n  (O1 ^name hello-world +) i\n+ 6: (O1 ^name hello-world)\n+ 7: (S1 ^operator O1 +)\n-- decision\n1: O: O1 (hello-world)\n+ 8: (S1 ^operator O1)\n-- application\nfire 2 hello*apply: 8 6\nHello World\n-- output\nhalt\n") status.Done

-- a halted agent does not run
abbrev pub RunAfterHalt : Type 0
RunAfterHalt = Writes (codes "sp {hello*propose\n   (state <s> ^type state)\n   -->\n   (<s> ^operator <o> +)\n   (<o> ^name hello-world)\n}\nsp {hello*apply\n   (state <s> ^operator <o>)\n   (<o> ^name hello-world)\n   -->\n   (write |Hello World|)\n   (halt)\n}\nrun 1\nrun 1\n")
    (codes "1: O: O1 (hello-world)\nHello World\nhalt\nerror 37 -:15: halted\n") status.Refusals

-- each of two operators is better than the other
abbrev pub ConflictOfTwo : Type 0
ConflictOfTwo = Writes (codes "sp {prop (state <s> ^superstate nil ^cand <n>) --> (<s> ^operator <o> +) (<o> ^name <n>)}\nsp {cycle (state <s> ^operator <a> + ^operator <b> +) (<a> ^name x) (<b> ^name y) --> (<s> ^operator <a> > <b>) (<s> ^operator <b> > <a>)}\nadd-wme S1 ^cand x\nadd-wme S1 ^cand y\nrun 1\nprint S2\n")
    (codes "1:   ==>S: S2 (conflict)\n12: (S2 ^attribute operator)\n13: (S2 ^choices multiple)\n14: (S2 ^impasse conflict)\n15: (S2 ^item O1)\n16: (S2 ^item O2)\n17: (S2 ^quiescence t)\n18: (S2 ^superstate S1)\n19: (S2 ^type state)\n") status.Done

-- a third operator outside that conflict is selected
abbrev pub ConflictWithAThird : Type 0
ConflictWithAThird = Writes (codes "sp {prop (state <s> ^superstate nil ^cand <n>) --> (<s> ^operator <o> +) (<o> ^name <n>)}\nsp {cycle (state <s> ^operator <a> + ^operator <b> +) (<a> ^name x) (<b> ^name y) --> (<s> ^operator <a> > <b>) (<s> ^operator <b> > <a>)}\nadd-wme S1 ^cand x\nadd-wme S1 ^cand y\nadd-wme S1 ^cand z\nrun 1\n")
    (codes "1: O: O3 (z)\n") status.Done

-- an operator that is required and prohibited
abbrev pub ConstraintFailure : Type 0
ConstraintFailure = Writes (codes "sp {c (state <s> ^superstate nil) --> (<s> ^operator <o> + ! ~)}\nrun 1\n")
    (codes "1:   ==>S: S2 (constraint-failure)\n") status.Done

-- a rejected operator that is better than another does not drop it
abbrev pub RejectedBeatsNone : Type 0
RejectedBeatsNone = Writes (codes "sp {two (state <s> ^superstate nil) --> (<s> ^operator <a> + - > <b>) (<s> ^operator <b> +) (<a> ^name x) (<b> ^name y)}\nrun 1\n")
    (codes "1: O: B1 (y)\n") status.Done

-- a selected operator stays, and no change in it gives a substate
abbrev pub KeptOperator : Type 0
KeptOperator = Writes (codes "sp {wait (state <s> ^superstate nil) --> (<s> ^operator <o> +) (<o> ^name wait)}\nrun 2\nprint S2\n")
    (codes "1: O: O1 (wait)\n2:   ==>S: S2 (operator no-change)\n9: (S2 ^attribute operator)\n10: (S2 ^choices none)\n11: (S2 ^impasse no-change)\n12: (S2 ^quiescence t)\n13: (S2 ^superstate S1)\n14: (S2 ^type state)\n") status.Done

-- a draw by weights 2, 3 and 5 with the word 9
abbrev pub SoftmaxWordNine : Type 0
SoftmaxWordNine = Writes (codes "sp {w (state <s> ^superstate nil ^cand <n>) --> (<s> ^operator <o> + < = <n>) (<o> ^name <n>)}\nadd-wme S1 ^cand 2\nadd-wme S1 ^cand 3\nadd-wme S1 ^cand 5\nrandom 9\nrun 1\n")
    (codes "1: O: O3 (5)\n") status.Done

-- the same with the word 0
abbrev pub SoftmaxWordZero : Type 0
SoftmaxWordZero = Writes (codes "sp {w (state <s> ^superstate nil ^cand <n>) --> (<s> ^operator <o> + < = <n>) (<o> ^name <n>)}\nadd-wme S1 ^cand 2\nadd-wme S1 ^cand 3\nadd-wme S1 ^cand 5\nrandom 0\nrun 1\n")
    (codes "1: O: O1 (2)\n") status.Done

-- the same with the word 10
abbrev pub SoftmaxWordTen : Type 0
SoftmaxWordTen = Writes (codes "sp {w (state <s> ^superstate nil ^cand <n>) --> (<s> ^operator <o> + < = <n>) (<o> ^name <n>)}\nadd-wme S1 ^cand 2\nadd-wme S1 ^cand 3\nadd-wme S1 ^cand 5\nrandom 10\nrun 1\n")
    (codes "1: O: O1 (2)\n") status.Done

-- the same where the queue has no word
abbrev pub SoftmaxWithoutWord : Type 0
SoftmaxWithoutWord = Writes (codes "sp {w (state <s> ^superstate nil ^cand <n>) --> (<s> ^operator <o> + < = <n>) (<o> ^name <n>)}\nadd-wme S1 ^cand 2\nadd-wme S1 ^cand 3\nadd-wme S1 ^cand 5\nrun 1\n")
    (codes "1: O: O1 (2)\n") status.Done

-- a tie gets a further item by input, and keeps its substate
abbrev pub TieItemsByInput : Type 0
TieItemsByInput = Writes (codes "sp {prop (state <s> ^superstate nil ^cand <n>) --> (<s> ^operator <o> +) (<o> ^name <n>)}\nadd-wme S1 ^cand x\nadd-wme S1 ^cand y\nrun 1\ninput add S1 ^cand z\nrun 1\nprint S2\n")
    (codes "1:   ==>S: S2 (tie)\n2:     ==>S: S3 (state no-change)\n12: (S2 ^attribute operator)\n13: (S2 ^choices multiple)\n14: (S2 ^impasse tie)\n15: (S2 ^item O1)\n16: (S2 ^item O2)\n18: (S2 ^non-numeric O1)\n19: (S2 ^non-numeric O2)\n21: (S2 ^quiescence t)\n22: (S2 ^superstate S1)\n23: (S2 ^type state)\n27: (S2 ^item O3)\n28: (S2 ^item-count 3)\n29: (S2 ^non-numeric O3)\n30: (S2 ^non-numeric-count 3)\n") status.Done
