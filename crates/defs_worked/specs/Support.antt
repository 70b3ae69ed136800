-- Firing, support and output: whole runs that were worked out by hand.
use Rattle.std.specs.Prelude.{[], ◌∷◌, codes}
use Rattle.soar_edge.specs.declared.status.Status.TheVariants as status
use Rattle.defs_worked.specs.Writes.{Writes, WritesWith}

-- another instance takes over the support of an element, which keeps its tag
abbrev pub SupportPassesOn : Type 0
SupportPassesOn = Writes (codes "watch 0\nsp {p1 (state <s> ^a 1) --> (<s> ^c 1)}\nsp {p2 (state <s> ^b 1) --> (<s> ^c 1)}\nadd-wme S1 ^a 1\nrun 1\ninput remove S1 ^a 1\ninput add S1 ^b 1\nrun 1\nprint S1\n")
    (codes "3: (S1 ^io I1)\n4: (S1 ^superstate nil)\n5: (S1 ^type state)\n7: (S1 ^c 1)\n14: (S1 ^b 1)\n") status.Done

-- a production goes while an instance of it is live, and comes again
abbrev pub ExciseLiveInstance : Type 0
ExciseLiveInstance = Writes (codes "sp {a (state <s> ^superstate nil) --> (<s> ^b 1)}\nrun 1\nwatch 3\nexcise a\nrun 1\nsp {a (state <s> ^superstate nil) --> (<s> ^b 1)}\nrun 1\n")
    (codes "1:   ==>S: S2 (state no-change)\n-- input\n-- proposal\nretract 1 a: 4\n-- decision\n2:     ==>S: S3 (state no-change)\n-- application\n-- output\n-- input\n-- proposal\nfire 2 a: 4\n-- decision\n3:       ==>S: S4 (state no-change)\n-- application\n-- output\n") status.Done

-- a rule that feeds itself is cut in every phase
abbrev pub CounterNeverRests : Type 0
CounterNeverRests = Writes (codes "max-elaborations 3\nsp {up (state <s> ^n <x>) --> (<s> ^n (+ <x> 1))}\nadd-wme S1 ^n 0\nrun 2\n")
    (codes "cut proposal\n1:   ==>S: S2 (state no-change)\ncut application\ncut proposal\n2:     ==>S: S3 (state no-change)\ncut application\n") status.Done

-- an operator counts by rejecting the number before
abbrev pub CountWithRejects : Type 0
CountWithRejects = Writes (codes "sp {init :o-support (state <s> ^superstate nil) --> (<s> ^n 0)}\nsp {count*propose (state <s> ^superstate nil ^n <x>) --> (<s> ^operator <o> +) (<o> ^name count ^from <x>)}\nsp {count*apply (state <s> ^operator <o> ^n <x>) (<o> ^name count ^from <x>) --> (<s> ^n <x> - (+ <x> 1))}\nrun 4\nprint S1\n")
    (codes "1:   ==>S: S2 (state no-change)\n2: O: O1 (count)\n3: O: O2 (count)\n4: O: O3 (count)\n3: (S1 ^io I1)\n4: (S1 ^superstate nil)\n5: (S1 ^type state)\n26: (S1 ^operator O3)\n27: (S1 ^n 3)\n30: (S1 ^operator O4 +)\n") status.Done

-- what is new at the output link
abbrev pub OutputLine : Type 0
OutputLine = Writes (codes "sp {o (state <s> ^superstate nil ^io.output-link <ol>) --> (<ol> ^say hi)}\nrun 1\n")
    (codes "1:   ==>S: S2 (state no-change)\nout + (I3 ^say hi)\n") status.Done

-- the generated script for three items
abbrev pub GenerateThree : Type 0
GenerateThree = WritesWith (codes "--generate" ∷ codes "3" ∷ []) [] ([])
    (codes "cycles 2 waves 2 firings 4 retractions 1 productions 2 elements 27 preferences 3 live 3 chunks 0\n") status.Done
