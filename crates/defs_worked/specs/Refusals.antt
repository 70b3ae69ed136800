-- Refused commands and productions: whole runs that were worked out by hand.
use Rattle.std.specs.Prelude.{[], ◌∷◌, codes}
use Rattle.soar_edge.specs.declared.status.Status.TheVariants as status
use Rattle.defs_worked.specs.Writes.{Writes, WritesWith}

-- nothing is written for nothing
abbrev pub EmptyInput : Type 0
EmptyInput = Writes ([])
    ([]) status.Done

-- a number with a point is refused at its byte, and the next command runs
abbrev pub FloatRefused : Type 0
FloatRefused = Writes (codes "sp {a (state <s> ^x 1.5) --> (<s> ^y 2)}\nprint S1\n")
    (codes "error 13 -:1: floating-point number at byte 20\n3: (S1 ^io I1)\n4: (S1 ^superstate nil)\n5: (S1 ^type state)\n") status.Refusals

-- six productions, each with another fault
abbrev pub RefusedProductions : Type 0
RefusedProductions = Writes (codes "sp {n (<s> ^a 1) --> (halt)}\nsp {u (state <s> ^a > <x>) --> (<s> ^b 1)}\nsp {c (state <s> ^a 1) (<z> ^b 2) --> (halt)}\nsp {b (state <s> ^a 1) --> (<s> ^b 1 !)}\nsp {e (state <s> ^a 1) (halt)}\nsp {w (state <s> ^a 9223372036854775808) --> (halt)}\n")
    (codes "error 20 -:1: no state condition\nerror 21 -:2: unbound variable <x>\nerror 22 -:3: unconnected condition 2\nerror 25 -:4: preference for an ordinary attribute\nerror 16 -:5: unexpected token at byte 29\nerror 14 -:6: number too wide at byte 20\n") status.Refusals

-- nine commands, each refused for another cause
abbrev pub RefusedCommands : Type 0
RefusedCommands = Writes (codes "add-wme S1 ^a 1\nadd-wme S1 ^a 1\nadd-wme B9 ^a 1\nadd-wme S1 ^operator 5\nremove-wme 5\nremove-wme 99\nexcise q\nfly\nwatch 7\nsp {\n")
    (codes "error 35 -:2: already there as 6\nerror 31 -:3: unknown identifier B9\nerror 36 -:4: reserved attribute\nerror 34 -:5: not an input element 5\nerror 33 -:6: no element 99\nerror 32 -:7: no production q\nerror 10 -:8: unknown command\nerror 30 -:9: wrong words\nerror 11 -:10: unfinished command\n") status.Refusals

-- a missing arrow, and a number that 64 bits do not hold
abbrev pub RefusedSyntaxAlone : Type 0
RefusedSyntaxAlone = Writes (codes "\n\n\n\nsp {e (state <s> ^a 1) (halt)}\nsp {w (state <s> ^a 9223372036854775808) --> (halt)}\n")
    (codes "error 16 -:5: unexpected token at byte 29\nerror 14 -:6: number too wide at byte 20\n") status.Refusals

-- a watch level that there is not gives the usage line
abbrev pub UsageWatchNine : Type 0
UsageWatchNine = WritesWith (codes "--watch" ∷ codes "9" ∷ []) [] ([])
    (codes "usage: soar_app [--watch N] [--generate N] [FILE]...\n") status.Usage

-- a file of the command line that is not there
abbrev pub NamedFileMissing : Type 0
NamedFileMissing = WritesWith (codes "a.soar" ∷ []) [] ([])
    (codes "error 40 -:0: no file a.soar\n") status.Refusals

-- a command of a file is refused under the name of the file
abbrev pub RefusalInNamedFile : Type 0
RefusalInNamedFile = WritesWith (codes "a.soar" ∷ []) (record { name = codes "a.soar"; bytes = codes "print Q7\n" } ∷ []) ([])
    (codes "error 31 a.soar:1: unknown identifier Q7\n") status.Refusals
