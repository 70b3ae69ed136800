-- Goals that go with what they depend on: whole runs that were worked out by hand.
use Rattle.std.specs.Prelude.{codes}
use Rattle.soar_edge.specs.declared.status.Status.TheVariants as status
use Rattle.defs_worked.specs.Writes.{Writes}

-- two goals go with an element on which the higher one depends
abbrev pub DependencyGone : Type 0
DependencyGone = Writes (codes "sp {sub*propose (state <s> ^superstate <ss>) (<ss> ^flag on) --> (<s> ^operator <o> +) (<o> ^name note)}\nsp {sub*apply (state <s> ^operator <o>) (<o> ^name note) --> (<s> ^noted yes)}\nadd-wme S1 ^flag on\nrun 3\ninput remove S1 ^flag on\nwatch 2\nrun 1\n")
    (codes "1:   ==>S: S2 (state no-change)\n2:   O: O1 (note)\n3:     ==>S: S3 (operator no-change)\n-- input\nremove S2\nremove S3\n-- proposal\n-- decision\n4:   ==>S: S4 (state no-change)\n-- application\n-- output\n") status.Done

-- the same without the lines of the phases
abbrev pub DependencyGoneBrief : Type 0
DependencyGoneBrief = Writes (codes "sp {sub*propose (state <s> ^superstate <ss>) (<ss> ^flag on) --> (<s> ^operator <o> +) (<o> ^name note)}\nsp {sub*apply (state <s> ^operator <o>) (<o> ^name note) --> (<s> ^noted yes)}\nadd-wme S1 ^flag on\nrun 3\ninput remove S1 ^flag on\nrun 1\n")
    (codes "1:   ==>S: S2 (state no-change)\n2:   O: O1 (note)\n3:     ==>S: S3 (operator no-change)\n4:   ==>S: S4 (state no-change)\n") status.Done

-- goals of one depth that go in one step are told in the order in which they went
abbrev pub GoneFromOneDepth : Type 0
GoneFromOneDepth = Writes (codes "sp {prop (state <s> ^superstate nil ^cand <n>) --> (<s> ^operator <o> +) (<o> ^name <n>)}\nsp {tp (state <s> ^impasse no-change ^attribute state) --> (<s> ^operator <o> +) (<o> ^name note)}\nsp {ta (state <s> ^operator <o> ^superstate <ss>) (<o> ^name note) (<ss> ^item <i>) --> (<s> ^noted <i>)}\nsp {tm (state <s> ^impasse no-change ^attribute state ^superstate <ss>) (<ss> ^superstate <t>) (<t> ^more yes) --> (<s> ^operator <p> +) (<p> ^name other)}\nadd-wme S1 ^cand x\nadd-wme S1 ^cand y\nadd-wme S1 ^cand z\nrun 4\ninput remove S1 ^cand x\ninput add S1 ^more yes\nwatch 2\nrun 1\n")
    (codes "1:   ==>S: S2 (tie)\n2:     ==>S: S3 (state no-change)\n3:     O: O4 (note)\n4:       ==>S: S4 (operator no-change)\n-- input\n-- proposal\n-- decision\nremove S3\nremove S4\nremove S5\n5:       ==>S: S5 (tie)\n-- application\n-- output\n") status.Done
