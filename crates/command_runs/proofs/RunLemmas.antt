-- Parts of a run, one behind another.
use Rattle.std.proofs.Common.{◌≡◌, ℕ, suc, List, [], ◌++◌, Option, Some, None, refl, sym, ap, append_assoc}
use Rattle.std.proofs.lemmas.List.{append-nil}
use Rattle.soar_edge.specs.declared.status.Status.{Status}
use Rattle.soar_edge.specs.declared.filed.Filed.{Filed}
use Rattle.soar_edge.specs.Cutting.{cuts_of}
use Rattle.defs_run.specs.Whole.{whole_stage}
use Rattle.defs_run.specs.Runs.{Run, Ran, behind_text, then_run}
use Rattle.defs_run.specs.Sources.{cuts_run, obeying}
use Rattle.command_runs.specs.Following.{inner_of}
use Rattle.std.specs.Prelude.{Bool, zero}

-- where the run goes on, the next part comes behind what was written
pub then_on : (x : Ran) (f : Run → Ran) → x.run.ended ≡ None → then_run x f ≡ behind_text x.text (f x.run)
then_on x f goes = ap (λ o. elim o as (λ _. Ran) [ None ↦ behind_text x.text (f x.run) | Some s ↦ x ]) goes

-- where it has ended, nothing comes
pub then_over : (x : Ran) (f : Run → Ran) (s : Status) → x.run.ended ≡ Some s → then_run x f ≡ x
then_over x f s over = ap (λ o. elim o as (λ _. Ran) [ None ↦ behind_text x.text (f x.run) | Some s ↦ x ]) over

-- what follows text comes behind it
pub then_behind : (text : List ℕ) (r : Ran) (f : Run → Ran) → then_run (behind_text text r) f ≡ behind_text text (then_run r f)
then_behind text r f = by r.run.ended
  where
    by : (o : Option Status) → (elim o as (λ _. Ran) [ None ↦ behind_text (text ++ r.text) (f r.run) | Some s ↦ behind_text text r ])
        ≡ behind_text text (elim o as (λ _. Ran) [ None ↦ behind_text r.text (f r.run) | Some s ↦ r ])
    by None = ap (λ t. record { run = (f r.run).run; text = t }) (append_assoc text r.text (f r.run).text)
    by (Some s) = refl

pub behind_behind : (first second : List ℕ) (r : Ran) → behind_text first (behind_text second r) ≡ behind_text (first ++ second) r
behind_behind first second r = ap (λ t. record { run = r.run; text = t }) (sym (append_assoc first second r.text))

-- what a part wrote stands in front of it and the next
pub front_of_then : (x : Ran) (f : Run → Ran) → (more : List ℕ) × ((then_run x f).text ≡ x.text ++ more)
front_of_then x f = by x.run.ended
  where
    by : (o : Option Status) → (more : List ℕ) × ((elim o as (λ _. Ran) [ None ↦ behind_text x.text (f x.run) | Some s ↦ x ]).text ≡ x.text ++ more)
    by None = ((f x.run).text, refl)
    by (Some s) = ([], sym (append-nil x.text))

-- the commands of a stream, with those inside
pub stream_run : (fails : Option ℕ) (stock : List Filed) (depth : ℕ) (from : List ℕ) (closed : Bool) (bytes : List ℕ) (r : Run)
    → obeying whole_stage fails stock depth from closed bytes r ≡ cuts_run whole_stage (inner_of fails stock depth) fails stock from (cuts_of closed bytes) r
stream_run fails stock zero from closed bytes r = refl
stream_run fails stock (suc depth) from closed bytes r = refl
