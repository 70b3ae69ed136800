-- A run: commands in order, each from the state that the one before left, and what they write.
use Rattle.std.specs.Prelude.{ℕ, Bool, ◌||◌, List, [], ◌∷◌, ◌++◌, length, Option, Some, None, Result, Ok, Err}
use Rattle.soar_edge.specs.declared.status.Status.{Status}
use Rattle.soar_edge.specs.declared.status.Status.TheVariants as status
use Rattle.defs_soar.specs.declared.limit.Which.{Which}
use Rattle.defs_soar.specs.Limits.{words_to, first_passed, limit_text}
use Rattle.defs_soar.specs.Trace.{line, Written, rendered, followed_by}
use Rattle.defs_run.specs.Carrying.{carried_out}
use Rattle.defs_run.specs.Inputs.{Carried, does, refuses}
use Rattle.defs_run.specs.Orders.{Order, Refusal}
use Rattle.defs_run.specs.Sessions.{Session, Told, Reply, refused_by, draws}
use Rattle.defs_run.specs.Stages.{Reading, Stage}

-- ---- a command

abbrev pub replied_by : List ℕ → ℕ → Session → Carried → Reply
replied_by from number s (does reply) = reply
replied_by from number s (refuses r) = refused_by r from number s

abbrev pub ordered_by : Stage → List ℕ → ℕ → Session → Result Order Refusal → Reply
ordered_by stage from number s (Ok order) = replied_by from number s (carried_out stage.run order s)
ordered_by stage from number s (Err r) = refused_by r from number s

-- the words of a command join the table before it is carried out
abbrev pub after_reading : Stage → List ℕ → ℕ → Session → Reading → Reply
after_reading stage from number s r =
    let a = s.agent in
    let read = record s { agent = record a { names = record a.names { words = r.words } } } in
    draws (words_to (length r.words) ∷ []) (ordered_by stage from number read r.order)

-- a command of a file or of standard input, on the line of a number
unfoldable pub obeyed : Stage → List ℕ → ℕ → List ℕ → Session → Reply
obeyed stage from number text s = after_reading stage from number s (stage.read s.agent.names.words text)

-- ---- a run

-- the session, whether something was refused, how many files were asked for, and how the run ended, if it did
pub record Run : Type 0 where
  pub session : Session
  pub refused : Bool
  pub fetched : ℕ
  pub ended : Option Status

-- a run after some commands, and what these wrote
pub record Ran : Type 0 where
  pub run : Run
  pub text : List ℕ

abbrev pub ended_as : Status → Run → Run
ended_as s r = record r { ended = Some s }

abbrev pub ran : Run → Ran
ran r = record { run = r; text = [] }

abbrev pub behind_text : List ℕ → Ran → Ran
behind_text text r = record r { text = text ++ r.text }

-- the next part, unless the run has ended
abbrev pub then_run : Ran → (Run → Ran) → Ran
then_run r f = elim (r.run.ended) [ None ↦ behind_text r.text (f r.run) | Some s ↦ r ]

-- what was written, and the limit that a step passed, if one did
pub record Rendered : Type 0 where
  pub written : Written
  pub limit : Option Which

abbrev pub behind_written : Written → Rendered → Rendered
behind_written w r = record r { written = followed_by w r.written }

abbrev pub at_limit : ℕ → Bool → Which → Rendered
at_limit watch mid limit = record { written = rendered watch mid (line 0 (limit_text limit) ∷ []); limit = Some limit }

-- the steps up to the first that passes a limit, which says nothing but that
abbrev pub told_written : ℕ → Bool → List Told → Rendered
told_written watch mid [] = record { written = record { text = []; mid_line = mid }; limit = None }
told_written watch mid (t ∷ told) =
    elim (first_passed t.totals) [
      | Some limit ↦ at_limit watch mid limit
      | None ↦ let w = rendered watch mid t.pieces in behind_written w (told_written watch w.mid_line told)
    ]

abbrev pub limited : Run → Option Which → Run
limited r None = r
limited r (Some limit) = ended_as status.Limit r

-- a reply as it is written; lines keep the level that was set before it
abbrev pub after_reply : Run → Reply → Ran
after_reply r reply =
    let w = told_written r.session.agent.settings.watch r.session.mid_line reply.told in
    record {
      run = limited (record r { session = record reply.session { mid_line = w.written.mid_line }; refused = r.refused || reply.refused }) w.limit;
      text = w.written.text;
    }
