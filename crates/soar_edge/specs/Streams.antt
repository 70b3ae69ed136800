-- A source, a sink and a shelf over std's readers, writers and files, as contracts see them.
use Rattle.std.specs.Prelude.{ℕ, List, Option}

-- the bytes that the reader has left, where std knows them, and how many faults there were
pub record ReaderState : Type 0 where
  pub unread : Option (List ℕ)
  pub faults : ℕ

-- the bytes that the writer holds, where std knows them, and how many faults there were
pub record WriterState : Type 0 where
  pub written : Option (List ℕ)
  pub faults : ℕ

-- how many faults a shelf over files had
pub record FolderState : Type 0 where
  pub faults : ℕ
