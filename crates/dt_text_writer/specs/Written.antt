-- What a writer has put.
use Rattle.std.specs.Prelude.{◌≡◌, ◌++◌, ℕ, List, []}
use Rattle.std.specs.Borrow.{GName, MutBor}
use Rattle.dt_names.specs.declared.fault.Fault.{Fault}
use Rattle.dt_names.specs.Sink.{Taken, Takes, IsRefused}
use Rattle.dt_text_writer.specs.declared.writer.Writer.{Writer}

-- a writer: which sink it has, what that has taken, and the bytes that wait for it
pub record Written : Type 0 where
  pub sink : GName
  pub taken : Taken
  pub waiting : List ℕ

-- It wrote some bytes: of what waited and then them, the sink took a front, the rest waits, and the sink works as before.
pub record IsWritten (bytes : List ℕ) (old new : Written) : Type 0 where
  pub sink : new.sink ≡ old.sink
  pub front : List ℕ
  pub split : old.waiting ++ bytes ≡ front ++ new.waiting
  pub takes : Takes front old.taken new.taken

-- Its sink failed at what waited and then some bytes.
pub record IsCutOff (fault : Fault) (bytes : List ℕ) (old new : Written) : Type 0 where
  pub sink : new.sink ≡ old.sink
  pub refused : IsRefused fault (old.waiting ++ bytes) old.taken new.taken

-- where a sink's bytes are known, as its trait says
module _ {S : Type 0} (taken : S → Taken) where
  abbrev pub state : Writer S → Written
  state w = record { sink = w.out.ghost_name; taken = taken w.out.now; waiting = w.waiting.items }

  -- a writer in which nothing waits
  abbrev pub before : MutBor S → Written
  before out = record { sink = out.ghost_name; taken = taken out.now; waiting = [] }

  -- it wrote some bytes
  abbrev pub Puts : (bytes : List ℕ) (old new : Writer S) → Type 0
  Puts bytes old new = IsWritten bytes (state old) (state new)

  -- its sink failed at them
  abbrev pub FailsAt : (fault : Fault) (bytes : List ℕ) (old new : Writer S) → Type 0
  FailsAt fault bytes old new = IsCutOff fault bytes (state old) (state new)
