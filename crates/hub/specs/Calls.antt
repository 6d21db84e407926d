-- Leaving, reading one parameter and posting.
use Rattle.std.specs.Prelude.{ℕ, cond, List}
use Rattle.catalogue.specs.Format.{legal}
use Rattle.table.specs.Places.{slot_count, socket_count}
use Rattle.table.specs.Change.{Verdict, accepted, refused, Effect, if_accepted}
use Rattle.lawful.specs.Lawful.{lawful, admission}
use Rattle.attach.specs.Attach.{left}
use Rattle.parameters.specs.Read.{Finding, found}
use Rattle.parameters.specs.Read as read
use Rattle.publish.specs.Outcome.{Publishing, refusal, written_of}

-- "Leaving: 11, 9, 10, 15"
unfoldable pub detached : List ℕ → List ℕ → ℕ → Effect
detached c t socket = if_accepted (admission slot_count socket_count c t socket) t (left slot_count t socket)

-- 11, 9 and 10 come first
abbrev pub read_if : Verdict → Finding → Finding
read_if accepted r = r
read_if (refused number) r = read.refused number

-- one parameter of a socket's device, judged as leaving is: 11, 9, 10, 15
unfoldable pub read_of : List ℕ → List ℕ → ℕ → ℕ → Finding
read_of c t socket index = read_if (admission slot_count socket_count c t socket) (found slot_count c t socket index)

-- "Posting: 11, 9, 20"
unfoldable pub publish_of : List ℕ → List ℕ → List ℕ → Publishing
publish_of c t buffer =
    cond (legal c) (cond (lawful slot_count socket_count c t) (written_of c t buffer) (refusal 9 buffer)) (refusal 11 buffer)
