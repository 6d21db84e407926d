-- Every table that calls reach from the empty one is lawful, and its published list is legal and reads back. Reading, posting and
-- calls that are refused change nothing.
use Prim.Native.Nat.{ℕ, ◌≤◌}
use mathlib.Core.Path.{◌≡◌, refl, sym}
use mathlib.Core.Bool.{Bool, true, false}
use mathlib.Core.List.{List, [], ◌∷◌}
use lib.ListN.{length}
use borrow.Author.Tests.{le-ltb}
use Rattle.wire.specs.Number.{Bytes}
use Rattle.wire.specs.Area.{over}
use Rattle.list.specs.Limits.{list_limit}
use Rattle.list.specs.Bytes.{list_bytes}
use Rattle.list.specs.Legal.{Legal}
use Rattle.list.specs.Parse.{parse, good}
use Rattle.catalogue.specs.Format.{legal}
use Rattle.table.specs.Places.{slot_count, socket_count, table_size, empty_table}
use Rattle.table.specs.Change.{Verdict}
use Rattle.table.specs.Change as change
use Rattle.table.proofs.Tests.{never}
use Rattle.lawful.specs.Lawful.{lawful}
use Rattle.lawful.proofs.Meaning.{lawful-means}
use Rattle.lawful.proofs.Keeps.{empty-table-lawful, empty-table-bytes}
use Rattle.parameters.specs.Read.{Finding}
use Rattle.parameters.specs.Read as reading
use Rattle.publish.specs.Published.{published}
use Rattle.publish.specs.Outcome.{Result, written, writing, written_of}
use Rattle.publish.specs.Outcome as posting
use Rattle.publish.proofs.Legal.{published-legal, buffer-reads-back}
use Rattle.hub.specs.Receive.{Outcome, accepted, refused, received_of}
use Rattle.hub.specs.Calls.{detached, publish_of}
use Rattle.hub.specs.Events.{Event, receive, detach, read, publish, Reply, received, detaching, finding, publishing, reply_to, after_one, after_all}
use Rattle.hub.proofs.Keeps.{refused-keeps, received-bytes, received-lawful, detached-keeps, detached-bytes, detached-lawful}

-- what is received is bytes
abbrev pub ByteEvent : Event → Type 0
ByteEvent (receive socket bytes) = Bytes bytes
ByteEvent (detach socket) = Unit {0}
ByteEvent (read socket index) = Unit {0}
ByteEvent (publish buffer) = Unit {0}

abbrev pub ByteEvents : List Event → Type 0
ByteEvents [] = Unit {0}
ByteEvents (e ∷ es) = ByteEvent e × ByteEvents es

-- what holds of every table on the way
pub record Reached (c t : List ℕ) : Type 0 where
  pub is_lawful : lawful slot_count socket_count c t ≡ true
  pub is-bytes : Bytes t
  pub is-long : length t ≡ table_size slot_count

reached-of : (c t : List ℕ) → lawful slot_count socket_count c t ≡ true → Bytes t → Reached c t
reached-of c t h b = record { is_lawful = h; is-bytes = b; is-long = (lawful-means slot_count socket_count c t h).whole }

-- LAW: a call of bytes keeps all of it
pub one_more : (c t : List ℕ) (e : Event) → ByteEvent e → Reached c t → Reached c (after_one c t e)
one_more c t (receive socket bytes) h r =
    reached-of c (received_of c t socket bytes).table (received-lawful c t socket bytes r.is-bytes h r.is_lawful)
    (received-bytes c t socket bytes r.is-bytes h)
one_more c t (detach socket) h r =
    reached-of c (detached c t socket).table (detached-lawful c t socket r.is_lawful) (detached-bytes c t socket r.is-bytes)
one_more c t (read socket index) h r = r
one_more c t (publish buffer) h r = r

-- LAW: and so does a series of them
pub all_more : (c t : List ℕ) (es : List Event) → ByteEvents es → Reached c t → Reached c (after_all c t es)
all_more c t [] h r = r
all_more c t (e ∷ es) h r = all_more c (after_one c t e) es h.1 (one_more c t e h.0 r)

module _ (c : List ℕ) (es : List Event) (h : ByteEvents es) where
  -- the table that the calls lead to
  abbrev table : List ℕ
  table = after_all c (empty_table slot_count) es

  -- LAW: whatever calls were made since the table was empty, it is lawful, bytes and of its length
  pub reached : Reached c (after_all c (empty_table slot_count) es)
  reached =
      all_more c (empty_table slot_count) es h
      (reached-of c (empty_table slot_count) (empty-table-lawful slot_count socket_count c) (empty-table-bytes slot_count))

  -- LAW: its published list is legal
  pub reached-legal : Legal list_limit (published slot_count socket_count c (after_all c (empty_table slot_count) es))
  reached-legal = published-legal c table reached.is-bytes

  -- LAW: posting it under a legal catalogue into a buffer that is long enough writes that list
  pub reached-published :
      (buffer : List ℕ) → legal c ≡ true → list_limit ≤ length buffer →
      publish_of c (after_all c (empty_table slot_count) es) buffer ≡
      writing (list_bytes (published slot_count socket_count c (after_all c (empty_table slot_count) es))) buffer
  unfolding publish_of written_of
  reached-published buffer k l = rw (k, reached.is_lawful, le-ltb (length buffer) list_limit l)

  -- LAW: and the buffer reads back as that list
  pub reached-reads-back :
      (buffer : List ℕ) →
      parse list_limit (over (list_bytes (published slot_count socket_count c (after_all c (empty_table slot_count) es))) buffer) ≡
      good (published slot_count socket_count c (after_all c (empty_table slot_count) es))
      (length (list_bytes (published slot_count socket_count c (after_all c (empty_table slot_count) es))))
  reached-reads-back buffer = buffer-reads-back c table buffer reached.is-bytes

-- LAW: reading changes nothing
pub read_keeps : (c t : List ℕ) (socket index : ℕ) → after_one c t (read socket index) ≡ t
read_keeps c t socket index = refl

-- LAW: nor does posting
pub publish-keeps : (c t buffer : List ℕ) → after_one c t (publish buffer) ≡ t
publish-keeps c t buffer = refl

-- a reply is a refusal
abbrev is_refused : Outcome → Bool
is_refused (accepted consumed) = false
is_refused (refused number) = true

abbrev is_denied : Verdict → Bool
is_denied change.accepted = false
is_denied (change.refused number) = true

abbrev is_not_found : Finding → Bool
is_not_found (reading.held v) = false
is_not_found reading.absent = false
is_not_found (reading.refused number) = true

abbrev is_not_written : Result → Bool
is_not_written (written count) = false
is_not_written (posting.refused number) = true

abbrev pub is_refusal : Reply → Bool
is_refusal (received outcome) = is_refused outcome
is_refusal (detaching verdict) = is_denied verdict
is_refusal (finding found) = is_not_found found
is_refusal (publishing p) = is_not_written p.result

-- LAW: nor does a call that is refused
pub refusal-keeps : (c t : List ℕ) (e : Event) → is_refusal (reply_to c t e) ≡ true → after_one c t e ≡ t
refusal-keeps c t (receive socket bytes) = go (received_of c t socket bytes).outcome refl
  where
    go : (x : Outcome) → (received_of c t socket bytes).outcome ≡ x → is_refused x ≡ true → (received_of c t socket bytes).table ≡ t
    go (accepted consumed) e r = never (sym r)
    go (refused number) e r = refused-keeps c t socket bytes number e
refusal-keeps c t (detach socket) = go (detached c t socket).verdict refl
  where
    go : (x : Verdict) → (detached c t socket).verdict ≡ x → is_denied x ≡ true → (detached c t socket).table ≡ t
    go change.accepted e r = never (sym r)
    go (change.refused number) e r = detached-keeps c t socket number e
refusal-keeps c t (read socket index) = λ r. refl
refusal-keeps c t (publish buffer) = λ r. refl
