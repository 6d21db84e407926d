-- `publish::rows::put_devices` meets its contract. Invariant: the rows of the sockets from `socket` on, put behind what is there, give all of them.
use Prim.Native.Nat.{◌-◌, ◌≤◌}
use Rattle.table.specs.Places.{slot_count, socket_count}
use Rattle.publish.specs.Published.{devices_from, published}
use Rattle.publish.proofs.Loops.{Left}
use Rattle.publish.proofs.rows.put_devices.Given as goal

abbrev pub invariant-loop-socket : goal.invariant-loop-socket
invariant-loop-socket l =
    (l.count ≤ l.socket) ×
    Left l.initial.buffer l.at (published slot_count socket_count l.c l.t) l.buffer l.end l.count (devices_from (socket_count - l.socket) slot_count l.c l.t l.socket)
