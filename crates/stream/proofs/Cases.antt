-- The run of 01's bench cases, computed: the primes and then the two-list example, alone and with 00 00 behind them.
use Prim.Native.Nat.{ℕ, ◌*◌}
use mathlib.Core.Path.{◌≡◌, refl}
use mathlib.Core.List.{List, [], ◌∷◌, ◌++◌}
use lib.ListN.{replicate}
use Rattle.wire.specs.Zero.{has_zero}
use Rattle.wire.specs.Equal.{same}
use Rattle.list.specs.Limits.{row_room, store_room}
use Rattle.list.specs.Kind.{kind_of}
use Rattle.list.specs.Bytes.{code_for}
use Rattle.list.specs.Parse.{item_fault, string_at, blob_at, value_at, typed_at, is_list_code, coded_at, mixed_at, body_at, list_at, parse}
use Rattle.list.specs.Refusal.{refusal}
use Rattle.list.specs.RowBytes.{unpacked}
use Rattle.list.proofs.Cases.{prime_bytes, two_list_bytes}
use Rattle.list_decode.specs.Decode.{Outcome, roomy, decoding_of}
use Rattle.stream.specs.Step.{Found, accepted, ended, refused, step_of}
use Rattle.stream.specs.Series.{Lending, series}

abbrev pub run : List ℕ
run = prime_bytes ++ two_list_bytes

abbrev pub enough : Lending
enough = record { rows = replicate (4 * row_room) 0; store = replicate store_room 0 }

abbrev pub small : Lending
small = record { rows = replicate (4 * row_room) 0; store = [] }

abbrev pub answers : List (Outcome Found) → List Found
answers [] = []
answers (o ∷ os) = o.answer ∷ answers os

pub cases :
    (answers (series run 0 (enough ∷ small ∷ enough ∷ enough ∷ enough ∷ []))
    ≡ accepted 40 9 0 ∷ refused (refusal 20 0) ∷ accepted 72 10 16 ∷ ended ∷ ended ∷ [])
    × (answers (series (run ++ (0 ∷ 0 ∷ [])) 0 (enough ∷ enough ∷ enough ∷ []))
    ≡ accepted 40 9 0 ∷ accepted 72 10 16 ∷ refused (refusal 21 112) ∷ [])
unfolding has_zero same kind_of code_for item_fault string_at blob_at value_at typed_at is_list_code coded_at mixed_at body_at list_at parse
    unpacked roomy decoding_of step_of series
cases = (refl, refl)
