-- 01's examples of lists, written from the bytes of their rows, as one table of the definitions.
use mathlib.Core.Path.{◌≡◌, refl}
use mathlib.Core.List.{[], ◌∷◌}
use Rattle.wire.specs.Zero.{has_zero}
use Rattle.wire.specs.Equal.{same}
use Rattle.list.specs.Kind.{kind_of}
use Rattle.list.specs.Bytes.{code_for, list_bytes}
use Rattle.list.specs.Rows.{list_rows, list_store}
use Rattle.list.specs.RowBytes.{packed, unpacked}
use Rattle.list.proofs.Cases.{primes, prime_bytes, two_lists, two_list_bytes}
use Rattle.list_rows.specs.Described.{elements_of, describes, described, list_in}
use Rattle.list_rows.specs.Judge.{fitting, to_write}
use Rattle.list_encode.specs.Encode.{written, refused, outcome, emitted, encoding_of}

pub cases :
    (emitted [] (to_write (packed (list_rows primes)) (list_store primes)) ≡ outcome (written 40) prime_bytes)
    × (emitted [] (to_write (packed (list_rows two_lists)) (list_store two_lists)) ≡ outcome (written 72) two_list_bytes)
    × (emitted (5 ∷ []) (to_write [] []) ≡ outcome (refused 30) (5 ∷ []))
    × (encoding_of [] [] (5 ∷ []) ≡ outcome (refused 20) (5 ∷ []))
unfolding has_zero same kind_of code_for list_bytes unpacked elements_of describes described list_in fitting encoding_of
cases = (refl, refl, refl, refl)
