-- Laws of pieces one behind the other.
use Rattle.std.specs.Prelude.{Option, Some, None}
use Prim.Native.Nat.{ℕ, zero, suc, ◌+◌, ◌-◌, ◌*◌, ◌≤◌, ◌<◌}
use mathlib.Core.Path.{◌≡◌, refl}
use mathlib.Core.List.{List, []}
use native.Mathlib.Omega.{arith}
use native.Mathlib.Numerals.{sub-one}
use lib.ListN.{length}
use Rattle.list.specs.declared.Kind.{Kind}
use Rattle.list.specs.declared.Kind.TheVariants.{Int, Float, Str, Blob, Vocab}
use Rattle.list.specs.Kind.{code_of, kind_of}
use Rattle.list.specs.Parse.{word}
use Rattle.list.proofs.Codes.{code-of-kind}
use Rattle.list_decode.specs.declared.put.Cursor.{Cursor}
use Rattle.list_decode.specs.Pieces.{Piece, both, one_number, two_numbers, stored, run, found_run, Here, AllHere, EachHere, FoundHere, Room, Written}
use Rattle.list_decode.proofs.Writing.{Rest, rest-step, rest-done, rest-room, room-first}

-- `each` stores no byte
pub bare-run : (each : ℕ → ℕ → Piece) → ((used at : ℕ) → (each used at).bytes ≡ []) → (n used at : ℕ) → (run each n used at).bytes ≡ []
unfolding run
bare-run each bare zero used at = refl
bare-run each bare (suc n) used at = rw (bare used at) (bare-run each bare n (used + 0) (each used at).next)

-- the first of some pieces
pub run-some : (each : ℕ → ℕ → Piece) (n used at : ℕ) → 0 < n
    → run each n used at ≡ both (each used at) (run each (n - 1) (used + length (each used at).bytes) (each used at).next)
unfolding run
run-some each zero used at h = absurd (omega arith)
run-some each (suc n) used at h = rw sub-one

pub first-here : (here : ℕ → Type 0) (each : ℕ → ℕ → Piece) (n used at : ℕ) → 0 < n → EachHere here each n used at
    → here at × EachHere here each (n - 1) (used + length (each used at).bytes) (each used at).next
first-here here each zero used at h a = absurd (omega arith)
first-here here each (suc n) used at h a = rw sub-one a

-- a loop over pieces: the next one has room, and behind it the others are left
module _ (each : ℕ → ℕ → Piece) {x : Cursor} {p : Piece} {whole kept : List ℕ} {y : Cursor} {rows store : List ℕ} (n : ℕ) (some : 0 < n)
    (l : Rest x p whole kept y (run each n y.used y.pos) rows store) where
  abbrev first : Piece
  first = each y.used y.pos

  abbrev others : Piece
  others = run each (n - 1) (y.used + length first.bytes) first.next

  split : Rest x p whole kept y (both first others) rows store
  split = rw (run-some each n y.used y.pos some) at l

  pub each-room : Room x p whole kept → Room y first rows store
  each-room f = room-first y first others (rest-room split f)

  pub each_turn : {z : Cursor} {rows' store' : List ℕ} → Written y first rows store z rows' store'
      → Rest x p whole kept z (run each (n - 1) z.used z.pos) rows' store'
  each_turn {z} w =
      let e : run each (n - 1) z.used z.pos ≡ others = rw (w.used.behind, w.pos) in
      rw e (rest-step first others split w)

pub each-done : (each : ℕ → ℕ → Piece) {x : Cursor} {p : Piece} {whole kept : List ℕ} {y : Cursor} {rows store : List ℕ} (n : ℕ) → n ≡ 0
    → Rest x p whole kept y (run each n y.used y.pos) rows store → Written x p whole kept y rows store
unfolding run
each-done each n e l = rest-done (rw e at l)

-- n elements of one kind are there, so each of them is
pub numbers-here : (s : List ℕ) (code n used at : ℕ) → at + 4 * n ≤ length s → EachHere (λ p. p + 4 ≤ length s) (one_number s code) n used at
numbers-here s code zero used at h = tt
numbers-here s code (suc n) used at h = (omega arith, numbers-here s code n (used + 0) (at + 4) (omega arith))

pub floats-here : (s : List ℕ) (n used at : ℕ) → at + 8 * n ≤ length s → EachHere (λ p. p + 8 ≤ length s) (two_numbers s) n used at
floats-here s zero used at h = tt
floats-here s (suc n) used at h = (omega arith, floats-here s n (used + 0) (at + 8) (omega arith))

pub stored-here : (s : List ℕ) (code tail n used at : ℕ) → AllHere s tail n at → EachHere (Here s tail) (stored s code tail) n used at
stored-here s code tail zero used at h = tt
stored-here s code tail (suc n) used at h = (h.0, stored-here s code tail n _ (at + 4 + word s at) h.1)

-- a code of a kind that is none of those is that of a number
pub number-kind : (s : List ℕ) (code n used at : ℕ) (found : Option Kind) → kind_of code ≡ found → FoundHere s found n at
    → (code ≡ code_of Float → ⊥) → (code ≡ code_of Str → ⊥) → (code ≡ code_of Blob → ⊥)
    → (at + 4 * n ≤ length s) × (found_run s found n used at ≡ run (one_number s code) n used at)
number-kind s code n used at None e h a b c = absurd h
number-kind s code n used at (Some Int) e h a b c = (h, rw (code-of-kind code Int e))
number-kind s code n used at (Some Vocab) e h a b c = (h, rw (code-of-kind code Vocab e))
number-kind s code n used at (Some Float) e h a b c = absurd (a (code-of-kind code Float e))
number-kind s code n used at (Some Str) e h a b c = absurd (b (code-of-kind code Str e))
number-kind s code n used at (Some Blob) e h a b c = absurd (c (code-of-kind code Blob e))
