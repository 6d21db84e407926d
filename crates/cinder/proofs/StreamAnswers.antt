-- What every series of stream calls over a run of lists answers; that the end is told apart from every other answer; and the depth of a refusal.
use Prim.Native.Nat.{ℕ, ◌+◌, ◌<◌}
use mathlib.Core.Path.{◌≡◌, refl, ap, ◌∙◌}
use mathlib.Core.Bool.{true}
use mathlib.Core.List.{List, [], ◌∷◌, ◌++◌, map}
use native.Mathlib.Omega.{arith}
use native.Mathlib.Nat.{add-zero}
use lib.ListN.{length, drop}
use Rattle.wire.specs.Number.{Bytes}
use Rattle.list.specs.Limits.{list_limit}
use Rattle.list.specs.Tree.{Elements}
use Rattle.list.specs.Rows.{list_store, row_count}
use Rattle.list.specs.Refusal.{refusal}
use Rattle.list.specs.Open.{open_at}
use Rattle.list.proofs.Items.{bytes_drop}
use Rattle.list.proofs.Sound.{sound, within}
use Rattle.list_decode.specs.Decode.{Outcome, outcome, roomy}
use Rattle.stream.specs.Step.{Found, accepted, ended, refused, step_of}
use Rattle.stream.specs.Series.{Lending, consumed_by, series}
use Rattle.stream.specs.Run.{LegalRun, run_bytes, StartsNone, behind, expected}
use Rattle.stream.proofs.Steps.{step_end, step-cases}
use Rattle.stream.proofs.Runs.{some_bytes}
use Rattle.stream.proofs.Demand3.{demand-3}
use Rattle.cinder.specs.declared.list_call.ListResult.{ListResult}
use Rattle.cinder.specs.ListCall.{list_read}
use Rattle.cinder.proofs.ListAnswers.{DepthTold, read_told, short-told, fault-told, parse-told}
use Rattle.cinder.specs.StreamCall.{step_numbers, step_outcome, stream_call, stream_calls}

-- the bytes consumed are the step's
same-consumed : (f : Found) → (step_numbers f).consumed ≡ consumed_by f
same-consumed (accepted consumed rows stored) = refl
same-consumed ended = refl
same-consumed (refused r) = refl

-- a series of calls is the series of steps, in numbers
pub calls-series : (s : List ℕ) (offset : ℕ) (ls : List Lending) → stream_calls s offset ls ≡ map step_outcome (series s offset ls)
unfolding stream_calls stream_call series
calls-series s offset [] = refl
calls-series s offset (l ∷ ls) =
    let o = step_of s offset l.rows l.store in
    rw (same-consumed o.answer) (ap (λ (z : List (Outcome ListResult)). step_outcome o ∷ z) (calls-series s (offset + consumed_by o.answer) ls))

-- demand 3 for the calls: over a run of legal lists, and bytes behind it that start with none, every series hands over the run
pub calls-expected : (run : List Elements) (rest : List ℕ) → LegalRun run → Bytes rest → StartsNone rest
    → (ls : List Lending) → stream_calls (run_bytes run ++ rest) 0 ls ≡ map step_outcome (expected run rest ls)
calls-expected run rest l b n ls = calls-series (run_bytes run ++ rest) 0 ls ∙ ap (map step_outcome) (demand-3.whole run rest l b n ls)

-- the end: no error, no bytes consumed, both areas as they were
pub call-end : (s rows store : List ℕ) → roomy rows store ≡ true
    → stream_call s (length s) rows store ≡ outcome (list_read 0 0 0) rows store
unfolding stream_call
call-end s rows store r = ap step_outcome (step_end s (length s) rows store r refl)

-- no error and no bytes consumed
abbrev Silent : Outcome Found → Type 0
Silent o = ((step_outcome o).answer.error ≡ 0) × ((step_outcome o).answer.consumed ≡ 0)

at-end : (s : List ℕ) (offset : ℕ) (rows store : List ℕ) → Bytes s → Silent (step_of s offset rows store) → offset ≡ length s
at-end s offset rows store bytes =
    step-cases (λ o. Silent o → offset ≡ length s) s offset rows store
    (λ w. absurd (omega (arith, w.0)))
    (λ h w. absurd (omega (arith, w.0)))
    (λ e w. e)
    (λ es n e w. absurd (omega (arith, w.1, (sound list_limit (drop offset s) es n (bytes_drop offset s bytes) e).1, some_bytes es)))
    (λ f e w. absurd (omega (arith, w.0, (within list_limit (drop offset s) f e).low)))

-- no error and no bytes consumed is answered at the end alone
pub end-alone : (s : List ℕ) (offset : ℕ) (rows store : List ℕ) → Bytes s
    → (stream_call s offset rows store).answer.error ≡ 0 → (stream_call s offset rows store).answer.consumed ≡ 0 → offset ≡ length s
unfolding stream_call
end-alone s offset rows store bytes e n = at-end s offset rows store bytes (e, n)

-- LAW: a call at any offset, so each of every series, tells the depth, by the bytes from there on; past the end there are none, and no list is open
pub stream-depth : (s : List ℕ) (offset : ℕ) (rows store : List ℕ) → DepthTold (drop offset s) offset (stream_call s offset rows store).answer
unfolding stream_call open_at
stream-depth s offset rows store =
    let rest : List ℕ = drop offset s in
    step-cases (λ o. DepthTold rest offset (step_outcome o).answer) s offset rows store
    (short-told rest offset)
    (λ h. rw add-zero at (fault-told rest offset (refusal 21 0) (omega arith) refl))
    (λ e. read_told rest offset 0 0 0)
    (λ es n e. read_told rest offset n (row_count es) (length (list_store es)))
    (λ f e. parse-told rest offset f e)

-- LAW: behind a run of `size` bytes, bytes that start with no legal list are refused, and the refusal tells the depth
pub behind-depth : (size b : ℕ) (rest : List ℕ) → Bytes (b ∷ rest) → StartsNone (b ∷ rest)
    → (20 < (step_numbers (behind size (b ∷ rest))).error) × DepthTold (b ∷ rest) size (step_numbers (behind size (b ∷ rest)))
behind-depth size b rest h n =
    let f = demand-3.fault b rest h n in
    rw (f.behind_run size) ((within list_limit (b ∷ rest) f.refusal f.found).low, parse-told (b ∷ rest) size f.refusal f.found)
