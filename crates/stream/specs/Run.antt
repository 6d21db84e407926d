-- A run of lists, and what 01 says of every series of steps over it.
use Rattle.std.specs.Prelude.{ℕ, cond, ◌≡◌, List, [], ◌∷◌, ◌++◌, length}
use Rattle.wire.specs.Area.{over}
use Rattle.list.specs.Limits.{list_limit}
use Rattle.list.specs.Tree.{Elements}
use Rattle.list.specs.Bytes.{list_bytes}
use Rattle.list.specs.Rows.{list_rows, list_store, row_count}
use Rattle.list.specs.RowBytes.{packed}
use Rattle.list.specs.Legal.{Legal}
use Rattle.list.specs.Refusal.{refusal, moved}
use Rattle.list.specs.Parse.{Parsed, good, bad, parse}
use Rattle.list_decode.specs.Decode.{Outcome, outcome, roomy}
use Rattle.stream.specs.Step.{Found, accepted, ended, refused}
use Rattle.stream.specs.Series.{Lending}

-- "A run is any number of legal lists, none included."
abbrev pub LegalRun : List Elements → Type 0
LegalRun [] = Unit {0}
LegalRun (es ∷ run) = Legal list_limit es × LegalRun run

-- Demand 3: "Lay lists end to end"
abbrev pub run_bytes : List Elements → List ℕ
run_bytes [] = []
run_bytes (es ∷ run) = list_bytes es ++ run_bytes run

-- "Bytes open others that begin with or equal them"
abbrev pub Opens : List ℕ → List ℕ → Type 0
Opens front s = (behind : List ℕ) × (s ≡ front ++ behind)

-- "bytes start with a legal list if its bytes open them"; these start with none
abbrev pub StartsNone : List ℕ → Type 0
StartsNone s = (es : Elements) → Legal list_limit es → Opens (list_bytes es) s → ⊥

-- "A step lent less than 20 asks is refused 20 at place 0"
abbrev pub passed_over : Lending → Outcome Found
passed_over l = outcome (refused (refusal 20 0)) l.rows l.store

-- "it answers that list's numbers of bytes and rows, and the areas hold its rows and store bytes at the front, beyond them what they held";
-- it answers the number of these store bytes too
abbrev pub handed_over : Elements → Lending → Outcome Found
handed_over es l =
    outcome (accepted (length (list_bytes es)) (row_count es) (length (list_store es)))
    (over (packed (list_rows es)) l.rows) (over (list_store es) l.store)

-- "list reading's refusal of those bytes alone, the run's bytes added to its place", its depth as it is; bytes that start with no legal list are never `good`
abbrev pub refused_behind : ℕ → Parsed Elements → Found
refused_behind size (bad r) = refused (moved size r)
refused_behind size (good es consumed) = ended

-- "Behind the run, if no byte follows, each answers "end"." If bytes follow, each gives their refusal.
abbrev pub behind : ℕ → List ℕ → Found
behind size [] = ended
behind size (b ∷ rest) = refused_behind size (parse list_limit (b ∷ rest))

-- "Of the rest, the first hands over the first list, and so on through the run", then each gives the answer `last`
unfoldable pub handing : List Elements → Found → List Lending → List (Outcome Found)
handing run last [] = []
handing [] last (l ∷ ls) = cond (roomy l.rows l.store) (outcome last l.rows l.store) (passed_over l) ∷ handing [] last ls
handing (es ∷ run) last (l ∷ ls) =
    cond (roomy l.rows l.store) (handed_over es l ∷ handing run last ls) (passed_over l ∷ handing (es ∷ run) last ls)

-- what 01 says of every series of steps over a run and the bytes that follow it
abbrev pub expected : List Elements → List ℕ → List Lending → List (Outcome Found)
expected run rest lendings = handing run (behind (length (run_bytes run)) rest) lendings
