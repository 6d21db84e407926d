-- What rows and store are judged to be: a list that may be written, or the number of the refusal.
use Rattle.std.specs.Prelude.{ℕ, suc, max, cond, List, ltb, length, Result, Ok, Err}
use Rattle.std.proofs.Math.Option.{Option, some}
use Rattle.std.proofs.Math.Option as option
use Rattle.errors.specs.declared.Error.{Error}
use Rattle.errors.specs.Number.{number_of}
use Rattle.list.specs.Limits.{list_limit, depth_limit}
use Rattle.list.specs.Tree.{Elements, none, value, list}
use Rattle.list.specs.Bytes.{list_bytes}
use Rattle.list_rows.specs.Described.{list_in}

-- how many lists stand in one another among the elements
abbrev pub nested : Elements → ℕ
nested none = 0
nested (value v es) = nested es
nested (list inner es) = max (suc (nested inner)) (nested es)

-- "A list may stand inside a list to depth 8, the outermost being 1"
abbrev pub depth : Elements → ℕ
depth es = suc (nested es)

-- "Each refusal returns its number"
pub data Verdict (A : Type 0) : Type 0 where
  accepted : A → Verdict A
  refused : (number : ℕ) → Verdict A

-- "List writing: 20, 30, 27, 28": 27, then 28
unfoldable pub fitting : ℕ → Elements → Verdict Elements
fitting limit es =
    cond (ltb depth_limit (depth es)) (refused 27)
    (cond (ltb limit (length (list_bytes es))) (refused 28)
    (accepted es))

-- 30: "rows and store do not describe exactly one list"
abbrev pub judged : ℕ → Option Elements → Verdict Elements
judged limit option.none = refused 30
judged limit (some es) = fitting limit es

-- the list that a writer is to write, or why it must not
abbrev pub to_write : List ℕ → List ℕ → Verdict Elements
to_write rows store = judged list_limit (list_in rows store)

-- the bytes of an accepted list
abbrev pub sized : Verdict Elements → Verdict ℕ
sized (accepted es) = accepted (length (list_bytes es))
sized (refused number) = refused number

-- what judging promises
abbrev pub judging_of : List ℕ → List ℕ → Verdict ℕ
judging_of rows store = sized (to_write rows store)

-- what the code's answer says
abbrev pub verdict_of : Result ℕ Error → Verdict ℕ
verdict_of (Ok size) = accepted size
verdict_of (Err e) = refused (number_of e)
