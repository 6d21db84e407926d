-- Reading a list: the tree at the front of any bytes, or the first fault from the front with its offset and its depth.
-- "Items are codes, counts, fixed elements, a length, a run of string or blob bytes."
use Rattle.std.specs.Prelude.{ℕ, zero, suc, ◌+◌, ◌-◌, Bool, cond, ◌&&◌, ◌||◌, List, eqb, ltb, leb, length, take, drop, Option, Some, None, is_some}
use Rattle.wire.specs.Number.{number_at}
use Rattle.list.specs.declared.Kind.{Kind}
use Rattle.list.specs.declared.Kind.TheVariants.{Int, Float, Str, Blob, Vocab}
use Rattle.list.specs.Limits.{depth_limit}
use Rattle.list.specs.Refusal.{Refusal, refusal, enclosed}
use Rattle.list.specs.Strings.{string_size, negative, bad_length, closed}
use Rattle.list.specs.Kind.{kind_of, size_of, list_code}
use Rattle.list.specs.Tree.{Value, Elements, int, vocab, float, str, blob, none, value, list}
use Rattle.list.specs.Bytes.{list_code_of}

-- what was read and the offset behind it, or the refusal of the item at fault
pub data Parsed (A : Type 0) : Type 0 where
  good : A → ℕ → Parsed A
  bad : Refusal → Parsed A

-- goes on behind what was read
abbrev pub and_then : {A B : Type 0} → Parsed A → (A → ℕ → Parsed B) → Parsed B
and_then (good a next) go = go a next
and_then (bad r) go = bad r

-- "the number of lists open at the fault": what is read inside a list has this list open as well
abbrev pub in_list : {A : Type 0} → Parsed A → Parsed A
in_list (good a next) = good a next
in_list (bad r) = bad (enclosed r)

-- "For each, 28 comes before 21": an item of n bytes at `at`; 0 where all of it is there
unfoldable pub item_fault : ℕ → List ℕ → ℕ → ℕ → ℕ
item_fault limit s at n = cond (ltb limit (at + n)) 28 (cond (ltb (length s) (at + n)) 21 0)

-- "and then its own fault"
abbrev pub after_item : {A : Type 0} → ℕ → ℕ → Parsed A → Parsed A
after_item zero at p = p
after_item (suc fault) at p = bad (refusal (suc fault) at)

-- the 32-bit number at an offset
abbrev pub word : List ℕ → ℕ → ℕ
word s at = number_at 4 s at

-- a string: its length, then its run of bytes
unfoldable pub string_at : ℕ → List ℕ → ℕ → Parsed Value
string_at limit s at =
    after_item (item_fault limit s at 4) at
    (cond (bad_length (word s at)) (bad (refusal 25 at))
    (after_item (item_fault limit s (at + 4) (word s at)) (at + 4)
    (cond (closed (take (word s at) (drop (at + 4) s)))
    (good (str (take (string_size (word s at)) (drop (at + 4) s))) (at + 4 + word s at))
    (bad (refusal 25 (at + 4))))))

-- "blob length below 0", then its run of bytes
unfoldable pub blob_at : ℕ → List ℕ → ℕ → Parsed Value
blob_at limit s at =
    after_item (item_fault limit s at 4) at
    (cond (negative (word s at)) (bad (refusal 25 at))
    (after_item (item_fault limit s (at + 4) (word s at)) (at + 4)
    (good (blob (take (word s at) (drop (at + 4) s))) (at + 4 + word s at))))

-- an element of a kind, behind its code if it has one
unfoldable pub value_at : ℕ → List ℕ → ℕ → Kind → Parsed Value
value_at limit s at Int = after_item (item_fault limit s at (size_of Int)) at (good (int (word s at)) (at + size_of Int))
value_at limit s at Vocab = after_item (item_fault limit s at (size_of Vocab)) at (good (vocab (word s at)) (at + size_of Vocab))
value_at limit s at Float = after_item (item_fault limit s at (size_of Float)) at (good (float (word s at) (word s (at + 4))) (at + size_of Float))
value_at limit s at Str = string_at limit s at
value_at limit s at Blob = blob_at limit s at

-- n elements of one kind, without codes
unfoldable pub typed_at : ℕ → List ℕ → Kind → ℕ → ℕ → Parsed Elements
typed_at limit s kind zero at = good none at
typed_at limit s kind (suc n) at =
    and_then (value_at limit s at kind) (λ v next. and_then (typed_at limit s kind n next) (λ es end. good (value v es) end))

-- 256, or 256 and the code of a kind
unfoldable pub is_list_code : ℕ → Bool
is_list_code code = eqb code list_code || (leb list_code code && is_some (kind_of (code - list_code)))

-- "element code unknown" is 26 at the code
abbrev pub coded_value : ℕ → List ℕ → ℕ → Option Kind → Parsed (Elements → Elements)
coded_value limit s at (Some k) = and_then (value_at limit s (at + 4) k) (λ v next. good (value v) next)
coded_value limit s at None = bad (refusal 26 at)

-- an element that follows its code; `inner` reads a list at an offset, of a given code
unfoldable pub coded_at : (ℕ → ℕ → Parsed Elements) → ℕ → List ℕ → ℕ → Parsed (Elements → Elements)
coded_at inner limit s at =
    after_item (item_fault limit s at 4) at
    (cond (is_list_code (word s at))
    (and_then (inner at (word s at)) (λ es next. good (list es) next))
    (coded_value limit s at (kind_of (word s at))))

-- n elements that follow their codes
unfoldable pub mixed_at : (ℕ → ℕ → Parsed Elements) → ℕ → List ℕ → ℕ → ℕ → Parsed Elements
mixed_at inner limit s zero at = good none at
mixed_at inner limit s (suc n) at =
    and_then (coded_at inner limit s at) (λ put next. and_then (mixed_at inner limit s n next) (λ es end. good (put es) end))

-- n elements of a list of the code `code`
abbrev pub elements_at : (ℕ → ℕ → Parsed Elements) → ℕ → List ℕ → Option Kind → ℕ → ℕ → Parsed Elements
elements_at inner limit s (Some k) n at = typed_at limit s k n at
elements_at inner limit s None n at = mixed_at inner limit s n at

-- "24 is judged after a list's last element .. with the place of its code": the code is not the one that the elements call for
abbrev pub finished : ℕ → ℕ → Parsed Elements → Parsed Elements
finished code at p = and_then p (λ es end. cond (eqb code (list_code_of es)) (good es end) (bad (refusal 24 at)))

-- what stands behind a list's code, which is at `at`: its count, then its elements
unfoldable pub body_at : (ℕ → ℕ → Parsed Elements) → ℕ → List ℕ → ℕ → ℕ → Parsed Elements
body_at inner limit s at code =
    after_item (item_fault limit s (at + 4) 4) (at + 4)
    (cond (negative (word s (at + 4))) (bad (refusal 23 (at + 4)))
    (finished code at (elements_at inner limit s (kind_of (code - list_code)) (word s (at + 4)) (at + 8))))

-- a list whose code stands at `at`, where `depth` lists may stand in one another, this one included: "27 is given at a nested list's code",
-- where it is not open yet; "1 at the outermost count, and for 24 the depth of the list at fault"
unfoldable pub list_at : ℕ → ℕ → List ℕ → ℕ → ℕ → Parsed Elements
list_at zero limit s at code = bad (refusal 27 at)
list_at (suc depth) limit s at code = in_list (body_at (list_at depth limit s) limit s at code)

-- "The reader judges the list at the front": its elements and its size, or the fault
unfoldable pub parse : ℕ → List ℕ → Parsed Elements
parse limit s =
    after_item (item_fault limit s 0 4) 0
    (cond (is_list_code (word s 0)) (list_at depth_limit limit s 0 (word s 0)) (bad (refusal 22 0)))
