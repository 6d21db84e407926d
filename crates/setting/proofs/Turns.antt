-- An entry at an offset, by what was read of it, and the answer of the search.
use Prim.Native.Nat.{ℕ, ◌+◌, ◌-◌, ◌<◌}
use mathlib.Core.Path.{◌≡◌, sym, ap, ◌∙◌}
use mathlib.Core.Bool.{Bool, true, false, cond}
use mathlib.Core.List.{List}
use native.Mathlib.Omega.{arith}
use lib.ListN.{take, drop}
use Rattle.wire.specs.Number.{number_at}
use Rattle.wire.specs.Equal.{same}
use Rattle.wire.proofs.Numbers.{part-number}
use Rattle.list.specs.Strings.{string_size}
use Rattle.list.specs.Parse.{word}
use Rattle.list_skip.specs.Skip.{elements_end}
use Rattle.setting.specs.declared.entry.Turn.TheVariants.{Next}
use Rattle.setting.specs.declared.entry.Span.{Span}
use Rattle.setting.specs.Steps.{is_entry, second_at, setting_at, found_at, entry_turn, turn_of}

-- a number that was read from a part of its size
pub part-word : (s : List ℕ) (pos : ℕ) → number_at 4 (take (pos + 4 - pos) (drop pos s)) 0 ≡ word s pos
part-word s pos = part-number 4 (pos + 4 - pos) s pos (omega arith)

-- the key's bytes stand from `first` on, n of them; the value's length stands at `second`
module _ (s key : List ℕ) (pos first second n length : ℕ) (t : Bool)
    (at₁ : first ≡ pos + 12) (at₂ : second ≡ first + word s (pos + 8)) (size : n ≡ string_size (word s (pos + 8)))
    (read : length ≡ word s second) (is : t ≡ same (take n (drop first s)) key) where
  second_is : second ≡ second_at s pos
  second_is = omega arith

  length-is : length ≡ word s (second_at s pos)
  length-is = read ∙ ap (word s) second_is

  test-is : t ≡ same (take (string_size (word s (pos + 8))) (drop (pos + 12) s)) key
  test-is = is ∙ rw (at₁, size)

  pub turn-found : t ≡ true → found_at (second + 4) (length - 1) ≡ entry_turn s key pos
  unfolding entry_turn
  turn-found e =
      let a : second + 4 ≡ setting_at s pos = omega (arith, second_is) in
      rw (sym test-is ∙ e, a, length-is)

  pub turn-next : t ≡ false → Next (second + 4 + length) ≡ entry_turn s key pos
  unfolding entry_turn
  turn-next e =
      let a : second + 4 ≡ setting_at s pos = omega (arith, second_is) in
      rw (sym test-is ∙ e, a, length-is)

-- no value stands at the front of its list
pub found-behind : (s key : List ℕ) (pos offset size : ℕ) → turn_of s key pos ≡ found_at offset size → 0 < offset
unfolding turn_of entry_turn
found-behind s key pos offset size = go (is_entry s pos) (same (take (string_size (word s (pos + 8))) (drop (pos + 12) s)) key)
  where
    go : (a b : Bool)
        → cond a (cond b (found_at (setting_at s pos) (string_size (word s (second_at s pos)))) (Next (setting_at s pos + word s (second_at s pos)))) (Next (elements_end s 1 pos))
        ≡ found_at offset size → 0 < offset
    go true true h =
        let same_span : ◌≡◌ {A = Span} (record { offset = setting_at s pos; length = string_size (word s (second_at s pos)) }) (record { offset = offset; length = size }) = cc in
        let e : setting_at s pos ≡ offset = ap (λ (x : Span). x.offset) same_span in
        omega (arith, e)
    go true false h = absurd (let z : ◌≡◌ {A = ℕ} 0 1 = cc in omega arith)
    go false b h = absurd (let z : ◌≡◌ {A = ℕ} 0 1 = cc in omega arith)
