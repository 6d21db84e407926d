-- COBS by blocks, as it is defined, and COBS byte by byte, as it is computed, agree; a block of code 255 is the whole part.
use Prim.Native.Nat.{ℕ, zero, suc, ◌+◌, ◌-◌, ◌≤◌}
use mathlib.Core.Path.{◌≡◌, refl, sym, ap, ap₂, ◌∙◌}
use mathlib.Core.Bool.{false}
use mathlib.Core.List.{List, [], ◌∷◌, ◌++◌, append-nil}
use native.Mathlib.Omega.{arith}
use lib.ListN.{length, length-append}
use Rattle.wire.specs.Zero.{has_zero}
use Rattle.packet.specs.Cobs.{Block, part_of, restored, Encodes, plain, lacking, decoded_part, code_or, gap_from, gap_before, stuffed, encoded_part}
use Rattle.packet.proofs.Zeros.{clash}
use Rattle.packet.proofs.DecodeStages.{length-decoded_part}

-- Decoding, from blocks to bytes.

plain-block : (block rest : List ℕ) → plain (length block) (block ++ rest) ≡ block ++ plain 0 rest
unfolding plain
plain-block [] rest = refl
plain-block (b ∷ block) rest = ap (λ (l : List ℕ). b ∷ l) (plain-block block rest)

lacking-block : (block rest : List ℕ) → lacking (length block) (block ++ rest) ≡ lacking 0 rest
unfolding lacking
lacking-block [] rest = refl
lacking-block (b ∷ block) rest = lacking-block block rest

restored-plain : (block : Block) (blocks : List Block) → restored (block ∷ blocks) ≡ block ++ plain 0 (part_of blocks)
unfolding restored plain part_of
restored-plain block [] = sym (append-nil block)
restored-plain block (next ∷ blocks) = ap (λ (l : List ℕ). block ++ 0 ∷ l) (restored-plain next blocks ∙ sym (plain-block next (part_of blocks)))

decoded-blocks : (blocks : List Block) → decoded_part (part_of blocks) ≡ restored blocks
unfolding restored plain part_of
decoded-blocks [] = refl
decoded-blocks (block ∷ blocks) = plain-block block (part_of blocks) ∙ sym (restored-plain block blocks)

lacking-blocks : (blocks : List Block) → lacking 0 (part_of blocks) ≡ 0
unfolding lacking part_of
lacking-blocks [] = refl
lacking-blocks (block ∷ blocks) = lacking-block block (part_of blocks) ∙ lacking-blocks blocks

-- a part that stands for a message is decoded to it, and no block passes the end
pub decodes : {part message : List ℕ} → Encodes part message → (lacking 0 part ≡ 0) × (decoded_part part ≡ message)
decodes h = (ap (lacking 0) (sym h.filled) ∙ lacking-blocks h.blocks, ap decoded_part (sym h.filled) ∙ decoded-blocks h.blocks ∙ h.meant)

-- Decoding, from bytes to blocks.

-- the rest of a block of which k bytes are to come, and the blocks behind it
record Cut (k : ℕ) (part : List ℕ) : Type 0 where
  block : Block
  blocks : List Block
  long : length block ≡ k
  whole : block ++ part_of blocks ≡ part

cut : (k : ℕ) (part : List ℕ) → has_zero part ≡ false → lacking k part ≡ 0 → Cut k part
unfolding has_zero lacking part_of
cut k [] z s = record { block = []; blocks = []; long = sym s; whole = refl }
cut k (zero ∷ part) z s = clash z
cut zero (suc c ∷ part) z s =
    let r = cut c part z s in
    record { block = []; blocks = r.block ∷ r.blocks; long = refl; whole = ap₂ (λ (n : ℕ) (l : List ℕ). suc n ∷ l) r.long r.whole }
cut (suc k) (suc b ∷ part) z s =
    let r = cut k part z s in
    record { block = suc b ∷ r.block; blocks = r.blocks; long = ap suc r.long; whole = ap (λ (l : List ℕ). suc b ∷ l) r.whole }

-- a part without a 00, of which no block passes the end, stands for what it is decoded to
pub decoded-means : (part : List ℕ) → has_zero part ≡ false → lacking 0 part ≡ 0 → Encodes part (decoded_part part)
unfolding has_zero lacking part_of
decoded-means [] z s = record { blocks = []; filled = refl; zeroless = z; meant = sym (decoded-blocks []) }
decoded-means (zero ∷ part) z s = clash z
decoded-means (suc c ∷ part) z s =
    let r = cut c part z s in
    let f : part_of (r.block ∷ r.blocks) ≡ suc c ∷ part = ap₂ (λ (n : ℕ) (l : List ℕ). suc n ∷ l) r.long r.whole in
    record { blocks = r.block ∷ r.blocks; filled = f; zeroless = z; meant = sym (decoded-blocks (r.block ∷ r.blocks)) ∙ ap decoded_part f }

-- Encoding.

plain-stuffed : (m : List ℕ) → plain (gap_before 0 m) (stuffed 0 m) ≡ m
unfolding code_or gap_from gap_before stuffed plain
plain-stuffed [] = refl
plain-stuffed (zero ∷ m) = ap (λ (l : List ℕ). 0 ∷ l) (plain-stuffed m)
plain-stuffed (suc b ∷ m) = ap (λ (l : List ℕ). suc b ∷ l) (plain-stuffed m)

lacking-stuffed : (m : List ℕ) → lacking (gap_before 0 m) (stuffed 0 m) ≡ 0
unfolding code_or gap_from gap_before stuffed lacking
lacking-stuffed [] = refl
lacking-stuffed (zero ∷ m) = lacking-stuffed m
lacking-stuffed (suc b ∷ m) = lacking-stuffed m

zeroless-stuffed : (m : List ℕ) → has_zero (stuffed 0 m) ≡ false
unfolding code_or stuffed has_zero
zeroless-stuffed [] = refl
zeroless-stuffed (zero ∷ m) = zeroless-stuffed m
zeroless-stuffed (suc b ∷ m) = zeroless-stuffed m

-- what is computed for a message stands for it
pub encodes : (message : List ℕ) → Encodes (encoded_part message) message
unfolding code_or gap_from gap_before stuffed plain
encodes message =
    rw (plain-stuffed message) at (decoded-means (encoded_part message) (zeroless-stuffed (0 ∷ message)) (lacking-stuffed (0 ∷ message)))

gap-plain : (k : ℕ) (e : List ℕ) → has_zero e ≡ false → lacking k e ≡ 0 → gap_before 0 (plain k e) ≡ k
unfolding gap_from gap_before plain lacking has_zero
gap-plain k [] z s = sym s
gap-plain zero (c ∷ e) z s = refl
gap-plain (suc k) (zero ∷ e) z s = clash z
gap-plain (suc k) (suc b ∷ e) z s = ap suc (gap-plain k e z s)

stuffed-plain : (k : ℕ) (e : List ℕ) → has_zero e ≡ false → lacking k e ≡ 0 → stuffed 0 (plain k e) ≡ e
unfolding code_or stuffed plain lacking has_zero
stuffed-plain k [] z s = refl
stuffed-plain k (zero ∷ e) z s = clash z
stuffed-plain zero (suc c ∷ e) z s = ap₂ (λ (n : ℕ) (l : List ℕ). suc n ∷ l) (gap-plain c e z s) (stuffed-plain c e z s)
stuffed-plain (suc k) (suc b ∷ e) z s = ap (λ (l : List ℕ). suc b ∷ l) (stuffed-plain k e z s)

encoded-again : (part : List ℕ) → 1 ≤ length part → has_zero part ≡ false → lacking 0 part ≡ 0 → encoded_part (decoded_part part) ≡ part
unfolding plain
encoded-again [] h z s = absurd (omega arith)
encoded-again (c ∷ part) h z s = stuffed-plain 0 (c ∷ part) z s

-- no other part stands for a message than the one that is computed
pub encodes-only : (part message : List ℕ) → 1 ≤ length part → Encodes part message → part ≡ encoded_part message
encodes-only part message h e = sym (encoded-again part h e.zeroless (decodes e).0) ∙ ap encoded_part (decodes e).1

-- Sizes.

-- "the message has L-1 bytes"
pub message-length : {part message : List ℕ} → Encodes part message → length message ≡ length part - 1
message-length {part} e = ap length (sym (decodes e).1) ∙ length-decoded_part part

length-part_of-append : (xs ys : List Block) → length (part_of (xs ++ ys)) ≡ length (part_of xs) + length (part_of ys)
unfolding part_of
length-part_of-append [] ys = omega arith
length-part_of-append (x ∷ xs) ys = simp length-append (omega (arith, length-part_of-append xs ys))

no_bytes : (blocks : List Block) → length (part_of blocks) ≡ 0 → blocks ≡ []
unfolding part_of
no_bytes [] h = refl
no_bytes (block ∷ blocks) h = absurd (omega arith)

-- "a block of code 255 can only be the whole part"
pub whole-255 : (before : List Block) (block : Block) (after : List Block) → length (part_of (before ++ block ∷ after)) ≤ 255 → suc (length block) ≡ 255
    → (before ≡ []) × (after ≡ [])
unfolding part_of
whole-255 before block after h c =
    let l = length-part_of-append before (block ∷ after) in
    let m = length-append block (part_of after) in
    (no_bytes before (omega arith), no_bytes after (omega arith))
