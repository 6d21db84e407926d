-- COBS for parts of at most 255 bytes ("The encoded part is COBS blocks"): first what it means, by blocks, then how it is computed.
use Rattle.std.specs.Prelude.{ℕ, zero, suc, pred, ◌≡◌, false, List, [], ◌∷◌, ◌++◌, length, drop}
use Rattle.wire.specs.Zero.{has_zero}

-- THE MEANING. A block is the list of the c-1 bytes that follow its code byte c.
abbrev pub Block : Type 0
Block = List ℕ

-- the encoded bytes of blocks: "a code byte c, then c-1 bytes; blocks fill the L bytes exactly"
unfoldable pub part_of : List Block → List ℕ
part_of [] = []
part_of (block ∷ blocks) = suc (length block) ∷ (block ++ part_of blocks)

-- the message of blocks: "after each block but the last a zero is restored"
unfoldable pub restored : List Block → List ℕ
restored [] = []
restored (block ∷ []) = block
restored (block ∷ next ∷ blocks) = block ++ 0 ∷ restored (next ∷ blocks)

-- a part stands for a message where it has no 00 and consists of blocks of that message
pub record Encodes (part message : List ℕ) : Type 0 where
  pub blocks : List Block
  pub filled : part_of blocks ≡ part
  pub zeroless : has_zero part ≡ false
  pub meant : restored blocks ≡ message

-- THE EXECUTABLE FORM, byte by byte; proofs/CobsBlocks.antt shows that it agrees with the meaning, proofs/Walks.antt that going from code to code gives the same.
-- The bytes that a part stands for where `left` bytes of the current block are still to come; each code becomes a 00.
unfoldable pub plain : ℕ → List ℕ → List ℕ
plain left [] = []
plain zero (code ∷ part) = 0 ∷ plain (pred code) part
plain (suc left) (b ∷ part) = b ∷ plain left part

-- the bytes that the last block lacks ("a block passes the end"); 0 where the blocks fill the part exactly
unfoldable pub lacking : ℕ → List ℕ → ℕ
lacking left [] = left
lacking zero (code ∷ part) = lacking (pred code) part
lacking (suc left) (b ∷ part) = lacking left part

-- the message of a part: the 00 of the first code is not restored
abbrev pub decoded_part : List ℕ → List ℕ
decoded_part part = drop 1 (plain 0 part)

-- what stands in a part for a byte of the message: the code of the block that a 00 opens, or the byte itself
unfoldable pub code_or : ℕ → ℕ → ℕ
code_or zero gap = suc gap
code_or (suc b) gap = suc b

-- the bytes before the next 00, from a byte on; `gap` is that number behind the byte
unfoldable pub gap_from : ℕ → ℕ → ℕ
gap_from zero gap = 0
gap_from (suc b) gap = suc gap

-- the bytes before the first 00 of a list that `last` bytes follow before the next 00
unfoldable pub gap_before : ℕ → List ℕ → ℕ
gap_before last [] = last
gap_before last (b ∷ bytes) = gap_from b (gap_before last bytes)

-- a list that `last` bytes follow before the next 00, each 00 replaced by the code of the block that it opens
unfoldable pub stuffed : ℕ → List ℕ → List ℕ
stuffed last [] = []
stuffed last (b ∷ bytes) = code_or b (gap_before last bytes) ∷ stuffed last bytes

-- the part of a message: a 00 before the message opens the first block
abbrev pub encoded_part : List ℕ → List ℕ
encoded_part message = stuffed 0 (0 ∷ message)
