-- `encode_word` copies the word and puts the codes where it has zeros.
use native.Mathlib.Omega.{arith}
use Rattle.packet_encode.proofs.encode_word.Goals as goal

pub put_codes-requires : goal.put_codes-requires
put_codes-requires c = (c.copy_word.ensures, c.requires.2, omega (arith, c.requires.0, c.requires.3))

pub returns : goal.returns
returns c = c.put_codes.ensures
