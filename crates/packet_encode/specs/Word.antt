-- Internal: how many bytes of a payload are taken at once.
use Rattle.std.specs.Prelude.{ℕ}

abbrev pub word_size : ℕ
word_size = 8
