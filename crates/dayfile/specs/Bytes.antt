-- Numbers in a list of bytes, each of four bytes with the lowest first.
use Rattle.std.specs.Prelude.{ℕ, ◌+◌, ◌*◌, List, ℤ, slice_index}
use Rattle.std.specs.Int.{w32}
use Rattle.std.proofs.Common.{to_z}

-- the byte at an offset
abbrev pub byte_at : List ℕ → ℕ → ℕ
byte_at file at = slice_index file at

-- unsigned
abbrev pub word_at : List ℕ → ℕ → ℕ
word_at file at = byte_at file at + byte_at file (at + 1) * 256 + byte_at file (at + 2) * 65536 + byte_at file (at + 3) * 16777216

-- signed, in two's complement: from 2^31 on a number stands for itself less 2^32
abbrev pub signed_at : List ℕ → ℕ → ℤ
signed_at file at = to_z w32 (word_at file at)
