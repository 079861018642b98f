-- What a file's header says of its sections. Each has a pair of numbers there: its offset from the file's start, and its length in bytes.
use Rattle.std.specs.Prelude.{ℕ, ◌+◌, ◌/◌, List}
use Rattle.faults.specs.declared.causes.Section.{Section}
use Rattle.faults.specs.declared.causes.Section.TheVariants.{Quantities, NodePrices, Contracts}
use Rattle.dayfile.specs.Bytes.{word_at}
use Rattle.dayfile.specs.declared.parts.Extent.{Extent}
use Rattle.dayfile.specs.declared.parts.Layout.{Layout}

-- where the pair of a section stands
abbrev pub pair_at : Section → ℕ
pair_at Quantities = 8
pair_at NodePrices = 16
pair_at Contracts = 24

abbrev pub start_of : List ℕ → Section → ℕ
start_of file section = word_at file (pair_at section)

abbrev pub length_of : List ℕ → Section → ℕ
length_of file section = word_at file (pair_at section + 4)

abbrev pub extent_of : List ℕ → Section → Extent
extent_of file section = record { offset = start_of file section; length = length_of file section }

-- the offset just past a section
abbrev pub past_of : Extent → ℕ
past_of extent = extent.offset + extent.length

abbrev pub end_of : List ℕ → Section → ℕ
end_of file section = past_of (extent_of file section)

-- a contract has 12 bytes
abbrev pub layout_in : List ℕ → Layout
layout_in file =
    record { quantities = start_of file Quantities; prices = start_of file NodePrices; contracts = start_of file Contracts; contract_count = length_of file Contracts / 12 }
