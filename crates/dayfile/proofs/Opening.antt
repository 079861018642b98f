-- Lemmas on the structural check: which of its parts answers.
use Rattle.std.proofs.Common.{◌≡◌, ℕ, List, ◌++◌, ap, ◌∙◌}
use Rattle.std.specs.Option.{option_or, option_map}
use Rattle.faults.specs.Rows.{first, renamed}
use Rattle.faults.specs.declared.causes.RecordFault.TheVariants.{File}
use Rattle.faults.proofs.Firsts.{first-++, first_map}
use Rattle.dayfile.specs.Structure.{header_rows, section_rows, structure_rows, count_row}

-- the header answers first, then the sections, then the party count
pub parts : (file : List ℕ) (n : ℕ)
    → first (structure_rows file n) ≡ option_or (option_map File (option_or (first (header_rows file)) (first (section_rows file)))) (first (count_row file n))
unfolding structure_rows
parts file n =
    first-++ (renamed File (header_rows file ++ section_rows file)) (count_row file n)
    ∙ ap
    (λ o. option_or o (first (count_row file n)))
    (first_map File (header_rows file ++ section_rows file) ∙ ap (option_map File) (first-++ (header_rows file) (section_rows file)))
