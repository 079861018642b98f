-- Lemmas on the check of the records and on the whole check: which of their parts answers.
use Rattle.std.proofs.Common.{◌≡◌, ℕ, cond, not, List, ◌++◌, length, Some, None, Option, sym, ap, ◌∙◌}
use Rattle.std.proofs.lemmas.Bool.{eq-eqb}
use Rattle.std.specs.Option.{option_or}
use Rattle.faults.specs.Rows.{first}
use Rattle.faults.specs.declared.causes.Section.TheVariants.{Quantities, NodePrices, Contracts}
use Rattle.faults.specs.declared.causes.RecordFault.{RecordFault}
use Rattle.faults.specs.declared.causes.RecordFault.TheVariants.{PartyCount}
use Rattle.faults.proofs.Firsts.{first-++}
use Rattle.market.specs.declared.kinds.Side.{Side}
use Rattle.dayfile.specs.declared.parts.Layout.{Layout}
use Rattle.dayfile.specs.Layouts.{layout_in}
use Rattle.dayfile.specs.Records.{part_rows, record_rows, check_rows, file_rows}
use Rattle.dayfile.specs.Structure.{structure_rows}

-- where the sides are as many as the parties, the records answer, section by section
pub parts : (file : List ℕ) (parties : ℕ) (layout : Layout) (sides : List Side) → parties ≡ length sides
    → first (check_rows file parties layout sides)
    ≡ option_or (option_or (first (part_rows file layout sides Quantities)) (first (part_rows file layout sides NodePrices))) (first (part_rows file layout sides Contracts))
unfolding record_rows
parts file parties layout sides same =
    ap (λ b. cond (not b) (Some PartyCount) (first (record_rows file layout sides))) (eq-eqb parties (length sides) same)
    ∙ first-++ (part_rows file layout sides Quantities ++ part_rows file layout sides NodePrices) (part_rows file layout sides Contracts)
    ∙ ap (λ o. option_or o (first (part_rows file layout sides Contracts))) (first-++ (part_rows file layout sides Quantities) (part_rows file layout sides NodePrices))

pub by_structure : (file : List ℕ) (sides : List Side) (fault : RecordFault) → Some fault ≡ first (structure_rows file (length sides)) → Some fault ≡ first (file_rows file sides)
by_structure file sides fault e =
    sym (first-++ (structure_rows file (length sides)) (record_rows file (layout_in file) sides) ∙ ap (λ o. option_or o (first (record_rows file (layout_in file) sides))) (sym e))

pub by_records : {answer : Option RecordFault} (file bytes : List ℕ) (parties : ℕ) (layout : Layout) (sides : List Side) → bytes ≡ file → parties ≡ length sides → layout ≡ layout_in file
    → None ≡ first (structure_rows file (length sides)) → answer ≡ first (check_rows bytes parties layout sides) → answer ≡ first (file_rows file sides)
by_records file bytes parties layout sides b p l none e =
    e ∙ ap (λ t. cond (not t) (Some PartyCount) (first (record_rows bytes layout sides))) (eq-eqb parties (length sides) p)
    ∙ ap (λ x. first (record_rows x layout sides)) b ∙ ap (λ x. first (record_rows file x sides)) l
    ∙ sym (first-++ (structure_rows file (length sides)) (record_rows file (layout_in file) sides) ∙ ap (λ o. option_or o (first (record_rows file (layout_in file) sides))) (sym none))
