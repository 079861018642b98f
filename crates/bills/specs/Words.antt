-- What cannot be asked about, in words. The numbers are named as in the formulas.
use Rattle.std.specs.Prelude.{ℕ, List, codes}
use Rattle.bills.specs.declared.asking.Beyond.{Beyond}
use Rattle.bills.specs.declared.asking.Beyond.TheVariants.{ContractCount, DayAheadEnergy, MeteredEnergy, DayAheadPrice, RealTimePrice, DayAheadUnified, RealTimeUnified, ContractEnergy, ContractPrice}

abbrev pub beyond_words : Beyond → List ℕ
beyond_words ContractCount = codes "more than 256 contracts"
beyond_words DayAheadEnergy = codes "QD is not within 0 to 4000000 kWh"
beyond_words MeteredEnergy = codes "QM is not within 0 to 4000000 kWh"
beyond_words DayAheadPrice = codes "PD is not within -5000000 to 5000000 mil"
beyond_words RealTimePrice = codes "PR is not within -5000000 to 5000000 mil"
beyond_words DayAheadUnified = codes "UD is not within -5000000 to 5000000 mil"
beyond_words RealTimeUnified = codes "UR is not within -5000000 to 5000000 mil"
beyond_words (ContractEnergy index) = codes "QC is not within 0 to 4000000 kWh"
beyond_words (ContractPrice index) = codes "PC is not within -5000000 to 5000000 mil"
