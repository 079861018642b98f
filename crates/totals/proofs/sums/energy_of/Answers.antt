use Rattle.std.proofs.Common.{◌≡◌, ℕ, refl, rules}
use Rattle.std.proofs.iter.Yields.{nat_range_steps}
use Rattle.std.proofs.lemmas.Fn.{fold_over}
use Rattle.std.proofs.lemmas.Iterator.{YieldsList-from_range}
use Rattle.std.proofs.lemmas.List.Sums.{fold-append}
use Rattle.std.specs.List.{fold, range_with_len}
use Rattle.totals.specs.Sums.{plus, energy_in}
use Rattle.totals.proofs.Adding.{day_sums}
use Rattle.totals.proofs.sums.energy_of.Goals as goal

pub returns : goal.returns
returns c =
    let energy = λ (hour : ℕ). energy_in c.args.file.now c.args.party c.args.side hour in
    day_sums energy c.default.result c.fold.result c.default.ensures.0 c.default.ensures.1
    (fold_over nat_range_steps (λ x. x) _ (λ hours sum. sum ≡ fold (λ sum hour. plus sum (energy hour)) c.default.result hours) _ (λ ys a x b f' j k. rw fold-append (search rules)) _
    (range_with_len 1 24) _ c.fold.result (YieldsList-from_range 1 25 24 refl refl).runs refl c.fold.ensures.ran)
