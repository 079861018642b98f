use Rattle.std.proofs.Common.{◌≡◌, ℕ, ◌<◌, Bool, true, false, not, List, length, get_or, Decides, MatchBool, sym, refl, ◌∙◌, pos, neg_ℤ, w64, subst, arith, rules}
use Rattle.std.proofs.lemmas.Bool.{false≢true}
use Rattle.std.proofs.lemmas.Int.{to_z-of_z}
use Rattle.std.proofs.lemmas.Iterator.{cases_from_any, YieldsList-from_slice}
use Rattle.std.specs.List.{HoldsAt, AllWithin}
use borrow.Author.Tests.{tests}
use Rattle.market.specs.Limits.{most_price, Price, LineWithin}
use Rattle.market.specs.declared.records.Line.{Line}
use Rattle.market.proofs.Limited.{inside}
use Rattle.prices.specs.Hours.{beyond_line, no_line}
use Rattle.prices.proofs.Pricing.{line_inside, line_passes}
use Rattle.prices.proofs.days.is_price_day.Goals as goal

-- where no line is beyond its limits, each is within them, and the other way round
each_inside : (r : Bool) (lines : List Line) → MatchBool r ((k : ℕ) × (k < length lines) × HoldsAt (λ x. beyond_line x ≡ true) lines k) (AllWithin (λ x. beyond_line x ≡ false) lines 0 (length lines))
    → Decides (not r) ((i : ℕ) → i < length lines → LineWithin (get_or lines i no_line))
each_inside true lines h = (λ e. absurd (false≢true e), λ w. absurd (false≢true (sym (line_passes _ (w h.0 h.1)) ∙ h.2 no_line)))
each_inside false lines h = (λ _ i l. line_inside _ (h i no_line (omega arith) l), λ _. refl)

pub returns-then-not-beyond_price : goal.returns-then-not-beyond_price
returns-then-not-beyond_price c =
    let each = each_inside _ c.args.lines.now (cases_from_any _ _ _ (λ x. beyond_line x ≡ true) (λ x. beyond_line x ≡ false) c.any.ensures.ran (YieldsList-from_slice c.args.lines.now cc) (λ x q k. search (rules, tests)) (λ x q k. search (rules, tests))) in (
      (λ yes. record {
        lines = record { few = omega arith; whole = omega arith; each = each.0 yes };
        reference = subst Price (to_z-of_z w64 c.args.reference c.ranges.reference) (inside (neg_ℤ (pos most_price)) (pos most_price) _ (sym c.beyond_price.ensures ∙ c.if-not-beyond_price.true));
      }),
      (λ day. each.1 day.lines.each),
    )
