use Rattle.std.proofs.Common.{ℕ, ◌<◌, List, length, slice_index, sym, ap, ◌∙◌, subst}
use Rattle.sharing_tests.specs.EqualShares.{equal_shares}
use Rattle.sharing_tests.specs.Equally.{share_first, share_later}
use Rattle.sharing_tests.proofs.equal.EqualSharingRule.share.Goals as goal

pub returns-then-party-fund : goal.returns-then-party-fund
returns-then-party-fund c =
    let ws : List ℕ = c.given.inside.weights.now in
    let within = subst (λ (given : List ℕ). c.args.party < length given) (sym c.given.view_is) c.requires.party in
    share_first ws c.args.fund c.args.party within c.if-party-fund.true ∙ ap (λ (given : List ℕ). slice_index (equal_shares given c.args.fund) c.args.party) c.given.view_is

pub returns-else-party-fund : goal.returns-else-party-fund
returns-else-party-fund c =
    let ws : List ℕ = c.given.inside.weights.now in
    let within = subst (λ (given : List ℕ). c.args.party < length given) (sym c.given.view_is) c.requires.party in
    share_later ws c.args.fund c.args.party within c.if-party-fund.false ∙ ap (λ (given : List ℕ). slice_index (equal_shares given c.args.fund) c.args.party) c.given.view_is
