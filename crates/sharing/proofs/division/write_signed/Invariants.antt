use Rattle.std.proofs.Common.{◌≡◌, ℕ, ◌<◌, get_or, map, pos}
use Rattle.sharing.specs.Divisions.{signed_as}
use Rattle.sharing.proofs.division.write_signed.Given as goal

abbrev pub invariant-loop-party : goal.invariant-loop-party
invariant-loop-party l = (k : ℕ) → k < l.party → get_or l.shares k (pos 0) ≡ get_or (map (signed_as l.fund) l.sizes) k (pos 0)
