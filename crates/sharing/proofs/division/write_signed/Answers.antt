use Rattle.std.proofs.Common.{◌≡◌, ℕ, ◌<◌, List, length, ℤ, pos, get_or, map, set, sym, ap, ◌∙◌, arith, w64, to_z, of_z}
use Rattle.std.proofs.lemmas.Int.{to_z-of_z}
use Rattle.std.proofs.lemmas.List.{ext_get_or, get_or-map, length-map}
use Rattle.std.proofs.lemmas.List.Edits.{fill_by_more}
use Rattle.std.proofs.lemmas.List.Sums.{get_or-le-sum_by}
use Rattle.sharing.specs.Divisions.{signed_as}
use Rattle.sharing.proofs.division.write_signed.Goals as goal

pub signed_share-requires : goal.signed_share-requires
signed_share-requires c = omega (arith, get_or-le-sum_by (λ (x : ℕ). x) c.args.sizes.now c.loop-party.party 0 (omega arith))

pub loop-party-preserved : goal.loop-party-preserved
loop-party-preserved c =
    let sizes : List ℕ = c.args.sizes.now in
    let passed : ℤ = to_z w64 (of_z w64 c.args.fund) in
    let p : ℕ = c.loop-party.party in
    let l : p < length sizes = omega arith in
    let value = to_z-of_z w64 c.signed_share.result (record { sfits = c.signed_share.type_inv }) ∙ c.signed_share.ensures ∙ sym (get_or-map (signed_as passed) sizes p 0 (pos 0) l) in
    λ k h. ap (λ z. get_or (set c.loop-party.shares p z) k (pos 0)) value
    ∙ fill_by_more (λ q. get_or (map (signed_as passed) sizes) q (pos 0)) c.loop-party.shares p (pos 0) (omega arith) c.loop-party.invariant k h

pub returns : goal.returns
returns c =
    let sizes : List ℕ = c.args.sizes.now in
    let passed : ℤ = to_z w64 (of_z w64 c.args.fund) in
    let all : c.loop-party.shares ≡ map (signed_as passed) sizes =
    ext_get_or (pos 0) c.loop-party.shares (map (signed_as passed) sizes) (omega (arith, length-map sizes (signed_as passed))) (λ i h. c.loop-party.invariant i (omega arith)) in
    all ∙ ap (λ (z : ℤ). map (signed_as z) sizes) (to_z-of_z w64 c.args.fund c.ranges.fund)
