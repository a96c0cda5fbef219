-- The words' records one behind the other. Assumes nothing.
use native.Mathlib.Omega.{arith}
use Rattle.image_msrs.specs.Switches.{four_bits}
use Rattle.image_msrs.proofs.Switches.{four-length, put-join}
use Rattle.image_msrs.proofs.put_four.Goals as goal

pub put_bits-b-requires : goal.put_bits-b-requires
put_bits-b-requires c = let all = four-length c.args.f c.args.g in (omega arith, omega arith)

pub put_bits-c-requires : goal.put_bits-c-requires
put_bits-c-requires c = let all = four-length c.args.f c.args.g in (omega arith, omega arith)

pub put_bits-d-requires : goal.put_bits-d-requires
put_bits-d-requires c = let all = four-length c.args.f c.args.g in (omega arith, omega arith)

pub put_bits-requires : goal.put_bits-requires
put_bits-requires c = let all = four-length c.args.f c.args.g in (omega arith, omega arith)

pub returns : goal.returns
unfolding four_bits
returns c =
    let all = four-length c.args.f c.args.g in
    let last = put-join c.put_bits-d.ensures c.put_bits.ensures (omega arith) in
    put-join c.put_bits-b.ensures (put-join c.put_bits-c.ensures last (omega arith)) (omega arith)
