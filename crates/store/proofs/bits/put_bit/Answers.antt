-- The bit that goes is part of the word, and the word with another there is below 2 ^ 64. Assumes nothing.
use Rattle.std.proofs.Common.{◌/◌, ◌%◌, ◌^◌, arith, lt-ltb}
use Rattle.kvmi.specs.Bits.{put_bit, bit_of, bit}
use Rattle.store.proofs.BitLaws.{bit-small, bool-bit, shifted, put-fits}
use Rattle.store.proofs.bits.put_bit.Goals as goal

pub overflow_add-result : goal.overflow_add-result
overflow_add-result c =
    let w = c.args.w in
    let k = c.args.k in
    let on = c.args.on in
    rw (shifted (w / 2 ^ k % 2) k (omega arith) c.if-k-lt64.true, bool-bit on, shifted (bit on) k (bit-small on) c.if-k-lt64.true)
    (record { fits = put-fits w k (bit on) (bit-small on) c.ranges.w.fits c.if-k-lt64.true })

pub returns-then-k-lt64 : goal.returns-then-k-lt64
unfolding put_bit bit_of
returns-then-k-lt64 c =
    let w = c.args.w in
    let k = c.args.k in
    let on = c.args.on in
    rw (
      lt-ltb k 64 c.if-k-lt64.true,
      shifted (w / 2 ^ k % 2) k (omega arith) c.if-k-lt64.true,
      bool-bit on,
      shifted (bit on) k (bit-small on) c.if-k-lt64.true,
    )
