-- Of a message no more than its header is read first, and all of it fits the buffer. Assumes nothing.
use Rattle.std.proofs.Common.{ℕ, ◌≤◌, ◌≡◌, ◌++◌, List, length, take, drop, sym, arith, length-take-le, length-append, length-drop}
use Rattle.stream.specs.Cut.{extent_of}
use Rattle.stream.proofs.Cuts.{extent-within}
use Rattle.runner.proofs.read_message.Goals as goal

-- the buffer after a read into its first 8 bytes, n of which came; r is how many the message has
within : (msg front : List ℕ) (n r : ℕ) → 65536 ≤ length msg → length front ≡ length (take 8 msg) → n ≤ length front → r ≡ extent_of (take n (front ++ drop 8 msg))
    → (n ≤ r) × (r ≤ length (front ++ drop 8 msg))
within msg front n r room same h e =
    let eight : length front ≡ 8 = omega (arith, same, length-take-le 8 msg (omega arith)) in
    let all : length (front ++ drop 8 msg) ≡ length msg = rw (length-append, length-drop) (omega (arith, eight)) in
    let b = extent-within _ e (sym (length-take-le n (front ++ drop 8 msg) (omega (arith, h, all)))) (omega (arith, h, eight)) in
    (b.0, omega (arith, all, b.1))

pub slice_bounds-read_full-count : goal.slice_bounds-read_full-count
slice_bounds-read_full-count c = (within _ _ _ _ c.requires c.read_full-head.auto.buf c.read_full-head.ensures.counts.0 c.extent-whole.ensures).0

pub slice_bounds-read_full-start : goal.slice_bounds-read_full-start
slice_bounds-read_full-start c = (within _ _ _ _ c.requires c.read_full-head.auto.buf c.read_full-head.ensures.counts.0 c.extent-whole.ensures).0

pub slice_bounds-read_full-end-3 : goal.slice_bounds-read_full-end-3
slice_bounds-read_full-end-3 c = (within _ _ _ _ c.requires c.read_full-head.auto.buf c.read_full-head.ensures.counts.0 c.extent-whole.ensures).1
