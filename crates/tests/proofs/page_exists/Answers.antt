-- The end of a page is inside exactly where its number is below that of whole pages. Assumes nothing.
use Prim.Native.Nat.{suc, ◌+◌, ◌*◌, ◌/◌}
use native.Mathlib.Omega.{arith}
use Rattle.kvmi.specs.Feed.{page_exists}
use Rattle.tests.proofs.Alike.{leb-alike}
use Rattle.tests.proofs.page_exists.Goals as goal

pub returns : goal.returns
unfolding page_exists
returns c =
    let page = c.args.gpa / 4096 in
    leb-alike (suc page) (c.args.guest / 4096) ((page + 1) * 4096) c.args.guest (λ h. omega arith) (λ h. omega arith)
