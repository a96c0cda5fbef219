-- The key of the page at an address. Assumes nothing.
use mathlib.Core.Path.{◌≡◌}
use native.Mathlib.Omega.{arith}
use borrow.Author.Tests.{lt-ltb}
use Rattle.wire.specs.Bytes.{load}
use Rattle.entry.specs.Entry.{is_guarded}
use Rattle.entry.proofs.Laws.{key-of}
use Rattle.entry.proofs.is_guarded.Goals as goal

pub returns : goal.returns
unfolding is_guarded
returns c =
    let view : c.load-view.result ≡ load 2 c.args.own.now 18 = c.load-view.ensures in
    let gpa : c.load.result ≡ load 8 c.args.own.now 8 = c.load.ensures in
    rw (← view, lt-ltb _ _ c.if-view-ge-VIEWS.false, ← gpa, key-of c.load-view.result c.load.result c.if-view-ge-VIEWS.false (omega arith), ← c.word_access.ensures)
