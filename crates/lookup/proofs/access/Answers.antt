-- A view and a page that can have a word have its access. Assumes nothing.
use mathlib.Core.Path.{◌≡◌}
use Prim.Native.Nat.{◌%◌}
use native.Mathlib.Omega.{arith}
use borrow.Author.Tests.{lt-ltb, le-ltb}
use Rattle.page_words.specs.PageWords.{key_of}
use Rattle.lookup.specs.Lookup.{look_access}
use Rattle.lookup.proofs.access.Goals as goal

pub returns-then-view : goal.returns-then-view
unfolding look_access
returns-then-view c = rw (le-ltb _ 8 c.if-view.true)

pub returns-then-page-ge-PAGES : goal.returns-then-page-ge-PAGES
unfolding look_access
returns-then-page-ge-PAGES c = rw (lt-ltb _ 8 c.if-view.false, le-ltb _ _ c.if-page-ge-PAGES.true)

pub returns : goal.returns
unfolding look_access key_of
returns c =
    let inside = c.if-view.false in
    let e : c.args.view % 8 ≡ c.args.view = omega arith in
    rw (lt-ltb _ 8 inside, lt-ltb _ _ c.if-page-ge-PAGES.false, e) c.word_access.ensures
