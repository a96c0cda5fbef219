-- Past both tests: nothing is written. Assumes nothing.
use borrow.Author.Tests.{lt-leb, ne_eqb}
use Rattle.session.specs.Calls.{ready_of}
use Rattle.store.specs.Words.{put_bit64}
use Rattle.wire.proofs.Laws.{store-none}
use Rattle.session.proofs.Session.ready.Goals as goal

pub returns : goal.returns
unfolding ready_of put_bit64
returns c v p =
    simp (
      ne_eqb _ _ c.if-self-eq0.false,
      lt-leb _ _ c.if-self-vcpu.false,
      c.put_bit-ready.ensures,
      c.done.ensures,
      c.answers-2.ensures.0,
      c.answers-2.ensures.1,
      store-none,
    )
