-- The invariant: the turns that are left give the batch's end. The measure is how many bytes of the input are left. Assumes nothing.
use mathlib.Core.Path.{refl, sym, ◌∙◌}
use Rattle.batch.specs.Batch.{message_takes}
use Rattle.batch.proofs.Turns.{rest-ends}
use Rattle.batch.proofs.Parts.{batch-begins, turn-rest, turn-less}
use Rattle.batch.proofs.take.Goals as goal

pub loop-vcpus-init : goal.loop-vcpus-init
loop-vcpus-init c = (batch-begins c.args.s c.refusal.result c.args.input.now c.args.vcpus.now c.args.pages.now c.args.out.now c.args.signals.now c.args.guest.now c.refusal.ensures, refl, refl, refl)

pub goes_on-requires : goal.goes_on-requires
goes_on-requires c = c.loop-vcpus.invariant.0.written

pub turn-b-requires : goal.turn-b-requires
turn-b-requires c = sym (c.goes_on.ensures _ _ _) ∙ c.loop-vcpus-test.true

pub loop-vcpus-smaller : goal.loop-vcpus-smaller
loop-vcpus-smaller c = turn-less c.args.input.now _ _ (sym (c.goes_on.ensures _ _ _) ∙ c.loop-vcpus-test.true) c.turn-b.ensures

pub loop-vcpus-preserved : goal.loop-vcpus-preserved
loop-vcpus-preserved c =
    (turn-rest c.args.input.now _ _ (sym (c.goes_on.ensures _ _ _) ∙ c.loop-vcpus-test.true) c.turn-b.ensures _ c.loop-vcpus.invariant.0, c.out-1.given ∙ c.loop-vcpus.invariant.1, c.signals-1.given ∙ c.loop-vcpus.invariant.2, c.guest-1.given ∙ c.loop-vcpus.invariant.3)

pub shape_of-out : goal.shape_of-out
shape_of-out c = c.loop-vcpus.invariant.1

pub shape_of-signals : goal.shape_of-signals
shape_of-signals c = c.loop-vcpus.invariant.2

pub shape_of-guest : goal.shape_of-guest
shape_of-guest c = c.loop-vcpus.invariant.3

pub returns : goal.returns
returns c = rest-ends message_takes c.args.input.now _ _ c.loop-vcpus.invariant.0 (sym (c.goes_on.ensures _ _ _) ∙ c.loop-vcpus-test.false)
