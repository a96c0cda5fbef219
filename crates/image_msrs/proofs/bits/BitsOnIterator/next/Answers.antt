-- The lowest bit that is on goes, and the number above it is what is left. Assumes nothing.
use Rattle.std.proofs.Common.{arith}
use Rattle.image_msrs.proofs.Switches.{next-inside, next-fits, next-bit}
use Rattle.image_msrs.proofs.bits.BitsOnIterator.next.Goals as goal

pub overflow_add-bit : goal.overflow_add-bit
overflow_add-bit c = let s = c.args.self.now in omega (arith, next-inside s.left s.at s.end c.if-self-eq0.false s.inside s.few s.fits, s.small)

pub overflow_add-self : goal.overflow_add-self
overflow_add-self c = let s = c.args.self.now in omega (arith, next-inside s.left s.at s.end c.if-self-eq0.false s.inside s.few s.fits, s.small)

pub invariant_of-self : goal.invariant_of-self
invariant_of-self c =
    let s = c.args.self.now in
    let inside = next-inside s.left s.at s.end c.if-self-eq0.false s.inside s.few s.fits in
    record {
      inside = omega (arith, inside);
      few = omega (arith, s.few);
      small = s.small;
      fits = next-fits s.left s.at s.end c.if-self-eq0.false s.inside s.few s.fits;
    }

pub returns-clause-steps : goal.returns-clause-steps
returns-clause-steps c = let s = c.args.self.now in next-bit s.left s.at s.end c.if-self-eq0.false s.inside s.few s.fits
