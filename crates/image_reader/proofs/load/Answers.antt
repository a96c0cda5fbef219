-- One record more, or the end. Assumes nothing.
use Rattle.std.proofs.Common.{refl, sym, ◌∙◌, arith}
use Rattle.image_reader.proofs.Loads.{load-begins, load-ended, load-more, load-fits}
use Rattle.image_reader.proofs.load.Goals as goal

pub loop-kind-init : goal.loop-kind-init
loop-kind-init c = (omega arith, refl, refl, λ s u e. rw c.size-at.ensures (load-begins s c.args.l.now u _ _ e))

pub overflow_add-i : goal.overflow_add-i
overflow_add-i c =
    let w = load-fits c.args.l.now c.loop-kind.at c.in-Some.kind (sym c.loading_at.ensures ∙ c.in-Some.is) in
    omega (arith, w.0, w.1, c.pages_of-i.ensures, c.loop-kind.invariant.0, c.well_formed.0.0)

pub overflow_add-at : goal.overflow_add-at
overflow_add-at c =
    let w = load-fits c.args.l.now c.loop-kind.at c.in-Some.kind (sym c.loading_at.ensures ∙ c.in-Some.is) in
    omega (arith, w.0, c.size-at-in-Some.ensures, c.well_formed.0.0)

pub loop-kind-smaller : goal.loop-kind-smaller
loop-kind-smaller c =
    let w = load-fits c.args.l.now c.loop-kind.at c.in-Some.kind (sym c.loading_at.ensures ∙ c.in-Some.is) in
    omega (arith, w.0, w.2, c.size-at-in-Some.ensures)

pub loop-kind-preserved : goal.loop-kind-preserved
loop-kind-preserved c =
    let m = sym c.loading_at.ensures ∙ c.in-Some.is in
    let w = load-fits c.args.l.now c.loop-kind.at c.in-Some.kind m in (
      omega (arith, w.1, c.pages_of-i.ensures, c.size-at-in-Some.ensures, c.loop-kind.invariant.0),
      c.load_record.auto.vcpus ∙ c.loop-kind.invariant.1,
      c.load_record.auto.pages ∙ c.loop-kind.invariant.2,
      λ s u e. rw (
        c.load_record.ensures.0,
        c.load_record.ensures.1,
        c.size-at-in-Some.ensures,
        c.pages_of-i.ensures,
      ) (load-more s c.args.l.now u _ _ _ _ _ _ (c.loop-kind.invariant.3 s u e) c.in-Some.kind m),
    )

pub returns : goal.returns
returns c = λ s u e. load-ended s c.args.l.now u _ _ _ _ _ _ (c.loop-kind.invariant.3 s u e) (sym c.loading_at.ensures ∙ c.in_default.is)
